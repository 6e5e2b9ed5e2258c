-- How many bytes are right as those of a frame, and how a frame is taken apart.
use Rattle.dnp_link_frame.proofs.BlockParts.{blocks_start, blocks_longest, length-in_blocks}
use Rattle.dnp_link_frame.proofs.BlockParts.{right_in_blocks-within, user_in_blocks-in_blocks}
use Rattle.dnp_link_frame.proofs.Parts.{Starts, part_data, length-part_data, part_data-bytes}
use Rattle.dnp_link_frame.proofs.Parts.{part_data-whole, part_starts, part_bounds, part_longest}
use Rattle.dnp_link_frame.specs.Beginnings.{right_in_start, right_in_part, right_in_blocks}
use Rattle.dnp_link_frame.specs.Beginnings.{right_in_frame, user_in_blocks, header_in, user_in}
use Rattle.dnp_link_frame.specs.Blocks.{length_byte, user_len_by, size_by}
use Rattle.dnp_link_frame.specs.Frame.{with_crc, blocks_for, in_blocks, header_fields, frame_of}
use Rattle.dnp_link_frame.specs.Frame.{IsHeader, IsFrameOf, IsDnpFrame, BeginsFrame}
use Rattle.dnp_link_frame.specs.{Frame.IsLongestBeginning, declared.header.Header.Header}
use Rattle.line_rules.specs.Bytes.{AreBytes, low_first}
use Rattle.std.proofs.Common.{◌≡◌, ℕ, ◌+◌, ◌-◌, ◌*◌, ◌/◌, ◌%◌, ◌<◌, ◌≤◌, ◌==◌, nat_le, nat_lt, ◌&&◌}
use Rattle.std.proofs.Common.{Bool, true, false, List, [], ◌∷◌, ◌++◌, length, take, drop, get_or}
use Rattle.std.proofs.Common.{min, refl, arith, sym, ◌∙◌, ap, subst, ⊎_elim, length-append}
use Rattle.std.proofs.Common.{append_assoc, append-nil, replicate}
use Rattle.std.proofs.lemmas.Bool.{cases_lt, cases_eq, cond-true, cond-false, eq-eqb, ne_eqb}
use Rattle.std.proofs.lemmas.Bool.{le-leb, lt-leb, lt-ltb, le-ltb, and_from, and_parts, eqb-true}
use Rattle.std.proofs.lemmas.{Bool.false≢true, List.take_all, List.take_more, List.drop_more}
use Rattle.std.proofs.lemmas.List.{take_at, drop_at, length-take, length-drop, length-replicate}
use Rattle.std.proofs.lemmas.List.{nil_from_length, take-append-le, drop-append-le}
use Rattle.std.proofs.lemmas.List.{take-append-drop, length-take-le, drop-take, take-take}
use Rattle.std.proofs.lemmas.List.{get_or_append_left, get_or-take, get_or_past, drop_all}
use Rattle.std.proofs.lemmas.List.Elements.{All-drop, All-replicate, All-nil, All-get_or}

-- ---- eight bytes as the fields of a header

eight : (x : List ℕ) → length x ≡ 8
    → x ≡ get_or x 0 0 ∷ get_or x 1 0 ∷ get_or x 2 0 ∷ get_or x 3 0 ∷ get_or x 4 0 ∷ get_or x 5 0
    ∷ get_or x 6 0 ∷ get_or x 7 0 ∷ []
eight x len =
    drop_more x 0 0 (omega arith)
    ∙ ap (λ y. get_or x 0 0 ∷ y) (drop_more x 1 0 (omega arith)
    ∙ ap (λ y. get_or x 1 0 ∷ y) (drop_more x 2 0 (omega arith)
    ∙ ap (λ y. get_or x 2 0 ∷ y) (drop_more x 3 0 (omega arith)
    ∙ ap (λ y. get_or x 3 0 ∷ y) (drop_more x 4 0 (omega arith)
    ∙ ap (λ y. get_or x 4 0 ∷ y) (drop_more x 5 0 (omega arith)
    ∙ ap (λ y. get_or x 5 0 ∷ y) (drop_more x 6 0 (omega arith)
    ∙ ap (λ y. get_or x 6 0 ∷ y) (drop_more x 7 0 (omega arith)
    ∙ ap (λ y. get_or x 7 0 ∷ y) (drop_all 8 x (omega arith)))))))))

low_first-number : (a b : ℕ) → a < 256 → low_first (a + 256 * b) ≡ a ∷ b ∷ []
low_first-number a b byte =
    let low : (a + 256 * b) % 256 ≡ a = omega arith in
    let high : (a + 256 * b) / 256 ≡ b = omega arith in
    ap (λ n. n ∷ (a + 256 * b) / 256 ∷ []) low ∙ ap (λ n. a ∷ n ∷ []) high

pub fields_are : (x : List ℕ) (user_len : ℕ) → length x ≡ 8 → AreBytes x → get_or x 0 0 ≡ 0x05
    → get_or x 1 0 ≡ 0x64 → get_or x 2 0 ≡ user_len + 5
    → x ≡ header_fields (header_in x) user_len
fields_are x user_len len bytes first second third =
    let byte = λ (i : ℕ) (within : i < 8).
    All-get_or (λ b. b < 256) x i 0 (omega arith) bytes in
    let d = low_first-number (get_or x 4 0) (get_or x 5 0) (byte 4 (omega arith)) in
    let s = low_first-number (get_or x 6 0) (get_or x 7 0) (byte 6 (omega arith)) in
    eight x len
    ∙ (ap (λ b. b ∷ get_or x 1 0 ∷ get_or x 2 0 ∷ get_or x 3 0 ∷ get_or x 4 0 ∷ get_or x 5 0
    ∷ get_or x 6 0 ∷ get_or x 7 0 ∷ []) first
    ∙ (ap (λ b. 0x05 ∷ b ∷ get_or x 2 0 ∷ get_or x 3 0 ∷ get_or x 4 0 ∷ get_or x 5 0
    ∷ get_or x 6 0 ∷ get_or x 7 0 ∷ []) second
    ∙ (ap (λ b. 0x05 ∷ 0x64 ∷ b ∷ get_or x 3 0 ∷ get_or x 4 0 ∷ get_or x 5 0
    ∷ get_or x 6 0 ∷ get_or x 7 0 ∷ []) third
    ∙ (ap (λ y. (0x05 ∷ 0x64 ∷ (user_len + 5) ∷ get_or x 3 0 ∷ y)
    ++ (get_or x 6 0 ∷ get_or x 7 0 ∷ [])) (sym d)
    ∙ ap (λ y. (0x05 ∷ 0x64 ∷ (user_len + 5) ∷ get_or x 3 0
    ∷ low_first (get_or x 4 0 + 256 * get_or x 5 0)) ++ y) (sym s)))))

pub header_in-fits : (x : List ℕ) → 8 ≤ length x → AreBytes x → IsHeader (header_in x)
header_in-fits x long bytes =
    let byte = λ (i : ℕ) (within : i < 8).
    All-get_or (λ b. b < 256) x i 0 (omega arith) bytes in
    let control = byte 3 (omega arith) in
    let a = byte 4 (omega arith) in
    let b = byte 5 (omega arith) in
    let c = byte 6 (omega arith) in
    let d = byte 7 (omega arith) in
    record {
      control_fits = omega arith;
      destination_fits = omega arith;
      source_fits = omega arith;
    }

-- ---- the first three bytes

pub data Start (x : List ℕ) : Type 0 where
  none : right_in_start x ≡ 0 → (get_or x 0 0 ≡ 0x05 → ⊥) → Start x
  one : right_in_start x ≡ 1 → get_or x 0 0 ≡ 0x05 → (get_or x 1 0 ≡ 0x64 → ⊥) → Start x
  two : right_in_start x ≡ 2 → get_or x 0 0 ≡ 0x05 → get_or x 1 0 ≡ 0x64 → length_byte x < 5
      → Start x
  three : right_in_start x ≡ 3 → get_or x 0 0 ≡ 0x05 → get_or x 1 0 ≡ 0x64 → 5 ≤ length_byte x
      → Start x

pub start_of : (x : List ℕ) → Start x
unfolding right_in_start
start_of x =
    ⊎_elim
    (λ first. ⊎_elim
    (λ second. ⊎_elim
    (λ wrong. two (cond-true (get_or x 0 0 == 0x05) _ _ (eq-eqb _ _ first)
    ∙ (cond-true (get_or x 1 0 == 0x64) _ _ (eq-eqb _ _ second)
    ∙ cond-false (nat_le 5 (length_byte x)) _ _ (lt-leb 5 (length_byte x) wrong))) first second
    wrong)
    (λ third. three (cond-true (get_or x 0 0 == 0x05) _ _ (eq-eqb _ _ first)
    ∙ (cond-true (get_or x 1 0 == 0x64) _ _ (eq-eqb _ _ second)
    ∙ cond-true (nat_le 5 (length_byte x)) _ _ (le-leb 5 (length_byte x) third))) first second
    third)
    (cases_lt (length_byte x) 5))
    (λ other. one (cond-true (get_or x 0 0 == 0x05) _ _ (eq-eqb _ _ first)
    ∙ cond-false (get_or x 1 0 == 0x64) _ _ (ne_eqb _ _ other)) first other)
    (cases_eq (get_or x 1 0) 0x64))
    (λ other. none (cond-false (get_or x 0 0 == 0x05) _ _ (ne_eqb _ _ other)) other)
    (cases_eq (get_or x 0 0) 0x05)

-- A place that holds a byte other than 0 is within the list.
there : (x : List ℕ) (i b : ℕ) → get_or x i 0 ≡ b → 0 < b → i < length x
there x i b is some =
    ⊎_elim
    (λ within. within)
    (λ past. let e = get_or_past x i 0 past in absurd (omega arith))
    (cases_lt i (length x))

-- ---- the walk

pub right_in_frame-start : (x : List ℕ) → right_in_start x < 3 → right_in_frame x ≡ right_in_start x
unfolding right_in_frame
right_in_frame-start x early =
    cond-true (nat_lt (right_in_start x) 3) _ _ (lt-ltb (right_in_start x) 3 early)

pub right_in_frame-header : (x : List ℕ) → right_in_start x ≡ 3 → (right_in_part 8 x ≡ 10 → ⊥)
    → right_in_frame x ≡ right_in_part 8 x
unfolding right_in_frame
right_in_frame-header x start short =
    cond-false (nat_lt (right_in_start x) 3) _ _ (le-ltb (right_in_start x) 3 (omega arith))
    ∙ cond-false (right_in_part 8 x == 10) _ _ (ne_eqb _ _ short)

abbrev pub right_behind : List ℕ → ℕ
right_behind x = right_in_blocks (blocks_for (user_len_by (length_byte x)))
    (user_len_by (length_byte x)) (drop 10 x)

pub right_in_frame-blocks : (x : List ℕ) → right_in_start x ≡ 3 → right_in_part 8 x ≡ 10
    → right_in_frame x ≡ 10 + right_behind x
unfolding right_in_frame
right_in_frame-blocks x start whole =
    cond-false (nat_lt (right_in_start x) 3) _ _ (le-ltb (right_in_start x) 3 (omega arith))
    ∙ cond-true (right_in_part 8 x == 10) _ _ (eq-eqb _ _ whole)

-- There are no more right bytes than bytes.
pub right_in_frame-within : (x : List ℕ) → right_in_frame x ≤ length x
right_in_frame-within x =
    let bounds = part_bounds 8 x in
    let within = bounds.within in
    elim (start_of x) [
      | none is first ↦ let e = right_in_frame-start x (omega arith) in omega arith
      | one is first second ↦
          let e = right_in_frame-start x (omega arith) in
          let one_there = there x 0 0x05 first (omega arith) in
          omega arith
      | two is first second third ↦
          let e = right_in_frame-start x (omega arith) in
          let two_there = there x 1 0x64 second (omega arith) in
          omega arith
      | three is first second third ↦ ⊎_elim
          (λ whole.
          let e = right_in_frame-blocks x is whole in
          let rest = right_in_blocks-within (blocks_for (user_len_by (length_byte x)))
          (user_len_by (length_byte x)) (drop 10 x) in
          omega (arith, length-drop 10 x))
          (λ short. let e = right_in_frame-header x is short in omega arith)
          (cases_eq (right_in_part 8 x) 10)
    ]

-- ---- what is right begins a frame

begins_from : (header : Header) (user x : List ℕ) → IsHeader header → AreBytes user
    → length user ≤ 250 → Starts x (frame_of header user) → BeginsFrame x
begins_from header user x fits bytes short starts = record {
  rest = starts.rest;
  whole = record {
    header = header;
    user = user;
    of = record {
      header_fits = fits;
      user_bytes = bytes;
      user_fits = short;
      is = sym starts.is;
    };
  };
}

-- some header, for beginnings that don't depend on its fields
abbrev any_header : Header
any_header = record { control = 0; destination = 0; source = 0 }

begins_any : (x : List ℕ) → Starts x (frame_of any_header []) → BeginsFrame x
begins_any x starts =
    begins_from any_header [] x
    (record {
      control_fits = omega arith;
      destination_fits = omega arith;
      source_fits = omega arith;
    })
    (All-nil (λ b. b < 256)) (omega arith) starts

begins-none : (x : List ℕ) → right_in_frame x ≡ 0 → BeginsFrame (take (right_in_frame x) x)
begins-none x is = begins_any (take (right_in_frame x) x) (record {
  rest = frame_of any_header [];
  is = ap (λ n. take n x ++ frame_of any_header []) (sym is);
})

begins-one : (x : List ℕ) → right_in_frame x ≡ 1 → get_or x 0 0 ≡ 0x05
    → BeginsFrame (take (right_in_frame x) x)
begins-one x is first =
    let front : take (right_in_frame x) x ≡ 0x05 ∷ [] =
    ap (λ n. take n x) is ∙ (take_more x 0 0 (there x 0 0x05 first (omega arith))
    ∙ ap (λ b. b ∷ []) first) in
    begins_any (take (right_in_frame x) x) (record {
      rest = drop 1 (frame_of any_header []);
      is = ap (λ y. y ++ drop 1 (frame_of any_header [])) (sym front);
    })

begins-two : (x : List ℕ) → right_in_frame x ≡ 2 → get_or x 0 0 ≡ 0x05 → get_or x 1 0 ≡ 0x64
    → BeginsFrame (take (right_in_frame x) x)
begins-two x is first second =
    let front : take (right_in_frame x) x ≡ 0x05 ∷ 0x64 ∷ [] =
    ap (λ n. take n x) is ∙ (take_more x 1 0 (there x 1 0x64 second (omega arith))
    ∙ (ap (λ y. y ++ get_or x 1 0 ∷ []) (take_more x 0 0 (there x 0 0x05 first (omega arith)))
    ∙ (ap (λ b. b ∷ get_or x 1 0 ∷ []) first ∙ ap (λ b. 0x05 ∷ b ∷ []) second))) in
    begins_any (take (right_in_frame x) x) (record {
      rest = drop 2 (frame_of any_header []);
      is = ap (λ y. y ++ drop 2 (frame_of any_header [])) (sym front);
    })

-- The first eight bytes of a header that begins right are its fields, with zeros in place of bytes
-- that haven't come.
data_fields : (x : List ℕ) → AreBytes x → get_or x 0 0 ≡ 0x05 → get_or x 1 0 ≡ 0x64
    → 5 ≤ length_byte x
    → part_data 8 x ≡ header_fields (header_in (part_data 8 x)) (user_len_by (length_byte x))
data_fields x bytes first second third =
    let long : 2 < length x = there x 2 (length_byte x) refl (omega arith) in
    let front : length (take 8 x) ≡ min 8 (length x) = length-take 8 x in
    let at = λ (i : ℕ) (early : i < 3).
    get_or_append_left (take 8 x) (replicate (8 - length x) 0) 0 i (omega arith)
    ∙ get_or-take 8 x i 0 (omega arith) in
    fields_are (part_data 8 x) (user_len_by (length_byte x)) (length-part_data 8 x)
    (part_data-bytes 8 x bytes)
    (at 0 (omega arith) ∙ first) (at 1 (omega arith) ∙ second)
    (at 2 (omega arith)
    ∙ (let e : length_byte x ≡ user_len_by (length_byte x) + 5 = omega arith in e))

-- LEN counts up to 250 bytes of user data
pub user_fits : (x : List ℕ) → AreBytes x → user_len_by (length_byte x) ≤ 250
user_fits x bytes =
    ⊎_elim
    (λ long. let byte = All-get_or (λ b. b < 256) x 2 0 long bytes in omega arith)
    (λ short. let e = get_or_past x 2 0 short in omega arith)
    (cases_lt 2 (length x))

-- A header that isn't whole begins a frame, with any user data of the length that it says.
begins-with : (x user : List ℕ) → AreBytes x → get_or x 0 0 ≡ 0x05 → get_or x 1 0 ≡ 0x64
    → 5 ≤ length_byte x → right_in_frame x ≡ right_in_part 8 x → AreBytes user
    → length user ≡ user_len_by (length_byte x) → BeginsFrame (take (right_in_frame x) x)
begins-with x user bytes first second third is user_bytes len =
    let part = part_starts 8 x in
    let fields : header_fields (header_in (part_data 8 x)) (length user) ≡ part_data 8 x =
    ap (header_fields (header_in (part_data 8 x))) len
    ∙ sym (data_fields x bytes first second third) in
    let fit = user_fits x bytes in
    begins_from (header_in (part_data 8 x)) user (take (right_in_frame x) x)
    (header_in-fits (part_data 8 x) (omega (arith, length-part_data 8 x))
    (part_data-bytes 8 x bytes))
    user_bytes (omega arith)
    (record {
      rest = part.rest ++ in_blocks (blocks_for (length user)) user;
      is = ap (λ y. with_crc y ++ in_blocks (blocks_for (length user)) user) fields
          ∙ (ap (λ y. y ++ in_blocks (blocks_for (length user)) user) part.is
          ∙ (append_assoc (take (right_in_part 8 x) x) part.rest
          (in_blocks (blocks_for (length user)) user)
          ∙ ap (λ k. take k x ++ (part.rest ++ in_blocks (blocks_for (length user)) user))
          (sym is)));
    })

begins-header : (x : List ℕ) → AreBytes x → get_or x 0 0 ≡ 0x05 → get_or x 1 0 ≡ 0x64
    → 5 ≤ length_byte x → right_in_frame x ≡ right_in_part 8 x
    → BeginsFrame (take (right_in_frame x) x)
begins-header x bytes first second third is =
    begins-with x (replicate (user_len_by (length_byte x)) 0) bytes first second third is
    (All-replicate (λ b. b < 256) (user_len_by (length_byte x)) 0 (omega arith))
    (length-replicate (user_len_by (length_byte x)) 0)

begins-blocks : (x : List ℕ) → AreBytes x → get_or x 0 0 ≡ 0x05 → get_or x 1 0 ≡ 0x64
    → 5 ≤ length_byte x → right_in_part 8 x ≡ 10 → right_in_frame x ≡ 10 + right_behind x
    → BeginsFrame (take (right_in_frame x) x)
begins-blocks x bytes first second third whole is =
    let bounds = part_bounds 8 x in
    let long : 10 ≤ length x = let w = bounds.within in omega arith in
    let user = blocks_start (blocks_for (user_len_by (length_byte x)))
    (user_len_by (length_byte x)) (drop 10 x) refl (All-drop (λ b. b < 256) 10 x bytes) in
    let all : part_data 8 x ≡ take 8 x = part_data-whole 8 x (omega arith) in
    let fields : header_fields (header_in (part_data 8 x)) (length user.user) ≡ take 8 x =
    ap (header_fields (header_in (part_data 8 x))) user.len
    ∙ (sym (data_fields x bytes first second third) ∙ all) in
    let fit = user_fits x bytes in
    let len = user.len in
    begins_from (header_in (part_data 8 x)) user.user (take (right_in_frame x) x)
    (header_in-fits (part_data 8 x) (omega (arith, length-part_data 8 x))
    (part_data-bytes 8 x bytes))
    user.bytes (omega arith)
    (record {
      rest = user.starts.rest;
      is = ap (λ y. with_crc y ++ in_blocks (blocks_for (length user.user)) user.user) fields
          ∙ (ap (λ k. with_crc (take 8 x) ++ in_blocks (blocks_for k) user.user) len
          ∙ (ap (λ y. y ++ in_blocks (blocks_for (user_len_by (length_byte x))) user.user)
          (sym (bounds.whole whole))
          ∙ (ap (λ y. take 10 x ++ y) user.starts.is
          ∙ (sym (append_assoc (take 10 x) (take (right_behind x) (drop 10 x)) user.starts.rest)
          ∙ ap (λ y. y ++ user.starts.rest)
          (ap (λ y. take 10 x ++ y) (sym (drop-take 10 (right_behind x) x))
          ∙ (ap (λ y. y ++ drop 10 (take (10 + right_behind x) x))
          (sym (take-take 10 (10 + right_behind x) x (omega arith)))
          ∙ (take-append-drop 10 (take (10 + right_behind x) x)
          ∙ ap (λ k. take k x) (sym is))))))));
    })

pub right_in_frame-begins : (x : List ℕ) → AreBytes x → BeginsFrame (take (right_in_frame x) x)
right_in_frame-begins x bytes =
    elim (start_of x) [
      | none is first ↦ begins-none x (right_in_frame-start x (omega arith) ∙ is)
      | one is first second ↦ begins-one x (right_in_frame-start x (omega arith) ∙ is) first
      | two is first second third ↦
          begins-two x (right_in_frame-start x (omega arith) ∙ is) first second
      | three is first second third ↦ ⊎_elim
          (λ whole. begins-blocks x bytes first second third whole
          (right_in_frame-blocks x is whole))
          (λ short. begins-header x bytes first second third (right_in_frame-header x is short))
          (cases_eq (right_in_part 8 x) 10)
    ]

-- ---- no longer beginning begins a frame

longest-header : (x : List ℕ) (m : ℕ) (header : Header) (user rest : List ℕ) → m ≤ length x
    → take m x ++ rest ≡ frame_of header user → right_in_start x ≡ 3 → m ≤ 10
    → m ≤ right_in_frame x
longest-header x m header user rest within is start inside =
    let part : with_crc (header_fields header (length user))
    ≡ take m x ++ drop m (with_crc (header_fields header (length user))) =
    sym (take-append-drop m (with_crc (header_fields header (length user))))
    ∙ ap (λ y. y ++ drop m (with_crc (header_fields header (length user))))
    (sym (take-append-le m (with_crc (header_fields header (length user)))
    (in_blocks (blocks_for (length user)) user) inside)
    ∙ (ap (take m) (sym is) ∙ take_at (take m x) rest m (length-take-le m x within))) in
    let most = part_longest 8 m x (header_fields header (length user)) _ part within refl in
    ⊎_elim
    (λ whole. let e = right_in_frame-blocks x start whole in omega arith)
    (λ short. let e = right_in_frame-header x start short in omega arith)
    (cases_eq (right_in_part 8 x) 10)

longest-blocks : (x : List ℕ) (m : ℕ) (header : Header) (user rest : List ℕ) → m ≤ length x
    → take m x ++ rest ≡ frame_of header user → right_in_start x ≡ 3
    → user_len_by (length_byte x) ≡ length user → 10 < m → m ≤ right_in_frame x
longest-blocks x m header user rest within is start len beyond =
    let taken : length (take m x) ≡ m = length-take-le m x within in
    let part : with_crc (header_fields header (length user)) ≡ take 10 x ++ [] =
    sym (take_at (with_crc (header_fields header (length user)))
    (in_blocks (blocks_for (length user)) user) 10 refl)
    ∙ (ap (take 10) (sym is)
    ∙ (take-append-le 10 (take m x) rest (omega arith)
    ∙ (take-take 10 m x (omega arith) ∙ sym (append-nil (take 10 x))))) in
    let most = part_longest 8 10 x (header_fields header (length user)) [] part (omega arith) refl
    in
    let at_most = (part_bounds 8 x).at_most in
    let whole : right_in_part 8 x ≡ 10 = omega arith in
    let sum : 10 + (m - 10) ≡ m = omega arith in
    let behind : in_blocks (blocks_for (length user)) user ≡ take (m - 10) (drop 10 x) ++ rest =
    sym (drop_at (with_crc (header_fields header (length user)))
    (in_blocks (blocks_for (length user)) user) 10 refl)
    ∙ (ap (drop 10) (sym is)
    ∙ (drop-append-le 10 (take m x) rest (omega arith)
    ∙ ap (λ y. y ++ rest)
    (ap (λ k. drop 10 (take k x)) (sym sum) ∙ drop-take 10 (m - 10) x))) in
    let blocks = blocks_longest (blocks_for (length user)) (length user) (drop 10 x) user rest
    (m - 10) refl refl (omega (arith, length-drop 10 x)) behind in
    let same : right_behind x
    ≡ right_in_blocks (blocks_for (length user)) (length user) (drop 10 x) =
    ap (λ k. right_in_blocks (blocks_for k) k (drop 10 x)) len in
    let e = right_in_frame-blocks x start whole in
    omega arith

pub right_in_frame-longest : (x : List ℕ) (m : ℕ) → m ≤ length x → BeginsFrame (take m x)
    → m ≤ right_in_frame x
right_in_frame-longest x m within begins =
    let taken : length (take m x) ≡ m = length-take-le m x within in
    let header = begins.whole.header in
    let user = begins.whole.user in
    let of = begins.whole.of in
    let is : take m x ++ begins.rest ≡ frame_of begins.whole.header begins.whole.user =
    begins.whole.of.is in
    let at = λ (i : ℕ) (before : i < m).
    sym (get_or-take m x i 0 before)
    ∙ (sym (get_or_append_left (take m x) begins.rest 0 i (omega arith))
    ∙ ap (λ y. get_or y i 0) is) in
    let fields : List ℕ = header_fields begins.whole.header (length begins.whole.user) in
    let part_len : length (with_crc fields) ≡ 10 = refl in
    elim (start_of x) [
      | none start first ↦ ⊎_elim
          (λ some. absurd (first (at 0 some)))
          (λ no_byte. omega arith)
          (cases_lt 0 m)
      | one start first second ↦ ⊎_elim
          (λ some. absurd (second (at 1 some)))
          (λ few. let e = right_in_frame-start x (omega arith) in omega arith)
          (cases_lt 1 m)
      | two start first second third ↦ ⊎_elim
          (λ some. let len : length_byte x ≡ length begins.whole.user + 5 = at 2 some in
          absurd (omega arith))
          (λ few. let e = right_in_frame-start x (omega arith) in omega arith)
          (cases_lt 2 m)
      | three start first second third ↦ ⊎_elim
          (λ blocks. longest-blocks x m begins.whole.header begins.whole.user begins.rest within is
          start
          (let len : length_byte x ≡ length begins.whole.user + 5 = at 2 (omega arith) in
          omega arith)
          blocks)
          (λ header. longest-header x m begins.whole.header begins.whole.user begins.rest within is
          start
          header)
          (cases_lt 10 m)
    ]

-- ---- a frame taken apart

-- A frame has as many bytes as its LEN says.
pub length-frame_of : (header : Header) (user : List ℕ)
    → length (frame_of header user) ≡ size_by (length_byte (frame_of header user))
length-frame_of header user =
    let blocks = length-in_blocks (blocks_for (length user)) user refl in
    let len : length_byte (frame_of header user) ≡ length user + 5 = refl in
    omega (
      arith,
      length-append (with_crc (header_fields header (length user)))
          (in_blocks (blocks_for (length user)) user),
    )

pub user_in-frame_of : (header : Header) (user : List ℕ) → user_in (frame_of header user) ≡ user
user_in-frame_of header user =
    let len : user_len_by (length_byte (frame_of header user)) ≡ length user = omega arith in
    ap (λ k. user_in_blocks (blocks_for k) (drop 10 (frame_of header user))) len
    ∙ (ap (user_in_blocks (blocks_for (length user)))
    (drop_at (with_crc (header_fields header (length user)))
    (in_blocks (blocks_for (length user)) user) 10 refl)
    ∙ user_in_blocks-in_blocks (blocks_for (length user)) user refl)

pub header_in-frame_of : (header : Header) (user : List ℕ) → IsHeader header
    → header_in (frame_of header user) ≡ header
header_in-frame_of header user fits =
    let d : header.destination % 256 + 256 * (header.destination / 256) ≡ header.destination =
    omega arith in
    let s : header.source % 256 + 256 * (header.source / 256) ≡ header.source = omega arith in
    ap (λ n. record {
      control = header.control;
      destination = n;
      source = header.source % 256 + 256 * (header.source / 256);
    }) d
    ∙ ap (λ n. record { control = header.control; destination = header.destination; source = n }) s

-- Bytes that are right to their end, and lack none, are the frame of the header and the user data
-- in them.
pub frame_from : (x : List ℕ) → AreBytes x → right_in_frame x ≡ length x
    → length x ≡ size_by (length_byte x) → IsFrameOf (header_in x) (user_in x) x
frame_from x bytes all size =
    let whole : take (right_in_frame x) x ≡ x = take_all (right_in_frame x) x (omega arith) in
    let begins = right_in_frame-begins x bytes in
    let header = begins.whole.header in
    let user = begins.whole.user in
    let of = begins.whole.of in
    let is : x ++ begins.rest ≡ frame_of begins.whole.header begins.whole.user =
    ap (λ y. y ++ begins.rest) (sym whole) ∙ begins.whole.of.is in
    let long : 2 < length x = omega arith in
    let len : length_byte (x ++ begins.rest) ≡ length_byte x =
    get_or_append_left x begins.rest 0 2 long in
    let sizes : length (x ++ begins.rest) ≡ size_by (length_byte x) =
    ap length is ∙ (length-frame_of begins.whole.header begins.whole.user
    ∙ ap size_by (ap length_byte (sym is) ∙ len)) in
    let none : begins.rest ≡ [] =
    nil_from_length begins.rest (omega (arith, length-append x begins.rest)) in
    let same : x ≡ frame_of begins.whole.header begins.whole.user =
    sym (append-nil x) ∙ (ap (λ y. x ++ y) (sym none) ∙ is) in
    let header_is : header_in x ≡ begins.whole.header =
    ap header_in same
    ∙ header_in-frame_of begins.whole.header begins.whole.user begins.whole.of.header_fits in
    let user_is : user_in x ≡ begins.whole.user =
    ap user_in same ∙ user_in-frame_of begins.whole.header begins.whole.user in
    let P : Header → Type 0 = λ h. IsFrameOf h (user_in x) x in
    let Q : List ℕ → Type 0 = λ u. IsFrameOf begins.whole.header u x in
    subst P (sym header_is) (subst Q (sym user_is) (record {
      header_fits = begins.whole.of.header_fits;
      user_bytes = begins.whole.of.user_bytes;
      user_fits = begins.whole.of.user_fits;
      is = same;
    }))

-- A frame is right to its end, and lacks no byte.
pub frame_is_right : (x : List ℕ) → IsDnpFrame x
    → (right_in_frame x ≡ length x) × (length x ≡ size_by (length_byte x))
frame_is_right x framed =
    let all : take (length x) x ≡ x = take_all (length x) x (omega arith) in
    let P : List ℕ → Type 0 = IsDnpFrame in
    let most = right_in_frame-longest x (length x) (omega arith) (record {
      rest = [];
      whole = subst P (sym (append-nil (take (length x) x) ∙ all)) framed;
    }) in
    let within = right_in_frame-within x in
    let is = framed.of.is in (
      omega arith,
      ap length is ∙ (length-frame_of framed.header framed.user
          ∙ ap (λ y. size_by (length_byte y)) (sym is)),
    )

-- ---- the place of a refusal

pub right_is_longest : (x : List ℕ) → AreBytes x → IsLongestBeginning x (right_in_frame x)
right_is_longest x bytes = record {
  within = right_in_frame-within x;
  begins = right_in_frame-begins x bytes;
  longest = λ n beyond within begins.
      let most = right_in_frame-longest x n within begins in
      absurd (omega arith);
}

-- ---- what the code asks

right_in_start-most : (x : List ℕ) → right_in_start x ≤ 3
right_in_start-most x =
    elim (start_of x) [
      | none is first ↦ omega arith
      | one is first second ↦ omega arith
      | two is first second third ↦ omega arith
      | three is first second third ↦ omega arith
    ]

pub right_in_start-within : (x : List ℕ) → right_in_start x < 3 → right_in_start x ≤ length x
right_in_start-within x early =
    let e = right_in_frame-start x early in
    let within = right_in_frame-within x in
    omega arith

pub header_refused : (x : List ℕ) (right : ℕ) → 3 ≤ right_in_start x → right ≡ right_in_part 8 x
    → (right ≡ 10 → ⊥) → right ≡ right_in_frame x
header_refused x right start is short =
    let most = right_in_start-most x in
    is ∙ sym (right_in_frame-header x (omega arith) (λ whole. short (is ∙ whole)))

pub blocks_judged : (x : List ℕ) (n right : ℕ) → 3 ≤ right_in_start x → right_in_part 8 x ≡ 10
    → n ≡ user_len_by (length_byte x)
    → right ≡ right_in_blocks (blocks_for n) n (take (length x - 10) (drop 10 x))
    → 10 + right ≡ right_in_frame x
blocks_judged x n right start whole len is =
    let most = right_in_start-most x in
    let behind : right ≡ right_behind x =
    is
    ∙ (ap (right_in_blocks (blocks_for n) n) (take_all (length x - 10) (drop 10 x)
    (omega (arith, length-drop 10 x)))
    ∙ ap (λ k. right_in_blocks (blocks_for k) k (drop 10 x)) len) in
    ap (λ k. 10 + k) behind ∙ sym (right_in_frame-blocks x (omega arith) whole)

-- whether the bytes are a frame, if the first `right` of them are right
abbrev pub judged_whole : List ℕ → ℕ → Bool
judged_whole x right = right == length x && length x == size_by (length_byte x)

pub refused_is_no_frame : (x : List ℕ) (right : ℕ) (whole : Bool) → right ≡ right_in_frame x
    → whole ≡ judged_whole x right → whole ≡ false → IsDnpFrame x → ⊥
refused_is_no_frame x right whole is judged wrong framed =
    let both = frame_is_right x framed in
    false≢true (sym (sym judged ∙ wrong) ∙ and_from _ _ (eq-eqb right (length x) (is ∙ both.0))
    (eq-eqb (length x) (size_by (length_byte x)) both.1))

pub judged_frame : (x : List ℕ) (right : ℕ) (whole : Bool) (header : Header) (user : List ℕ)
    → AreBytes x → right ≡ right_in_frame x → whole ≡ judged_whole x right → whole ≡ true
    → header ≡ header_in x → user ≡ user_in x → IsFrameOf header user x
judged_frame x right whole header user bytes is judged passed header_is user_is =
    let both = and_parts (right == length x) (length x == size_by (length_byte x))
    (sym judged ∙ passed) in
    let framed = frame_from x bytes (sym is ∙ eqb-true right (length x) both.0)
    (eqb-true (length x) (size_by (length_byte x)) both.1) in
    let P : Header → Type 0 = λ h. IsFrameOf h user x in
    let Q : List ℕ → Type 0 = λ u. IsFrameOf (header_in x) u x in
    subst P (sym header_is) (subst Q (sym user_is) framed)

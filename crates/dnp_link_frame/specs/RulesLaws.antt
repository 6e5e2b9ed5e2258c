-- The laws of a line's rules, for the DNP3 link layer.
use Rattle.std.specs.Prelude.{◌≡◌, ℕ, ◌+◌, ◌-◌, ◌<◌, ◌≤◌, ◌==◌, ◌&&◌, nat_le, nat_lt}
use Rattle.std.specs.Prelude.{true, false, List, [], ◌∷◌, ◌++◌, length, take, drop}
use Rattle.std.specs.Prelude.{bit_xor, refl, if◌then◌else◌}
use Rattle.std.proofs.Common.{arith, ◌∙◌, sym, ap, ⊎_elim, length-append}
use Rattle.std.proofs.lemmas.List.{take-append-le, drop-append-le}
use Rattle.std.proofs.lemmas.List.Elements.{All-get_or}
use Rattle.std.proofs.lemmas.Bool.{and_parts, and_right, eqb-true, leb-true, cases_lt}
use Rattle.std.proofs.lemmas.Bool.{cases_Bool, cond-true, cond-false, le-ltb, lt-ltb}
use Rattle.std.proofs.lemmas.Bool.{false_from_ne_true, false≢true}
use Rattle.line_rules.specs.Bytes.{AreBytes}
use Rattle.line_rules.specs.Rules.{head_of, lacking_by, lacking_of}
use Rattle.line_rules.specs.RulesLaws.{IsLawful, IsHeaded, IsFramed, IsFilling, HasNumbers}
use Rattle.line_rules.specs.Spoiling.{IsSpoiling, spoiling_by_ending}
use Rattle.line_rules.specs.declared.head.Head.TheVariants.{Short, Good, Bad}
use Rattle.dnp_link_frame.specs.Crc.{crc_dnp}
use Rattle.line_rules.specs.Endings.{ends_in_check-turned}
use Rattle.dnp_link_frame.specs.Blocks.{length_byte, size_by, room_by, room_of, ends_in_crc}
use Rattle.dnp_link_frame.specs.Blocks.{is_good_header, block_start, running_block, is_frame}
use Rattle.dnp_link_frame.specs.Blocks.{has_right_ending}
use Rattle.dnp_link_frame.specs.BlockLaws.{room_by-right, room_by-least}
use Rattle.dnp_link_frame.specs.BlockLaws.{room_by-most, length_byte-append, length_byte-none}
use Rattle.dnp_link_frame.specs.BlockLaws.{length_byte-good, is_frame-true}
use Rattle.dnp_link_frame.specs.BlockLaws.{is_frame-ending, block_start-header, block_start-user}
use Rattle.dnp_link_frame.specs.Rules.{dnp_rules}

-- ---- room

-- a byte for which there is room doesn't take that room away, whatever its value
room_of-fits : (x : List ℕ) (b : ℕ) → length x < room_of x → length x < room_of (x ++ b ∷ [])
room_of-fits x b short =
    ⊎_elim
    (λ early. let least = room_by-least (length_byte (x ++ b ∷ [])) in omega arith)
    (λ there. let same = ap room_by (length_byte-append x (b ∷ []) there) in omega arith)
    (cases_lt (length x) 3)

room_of-stays : (x : List ℕ) (b : ℕ) → room_of x ≤ length x → room_of (x ++ b ∷ []) ≡ room_of x
room_of-stays x b full =
    let least = room_by-least (length_byte x) in
    ap room_by (length_byte-append x (b ∷ []) (omega arith))

room_of-bounded : (x : List ℕ) → AreBytes x → room_of x ≤ 292
room_of-bounded x bytes =
    ⊎_elim
    (λ early. let none = length_byte-none x (omega arith) in
    room_by-most (length_byte x) (omega arith))
    (λ there. room_by-most (length_byte x) (All-get_or (λ b. b < 256) x 2 0 there bytes))
    (cases_lt (length x) 3)

pub dnp_lawful : IsLawful dnp_rules
dnp_lawful = record {
  some_room = let least = room_by-least (length_byte []) in omega arith;
  fits = room_of-fits;
  stays = room_of-stays;
  bounded = room_of-bounded;
}

pub dnp_headed : IsHeaded dnp_rules
dnp_headed = record { short = omega arith; room_for_header = λ x. room_by-least (length_byte x) }

-- ---- headers

pub head_of-short : (x : List ℕ) → length x < 10 → head_of dnp_rules x ≡ Short
head_of-short x few = cond-true (nat_lt (length x) 10) _ _ (lt-ltb (length x) 10 few)

pub head_of-whole : (x : List ℕ) → 10 ≤ length x
    → head_of dnp_rules x ≡ (if is_good_header (take 10 x) then Good else Bad)
head_of-whole x whole = cond-false (nat_lt (length x) 10) _ _ (le-ltb (length x) 10 whole)

pub head_of-good : (x : List ℕ) → is_good_header (take 10 x) ≡ true → head_of dnp_rules x ≡ Good
head_of-good x good =
    head_of-whole x (length_byte-good x good).0
    ∙ cond-true (is_good_header (take 10 x)) _ _ good

pub head_of-bad : (x : List ℕ) → 10 ≤ length x → is_good_header (take 10 x) ≡ false
    → head_of dnp_rules x ≡ Bad
head_of-bad x whole bad =
    head_of-whole x whole ∙ cond-false (is_good_header (take 10 x)) _ _ bad

-- what a whole header says doesn't change when more bytes follow
pub head_of-append : (x more : List ℕ) → 10 ≤ length x
    → head_of dnp_rules (x ++ more) ≡ head_of dnp_rules x
head_of-append x more whole =
    head_of-whole (x ++ more) (omega (arith, length-append x more))
    ∙ (ap (λ y. if is_good_header y then Good else Bad) (take-append-le 10 x more whole)
    ∙ sym (head_of-whole x whole))

-- ---- frames

pub dnp_framed : IsFramed dnp_rules
dnp_framed = record {
  some_byte = λ frame framed.
      let header = length_byte-good frame (is_frame-true frame framed).header_is_good in
      omega (arith, header.0);
  good_header = λ frame framed. head_of-good frame (is_frame-true frame framed).header_is_good;
  whole = λ frame framed. sym (is_frame-true frame framed).size_is;
  has_room = λ frame framed.
      let parts = is_frame-true frame framed in
      let header = length_byte-good frame parts.header_is_good in
      let size = parts.size_is in
      let room = room_by-right (length_byte frame) header.1 in
      omega arith;
}

-- ---- what a frame still lacks

lacking_of-good : (x : List ℕ) → is_good_header (take 10 x) ≡ true
    → lacking_of dnp_rules x ≡ size_by (length_byte x) - length x
lacking_of-good x good = ap (λ h. lacking_by h (size_by (length_byte x) - length x)) (head_of-good x good)

lacking_of-short : (x : List ℕ) → length x < 10 → lacking_of dnp_rules x ≡ 0
lacking_of-short x few = ap (λ h. lacking_by h (size_by (length_byte x) - length x)) (head_of-short x few)

lacking_of-bad : (x : List ℕ) → 10 ≤ length x → is_good_header (take 10 x) ≡ false
    → lacking_of dnp_rules x ≡ 0
lacking_of-bad x whole bad =
    ap (λ h. lacking_by h (size_by (length_byte x) - length x)) (head_of-bad x whole bad)

lacking_of-fits : (x : List ℕ) → length x ≤ room_of x → length x + lacking_of dnp_rules x ≤ room_of x
lacking_of-fits x short =
    ⊎_elim
    (λ few. let none = lacking_of-short x few in omega arith)
    (λ whole. ⊎_elim
    (λ good.
    let room = room_by-right (length_byte x) (length_byte-good x good).1 in
    let left = lacking_of-good x good in
    omega arith)
    (λ bad. let none = lacking_of-bad x whole bad in omega arith)
    (cases_Bool (is_good_header (take 10 x))))
    (cases_lt (length x) 10)

lacking_of-append : (x more : List ℕ) → 10 ≤ length x
    → lacking_of dnp_rules (x ++ more) ≡ lacking_of dnp_rules x - length more
lacking_of-append x more whole =
    let front = take-append-le 10 x more whole in
    let longer : length (x ++ more) ≡ length x + length more = length-append x more in
    let size = ap size_by (length_byte-append x more (omega arith)) in
    ⊎_elim
    (λ good.
    let before = lacking_of-good x good in
    let after = lacking_of-good (x ++ more) (ap is_good_header front ∙ good) in
    omega arith)
    (λ bad.
    let before = lacking_of-bad x whole bad in
    let after = lacking_of-bad (x ++ more) (omega arith) (ap is_good_header front ∙ bad) in
    omega arith)
    (cases_Bool (is_good_header (take 10 x)))

pub dnp_filling : IsFilling dnp_rules
dnp_filling = record { has_room = lacking_of-fits; lessens = lacking_of-append }

-- ---- right endings

-- what `has_right_ending` asks for, part by part
pub record RightEnding (x : List ℕ) : Type 0 where
  pub len_is_right : 5 ≤ length_byte x
  pub size_is : length x ≡ size_by (length_byte x)
  pub block_ends : ends_in_crc (running_block x) ≡ true

pub has_right_ending-true : (x : List ℕ) → has_right_ending x ≡ true → RightEnding x
unfolding has_right_ending
has_right_ending-true x right =
    let both = and_parts _ _ right in
    let front = and_parts _ _ both.0 in
    record {
      len_is_right = leb-true _ _ front.0;
      size_is = eqb-true _ _ front.1;
      block_ends = both.1;
    }

has_right_ending-block : (x : List ℕ) → ends_in_crc (running_block x) ≡ false
    → has_right_ending x ≡ false
unfolding has_right_ending
has_right_ending-block x wrong =
    and_right (nat_le 5 (length_byte x) && length x == size_by (length_byte x))
    (ends_in_crc (running_block x)) wrong

pub block_start-within : (n : ℕ) → block_start (n + 1) ≤ n
block_start-within n =
    ⊎_elim
    (λ user. let at = block_start-user (n + 1) user in omega arith)
    (λ header. let at = block_start-header (n + 1) header in omega arith)
    (cases_lt 10 (n + 1))

-- the block of an appended byte: what was there of it before, and the byte
pub running_block-push : (h : List ℕ) (c : ℕ)
    → running_block (h ++ c ∷ []) ≡ drop (block_start (length h + 1)) h ++ c ∷ []
running_block-push h c =
    ap (λ n. drop (block_start n) (h ++ c ∷ [])) (length-append h (c ∷ []))
    ∙ drop-append-le (block_start (length h + 1)) h (c ∷ []) (block_start-within (length h))

has_right_dnp_ending-turned : (h : List ℕ) (c : ℕ) → has_right_ending (h ++ c ∷ []) ≡ true
    → has_right_ending (h ++ bit_xor c 1 ∷ []) ≡ false
has_right_dnp_ending-turned h c right =
    let block : List ℕ = drop (block_start (length h + 1)) h in
    has_right_ending-block (h ++ bit_xor c 1 ∷ [])
    (ap ends_in_crc (running_block-push h (bit_xor c 1))
    ∙ ends_in_check-turned crc_dnp (drop (block_start (length h + 1)) h) c
    (ap ends_in_crc (sym (running_block-push h c))
    ∙ (has_right_ending-true (h ++ c ∷ []) right).block_ends))

is_dnp_frame-wrong : (x : List ℕ) → has_right_ending x ≡ false → is_frame x ≡ false
is_dnp_frame-wrong x wrong =
    false_from_ne_true (is_frame x)
    (λ framed. false≢true (sym wrong ∙ is_frame-ending x framed))

pub dnp_spoiling : IsSpoiling dnp_rules
dnp_spoiling =
    spoiling_by_ending dnp_rules (λ h c. refl) is_dnp_frame-wrong has_right_dnp_ending-turned

pub dnp_numbers : HasNumbers dnp_rules 292 2
dnp_numbers = record { longest_is = refl; label_is = refl }

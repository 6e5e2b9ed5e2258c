-- What a value keeps of its bytes, and what one more byte does to it.
use Rattle.dnp_link_frame.proofs.HeaderLaws.{header_so_far-push, header_so_far-none}
use Rattle.dnp_link_frame.proofs.{HeaderLaws.header_so_far-whole, Residue.residue_decides}
use Rattle.dnp_link_frame.specs.BlockLaws.{length_byte-append, length_byte-none, end_in_crcs-none}
use Rattle.dnp_link_frame.specs.BlockLaws.{end_in_crcs-last, end_in_crcs-append, block_start-header}
use Rattle.dnp_link_frame.specs.BlockLaws.{block_start-user, blocks_for-last, running_block-header}
use Rattle.dnp_link_frame.specs.BlockLaws.{running_block-user, is_good_header-begins, room_by-wrong}
use Rattle.dnp_link_frame.specs.Blocks.{length_byte, user_len_by, size_by, room_by, ends_in_crc}
use Rattle.dnp_link_frame.specs.Blocks.{is_good_header, end_in_crcs, block_start, running_block}
use Rattle.dnp_link_frame.specs.{Blocks.is_frame, Blocks.has_right_ending, Crc.register_of}
use Rattle.dnp_link_frame.specs.Dnp.{DnpStandsFor, header_so_far, blocks_so_far, is_full_dnp}
use Rattle.dnp_link_frame.specs.{Frame.blocks_for, Rules.dnp_rules, RulesLaws.dnp_lawful}
use Rattle.dnp_link_frame.specs.RulesLaws.{running_block-push, head_of-short, head_of-whole}
use Rattle.dnp_link_frame.specs.Steps.{residue, begins_block, register_after, fits_header}
use Rattle.dnp_link_frame.specs.Steps.{left_in_block, blocks_after, len_byte_after, is_whole}
use Rattle.dnp_link_frame.specs.{Steps.ends_right, Steps.head_by, declared.dnp.Dnp.Dnp}
use Rattle.line_rules.proofs.{CrcLaws.crc-nil, CrcZero.crc-append}
use Rattle.line_rules.specs.{Bytes.AreBytes, Crc.byte_step, Rules.head_of}
use Rattle.line_rules.specs.declared.head.Head.TheVariants.{Good, Bad}
use Rattle.std.proofs.Common.{◌≡◌, ℕ, suc, ◌+◌, ◌-◌, ◌*◌, ◌/◌, ◌%◌, ◌<◌, ◌≤◌, nat_le, nat_lt, ◌&&◌}
use Rattle.std.proofs.Common.{◌==◌, Bool, true, false, List, [], ◌∷◌, ◌++◌, length, take, drop}
use Rattle.std.proofs.Common.{refl, arith, sym, ◌∙◌, ap, ⊎_elim, inl, inr, ◌⊎◌, lit<, lit≤}
use Rattle.std.proofs.lemmas.Bool.{cases_lt, cases_eq, cases_Bool, cond-true, cond-false, and_from}
use Rattle.std.proofs.lemmas.Bool.{and_left, and_right, lt-ltb, le-ltb, lt-leb, le-leb, eq-eqb}
use Rattle.std.proofs.lemmas.{Bool.ne_eqb, List.length_push, List.get_or_push}
use Rattle.std.proofs.lemmas.List.{take_all, drop_all, length-drop, take-append-le, drop-append-le}
use Rattle.std.proofs.lemmas.List.Elements.{All-nil, All-push, All-drop}
use Rattle.std.specs.Prelude.{if◌then◌else◌}

-- ---- a byte begins a block of user data, or goes on in the one before

record Begins (n : ℕ) : Type 0 where
  is : begins_block n ≡ true
  behind_header : 10 ≤ n
  place : block_start (n + 1) ≡ n

record GoesOn (n : ℕ) : Type 0 where
  is : begins_block n ≡ false
  place : block_start (n + 1) ≡ block_start n
  blocks : (n + 1 - 11) / 18 ≡ (n - 11) / 18

begins_from : (n : ℕ) → 10 ≤ n → (n - 10) % 18 ≡ 0 → Begins n
begins_from n behind whole = record {
  is = and_from _ _ (le-leb 10 n behind) (eq-eqb ((n - 10) % 18) 0 whole);
  behind_header = behind;
  place = let at = block_start-user (n + 1) (omega arith) in omega arith;
}

goes_on_in_header : (n : ℕ) → n < 10 → GoesOn n
goes_on_in_header n few = record {
  is = and_left (nat_le 10 n) ((n - 10) % 18 == 0) (lt-leb 10 n few);
  place = block_start-header (n + 1) (omega arith) ∙ sym (block_start-header n (omega arith));
  blocks = omega arith;
}

goes_on_in_user : (n : ℕ) → 10 ≤ n → ((n - 10) % 18 ≡ 0 → ⊥) → GoesOn n
goes_on_in_user n behind inside =
    let same : (n + 1 - 11) / 18 ≡ (n - 11) / 18 = omega arith in
    record {
      is = and_right (nat_le 10 n) ((n - 10) % 18 == 0) (ne_eqb ((n - 10) % 18) 0 inside);
      place = block_start-user (n + 1) (omega arith)
          ∙ (ap (λ k. 10 + 18 * k) same ∙ sym (block_start-user n (omega arith)));
      blocks = same;
    }

begins_or_goes_on : (n : ℕ) → Begins n ⊎ GoesOn n
begins_or_goes_on n =
    ⊎_elim
    (λ few. inr (goes_on_in_header n few))
    (λ behind. ⊎_elim
    (λ whole. inl (begins_from n behind whole))
    (λ inside. inr (goes_on_in_user n behind inside))
    (cases_eq ((n - 10) % 18) 0))
    (cases_lt n 10)

-- ---- the register

pub register_of-push : (x : List ℕ) (b : ℕ)
    → register_of (running_block (x ++ b ∷ []))
    ≡ register_after (length x) (register_of (running_block x)) b
register_of-push x b =
    let appended = λ (y : List ℕ). crc-append 0xA6BC (lit≤ tt) (lit< tt) 0 y b in
    ap register_of (running_block-push x b)
    ∙ ⊎_elim
    (λ (begins : Begins (length x)).
    ap (λ k. register_of (drop k x ++ b ∷ [])) begins.place
    ∙ (ap (λ y. register_of (y ++ b ∷ [])) (drop_all (length x) x (omega arith))
    ∙ (appended []
    ∙ (ap (λ r. byte_step 0xA6BC r b) (crc-nil 0xA6BC 0)
    ∙ sym (cond-true (begins_block (length x)) _ _ begins.is)))))
    (λ (goes_on : GoesOn (length x)).
    ap (λ k. register_of (drop k x ++ b ∷ [])) goes_on.place
    ∙ (appended (running_block x)
    ∙ sym (cond-false (begins_block (length x)) _ _ goes_on.is)))
    (begins_or_goes_on (length x))

-- ---- the blocks

-- When the next block begins, the one that has ended counts from now on.
blocks-ended : (x : List ℕ) (b : ℕ) → AreBytes x → 10 < length x → Begins (length x)
    → blocks_so_far (x ++ b ∷ []) ≡ (blocks_so_far x && register_of (running_block x) == residue)
blocks-ended x b bytes user begins =
    let behind = begins.behind_header in
    let place = begins.place in
    let start = block_start-user (length x + 1) (omega arith) in
    let longer = length_push x b in
    let k : ℕ = (length x - 11) / 18 in
    let one_more : (length (x ++ b ∷ []) - 11) / 18 ≡ suc ((length x - 11) / 18) = omega arith in
    let rest : 18 + 18 * ((length x - 11) / 18) ≡ length (drop 10 x) =
    omega (arith, length-drop 10 x) in
    let front : drop 10 (x ++ b ∷ []) ≡ drop 10 x ++ b ∷ [] =
    drop-append-le 10 x (b ∷ []) (omega arith) in
    let last : take 18 (drop (18 * ((length x - 11) / 18)) (drop 10 x ++ b ∷ []))
    ≡ running_block x =
    ap (take 18) (drop-append-le (18 * ((length x - 11) / 18)) (drop 10 x) (b ∷ []) (omega arith))
    ∙ (take-append-le 18 (drop (18 * ((length x - 11) / 18)) (drop 10 x)) (b ∷ [])
    (omega (arith, length-drop (18 * ((length x - 11) / 18)) (drop 10 x)))
    ∙ running_block-user x ((length x - 11) / 18) user refl) in
    ap (λ n. end_in_crcs n (drop 10 (x ++ b ∷ []))) one_more
    ∙ (ap (end_in_crcs (suc ((length x - 11) / 18))) front
    ∙ (end_in_crcs-last ((length x - 11) / 18) (drop 10 x ++ b ∷ [])
    ∙ (ap (λ t. t
    && ends_in_crc (take 18 (drop (18 * ((length x - 11) / 18)) (drop 10 x ++ b ∷ []))))
    (end_in_crcs-append ((length x - 11) / 18) (drop 10 x) (b ∷ []) (omega arith))
    ∙ ap (λ t. blocks_so_far x && t)
    (ap ends_in_crc last
    ∙ sym (residue_decides (running_block x)
    (All-drop (λ c. c < 256) (block_start (length x)) x bytes))))))

-- While a block goes on, nothing changes.
blocks-kept : (x : List ℕ) (b : ℕ) → 10 < length x → GoesOn (length x)
    → blocks_so_far (x ++ b ∷ []) ≡ blocks_so_far x
blocks-kept x b user goes_on =
    let longer = length_push x b in
    let same : (length (x ++ b ∷ []) - 11) / 18 ≡ (length x - 11) / 18 =
    ap (λ n. (n - 11) / 18) longer ∙ goes_on.blocks in
    ap (λ n. end_in_crcs n (drop 10 (x ++ b ∷ []))) same
    ∙ (ap (end_in_crcs ((length x - 11) / 18)) (drop-append-le 10 x (b ∷ []) (omega arith))
    ∙ end_in_crcs-append ((length x - 11) / 18) (drop 10 x) (b ∷ [])
    (omega (arith, length-drop 10 x)))

-- With a header and at most one more byte, no block is finished.
pub blocks-none : (x : List ℕ) → length x ≤ 11 → blocks_so_far x ≡ true
blocks-none x header =
    let none : (length x - 11) / 18 ≡ 0 = omega arith in
    ap (λ n. end_in_crcs n (drop 10 x)) none ∙ end_in_crcs-none (drop 10 x)

pub blocks_so_far-push : (x : List ℕ) (b : ℕ) → AreBytes x
    → blocks_so_far (x ++ b ∷ [])
    ≡ blocks_after (length x) (blocks_so_far x) (register_of (running_block x))
blocks_so_far-push x b bytes =
    ⊎_elim
    (λ user. ⊎_elim
    (λ (begins : Begins (length x)). blocks-ended x b bytes user begins
    ∙ sym (cond-true _ _ _ (and_from _ _ begins.is (lt-ltb 10 (length x) user))))
    (λ (goes_on : GoesOn (length x)). blocks-kept x b user goes_on
    ∙ sym (cond-false _ _ _ (and_left (begins_block (length x)) _ goes_on.is)))
    (begins_or_goes_on (length x)))
    (λ header. let longer = length_push x b in
    blocks-none (x ++ b ∷ []) (omega arith)
    ∙ (sym (blocks-none x (omega arith))
    ∙ sym (cond-false _ _ _ (and_right (begins_block (length x)) _ (le-ltb 10 (length x) header)))))
    (cases_lt 10 (length x))

-- ---- LEN

pub length_byte-push : (x : List ℕ) (b : ℕ)
    → length_byte (x ++ b ∷ []) ≡ len_byte_after (length x) (length_byte x) b
length_byte-push x b =
    ⊎_elim
    (λ early. let longer = length_push x b in
    length_byte-none (x ++ b ∷ []) (omega arith)
    ∙ (sym (length_byte-none x (omega arith))
    ∙ sym (cond-false (length x == 2) _ _ (ne_eqb (length x) 2 (λ two. omega arith)))))
    (λ there. ⊎_elim
    (λ two. get_or_push x b 0 2 two
    ∙ sym (cond-true (length x == 2) _ _ (eq-eqb (length x) 2 two)))
    (λ more. length_byte-append x (b ∷ []) (omega arith)
    ∙ sym (cond-false (length x == 2) _ _ (ne_eqb (length x) 2 more)))
    (cases_eq (length x) 2))
    (cases_lt (length x) 2)

-- ---- frames and right endings

-- The blocks so far and the register of the last one say whether all blocks of a frame end in their
-- CRC.
last_block : (x : List ℕ) → AreBytes x → length x ≡ size_by (length_byte x)
    → is_good_header (take 10 x) ≡ true
    → (blocks_so_far x && register_of (running_block x) == residue)
    ≡ end_in_crcs (blocks_for (user_len_by (length_byte x))) (drop 10 x)
last_block x bytes size good =
    let ends : (register_of (running_block x) == residue) ≡ ends_in_crc (running_block x) =
    residue_decides (running_block x) (All-drop (λ c. c < 256) (block_start (length x)) x bytes) in
    ⊎_elim
    (λ user.
    let k : blocks_for (user_len_by (length_byte x)) ≡ suc ((length x - 11) / 18) =
    blocks_for-last (length_byte x) (omega arith)
    ∙ ap (λ n. suc ((n - 11) / 18)) (sym size) in
    ap (λ t. blocks_so_far x && t)
    (ends ∙ ap ends_in_crc (sym (running_block-user x ((length x - 11) / 18) user refl)))
    ∙ (sym (end_in_crcs-last ((length x - 11) / 18) (drop 10 x))
    ∙ ap (λ n. end_in_crcs n (drop 10 x)) (sym k)))
    (λ header.
    let none : blocks_for (user_len_by (length_byte x)) ≡ 0 = omega arith in
    let right : ends_in_crc (running_block x) ≡ true =
    ap ends_in_crc (running_block-header x header ∙ sym (take_all 10 x header))
    ∙ (is_good_header-begins (take 10 x) good).2 in
    and_from _ _ (blocks-none x (omega arith)) (ends ∙ right)
    ∙ sym (ap (λ n. end_in_crcs n (drop 10 x)) none ∙ end_in_crcs-none (drop 10 x)))
    (cases_lt 10 (length x))

pub is_whole-is_frame : (x : List ℕ) → AreBytes x
    → is_whole (length x) (length_byte x) (header_so_far x) (blocks_so_far x)
    (register_of (running_block x))
    ≡ is_frame x
unfolding is_frame
is_whole-is_frame x bytes =
    let b : Bool = blocks_so_far x in
    let r : Bool = register_of (running_block x) == residue in
    let rest : Bool = end_in_crcs (blocks_for (user_len_by (length_byte x))) (drop 10 x) in
    ⊎_elim
    (λ size.
    let same : (length x == size_by (length_byte x)) ≡ true = eq-eqb _ _ size in
    let header : header_so_far x ≡ is_good_header (take 10 x) =
    header_so_far-whole x (omega arith) in
    ⊎_elim
    (λ good.
    ap (λ t. ((t && header_so_far x) && blocks_so_far x)
    && register_of (running_block x) == residue) same
    ∙ (ap (λ t. (t && blocks_so_far x) && register_of (running_block x) == residue)
    (header ∙ good)
    ∙ (last_block x bytes size good
    ∙ ap (λ t. t && end_in_crcs (blocks_for (user_len_by (length_byte x))) (drop 10 x))
    (sym (and_from _ _ good same)))))
    (λ bad.
    and_left _ _ (and_left _ _ (and_right _ _ (header ∙ bad)))
    ∙ sym (and_left _ _ (and_left _ _ bad)))
    (cases_Bool (is_good_header (take 10 x))))
    (λ other.
    let apart : (length x == size_by (length_byte x)) ≡ false = ne_eqb _ _ other in
    and_left _ _ (and_left _ _ (and_left _ _ apart))
    ∙ sym (and_left _ _ (and_right _ _ apart)))
    (cases_eq (length x) (size_by (length_byte x)))

-- ---- a value and its bytes

pub dnp_fresh : DnpStandsFor (record {
  len = 0;
  len_byte = 0;
  room = 292;
  block_left = 0;
  register = 0;
  header_right = true;
  blocks_right = true;
}) []
dnp_fresh = record {
  count = refl;
  tells = refl;
  room_is = sym (room_by-wrong 0 (omega arith));
  lacks = omega arith;
  check = sym (ap register_of (running_block-header [] (omega arith)) ∙ crc-nil 0xA6BC 0);
  header = sym header_so_far-none;
  blocks = sym (blocks-none [] (omega arith));
  short = omega arith;
  bytes = All-nil (λ b. b < 256);
}

pub dnp_take : (value next : Dnp) (b : ℕ) → value.len < room_by value.len_byte → b < 256
    → next.len ≡ value.len + 1
    → next.len_byte ≡ len_byte_after value.len value.len_byte b
    → next.register ≡ register_after value.len value.register b
    → next.header_right ≡ (value.header_right && fits_header value.len next.register b)
    → next.blocks_right ≡ blocks_after value.len value.blocks_right value.register
    → next.room ≡ room_by next.len_byte
    → next.block_left ≡ left_in_block next.len
    → (x : List ℕ) → DnpStandsFor value x → DnpStandsFor next (x ++ b ∷ [])
dnp_take value next b room byte count tells check header blocks size lacks x stands =
    let longer : length (x ++ b ∷ []) ≡ length x + 1 = length_push x b in
    let bytes : AreBytes (x ++ b ∷ []) = All-push (λ n. n < 256) x b stands.bytes byte in
    let n : value.len ≡ length x = stands.count in
    let register : next.register ≡ register_of (running_block (x ++ b ∷ [])) =
    check ∙ (ap (λ k. register_after k value.register b) n
    ∙ (ap (λ r. register_after (length x) r b) stands.check ∙ sym (register_of-push x b))) in
    let fits = dnp_lawful.fits x b (let e = ap room_by stands.tells in omega arith) in
    let len_byte : next.len_byte ≡ length_byte (x ++ b ∷ []) =
    tells ∙ (ap (λ k. len_byte_after k value.len_byte b) n
    ∙ (ap (λ l. len_byte_after (length x) l b) stands.tells ∙ sym (length_byte-push x b))) in
    let all : next.len ≡ length (x ++ b ∷ []) = omega arith in
    record {
      count = all;
      tells = len_byte;
      room_is = size ∙ ap room_by len_byte;
      lacks = lacks ∙ ap left_in_block all;
      check = register;
      header = header ∙ (ap (λ k. value.header_right && fits_header k next.register b) n
          ∙ (ap (λ t. t && fits_header (length x) next.register b) stands.header
          ∙ (ap (λ r. header_so_far x && fits_header (length x) r b) register
          ∙ sym (header_so_far-push x b bytes))));
      blocks = blocks ∙ (ap (λ k. blocks_after k value.blocks_right value.register) n
          ∙ (ap (λ t. blocks_after (length x) t value.register) stands.blocks
          ∙ (ap (λ r. blocks_after (length x) (blocks_so_far x) r) stands.check
          ∙ sym (blocks_so_far-push x b stands.bytes))));
      short = omega arith;
      bytes = bytes;
    }

pub dnp_good : (value : Dnp) (x : List ℕ) → DnpStandsFor value x
    → is_whole value.len value.len_byte value.header_right value.blocks_right value.register
    ≡ is_frame x
dnp_good value x stands =
    ap (λ n. is_whole n value.len_byte value.header_right value.blocks_right value.register)
    stands.count
    ∙ (ap (λ l. is_whole (length x) l value.header_right value.blocks_right value.register)
    stands.tells
    ∙ (ap (λ t. is_whole (length x) (length_byte x) t value.blocks_right value.register)
    stands.header
    ∙ (ap (λ t. is_whole (length x) (length_byte x) (header_so_far x) t value.register)
    stands.blocks
    ∙ (ap (λ r. is_whole (length x) (length_byte x) (header_so_far x) (blocks_so_far x) r)
    stands.check
    ∙ is_whole-is_frame x stands.bytes))))

pub dnp_ends_right : (value : Dnp) (x : List ℕ) → DnpStandsFor value x
    → ends_right value.len value.len_byte value.register ≡ has_right_ending x
unfolding has_right_ending
dnp_ends_right value x stands =
    ap (λ r. ends_right value.len value.len_byte r) stands.check
    ∙ (ap (λ n. ends_right n value.len_byte (register_of (running_block x))) stands.count
    ∙ (ap (λ l. ends_right (length x) l (register_of (running_block x))) stands.tells
    ∙ ap (λ t. (nat_le 5 (length_byte x) && length x == size_by (length_byte x)) && t)
    (residue_decides (running_block x)
    (All-drop (λ c. c < 256) (block_start (length x)) x stands.bytes))))

pub dnp_fresh-room : is_full_dnp (record {
  len = 0;
  len_byte = 0;
  room = 292;
  block_left = 0;
  register = 0;
  header_right = true;
  blocks_right = true;
}) ≡ false
dnp_fresh-room = refl

-- What a value says of the header is what the rules say of its bytes.
pub dnp_head : (value : Dnp) (x : List ℕ) → DnpStandsFor value x
    → head_by value.len value.header_right ≡ head_of dnp_rules x
dnp_head value x stands =
    ap (λ n. head_by n value.header_right) stands.count
    ∙ ⊎_elim
    (λ few.
    cond-true (nat_lt (length x) 10) _ _ (lt-ltb (length x) 10 few) ∙ sym (head_of-short x few))
    (λ whole.
    cond-false (nat_lt (length x) 10) _ _ (le-ltb (length x) 10 whole)
    ∙ (ap (λ t. if t then Good else Bad) (stands.header ∙ header_so_far-whole x whole)
    ∙ sym (head_of-whole x whole)))
    (cases_lt (length x) 10)

-- Bytes that are taken together: a whole header, bytes of one part, and runs of blocks.
use Rattle.dnp_link_frame.proofs.DnpLaws.{dnp_take, blocks-none}
use Rattle.dnp_link_frame.proofs.HeaderLaws.{header_so_far-one, header_so_far-ten}
use Rattle.dnp_link_frame.specs.BlockLaws.{length_byte-append, room_by-least, running_block-header}
use Rattle.dnp_link_frame.specs.Blocks.{length_byte, room_by, room_of, running_block}
use Rattle.dnp_link_frame.specs.{Crc.register_of, Dnp.DnpStandsFor, Dnp.Appends, Dnp.blocks_so_far}
use Rattle.dnp_link_frame.specs.Rules.{dnp_rules}
use Rattle.dnp_link_frame.specs.Steps.{begins_block, register_before, register_after, fits_header}
use Rattle.dnp_link_frame.specs.Steps.{blocks_after, blocks_at_beginning, len_byte_after, is_header}
use Rattle.dnp_link_frame.specs.{Steps.left_in_block, Steps.residue, declared.dnp.Dnp.Dnp}
use Rattle.line_rules.proofs.CrcLaws.{crc-nil, crc-cons}
use Rattle.line_rules.specs.{Bytes.AreBytes, Crc.byte_step, Crc.crc, Rules.fills_room}
use Rattle.std.proofs.Common.{◌≡◌, ℕ, ◌+◌, ◌-◌, ◌*◌, ◌/◌, ◌%◌, ◌<◌, ◌≤◌, nat_le, nat_lt, ◌&&◌, ◌==◌}
use Rattle.std.proofs.Common.{Bool, true, false, List, [], ◌∷◌, ◌++◌, length, take, drop, get_or}
use Rattle.std.proofs.Common.{refl, arith, sym, ◌∙◌, ap, subst, append-nil, append_assoc}
use Rattle.std.proofs.{Common.length-append, Math.Bool.and-true, lemmas.Bool.cond-true}
use Rattle.std.proofs.lemmas.Bool.{cond-false, ne_eqb, le-leb, and_left, lt-leb, and_right}
use Rattle.std.proofs.lemmas.{Bool.cond_both, Bool.lt-ltb, Bool.and_from, Bool.eq-eqb}
use Rattle.std.proofs.lemmas.List.{length-take}
use Rattle.std.proofs.lemmas.List.{length-drop, nil_from_length, take-append-drop, take_all}
use Rattle.std.proofs.lemmas.List.Elements.{All-cons, All-head, All-tail, All-drop, All-take}
use Rattle.std.specs.Prelude.{if◌then◌else◌}

-- ---- one byte after the header

fits_header-behind : (n register byte : ℕ) → 10 ≤ n → fits_header n register byte ≡ true
fits_header-behind n register byte behind =
    cond-false (n == 0) _ _ (ne_eqb n 0 (λ e. omega arith))
    ∙ (cond-false (n == 1) _ _ (ne_eqb n 1 (λ e. omega arith))
    ∙ (cond-false (n == 2) _ _ (ne_eqb n 2 (λ e. omega arith))
    ∙ cond-false (n == 9) _ _ (ne_eqb n 9 (λ e. omega arith))))

dnp_take-behind : (value next : Dnp) (b : ℕ) → 10 ≤ value.len
    → value.len < room_by value.len_byte → b < 256
    → next.len ≡ value.len + 1
    → next.len_byte ≡ value.len_byte
    → next.register ≡ register_after value.len value.register b
    → next.header_right ≡ value.header_right
    → next.blocks_right ≡ blocks_after value.len value.blocks_right value.register
    → next.room ≡ room_by next.len_byte
    → next.block_left ≡ left_in_block next.len
    → (x : List ℕ) → DnpStandsFor value x → DnpStandsFor next (x ++ b ∷ [])
dnp_take-behind value next b behind room byte count tells check header blocks size lacks x stands =
    dnp_take value next b room byte count
    (tells ∙ sym (cond-false (value.len == 2) b value.len_byte
    (ne_eqb value.len 2 (λ e. omega arith))))
    check
    (header ∙ (sym (and-true value.header_right)
    ∙ ap (λ t. value.header_right && t)
    (sym (fits_header-behind value.len next.register b behind))))
    blocks size lacks x stands

-- ---- no byte

dnp_take_none : (value next : Dnp) → next.len ≡ value.len + 0
    → next.len_byte ≡ value.len_byte
    → next.register ≡ crc 0xA6BC value.register []
    → next.header_right ≡ value.header_right
    → next.blocks_right ≡ value.blocks_right
    → next.room ≡ room_by next.len_byte
    → next.block_left ≡ left_in_block next.len
    → (x : List ℕ) → DnpStandsFor value x → DnpStandsFor next (x ++ [])
dnp_take_none value next count tells check header blocks size lacks x stands =
    subst (DnpStandsFor next) (sym (append-nil x)) (record {
      count = let e = stands.count in omega arith;
      tells = tells ∙ stands.tells;
      room_is = size ∙ ap room_by (tells ∙ stands.tells);
      lacks = lacks ∙ ap left_in_block (let e = stands.count in omega arith);
      check = check ∙ (crc-nil 0xA6BC value.register ∙ stands.check);
      header = header ∙ stands.header;
      blocks = blocks ∙ stands.blocks;
      short = stands.short;
      bytes = stands.bytes;
    })

-- ---- one byte of a header

before-blocks : (n : ℕ) → n < 10 → begins_block n ≡ false
before-blocks n few = and_left (nat_le 10 n) ((n - 10) % 18 == 0) (lt-leb 10 n few)

pub dnp_take-in_header : (value next : Dnp) (b : ℕ) → value.len < 10 → b < 256
    → next.len ≡ value.len + 1
    → next.len_byte ≡ len_byte_after value.len value.len_byte b
    → next.register ≡ byte_step 0xA6BC value.register b
    → next.header_right ≡ (value.header_right && fits_header value.len next.register b)
    → next.blocks_right ≡ value.blocks_right
    → next.room ≡ room_by next.len_byte
    → next.block_left ≡ left_in_block next.len
    → (x : List ℕ) → DnpStandsFor value x → DnpStandsFor next (x ++ b ∷ [])
dnp_take-in_header value next b few byte count tells check header blocks size lacks x stands =
    let outside : begins_block value.len ≡ false = before-blocks value.len few in
    let least = room_by-least value.len_byte in
    dnp_take value next b (omega arith) byte count tells
    (check ∙ sym (cond-false (begins_block value.len) _ _ outside))
    header
    (blocks ∙ sym (cond-false (begins_block value.len && nat_lt 10 value.len) _ _
    (and_left (begins_block value.len) (nat_lt 10 value.len) outside))) size lacks x stands

-- ---- bytes that go on in a block that has begun

inside-block : (n q m : ℕ) → n ≡ 10 + 18 * q + m → 0 < m → m < 18 → begins_block n ≡ false
inside-block n q m at some few =
    and_right (nat_le 10 n) ((n - 10) % 18 == 0)
    (ne_eqb ((n - 10) % 18) 0 (λ none. omega arith))

goes_on : (value next : Dnp) (y : List ℕ) (q m : ℕ) → value.len ≡ 10 + 18 * q + m → 0 < m
    → m + length y ≤ 18 → value.len + length y ≤ room_by value.len_byte → AreBytes y
    → next.len ≡ value.len + length y
    → next.len_byte ≡ value.len_byte
    → next.register ≡ crc 0xA6BC value.register y
    → next.header_right ≡ value.header_right
    → next.blocks_right ≡ value.blocks_right
    → next.room ≡ room_by next.len_byte
    → next.block_left ≡ left_in_block next.len
    → (x : List ℕ) → DnpStandsFor value x → DnpStandsFor next (x ++ y)
goes_on value next [] q m at some few room bytes count tells check header blocks
    size lacks x stands =
    dnp_take_none value next count tells check header blocks size lacks x stands
goes_on value next (b ∷ y) q m at some few room bytes count tells check header blocks
    size lacks x stands =
    let inside : begins_block value.len ≡ false =
    inside-block value.len q m at some (omega arith) in
    let middle : Dnp = record {
      len = value.len + 1;
      len_byte = value.len_byte;
      room = room_by value.len_byte;
      block_left = left_in_block (value.len + 1);
      register = byte_step 0xA6BC value.register b;
      header_right = value.header_right;
      blocks_right = value.blocks_right;
    } in
    let first : DnpStandsFor middle (x ++ b ∷ []) =
    dnp_take-behind value middle b (omega arith) (omega arith) (All-head (λ n. n < 256) b y bytes)
    refl refl
    (sym (cond-false (begins_block value.len) _ _ inside)) refl
    (sym (cond-false (begins_block value.len && nat_lt 10 value.len) _ _
    (and_left (begins_block value.len) (nat_lt 10 value.len) inside))) refl refl x stands in
    subst (DnpStandsFor next) (append_assoc x (b ∷ []) y)
    (goes_on middle next y q (m + 1) (omega arith) (omega arith) (omega arith) (omega arith)
    (All-tail (λ n. n < 256) b y bytes) (omega arith) tells
    (check ∙ crc-cons 0xA6BC value.register b y) header blocks size lacks (x ++ b ∷ []) first)

-- ---- bytes of one block, from its beginning or from a later byte

register_before-byte : (n register byte : ℕ)
    → byte_step 0xA6BC (register_before n register) byte ≡ register_after n register byte
register_before-byte n register byte =
    cond_both (begins_block n) (byte_step 0xA6BC 0 byte) (byte_step 0xA6BC register byte)
    (λ r. byte_step 0xA6BC (register_before n register) byte ≡ r)
    (λ begins. ap (λ r. byte_step 0xA6BC r byte) (cond-true (begins_block n) 0 register begins))
    (λ on. ap (λ r. byte_step 0xA6BC r byte) (cond-false (begins_block n) 0 register on))

dnp_take_in_block : (value next : Dnp) (y : List ℕ) → 10 ≤ value.len → 0 < length y
    → (value.len - 10) % 18 + length y ≤ 18 → value.len + length y ≤ room_by value.len_byte
    → AreBytes y
    → next.len ≡ value.len + length y
    → next.len_byte ≡ value.len_byte
    → next.register ≡ crc 0xA6BC (register_before value.len value.register) y
    → next.header_right ≡ value.header_right
    → next.blocks_right ≡ blocks_after value.len value.blocks_right value.register
    → next.room ≡ room_by next.len_byte
    → next.block_left ≡ left_in_block next.len
    → (x : List ℕ) → DnpStandsFor value x → DnpStandsFor next (x ++ y)
dnp_take_in_block value next [] behind some few room bytes count tells check header blocks
    size lacks x
    stands =
    absurd (omega arith)
dnp_take_in_block value next (b ∷ y) behind some few room bytes count tells check header blocks
    size lacks x
    stands =
    let middle : Dnp = record {
      len = value.len + 1;
      len_byte = value.len_byte;
      room = room_by value.len_byte;
      block_left = left_in_block (value.len + 1);
      register = register_after value.len value.register b;
      header_right = value.header_right;
      blocks_right = blocks_after value.len value.blocks_right value.register;
    } in
    let first : DnpStandsFor middle (x ++ b ∷ []) =
    dnp_take-behind value middle b behind (omega arith) (All-head (λ n. n < 256) b y bytes)
    refl refl refl refl refl refl refl x stands in
    subst (DnpStandsFor next) (append_assoc x (b ∷ []) y)
    (goes_on middle next y ((value.len - 10) / 18) ((value.len - 10) % 18 + 1) (omega arith)
    (omega arith) (omega arith) (omega arith)
    (All-tail (λ n. n < 256) b y bytes) (omega arith) tells
    (check ∙ (crc-cons 0xA6BC (register_before value.len value.register) b y
    ∙ ap (λ r. crc 0xA6BC r y) (register_before-byte value.len value.register b)))
    header blocks size lacks (x ++ b ∷ []) first)

goes_on-block : (value next : Dnp) (y : List ℕ) → 10 ≤ value.len
    → length y ≤ left_in_block value.len → value.len + length y ≤ room_by value.len_byte
    → AreBytes y
    → next.len ≡ value.len + length y
    → next.len_byte ≡ value.len_byte
    → next.register ≡ crc 0xA6BC value.register y
    → next.header_right ≡ value.header_right
    → next.blocks_right ≡ value.blocks_right
    → next.room ≡ room_by next.len_byte
    → next.block_left ≡ left_in_block next.len
    → (x : List ℕ) → DnpStandsFor value x → DnpStandsFor next (x ++ y)
goes_on-block value next [] behind few room bytes count tells check header blocks
    size lacks x stands =
    dnp_take_none value next count tells check header blocks size lacks x stands
goes_on-block value next (b ∷ y) behind few room bytes count tells check header blocks
    size lacks x stands =
    goes_on value next (b ∷ y) ((value.len - 10) / 18) ((value.len - 10) % 18) (omega arith)
    (omega arith) (omega arith) room bytes count tells check header blocks size lacks x stands

-- ---- the same steps, for a value that keeps the room and how much the block lacks

-- A value that keeps LEN and the room still has the room that LEN says.
room_kept : (value next : Dnp) (x : List ℕ) → DnpStandsFor value x → next.len_byte ≡ value.len_byte
    → next.room ≡ value.room → next.room ≡ room_by next.len_byte
room_kept value next x stands tells room =
    room ∙ (stands.room_is ∙ ap room_by (sym stands.tells ∙ sym tells))

room_there : (value : Dnp) (x : List ℕ) → DnpStandsFor value x → value.room ≡ room_by value.len_byte
room_there value x stands = room_kept value value x stands refl refl

-- A value says how many bytes the running block lacks.
lacks_there : (value : Dnp) (x : List ℕ) → DnpStandsFor value x
    → value.block_left ≡ left_in_block value.len
lacks_there value x stands = stands.lacks ∙ ap left_in_block (sym stands.count)

-- one byte of a header
pub dnp_header_byte : (value next : Dnp) (b : ℕ) → value.len < 10 → b < 256
    → next.len ≡ value.len + 1
    → next.len_byte ≡ len_byte_after value.len value.len_byte b
    → next.register ≡ byte_step 0xA6BC value.register b
    → next.header_right ≡ (value.header_right && fits_header value.len next.register b)
    → next.blocks_right ≡ value.blocks_right
    → next.room ≡ room_by next.len_byte
    → next.block_left ≡ value.block_left
    → (x : List ℕ) → DnpStandsFor value x → DnpStandsFor next (x ++ b ∷ [])
dnp_header_byte value next b few byte count tells check header blocks room lacks x stands =
    let lacked = lacks_there value x stands in
    dnp_take-in_header value next b few byte count tells check header blocks room (omega arith) x
    stands

-- more bytes of the block that has begun
pub dnp_go_on : (value next : Dnp) (y : List ℕ) → 10 ≤ value.len → length y ≤ value.block_left
    → value.len + length y ≤ value.room → AreBytes y
    → next.len ≡ value.len + length y
    → next.len_byte ≡ value.len_byte
    → next.register ≡ crc 0xA6BC value.register y
    → next.header_right ≡ value.header_right
    → next.blocks_right ≡ value.blocks_right
    → next.room ≡ value.room
    → next.block_left ≡ value.block_left - length y
    → Appends value next y
dnp_go_on value next y behind few room bytes count tells check header blocks same lacks = record {
  stands = λ x stands.
      let lacked = lacks_there value x stands in
      let there = room_there value x stands in
      goes_on-block value next y behind (omega arith) (omega arith) bytes count tells check header
      blocks (room_kept value next x stands tells same) (omega arith) x stands;
  count = count;
  same_room = same;
}

-- When a block begins, the one before it is judged.
blocks_at_beginning-is : (n : ℕ) (right : Bool) (register : ℕ) → begins_block n ≡ true
    → blocks_at_beginning n right register ≡ blocks_after n right register
blocks_at_beginning-is n right register begins =
    sym (ap (λ t. if t && nat_lt 10 n then right && register == residue else right) begins)

-- the first bytes of a block
pub dnp_begin_block : (value next : Dnp) (y : List ℕ) → 10 ≤ value.len → value.block_left ≡ 0
    → 0 < length y → length y ≤ 18 → value.len + length y ≤ value.room → AreBytes y
    → next.len ≡ value.len + length y
    → next.len_byte ≡ value.len_byte
    → next.register ≡ crc 0xA6BC 0 y
    → next.header_right ≡ value.header_right
    → next.blocks_right ≡ blocks_at_beginning value.len value.blocks_right value.register
    → next.room ≡ value.room
    → next.block_left ≡ 18 - length y
    → Appends value next y
dnp_begin_block value next y behind none some few room bytes count tells check header blocks same
    lacks = record {
      stands = λ x stands.
          let lacked = lacks_there value x stands in
          let there = room_there value x stands in
          let first : (value.len - 10) % 18 ≡ 0 = omega arith in
          let begins : begins_block value.len ≡ true =
          and_from _ _ (le-leb 10 value.len behind) (eq-eqb ((value.len - 10) % 18) 0 first) in
          dnp_take_in_block value next y behind some (omega arith) (omega arith) bytes count tells
          (check ∙ ap (λ r. crc 0xA6BC r y)
          (sym (cond-true (begins_block value.len) 0 value.register begins)))
          header
          (blocks ∙ blocks_at_beginning-is value.len value.blocks_right value.register begins)
          (room_kept value next x stands tells same) (omega arith) x stands;
      count = count;
      same_room = same;
    }

-- ---- runs that follow one another

-- What is left of a run is all of what follows its first `n` bytes.
pub take_rest : (n : ℕ) (run : List ℕ) → take (length run - n) (drop n run) ≡ drop n run
take_rest n run = take_all (length run - n) (drop n run) (omega (arith, length-drop n run))

-- A value that stays as it is has appended no byte.
pub appends-none : (value : Dnp) → Appends value value []
appends-none value = record {
  stands = λ x stands. subst (DnpStandsFor value) (sym (append-nil x)) stands;
  count = omega arith;
  same_room = refl;
}

-- A run and then another one are one run.
pub appends-more : (old value next : Dnp) (y z : List ℕ) → Appends old value y
    → Appends value next z → Appends old next (y ++ z)
appends-more old value next y z first second = record {
  stands = λ x stands. subst (DnpStandsFor next) (append_assoc x y z)
      (second.stands (x ++ y) (first.stands x stands));
  count = let begun = first.count in let more = second.count in omega (arith, length-append y z);
  same_room = second.same_room ∙ first.same_room;
}

-- Holds if `following`, the end of a run, begins a block, the blocks before it are judged, and it
-- has room. A value that appends it as well has appended the whole run.
pub record IsBegun (old : Dnp) (run : List ℕ) (right : Bool) (following : List ℕ) : Type 0 where
  pub value : Dnp
  pub behind : 10 ≤ value.len
  pub begins : value.block_left ≡ 0
  pub some : 0 < length following
  pub room : value.len + length following ≤ value.room
  pub bytes : AreBytes following
  pub judged : right ≡ blocks_at_beginning value.len value.blocks_right value.register
  pub count : value.len + length following ≡ old.len + length run
  pub same_len_byte : value.len_byte ≡ old.len_byte
  pub same_header : value.header_right ≡ old.header_right
  pub same_room : value.room ≡ old.room
  pub ends : (next : Dnp) → Appends value next following → Appends old next run

-- It holds before the first block.
pub is_begun-first : (old : Dnp) (run : List ℕ) (right : Bool) → 10 ≤ old.len
    → old.block_left ≡ 0 → 0 < length run → old.len + length run ≤ old.room → AreBytes run
    → right ≡ blocks_at_beginning old.len old.blocks_right old.register
    → IsBegun old run right run
is_begun-first old run right behind begins some room bytes judged = record {
  value = old;
  behind = behind;
  begins = begins;
  some = some;
  room = room;
  bytes = bytes;
  judged = judged;
  count = refl;
  same_len_byte = refl;
  same_header = refl;
  same_room = refl;
  ends = λ next more. more;
}

-- It still holds after one more block.
pub is_begun-next : (old : Dnp) (run following block more : List ℕ) (right next_right : Bool)
    (register : ℕ) → 18 < length following → block ≡ take 18 following
    → more ≡ drop 18 following → register ≡ crc 0xA6BC 0 block
    → next_right ≡ (right && register == residue) → IsBegun old run right following
    → IsBegun old run next_right more
is_begun-next old run following block more right next_right register long front behind_it check
    judged before =
    let value : Dnp = before.value in
    let next : Dnp = record before.value {
      len = before.value.len + 18;
      register = register;
      blocks_right = right;
    } in
    let lacked = before.begins in
    let room = before.room in
    let behind = before.behind in
    let all = before.count in
    let size : length block ≡ length (take 18 following) = ap length front in
    let whole : length block ≡ 18 = omega (arith, length-take 18 following) in
    let fewer : length more ≡ length (drop 18 following) = ap length behind_it in
    let left : length more + 18 ≡ length following = omega (arith, length-drop 18 following) in
    let parts : following ≡ block ++ more =
    sym (take-append-drop 18 following)
    ∙ (ap (λ y. y ++ drop 18 following) (sym front) ∙ ap (λ y. block ++ y) (sym behind_it)) in
    let begun : Appends before.value next block =
    dnp_begin_block before.value next block before.behind before.begins (omega arith) (omega arith)
    (omega arith)
    (subst AreBytes (sym front) (All-take (λ b. b < 256) 18 following before.bytes))
    (omega arith) refl check refl before.judged refl (omega arith) in
    record {
      value = next;
      behind = omega arith;
      begins = before.begins;
      some = omega arith;
      room = omega arith;
      bytes = subst AreBytes (sym behind_it) (All-drop (λ b. b < 256) 18 following before.bytes);
      judged = judged
          ∙ sym (cond-true (nat_lt 10 (before.value.len + 18)) (right && register == residue) right
          (lt-ltb 10 (before.value.len + 18) (omega arith)));
      count = omega arith;
      same_len_byte = before.same_len_byte;
      same_header = before.same_header;
      same_room = before.same_room;
      ends = λ last more_of. before.ends last
          (subst (Appends before.value last) (sym parts)
          (appends-more before.value next last block more begun more_of));
    }

-- With the last block, the whole run is appended.
pub is_begun-last : (old next : Dnp) (run following : List ℕ) (right : Bool)
    → IsBegun old run right following → length following ≤ 18
    → next.len ≡ old.len + length run
    → next.len_byte ≡ old.len_byte
    → next.register ≡ crc 0xA6BC 0 following
    → next.header_right ≡ old.header_right
    → next.blocks_right ≡ right
    → next.room ≡ old.room
    → next.block_left ≡ 18 - length following
    → Appends old next run
is_begun-last old next run following right before short count tells check header blocks same lacks =
    before.ends next
    (dnp_begin_block before.value next following before.behind before.begins before.some short
    before.room before.bytes (count ∙ sym before.count) (tells ∙ sym before.same_len_byte) check
    (header ∙ sym before.same_header) (blocks ∙ before.judged) (same ∙ sym before.same_room) lacks)

-- ---- a whole header

pub dnp_take_header : (value next : Dnp) (y : List ℕ) → value.len ≡ 0 → length y ≡ 10 → AreBytes y
    → next.len ≡ 10
    → next.len_byte ≡ get_or y 2 0
    → next.register ≡ crc 0xA6BC 0 y
    → next.header_right
    ≡ is_header (get_or y 0 0 == 0x05) (get_or y 1 0) (get_or y 2 0) next.register
    → next.blocks_right ≡ value.blocks_right
    → next.room ≡ room_by next.len_byte
    → next.block_left ≡ value.block_left
    → (x : List ℕ) → DnpStandsFor value x → DnpStandsFor next (x ++ y)
dnp_take_header value next y none whole bytes count tells check header blocks room lacks x stands =
    let lacked = lacks_there value x stands in
    let nothing : x ≡ [] = nil_from_length x (sym stands.count ∙ none) in
    let register : next.register ≡ register_of (running_block y) =
    check ∙ sym (ap register_of (running_block-header y (omega arith))) in
    let least = room_by-least (length_byte y) in
    subst (λ z. DnpStandsFor next (z ++ y)) (sym nothing) (record {
      count = count ∙ sym whole;
      tells = tells;
      room_is = room ∙ ap room_by tells;
      lacks = omega arith;
      check = register;
      header = header ∙ (ap (is_header (get_or y 0 0 == 0x05) (get_or y 1 0) (get_or y 2 0)) check
          ∙ sym (header_so_far-ten y whole bytes));
      blocks = blocks ∙ (stands.blocks ∙ (ap blocks_so_far nothing
          ∙ (blocks-none [] (omega arith) ∙ sym (blocks-none y (omega arith)))));
      short = omega arith;
      bytes = bytes;
    })

-- the other nine bytes of a header, after its first one
pub dnp_take_behind_first : (value next : Dnp) (y : List ℕ) → value.len ≡ 1 → length y ≡ 9
    → AreBytes y
    → next.len ≡ 10
    → next.len_byte ≡ get_or y 1 0
    → next.register ≡ crc 0xA6BC value.register y
    → next.header_right ≡ is_header value.header_right (get_or y 0 0) (get_or y 1 0) next.register
    → next.blocks_right ≡ value.blocks_right
    → next.room ≡ room_by next.len_byte
    → next.block_left ≡ value.block_left
    → (x : List ℕ) → DnpStandsFor value x → DnpStandsFor next (x ++ y)
dnp_take_behind_first value next y one nine bytes count tells check header blocks room lacks []
    stands =
    let none = stands.count in absurd (omega arith)
dnp_take_behind_first value next y one nine bytes count tells check header blocks room lacks
    (b ∷ []) stands =
    let lacked = lacks_there value (b ∷ []) stands in
    let all_bytes : AreBytes (b ∷ y) = All-cons (λ n. n < 256) b y (All-head (λ n. n < 256) b [] stands.bytes) bytes in
    let first : value.register ≡ byte_step 0xA6BC 0 b =
    stands.check
    ∙ (ap register_of (running_block-header (b ∷ []) (omega arith))
    ∙ (crc-cons 0xA6BC 0 b [] ∙ crc-nil 0xA6BC (byte_step 0xA6BC 0 b))) in
    let all : next.register ≡ register_of (b ∷ y) =
    check ∙ (ap (λ r. crc 0xA6BC r y) first ∙ sym (crc-cons 0xA6BC 0 b y)) in
    let begun : value.header_right ≡ (b == 0x05) = stands.header ∙ header_so_far-one b in
    let least = room_by-least (length_byte (b ∷ y)) in
    record {
      count = omega arith;
      tells = tells;
      room_is = room ∙ ap room_by tells;
      lacks = omega arith;
      check = all ∙ sym (ap register_of (running_block-header (b ∷ y) (omega arith)));
      header = header
          ∙ (ap (λ t. is_header t (get_or y 0 0) (get_or y 1 0) next.register) begun
          ∙ (ap (is_header (b == 0x05) (get_or y 0 0) (get_or y 1 0)) all
          ∙ sym (header_so_far-ten (b ∷ y) (omega arith) all_bytes)));
      blocks = blocks ∙ (stands.blocks
          ∙ (blocks-none (b ∷ []) (omega arith) ∙ sym (blocks-none (b ∷ y) (omega arith))));
      short = omega arith;
      bytes = all_bytes;
    }
dnp_take_behind_first value next y one nine bytes count tells check header blocks room lacks
    (b ∷ c ∷ x) stands =
    let more = stands.count in absurd (omega arith)

-- Each byte of a header has room.
pub header_has_room : (value : Dnp) (x y : List ℕ) → DnpStandsFor value x
    → value.len + length y < 10 → fills_room dnp_rules (x ++ y) ≡ false
header_has_room value x y stands few =
    let count = stands.count in
    let least = room_by-least (length_byte (x ++ y)) in
    ne_eqb (length (x ++ y)) (room_of (x ++ y)) (λ all. omega (arith, length-append x y))

-- The next byte of a header has room.
pub header_has_room-next : (value : Dnp) (x : List ℕ) → DnpStandsFor value x → value.len < 10
    → false ≡ fills_room dnp_rules x
header_has_room-next value x stands few =
    sym (ap (fills_room dnp_rules) (sym (append-nil x))
    ∙ header_has_room value x [] stands (omega arith))

-- The next byte has room as long as there are fewer bytes than the room.
pub has_room : (value : Dnp) (x y : List ℕ) → DnpStandsFor value x → 3 ≤ value.len
    → value.len + length y < value.room → fills_room dnp_rules (x ++ y) ≡ false
has_room value x y stands behind below =
    let count = stands.count in
    let same : length_byte (x ++ y) ≡ length_byte x = length_byte-append x y (omega arith) in
    let room : room_of (x ++ y) ≡ value.room = ap room_by same ∙ sym stands.room_is in
    ne_eqb (length (x ++ y)) (room_of (x ++ y)) (λ all. omega (arith, length-append x y))

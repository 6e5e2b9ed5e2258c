-- The rules of a protocol without headers, whose bursts have room for its longest frame.
use Rattle.std.specs.Prelude.{◌≡◌, ℕ, ◌<◌, ◌≤◌, nat_lt, Bool, true, List, ◌++◌, length, refl}
use Rattle.std.proofs.Common.{arith}
use Rattle.std.proofs.lemmas.Bool.{cond-false, le-ltb}
use Rattle.line_rules.specs.Rules.{Rules, head_of, lacking_of}
use Rattle.line_rules.specs.RulesLaws.{IsLawful, IsHeaded, IsFramed, IsFilling}
use Rattle.line_rules.specs.Spoiling.{spoil_by}
use Rattle.line_rules.specs.declared.head.Head.TheVariants.{Good}

-- the rules with this label, this longest frame, these frames and these right endings
abbrev pub headerless : ℕ → ℕ → (List ℕ → Bool) → (List ℕ → Bool) → Rules
headerless label longest is_frame has_right_ending = record {
  label = label;
  longest = longest;
  room = λ x. longest;
  is_frame = is_frame;
  header_len = 0;
  is_good_header = λ x. true;
  size = length;
  has_right_ending = has_right_ending;
  spoil = spoil_by has_right_ending;
}

module _ (label longest : ℕ) (is_frame has_right_ending : List ℕ → Bool) where
  abbrev its : Rules
  its = headerless label longest is_frame has_right_ending

  -- the header has no bytes, and is good
  pub headerless-head : (x : List ℕ) → head_of its x ≡ Good
  headerless-head x = cond-false (nat_lt (length x) 0) _ _ (le-ltb (length x) 0 (omega arith))

  -- no byte is lacking
  pub headerless-lacking : (x : List ℕ) → lacking_of its x ≡ 0
  headerless-lacking x = rw (headerless-head x) (omega arith)

  pub headerless-lawful : 0 < longest → IsLawful its
  headerless-lawful some = record {
    some_room = some;
    fits = λ x b short. short;
    stays = λ x b full. refl;
    bounded = λ x bytes. omega arith;
  }

  pub headerless-headed : IsHeaded its
  headerless-headed = record { short = omega arith; room_for_header = λ x. omega arith }

  pub headerless-framed : ((frame : List ℕ) → is_frame frame ≡ true
      → (0 < length frame) × (length frame ≤ longest)) → IsFramed its
  headerless-framed sized = record {
    some_byte = λ frame framed. (sized frame framed).0;
    good_header = λ frame framed. headerless-head frame;
    whole = λ frame framed. refl;
    has_room = λ frame framed. (sized frame framed).1;
  }

  pub headerless-filling : IsFilling its
  headerless-filling = record {
    has_room = λ x short. let none = headerless-lacking x in omega arith;
    lessens = λ x more long.
        let none = headerless-lacking x in
        let still_none = headerless-lacking (x ++ more) in
        omega arith;
  }

-- Walks that begin and end before a field or a byte.
use Rattle.line_stamps.proofs.{FieldLaws.field_walk, WalkLaws.walk-join}
use Rattle.line_stamps.specs.{Fields.before_field, Walks.walk}
use Rattle.capture_pcap.specs.PcapStep.{takes_bytes, field_at, byte_at, step_at}
use Rattle.capture_pcap.specs.declared.stage.Stage.{Stage}
use Rattle.line_stamps.specs.declared.seen.Seen.{Seen}
use Rattle.std.proofs.Common.{◌≡◌, ℕ, ◌+◌, false, List, [], ◌∷◌, ◌++◌, length, Option, Ok, refl}
use Rattle.std.{proofs.Common.arith, specs.Option.option_to_list}

-- From before a field or a byte, a reader gets over these bytes to before another one.
pub record Walks (from : Stage) (bytes : List ℕ) (to : Stage) (items : List Seen) : Type 0 where
  pub is : walk step_at (before_field from) bytes ≡ Ok (before_field to, items)

pub one_field : (from to : Stage) (field : List ℕ) (item : Option Seen) → takes_bytes from ≡ false
    → length field ≡ 4 → field_at from field ≡ Ok (to, item)
    → Walks from field to (option_to_list item)
one_field from to field item h four e =
    record { is = field_walk takes_bytes field_at byte_at from to field item h four e }

pub both : (from through to : Stage) (first second : List ℕ) (items others : List Seen)
    → Walks from first through items → Walks through second to others
    → Walks from (first ++ second) to (items ++ others)
both from through to first second items others v w = record {
  is = walk-join step_at (before_field from) (before_field through) (before_field to) first second
      items others v.is w.is;
}

-- a list, divided after its first four bytes
pub record Four (bytes : List ℕ) (n : ℕ) : Type 0 where
  pub first : List ℕ
  pub rest : List ℕ
  pub is : bytes ≡ first ++ rest
  pub first_long : length first ≡ 4
  pub rest_long : length rest ≡ n

pub four_of : (bytes : List ℕ) (n : ℕ) → length bytes ≡ 4 + n → Four bytes n
four_of (a ∷ b ∷ c ∷ d ∷ rest) n h = record {
  first = a ∷ b ∷ c ∷ d ∷ [];
  rest = rest;
  is = refl;
  first_long = refl;
  rest_long = omega (arith, h);
}
four_of bytes n h = absurd (omega arith)

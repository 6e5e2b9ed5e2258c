-- The numbers by which C names a box.
use Rattle.std.specs.Prelude.{◌≡◌, ℕ, Option, Some, None}
use Rattle.link_format.specs.declared.dir.Dir.{Dir}
use Rattle.link_format.specs.declared.dir.Dir.TheVariants.{Ab, Ba}
use Rattle.any_box.specs.declared.kind.Kind.{Kind}
use Rattle.any_box.specs.declared.kind.Part.{Part}
use Rattle.any_box.specs.declared.kind.Part.TheVariants.{Sealer, Checker}
use Rattle.command_ends.specs.Links.{label_of, delay_of}
use Rattle.yasir_c.specs.declared.kind.KindNumbers.{KindNumbers}

abbrev pub part_number : Part → ℕ
part_number Sealer = 0
part_number Checker = 1

abbrev pub dir_number : Dir → ℕ
dir_number Ab = 0
dir_number Ba = 1

-- Holds if these are the numbers of this box and this direction.
pub record IsKind (numbers : KindNumbers) (kind : Kind) (dir : Dir) : Type 0 where
  pub part : numbers.part ≡ part_number kind.part
  pub protocol : numbers.protocol ≡ label_of kind.proto
  pub profile : numbers.profile ≡ delay_of kind.profile
  pub direction : numbers.direction ≡ dir_number dir

-- Holds if these are the numbers of no box.
abbrev pub IsNoKind : KindNumbers → Type 0
IsNoKind numbers = (kind : Kind) (dir : Dir) → ¬ IsKind numbers kind dir

-- Holds if these are the numbers of this box and this direction, or if there is none, and they are
-- those of no box.
abbrev pub IsKnownAs : KindNumbers → Option (Kind × Dir) → Type 0
IsKnownAs numbers None = IsNoKind numbers
IsKnownAs numbers (Some known) = IsKind numbers known.0 known.1

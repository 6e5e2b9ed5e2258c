-- The numbers of a transmitter's frames rise.
use Rattle.std.specs.Prelude.{◌≡◌, ℕ, ◌+◌, ◌<◌, List, [], ◌∷◌, length}
use Rattle.std.proofs.Common.{arith}
use Rattle.std.specs.List.{range_with_len}
use Rattle.yasir_ticks.specs.declared.tick.Tick.{Tick}
use Rattle.line_rules.specs.Rules.{Rules}
use Rattle.line_rules.specs.RulesLaws.{IsLawful}
use Rattle.link_format.specs.NumberedFrame.{NumberedFrame, numbers_of}
use Rattle.link_format.specs.Profile.{Profile}
use Rattle.sequence_journal.specs.Uptimes.{RiseFrom}
use Rattle.link_box.specs.Sealing.{sealed}
use Rattle.link_box.proofs.SealNumbers.{sealed-numbered}

-- if the numbers of frames follow a floor one by one, they rise from it
rise-counted : (floor : ℕ) (frames : List NumberedFrame)
    → numbers_of frames ≡ range_with_len (floor + 1) (length frames)
    → RiseFrom floor (numbers_of frames)
rise-counted floor [] are = tt
rise-counted floor (f ∷ frames) are =
    let first : f.number ≡ floor + 1 = cc in
    let tail : numbers_of frames ≡ range_with_len (floor + 1 + 1) (length frames) = cc in
    let rest : numbers_of frames ≡ range_with_len (f.number + 1) (length frames) = rw first tail in
    let above : floor < f.number = omega arith in
    (above, rise-counted f.number frames rest)

pub sealed-rise : (profile : Profile) (rules : Rules) → IsLawful rules → (floor : ℕ)
    (line : List Tick) → RiseFrom floor (numbers_of (sealed profile rules floor line))
sealed-rise profile rules lawful floor line = rise-counted floor (sealed profile rules floor line)
    (sealed-numbered profile rules lawful floor line).numbers

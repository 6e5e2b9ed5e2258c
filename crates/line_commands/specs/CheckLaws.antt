-- The numbers of a receiver's frames rise.
use Rattle.std.specs.Prelude.{ℕ, List}
use Rattle.yasir_ticks.specs.declared.tick.Tick.{Tick}
use Rattle.line_rules.specs.Rules.{Rules}
use Rattle.line_rules.specs.RulesLaws.{IsLawful}
use Rattle.link_format.specs.NumberedFrame.{numbers_of}
use Rattle.link_format.specs.Profile.{Profile}
use Rattle.sequence_journal.specs.Uptimes.{RiseFrom}
use Rattle.link_box.specs.Checking.{passed}
use Rattle.receiver_laws.proofs.Rising.{have_passed}

pub passed-rise : (profile : Profile) (rules : Rules) → IsLawful rules → (floor : ℕ)
    (link : List Tick) → RiseFrom floor (numbers_of (passed profile rules floor link))
passed-rise profile rules lawful floor link = (have_passed profile rules lawful floor link).rise

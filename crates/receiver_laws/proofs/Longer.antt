-- The frames that pass of a longer link begin with those of the link.
use Rattle.frame_ending.specs.Longer.{Begins}
use Rattle.line_rules.specs.{Rules.Rules, RulesLaws.IsLawful, RulesLaws.IsHeaded}
use Rattle.link_format.specs.Profile.{Profile}
use Rattle.link_box.proofs.CheckCausality.{checker-extends}
use Rattle.link_box.specs.Checking.{passed_in, at_floor, check_notes, passed}
use Rattle.{link_box.specs.Timely.IsTimely, receiver_laws.proofs.Notes.frames_in}
use Rattle.std.proofs.Common.{◌∙◌, ℕ, List, ◌++◌, ap}
use Rattle.std.proofs.lemmas.List.Elements.{filter_map-append}
use Rattle.yasir_ticks.specs.declared.tick.Tick.{Tick}

pub passed-extends : (profile : Profile) (rules : Rules) → IsLawful rules → IsHeaded rules
    → IsTimely profile rules
    → (floor : ℕ) (link more : List Tick)
    → Begins (passed profile rules floor link) (passed profile rules floor (link ++ more))
passed-extends profile rules lawful headed timely floor link more =
    let notes : Begins (check_notes profile rules floor link)
    (check_notes profile rules floor (link ++ more)) =
    (checker-extends profile rules lawful headed timely (at_floor floor) link more).notes in
    record {
      rest = frames_in notes.rest;
      is = ap frames_in notes.is ∙ filter_map-append (λ n. passed_in n.note)
          (check_notes profile rules floor link) notes.rest;
    }

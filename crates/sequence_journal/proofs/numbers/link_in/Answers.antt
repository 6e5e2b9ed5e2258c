use Rattle.sequence_journal.{proofs.SlotLemmas.link_holds, specs.Slots.link_held}
use Rattle.std.proofs.Common.{◌≡◌, ◌∙◌, None, Some, rules}
use Rattle.sequence_journal.proofs.numbers.link_in.Goals as goal

pub returns-then-not-has_direction-clause-only : goal.returns-then-not-has_direction-clause-only
unfolding link_held
returns-then-not-has_direction-clause-only c n link within right is =
    let none : None ≡ link_held c.args.slot.now = search rules in
    none ∙ link_holds n link c.args.slot.now within right is

pub returns-in_err-n-clause-only : goal.returns-in_err-n-clause-only
unfolding link_held
returns-in_err-n-clause-only c n link within right is =
    let none : c.from_residual.result ≡ link_held c.args.slot.now = search rules in
    none ∙ link_holds n link c.args.slot.now within right is

pub returns-clause-only : goal.returns-clause-only
unfolding link_held
returns-clause-only c n link within right is =
    let found : Some _ ≡ link_held c.args.slot.now = search rules in
    found ∙ link_holds n link c.args.slot.now within right is

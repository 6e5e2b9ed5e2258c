use Rattle.frame_ending.specs.Answered.{answered}
use Rattle.link_format.specs.Setup.{setup_of}
use Rattle.sequence_journal.proofs.LoadLemmas.{blank_holds_none}
use Rattle.sequence_journal.specs.Slots.{greatest}
use Rattle.std.proofs.Common.{◌∙◌, [], ap, subst, sym, refl, arith, rules}
use Rattle.wire_commands.proofs.Ahead.{begins, begins-served}
use Rattle.wire_commands.proofs.wire_box.WireBox.new.Goals as goal

pub new_journal-journal-requires-clause-none : goal.new_journal-journal-requires-clause-none
new_journal-journal-requires-clause-none g c = ap greatest c.new-disk.ensures ∙ blank_holds_none

pub returns-clause-none : goal.returns-clause-none
returns-clause-none g c = ap (answered 0) c.new-2.ensures

pub returns-clause-gone : goal.returns-clause-gone
returns-clause-gone g c = omega (arith, c.new.ensures.taken)

pub returns-clause-served : goal.returns-clause-served
returns-clause-served g c = begins-served g.B.LinkBox _ (setup_of c.args.key.now c.args.dir 0)
    (ap (answered 0) c.new-2.ensures) (search rules) (search rules)
    (subst (λ n. g.B.LinkBox.stands c.new.result n (setup_of c.args.key.now c.args.dir 0) [])
    (sym c.new_journal-journal.ensures.floor) (c.new.ensures.stands 0))

pub returns-clause-left : goal.returns-clause-left
returns-clause-left g c = begins g.B.LinkBox _ (setup_of c.args.key.now c.args.dir 0)
    (ap (answered 0) c.new-2.ensures) refl
    (subst (λ n. g.B.LinkBox.stands c.new.result n (setup_of c.args.key.now c.args.dir 0) [])
    (sym c.new_journal-journal.ensures.floor) (c.new.ensures.stands 0))

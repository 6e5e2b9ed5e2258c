use Rattle.sequence_journal.proofs.LoadLemmas.{may_begin_anew}
use Rattle.sequence_journal.specs.{Loading.MayBegin, Loading.slots_read, Slots.greatest}
use Rattle.std.proofs.Common.{rules, ◌≡◌, None, IfSome, subst, sym}
use Rattle.sequence_journal.proofs.journal.Journal.init.Goals as goal

pub begin-requires-clause-free : goal.begin-requires-clause-free
begin-requires-clause-free g c =
    let none : greatest (slots_read c.in-Ok.slots) ≡ None = search rules in
    subst (λ told. IfSome told (MayBegin c.args.link.now 0)) (sym c.read_slots.ensures.told)
    (may_begin_anew c.args.link.now _ _ c.requires.link c.in-Ok.ensures.slots none)

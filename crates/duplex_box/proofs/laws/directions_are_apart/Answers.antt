use Rattle.duplex_box.proofs.OneDirection.{makes-line, along-outgoing, along-incoming}
use Rattle.duplex_box.proofs.laws.directions_are_apart.Goals as goal

pub returns-clause-outgoing : goal.returns-clause-outgoing
returns-clause-outgoing g c = λ old new turns steps setup line stands.
    makes-line g.S.LinkBox g.X.SlotDisk (λ turn. turn.from_device) (λ turn. turn.step.link)
    (λ turn. turn.step.sealed) turns old.outgoing new.outgoing
    (along-outgoing g.S.LinkBox g.C.LinkBox g.X.SlotDisk g.Y.SlotDisk turns old new steps) setup
    line stands

pub returns-clause-incoming : goal.returns-clause-incoming
returns-clause-incoming g c = λ old new turns steps setup line stands.
    makes-line g.C.LinkBox g.Y.SlotDisk (λ turn. turn.from_link) (λ turn. turn.step.device)
    (λ turn. turn.step.checked) turns old.incoming new.incoming
    (along-incoming g.S.LinkBox g.C.LinkBox g.X.SlotDisk g.Y.SlotDisk turns old new steps) setup
    line stands

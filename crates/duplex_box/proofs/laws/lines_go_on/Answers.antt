use Rattle.duplex_box.proofs.OneDirection.{makes-more}
use Rattle.duplex_box.proofs.laws.lines_go_on.Goals as goal

pub returns : goal.returns
returns g c = λ old mid new setup line ticks answers more answers_to_more notes notes_of_more level
    first then.
    makes-more g.S.LinkBox g.X.SlotDisk old mid new setup line ticks answers more answers_to_more
    notes notes_of_more level first then

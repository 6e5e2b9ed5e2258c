use Rattle.any_box.proofs.{Noted.takes-on, Taking.counted_taken}
use Rattle.any_box.proofs.committing.take_any.Goals as goal

pub returns-clause-taken : goal.returns-clause-taken
returns-clause-taken g c =
    counted_taken _ _ _ _ c.take_alike.ensures.taken c.take_alike.ensures.within

pub returns-clause-takes : goal.returns-clause-takes
returns-clause-takes g c = takes-on g.X.LinkBox.walking g.X.LinkBox.stands
    g.X.CommittingBox.noted _ _ _ _ c.take_alike.ensures.run

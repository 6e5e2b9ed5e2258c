use Rattle.std.proofs.Common.{[], ◌∷◌, refl}
use Rattle.yasir_ticks.specs.Ticks.Item.{tick}
use Rattle.session_lists.proofs.Runs.{seals-on, checks-on}
use Rattle.session_lists.proofs.replay_lists.ReplayLists.take_tick.Goals as goal

pub returns-in-Ok : goal.returns-in-Ok
returns-in-Ok g c =
    let done = c.in-Ok.ensures in
    checks-on g.S.FrameBox g.C.FrameBox g.V.Device c.args.self.now c.check.new.self
    (tick c.args.tick ∷ []) refl (c.args.tick ∷ []) refl done.others c.if-self.true done.taken
    done.ready done.ok

pub returns-in-Ok-seal : goal.returns-in-Ok-seal
returns-in-Ok-seal g c =
    let done = c.in-Ok-seal.ensures in
    seals-on g.S.FrameBox g.C.FrameBox g.V.Device c.args.self.now c.seal.new.self
    (tick c.args.tick ∷ []) refl (c.args.tick ∷ []) refl done.others c.if-self.false done.taken
    done.able c.requires.ready done.ok

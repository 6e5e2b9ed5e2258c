use Rattle.session_lists.proofs.SessionListing.{listed-sealed, others-on}
use Rattle.session_lists.proofs.TakenLines.{goes-nowhere}
use Rattle.session_lists.proofs.TakenLines.{goes-silent}
use Rattle.session_lists.specs.{ReplayLists.KeepsFrames}
use Rattle.std.proofs.Common.{◌≡◌, ◌++◌, arith, refl, subst}
use Rattle.std.proofs.lemmas.List.{length-replicate}
use Rattle.yasir_ticks.specs.{Ticks.silent, declared.tick.Tick.TheVariants.Silent}
use Rattle.session_lists.proofs.replay_lists.ReplayLists.rest.Goals as goal

pub loop-init : goal.loop-init
loop-init g c = record {
  able = c.requires.able;
  others = refl;
  takes = goes-nowhere _ _ _ c.args.self.now.sealer c.args.self.now.sealed;
}

pub seal-requires-clause-room : goal.seal-requires-clause-room
seal-requires-clause-room g c = omega (
  arith,
  c.requires.room,
  c.loop.invariant.takes.counted,
  length-replicate c.loop.counter Silent,
)

pub loop-preserved : goal.loop-preserved
loop-preserved g c = record {
  able = c.seal.ensures.able;
  others = others-on c.args.self.now c.loop.self c.seal.new.self c.loop.invariant.others
      c.seal.ensures.others;
  takes = goes-silent _ _ _ c.args.self.now.sealer c.loop.self.sealer c.seal.new.self.sealer
      c.args.self.now.sealed c.loop.self.sealed c.seal.new.self.sealed c.loop.counter
      c.loop.invariant.takes (record {
        counted = c.seal.ensures.taken;
        few = omega arith;
        kept = c.in-Ok.ensures.ok;
      });
}

pub returns : goal.returns
returns g c = λ setup device link listed.
    let all : c.loop.counter ≡ c.args.ticks = omega arith in
    listed-sealed g.S.FrameBox g.C.FrameBox g.V.Device c.args.self.now c.loop.self
    c.loop.invariant.others setup device link (silent c.args.ticks)
    (λ keeps. subst (λ n. KeepsFrames g.S.FrameBox c.loop.self.sealer c.loop.self.sealed setup
    (device ++ silent n)) all (c.loop.invariant.takes.kept setup device keeps))
    listed

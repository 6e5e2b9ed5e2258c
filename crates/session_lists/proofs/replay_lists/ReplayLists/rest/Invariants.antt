use Rattle.link_format.specs.Setup.{Setup}
use Rattle.session_lists.specs.{Lines.ListsGoOn, ReplayLists.KeepsFrames}
use Rattle.session_lists.specs.declared.frame_box.Numbered.{Numbered}
use Rattle.session_lists.specs.declared.frame_list.FrameList.{FrameList}
use Rattle.std.proofs.Common.{◌≡◌}
use Rattle.yasir_ticks.specs.Ticks.{silent}
use Rattle.session_lists.proofs.replay_lists.ReplayLists.rest.Given as goal

abbrev pub invariant-loop : goal.invariant-loop
invariant-loop g l = record {
  able : g.S.FrameBox.able l.self.sealer;
  others : l.self ≡ record l.fn.self { sealer = l.self.sealer; sealed = l.self.sealed };
  takes : ListsGoOn g.S.FrameBox.taken (λ (list : FrameList Numbered). 0)
      (λ (setup : Setup) value list line. KeepsFrames g.S.FrameBox value list setup line)
      l.fn.self.sealer l.self.sealer l.fn.self.sealed l.self.sealed (silent l.counter);
}

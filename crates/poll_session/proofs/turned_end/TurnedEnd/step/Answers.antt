use Rattle.link_format.specs.Directions.{opposite_of}
use Rattle.poll_session.proofs.Appending.{beside-and, spoken-and, steps-and}
use Rattle.poll_session.specs.TurnedEnds.{poll_setup}
use Rattle.poll_session.specs.declared.turned_end.EndTick.{EndTick}
use Rattle.std.proofs.Common.{◌∙◌, ◌∷◌, [], ap, arith, length-append, subst, sym, ◌++◌}
use Rattle.two_wire.specs.Turns.{after_own, opposite, MayBeDeaf, MaySay}
use Rattle.poll_session.proofs.turned_end.TurnedEnd.step.Goals as goal

pub returns-clause-turned : goal.returns-clause-turned
returns-clause-turned g c = λ dir w others deaf turned.
    let side = c.args.self.now.side in
    let waits = c.args.self.now.waits in
    let own = c.device_tick-to_device.result in
    let said = c.said-said.result in
    let tick : EndTick = record {
      device_wires = c.drive-device_wires.result;
      link_wires = c.args.link;
      to_device = own;
      to_link = c.link_tick-to_link.result;
      said = said;
      deaf = c.deaf-deaf.result;
    } in
    let more = length-append w.to_device (own ∷ []) in
    let long = turned.long in
    let same = turned.beside.same_ticks in
    record {
      steps = turned.steps ++ (record {
        device_wires = c.drive-device_wires.result;
        link_wires = c.args.link;
        to_device = own;
        to_link = c.link_tick-to_link.result;
        step = c.step-step.result;
      } ∷ []);
      driven = rw (c.device_tick-to_device.ensures, c.link_tick-to_link.ensures) (c.step-step.ensures.driven side waits
          (poll_setup dir) (poll_setup (opposite_of dir)) turned.steps turned.driven);
      wires_are = steps-and turned.steps w tick c.step-step.result turned.wires_are;
      long = omega (arith, more, long, c.step-step.ensures.ticks);
      beside = beside-and side waits w others deaf tick turned.beside c.drive-device_wires.ensures
          (subst (λ s. MaySay (opposite side) waits s said) turned.turn_is c.said-said.ensures.may)
          (subst (λ s. MayBeDeaf side waits 0 s c.deaf-deaf.result) turned.turn_is
          c.deaf-deaf.ensures.may) c.deaf-deaf.ensures.within;
      turn_is = c.turn_after-self.ensures.last
          ∙ (ap (λ s. after_own side s own said) turned.turn_is
          ∙ sym (spoken-and side _ w.to_device others own said (omega (arith, same))));
    }

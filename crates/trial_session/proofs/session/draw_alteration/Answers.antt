use Rattle.{std.proofs.Common.◌∙◌, trial_session.proofs.Drawing.three-is}
use Rattle.trial_session.{proofs.Drawing.alteration-is, specs.Draws.draw_state}
use Rattle.trial_session.proofs.session.draw_alteration.Goals as goal

pub returns-clause-state : goal.returns-clause-state
returns-clause-state c =
    three-is (draw_state c.args.draws.now) (draw_state c.draw-kind.new.self)
    (draw_state c.draw.new.self) (draw_state c.draw-2.new.self) 0 0 0
    c.draw-kind.ensures.state c.draw.ensures.state c.draw-2.ensures.state

pub returns-clause-alteration : goal.returns-clause-alteration
returns-clause-alteration c =
    c.alteration_of.ensures
    ∙ alteration-is (draw_state c.args.draws.now) (draw_state c.draw-kind.new.self)
    (draw_state c.draw.new.self) (draw_state c.draw-2.new.self) c.draw-kind.result c.draw.result
    c.draw-2.result c.draw-kind.ensures.state c.draw.ensures.state c.draw-2.ensures.state
    c.args.packet_len c.draw-kind.ensures.value c.draw.ensures.value c.draw-2.ensures.value

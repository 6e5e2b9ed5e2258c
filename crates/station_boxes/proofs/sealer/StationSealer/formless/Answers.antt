use Rattle.frame_ending.specs.SoFar.{live_bytes_so_far}
use Rattle.seal_transmitter.proofs.Judging.{early-judged, extra-judged, no_frame-judged}
use Rattle.std.proofs.Common.{sym, ◌∙◌}
use Rattle.station_boxes.proofs.sealer.StationSealer.formless.Goals as goal

pub returns-then-is_early-clause-judged : goal.returns-then-is_early-clause-judged
returns-then-is_early-clause-judged g c = λ line cuts profile last.
    early-judged profile g.R.LineRules.rules last c.args.self.now.earliest_start line
    (sym (c.is_early.ensures line cuts) ∙ c.if-is_early.true)

pub returns-then-extra-clause-judged : goal.returns-then-extra-clause-judged
returns-then-extra-clause-judged g c = λ line cuts profile last.
    extra-judged profile g.R.LineRules.rules last c.args.self.now.earliest_start line
    (sym (c.is_early.ensures line cuts) ∙ c.if-is_early.false)
    (sym (c.extra.ensures line cuts) ∙ c.if-extra.true)

pub returns-then-not-good-clause-judged : goal.returns-then-not-good-clause-judged
returns-then-not-good-clause-judged g c = λ line cuts profile last.
    no_frame-judged profile g.R.LineRules.rules last c.args.self.now.earliest_start line
    (sym (c.is_early.ensures line cuts) ∙ c.if-is_early.false)
    (sym (c.extra.ensures line cuts) ∙ c.if-extra.false)
    (sym (c.good.ensures (live_bytes_so_far g.R.LineRules.rules line) (c.rules.ensures line cuts))
    ∙ c.if-not-good.true)

pub returns-clause-judged : goal.returns-clause-judged
returns-clause-judged g c = λ line cuts. record {
  late = sym (c.is_early.ensures line cuts) ∙ c.if-is_early.false;
  whole = sym (c.extra.ensures line cuts) ∙ c.if-extra.false;
  good = sym (c.good.ensures (live_bytes_so_far g.R.LineRules.rules line)
      (c.rules.ensures line cuts))
      ∙ c.if-not-good.false;
}

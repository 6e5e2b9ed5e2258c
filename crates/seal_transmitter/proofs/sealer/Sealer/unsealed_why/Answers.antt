use Rattle.{frame_ending.specs.SoFar.live_bytes_so_far, link_format.specs.Profile.profile_of}
use Rattle.seal_transmitter.proofs.Judging.{early-judged, extra-judged, no_frame-judged}
use Rattle.seal_transmitter.proofs.Judging.{spent-judged, sealed-judged}
use Rattle.sequence_journal.specs.{Journal.journal_floor, declared.numbers.TheConstants.LIMIT}
use Rattle.std.proofs.Common.{sym, ◌∙◌}
use Rattle.seal_transmitter.proofs.sealer.Sealer.unsealed_why.Goals as goal

pub returns-then-is_early-clause-judged : goal.returns-then-is_early-clause-judged
returns-then-is_early-clause-judged g c = λ setup line cuts.
    early-judged (profile_of g.R.LineRules g.M.Mac g.row.B LIMIT setup) g.R.LineRules.rules
    (journal_floor c.args.journal.now) c.args.self.now.earliest_start line
    (sym (c.is_early.ensures line cuts) ∙ c.if-is_early.true)

pub returns-then-extra-clause-judged : goal.returns-then-extra-clause-judged
returns-then-extra-clause-judged g c = λ setup line cuts.
    extra-judged (profile_of g.R.LineRules g.M.Mac g.row.B LIMIT setup) g.R.LineRules.rules
    (journal_floor c.args.journal.now) c.args.self.now.earliest_start line
    (sym (c.is_early.ensures line cuts) ∙ c.if-is_early.false)
    (sym (c.extra.ensures line cuts) ∙ c.if-extra.true)

pub returns-then-not-good-clause-judged : goal.returns-then-not-good-clause-judged
returns-then-not-good-clause-judged g c = λ setup line cuts.
    no_frame-judged (profile_of g.R.LineRules g.M.Mac g.row.B LIMIT setup) g.R.LineRules.rules
    (journal_floor c.args.journal.now) c.args.self.now.earliest_start line
    (sym (c.is_early.ensures line cuts) ∙ c.if-is_early.false)
    (sym (c.extra.ensures line cuts) ∙ c.if-extra.false)
    (sym (c.good.ensures (live_bytes_so_far g.R.LineRules.rules line) (c.rules.ensures line cuts))
    ∙ c.if-not-good.true)

pub returns-then-floor-eq-LIMIT-clause-judged : goal.returns-then-floor-eq-LIMIT-clause-judged
returns-then-floor-eq-LIMIT-clause-judged g c = λ setup line cuts.
    spent-judged (profile_of g.R.LineRules g.M.Mac g.row.B LIMIT setup) g.R.LineRules.rules
    (journal_floor c.args.journal.now) c.args.self.now.earliest_start line
    (sym (c.is_early.ensures line cuts) ∙ c.if-is_early.false)
    (sym (c.extra.ensures line cuts) ∙ c.if-extra.false)
    (sym (c.good.ensures (live_bytes_so_far g.R.LineRules.rules line) (c.rules.ensures line cuts))
    ∙ c.if-not-good.false)
    (sym c.floor.ensures.value ∙ c.if-floor-eq-LIMIT.true)

pub returns-clause-judged : goal.returns-clause-judged
returns-clause-judged g c = λ setup line cuts.
    sealed-judged (profile_of g.R.LineRules g.M.Mac g.row.B LIMIT setup) g.R.LineRules.rules
    (journal_floor c.args.journal.now) c.args.self.now.earliest_start line
    (sym (c.is_early.ensures line cuts) ∙ c.if-is_early.false)
    (sym (c.extra.ensures line cuts) ∙ c.if-extra.false)
    (sym (c.good.ensures (live_bytes_so_far g.R.LineRules.rules line) (c.rules.ensures line cuts))
    ∙ c.if-not-good.false)
    (λ spent. c.if-floor-eq-LIMIT.false (c.floor.ensures.value ∙ spent))

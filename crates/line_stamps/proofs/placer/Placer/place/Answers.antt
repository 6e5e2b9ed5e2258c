use Rattle.std.proofs.Common.{◌∙◌, sym, refl}
use Rattle.line_stamps.specs.Placing.{spot_if}
use Rattle.line_stamps.proofs.Taking.{taken-apart, taken-over, silence-line}
use Rattle.line_stamps.proofs.placer.Placer.place.Goals as goal

pub returns-then-overlaps-clause-leaves : goal.returns-then-overlaps-clause-leaves
returns-then-overlaps-clause-leaves c = (
  refl,
  λ cs had.
      let all = taken-over c.args.self.now.timing (spot_if c.args.self.now.last) c.args.byte
      c.in-Some.time c.tick_of-tick.result c.in-Some.ensures.time c.tick_of-tick.ensures.tick
      (sym c.overlaps_at-overlaps.ensures ∙ c.if-overlaps.true) c.args.self.now.overlaps
      c.saturating_add-self.result c.saturating_add-self.ensures cs had.stands had.counted in
      record { stands = all.0; counted = all.1 },
)

pub returns-clause-line : goal.returns-clause-line
returns-clause-line c = λ cs had.
    silence-line c.args.self.now.timing (spot_if c.args.self.now.last) c.args.byte
    c.in-Some.time c.tick_of-tick.result c.in-Some.ensures.time c.tick_of-tick.ensures.tick _ _
    c.next_tick.ensures refl cs had.stands

pub returns-clause-leaves : goal.returns-clause-leaves
returns-clause-leaves c = (
  refl,
  λ cs had.
      let all = taken-apart c.args.self.now.timing (spot_if c.args.self.now.last) c.args.byte
      c.in-Some.time c.tick_of-tick.result c.in-Some.ensures.time c.tick_of-tick.ensures.tick
      (sym c.overlaps_at-overlaps.ensures ∙ c.if-overlaps.false) c.args.self.now.overlaps cs
      had.stands had.counted in
      record { stands = all.0; counted = all.1 },
)

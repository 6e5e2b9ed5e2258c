use Rattle.check_receiver.specs.{Phases.is_open, Runs.CheckerHasTakenRun, Stands.CheckerStandsAt}
use Rattle.check_receiver.specs.Stands.{checker_ticks, checker_direction}
use Rattle.link_format.specs.Setup.{Setup}
use Rattle.std.proofs.Common.{◌≡◌, ◌+◌, ℕ, List, length, map, false}
use Rattle.yasir_ticks.specs.{Ticks.silent, declared.tick.Tick.Tick}
use Rattle.yasir_ticks.specs.declared.tick.Tick.TheVariants.{Byte}
use Rattle.check_receiver.proofs.checker.Checker.fill_some.Given as goal

abbrev pub invariant-loop-count : goal.invariant-loop-count
invariant-loop-count g l = record {
  taken : checker_ticks l.self ≡ checker_ticks l.initial.self + l.count;
  until : l.self.until ≡ 0;
  closed : is_open l.self.phase ≡ false;
  long : length l.sent.items ≡ l.count;
  direction : checker_direction l.self ≡ checker_direction l.initial.self;
  run : (last : ℕ) (setup : Setup) (line : List Tick)
      → CheckerStandsAt g.R.LineRules g.M.Mac l.initial.self last setup line
      → CheckerHasTakenRun g.R.LineRules g.M.Mac l.self last setup line
      (silent l.count) (map (λ b. Byte b) l.sent.items);
}

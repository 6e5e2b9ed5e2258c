use Rattle.std.proofs.Common.{◌∙◌, arith, sym, ap}
use Rattle.link_replay.proofs.Asking.{spelled-one}
use Rattle.link_replay.specs.Words.{least_window}
use Rattle.link_replay.proofs.words.read_waits.Goals as goal

pub returns-then-pause-lt-LEAST_PAUSE-clause-usage :
    goal.returns-then-pause-lt-LEAST_PAUSE-clause-usage
returns-then-pause-lt-LEAST_PAUSE-clause-usage c = λ waits may window pause.
    let same = spelled-one waits.pause c.in_ok-pause.pause (omega (arith, may.pause_most))
    (omega (arith, c.in_ok-pause.ensures.within)) (sym pause ∙ c.in_ok-pause.ensures.ok) in
    omega (arith, same, may.pause_least, c.if-pause-lt-LEAST_PAUSE.true)

pub returns-then-window-window_for-clause-usage : goal.returns-then-window-window_for-clause-usage
returns-then-window-window_for-clause-usage c = λ waits may window pause.
    let same_pause = spelled-one waits.pause c.in_ok-pause.pause (omega (arith, may.pause_most))
    (omega (arith, c.in_ok-pause.ensures.within)) (sym pause ∙ c.in_ok-pause.ensures.ok) in
    let same = spelled-one waits.window c.in_ok-window.window (omega (arith, may.window_most))
    (omega (arith, c.in_ok-window.ensures.within)) (sym window ∙ c.in_ok-window.ensures.ok) in
    omega (
      arith,
      same,
      may.window_least,
      ap (least_window c.args.profile c.args.side) same_pause,
      c.window_for.ensures,
      c.if-window-window_for.true,
    )

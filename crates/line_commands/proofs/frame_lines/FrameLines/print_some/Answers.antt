use Rattle.device_model.specs.Frames.{FrameRead, frames_lent}
use Rattle.line_commands.proofs.Printing.{none_read, one_read, one_failed}
use Rattle.std.proofs.Common.{◌∙◌, ℕ, List, [], ◌∷◌, ap, sym, refl, arith, length}
use Rattle.{tick_drive.proofs.Causes.cause_none, yasir_ticks.proofs.TickRuns.ticks_in-run}
use Rattle.line_commands.proofs.frame_lines.FrameLines.print_some.Goals as goal

pub hear_run-taken-requires : goal.hear_run-taken-requires
hear_run-taken-requires g c = omega (
  arith,
  c.requires.may.room,
  ap length (ticks_in-run
      c.args.run),
)

pub returns-in_default : goal.returns-in_default
returns-in_default g c =
    let heard = c.hear_run-taken in
    let lent : List ℕ = g.V.Device.lent heard.new.device in
    none_read g.V.Device g.O.Sink _ _ c.args.run heard.result.taken (frames_lent heard.result.start lent)
    (heard.ensures.some c.requires.some) heard.ensures.within heard.ensures.taken
    heard.ensures.stands heard.ensures.answer (ap (λ s. frames_lent s lent) c.in_default.is) refl refl (record {
      device = refl;
      lines = refl;
      out = refl;
      cause = cause_none tt _;
      flushes = refl;
    })

pub returns-in-Ok : goal.returns-in-Ok
returns-in-Ok g c =
    let heard = c.hear_run-taken in
    let lent : List ℕ = g.V.Device.lent heard.new.device in
    let pushed = c.in-Ok.ensures in
    one_read g.V.Device g.O.Sink _ _ c.args.run heard.result.taken (frames_lent heard.result.start lent)
    (heard.ensures.some c.requires.some) heard.ensures.within heard.ensures.taken
    heard.ensures.stands heard.ensures.answer
    (record { start = c.in-Some.start; frame = c.frame_bytes.result.now })
    (ap (λ s. frames_lent s lent) c.in-Some.is
    ∙ ap (λ x. let r : FrameRead = record { start = c.in-Some.start; frame = x } in r ∷ [])
    (sym c.frame_bytes.ensures.bytes))
    (λ start text waits. pushed.ok start text waits) (record {
      device = refl;
      lines = refl;
      out = refl;
      cause = record {
        never_falls = pushed.cause.never_falls;
        failed = tt;
        same = pushed.cause.same;
      };
      flushes = pushed.flushes;
    })

pub returns-in-Err : goal.returns-in-Err
returns-in-Err g c =
    let heard = c.hear_run-taken in
    let lent : List ℕ = g.V.Device.lent heard.new.device in
    let pushed = c.in-Err.ensures in
    one_failed g.V.Device g.O.Sink _ _ c.args.run heard.result.taken
    (frames_lent heard.result.start lent) (heard.ensures.some c.requires.some) heard.ensures.within
    heard.ensures.taken heard.ensures.stands heard.ensures.answer
    (record { start = c.in-Some.start; frame = c.frame_bytes.result.now })
    (ap (λ s. frames_lent s lent) c.in-Some.is
    ∙ ap (λ x. let r : FrameRead = record { start = c.in-Some.start; frame = x } in r ∷ [])
    (sym c.frame_bytes.ensures.bytes))
    (λ start text waits. pushed.err start text waits) (record {
      device = refl;
      lines = refl;
      out = refl;
      cause = record {
        never_falls = pushed.cause.never_falls;
        failed = pushed.cause.failed;
        same = tt;
      };
      flushes = pushed.flushes;
    })

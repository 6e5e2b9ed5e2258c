-- How the lines of the frames that a device reads go on when it hears more ticks.
use Rattle.device_model.specs.{Frames.FrameRead, declared.device.Device.Ghosts as Device}
use Rattle.line_commands.proofs.RunsGiven.{ticks_more, first_given, last_stopped}
use Rattle.line_commands.specs.FrameLines.{PrintsReads, KeepsHeld, printing}
use Rattle.command_ends.specs.FrameLine.{frame_line, frame_lines}
use Rattle.line_commands.specs.declared.frame_lines.FrameLines.{FrameLines}
use Rattle.std.proofs.Common.{◌≡◌, ◌∙◌, ℕ, ◌+◌, ◌<◌, ◌≤◌, List, [], ◌∷◌, ◌++◌, length, take}
use Rattle.std.proofs.Common.{Option, Ok, Err, subst, sym, ap, refl, append-nil}
use Rattle.std.proofs.lemmas.Grind.{flat_map-append}
use Rattle.tick_drive.specs.Consumers.{Gives, GivesFirst}
use Rattle.tick_drive.specs.declared.consumer.Stop.TheVariants.{WriteFault}
use Rattle.yasir_io.specs.Output.{Buffered, GotPrefix}
use Rattle.yasir_io.specs.{TextBuffer.waiting_bytes, declared.sink.Sink.Ghosts as Sink}
use Rattle.yasir_ticks.specs.{TickRun.run_ticks, TickRun.run_items, Ticks.ticks_in}
use Rattle.yasir_ticks.specs.declared.{tick.Tick.Tick, tick_run.TickRun.TickRun}

-- The device has heard the first n ticks of a run, and has read the frames `more` in them.
module _ {V O : Type 0} (device : Device V) (o : Sink O) (old new : FrameLines V O)
    (run : TickRun) (n : ℕ) (more : List FrameRead)
    (some : 0 < n) (within : n ≤ length (run_ticks run))
    (counts : device.taken new.device.now ≡ device.taken old.device.now + n)
    (stands : (line : List Tick) → device.stands old.device.now line
    → device.stands new.device.now (line ++ take n (run_ticks run)))
    (answer : (line : List Tick) → device.stands old.device.now line
    → device.reads (line ++ take n (run_ticks run)) ≡ device.reads line ++ more) where
  abbrev given : List Tick
  given = take n (run_ticks run)

  gives_heard : ((start : Option (List ℕ)) (line : List Tick) → PrintsReads device o old start line
      → PrintsReads device o new start (line ++ given))
      → KeepsHeld o old new (Ok tt) → GivesFirst (printing device o) old new (run_items run) n
  gives_heard moved keeps = first_given (printing device o) old new run n some within
      (λ start items before. subst (PrintsReads device o new start) (sym (ticks_more items run n))
      (moved start (ticks_in items) before)) counts tt keeps

  -- The lines of the frames that are read with these ticks are the lines so far, followed by those
  -- of the frames that are read in these ticks.
  lines_then : (line : List Tick) → device.stands old.device.now line
      → frame_lines (device.reads (line ++ given))
      ≡ frame_lines (device.reads line) ++ frame_lines more
  lines_then line hears = ap frame_lines (answer line hears)
      ∙ flat_map-append frame_line (device.reads line) more

  -- If no frame is read, and nothing was written, the lines are still those of all frames.
  pub none_read : more ≡ [] → new.lines.now ≡ old.lines.now → new.out.now ≡ old.out.now
      → KeepsHeld o old new (Ok tt) → GivesFirst (printing device o) old new (run_items run) n
  none_read none lines_are out_is keeps = gives_heard (λ start line before. record {
    hears = stands line before.hears;
    lines = rw (lines_are, out_is) (subst (Buffered start (o.held old.out.now)
        (waiting_bytes old.lines.now)) (sym (lines_then line before.hears
        ∙ ap (λ l. frame_lines (device.reads line) ++ frame_lines l) none ∙ append-nil _))
        before.lines);
  }) keeps

  -- what is printed if one frame is read
  module _ (read : FrameRead) (one : more ≡ read ∷ []) where
    line_then : (line : List Tick) → device.stands old.device.now line
        → frame_lines (device.reads line) ++ frame_line read
        ≡ frame_lines (device.reads (line ++ given))
    line_then line hears = sym (lines_then line hears
        ∙ ap (λ l. frame_lines (device.reads line) ++ frame_lines l) one
        ∙ ap (λ l. frame_lines (device.reads line) ++ l) (append-nil (frame_line read)))

    -- If the line of the frame is pushed, the lines are still those of all frames.
    pub one_read : ((start : Option (List ℕ)) (text : List ℕ)
        → Buffered start (o.held old.out.now) (waiting_bytes old.lines.now) text
        → Buffered start (o.held new.out.now) (waiting_bytes new.lines.now)
        (text ++ frame_line read))
        → KeepsHeld o old new (Ok tt) → GivesFirst (printing device o) old new (run_items run) n
    one_read push keeps = gives_heard (λ start line before. record {
      hears = stands line before.hears;
      lines = subst (Buffered start (o.held new.out.now) (waiting_bytes new.lines.now))
          (line_then line before.hears) (push start _ before.lines);
    }) keeps

    -- If writing the line of the frame fails, the consumer stops with `WriteFault`.
    pub one_failed : ((start : Option (List ℕ)) (text : List ℕ)
        → Buffered start (o.held old.out.now) (waiting_bytes old.lines.now) text
        → GotPrefix start (o.held new.out.now) (text ++ frame_line read))
        → KeepsHeld o old new (Err WriteFault)
        → Gives (printing device o) old new (run_items run) (Err WriteFault)
    one_failed push keeps = last_stopped (printing device o) old new run n some within WriteFault
        (λ start items before. record {
          why = refl;
          lines = subst (λ line. GotPrefix start (o.held new.out.now)
              (frame_lines (device.reads line))) (sym (ticks_more items run n))
              (subst (GotPrefix start (o.held new.out.now))
              (line_then (ticks_in items) before.hears) (push start _ before.lines));
        }) keeps

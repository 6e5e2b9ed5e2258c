-- How runs of `take` end.
use Rattle.std.proofs.Common.{◌≡◌, ◌∙◌, ℕ, ◌⊎◌, inl, inr, Bool, Option, refl, sym, ap, subst}
use Rattle.std.proofs.Common.{List, min, ◌+◌, ◌-◌, ◌^◌, ◌≤◌, [], arith}
use Rattle.{std.specs.Io.KnownBytes.append_known, yasir_io.specs.Output.GotPrefix}
use Rattle.line_stamps.specs.declared.capture.Way.TheVariants as way
use Rattle.command_ends.specs.declared.status.Status.{Status}
use Rattle.command_ends.specs.declared.status.Status.TheVariants as statuses
use Rattle.line_capture.specs.{Captures.Collects, Formats.Format, Inputs.Told, Outcomes.status_in}
use Rattle.line_capture.specs.UsageLines.{capture_fault_text}
use Rattle.line_capture.specs.Placed.{CountsOverlaps}
use Rattle.line_capture.specs.Distances.{CountsDistances, both_ways}
use Rattle.line_capture.specs.declared.distances.Distances.{Distances}
use Rattle.line_capture.specs.Takes.{CaptureHeld, stop_outcome, read_outcome, or_else, outcome_of}
use Rattle.line_capture.specs.Takes.{WritesTaken, TakesRead, TakesCapture}
use Rattle.line_capture.specs.Takes.{HasOutcome}
use Rattle.line_capture.specs.Takes.{timing_for, taken_lines, WrittenLines, WrittenFront, is_whole_capture}
use Rattle.line_capture.specs.Takes.HasOutcome.{same, flush_failed}
use Rattle.line_capture.specs.Takes.TakesCapture.{no_memory as no_room, read as was_read}
use Rattle.line_capture.specs.Takes.{TakesRead.no_memory, TakesRead.kept, WritesTaken.written}
use Rattle.line_capture.specs.{Takes.WritesTaken.failed, declared.collect.CaptureEnd.CaptureEnd}
use Rattle.line_stamps.specs.declared.{capture.CaptureByte.CaptureByte, timing.Timing.Timing}
use Rattle.command_ends.specs.{Causes.SinkCause, Reasons.untold, Statuses.fault_line}
use Rattle.command_ends.specs.declared.reasons.Reasons.{Reasons}
use Rattle.line_capture.specs.declared.collect.CaptureEnd.TheVariants as ends
use Rattle.line_capture.specs.declared.{collect.Kept.Kept, input.ReadEnd.ReadEnd}
use Rattle.line_capture.specs.declared.input.ReadEnd.TheVariants.{Whole, Failed, TooLong}
use Rattle.line_capture.specs.declared.outcome.Outcome.{Outcome}
use Rattle.line_capture.specs.declared.outcome.Outcome.TheVariants.{Ended, BadCapture}
use Rattle.line_capture.specs.declared.outcome.Outcome.TheVariants as outcomes
use Rattle.line_capture.specs.declared.placing.{LineEnd.LineEnd, LineStop.LineStop}
use Rattle.line_capture.specs.declared.placing.LineStop.TheVariants as stops
use Rattle.line_capture.proofs.Written.{lines_front, all_got, none_got}
use Rattle.line_capture.specs.declared.take.Taking.{Taking}

-- ---- the outcome of what was read and placed

-- what is true of each outcome of what was read and placed
record IsOfCapture (read : ReadEnd) (outcome : Outcome) : Type 0 where
  no_usage : outcome ≡ Ended statuses.Usage → ⊥
  read_fault : outcome ≡ Ended statuses.ReadFault → read ≡ Failed

of_read : (read : ReadEnd) → IsOfCapture read (read_outcome read)
of_read Failed = record { no_usage = λ is. cc; read_fault = λ is. refl }
of_read read = record { no_usage = λ is. cc; read_fault = λ is. cc }

of_stop : (read : ReadEnd) (w : _) (placed : ℕ) (stop : LineStop) (other : Outcome)
    → IsOfCapture read other → IsOfCapture read (or_else (stop_outcome w placed stop) other)
of_stop read w placed stops.AllPlaced other is = is
of_stop read w placed stop other is =
    record { no_usage = λ is. cc; read_fault = λ is. cc }

of_capture : (read : ReadEnd) (end : CaptureEnd) (a b : LineEnd)
    → IsOfCapture read (outcome_of read end a b)
of_capture read (ends.Bad bad) a b =
    record { no_usage = λ is. cc; read_fault = λ is. cc }
of_capture read end a b = of_stop read way.A a.placed a.stop _
    (of_stop read way.B b.placed b.stop _ (of_read read))

-- ---- the end of a run

-- A run that would be Done ends with Done after its flushes, or with WriteFault.
pub flushed : (status : Status) → (status ≡ statuses.Done) ⊎ (status ≡ statuses.WriteFault)
    → HasOutcome (Ended statuses.Done) (Ended status)
flushed status (inl done) = same (ap Ended done)
flushed status (inr fault) = flush_failed refl (ap Ended fault)

-- If no earlier call had a fault, the causes of the later calls are those of all calls.
pub sinks_then : (out0 out1 out2 log0 log1 log2 : ℕ) (status : Status) → out1 ≡ out0 → log1 ≡ log0
    → SinkCause out1 out2 log1 log2 status → SinkCause out0 out2 log0 log2 status
sinks_then out0 out1 out2 log0 log1 log2 status out log h =
    subst (λ n. SinkCause n out2 log0 log2 status) out
    (subst (λ n. SinkCause out1 out2 n log2 status) log h)

-- An outcome has a text that is written last only if the status with the same causes has a fault
-- line.
pub no_text : (words : List (List ℕ)) (told : Reasons) (outcome : Outcome)
    → fault_line untold (status_in outcome) ≡ [] → capture_fault_text words told outcome ≡ []
no_text words told (Ended statuses.Done) none = none
no_text words told (Ended statuses.WriteFault) none = none
no_text words told (Ended (statuses.Unclean verdict)) none = none
no_text words told (Ended status) none = cc
no_text words told outcome none = cc

-- no distances
abbrev none_found : Distances
none_found = record { one = 0; two = 0; three = 0; four = 0 }

module _ (taking : Taking) (k : Kept) (read : ReadEnd) (end : CaptureEnd) (before now : CaptureHeld)
    (a b : LineEnd)
    (lines : WrittenLines (timing_for taking k) taking.ways k before.out now.out a b)
    (overlaps_a overlaps_b overlaps : ℕ)
    (overlap_a : CountsOverlaps (timing_for taking k) k.a.items overlaps_a)
    (overlap_b : CountsOverlaps (timing_for taking k) k.b.items overlaps_b)
    (sum : overlaps ≡ min (overlaps_a + overlaps_b) (2 ^ 64 - 1))
    (distances_a distances_b found : Distances)
    (distance_a : CountsDistances (timing_for taking k) k.a.items distances_a)
    (distance_b : CountsDistances (timing_for taking k) k.b.items distances_b)
    (both : found ≡ both_ways distances_a distances_b)
    (log : now.log ≡ append_known before.log (taken_lines taking.ways overlaps found end k)) where
  pub ends_taken : (result : Outcome) → HasOutcome (outcome_of read end a b) result
      → WritesTaken taking k read end before now result
  ends_taken result (same is) = written (record {
    a_end = a;
    b_end = b;
    lines = lines;
    overlaps_a = overlaps_a;
    overlaps_b = overlaps_b;
    overlap_a = overlap_a;
    overlap_b = overlap_b;
    distances_a = distances_a;
    distances_b = distances_b;
    distance_a = distance_a;
    distance_b = distance_b;
    log = log ∙ ap (λ n. append_known before.log (taken_lines taking.ways n found end k)) sum
        ∙ ap (λ d. append_known before.log (taken_lines taking.ways
        (min (overlaps_a + overlaps_b) (2 ^ 64 - 1)) d end k)) both;
    outcome_is = is;
  })
  ends_taken result (flush_failed done is) = failed is (record {
    lines = lines_front (timing_for taking k) taking.ways k before.out now.out a b lines;
    overlaps = overlaps;
    found = found;
    log = all_got before.log now.log _ log;
  })

-- A run whose lines weren't all written ends with WriteFault, and nothing is in the log.
pub lines_fail : (taking : Taking) (k : Kept) (read : ReadEnd) (end : CaptureEnd)
    (before now : CaptureHeld) (t : Timing) → t ≡ timing_for taking k
    → WrittenFront t taking.ways k before.out now.out → now.log ≡ before.log
    → WritesTaken taking k read end before now (Ended statuses.WriteFault)
lines_fail taking k read end before now t timing lines log = failed refl (record {
  lines = subst (λ u. WrittenFront u taking.ways k before.out now.out) timing lines;
  overlaps = 0;
  found = none_found;
  log = subst (λ l. GotPrefix before.log l (taken_lines taking.ways 0 none_found end k)) (sym log)
      (none_got before.log (taken_lines taking.ways 0 none_found end k));
})

-- How a run ends after both lines have ended, from the clauses of the calls that end them.
module _ (taking : Taking) (k : Kept) (read : ReadEnd) (end : CaptureEnd) (before now : CaptureHeld)
    (t : Timing) (timing : t ≡ timing_for taking k) (a b : LineEnd) (out_now : Option (List ℕ))
    (lines : WrittenLines t taking.ways k before.out out_now a b)
    (overlaps : ℕ) (found : Distances) (log_mid : Option (List ℕ)) (log_same : log_mid ≡ before.log)
    (text items : List ℕ) (text_is : text ≡ items)
    (items_are : items ≡ taken_lines taking.ways overlaps found end k) where
  lines_are : WrittenLines (timing_for taking k) taking.ways k before.out out_now a b
  lines_are = subst (λ u. WrittenLines u taking.ways k before.out out_now a b) timing lines

  pub log_fails : now.out ≡ out_now → GotPrefix log_mid now.log text
      → WritesTaken taking k read end before now (Ended statuses.WriteFault)
  log_fails out got = failed refl (record {
    lines = subst (λ l. WrittenFront (timing_for taking k) taking.ways k before.out l) (sym out)
        (lines_front (timing_for taking k) taking.ways k before.out out_now a b lines_are);
    overlaps = overlaps;
    found = found;
    log = subst (λ l. GotPrefix before.log now.log l) (text_is ∙ items_are)
        (subst (λ l. GotPrefix l now.log text) log_same got);
  })

  pub log_goes : (xs ys : List CaptureByte) (na nb : ℕ) (da db : Distances)
      (log_now : Option (List ℕ))
      (result outcome : Outcome) → xs ≡ k.a.items → ys ≡ k.b.items → CountsOverlaps t xs na
      → CountsOverlaps t ys nb → overlaps ≡ min (na + nb) (2 ^ 64 - 1)
      → CountsDistances t xs da → CountsDistances t ys db → found ≡ both_ways da db
      → log_now ≡ append_known log_mid text → now.out ≡ out_now → now.log ≡ log_now
      → outcome ≡ outcome_of read end a b → HasOutcome outcome result
      → WritesTaken taking k read end before now result
  log_goes xs ys na nb da db log_now result outcome xs_are ys_are count_a count_b sum apart_a
      apart_b both got out log is has =
      ends_taken taking k read end before now a b
      (subst (λ l. WrittenLines (timing_for taking k) taking.ways k before.out l a b) (sym out)
      lines_are) na nb overlaps
      (subst (λ u. CountsOverlaps u k.a.items na) timing (subst (λ l. CountsOverlaps t l na) xs_are count_a))
      (subst (λ u. CountsOverlaps u k.b.items nb) timing (subst (λ l. CountsOverlaps t l nb) ys_are count_b))
      sum da db found
      (subst (λ u. CountsDistances u k.a.items da) timing (subst (λ l. CountsDistances t l da) xs_are apart_a))
      (subst (λ u. CountsDistances u k.b.items db) timing (subst (λ l. CountsDistances t l db) ys_are apart_b))
      both
      (log ∙ got ∙ ap (λ l. append_known l text) log_same
      ∙ ap (append_known before.log) (text_is ∙ items_are)) result
      (subst (λ o. HasOutcome o result) is has)

-- What was read was taken, if it was collected and written.
pub takes_kept : (format : Format) (taking : Taking) (read : ReadEnd) (file xs : List ℕ)
    (whole : Bool) (k : Kept) (end : CaptureEnd) (before now : CaptureHeld) (outcome : Outcome)
    → whole ≡ is_whole_capture read → xs ≡ file → Collects format taking whole xs k end
    → WritesTaken taking k read end before now outcome
    → TakesRead format taking read file before now outcome
takes_kept format taking read file xs whole k end before now outcome all is collects writes =
    kept (record {
      kept = k;
      end = end;
      collects = subst (λ w. Collects format taking w file k end) all
          (subst (λ l. Collects format taking whole l k end) is collects);
      writes = writes;
    })

-- ---- what an outcome tells

module _ (format : Format) (taking : Taking) (file : List ℕ) (before now : CaptureHeld) where
  taken_usage : (k : Kept) (read : ReadEnd) (end : CaptureEnd) (outcome : Outcome)
      → WritesTaken taking k read end before now outcome → outcome ≡ Ended statuses.Usage → ⊥
  taken_usage k read end outcome (written all) is =
      (of_capture read end all.a_end all.b_end).no_usage (sym all.outcome_is ∙ is)
  taken_usage k read end outcome (failed fault part) is = cc

  taken_fault : (k : Kept) (read : ReadEnd) (end : CaptureEnd) (outcome : Outcome)
      → WritesTaken taking k read end before now outcome → outcome ≡ Ended statuses.ReadFault
      → read ≡ Failed
  taken_fault k read end outcome (written all) is =
      (of_capture read end all.a_end all.b_end).read_fault (sym all.outcome_is ∙ is)
  taken_fault k read end outcome (failed fault part) is = cc

  read_usage : (read : ReadEnd) (outcome : Outcome)
      → TakesRead format taking read file before now outcome → outcome ≡ Ended statuses.Usage → ⊥
  read_usage read outcome (no_memory none) is = let h = none.outcome_is in cc
  read_usage read outcome (kept takes) is =
      taken_usage takes.kept read takes.end outcome takes.writes is

  pub read_fault_is : (read : ReadEnd) (outcome : Outcome)
      → TakesRead format taking read file before now outcome
      → outcome ≡ Ended statuses.ReadFault → read ≡ Failed
  read_fault_is read outcome (no_memory none) is = let h = none.outcome_is in cc
  read_fault_is read outcome (kept takes) is =
      taken_fault takes.kept read takes.end outcome takes.writes is

pub take_usage : (format : Format) (taking : Taking) (in_before in_now : Told)
    (before now : CaptureHeld) (outcome : Outcome) → TakesCapture format taking in_before in_now before now outcome
    → outcome ≡ Ended statuses.Usage → ⊥
take_usage format taking in_before in_now before now outcome (no_room none) is =
    let h = none.outcome_is in cc
take_usage format taking in_before in_now before now outcome (was_read input) is =
    read_usage format taking input.file before now input.read outcome input.takes is

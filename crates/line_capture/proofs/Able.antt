-- Right input isn't refused.
use Rattle.std.proofs.Common.{◌≡◌, ◌∙◌, ℕ, ◌≤◌, inl, inr, List, [], ◌∷◌, ◌++◌, length, true, Option}
use Rattle.std.proofs.Common.{Some, refl, sym, ap, subst, arith, length-append, append_assoc}
use Rattle.tick_drive.specs.{Input.max_bytes, declared.end.End.End}
use Rattle.yasir_io.specs.Causes.{Rose}
use Rattle.tick_drive.specs.declared.end.End.TheVariants as drive_ends
use Rattle.command_ends.specs.{Causes.SinkCause, PrintsText.PrintsText, Readable.IsReadableWith}
use Rattle.{command_ends.specs.declared.status.Status.Status, session_lists.specs.Listing.EndsBefore}
use Rattle.command_ends.specs.declared.status.Status.TheVariants as statuses
use Rattle.line_stamps.specs.declared.capture.CaptureByte.{CaptureByte}
use Rattle.command_ends.proofs.Readable.{all_of_told, met_of_told, not_refused, not_too_long}
use Rattle.line_stamps.specs.declared.capture.Way.TheVariants as way
use Rattle.line_capture.specs.Able.{IsTakeable, IsGivable, IsPlacedWhole, timing_of_items, CaptureEndsWell}
use Rattle.line_capture.specs.Captures.{NoError, is_error, HoldsItems, Collects, way_bytes}
use Rattle.line_capture.specs.Captures.{CaptureIsRefused, CaptureIsRefused.at_byte, CaptureIsRefused.at_error}
use Rattle.line_capture.specs.{Captures.CaptureIsRefused.at_end, Formats.Format}
use Rattle.line_capture.specs.Gives.{marks_for, GivesFile, GivesRead, GivesCapture, end_status}
use Rattle.line_capture.specs.Gives.GivesCapture.{no_memory as no_input_given, read as input_given}
use Rattle.line_capture.specs.Gives.GivesFile.{no_memory as no_memory_given, refused, given}
use Rattle.line_capture.specs.{Inputs.Told, Inputs.IsRead, Outcomes.status_in}
use Rattle.line_capture.specs.Takes.{CaptureHeld, TakesCapture, TakesRead, WritesTaken, timing_for, outcome_of}
use Rattle.line_capture.specs.Takes.{read_outcome, or_else, stop_outcome, origin_of}
use Rattle.line_capture.specs.Takes.TakesCapture.{no_memory as no_room, read as was_read}
use Rattle.line_capture.specs.Takes.TakesRead.{no_memory, kept as was_kept}
use Rattle.line_capture.specs.Takes.WritesTaken.{written, failed}
use Rattle.line_capture.specs.declared.bad_capture.BadCapture.{BadCapture}
use Rattle.line_capture.specs.declared.collect.CaptureEnd.{CaptureEnd}
use Rattle.line_stamps.specs.declared.{rate.Rate.Rate, seen.Seen.Seen, seen.Seen.TheVariants.Event}
use Rattle.line_stamps.specs.declared.timing.Timing.{Timing}
use Rattle.line_capture.specs.declared.collect.CaptureEnd.TheVariants as ends
use Rattle.line_capture.proofs.{PlacedWhole.all_placed, SoundForms.IsSound}
use Rattle.line_capture.specs.declared.{collect.Kept.Kept, input.ReadEnd.ReadEnd}
use Rattle.line_capture.specs.declared.input.ReadEnd.TheVariants.{Whole, Failed, TooLong}
use Rattle.line_capture.specs.declared.outcome.Outcome.{Outcome, TheVariants.Ended}
use Rattle.line_capture.specs.declared.{take.Taking.Taking, words.GiveForm.GiveForm}

-- an outcome without a refusal
pub data EndsFree (outcome : Outcome) : Type 0 where
  done : outcome ≡ Ended statuses.Done → EndsFree outcome
  no_room_left : outcome ≡ Ended statuses.NoMemory → EndsFree outcome
  not_read : outcome ≡ Ended statuses.ReadFault → EndsFree outcome
  not_written : outcome ≡ Ended statuses.WriteFault → EndsFree outcome

-- ---- what was read of the input

-- An input that was read without a fault was read whole.
whole_read : (file bytes : List ℕ) (before now : Told) (end : ReadEnd) → before.left ≡ Some file
    → length file ≤ max_bytes → ¬ Rose before.faults now.faults → IsRead before now bytes end
    → (end ≡ Whole) × (file ≡ bytes)
whole_read file bytes before now Whole told few calm is =
    (refl, all_of_told file bytes now.left (sym told ∙ is.reads.0) is.reads.1)
whole_read file bytes before now Failed told few calm is = absurd (calm is.cause)
whole_read file bytes before now TooLong told few calm is =
    let over = is.reads in
    let met = met_of_told file (bytes ++ over.more) now.left (sym told ∙ over.came) in
    let long = ap length met.1 ∙ length-append (bytes ++ over.more) met.0 in
    let longer = length-append bytes over.more in
    let full = over.full in
    absurd (none_more over.more over.some (omega arith))
  where
    none_more : (more : List ℕ) → (more ≡ [] → ⊥) → length more ≤ 0 → ⊥
    none_more [] some none = some refl
    none_more (b ∷ more) some none = absurd (omega arith)

-- ---- a right capture

no_error_inside : (x : List Seen) (error : Seen) (y : List Seen) → NoError ((x ++ error ∷ []) ++ y)
    → is_error error ≡ true → ⊥
no_error_inside [] error y right wrong = let h = right.0 in cc
no_error_inside (item ∷ x) error y right wrong = no_error_inside x error y right.1 wrong

module _ (format : Format) (sound : IsSound format) (taking : Taking) (file : List ℕ)
    (items : List Seen) (is : format.is file items) (right : NoError items) where
  never_refused : (kept : Kept) (bad : BadCapture)
      → CaptureIsRefused format taking true file kept bad → ⊥
  never_refused kept bad (at_byte r) =
      sound.refused r.front r.items r.byte bad r.more items r.refused
      (subst (λ l. format.is l items) r.is is)
  never_refused kept bad (at_error e) =
      let file_is : file ≡ (e.front ++ e.byte ∷ []) ++ e.more =
      e.is ∙ sym (append_assoc e.front (e.byte ∷ []) e.more) in
      let first = sound.first (e.front ++ e.byte ∷ []) (e.items ++ Event e.error ∷ []) e.more items e.begins
      (subst (λ l. format.is l items) file_is is) in
      no_error_inside e.items (Event e.error) first.0 (subst NoError first.1 right) e.wrong
  never_refused kept bad (at_end all e) = sound.lacking file e.taken.items bad items e.lacks is

  -- All of a right capture is kept.
  all_kept : (kept : Kept) (end : CaptureEnd) → Collects format taking true file kept end
      → (end ≡ ends.Whole) × HoldsItems taking.ways kept items
  all_kept kept ends.Whole collects =
      let taken = collects.1 in (
        refl,
        subst (HoldsItems taking.ways kept)
            (sound.alike file taken.items items taken.is is) taken.holds,
      )
  all_kept kept ends.Open collects = let h = collects.0 in cc
  all_kept kept (ends.Bad bad) collects = absurd (never_refused kept bad collects)

  timing_is : (kept : Kept) → HoldsItems taking.ways kept items
      → timing_for taking kept ≡ timing_of_items taking items
  timing_is kept holds =
      let P : List CaptureByte → List CaptureByte → Timing = λ x y.
      record { rate = taking.rate; spacing = taking.spacing; origin = origin_of x y } in
      ap (λ x. P x kept.b.items) holds.a_is
      ∙ ap (P (way_bytes taking.ways way.A items)) holds.b_is

  module _ (a_whole : IsPlacedWhole (timing_of_items taking items) (way_bytes taking.ways way.A items))
      (b_whole : IsPlacedWhole (timing_of_items taking items) (way_bytes taking.ways way.B items))
      (before now : CaptureHeld) (outcome : Outcome) where
    -- All of a right capture is placed, so that nothing is refused.
    capture_done : (kept : Kept) (end : CaptureEnd) → Collects format taking true file kept end
        → WritesTaken taking kept Whole end before now outcome → EndsFree outcome
    capture_done kept end collects (failed fault part) = not_written fault
    capture_done kept end collects (written all) =
        let whole = all_kept kept end collects in
        let timing = timing_is kept whole.1 in
        let places = all.lines.places in
        let a_stop = all_placed (timing_for taking kept) kept.a.items places.front_a places.rest_a
        all.a_end.stop places.a_is_front.is
        (subst (λ t. IsPlacedWhole t kept.a.items) (sym timing)
        (subst (IsPlacedWhole (timing_of_items taking items)) (sym whole.1.a_is) a_whole))
        places.a_stop in
        let b_stop = all_placed (timing_for taking kept) kept.b.items places.front_b places.rest_b
        all.b_end.stop places.b_is_front.is
        (subst (λ t. IsPlacedWhole t kept.b.items) (sym timing)
        (subst (IsPlacedWhole (timing_of_items taking items)) (sym whole.1.b_is) b_whole))
        places.b_stop in
        done (all.outcome_is ∙ ap (λ e. outcome_of Whole e all.a_end all.b_end) whole.0
        ∙ ap (λ s. or_else (stop_outcome way.A all.a_end.placed s)
        (or_else (stop_outcome way.B all.b_end.placed all.b_end.stop) (read_outcome Whole))) a_stop
        ∙ ap (λ s. or_else (stop_outcome way.B all.b_end.placed s) (read_outcome Whole)) b_stop)

    file_done : TakesRead format taking Whole file before now outcome → EndsFree outcome
    file_done (no_memory none) = no_room_left none.outcome_is
    file_done (was_kept takes) = capture_done takes.kept takes.end takes.collects takes.writes

pub take_done : (format : Format) (sound : IsSound format) (taking : Taking) (in_before in_now : Told)
    (before now : CaptureHeld) (outcome : Outcome) → TakesCapture format taking in_before in_now before now outcome
    → IsTakeable format taking in_before.left → ¬ Rose in_before.faults in_now.faults
    → EndsFree outcome
take_done format sound taking in_before in_now before now outcome (no_room none) able calm =
    no_room_left none.outcome_is
take_done format sound taking in_before in_now before now outcome (was_read input) able calm =
    let read = whole_read able.file input.file in_before in_now input.read able.told able.few calm
    input.reads in
    file_done format sound taking able.file able.items able.right able.no_error able.a able.b before
    now outcome
    (subst (λ e. TakesRead format taking e able.file before now outcome) read.0
    (subst (λ l. TakesRead format taking input.read l before now outcome) (sym read.1) input.takes))

-- ---- a right tick text

not_ended : (marks : ℕ) (file : List ℕ) (left : Option (List ℕ)) (end : End) (outcome : Outcome)
    → IsReadableWith marks (Some file) → EndsBefore marks (Some file) left end
    → outcome ≡ Ended (end_status end) → EndsFree outcome
not_ended marks file left drive_ends.Whole outcome readable before is = absurd (before.other refl)
not_ended marks file left (drive_ends.Refused bad) outcome readable before is =
    absurd (not_refused 0 (Some file) left before.items readable bad before.takes)
not_ended marks file left (drive_ends.TooLong what count) outcome readable before is =
    absurd (not_too_long 0 (Some file) left before.items readable what count before.takes)
not_ended marks file left drive_ends.ReadFault outcome readable before is = not_read is
not_ended marks file left (drive_ends.Stopped stop) outcome readable before is = no_room_left is

pub printed : (text : List ℕ) (before now : Option (List ℕ)) (status : Status) (outcome : Outcome)
    → PrintsText text before now status → outcome ≡ Ended status → EndsFree outcome
printed text before now statuses.Done outcome prints is = done is
printed text before now statuses.WriteFault outcome prints is = not_written is
printed text before now status outcome prints is = absurd prints

text_done : (form : GiveForm) (rate : Rate) (file : List ℕ) (before now : CaptureHeld) (outcome : Outcome)
    → IsReadableWith (marks_for form file) (Some file)
    → GivesFile form rate file before now outcome → EndsFree outcome
text_done form rate file before now outcome readable (no_memory_given none) =
    no_room_left none.outcome_is
text_done form rate file before now outcome readable (refused bad) =
    not_ended (marks_for form file) file bad.left bad.end outcome readable bad.ends bad.outcome_is
text_done form rate file before now outcome readable (given all) =
    printed all.capture before.out now.out all.status outcome all.out all.outcome_is

told_few : (marks : ℕ) (file : List ℕ) → IsReadableWith marks (Some file) → length file ≤ max_bytes
told_few marks file readable =
    let e : file ≡ readable.text = same file readable.text readable.told in
    let few = readable.few_bytes in
    let h = ap length e in omega arith
  where
    same : (x y : List ℕ) → ◌≡◌ {A = Option (List ℕ)} (Some x) (Some y) → x ≡ y
    same x y e = cc

pub give_done : (form : GiveForm) (rate : Rate) (in_before in_now : Told) (before now : CaptureHeld)
    (outcome : Outcome) → GivesCapture form rate in_before in_now before now outcome
    → IsGivable form in_before.left → ¬ Rose in_before.faults in_now.faults → EndsFree outcome
give_done form rate in_before in_now before now outcome (no_input_given none) able calm =
    no_room_left none.outcome_is
give_done form rate in_before in_now before now outcome (input_given input) able calm =
    let few = told_few (marks_for form able.file) able.file able.readable in
    let read = whole_read able.file input.file in_before in_now input.read able.told few calm
    input.reads in
    text_done form rate able.file before now outcome able.readable
    (subst (λ e. GivesRead form rate e able.file before now outcome) read.0
    (subst (λ l. GivesRead form rate input.read l before now outcome) (sym read.1) input.gives))

-- ---- how a run ends if nothing fails

pub ends_well : (outcome : Outcome) (in0 in1 out0 out1 log0 log1 : ℕ) → EndsFree outcome
    → (outcome ≡ Ended statuses.ReadFault → Rose in0 in1)
    → SinkCause out0 out1 log0 log1 (status_in outcome) → ¬ Rose in0 in1 → ¬ Rose out0 out1
    → ¬ Rose log0 log1 → CaptureEndsWell outcome
ends_well outcome in0 in1 out0 out1 log0 log1 (done is) read sinks calm_in calm_out calm_log = inl is
ends_well outcome in0 in1 out0 out1 log0 log1 (no_room_left is) read sinks calm_in calm_out calm_log =
    inr is
ends_well outcome in0 in1 out0 out1 log0 log1 (not_read is) read sinks calm_in calm_out calm_log =
    absurd (calm_in (read is))
ends_well outcome in0 in1 out0 out1 log0 log1 (not_written is) read sinks calm_in calm_out calm_log =
    let rose : SinkCause out0 out1 log0 log1 statuses.WriteFault =
    subst (λ o. SinkCause out0 out1 log0 log1 (status_in o)) is sinks in
    absurd (elim rose [ inl out ↦ calm_out out | inr log ↦ calm_log log ])

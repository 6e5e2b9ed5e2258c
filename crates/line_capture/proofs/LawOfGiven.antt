-- A capture that was given is taken as the same ticks, for each form.
use Rattle.capture_pcap.specs.Pcap.{IsPcapHeader, IsCapture}
use Rattle.capture_pcap.specs.{Writing.written_clock, declared.writer.TheConstants.FILE_HEADER}
use Rattle.capture_text.specs.Reader.{IsSeenText}
use Rattle.line_stamps.specs.declared.capture.Way.TheVariants.{A, B}
use Rattle.line_stamps.specs.declared.{rate.Rate.Rate, seen.Seen.TheVariants.Byte}
use Rattle.std.proofs.Common.{◌≡◌, ◌∙◌, ℕ, zero, suc, ◌≤◌, List, [], ◌∷◌, length, map, Some, refl}
use Rattle.std.proofs.Common.{sym, ap, subst}
use Rattle.{session_lists.specs.Parts.part, yasir_ticks.proofs.TextTicks.text-ticks}
use Rattle.yasir_ticks.specs.Ticks.{Item, ticks_in, marks_in, AreTicks, Item.tick, Item.mark}
use Rattle.yasir_ticks.specs.declared.tick.Tick.{Tick}
use Rattle.command_ends.specs.declared.status.Status.TheVariants as statuses
use Rattle.line_capture.specs.{Formats.format_of, Gives.AreLinesOf, Gives.IsGiven, Gives.marks_for}
use Rattle.line_capture.specs.Inputs.{Told}
use Rattle.line_capture.specs.Records.{LineRecord, AreRecords, records_of}
use Rattle.line_capture.specs.TakenAgain.{taken_as, both_ways, TakesAgain}
use Rattle.line_capture.specs.{Takes.CaptureHeld, Takes.TakesCapture, declared.outcome.Outcome.Outcome}
use Rattle.line_capture.specs.declared.{outcome.Outcome.TheVariants.Ended, words.GiveForm.GiveForm}
use Rattle.line_capture.specs.declared.words.GiveForm.TheVariants as give_forms
use Rattle.line_capture.specs.declared.words.TakeForm.{TakeForm}
use Rattle.line_capture.specs.declared.words.TakeForm.TheVariants as take_forms
use Rattle.line_capture.proofs.GivenFiles.{AreRight, right_records, right_both, packets_are}
use Rattle.line_capture.proofs.GivenFiles.{lines_are, none_of_b}
use Rattle.line_capture.proofs.{GivenRecords.bytes_of_records, Gives.few_ticks}
use Rattle.line_capture.proofs.{SoundForms.sound_form, TakenAgain.run-again}
use Rattle.line_capture.{proofs.TakenAgain.takeable-again, specs.Able.IsTakeable}
use Rattle.tick_drive.specs.Input.{max_bytes}

-- If all ticks of a text are right, so are those of a part.
part_ticks : (n : ℕ) (items : List Item) → AreTicks (ticks_in items) → AreTicks (part n items)
part_ticks n [] ticks = tt
part_ticks zero (tick t ∷ items) ticks = (ticks.0, part_ticks zero items ticks.1)
part_ticks zero (mark ∷ items) ticks = tt
part_ticks (suc n) (tick t ∷ items) ticks = part_ticks (suc n) items ticks.1
part_ticks (suc n) (mark ∷ items) ticks = part_ticks n items ticks

-- without a mark there is no second list
no_part : (items : List Item) → marks_in items ≡ 0 → part 1 items ≡ []
no_part [] none = refl
no_part (tick t ∷ items) none = no_part items none
no_part (mark ∷ items) none = cc

module _ (form : GiveForm) (text : List ℕ) (a b : List Tick) (lines : AreLinesOf form text a b)
  where
    all_ticks : AreTicks (ticks_in lines.items)
    all_ticks = text-ticks (marks_for form text) text lines.items lines.right

    pub all_right : (records : List _) → AreRecords a b records → AreRight records
    all_right records are =
        let few = few_ticks form text a b lines in
        let ticks_a : AreTicks a = subst AreTicks (sym lines.a_is) (part_ticks 0 lines.items all_ticks) in
        let ticks_b : AreTicks b = subst AreTicks (sym lines.b_is) (part_ticks 1 lines.items all_ticks) in
        right_both records
        (subst AreRight (sym are.a_are) (right_records A a ticks_a few.0))
        (subst AreRight (sym are.b_are) (right_records B b ticks_b few.1))

-- The file is a capture of the records of two lines, in the form in which it is taken.
record IsCaptureOf (taken : TakeForm) (rate : Rate) (a b : List Tick) (file : List ℕ) : Type 0 where
  records : List LineRecord
  are : AreRecords a b records
  is : (format_of taken).is file (map Byte (bytes_of_records rate records))

is_capture : (form : GiveForm) (taken : TakeForm) (rate : Rate) (text : List ℕ) (a b : List Tick)
    (file : List ℕ) → IsPcapHeader written_clock FILE_HEADER → taken_as form ≡ Some taken
    → AreLinesOf form text a b → IsGiven form rate a b file → IsCaptureOf taken rate a b file
is_capture give_forms.Pcap take_forms.Pcap rate text a b file header same lines given =
    let right = all_right give_forms.Pcap text a b lines given.records given.are in record {
      records = given.records;
      are = given.are;
      is = subst (λ l. IsCapture l (map Byte (bytes_of_records rate given.records)))
          (sym given.text_is) (packets_are rate given.records header right);
    }
is_capture give_forms.Text take_forms.Text rate text a b file header same lines given =
    let right = all_right give_forms.Text text a b lines given.records given.are in
    let none : b ≡ [] = lines.b_is ∙ no_part lines.items lines.right.marked in
    let all = none_of_b given.records (given.are.b_are ∙ ap (records_of B) none) in record {
      records = given.records;
      are = given.are;
      is = subst (λ l. IsSeenText l (map Byte (bytes_of_records rate given.records)))
          (sym given.text_is) (lines_are rate given.records right all);
    }
is_capture give_forms.Pcap take_forms.Text rate text a b file header same lines given = cc
is_capture give_forms.Pcap take_forms.Logic2 rate text a b file header same lines given = cc
is_capture give_forms.Pcap take_forms.Sigrok rate text a b file header same lines given = cc
is_capture give_forms.Text take_forms.Pcap rate text a b file header same lines given = cc
is_capture give_forms.Text take_forms.Logic2 rate text a b file header same lines given = cc
is_capture give_forms.Text take_forms.Sigrok rate text a b file header same lines given = cc
is_capture give_forms.Vcd taken rate text a b file header same lines given = cc

module _ (form : GiveForm) (taken : TakeForm) (rate : Rate) (text : List ℕ) (a b : List Tick)
    (file : List ℕ) (header : IsPcapHeader written_clock FILE_HEADER) (same : taken_as form ≡ Some taken)
    (lines : AreLinesOf form text a b) (given : IsGiven form rate a b file) where
  capture : IsCaptureOf taken rate a b file
  capture = is_capture form taken rate text a b file header same lines given

  pub given_again : (in_before in_now : Told) (before now : CaptureHeld) (outcome : Outcome)
      → in_before.left ≡ Some file
      → TakesCapture (format_of taken) (both_ways rate) in_before in_now before now outcome
      → outcome ≡ Ended statuses.Done → TakesAgain a b before now
  given_again in_before in_now before now outcome told takes done =
      run-again (format_of taken) (sound_form taken) rate a b capture.records capture.are file
      capture.is before now in_before in_now outcome told takes done

  pub given_right : length file ≤ max_bytes
      → IsTakeable (format_of taken) (both_ways rate) (Some file)
  given_right few =
      let short = few_ticks form text a b lines in
      takeable-again (format_of taken) (sound_form taken) rate a b capture.records capture.are file
      capture.is few short.0 short.1

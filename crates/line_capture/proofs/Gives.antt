-- How runs of `give` end.
use Rattle.std.proofs.Common.{◌≡◌, ◌∙◌, ℕ, zero, suc, ◌+◌, ◌<◌, ◌≤◌, ◌==◌, ◌&&◌, ◌||◌, Bool, true}
use Rattle.std.proofs.Common.{false, List, [], ◌∷◌, length, drop, get_or, Option, Some, refl, sym}
use Rattle.std.proofs.Common.{ap, subst, arith, append-nil}
use Rattle.std.proofs.Math.{ListN.drop_of_length-le, Seq.drop-cons}
use Rattle.tick_drive.specs.Input.{max_ticks, IsReadCause, is_read_fault}
use Rattle.tick_drive.specs.declared.end.End.{End}
use Rattle.yasir_ticks.specs.{Characters.line_feed, Characters.percent_sign, TickText.IsTickText}
use Rattle.yasir_ticks.specs.Ticks.{Item, ticks_in, Item.tick, Item.mark}
use Rattle.tick_drive.specs.declared.end.End.TheVariants as ends
use Rattle.command_ends.{proofs.Readable.all_of_told, specs.Causes.SinkCause}
use Rattle.command_ends.specs.{PrintsText.PrintsText, declared.status.Status.Status}
use Rattle.session_lists.specs.{Listing.KeepsWhole, Parts.part, TickLists.ticks_first}
use Rattle.session_lists.specs.{TickLists.ticks_second, declared.tick_lists.TickLists.TickLists}
use Rattle.command_ends.specs.declared.status.Status.TheVariants as statuses
use Rattle.line_capture.specs.Gives.{has_mark_behind, marks_for, AreLinesOf, end_status, GivesFile}
use Rattle.line_capture.specs.Gives.{GivesRead, GivesCapture}
use Rattle.line_capture.specs.Gives.GivesCapture.{no_memory as no_room, read as was_read}
use Rattle.line_capture.specs.Gives.GivesFile.{no_memory, refused, given}
use Rattle.line_capture.specs.{Inputs.Told, Takes.CaptureHeld, declared.input.ReadEnd.ReadEnd}
use Rattle.line_capture.specs.declared.input.ReadEnd.TheVariants.{Whole, Failed, TooLong}
use Rattle.line_capture.specs.declared.outcome.Outcome.{Outcome, TheVariants.Ended}
use Rattle.line_capture.specs.declared.words.GiveForm.{GiveForm}
use Rattle.line_stamps.specs.declared.rate.Rate.{Rate}

-- ---- a mark

module _ (text : List ℕ) (i d before : ℕ) (all : Bool) (within : i < length text)
    (had : has_mark_behind before (drop i text) ≡ all) where
  here : has_mark_behind before (get_or text i d ∷ drop (suc i) text) ≡ all
  here = ap (has_mark_behind before) (sym (drop-cons text i d within)) ∙ had

  pub mark_found : (before == line_feed && get_or text i d == percent_sign) ≡ true → true ≡ all
  mark_found is =
      ap (λ v. v || has_mark_behind (get_or text i d) (drop (suc i) text)) (sym is) ∙ here

  pub mark_not_yet : (before == line_feed && get_or text i d == percent_sign) ≡ false
      → has_mark_behind (get_or text i d) (drop (i + 1) text) ≡ all
  mark_not_yet is =
      ap (λ (k : ℕ). has_mark_behind (get_or text i d) (drop k text))
      (let e : i + 1 ≡ suc i = omega arith in e) ∙ ap (λ v. v || has_mark_behind (get_or text i d) (drop (suc i) text)) (sym is) ∙ here

pub no_mark : (text : List ℕ) (i before : ℕ) (all : Bool) → length text ≤ i
    → has_mark_behind before (drop i text) ≡ all → false ≡ all
no_mark text i before all behind had =
    ap (has_mark_behind before) (sym (drop_of_length-le text behind)) ∙ had

-- ---- the lines of a file

pub part_few : (n : ℕ) (items : List Item) → length (part n items) ≤ length (ticks_in items)
part_few n [] = omega arith
part_few zero (tick t ∷ items) = let h = part_few zero items in omega arith
part_few zero (mark ∷ items) = omega arith
part_few (suc n) (tick t ∷ items) = let h = part_few (suc n) items in omega arith
part_few (suc n) (mark ∷ items) = part_few n items

pub are_lines : (form : GiveForm) (file : List ℕ) (marks : ℕ) (now : Option (List ℕ))
    (lists : TickLists) → marks ≡ marks_for form file → KeepsWhole marks (Some file) now lists
    → AreLinesOf form file (ticks_first lists) (ticks_second lists)
are_lines form file marks now lists is keeps =
    let whole = keeps.takes in
    let items : keeps.items ≡ whole.told = whole.are ∙ append-nil whole.told in
    let text : file ≡ whole.text = all_of_told file whole.text now whole.met.met.came whole.met.at_end in
    record {
      items = whole.told;
      right = subst (λ m. IsTickText m file whole.told) is
          (subst (λ l. IsTickText marks l whole.told) (sym text) whole.right);
      few = whole.few;
      a_is = keeps.holds.first_is ∙ ap (part 0) items;
      b_is = keeps.holds.second_is ∙ ap (part 1) items;
    }

pub few_ticks : (form : GiveForm) (file : List ℕ) (a b : List _) → AreLinesOf form file a b
    → (length a ≤ max_ticks) × (length b ≤ max_ticks)
few_ticks form file a b lines =
    let h = part_few 0 lines.items in
    let g = part_few 1 lines.items in
    let few = lines.few in
    let e = ap length lines.a_is in
    let f = ap length lines.b_is in (omega arith, omega arith)

-- ---- how a run ends

-- A text in memory is read without a fault.
pub no_read_fault : (end : End) → IsReadCause 0 0 (is_read_fault end)
    → Ended (end_status end) ≡ Ended statuses.ReadFault → ⊥
no_read_fault ends.ReadFault cause is = let h = cause.failed refl in absurd (omega arith)
no_read_fault end cause is = cc

-- The causes are right if no sink was called.
pub quiet_end : (end : End) (out log : ℕ) → SinkCause out out log log (end_status end)
quiet_end ends.Whole out log = (refl, refl)
quiet_end end out log = (refl, omega arith)

end_no_usage : (end : End) → Ended (end_status end) ≡ Ended statuses.Usage → ⊥
end_no_usage ends.Whole is = cc
end_no_usage end is = cc

print_no_usage : (text : List ℕ) (before now : Option (List ℕ)) (status : Status)
    → PrintsText text before now status → Ended status ≡ Ended statuses.Usage → ⊥
print_no_usage text before now statuses.Done prints is = cc
print_no_usage text before now statuses.WriteFault prints is = cc
print_no_usage text before now statuses.Usage prints is = prints
print_no_usage text before now status prints is = cc

file_no_usage : (form : GiveForm) (rate : Rate) (file : List ℕ) (before now : CaptureHeld)
    (outcome : Outcome) → GivesFile form rate file before now outcome
    → outcome ≡ Ended statuses.Usage → ⊥
file_no_usage form rate file before now outcome (no_memory none) is =
    let h = none.outcome_is in cc
file_no_usage form rate file before now outcome (refused bad) is =
    end_no_usage bad.end (sym bad.outcome_is ∙ is)
file_no_usage form rate file before now outcome (given all) is =
    print_no_usage all.capture before.out now.out all.status all.out (sym all.outcome_is ∙ is)

read_no_usage : (form : GiveForm) (rate : Rate) (read : ReadEnd) (file : List ℕ) (before now : CaptureHeld)
    (outcome : Outcome) → GivesRead form rate read file before now outcome
    → outcome ≡ Ended statuses.Usage → ⊥
read_no_usage form rate Whole file before now outcome gives is =
    file_no_usage form rate file before now outcome gives is
read_no_usage form rate read file before now outcome gives is = let h = gives.0 in cc

pub give_usage : (form : GiveForm) (rate : Rate) (in_before in_now : Told)
    (before now : CaptureHeld) (outcome : Outcome) → GivesCapture form rate in_before in_now before now outcome
    → outcome ≡ Ended statuses.Usage → ⊥
give_usage form rate in_before in_now before now outcome (no_room none) is =
    let h = none.outcome_is in cc
give_usage form rate in_before in_now before now outcome (was_read input) is =
    read_no_usage form rate input.read input.file before now outcome input.gives is

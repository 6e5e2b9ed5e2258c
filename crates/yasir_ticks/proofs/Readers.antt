-- Steps of a reader, from what its parts do.
use Rattle.std.proofs.Common.{◌≡◌, ◌≢◌, ℕ, List, [], Option, Some, None, Result, Ok, Err, ◌∙◌, ap}
use Rattle.{std.proofs.Common.sym, std.proofs.Common.refl, yasir_ticks.proofs.Contents.test_of}
use Rattle.yasir_ticks.{proofs.Items.marks_in-content, specs.Reader.items_of_content}
use Rattle.yasir_ticks.specs.ReaderStep.{Accepts, Refuses, Advances, Closes, Stops}
use Rattle.yasir_ticks.specs.Ticks.{items_of_run, marks_in}
use Rattle.yasir_ticks.specs.declared.{fault.TickFault.TickFault, place.Content.Content}
use Rattle.yasir_ticks.specs.declared.place.Place.{Place, TheVariants.Refused}
use Rattle.yasir_ticks.specs.declared.reader.TickReader.{TickReader}
use Rattle.yasir_ticks.specs.declared.run.Run.{Run, TheVariants.Nothing}

-- These changes of a reader's parts are its step by a byte that goes on with the line.
pub step_on : (old new : TickReader) (b : ℕ) (result : Result (Option Content) TickFault)
    (place new_place : Place) (new_bytes : List ℕ) (new_left : ℕ)
    → old.place ≡ place → new.place ≡ new_place → new.bytes.items ≡ new_bytes
    → new.left ≡ new_left → new.line ≡ old.line
    → result ≡ Ok None → b ≢ 10
    → Accepts place old.bytes.items old.left b [] new_place new_bytes new_left
    → Advances old b result new
step_on old new b result place new_place new_bytes new_left p q x m l e n a =
    record { case = rw e (rw (p, q, x, m) a, rw (test_of b 10 n) l, λ _. refl, refl) }

-- A reader ends the text with this run if the last line has a right form and no mark is missing.
pub stops_right : (reader : TickReader) (run : Run) (content : Content)
    → Closes reader.place reader.bytes.items content
    → items_of_run run ≡ items_of_content content reader.bytes.items
    → (items_of_run run ≡ [] → run ≡ Nothing) → reader.left ≡ 0 → Stops reader (Ok run)
stops_right reader run content closes same nothing none = record {
  case = (
    λ line r. closes.stands line r ∙ ap Some (sym same),
    nothing,
    ap marks_in same ∙ marks_in-content content reader.bytes.items ∙ closes.marked,
    none,
  );
}

-- These changes of a reader's parts are its step by a byte that is refused.
pub step_refused : (old new : TickReader) (b : ℕ) (result : Result (Option Content) TickFault)
    (place : Place) (why : TickFault)
    → old.place ≡ place → result ≡ Err why → new.place ≡ Refused why → new.line ≡ old.line
    → Refuses place old.bytes.items old.left b why → Advances old b result new
step_refused old new b result place why p e q l r =
    record { case = rw e (rw p r, l, q) }

-- A capture, collected byte by byte.
use Rattle.std.specs.Prelude.{◌≡◌, ℕ, true, List, [], ◌∷◌, ◌++◌, length, Option, Some, None}
use Rattle.line_stamps.specs.declared.seen.LineEvent.{LineEvent}
use Rattle.line_stamps.specs.declared.seen.Seen.{Seen}
use Rattle.line_stamps.specs.declared.seen.Seen.TheVariants.{Event}
use Rattle.line_capture.specs.Captures.{HoldsItems, HoldsBefore, NoError, is_error}
use Rattle.line_capture.specs.declared.bad_capture.BadCapture.{BadCapture}
use Rattle.line_capture.specs.declared.bad_capture.BadCapture.TheVariants.{ByteError}
use Rattle.line_capture.specs.declared.collect.Kept.{Kept}
use Rattle.line_capture.specs.declared.reader.FormReader.{Ghosts as FormReader}
use Rattle.line_capture.specs.declared.take.Taking.{Taking}

module _ {F : Type 0} (f : FormReader F) (taking : Taking) where
  -- Holds if the reader has taken these bytes of a file, and what it returned is kept and has no
  -- error.
  pub record Collecting (reader : F) (kept : Kept) (file : List ℕ) : Type 0 where
    pub items : List Seen
    pub stands : f.stands reader file items
    pub begins : f.format.begins file items
    pub holds : HoldsItems taking.ways kept items
    pub right : NoError items

  -- Holds if the reader refuses the byte after these bytes of a file.
  pub record RefusesNext (kept : Kept) (file : List ℕ) (b : ℕ) (bad : BadCapture) : Type 0 where
    pub items : List Seen
    pub begins : f.format.begins file items
    pub holds : HoldsItems taking.ways kept items
    pub right : NoError items
    pub refused : f.format.refuses file items b bad

  -- Holds if the byte after these bytes of a file ends an event that is an error.
  pub record ErrorNext (kept : Kept) (file : List ℕ) (b : ℕ) (bad : BadCapture) : Type 0 where
    pub items : List Seen
    pub error : LineEvent
    pub begins : f.format.begins (file ++ b ∷ []) (items ++ Event error ∷ [])
    pub holds : HoldsBefore f.format.error_follows taking kept items error
    pub right : NoError items
    pub wrong : is_error (Event error) ≡ true
    pub bad_is : bad ≡ ByteError (length file)

  -- Holds if the byte after these bytes of a file is refused, or ends an event that is an error.
  pub data StopsNext (kept : Kept) (file : List ℕ) (b : ℕ) (bad : BadCapture) : Type 0 where
    refused : RefusesNext kept file b bad → StopsNext kept file b bad
    in_error : ErrorNext kept file b bad → StopsNext kept file b bad

  -- what the result for one byte says
  abbrev pub CollectsByte : F → Kept → List ℕ → ℕ → Option BadCapture → Type 0
  CollectsByte reader kept file b None = Collecting reader kept (file ++ b ∷ [])
  CollectsByte reader kept file b (Some bad) = StopsNext kept file b bad

-- Each line of a note ends with an LF.
use Rattle.line_commands.specs.CheckLines.{check_line, refused_word, dropped_word}
use Rattle.line_commands.specs.NoteLines.{numbered_line, placed_line}
use Rattle.line_commands.specs.SealLines.{seal_line, unsealed_word}
use Rattle.link_box.specs.declared.check_note.CheckNote.{CheckNote}
use Rattle.link_box.specs.declared.check_note.CheckNote.TheVariants.{Passed, Refused, Dropped}
use Rattle.link_box.specs.declared.check_note.DroppedWhy.{DroppedWhy}
use Rattle.link_box.specs.declared.check_note.DroppedWhy.TheVariants.{Busy, Head}
use Rattle.link_box.specs.declared.check_note.RefusedWhy.{RefusedWhy}
use Rattle.link_box.specs.declared.check_note.RefusedWhy.TheVariants.{Trailer, Form, Number, Tag}
use Rattle.link_box.specs.declared.seal_note.SealNote.{SealNote}
use Rattle.link_box.specs.declared.seal_note.SealNote.TheVariants.{Sealed, Unsealed}
use Rattle.link_box.specs.declared.seal_note.UnsealedWhy.{UnsealedWhy}
use Rattle.link_box.specs.declared.seal_note.UnsealedWhy.TheVariants.{Early, Form as EarlyForm, Spent}
use Rattle.live_line.specs.WayText.{AreEnded}
use Rattle.std.proofs.Common.{◌≡◌, ◌∙◌, ℕ, List, [], ◌∷◌, ◌++◌, codes, decimal, refl, ap, sym, subst}
use Rattle.std.proofs.Common.{append_assoc}
use Rattle.yasir_ticks.proofs.Lines.{lines_of-lf}
use Rattle.yasir_ticks.specs.TickText.{Lines}

record EndsLf (line : List ℕ) : Type 0 where
  front : List ℕ
  is : line ≡ front ++ 10 ∷ []

behind : (x y : List ℕ) → EndsLf y → EndsLf (x ++ y)
behind x y ends = record {
  front = x ++ ends.front;
  is = ap (λ l. x ++ l) ends.is ∙ sym (append_assoc x ends.front (10 ∷ []));
}

ends : (line : List ℕ) → EndsLf line → AreEnded line
ends line at = subst AreEnded (sym at.is) (ap (λ (l : Lines). l.last) (lines_of-lf at.front))

numbered-ends : (word : List ℕ) (number start len : ℕ) → AreEnded (numbered_line word number start len)
numbered-ends word number start len = ends (numbered_line word number start len) (record {
  front = word ++ decimal number ++ codes " at " ++ decimal start ++ codes " len " ++ decimal len;
  is = refl;
})

placed-ends : (word : List ℕ) (start : ℕ) (why : List ℕ) → EndsLf why
    → AreEnded (placed_line word start why)
placed-ends word start why ended = ends (placed_line word start why)
    (behind (word ++ decimal start) why ended)

unsealed-ends : (why : UnsealedWhy) → EndsLf (unsealed_word why)
unsealed-ends Early = record { front = codes " early"; is = refl }
unsealed-ends EarlyForm = record { front = codes " form"; is = refl }
unsealed-ends Spent = record { front = codes " spent"; is = refl }

refused-ends : (why : RefusedWhy) → EndsLf (refused_word why)
refused-ends Trailer = record { front = codes " trailer"; is = refl }
refused-ends Form = record { front = codes " form"; is = refl }
refused-ends Number = record { front = codes " number"; is = refl }
refused-ends Tag = record { front = codes " tag"; is = refl }

dropped-ends : (why : DroppedWhy) → EndsLf (dropped_word why)
dropped-ends Busy = record { front = codes " busy"; is = refl }
dropped-ends Head = record { front = codes " head"; is = refl }

pub seal-ends : (note : SealNote) → AreEnded (seal_line note)
seal-ends (Sealed number start len) = numbered-ends (codes "sealed ") number start len
seal-ends (Unsealed start why) =
    placed-ends (codes "unsealed at ") start (unsealed_word why) (unsealed-ends why)

pub check-ends : (note : CheckNote) → AreEnded (check_line note)
check-ends (Passed number start len) = numbered-ends (codes "passed ") number start len
check-ends (Refused start why) =
    placed-ends (codes "refused at ") start (refused_word why) (refused-ends why)
check-ends (Dropped start why) =
    placed-ends (codes "dropped at ") start (dropped_word why) (dropped-ends why)

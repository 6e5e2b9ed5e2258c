-- Boxes that have taken nothing, over new journals on disks that never fail.
use Rattle.frame_ending.specs.Walk.{Walker, notes_of, line_of}
use Rattle.sequence_journal.specs.Journal.{journal_floor, RefusesInit}
use Rattle.sequence_journal.specs.{Slots.greatest, declared.journal.InitError.InitError}
use Rattle.sequence_journal.specs.declared.journal.InitError.TheVariants.{Fault, Stands}
use Rattle.sequence_journal.specs.declared.{journal.Journal.Journal, link.LinkId.LinkId}
use Rattle.std.proofs.Common.{◌≡◌, [], Option, Some, None, refl, sym, ◌∙◌, Result, Ok, Err, arith}
use Rattle.std.specs.Prelude.{OnErr, IfOk, IfErr, IsOk}
use Rattle.yasir_io.specs.{Causes.Rose, Disks.Slots}
use Rattle.yasir_ticks.specs.Bursts.{bursts_from}

-- On a disk that never fails, a call doesn't fail.
pub never-fails : {T E : Type 0} (result : Result T E) → OnErr result (Rose 0 0) → IsOk result
never-fails (Ok x) rose = search
never-fails (Err e) rose = absurd (omega arith)

-- A walk over an empty line has no note.
pub no-note : {S N : Type 0} (w : Walker S N) (s : S) → notes_of w s [] ≡ []
unfolding bursts_from
no-note w s = refl

pub no-tick : {S N : Type 0} (w : Walker S N) (s : S) → line_of w s [] ≡ []
unfolding bursts_from
no-tick w s = refl

-- A new journal is made if no call fails and no slot holds a number.
pub is-made : (link : LinkId) (slots : Slots) (told : Option Slots)
    (result : Result Journal InitError)
    → greatest slots ≡ None → IfErr result (RefusesInit link (Some slots) told 0 0) → IsOk result
is-made link slots told (Ok journal) none refused = search
is-made link slots told (Err Fault) none refused = absurd (omega (arith, refused.0))
is-made link slots told (Err (Stands floor)) none refused =
    let both : None ≡ Some floor = sym none ∙ refused.0 in
    cc

pub floor-of : {E : Type 0} (result : Result Journal E) (journal : Journal) → result ≡ Ok journal
    → IfOk result (λ journal. journal_floor journal ≡ 0) → journal_floor journal ≡ 0
floor-of result journal is floor = rw is at floor

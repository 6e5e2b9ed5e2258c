-- Boxes that have taken nothing, with new journals on disks that never fail.
use Rattle.frame_ending.specs.Walk.{Walker, notes_of, line_of}
use Rattle.sequence_journal.specs.{Journal.journal_floor, declared.journal.Journal.Journal}
use Rattle.std.proofs.Common.{◌≡◌, ℕ, [], refl, Result, Ok, Err, arith}
use Rattle.std.specs.Prelude.{OnErr, IfOk, IsOk}
use Rattle.{yasir_io.specs.Causes.Rose, yasir_ticks.specs.Bursts.bursts_from}

-- A call succeeds on a disk that never fails.
pub never-fails : {T E : Type 0} (before now : ℕ) (result : Result T E) → now ≡ 0
    → OnErr result (Rose before now) → IsOk result
never-fails before now (Ok x) calm rose = search
never-fails before now (Err e) calm rose = absurd (omega arith)

-- A walk over a line without ticks has no notes and emits no tick.
pub no-note : {S N : Type 0} (w : Walker S N) (s : S) → notes_of w s [] ≡ []
unfolding bursts_from
no-note w s = refl

pub no-tick : {S N : Type 0} (w : Walker S N) (s : S) → line_of w s [] ≡ []
unfolding bursts_from
no-tick w s = refl

pub floor-of : {E : Type 0} (result : Result Journal E) (journal : Journal) → result ≡ Ok journal
    → IfOk result (λ journal. journal_floor journal ≡ 0) → journal_floor journal ≡ 0
floor-of result journal is floor = rw is at floor

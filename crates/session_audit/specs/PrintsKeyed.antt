-- A run that reads a key, and then two recordings: what each status says of the key, the input and
-- the two sinks.
use Rattle.std.specs.Prelude.{ℕ, List}
use Rattle.yasir_io.specs.declared.source.Source.{Ghosts as Source}
use Rattle.yasir_io.specs.declared.sink.Sink.{Ghosts as Sink}
use Rattle.yasir_ticks.specs.declared.tick.Tick.{Tick}
use Rattle.command_ends.specs.Outside.{Outside}
use Rattle.command_ends.specs.declared.status.Status.{Status}
use Rattle.session_audit.specs.Keyed.{ReadsKeyFirst, LeavesAll}
use Rattle.session_audit.specs.Listing.{Listing}
use Rattle.session_audit.specs.Recorded.{PrintsRecorded}

-- What each status says of a run that reads a key and then two recordings. `listing_by` gives the
-- listing of both recordings with a key.
abbrev pub PrintsKeyed : {K S O L D : Type 0} → Source K → Source S → Sink O
    → (List ℕ → List Tick → List Tick → Listing) → ℕ → Outside K S O L D → Outside K S O L D
    → Status → Type 0
PrintsKeyed k s o listing_by device_rest before after status =
    ReadsKeyFirst k before.key after.key
    (λ key. PrintsRecorded (listing_by key) device_rest (s.left before.input)
    (s.left after.input) (o.held before.out) (o.held after.out))
    (LeavesAll before.input after.input before.out after.out before.log after.log) status

-- Whatever takes the ticks of an input, and what its calls do.
use Rattle.std.specs.Prelude.{◌≡◌, ℕ, ◌+◌, ◌≤◌, ◌<◌, ◌⊎◌, List, ◌++◌, length, take, Result, Ok, Err}
use Rattle.std.specs.Prelude.{OnOk, IfErr, Bool, true, false}
use Rattle.yasir_io.specs.Causes.{Rose}
use Rattle.yasir_ticks.specs.Ticks.{Item, ticks_in}
use Rattle.yasir_ticks.specs.declared.TheConstants.{MAX_TICKS}
use Rattle.tick_drive.specs.declared.consumer.Stop.{Stop}
use Rattle.tick_drive.specs.declared.consumer.Stop.TheVariants.{WriteFault, JournalFault}
use Rattle.tick_drive.specs.declared.consumer.Stop.TheVariants.{NoMemory}

-- What is said of a consumer. Its origin, which is what was there at its start, is its own affair:
-- whoever drives it knows nothing of it.
pub record Consuming (C : Type 0) : Type 1 where
  pub Origin : Type 0
  -- it has taken these items since the start
  pub stands : C → Origin → List Item → Type 0
  -- it stopped at the last of these items
  pub stopped : C → Stop → Origin → List Item → Type 0
  -- how many ticks it has taken
  pub taken : C → ℕ
  -- it may be used
  pub able : C → Type 0
  -- what calls have done to what it holds, if the last one returned this result
  pub went : C → C → Result (Unit {0}) Stop → Type 0

abbrev pub is_write_fault : {T : Type 0} → Result T Stop → Bool
is_write_fault (Err WriteFault) = true
is_write_fault (Err JournalFault) = false
is_write_fault (Err NoMemory) = false
is_write_fault (Ok x) = false

abbrev pub is_journal_fault : {T : Type 0} → Result T Stop → Bool
is_journal_fault (Err JournalFault) = true
is_journal_fault (Err WriteFault) = false
is_journal_fault (Err NoMemory) = false
is_journal_fault (Ok x) = false

-- Holds if the disk's count rose when the disk is the cause of the result, and is as it was in any
-- other case.
pub record IsDiskCause (before now : ℕ) (is_cause : Bool) : Type 0 where
  pub never_falls : before ≤ now
  pub failed : is_cause ≡ true → Rose before now
  pub same : is_cause ≡ false → now ≡ before

-- Holds if one of the two sinks' counts rose when a sink is the cause of the result, and both are
-- as they were in any other case.
pub record IsSinkCause (out_before out_now log_before log_now : ℕ) (is_cause : Bool) : Type 0 where
  pub out_never_falls : out_before ≤ out_now
  pub log_never_falls : log_before ≤ log_now
  pub failed : is_cause ≡ true → Rose out_before out_now ⊎ Rose log_before log_now
  pub out_same : is_cause ≡ false → out_now ≡ out_before
  pub log_same : is_cause ≡ false → log_now ≡ log_before

module _ {C : Type 0} (meaning : Consuming C) where
  -- Holds if nothing is done without a call.
  abbrev pub IsNoneDone : Type 0
  IsNoneDone = (consumer : C) → meaning.able consumer → meaning.went consumer consumer (Ok tt)

  -- Holds if calls that all returned `Ok`, followed by more calls, are calls.
  abbrev pub AreJoined : Type 0
  AreJoined = (a b c : C) (result : Result (Unit {0}) Stop) → meaning.went a b (Ok tt)
      → meaning.went b c result → meaning.went a c result

  -- Holds if a consumer may be given these items: it may be used, and they have no more ticks than
  -- it may still count.
  pub record MayTake (consumer : C) (items : List Item) : Type 0 where
    pub room : meaning.taken consumer + length (ticks_in items) ≤ MAX_TICKS
    pub able : meaning.able consumer

  -- Holds if the consumer, whatever it had taken before, has now taken these items too.
  abbrev pub Moves : C → C → List Item → Type 0
  Moves old new more = (origin : meaning.Origin) (items : List Item)
      → meaning.stands old origin items → meaning.stands new origin (items ++ more)

  -- Holds if the consumer, whatever it had taken before, stopped at one of these items.
  pub record ConsumerStops (old new : C) (more : List Item) (stop : Stop) : Type 0 where
    pub place : ℕ
    pub within : place < length more
    pub at : (origin : meaning.Origin) (items : List Item) → meaning.stands old origin items
        → meaning.stopped new stop origin (items ++ take (place + 1) more)

  -- What calls do that give these items to a consumer. The last one returns that all were taken, or
  -- why the consumer stopped at one of them.
  pub record Gives (old new : C) (items : List Item) (result : Result (Unit {0}) Stop) :
      Type 0 where
    pub moved : OnOk result (Moves old new items)
    pub stopped : IfErr result (ConsumerStops old new items)
    pub counted : OnOk result (meaning.taken new ≡ meaning.taken old + length (ticks_in items))
    pub is_able : OnOk result (meaning.able new)
    pub went : meaning.went old new result

  -- Holds if the first `count` of these items, at least one, were given to it.
  pub record GivesFirst (old new : C) (items : List Item) (count : ℕ) : Type 0 where
    pub some : 0 < count
    pub within : count ≤ length items
    pub gives : Gives old new (take count items) (Ok tt)

  -- Holds if the result is how many of these items it took, or why it stopped at one of them.
  abbrev pub GivesSome : C → C → List Item → Result ℕ Stop → Type 0
  GivesSome old new items (Ok count) = GivesFirst old new items count
  GivesSome old new items (Err stop) = Gives old new items (Err stop)

  -- Holds if the first `count` of these items were given to it, or none.
  pub record GivesUpTo (old new : C) (items : List Item) (count : ℕ) : Type 0 where
    pub within : count ≤ length items
    pub gives : Gives old new (take count items) (Ok tt)

  -- Holds if the result is how many of these items it took, maybe none, or why it stopped at one of
  -- them.
  abbrev pub GivesFront : C → C → List Item → Result ℕ Stop → Type 0
  GivesFront old new items (Ok count) = GivesUpTo old new items count
  GivesFront old new items (Err stop) = Gives old new items (Err stop)

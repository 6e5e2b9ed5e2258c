-- A run that reads a key first.
use Rattle.std.specs.Prelude.{◌≡◌, ◌⊎◌, ℕ, List}
use Rattle.yasir_io.specs.Causes.{Rose}
use Rattle.yasir_io.specs.declared.source.Source.{Ghosts as Source}
use Rattle.command_ends.specs.KeyText.{IsKeyMet, IsKeyText, IsNoKey, IsCutShort}
use Rattle.command_ends.specs.declared.status.Status.{Status}
use Rattle.command_ends.specs.declared.status.Status.TheVariants.{BadKey, ReadFault}

-- Holds if input and sinks are as they were.
abbrev pub LeavesAll : {S O L : Type 0} → S → S → O → O → L → L → Type 0
LeavesAll in_before in_after out_before out_after log_before log_after =
    (in_after ≡ in_before) × (out_after ≡ out_before) × (log_after ≡ log_before)

-- What happens with the key, by the status of the run. `runs` says what the run does with a right
-- key, and `Untouched` that nothing but the key was touched.
module _ {K : Type 0} (k : Source K) (before after : K) (runs : List ℕ → Status → Type 0)
    (Untouched : Type 0) where
  -- Holds if a right key text was met, and `runs` holds for its key and this status.
  pub record RunsWithKey (status : Status) : Type 0 where
    pub text : List ℕ
    pub key : List ℕ
    pub met : IsKeyMet (k.left before) (k.left after) text
    pub right : IsKeyText text key
    pub calm : k.faults after ≡ k.faults before
    pub does : runs key status

  -- Holds if what was met of the key is no right key text, `place` is its refused place, and
  -- nothing else was touched.
  pub record RefusesKeyAt (place : ℕ) : Type 0 where
    pub text : List ℕ
    pub met : IsKeyMet (k.left before) (k.left after) text
    pub refused : IsNoKey text place
    pub same : Untouched

  -- Holds if a read of the key failed, and nothing else was touched.
  pub record FailsToReadKey : Type 0 where
    pub rose : Rose (k.faults before) (k.faults after)
    pub cut : IsCutShort (k.left before) (k.left after)
    pub same : Untouched

  -- What each status of the run says of the key.
  abbrev pub ReadsKeyFirst : Status → Type 0
  ReadsKeyFirst (BadKey place) = RefusesKeyAt place
  ReadsKeyFirst ReadFault = FailsToReadKey ⊎ RunsWithKey ReadFault
  ReadsKeyFirst status = RunsWithKey status

-- What is said of a run that reads a key first also holds with another statement of what the run
-- does with each key, if that one follows from the first.
use Rattle.std.proofs.Common.{ℕ, List, inl, inr}
use Rattle.yasir_io.specs.declared.source.Source.{Ghosts as Source}
use Rattle.command_ends.specs.declared.status.Status.{Status}
use Rattle.command_ends.specs.declared.status.Status.TheVariants.{BadKey, ReadFault}
use Rattle.session_audit.specs.Keyed.{ReadsKeyFirst, RunsWithKey}

module _ {K : Type 0} (k : Source K) (before after : K) (runs then_runs : List ℕ → Status → Type 0)
    (Untouched : Type 0) where
  runs-so : (status : Status) → ((key : List ℕ) → runs key status → then_runs key status)
      → RunsWithKey k before after runs Untouched status
      → RunsWithKey k before after then_runs Untouched status
  runs-so status so h = record {
    text = h.text;
    key = h.key;
    met = h.met;
    right = h.right;
    calm = h.calm;
    does = so h.key h.does;
  }

  pub keyed-so : (status : Status) → ((key : List ℕ) → runs key status → then_runs key status)
      → ReadsKeyFirst k before after runs Untouched status
      → ReadsKeyFirst k before after then_runs Untouched status
  keyed-so (BadKey place) so h =
      record { text = h.text; met = h.met; refused = h.refused; same = h.same }
  keyed-so ReadFault so (inl h) = inl (record { rose = h.rose; cut = h.cut; same = h.same })
  keyed-so ReadFault so (inr h) = inr (runs-so ReadFault so h)
  keyed-so status so h = runs-so status so h

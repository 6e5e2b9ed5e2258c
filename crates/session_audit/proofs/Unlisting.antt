-- Nothing is found of an input that didn't end whole, or for which there was no memory.
use Rattle.device_model.specs.declared.device.Device.{Ghosts as Device}
use Rattle.session_audit.specs.{AuditedInput.FindsNoVerdict, Unlisted.unlisting}
use Rattle.session_audit.specs.declared.{unlisted.Unlisted.Unlisted, verdict.Verdict.Verdict}
use Rattle.session_lists.specs.SessionListed.{ListsSession}
use Rattle.session_lists.specs.declared.frame_box.FrameBox.{Ghosts as FrameBox}
use Rattle.session_lists.specs.declared.guard.Guard.{Ghosts as Guard}
use Rattle.session_lists.specs.declared.session_lists.SessionLists.{SessionLists}
use Rattle.std.proofs.Common.{◌≡◌, ℕ, ◌<◌, List, Option, Err, length, inr, refl}
use Rattle.tick_drive.proofs.Stopping.{stops-for-memory}
use Rattle.tick_drive.specs.{Consumers.Gives, Drive.Drives}
use Rattle.tick_drive.specs.declared.consumer.Stop.TheVariants.{NoMemory}
use Rattle.tick_drive.specs.declared.end.End.{End}
use Rattle.tick_drive.specs.declared.end.End.TheVariants.{Whole, Stopped}
use Rattle.yasir_ticks.specs.{Ticks.Item, declared.tick.Tick.Tick}

-- A call that gives at least one item ends because there is no memory.
pub gives-nothing : (old new : Unlisted) (more : List Item) → 0 < length more
    → Gives unlisting old new more (Err NoMemory)
gives-nothing old new more some = record {
  moved = tt;
  stopped = record { place = 0; within = some; at = λ start items before. refl };
  counted = tt;
  is_able = tt;
  went = tt;
}

module _ (verdict_on_three : List Tick → List Tick → List Tick → Verdict)
    (before now : Option (List ℕ)) where
  -- An input for which there is no memory, if it ended whole.
  pub unlisted-whole : (old new : Unlisted) → Drives unlisting 2 0 before now old new Whole
      → FindsNoVerdict verdict_on_three before now (Stopped NoMemory)
  unlisted-whole old new driven = record {
    items = driven.items;
    takes = inr driven.takes;
    other = λ is. cc;
    memory = λ stop is. cc;
  }

  pub unlisted-ended : (old new : Unlisted) (end : End) → (end ≡ Whole → ⊥)
      → Drives unlisting 2 0 before now old new end
      → FindsNoVerdict verdict_on_three before now end
  unlisted-ended old new end other driven = record {
    items = driven.items;
    takes = driven.takes;
    other = other;
    memory = stops-for-memory unlisting (λ consumer stop start items none. none) 2 0 before now old
        new tt tt end driven;
  }

  module _ {S C V G : Type 0} (s : FrameBox S) (c : FrameBox C) (v : Device V) (g : Guard G) where
    -- An input of which lists were made, and which didn't end whole.
    pub listed-ended : (old new : SessionLists S C V G) (end : End) → (end ≡ Whole → ⊥)
        → ListsSession s c v g old new before now end
        → FindsNoVerdict verdict_on_three before now end
    listed-ended old new Whole other listed = absurd (other refl)
    listed-ended old new end other listed = record {
      items = listed.items;
      takes = listed.takes;
      other = other;
      memory = listed.memory;
    }

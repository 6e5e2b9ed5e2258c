-- What is kept of two recordings after more items.
use Rattle.device_model.specs.declared.device.Device.{Ghosts as Device}
use Rattle.link_format.specs.Setup.{Setup}
use Rattle.session_lists.proofs.Marks.{has_mark-mark, before_mark-mark, behind_mark-mark}
use Rattle.session_lists.specs.ReplayLists.{KeepsFrames, ChecksLists, HasListed, ListsItems, ListsAreReady}
use Rattle.session_lists.specs.ReplayLists.{listing, GoesOnBy}
use Rattle.session_lists.specs.declared.frame_box.FrameBox.{Ghosts as FrameBox}
use Rattle.session_lists.specs.declared.replay_lists.ReplayLists.{ReplayLists}
use Rattle.std.proofs.Common.{◌≡◌, ◌∙◌, ◌<◌, true, List, [], ◌∷◌, ◌++◌, length, Ok, Err}
use Rattle.std.proofs.Common.{refl, ap, sym}
use Rattle.tick_drive.specs.{Consumers.Gives, declared.consumer.Stop.TheVariants.NoMemory}
use Rattle.yasir_ticks.specs.Ticks.{Item, Item.mark}
use Rattle.yasir_ticks.specs.declared.tick.Tick.{Tick}

module _ {S C V : Type 0} (s : FrameBox S) (c : FrameBox C) (v : Device V)
    (old new : ReplayLists S C V) where
  -- ---- a tick for the transmitter

  module _ (others : new ≡ record old { sealer = new.sealer; sealed = new.sealed }) where
    pub checks-same : (setup : Setup) (link : List Tick) → ChecksLists s c v old setup link
        → ChecksLists s c v new setup link
    checks-same setup link checks =
        let checker : new.checker ≡ old.checker = ap (λ l. l.checker) others in
        let passed : new.passed ≡ old.passed = ap (λ l. l.passed) others in
        let device : new.device ≡ old.device = ap (λ l. l.device) others in
        let read : new.read ≡ old.read = ap (λ l. l.read) others in
        record {
          passes = rw (checker, passed) checks.passes;
          reads = rw (device, read) checks.reads;
        }

    pub ready-same : s.able new.sealer → ListsAreReady s c v old → ListsAreReady s c v new
    ready-same able ready =
        let checker : new.checker ≡ old.checker = ap (λ l. l.checker) others in
        let device : new.device ≡ old.device = ap (λ l. l.device) others in
        record {
          sealer = able;
          checker = rw checker ready.checker;
          taken = rw (checker, device) ready.taken;
        }

    -- If the transmitter takes more of the line of the device, the lists are those of the longer
    -- line.
    pub listed-sealed : (setup : Setup) (line link more : List Tick)
        → (KeepsFrames s old.sealer old.sealed setup line
        → KeepsFrames s new.sealer new.sealed setup (line ++ more))
        → HasListed s c v old setup line link → HasListed s c v new setup (line ++ more) link
    listed-sealed setup line link more step listed = record {
      seals = step listed.seals;
      checks = checks-same setup link listed.checks;
    }

-- If only what belongs to the transmitter has changed, and then only that again, only that has.
module _ {S C V : Type 0} (first old new : ReplayLists S C V) where
  pub others-on : old ≡ record first { sealer = old.sealer; sealed = old.sealed }
      → new ≡ record old { sealer = new.sealer; sealed = new.sealed }
      → new ≡ record first { sealer = new.sealer; sealed = new.sealed }
  others-on before then =
      then ∙ ap (λ (l : ReplayLists S C V). record l { sealer = new.sealer; sealed = new.sealed })
      before

-- ---- the mark

pub lists-marked : {S C V : Type 0} (s : FrameBox S) (c : FrameBox C) (v : Device V)
    (lists : ReplayLists S C V) (setup : Setup) (items : List Item)
    → ListsItems s c v lists setup items
    → ListsItems s c v (record lists { marked = true }) setup (items ++ mark ∷ [])
lists-marked s c v lists setup items before = record {
  listed = rw (before_mark-mark items, behind_mark-mark items) (record {
    seals = before.listed.seals;
    checks = record {
      passes = before.listed.checks.passes;
      reads = before.listed.checks.reads;
    };
  });
  marked = sym (has_mark-mark items);
}

-- ---- what a call does that gives some items to the lists

module _ {S C V : Type 0} (s : FrameBox S) (c : FrameBox C) (v : Device V) where
  pub gives-items : (old new : ReplayLists S C V) (more : List Item) → GoesOnBy s c v old new more
      → Gives (listing s c v) old new more (Ok tt)
  gives-items old new more goes = record {
    moved = goes.moved;
    stopped = tt;
    counted = goes.counted;
    is_able = goes.ready;
    went = tt;
  }

  -- A call that gives at least one item may end because there is no memory for a frame.
  pub gives-no_memory : (old new : ReplayLists S C V) (more : List Item) → 0 < length more
      → Gives (listing s c v) old new more (Err NoMemory)
  gives-no_memory old new more some = record {
    moved = tt;
    stopped = record { place = 0; within = some; at = λ setup items before. refl };
    counted = tt;
    is_able = tt;
    went = tt;
  }

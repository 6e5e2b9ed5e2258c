-- Ticks that are taken one after the other, and what is kept of them.
use Rattle.device_model.specs.{Frames.FrameRead, declared.device.Device.Ghosts as Device}
use Rattle.link_format.specs.{Setup.Setup}
use Rattle.session_lists.proofs.HeardRuns.{silent_on}
use Rattle.session_lists.specs.Comparison.{Compares, Found}
use Rattle.session_lists.specs.Expected.{Expects}
use Rattle.session_lists.specs.{FrameBox.kept_frames, FrameList.Holds, FrameList.list_len}
use Rattle.session_lists.specs.Guarding.{Guards}
use Rattle.session_lists.specs.Lines.{ListsGoOn, TakesOn, HearsOn, KeepsLine, BoxSetup}
use Rattle.session_lists.specs.ReplayLists.{KeepsFrames, StepsInto}
use Rattle.session_lists.specs.declared.comparison.Comparison.{Comparison}
use Rattle.session_lists.specs.declared.expected.Expected.{Expected}
use Rattle.session_lists.specs.declared.frame_box.FrameBox.{Ghosts as FrameBox}
use Rattle.session_lists.specs.declared.guard.Guard.{Ghosts as Guard}
use Rattle.session_lists.specs.declared.kept.Kept.{Kept}
use Rattle.session_lists.specs.declared.lateness.Lateness.{Lateness}
use Rattle.std.proofs.Common.{◌≡◌, Bool}
use Rattle.std.proofs.Common.{ℕ, ◌+◌, ◌≤◌, ◌<◌, List, [], ◌∷◌, ◌++◌, length, take, get_or}
use Rattle.std.proofs.Common.{sym, subst, arith, append-nil, append_assoc, length-append}
use Rattle.{std.proofs.lemmas.List.take_more, yasir_ticks.specs.Ticks.silent}
use Rattle.yasir_ticks.specs.declared.tick.Tick.{Tick, TheVariants.Silent}

module _ {O S L : Type 0} (taken : S → ℕ) (size : L → ℕ)
    (keeps : O → S → L → List Tick → Type 0) where
  abbrev On : S → S → L → L → List Tick → Type 0
  On = ListsGoOn taken size keeps

  pub goes-nowhere : (value : S) (list : L) → On value value list list []
  goes-nowhere value list = record {
    counted = omega arith;
    few = omega arith;
    kept = λ origin line keep. subst (keeps origin value list) (sym (append-nil line)) keep;
  }

  module _ (a b c : S) (x y z : L) where
    pub goes-then : (first second : List Tick) → On a b x y first → On b c y z second
        → On a c x z (first ++ second)
    goes-then first second on then =
        let long = length-append first second in
        record {
          counted = omega (arith, long, on.counted, then.counted);
          few = omega (arith, long, on.few, then.few);
          kept = λ origin line keep. subst (keeps origin c z) (append_assoc line first second)
              (then.kept origin (line ++ first) (on.kept origin line keep));
        }

    -- If the first `i` ticks of a line were taken, and then the next one, its first `i + 1` ticks
    -- were taken.
    pub goes-tick : (line : List Tick) (i : ℕ) (d : Tick) → i < length line
        → On a b x y (take i line) → On b c y z (get_or line i d ∷ [])
        → On a c x z (take (i + 1) line)
    goes-tick line i d within on then =
        subst (On a c x z) (sym (take_more line i d within))
        (goes-then (take i line) (get_or line i d ∷ []) on then)

    -- If `n` silent ticks were taken, and then one more, `n + 1` were taken.
    pub goes-silent : (n : ℕ) → On a b x y (silent n) → On b c y z (Silent ∷ [])
        → On a c x z (silent (n + 1))
    goes-silent n on then =
        subst (On a c x z) (silent_on [] n 1) (goes-then (silent n) (Silent ∷ []) on then)

-- ---- a step of a box, and some ticks at a device

pub box-tick : {B G : Type 0} (box : FrameBox B) (guard : Guard G) (old new : B)
    (before after : Kept G) (t tick : Tick) → box.taken new ≡ box.taken old + 1
    → list_len after.frames ≤ list_len before.frames + 1
    → ((setup : Setup) (line : List Tick) → KeepsFrames box old before.frames setup line
    → StepsInto box new after.frames setup line t tick)
    → ((spaced : Bool) (line : List Tick) → Guards guard spaced before.guard line
    → Guards guard spaced after.guard (line ++ tick ∷ []))
    → TakesOn box guard old new before after (t ∷ [])
box-tick box guard old new before after t tick taken few ok hears = record {
  counted = taken;
  few = few;
  kept = λ origin line keep.
      let step = ok origin.setup line keep.frames in record {
        frames = step.keeps;
        heard = subst (Guards guard origin.spaced after.guard) (sym step.answers)
            (hears origin.spaced ((box.numbering origin.setup).other_line line) keep.heard);
      };
}

pub hears-lent : {V : Type 0} (device : Device V) (expected : Expected) (old new : V)
    (before after : Comparison) (more : List Tick) (frames : List FrameRead)
    → device.taken new ≡ device.taken old + length more
    → after.read ≤ before.read + length more
    → ((line : List Tick) → device.stands old line → device.stands new (line ++ more))
    → ((line : List Tick) → device.stands old line
    → device.reads (line ++ more) ≡ device.reads line ++ frames)
    → ((due reads : List FrameRead) → Expects expected due
    → Found expected.late before due reads → Found expected.late after due (reads ++ frames))
    → HearsOn device expected old new before after more
hears-lent device expected old new before after more frames counts few stands answer found =
    record {
      counted = counts;
      few = few;
      kept = λ due line compares expects.
          let heard = compares expects in record {
            hears = stands line heard.hears;
            found = subst (Found expected.late after due) (sym (answer line heard.hears))
                (found due (device.reads line) expects heard.found);
          };
    }

-- ---- before the first tick

pub keeps-none : {B G : Type 0} (box : FrameBox B) (guard : Guard G) (value : B) (kept : Kept G)
    (origin : BoxSetup) → box.stands value origin.setup []
    → (box.numbering origin.setup).frames [] ≡ [] → (box.numbering origin.setup).other_line [] ≡ []
    → Holds kept.frames [] → Guards guard origin.spaced kept.guard []
    → KeepsLine box guard value kept origin []
keeps-none box guard value kept origin stands nothing no_tick holds heard = record {
  frames = record {
    steps = stands;
    holds = subst (λ l. Holds kept.frames (kept_frames l)) (sym nothing) holds;
  };
  heard = subst (Guards guard origin.spaced kept.guard) (sym no_tick) heard;
}

pub compares-none : {V : Type 0} (device : Device V) (value : V) (comparison : Comparison)
    (late : Lateness) (due : List FrameRead) → device.stands value [] → device.reads [] ≡ []
    → Found late comparison due [] → Compares device value comparison late due []
compares-none device value comparison late due stands nothing found = record {
  hears = stands;
  found = subst (Found late comparison due) (sym nothing) found;
}

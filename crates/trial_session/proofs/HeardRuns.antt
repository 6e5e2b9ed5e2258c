-- Runs that a device hears.
use Rattle.device_model.specs.{Frames.FrameRead, declared.device.Device.Ghosts as Device}
use Rattle.link_box.specs.declared.box_trait.LinkBox.{Ghosts as LinkBox}
use Rattle.std.proofs.Common.{◌≡◌, ◌∙◌, ℕ, ◌+◌, List, [], ◌∷◌, ◌++◌, length, map, ap, sym, subst}
use Rattle.std.proofs.Common.{refl, arith, length-append, append_assoc, append-nil}
use Rattle.{std.proofs.lemmas.List.map-append, trial_session.specs.Counting.Counting}
use Rattle.trial_session.specs.Sides.{HasTaken, HasPassed, SideHasHeard, IsHearing, HasReceived}
use Rattle.trial_session.specs.{Sides.IsReceiving, declared.listening.Listening.Listening}
use Rattle.trial_session.specs.declared.receiving.Receiving.{Receiving}
use Rattle.yasir_ticks.specs.declared.tick.Tick.{Tick, TheVariants.Byte}

pub none-waits : (waiting : List ℕ) → length waiting ≡ 0 → waiting ≡ []
none-waits [] none = refl
none-waits (b ∷ x) none = absurd (omega (arith, none))

module _ {V : Type 0} (device : Device V) where
  -- A device hears a run. If it reads a frame, that is in the run's last tick.
  pub hears-run : (value next : Listening V) (line run front : List Tick)
      (frames : List FrameRead) (n : ℕ) → run ≡ front
      → device.stands next.device (line ++ run)
      → device.reads (line ++ run) ≡ device.reads line ++ frames
      → n ≡ length frames → SideHasHeard device value line
      → next.read ≡ value.read + n
      → SideHasHeard device next (line ++ front)
  hears-run value next line run front frames n same stands reads count heard more =
      subst (λ l. SideHasHeard device next (line ++ l)) same (record {
        stands = stands;
        counts = more
            ∙ ap (λ k. k + n) heard.counts
            ∙ ap (λ k. length (device.reads line) + k) count
            ∙ sym (ap length reads ∙ length-append (device.reads line) frames);
      })

  -- Bytes that wait may be replaced by equal ones.
  pub hearing-as : (value : Listening V) (x y : List ℕ) (line : List Tick) → x ≡ y
      → IsHearing device value x line → IsHearing device value y line
  hearing-as value x y line same =
      subst (λ (l : List ℕ). IsHearing device value l line) same

  -- If no byte waits, the device has heard all of its line.
  pub hears-all : (value : Listening V) (line : List Tick)
      → IsHearing device value [] line → SideHasHeard device value line
  hears-all value line so =
      subst (SideHasHeard device value) (sym (so.is ∙ append-nil so.front)) so.hears

  pub hears-none : (value : Listening V) (line : List Tick)
      → SideHasHeard device value line → IsHearing device value [] line
  hears-none value line heard = record {
    front = line;
    is = sym (append-nil line);
    hears = heard;
  }

  -- more bytes wait
  pub waits-more : (value : Listening V) (x more items : List ℕ) (line : List Tick)
      → items ≡ x ++ more → IsHearing device value x line
      → IsHearing device value items (line ++ map (λ b. Byte b) more)
  waits-more value x more items line is so = record {
    front = so.front;
    is = ap (λ l. l ++ map (λ b. Byte b) more) so.is
        ∙ append_assoc so.front (map (λ b. Byte b) x) (map (λ b. Byte b) more)
        ∙ ap (λ l. so.front ++ l)
        (sym (map-append (λ b. Byte b) x more) ∙ ap (map (λ b. Byte b)) (sym is));
    hears = so.hears;
  }

module _ {C N V : Type 0} (checks : LinkBox C N) (checking : Counting) (device : Device V) where
  -- One more run is checked, and what the receiver makes of it is heard, or waits.
  pub receives-run : (old new : Receiving C V) (before after : List ℕ)
      (link run answer : List Tick) → IsReceiving checks checking device old before link
      → ((l : List Tick) → HasTaken checks checking old.checking l
      → HasPassed checks checking new.checking l run answer)
      → ((l : List Tick) → IsHearing device old.listening before l
      → IsHearing device new.listening after (l ++ answer))
      → IsReceiving checks checking device new after (link ++ run)
  receives-run old new before after link run answer so check hear =
      let passed = check link so.checks_link in
      record {
        checks_link = passed.sent.taken;
        hears_line = subst (IsHearing device new.listening after) (sym passed.sent.answered)
            (hear (checking.other_line link) so.hears_line);
      }

  -- If no byte waits, `HasReceived` gives `IsReceiving`.
  pub receives-none : (value : Receiving C V) (waiting : List ℕ) (link : List Tick)
      → waiting ≡ [] → HasReceived checks checking device value link
      → IsReceiving checks checking device value waiting link
  receives-none value waiting link none so = record {
    checks_link = so.checks_link;
    hears_line = hearing-as device value.listening [] waiting (checking.other_line link)
        (sym none) (hears-none device value.listening (checking.other_line link)
        so.hears_line);
  }

-- The frames of a session are the bursts of the device's line, one in each period.
use Rattle.frame_ending.specs.LiveBytes.{before_pause, live_bytes, has_extra}
use Rattle.line_rules.specs.{Rules.Rules, RulesLaws.IsFramed}
use Rattle.link_format.specs.Profile.{Profile, pause_len, trailer_len}
use Rattle.receiver_laws.proofs.{Packing.contiguous-bytes, Standing.bytes_in-byte_ticks}
use Rattle.{receiver_laws.specs.Untouched.AreSpaced, std.proofs.Common.◌≡◌}
use Rattle.std.proofs.Common.{◌∙◌, ℕ, zero, suc, ◌+◌, ◌-◌, ◌<◌, ◌≤◌, true, false, List, [], ◌∷◌}
use Rattle.std.proofs.Common.{◌++◌, length, map, take, refl, ap, sym, subst, arith, append_assoc}
use Rattle.std.proofs.{Common.length-append, lemmas.Bool.le-ltb, lemmas.Grind.flat_map-append}
use Rattle.std.proofs.lemmas.List.{append-nil, length-map, take_all}
use Rattle.{std.specs.List.flat_map, trial_session.specs.DrawnFrames.Drawing}
use Rattle.trial_session.specs.Session.{period_line, state_at, session_line}
use Rattle.yasir_ticks.proofs.{BurstLaws.bursts_from-starts, BurstsOfLaws.bursts_from-contiguous}
use Rattle.yasir_ticks.{proofs.BurstsOfLaws.bursts_from-silence, specs.Bursts.Burst}
use Rattle.yasir_ticks.specs.{Bursts.bursts_from, BurstsOf.StartsFrom, BurstsOf.IsContiguous}
use Rattle.yasir_ticks.specs.{BurstsOf.IsContiguous.one, Ticks.silent, Ticks.bytes_in}
use Rattle.yasir_ticks.specs.declared.tick.Tick.{Tick, TheVariants.Byte}

byte_ticks : List ℕ → List Tick
byte_ticks f = map (λ b. Byte b) f

starts-before : (n m : ℕ) (ds : List Burst) → n ≤ m → StartsFrom m ds → StartsFrom n ds
starts-before n m [] le starts = tt
starts-before n m (d ∷ ds) le starts = omega arith

contiguous : (f : List ℕ) → 0 < length f → IsContiguous 4 (map (λ b. Byte b) f)
contiguous [] some = absurd (omega arith)
contiguous (b ∷ f) some = contiguous-bytes 4 f (Byte b ∷ []) (omega arith) (one b)

unpaused : (f : List ℕ) → before_pause (map (λ b. Byte b) f) ≡ map (λ b. Byte b) f
unfolding before_pause
unpaused [] = refl
unpaused (b ∷ f) = ap (λ l. Byte b ∷ l) (unpaused f)

-- the bursts of these frames, of which the first begins at tick k, each in a period of its own
abbrev pub placed : ℕ → List (List ℕ) → List Burst
placed k [] = []
placed k (f ∷ fs) = record { start = k; body = map (λ b. Byte b) f } ∷ placed (k + 640) fs

pub length-placed : (k : ℕ) (fs : List (List ℕ)) → length (placed k fs) ≡ length fs
length-placed k [] = refl
length-placed k (f ∷ fs) = ap suc (length-placed (k + 640) fs)

module _ (rules : Rules) where
  -- Holds if each of these is a frame of the protocol, of at most 292 bytes and not empty.
  abbrev pub AreFrames : List (List ℕ) → Type 0
  AreFrames [] = Unit {0}
  AreFrames (f ∷ fs) = (0 < length f) × (length f ≤ 292) × (rules.is_frame f ≡ true) × AreFrames fs

  pub frames-more : (fs : List (List ℕ)) (f : List ℕ) → AreFrames fs → AreFrames (f ∷ [])
      → AreFrames (fs ++ f ∷ [])
  frames-more [] f are last = last
  frames-more (g ∷ fs) f are last = (are.0, are.1, are.2, frames-more fs f are.3 last)

  pub bursts-placed : (k : ℕ) (fs : List (List ℕ)) → AreFrames fs
      → bursts_from 4 k (flat_map period_line fs) ≡ placed k fs
  unfolding bursts_from
  bursts-placed k [] are = refl
  bursts-placed k (f ∷ fs) are =
      let body : List Tick = map (λ b. Byte b) f in
      let gap = 640 - length f in
      let rest = flat_map period_line fs in
      let long : length body ≡ length f = length-map f (λ b. Byte b) in
      let few = are.1 in
      let next : k + length body + gap ≡ k + 640 = omega (arith, long, few) in
      let quiet : bursts_from 4 (k + length body) (silent gap ++ rest)
      ≡ bursts_from 4 (k + length body + gap) rest =
      bursts_from-silence 4 (k + length body) gap rest in
      let far : StartsFrom (k + length body + 4)
      (bursts_from 4 (k + length body) (silent gap ++ rest)) =
      subst (StartsFrom (k + length body + 4)) (sym quiet)
      (starts-before (k + length body + 4) (k + length body + gap)
      (bursts_from 4 (k + length body + gap) rest) (omega (arith, few))
      (bursts_from-starts 4 (k + length body + gap) rest)) in
      ap (bursts_from 4 k) (append_assoc body (silent gap) rest)
      ∙ bursts_from-contiguous 4 k body (silent gap ++ rest) (contiguous f are.0) far
      ∙ ap (λ ds. record { start = k; body = body } ∷ ds)
      (quiet ∙ ap (λ n. bursts_from 4 n rest) next ∙ bursts-placed (k + 640) fs are.3)

  -- If the bytes of a frame come without silence between them, all of them are live.
  module _ (framed : IsFramed rules) (k : ℕ) (f : List ℕ) (is : rules.is_frame f ≡ true) where
    abbrev it : Burst
    it = record { start = k; body = map (λ b. Byte b) f }

    all-live : live_bytes rules it ≡ f
    all-live =
        let spelled : bytes_in (before_pause (map (λ b. Byte b) f)) ≡ f =
        ap bytes_in (unpaused f) ∙ bytes_in-byte_ticks f in
        ap (λ x. take (rules.room x) x) spelled
        ∙ take_all (rules.room f) f (framed.has_room f is)

    none-extra : has_extra rules it ≡ false
    none-extra =
        let bytes = ap length (bytes_in-byte_ticks f) in
        let live = ap length all-live in
        le-ltb (length (live_bytes rules it)) (length (bytes_in it.body))
        (omega (arith, bytes, live))

  pub spaced : (profile : Profile) → IsFramed rules → trailer_len profile ≤ 20
      → (n k : ℕ) (fs : List (List ℕ)) → AreFrames fs → n ≤ k
      → AreSpaced profile rules n (placed k fs)
  spaced profile framed short n k [] are le = tt
  spaced profile framed short n k (f ∷ fs) are le =
      let long = length-map f (λ b. Byte b) in (
        le,
        none-extra framed k f are.2,
        ap rules.is_frame (all-live framed k f are.2) ∙ are.2,
        spaced profile framed short
            (k + length (map (λ b. Byte b) f) + pause_len + trailer_len profile + 4) (k + 640) fs
            are.3
            (omega (arith, long, short, are.1)),
      )

-- ---- the frames of a session

module _ (drawing : Drawing) (seed : ℕ) where
  -- the frames of the first n periods
  abbrev pub frames_drawn : ℕ → List (List ℕ)
  frames_drawn zero = []
  frames_drawn (suc n) = frames_drawn n ++ drawing.frame (state_at drawing seed n) ∷ []

  pub length-drawn : (n : ℕ) → length (frames_drawn n) ≡ n
  length-drawn zero = refl
  length-drawn (suc n) =
      let before = length-drawn n in
      length-append (frames_drawn n) (drawing.frame (state_at drawing seed n) ∷ [])
      ∙ (omega (arith, before))

  pub line-drawn : (n : ℕ) → session_line drawing seed n ≡ flat_map period_line (frames_drawn n)
  unfolding session_line
  line-drawn zero = refl
  line-drawn (suc n) =
      let f = drawing.frame (state_at drawing seed n) in
      ap (λ l. l ++ period_line f) (line-drawn n)
      ∙ ap (λ l. flat_map period_line (frames_drawn n) ++ l) (sym (append-nil (period_line f)))
      ∙ sym (flat_map-append period_line (frames_drawn n) (f ∷ []))

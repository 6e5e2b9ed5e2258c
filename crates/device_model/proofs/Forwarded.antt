-- A device reads the frames that a transmitter forwards, and no others.
use Rattle.device_model.{proofs.ReadLaws.is_frame-long, specs.Forwarded.is_forwarded}
use Rattle.device_model.specs.Forwarded.{frame_forwarded, is_ended_frame, frames_forwarded}
use Rattle.device_model.specs.{Forwarded.rtu_forwarded, Frames.FrameRead, RtuReads.has_silence}
use Rattle.device_model.specs.RtuReads.{is_frame_body, is_read, frame_in, frames_read, rtu_reads}
use Rattle.frame_ending.proofs.Pauses.{ended, contiguous-ends, before_pause-whole}
use Rattle.frame_ending.specs.LiveBytes.{before_pause, has_pause, spelled, live_bytes}
use Rattle.rtu_frame.{proofs.FrameLaws.is_frame-true, specs.Frame.is_frame, specs.Rules.rtu_rules}
use Rattle.std.proofs.Common.{◌≡◌, ◌∙◌, ℕ, ◌<◌, ◌≤◌, Bool, true, false, not, ◌&&◌, List, [], ◌∷◌}
use Rattle.std.proofs.Common.{◌+◌, nat_le, cond, length, take, map, refl, sym, ap, subst, arith}
use Rattle.std.proofs.{Common.⊎_elim, lemmas.Bool.cases_Bool, lemmas.Bool.cases_lt}
use Rattle.std.proofs.lemmas.{Bool.lt-ltb, Bool.le-ltb, List.take_all, List.length-take}
use Rattle.std.proofs.lemmas.List.Elements.{All-nil, All-cons, All-contains}
use Rattle.std.specs.{List.All, List.Contains, Prelude.filter}
use Rattle.yasir_ticks.proofs.BurstsOfLaws.{bursts_from-are}
use Rattle.yasir_ticks.specs.Bursts.{Burst, bursts, end_of}
use Rattle.yasir_ticks.specs.{BurstsOf.IsContiguous, BurstsOf.AreBursts, Ticks.bytes_in}
use Rattle.yasir_ticks.specs.declared.tick.Tick.{Tick, TheVariants.Silent, TheVariants.Byte}

-- ---- the bursts of a line are contiguous

contiguous-all : (n : ℕ) (line : List Tick) (ds : List Burst) → AreBursts 4 n line ds
    → All (λ (d : Burst). IsContiguous 4 d.body) ds
contiguous-all n line [] are = All-nil (λ (d : Burst). IsContiguous 4 d.body)
contiguous-all n line (d ∷ ds) are =
    All-cons (λ (e : Burst). IsContiguous 4 e.body) d ds are.4
    (contiguous-all (end_of d) are.1 ds are.6)

pub burst-contiguous : (line : List Tick) (d : Burst) → Contains (bursts line) d
    → IsContiguous 4 d.body
burst-contiguous line d contains =
    All-contains (λ (e : Burst). IsContiguous 4 e.body) (bursts line) d
    (contiguous-all 0 line (bursts line) (bursts_from-are 4 0 line)) contains

-- ---- two silent ticks in a row

-- Both definitions of two silent ticks in a row say the same.
pauses : (x : List Tick) → has_silence 2 x ≡ has_pause x
unfolding has_silence has_pause
pauses [] = refl
pauses (Byte b ∷ x) = pauses x
pauses (Silent ∷ []) = refl
pauses (Silent ∷ Silent ∷ x) = refl
pauses (Silent ∷ Byte b ∷ x) = pauses x

-- If there are two silent ticks in a row, at least one byte comes after them.
before-fewer : (w : List Tick) (a : ℕ) → has_pause (ended w a) ≡ true
    → length (bytes_in (before_pause (ended w a))) < length (bytes_in (ended w a))
unfolding has_pause before_pause
before-fewer [] a paused = absurd (cc)
before-fewer (Byte c ∷ w) a paused = let rest = before-fewer w a paused in omega arith
before-fewer (Silent ∷ []) a paused = absurd (cc)
before-fewer (Silent ∷ Silent ∷ w) a paused = some w a
  where
    some : (w : List Tick) (a : ℕ) → 0 < length (bytes_in (ended w a))
    some [] a = omega arith
    some (Silent ∷ w) a = some w a
    some (Byte c ∷ w) a = omega arith
before-fewer (Silent ∷ Byte c ∷ w) a paused = let rest = before-fewer w a paused in omega arith

-- ---- a burst

module _ (d : Burst) (contiguous : IsContiguous 4 d.body) where
  paused-fewer : has_pause d.body ≡ true → length (spelled d) < length (bytes_in d.body)
  paused-fewer paused =
      let last = contiguous-ends 4 d.body contiguous in
      let P : List Tick → Type 0 = λ x. has_pause x ≡ true
      → length (bytes_in (before_pause x)) < length (bytes_in x) in
      let fewer : has_pause d.body ≡ true → length (spelled d) < length (bytes_in d.body) =
      subst P (sym last.2) (before-fewer last.0 last.1) in
      fewer paused

  spelled-all : has_pause d.body ≡ false → spelled d ≡ bytes_in d.body
  spelled-all none =
      let last = contiguous-ends 4 d.body contiguous in
      let P : List Tick → Type 0 = λ x. has_pause x ≡ false
      → bytes_in (before_pause x) ≡ bytes_in x in
      let whole : has_pause d.body ≡ false → spelled d ≡ bytes_in d.body =
      subst P (sym last.2) (λ calm. ap bytes_in (before_pause-whole last.0 last.1 calm)) in
      whole none

  -- If there is no pause, the live bytes are the first 256 bytes.
  live-first : has_pause d.body ≡ false → live_bytes rtu_rules d ≡ take 256 (bytes_in d.body)
  live-first none = ap (λ x. take 256 x) (spelled-all none)

  live-all : has_pause d.body ≡ false → length (bytes_in d.body) ≤ 256
      → live_bytes rtu_rules d ≡ bytes_in d.body
  live-all none few = live-first none ∙ take_all 256 (bytes_in d.body) few

  abbrev forwards : Bool
  forwards = is_forwarded rtu_rules d

  -- If fewer bytes are live than there are, the burst isn't forwarded as a frame.
  extra-fewer : length (live_bytes rtu_rules d) < length (bytes_in d.body) → forwards ≡ false
  extra-fewer fewer =
      ap (λ e. not e && is_frame (live_bytes rtu_rules d))
      (lt-ltb (length (live_bytes rtu_rules d)) (length (bytes_in d.body)) fewer)

  calm-body : has_pause d.body ≡ false → is_frame_body 2 d.body ≡ is_frame (bytes_in d.body)
  calm-body none = ap (λ s. not s && is_frame (bytes_in d.body)) (pauses d.body ∙ none)

  paused-body : has_pause d.body ≡ true → is_frame_body 2 d.body ≡ false
  paused-body paused = ap (λ s. not s && is_frame (bytes_in d.body)) (pauses d.body ∙ paused)

  same-paused : has_pause d.body ≡ true → forwards ≡ is_frame_body 2 d.body
  same-paused paused =
      let fewer = paused-fewer paused in
      let room = length-take 256 (spelled d) in
      extra-fewer (omega arith) ∙ sym (paused-body paused)

  same-long : has_pause d.body ≡ false → 256 < length (bytes_in d.body)
      → forwards ≡ is_frame_body 2 d.body
  same-long none long =
      let room = length-take 256 (spelled d) in
      extra-fewer (omega arith) ∙ sym (calm-body none ∙ is_frame-long (bytes_in d.body) long)

  same-whole : has_pause d.body ≡ false → length (bytes_in d.body) ≤ 256
      → forwards ≡ is_frame_body 2 d.body
  same-whole none few =
      let all = ap length (live-all none few) in
      ap (λ e. not e && is_frame (live_bytes rtu_rules d))
      (le-ltb (length (live_bytes rtu_rules d)) (length (bytes_in d.body)) (omega arith))
      ∙ (ap is_frame (live-all none few) ∙ sym (calm-body none))

  -- The transmitter's test of a burst says the same as the device's.
  pub forwarded-same : forwards ≡ is_frame_body 2 d.body
  forwarded-same =
      ⊎_elim
      same-paused
      (λ none. ⊎_elim
      (λ long. same-long none long)
      (λ few. same-whole none few)
      (cases_lt 256 (length (bytes_in d.body))))
      (cases_Bool (has_pause d.body))

  -- If a burst is a frame for the device, all its bytes are live.
  pub forwarded-whole : is_frame_body 2 d.body ≡ true → live_bytes rtu_rules d ≡ bytes_in d.body
  forwarded-whole framed =
      ⊎_elim
      (λ paused. let none = paused-body paused in absurd (cc))
      (λ none. live-all none (is_frame-true (bytes_in d.body)
      (sym (calm-body none) ∙ framed)).at_most)
      (cases_Bool (has_pause d.body))

-- ---- a line

-- If both tests take a burst, or neither does, and the same is taken of the bursts after it, then
-- the same is taken of all.
cons-same : (d : Burst) (xs ys : List Burst) (read tell : Burst → FrameRead)
    → map read xs ≡ map tell ys → (ended one other : Bool) → other ≡ one
    → (one ≡ true → read d ≡ tell d)
    → map read (cond (ended && one) (d ∷ xs) xs) ≡ map tell (cond (ended && other) (d ∷ ys) ys)
cons-same d xs ys read tell same false one other tests frames = same
cons-same d xs ys read tell same true true true tests frames =
    ap (λ f. f ∷ map read xs) (frames refl) ∙ ap (λ l. tell d ∷ l) same
cons-same d xs ys read tell same true false false tests frames = same
cons-same d xs ys read tell same true true false tests frames = absurd (cc)
cons-same d xs ys read tell same true false true tests frames = absurd (cc)

read-same : (m n : ℕ) (line : List Tick) (ds : List Burst) → AreBursts 4 n line ds
    → frames_read 4 2 m ds ≡ frames_forwarded rtu_rules m ds
read-same m n line [] are = refl
read-same m n line (d ∷ ds) are =
    cons-same d (filter (is_read 4 2 m) ds) (filter (is_ended_frame rtu_rules m) ds)
    frame_in (frame_forwarded rtu_rules)
    (read-same m (end_of d) are.1 ds are.6)
    (nat_le (end_of d + 4) m) (is_frame_body 2 d.body) (is_forwarded rtu_rules d)
    (forwarded-same d are.4)
    (λ framed. ap (λ f. let r : FrameRead = record { start = d.start; frame = f } in r)
    (sym (forwarded-whole d are.4 framed)))

-- The frames that a device reads from a line are those that are forwarded.
pub forwarded-read : (line : List Tick) → rtu_reads line ≡ rtu_forwarded line
forwarded-read line =
    read-same (length line) 0 line (bursts line) (bursts_from-are 4 0 line)

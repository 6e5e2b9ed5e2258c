-- If the hunt takes each burst that leaves the receiver as a whole, a device that hunts reads the
-- frames among those that have wholly left.
use Rattle.frame_ending.{proofs.LaidBursts.bursts-laid, proofs.Spread.AreSpread, specs.Laid.tick_at}
use Rattle.{frame_ending.specs.Laid.laid, device_model.proofs.HuntCases.found-whole}
use Rattle.device_model.proofs.{HuntCases.hunt-cut, Hunts.hunt-whole, Hunts.timed_bytes-length}
use Rattle.device_model.proofs.ReadLaws.{frames_ended, frames_ended-append, frames_ended-ended}
use Rattle.device_model.specs.Frames.{FrameRead}
use Rattle.device_model.specs.Hunt.{Timed, timed, timed_bytes, begins, bytes_taken, found, hunt}
use Rattle.device_model.specs.{HuntLaws.IsHunted, HuntingDevice.frame_at, RtuReads.frame_in}
use Rattle.frame_ending.proofs.Pauses.{contiguous-ends}
use Rattle.line_rules.specs.{Rules.Rules, RulesLaws.IsHeaded, RulesLaws.IsFramed}
use Rattle.receiver_laws.proofs.Readings.{read-open}
use Rattle.receiver_laws.proofs.Settled.{laid-longer, last_end, EndBy-last, EndBy-later}
use Rattle.receiver_laws.specs.Hunters.{HunterIsFront, nothing, up_to, IsHunter}
use Rattle.std.proofs.Common.{◌≡◌, ◌∙◌, ℕ, zero, suc, ◌+◌, ◌-◌, ◌<◌, ◌≤◌, Bool, true, cond, List}
use Rattle.std.proofs.Common.{[], ◌∷◌, ◌++◌, length, take, drop, refl, sym, ap, subst, arith}
use Rattle.std.proofs.Common.{⊎_elim, length-append, append_assoc}
use Rattle.std.proofs.{Math.Seq.take-append-add, lemmas.Bool.cases_lt}
use Rattle.std.proofs.lemmas.List.{append-nil, length-replicate, take-append-le, drop-append-le}
use Rattle.std.proofs.lemmas.List.{take-append-drop, take_at, FromFn.length-map-range_with_len}
use Rattle.yasir_ticks.proofs.{BurstsOfLaws.bursts_from-are, SilenceLaws.bytes_in-append}
use Rattle.yasir_ticks.specs.{Bursts.Burst, Bursts.end_of, BurstsOf.IsContiguous, BurstsOf.one}
use Rattle.yasir_ticks.specs.{BurstsOf.more, BurstsOf.AreBursts, Ticks.silent, Ticks.bytes_in}
use Rattle.yasir_ticks.specs.declared.tick.Tick.{Tick, TheVariants.Silent, TheVariants.Byte}

-- ---- the bytes of ticks

pub timed-bytes : (n : ℕ) (x : List Tick) → timed_bytes (timed n x) ≡ bytes_in x
timed-bytes n [] = refl
timed-bytes n (Silent ∷ x) = timed-bytes (suc n) x
timed-bytes n (Byte b ∷ x) = ap (λ y. b ∷ y) (timed-bytes (suc n) x)

pub timed-silent_ticks : (n m k : ℕ) (x : List Tick) → n + k ≡ m
    → timed n (silent k ++ x) ≡ timed m x
timed-silent_ticks n m zero x at =
    let same : n ≡ m = omega arith in ap (λ i. timed i x) same
timed-silent_ticks n m (suc k) x at =
    let next : suc n + k ≡ m = omega arith in timed-silent_ticks (suc n) m k x next

-- ---- the front of contiguous ticks

front-gap : (b gap j : ℕ) → j ≤ gap → gap < 2 → HunterIsFront (Byte b ∷ silent j)
front-gap b gap j le few = let h : j < 2 = omega arith in up_to (Byte b ∷ []) j h (one b)

front-behind : (b gap : ℕ) (x : List Tick) → gap < 2 → HunterIsFront x
    → HunterIsFront (Byte b ∷ (silent gap ++ x))
front-behind b gap x few nothing =
    let P : List Tick → Type 0 = λ y. HunterIsFront (Byte b ∷ y) in
    let le : gap ≤ gap = omega arith in
    subst P (sym (append-nil (silent gap))) (front-gap b gap gap le few)
front-behind b gap x few (up_to y k little contiguous) =
    let P : List Tick → Type 0 = λ z. HunterIsFront (Byte b ∷ z) in
    subst P (append_assoc (silent gap) y (silent k))
    (up_to (Byte b ∷ (silent gap ++ y)) k little (more b gap y few contiguous))

take-silent : (j k : ℕ) → j ≤ k → take j (silent k) ≡ silent j
take-silent zero k le = refl
take-silent (suc j) zero le = absurd (omega arith)
take-silent (suc j) (suc k) le =
    let h : j ≤ k = omega arith in ap (λ x. Silent ∷ x) (take-silent j k h)

pub contiguous-front : (x : List Tick) (j : ℕ) → IsContiguous 2 x → j < length x
    → HunterIsFront (take j x)
contiguous-front x zero contiguous short = nothing
contiguous-front x (suc j) (one b) short = absurd (omega arith)
contiguous-front x (suc j) (more b gap rest few contiguous) short =
    let long = length-replicate gap Silent in
    let sum = length-append (silent gap) rest in
    ⊎_elim
    (λ within.
    let P : List Tick → Type 0 = λ y. HunterIsFront (Byte b ∷ y) in
    let le : j ≤ gap = omega arith in
    let fits : j ≤ length (silent gap) = omega arith in
    subst P (sym (take-append-le j (silent gap) rest fits ∙ take-silent j gap le))
    (front-gap b gap j le few))
    (λ past.
    let P : List Tick → Type 0 = λ y. HunterIsFront (Byte b ∷ y) in
    let k : ℕ = j - gap in
    let at : j ≡ length (silent gap) + k = omega arith in
    let less : k < length rest = omega arith in
    subst P (sym (ap (λ i. take i (silent gap ++ rest)) at ∙ take-append-add (silent gap) rest k))
    (front-behind b gap (take k rest) few (contiguous-front rest k contiguous less)))
    (cases_lt j gap)

-- ---- what leaves is taken together

-- Holds if the hunt takes all of these bytes together.
pub record IsTaken (first second : ℕ) (rules : Rules) (x : List ℕ) : Type 0 where
  pub starts : begins first second x ≡ true
  pub whole : bytes_taken first second rules x ≡ length x

-- Holds if the hunt takes the bytes of each of these bursts together.
abbrev pub AreTaken : ℕ → ℕ → Rules → List Burst → Type 0
AreTaken first second rules [] = Unit {0}
AreTaken first second rules (d ∷ ds) =
    IsTaken first second rules (bytes_in d.body) × AreTaken first second rules ds

-- Contiguous ticks begin with a byte.
contiguous-first : (c : ℕ) (x : List Tick) → IsContiguous c x
    → (b : ℕ) × (y : List Tick) × (x ≡ Byte b ∷ y)
contiguous-first c x (one b) = (b, [], refl)
contiguous-first c x (more b gap rest few contiguous) = (b, silent gap ++ rest, refl)

module _ (first second : ℕ) (rules : Rules) (headed : IsHeaded rules) (framed : IsFramed rules)
    (hunted : IsHunted first second rules) where
  abbrev hunts : List Timed → List FrameRead
  hunts x = hunt first second rules 0 x

  abbrev is_whole : Burst → Bool
  is_whole d = rules.is_frame (bytes_in d.body)

  -- If the hunt takes the bytes of these ticks together, it reads them if they are a frame, and
  -- goes on after them.
  taken-from : (n b : ℕ) (y : List Tick) (z : List Timed)
      → IsTaken first second rules (b ∷ bytes_in y)
      → hunts (timed n (Byte b ∷ y) ++ z) ≡ frame_at rules n (b ∷ bytes_in y) ++ hunts z
  taken-from n b y z taken =
      let t : Timed = record { tick = n; byte = b } in
      let x : List Timed = timed (suc n) y in
      let is : timed_bytes (t ∷ x) ≡ b ∷ bytes_in y = ap (λ l. b ∷ l) (timed-bytes (suc n) y) in
      let count = timed_bytes-length (t ∷ x) in
      hunt-whole first second rules t x z (ap (begins first second) is ∙ taken.starts)
      (ap (bytes_taken first second rules) is ∙ (taken.whole ∙ (sym (ap length is) ∙ count)))
      ∙ ap (λ f. f ++ hunts z)
      (ap (found first second rules n) is
      ∙ found-whole first second rules headed hunted framed (b ∷ bytes_in y) taken.starts
      taken.whole n)

  taken-all : (n : ℕ) (d : Burst) (z : List Timed) → IsContiguous 2 d.body → d.start ≡ n
      → IsTaken first second rules (bytes_in d.body)
      → hunts (timed n d.body ++ z) ≡ cond (is_whole d) (frame_in d ∷ []) [] ++ hunts z
  taken-all n d z contiguous at taken =
      let begin = contiguous-first 2 d.body contiguous in
      let P : List Tick → Type 0 = λ x. IsTaken first second rules (bytes_in x)
      → hunts (timed n x ++ z) ≡ frame_at rules n (bytes_in x) ++ hunts z in
      let step : P d.body = subst P (sym begin.2) (taken-from n begin.0 begin.1 z) in
      step taken ∙ ap (λ s. frame_at rules s (bytes_in d.body) ++ hunts z) (sym at)

  -- Of a front of such a burst the hunt reads nothing.
  cut-none : (n j : ℕ) (d : Burst) → IsContiguous 2 d.body → j < length d.body
      → IsTaken first second rules (bytes_in d.body) → hunts (timed n (take j d.body)) ≡ []
  cut-none n j d contiguous short taken =
      let last = contiguous-ends 2 d.body contiguous in
      let w : List Tick = last.0 in
      let long : length d.body ≡ length w + 1 =
      ap length last.2 ∙ length-append w (Byte last.1 ∷ []) in
      let rest : List ℕ = bytes_in (drop j d.body) in
      let behind : rest ≡ bytes_in (drop j w) ++ last.1 ∷ [] =
      ap (λ y. bytes_in (drop j y)) last.2
      ∙ (ap bytes_in (drop-append-le j w (Byte last.1 ∷ []) (omega arith))
      ∙ bytes_in-append (drop j w) (Byte last.1 ∷ [])) in
      let some : 0 < length rest =
      omega (arith, ap length behind, length-append (bytes_in (drop j w)) (last.1 ∷ [])) in
      let front : timed_bytes (timed n (take j d.body)) ++ rest ≡ bytes_in d.body =
      ap (λ y. y ++ rest) (timed-bytes n (take j d.body))
      ∙ (sym (bytes_in-append (take j d.body) (drop j d.body))
      ∙ ap bytes_in (take-append-drop j d.body)) in
      hunt-cut first second rules headed hunted (timed n (take j d.body)) rest some
      (ap (begins first second) front ∙ taken.starts)
      (ap (bytes_taken first second rules) front ∙ (taken.whole ∙ sym (ap length front)))

  -- ---- a device that hunts, and the bursts that leave

  module _ (read : ℕ → List Tick → List FrameRead) (hunter : IsHunter first second rules read)
    where
      read-silent : (n k : ℕ) → read n (silent k) ≡ []
      read-silent n k =
          ap (read n) (sym (append-nil (silent k)))
          ∙ (hunter.waits n k [] ∙ hunter.none (n + k))

      take-silence : (k m : ℕ) → (j : ℕ) × (take k (silent m) ≡ silent j)
      take-silence zero m = (0, refl)
      take-silence (suc k) zero = (0, refl)
      take-silence (suc k) (suc m) =
          let less = take-silence k m in (suc less.0, ap (λ x. Silent ∷ x) less.1)

      -- what the device reads of the first k ticks of a line that carries these bursts
      hunter-walk : (ds : List Burst) (n k m : ℕ) (line : List Tick) → n + k ≡ m
          → AreBursts 2 n line ds → AreSpread 2 n ds → AreTaken first second rules ds
          → read n (take k line) ≡ frames_ended 0 is_whole m ds
      hunter-walk [] n k m line at are spread taken =
          let quiet = take-silence k (length line) in
          ap (λ x. read n (take k x)) are ∙ (ap (read n) quiet.1 ∙ read-silent n quiet.0)
      hunter-walk (d ∷ ds) n k m line at are spread taken =
          let gap : ℕ = are.0 in
          let rest : List Tick = are.1 in
          let start : d.start ≡ n + gap = are.3 in
          let quiet : length (silent gap) ≡ gap = length-replicate gap Silent in
          let sum = length-append d.body rest in
          ⊎_elim
          (λ before.
          let open_yet : m < end_of d + 0 = omega arith in
          let late : m < end_of d + 2 = omega arith in
          ⊎_elim
          (λ dark.
          let fits : k ≤ length (silent gap) = omega arith in
          let silence : take k line ≡ silent k =
          ap (take k) are.2 ∙ (take-append-le k (silent gap) (d.body ++ rest) fits
          ∙ take-silent k gap (omega arith)) in
          ap (read n) silence ∙ (read-silent n k
          ∙ sym (read-open 0 m is_whole d (end_of d + 2) ds spread.2 open_yet late)))
          (λ begun.
          let j : ℕ = k - gap in
          let place : k ≡ length (silent gap) + j = omega arith in
          let short : j < length d.body = omega arith in
          let few : j ≤ length d.body = omega arith in
          let front : take k line ≡ silent gap ++ take j d.body =
          ap (take k) are.2
          ∙ (ap (λ i. take i (silent gap ++ (d.body ++ rest))) place
          ∙ (take-append-add (silent gap) (d.body ++ rest) j
          ∙ ap (λ x. silent gap ++ x) (take-append-le j d.body rest few))) in
          ap (read n) front
          ∙ (hunter.waits n gap (take j d.body)
          ∙ (hunter.breaks_off (n + gap) (take j d.body) (contiguous-front d.body j are.4 short)
          (cut-none (n + gap) j d are.4 short taken.0)
          ∙ sym (read-open 0 m is_whole d (end_of d + 2) ds spread.2 open_yet late))))
          (cases_lt k gap))
          (λ past.
          let j : ℕ = k - (gap + length d.body) in
          let place : k ≡ length (silent gap) + (length d.body + j) = omega arith in
          let next : end_of d + j ≡ m = omega arith in
          let end : n + gap + length d.body ≡ end_of d = omega arith in
          let gone : end_of d + 0 ≤ m = omega arith in
          let whole : take k line ≡ silent gap ++ (d.body ++ take j rest) =
          ap (take k) are.2
          ∙ (ap (λ i. take i (silent gap ++ (d.body ++ rest))) place
          ∙ (take-append-add (silent gap) (d.body ++ rest) (length d.body + j)
          ∙ ap (λ x. silent gap ++ x) (take-append-add d.body rest j))) in
          let frames : List FrameRead = cond (is_whole d) (frame_in d ∷ []) [] in
          let from : AreSpread 2 (end_of d) ds = spread-from (end_of d) (end_of d + 2) ds
          (omega arith) spread.2 in
          ap (read n) whole
          ∙ (hunter.waits n gap (d.body ++ take j rest)
          ∙ (hunter.takes (n + gap) (end_of d) d.body (take j rest) frames are.4 end
          (λ z. taken-all (n + gap) d z are.4 start taken.0)
          ∙ (ap (λ x. frames ++ x)
          (hunter-walk ds (end_of d) j m rest next are.6 from taken.1)
          ∙ (ap (λ x. x ++ frames_ended 0 is_whole m ds)
          (sym (frames_ended-ended 0 is_whole m d gone))
          ∙ sym (frames_ended-append 0 is_whole m (d ∷ []) ds))))))
          (cases_lt k (gap + length d.body))
        where
          spread-from : (a b : ℕ) (es : List Burst) → a ≤ b → AreSpread 2 b es → AreSpread 2 a es
          spread-from a b [] le spread = tt
          spread-from a b (e ∷ es) le spread =
              let from : b ≤ e.start = spread.0 in (omega arith, spread.1, spread.2)

      -- The device reads the frames among the bursts that have wholly left.
      pub hunter-laid : (m : ℕ) (es : List Burst) → AreSpread 2 0 es
          → AreTaken first second rules es
          → read 0 (laid m es) ≡ frames_ended 0 is_whole m es
      hunter-laid m es spread taken =
          let long : length (laid m es) ≡ m = length-map-range_with_len (λ i. tick_at es i) 0 m in
          let n : ℕ = m + last_end es in
          let longer = laid-longer es m (last_end es) n refl in
          let ended : last_end es ≤ m + last_end es = omega arith in
          let at : 0 + m ≡ m = omega arith in
          let P : List Burst → Type 0 = λ ds. AreBursts 2 0 (laid n es) ds in
          let are : AreBursts 2 0 (laid n es) es =
          subst P (bursts-laid 2 n es spread (EndBy-later (last_end es) n es ended (EndBy-last es)))
          (bursts_from-are 2 0 (laid n es)) in
          ap (read 0) (sym (ap (take m) longer.1 ∙ take_at (laid m es) longer.0 m long))
          ∙ hunter-walk es 0 m m (laid n es) at are spread taken

-- The live ticks of a burst, as it goes on with a byte, and where they end.
use Rattle.frame_ending.proofs.BurstSteps.{live-le, live-over, live-more, live-all, longer-bytes}
use Rattle.frame_ending.proofs.{LastBurst.IsWithin, LiveSome.live-some}
use Rattle.frame_ending.proofs.Pauses.{ended, contiguous-ends, up_to_byte-append, up_to_byte-all}
use Rattle.frame_ending.proofs.{Pauses.up_to_byte-le, Rooms.within_room-le}
use Rattle.frame_ending.specs.LiveBytes.{before_pause, has_pause, up_to_byte, spelled, live_bytes}
use Rattle.frame_ending.specs.LiveBytes.{live_ticks, live_end, has_extra}
use Rattle.line_rules.specs.{Rules.Rules, Rules.fills_room, RulesLaws.IsLawful}
use Rattle.std.proofs.Common.{◌≡◌, ◌∙◌, ℕ, zero, suc, ◌+◌, ◌-◌, ◌<◌, ◌≤◌, nat_le, Bool, true, false}
use Rattle.std.proofs.Common.{◌||◌, List, [], ◌∷◌, ◌++◌, length, take, refl, sym, ap, subst, arith}
use Rattle.std.proofs.Common.{length-append, get_or, ⊎_elim}
use Rattle.std.proofs.lemmas.Bool.{cases_Bool, cases_lt, or_parts, ltb-false}
use Rattle.yasir_ticks.proofs.{BurstLaws.with_last, SilenceLaws.bytes_in-append}
use Rattle.yasir_ticks.{proofs.SilenceLaws.get_or-silence, specs.Bursts.Burst, specs.Bursts.end_of}
use Rattle.yasir_ticks.specs.BurstsOf.{IsContiguous, one, more}
use Rattle.yasir_ticks.specs.Ticks.{bytes_in, silent}
use Rattle.yasir_ticks.specs.declared.tick.Tick.{Tick, TheVariants.Silent, TheVariants.Byte}

-- if all bytes are live, the live ticks are all ticks
pub live_ticks-all : (rules : Rules) (d : Burst) → IsContiguous 4 d.body
    → length (live_bytes rules d) ≡ length (bytes_in d.body) → live_ticks rules d ≡ d.body
live_ticks-all rules d contiguous all =
    let last = contiguous-ends 4 d.body contiguous in
    let P : List Tick → Type 0 = λ x. up_to_byte (length (bytes_in x)) x ≡ x in
    ap (λ k. up_to_byte k d.body) all ∙ subst P (sym last.2) (whole last.0 last.1)
  where
    whole : (w : List Tick) (a : ℕ) → up_to_byte (length (bytes_in (ended w a))) (ended w a)
        ≡ ended w a
    whole w a =
        let bytes : length (bytes_in (ended w a)) ≡ suc (length (bytes_in w)) =
        ap length (bytes_in-append w (Byte a ∷ []))
        ∙ (length-append (bytes_in w) (a ∷ []) ∙ omega arith) in
        ap (λ k. up_to_byte k (ended w a)) bytes ∙ up_to_byte-all w a

module _ (rules : Rules) (lawful : IsLawful rules) where
  -- if no byte is extra, the live ticks are all ticks
  pub live_ticks-whole : (d : Burst) → IsContiguous 4 d.body → has_extra rules d ≡ false
      → live_ticks rules d ≡ d.body
  live_ticks-whole d contiguous none =
      let few = live-le rules lawful d in
      let many : length (bytes_in d.body) ≤ length (live_bytes rules d) =
      ltb-false (length (live_bytes rules d)) (length (bytes_in d.body)) none in
      live_ticks-all rules d contiguous (omega arith)

  -- A burst that goes on at tick m keeps its live ticks before tick m, and silence follows them.
  module _ (m b : ℕ) (d : Burst) (within : IsWithin m d) where
    abbrev paused : Bool
    paused = has_pause d.body || nat_le 2 (m - end_of d)

    pub live_ticks-over : (paused || fills_room rules (live_bytes rules d)) ≡ true
        → live_ticks rules (with_last d m b) ≡ live_ticks rules d
    live_ticks-over is =
        ap (λ h. up_to_byte (length h) (with_last d m b).body)
        (live-over m b d within rules lawful is)
        ∙ up_to_byte-append (length (live_bytes rules d)) d.body
        (silent (m - end_of d) ++ Byte b ∷ []) (live-le rules lawful d)

    pub live_ticks-open : paused ≡ false → fills_room rules (live_bytes rules d) ≡ false
        → live_ticks rules d ≡ d.body
    live_ticks-open none room = live_ticks-all rules d within.contiguous
        (ap length (live-all m b d within rules lawful none room))

    pub live_ticks-more : paused ≡ false → fills_room rules (live_bytes rules d) ≡ false
        → IsContiguous 4 (with_last d m b).body
        → live_ticks rules (with_last d m b) ≡ (with_last d m b).body
    live_ticks-more none room contiguous =
        live_ticks-all rules (with_last d m b) contiguous
        (ap length (live-more m b d within rules lawful none room
        ∙ (ap (λ h. h ++ b ∷ []) (live-all m b d within rules lawful none room)
        ∙ sym (longer-bytes m b d within))))

    pub live_ticks-before : IsContiguous 4 (with_last d m b).body → (k : ℕ) → d.start + k < m
        → get_or (live_ticks rules (with_last d m b)) k Silent
        ≡ get_or (live_ticks rules d) k Silent
    live_ticks-before contiguous k before =
        let end = within.within in
        ⊎_elim
        (λ is. ap (λ x. get_or x k Silent) (live_ticks-over is))
        (λ no_more.
        let parts = or_parts paused (fills_room rules (live_bytes rules d)) no_more in
        let few : k < length d.body + (m - end_of d) = omega arith in
        ap (λ x. get_or x k Silent) (live_ticks-more parts.0 parts.1 contiguous)
        ∙ (get_or-silence d.body (m - end_of d) k (Byte b ∷ []) few
        ∙ ap (λ x. get_or x k Silent) (sym (live_ticks-open parts.0 parts.1))))
        (cases_Bool (paused || fills_room rules (live_bytes rules d)))

-- ---- where the live ticks end

-- the live ticks end no later than the burst
pub live_end-within : (rules : Rules) (d : Burst) → live_end rules d ≤ end_of d
live_end-within rules d =
    let few = up_to_byte-le (length (live_bytes rules d)) d.body in
    omega arith

-- if no byte is extra, the live ticks end with the burst
pub live_end-whole : (rules : Rules) → IsLawful rules → (d : Burst) → IsContiguous 4 d.body
    → has_extra rules d ≡ false → live_end rules d ≡ end_of d
live_end-whole rules lawful d contiguous none =
    ap (λ x. d.start + length x) (live_ticks-whole rules lawful d contiguous none)

-- if the ticks up to a byte are as many as all ticks, they are all ticks
pub up_to_byte-full : (k : ℕ) (x : List Tick) → length (up_to_byte k x) ≡ length x
    → up_to_byte k x ≡ x
unfolding up_to_byte
up_to_byte-full zero [] long = refl
up_to_byte-full zero (t ∷ x) long = absurd (omega arith)
up_to_byte-full (suc k) [] long = refl
up_to_byte-full (suc k) (Silent ∷ x) long =
    let rest : length (up_to_byte (suc k) x) ≡ length x = omega arith in
    ap (λ l. Silent ∷ l) (up_to_byte-full (suc k) x rest)
up_to_byte-full (suc k) (Byte b ∷ x) long =
    let rest : length (up_to_byte k x) ≡ length x = omega arith in
    ap (λ l. Byte b ∷ l) (up_to_byte-full k x rest)

-- ---- what the live ticks are

pub bytes_up_to : (k : ℕ) (x : List Tick) → bytes_in (up_to_byte k x) ≡ take k (bytes_in x)
unfolding up_to_byte
bytes_up_to zero x = refl
bytes_up_to (suc k) [] = refl
bytes_up_to (suc k) (Silent ∷ x) = bytes_up_to (suc k) x
bytes_up_to (suc k) (Byte b ∷ x) = ap (λ z. b ∷ z) (bytes_up_to k x)

-- the bytes before a pause are the first bytes of all
bytes_before-first : (x : List Tick)
    → take (length (bytes_in (before_pause x))) (bytes_in x) ≡ bytes_in (before_pause x)
unfolding before_pause
bytes_before-first [] = refl
bytes_before-first (Byte b ∷ x) = ap (λ z. b ∷ z) (bytes_before-first x)
bytes_before-first (Silent ∷ []) = refl
bytes_before-first (Silent ∷ Silent ∷ x) = refl
bytes_before-first (Silent ∷ Byte b ∷ x) = ap (λ z. b ∷ z) (bytes_before-first x)

first-of-first : (k n : ℕ) (x : List ℕ) → take (length (take k (take n x))) x ≡ take k (take n x)
first-of-first zero n x = refl
first-of-first (suc k) zero x = refl
first-of-first (suc k) (suc n) [] = refl
first-of-first (suc k) (suc n) (b ∷ x) = ap (λ z. b ∷ z) (first-of-first k n x)

-- the bytes of the live ticks are the live bytes
pub live_ticks-bytes : (rules : Rules) (d : Burst)
    → bytes_in (live_ticks rules d) ≡ live_bytes rules d
live_ticks-bytes rules d =
    let x : List ℕ = bytes_in d.body in
    let n : ℕ = length (spelled d) in
    let first : take n x ≡ spelled d = bytes_before-first d.body in
    let P : List ℕ → Type 0 = λ y. take (length (take (rules.room (spelled d)) y)) x
    ≡ take (rules.room (spelled d)) y in
    bytes_up_to (length (live_bytes rules d)) d.body
    ∙ subst P first (first-of-first (rules.room (spelled d)) n x)

-- Ticks up to a byte before a pause are contiguous, without two silent ones in a row.
before_pause-gap : (gap : ℕ) (y : List Tick) → 2 ≤ gap → before_pause (silent gap ++ y) ≡ []
unfolding before_pause
before_pause-gap zero y many = absurd (omega arith)
before_pause-gap (suc zero) y many = absurd (omega arith)
before_pause-gap (suc (suc gap)) y many = refl

before_pause-few : (gap : ℕ) (y : List Tick) → IsContiguous 4 y → gap < 2
    → bytes_in (before_pause (silent gap ++ y)) ≡ bytes_in (before_pause y)
unfolding before_pause
before_pause-few zero y contiguous few = refl
before_pause-few (suc zero) y (one b) few = refl
before_pause-few (suc zero) y (more b gap rest near contiguous) few = refl
before_pause-few (suc (suc gap)) y contiguous few = absurd (omega arith)

up_to_byte-silent : (k gap : ℕ) (y : List Tick)
    → up_to_byte (suc k) (silent gap ++ y) ≡ silent gap ++ up_to_byte (suc k) y
unfolding up_to_byte
up_to_byte-silent k zero y = refl
up_to_byte-silent k (suc gap) y = ap (λ z. Silent ∷ z) (up_to_byte-silent k gap y)

up_to_byte-first : (k b : ℕ) (y : List Tick)
    → up_to_byte (suc k) (Byte b ∷ y) ≡ Byte b ∷ up_to_byte k y
unfolding up_to_byte
up_to_byte-first k b y = refl

up_to_byte-none : (y : List Tick) → up_to_byte 0 y ≡ []
unfolding up_to_byte
up_to_byte-none y = refl

one-byte : (k b : ℕ) → suc (suc k) ≤ length (bytes_in (before_pause (Byte b ∷ []))) → ⊥
unfolding before_pause
one-byte k b within = omega arith

no_pause-fewer : (k b gap : ℕ) (rest : List Tick) → IsContiguous 4 rest → gap < 2
    → suc (suc k) ≤ length (bytes_in (before_pause (Byte b ∷ (silent gap ++ rest))))
    → suc k ≤ length (bytes_in (before_pause rest))
unfolding before_pause
no_pause-fewer k b gap rest contiguous few within =
    let same = ap length (before_pause-few gap rest contiguous few) in
    omega arith

pause-none : (k b gap : ℕ) (rest : List Tick) → 2 ≤ gap
    → suc (suc k) ≤ length (bytes_in (before_pause (Byte b ∷ (silent gap ++ rest)))) → ⊥
unfolding before_pause
pause-none k b gap rest many within =
    let same = ap (λ y. length (bytes_in y)) (before_pause-gap gap rest many) in
    omega arith

up_to_byte-contiguous : (k : ℕ) (x : List Tick) → IsContiguous 4 x
    → suc k ≤ length (bytes_in (before_pause x))
    → IsContiguous 2 (up_to_byte (suc k) x)
up_to_byte-contiguous zero x (one b) within =
    let P : List Tick → Type 0 = λ y. IsContiguous 2 y in
    subst P (sym (up_to_byte-first zero b [] ∙ ap (λ y. Byte b ∷ y) (up_to_byte-none []))) (one b)
up_to_byte-contiguous (suc k) x (one b) within = absurd (one-byte k b within)
up_to_byte-contiguous zero x (more b gap rest near contiguous) within =
    let P : List Tick → Type 0 = λ y. IsContiguous 2 y in
    subst P
    (sym (up_to_byte-first zero b (silent gap ++ rest)
    ∙ ap (λ y. Byte b ∷ y) (up_to_byte-none (silent gap ++ rest))))
    (one b)
up_to_byte-contiguous (suc k) x (more b gap rest near contiguous) within =
    let P : List Tick → Type 0 = λ y. IsContiguous 2 y in
    subst P
    (sym (up_to_byte-first (suc k) b (silent gap ++ rest)
    ∙ ap (λ y. Byte b ∷ y) (up_to_byte-silent k gap rest)))
    (⊎_elim
    (λ few. more b gap (up_to_byte (suc k) rest) few
    (up_to_byte-contiguous k rest contiguous (no_pause-fewer k b gap rest contiguous few within)))
    (λ many. absurd (pause-none k b gap rest many within))
    (cases_lt gap 2))

-- the live ticks of a burst are contiguous, without two silent ones in a row
pub live_ticks-contiguous : (rules : Rules) → IsLawful rules → (d : Burst) → IsContiguous 4 d.body
    → IsContiguous 2 (live_ticks rules d)
live_ticks-contiguous rules lawful d contiguous =
    up_to (length (live_bytes rules d)) (live-some rules lawful d contiguous)
    (within_room-le rules lawful (spelled d))
  where
    up_to : (k : ℕ) → 0 < k → k ≤ length (spelled d) → IsContiguous 2 (up_to_byte k d.body)
    up_to zero some within = absurd (omega arith)
    up_to (suc k) some within = up_to_byte-contiguous k d.body contiguous within

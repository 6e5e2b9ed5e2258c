-- What a tick is, given the running burst.
use Rattle.frame_ending.proofs.BurstSteps.{later, live-over, end-over, live_end-le, live-more}
use Rattle.frame_ending.proofs.BurstSteps.{end-more, alone-live, alone-live_end}
use Rattle.frame_ending.proofs.LastBurst.{grown, last_burst-byte, last_burst-within}
use Rattle.frame_ending.specs.Cuts.{cut_of, byte_cut, silence_cut, silent_cut, IsPassing}
use Rattle.frame_ending.specs.{Divided.IsDivided, LiveBytes.has_pause, LiveBytes.live_bytes}
use Rattle.frame_ending.specs.{LiveBytes.live_end, SoFar.last_of, SoFar.last_burst}
use Rattle.frame_ending.specs.declared.cut.Cut.{Cut, TheVariants.Start}
use Rattle.frame_ending.specs.declared.cut.Cut.TheVariants.{Live, Extra, Pause, Closed, Quiet}
use Rattle.line_rules.specs.{Rules.Rules, Rules.fills_room, RulesLaws.IsLawful}
use Rattle.std.proofs.Common.{◌≡◌, ◌∙◌, ℕ, suc, ◌+◌, ◌-◌, ◌<◌, ◌≤◌, ◌==◌, nat_le, nat_lt, Bool}
use Rattle.std.proofs.Common.{true, false, ◌||◌, cond, ◌⊎◌, inl, inr, List, [], ◌∷◌, ◌++◌, length}
use Rattle.std.proofs.Common.{refl, sym, ap, subst, arith, ⊎_elim, Option, Some, None, IfSome}
use Rattle.std.proofs.{Common.append-nil, lemmas.Bool.cases_Bool, lemmas.Bool.cases_lt}
use Rattle.std.proofs.lemmas.Bool.{or_parts, eq-eqb, ne_eqb, le-ltb, lt-ltb, cond-true, cond-false}
use Rattle.yasir_ticks.proofs.BurstLaws.{alone, with_last}
use Rattle.yasir_ticks.specs.Bursts.{Burst, end_of, AreClosed}
use Rattle.yasir_ticks.specs.declared.tick.Tick.{Tick, TheVariants.Silent, TheVariants.Byte}

-- the running burst after a byte at tick m
abbrev pub with_byte_at : ℕ → ℕ → Option Burst → Burst
with_byte_at m b None = alone m b
with_byte_at m b (Some d) = with_last d m b

-- ---- the last burst

last_of-end : (ds : List Burst) (d : Burst) → last_of (ds ++ d ∷ []) ≡ Some d
unfolding last_of
last_of-end [] d = refl
last_of-end (e ∷ []) d = refl
last_of-end (e ∷ f ∷ ds) d = last_of-end (f ∷ ds) d

-- Holds if four silent ticks follow this burst before tick m, or if there is no burst.
abbrev IsPast : ℕ → Option Burst → Type 0
IsPast m o = IfSome o (λ d. end_of d + 4 ≤ m)

last_of-closed : (m : ℕ) (ds : List Burst) → AreClosed 4 m ds → IsPast m (last_of ds)
unfolding last_of
last_of-closed m [] closed = tt
last_of-closed m (d ∷ []) closed = closed.0
last_of-closed m (d ∷ e ∷ ds) closed = last_of-closed m (e ∷ ds) closed.1

-- Holds if the running burst is the last one or, if none runs, four silent ticks follow the last
-- one.
abbrev pub IsRunning : List Tick → Option Burst → Type 0
IsRunning line None = IsPast (length line) (last_burst line)
IsRunning line (Some d) = (last_burst line ≡ Some d) × (length line < end_of d + 4)

-- `IsRunning` holds for the running burst of a line that is divided.
pub divided-running : (line : List Tick) (closed : List Burst) (running : Option Burst)
    → IsDivided line closed running → IsRunning line running
divided-running line closed None divided =
    let P : List Burst → Type 0 = λ ds. IsPast (length line) (last_of ds) in
    subst P (sym divided.is) (rw append-nil
    (last_of-closed (length line) closed divided.are_closed))
divided-running line closed (Some d) divided =
    (ap last_of divided.is ∙ last_of-end closed d, divided.is_running)

-- ---- a silent tick

past-quiet : (m : ℕ) (o : Option Burst) → IsPast m o → silent_cut m o ≡ Quiet
past-quiet m None past = refl
past-quiet m (Some d) past =
    let k : ℕ = suc m - end_of d in
    let far : 5 ≤ k = omega arith in
    cond-false _ _ _ (le-ltb k 4 (omega arith))
    ∙ cond-false _ _ _ (ne_eqb k 4 (λ same. omega arith))

module _ (rules : Rules) (line : List Tick) where
  quiet-none : IsRunning line None → cut_of rules line Silent ≡ Quiet
  quiet-none past = past-quiet (length line) (last_burst line) past

  silent-some : (d : Burst) → last_burst line ≡ Some d
      → cut_of rules line Silent ≡ silence_cut (suc (length line) - end_of d)
  silent-some d last = ap (λ o. silent_cut (length line) o) last

  -- a silent tick that doesn't close the running burst
  pub silent-open : (running : Option Burst) → IsRunning line running
      → (cut_of rules line Silent ≡ Closed → ⊥)
      → IfSome running (λ d. length line + 1 < end_of d + 4)
  silent-open None is unclosed = tt
  silent-open (Some d) is unclosed =
      let near = is.1 in
      let m : ℕ = length line in
      let within = (last_burst-within line d is.0).within in
      ⊎_elim
      (λ few. few)
      (λ more. let at : suc m - end_of d ≡ 4 = omega arith in
      absurd (unclosed (silent-some d is.0 ∙ ap silence_cut at)))
      (cases_lt (m + 1) (end_of d + 4))

  -- Holds if a silent tick closes the running burst.
  pub record Closes (running : Option Burst) : Type 0 where
    pub burst : Burst
    pub is : running ≡ Some burst
    pub at : length line + 1 ≡ end_of burst + 4

  pub silent-closes : (running : Option Burst) → IsRunning line running
      → cut_of rules line Silent ≡ Closed → Closes running
  silent-closes None is closed = let quiet = quiet-none is in absurd cc
  silent-closes (Some d) is closed =
      let near = is.1 in
      let m : ℕ = length line in
      let within = (last_burst-within line d is.0).within in
      let k : ℕ = suc m - end_of d in
      record {
        burst = d;
        is = refl;
        at = ⊎_elim
            (λ few. let pause : silence_cut k
            ≡ Pause k = cond-true _ _ _ (lt-ltb k 4 (omega arith)) in
            let same = sym (silent-some d is.0) ∙ closed in
            absurd cc)
            (λ more. omega arith)
            (cases_lt (m + 1) (end_of d + 4));
      }

-- ---- a byte

module _ (rules : Rules) (lawful : IsLawful rules) (line : List Tick) (b : ℕ) where
  abbrev next : Option Burst → Burst
  next running = with_byte_at (length line) b running

  past-grown : (o : Option Burst) → IsPast (length line) o
      → grown (length line) b o ≡ alone (length line) b
  past-grown None past = refl
  past-grown (Some d) past = cond-false _ _ _ (le-ltb (length line) (end_of d + 4) past)

  -- the last burst after a byte
  pub last-next : (running : Option Burst) → IsRunning line running
      → last_burst (line ++ Byte b ∷ []) ≡ Some (next running)
  last-next None past = last_burst-byte line b ∙ ap Some (past-grown (last_burst line) past)
  last-next (Some d) is =
      last_burst-byte line b ∙ ap Some (ap (λ o. grown (length line) b o) is.0
      ∙ cond-true _ _ _ (lt-ltb (length line) (end_of d + 4) is.1))

  byte-next : (running : Option Burst) → IsRunning line running
      → cut_of rules line (Byte b) ≡ byte_cut rules (length line) b (Some (next running))
  byte-next running is = ap (λ o. byte_cut rules (length line) b o) (last-next running is)

  starts-none : IsRunning line None → cut_of rules line (Byte b) ≡ Start b
  starts-none is = byte-next None is ∙ cond-true _ _ _ (eq-eqb (length line) (length line) refl)

  some-next : (d : Burst) → IsRunning line (Some d)
      → cut_of rules line (Byte b)
      ≡ (cond (live_end rules (with_last d (length line) b) == suc (length line)) (Live b)
      (Extra b))
  some-next d is =
      let before = later (length line) b d (last_burst-within line d is.0) in
      byte-next (Some d) is ∙ cond-false _ _ _ (ne_eqb d.start (length line) (λ same. omega arith))

  -- whether there are two silent ticks in a row in a burst or after it
  abbrev pauses : Burst → Bool
  pauses d = has_pause d.body || nat_le 2 (length line - end_of d)

  -- whether no more bytes of a burst are live
  abbrev over : Burst → Bool
  over d = pauses d || fills_room rules (live_bytes rules d)

  is-live : (d : Burst) → IsRunning line (Some d) → over d ≡ false
      → cut_of rules line (Byte b) ≡ Live b
  is-live d is open' =
      let within = last_burst-within line d is.0 in
      let parts = or_parts (pauses d) (fills_room rules (live_bytes rules d)) open' in
      let end = end-more (length line) b d within rules lawful parts.0 parts.1 in
      some-next d is ∙ cond-true _ _ _ (eq-eqb (live_end rules (with_last d (length line) b))
      (suc (length line)) (omega arith))

  over-end : (d : Burst) → IsRunning line (Some d) → over d ≡ true
      → live_end rules (with_last d (length line) b) ≤ length line
  over-end d is full =
      let within = last_burst-within line d is.0 in
      let end = end-over (length line) b d within rules lawful full in
      let le = live_end-le (length line) b d within rules lawful in
      omega arith

  is-extra : (d : Burst) → IsRunning line (Some d) → over d ≡ true
      → cut_of rules line (Byte b) ≡ Extra b
  is-extra d is full =
      let le = over-end d is full in
      some-next d is ∙ cond-false _ _ _ (ne_eqb (live_end rules (with_last d (length line) b))
      (suc (length line)) (λ same. omega arith))

  -- if a byte is the first of a burst, no burst was running
  pub byte-starts : (running : Option Burst) → IsRunning line running
      → cut_of rules line (Byte b) ≡ Start b → running ≡ None
  byte-starts None is starts = refl
  byte-starts (Some d) is starts =
      ⊎_elim
      (λ full. let extra = is-extra d is full in absurd cc)
      (λ open'. let live = is-live d is open' in absurd cc)
      (cases_Bool (over d))

  pub start-bytes : live_bytes rules (alone (length line) b) ≡ b ∷ []
  start-bytes = alone-live (length line) b rules lawful

  pub start-end : live_end rules (alone (length line) b) ≡ length line + 1
  start-end = alone-live_end (length line) b rules lawful

  -- Holds if a byte is another live one of the running burst.
  pub record GoesOnLive (running : Option Burst) : Type 0 where
    pub burst : Burst
    pub is : running ≡ Some burst
    pub bytes : live_bytes rules (with_last burst (length line) b)
        ≡ live_bytes rules burst ++ b ∷ []
    pub end : live_end rules (with_last burst (length line) b) ≡ length line + 1

  pub byte-lives : (running : Option Burst) → IsRunning line running
      → cut_of rules line (Byte b) ≡ Live b → GoesOnLive running
  byte-lives None is lives = let starts = starts-none is in absurd cc
  byte-lives (Some d) is lives =
      let within = last_burst-within line d is.0 in
      ⊎_elim
      (λ full. let extra = is-extra d is full in absurd cc)
      (λ open'.
      let parts = or_parts (pauses d) (fills_room rules (live_bytes rules d)) open' in
      record {
        burst = d;
        is = refl;
        bytes = live-more (length line) b d within rules lawful parts.0 parts.1;
        end = end-more (length line) b d within rules lawful parts.0 parts.1;
      })
      (cases_Bool (over d))

  -- Holds if a byte of the running burst isn't live.
  pub record GoesOnOver (running : Option Burst) : Type 0 where
    pub burst : Burst
    pub is : running ≡ Some burst
    pub bytes : live_bytes rules (with_last burst (length line) b) ≡ live_bytes rules burst
    pub end : live_end rules (with_last burst (length line) b) ≤ length line

  pub byte-over : (running : Option Burst) → IsRunning line running
      → cut_of rules line (Byte b) ≡ Extra b → GoesOnOver running
  byte-over None is extra = let starts = starts-none is in absurd cc
  byte-over (Some d) is extra =
      let within = last_burst-within line d is.0 in
      ⊎_elim
      (λ full.
      record {
        burst = d;
        is = refl;
        bytes = live-over (length line) b d within rules lawful full;
        end = over-end d is full;
      })
      (λ open'. let live = is-live d is open' in absurd cc)
      (cases_Bool (over d))

-- ---- which tick it is

module _ (rules : Rules) (line : List Tick) where
  silence-not : (k : ℕ) (cut : Cut) → silence_cut k ≡ cut → ((n : ℕ) → cut ≡ Pause n → ⊥)
      → (cut ≡ Closed → ⊥) → (cut ≡ Quiet → ⊥) → ⊥
  silence-not k cut is no_pause open' loud =
      ⊎_elim
      (λ few. no_pause k (sym is ∙ cond-true _ _ _ few))
      (λ many. ⊎_elim
      (λ four. open' (sym is ∙ (cond-false _ _ _ many ∙ cond-true _ _ _ four)))
      (λ other. loud (sym is ∙ (cond-false _ _ _ many ∙ cond-false _ _ _ other)))
      (cases_Bool (k == 4)))
      (cases_Bool (nat_lt k 4))

  -- a silent tick is a pause, closes a burst, or is quiet
  silent-not : (o : Option Burst) (cut : Cut) → silent_cut (length line) o ≡ cut
      → ((n : ℕ) → cut ≡ Pause n → ⊥) → (cut ≡ Closed → ⊥) → (cut ≡ Quiet → ⊥) → ⊥
  silent-not None cut is no_pause open' loud = loud (sym is)
  silent-not (Some d) cut is no_pause open' loud =
      silence-not (suc (length line) - end_of d) cut is no_pause open' loud

  abbrev IsOf : ℕ → Cut → Type 0
  IsOf b cut = (cut ≡ Start b) ⊎ ((cut ≡ Live b) ⊎ (cut ≡ Extra b))

  by-byte : (b : ℕ) (d : Burst) → IsOf b (byte_cut rules (length line) b (Some d))
  by-byte b d =
      ⊎_elim
      (λ yes. inl (cond-true _ _ _ yes))
      (λ no. ⊎_elim
      (λ yes. inr (inl (cond-false _ _ _ no ∙ cond-true _ _ _ yes)))
      (λ not_live. inr (inr (cond-false _ _ _ no ∙ cond-false _ _ _ not_live)))
      (cases_Bool (live_end rules d == suc (length line))))
      (cases_Bool (d.start == length line))

  is-of : (b : ℕ) → IsOf b (cut_of rules line (Byte b))
  is-of b =
      let P : Option Burst → Type 0 = λ o. IsOf b (byte_cut rules (length line) b o) in
      subst P (sym (last_burst-byte line b)) (by-byte b (grown (length line) b (last_burst line)))

  pub start-tick : (t : Tick) (b : ℕ) → cut_of rules line t ≡ Start b → t ≡ Byte b
  start-tick Silent b is =
      absurd (silent-not (last_burst line) (Start b) is (λ n no. cc) (λ no. cc) (λ no. cc))
  start-tick (Byte c) b is =
      ⊎_elim (λ s. cc) (λ others. ⊎_elim (λ l. absurd cc) (λ x. absurd cc) others) (is-of c)

  pub live-tick : (t : Tick) (b : ℕ) → cut_of rules line t ≡ Live b → t ≡ Byte b
  live-tick Silent b is =
      absurd (silent-not (last_burst line) (Live b) is (λ n no. cc) (λ no. cc) (λ no. cc))
  live-tick (Byte c) b is =
      ⊎_elim (λ s. absurd cc) (λ others. ⊎_elim (λ l. cc) (λ x. absurd cc) others) (is-of c)

  pub extra-tick : (t : Tick) (b : ℕ) → cut_of rules line t ≡ Extra b → t ≡ Byte b
  extra-tick Silent b is =
      absurd (silent-not (last_burst line) (Extra b) is (λ n no. cc) (λ no. cc) (λ no. cc))
  extra-tick (Byte c) b is =
      ⊎_elim (λ s. absurd cc) (λ others. ⊎_elim (λ l. absurd cc) (λ x. cc) others) (is-of c)

  pub closed-tick : (t : Tick) → cut_of rules line t ≡ Closed → t ≡ Silent
  closed-tick Silent is = refl
  closed-tick (Byte b) is =
      absurd (⊎_elim (λ s. absurd cc) (λ others. ⊎_elim (λ l. absurd cc) (λ x. absurd cc) others)
      (is-of b))

  -- a tick that passes closes no burst, and if it is a byte, it isn't live
  pub passing-open : (cut : Cut) → IsPassing cut → cut ≡ Closed → ⊥
  passing-open (Start b) passing closed = absurd passing
  passing-open (Live b) passing closed = absurd passing
  passing-open Closed passing closed = absurd passing
  passing-open (Extra b) passing closed = cc
  passing-open (Pause n) passing closed = cc
  passing-open Quiet passing closed = cc

  pub passing-byte : (b : ℕ) (cut : Cut) → cut_of rules line (Byte b) ≡ cut → IsPassing cut
      → cut_of rules line (Byte b) ≡ Extra b
  passing-byte b cut is passing =
      let P : Cut → Type 0 = λ c. IsPassing c in
      let now : IsPassing (cut_of rules line (Byte b)) = subst P (sym is) passing in
      ⊎_elim
      (λ s. absurd (subst P s now))
      (λ others. ⊎_elim (λ l. absurd (subst P l now)) (λ x. x) others)
      (is-of b)

-- a byte that isn't live, a pause and a quiet tick pass
pub passing-is : (cut : Cut) → ((n : ℕ) × (cut ≡ Extra n))
    ⊎ (((n : ℕ) × (cut ≡ Pause n)) ⊎ (cut ≡ Quiet)) → IsPassing cut
passing-is cut which =
    let P : Cut → Type 0 = λ c. IsPassing c in
    ⊎_elim
    (λ extra. subst P (sym extra.1) tt)
    (λ others. ⊎_elim (λ pause. subst P (sym pause.1) tt) (λ quiet. subst P (sym quiet) tt) others)
    which

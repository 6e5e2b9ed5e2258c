-- What was given as times of a capture is taken as the same line.
use Rattle.line_stamps.proofs.{Clocks.spot-is, GivenTicks.tick-is, GivenTicks.stamped-apart}
use Rattle.line_stamps.proofs.GivenTicks.{following-apart, start-rises, stamped-free, tick-later}
use Rattle.line_stamps.proofs.RoundingLaws.{rounded-most, rounded-some}
use Rattle.line_stamps.specs.Giving.{bytes_from, tick_start, StampsGive, AreStampsGiven, IsTakenAs}
use Rattle.line_stamps.specs.Parts.{character, rounded, ticks_apart}
use Rattle.line_stamps.specs.Places.{Spot, spot_of, next_tick, placed_from, ticks_from, tick_placed_at}
use Rattle.line_stamps.specs.Places.{stamp, start_of}
use Rattle.line_stamps.specs.Placing.{is_stamped, is_early, overlaps, NoneRefused}
use Rattle.line_stamps.specs.declared.{capture.CaptureByte.CaptureByte, rate.Rate.Rate}
use Rattle.line_stamps.specs.declared.timing.{Spacing.TheVariants.ByTime, Timing.Timing}
use Rattle.std.proofs.Common.{◌≡◌, ◌∙◌, ℕ, zero, suc, ◌+◌, ◌-◌, ◌*◌, ◌<◌, ◌≤◌, ⊎_elim, sym, ap}
use Rattle.std.proofs.Common.{List, [], ◌∷◌, ◌++◌, Option, Some, None, true, false, arith, refl}
use Rattle.std.proofs.Common.{append_assoc, subst, nat_lt, ◌&&◌}
use Rattle.std.proofs.Math.{Bool.and-false, Nat.mul-sub, Nat.mul_comm, Nat.le_of_mul-le-mul_right}
use Rattle.std.proofs.lemmas.Bool.{cases_Bool, cond-true, cond-false, le-ltb}
use Rattle.{std.proofs.lemmas.List.append-nil, yasir_ticks.specs.Ticks.silent}
use Rattle.yasir_ticks.specs.declared.tick.Tick.{Tick, TheVariants.Silent, TheVariants.Byte}

sub-mul : (a b k : ℕ) → (a - b) * k ≡ a * k - b * k
sub-mul a b k =
    mul_comm (a - b) k ∙ (mul-sub k a b ∙ (ap (λ x. x - k * b) (mul_comm k a)
    ∙ ap (λ x. a * k - x) (mul_comm k b)))

-- one more silent tick after others
silent-more : (n : ℕ) (l : List Tick) → silent n ++ (Silent ∷ l) ≡ silent (suc n) ++ l
silent-more zero l = refl
silent-more (suc n) l = ap (λ x. Silent ∷ x) (silent-more n l)

module _ (rate : Rate) (unit epoch m : ℕ) (some : 0 < unit)
    (small : 2 * (unit * rate.baud) < character rate) where
  abbrev start : ℕ → ℕ
  start n = tick_start rate unit n * rate.baud

  abbrev t : Timing
  t = record { rate = rate; spacing = ByTime; origin = epoch + tick_start rate unit m }

  one-some : 0 < character rate
  one-some = let few : 10 ≤ rate.bits = rate.fewest_bits in omega arith

  unit-some : 0 < rate.baud * unit
  unit-some = let few : 300 ≤ rate.baud = rate.slowest in grind arith

  most : (n : ℕ) → 2 * start n ≤ 2 * (n * character rate) + unit * rate.baud
  most n = let h = rounded-most (rate.baud * unit) unit-some (n * character rate) in omega arith

  least : (n : ℕ) → 2 * (n * character rate) ≤ 2 * start n + unit * rate.baud
  least n = let h = rounded-some (rate.baud * unit) unit-some (n * character rate) in omega arith

  -- A byte that was in tick m + k is in tick k of the line that is taken. Its time is that of the
  -- start of tick r, in which its record begins, and one character more for each tick since.
  record Near (k : ℕ) (s : Spot) : Type 0 where
    r : ℕ
    from : m ≤ r
    before : r ≤ m + k
    time_is : s.time ≡ start r - start m + (m + k - r) * character rate
    tick_is : s.tick ≡ k

  stamp-is : (n : ℕ) (c : CaptureByte) → c.start ≡ epoch + tick_start rate unit n
      → stamp t c ≡ start n - start m
  stamp-is n c is =
      ap (λ x. (x - (epoch + tick_start rate unit m)) * rate.baud) is
      ∙ (ap (λ x. x * rate.baud)
      (let e : epoch + tick_start rate unit n - (epoch + tick_start rate unit m)
      ≡ tick_start rate unit n - tick_start rate unit m = omega arith in e)
      ∙ sub-mul (tick_start rate unit n) (tick_start rate unit m) rate.baud)

  rounded-at : (r k time : ℕ) → m ≤ r → r ≤ m + k
      → time ≡ start r - start m + (m + k - r) * character rate
      → rounded time (character rate) ≡ k
  rounded-at r k time from before is =
      tick-is (character rate) (unit * rate.baud) one-some small start most least m r k time from
      before is

  -- A byte with the time stamp of a later tick isn't early.
  in-time : (k : ℕ) (last : Option Spot) (c : CaptureByte)
      → c.start ≡ epoch + tick_start rate unit (m + k) → is_early t last c ≡ false
  in-time k last c at =
      let rises : start m ≤ start (m + k) =
      start-rises (character rate) (unit * rate.baud) one-some small start most least m (m + k)
      (omega arith) in
      let some-baud : 0 < rate.baud = (let few : 300 ≤ rate.baud = rate.slowest in omega arith) in
      let later : tick_start rate unit m ≤ tick_start rate unit (m + k) =
      le_of_mul-le-mul_right rises some-baud in
      let from : epoch + tick_start rate unit m ≤ c.start = omega arith in
      ap (λ v. is_stamped last c && v) (le-ltb c.start (epoch + tick_start rate unit m) from)
      ∙ and-false (is_stamped last c)

  abbrev Free : Option Spot → CaptureByte → Type 0
  Free last c =
      (is_early t last c ≡ false)
      × (overlaps t last c ≡ false)

  -- The first byte is in its own tick.
  first-near : (k : ℕ) (byte : ℕ) (c : CaptureByte)
      → StampsGive rate unit epoch None (record { tick = m + k; byte = byte }) c
      → Near k (spot_of t None c)
  first-near k byte c gives =
      let at : stamp t c ≡ start (m + k) - start m = stamp-is (m + k) c gives in
      let none : (m + k - (m + k)) * character rate ≡ 0 =
      ap (λ x. x * character rate) (let e : m + k - (m + k) ≡ 0 = omega arith in e) ∙ omega arith in
      let at' : stamp t c ≡ start (m + k) - start m + (m + k - (m + k)) * character rate =
      at ∙ omega arith in
      record {
        r = m + k;
        from = omega arith;
        before = omega arith;
        time_is = at';
        tick_is = rounded-at (m + k) k (stamp t c) (omega arith) (omega arith) at';
      }

  -- A later byte is in its own tick, if the byte before it is.
  module _ (k : ℕ) (s : Spot) (near : Near k s) (next : ℕ) (byte : ℕ) (c : CaptureByte)
      (behind : k < next) where
    later-tick : (r time : ℕ) → m ≤ r → r ≤ m + next
        → time ≡ start r - start m + (m + next - r) * character rate
        → start_of t (Some s) c ≡ time
        → ticks_apart (time - s.time) (character rate) ≡ next - k
        → Near next (spot_of t (Some s) c)
    later-tick r time from before is at apart = record {
      r = r;
      from = from;
      before = before;
      time_is = at ∙ is;
      tick_is = spot-is t refl s c
          ∙ (ap
          (λ x. tick_placed_at (ticks_apart (x - s.time) (character rate)) s.tick x (character rate)) at
          ∙ (ap (λ n. tick_placed_at n s.tick time (character rate)) apart
          ∙ (ap (λ x. tick_placed_at (next - k) x time (character rate)) near.tick_is
          ∙ tick-later (character rate) (unit * rate.baud) one-some small start most least k next
          time
          behind (rounded-at r next time from before is))));
    }

    stamped : c.first ≡ true → c.start ≡ epoch + tick_start rate unit (m + next)
        → Near next (spot_of t (Some s) c)
    stamped first gives =
        let at : start_of t (Some s) c ≡ start (m + next) - start m =
        cond-true _ _ _ first ∙ stamp-is (m + next) c gives in
        let none : (m + next - (m + next)) * character rate ≡ 0 =
        ap (λ x. x * character rate)
        (let e : m + next - (m + next) ≡ 0 = omega arith in e) ∙ omega arith in
        later-tick (m + next) (start (m + next) - start m) (omega arith) (omega arith) (omega arith)
        at
        (stamped-apart (character rate) (unit * rate.baud) one-some small start most least m near.r
        k
        next s.time (start (m + next) - start m) near.from near.before near.time_is behind refl)

    following : c.first ≡ false → m + next ≡ suc (m + k) → Near next (spot_of t (Some s) c)
    following further gives =
        let at : start_of t (Some s) c ≡ s.time + character rate = cond-false _ _ _ further in
        let more : m + next - near.r ≡ suc (m + k - near.r) =
        (let f = near.from in let b = near.before in omega arith) in
        let long : (m + next - near.r) * character rate
        ≡ (m + k - near.r) * character rate + character rate =
        ap (λ x. x * character rate) more ∙ omega arith in
        let is : s.time + character rate
        ≡ start near.r - start m + (m + next - near.r) * character rate =
        (let h = near.time_is in omega arith) in
        let before : near.r ≤ m + next = (let b = near.before in omega arith) in
        later-tick near.r (s.time + character rate) near.from before is at
        (following-apart (character rate) (unit * rate.baud) one-some small start most least m
        near.r k
        next s.time (s.time + character rate) near.from near.before near.time_is refl ∙ omega arith)

    stamped-apart-free : c.first ≡ true → c.start ≡ epoch + tick_start rate unit (m + next)
        → Free (Some s) c
    stamped-apart-free first gives =
        let at : start_of t (Some s) c ≡ start (m + next) - start m =
        cond-true _ _ _ first ∙ stamp-is (m + next) c gives in
        let free : character rate ≤ 2 * (start_of t (Some s) c - s.time) =
        subst (λ (x : ℕ). character rate ≤ 2 * (x - s.time)) (sym at)
        (stamped-free (character rate) (unit * rate.baud) one-some small start most least m near.r k
        next s.time (start (m + next) - start m) near.from near.before near.time_is behind refl)
        in (
          in-time next (Some s) c gives,
          le-ltb (2 * (start_of t (Some s) c - s.time)) (character rate) free,
        )

    following-free : c.first ≡ false → Free (Some s) c
    following-free further =
        let at : start_of t (Some s) c ≡ s.time + character rate = cond-false _ _ _ further in
        let free : character rate ≤ 2 * (start_of t (Some s) c - s.time) = omega arith in (
          ap (λ v. v && nat_lt c.start (epoch + tick_start rate unit m)) further,
          le-ltb (2 * (start_of t (Some s) c - s.time)) (character rate) free,
        )

    later-near : StampsGive rate unit epoch (Some (m + k)) (record { tick = m + next; byte = byte }) c
        → Near next (spot_of t (Some s) c) × Free (Some s) c
    later-near gives =
        ⊎_elim (λ first. (stamped first (gives.0 first), stamped-apart-free first (gives.0 first)))
        (λ further. (following further (gives.1 further), following-free further))
        (cases_Bool c.first)

  -- The byte before, if there is one, is in its own tick, which is before tick k, counted from tick
  -- m.
  abbrev Follows : ℕ → Option ℕ → Option Spot → Type 0
  Follows k None None = Unit {0}
  Follows k None (Some s) = ⊥
  Follows k (Some p) None = ⊥
  Follows k (Some p) (Some s) = (j : ℕ) × (p ≡ m + j) × (j < k) × Near j s

  follows-near : (k : ℕ) (before : Option ℕ) (last : Option Spot) (b : ℕ) (c : CaptureByte)
      → Follows k before last
      → StampsGive rate unit epoch before (record { tick = m + k; byte = b }) c
      → Near k (spot_of t last c) × (next_tick last ≤ k) × Free last c
  follows-near k None None b c had gives =
      (first-near k b c gives, omega arith, (in-time k None c gives, refl))
  follows-near k None (Some s) b c had gives = elim had [ ]
  follows-near k (Some p) None b c had gives = elim had [ ]
  follows-near k (Some p) (Some s) b c (j, is, behind, near) gives =
      let gives' : StampsGive rate unit epoch (Some (m + j)) (record { tick = m + k; byte = b }) c =
      subst (λ (q : ℕ). StampsGive rate unit epoch (Some q) (record { tick = m + k; byte = b }) c) is
      gives in
      let all = later-near j s near k b c behind gives' in
      (all.0, (let e = near.tick_is in omega arith), all.1)

  follows-later : (k : ℕ) (before : Option ℕ) (last : Option Spot) → Follows k before last
      → Follows (suc k) before last × (next_tick last ≤ k)
  follows-later k None None had = (tt, omega arith)
  follows-later k None (Some s) had = elim had [ ]
  follows-later k (Some p) None had = elim had [ ]
  follows-later k (Some p) (Some s) (j, is, behind, near) =
      ((j, is, omega arith, near), (let e = near.tick_is in omega arith))

  -- The line is the same from tick m + k on.
  same-line : (rest : List Tick) (k : ℕ) (before : Option ℕ) (last : Option Spot)
      (cs : List CaptureByte) → Follows k before last
      → AreStampsGiven rate unit epoch before (bytes_from (m + k) rest) cs
      → (n : ℕ) × (silent (k - next_tick last) ++ rest
      ≡ ticks_from (next_tick last) (placed_from t last cs) ++ silent n) × NoneRefused t last cs
  same-line [] k before last [] had given =
      (k - next_tick last, append-nil (silent (k - next_tick last)), tt)
  same-line [] k before last (c ∷ cs) had given = elim given [ ]
  same-line (Silent ∷ rest) k before last cs had given =
      let more = follows-later k before last had in
      let e : suc (m + k) ≡ m + suc k = omega arith in
      let given' : AreStampsGiven rate unit epoch before (bytes_from (m + suc k) rest) cs =
      subst (λ (i : ℕ). AreStampsGiven rate unit epoch before (bytes_from i rest) cs) e given in
      let all = same-line rest (suc k) before last cs more.0 given' in
      let few = more.1 in
      let f : suc k - next_tick last ≡ suc (k - next_tick last) = omega arith in (
        all.0,
        silent-more (k - next_tick last) rest
            ∙ (ap (λ n. silent n ++ rest) (sym f) ∙ all.1),
        all.2,
      )
  same-line (Byte b ∷ rest) k before last [] had given = elim given [ ]
  same-line (Byte b ∷ rest) k before last (c ∷ cs) had (same, gives, more) =
      let here = follows-near k before last b c had gives in
      let there = here.0.tick_is in
      let e : suc (m + k) ≡ m + suc k = omega arith in
      let given' : AreStampsGiven rate unit epoch (Some (m + k)) (bytes_from (m + suc k) rest) cs =
      subst (λ (i : ℕ). AreStampsGiven rate unit epoch (Some (m + k)) (bytes_from i rest) cs) e more in
      let all = same-line rest (suc k) (Some (m + k)) (Some (spot_of t last c)) cs
      (k, refl, omega arith, here.0) given' in
      let f : suc k - suc (spot_of t last c).tick ≡ 0 = omega arith in
      let tail : rest ≡ ticks_from (suc (spot_of t last c).tick)
      (placed_from t (Some (spot_of t last c)) cs) ++ silent all.0 =
      ap (λ n. silent n ++ rest) (sym f) ∙ all.1 in (
        all.0,
        ap (λ n. silent n ++ (Byte b ∷ rest))
            (let g : k - next_tick last ≡ (spot_of t last c).tick - next_tick last =
            ap (λ x. x - next_tick last) (sym there) in g)
            ∙ (ap (λ x. silent ((spot_of t last c).tick - next_tick last) ++ (Byte b ∷ x)) tail
            ∙ (ap (λ d. silent ((spot_of t last c).tick - next_tick last) ++ (Byte d
            ∷ (ticks_from (suc (spot_of t last c).tick) (placed_from t (Some (spot_of t last c)) cs)
            ++ silent all.0))) (sym same)
            ∙ sym (append_assoc (silent ((spot_of t last c).tick - next_tick last))
            (Byte c.byte
            ∷ ticks_from (suc (spot_of t last c).tick) (placed_from t (Some (spot_of t last c)) cs))
            (silent all.0)))),
        (here.2.0, here.2.1, all.2),
      )

  module _ (rest : List Tick) (cs : List CaptureByte)
      (given : AreStampsGiven rate unit epoch None (bytes_from m rest) cs) where
    from-start : AreStampsGiven rate unit epoch None (bytes_from (m + 0) rest) cs
    from-start =
        let e : m ≡ m + 0 = omega arith in
        subst (λ (i : ℕ). AreStampsGiven rate unit epoch None (bytes_from i rest) cs) e given

    pub given-line : IsTakenAs t cs rest
    given-line = let all = same-line rest 0 None None cs tt from-start in (all.0, all.1)

    pub given-free : NoneRefused t None cs
    given-free = (same-line rest 0 None None cs tt from-start).2

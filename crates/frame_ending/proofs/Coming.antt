-- One more tick of a line: how far a causal walk has then come, and what the step returns.
use Rattle.frame_ending.proofs.Spread.{AreSpread, EndBy, bursts-spread, bursts-end, last_contiguous}
use Rattle.frame_ending.proofs.{Spread.last_ends, Walks.walked-append, Walks.emitted-append}
use Rattle.frame_ending.proofs.Walks.{state_after-append, before-early, before-late, adds_one_tick}
use Rattle.frame_ending.specs.Answers.{AnswersTick, told_notes, note_in}
use Rattle.frame_ending.specs.Causal.{IsCausal, MayGoOn, AddsOneTick, going_on}
use Rattle.frame_ending.specs.HasCome.{waiting_part, AreNoted, HasCome}
use Rattle.frame_ending.specs.{Laid.tick_at, Walk.Walker, Walk.Noted, Walk.noted, Walk.walked}
use Rattle.frame_ending.specs.Walk.{emitted_by, state_after, notes_before, notes_at, notes_of, line_of}
use Rattle.std.proofs.Common.{◌≡◌, ◌∙◌, ◌==◌, ◌⊎◌, inl, inr, ℕ, ◌+◌, ◌<◌, ◌≤◌, nat_lt, true, false}
use Rattle.std.proofs.Common.{List, [], ◌∷◌, ◌++◌, length, refl, sym, ap, subst, arith, ⊎_elim}
use Rattle.std.proofs.Common.{Option, Some, None, IfSome}
use Rattle.std.proofs.lemmas.Bool.{cases_lt, cond-true, cond-false}
use Rattle.std.proofs.lemmas.List.{append-nil, map-append, Elements.filter-append}
use Rattle.yasir_ticks.proofs.BurstLaws.{alone, extended, extended-closed, extended-joins}
use Rattle.yasir_ticks.proofs.BurstLaws.{bursts_from-byte, bursts_from-silent}
use Rattle.yasir_ticks.specs.Bursts.{Burst, bursts, end_of, AreClosed}
use Rattle.yasir_ticks.specs.{BurstsOf.IsContiguous, BurstsOf.one, declared.TheConstants.T3_5_TICKS}
use Rattle.yasir_ticks.specs.declared.tick.Tick.{Tick, TheVariants.Silent, TheVariants.Byte}

is_other : (a b : ℕ) → (a ≡ b → ⊥) → (a == b) ≡ false
is_other a b h = grind arith

is_same : (a b : ℕ) → a ≡ b → (a == b) ≡ true
is_same a b h = grind arith

-- Holds if the last burst of a line may still go on at tick m.
pub record RunsOn (m : ℕ) (ds : List Burst) : Type 0 where
  pub front : List Burst
  pub last : Burst
  pub is : ds ≡ front ++ last ∷ []
  pub near : m < end_of last + T3_5_TICKS

runs_on-more : (m : ℕ) (d e : Burst) (ds : List Burst) → RunsOn m (e ∷ ds) → RunsOn m (d ∷ e ∷ ds)
runs_on-more m d e ds on = record {
  front = d ∷ on.front;
  last = on.last;
  is = ap (λ x. d ∷ x) on.is;
  near = on.near;
}

closed-or : (m n : ℕ) (ds : List Burst) → AreSpread T3_5_TICKS n ds → EndBy m ds
    → AreClosed T3_5_TICKS m ds ⊎ RunsOn m ds
closed-or m n [] spread ends = inl tt
closed-or m n (d ∷ []) spread ends =
    ⊎_elim
    (λ near. inr (record { front = []; last = d; is = refl; near = near }))
    (λ far. inl (far, tt))
    (cases_lt m (end_of d + T3_5_TICKS))
closed-or m n (d ∷ e ∷ ds) spread ends =
    let next : end_of d + T3_5_TICKS ≤ e.start = spread.2.0 in
    let end : end_of e ≤ m = ends.1.0 in
    let here : end_of d + T3_5_TICKS ≤ m = omega arith in
    ⊎_elim
    (λ closed. inl (here, closed))
    (λ on. inr (runs_on-more m d e ds on))
    (closed-or m (end_of d + T3_5_TICKS) (e ∷ ds) spread.2 ends.1)

-- Either all bursts of a line are closed, or the last one may go on.
pub closed-or-runs_on : (line : List Tick)
    → AreClosed T3_5_TICKS (length line) (bursts line) ⊎ RunsOn (length line) (bursts line)
closed-or-runs_on line = closed-or (length line) 0 (bursts line) (bursts-spread line)
    (bursts-end line)

-- The last burst of a line may go on if the line ends before the silence after the burst is long
-- enough to end it.
may-go_on : (line : List Tick) (front : List Burst) (d : Burst) → bursts line ≡ front ++ d ∷ []
    → length line < end_of d + T3_5_TICKS → MayGoOn d (length line)
may-go_on line front d is near =
    let P : List Burst → Type 0 = λ ds. AreSpread T3_5_TICKS 0 ds in
    let Q : List Burst → Type 0 = λ ds. EndBy (length line) ds in
    record {
      contiguous = last_contiguous 0 front d (subst P is (bursts-spread line));
      after = last_ends (length line) front d (subst Q is (bursts-end line));
      near = near;
    }

module _ {S N : Type 0} (w : Walker S N) where
  noted-later : (s : S) (m n : ℕ) (ds : List Burst) → m ≤ n → AreNoted w s m ds → AreNoted w s n ds
  noted-later s m n [] le are = tt
  noted-later s m n (d ∷ ds) le are = (
    omega (arith, are.0),
    noted-later (w.next s d) m n ds le are.1,
  )

  noted-append : (s : S) (m : ℕ) (a : List Burst) (d : Burst) → AreNoted w s m a
      → w.tick (state_after w s a) d < m
      → AreNoted w s m (a ++ d ∷ [])
  noted-append s m [] d are last = (last, tt)
  noted-append s m (e ∷ a) d are last = (are.0, noted-append (w.next s e) m a d are.1 last)

  noted-front : (s : S) (m : ℕ) (a : List Burst) (d : Burst) → AreNoted w s m (a ++ d ∷ [])
      → AreNoted w s m a
  noted-front s m [] d are = tt
  noted-front s m (e ∷ a) d are = (are.0, noted-front (w.next s e) m a d are.1)

  noted-last : (s : S) (m : ℕ) (a : List Burst) (d : Burst) → AreNoted w s m (a ++ d ∷ [])
      → w.tick (state_after w s a) d < m
  noted-last s m [] d are = are.0
  noted-last s m (e ∷ a) d are = noted-last (w.next s e) m a d are.1

  -- If all these bursts are noted before tick m, all their notes come before it.
  noted-before : (s : S) (m : ℕ) (ds : List Burst) → AreNoted w s m ds
      → notes_before m (walked w s ds) ≡ walked w s ds
  noted-before s m [] are = refl
  noted-before s m (d ∷ ds) are =
      before-early m (noted w s d) (walked w (w.next s d) ds) are.0
      ∙ ap (λ l. noted w s d ∷ l) (noted-before (w.next s d) m ds are.1)

  noted-at : (s : S) (m : ℕ) (ds : List Burst) → AreNoted w s m ds → notes_at m (walked w s ds) ≡ []
  noted-at s m [] are = refl
  noted-at s m (d ∷ ds) are =
      let early : w.tick s d < m = are.0 in
      cond-false _ _ _ (is_other (w.tick s d) m (λ same. omega arith))
      ∙ noted-at (w.next s d) m ds are.1

  -- If the burst that waits is noted at tick m, its note comes in the step of that tick.
  pub note-now : (s : S) (m : ℕ) (d : Burst) → w.tick s d ≡ m
      → notes_at m (walked w s (d ∷ [])) ≡ record { tick = m; note = w.note s d } ∷ []
  note-now s m d now =
      cond-true _ _ _ (is_same (w.tick s d) m now)
      ∙ ap (λ k. let n : Noted N = record { tick = k; note = w.note s d } in n ∷ []) now

  pub note-later : (s : S) (m : ℕ) (waiting : Option Burst)
      → IfSome waiting (λ d. m + 1 ≤ w.tick s d)
      → notes_at m (walked w s (waiting_part waiting)) ≡ []
  note-later s m None later = refl
  note-later s m (Some d) later = cond-false _ _ _ (is_other (w.tick s d) m (λ same. omega arith))

  module _ (begun : S) where
    -- Before the first tick, no burst has come.
    pub come-begun : HasCome w begun 0 [] begun [] None
    come-begun = record {
      settled = [];
      is = refl;
      are_noted = tt;
      waits = tt;
      state = refl;
      emits = refl;
    }

    come-at : (m : ℕ) (ds es : List Burst) (s : S) (emissions : List Burst) (waiting : Option Burst)
        → ds ≡ es
        → HasCome w begun m ds s emissions waiting → HasCome w begun m es s emissions waiting
    come-at m ds es s emissions waiting same come = record {
      settled = come.settled;
      is = sym same ∙ come.is;
      are_noted = come.are_noted;
      waits = come.waits;
      state = come.state;
      emits = come.emits;
    }

    module _ (m : ℕ) (ds : List Burst) (s : S) (emissions : List Burst) where
      -- ---- whether the burst that waits is noted in the step of tick m

      -- If the burst that waits isn't noted at tick m, it still waits after that tick.
      pub come-waits : (waiting : Option Burst) → HasCome w begun m ds s emissions waiting
          → IfSome waiting (λ d. m + 1 ≤ w.tick s d)
          → HasCome w begun (m + 1) ds s emissions waiting
      come-waits waiting come later = record {
        settled = come.settled;
        is = come.is;
        are_noted = noted-later begun m (m + 1) come.settled (omega arith) come.are_noted;
        waits = later;
        state = come.state;
        emits = come.emits;
      }

      -- If the burst that waits is noted at tick m, none waits after it.
      pub come-noted : (d : Burst) → HasCome w begun m ds s emissions (Some d) → w.tick s d ≡ m
          → HasCome w begun (m + 1) ds (w.next s d) (emissions ++ w.emission s d) None
      come-noted d come now =
          let P : S → Type 0 = λ x. w.tick x d < m + 1 in
          let soon : w.tick s d < m + 1 = omega arith in
          let older = noted-later begun m (m + 1) come.settled (omega arith) come.are_noted in
          record {
            settled = come.settled ++ d ∷ [];
            is = come.is ∙ sym (append-nil (come.settled ++ d ∷ []));
            are_noted = noted-append begun (m + 1) come.settled d older
                (subst P (sym come.state) soon);
            waits = tt;
            state = state_after-append w begun come.settled (d ∷ [])
                ∙ ap (λ x. w.next x d) come.state;
            emits = emitted-append w begun come.settled (d ∷ [])
                ∙ (ap (λ x. emitted_by w begun come.settled ++ x)
                (append-nil (w.emission (state_after w begun come.settled) d))
                ∙ (ap (λ x. x ++ w.emission (state_after w begun come.settled) d) come.emits
                ∙ ap (λ x. emissions ++ w.emission x d) come.state));
          }

      -- ---- what the bursts give

      module _ (waiting : Option Burst) (come : HasCome w begun m ds s emissions waiting) where
        -- All bursts emit what the noted ones have emitted_by, and then what the one that waits emits.
        pub emitted-come : emitted_by w begun ds ≡ emissions ++ emitted_by w s (waiting_part waiting)
        emitted-come =
            ap (λ x. emitted_by w begun x) come.is
            ∙ (emitted-append w begun come.settled (waiting_part waiting)
            ∙ (ap (λ x. x ++ emitted_by w (state_after w begun come.settled) (waiting_part waiting))
            come.emits
            ∙ ap (λ x. emissions ++ emitted_by w x (waiting_part waiting)) come.state))

        -- The notes in the step of tick m are those of the burst that waits.
        pub notes_at-come : notes_at m (walked w begun ds)
            ≡ notes_at m (walked w s (waiting_part waiting))
        notes_at-come =
            let after : S = state_after w begun come.settled in
            ap (λ x. notes_at m (walked w begun x)) come.is
            ∙ (ap (λ x. notes_at m x) (walked-append w begun come.settled (waiting_part waiting))
            ∙ (filter-append (λ n. n.tick == m) (walked w begun come.settled)
            (walked w after (waiting_part waiting))
            ∙ (ap (λ l. l ++ notes_at m (walked w after (waiting_part waiting)))
            (noted-at begun m come.settled come.are_noted)
            ∙ ap (λ x. notes_at m (walked w x (waiting_part waiting))) come.state)))

        -- All notes before tick m are those of the bursts that don't wait.
        pub notes_before-come : notes_before m (walked w begun ds) ≡ walked w begun come.settled
        notes_before-come =
            let after : S = state_after w begun come.settled in
            ap (λ x. notes_before m (walked w begun x)) come.is
            ∙ (ap (λ x. notes_before m x)
            (walked-append w begun come.settled (waiting_part waiting))
            ∙ (filter-append (λ n. nat_lt n.tick m) (walked w begun come.settled)
            (walked w after (waiting_part waiting))
            ∙ (ap (λ l. l ++ notes_before m (walked w after (waiting_part waiting)))
            (noted-before begun m come.settled come.are_noted)
            ∙ (ap (λ x. walked w begun come.settled
            ++ notes_before m (walked w x (waiting_part waiting))) come.state
            ∙ (ap (λ x. walked w begun come.settled ++ x) (none_yet waiting come.waits)
            ∙ append-nil (walked w begun come.settled))))))
          where
            none_yet : (o : Option Burst) → IfSome o (λ d. m ≤ w.tick s d)
                → notes_before m (walked w s (waiting_part o)) ≡ []
            none_yet None waits = refl
            none_yet (Some d) waits = before-late m (noted w s d) [] waits

module _ {S N : Type 0} (w : Walker S N) (causal : IsCausal w) (begun : S) (line : List Tick) where
  -- ---- taking a tick, before the burst that waits is judged

  module _ (s : S) (emissions : List Burst) where
    -- A silent tick changes no burst.
    pub come-silent : (waiting : Option Burst)
        → HasCome w begun (length line) (bursts line) s emissions waiting
        → HasCome w begun (length line) (bursts (line ++ Silent ∷ [])) s emissions waiting
    come-silent waiting come =
        come-at w begun (length line) (bursts line) (bursts (line ++ Silent ∷ [])) s emissions
        waiting
        (sym (bursts_from-silent T3_5_TICKS 0 line)) come

    -- A byte extends the bursts of a line.
    bursts-byte : (b : ℕ) (ds : List Burst) → bursts line ≡ ds
        → bursts (line ++ Byte b ∷ []) ≡ extended T3_5_TICKS (length line) b ds
    bursts-byte b ds is =
        let here : 0 + length line ≡ length line = omega arith in
        bursts_from-byte T3_5_TICKS 0 (length line) b line here
        ∙ ap (λ x. extended T3_5_TICKS (length line) b x) is

    -- A burst that waits may go on.
    pub waiting-may : (d : Burst) → HasCome w begun (length line) (bursts line) s emissions (Some d)
        → MayGoOn d (length line)
    waiting-may d come =
        let P : List Burst → Type 0 = λ ds. AreSpread T3_5_TICKS 0 ds in
        let whole : IsContiguous T3_5_TICKS d.body =
        last_contiguous 0 come.settled d (subst P come.is (bursts-spread line)) in
        let soon = causal.in_time s d whole in
        let late : length line ≤ w.tick s d = come.waits in
        may-go_on line come.settled d come.is (omega arith)

    -- If a burst waits, a byte joins it, and it still waits.
    pub come-joined : (b : ℕ) (d : Burst)
        → HasCome w begun (length line) (bursts line) s emissions (Some d)
        → HasCome w begun (length line) (bursts (line ++ Byte b ∷ [])) s emissions
        (Some (going_on d (length line) b))
    come-joined b d come =
        let may = waiting-may d come in
        record {
          settled = come.settled;
          is = bursts-byte b (come.settled ++ d ∷ []) come.is
              ∙ extended-joins T3_5_TICKS (length line) b come.settled d may.near;
          are_noted = come.are_noted;
          waits = causal.waits s d (length line) b may come.waits;
          state = come.state;
          emits = come.emits;
        }

    -- If all bursts are closed, a byte begins one, which waits.
    pub come-alone : (b : ℕ) → HasCome w begun (length line) (bursts line) s emissions None
        → AreClosed T3_5_TICKS (length line) (bursts line)
        → HasCome w begun (length line) (bursts (line ++ Byte b ∷ [])) s emissions
        (Some (alone (length line) b))
    come-alone b come closed =
        let whole : bursts line ≡ come.settled = come.is ∙ append-nil come.settled in
        record {
          settled = come.settled;
          is = bursts-byte b (bursts line) refl
              ∙ (extended-closed T3_5_TICKS (length line) b (bursts line) closed
              ∙ ap (λ x. x ++ alone (length line) b ∷ []) whole);
          are_noted = come.are_noted;
          waits = causal.not_before s (alone (length line) b) (one b);
          state = come.state;
          emits = come.emits;
        }

    -- If no burst waits and the last one may go on, a byte joins it, and none waits.
    pub come-runs_on : (b : ℕ) → HasCome w begun (length line) (bursts line) s emissions None
        → RunsOn (length line) (bursts line)
        → HasCome w begun (length line) (bursts (line ++ Byte b ∷ [])) s emissions None
    come-runs_on b come on =
        let m : ℕ = length line in
        let d : Burst = on.last in
        let longer : Burst = going_on d m b in
        let after : S = state_after w begun on.front in
        let may = may-go_on line on.front d on.is on.near in
        let whole : come.settled ≡ on.front ++ d ∷ [] =
        sym (append-nil come.settled) ∙ (sym come.is ∙ on.is) in
        let P : List Burst → Type 0 = λ ds. AreNoted w begun m ds in
        let are : AreNoted w begun m (on.front ++ d ∷ []) = subst P whole come.are_noted in
        let early : w.tick after d < m = noted-last w begun m on.front d are in
        let same = causal.tick_stays after d m b may early in
        let soon : w.tick after longer < m = omega arith in
        record {
          settled = on.front ++ longer ∷ [];
          is = bursts-byte b (on.front ++ d ∷ []) on.is
              ∙ (extended-joins T3_5_TICKS m b on.front d on.near
              ∙ sym (append-nil (on.front ++ longer ∷ [])));
          are_noted = noted-append w begun m on.front longer (noted-front w begun m on.front d are)
              soon;
          waits = tt;
          state = state_after-append w begun on.front (longer ∷ [])
              ∙ (causal.next_stays after d m b may early
              ∙ (sym (state_after-append w begun on.front (d ∷ []))
              ∙ (ap (λ ds. state_after w begun ds) (sym whole) ∙ come.state)));
          emits = emitted-append w begun on.front (longer ∷ [])
              ∙ (ap (λ x. emitted_by w begun on.front ++ (x ++ []))
              (causal.emission_settles after d m b may early)
              ∙ (sym (emitted-append w begun on.front (d ∷ []))
              ∙ (ap (λ ds. emitted_by w begun ds) (sym whole) ∙ come.emits)));
        }

    -- ---- what a step adds, given the burst that waits after its tick

    module _ (t : Tick) (waiting : Option Burst)
        (come : HasCome w begun (length line) (bursts (line ++ t ∷ [])) s emissions waiting) where
      pub notes-step : notes_of w begun (line ++ t ∷ [])
          ≡ notes_of w begun line ++ notes_at (length line) (walked w s (waiting_part waiting))
      notes-step =
          let on : AddsOneTick w begun line t = adds_one_tick w causal begun line t in
          on.notes
          ∙ ap (λ x. notes_of w begun line ++ x)
          (notes_at-come w begun (length line) (bursts (line ++ t ∷ [])) s emissions waiting come)

      pub tick-step : line_of w begun (line ++ t ∷ [])
          ≡ line_of w begun line ++ tick_at (emissions ++ emitted_by w s (waiting_part waiting))
          (length line) ∷ []
      tick-step =
          let on : AddsOneTick w begun line t = adds_one_tick w causal begun line t in
          on.ticks
          ∙ ap (λ x. line_of w begun line ++ tick_at x (length line) ∷ [])
          (emitted-come w begun (length line) (bursts (line ++ t ∷ [])) s emissions waiting come)

      -- A step returns the tick that the emissions have at its place, and the note of the burst
      -- that waits, if it falls into the step.
      pub answers-step : {A : Type 0} (note_of : N → A) (answer : Tick) (told : Option A)
          → tick_at (emissions ++ emitted_by w s (waiting_part waiting)) (length line) ≡ answer
          → told_notes note_of (notes_at (length line) (walked w s (waiting_part waiting)))
          ≡ note_in (length line) told
          → AnswersTick w note_of begun line t answer told
      answers-step note_of answer told tick notes = record {
        tick = tick-step ∙ ap (λ x. line_of w begun line ++ x ∷ []) tick;
        note = ap (λ x. told_notes note_of x) notes-step
            ∙ (map-append (λ n. record { tick = n.tick; note = note_of n.note })
            (notes_of w begun line)
            (notes_at (length line) (walked w s (waiting_part waiting)))
            ∙ ap (λ x. told_notes note_of (notes_of w begun line) ++ x) notes);
      }

-- The steps of a value that cuts a line: what it is before a step, and what it is after it.
use Rattle.frame_ending.proofs.BurstSteps.{paused, longer-end, longer-has_pause, later, live-over}
use Rattle.frame_ending.proofs.BurstSteps.{end-over, extra-over, live_end-le, live-more, end-more}
use Rattle.frame_ending.proofs.BurstSteps.{extra-more, alone-has_pause, alone-live, alone-live_end}
use Rattle.frame_ending.proofs.BurstSteps.{alone-extra}
use Rattle.frame_ending.proofs.LastBurst.{grown, last_burst-byte, last_burst-silent, last_burst-nil}
use Rattle.frame_ending.proofs.LastBurst.{IsWithin, last_burst-within}
use Rattle.frame_ending.specs.Cuts.{cut_of, byte_cut, silence_cut, silent_cut}
use Rattle.frame_ending.specs.LiveBytes.{has_pause, live_bytes, live_end}
use Rattle.frame_ending.specs.SoFar.{last_burst, start_in, live_bytes_in, last_live_in}
use Rattle.frame_ending.specs.SoFar.{has_extra_in, has_paused_in, quiet_in, quiet_so_far}
use Rattle.frame_ending.specs.{SoFar.has_paused_so_far, SoFar.live_bytes_so_far, Stands.CutStandsFor}
use Rattle.frame_ending.specs.declared.{burst_cut.BurstCut.BurstCut, cut.Cut.TheVariants.Start}
use Rattle.frame_ending.specs.declared.cut.Cut.TheVariants.{Live, Extra, Pause, Closed, Quiet}
use Rattle.line_rules.specs.Rules.{Rules, fills_room}
use Rattle.line_rules.specs.{RulesLaws.IsLawful, declared.line_rules.LineRules.Ghosts as LineRules}
use Rattle.std.proofs.Common.{◌≡◌, ℕ, suc, ◌+◌, ◌-◌, ◌<◌, ◌≤◌, nat_le, Bool, true, false, ◌||◌}
use Rattle.std.proofs.Common.{List, [], ◌∷◌, ◌++◌, length, refl, arith, sym, ◌∙◌, ap, subst, ⊎_elim}
use Rattle.std.proofs.Common.{length-append, Option, Some, None}
use Rattle.std.proofs.lemmas.Bool.{cases_Bool, or_from, le-leb, leb-true, lt-leb, le-ltb, lt-ltb}
use Rattle.std.proofs.lemmas.Bool.{eq-eqb, ne_eqb, cond-true, cond-false}
use Rattle.yasir_ticks.proofs.BurstLaws.{alone, with_last}
use Rattle.yasir_ticks.specs.Bursts.{Burst, end_of}
use Rattle.yasir_ticks.specs.declared.tick.Tick.{Tick, TheVariants.Silent, TheVariants.Byte}

longer-line : (line : List Tick) (t : Tick) → length (line ++ t ∷ []) ≡ length line + 1
longer-line line t = length-append line (t ∷ [])

-- a byte after a closed burst, or after none, begins one
grown-alone : (m b : ℕ) (o : Option Burst) → 4 ≤ quiet_in m o → grown m b o ≡ alone m b
grown-alone m b None quiet = refl
grown-alone m b (Some d) quiet =
    let far : end_of d + 4 ≤ m = omega arith in
    cond-false _ _ _ (le-ltb m (end_of d + 4) far)

-- a byte joins the last burst if that isn't closed
grown-joins : (m b : ℕ) (d : Burst) → quiet_in m (Some d) < 4 → IsWithin m d
    → grown m b (Some d) ≡ with_last d m b
grown-joins m b d quiet within =
    let end = within.within in
    let near : m < end_of d + 4 = omega arith in
    cond-true _ _ _ (lt-ltb m (end_of d + 4) near)

-- the last burst of a line that isn't quiet
record Running (line : List Tick) : Type 0 where
  last : Burst
  is_last : last_burst line ≡ Some last
  within : IsWithin (length line) last
  near : length line < end_of last + 4

running : (line : List Tick) → quiet_so_far line < 4 → Running line
running line quiet = by_last (last_burst line) refl quiet
  where
    by_last : (o : Option Burst) → last_burst line ≡ o → quiet_in (length line) o < 4 → Running line
    by_last None is few = absurd (omega arith)
    by_last (Some d) is few =
        let within = last_burst-within line d is in
        let end = within.within in
        record { last = d; is_last = is; within = within; near = omega arith }

pub or_more : (x : Bool) (gap later : ℕ) → gap ≤ later
    → ((x || nat_le 2 gap) || nat_le 2 later) ≡ (x || nat_le 2 later)
or_more true gap later less = refl
or_more false gap later less =
    ⊎_elim
    (λ yes. let more : 2 ≤ later = omega (arith, leb-true 2 gap yes) in
    ap (λ v. v || nat_le 2 later) yes ∙ sym (le-leb 2 later more))
    (λ not_yet. ap (λ v. v || nat_le 2 later) not_yet)
    (cases_Bool (nat_le 2 gap))

or_false : (x : Bool) → (x || false) ≡ x
or_false true = refl
or_false false = refl

quiet_later : (o : Option Burst) (m m' : ℕ) → m ≤ m' → 4 ≤ quiet_in m o
    → quiet_in m o ≡ quiet_in m' o
quiet_later None m m' le quiet = refl
quiet_later (Some d) m m' le quiet = omega arith

paused_later : (o : Option Burst) (m m' : ℕ) → m ≤ m' → 4 ≤ quiet_in m o
    → has_paused_in m o ≡ has_paused_in m' o
paused_later None m m' le quiet = refl
paused_later (Some d) m m' le quiet =
    let now : 2 ≤ m - end_of d = omega arith in
    let then' : 2 ≤ m' - end_of d = omega arith in
    ap (λ x. has_pause d.body || x) (le-leb 2 (m - end_of d) now
    ∙ sym (le-leb 2 (m' - end_of d) then'))

cut_later : (o : Option Burst) (m : ℕ) → 4 ≤ quiet_in m o → Quiet ≡ silent_cut m o
cut_later None m quiet = refl
cut_later (Some d) m quiet =
    let k : ℕ = suc m - end_of d in
    let far : 5 ≤ k = omega arith in
    sym (cond-false _ _ _ (le-ltb k 4 (omega arith))
    ∙ cond-false _ _ _ (ne_eqb k 4 (λ same. omega arith)))

module _ {R : Type 0} (proto : LineRules R) where
  abbrev rules : Rules
  rules = proto.rules

  abbrev stands : R → List ℕ → Type 0
  stands = proto.stands

  lawful : IsLawful proto.rules
  lawful = proto.lawful

  pub stands-fresh : (r : R) → stands r []
      → CutStandsFor proto (record {
        taken = 0;
        quiet = 4;
        start = 0;
        last_live = 0;
        extra = false;
        paused = false;
        rules = r;
      }) []
  stands-fresh r fresh =
      let none = last_burst-nil in
      let P : Option Burst → Type 0 = λ o. stands r (live_bytes_in rules o) in
      record {
        count = refl;
        quiet_is = sym (ap (λ o. quiet_in 0 o) none);
        start_is = sym (ap start_in none);
        last_live_is = sym (ap (λ o. last_live_in rules o) none);
        extra_is = sym (ap (λ o. has_extra_in rules o) none);
        paused_is = sym (ap (λ o. has_paused_in 0 o) none);
        bytes = subst P (sym none) fresh;
      }

  module _ (v : BurstCut R) (line : List Tick) (old : CutStandsFor proto v line) where
    -- ---- the first byte of a burst

    begun : (b : ℕ) → 4 ≤ v.quiet → last_burst (line ++ Byte b ∷ []) ≡ Some (alone (length line) b)
    begun b quiet =
        let is = old.quiet_is in
        last_burst-byte line b ∙ ap Some
        (grown-alone (length line) b (last_burst line) (omega arith))

    pub stands-begin : (r : R) (b : ℕ) → 4 ≤ v.quiet → stands r (b ∷ [])
        → CutStandsFor proto
        (record {
          taken = v.taken + 1;
          quiet = 0;
          start = v.taken;
          last_live = v.taken;
          extra = false;
          paused = false;
          rules = r;
        })
        (line ++ Byte b ∷ [])
    stands-begin r b quiet first =
        let n = longer-line line (Byte b) in
        let count = old.count in
        let last = begun b quiet in
        let end = alone-live_end (length line) b rules lawful in
        let m' : ℕ = length (line ++ Byte b ∷ []) in
        let P : Option Burst → Type 0 = λ o. stands r (live_bytes_in rules o) in
        let Q : List ℕ → Type 0 = λ h. stands r h in
        let none : 0 ≡ quiet_in m' (Some (alone (length line) b)) = omega arith in
        let tick : v.taken ≡ live_end rules (alone (length line) b) - 1 = omega arith in
        let few : m' - end_of (alone (length line) b) < 2 = omega arith in
        record {
          count = omega arith;
          quiet_is = none ∙ sym (ap (λ o. quiet_in m' o) last);
          start_is = count ∙ sym (ap start_in last);
          last_live_is = tick ∙ sym (ap (λ o. last_live_in rules o) last);
          extra_is = sym (ap (λ o. has_extra_in rules o) last
              ∙ alone-extra (length line) b rules lawful);
          paused_is = sym (ap (λ o. has_paused_in m' o) last
              ∙ or_from _ _ (alone-has_pause (length line) b)
              (lt-leb 2 (m' - end_of (alone (length line) b)) few));
          bytes = subst P (sym last) (subst Q (sym (alone-live (length line) b rules lawful))
              first);
        }

    pub cut-begin : (b : ℕ) → 4 ≤ v.quiet → Start b ≡ cut_of rules line (Byte b)
    cut-begin b quiet =
        sym (ap (λ o. byte_cut rules (length line) b o) (begun b quiet)
        ∙ cond-true _ _ _ (eq-eqb (length line) (length line) refl))

    -- ---- another byte of a burst

    is_running : v.quiet < 4 → Running line
    is_running quiet = let is = old.quiet_is in running line (omega arith)

    grew : (b : ℕ) (run : Running line)
        → last_burst (line ++ Byte b ∷ []) ≡ Some (with_last run.last (length line) b)
    grew b run =
        let near = run.near in
        let few : quiet_in (length line) (Some run.last) < 4 = omega arith in
        last_burst-byte line b
        ∙ (ap (λ o. Some (grown (length line) b o)) run.is_last
        ∙ ap Some (grown-joins (length line) b run.last few run.within))

    was_paused : (run : Running line) → v.paused ≡ paused (length line) 0 run.last run.within
    was_paused run = old.paused_is ∙ ap (λ o. has_paused_in (length line) o) run.is_last

    -- whether the room is full, by the live bytes of the last burst
    full_as : {full : Bool} (run : Running line)
        → full ≡ fills_room rules (live_bytes_so_far rules line)
        → full ≡ fills_room rules (live_bytes rules run.last)
    full_as run is = is ∙ ap (λ o. fills_room rules (live_bytes_in rules o)) run.is_last

    is_over : (full : Bool) (run : Running line)
        → full ≡ fills_room rules (live_bytes_so_far rules line) → (v.paused || full) ≡ true
        → (paused (length line) 0 run.last run.within
        || fills_room rules (live_bytes rules run.last)) ≡ true
    is_over full run is over =
        ap (λ x. x || fills_room rules (live_bytes rules run.last)) (sym (was_paused run))
        ∙ (ap (λ x. v.paused || x) (sym (full_as run is)) ∙ over)

    -- a byte doesn't change whether there was a pause
    paused_as_before : (b : ℕ) (run : Running line)
        → last_burst (line ++ Byte b ∷ []) ≡ Some (with_last run.last (length line) b)
        → length (line ++ Byte b ∷ []) - end_of (with_last run.last (length line) b) < 2
        → v.paused ≡ has_paused_so_far (line ++ Byte b ∷ [])
    paused_as_before b run last few =
        let m' : ℕ = length (line ++ Byte b ∷ []) in
        let d' : Burst = with_last run.last (length line) b in
        was_paused run
        ∙ (sym (longer-has_pause (length line) b run.last run.within)
        ∙ (sym (or_false (has_pause d'.body))
        ∙ (ap (λ x. has_pause d'.body || x) (sym (lt-leb 2 (m' - end_of d') few))
        ∙ sym (ap (λ o. has_paused_in m' o) last))))

    quiet_gap : (run : Running line) → v.quiet < 4 → v.quiet ≡ length line - end_of run.last
    quiet_gap run few =
        let is : v.quiet ≡ quiet_in (length line) (Some run.last) =
        old.quiet_is ∙ ap (λ o. quiet_in (length line) o) run.is_last in
        omega arith

    -- a byte that isn't live
    pub stands-pass : (full : Bool) (b : ℕ) → v.quiet < 4
        → full ≡ fills_room rules (live_bytes_so_far rules line) → (v.paused || full) ≡ true
        → CutStandsFor proto
        (record v { taken = v.taken + 1; quiet = 0; extra = true })
        (line ++ Byte b ∷ [])
    stands-pass full b quiet full_is over =
        let run = is_running quiet in
        let d : Burst = run.last in
        let n = longer-line line (Byte b) in
        let count = old.count in
        let last = grew b run in
        let m' : ℕ = length (line ++ Byte b ∷ []) in
        let over' = is_over full run full_is over in
        let end = longer-end (length line) b d run.within in
        let none : 0 ≡ quiet_in m' (Some (with_last d (length line) b)) = omega arith in
        let few : m' - end_of (with_last d (length line) b) < 2 = omega arith in
        let P : Option Burst → Type 0 = λ o. stands v.rules (live_bytes_in rules o) in
        let Q : List ℕ → Type 0 = λ h. stands v.rules h in
        record {
          count = omega arith;
          quiet_is = none ∙ sym (ap (λ o. quiet_in m' o) last);
          start_is = old.start_is ∙ (ap start_in run.is_last ∙ sym (ap start_in last));
          last_live_is = old.last_live_is ∙ (ap (λ o. last_live_in rules o) run.is_last
              ∙ (ap (λ k. k - 1) (sym (end-over (length line) b d run.within rules lawful over'))
              ∙ sym (ap (λ o. last_live_in rules o) last)));
          extra_is = sym (ap (λ o. has_extra_in rules o) last
              ∙ extra-over (length line) b d run.within rules lawful over');
          paused_is = paused_as_before b run last few;
          bytes = subst P (sym last) (subst Q
              (sym (live-over (length line) b d run.within rules lawful over'))
              (subst P run.is_last old.bytes));
        }

    pub cut-pass : (full : Bool) (b : ℕ) → v.quiet < 4
        → full ≡ fills_room rules (live_bytes_so_far rules line) → (v.paused || full) ≡ true
        → Extra b ≡ cut_of rules line (Byte b)
    cut-pass full b quiet full_is over =
        let run = is_running quiet in
        let d : Burst = run.last in
        let before = later (length line) b d run.within in
        let end = end-over (length line) b d run.within rules lawful
        (is_over full run full_is over) in
        let within = live_end-le (length line) b d run.within rules lawful in
        sym (ap (λ o. byte_cut rules (length line) b o) (grew b run)
        ∙ (cond-false _ _ _ (ne_eqb d.start (length line) (λ same. omega arith))
        ∙ cond-false _ _ _ (ne_eqb (live_end rules (with_last d (length line) b))
        (suc (length line)) (λ same. omega arith))))

    pub stands-go_on : (full : Bool) (r : R) (b : ℕ) → v.quiet < 4
        → full ≡ fills_room rules (live_bytes_so_far rules line)
        → v.paused ≡ false → full ≡ false
        → ((x : List ℕ) → stands v.rules x → stands r (x ++ b ∷ []))
        → CutStandsFor proto
        (record v { taken = v.taken + 1; quiet = 0; last_live = v.taken; rules = r })
        (line ++ Byte b ∷ [])
    stands-go_on full r b quiet full_is open' room takes =
        let run = is_running quiet in
        let d : Burst = run.last in
        let n = longer-line line (Byte b) in
        let count = old.count in
        let last = grew b run in
        let m' : ℕ = length (line ++ Byte b ∷ []) in
        let none' = sym (was_paused run) ∙ open' in
        let room' = sym (full_as run full_is) ∙ room in
        let end = longer-end (length line) b d run.within in
        let live = end-more (length line) b d run.within rules lawful none' room' in
        let none : 0 ≡ quiet_in m' (Some (with_last d (length line) b)) = omega arith in
        let few : m' - end_of (with_last d (length line) b) < 2 = omega arith in
        let tick : v.taken ≡ live_end rules (with_last d (length line) b) - 1 = omega arith in
        let P : Option Burst → Type 0 = λ o. stands r (live_bytes_in rules o) in
        let Q : List ℕ → Type 0 = λ h. stands r h in
        let S : Option Burst → Type 0 = λ o. stands v.rules (live_bytes_in rules o) in
        record {
          count = omega arith;
          quiet_is = none ∙ sym (ap (λ o. quiet_in m' o) last);
          start_is = old.start_is ∙ (ap start_in run.is_last ∙ sym (ap start_in last));
          last_live_is = tick ∙ sym (ap (λ o. last_live_in rules o) last);
          extra_is = old.extra_is ∙ (ap (λ o. has_extra_in rules o) run.is_last
              ∙ (sym (extra-more (length line) b d run.within rules lawful none' room')
              ∙ sym (ap (λ o. has_extra_in rules o) last)));
          paused_is = paused_as_before b run last few;
          bytes = subst P (sym last) (subst Q
              (sym (live-more (length line) b d run.within rules lawful none' room'))
              (takes (live_bytes rules d) (subst S run.is_last old.bytes)));
        }

    pub cut-go_on : (full : Bool) (b : ℕ) → v.quiet < 4
        → full ≡ fills_room rules (live_bytes_so_far rules line)
        → v.paused ≡ false → full ≡ false → Live b ≡ cut_of rules line (Byte b)
    cut-go_on full b quiet full_is open' room =
        let run = is_running quiet in
        let d : Burst = run.last in
        let before = later (length line) b d run.within in
        let live = end-more (length line) b d run.within rules lawful (sym (was_paused run) ∙ open')
        (sym (full_as run full_is) ∙ room) in
        sym (ap (λ o. byte_cut rules (length line) b o) (grew b run)
        ∙ (cond-false _ _ _ (ne_eqb d.start (length line) (λ same. omega arith))
        ∙ cond-true _ _ _ (eq-eqb (live_end rules (with_last d (length line) b)) (suc (length line))
        (omega arith))))

    -- ---- silence

    -- silence after silence
    pub stands-rest : 4 ≤ v.quiet
        → CutStandsFor proto
        (record v { taken = v.taken + 1 })
        (line ++ Silent ∷ [])
    stands-rest quiet =
        let n = longer-line line Silent in
        let count = old.count in
        let last = last_burst-silent line in
        let m' : ℕ = length (line ++ Silent ∷ []) in
        let is = old.quiet_is in
        let P : Option Burst → Type 0 = λ o. stands v.rules (live_bytes_in rules o) in
        record {
          count = omega arith;
          quiet_is = old.quiet_is
              ∙ (quiet_later (last_burst line) (length line) m' (omega arith) (omega arith)
              ∙ sym (ap (λ o. quiet_in m' o) last));
          start_is = old.start_is ∙ sym (ap start_in last);
          last_live_is = old.last_live_is ∙ sym (ap (λ o. last_live_in rules o) last);
          extra_is = old.extra_is ∙ sym (ap (λ o. has_extra_in rules o) last);
          paused_is = old.paused_is
              ∙ (paused_later (last_burst line) (length line) m' (omega arith) (omega arith)
              ∙ sym (ap (λ o. has_paused_in m' o) last));
          bytes = subst P (sym last) old.bytes;
        }

    pub cut-rest : 4 ≤ v.quiet → Quiet ≡ cut_of rules line Silent
    cut-rest quiet = let is = old.quiet_is in
        cut_later (last_burst line) (length line) (omega arith)

    -- silence after a byte
    pub stands-wait : v.quiet < 4
        → CutStandsFor proto
        (record v {
          taken = v.taken + 1;
          quiet = v.quiet + 1;
          paused = v.paused || nat_le 2 (v.quiet + 1);
        })
        (line ++ Silent ∷ [])
    stands-wait quiet =
        let run = is_running quiet in
        let d : Burst = run.last in
        let n = longer-line line Silent in
        let count = old.count in
        let last = last_burst-silent line ∙ run.is_last in
        let m' : ℕ = length (line ++ Silent ∷ []) in
        let gap = quiet_gap run quiet in
        let end = run.within.within in
        let more : v.quiet + 1 ≡ quiet_in m' (Some d) = omega arith in
        let P : Option Burst → Type 0 = λ o. stands v.rules (live_bytes_in rules o) in
        let gap' : v.quiet + 1 ≡ m' - end_of d = omega arith in
        record {
          count = omega arith;
          quiet_is = more ∙ sym (ap (λ o. quiet_in m' o) last);
          start_is = old.start_is ∙ (ap start_in run.is_last ∙ sym (ap start_in last));
          last_live_is = old.last_live_is
              ∙ (ap (λ o. last_live_in rules o) run.is_last
              ∙ sym (ap (λ o. last_live_in rules o) last));
          extra_is = old.extra_is ∙ (ap (λ o. has_extra_in rules o) run.is_last
              ∙ sym (ap (λ o. has_extra_in rules o) last));
          paused_is = ap (λ x. x || nat_le 2 (v.quiet + 1)) (was_paused run)
              ∙ (ap (λ k. (has_pause d.body || nat_le 2 k) || nat_le 2 (v.quiet + 1)) (sym gap)
              ∙ (or_more (has_pause d.body) v.quiet (v.quiet + 1) (omega arith)
              ∙ (ap (λ k. has_pause d.body || nat_le 2 k) gap'
              ∙ sym (ap (λ o. has_paused_in m' o) last))));
          bytes = subst P (sym last) (subst P run.is_last old.bytes);
        }

    -- if there are two silent ticks since the last byte, the value knows of a pause already
    pub paused-by : v.quiet < 4 → v.paused ≡ (v.paused || nat_le 2 v.quiet)
    paused-by quiet =
        let run = is_running quiet in
        let body = has_pause run.last.body in
        let is : v.paused ≡ (body || nat_le 2 v.quiet) =
        was_paused run ∙ ap (λ k. body || nat_le 2 k) (sym (quiet_gap run quiet)) in
        is ∙ (sym (or_more body v.quiet v.quiet (omega arith))
        ∙ ap (λ x. x || nat_le 2 v.quiet) (sym is))

    pub cut-wait : v.quiet + 1 < 4 → Pause (v.quiet + 1) ≡ cut_of rules line Silent
    cut-wait quiet =
        let few : v.quiet < 4 = omega arith in
        let run = is_running few in
        let gap = quiet_gap run few in
        let end = run.within.within in
        let at : suc (length line) - end_of run.last ≡ v.quiet + 1 = omega arith in
        sym (ap (λ o. silent_cut (length line) o) run.is_last
        ∙ (ap silence_cut at ∙ cond-true _ _ _ (lt-ltb (v.quiet + 1) 4 (omega arith))))

    pub cut-closed : v.quiet + 1 ≡ 4 → Closed ≡ cut_of rules line Silent
    cut-closed quiet =
        let few : v.quiet < 4 = omega arith in
        let run = is_running few in
        let gap = quiet_gap run few in
        let end = run.within.within in
        let at : suc (length line) - end_of run.last ≡ 4 = omega arith in
        sym (ap (λ o. silent_cut (length line) o) run.is_last ∙ ap silence_cut at)

-- A receiver of one station that begins anew with a burst of a line, beside the receiver of several
-- stations, which takes the whole line. `m` ticks come before that burst.
use Rattle.frame_ending.specs.{Laid.later, Laid.tick_at, Walk.Walker, Walk.Noted}
use Rattle.frame_ending.specs.Walk.{walked, emitted_by, state_after}
use Rattle.frame_ending.specs.LiveBytes.{live_bytes, live_ticks}
use Rattle.line_rules.specs.Rules.{Rules, head_of}
use Rattle.link_box.proofs.Judging.{checked-busy}
use Rattle.link_box.specs.Checking.{FullNote, checker, note_by, note_tick, passed_in, state_by}
use Rattle.link_box.specs.Checking.{head_tick}
use Rattle.link_box.specs.Checking.FullNote.{passed_note, refused_note, dropped_note}
use Rattle.link_box.specs.Emissions.{emission_by, filled_ticks, spoiled}
use Rattle.link_box.specs.Verdicts.{CheckState, Verdict, checked, kept_after, number_of, trailer_of}
use Rattle.link_box.specs.Verdicts.{verdict_by_head, verdict_by_number, verdict_of}
use Rattle.link_box.specs.Verdicts.Verdict.{passed_with, refused, dropped}
use Rattle.link_box.specs.declared.check_note.DroppedWhy.TheVariants.{Busy, Head as NoHead}
use Rattle.line_rules.specs.declared.head.Head.{Head}
use Rattle.line_rules.specs.declared.head.Head.TheVariants.{Short, Good, Bad}
use Rattle.link_box.specs.declared.check_note.RefusedWhy.TheVariants.{Trailer, Form, Tag}
use Rattle.link_format.specs.Profile.{Profile, pause_len, trailer_len}
use Rattle.std.proofs.Common.{◌≡◌, ◌∙◌, ℕ, ◌+◌, ◌-◌, ◌<◌, nat_lt, nat_le}
use Rattle.std.proofs.Common.{◌&&◌, List, [], ◌∷◌, ◌++◌, length, map, drop, refl, sym, ap, subst, arith, ⊎_elim}
use Rattle.std.proofs.Common.{Option, Some, None, if◌then◌else◌, get_or}
use Rattle.std.specs.Prelude.{bytes_eq}
use Rattle.std.proofs.lemmas.Bool.{cases_lt, cases_eq, eq-eqb, ne_eqb, lt-ltb, le-ltb, cond-true, cond-false}
use Rattle.std.proofs.lemmas.List.{map-append}
use Rattle.yasir_ticks.specs.{Bursts.Burst}
use Rattle.yasir_ticks.specs.declared.tick.Tick.{TheVariants.Silent}
use Rattle.station_boxes.specs.Late.{late, StartBefore}
use Rattle.stations.specs.Shared.{SharedState, shared, checking_box, its_state, floors_after, with_floor}

module _ (m : ℕ) where
  abbrev pub late_note : FullNote → FullNote
  late_note (passed_note number start frame) = passed_note number (m + start) frame
  late_note (refused_note start why) = refused_note (m + start) why
  late_note (dropped_note start why) = dropped_note (m + start) why

  abbrev pub late_noted : Noted FullNote → Noted FullNote
  late_noted n = record { tick = m + n.tick; note = late_note n.note }

  -- ---- ticks

  covers-late : (a b i : ℕ) → (nat_le (m + a) (m + i) && nat_lt (m + i) (m + b))
      ≡ (nat_le a i && nat_lt i b)
  covers-late a b i = grind arith

  -- what later bursts have at a later tick
  pub tick-late : (ds : List Burst) (i : ℕ) → tick_at (late m ds) (m + i) ≡ tick_at ds i
  unfolding tick_at
  tick-late [] i = refl
  tick-late (d ∷ ds) i =
      let end : m + d.start + length d.body ≡ m + (d.start + length d.body) = omega arith in
      let from : m + i - (m + d.start) ≡ i - d.start = omega arith in
      ap (λ k. if nat_le (m + d.start) (m + i) && nat_lt (m + i) k
      then get_or d.body (m + i - (m + d.start)) Silent else tick_at (late m ds) (m + i)) end
      ∙ (ap (λ k. if nat_le (m + d.start) (m + i) && nat_lt (m + i) (m + (d.start + length d.body))
      then get_or d.body k Silent else tick_at (late m ds) (m + i)) from
      ∙ (ap (λ b. if b then get_or d.body (i - d.start) Silent else tick_at (late m ds) (m + i))
      (covers-late d.start (d.start + length d.body) i)
      ∙ ap (λ x. if nat_le d.start i && nat_lt i (d.start + length d.body)
      then get_or d.body (i - d.start) Silent else x) (tick-late ds i)))

module _ (m : ℕ) (profile : Profile) (all own : ℕ → List ℕ → List ℕ) (rules : Rules)
    (station : List ℕ → ℕ) where
  abbrev P : Profile
  P = record profile { tag = all }

  abbrev O : Profile
  O = record profile { tag = own }

  abbrev w : Walker SharedState FullNote
  w = shared station rules (checking_box P rules)

  abbrev o : Walker CheckState FullNote
  o = checker O rules

  abbrev its : SharedState → Burst → CheckState
  its s d = its_state station rules (checking_box P rules) s d

  -- Holds if the tags of both are the same for this frame.
  abbrev pub SameTags : List ℕ → Type 0
  SameTags frame = (number : ℕ) → all number frame ≡ own number frame

  -- Holds if both are free from the same tick on, or both are free at the burst.
  abbrev pub SameFree : SharedState → CheckState → Type 0
  SameFree s t = t.earliest_start ≡ s.free_from - m

  -- ---- verdicts

  by-number : (frame bytes : List ℕ) (number : Option ℕ) → SameTags frame
      → verdict_by_number P frame bytes number ≡ verdict_by_number O frame bytes number
  by-number frame bytes None same = refl
  by-number frame bytes (Some n) same =
      ap (λ t. if bytes_eq (drop profile.word_len bytes) t then passed_with n else refused Tag)
      (same n)

  verdict-late : (floor : ℕ) (d : Burst) → SameTags (live_bytes rules d)
      → verdict_of P rules floor (later m d) ≡ verdict_of O rules floor d
  unfolding verdict_of
  verdict-late floor d same =
      ap (λ v. if nat_lt (kept_after O rules d) (pause_len + trailer_len O) then refused Trailer
      else (if rules.is_frame (live_bytes rules d) then v else refused Form))
      (by-number (live_bytes rules d) (trailer_of O rules d)
      (number_of O floor (trailer_of O rules d)) same)

  early-late : (a b c : ℕ) → c ≡ b - m → nat_lt (m + a) b ≡ nat_lt a c
  early-late a b c is =
      ⊎_elim
      (λ early. lt-ltb (m + a) b (omega arith) ∙ sym (lt-ltb a c early))
      (λ late. le-ltb (m + a) b (omega arith) ∙ sym (le-ltb a c late))
      (cases_lt a c)

  -- the verdict on a burst, at the same floor and under the same key
  check-late : (s : CheckState) (t : CheckState) (d : Burst)
      → t.earliest_start ≡ s.earliest_start - m → s.floor ≡ t.floor
      → SameTags (live_bytes rules d) → checked P rules s (later m d) ≡ checked O rules t d
  unfolding checked
  check-late s t d free floor same =
      ap (λ b. if b then dropped Busy
      else verdict_by_head (head_of rules (live_bytes rules d)) (verdict_of P rules s.floor (later m d)))
      (early-late d.start s.earliest_start t.earliest_start free)
      ∙ ap (λ v. if nat_lt d.start t.earliest_start then dropped Busy
      else verdict_by_head (head_of rules (live_bytes rules d)) v)
      (ap (λ f. verdict_of P rules f (later m d)) floor ∙ verdict-late t.floor d same)

  -- ---- what a verdict gives

  abbrev next_by : SharedState → Burst → Verdict → SharedState
  next_by s d v = record {
    floors = floors_after station s.floors (passed_in (note_by rules d v));
    free_from = (state_by P rules (its s d) d v).earliest_start;
  }

  abbrev noted_by : Profile → Burst → Verdict → Noted FullNote
  noted_by p d v = record { tick = note_tick p rules d v; note = note_by rules d v }

  noted-late : (d : Burst) (v : Verdict)
      → noted_by P (later m d) v ≡ late_noted m (noted_by O d v)
  noted-late d (passed_with n) =
      ap (λ k. let x : Noted FullNote = record {
        tick = k;
        note = passed_note n (m + d.start) (live_bytes rules d);
      } in x) (omega arith)
  noted-late d (refused why) =
      ap (λ k. let x : Noted FullNote = record {
        tick = k;
        note = refused_note (m + d.start) why;
      } in x) (omega arith)
  noted-late d (dropped Busy) = refl
  noted-late d (dropped NoHead) = by (head_of rules (live_bytes rules d)) where
    by : (h : Head) → let x : Noted FullNote = record {
      tick = head_tick rules (later m d) h;
      note = dropped_note (m + d.start) NoHead;
    } in let y : Noted FullNote = record {
      tick = m + head_tick rules d h;
      note = dropped_note (m + d.start) NoHead;
    } in x ≡ y
    by Good = refl
    by Short = ap (λ k. let x : Noted FullNote = record {
      tick = k;
      note = dropped_note (m + d.start) NoHead;
    } in x) (omega arith)
    by Bad = ap (λ k. let x : Noted FullNote = record {
      tick = k;
      note = dropped_note (m + d.start) NoHead;
    } in x) (omega arith)

  emission-late : (d : Burst) (v : Verdict)
      → emission_by P rules (later m d) v ≡ late m (emission_by O rules d v)
  emission-late d (passed_with n) =
      ap (λ k. let x : Burst = record { start = k; body = live_ticks rules d } in x ∷ [])
      (omega arith)
  emission-late d (refused why) =
      ap (λ k. let x : Burst = record {
        start = k;
        body = spoiled rules [] (filled_ticks rules d);
      } in x ∷ [])
      (omega arith)
  emission-late d (dropped why) = refl

  free-late : (s : SharedState) (t : CheckState) (d : Burst) (v : Verdict) → SameFree s t
      → SameFree (next_by s (later m d) v) (state_by O rules t d v)
  free-late s t d (passed_with n) same = omega arith
  free-late s t d (refused why) same = omega arith
  free-late s t d (dropped why) same = same

  -- ---- bursts that are dropped since others are still leaving

  busy-late : (s : SharedState) (d : Burst) → m + d.start < s.free_from
      → checked P rules (its s (later m d)) (later m d) ≡ dropped Busy
  busy-late s d early = checked-busy P rules (its s (later m d)) (later m d) early

  pub busy-own : (t : CheckState) (d : Burst) → d.start < t.earliest_start
      → checked O rules t d ≡ dropped Busy
  busy-own t d early = checked-busy O rules t d early

  walked-by : (s : SharedState) (d : Burst) (ds : List Burst) (v : Verdict)
      → checked P rules (its s d) d ≡ v
      → walked w s (d ∷ ds) ≡ noted_by P d v ∷ walked w (next_by s d v) ds
  walked-by s d ds v is = ap (λ x. noted_by P d x ∷ walked w (next_by s d x) ds) is

  own-by : (t : CheckState) (d : Burst) (ds : List Burst) (v : Verdict)
      → checked O rules t d ≡ v
      → walked o t (d ∷ ds) ≡ noted_by O d v ∷ walked o (state_by O rules t d v) ds
  own-by t d ds v is = ap (λ x. noted_by O d x ∷ walked o (state_by O rules t d x) ds) is

  emitted-by : (s : SharedState) (d : Burst) (ds : List Burst) (v : Verdict)
      → checked P rules (its s d) d ≡ v
      → emitted_by w s (d ∷ ds) ≡ emission_by P rules d v ++ emitted_by w (next_by s d v) ds
  emitted-by s d ds v is = ap (λ x. emission_by P rules d x ++ emitted_by w (next_by s d x) ds) is

  own-emitted : (t : CheckState) (d : Burst) (ds : List Burst) (v : Verdict)
      → checked O rules t d ≡ v
      → emitted_by o t (d ∷ ds) ≡ emission_by O rules d v ++ emitted_by o (state_by O rules t d v) ds
  own-emitted t d ds v is =
      ap (λ x. emission_by O rules d x ++ emitted_by o (state_by O rules t d x) ds) is

  busy-walked : (s : SharedState) (t : CheckState) (ds : List Burst) → SameFree s t
      → StartBefore t.earliest_start ds
      → walked w s (late m ds) ≡ map (late_noted m) (walked o t ds)
  busy-walked s t [] same before = refl
  busy-walked s t (d ∷ ds) same before =
      let own_is = busy-own t d before.0 in
      let start : d.start < t.earliest_start = before.0 in
      let all_is = busy-late s d (omega arith) in
      walked-by s (later m d) (late m ds) (dropped Busy) all_is
      ∙ (ap (λ l. noted_by P (later m d) (dropped Busy) ∷ l) (busy-walked s t ds same before.1)
      ∙ sym (ap (λ l. map (late_noted m) l) (own-by t d ds (dropped Busy) own_is)))

  busy-emitted : (s : SharedState) (t : CheckState) (ds : List Burst) → SameFree s t
      → StartBefore t.earliest_start ds
      → emitted_by w s (late m ds) ≡ late m (emitted_by o t ds)
  busy-emitted s t [] same before = refl
  busy-emitted s t (d ∷ ds) same before =
      let own_is = busy-own t d before.0 in
      let start : d.start < t.earliest_start = before.0 in
      let all_is = busy-late s d (omega arith) in
      emitted-by s (later m d) (late m ds) (dropped Busy) all_is
      ∙ (busy-emitted s t ds same before.1
      ∙ sym (ap (λ l. late m l) (own-emitted t d ds (dropped Busy) own_is)))

  busy-state : (s : SharedState) (ds : List Burst)
      → StartBefore (s.free_from - m) ds → state_after w s (late m ds) ≡ s
  busy-state s [] before = refl
  busy-state s (d ∷ ds) before =
      let start : d.start < s.free_from - m = before.0 in
      let all_is = busy-late s d (omega arith) in
      ap (λ v. state_after w (next_by s (later m d) v) (late m ds)) all_is
      ∙ busy-state s ds before.1

  pub busy-own_state : (t : CheckState) (ds : List Burst) → StartBefore t.earliest_start ds
      → state_after o t ds ≡ t
  busy-own_state t [] before = refl
  busy-own_state t (d ∷ ds) before =
      ap (λ v. state_after o (state_by O rules t d v) ds) (busy-own t d before.0)
      ∙ busy-own_state t ds before.1

  -- ---- a burst and those that are dropped after it

  -- Holds if all of these bursts but the first are dropped after it, and both have the same floor
  -- and the same key for the first.
  pub record Follow (s : SharedState) (t : CheckState) (d : Burst) (ds : List Burst) : Type 0 where
    pub free : SameFree s t
    pub floor : s.floors (station (live_bytes rules d)) ≡ t.floor
    pub tags : SameTags (live_bytes rules d)
    pub busy : StartBefore (o.next t d).earliest_start ds

  module _ (s : SharedState) (t : CheckState) (d : Burst) (ds : List Burst)
      (follow : Follow s t d ds) where
    abbrev v : Verdict
    v = checked O rules t d

    first-is : checked P rules (its s (later m d)) (later m d) ≡ v
    first-is = check-late (its s (later m d)) t d follow.free follow.floor follow.tags

    free-is : SameFree (next_by s (later m d) v) (o.next t d)
    free-is = free-late s t d v follow.free

    pub follow-walked : walked w s (late m (d ∷ ds)) ≡ map (late_noted m) (walked o t (d ∷ ds))
    follow-walked =
        walked-by s (later m d) (late m ds) v first-is
        ∙ (ap (λ n. n ∷ walked w (next_by s (later m d) v) (late m ds)) (noted-late d v)
        ∙ ap (λ l. late_noted m (noted_by O d v) ∷ l)
        (busy-walked (next_by s (later m d) v) (o.next t d) ds free-is follow.busy))

    pub follow-emitted : emitted_by w s (late m (d ∷ ds)) ≡ late m (emitted_by o t (d ∷ ds))
    follow-emitted =
        emitted-by s (later m d) (late m ds) v first-is
        ∙ (ap (λ l. l ++ emitted_by w (next_by s (later m d) v) (late m ds)) (emission-late d v)
        ∙ (ap (λ l. late m (emission_by O rules d v) ++ l)
        (busy-emitted (next_by s (later m d) v) (o.next t d) ds free-is follow.busy)
        ∙ sym (map-append (λ e. later m e) (emission_by O rules d v)
        (emitted_by o (o.next t d) ds))))

    -- the state of the receiver of several stations, and that of the other
    pub follow-state : state_after w s (late m (d ∷ ds)) ≡ next_by s (later m d) v
    follow-state =
        let b : StartBefore ((next_by s (later m d) v).free_from - m) ds =
        subst (λ k. StartBefore k ds) free-is follow.busy in
        ap (λ x. state_after w (next_by s (later m d) x) (late m ds)) first-is
        ∙ busy-state (next_by s (later m d) v) ds b

    pub follow-own : state_after o t (d ∷ ds) ≡ o.next t d
    follow-own = busy-own_state (o.next t d) ds follow.busy

    pub follow-free : SameFree (state_after w s (late m (d ∷ ds))) (state_after o t (d ∷ ds))
    follow-free =
        ap (λ (x : CheckState). x.earliest_start) follow-own
        ∙ (free-is ∙ sym (ap (λ (x : SharedState). x.free_from - m) follow-state))

    kept : (j : ℕ) → s.floors j ≡ with_floor s.floors (station (live_bytes rules d)) t.floor j
    kept j =
        ⊎_elim
        (λ same. sym (cond-true _ _ _ (eq-eqb (station (live_bytes rules d)) j same)
        ∙ (sym follow.floor ∙ ap (λ i. s.floors i) same)))
        (λ other. sym (cond-false _ _ _ (ne_eqb (station (live_bytes rules d)) j other)))
        (cases_eq (station (live_bytes rules d)) j)

    -- The floor of the station that the first burst names is that of the other receiver, and the
    -- floors of all others stay.
    floors-by : (x : Verdict) (j : ℕ)
        → (next_by s (later m d) x).floors j
        ≡ with_floor s.floors (station (live_bytes rules d)) (state_by O rules t d x).floor j
    floors-by (passed_with n) j = refl
    floors-by (refused why) j = kept j
    floors-by (dropped why) j = kept j

    pub follow-floors : (j : ℕ) → (state_after w s (late m (d ∷ ds))).floors j
        ≡ with_floor s.floors (station (live_bytes rules d)) (state_after o t (d ∷ ds)).floor j
    follow-floors j =
        ap (λ (x : SharedState). x.floors j) follow-state
        ∙ (floors-by v j
        ∙ sym (ap (λ (x : CheckState). with_floor s.floors (station (live_bytes rules d)) x.floor j)
        follow-own))

-- A receiver whose link was silent for long enough goes on as one that has just begun.
use Rattle.frame_ending.proofs.Spread.{EndBy, bursts-end}
use Rattle.frame_ending.specs.LiveBytes.{live_bytes, live_ticks}
use Rattle.frame_ending.specs.{Laid.laid, Laid.later}
use Rattle.frame_ending.specs.Walk.{Noted, emitted_by, state_after, notes_of}
use Rattle.line_rules.specs.{Rules.Rules, Rules.head_of, RulesLaws.IsLawful, RulesLaws.IsHeaded}
use Rattle.line_rules.specs.declared.head.Head.{Head}
use Rattle.line_rules.specs.declared.head.Head.TheVariants.{Short, Good, Bad}
use Rattle.link_box.proofs.{CheckCausality.checker-causal, Past.past}
use Rattle.link_box.specs.Checking.{FullNote, FullNote.passed_note, FullNote.refused_note}
use Rattle.link_box.specs.Checking.{FullNote.dropped_note, state_by, note_by, note_tick, head_tick}
use Rattle.link_box.specs.Checking.{checker, at_floor, passed, passed_in, received_line}
use Rattle.link_box.specs.{Emissions.emission_by, Emissions.spoiled, Emissions.filled_ticks, Timely.IsTimely}
use Rattle.link_box.specs.Verdicts.{CheckState, Verdict, checked, verdict_of, verdict_by_head}
use Rattle.link_box.specs.Verdicts.Verdict.{passed_with, refused, dropped}
use Rattle.link_box.specs.declared.check_note.DroppedWhy.TheVariants.{Busy, Head as NoHead}
use Rattle.link_format.specs.NumberedFrame.{last_number}
use Rattle.link_format.specs.Profile.{Profile, delay}
use Rattle.poll_laws.proofs.Resuming.{AreGone, Shifts, laid-dark, whole-long, whole-bursts}
use Rattle.poll_laws.proofs.Resuming.{line-split, notes-split, option_later, frames-later}
use Rattle.poll_laws.proofs.SealingOn.{same-early}
use Rattle.poll_laws.specs.Rested.{frame_later}
use Rattle.receiver_laws.proofs.InStep.{free-by, floor-so-far}
use Rattle.receiver_laws.proofs.{Notes.frames_in, Recovering.left-by}
use Rattle.receiver_laws.specs.Recovery.{LackAtMost}
use Rattle.std.proofs.Common.{◌≡◌, ◌∙◌, ℕ, ◌+◌, ◌-◌, ◌≤◌, nat_lt, cond}
use Rattle.std.proofs.Common.{List, [], ◌∷◌, ◌++◌, length, map, refl, sym, ap, subst, arith}
use Rattle.std.proofs.lemmas.List.Elements.{filter_map-append}
use Rattle.yasir_ticks.specs.{Bursts.Burst, Bursts.bursts, Bursts.end_of, Bursts.AreClosed}
use Rattle.yasir_ticks.specs.{Ticks.silent, Ticks.AreTicks}
use Rattle.yasir_ticks.specs.declared.tick.Tick.{Tick}

abbrev moved : ℕ → FullNote → FullNote
moved n (passed_note number start frame) = passed_note number (n + start) frame
moved n (refused_note start why) = refused_note (n + start) why
moved n (dropped_note start why) = dropped_note (n + start) why

module _ (profile : Profile) (rules : Rules) where
  -- Holds if the states are alike, the first one n ticks later.
  abbrev Alike : ℕ → CheckState → CheckState → Type 0
  Alike n s t = (s.floor ≡ t.floor) × (s.earliest_start - n ≡ t.earliest_start)

  verdict-later : (n floor : ℕ) (d : Burst)
      → verdict_of profile rules floor (later n d) ≡ verdict_of profile rules floor d
  unfolding verdict_of
  verdict-later n floor d = refl

  abbrev check_by : CheckState → Burst → Verdict
  check_by s d = cond (nat_lt d.start s.earliest_start) (dropped Busy)
      (verdict_by_head (head_of rules (live_bytes rules d)) (verdict_of profile rules s.floor d))

  checked-is : (s : CheckState) (d : Burst) → checked profile rules s d ≡ check_by s d
  unfolding checked
  checked-is s d = refl

  checked-later : (n : ℕ) (s t : CheckState) (d : Burst) → Alike n s t
      → checked profile rules s (later n d) ≡ checked profile rules t d
  checked-later n s t d alike =
      let h : Head = head_of rules (live_bytes rules d) in
      checked-is s (later n d)
      ∙ (ap (λ v. cond (nat_lt (n + d.start) s.earliest_start) (dropped Busy) (verdict_by_head h v))
      (verdict-later n s.floor d)
      ∙ (ap (λ c. cond c (dropped Busy) (verdict_by_head h (verdict_of profile rules s.floor d)))
      (same-early n d.start s.earliest_start t.earliest_start alike.1)
      ∙ (ap (λ f. cond (nat_lt d.start t.earliest_start) (dropped Busy)
      (verdict_by_head h (verdict_of profile rules f d))) alike.0
      ∙ sym (checked-is t d))))

  next-later : (n : ℕ) (s t : CheckState) (d : Burst) (v : Verdict) → Alike n s t
      → Alike n (state_by profile rules s (later n d) v) (state_by profile rules t d v)
  next-later n s t d (passed_with number) alike = (refl, omega arith)
  next-later n s t d (refused why) alike = (alike.0, omega arith)
  next-later n s t d (dropped why) alike = alike

  delayed-later : (i j : ℕ) (x : List Tick) → i ≡ j
      → (let d : Burst = record { start = i; body = x } in d ∷ [])
      ≡ (let d : Burst = record { start = j; body = x } in d ∷ [])
  delayed-later i j x same = ap (λ a. let d : Burst = record { start = a; body = x } in d ∷ []) same

  emission-later : (n : ℕ) (d : Burst) (v : Verdict)
      → emission_by profile rules (later n d) v ≡ map (later n) (emission_by profile rules d v)
  emission-later n d (passed_with number) =
      delayed-later (delay profile + (n + d.start)) (n + (delay profile + d.start))
      (live_ticks rules d) (omega arith)
  emission-later n d (refused why) =
      delayed-later (delay profile + (n + d.start)) (n + (delay profile + d.start))
      (spoiled rules [] (filled_ticks rules d)) (omega arith)
  emission-later n d (dropped why) = refl

  head-later : (n : ℕ) (d : Burst) (h : Head)
      → head_tick rules (later n d) h ≡ n + head_tick rules d h
  head-later n d Bad = omega arith
  head-later n d Short = omega arith
  head-later n d Good = refl

  tick-later : (n : ℕ) (d : Burst) (v : Verdict)
      → note_tick profile rules (later n d) v ≡ n + note_tick profile rules d v
  tick-later n d (passed_with number) = omega arith
  tick-later n d (refused why) = omega arith
  tick-later n d (dropped Busy) = refl
  tick-later n d (dropped NoHead) = head-later n d (head_of rules (live_bytes rules d))

  note-later : (n : ℕ) (d : Burst) (v : Verdict)
      → note_by rules (later n d) v ≡ moved n (note_by rules d v)
  note-later n d (passed_with number) = refl
  note-later n d (refused why) = refl
  note-later n d (dropped why) = refl

  shifts : (n : ℕ) → Shifts (checker profile rules) n (moved n) (Alike n)
  shifts n = record {
    next = λ s t d alike. subst (λ v. Alike n (state_by profile rules s (later n d) v)
        (state_by profile rules t d (checked profile rules t d))) (sym (checked-later n s t d alike))
        (next-later n s t d (checked profile rules t d) alike);
    emission = λ s t d alike.
        ap (λ v. emission_by profile rules (later n d) v) (checked-later n s t d alike)
        ∙ emission-later n d (checked profile rules t d);
    tick = λ s t d alike. ap (λ v. note_tick profile rules (later n d) v) (checked-later n s t d alike)
        ∙ tick-later n d (checked profile rules t d);
    note = λ s t d alike. ap (λ v. note_by rules (later n d) v) (checked-later n s t d alike)
        ∙ note-later n d (checked profile rules t d);
  }

passed-later : (n : ℕ) (v : FullNote) → passed_in (moved n v) ≡ option_later n (passed_in v)
passed-later n (passed_note number start frame) = refl
passed-later n (refused_note start why) = refl
passed-later n (dropped_note start why) = refl

closed : (m n : ℕ) (ds : List Burst) → EndBy m ds → m + 4 ≤ n → AreClosed 4 n ds
closed m n [] ends late = tt
closed m n (d ∷ ds) ends late = let end : end_of d ≤ m = ends.0 in (omega arith, closed m n ds ends.1 late)

-- ---- the link in two parts

module _ (profile : Profile) (rules : Rules) (lawful : IsLawful rules) (headed : IsHeaded rules)
    (timely : IsTimely profile rules) (most : ℕ) (lack : LackAtMost rules most) (front : List Tick)
    (ticks : AreTicks front) (k : ℕ) (enough : delay profile + most ≤ k) (floor now : ℕ)
    (now_is : now ≡ last_number floor (passed profile rules floor (front ++ silent k))) where
  abbrev link : List Tick
  link = front ++ silent k

  wide : 4 ≤ k
  wide = omega arith

  abbrev ds : List Burst
  ds = bursts link

  abbrev reached : CheckState
  reached = state_after (checker profile rules) (at_floor floor) ds

  ends : EndBy (length front) ds
  ends =
      let P : List Burst → Type 0 = λ bs. EndBy (length front) bs in
      subst P (sym (whole-bursts front k)) (bursts-end front)

  size : length link ≡ length front + k
  size = whole-long front k

  free : reached.earliest_start ≤ length front + delay profile + most
  free =
      let P : List Burst → Type 0 =
      λ bs. (state_after (checker profile rules) (at_floor floor) bs).earliest_start
      ≤ length front + delay profile + most in
      subst P (sym (whole-bursts front k))
      (free-by profile rules (length front + delay profile + most) (at_floor floor) (bursts front)
      (omega arith) (left-by profile rules lawful most lack front ticks (length front) refl))

  gone : AreGone (length front + delay profile + most)
      (emitted_by (checker profile rules) (at_floor floor) ds)
  gone i from more = let before = free in past profile rules (at_floor floor) ds i (omega arith) more

  gone-here : AreGone (length link) (emitted_by (checker profile rules) (at_floor floor) ds)
  gone-here i from more = let long = size in gone i (omega arith) more

  number-is : reached.floor ≡ now
  number-is =
      let long = size in
      sym (floor-so-far profile rules (length link) (at_floor floor) ds
      (closed (length front) (length link) ds ends (omega arith)))
      ∙ sym now_is

  alike : Alike profile rules (length link) reached (at_floor now)
  alike = let long = size in let before = free in (number-is, omega arith)

  pub checks-on : (y : List Tick) → received_line profile rules floor (link ++ y)
      ≡ received_line profile rules floor link ++ received_line profile rules now y
  checks-on y = line-split front k wide (checker profile rules)
      (checker-causal profile rules lawful headed timely) (moved (length link))
      (Alike profile rules (length link)) (shifts profile rules (length link)) (at_floor floor)
      (at_floor now) alike gone-here y

  pub passed-on : (y : List Tick) → passed profile rules floor (link ++ y)
      ≡ passed profile rules floor link
      ++ map (frame_later (length link)) (passed profile rules now y)
  passed-on y =
      let w = checker profile rules in
      ap (λ l. frames_in l) (notes-split front k wide w
      (checker-causal profile rules lawful headed timely) (moved (length link))
      (Alike profile rules (length link)) (shifts profile rules (length link)) (at_floor floor)
      (at_floor now) alike gone-here y)
      ∙ (filter_map-append (λ q. passed_in q.note) (notes_of w (at_floor floor) link)
      (map (λ q. let r : Noted FullNote = record {
        tick = length link + q.tick;
        note = moved (length link) q.note;
      } in r) (notes_of w (at_floor now) y))
      ∙ ap (λ l. frames_in (notes_of w (at_floor floor) link) ++ l)
      (frames-later (length link) (moved (length link)) passed_in (passed-later (length link))
      (notes_of w (at_floor now) y)))

  -- The receiver's line is silent at the end of the link.
  pub given-quiet : (late : ℕ) → delay profile + most + late ≤ k
      → (x : List Tick) × (received_line profile rules floor link ≡ x ++ silent late)
  given-quiet late fits =
      let es : List Burst = emitted_by (checker profile rules) (at_floor floor) ds in
      let long = size in
      let b : ℕ = length link - late in
      let sum : length link ≡ b + late = omega arith in
      let from : AreGone b es = λ i before more. gone i (omega arith) more in
      (laid b es, ap (λ i. laid i es) sum ∙ laid-dark es [] b from late)

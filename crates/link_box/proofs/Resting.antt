-- One more tick after which no verdict is open, or in which none falls.
use Rattle.frame_ending.proofs.Coming.{come-waits, come-noted, note-now, note-later, answers-step}
use Rattle.frame_ending.specs.{Answers.told_notes, Answers.note_in, Causal.IsCausal, HasCome.HasCome}
use Rattle.frame_ending.specs.{HasCome.waiting_part, Laid.tick_at, Walk.Walker, Walk.walked}
use Rattle.{frame_ending.specs.Walk.emitted_by, frame_ending.proofs.Dividing.longer-line}
use Rattle.line_rules.specs.{Rules.Rules, declared.line_rules.LineRules.Ghosts as LineRules}
use Rattle.link_format.specs.Profile.{Profile}
use Rattle.link_box.proofs.CheckCausality.{checker-causal}
use Rattle.link_box.{proofs.Flow.Flows, specs.Checking.FullNote, specs.Checking.checker}
use Rattle.link_box.specs.Checking.{at_floor, state_by, note_by, note_tick, brief_note}
use Rattle.link_box.specs.{Emissions.emission_by, Going.Answers, Going.Goes, Holding.HasWalked}
use Rattle.link_box.specs.{Holding.Rests, Leaving.leaves, Timely.IsTimely}
use Rattle.link_box.specs.Verdicts.{CheckState, Verdict, checked, Verdict.dropped}
use Rattle.link_box.specs.declared.check_note.CheckNote.{CheckNote}
use Rattle.link_box.specs.declared.check_note.CheckNote.TheVariants.{Dropped}
use Rattle.link_box.specs.declared.check_note.DroppedWhy.{DroppedWhy}
use Rattle.line_rules.specs.{Outlet.OutletRefuses, Outlet.owed_by, declared.outlet.Outlet.Outlet}
use Rattle.std.proofs.Common.{◌≡◌, ◌∙◌, ℕ, ◌+◌, ◌-◌, ◌<◌, ◌≤◌, Bool, false, List, [], ◌∷◌, ◌++◌}
use Rattle.std.proofs.Common.{length, drop, get_or, sym, ap, arith, subst, Option, Some, None}
use Rattle.std.proofs.Common.{IfSome}
use Rattle.std.proofs.lemmas.List.{append-nil, length-drop, get_or-drop}
use Rattle.yasir_ticks.specs.{Bursts.Burst, Bursts.bursts, Ticks.bytes_in}
use Rattle.yasir_ticks.specs.declared.tick.Tick.{Tick, TheVariants.Silent}

module _ {R : Type 0} (proto : LineRules R) (m earliest : ℕ) (emissions : List Burst)
    (passes : Bool) (left : List ℕ) (live : List Tick) (owed : ℕ) (old new : Outlet R)
    (answer : Tick) (flow : Flows proto passes left live owed old new answer) where
  abbrev rules : Rules
  rules = proto.rules

  abbrev to_leave : List Tick
  to_leave = leaves rules passes left live owed

  -- all ticks that haven't left yet are one tick nearer
  pub rests-more : Rests rules passes m earliest left live owed emissions
      → Rests rules passes (m + 1) earliest flow.after (drop 1 live) (owed_by new) emissions
  rests-more before = record {
    shows = λ i later.
        let one : i - m ≡ 1 + (i - (m + 1)) = omega arith in
        before.shows i (omega arith)
        ∙ (ap (λ k. get_or to_leave k Silent) one
        ∙ (sym (get_or-drop 1 to_leave (i - (m + 1)) Silent)
        ∙ ap (λ l. get_or l (i - (m + 1)) Silent) (sym flow.rest)));
    ends = λ some.
        let long = ap length flow.rest in
        let less = length-drop 1 to_leave in
        let there : 0 < length to_leave = omega arith in
        let end = before.ends there in
        omega arith;
  }

  pub rests-answer : Rests rules passes m earliest left live owed emissions
      → tick_at emissions m ≡ answer
  rests-answer before =
      let none : m - m ≡ 0 = omega arith in
      before.shows m (omega arith)
      ∙ (ap (λ k. get_or to_leave k Silent) none ∙ sym flow.answer_is)

  -- the outlet keeps what it knows of a refused burst
  pub knows-more : (passes ≡ false → 0 < length live → OutletRefuses proto old (left ++ bytes_in live))
      → passes ≡ false → 0 < length (drop 1 live)
      → OutletRefuses proto new (flow.after ++ bytes_in (drop 1 live))
  knows-more knows refused some =
      let less = length-drop 1 live in
      let there : 0 < length live = omega arith in
      let P : List ℕ → Type 0 = λ x. OutletRefuses proto new x in
      let V : R → Type 0 = λ v. proto.stands v (left ++ bytes_in live) in
      subst P (sym (flow.bytes there)) (subst V (sym (flow.keeps there)) (knows refused there))

  pub unowed-more : 0 < length (drop 1 live) → owed_by new ≡ 0
  unowed-more some = let less = length-drop 1 live in
      let more : 1 < length live = omega arith in flow.unowed more

module _ {R : Type 0} (proto : LineRules R) (profile : Profile)
    (timely : IsTimely profile proto.rules) (floor : ℕ) (line : List Tick) (t : Tick) where
  abbrev w : Walker CheckState FullNote
  w = checker profile proto.rules

  abbrev begun : CheckState
  begun = at_floor floor

  abbrev m : ℕ
  m = length line

  abbrev ds : List Burst
  ds = bursts (line ++ t ∷ [])

  pub causal : IsCausal w
  causal = checker-causal profile proto.rules proto.lawful proto.headed timely

  -- what the walk says before tick m + 1, said of the link with one more tick
  pub goes-at : (s : CheckState) (passes : Bool) (left : List ℕ) (live : List Tick) (owed : ℕ)
      (waiting : Option Burst) (answer : Tick) (told : Option CheckNote)
      → HasWalked profile proto.rules floor (m + 1) ds s passes left live owed waiting
      → Answers profile proto.rules floor line t answer told
      → Goes profile proto.rules floor line t s passes left live owed waiting answer told
  goes-at s passes left live owed waiting answer told walked answers =
      let P : ℕ → Type 0 = λ n. HasWalked profile proto.rules floor n ds s passes left live owed
      waiting in
      record { walked = subst P (sym (longer-line line t)) walked; answers = answers }

  module _ (s : CheckState) (emissions : List Burst) where
    -- ---- what a verdict does

    module _ (d : Burst) (v : Verdict) (is : checked profile proto.rules s d ≡ v)
        (come : HasCome w begun m ds s emissions (Some d))
        (now : note_tick profile proto.rules d v ≡ m) where
      at-tick : w.tick s d ≡ m
      at-tick = ap (λ x. note_tick profile proto.rules d x) is ∙ now

      pub noted-come : HasCome w begun (m + 1) ds (state_by profile proto.rules s d v)
          (emissions ++ emission_by profile proto.rules d v) None
      noted-come =
          let P : Verdict → Type 0 = λ x. HasCome w begun (m + 1) ds
          (state_by profile proto.rules s d x)
          (emissions ++ emission_by profile proto.rules d x) None in
          subst P is (come-noted w begun m ds s emissions d come at-tick)

      pub noted-answers : (answer : Tick)
          → tick_at (emissions ++ (emission_by profile proto.rules d v ++ [])) m ≡ answer
          → Answers profile proto.rules floor line t answer
          (Some (brief_note (note_by proto.rules d v)))
      noted-answers answer shown =
          answers-step w causal begun line s emissions t (Some d) come brief_note answer
          (Some (brief_note (note_by proto.rules d v)))
          (ap (λ x. tick_at (emissions ++ (emission_by profile proto.rules d x ++ [])) m) is
          ∙ shown)
          (ap (λ x. told_notes brief_note x) (note-now w s m d at-tick)
          ∙ ap (λ x. note_in m (Some (brief_note (note_by proto.rules d x)))) is)

    -- ---- a tick without a verdict

    module _ (waiting : Option Burst) (come : HasCome w begun m ds s emissions waiting)
        (later : IfSome waiting (λ d. m + 1 ≤ w.tick s d)) where
      pub still-come : HasCome w begun (m + 1) ds s emissions waiting
      still-come = come-waits w begun m ds s emissions waiting come later

      pub still-answers : (answer : Tick)
          → tick_at (emissions ++ emitted_by w s (waiting_part waiting)) m ≡ answer
          → Answers profile proto.rules floor line t answer None
      still-answers answer shown =
          answers-step w causal begun line s emissions t waiting come brief_note answer None shown
          (ap (λ x. told_notes brief_note x) (note-later w s m waiting later))

    -- ---- no verdict is open, and what bursts have emitted_by goes on to leave

    module _ (passes : Bool) (left : List ℕ) (live : List Tick) (owed : ℕ) (old new : Outlet R)
        (answer : Tick) (flow : Flows proto passes left live owed old new answer)
        (rests : Rests proto.rules passes m s.earliest_start left live owed emissions) where
      abbrev Then : Option CheckNote → Type 0
      Then told = Goes profile proto.rules floor line t s passes flow.after (drop 1 live)
          (owed_by new) None answer told

      rest-walked : HasCome w begun (m + 1) ds s emissions None
          → HasWalked profile proto.rules floor (m + 1) ds s passes flow.after (drop 1 live)
          (owed_by new) None
      rest-walked come = record {
        emissions = emissions;
        come = come;
        unowed = unowed-more proto m s.earliest_start emissions passes left live owed old new
            answer flow;
        opens = tt;
        rests = rests-more proto m s.earliest_start emissions passes left live owed old new answer
            flow rests;
      }

      rest-answer : tick_at emissions m ≡ answer
      rest-answer = rests-answer proto m s.earliest_start emissions passes left live owed old new
          answer flow rests

      -- no verdict falls
      pub rest-goes : HasCome w begun m ds s emissions None → Then None
      rest-goes come =
          goes-at s passes flow.after (drop 1 live) (owed_by new) None answer None
          (rest-walked (still-come None come tt))
          (still-answers None come tt answer
          (ap (λ x. tick_at x m) (append-nil emissions) ∙ rest-answer))

      -- a burst is dropped
      pub rest-drops : (d : Burst) (why : DroppedWhy)
          → checked profile proto.rules s d ≡ dropped why
          → HasCome w begun m ds s emissions (Some d)
          → note_tick profile proto.rules d (dropped why) ≡ m
          → Then (Some (Dropped d.start why))
      rest-drops d why is come now =
          let P : List Burst → Type 0 = λ x. HasCome w begun (m + 1) ds s x None in
          goes-at s passes flow.after (drop 1 live) (owed_by new) None answer
          (Some (Dropped d.start why))
          (rest-walked (subst P (append-nil emissions) (noted-come d (dropped why) is come now)))
          (noted-answers d (dropped why) is come now answer
          (ap (λ x. tick_at x m) (append-nil emissions) ∙ rest-answer))

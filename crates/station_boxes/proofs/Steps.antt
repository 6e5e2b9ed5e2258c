-- One more tick of the control centre: how far the walk of several stations has come with it, and
-- what the step returns.
use Rattle.frame_ending.proofs.Coming.{come-begun, come-waits, come-noted, come-silent, come-joined}
use Rattle.frame_ending.proofs.Coming.{come-alone, notes-step, answers-step, note-now, note-later}
use Rattle.frame_ending.proofs.Emissions.{tick_at-none, tick_at-from}
use Rattle.frame_ending.specs.Answers.{told_notes, note_in}
use Rattle.frame_ending.specs.Causal.{IsCausal}
use Rattle.frame_ending.specs.{HasCome.HasCome, HasCome.AreNoted, HasCome.waiting_part, Laid.tick_at}
use Rattle.frame_ending.specs.Walk.{Walker, Noted, walked, emitted_by, notes_at, notes_of}
use Rattle.frame_ending.specs.declared.box_step.BoxStep.{BoxStep}
use Rattle.frame_ending.proofs.Dividing.{longer-line, divided-within, byte-ends, byte-begun}
use Rattle.frame_ending.proofs.Dividing.{byte-contiguous, byte-last}
use Rattle.frame_ending.proofs.LiveTicks.{live_end-within, live_ticks-whole, up_to_byte-full}
use Rattle.frame_ending.{proofs.Running.with_byte_at, specs.Divided.IsDivided}
use Rattle.frame_ending.specs.LiveBytes.{live_bytes, live_ticks, live_end, has_extra}
use Rattle.line_rules.specs.{Rules.Rules, RulesLaws.IsLawful}
use Rattle.link_format.{proofs.Profiles.length-trailer}
use Rattle.link_format.specs.Profile.{Profile, HasTags, trailer, trailer_len}
use Rattle.link_format.specs.Trailers.{first_of}
use Rattle.link_box.proofs.SealCausality.{judge_by}
use Rattle.link_box.proofs.SealCausality.{judged-is, sealed-right, no_extra, sealer-causal}
use Rattle.link_box.proofs.SealCausality.{emission-judged, emission-early, shown-from}
use Rattle.link_box.specs.Sealing.{SealState, FullNote, Judgement, judged, state_by, note_by}
use Rattle.link_box.specs.Sealing.{emission_by, forwarded, trailing, sealed_in, start_after}
use Rattle.link_box.specs.Sealing.Judgement.{sealed_with, unsealed}
use Rattle.link_box.specs.declared.seal_note.UnsealedWhy.{UnsealedWhy}
use Rattle.link_box.specs.declared.seal_note.UnsealedWhy.TheVariants.{Early, Form, Spent}
use Rattle.seal_transmitter.proofs.StepLemmas.{Overlays, overlays-none, noted-overlays, or_else}
use Rattle.seal_transmitter.proofs.StepLemmas.{or_else-silent, sent-first, sent-later, sealed-from}
use Rattle.seal_transmitter.proofs.StepLemmas.{forwarded-past}
use Rattle.seal_transmitter.specs.{Answers.brief_seal_note, Stands.sent_at}
use Rattle.stations.proofs.{Causality.shared-causal, Blind.seals-blind}
use Rattle.stations.specs.Shared.{SharedState, at_floors, floors_after, its_state, sealing_box}
use Rattle.stations.specs.Shared.{with_floor}
use Rattle.station_boxes.specs.Answers.{AnswersStep, SealsNext, one_note, one_why}
use Rattle.station_boxes.specs.{Between.noteless, Walks.StationsHaveWalked, Walks.sealing_walk}
use Rattle.station_boxes.specs.declared.note.StationNote.{StationNote}
use Rattle.station_boxes.specs.declared.note.StationNote.TheVariants.{Sealed, Unsealed}
use Rattle.station_boxes.specs.declared.note.UnsealedStationWhy.{UnsealedStationWhy}
use Rattle.std.proofs.Common.{◌≡◌, ◌∙◌, ◌==◌, ◌||◌, not, ℕ, suc, ◌+◌, ◌-◌, ◌<◌, ◌≤◌, nat_lt, Bool}
use Rattle.std.proofs.Common.{true, false, List, [], ◌∷◌, ◌++◌, length, drop, refl, sym, ap, subst}
use Rattle.std.proofs.Common.{arith, get_or, ⊎_elim, Option, Some, None, IfSome, append_assoc}
use Rattle.std.specs.Prelude.{option_map}
use Rattle.std.proofs.lemmas.{Bool.cases_lt, Bool.lt-ltb, Bool.le-ltb, List.append-nil}
use Rattle.std.{proofs.lemmas.List.get_or_past}
use Rattle.yasir_ticks.specs.Bursts.{Burst, bursts, bursts_from, end_of, AreClosed}
use Rattle.yasir_ticks.specs.{BurstsOf.IsContiguous, declared.TheConstants.T3_5_TICKS}
use Rattle.yasir_ticks.specs.declared.tick.Tick.{Tick, TheVariants.Silent, TheVariants.Byte}

or_else-assoc : (a b c : Tick) → or_else a (or_else b c) ≡ or_else (or_else a b) c
or_else-assoc Silent b c = refl
or_else-assoc (Byte x) b c = refl

overlays-append : (a b : List Burst) (i : ℕ) → Overlays a i → Overlays b i → Overlays (a ++ b) i
overlays-append a b i first second more =
    ap (λ x. tick_at x i) (append_assoc a b more)
    ∙ (first (b ++ more)
    ∙ (ap (λ t. or_else (tick_at a i) t) (second more)
    ∙ (or_else-assoc (tick_at a i) (tick_at b i) (tick_at more i)
    ∙ ap (λ t. or_else t (tick_at more i)) (sym (first b)))))

none_left : (unsent : List ℕ) (m earliest : ℕ) → (0 < length unsent → m + length unsent + 4 ≤ earliest)
    → earliest ≤ m
    → unsent ≡ []
none_left [] m earliest in_time late = refl
none_left (b ∷ unsent) m earliest in_time late =
    let some : 0 < length (b ∷ unsent) = omega arith in
    let soon = in_time some in
    absurd (omega arith)

unsent-in_time : (unsent : List ℕ) (m earliest : ℕ) → (0 < length unsent → m + length unsent + 4 ≤ earliest)
    → 0 < length (drop 1 unsent) → m + 1 + length (drop 1 unsent) + 4 ≤ earliest
unsent-in_time [] m earliest in_time some = absurd (omega arith)
unsent-in_time (b ∷ unsent) m earliest in_time some =
    let now : 0 < length (b ∷ unsent) = omega arith in
    let soon = in_time now in
    omega arith

early-unsealed : (wrong last : Bool) (number n : ℕ)
    → judge_by true wrong last number ≡ sealed_with n → ⊥
early-unsealed wrong last number n is = cc

module _ (station : List ℕ → ℕ) (profile : Profile) (rules : Rules) (floors : ℕ → ℕ) where
  -- a transmitter at rest
  pub walked-nothing : StationsHaveWalked station profile rules floors 0 [] (at_floors floors) [] None
  unfolding tick_at
  walked-nothing = record {
    emissions = [];
    come = come-begun (sealing_walk station profile rules) (at_floors floors);
    sends = λ i from. refl;
    in_time = λ some. absurd (omega arith);
  }

  pub walked-begun : StationsHaveWalked station profile rules floors 0 (bursts []) (at_floors floors) [] None
  unfolding bursts_from
  walked-begun = walked-nothing

  -- the state after a burst with this judgement
  abbrev pub next_by : SharedState → Burst → Judgement → SharedState
  next_by s d j = record {
    floors = floors_after station s.floors (sealed_in (note_by rules d j));
    free_from = (state_by profile rules
        (its_state station rules (sealing_box profile rules) s d) d j).earliest_start;
  }

  -- Noted bursts are closed.
  noted-closed : (s : SharedState) (m : ℕ) (ds : List Burst)
      → AreNoted (sealing_walk station profile rules) s m ds → AreClosed T3_5_TICKS m ds
  noted-closed s m [] are = tt
  noted-closed s m (d ∷ ds) are =
      let early : end_of d + 3 < m = are.0 in
      (omega arith, noted-closed ((sealing_walk station profile rules).next s d) m ds are.1)

  -- Noted bursts hide a later tick of other emissions only by a byte.
  pub shared-overlays : (s : SharedState) (ds : List Burst) (m i : ℕ)
      → AreNoted (sealing_walk station profile rules) s m ds → m ≤ i
      → Overlays (emitted_by (sealing_walk station profile rules) s ds) i
  shared-overlays s [] m i are later = overlays-none i
  shared-overlays s (d ∷ ds) m i are later =
      let w = sealing_walk station profile rules in
      let its : SealState = its_state station rules (sealing_box profile rules) s d in
      let one : Overlays (w.emission s d) i =
      subst (λ x. Overlays x i) (append-nil (w.emission s d))
      (noted-overlays profile rules its (d ∷ []) m i (are.0, tt) later) in
      overlays-append (w.emission s d) (emitted_by w (w.next s d) ds) i one
      (shared-overlays (w.next s d) ds m i are.1 later)

  open-now : (m : ℕ) (running : Option Burst) → IfSome running (λ d. m ≤ end_of d + 3)
      → IfSome running (λ d. m < end_of d + T3_5_TICKS)
  open-now m None waits = tt
  open-now m (Some d) waits = omega arith

  come-state : (m : ℕ) (ds : List Burst) (s next : SharedState) (emissions : List Burst)
      (running : Option Burst)
      → s ≡ next → HasCome (sealing_walk station profile rules) (at_floors floors) m ds s emissions running
      → HasCome (sealing_walk station profile rules) (at_floors floors) m ds next emissions running
  come-state m ds s next emissions running same come =
      let P : SharedState → Type 0 = λ x.
      HasCome (sealing_walk station profile rules) (at_floors floors) m ds x emissions running in
      subst P same come

module _ (station : List ℕ → ℕ) (profile : Profile) (rules : Rules) (lawful : IsLawful rules)
    (tags : HasTags profile) (floors : ℕ → ℕ) (line : List Tick) (s : SharedState)
    (unsent : List ℕ) where
  abbrev walker : Walker SharedState FullNote
  walker = sealing_walk station profile rules

  causal : IsCausal walker
  causal = shared-causal station rules (sealing_box profile rules)
      (sealer-causal profile rules lawful) (seals-blind profile rules lawful)

  -- the state of the box of the station that a burst names
  abbrev its : Burst → SealState
  its d = its_state station rules (sealing_box profile rules) s d

  abbrev m : ℕ
  m = length line

  abbrev Walked : Option Burst → Type 0
  Walked running = StationsHaveWalked station profile rules floors m (bursts line) s unsent running

  -- the walk after one more tick, with this state, these bytes still to be sent, and this running
  -- burst
  abbrev WalkedThen : Tick → SharedState → List ℕ → Option Burst → Type 0
  WalkedThen t next to_send running =
      StationsHaveWalked station profile rules floors (length (line ++ t ∷ [])) (bursts (line ++ t ∷ [])) next to_send
      running

  -- Holds if the tick has come, and the burst `now` is the running one.
  abbrev Taken : (running now : Option Burst) → Walked running → Tick → Type 0
  Taken running now so_far t =
      HasCome walker (at_floors floors) m (bursts (line ++ t ∷ [])) s so_far.emissions now

  abbrev judgement_now : Burst → Judgement
  judgement_now d = judged profile rules (its d) d

  -- The line is divided into the bursts that are settled and the running one.
  pub walked-divided : (running : Option Burst) (so_far : Walked running)
      → IsDivided line so_far.come.settled running
  walked-divided running so_far = record {
    is = so_far.come.is;
    are_closed = noted-closed station profile rules floors (at_floors floors) m so_far.come.settled
        so_far.come.are_noted;
    is_running = open-now station profile rules floors m running so_far.come.waits;
  }

  -- ---- taking a tick

  take-silent : (running : Option Burst) (so_far : Walked running)
      → Taken running running so_far Silent
  take-silent running so_far =
      come-silent walker causal (at_floors floors) line s
      so_far.emissions running so_far.come

  take-byte : (running : Option Burst) (b : ℕ) (so_far : Walked running)
      → Taken running (Some (with_byte_at m b running)) so_far (Byte b)
  take-byte None b so_far =
      let divided = walked-divided None so_far in
      let P : List Burst → Type 0 = λ ds. AreClosed T3_5_TICKS m ds in
      let whole : bursts line ≡ so_far.come.settled =
      so_far.come.is ∙ append-nil so_far.come.settled in
      come-alone walker causal (at_floors floors) line s
      so_far.emissions b so_far.come
      (subst P (sym whole) divided.are_closed)
  take-byte (Some d) b so_far =
      come-joined walker causal (at_floors floors) line s
      so_far.emissions b d so_far.come

  -- ---- what a taken tick makes of the walk

  -- From tick `m` on, the link has what is still to be sent, and below it what the other emissions
  -- have.
  link-more : (running : Option Burst) (so_far : Walked running) (more : List Burst) (i : ℕ) → m ≤ i
      → tick_at (so_far.emissions ++ more) i ≡ or_else (sent_at m unsent i) (tick_at more i)
  link-more running so_far more i from =
      let come = so_far.come in
      ap (λ x. tick_at (x ++ more) i) (sym come.emits)
      ∙ (shared-overlays station profile rules floors (at_floors floors) come.settled m i come.are_noted from more
      ∙ (ap (λ x. or_else (tick_at x i) (tick_at more i)) come.emits
      ∙ ap (λ t. or_else t (tick_at more i)) (so_far.sends i from)))

  -- a step that notes nothing
  walks-on : (running now : Option Burst) (so_far : Walked running) (t : Tick)
      → Taken running now so_far t
      → IfSome now (λ d. m + 1 ≤ end_of d + 3) → WalkedThen t s (drop 1 unsent) now
  walks-on running now so_far t taken later =
      let P : ℕ → Type 0 = λ k. StationsHaveWalked station profile rules floors k (bursts (line ++ t ∷ [])) s
      (drop 1 unsent) now in
      subst P (sym (longer-line line t))
      (record {
        emissions = so_far.emissions;
        come = come-waits walker (at_floors floors) m (bursts (line ++ t ∷ [])) s so_far.emissions now
            taken later;
        sends = λ i from. let before : m ≤ i = omega arith in
            so_far.sends i before ∙ sent-later m unsent i from;
        in_time = unsent-in_time unsent m s.free_from so_far.in_time;
      })

  -- If the tick and the note of a step are those of the walk up to the running burst, the step is
  -- what the definitions say.
  answers : (running now : Option Burst) (so_far : Walked running) (t : Tick)
      (step : BoxStep StationNote)
      → Taken running now so_far t
      → or_else (sent_at m unsent m) (tick_at (emitted_by walker s (waiting_part now)) m) ≡ step.tick
      → told_notes brief_seal_note (notes_at m (walked walker s (waiting_part now)))
      ≡ note_in m (option_map one_note step.note)
      → AnswersStep walker (at_floors floors) line t step
  answers running now so_far t step taken tick note =
      let here : m ≤ m = omega arith in
      answers-step walker causal (at_floors floors) line s
      so_far.emissions t now taken
      brief_seal_note step.tick (option_map one_note step.note)
      (link-more running so_far (emitted_by walker s (waiting_part now)) m here ∙ tick) note

  -- ---- one burst that isn't closed

  emission-alone : (d : Burst) (i : ℕ)
      → tick_at (emitted_by walker s (d ∷ [])) i
      ≡ tick_at (emission_by profile rules d (judgement_now d)) i
  emission-alone d i =
      ap (λ x. tick_at x i) (append-nil (emission_by profile rules d (judgement_now d)))

  -- The emission of a burst that isn't early shows its live bytes, up to the third silent tick.
  emission-live : (d : Burst) (i : ℕ) → IsContiguous 4 d.body → s.free_from ≤ d.start
      → d.start ≤ i → i < end_of d + 3
      → tick_at (emission_by profile rules d (judgement_now d)) i
      ≡ get_or (live_ticks rules d) (i - d.start) Silent
  emission-live d i whole late from before =
      emission-judged profile rules lawful (its d) d i whole (le-ltb d.start s.free_from late) before
      ∙ shown-from profile rules lawful d i from

  emission-nothing : (d : Burst) (i : ℕ) → d.start < s.free_from
      → tick_at (emission_by profile rules d (judgement_now d)) i ≡ Silent
  emission-nothing d i early =
      ap (λ x. tick_at x i) (emission-early profile rules lawful (its d) d
      (lt-ltb d.start s.free_from early))
      ∙ tick_at-none i

  -- After the live bytes, the emission is silent up to the third silent tick.
  emission-past : (d : Burst) (i : ℕ) → IsContiguous 4 d.body → d.start ≤ i → live_end rules d ≤ i
      → i < end_of d + 3
      → tick_at (emission_by profile rules d (judgement_now d)) i ≡ Silent
  emission-past d i whole from past before =
      ⊎_elim
      (λ early. emission-nothing d i early)
      (λ late.
      let beyond : length (live_ticks rules d) ≤ i - d.start = omega arith in
      emission-live d i whole late from before
      ∙ get_or_past (live_ticks rules d) (i - d.start) Silent beyond)
      (cases_lt d.start s.free_from)

  emission-unsealed : (d : Burst) (why : UnsealedWhy) (i : ℕ) → end_of d ≤ i
      → tick_at (emission_by profile rules d (unsealed why)) i ≡ Silent
  emission-unsealed d Early i past = tick_at-none i
  emission-unsealed d Form i past = forwarded-past profile rules d i past
  emission-unsealed d Spent i past = forwarded-past profile rules d i past

  -- If the other emissions are silent at tick `m`, the link has the first byte that is still to be
  -- sent.
  only-sent : (dark : List Burst) → tick_at dark m ≡ Silent
      → or_else (sent_at m unsent m) (tick_at dark m) ≡ first_of unsent
  only-sent dark is =
      ap (λ t. or_else (sent_at m unsent m) t) is
      ∙ (or_else-silent (sent_at m unsent m) ∙ sent-first m unsent)

  -- ---- a silent tick that closes no burst

  quiet-answers : (running : Option Burst) → Walked running
      → IfSome running (λ d. m + 1 < end_of d + T3_5_TICKS)
      → AnswersStep walker (at_floors floors) line Silent (noteless (first_of unsent))
  quiet-answers None so_far near =
      answers None None so_far Silent (noteless (first_of unsent)) (take-silent None so_far)
      (only-sent [] (tick_at-none m)) refl
  quiet-answers (Some d) so_far near =
      let within = divided-within line so_far.come.settled d (walked-divided (Some d) so_far) in
      let ends = within.within in
      let close : m + 1 < end_of d + 4 = near in
      let live = live_end-within rules d in
      let later : m + 1 ≤ end_of d + 3 = omega arith in
      let dark = emission-past d m within.contiguous (omega arith) (omega arith) (omega arith) in
      answers (Some d) (Some d) so_far Silent (noteless (first_of unsent))
      (take-silent (Some d) so_far)
      (only-sent (emitted_by walker s (d ∷ [])) (emission-alone d m ∙ dark))
      (ap (λ x. told_notes brief_seal_note x) (note-later walker s m (Some d) later))

  open-later : (running : Option Burst) → IfSome running (λ d. m + 1 < end_of d + T3_5_TICKS)
      → IfSome running (λ d. m + 1 ≤ end_of d + 3)
  open-later None near = tt
  open-later (Some d) near = omega arith

  pub walks-silent : (running : Option Burst) → Walked running
      → IfSome running (λ d. m + 1 < end_of d + T3_5_TICKS)
      → WalkedThen Silent s (drop 1 unsent) running
      × AnswersStep walker (at_floors floors) line Silent (noteless (first_of unsent))
  walks-silent running so_far near = (
    walks-on running running so_far Silent (take-silent running so_far) (open-later running near),
    quiet-answers running so_far near,
  )

  -- ---- a silent tick that closes a burst

  abbrev SendsThen : Burst → List ℕ → Type 0
  SendsThen d to_send = (i : ℕ) → m ≤ i
      → or_else (sent_at m unsent i) (tick_at (emission_by profile rules d (judgement_now d)) i)
      ≡ sent_at m to_send i

  closes : (d : Burst) (next : SharedState) (to_send : List ℕ) → Walked (Some d)
      → m + 1 ≡ end_of d + T3_5_TICKS
      → next_by station profile rules floors s d (judgement_now d) ≡ next → SendsThen d to_send
      → (0 < length to_send → m + length to_send + T3_5_TICKS ≤ next.free_from)
      → WalkedThen Silent next (drop 1 to_send) None
  closes d next to_send so_far closing state sends in_time =
      let ds : List Burst = bursts (line ++ Silent ∷ []) in
      let emission : List Burst = emission_by profile rules d (judgement_now d) in
      let now : end_of d + 3 ≡ m = omega arith in
      let P : ℕ → Type 0 = λ k. StationsHaveWalked station profile rules floors k ds next (drop 1 to_send) None in
      subst P (sym (longer-line line Silent))
      (record {
        emissions = so_far.emissions ++ emission;
        come = come-state station profile rules floors (m + 1) ds
            (next_by station profile rules floors s d (judgement_now d)) next
            (so_far.emissions ++ emission) None state
            (come-noted walker (at_floors floors) m ds s so_far.emissions d
            (take-silent (Some d) so_far) now);
        sends = λ i from. let before : m ≤ i = omega arith in
            link-more (Some d) so_far emission i before
            ∙ (sends i before ∙ sent-later m to_send i from);
        in_time = unsent-in_time to_send m next.free_from in_time;
      })

  close-answers : (d : Burst) (step : BoxStep StationNote) → Walked (Some d)
      → m + 1 ≡ end_of d + T3_5_TICKS
      → or_else (sent_at m unsent m) (tick_at (emission_by profile rules d (judgement_now d)) m)
      ≡ step.tick
      → Some (brief_seal_note (note_by rules d (judgement_now d))) ≡ option_map one_note step.note
      → AnswersStep walker (at_floors floors) line Silent step
  close-answers d step so_far closing tick note =
      let now : end_of d + 3 ≡ m = omega arith in
      answers (Some d) (Some d) so_far Silent step (take-silent (Some d) so_far)
      (ap (λ t. or_else (sent_at m unsent m) t) (emission-alone d m) ∙ tick)
      (ap (λ x. told_notes brief_seal_note x) (note-now walker s m d now) ∙ ap (λ o. note_in m o) note)

  pub walks-unsealed : (d : Burst) (why : UnsealedStationWhy) → Walked (Some d)
      → m + 1 ≡ end_of d + T3_5_TICKS
      → judgement_now d ≡ unsealed (one_why why)
      → WalkedThen Silent s (drop 1 unsent) None
      × AnswersStep walker (at_floors floors) line Silent
      (record { tick = first_of unsent; note = Some (Unsealed d.start why) })
  walks-unsealed d why so_far closing is =
      let dark : SendsThen d unsent = λ i from.
      let past : end_of d ≤ i = omega arith in
      ap (λ t. or_else (sent_at m unsent i) t)
      (ap (λ j. tick_at (emission_by profile rules d j) i) is ∙ emission-unsealed d (one_why why) i past)
      ∙ or_else-silent (sent_at m unsent i) in
      let here : m ≤ m = omega arith in (
        closes d s unsent so_far closing (ap (λ j. next_by station profile rules floors s d j) is) dark
            so_far.in_time,
        close-answers d (record { tick = first_of unsent; note = Some (Unsealed d.start why) }) so_far
            closing
            (dark m here ∙ sent-first m unsent)
            (ap (λ j. Some (brief_seal_note (note_by rules d j))) is),
      )

  -- A burst that is sealed isn't early.
  pub seals-late : (d : Burst) (number : ℕ) → judgement_now d ≡ sealed_with number
      → s.free_from ≤ d.start
  seals-late d number is =
      let wrong : Bool = has_extra rules d || not (rules.is_frame (live_bytes rules d)) in
      ⊎_elim
      (λ early. absurd (early-unsealed wrong ((its d).floor == profile.limit) (suc (its d).floor) number
      (ap (λ e. judge_by e wrong ((its d).floor == profile.limit) (suc (its d).floor))
      (sym (lt-ltb d.start s.free_from early))
      ∙ (sym (judged-is profile rules (its d) d) ∙ is))))
      (λ late. late)
      (cases_lt d.start s.free_from)

  pub seals-whole : (d : Burst) (number : ℕ) → judgement_now d ≡ sealed_with number
      → has_extra rules d ≡ false
  seals-whole d number is =
      let wrong : Bool = has_extra rules d || not (rules.is_frame (live_bytes rules d)) in
      no_extra (has_extra rules d) (not (rules.is_frame (live_bytes rules d)))
      (sealed-right (nat_lt d.start s.free_from) wrong ((its d).floor == profile.limit) (suc (its d).floor)
      number
      (sym (judged-is profile rules (its d) d) ∙ is))

  -- If the burst is sealed, the link is silent up to this step, and the trailer is sent from it on.
  sealed-sends : (d : Burst) (number : ℕ) (bytes : List ℕ) → Walked (Some d)
      → live_end rules d + 3 ≡ m
      → judgement_now d ≡ sealed_with number → bytes ≡ trailer profile number (live_bytes rules d)
      → SendsThen d bytes
  sealed-sends d number bytes so_far end is trailer_is i from =
      let late = seals-late d number is in
      let none : unsent ≡ [] = none_left unsent m s.free_from so_far.in_time (omega arith) in
      let begun : d.start ≤ i = omega arith in
      let past : live_end rules d + 3 ≤ i = omega arith in
      let sent : List ℕ = trailer profile number (live_bytes rules d) in
      ap (λ l. or_else (sent_at m l i) (tick_at (emission_by profile rules d (judgement_now d)) i))
      none
      ∙ (ap (λ j. tick_at (emission_by profile rules d j) i) is
      ∙ (tick_at-from (forwarded rules d (trailing sent)) i begun
      ∙ (sealed-from profile rules d sent i past
      ∙ (ap (λ k. sent_at k sent i) end ∙ ap (λ l. sent_at m l i) (sym trailer_is)))))

  sealed-end : (d : Burst) (number : ℕ) → Walked (Some d) → m + 1 ≡ end_of d + T3_5_TICKS
      → judgement_now d ≡ sealed_with number → live_end rules d + 3 ≡ m
  sealed-end d number so_far closing is =
      let within = divided-within line so_far.come.settled d (walked-divided (Some d) so_far) in
      let long : length (live_ticks rules d) ≡ length d.body =
      ap length (live_ticks-whole rules lawful d within.contiguous (seals-whole d number is)) in
      omega arith

  seals : (d : Burst) (number : ℕ) → Walked (Some d) → m + 1 ≡ end_of d + T3_5_TICKS
      → judgement_now d ≡ sealed_with number → SealsNext walker (at_floors floors) line Silent number
  seals d number so_far closing is =
      let now : end_of d + 3 ≡ m = omega arith in
      record {
        start = d.start;
        frame = live_bytes rules d;
        note = notes-step walker causal (at_floors floors) line s
            so_far.emissions
            Silent (Some d) (take-silent (Some d) so_far)
            ∙ ap (λ x. notes_of walker (at_floors floors) line ++ x)
            (note-now walker s m d now
            ∙ ap (λ j. let n : Noted FullNote = record { tick = m; note = note_by rules d j } in
            n ∷ []) is);
      }

  pub walks-sealed : (d : Burst) (station_name number : ℕ) (bytes : List ℕ) → Walked (Some d)
      → m + 1 ≡ end_of d + T3_5_TICKS
      → judgement_now d ≡ sealed_with number → bytes ≡ trailer profile number (live_bytes rules d)
      → WalkedThen Silent (record {
        floors = with_floor s.floors (station (live_bytes rules d)) number;
        free_from = start_after profile rules d;
      })
      (drop 1 bytes) None
      × AnswersStep walker (at_floors floors) line Silent
      (record {
        tick = first_of bytes;
        note =
            Some (Sealed station_name number d.start (length (live_bytes rules d)));
      })
      × SealsNext walker (at_floors floors) line Silent number
  walks-sealed d station_name number bytes so_far closing is trailer_is =
      let end = sealed-end d number so_far closing is in
      let sends = sealed-sends d number bytes so_far end is trailer_is in
      let size : length bytes ≡ trailer_len profile =
      ap length trailer_is ∙ length-trailer profile tags number (live_bytes rules d) in
      let next : SharedState = record {
        floors = with_floor s.floors (station (live_bytes rules d)) number;
        free_from = start_after profile rules d;
      } in
      let here : m ≤ m = omega arith in (
        closes d next bytes so_far closing (ap (λ j. next_by station profile rules floors s d j) is) sends
            (λ some. omega arith),
        close-answers d (record {
          tick = first_of bytes;
          note = Some (Sealed station_name number d.start (length (live_bytes rules d)));
        })
            so_far closing (sends m here ∙ sent-first m bytes)
            (ap (λ j. Some (brief_seal_note (note_by rules d j))) is),
        seals d number so_far closing is,
      )

  -- ---- a byte

  module _ (running : Option Burst) (b : ℕ) (so_far : Walked running) where
    abbrev d : Burst
    d = with_byte_at m b running

    abbrev closed : List Burst
    closed = so_far.come.settled

    ends : end_of d ≡ m + 1
    ends = byte-ends line closed b running (walked-divided running so_far)

    whole : IsContiguous 4 d.body
    whole = byte-contiguous line closed b running (walked-divided running so_far)

    walks-byte : WalkedThen (Byte b) s (drop 1 unsent) (Some d)
    walks-byte =
        let end = ends in
        let later : m + 1 ≤ end_of d + 3 = omega arith in
        walks-on running (Some d) so_far (Byte b) (take-byte running b so_far) later

    byte-answers : (t : Tick) → or_else (sent_at m unsent m)
        (tick_at (emission_by profile rules d (judgement_now d)) m) ≡ t
        → AnswersStep walker (at_floors floors) line (Byte b) (noteless t)
    byte-answers t is =
        let end = ends in
        let later : m + 1 ≤ end_of d + 3 = omega arith in
        answers running (Some d) so_far (Byte b) (noteless t) (take-byte running b so_far)
        (ap (λ x. or_else (sent_at m unsent m) x) (emission-alone d m) ∙ is)
        (ap (λ x. told_notes brief_seal_note x) (note-later walker s m (Some d) later))

    -- A byte of an early burst isn't forwarded.
    pub walks-early : d.start < s.free_from
        → WalkedThen (Byte b) s (drop 1 unsent) (Some d)
        × AnswersStep walker (at_floors floors) line (Byte b) (noteless (first_of unsent))
    walks-early early = (
      walks-byte,
      byte-answers (first_of unsent)
          (ap (λ x. or_else (sent_at m unsent m) x) (emission-nothing d m early)
          ∙ (or_else-silent (sent_at m unsent m) ∙ sent-first m unsent)),
    )

    -- If the burst isn't early, nothing is left to be sent.
    byte-none_left : s.free_from ≤ d.start → unsent ≡ []
    byte-none_left late =
        let begun = byte-begun line closed b running (walked-divided running so_far) in
        none_left unsent m s.free_from so_far.in_time (omega arith)

    walks-late : s.free_from ≤ d.start → WalkedThen (Byte b) s [] (Some d)
    walks-late late =
        let P : List ℕ → Type 0 = λ l. WalkedThen (Byte b) s (drop 1 l) (Some d) in
        subst P (byte-none_left late) walks-byte

    late-answers : (t : Tick) → s.free_from ≤ d.start
        → tick_at (emission_by profile rules d (judgement_now d)) m ≡ t
        → AnswersStep walker (at_floors floors) line (Byte b) (noteless t)
    late-answers t late is =
        byte-answers t
        (ap (λ l. or_else (sent_at m l m)
        (tick_at (emission_by profile rules d (judgement_now d)) m)) (byte-none_left late)
        ∙ is)

    pub walks-live : s.free_from ≤ d.start → live_end rules d ≡ m + 1
        → (unsent ≡ []) × WalkedThen (Byte b) s [] (Some d)
        × AnswersStep walker (at_floors floors) line (Byte b) (noteless (Byte b))
    walks-live late live =
        let end = ends in
        let begun : d.start ≤ m = byte-begun line closed b running
        (walked-divided running so_far) in
        let before : m < end_of d + 3 = omega arith in
        let all : length (live_ticks rules d) ≡ length d.body = omega arith in (
          byte-none_left late,
          walks-late late,
          late-answers (Byte b) late
              (emission-live d m whole late begun before
              ∙ (ap (λ x. get_or x (m - d.start) Silent)
              (up_to_byte-full (length (live_bytes rules d)) d.body all)
              ∙ byte-last line closed b running (walked-divided running so_far))),
        )

    pub walks-extra : s.free_from ≤ d.start → live_end rules d ≤ m
        → (unsent ≡ []) × WalkedThen (Byte b) s [] (Some d)
        × AnswersStep walker (at_floors floors) line (Byte b) (noteless Silent)
    walks-extra late extra =
        let end = ends in
        let begun : d.start ≤ m = byte-begun line closed b running
        (walked-divided running so_far) in
        let before : m < end_of d + 3 = omega arith in (
          byte-none_left late,
          walks-late late,
          late-answers Silent late (emission-past d m whole begun extra before),
        )

-- One more tick of the device: how far the walk has come with it, and what the step returns.
use Rattle.frame_ending.proofs.Coming.{come-begun, come-waits, come-noted, come-silent, come-joined}
use Rattle.frame_ending.proofs.Coming.{come-alone, notes_before-come, notes-step, answers-step}
use Rattle.frame_ending.proofs.Coming.{note-now, note-later}
use Rattle.frame_ending.proofs.Emissions.{tick_at-none, tick_at-from}
use Rattle.frame_ending.specs.Answers.{told_notes, note_in}
use Rattle.frame_ending.specs.{HasCome.HasCome, HasCome.AreNoted, HasCome.waiting_part, Laid.tick_at}
use Rattle.frame_ending.specs.Walk.{Walker, Noted, walked, emitted_by, notes_at}
use Rattle.frame_ending.specs.declared.box_step.BoxStep.{BoxStep}
use Rattle.frame_ending.proofs.Dividing.{longer-line, divided-within, byte-ends, byte-begun}
use Rattle.frame_ending.proofs.Dividing.{byte-contiguous, byte-last}
use Rattle.frame_ending.proofs.LiveTicks.{live_end-within, live_ticks-whole, up_to_byte-full}
use Rattle.frame_ending.{proofs.Running.with_byte_at, specs.Divided.IsDivided}
use Rattle.frame_ending.specs.LiveBytes.{live_bytes, live_ticks, live_end, has_extra}
use Rattle.line_rules.specs.{Rules.Rules, RulesLaws.IsLawful}
use Rattle.link_format.{proofs.Profiles.length-trailer, specs.NumberedFrame.last_number}
use Rattle.link_format.specs.Profile.{Profile, HasTags, trailer, trailer_len}
use Rattle.link_format.specs.Trailers.{first_of}
use Rattle.link_box.proofs.SealCausality.{judge_by}
use Rattle.link_box.proofs.SealCausality.{judged-is, sealed-right, no_extra, sealer-causal}
use Rattle.link_box.proofs.SealCausality.{emission-judged, emission-early, shown-from}
use Rattle.link_box.specs.Sealing.{SealState, FullNote, Judgement, judged, state_by, note_by}
use Rattle.link_box.specs.Sealing.{emission_by, forwarded, trailing, sealer, sealed_in}
use Rattle.link_box.specs.Sealing.{at_floor, seal_notes, start_after, sealed}
use Rattle.link_box.specs.Sealing.Judgement.{sealed_with, unsealed}
use Rattle.link_box.specs.declared.seal_note.SealNote.{SealNote}
use Rattle.link_box.specs.declared.seal_note.SealNote.TheVariants.{Sealed, Unsealed}
use Rattle.link_box.specs.declared.seal_note.UnsealedWhy.{UnsealedWhy}
use Rattle.link_box.specs.declared.seal_note.UnsealedWhy.TheVariants.{Early, Form, Spent}
use Rattle.seal_transmitter.proofs.StepLemmas.{or_else, or_else-silent, sent-first, sent-later}
use Rattle.seal_transmitter.proofs.StepLemmas.{noted-overlays, noted-number, sealed-from}
use Rattle.seal_transmitter.proofs.StepLemmas.{forwarded-past}
use Rattle.seal_transmitter.specs.Answers.{SealerAnswersTick, SealsWith, brief_seal_note}
use Rattle.seal_transmitter.specs.{Between.noteless, Stands.SealerHasWalked, Stands.sent_at}
use Rattle.std.proofs.Common.{◌≡◌, ◌∙◌, ◌==◌, ◌||◌, not, ℕ, suc, ◌+◌, ◌-◌, ◌<◌, ◌≤◌, nat_lt, Bool}
use Rattle.std.proofs.Common.{true, false, List, [], ◌∷◌, ◌++◌, length, drop, refl, sym, ap, subst}
use Rattle.std.proofs.Common.{arith, get_or, ⊎_elim, Option, Some, None, IfSome}
use Rattle.std.proofs.lemmas.{Bool.cases_lt, Bool.lt-ltb, Bool.le-ltb, List.append-nil}
use Rattle.std.{proofs.lemmas.List.get_or_past, specs.List.filter_map}
use Rattle.yasir_ticks.specs.Bursts.{Burst, bursts, bursts_from, end_of, AreClosed}
use Rattle.yasir_ticks.specs.{BurstsOf.IsContiguous, declared.TheConstants.T3_5_TICKS}
use Rattle.yasir_ticks.specs.declared.tick.Tick.{Tick, TheVariants.Silent, TheVariants.Byte}

none_left : (unsent : List ℕ) (m earliest : ℕ) → (0 < length unsent → m + length unsent + 4 ≤ earliest)
    → earliest ≤ m
    → unsent ≡ []
none_left [] m earliest in_time late = refl
none_left (b ∷ unsent) m earliest in_time late =
    let some : 0 < length (b ∷ unsent) = omega arith in
    let soon = in_time some in
    absurd (omega arith)

unsent-in_time : (unsent : List ℕ) (m earliest : ℕ) → (0 < length unsent → m + length unsent + 4 ≤ earliest)
    → 0 < length (drop 1 unsent) → m + 1 + length (drop 1 unsent) + 4 ≤ earliest
unsent-in_time [] m earliest in_time some = absurd (omega arith)
unsent-in_time (b ∷ unsent) m earliest in_time some =
    let now : 0 < length (b ∷ unsent) = omega arith in
    let soon = in_time now in
    omega arith

early-unsealed : (wrong last : Bool) (number n : ℕ)
    → judge_by true wrong last number ≡ sealed_with n → ⊥
early-unsealed wrong last number n is = cc

module _ (profile : Profile) (rules : Rules) (floor : ℕ) where
  -- a transmitter at rest
  pub walked-nothing : SealerHasWalked profile rules floor 0 [] (at_floor floor) [] None
  unfolding tick_at
  walked-nothing = record {
    emissions = [];
    come = come-begun (sealer profile rules) (at_floor floor);
    sends = λ i from. refl;
    in_time = λ some. absurd (omega arith);
  }

  pub walked-begun : SealerHasWalked profile rules floor 0 (bursts []) (at_floor floor) [] None
  unfolding bursts_from
  walked-begun = walked-nothing

  -- Noted bursts are closed.
  noted-closed : (s : SealState) (m : ℕ) (ds : List Burst) → AreNoted (sealer profile rules) s m ds
      → AreClosed T3_5_TICKS m ds
  noted-closed s m [] are = tt
  noted-closed s m (d ∷ ds) are =
      let early : end_of d + 3 < m = are.0 in
      (omega arith, noted-closed (state_by profile rules s d (judged profile rules s d)) m ds are.1)

  open-now : (m : ℕ) (running : Option Burst) → IfSome running (λ d. m ≤ end_of d + 3)
      → IfSome running (λ d. m < end_of d + T3_5_TICKS)
  open-now m None waits = tt
  open-now m (Some d) waits = omega arith

  come-state : (m : ℕ) (ds : List Burst) (s next : SealState) (emissions : List Burst)
      (running : Option Burst)
      → s ≡ next → HasCome (sealer profile rules) (at_floor floor) m ds s emissions running
      → HasCome (sealer profile rules) (at_floor floor) m ds next emissions running
  come-state m ds s next emissions running same come =
      let P : SealState → Type 0 = λ x.
      HasCome (sealer profile rules) (at_floor floor) m ds x emissions running in
      subst P same come

module _ (profile : Profile) (rules : Rules) (lawful : IsLawful rules) (tags : HasTags profile)
    (floor : ℕ)
    (line : List Tick) (s : SealState) (unsent : List ℕ) where
  abbrev walker : Walker SealState FullNote
  walker = sealer profile rules

  abbrev m : ℕ
  m = length line

  abbrev Walked : Option Burst → Type 0
  Walked running = SealerHasWalked profile rules floor m (bursts line) s unsent running

  -- the walk after one more tick, with this state, these bytes still to be sent, and this running
  -- burst
  abbrev WalkedThen : Tick → SealState → List ℕ → Option Burst → Type 0
  WalkedThen t next to_send running =
      SealerHasWalked profile rules floor (length (line ++ t ∷ [])) (bursts (line ++ t ∷ [])) next to_send
      running

  -- Holds if the tick has come, and the burst `now` is the running one.
  abbrev Taken : (running now : Option Burst) → Walked running → Tick → Type 0
  Taken running now so_far t =
      HasCome walker (at_floor floor) m (bursts (line ++ t ∷ [])) s so_far.emissions now

  abbrev judgement_now : Burst → Judgement
  judgement_now d = judged profile rules s d

  -- The line is divided into the bursts that are settled and the running one.
  pub walked-divided : (running : Option Burst) (so_far : Walked running)
      → IsDivided line so_far.come.settled running
  walked-divided running so_far = record {
    is = so_far.come.is;
    are_closed = noted-closed profile rules floor (at_floor floor) m so_far.come.settled
        so_far.come.are_noted;
    is_running = open-now profile rules floor m running so_far.come.waits;
  }

  -- ---- taking a tick

  take-silent : (running : Option Burst) (so_far : Walked running)
      → Taken running running so_far Silent
  take-silent running so_far =
      come-silent walker (sealer-causal profile rules lawful) (at_floor floor) line s
      so_far.emissions running so_far.come

  take-byte : (running : Option Burst) (b : ℕ) (so_far : Walked running)
      → Taken running (Some (with_byte_at m b running)) so_far (Byte b)
  take-byte None b so_far =
      let divided = walked-divided None so_far in
      let P : List Burst → Type 0 = λ ds. AreClosed T3_5_TICKS m ds in
      let whole : bursts line ≡ so_far.come.settled =
      so_far.come.is ∙ append-nil so_far.come.settled in
      come-alone walker (sealer-causal profile rules lawful) (at_floor floor) line s
      so_far.emissions b so_far.come
      (subst P (sym whole) divided.are_closed)
  take-byte (Some d) b so_far =
      come-joined walker (sealer-causal profile rules lawful) (at_floor floor) line s
      so_far.emissions b d so_far.come

  -- ---- what a taken tick makes of the walk

  -- From tick `m` on, the link has what is still to be sent, and below it what the other emissions
  -- have.
  link-more : (running : Option Burst) (so_far : Walked running) (more : List Burst) (i : ℕ) → m ≤ i
      → tick_at (so_far.emissions ++ more) i ≡ or_else (sent_at m unsent i) (tick_at more i)
  link-more running so_far more i from =
      let come = so_far.come in
      ap (λ x. tick_at (x ++ more) i) (sym come.emits)
      ∙ (noted-overlays profile rules (at_floor floor) come.settled m i come.are_noted from more
      ∙ (ap (λ x. or_else (tick_at x i) (tick_at more i)) come.emits
      ∙ ap (λ t. or_else t (tick_at more i)) (so_far.sends i from)))

  -- a step that notes nothing
  walks-on : (running now : Option Burst) (so_far : Walked running) (t : Tick)
      → Taken running now so_far t
      → IfSome now (λ d. m + 1 ≤ end_of d + 3) → WalkedThen t s (drop 1 unsent) now
  walks-on running now so_far t taken later =
      let P : ℕ → Type 0 = λ k. SealerHasWalked profile rules floor k (bursts (line ++ t ∷ [])) s
      (drop 1 unsent) now in
      subst P (sym (longer-line line t))
      (record {
        emissions = so_far.emissions;
        come = come-waits walker (at_floor floor) m (bursts (line ++ t ∷ [])) s so_far.emissions now
            taken later;
        sends = λ i from. let before : m ≤ i = omega arith in
            so_far.sends i before ∙ sent-later m unsent i from;
        in_time = unsent-in_time unsent m s.earliest_start so_far.in_time;
      })

  -- If the tick and the note of a step are those of the walk up to the running burst, the step is
  -- what the definitions say.
  answers : (running now : Option Burst) (so_far : Walked running) (t : Tick)
      (step : BoxStep SealNote)
      → Taken running now so_far t
      → or_else (sent_at m unsent m) (tick_at (emitted_by walker s (waiting_part now)) m) ≡ step.tick
      → told_notes brief_seal_note (notes_at m (walked walker s (waiting_part now)))
      ≡ note_in m step.note
      → SealerAnswersTick profile rules floor line t step
  answers running now so_far t step taken tick note =
      let here : m ≤ m = omega arith in
      answers-step walker (sealer-causal profile rules lawful) (at_floor floor) line s
      so_far.emissions t now taken
      brief_seal_note step.tick step.note
      (link-more running so_far (emitted_by walker s (waiting_part now)) m here ∙ tick) note

  -- ---- one burst that isn't closed

  emission-alone : (d : Burst) (i : ℕ)
      → tick_at (emitted_by walker s (d ∷ [])) i
      ≡ tick_at (emission_by profile rules d (judgement_now d)) i
  emission-alone d i =
      ap (λ x. tick_at x i) (append-nil (emission_by profile rules d (judgement_now d)))

  -- The emission of a burst that isn't early shows its live bytes, up to the third silent tick.
  emission-live : (d : Burst) (i : ℕ) → IsContiguous 4 d.body → s.earliest_start ≤ d.start
      → d.start ≤ i → i < end_of d + 3
      → tick_at (emission_by profile rules d (judgement_now d)) i
      ≡ get_or (live_ticks rules d) (i - d.start) Silent
  emission-live d i whole late from before =
      emission-judged profile rules lawful s d i whole (le-ltb d.start s.earliest_start late) before
      ∙ shown-from profile rules lawful d i from

  emission-nothing : (d : Burst) (i : ℕ) → d.start < s.earliest_start
      → tick_at (emission_by profile rules d (judgement_now d)) i ≡ Silent
  emission-nothing d i early =
      ap (λ x. tick_at x i) (emission-early profile rules lawful s d
      (lt-ltb d.start s.earliest_start early))
      ∙ tick_at-none i

  -- After the live bytes, the emission is silent up to the third silent tick.
  emission-past : (d : Burst) (i : ℕ) → IsContiguous 4 d.body → d.start ≤ i → live_end rules d ≤ i
      → i < end_of d + 3
      → tick_at (emission_by profile rules d (judgement_now d)) i ≡ Silent
  emission-past d i whole from past before =
      ⊎_elim
      (λ early. emission-nothing d i early)
      (λ late.
      let beyond : length (live_ticks rules d) ≤ i - d.start = omega arith in
      emission-live d i whole late from before
      ∙ get_or_past (live_ticks rules d) (i - d.start) Silent beyond)
      (cases_lt d.start s.earliest_start)

  emission-unsealed : (d : Burst) (why : UnsealedWhy) (i : ℕ) → end_of d ≤ i
      → tick_at (emission_by profile rules d (unsealed why)) i ≡ Silent
  emission-unsealed d Early i past = tick_at-none i
  emission-unsealed d Form i past = forwarded-past profile rules d i past
  emission-unsealed d Spent i past = forwarded-past profile rules d i past

  -- If the other emissions are silent at tick `m`, the link has the first byte that is still to be
  -- sent.
  only-sent : (dark : List Burst) → tick_at dark m ≡ Silent
      → or_else (sent_at m unsent m) (tick_at dark m) ≡ first_of unsent
  only-sent dark is =
      ap (λ t. or_else (sent_at m unsent m) t) is
      ∙ (or_else-silent (sent_at m unsent m) ∙ sent-first m unsent)

  -- ---- a silent tick that closes no burst

  quiet-answers : (running : Option Burst) → Walked running
      → IfSome running (λ d. m + 1 < end_of d + T3_5_TICKS)
      → SealerAnswersTick profile rules floor line Silent (noteless (first_of unsent))
  quiet-answers None so_far near =
      answers None None so_far Silent (noteless (first_of unsent)) (take-silent None so_far)
      (only-sent [] (tick_at-none m)) refl
  quiet-answers (Some d) so_far near =
      let within = divided-within line so_far.come.settled d (walked-divided (Some d) so_far) in
      let ends = within.within in
      let close : m + 1 < end_of d + 4 = near in
      let live = live_end-within rules d in
      let later : m + 1 ≤ end_of d + 3 = omega arith in
      let dark = emission-past d m within.contiguous (omega arith) (omega arith) (omega arith) in
      answers (Some d) (Some d) so_far Silent (noteless (first_of unsent))
      (take-silent (Some d) so_far)
      (only-sent (emitted_by walker s (d ∷ [])) (emission-alone d m ∙ dark))
      (ap (λ x. told_notes brief_seal_note x) (note-later walker s m (Some d) later))

  open-later : (running : Option Burst) → IfSome running (λ d. m + 1 < end_of d + T3_5_TICKS)
      → IfSome running (λ d. m + 1 ≤ end_of d + 3)
  open-later None near = tt
  open-later (Some d) near = omega arith

  pub walks-silent : (running : Option Burst) → Walked running
      → IfSome running (λ d. m + 1 < end_of d + T3_5_TICKS)
      → WalkedThen Silent s (drop 1 unsent) running
      × SealerAnswersTick profile rules floor line Silent (noteless (first_of unsent))
  walks-silent running so_far near = (
    walks-on running running so_far Silent (take-silent running so_far) (open-later running near),
    quiet-answers running so_far near,
  )

  -- ---- a silent tick that closes a burst

  abbrev SendsThen : Burst → List ℕ → Type 0
  SendsThen d to_send = (i : ℕ) → m ≤ i
      → or_else (sent_at m unsent i) (tick_at (emission_by profile rules d (judgement_now d)) i)
      ≡ sent_at m to_send i

  closes : (d : Burst) (next : SealState) (to_send : List ℕ) → Walked (Some d)
      → m + 1 ≡ end_of d + T3_5_TICKS
      → state_by profile rules s d (judgement_now d) ≡ next → SendsThen d to_send
      → (0 < length to_send → m + length to_send + T3_5_TICKS ≤ next.earliest_start)
      → WalkedThen Silent next (drop 1 to_send) None
  closes d next to_send so_far closing state sends in_time =
      let ds : List Burst = bursts (line ++ Silent ∷ []) in
      let emission : List Burst = emission_by profile rules d (judgement_now d) in
      let now : end_of d + 3 ≡ m = omega arith in
      let P : ℕ → Type 0 = λ k. SealerHasWalked profile rules floor k ds next (drop 1 to_send) None in
      subst P (sym (longer-line line Silent))
      (record {
        emissions = so_far.emissions ++ emission;
        come = come-state profile rules floor (m + 1) ds
            (state_by profile rules s d (judgement_now d)) next
            (so_far.emissions ++ emission) None state
            (come-noted walker (at_floor floor) m ds s so_far.emissions d
            (take-silent (Some d) so_far) now);
        sends = λ i from. let before : m ≤ i = omega arith in
            link-more (Some d) so_far emission i before
            ∙ (sends i before ∙ sent-later m to_send i from);
        in_time = unsent-in_time to_send m next.earliest_start in_time;
      })

  close-answers : (d : Burst) (step : BoxStep SealNote) → Walked (Some d)
      → m + 1 ≡ end_of d + T3_5_TICKS
      → or_else (sent_at m unsent m) (tick_at (emission_by profile rules d (judgement_now d)) m)
      ≡ step.tick
      → Some (brief_seal_note (note_by rules d (judgement_now d))) ≡ step.note
      → SealerAnswersTick profile rules floor line Silent step
  close-answers d step so_far closing tick note =
      let now : end_of d + 3 ≡ m = omega arith in
      answers (Some d) (Some d) so_far Silent step (take-silent (Some d) so_far)
      (ap (λ t. or_else (sent_at m unsent m) t) (emission-alone d m) ∙ tick)
      (ap (λ x. told_notes brief_seal_note x) (note-now walker s m d now) ∙ ap (λ o. note_in m o) note)

  pub walks-unsealed : (d : Burst) (why : UnsealedWhy) → Walked (Some d)
      → m + 1 ≡ end_of d + T3_5_TICKS
      → judgement_now d ≡ unsealed why
      → WalkedThen Silent s (drop 1 unsent) None
      × SealerAnswersTick profile rules floor line Silent
      (record { tick = first_of unsent; note = Some (Unsealed d.start why) })
  walks-unsealed d why so_far closing is =
      let dark : SendsThen d unsent = λ i from.
      let past : end_of d ≤ i = omega arith in
      ap (λ t. or_else (sent_at m unsent i) t)
      (ap (λ j. tick_at (emission_by profile rules d j) i) is ∙ emission-unsealed d why i past)
      ∙ or_else-silent (sent_at m unsent i) in
      let here : m ≤ m = omega arith in (
        closes d s unsent so_far closing (ap (λ j. state_by profile rules s d j) is) dark
            so_far.in_time,
        close-answers d (record { tick = first_of unsent; note = Some (Unsealed d.start why) }) so_far
            closing
            (dark m here ∙ sent-first m unsent)
            (ap (λ j. Some (brief_seal_note (note_by rules d j))) is),
      )

  -- A burst that is sealed isn't early.
  pub seals-late : (d : Burst) (number : ℕ) → judgement_now d ≡ sealed_with number
      → s.earliest_start ≤ d.start
  seals-late d number is =
      let wrong : Bool = has_extra rules d || not (rules.is_frame (live_bytes rules d)) in
      ⊎_elim
      (λ early. absurd (early-unsealed wrong (s.floor == profile.limit) (suc s.floor) number
      (ap (λ e. judge_by e wrong (s.floor == profile.limit) (suc s.floor))
      (sym (lt-ltb d.start s.earliest_start early))
      ∙ (sym (judged-is profile rules s d) ∙ is))))
      (λ late. late)
      (cases_lt d.start s.earliest_start)

  pub seals-whole : (d : Burst) (number : ℕ) → judgement_now d ≡ sealed_with number
      → has_extra rules d ≡ false
  seals-whole d number is =
      let wrong : Bool = has_extra rules d || not (rules.is_frame (live_bytes rules d)) in
      no_extra (has_extra rules d) (not (rules.is_frame (live_bytes rules d)))
      (sealed-right (nat_lt d.start s.earliest_start) wrong (s.floor == profile.limit) (suc s.floor)
      number
      (sym (judged-is profile rules s d) ∙ is))

  -- If the burst is sealed, the link is silent up to this step, and the trailer is sent from it on.
  sealed-sends : (d : Burst) (number : ℕ) (bytes : List ℕ) → Walked (Some d)
      → live_end rules d + 3 ≡ m
      → judgement_now d ≡ sealed_with number → bytes ≡ trailer profile number (live_bytes rules d)
      → SendsThen d bytes
  sealed-sends d number bytes so_far end is trailer_is i from =
      let late = seals-late d number is in
      let none : unsent ≡ [] = none_left unsent m s.earliest_start so_far.in_time (omega arith) in
      let begun : d.start ≤ i = omega arith in
      let past : live_end rules d + 3 ≤ i = omega arith in
      let sent : List ℕ = trailer profile number (live_bytes rules d) in
      ap (λ l. or_else (sent_at m l i) (tick_at (emission_by profile rules d (judgement_now d)) i))
      none
      ∙ (ap (λ j. tick_at (emission_by profile rules d j) i) is
      ∙ (tick_at-from (forwarded rules d (trailing sent)) i begun
      ∙ (sealed-from profile rules d sent i past
      ∙ (ap (λ k. sent_at k sent i) end ∙ ap (λ l. sent_at m l i) (sym trailer_is)))))

  sealed-end : (d : Burst) (number : ℕ) → Walked (Some d) → m + 1 ≡ end_of d + T3_5_TICKS
      → judgement_now d ≡ sealed_with number → live_end rules d + 3 ≡ m
  sealed-end d number so_far closing is =
      let within = divided-within line so_far.come.settled d (walked-divided (Some d) so_far) in
      let long : length (live_ticks rules d) ≡ length d.body =
      ap length (live_ticks-whole rules lawful d within.contiguous (seals-whole d number is)) in
      omega arith

  seals : (d : Burst) (number : ℕ) → Walked (Some d) → m + 1 ≡ end_of d + T3_5_TICKS
      → judgement_now d ≡ sealed_with number → SealsWith profile rules floor line Silent number
  seals d number so_far closing is =
      let now : end_of d + 3 ≡ m = omega arith in
      record {
        start = d.start;
        frame = live_bytes rules d;
        note = notes-step walker (sealer-causal profile rules lawful) (at_floor floor) line s
            so_far.emissions
            Silent (Some d) (take-silent (Some d) so_far)
            ∙ ap (λ x. seal_notes profile rules floor line ++ x)
            (note-now walker s m d now
            ∙ ap (λ j. let n : Noted FullNote = record { tick = m; note = note_by rules d j } in
            n ∷ []) is);
      }

  pub walks-sealed : (d : Burst) (number : ℕ) (bytes : List ℕ) → Walked (Some d)
      → m + 1 ≡ end_of d + T3_5_TICKS
      → judgement_now d ≡ sealed_with number → bytes ≡ trailer profile number (live_bytes rules d)
      → WalkedThen Silent (record { floor = number; earliest_start = start_after profile rules d })
      (drop 1 bytes) None
      × SealerAnswersTick profile rules floor line Silent
      (record {
        tick = first_of bytes;
        note =
            Some (Sealed number d.start (length (live_bytes rules d)));
      })
      × SealsWith profile rules floor line Silent number
  walks-sealed d number bytes so_far closing is trailer_is =
      let end = sealed-end d number so_far closing is in
      let sends = sealed-sends d number bytes so_far end is trailer_is in
      let size : length bytes ≡ trailer_len profile =
      ap length trailer_is ∙ length-trailer profile tags number (live_bytes rules d) in
      let next : SealState = record {
        floor = number;
        earliest_start = start_after profile rules d;
      } in
      let here : m ≤ m = omega arith in (
        closes d next bytes so_far closing (ap (λ j. state_by profile rules s d j) is) sends
            (λ some. omega arith),
        close-answers d (record {
          tick = first_of bytes;
          note = Some (Sealed number d.start (length (live_bytes rules d)));
        })
            so_far closing (sends m here ∙ sent-first m bytes)
            (ap (λ j. Some (brief_seal_note (note_by rules d j))) is),
        seals d number so_far closing is,
      )

  -- ---- a byte

  module _ (running : Option Burst) (b : ℕ) (so_far : Walked running) where
    abbrev d : Burst
    d = with_byte_at m b running

    abbrev closed : List Burst
    closed = so_far.come.settled

    ends : end_of d ≡ m + 1
    ends = byte-ends line closed b running (walked-divided running so_far)

    whole : IsContiguous 4 d.body
    whole = byte-contiguous line closed b running (walked-divided running so_far)

    walks-byte : WalkedThen (Byte b) s (drop 1 unsent) (Some d)
    walks-byte =
        let end = ends in
        let later : m + 1 ≤ end_of d + 3 = omega arith in
        walks-on running (Some d) so_far (Byte b) (take-byte running b so_far) later

    byte-answers : (t : Tick) → or_else (sent_at m unsent m)
        (tick_at (emission_by profile rules d (judgement_now d)) m) ≡ t
        → SealerAnswersTick profile rules floor line (Byte b) (noteless t)
    byte-answers t is =
        let end = ends in
        let later : m + 1 ≤ end_of d + 3 = omega arith in
        answers running (Some d) so_far (Byte b) (noteless t) (take-byte running b so_far)
        (ap (λ x. or_else (sent_at m unsent m) x) (emission-alone d m) ∙ is)
        (ap (λ x. told_notes brief_seal_note x) (note-later walker s m (Some d) later))

    -- A byte of an early burst isn't forwarded.
    pub walks-early : d.start < s.earliest_start
        → WalkedThen (Byte b) s (drop 1 unsent) (Some d)
        × SealerAnswersTick profile rules floor line (Byte b) (noteless (first_of unsent))
    walks-early early = (
      walks-byte,
      byte-answers (first_of unsent)
          (ap (λ x. or_else (sent_at m unsent m) x) (emission-nothing d m early)
          ∙ (or_else-silent (sent_at m unsent m) ∙ sent-first m unsent)),
    )

    -- If the burst isn't early, nothing is left to be sent.
    byte-none_left : s.earliest_start ≤ d.start → unsent ≡ []
    byte-none_left late =
        let begun = byte-begun line closed b running (walked-divided running so_far) in
        none_left unsent m s.earliest_start so_far.in_time (omega arith)

    walks-late : s.earliest_start ≤ d.start → WalkedThen (Byte b) s [] (Some d)
    walks-late late =
        let P : List ℕ → Type 0 = λ l. WalkedThen (Byte b) s (drop 1 l) (Some d) in
        subst P (byte-none_left late) walks-byte

    late-answers : (t : Tick) → s.earliest_start ≤ d.start
        → tick_at (emission_by profile rules d (judgement_now d)) m ≡ t
        → SealerAnswersTick profile rules floor line (Byte b) (noteless t)
    late-answers t late is =
        byte-answers t
        (ap (λ l. or_else (sent_at m l m)
        (tick_at (emission_by profile rules d (judgement_now d)) m)) (byte-none_left late)
        ∙ is)

    pub walks-live : s.earliest_start ≤ d.start → live_end rules d ≡ m + 1
        → (unsent ≡ []) × WalkedThen (Byte b) s [] (Some d)
        × SealerAnswersTick profile rules floor line (Byte b) (noteless (Byte b))
    walks-live late live =
        let end = ends in
        let begun : d.start ≤ m = byte-begun line closed b running
        (walked-divided running so_far) in
        let before : m < end_of d + 3 = omega arith in
        let all : length (live_ticks rules d) ≡ length d.body = omega arith in (
          byte-none_left late,
          walks-late late,
          late-answers (Byte b) late
              (emission-live d m whole late begun before
              ∙ (ap (λ x. get_or x (m - d.start) Silent)
              (up_to_byte-full (length (live_bytes rules d)) d.body all)
              ∙ byte-last line closed b running (walked-divided running so_far))),
        )

    pub walks-extra : s.earliest_start ≤ d.start → live_end rules d ≤ m
        → (unsent ≡ []) × WalkedThen (Byte b) s [] (Some d)
        × SealerAnswersTick profile rules floor line (Byte b) (noteless Silent)
    walks-extra late extra =
        let end = ends in
        let begun : d.start ≤ m = byte-begun line closed b running
        (walked-divided running so_far) in
        let before : m < end_of d + 3 = omega arith in (
          byte-none_left late,
          walks-late late,
          late-answers Silent late (emission-past d m whole begun extra before),
        )

  -- ---- the last number

  -- The floor of the state is the last number used.
  pub walked-number : (running : Option Burst) → Walked running
      → s.floor ≡ last_number floor (sealed profile rules floor line)
  walked-number running so_far =
      let come = so_far.come in
      let notes : seal_notes profile rules floor line
      ≡ walked walker (at_floor floor) come.settled =
      notes_before-come walker (at_floor floor) m (bursts line) s so_far.emissions running come in
      ap (λ x. x.floor) (sym come.state)
      ∙ (noted-number profile rules (at_floor floor) come.settled
      ∙ ap (λ x. last_number floor (filter_map (λ n. sealed_in n.note) x)) (sym notes))

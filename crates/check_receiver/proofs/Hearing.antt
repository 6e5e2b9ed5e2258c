-- A byte that isn't live comes, of the burst whose verdict is open.
use Rattle.frame_ending.proofs.Coming.{notes-step, note-now}
use Rattle.frame_ending.specs.{Causal.going_on, Walk.Noted, declared.box_step.BoxStep.BoxStep}
use Rattle.check_receiver.proofs.Machine.{waiting-some, ring-waits, assembled}
use Rattle.check_receiver.proofs.OpenBursts.{open-walks, Moved, moved}
use Rattle.check_receiver.{proofs.Settled.open-stays, specs.Phases.is_open, specs.Phases.passes_in}
use Rattle.check_receiver.specs.declared.phase.Phase.TheVariants.{Leaving}
use Rattle.check_receiver.specs.{Arrivals.bytes_come, Between.CheckerIsBetween, Between.BurstIsWhole}
use Rattle.check_receiver.specs.Checkings.{PassesWith}
use Rattle.check_receiver.specs.Stands.{MacHolds, CheckerWalks, CheckerHasTaken}
use Rattle.check_receiver.specs.Turning.{Turned, TurnedRefused, refused as refused_with}
use Rattle.check_receiver.specs.declared.{arriving.Arriving.Arriving, checker.Checker.Checker}
use Rattle.yasir_ticks.specs.DelayRing.{ring_ticks}
use Rattle.frame_ending.proofs.{Dividing.longer-line, Running.extra-tick}
use Rattle.frame_ending.specs.{Cuts.cut_of, LiveBytes.live_bytes, LiveBytes.live_end}
use Rattle.frame_ending.specs.SoFar.{last_burst, live_bytes_in, live_bytes_so_far, start_in}
use Rattle.frame_ending.specs.{SoFar.start_so_far, Stands.CutStandsFor}
use Rattle.frame_ending.specs.{Stands.ticks_taken as ticks_cut, declared.cut.Cut.TheVariants.Extra}
use Rattle.link_format.specs.{Tag.direction_number, declared.tag.Mac.Ghosts as Mac}
use Rattle.line_rules.specs.Rules.{Rules, lacking_of}
use Rattle.line_rules.specs.declared.line_rules.LineRules.{Ghosts as LineRules}
use Rattle.link_format.specs.Profile.{Profile, profile_of, IsWordLen, delay, pause_len, trailer_len}
use Rattle.{link_format.specs.Setup.Setup, link_box.proofs.Opened.IsOpen}
use Rattle.link_box.proofs.Opened.{opens-of, may-of, long-of, more-of, unowed-of, bytes-of}
use Rattle.link_box.proofs.Opened.{bytes-next, trailer-long as grown, goes-as, joined}
use Rattle.link_box.proofs.Opened.{joined-last, extra-end, extra-bytes, extra-adds, extra-goes}
use Rattle.link_box.proofs.Opened.{extra-breaks, whole-checked, whole-tick, whole-refuses}
use Rattle.link_box.proofs.{Opened.whole-passes, Opening.length-silent, Resting.causal}
use Rattle.link_box.{proofs.Settling.after-long, specs.Checking.FullNote}
use Rattle.link_box.specs.Checking.{checker, at_floor, check_notes, note_by, note_tick}
use Rattle.link_box.specs.{Checking.FullNote.passed_note, Emissions.owed, Going.Goes}
use Rattle.link_box.specs.{Holding.trailer_so_far, Verdicts.CheckState, Verdicts.after_live}
use Rattle.link_box.specs.Verdicts.{checked, trailer_of, whole_verdict, Verdict.passed_with}
use Rattle.link_box.specs.Verdicts.Verdict.{refused}
use Rattle.link_box.specs.declared.check_note.CheckNote.{CheckNote}
use Rattle.link_box.specs.declared.check_note.CheckNote.TheVariants.{Passed, Refused}
use Rattle.link_box.specs.declared.check_note.RefusedWhy.{RefusedWhy}
use Rattle.link_box.specs.declared.check_note.RefusedWhy.TheVariants.{Trailer}
use Rattle.sequence_journal.specs.declared.numbers.TheConstants.{LIMIT}
use Rattle.line_rules.{proofs.Standing.stands-unowed, specs.Outlet.OutletRefuses, specs.Outlet.owed_by}
use Rattle.std.proofs.Common.{◌≡◌, ◌∙◌, ℕ, ◌+◌, ◌-◌, ◌<◌, ◌≤◌, ◌==◌, Bool, true, false, List, []}
use Rattle.std.proofs.Common.{◌∷◌, ◌++◌, length, length-append, take, drop, get_or, refl, sym, ap}
use Rattle.std.proofs.Common.{subst, arith, Option, Some, None, IfSome}
use Rattle.std.proofs.lemmas.{Bool.ne_eqb, List.length-drop, List.take_all}
use Rattle.yasir_ticks.specs.{Bursts.Burst, Bursts.end_of, Ticks.silent, Ticks.bytes_in}
use Rattle.yasir_ticks.specs.declared.tick.Tick.{Tick, TheVariants.Silent, TheVariants.Byte}

-- ---- what is known when the byte comes

-- Holds if the byte `b`, which isn't live, has come after `line` while the verdict on its burst is
-- open. The value that cuts the link has taken it, the MAC and the bytes kept of the trailer may
-- have gone on, and everything else is as it was before the byte.
pub record Hears {R M : Type 0} (proto : LineRules R) (macs : Mac M) {B D : ℕ}
    (old : Checker R M B D) (last : ℕ) (setup : Setup) (line : List Tick) (t : Tick) (b : ℕ) :
    Type 0 where
  pub word_is : IsWordLen B
  pub wide : 2 ≤ B
  pub delay_is : D ≡ 4 + B + macs.TAG
  pub direction_is : direction_number old.direction ≡ setup.direction
  pub cuts : CutStandsFor proto old.cut (line ++ t ∷ [])
  pub is_cut : cut_of proto.rules line t ≡ Extra b
  pub before : ℕ
  pub one_less : old.until ≡ before - 1
  pub mac : M
  pub arriving : Arriving B
  pub walks : CheckerWalks proto macs B D last old.earliest_start true (passes_in old.phase) mac arriving
      old.ring before old.outlet setup line
  pub mac_stands : (text : List ℕ) × macs.stands old.mac setup.key text
  pub burst : Burst
  pub waits_is : walks.waiting ≡ Some burst

module _ {R M : Type 0} (proto : LineRules R) (macs : Mac M) {B D : ℕ} (old : Checker R M B D)
    (last : ℕ) (setup : Setup) (line : List Tick) (t : Tick) where
  abbrev pub hears-between : (b : ℕ)
      → (between : CheckerIsBetween proto macs old last setup line t (Extra b)) → is_open old.phase ≡ true
      → (arriving : Arriving B) (mac : M)
      → ((text : List ℕ) × macs.stands mac setup.key text)
      → Hears proto macs (record old { arriving = arriving; mac = mac }) last setup line t b
  hears-between b between waits arriving mac mac_stands =
      let W : Bool → Type 0 = λ w. CheckerWalks proto macs B D last old.earliest_start w
      (passes_in old.phase) old.mac old.arriving old.ring between.before old.outlet setup line in
      let walks : W true = subst W waits between.walks in
      let d = waiting-some walks.waiting (sym walks.waits_is) in
      record {
        word_is = between.word_is;
        wide = between.wide;
        delay_is = between.delay_is;
        direction_is = between.direction_is;
        cuts = between.cuts;
        is_cut = between.is_cut;
        before = between.before;
        one_less = between.one_less;
        mac = old.mac;
        arriving = old.arriving;
        walks = walks;
        mac_stands = mac_stands;
        burst = d.0;
        waits_is = d.1;
      }

  pub hears-whole : (whole : BurstIsWhole proto macs old last setup line t)
      → Hears proto macs old last setup line t whole.byte
  hears-whole whole =
      let d = waiting-some whole.walks.waiting (sym whole.walks.waits_is) in
      record {
        word_is = whole.word_is;
        wide = whole.wide;
        delay_is = whole.delay_is;
        direction_is = whole.direction_is;
        cuts = whole.cuts;
        is_cut = whole.is_cut;
        before = whole.before;
        one_less = whole.one_less;
        mac = whole.mac;
        arriving = whole.arriving;
        walks = whole.walks;
        mac_stands = (whole.key_text, whole.mac_is);
        burst = d.0;
        waits_is = d.1;
      }

module _ {R M : Type 0} (proto : LineRules R) (macs : Mac M) {B D : ℕ} (old : Checker R M B D)
    (last : ℕ) (setup : Setup) (line : List Tick) (t : Tick) (b : ℕ)
    (hears : Hears proto macs old last setup line t b) where
  abbrev rules : Rules
  rules = proto.rules

  abbrev profile : Profile
  profile = profile_of proto macs B LIMIT setup

  abbrev m : ℕ
  m = length line

  abbrev state : CheckState
  state = record { floor = last; earliest_start = old.earliest_start }

  abbrev d : Burst
  d = hears.burst

  abbrev e : Burst
  e = going_on d m b

  abbrev left : List ℕ
  left = hears.walks.left

  abbrev live : List Tick
  live = hears.walks.live

  it : IsOpen proto profile setup.floor state line (passes_in old.phase) left live
      (owed_by old.outlet) d
  it = open-walks hears.walks hears.wide d hears.waits_is

  is-byte : t ≡ Byte b
  is-byte = extra-tick rules line t b hears.is_cut

  is-extra : cut_of rules line (Byte b) ≡ Extra b
  is-extra =
      let C : Tick → Type 0 = λ u. cut_of rules line u ≡ Extra b in
      subst C is-byte hears.is_cut

  pub next-last : last_burst (line ++ t ∷ []) ≡ Some e
  next-last =
      let L : Tick → Type 0 = λ u. last_burst (line ++ u ∷ []) ≡ Some e in
      subst L (sym is-byte) (joined-last it b)

  -- how many live ticks haven't left yet
  pub still-long : length live + m ≡ live_end rules d + D
  still-long = let sum = long-of it in let delay_is = hears.delay_is in omega arith

  pub until-long : old.until + 1 + m ≡ live_end rules d + D
  until-long =
      let long = still-long in
      let one = hears.one_less in
      let is = hears.walks.until_is in
      let near = (opens-of it).near in
      let delay_is = hears.delay_is in
      omega arith

  pub until-some : 1 ≤ old.until
  until-some =
      let long = until-long in
      let near = (opens-of it).near in
      let delay_is = hears.delay_is in
      omega arith

  another : (old.until == 0) ≡ false
  another =
      let many = more-of it in
      let one = hears.one_less in
      let is = hears.walks.until_is in
      ne_eqb old.until 0 (λ zero'. omega arith)

  turn : (base new : Checker R M B D) (answer : Tick) → Turned proto base new Silent answer
      → owed_by base.outlet ≡ owed_by old.outlet → base.ring ≡ old.ring → base.until ≡ old.until
      → Moved proto left live base.outlet new.outlet answer
  turn base new answer turned owes ring until =
      let none : owed_by base.outlet ≡ 0 = owes ∙ unowed-of it in
      let U : ℕ → Type 0 = λ n. (n == 0) ≡ false in
      moved proto base new Silent answer turned left live
      (stands-unowed proto base.outlet left none)
      (ap (λ x. ring_ticks x) ring ∙ hears.walks.ring_is)
      none (subst U (sym until) another) (more-of it)

  -- the bytes that have left after this step
  abbrev after : List ℕ
  after = left ++ bytes_in (take 1 live)

  -- ---- the trailer so far

  after-next : live_end rules e + length (after_live rules e) ≡ m + 1
  after-next =
      let size = after-long rules e in
      let body = length-append d.body (silent (m - end_of d) ++ Byte b ∷ []) in
      let tail = length-silent (m - end_of d) (Byte b ∷ []) in
      let ends = (may-of it).after in
      omega arith

  -- As many bytes of the trailer have come as ticks after the pause.
  pub trailer-long : length (trailer_so_far rules d) ≡ m - (live_end rules d + pause_len)
  trailer-long = grown it

  module _ (behind : live_end rules d + pause_len ≤ m) where
    pub trailer-next : trailer_so_far rules e ≡ trailer_so_far rules d ++ b ∷ []
    trailer-next = extra-adds it b is-extra behind

    -- ---- the MAC and the kept bytes

    pub mac_holds : MacHolds proto macs setup hears.mac hears.arriving d
    mac_holds =
        let C : Option Burst → Type 0 = λ o. IfSome o
        (λ x. MacHolds proto macs setup hears.mac hears.arriving x) in
        subst C hears.waits_is hears.walks.mac_holds

    pub next-mac_holds : (arriving : Arriving B)
        → bytes_come arriving ≡ bytes_come hears.arriving ++ b ∷ []
        → MacHolds proto macs setup hears.mac arriving e
    next-mac_holds arriving more =
        let C : List ℕ → Type 0 = λ x. macs.stands hears.mac setup.key
        (rules.label ∷ setup.direction ∷ x) in
        record {
          mac_is = subst C (sym (extra-bytes it b is-extra)) mac_holds.mac_is;
          come = more ∙ (ap (λ x. x ++ b ∷ []) mac_holds.come ∙ sym trailer-next);
        }

  -- ---- the receiver has taken it

  -- If the byte is one of the trailer, and not its last one, the receiver takes it.
  pub trailer-taken : (new : Checker R M B D) (step : BoxStep CheckNote)
      → Turned proto old new Silent step.tick → step.note ≡ None → is_open old.phase ≡ true
      → live_end rules d + pause_len ≤ m → m + 2 < live_end rules d + D
      → MacHolds proto macs setup old.mac old.arriving e
      → CheckerHasTaken proto macs new last setup line t step
  trailer-taken new step turned noted waits behind before mac_holds' =
      let turn' = turn old new step.tick turned refl refl refl in
      let delay_is = hears.delay_is in
      let less = length-drop 1 live in
      let long = until-long in
      let whole = still-long in
      let few = hears.walks.few in
      assembled proto macs setup line t old new Silent step turned hears.word_is hears.wide
      hears.delay_is hears.direction_is hears.cuts last after (drop 1 live) (Some e) None
      (goes-as t step.tick (passes_in old.phase) (owed_by new.outlet) old.earliest_start
      (extra-goes it b is-extra behind (omega arith)) is-byte turn'.answer_is it.walked.opens.1
      turn'.unowed refl)
      noted turn'.stands
      (ring-waits proto macs old new step.tick turned live hears.walks.ring_is (omega arith)
      hears.walks.few)
      (omega arith) (omega arith) waits hears.mac_stands mac_holds' tt
      (open-stays old.phase old.until (owed_by new.outlet) waits)

  -- ---- the burst is refused

  module _ (new : Checker R M B D) (step : BoxStep CheckNote)
      (refuses : TurnedRefused proto old new step.tick)
      (earliest : new.earliest_start ≡ length (line ++ t ∷ []) + old.until
      + lacking_of rules (live_bytes_so_far rules (line ++ t ∷ [])))
      (why : RefusedWhy)
      (noted : step.note ≡ Some (Refused (start_so_far (line ++ t ∷ [])) why)) where
    refused-taken : Goes profile rules setup.floor line (Byte b)
        (record {
          floor = last;
          earliest_start = live_end rules e + delay profile + owed rules e;
        })
        false after (drop 1 live) 0 None (get_or live 0 Silent) (Some (Refused e.start why))
        → CheckerHasTaken proto macs new last setup line t step
    refused-taken goes =
        let base : Checker R M B D = refused_with old refuses.outlet new.earliest_start in
        let turned = refuses.turned in
        let turn' = turn base new step.tick turned refuses.owed refl refl in
        let lacks = ap (λ o. lacking_of rules (live_bytes_in rules o)) next-last in
        let line_long = longer-line line t in
        let long = until-long in
        let end = extra-end it b is-extra in
        let delay_is = hears.delay_is in
        let same : new.earliest_start ≡ live_end rules e + delay profile + owed rules e =
        omega arith in
        let less = length-drop 1 live in
        let whole = still-long in
        let few = hears.walks.few in
        assembled proto macs setup line t base new Silent step turned hears.word_is hears.wide
        hears.delay_is hears.direction_is hears.cuts last after (drop 1 live) None
        (Some (Refused e.start why))
        (goes-as t step.tick false (owed_by new.outlet) new.earliest_start goes is-byte
        turn'.answer_is refl turn'.unowed same)
        (noted ∙ ap (λ o. Some (Refused (start_in o) why)) next-last) turn'.stands
        (ring-waits proto macs base new step.tick turned live hears.walks.ring_is (omega arith)
        hears.walks.few)
        (omega arith) (omega arith) refl hears.mac_stands tt
        (λ stays some. subst (λ v. proto.stands v (after ++ bytes_in (drop 1 live)))
        (sym turn'.keeps)
        (subst (λ x. OutletRefuses proto refuses.outlet x)
        (ap (λ o. live_bytes_in rules o) next-last
        ∙ (extra-bytes it b is-extra ∙ sym (bytes-next it ∙ bytes-of it)))
        (refuses.knows (line ++ t ∷ []) hears.cuts))) tt

    -- It is refused because the byte comes inside the pause.
    pub break-taken : why ≡ Trailer → m < live_end rules d + pause_len
        → CheckerHasTaken proto macs new last setup line t step
    break-taken is few =
        let G : RefusedWhy → Type 0 = λ w. Goes profile rules setup.floor line (Byte b)
        (record {
          floor = last;
          earliest_start = live_end rules e + delay profile + owed rules e;
        })
        false after (drop 1 live) 0 None (get_or live 0 Silent) (Some (Refused e.start w)) in
        refused-taken (subst G (sym is) (extra-breaks it b is-extra few))

    -- It is refused by its whole trailer.
    pub refuse-taken : old.until ≡ 1
        → whole_verdict profile rules last (live_bytes rules e) (trailer_of profile rules e)
        ≡ refused why
        → CheckerHasTaken proto macs new last setup line t step
    refuse-taken last_place verdict =
        let long = until-long in
        let delay_is = hears.delay_is in
        refused-taken (whole-refuses it b is-extra (omega arith) why verdict)

  -- ---- the trailer is whole

  module _ (last_place : old.until ≡ 1) where
    final : m + 2 ≡ live_end rules d + delay profile
    final = let long = until-long in let delay_is = hears.delay_is in omega arith

    behind-pause : live_end rules d + pause_len ≤ m
    behind-pause = let end = final in let wide = hears.wide in omega arith

    pub whole-long : length (trailer_so_far rules e) ≡ B + macs.TAG
    whole-long =
        let end = final in
        let more' = ap length (trailer-next behind-pause) in
        let long = trailer-long in
        let grows = length-append (trailer_so_far rules d) (b ∷ []) in
        let wide = hears.wide in
        omega arith

    pub whole-trailer : trailer_of profile rules e ≡ trailer_so_far rules e
    whole-trailer =
        let end = final in
        let same = extra-end it b is-extra in
        let size = after-next in
        let rest = length-drop pause_len (after_live rules e) in
        ap (λ x. bytes_in x)
        (take_all (trailer_len profile) (drop pause_len (after_live rules e)) (omega arith))

    module _ (number : ℕ) (verdict : whole_verdict profile rules last (live_bytes rules e)
        (trailer_of profile rules e) ≡ passed_with number) where
      passes-checked : checked profile rules state e ≡ passed_with number
      passes-checked = whole-checked it b is-extra final ∙ verdict

      passes-now : (checker profile rules).tick state e ≡ m
      passes-now = ap (λ v. note_tick profile rules e v) passes-checked
          ∙ whole-tick it b is-extra final

      -- By the definitions, the burst passes with this number.
      pub passes-with : PassesWith profile rules setup.floor line t number
      passes-with =
          let N : Tick → Type 0 = λ u. check_notes profile rules setup.floor (line ++ u ∷ [])
          ≡ check_notes profile rules setup.floor line
          ++ record { tick = m; note = passed_note number e.start (live_bytes rules e) } ∷ [] in
          record {
            start = e.start;
            frame = live_bytes rules e;
            note = subst N (sym is-byte)
                (notes-step (checker profile rules)
                (causal proto profile it.timely setup.floor line Silent) (at_floor setup.floor) line
                state it.walked.emissions (Byte b) (Some e) (joined it b)
                ∙ ap (λ x. check_notes profile rules setup.floor line ++ x)
                (note-now (checker profile rules) state m e passes-now
                ∙ ap (λ v. let n : Noted FullNote = record { tick = m; note = note_by rules e v } in
                n ∷ []) passes-checked));
          }

      -- The receiver passes the burst.
      pub pass-taken : (new : Checker R M B D) (step : BoxStep CheckNote)
          → Turned proto (record old {
            phase = Leaving true;
            earliest_start = new.earliest_start;
          }) new Silent step.tick
          → new.earliest_start ≡ ticks_cut old.cut + old.until
          → step.note ≡ Some (Passed number (start_so_far (line ++ t ∷ []))
          (length (live_bytes_so_far rules (line ++ t ∷ []))))
          → CheckerHasTaken proto macs new number setup line t step
      pass-taken new step turned earliest noted =
          let base : Checker R M B D = record old {
            phase = Leaving true;
            earliest_start = new.earliest_start;
          } in
          let turn' = turn base new step.tick turned refl refl refl in
          let count = hears.cuts.count in
          let line_long = longer-line line t in
          let long = until-long in
          let end = extra-end it b is-extra in
          let delay_is = hears.delay_is in
          let same : new.earliest_start ≡ live_end rules e + delay profile = omega arith in
          let told : Option CheckNote = Some (Passed number e.start (length (live_bytes rules e)))
          in
          let less = length-drop 1 live in
          let whole = still-long in
          let few = hears.walks.few in
          assembled proto macs setup line t base new Silent step turned hears.word_is hears.wide
          hears.delay_is hears.direction_is hears.cuts number after (drop 1 live) None told
          (goes-as t step.tick true (owed_by new.outlet) new.earliest_start
          (whole-passes it b is-extra final number verdict) is-byte turn'.answer_is refl
          turn'.unowed same)
          (noted ∙ ap (λ o. Some (Passed number (start_in o) (length (live_bytes_in rules o))))
          next-last)
          turn'.stands
          (ring-waits proto macs base new step.tick turned live hears.walks.ring_is (omega arith)
          hears.walks.few)
          (omega arith) (omega arith) refl hears.mac_stands tt (λ stays some. absurd cc) tt

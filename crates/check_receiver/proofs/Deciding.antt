-- The verdict on a burst with a whole trailer.
use Rattle.frame_ending.specs.{Causal.going_on, declared.box_step.BoxStep.BoxStep}
use Rattle.check_receiver.proofs.Hearing.{Hears, hears-whole, next-last, whole-long, whole-trailer}
use Rattle.check_receiver.proofs.Hearing.{refuse-taken, pass-taken, passes-with}
use Rattle.check_receiver.specs.{Between.BurstIsWhole, Between.verdict_told, Checkings.PassesWith}
use Rattle.check_receiver.specs.{Stands.MacHolds, Stands.CheckerHasTaken, Turning.Turned}
use Rattle.check_receiver.specs.{Turning.TurnedRefused, declared.checker.Checker.Checker}
use Rattle.check_receiver.specs.declared.phase.Phase.TheVariants.{Leaving}
use Rattle.frame_ending.specs.LiveBytes.{live_bytes}
use Rattle.frame_ending.specs.SoFar.{last_burst, live_bytes_so_far, start_so_far}
use Rattle.frame_ending.specs.Stands.{CutStandsFor, ticks_taken as ticks_cut}
use Rattle.{link_format.specs.declared.tag.Mac.Ghosts as Mac, line_rules.specs.Rules.Rules}
use Rattle.line_rules.specs.{Rules.lacking_of, declared.line_rules.LineRules.Ghosts as LineRules}
use Rattle.link_format.specs.{Profile.Profile, Profile.profile_of, Setup.Setup}
use Rattle.link_box.specs.{Holding.trailer_so_far, Verdicts.trailer_of, Verdicts.whole_verdict}
use Rattle.link_box.specs.declared.check_note.CheckNote.{CheckNote}
use Rattle.link_box.specs.declared.check_note.CheckNote.TheVariants.{Passed}
use Rattle.link_box.specs.declared.check_note.CheckNote.TheVariants.{Refused}
use Rattle.link_box.specs.declared.check_note.RefusedWhy.{RefusedWhy}
use Rattle.sequence_journal.specs.declared.numbers.TheConstants.{LIMIT}
use Rattle.std.proofs.Common.{◌≡◌, ◌∙◌, ℕ, ◌+◌, ◌≤◌, List, [], ◌∷◌, ◌++◌, length, sym, ap, subst}
use Rattle.std.proofs.Common.{Some, Result, Ok, Err, true}
use Rattle.yasir_ticks.specs.{Bursts.Burst, declared.TheConstants.MAX_TICKS}
use Rattle.yasir_ticks.specs.declared.tick.Tick.{Tick, TheVariants.Silent}

-- Holds if `result` is the verdict on the last burst, whichever burst with a whole trailer it is
-- that the receiver represents.
abbrev pub Judges : {R M : Type 0} → LineRules R → Mac M → {B D : ℕ} → Checker R M B D → ℕ
    → Result ℕ RefusedWhy → Type 0
Judges proto macs {B = B} old last result = (setup : Setup) (line : List Tick) (d : Burst)
    → CutStandsFor proto old.cut line → last_burst line ≡ Some d
    → MacHolds proto macs setup old.mac old.arriving d
    → length (trailer_so_far proto.rules d) ≡ B + macs.TAG
    → verdict_told result ≡ whole_verdict (profile_of proto macs B LIMIT setup) proto.rules last
    (live_bytes proto.rules d) (trailer_so_far proto.rules d)

pub room-kept : {R M : Type 0} {B D : ℕ} (old told : Checker R M B D)
    → told ≡ record old { mac = told.mac } → ticks_cut old.cut ≤ MAX_TICKS
    → ticks_cut told.cut ≤ MAX_TICKS
room-kept {R = R} {M = M} {B = B} {D = D} old told rest room =
    let P : Checker R M B D → Type 0 = λ v. ticks_cut v.cut ≤ MAX_TICKS in
    subst P (sym rest) room

module _ {R M : Type 0} (proto : LineRules R) (macs : Mac M) {B D : ℕ} (old : Checker R M B D)
    (last : ℕ) (setup : Setup) (line : List Tick) (t : Tick)
    (whole : BurstIsWhole proto macs old last setup line t) (told : Checker R M B D)
    (rest : told ≡ record old { mac = told.mac })
    (mac_stands : (text : List ℕ) × macs.stands told.mac setup.key text) where
  abbrev rules : Rules
  rules = proto.rules

  abbrev profile : Profile
  profile = profile_of proto macs B LIMIT setup

  abbrev hears : Hears proto macs old last setup line t whole.byte
  hears = hears-whole proto macs old last setup line t whole

  abbrev e : Burst
  e = going_on hears.burst (length line) whole.byte

  -- the receiver after the verdict is found, for which the MAC has gone on
  abbrev after : Checker R M B D
  after = record old { mac = told.mac }

  abbrev hears-after : Hears proto macs after last setup line t whole.byte
  hears-after = record {
    word_is = hears.word_is;
    wide = hears.wide;
    delay_is = hears.delay_is;
    direction_is = hears.direction_is;
    cuts = hears.cuts;
    is_cut = hears.is_cut;
    before = hears.before;
    one_less = hears.one_less;
    mac = hears.mac;
    arriving = hears.arriving;
    walks = hears.walks;
    mac_stands = mac_stands;
    burst = hears.burst;
    waits_is = hears.waits_is;
  }

  judged : (result : Result ℕ RefusedWhy) → Judges proto macs old last result
      → whole_verdict profile rules last (live_bytes rules e) (trailer_of profile rules e)
      ≡ verdict_told result
  judged result judges =
      let is = next-last proto macs old last setup line t whole.byte hears in
      ap (λ x. whole_verdict profile rules last (live_bytes rules e) x)
      (whole-trailer proto macs old last setup line t whole.byte hears whole.last_place)
      ∙ sym (judges setup (line ++ t ∷ []) e whole.cuts is (whole.mac_holds e is)
      (whole-long proto macs old last setup line t whole.byte hears whole.last_place))

  pub decide-refuses : (why : RefusedWhy) → Judges proto macs old last (Err why)
      → (new : Checker R M B D) (step : BoxStep CheckNote)
      → TurnedRefused proto told new step.tick
      → ((link : List Tick) → CutStandsFor proto told.cut link
      → new.earliest_start ≡ length link + told.until
      + lacking_of rules (live_bytes_so_far rules link))
      → ((link : List Tick) → CutStandsFor proto told.cut link
      → step.note ≡ Some (Refused (start_so_far link) why))
      → CheckerHasTaken proto macs new last setup line t step
  decide-refuses why judges new step turned earliest noted =
      let link : List Tick = line ++ t ∷ [] in
      let T : Checker R M B D → Type 0 = λ v. TurnedRefused proto v new step.tick in
      let E : Checker R M B D → Type 0 = λ v. CutStandsFor proto v.cut link
      → new.earliest_start ≡ length link + v.until + lacking_of rules (live_bytes_so_far rules link) in
      let N : Checker R M B D → Type 0 = λ v. CutStandsFor proto v.cut link
      → step.note ≡ Some (Refused (start_so_far link) why) in
      refuse-taken proto macs after last setup line t whole.byte hears-after new step
      (subst T rest turned) (subst E rest (earliest link) whole.cuts) why
      (subst N rest (noted link) whole.cuts) whole.last_place (judged (Err why) judges)

  pub decide-passes : (number : ℕ) → Judges proto macs old last (Ok number)
      → (new : Checker R M B D) (step : BoxStep CheckNote)
      → Turned proto (record told {
        phase = Leaving true;
        earliest_start = new.earliest_start;
      }) new Silent step.tick
      → new.earliest_start ≡ ticks_cut told.cut + told.until
      → ((link : List Tick) → CutStandsFor proto told.cut link
      → step.note ≡ Some (Passed number (start_so_far link)
      (length (live_bytes_so_far rules link))))
      → CheckerHasTaken proto macs new number setup line t step
  decide-passes number judges new step turned earliest noted =
      let link : List Tick = line ++ t ∷ [] in
      let T : Checker R M B D → Type 0 = λ v. Turned proto (record v {
        phase = Leaving true;
        earliest_start = new.earliest_start;
      }) new Silent step.tick in
      let E : Checker R M B D → Type 0 = λ v. new.earliest_start ≡ ticks_cut v.cut + v.until in
      let N : Checker R M B D → Type 0 = λ v. CutStandsFor proto v.cut link
      → step.note ≡ Some (Passed number (start_so_far link)
      (length (live_bytes_so_far rules link))) in
      pass-taken proto macs after last setup line t whole.byte hears-after whole.last_place number
      (judged (Ok number) judges) new step (subst T rest turned) (subst E rest earliest)
      (subst N rest (noted link) whole.cuts)

  -- If the number can't be committed, the burst would have passed.
  pub decide-fails : (number : ℕ) → Judges proto macs old last (Ok number)
      → PassesWith profile rules setup.floor line t number
  decide-fails number judges =
      passes-with proto macs old last setup line t whole.byte hears whole.last_place number
      (judged (Ok number) judges)

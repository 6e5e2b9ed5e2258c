-- A byte of a trailer comes, and is kept.
use Rattle.frame_ending.specs.{Causal.going_on, declared.box_step.BoxStep.BoxStep}
use Rattle.check_receiver.proofs.Hearing.{Hears, hears-between, next-last, until-long, until-some}
use Rattle.check_receiver.proofs.Hearing.{mac_holds, next-mac_holds, trailer-long, trailer-taken}
use Rattle.check_receiver.specs.{Arrivals.bytes_come, Between.CheckerIsBetween, Between.BurstIsWhole}
use Rattle.check_receiver.specs.{Phases.is_open, Stands.MacHolds, Stands.CheckerHasTaken, Turning.Turned}
use Rattle.check_receiver.specs.declared.{arriving.Arriving.Arriving, checker.Checker.Checker}
use Rattle.frame_ending.specs.{LiveBytes.live_end, declared.cut.Cut.TheVariants.Extra}
use Rattle.link_format.specs.declared.tag.Mac.{Ghosts as Mac}
use Rattle.line_rules.specs.{Rules.Rules, declared.line_rules.LineRules.Ghosts as LineRules}
use Rattle.link_format.specs.{Profile.pause_len, Setup.Setup}
use Rattle.link_box.specs.declared.check_note.CheckNote.{CheckNote}
use Rattle.std.proofs.Common.{◌≡◌}
use Rattle.std.proofs.Common.{ℕ, ◌+◌, ◌<◌, ◌≤◌, true, List, [], ◌∷◌, ◌++◌, length, ap, subst, arith}
use Rattle.{std.proofs.Common.None, std.proofs.Common.⊎_elim, yasir_ticks.specs.Bursts.Burst}
use Rattle.yasir_ticks.specs.declared.tick.Tick.{Tick, TheVariants.Silent}

module _ {R M : Type 0} (proto : LineRules R) (macs : Mac M) {B D : ℕ} (old : Checker R M B D)
    (last : ℕ) (setup : Setup) (line : List Tick) (t : Tick) (b : ℕ)
    (between : CheckerIsBetween proto macs old last setup line t (Extra b))
    (waits : is_open old.phase ≡ true)
    (behind : old.until + pause_len < D) (arriving : Arriving B)
    (takes : length (bytes_come old.arriving) < 20
    → bytes_come arriving ≡ bytes_come old.arriving ++ b ∷ []) where
  abbrev rules : Rules
  rules = proto.rules

  -- what is known before the byte is kept
  abbrev hears : Hears proto macs old last setup line t b
  hears = hears-between proto macs old last setup line t b between waits old.arriving old.mac
      between.walks.mac_stands

  abbrev after : Checker R M B D
  after = record old { arriving = arriving }

  abbrev d : Burst
  d = hears.burst

  abbrev e : Burst
  e = going_on d (length line) b

  long : old.until + 1 + length line ≡ live_end rules d + D
  long = until-long proto macs old last setup line t b hears

  behind-pause : live_end rules d + pause_len ≤ length line
  behind-pause = let all = long in omega arith

  -- There is room for the byte.
  few-come : length (bytes_come old.arriving) < 20
  few-come =
      let before = mac_holds proto macs old last setup line t b hears behind-pause in
      let come = ap length before.come in
      let size = trailer-long proto macs old last setup line t b hears in
      let all = long in
      let some = until-some proto macs old last setup line t b hears in
      let delay_is = between.delay_is in
      let short = between.word_is.1 in
      ⊎_elim (λ twelve. omega arith) (λ sixteen. omega arith) macs.tag_size

  mac_is : MacHolds proto macs setup old.mac arriving e
  mac_is = next-mac_holds proto macs old last setup line t b hears behind-pause arriving (takes few-come)

  abbrev hears-after : Hears proto macs after last setup line t b
  hears-after = hears-between proto macs old last setup line t b between waits arriving old.mac
      between.walks.mac_stands

  -- If more bytes of the trailer must come, the receiver has taken this one.
  pub more-taken : 1 < old.until → (new : Checker R M B D) (step : BoxStep CheckNote)
      → Turned proto after new Silent step.tick → step.note ≡ None
      → CheckerHasTaken proto macs new last setup line t step
  more-taken more new step turned noted =
      let all = long in
      trailer-taken proto macs after last setup line t b hears-after new step turned noted waits
      behind-pause (omega arith) mac_is

  -- If the byte was the last one of the trailer, the trailer is whole.
  pub whole-taken : old.until ≤ 1 → BurstIsWhole proto macs after last setup line t
  whole-taken few =
      let some = until-some proto macs old last setup line t b hears in
      let is = next-last proto macs old last setup line t b hears in
      let A : Burst → Type 0 = λ x. MacHolds proto macs setup old.mac arriving x in
      record {
        word_is = between.word_is;
        wide = between.wide;
        delay_is = between.delay_is;
        direction_is = between.direction_is;
        cuts = between.cuts;
        byte = b;
        is_cut = between.is_cut;
        mac = old.mac;
        arriving = old.arriving;
        before = between.before;
        one_less = between.one_less;
        last_place = omega arith;
        walks = hears.walks;
        key_text = between.walks.mac_stands.0;
        mac_is = between.walks.mac_stands.1;
        mac_holds = λ x last_is. let same : e ≡ x = cc in subst A same mac_is;
      }

-- A Modbus RTU device behind the receiver reads only what passed.
use Rattle.frame_ending.{proofs.Spread.bursts-spread, specs.Walk.emitted_by}
use Rattle.device_model.specs.RtuReads.{is_frame_body, frames_read}
use Rattle.frame_ending.proofs.LiveTicks.{live_ticks-bytes, live_ticks-contiguous}
use Rattle.frame_ending.specs.LiveBytes.{live_ticks}
use Rattle.link_format.specs.Profile.{Profile, delay}
use Rattle.link_box.proofs.{Apart.emissions-spread, Passing.passed-passing}
use Rattle.link_box.proofs.Spoiled.{spoiled-contiguous, spoiled-no_frame, filled-contiguous}
use Rattle.link_box.specs.Checking.{checker, at_floor, received_line}
use Rattle.link_box.specs.Emissions.{spoiled, filled_ticks}
use Rattle.link_box.specs.Verdicts.{CheckState, checked, Verdict.passed_with, Verdict.refused}
use Rattle.link_box.specs.declared.check_note.RefusedWhy.{RefusedWhy}
use Rattle.receiver_laws.proofs.{Calm.contiguous-calm, Readings.whole, Readings.wrong}
use Rattle.receiver_laws.proofs.{Readings.reads_what_passed, Settled.reads_with, Settled.reads-laid}
use Rattle.receiver_laws.specs.Reading.{ReadsWhatPassed}
use Rattle.rtu_frame.specs.{Frame.is_frame, Rules.rtu_rules, Rules.rtu_lawful, Rules.rtu_spoiling}
use Rattle.std.proofs.Common.{◌≡◌, ◌∙◌, ℕ, ◌≤◌, Bool, true, false, not, ◌&&◌, List, [], length, ap}
use Rattle.std.proofs.Common.{arith}
use Rattle.yasir_ticks.specs.Bursts.{Burst, bursts}
use Rattle.yasir_ticks.specs.{BurstsOf.IsContiguous, Ticks.bytes_in, declared.tick.Tick.Tick}

module _ (profile : Profile) (cut pause : ℕ) (wide : 2 ≤ cut) (near : cut ≤ delay profile)
    (long : 2 ≤ pause) where
  abbrev pub is_whole : Burst → Bool
  is_whole d = is_frame_body pause d.body

  pub whole-frame : (s : CheckState) (d : Burst) (n : ℕ) → IsContiguous 4 d.body
      → checked profile rtu_rules s d ≡ passed_with n
      → is_whole (whole profile rtu_rules d) ≡ true
  whole-frame s d n contiguous is =
      let framed = (passed-passing profile rtu_rules s d n is).framed in
      let calm = contiguous-calm pause (live_ticks rtu_rules d) long
      (live_ticks-contiguous rtu_rules rtu_lawful d contiguous) in
      ap (λ v. not v && is_frame (bytes_in (live_ticks rtu_rules d))) calm
      ∙ (ap is_frame (live_ticks-bytes rtu_rules d) ∙ framed)

  pub wrong-frame : (s : CheckState) (d : Burst) (why : RefusedWhy) → IsContiguous 4 d.body
      → checked profile rtu_rules s d ≡ refused why
      → is_whole (wrong profile rtu_rules d) ≡ false
  wrong-frame s d why contiguous is =
      let x = spoiled rtu_rules [] (filled_ticks rtu_rules d) in
      let filled = filled-contiguous rtu_rules rtu_lawful d contiguous in
      let calm = contiguous-calm pause x long
      (spoiled-contiguous rtu_rules 2 [] (filled_ticks rtu_rules d) filled) in
      ap (λ v. not v && is_frame (bytes_in x)) calm
      ∙ spoiled-no_frame rtu_rules 2 [] (filled_ticks rtu_rules d) rtu_spoiling filled

  link-read : (floor : ℕ) (link : List Tick)
      → reads_with cut pause (received_line profile rtu_rules floor link)
      ≡ frames_read cut pause (length link)
      (emitted_by (checker profile rtu_rules) (at_floor floor) (bursts link))
  link-read floor link =
      reads-laid cut pause (length link)
      (emitted_by (checker profile rtu_rules) (at_floor floor) (bursts link))
      (emissions-spread profile rtu_rules rtu_lawful cut wide near (at_floor floor) 0 0
      (bursts link) (bursts-spread link) (omega arith))

  pub rtu_reads_what_passed : (floor : ℕ) (link : List Tick)
      → ReadsWhatPassed rtu_rules (reads_with cut pause) cut profile floor link
  rtu_reads_what_passed floor link =
      reads_what_passed profile rtu_rules rtu_lawful cut near is_whole whole-frame wrong-frame floor
      (reads_with cut pause) (link-read floor) link

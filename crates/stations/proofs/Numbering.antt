-- What both boxes have in common as boxes of a station: the number of a frame becomes the floor.
use Rattle.frame_ending.specs.LiveBytes.{live_bytes}
use Rattle.line_rules.specs.Rules.{Rules}
use Rattle.link_box.specs.Checking.{note_by, passed_in, state_by}
use Rattle.link_box.specs.Sealing.{Judgement, SealState, judged, sealed_in}
use Rattle.link_box.specs.Sealing.{note_by as seal_note_by, state_by as seal_state_by}
use Rattle.link_box.specs.Sealing.Judgement.{sealed_with, unsealed}
use Rattle.link_box.specs.Verdicts.{CheckState, Verdict, checked}
use Rattle.link_box.specs.Verdicts.Verdict.{passed_with, refused, dropped}
use Rattle.link_format.specs.{NumberedFrame.NumberedFrame, Profile.Profile}
use Rattle.receiver_laws.proofs.{Rising.above-floor, Sending.sealed-is}
use Rattle.std.proofs.Common.{◌≡◌, ℕ, ◌<◌, Option, Some, None, refl, ap, arith}
use Rattle.yasir_ticks.specs.Bursts.{Burst}
use Rattle.stations.specs.Shared.{StationBox, sealing_box, checking_box}

-- the floor after a note
abbrev pub floor_by : ℕ → Option NumberedFrame → ℕ
floor_by floor None = floor
floor_by floor (Some f) = f.number

-- Holds if the box, at any floor, numbers frames above it, and keeps as its floor the number of the
-- last frame.
pub record IsNumbering {S N : Type 0} (rules : Rules) (box : StationBox S N) : Type 0 where
  pub counts : (floor from : ℕ) (d : Burst)
      → box.walker.next (box.state floor from) d
      ≡ box.state (floor_by floor (box.frame_in (box.walker.note (box.state floor from) d)))
      (box.free_from (box.walker.next (box.state floor from) d))
  pub above : (floor from : ℕ) (d : Burst) (f : NumberedFrame)
      → box.frame_in (box.walker.note (box.state floor from) d) ≡ Some f
      → (floor < f.number) × (f.frame ≡ live_bytes rules d)

module _ (profile : Profile) (rules : Rules) where
  -- ---- the receiver

  check-counts : (s : CheckState) (d : Burst) (v : Verdict)
      → state_by profile rules s d v
      ≡ (checking_box profile rules).state (floor_by s.floor (passed_in (note_by rules d v)))
      (state_by profile rules s d v).earliest_start
  check-counts s d (passed_with n) = refl
  check-counts s d (refused why) = refl
  check-counts s d (dropped why) = refl

  check-above : (s : CheckState) (d : Burst) (v : Verdict) (f : NumberedFrame)
      → checked profile rules s d ≡ v → passed_in (note_by rules d v) ≡ Some f
      → (s.floor < f.number) × (f.frame ≡ live_bytes rules d)
  check-above s d (passed_with n) f is noted =
      let above = (above-floor profile rules s d n is).0 in
      let number : n ≡ f.number = ap (λ (o : Option NumberedFrame). floor_by 0 o) noted in
      (omega arith, cc)
  check-above s d (refused why) f is noted = cc
  check-above s d (dropped why) f is noted = cc

  pub checks-number : IsNumbering rules (checking_box profile rules)
  checks-number = record {
    counts = λ floor from d. let s : CheckState = record {
      floor = floor;
      earliest_start = from;
    } in check-counts s d (checked profile rules s d);
    above = λ floor from d f noted. let s : CheckState = record {
      floor = floor;
      earliest_start = from;
    } in check-above s d (checked profile rules s d) f refl noted;
  }

  -- ---- the transmitter

  seal-counts : (s : SealState) (d : Burst) (j : Judgement)
      → seal_state_by profile rules s d j
      ≡ (sealing_box profile rules).state (floor_by s.floor (sealed_in (seal_note_by rules d j)))
      (seal_state_by profile rules s d j).earliest_start
  seal-counts s d (sealed_with n) = refl
  seal-counts s d (unsealed why) = refl

  seal-above : (s : SealState) (d : Burst) (j : Judgement) (f : NumberedFrame)
      → judged profile rules s d ≡ j → sealed_in (seal_note_by rules d j) ≡ Some f
      → (s.floor < f.number) × (f.frame ≡ live_bytes rules d)
  seal-above s d (sealed_with n) f is noted =
      let next = (sealed-is profile rules s d n is).next in
      let number : n ≡ f.number = ap (λ (o : Option NumberedFrame). floor_by 0 o) noted in
      (omega arith, cc)
  seal-above s d (unsealed why) f is noted = cc

  pub seals-number : IsNumbering rules (sealing_box profile rules)
  seals-number = record {
    counts = λ floor from d. let s : SealState = record {
      floor = floor;
      earliest_start = from;
    } in seal-counts s d (judged profile rules s d);
    above = λ floor from d f noted. let s : SealState = record {
      floor = floor;
      earliest_start = from;
    } in seal-above s d (judged profile rules s d) f refl noted;
  }

-- What a receiver represents: its setup, and the ticks that it has taken.
use Rattle.std.specs.Prelude.{◌≡◌, ℕ, ◌+◌, ◌-◌, ◌<◌, ◌≤◌, Bool, false, List, ◌∷◌, ◌++◌, []}
use Rattle.std.specs.Prelude.{length, Option, IfSome, IfNone, is_some}
use Rattle.yasir_ticks.specs.Ticks.{silent, bytes_in}
use Rattle.yasir_ticks.specs.Bursts.{Burst, bursts}
use Rattle.yasir_ticks.specs.declared.tick.Tick.{Tick}
use Rattle.line_rules.specs.declared.line_rules.LineRules.{Ghosts as LineRules}
use Rattle.frame_ending.specs.LiveBytes.{live_bytes}
use Rattle.frame_ending.specs.Stands.{CutStandsFor, ticks_taken as ticks_cut}
use Rattle.yasir_ticks.specs.declared.delay_ring.DelayRing.{DelayRing}
use Rattle.yasir_ticks.specs.DelayRing.{ring_ticks}
use Rattle.line_rules.specs.declared.outlet.Outlet.{Outlet}
use Rattle.line_rules.specs.Outlet.{OutletStandsForTicks, OutletRefuses, owed_by}
use Rattle.link_format.specs.declared.tag.Mac.{Ghosts as Mac}
use Rattle.link_format.specs.Tag.{direction_number}
use Rattle.link_format.specs.NumberedFrame.{last_number}
use Rattle.link_format.specs.Profile.{profile_of, IsWordLen}
use Rattle.link_format.specs.Setup.{Setup}
use Rattle.sequence_journal.specs.declared.journal.Journal.{Journal}
use Rattle.sequence_journal.specs.declared.numbers.TheConstants.{LIMIT}
use Rattle.sequence_journal.specs.Journal.{journal_floor}
use Rattle.link_box.specs.Checking.{passed}
use Rattle.check_receiver.specs.Arrivals.{bytes_come}
use Rattle.check_receiver.specs.Phases.{LeftIn, is_open, passes_in}
use Rattle.check_receiver.specs.Checkings.{CheckerAnswersTick}
use Rattle.link_box.specs.Holding.{HasWalked, trailer_so_far}
use Rattle.check_receiver.specs.declared.arriving.Arriving.{Arriving}
use Rattle.check_receiver.specs.declared.checker.Checker.{Checker}
use Rattle.frame_ending.specs.declared.box_step.BoxStep.{BoxStep}
use Rattle.link_box.specs.declared.check_note.CheckNote.{CheckNote}

module _ {R M : Type 0} (proto : LineRules R) (macs : Mac M) where
  -- Holds if the MAC has taken the live bytes of the burst `d`, whose verdict is open, and the
  -- bytes of its trailer that have come are kept.
  pub record MacHolds {B : ℕ} (setup : Setup) (mac : M) (arriving : Arriving B) (d : Burst) :
      Type 0 where
    pub mac_is : macs.stands mac setup.key
        (proto.rules.label ∷ setup.direction ∷ live_bytes proto.rules d)
    pub come : bytes_come arriving ≡ trailer_so_far proto.rules d

  -- Holds if a receiver has come so far over the ticks of a link: `last` is the last number that
  -- passed, a burst that starts before tick `earliest` starts too soon, and the other values are
  -- what it holds.
  pub record CheckerWalks (B D last earliest : ℕ) (waits passes : Bool) (mac : M) (arriving : Arriving B)
      (ring : DelayRing D) (until : ℕ) (outlet : Outlet R) (setup : Setup) (line : List Tick) :
      Type 0 where
    pub waiting : Option Burst
    pub left : List ℕ
    pub live : List Tick
    pub walked : HasWalked (profile_of proto macs B LIMIT setup) proto.rules setup.floor
        (length line) (bursts line) (record { floor = last; earliest_start = earliest }) passes
        left live (owed_by outlet) waiting
    pub outlet_is : OutletStandsForTicks proto outlet left
    -- while the live ticks of a refused burst leave, the outlet knows all its bytes
    pub knows : IfNone waiting (passes ≡ false → 0 < length live
        → OutletRefuses proto outlet (left ++ bytes_in live))
    pub ring_is : ring_ticks ring ≡ live ++ silent (D - length live)
    pub few : length live ≤ D
    pub until_is : until ≡ length live
    pub waits_is : waits ≡ is_some waiting
    pub mac_stands : (text : List ℕ) × macs.stands mac setup.key text
    pub mac_holds : IfSome waiting (λ d. MacHolds setup mac arriving d)

  -- Holds if the receiver, with this setup, has taken the ticks of `line`, and `last` is the last
  -- number that passed.
  pub record CheckerStandsAt {B D : ℕ} (value : Checker R M B D) (last : ℕ) (setup : Setup)
      (line : List Tick) : Type 0 where
    pub word_is : IsWordLen B
    -- a word has at least two bytes, so that a header is whole before its first byte leaves
    pub wide : 2 ≤ B
    pub delay_is : D ≡ 4 + B + macs.TAG
    pub direction_is : direction_number value.direction ≡ setup.direction
    pub cuts : CutStandsFor proto value.cut line
    pub left_in : LeftIn value.phase value.until (owed_by value.outlet)
    pub walks : CheckerWalks B D last value.earliest_start (is_open value.phase) (passes_in value.phase)
        value.mac value.arriving value.ring value.until value.outlet setup line

  -- Holds if the receiver, with this setup, has taken the ticks of `line`, and its journal is
  -- `journal`.
  abbrev pub CheckerStandsFor : {B D : ℕ} → Checker R M B D → Journal → Setup → List Tick → Type 0
  CheckerStandsFor value journal setup line = CheckerStandsAt value (journal_floor journal) setup line

  -- Holds if the receiver, after `line`, has taken the tick `t` as well: it represents both, the
  -- last number is that of the last frame that passed, and `step` is what the definitions say.
  pub record CheckerHasTaken {B D : ℕ} (value : Checker R M B D) (last : ℕ) (setup : Setup)
      (line : List Tick) (t : Tick) (step : BoxStep CheckNote) : Type 0 where
    pub stands : CheckerStandsAt value last setup (line ++ t ∷ [])
    pub floor : last ≡ last_number setup.floor
        (passed (profile_of proto macs B LIMIT setup) proto.rules setup.floor (line ++ t ∷ []))
    pub answers : CheckerAnswersTick (profile_of proto macs B LIMIT setup) proto.rules setup.floor line t
        step

-- how many ticks the receiver has taken
abbrev pub checker_ticks : {R M : Type 0} {B D : ℕ} → Checker R M B D → ℕ
checker_ticks value = ticks_cut value.cut

-- the number of the receiver's direction
abbrev pub checker_direction : {R M : Type 0} {B D : ℕ} → Checker R M B D → ℕ
checker_direction value = direction_number value.direction

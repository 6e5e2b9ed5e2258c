-- How far a session has come.
use Rattle.std.specs.Prelude.{◌≡◌, ℕ, ◌*◌, length}
use Rattle.device_model.specs.declared.device.Device.{Ghosts as Device}
use Rattle.link_box.specs.declared.box_trait.LinkBox.{Ghosts as LinkBox}
use Rattle.trial_session.specs.Counting.{Counting}
use Rattle.trial_session.specs.Draws.{draw_state}
use Rattle.trial_session.specs.DrawnFrames.{Drawing}
use Rattle.trial_session.specs.Session.{period_len, state_at, session_line, altered_link}
use Rattle.trial_session.specs.Sides.{SideMayTake, HasTaken, MayReceive, HasReceived}
use Rattle.trial_session.specs.declared.session.Session.{Session}

-- Holds if both boxes and the device have taken this many ticks, and may take more.
pub record TrialMayGoOn {S C V N K : Type 0} (seals : LinkBox S N) (checks : LinkBox C K)
    (device : Device V) (session : Session S C V) (ticks : ℕ) : Type 0 where
  pub may_seal : SideMayTake seals session.sealing
  pub may_receive : MayReceive checks device session.receiving
  pub sealed_ticks : seals.taken session.sealing.line_box ≡ ticks
  pub checked_ticks : checks.taken session.receiving.checking.line_box ≡ ticks

-- Holds if `count` periods of the session of a seed have gone through both boxes and the device.
pub record HasRun {S C V N K : Type 0} (seals : LinkBox S N) (sealing : Counting)
    (checks : LinkBox C K) (checking : Counting) (device : Device V) (drawing : Drawing)
    (behind : ℕ) (session : Session S C V) (seed count : ℕ) : Type 0 where
  pub state_is : draw_state session.draws ≡ state_at drawing seed count
  pub seals_line : HasTaken seals sealing session.sealing (session_line drawing seed count)
  -- the link has as many ticks as these periods
  pub link_long : length (sealing.other_line (session_line drawing seed count))
      ≡ period_len * count
  pub receives_link : HasReceived checks checking device session.receiving
      (altered_link drawing behind seed count
      (sealing.other_line (session_line drawing seed count)))

-- A session of polls in progress.
use Rattle.std.specs.Prelude.{◌≡◌, ℕ, List, length}
use Rattle.yasir_ticks.specs.declared.tick.Tick.{Tick}
use Rattle.device_model.specs.declared.device.Device.{Ghosts as Device}
use Rattle.link_format.specs.declared.dir.Dir.TheVariants.{Ab, Ba}
use Rattle.link_box.specs.declared.box_trait.LinkBox.{Ghosts as LinkBox}
use Rattle.session_lists.specs.declared.frame_box.FrameBox.{Ghosts as FrameBox}
use Rattle.trial_session.specs.DrawnFrames.{Drawing}
use Rattle.two_wire.specs.TwoWire.{EndWires}
use Rattle.two_wire.specs.declared.gate.Side.TheVariants.{Asks, Answers}
use Rattle.poll_session.specs.Asking.{HasAsked}
use Rattle.poll_session.specs.PollEnds.{MayPoll, HasPolled}
use Rattle.poll_session.specs.Polled.{waits_at_master, waits_at_devices}
use Rattle.poll_session.specs.declared.session.PollSession.{PollSession}

-- Holds if the session is set up for receivers that are this many ticks late, and for at most
-- `count` requests.
pub record IsSetUp {S C X Y V : Type 0} (value : PollSession S C X Y V) (delay count : ℕ) :
    Type 0 where
  pub side_a : value.a.turned.side ≡ Answers
  pub side_b : value.b.turned.side ≡ Asks
  pub waits_a : value.a.turned.waits ≡ waits_at_master delay
  pub waits_b : value.b.turned.waits ≡ waits_at_devices delay
  pub count_is : value.master.count ≡ count

module _ {S C A B X Y V : Type 0} (sends : LinkBox S A) (gets : LinkBox C B) (x : FrameBox X)
    (y : FrameBox Y) (v : Device V) where
  -- Holds if the session may go on.
  pub record MayGoOnPolling (value : PollSession S C X Y V) : Type 0 where
    pub at_a : MayPoll sends gets x y v value.a value.ticks
    pub at_b : MayPoll sends gets x y v value.b value.ticks

  -- Holds if all that has happened in the session is counted, and the master has asked so.
  pub record HasRunPolls (drawing : Drawing) (seed : ℕ) (value : PollSession S C X Y V) :
      Type 0 where
    pub a : EndWires
    pub b : EndWires
    pub master : List Tick
    pub devices : List Tick
    pub deaf_master : List Tick
    pub deaf_device : List Tick
    pub at_a : HasPolled sends gets x y v Ab value.a a master deaf_master
    pub at_b : HasPolled sends gets x y v Ba value.b b devices deaf_device
    pub same_link : a.link_wires ≡ b.link_wires
    pub asked : HasAsked drawing seed value.master master
    pub long : length master ≡ value.ticks

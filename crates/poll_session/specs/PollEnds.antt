-- One end of a session of polls: its box, the people beside it, what is counted of what the box
-- hears, and what one of the people reads.
use Rattle.std.specs.Prelude.{◌≡◌, ℕ, List}
use Rattle.yasir_ticks.specs.declared.tick.Tick.{Tick}
use Rattle.device_model.specs.declared.device.Device.{Ghosts as Device}
use Rattle.link_format.specs.declared.dir.Dir.{Dir}
use Rattle.link_box.specs.declared.box_trait.LinkBox.{Ghosts as LinkBox}
use Rattle.session_lists.specs.ReplayLists.{Listens}
use Rattle.session_lists.specs.declared.frame_box.FrameBox.{Ghosts as FrameBox}
use Rattle.two_wire.specs.TwoWire.{EndWires, heard_device, heard_link}
use Rattle.two_wire.specs.Wires.{hears}
use Rattle.two_wire_box.specs.Steady.{steady_ticks}
use Rattle.poll_session.specs.TurnedEnds.{MayTurn, EndHasTurned}
use Rattle.poll_session.specs.Watches.{MayWatch, HasWatched}
use Rattle.poll_session.specs.declared.poll_end.PollEnd.{PollEnd}

module _ {S C A B X Y V : Type 0} (sends : LinkBox S A) (gets : LinkBox C B) (x : FrameBox X)
    (y : FrameBox Y) (v : Device V) where
  -- Holds if the end may take more ticks, after this many.
  pub record MayPoll (value : PollEnd S C X Y V) (ticks : ℕ) : Type 0 where
    pub turns : MayTurn sends gets value.turned
    pub turn_ticks : steady_ticks value.turned.wires ≡ ticks
    pub watches : MayWatch x y value.watch ticks
    pub ear_ticks : v.taken value.ear ≡ ticks

  -- Holds if the box has driven its wires so, the others have kept the turns so, and of what the
  -- box and one of the others have heard all is counted.
  pub record HasPolled (dir : Dir) (value : PollEnd S C X Y V) (w : EndWires)
      (others deaf : List Tick) : Type 0 where
    pub turned : EndHasTurned sends gets dir value.turned w others deaf
    pub watched : HasWatched x y dir value.watch (heard_device w) (heard_link w) w.to_device
    pub listens : Listens v value.ear value.read (hears deaf w.device_wires)

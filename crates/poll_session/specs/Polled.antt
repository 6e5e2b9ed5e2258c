-- A session of polls: a master beside one box, devices beside the other one, and between the boxes
-- a link on which anything may be.
use Rattle.std.specs.Prelude.{◌≡◌, ◌⊎◌, ◌≤◌, ◌*◌, ◌+◌, ℕ, List, [], length}
use Rattle.yasir_ticks.specs.declared.TheConstants.{T1_5_TICKS}
use Rattle.yasir_ticks.specs.declared.tick.Tick.{Tick}
use Rattle.line_rules.specs.Rules.{Rules}
use Rattle.device_model.specs.Frames.{FrameRead}
use Rattle.device_model.specs.Stated.{StatedDevice, stated_rules, stated_reads}
use Rattle.link_format.specs.NumberedFrame.{NumberedFrame}
use Rattle.link_format.specs.Profile.{Profile}
use Rattle.link_format.specs.declared.dir.Dir.{Dir}
use Rattle.link_box.specs.Checking.{passed, received_line}
use Rattle.link_box.specs.Sealing.{sealed, link_line}
use Rattle.link_box.specs.Walking.{other_line}
use Rattle.link_box.specs.declared.box_trait.LinkBox.{Ghosts as LinkBox}
use Rattle.receiver_laws.specs.Accounted.{forged}
use Rattle.receiver_laws.specs.Headline.{bytes_read, bytes_sealed}
use Rattle.session_lists.specs.declared.frame_box.FrameBox.{Ghosts as FrameBox}
use Rattle.trial_session.specs.DrawnFrames.{Drawing}
use Rattle.two_wire.specs.TwoWire.{EndWires, DrivesWires, heard_device, heard_link}
use Rattle.two_wire.specs.Wires.{hears, on_wires}
use Rattle.two_wire.specs.declared.gate.Side.{Side}
use Rattle.two_wire.specs.declared.gate.Side.TheVariants.{Asks, Answers}
use Rattle.two_wire.specs.declared.gate.Waits.{Waits}
use Rattle.poll_session.specs.Asking.{AsksDrawn}
use Rattle.poll_session.specs.TurnedEnds.{AreBeside, poll_setup}
use Rattle.poll_session.specs.Unsealed.{unsealed_reads}
use Rattle.poll_session.specs.Watches.{bursts_held}
use Rattle.poll_session.specs.declared.summary.PollSummary.{PollSummary}
use Rattle.poll_session.specs.declared.summary.WayCounts.{WayCounts}

-- What the transmitter and the receiver of one direction make of what they hear: their other lines,
-- and the frames that are sealed and those that pass.
pub record WayBoxes : Type 0 where
  pub sent_line : List Tick → List Tick
  pub sealed_of : List Tick → List NumberedFrame
  pub given_line : List Tick → List Tick
  pub passed_of : List Tick → List NumberedFrame

-- those of boxes that begin with new journals, by a profile and the rules of a protocol
abbrev pub boxes_by : Rules → Profile → WayBoxes
boxes_by rules profile = record {
  sent_line = link_line profile rules 0;
  sealed_of = sealed profile rules 0;
  given_line = received_line profile rules 0;
  passed_of = passed profile rules 0;
}

-- those of any boxes of a direction
abbrev pub boxes_of : {S A X Y : Type 0} → LinkBox S A → FrameBox X → FrameBox Y → Dir → WayBoxes
boxes_of sends x y dir = record {
  sent_line = other_line sends.walking (poll_setup dir);
  sealed_of = (x.numbering (poll_setup dir)).frames;
  given_line = (y.numbering (poll_setup dir)).other_line;
  passed_of = (y.numbering (poll_setup dir)).frames;
}

-- How long is waited at the master's end and at that of the devices, if a receiver is this many
-- ticks late. An answer may have several frames, and begins at most 40 silent ticks after a
-- request.
abbrev pub waits_at_master : ℕ → Waits
waits_at_master delay = record { window = 2 * delay + 45; pause = delay + 4 }

abbrev pub waits_at_devices : ℕ → Waits
waits_at_devices delay = record { window = 41; pause = delay + 4 }

-- how many ticks a session has at most for each request, before it ends
abbrev pub ticks_a_poll : ℕ
ticks_a_poll = 4096

-- Holds if this is counted of the frames of one direction, which are heard at one end and leave at
-- the other one, where one that is deaf in these ticks reads them.
pub record CountsWay (boxes : WayBoxes) (reads : List Tick → List FrameRead) (sent_by got_by : EndWires)
    (deaf : List Tick) (counts : WayCounts) : Type 0 where
  pub sealed_is : counts.sealed ≡ length (boxes.sealed_of (heard_device sent_by))
  pub passed_is : counts.passed ≡ length (boxes.passed_of (heard_link got_by))
  pub held_is : counts.held
      ≡ bursts_held T1_5_TICKS (on_wires 1 (boxes.given_line (heard_link got_by))) got_by.to_device
  pub read_is : counts.read ≡ length (reads (hears deaf got_by.device_wires))
  pub unsealed_is : counts.unsealed
      ≡ unsealed_reads (bytes_sealed (boxes.sealed_of (heard_device sent_by)))
      (bytes_read (reads (hears deaf got_by.device_wires)))

-- Holds if a box that speaks for this side drives the wires so, what it decides leaving one tick
-- later, and the others beside it keep the turns.
pub record IsPollEnd (outgoing incoming : WayBoxes) (side : Side) (waits : Waits) (w : EndWires)
    (others deaf : List Tick) : Type 0 where
  pub drives : DrivesWires outgoing.sent_line incoming.given_line 1 0 side waits w
  pub beside : AreBeside side waits w others deaf

-- Holds if this is counted of a session of at most `count` polls of a master, whose requests are
-- drawn from the seed. Both ends hear the same link. Nothing is said of what is on it.
pub record Polled (requests answers : WayBoxes) (reads : List Tick → List FrameRead)
    (drawing : Drawing) (delay seed count : ℕ) (summary : PollSummary) : Type 0 where
  pub a : EndWires
  pub b : EndWires
  pub master : List Tick
  pub devices : List Tick
  pub deaf_master : List Tick
  pub deaf_device : List Tick
  pub end_a : IsPollEnd requests answers Answers (waits_at_master delay) a master deaf_master
  pub end_b : IsPollEnd answers requests Asks (waits_at_devices delay) b devices deaf_device
  pub same_link : a.link_wires ≡ b.link_wires
  pub asks : AsksDrawn drawing seed count summary.asked master
  pub ends : (summary.asked ≡ count) ⊎ (count * ticks_a_poll ≤ length master)
  pub requests_are : CountsWay requests reads a b deaf_device summary.requests
  pub answers_are : CountsWay answers reads b a deaf_master summary.answers

-- Holds if no frame was read that wasn't sealed, in each direction in which no frame that has passed
-- is forged.
pub record PollsTell {requests answers : WayBoxes} {reads : List Tick → List FrameRead}
    {drawing : Drawing} {delay seed count : ℕ} {summary : PollSummary}
    (polled : Polled requests answers reads drawing delay seed count summary) : Type 0 where
  pub requests_tell : forged (requests.sealed_of (heard_device polled.a))
      (requests.passed_of (heard_link polled.b)) ≡ [] → summary.requests.unsealed ≡ 0
  pub answers_tell : forged (answers.sealed_of (heard_device polled.b))
      (answers.passed_of (heard_link polled.a)) ≡ [] → summary.answers.unsealed ≡ 0

-- Holds if that is so of each session of polls whose boxes have these profiles, and in which a stated
-- device reads at each end.
abbrev pub SessionsTell : StatedDevice → Profile → Profile → Type 0
SessionsTell device requests answers = (drawing : Drawing) (delay seed count : ℕ)
    (summary : PollSummary) → delay ≤ 37
    → (polled : Polled (boxes_by (stated_rules device) requests)
    (boxes_by (stated_rules device) answers) (stated_reads device) drawing delay seed count summary)
    → PollsTell polled

-- A session that has ended, and the verdict on three recordings of it: the line of the device that
-- sends, the link, and the line of the device that receives.
use Rattle.std.specs.Prelude.{if◌then◌else◌, ℕ, ◌+◌, ◌≤◌, Bool, true, false, List, ◌++◌, length}
use Rattle.yasir_ticks.specs.Ticks.{silent}
use Rattle.yasir_ticks.specs.declared.TheConstants.{T3_5_TICKS}
use Rattle.yasir_ticks.specs.declared.tick.Tick.{Tick}
use Rattle.line_rules.specs.Rules.{Rules}
use Rattle.device_model.specs.Frames.{FrameRead}
use Rattle.line_spacer.specs.Spacing.{spaced_line}
use Rattle.link_format.specs.NumberedFrame.{NumberedFrame}
use Rattle.link_format.specs.Profile.{Profile, delay}
use Rattle.link_format.specs.Setup.{Setup, setup_of}
use Rattle.sequence_journal.specs.declared.numbers.TheConstants.{LIMIT}
use Rattle.link_box.specs.Sealing.{sealed}
use Rattle.link_box.specs.Checking.{passed, received_line}
use Rattle.command_ends.specs.Links.{rules_of, label_of, link_profile_of, device_reads, gap_of}
use Rattle.session_lists.specs.Expected.{expected_by}
use Rattle.session_lists.specs.Listed.{link_rest}
use Rattle.session_lists.specs.declared.lateness.Lateness.{Lateness}
use Rattle.session_audit.specs.SpacedReads.{most_waiting, spaced_reads}
use Rattle.session_audit.specs.Verdicts.{verdict_on}
use Rattle.session_audit.specs.declared.session.Session.{Session}
use Rattle.session_audit.specs.declared.session.Tolerance.{Tolerance}
use Rattle.session_audit.specs.declared.verdict.Verdict.{Verdict}

-- Holds if each floor is at most `LIMIT`.
pub record IsSession (session : Session) : Type 0 where
  pub sent : session.sent_floor ≤ LIMIT
  pub got : session.got_floor ≤ LIMIT

-- how many ticks a recording may have
abbrev pub max_recorded : ℕ
max_recorded = 16777216

-- Holds if none of the recordings has more than `max_recorded` ticks.
pub record AreRecordings (device link received : List Tick) : Type 0 where
  pub device_len : length device ≤ max_recorded
  pub link_len : length link ≤ max_recorded
  pub received_len : length received ≤ max_recorded

-- how the transmitter was set up
abbrev pub sent_setup : Session → Setup
sent_setup session = setup_of session.key.now session.dir session.sent_floor

-- how the receiver was set up
abbrev pub got_setup : Session → Setup
got_setup session = setup_of session.key.now session.dir session.got_floor

-- ---- the protocol and the profile of a session

-- what belongs to a protocol and a profile: the profile of the link for a setup, the rules of the
-- protocol, what the protocol's stated device reads, and how many silent ticks a spacer leaves
-- between frames
pub record LinkKind : Type 0 where
  pub profile : Setup → Profile
  pub rules : Rules
  pub reads : List Tick → List FrameRead
  pub gap : ℕ

-- what belongs to the protocol and the profile of a session
abbrev pub kind_of : Session → LinkKind
kind_of session = record {
  profile = link_profile_of session.profile (label_of session.proto) LIMIT;
  rules = rules_of session.proto;
  reads = device_reads session.proto;
  gap = gap_of session.profile;
}

-- ---- when frames must be read

-- the tolerance of a line behind the receiver in which nothing is late
abbrev pub exact : Tolerance
exact = record { least = 0; most = 0; spaced = false }

-- when the frames that should be read must be, if the receiver is `late` ticks late
abbrev pub lateness_of : ℕ → Tolerance → Lateness
lateness_of late tolerance = record {
  late = late;
  least = tolerance.least;
  most = tolerance.most;
}

-- how many silent ticks follow the link if a spacer stands behind the receiver: enough for all that
-- passes to leave the receiver, and then the spacer, which may have as many frames as may wait still
-- to send
abbrev pub spaced_rest : ℕ
spaced_rest = 21100

-- how many silent ticks follow the link, so that all that passes is read
abbrev pub rest_behind : Bool → ℕ
rest_behind true = spaced_rest
rest_behind false = link_rest

-- ---- what the recordings say

module _ (kind : LinkKind) (session : Session) where
  -- the profile of the link for the transmitter's setup
  abbrev pub sent_profile : Profile
  sent_profile = kind.profile (sent_setup session)

  -- the profile of the link for the receiver's setup
  abbrev pub got_profile : Profile
  got_profile = kind.profile (got_setup session)

  -- the frames that are sealed of the line of the device that sends, with so much silence after it
  -- that its last burst is closed and its last trailer is sent
  abbrev pub sealed_in_session : List Tick → List NumberedFrame
  sealed_in_session device =
      sealed sent_profile kind.rules session.sent_floor (device ++ silent (delay sent_profile + 6))

  -- the link, with so much silence after it that the last verdict has fallen, and all that passes is
  -- read
  abbrev pub link_in_session : List Tick → List Tick
  link_in_session link = link ++ silent (rest_behind session.tolerance.spaced)

  -- the frames that pass of the link
  abbrev pub passed_in_session : List Tick → List NumberedFrame
  passed_in_session link = passed got_profile kind.rules session.got_floor (link_in_session link)

  -- the frames that the device that receives reads, with so much silence after its line that its
  -- last burst is closed
  abbrev pub read_in : List Tick → List FrameRead
  read_in received = kind.reads (received ++ silent T3_5_TICKS)

  -- when the frames that should be read must be
  abbrev pub lateness_in : Lateness
  lateness_in = lateness_of (delay got_profile) session.tolerance

  -- what the session's receiver sends for the link
  abbrev pub line_received : List Tick → List Tick
  line_received link = received_line got_profile kind.rules session.got_floor (link_in_session link)

  -- The frames that should be read: without a spacer those that pass, each later by the receiver's
  -- delay, and otherwise those that the device reads of the spaced line of what the receiver sends.
  abbrev pub expected_in : List Tick → List FrameRead
  expected_in link =
      expected_by session.tolerance.spaced (delay got_profile) (passed_in_session link)
      (spaced_reads kind.reads kind.gap (line_received link))

  -- what comes to the device that receives, if nothing is changed behind the receiver and the spacer
  abbrev pub own_line : List Tick → List Tick
  own_line link =
      if session.tolerance.spaced
      then spaced_line kind.reads kind.gap most_waiting (line_received link)
      else line_received link

  -- the verdict on three recordings of the session: the line of the device that sends, the link,
  -- and the line of the device that receives
  abbrev pub verdict_with : List Tick → List Tick → List Tick → Verdict
  verdict_with device link received =
      verdict_on lateness_in (sealed_in_session device) (passed_in_session link) (expected_in link)
      (read_in received)

-- the verdict on three recordings of a session, by its protocol and its profile
abbrev pub verdict_of_session : Session → List Tick → List Tick → List Tick → Verdict
verdict_of_session session = verdict_with (kind_of session) session

-- The verdict on three recordings by boxes and a device, and the lists that it is made from.
use Rattle.std.specs.Prelude.{◌+◌, ◌<◌, ◌^◌, List, ◌++◌, length}
use Rattle.yasir_ticks.specs.Ticks.{silent}
use Rattle.yasir_ticks.specs.declared.TheConstants.{T3_5_TICKS}
use Rattle.yasir_ticks.specs.declared.tick.Tick.{Tick}
use Rattle.device_model.specs.declared.device.Device.{Ghosts as Device}
use Rattle.session_lists.specs.Expected.{expected_by}
use Rattle.session_lists.specs.SessionLists.{HasSession, IsOpenList, SetupsOfLists, session_taken}
use Rattle.session_lists.specs.declared.frame_box.FrameBox.{Ghosts as FrameBox}
use Rattle.session_lists.specs.declared.guard.Guard.{Ghosts as Guard}
use Rattle.session_lists.specs.declared.session_lists.SessionLists.{SessionLists}
use Rattle.session_lists.specs.declared.session_lists.Timing.{Timing}
use Rattle.session_lists.specs.declared.lateness.Lateness.{Lateness}
use Rattle.command_ends.specs.Links.{delay_of}
use Rattle.session_audit.specs.Sessions.{sent_setup, got_setup, lateness_of, rest_behind}
use Rattle.session_audit.specs.Verdicts.{verdict_on}
use Rattle.session_audit.specs.declared.session.Session.{Session}
use Rattle.session_audit.specs.declared.verdict.Verdict.{Verdict}

-- when the frames that should be read must be
abbrev pub lateness_through : Session → Lateness
lateness_through session = lateness_of (delay_of session.profile) session.tolerance

-- the link with its silence
abbrev pub link_through : Session → List Tick → List Tick
link_through session link = link ++ silent (rest_behind session.tolerance.spaced)

-- when the frames that should be read must be, and how much silence follows each recording
abbrev pub timing_through : Session → Timing
timing_through session = record {
  late = lateness_through session;
  spaced = session.tolerance.spaced;
  sent_rest = delay_of session.profile + 6;
  link_rest = rest_behind session.tolerance.spaced;
  received_rest = T3_5_TICKS;
}

-- how both boxes of a session are set up, when the frames that should be read must be, and how much
-- silence follows each recording
abbrev pub setups_of : Session → SetupsOfLists
setups_of session = record {
  sent = sent_setup session;
  got = got_setup session;
  timing = timing_through session;
}

module _ {S C V G : Type 0} (s : FrameBox S) (c : FrameBox C) (v : Device V) (g : Guard G)
    (session : Session) where
  -- the verdict on three recordings of the session, each followed by its silence
  abbrev pub verdict_through : List Tick → List Tick → List Tick → Verdict
  verdict_through device link received = verdict_on (lateness_through session)
      ((s.numbering (sent_setup session)).frames (device ++ silent (delay_of session.profile + 6)))
      ((c.numbering (got_setup session)).frames (link_through session link))
      (expected_by session.tolerance.spaced (delay_of session.profile)
      ((c.numbering (got_setup session)).frames (link_through session link))
      (g.reads ((c.numbering (got_setup session)).other_line (link_through session link))))
      (v.reads (received ++ silent T3_5_TICKS))

  -- Holds if the lists are those of these recordings of the session, each followed by its silence.
  pub record AuditHasTaken (lists : SessionLists S C V G) (device link received : List Tick) : Type 0
    where
      pub has : HasSession s c v g lists (setups_of session)
          (device ++ silent (delay_of session.profile + 6))
          (link_through session link) (received ++ silent T3_5_TICKS)
      pub able : IsOpenList s c v g lists
      pub few : session_taken s c v g lists < 2 ^ 32

  -- Holds if the lists are those of some recordings of the session, and the link with its silence
  -- has fewer than 2 ^ 32 ticks.
  pub record HasTakenSome (lists : SessionLists S C V G) : Type 0 where
    pub device : List Tick
    pub link : List Tick
    pub received : List Tick
    pub taken : AuditHasTaken lists device link received
    pub short : length (link_through session link) < 2 ^ 32

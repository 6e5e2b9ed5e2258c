-- The command `audit`: the verdict on three recordings of a session. These are a line of the device
-- that sends, the link, and a line of the device that receives. Each box begins at a floor that is
-- given.
use Rattle.std.specs.Prelude.{◌≡◌, ℕ, List, [], ◌++◌, Option, Some, None, codes}
use Rattle.std.specs.Prelude.{decimal}
use Rattle.std.specs.Io.KnownBytes.{append_known}
use Rattle.yasir_io.specs.Output.{GotPrefix}
use Rattle.yasir_io.specs.declared.source.Source.{Ghosts as Source}
use Rattle.yasir_io.specs.declared.sink.Sink.{Ghosts as Sink}
use Rattle.yasir_ticks.specs.Ticks.{Item, silent}
use Rattle.yasir_ticks.specs.declared.TheConstants.{T3_5_TICKS}
use Rattle.yasir_ticks.specs.declared.tick.Tick.{Tick}
use Rattle.device_model.specs.Frames.{FrameRead}
use Rattle.command_ends.specs.FrameLine.{frame_line_of}
use Rattle.link_format.specs.Profile.{Profile as LinkProfile}
use Rattle.link_format.specs.Setup.{setup_of}
use Rattle.sequence_journal.specs.declared.numbers.TheConstants.{LIMIT}
use Rattle.link_box.specs.Sealing.{sealed}
use Rattle.link_box.specs.Checking.{passed, received_line}
use Rattle.link_format.specs.NumberedFrame.{NumberedFrame}
use Rattle.session_lists.specs.Expected.{expected_by}
use Rattle.command_ends.specs.Outside.{Outside}
use Rattle.command_ends.specs.declared.status.Status.{Status}
use Rattle.command_ends.specs.declared.status.Status.TheVariants.{Done, Unclean, WriteFault}
use Rattle.command_ends.specs.declared.status.Unclean.TheVariants as unclean
use Rattle.session_lists.specs.Parts.{part}
use Rattle.session_audit.specs.Sessions.{lateness_of, rest_behind}
use Rattle.session_audit.specs.SpacedReads.{spaced_reads}
use Rattle.session_audit.specs.Verdicts.{verdict_on}
use Rattle.session_audit.specs.declared.verdict.Counts.{Counts}
use Rattle.session_audit.specs.declared.verdict.Finding.{Finding}
use Rattle.session_audit.specs.declared.verdict.Finding.TheVariants.{Empty, Forged, Differs, Clean}
use Rattle.session_audit.specs.declared.verdict.Verdict.{Verdict}
use Rattle.session_audit.specs.Keyed.{ReadsKeyFirst, LeavesAll}
use Rattle.session_audit.specs.Recorded.{PrintsItems, IsRecordedWith}
use Rattle.command_ends.specs.Links.{rules_of, link_profile_of, delay_of, gap_of}
use Rattle.link_replay.specs.ReadCommand.{device_reads}
use Rattle.link_replay.specs.ReplayCommand.{IsListable}
use Rattle.line_commands.specs.LinkBoxes.{seal_rest}
use Rattle.link_replay.specs.declared.words.Audited.{Audited}
use Rattle.command_ends.specs.declared.link.Profile.{Profile}

-- `empty`, `forged N at T`, `differs I` or `clean`
abbrev pub finding_words : Finding → List ℕ
finding_words Empty = codes "empty"
finding_words (Forged number start) =
    codes "forged " ++ decimal number ++ codes " at " ++ decimal start
finding_words (Differs difference) = codes "differs " ++ decimal difference.place
finding_words Clean = codes "clean"

-- ` sealed S passed P read R`
abbrev pub counts_words : Counts → List ℕ
counts_words counts = codes " sealed " ++ decimal counts.sealed ++ codes " passed "
    ++ decimal counts.passed ++ codes " read " ++ decimal counts.read

-- the line of a frame, by the tick in which `read` shows it, or of none: `WORD at T HEX` or
-- `WORD none`
abbrev pub frame_or_none : List ℕ → Option FrameRead → List ℕ
frame_or_none word None = word ++ codes " none\n"
frame_or_none word (Some frame) = word ++ frame_line_of (codes " at ") frame

-- the lines of both frames of a difference, and nothing for any other finding
abbrev pub frames_lines : Finding → List ℕ
frames_lines (Differs difference) = frame_or_none (codes "expected") difference.expected
    ++ frame_or_none (codes "found") difference.found
frames_lines finding = []

-- the line of a verdict, and then those of its frames, if it has frames
abbrev pub verdict_text : Verdict → List ℕ
verdict_text verdict = codes "audit " ++ finding_words verdict.finding
    ++ counts_words verdict.counts ++ codes "\n" ++ frames_lines verdict.finding

-- the status of an audit that found this
abbrev pub finding_status : Finding → Status
finding_status Empty = Unclean unclean.Empty
finding_status (Forged number start) = Unclean unclean.Forged
finding_status (Differs difference) = Unclean unclean.Differs
finding_status Clean = Done

-- What each status of the printing of a finding says: the sink has got the whole text, and the
-- status is that of the finding, or a write or a flush failed and it has got a front of the text.
abbrev pub PrintsFinding : List ℕ → Option (List ℕ) → Option (List ℕ) → Finding → Status → Type 0
PrintsFinding text before now finding WriteFault = GotPrefix before now text
PrintsFinding text before now finding status =
    (status ≡ finding_status finding) × (now ≡ append_known before text)

module _ (asked : Audited) (key : List ℕ) where
  -- the profile of the link with this key, for a box whose journal has this floor at the start
  abbrev pub audited_profile : ℕ → LinkProfile
  audited_profile floor = link_profile_of asked.profile (rules_of asked.proto).label LIMIT
      (setup_of key asked.dir floor)

  -- the link, and the silence that follows it
  abbrev pub audited_link : List Tick → List Tick
  audited_link link = link ++ silent (rest_behind asked.tolerance.spaced)

  -- the frames that the receiver passes of the second recording
  abbrev pub passed_of_link : List Tick → List NumberedFrame
  passed_of_link link = passed (audited_profile asked.got_floor) (rules_of asked.proto)
      asked.got_floor (audited_link link)

  -- The frames that the stated device should read: those that pass, each later by the receiver's
  -- delay or, behind a spacer, those that it reads of the spaced line of what the receiver sends.
  abbrev pub expected_of_link : List Tick → List FrameRead
  expected_of_link link =
      expected_by asked.tolerance.spaced (delay_of asked.profile) (passed_of_link link)
      (spaced_reads (device_reads asked.proto) (gap_of asked.profile)
      (received_line (audited_profile asked.got_floor) (rules_of asked.proto) asked.got_floor
      (audited_link link)))

  -- the verdict on the frames that the transmitter seals of the first recording, those that the
  -- receiver passes of the second, and those that the stated device should read and reads from the
  -- third
  abbrev pub audited_verdict : List Tick → List Tick → List Tick → Verdict
  audited_verdict device link received =
      verdict_on (lateness_of (delay_of asked.profile) asked.tolerance)
      (sealed (audited_profile asked.sent_floor) (rules_of asked.proto) asked.sent_floor
      (device ++ silent (seal_rest asked.profile)))
      (passed_of_link link) (expected_of_link link)
      (device_reads asked.proto (received ++ silent T3_5_TICKS))

  -- the verdict on the three recordings that two marks part
  abbrev pub verdict_in : List Item → Verdict
  verdict_in items = audited_verdict (part 0 items) (part 1 items) (part 2 items)

  module _ (in_before in_now out_before out_now : Option (List ℕ)) where
    -- Holds if the input has three recordings, `out` has got the text of the verdict on them and
    -- nothing else, and the status is that of the verdict.
    pub record PrintsVerdict (status : Status) : Type 0 where
      pub items : List Item
      pub recorded : IsRecordedWith 2 in_before in_now items
      pub printed : out_now ≡ append_known out_before (verdict_text (verdict_in items))
      pub status_is : status ≡ finding_status (verdict_in items).finding

    -- What each status says of the input and of `out`.
    abbrev pub AuditsItems : Status → Type 0
    AuditsItems Done = PrintsVerdict Done
    AuditsItems (Unclean verdict) = PrintsVerdict (Unclean verdict)
    AuditsItems status = PrintsItems 2 0 (λ items. verdict_text (verdict_in items)) in_before in_now
        out_before out_now status

-- Holds if this is the status of the verdict on the recordings that an audit was given, with the key
-- that it was given.
abbrev pub EndsWithVerdict : Audited → Option (List ℕ) → Option (List ℕ) → Status → Type 0
EndsWithVerdict asked key_before in_before status = (given : IsListable 2 key_before in_before)
    × (status ≡ finding_status (verdict_in asked given.key.key given.input.items).finding)

-- What `audit` does: after it has read the key, it writes the text of the verdict to `out` and
-- nothing else. Notes aren't written, and the journal's disk isn't touched.
pub record Audits {K S O L D : Type 0} (k : Source K) (s : Source S) (o : Sink O) (l : Sink L)
    (asked : Audited) (before after : Outside K S O L D) (status : Status) : Type 0 where
  pub prints : ReadsKeyFirst k before.key after.key
      (λ key. AuditsItems asked key (s.left before.input) (s.left after.input)
      (o.held before.out) (o.held after.out))
      (LeavesAll before.input after.input before.out after.out before.log after.log) status
  pub log : l.held after.log ≡ l.held before.log
  pub disk : after.disk ≡ before.disk

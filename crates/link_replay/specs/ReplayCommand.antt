-- The command `replay`: a line of a device through the transmitter, and a link through the receiver
-- and the device behind it. If it ends as Done, the program's headline holds of the run:
--
-- For every key, device ticks and link ticks, however the link was altered, cut, repeated or
-- reordered, the frames that the stated device reads from the receiver are a subsequence of those
-- that the transmitter sealed, each number at most once, unless the run names a tag that matched an
-- unsealed number and frame; an untouched link with frames spaced as stated delivers all, each byte
-- exactly 18 ticks late (24 with the profile y24, whose words have four bytes).
use Rattle.std.specs.Prelude.{◌≡◌, ℕ, List, Option}
use Rattle.std.specs.Io.KnownBytes.{append_known}
use Rattle.yasir_io.specs.declared.source.Source.{Ghosts as Source}
use Rattle.yasir_io.specs.declared.sink.Sink.{Ghosts as Sink}
use Rattle.yasir_ticks.specs.Ticks.{Item}
use Rattle.yasir_ticks.specs.declared.tick.Tick.{Tick}
use Rattle.link_format.specs.declared.dir.Dir.{Dir}
use Rattle.link_format.specs.Profile.{Profile as LinkProfile}
use Rattle.link_format.specs.Setup.{setup_of}
use Rattle.sequence_journal.specs.declared.numbers.TheConstants.{LIMIT}
use Rattle.link_box.specs.Sealing.{sealed}
use Rattle.link_box.specs.Checking.{passed, received_line}
use Rattle.session_lists.specs.Recordings.{before_mark}
use Rattle.command_ends.specs.Outside.{Outside}
use Rattle.command_ends.specs.Readable.{IsReadableWith}
use Rattle.command_ends.specs.declared.status.Status.{Status}
use Rattle.command_ends.specs.declared.status.Status.TheVariants.{Done}
use Rattle.session_audit.specs.Listing.{Listing, listing_text}
use Rattle.session_audit.specs.Keyed.{ReadsKeyFirst, LeavesAll}
use Rattle.session_audit.specs.Recorded.{IsRecordedSession, PrintsRecorded, device_line, link_ticks}
use Rattle.session_audit.specs.TellsOf.{TellsOf}
use Rattle.link_replay.specs.ReadCommand.{device_reads}
use Rattle.line_commands.specs.Given.{HasKey}
use Rattle.line_commands.specs.LinkBoxes.{seal_rest}
use Rattle.command_ends.specs.declared.link.Profile.{Profile}
use Rattle.command_ends.specs.declared.link.Proto.{Proto}
use Rattle.command_ends.specs.Links.{rules_of, link_profile_of}

-- the profile of a link with this key and direction, for boxes that begin with new journals
abbrev pub replay_profile : Proto → Profile → Dir → List ℕ → LinkProfile
replay_profile proto profile dir key =
    link_profile_of profile (rules_of proto).label LIMIT (setup_of key dir 0)

-- the frames that the transmitter seals of a line, those that the receiver passes of a link, and
-- those that the stated device behind the receiver reads
abbrev pub replay_listing : Proto → Profile → Dir → List ℕ → List Tick → List Tick → Listing
replay_listing proto profile dir key line link = record {
  sealed = sealed (replay_profile proto profile dir key) (rules_of proto) 0 line;
  passed = passed (replay_profile proto profile dir key) (rules_of proto) 0 link;
  reads = device_reads proto
      (received_line (replay_profile proto profile dir key) (rules_of proto) 0 link);
}

-- The program's headline, as it holds of a run of `replay` that ended as Done.
pub record Headline (proto : Proto) (profile : Profile) (dir : Dir) (key : List ℕ)
    (in_before in_now out_before out_now : Option (List ℕ)) : Type 0 where
  -- All of the input was taken. It is a text with one mark: the ticks of a device come before it,
  -- and those of a link after it.
  pub items : List Item
  pub recorded : IsRecordedSession in_before in_now items
  -- `out` has got one line for each frame that was sealed, one for each that passed, one for each
  -- that was read and one for each that is forged, and nothing else.
  pub printed : out_now ≡ append_known out_before (listing_text
      (replay_listing proto profile dir key (device_line (seal_rest profile) items)
      (link_ticks items)))
  -- what holds between these lines
  pub tells : TellsOf (replay_profile proto profile dir key) (rules_of proto) (before_mark items)
      (link_ticks items)
      (replay_listing proto profile dir key (device_line (seal_rest profile) items)
      (link_ticks items))

-- What each status says after the key has been read.
abbrev pub ReplaysWith : Proto → Profile → Dir → Option (List ℕ) → Option (List ℕ) → Option (List ℕ)
    → Option (List ℕ) → List ℕ → Status → Type 0
ReplaysWith proto profile dir in_before in_now out_before out_now key Done =
    Headline proto profile dir key in_before in_now out_before out_now
ReplaysWith proto profile dir in_before in_now out_before out_now key status =
    PrintsRecorded (replay_listing proto profile dir key) (seal_rest profile) in_before in_now
    out_before out_now status

module _ {K S O L D : Type 0} (k : Source K) (s : Source S) (o : Sink O) (l : Sink L) where
  -- What `replay` does. Notes aren't written, and the journal's disk isn't touched.
  pub record Replays (proto : Proto) (profile : Profile) (dir : Dir)
      (before after : Outside K S O L D)
      (status : Status) : Type 0 where
    pub lists : ReadsKeyFirst k before.key after.key
        (ReplaysWith proto profile dir (s.left before.input) (s.left after.input)
        (o.held before.out)
        (o.held after.out))
        (LeavesAll before.input after.input before.out after.out before.log after.log) status
    pub log : l.held after.log ≡ l.held before.log
    pub disk : after.disk ≡ before.disk

-- Holds if all that a command of recordings is given is right: a key text, and a tick text with
-- `marks` marks within the limits.
pub record IsListable (marks : ℕ) (key_before in_before : Option (List ℕ)) : Type 0 where
  pub key : HasKey key_before
  pub input : IsReadableWith marks in_before

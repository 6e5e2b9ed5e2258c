-- What a clean verdict says of three recordings.
use Rattle.std.specs.Prelude.{◌≡◌, ◌≤◌, true, false, List, length, map}
use Rattle.yasir_ticks.specs.Ticks.{AreTicks}
use Rattle.yasir_ticks.specs.declared.tick.Tick.{Tick}
use Rattle.sequence_journal.specs.Uptimes.{RiseFrom}
use Rattle.link_format.specs.NumberedFrame.{numbers_of}
use Rattle.link_format.specs.Profile.{delay}
use Rattle.receiver_laws.specs.Accounted.{IsSubsequence, pairs_of}
use Rattle.receiver_laws.specs.Headline.{bytes_read, bytes_sealed}
use Rattle.session_lists.specs.Lateness.{AreReadWithin, read_later}
use Rattle.session_audit.specs.Sessions.{LinkKind, got_profile, sealed_in_session, passed_in_session}
use Rattle.session_audit.specs.Sessions.{read_in, expected_in}
use Rattle.session_audit.specs.declared.session.Session.{Session}
use Rattle.session_audit.specs.declared.verdict.Counts.{Counts}

-- Holds if the frames that were read are those that should be, in their order, each in a tick in
-- which it may be read. They are the frames that passed, in their order (behind a spacer if the
-- link's bytes are below 256, as those of each recording are). The frames that passed are, with
-- their numbers, a subsequence of those that were sealed, and the frames that were read are a
-- subsequence of them too. On both sides the numbers rise from the floor, so each is used at most
-- once. At least one frame was sealed. The counts are those of the sealed, the passed and the read
-- frames. Without a spacer, and if no frame may be later than the receiver is, each was read exactly
-- as late as that.
pub record IsClean (kind : LinkKind) (session : Session) (device link received : List Tick)
    (counts : Counts) : Type 0 where
  pub read_in_time : AreReadWithin session.tolerance.least session.tolerance.most
      (expected_in kind session link) (read_in kind session received)
  pub read_the_same : (session.tolerance.spaced ≡ true → AreTicks link)
      → bytes_read (read_in kind session received)
      ≡ bytes_sealed (passed_in_session kind session link)
  pub read_exactly : session.tolerance.spaced ≡ false → session.tolerance.most ≡ 0
      → read_in kind session received
      ≡ map (read_later (delay (got_profile kind session))) (passed_in_session kind session link)
  pub passed_what_was_sealed : IsSubsequence (pairs_of (passed_in_session kind session link))
      (pairs_of (sealed_in_session kind session device))
  pub read_what_was_sealed : IsSubsequence (bytes_read (read_in kind session received))
      (bytes_sealed (sealed_in_session kind session device))
  pub sealed_rise : RiseFrom session.sent_floor (numbers_of (sealed_in_session kind session device))
  pub passed_rise : RiseFrom session.got_floor (numbers_of (passed_in_session kind session link))
  pub some_sealed : 1 ≤ counts.sealed
  pub sealed_count : counts.sealed ≡ length (sealed_in_session kind session device)
  pub passed_count : counts.passed ≡ length (passed_in_session kind session link)
  pub read_count : counts.read ≡ length (read_in kind session received)

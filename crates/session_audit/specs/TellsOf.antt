-- What the lists of sealed, passed, read and forged frames say of one another.
use Rattle.std.specs.Prelude.{◌≡◌, ◌≢◌, ℕ, ◌+◌, List, [], ◌++◌, map}
use Rattle.std.specs.List.{AllPairs}
use Rattle.yasir_ticks.specs.Ticks.{silent}
use Rattle.yasir_ticks.specs.Bursts.{bursts}
use Rattle.yasir_ticks.specs.declared.tick.Tick.{Tick}
use Rattle.line_rules.specs.Rules.{Rules}
use Rattle.sequence_journal.specs.Uptimes.{RiseFrom}
use Rattle.link_format.specs.NumberedFrame.{numbers_of}
use Rattle.link_format.specs.Profile.{Profile, delay}
use Rattle.link_box.specs.Sealing.{link_line}
use Rattle.link_box.specs.Checking.{received_line}
use Rattle.receiver_laws.specs.Accounted.{IsSubsequence, pairs_of, rightly_passed}
use Rattle.receiver_laws.specs.Headline.{bytes_read, bytes_sealed}
use Rattle.receiver_laws.specs.Reading.{delivered}
use Rattle.receiver_laws.specs.Untouched.{AreSpaced, numbered}
use Rattle.session_audit.specs.Listing.{Listing, forged_in}

-- how many silent ticks follow the line of a device, so that its last burst is closed and its
-- trailer is sent
abbrev pub device_rest : Profile → ℕ
device_rest profile = delay profile + 6

-- Holds if no number occurs twice.
abbrev pub HasNoNumberTwice : List ℕ → Type 0
HasNoNumberTwice numbers = AllPairs (λ m n. m ≢ n) numbers

-- Holds if the link has brought all of the line of a device: each of its frames was sealed and has
-- passed, none is forged, and the receiver's line is silence for the receiver's delay, then the
-- device's line, and then silence.
pub record DeliversLine (profile : Profile) (rules : Rules) (device link : List Tick) (rest : ℕ)
    (listing : Listing) : Type 0 where
  pub none_forged : forged_in listing ≡ []
  pub all_sealed : listing.sealed ≡ numbered rules 0 (bursts device)
  pub all_passed : listing.passed ≡ listing.sealed
  pub received : received_line profile rules 0 link
      ≡ silent (delay profile) ++ (device ++ silent (6 + rest))

-- What the lists of a device's line and a link say of one another. Nothing ties the link to the
-- line: it may be the transmitter's, altered, cut, repeated or reordered, or any other.
pub record TellsOf (profile : Profile) (rules : Rules) (device link : List Tick)
    (listing : Listing) : Type 0 where
  -- The device reads exactly the frames that have passed, in the same order, each of them later by
  -- the receiver's delay.
  pub reads_what_passed : listing.reads ≡ map (delivered profile) listing.passed
  -- The frames that have passed and aren't forged are a subsequence of the sealed ones, each with
  -- its number.
  pub passes_what_was_sealed :
      IsSubsequence (pairs_of (rightly_passed listing.sealed listing.passed))
      (pairs_of listing.sealed)
  -- If no frame is forged, the frames that the device reads are a subsequence of those that were
  -- sealed.
  pub reads_what_was_sealed : forged_in listing ≡ []
      → IsSubsequence (bytes_read listing.reads) (bytes_sealed listing.sealed)
  -- Each number is used at most once among the sealed frames, and at most once among the passed
  -- ones, forged ones included.
  pub sealed_rise : RiseFrom 0 (numbers_of listing.sealed)
  pub sealed_once : HasNoNumberTwice (numbers_of listing.sealed)
  pub passed_rise : RiseFrom 0 (numbers_of listing.passed)
  pub passed_once : HasNoNumberTwice (numbers_of listing.passed)
  -- If the link is what the transmitter sends for the line, followed by any silence, and the frames
  -- of the line are spaced, the link brings all of the line.
  pub untouched : (rest : ℕ)
      → link ≡ link_line profile rules 0 (device ++ silent (device_rest profile)) ++ silent rest
      → AreSpaced profile rules 0 (bursts device)
      → DeliversLine profile rules device link rest listing

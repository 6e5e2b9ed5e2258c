-- Verdicts on small lists of frames, computed.
use Rattle.{device_model.specs.Frames.FrameRead, link_format.specs.NumberedFrame.NumberedFrame}
use Rattle.{session_lists.specs.Comparison.first_difference, session_audit.specs.Verdicts.verdict_on}
use Rattle.session_lists.specs.Lateness.{read_later}
use Rattle.session_lists.specs.declared.lateness.Lateness.{Lateness}
use Rattle.session_audit.specs.declared.verdict.{Finding.Finding, Verdict.Verdict}
use Rattle.session_audit.specs.declared.verdict.Finding.TheVariants.{Empty, Clean, Forged, Differs}
use Rattle.std.proofs.Common.{◌≡◌, ℕ, List, [], ◌∷◌, Some, None, map, refl}

abbrev frame : ℕ → ℕ → List ℕ → NumberedFrame
frame number start bytes = record { number = number; start = start; frame = bytes }

abbrev read : ℕ → List ℕ → FrameRead
read start bytes = record { start = start; frame = bytes }

-- as late as a receiver is, and in no other tick
abbrev behind : ℕ → Lateness
behind late = record { late = late; least = 0; most = 0 }

-- the verdict behind a receiver, without a spacer
abbrev verdict_by : Lateness → List NumberedFrame → List NumberedFrame → List FrameRead → Verdict
verdict_by late sealed_ones passed_ones reads =
    verdict_on late sealed_ones passed_ones (map (read_later late.late) passed_ones) reads

-- the first place at which two lists differ
nothing : first_difference (behind 18) [] [] ≡ None
nothing = refl

the-same : first_difference (behind 18) (read 18 (1 ∷ []) ∷ []) (read 18 (1 ∷ []) ∷ []) ≡ None
the-same = refl

other-bytes : first_difference (behind 18) (read 18 (1 ∷ []) ∷ []) (read 18 (2 ∷ []) ∷ []) ≡ Some 0
other-bytes = refl

other-tick : first_difference (behind 18) (read 18 (1 ∷ []) ∷ read 40 (2 ∷ []) ∷ [])
    (read 18 (1 ∷ []) ∷ read 41 (2 ∷ []) ∷ []) ≡ Some 1
other-tick = refl

one-more-read : first_difference (behind 18) (read 18 (1 ∷ []) ∷ [])
    (read 18 (1 ∷ []) ∷ read 40 (2 ∷ []) ∷ []) ≡ Some 1
one-more-read = refl

one-read-less : first_difference (behind 18) (read 18 (1 ∷ []) ∷ read 40 (2 ∷ []) ∷ [])
    (read 18 (1 ∷ []) ∷ []) ≡ Some 1
one-read-less = refl

-- a verdict with these counts
abbrev verdict : ℕ → ℕ → ℕ → Finding → Verdict
verdict sealed_ones passed_ones read_ones finding = record {
  counts = record { sealed = sealed_ones; passed = passed_ones; read = read_ones };
  finding = finding;
}

-- nothing was sealed, passed or read
empty : verdict_by (behind 18) [] [] [] ≡ verdict 0 0 0 Empty
empty = refl

-- One frame was read, so the session isn't empty.
only-read : verdict_by (behind 18) [] [] (read 7 (5 ∷ []) ∷ [])
    ≡ verdict 0 0 1 (Differs (record { place = 0; expected = None; found = Some (read 7 (5 ∷ [])) }))
only-read = refl

-- two frames were sealed, and the second one passed and was read
clean : verdict_by (behind 18) (frame 1 0 (5 ∷ []) ∷ frame 2 30 (6 ∷ []) ∷ []) (frame 2 30 (6 ∷ []) ∷ [])
    (read 48 (6 ∷ []) ∷ []) ≡ verdict 2 1 1 Clean
clean = refl

-- a frame was sealed, and none passed
lost : verdict_by (behind 18) (frame 1 0 (5 ∷ []) ∷ []) [] [] ≡ verdict 1 0 0 Clean
lost = refl

-- The frame starts at another tick of the link than of the line, which makes no difference to the
-- verdict.
moved : verdict_by (behind 18) (frame 1 0 (5 ∷ []) ∷ []) (frame 1 70 (5 ∷ []) ∷ []) (read 88 (5 ∷ []) ∷ [])
    ≡ verdict 1 1 1 Clean
moved = refl

-- Each of two frames passed with the number of the other one. The verdict names the first of them,
-- and not the difference between the frames read and those that passed.
exchanged : verdict_by (behind 18) (frame 1 0 (5 ∷ []) ∷ frame 2 30 (6 ∷ []) ∷ [])
    (frame 1 0 (6 ∷ []) ∷ frame 2 30 (5 ∷ []) ∷ []) [] ≡ verdict 2 2 0 (Forged 1 0)
exchanged = refl

-- A forged frame is named even if it isn't the first frame that passed.
second-forged : verdict_by (behind 18) (frame 6 0 (5 ∷ []) ∷ [])
    (frame 6 0 (5 ∷ []) ∷ frame 7 31 (5 ∷ []) ∷ []) [] ≡ verdict 1 2 0 (Forged 7 31)
second-forged = refl

-- The device read the frame in the tick at which it starts on the link, and not as late as the
-- receiver is.
too-early : verdict_by (behind 24) (frame 1 3 (5 ∷ []) ∷ []) (frame 1 3 (5 ∷ []) ∷ []) (read 3 (5 ∷ []) ∷ [])
    ≡ verdict 1 1 1 (Differs (record {
      place = 0;
      expected = Some (read 27 (5 ∷ []));
      found = Some (read 3 (5 ∷ []));
    }))
too-early = refl

-- The second frame passed and wasn't read.
unread : verdict_by (behind 18) (frame 1 0 (5 ∷ []) ∷ frame 2 30 (6 ∷ []) ∷ [])
    (frame 1 0 (5 ∷ []) ∷ frame 2 30 (6 ∷ []) ∷ []) (read 18 (5 ∷ []) ∷ [])
    ≡ verdict 2 2 1 (Differs (record { place = 1; expected = Some (read 48 (6 ∷ [])); found = None }))
unread = refl

-- ---- a range of ticks

-- from 128 to 190 ticks later than a receiver is
abbrev jittered : Lateness
jittered = record { late = 18; least = 128; most = 190 }

in-range : verdict_by jittered (frame 1 0 (5 ∷ []) ∷ frame 2 300 (6 ∷ []) ∷ [])
    (frame 1 0 (5 ∷ []) ∷ frame 2 300 (6 ∷ []) ∷ []) (read 146 (5 ∷ []) ∷ read 508 (6 ∷ []) ∷ [])
    ≡ verdict 2 2 2 Clean
in-range = refl

one-too-early : first_difference jittered (read 18 (1 ∷ []) ∷ []) (read 145 (1 ∷ []) ∷ []) ≡ Some 0
one-too-early = refl

one-too-late : first_difference jittered (read 18 (1 ∷ []) ∷ []) (read 209 (1 ∷ []) ∷ []) ≡ Some 0
one-too-late = refl

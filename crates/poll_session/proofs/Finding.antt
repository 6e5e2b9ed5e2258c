-- Frames that are found among those behind a place.
use Rattle.std.proofs.Common.{◌≡◌, ◌∙◌, ◌≤◌, ◌<◌, ℕ, suc, zero, ◌+◌, List, [], ◌∷◌, length, drop}
use Rattle.std.proofs.Common.{refl, sym, ap, arith, Option, Some, None, if◌then◌else◌, bytes_eq}
use Rattle.std.proofs.Common.{slice_index_or, Bool, true, false}
use Rattle.device_model.specs.Frames.{FrameRead}
use Rattle.link_format.specs.NumberedFrame.{NumberedFrame}
use Rattle.receiver_laws.specs.Headline.{bytes_read, bytes_sealed}
use Rattle.session_lists.specs.FrameBox.{kept_frames}
use Rattle.session_lists.specs.FrameList.{KeptFrames}
use Rattle.session_lists.specs.ReplayLists.{kept_reads}
use Rattle.session_lists.specs.declared.frame_box.Numbered.{Numbered}
use Rattle.poll_session.specs.Unsealed.{behind_frame, is_missing, still_unread}
use Rattle.poll_session.specs.Unsealed.{unsealed_reads}

pub frame-at : (frames : List NumberedFrame) (at : ℕ) (other : KeptFrames Numbered)
    → at < length frames → drop at (bytes_sealed frames)
    ≡ (slice_index_or (kept_frames frames) at other).frame ∷ drop (suc at) (bytes_sealed frames)
frame-at [] at other below = absurd (omega (arith, below))
frame-at (f ∷ frames) zero other below = refl
frame-at (f ∷ frames) (suc at) other below = frame-at frames at other (omega (arith, below))

pub read-at : (reads : List FrameRead) (at : ℕ) (other : KeptFrames ℕ)
    → at < length reads → drop at (bytes_read reads)
    ≡ (slice_index_or (kept_reads reads) at other).frame ∷ drop (suc at) (bytes_read reads)
read-at [] at other below = absurd (omega (arith, below))
read-at (f ∷ reads) zero other below = refl
read-at (f ∷ reads) (suc at) other below = read-at reads at other (omega (arith, below))

pub none-behind : (f : List ℕ) (frames : List NumberedFrame) (at : ℕ) → length frames ≤ at
    → behind_frame f (drop at (bytes_sealed frames)) ≡ None
none-behind f [] zero above = refl
none-behind f [] (suc at) above = refl
none-behind f (g ∷ frames) zero above = absurd (omega (arith, above))
none-behind f (g ∷ frames) (suc at) above = none-behind f frames at (omega (arith, above))

pub no-read-behind : (reads : List FrameRead) (at : ℕ) → length reads ≤ at
    → drop at (bytes_read reads) ≡ []
no-read-behind [] zero above = refl
no-read-behind [] (suc at) above = refl
no-read-behind (g ∷ reads) zero above = absurd (omega (arith, above))
no-read-behind (g ∷ reads) (suc at) above = no-read-behind reads at (omega (arith, above))

-- One frame more is looked at: it has these bytes, or it hasn't.
pub found-at : (f bytes : List ℕ) (frames : List NumberedFrame) (at : ℕ) (other : KeptFrames Numbered)
    → at < length frames → bytes ≡ (slice_index_or (kept_frames frames) at other).frame
    → bytes_eq bytes f ≡ true
    → behind_frame f (drop at (bytes_sealed frames)) ≡ Some (drop (suc at) (bytes_sealed frames))
found-at f bytes frames at other below is same =
    ap (behind_frame f) (frame-at frames at other below)
    ∙ ap (λ b. if b then Some (drop (suc at) (bytes_sealed frames))
    else behind_frame f (drop (suc at) (bytes_sealed frames)))
    (ap (λ x. bytes_eq x f) (sym is) ∙ same)

pub not-at : (f bytes : List ℕ) (frames : List NumberedFrame) (at : ℕ) (other : KeptFrames Numbered)
    → at < length frames → bytes ≡ (slice_index_or (kept_frames frames) at other).frame
    → bytes_eq bytes f ≡ false
    → behind_frame f (drop at (bytes_sealed frames))
    ≡ behind_frame f (drop (suc at) (bytes_sealed frames))
not-at f bytes frames at other below is same =
    ap (behind_frame f) (frame-at frames at other below)
    ∙ ap (λ b. if b then Some (drop (suc at) (bytes_sealed frames))
    else behind_frame f (drop (suc at) (bytes_sealed frames)))
    (ap (λ x. bytes_eq x f) (sym is) ∙ same)

-- One read more is looked up.
pub reads-at : (bytes : List ℕ) (left : List (List ℕ)) (reads : List FrameRead) (at : ℕ)
    (other : KeptFrames ℕ) → at < length reads
    → bytes ≡ (slice_index_or (kept_reads reads) at other).frame
    → unsealed_reads left (drop at (bytes_read reads)) ≡ is_missing (behind_frame bytes left)
    + unsealed_reads (still_unread (behind_frame bytes left) left) (drop (suc at) (bytes_read reads))
reads-at bytes left reads at other below is =
    let rest : List (List ℕ) = drop (suc at) (bytes_read reads) in
    ap (unsealed_reads left) (read-at reads at other below ∙ ap (λ f. f ∷ rest) (sym is))

pub no-frame : KeptFrames Numbered
no-frame = record { head = record { number = 0; start = 0 }; frame = [] }

pub no-read : KeptFrames ℕ
no-read = record { head = 0; frame = [] }

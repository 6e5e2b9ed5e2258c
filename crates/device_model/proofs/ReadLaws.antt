-- Which frames of bursts are read as the line goes on.
use Rattle.device_model.specs.Frames.{FrameRead}
use Rattle.device_model.specs.RtuReads.{is_frame_body, frame_in, frames_read}
use Rattle.rtu_frame.{proofs.FrameLaws.is_frame-true, specs.Frame.is_frame}
use Rattle.std.proofs.Common.{◌≡◌, ℕ, ◌+◌, ◌<◌, ◌≤◌, nat_le, cond, Bool, true, false, ◌&&◌, List}
use Rattle.std.proofs.Common.{[], ◌∷◌, ◌++◌, length, map, refl, arith, sym, ◌∙◌, ap, ⊎_elim}
use Rattle.std.proofs.lemmas.Bool.{le-leb, lt-leb, cases_Bool}
use Rattle.std.proofs.lemmas.List.{append-nil, map-append, Elements.filter-append}
use Rattle.std.specs.Prelude.{filter}
use Rattle.yasir_ticks.specs.Bursts.{Burst, end_of, AreClosed}

-- ---- frames among bursts

one_test : (ended whole : Bool) (d : Burst) → ended ≡ true
    → map frame_in (cond (ended && whole) (d ∷ []) []) ≡ cond whole (frame_in d ∷ []) []
one_test true true d e = refl
one_test true false d e = refl
one_test false whole d e = absurd (cc)

no_test : (ended whole : Bool) (d : Burst) → ended ≡ false
    → map frame_in (cond (ended && whole) (d ∷ []) []) ≡ []
no_test false whole d e = refl
no_test true whole d e = absurd (cc)

-- the frames of those of these bursts that are whole by the test `whole`, and that end at least
-- `cut` ticks before tick `m`
abbrev pub frames_ended : ℕ → (Burst → Bool) → ℕ → List Burst → List FrameRead
frames_ended cut whole m ds = map frame_in (filter (λ d. nat_le (end_of d + cut) m && whole d) ds)

module _ (cut : ℕ) (whole : Burst → Bool) where
  pub frames_ended-append : (m : ℕ) (xs ys : List Burst)
      → frames_ended cut whole m (xs ++ ys)
      ≡ frames_ended cut whole m xs ++ frames_ended cut whole m ys
  frames_ended-append m xs ys =
      let test : Burst → Bool = λ d. nat_le (end_of d + cut) m && whole d in
      ap (λ x. map frame_in x) (filter-append test xs ys)
      ∙ map-append frame_in (filter test xs) (filter test ys)

  -- A burst that has ended is read if it is whole.
  pub frames_ended-ended : (m : ℕ) (d : Burst) → end_of d + cut ≤ m
      → frames_ended cut whole m (d ∷ []) ≡ cond (whole d) (frame_in d ∷ []) []
  frames_ended-ended m d ended =
      one_test (nat_le (end_of d + cut) m) (whole d) d (le-leb (end_of d + cut) m ended)

  -- A burst that hasn't ended isn't read.
  pub frames_ended-open : (m : ℕ) (d : Burst) → m < end_of d + cut
      → frames_ended cut whole m (d ∷ []) ≡ []
  frames_ended-open m d here =
      no_test (nat_le (end_of d + cut) m) (whole d) d (lt-leb (end_of d + cut) m here)

module _ (cut pause : ℕ) where
  pub frames_read-append : (m : ℕ) (xs ys : List Burst)
      → frames_read cut pause m (xs ++ ys)
      ≡ frames_read cut pause m xs ++ frames_read cut pause m ys
  frames_read-append = frames_ended-append cut (λ d. is_frame_body pause d.body)

  pub frames_read-ended : (m : ℕ) (d : Burst) → end_of d + cut ≤ m
      → frames_read cut pause m (d ∷ []) ≡ cond (is_frame_body pause d.body) (frame_in d ∷ []) []
  frames_read-ended = frames_ended-ended cut (λ d. is_frame_body pause d.body)

  pub frames_read-open : (m : ℕ) (d : Burst) → m < end_of d + cut
      → frames_read cut pause m (d ∷ []) ≡ []
  frames_read-open = frames_ended-open cut (λ d. is_frame_body pause d.body)

  -- What is read from ended bursts doesn't change as the line goes on.
  pub frames_read-later : (m n : ℕ) (ds : List Burst) → m ≤ n → AreClosed cut m ds
      → frames_read cut pause n ds ≡ frames_read cut pause m ds
  frames_read-later m n [] later closed = refl
  frames_read-later m n (d ∷ ds) later closed =
      let ended : end_of d + cut ≤ m = closed.0 in
      let still : end_of d + cut ≤ n = omega arith in
      frames_read-append n (d ∷ []) ds
      ∙ (ap (λ x. x ++ frames_read cut pause n ds)
      (frames_read-ended n d still ∙ sym (frames_read-ended m d ended))
      ∙ (ap (λ x. frames_read cut pause m (d ∷ []) ++ x) (frames_read-later m n ds later closed.1)
      ∙ sym (frames_read-append m (d ∷ []) ds)))

  -- A burst that hasn't ended, after ended ones, adds nothing.
  pub frames_read-front : (m n : ℕ) (front : List Burst) (d : Burst) → m ≤ n → AreClosed cut m front
      → n < end_of d + cut
      → frames_read cut pause n (front ++ d ∷ []) ≡ frames_read cut pause m front
  frames_read-front m n front d later closed here =
      frames_read-append n front (d ∷ [])
      ∙ (ap (λ x. frames_read cut pause n front ++ x) (frames_read-open n d here)
      ∙ (append-nil (frames_read cut pause n front) ∙ frames_read-later m n front later closed))

  -- A burst that has ended, after ended ones, adds its frame.
  pub frames_read-last : (m n : ℕ) (front : List Burst) (d : Burst) → m ≤ n → AreClosed cut m front
      → end_of d + cut ≤ n
      → frames_read cut pause n (front ++ d ∷ [])
      ≡ frames_read cut pause m front ++ cond (is_frame_body pause d.body) (frame_in d ∷ []) []
  frames_read-last m n front d later closed ended =
      frames_read-append n front (d ∷ [])
      ∙ (ap (λ x. frames_read cut pause n front ++ x) (frames_read-ended n d ended)
      ∙ ap (λ x. x ++ cond (is_frame_body pause d.body) (frame_in d ∷ []) [])
      (frames_read-later m n front later closed))

-- Bytes that are longer than the longest frame are no frame.
pub is_frame-long : (f : List ℕ) → 256 < length f → is_frame f ≡ false
is_frame-long f long =
    ⊎_elim
    (λ frame. let short : length f ≤ 256 = (is_frame-true f frame).at_most in absurd (omega arith))
    (λ none. none)
    (cases_Bool (is_frame f))

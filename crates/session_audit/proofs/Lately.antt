-- Frames that are read as late as they may be, and what no difference says of them.
use Rattle.command_ends.specs.Links.{delay_of}
use Rattle.command_ends.specs.declared.link.Profile.{Profile, TheVariants.Y18, TheVariants.Y24}
use Rattle.device_model.specs.Frames.{FrameRead}
use Rattle.link_format.specs.NumberedFrame.{NumberedFrame}
use Rattle.receiver_laws.specs.Headline.{bytes_read, bytes_sealed}
use Rattle.session_lists.proofs.Comparing.{none-before, same-late}
use Rattle.session_lists.specs.Comparison.{is_same_read, first_difference}
use Rattle.session_lists.specs.Lateness.{AreReadWithin, read_later}
use Rattle.session_audit.specs.Sessions.{rest_behind}
use Rattle.session_lists.specs.declared.lateness.Lateness.{Lateness}
use Rattle.std.proofs.Common.{◌≡◌, ◌∙◌, ◌+◌, ◌≤◌, ◌&&◌, ℕ, suc, List, [], ◌∷◌}
use Rattle.std.proofs.Common.{Some, None, option_map, refl, sym, ap, arith, ⊎_elim}
use Rattle.std.proofs.Common.{length, map, bytes_eq, nat_le, Bool, true, false}
use Rattle.std.proofs.lemmas.Bool.{cases_Bool, and_parts, leb-true, cond-true, cond-false}
use Rattle.std.proofs.lemmas.{Slice.Eq.bytes_eq-Decides}

-- ---- what no difference says

module _ (late : Lateness) where
  -- Lists without a difference are the same frames, each read in time.
  pub no-difference : (x y : List FrameRead) → first_difference late x y ≡ None
      → AreReadWithin late.least late.most x y
  no-difference [] [] none = tt
  no-difference [] (g ∷ y) none = cc
  no-difference (f ∷ x) [] none = cc
  no-difference (f ∷ x) (g ∷ y) none =
      ⊎_elim
      (λ same.
      let rest : option_map suc (first_difference late x y) ≡ None =
      sym (cond-true _ _ _ same) ∙ none in
      let parts = and_parts (nat_le (f.start + late.least) g.start
      && nat_le g.start (f.start + late.most)) (bytes_eq f.frame g.frame) same in
      let times = and_parts (nat_le (f.start + late.least) g.start)
      (nat_le g.start (f.start + late.most)) parts.0 in (
        sym ((bytes_eq-Decides f.frame g.frame).0 parts.1),
        leb-true (f.start + late.least) g.start times.0,
        leb-true g.start (f.start + late.most) times.1,
        no-difference x y (none-before (first_difference late x y) rest),
      ))
      (λ other. let never : Some 0 ≡ None = sym (cond-false _ _ _ other) ∙ none in cc)
      (cases_Bool (is_same_read late f g))

  -- Frames that are read in time don't differ from those that should be.
  pub differs-nowhere : (x y : List FrameRead) → AreReadWithin late.least late.most x y
      → first_difference late x y ≡ None
  differs-nowhere [] [] within = refl
  differs-nowhere [] (g ∷ y) within = absurd within
  differs-nowhere (f ∷ x) [] within = absurd within
  differs-nowhere (f ∷ x) (g ∷ y) within =
      cond-true _ _ _ (same-late late f g within.1 within.2
      ((bytes_eq-Decides f.frame g.frame).1 (sym within.0)))
      ∙ ap (option_map suc) (differs-nowhere x y within.3)

module _ (least most : ℕ) where
  pub within-bytes : (x y : List FrameRead) → AreReadWithin least most x y
      → bytes_read y ≡ bytes_read x
  within-bytes [] [] within = refl
  within-bytes [] (g ∷ y) within = absurd within
  within-bytes (f ∷ x) [] within = absurd within
  within-bytes (f ∷ x) (g ∷ y) within =
      ap (λ b. b ∷ bytes_read y) within.0
      ∙ ap (λ l. f.frame ∷ l) (within-bytes x y within.3)

  pub within-length : (x y : List FrameRead) → AreReadWithin least most x y
      → length y ≡ length x
  within-length [] [] within = refl
  within-length [] (g ∷ y) within = absurd within
  within-length (f ∷ x) [] within = absurd within
  within-length (f ∷ x) (g ∷ y) within = ap suc (within-length x y within.3)

  -- If none may be later than it should, each is read exactly when it should be.
  pub within-exact : most ≡ 0 → (x y : List FrameRead) → AreReadWithin least most x y → y ≡ x
  within-exact none [] [] within = refl
  within-exact none [] (g ∷ y) within = absurd within
  within-exact none (f ∷ x) [] within = absurd within
  within-exact none (f ∷ x) (g ∷ y) within =
      let from : f.start + least ≤ g.start = within.1 in
      let by : g.start ≤ f.start + most = within.2 in
      let start : g.start ≡ f.start = omega arith in
      let read : ℕ → List ℕ → FrameRead = λ s b. record { start = s; frame = b } in
      ap (λ b. read g.start b ∷ y) within.0
      ∙ (ap (λ s. read s f.frame ∷ y) start
      ∙ ap (λ l. f ∷ l) (within-exact none x y within.3))

  -- If none need be later than it should, each may be read when it should be.
  pub within-itself : least ≡ 0 → (x : List FrameRead) → AreReadWithin least most x x
  within-itself none [] = tt
  within-itself none (f ∷ x) = (refl, omega (arith, none), omega arith, within-itself none x)

-- ---- the frames that should be read

pub later-bytes : (late : ℕ) (frames : List NumberedFrame)
    → bytes_read (map (read_later late) frames) ≡ bytes_sealed frames
later-bytes late [] = refl
later-bytes late (f ∷ frames) = ap (λ l. f.frame ∷ l) (later-bytes late frames)

-- ---- of a session

pub delay-soon : (profile : Profile) → delay_of profile ≤ 24
delay-soon Y18 = omega arith
delay-soon Y24 = omega arith

pub rest-few : (spaced : Bool) → rest_behind spaced ≤ 21100
rest-few true = omega arith
rest-few false = omega arith

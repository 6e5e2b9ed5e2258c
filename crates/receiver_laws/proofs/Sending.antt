-- What the transmitter makes of each burst of the device's line: which bursts are sealed, and what
-- they emit.
use Rattle.frame_ending.proofs.Walks.{before-early, before-late}
use Rattle.frame_ending.specs.Walk.{Noted, walked, emitted_by, notes_before, state_after}
use Rattle.frame_ending.specs.LiveBytes.{live_bytes, has_extra}
use Rattle.line_rules.specs.Rules.{Rules}
use Rattle.link_format.specs.{NumberedFrame.NumberedFrame, Profile.Profile}
use Rattle.receiver_laws.{proofs.Packing.packet, specs.Standing.numbered_frame}
use Rattle.link_box.proofs.SealCausality.{judge_by, judged-is}
use Rattle.link_box.proofs.SealNumbers.{frames_in}
use Rattle.link_box.specs.Sealing.{SealState, FullNote, Judgement, judged, state_by, note_by}
use Rattle.link_box.specs.Sealing.{forwarded, emission_by, sealer}
use Rattle.link_box.specs.Sealing.Judgement.{sealed_with, unsealed}
use Rattle.link_box.specs.declared.seal_note.UnsealedWhy.TheVariants.{Early, Form, Spent}
use Rattle.std.proofs.Common.{◌≡◌, ◌∙◌, ◌==◌, ◌⊎◌, inl, inr, ℕ, zero, suc, ◌+◌, ◌≤◌, nat_lt, Bool}
use Rattle.std.proofs.Common.{true, false, not, ◌||◌, List, [], ◌∷◌, ◌++◌, drop, refl, sym, ap}
use Rattle.std.proofs.Common.{subst, arith, ⊎_elim, get_or}
use Rattle.std.proofs.lemmas.Bool.{cases_lt, ltb-false, or_parts}
use Rattle.std.specs.List.{Contains}
use Rattle.yasir_ticks.specs.Bursts.{Burst, end_of}

-- ---- judgements

sealed-by : (early wrong last : Bool) (number n : ℕ)
    → judge_by early wrong last number ≡ sealed_with n
    → (early ≡ false) × (wrong ≡ false) × (last ≡ false) × (n ≡ number)
sealed-by true wrong last number n is = cc
sealed-by false true last number n is = cc
sealed-by false false true number n is = cc
sealed-by false false false number n is = (refl, refl, refl, cc)

form-late : (early wrong last : Bool) (number : ℕ)
    → judge_by early wrong last number ≡ unsealed Form → early ≡ false
form-late true wrong last number is = cc
form-late false wrong last number is = refl

spent-late : (early wrong last : Bool) (number : ℕ)
    → judge_by early wrong last number ≡ unsealed Spent → early ≡ false
spent-late true wrong last number is = cc
spent-late false wrong last number is = refl

-- What holds for a burst that is sealed: it isn't early, all its bytes are live and are a frame, a
-- number is left, and its number is the next one.
pub record IsSealed (profile : Profile) (rules : Rules) (s : SealState) (d : Burst) (n : ℕ) :
    Type 0 where
  pub late : s.earliest_start ≤ d.start
  pub no_extra : has_extra rules d ≡ false
  pub framed : rules.is_frame (live_bytes rules d) ≡ true
  pub left : (s.floor == profile.limit) ≡ false
  pub next : n ≡ suc s.floor

module _ (profile : Profile) (rules : Rules) where
  abbrev wrong : Burst → Bool
  wrong d = has_extra rules d || not (rules.is_frame (live_bytes rules d))

  framed-by : (b : Bool) → not b ≡ false → b ≡ true
  framed-by true is = refl
  framed-by false is = sym is

  pub sealed-is : (s : SealState) (d : Burst) (n : ℕ) → judged profile rules s d ≡ sealed_with n
      → IsSealed profile rules s d n
  sealed-is s d n is =
      let parts = sealed-by (nat_lt d.start s.earliest_start) (wrong d) (s.floor == profile.limit)
      (suc s.floor) n (sym (judged-is profile rules s d) ∙ is) in
      let right = or_parts (has_extra rules d) (not (rules.is_frame (live_bytes rules d))) parts.1
      in
      record {
        late = ltb-false d.start s.earliest_start parts.0;
        no_extra = right.0;
        framed = framed-by (rules.is_frame (live_bytes rules d)) right.1;
        left = parts.2;
        next = parts.3;
      }

  -- A burst that is forwarded starts late enough.
  pub form-from : (s : SealState) (d : Burst) → judged profile rules s d ≡ unsealed Form
      → s.earliest_start ≤ d.start
  form-from s d is = ltb-false d.start s.earliest_start
      (form-late (nat_lt d.start s.earliest_start) (wrong d) (s.floor == profile.limit)
      (suc s.floor) (sym (judged-is profile rules s d) ∙ is))

  pub spent-from : (s : SealState) (d : Burst) → judged profile rules s d ≡ unsealed Spent
      → s.earliest_start ≤ d.start
  spent-from s d is = ltb-false d.start s.earliest_start
      (spent-late (nat_lt d.start s.earliest_start) (wrong d) (s.floor == profile.limit)
      (suc s.floor) (sym (judged-is profile rules s d) ∙ is))

  -- ---- which burst a sealed frame belongs to

  -- A sealed frame belongs to one of these bursts, which the walk seals at its place.
  pub record IsOf (s : SealState) (ds : List Burst) (f : NumberedFrame) : Type 0 where
    pub front : List Burst
    pub burst : Burst
    pub back : List Burst
    pub is : ds ≡ front ++ burst ∷ back
    pub sealed : judged profile rules (state_after (sealer profile rules) s front) burst
        ≡ sealed_with f.number
    pub frame : f ≡ numbered_frame rules burst f.number

  abbrev note_of : Burst → Judgement → Noted FullNote
  note_of d j = record { tick = end_of d + 3; note = note_by rules d j }

  abbrev next : SealState → Burst → SealState
  next s d = state_by profile rules s d (judged profile rules s d)

  of-later : (s : SealState) (d : Burst) (ds : List Burst) (f : NumberedFrame)
      → IsOf (next s d) ds f → IsOf s (d ∷ ds) f
  of-later s d ds f later = record {
    front = d ∷ later.front;
    burst = later.burst;
    back = later.back;
    is = ap (λ l. d ∷ l) later.is;
    sealed = later.sealed;
    frame = later.frame;
  }

  first-of : (s : SealState) (d : Burst) (ds : List Burst) (f : NumberedFrame)
      (frames : List NumberedFrame) (n : ℕ) → judged profile rules s d ≡ sealed_with n
      → (Contains frames f → IsOf s (d ∷ ds) f)
      → Contains (numbered_frame rules d n ∷ frames) f → IsOf s (d ∷ ds) f
  first-of s d ds f frames n is later (zero, within, same) =
      let number : n ≡ f.number = ap (λ (g : NumberedFrame). g.number) same in
      record {
        front = [];
        burst = d;
        back = ds;
        is = refl;
        sealed = is ∙ ap sealed_with number;
        frame = sym same ∙ ap (λ k. numbered_frame rules d k) number;
      }
  first-of s d ds f frames n is later (suc k, within, same) = later (k, omega arith, same)

  of-step : (m : ℕ) (s : SealState) (d : Burst) (ds : List Burst) (notes : List (Noted FullNote))
      (f : NumberedFrame) (j : Judgement) → judged profile rules s d ≡ j
      → (Contains (frames_in (notes_before m notes)) f → IsOf s (d ∷ ds) f)
      → Contains (frames_in (notes_before m (note_of d j ∷ notes))) f → IsOf s (d ∷ ds) f
  of-step m s d ds notes f (sealed_with n) is later there =
      let P : List (Noted FullNote) → Type 0 = λ l. Contains (frames_in l) f in
      ⊎_elim
      (λ early. first-of s d ds f (frames_in (notes_before m notes)) n is later
      (subst P (before-early m (note_of d (sealed_with n)) notes early) there))
      (λ late. later (subst P (before-late m (note_of d (sealed_with n)) notes late) there))
      (cases_lt (end_of d + 3) m)
  of-step m s d ds notes f (unsealed why) is later there =
      let P : List (Noted FullNote) → Type 0 = λ l. Contains (frames_in l) f in
      ⊎_elim
      (λ early. later (subst P (before-early m (note_of d (unsealed why)) notes early) there))
      (λ late. later (subst P (before-late m (note_of d (unsealed why)) notes late) there))
      (cases_lt (end_of d + 3) m)

  pub sealed-of : (m : ℕ) (s : SealState) (ds : List Burst) (f : NumberedFrame)
      → Contains (frames_in (notes_before m (walked (sealer profile rules) s ds))) f → IsOf s ds f
  sealed-of m s [] f there = absurd (omega (arith, there.1))
  sealed-of m s (d ∷ ds) f there =
      of-step m s d ds (walked (sealer profile rules) (next s d) ds) f (judged profile rules s d)
      refl (λ h. of-later s d ds f (sealed-of m (next s d) ds f h)) there

  -- ---- emissions

  -- A burst emits nothing, or one burst that starts with it.
  pub emission-one : (d : Burst) (j : Judgement)
      → (emission_by profile rules d j ≡ [])
      ⊎ ((e : Burst) × (emission_by profile rules d j ≡ e ∷ []) × (e.start ≡ d.start))
  emission-one d (sealed_with n) = inr (packet profile rules n d, refl, refl)
  emission-one d (unsealed Early) = inl refl
  emission-one d j = inr (forwarded rules d [], refl, refl)

  -- Holds if the emissions of these bursts have the parts `A` and `M`, and each part comes from a
  -- part of the bursts.
  pub record Emits (s : SealState) (ds A M : List Burst) : Type 0 where
    pub front : List Burst
    pub back : List Burst
    pub is : ds ≡ front ++ back
    pub first : emitted_by (sealer profile rules) s front ≡ A
    pub rest : emitted_by (sealer profile rules) (state_after (sealer profile rules) s front) back
        ≡ M

  emits-later : (s : SealState) (d : Burst) (ds E A M : List Burst)
      → emission_by profile rules d (judged profile rules s d) ≡ E
      → Emits (next s d) ds A M → Emits s (d ∷ ds) (E ++ A) M
  emits-later s d ds E A M emission later = record {
    front = d ∷ later.front;
    back = later.back;
    is = ap (λ l. d ∷ l) later.is;
    first = ap (λ l. l ++ emitted_by (sealer profile rules) (next s d) later.front) emission
        ∙ ap (λ l. E ++ l) later.first;
    rest = later.rest;
  }

  emits-none : (A M : List Burst) → [] ≡ A ++ M → (A ≡ []) × (M ≡ [])
  emits-none [] M same = (refl, sym same)
  emits-none (a ∷ A) M same = cc

  pub emits-parted : (s : SealState) (ds A M : List Burst)
      → emitted_by (sealer profile rules) s ds ≡ A ++ M → Emits s ds A M
  emits-parted s [] A M same =
      let both = emits-none A M same in
      record { front = []; back = []; is = refl; first = sym both.0; rest = sym both.1 }
  emits-parted s (d ∷ ds) [] M same =
      record { front = []; back = d ∷ ds; is = refl; first = refl; rest = same }
  emits-parted s (d ∷ ds) (a ∷ A) M same =
      let others : List Burst = emitted_by (sealer profile rules) (next s d) ds in
      ⊎_elim
      (λ none.
      let here : others ≡ a ∷ (A ++ M) = ap (λ l. l ++ others) (sym none) ∙ same in
      emits-later s d ds [] (a ∷ A) M none (emits-parted (next s d) ds (a ∷ A) M here))
      (λ some.
      let here : some.0 ∷ others ≡ a ∷ (A ++ M) = ap (λ l. l ++ others) (sym some.1) ∙ same in
      let first : some.0 ≡ a = ap (λ l. get_or l 0 a) here in
      emits-later s d ds (a ∷ []) A M (some.1 ∙ ap (λ e. e ∷ []) first)
      (emits-parted (next s d) ds A M (ap (λ l. drop 1 l) here)))
      (emission-one d (judged profile rules s d))

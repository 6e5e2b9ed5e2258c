-- Devices read only frames of the protocol, and they read each burst that is such a frame.
use Rattle.device_model.proofs.ReadLaws.{frames_ended, frames_read-append}
use Rattle.device_model.specs.{Frames.FrameRead, Hunt.Timed, Hunt.timed, Hunt.timed_bytes}
use Rattle.device_model.specs.Hunt.{begins, found, found_by, frame_hunted, passed_over, header_hunted, hunt}
use Rattle.device_model.specs.HuntFamily.{hunt_family}
use Rattle.device_model.specs.RtuReads.{has_silence, is_frame_body, is_read, frame_in, frames_read}
use Rattle.line_rules.specs.{Rules.Rules, Rules.head_of, declared.head.Head.Head}
use Rattle.line_rules.specs.declared.head.Head.TheVariants.{Short, Good, Bad}
use Rattle.receiver_laws.proofs.Settled.{reads_with}
use Rattle.rtu_frame.specs.{Frame.is_frame, Rules.rtu_rules}
use Rattle.spacer_laws.proofs.Accepted.{all-first, all-others, all-cons}
use Rattle.spacer_laws.specs.SpacesOut.{ReadsFrames, frames_by}
use Rattle.std.proofs.Common.{◌≡◌, ◌∙◌, ℕ, zero, suc, ◌+◌, List, [], ◌∷◌, length, map, take, refl}
use Rattle.std.proofs.Common.{sym, ap, subst, arith, cond, nat_le, ◌&&◌, true, false, Bool, ⊎_elim}
use Rattle.std.proofs.Common.{not}
use Rattle.std.proofs.lemmas.{Bool.and_parts, Bool.cases_Bool, List.Elements.All-append}
use Rattle.std.specs.{List.filter, List.flat_map, Prelude.All}
use Rattle.yasir_ticks.specs.{Bursts.Burst, Bursts.end_of, Bursts.bursts_from, Ticks.bytes_in}

abbrev AllFrames : Rules → List FrameRead → Type 0
AllFrames rules fs = All (λ (f : FrameRead). rules.is_frame f.frame ≡ true) fs

no-frames : (rules : Rules) → AllFrames rules []
no-frames rules = λ k d none. absurd (omega arith)

one-frame : (rules : Rules) (f : FrameRead) → rules.is_frame f.frame ≡ true
    → AllFrames rules (f ∷ [])
one-frame rules f is zero d within = is
one-frame rules f is (suc k) d within = absurd (omega arith)

-- ---- Modbus RTU

module _ (cut pause m : ℕ) where
  burst-frames : (d : Burst) → AllFrames rtu_rules (frames_read cut pause m (d ∷ []))
  burst-frames d =
      let P : Bool → Type 0 = λ v. AllFrames rtu_rules (map frame_in (cond v (d ∷ []) [])) in
      ⊎_elim
      (λ yes.
      let body : is_frame_body pause d.body ≡ true =
      (and_parts (nat_le (end_of d + cut) m) (is_frame_body pause d.body) yes).1 in
      let right : is_frame (bytes_in d.body) ≡ true =
      (and_parts (not (has_silence pause d.body)) (is_frame (bytes_in d.body)) body).1 in
      subst P (sym yes) (one-frame rtu_rules (frame_in d) right))
      (λ no. subst P (sym no) (no-frames rtu_rules))
      (cases_Bool (is_read cut pause m d))

  bursts-frames : (ds : List Burst) → AllFrames rtu_rules (frames_read cut pause m ds)
  bursts-frames [] = no-frames rtu_rules
  bursts-frames (d ∷ ds) =
      let P : List FrameRead → Type 0 = λ fs. AllFrames rtu_rules fs in
      subst P (sym (frames_read-append cut pause m (d ∷ []) ds))
      (All-append (λ (f : FrameRead). rtu_rules.is_frame f.frame ≡ true)
      (frames_read cut pause m (d ∷ [])) (frames_read cut pause m ds) (burst-frames d)
      (bursts-frames ds))

pub rtu-frames : (cut pause : ℕ) → ReadsFrames rtu_rules (reads_with cut pause)
rtu-frames cut pause line = bursts-frames cut pause (length line) (bursts_from cut 0 line)

-- ---- hunting

-- `P` is a property of bytes, and `R` one of frames. If `R` holds for each frame that is taken from
-- bytes with `P`, it holds for all frames that are read of such bytes.
module _ (first second : ℕ) (rules : Rules) (P : List ℕ → Type 0) (R : FrameRead → Type 0)
    (fewer : (b : ℕ) (x : List ℕ) → P (b ∷ x) → P x)
    (takes : (start n : ℕ) (x : List ℕ) → P x → rules.is_frame (take n x) ≡ true
    → R (record { start = start; frame = take n x })) where
  nothing-read : All R []
  nothing-read = λ k d none. absurd (omega arith)

  frame_of-all : (start n : ℕ) (x : List ℕ) → P x → All R (frame_hunted rules start n x)
  frame_of-all start n x kind =
      let f : FrameRead = record { start = start; frame = take n x } in
      let Q : Bool → Type 0 = λ v. All R (cond v (f ∷ []) []) in
      ⊎_elim
      (λ yes. subst Q (sym yes) (all-cons R f [] (takes start n x kind
      (and_parts (nat_le n (length x)) (rules.is_frame (take n x)) yes).1) nothing-read))
      (λ no. subst Q (sym no) nothing-read)
      (cases_Bool (nat_le n (length x) && rules.is_frame (take n x)))

  found_by-all : (head : Head) (start : ℕ) (x : List ℕ) → P x → All R (found_by rules head start x)
  found_by-all Good start x kind = frame_of-all start (rules.size (header_hunted rules x)) x kind
  found_by-all Short start x kind = nothing-read
  found_by-all Bad start x kind = nothing-read

  found-all : (start : ℕ) (x : List ℕ) → P x → All R (found first second rules start x)
  found-all start x kind =
      let Q : Bool → Type 0 = λ v.
      All R (cond v (found_by rules (head_of rules x) start x) []) in
      ⊎_elim
      (λ yes. subst Q (sym yes) (found_by-all (head_of rules x) start x kind))
      (λ no. subst Q (sym no) nothing-read)
      (cases_Bool (begins first second x))

  pub hunt-all : (k : ℕ) (x : List Timed) → P (timed_bytes x) → All R (hunt first second rules k x)
  unfolding hunt
  hunt-all k [] kind = nothing-read
  hunt-all (suc k) (t ∷ x) kind = hunt-all k x (fewer t.byte (timed_bytes x) kind)
  hunt-all zero (t ∷ x) kind =
      All-append R (found first second rules t.tick (timed_bytes (t ∷ x)))
      (hunt first second rules (passed_over first second rules (timed_bytes (t ∷ x))) x)
      (found-all t.tick (timed_bytes (t ∷ x)) kind)
      (hunt-all (passed_over first second rules (timed_bytes (t ∷ x))) x
      (fewer t.byte (timed_bytes x) kind))

  pub hunts-all : (ds : List Burst) → All (λ (d : Burst). P (timed_bytes (timed d.start d.body))) ds
      → All R (flat_map (λ (d : Burst). hunt first second rules 0 (timed d.start d.body)) ds)
  hunts-all [] kind = nothing-read
  hunts-all (d ∷ ds) kind =
      let Kind : Burst → Type 0 = λ e. P (timed_bytes (timed e.start e.body)) in
      All-append R (hunt first second rules 0 (timed d.start d.body))
      (flat_map (λ (e : Burst). hunt first second rules 0 (timed e.start e.body)) ds)
      (hunt-all 0 (timed d.start d.body) (all-first Kind d ds kind))
      (hunts-all ds (all-others Kind d ds kind))

pub family-frames : (first second : ℕ) (rules : Rules) (cut : ℕ)
    → ReadsFrames rules (hunt_family first second rules cut)
family-frames first second rules zero line =
    hunt-all first second rules (λ x. Unit {0})
    (λ (f : FrameRead). rules.is_frame f.frame ≡ true) (λ b x kind. tt)
    (λ start n x kind is. is) 0 (timed 0 line) tt
family-frames first second rules (suc cut) line =
    hunts-all first second rules (λ x. Unit {0})
    (λ (f : FrameRead). rules.is_frame f.frame ≡ true) (λ b x kind. tt)
    (λ start n x kind is. is) (bursts_from (suc cut) 0 line) (λ k d within. tt)

-- ---- what is read of whole frames

module _ (ends m : ℕ) (whole : Burst → Bool) where
  -- If all bursts are whole by this test, those that have ended are read.
  pub ended-whole : (ds : List Burst) → All (λ d. whole d ≡ true) ds
      → frames_ended ends whole m ds ≡ frames_by ends m ds
  ended-whole [] all = refl
  ended-whole (d ∷ ds) all =
      let yes : whole d ≡ true = all-first (λ e. whole e ≡ true) d ds all in
      let ended : Bool = nat_le (end_of d + ends) m in
      ap (λ v. map frame_in (cond (ended && v) (d ∷ filter (λ e. nat_le
      (end_of e + ends) m && whole e) ds)
      (filter (λ e. nat_le (end_of e + ends) m && whole e) ds))) yes
      ∙ by_test ended d _ _ (ended-whole ds (all-others (λ e. whole e ≡ true) d ds all))
    where
      by_test : (v : Bool) (e : Burst) (x y : List Burst) → map frame_in x ≡ map frame_in y
          → map frame_in (cond (v && true) (e ∷ x) x) ≡ map frame_in (cond v (e ∷ y) y)
      by_test true e x y same = ap (λ fs. frame_in e ∷ fs) same
      by_test false e x y same = same

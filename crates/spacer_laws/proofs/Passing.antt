-- What a device behind a spacer reads, whether or not all has left.
use Rattle.frame_ending.proofs.Emissions.{laid-more, tick_at-none}
use Rattle.frame_ending.specs.Laid.{tick_at, laid}
use Rattle.device_model.specs.{DnpHunted.dnp_hunted, Frames.FrameRead, RtuReads.frame_in}
use Rattle.device_model.specs.Stated.{StatedDevice, stated_rules, stated_reads, stated_silence}
use Rattle.device_model.specs.Stated.{IsStatedWithin}
use Rattle.device_model.specs.Stated.StatedDevice.{rtu, dnp, rtu_member, dnp_member}
use Rattle.dnp_link_frame.specs.{Rules.dnp_rules, RulesLaws.dnp_headed, RulesLaws.dnp_framed}
use Rattle.line_rules.specs.Rules.{Rules}
use Rattle.receiver_laws.specs.Accounted.{IsSubsequence, IsSubsequence.none, IsSubsequence.skip}
use Rattle.receiver_laws.specs.{Accounted.IsSubsequence.keep, Headline.bytes_read}
use Rattle.spacer_laws.proofs.Spaced.{rtu-laid, family-spaced}
use Rattle.spacer_laws.specs.{Leaving.HaveLeft, SpacesOut.AreApart, SpacesOut.frames_by}
use Rattle.std.proofs.Common.{◌≡◌, ◌∙◌, ℕ, zero, suc, ◌+◌, ◌≤◌, List, [], ◌∷◌, ◌++◌, map, refl, sym}
use Rattle.std.proofs.Common.{ap, subst, arith, append_assoc, append-nil, cond, Bool, true, false}
use Rattle.std.proofs.Common.{nat_le, nat_lt, ◌&&◌, inl, ⊎_elim}
use Rattle.std.proofs.lemmas.Bool.{cases_Bool, le-leb}
use Rattle.std.specs.List.{filter}
use Rattle.yasir_ticks.specs.{Bursts.Burst, Bursts.end_of, Ticks.bytes_in, Ticks.silent}
use Rattle.yasir_ticks.specs.declared.tick.Tick.{Tick, TheVariants.Silent}

-- ---- silence behind what has left

behind-end : (a b i : ℕ) → b ≤ i → (nat_le a i && nat_lt i b) ≡ false
behind-end a b i past = grind arith

left-silent : (m i : ℕ) (ds : List Burst) → HaveLeft m ds → m ≤ i → tick_at ds i ≡ Silent
unfolding tick_at
left-silent m i [] left past = tick_at-none i
left-silent m i (d ∷ ds) left past =
    let end : end_of d ≤ m = left.0 in
    rw (behind-end d.start (end_of d) i (omega arith)) (left-silent m i ds left.1 past)

left-later : (k m : ℕ) (ds : List Burst) → k ≤ m → HaveLeft k ds → HaveLeft m ds
left-later k m [] le left = tt
left-later k m (d ∷ ds) le left =
    let end : end_of d ≤ k = left.0 in (omega arith, left-later k m ds le left.1)

laid-left : (m more : ℕ) (ds : List Burst) → HaveLeft m ds
    → laid (m + more) ds ≡ laid m ds ++ silent more
laid-left m zero ds left =
    let none : m + 0 ≡ m = omega arith in
    ap (λ n. laid n ds) none ∙ sym (append-nil (laid m ds))
laid-left m (suc more) ds left =
    let next : m + suc more ≡ m + 1 + more = omega arith in
    ap (λ n. laid n ds) next
    ∙ (laid-left (m + 1) more ds (left-later m (m + 1) ds (omega arith) left)
    ∙ (ap (λ l. l ++ silent more) (laid-more m ds)
    ∙ (append_assoc (laid m ds) (tick_at ds m ∷ []) (silent more)
    ∙ ap (λ t. laid m ds ++ t ∷ silent more) (left-silent m m ds left (omega arith)))))

-- ---- what is read

-- the bytes of these bursts
abbrev pub bytes_laid : List Burst → List (List ℕ)
bytes_laid ds = map (λ d. bytes_in d.body) ds

filter-among : (p : Burst → Bool) (ds : List Burst)
    → IsSubsequence (bytes_read (map frame_in (filter p ds))) (bytes_laid ds)
filter-among p [] = none
filter-among p (d ∷ ds) =
    let others = filter-among p ds in
    let P : Bool → Type 0 = λ v. IsSubsequence
    (bytes_read (map frame_in (cond v (d ∷ filter p ds) (filter p ds)))) (bytes_laid (d ∷ ds)) in
    ⊎_elim (λ yes. subst P (sym yes) (keep others)) (λ no. subst P (sym no) (skip others))
    (cases_Bool (p d))

frames-bytes : (ds : List Burst) → bytes_read (map frame_in ds) ≡ bytes_laid ds
frames-bytes [] = refl
frames-bytes (d ∷ ds) = ap (λ x. bytes_in d.body ∷ x) (frames-bytes ds)

frames-all : (ends k m : ℕ) (ds : List Burst) → k + ends ≤ m → HaveLeft k ds
    → frames_by ends m ds ≡ map frame_in ds
frames-all ends k m [] by left = refl
frames-all ends k m (d ∷ ds) by left =
    let end : end_of d ≤ k = left.0 in
    let rest : List Burst = filter (λ e. nat_le (end_of e + ends) m) ds in
    let yes : nat_le (end_of d + ends) m ≡ true = le-leb (end_of d + ends) m (omega arith) in
    ap (λ v. map frame_in (cond v (d ∷ rest) rest)) yes
    ∙ ap (λ x. frame_in d ∷ x) (frames-all ends k m ds by left.1)

module _ (rules : Rules) (reads : List Tick → List FrameRead) (ends gap : ℕ)
    (laid_read : (m : ℕ) (ds : List Burst) → AreApart rules gap 0 ds
    → reads (laid m ds) ≡ frames_by ends m ds) (m : ℕ) (ds : List Burst)
    (apart : AreApart rules gap 0 ds) where
  -- At every moment some of the laid frames were read.
  pub reads-among : IsSubsequence (bytes_read (reads (laid m ds))) (bytes_laid ds)
  reads-among =
      subst (λ x. IsSubsequence (bytes_read x) (bytes_laid ds)) (sym (laid_read m ds apart))
      (filter-among (λ d. nat_le (end_of d + ends) m) ds)

  module _ (k : ℕ) (left : HaveLeft k ds) (by : k + ends ≤ m) where
    -- Once all have left, and the silence that ends a frame is over, all were read.
    pub reads-all : bytes_read (reads (laid m ds)) ≡ bytes_laid ds
    reads-all =
        ap bytes_read (laid_read m ds apart ∙ frames-all ends k m ds by left) ∙ frames-bytes ds

    -- From then on nothing more is read in silence.
    pub reads-nothing : (more : ℕ) → reads (laid m ds ++ silent more) ≡ reads (laid m ds)
    reads-nothing more =
        ap reads (sym (laid-left m more ds (left-later k m ds (omega arith) left)))
        ∙ (laid_read (m + more) ds apart ∙ (frames-all ends k (m + more) ds (omega arith) left
        ∙ sym (laid_read m ds apart ∙ frames-all ends k m ds by left)))

-- Each stated device reads the frames that are laid on a line once they have ended.
pub stated-laid : (device : StatedDevice) (gap : ℕ) → 4 ≤ gap → IsStatedWithin gap device
    → (m : ℕ) (ds : List Burst) → AreApart (stated_rules device) gap 0 ds
    → stated_reads device (laid m ds) ≡ frames_by (stated_silence device) m ds
stated-laid rtu gap wide any m ds apart =
    rtu-laid 4 2 gap (omega arith) wide (omega arith) m ds apart
stated-laid dnp gap wide any m ds apart =
    family-spaced 0x05 0x64 dnp_rules dnp_headed dnp_framed dnp_hunted gap wide 0 (inl refl) m ds
    apart
stated-laid (rtu_member cut pause) gap wide member m ds apart =
    rtu-laid cut (suc pause) gap member.0 member.1 (omega arith) m ds apart
stated-laid (dnp_member cut) gap wide member m ds apart =
    family-spaced 0x05 0x64 dnp_rules dnp_headed dnp_framed dnp_hunted gap wide cut member m ds
    apart

-- Bytes of a burst that aren't live, taken as a run.
use Rattle.frame_ending.proofs.Cutting.{cut-begin, cut-pass, cut-go_on, stands-pass, stands-wait}
use Rattle.frame_ending.proofs.{Cutting.paused-by, Cutting.or_more, Runs.stands-silence}
use Rattle.frame_ending.specs.{Cuts.cut_of, Cuts.cuts_after, SoFar.live_bytes_so_far}
use Rattle.frame_ending.specs.{Stands.CutStandsFor, declared.burst_cut.BurstCut.BurstCut}
use Rattle.frame_ending.specs.declared.cut.Cut.TheVariants.{Start, Live, Extra}
use Rattle.line_rules.specs.Rules.{Rules, fills_room}
use Rattle.line_rules.specs.declared.line_rules.LineRules.{Ghosts as LineRules}
use Rattle.std.proofs.Common.{◌≡◌, ◌∙◌, ℕ, ◌+◌, ◌<◌, ◌≤◌, Bool, true, ◌||◌, List, [], ◌∷◌, ◌++◌}
use Rattle.std.proofs.Common.{length, map, refl, subst, ap, arith, append_assoc, false, min, nat_le}
use Rattle.std.proofs.{Common.suc, Common.zero, Common.sym, Common.⊎_elim, lemmas.Bool.cases_lt}
use Rattle.{std.proofs.lemmas.List.append-nil, yasir_ticks.specs.Ticks.silent}
use Rattle.yasir_ticks.specs.declared.tick.Tick.{Tick, TheVariants.Silent, TheVariants.Byte}

module _ {R : Type 0} (proto : LineRules R) where
  abbrev rules : Rules
  rules = proto.rules

  abbrev pub passed_over : BurstCut R → ℕ → BurstCut R
  passed_over v t = record v { taken = t; quiet = 0; extra = true }

  -- Holds if none of these bytes is live, and the value that has taken them, t ticks in all,
  -- represents the line with them.
  pub record PassesOver (v : BurstCut R) (line : List Tick) (x : List ℕ) : Type 0 where
    pub stands : (t : ℕ) → t ≡ v.taken + length x → 0 < length x
        → CutStandsFor proto (passed_over v t) (line ++ map Byte x)
    pub extra : cuts_after rules line (map Byte x) ≡ map Extra x

  pub passes-over : (x : List ℕ) (v : BurstCut R) (line : List Tick) (full : Bool)
      → CutStandsFor proto v line → v.quiet < 4 → (v.paused || full) ≡ true
      → full ≡ proto.is_full v.rules → PassesOver v line x
  passes-over [] v line full old quiet over is = record {
    stands = λ t count some. absurd (omega arith);
    extra = refl;
  }
  passes-over (b ∷ x) v line full old quiet over is =
      let full_is = is ∙ proto.fullness v.rules _ old.bytes in
      let next : CutStandsFor proto (passed_over v (v.taken + 1)) (line ++ Byte b ∷ []) =
      stands-pass proto v line old full b quiet full_is over in
      let first = cut-pass proto v line old full b quiet full_is over in
      let rest : PassesOver (passed_over v (v.taken + 1)) (line ++ Byte b ∷ []) x =
      passes-over x (passed_over v (v.taken + 1)) (line ++ Byte b ∷ []) full next (omega arith)
      over is in
      record {
        stands = λ t count some. more x t count next rest.stands;
        extra = let tail = rest.extra in cc;
      }
    where
      more : (x : List ℕ) (t : ℕ) → t ≡ v.taken + length (b ∷ x)
          → CutStandsFor proto (passed_over v (v.taken + 1)) (line ++ Byte b ∷ [])
          → ((t : ℕ) → t ≡ v.taken + 1 + length x → 0 < length x
          → CutStandsFor proto (passed_over (passed_over v (v.taken + 1)) t)
          ((line ++ Byte b ∷ []) ++ map Byte x))
          → CutStandsFor proto (passed_over v t) (line ++ map Byte (b ∷ x))
      more [] t count next rest =
          let P : ℕ → Type 0 = λ k. CutStandsFor proto (passed_over v k) (line ++ Byte b ∷ []) in
          let at : v.taken + 1 ≡ t = omega arith in
          subst P at next
      more (d ∷ x) t count next rest =
          let Q : List Tick → Type 0 = λ z. CutStandsFor proto (passed_over v t) z in
          subst Q (append_assoc line (Byte b ∷ []) (map Byte (d ∷ x)))
          (rest t (omega arith) (omega arith))

  -- ---- when a byte isn't one of them

  module _ (v : BurstCut R) (line : List Tick) (old : CutStandsFor proto v line) (b : ℕ)
      (is_extra : cut_of rules line (Byte b) ≡ Extra b) where
    pub quiet-not_extra : 4 ≤ v.quiet → ⊥
    quiet-not_extra quiet = let starts = cut-begin proto v line old b quiet in
        let other : Start b ≡ Extra b = starts ∙ is_extra in cc

    pub open-not_extra : (full : Bool) → v.quiet < 4
        → full ≡ fills_room rules (live_bytes_so_far rules line) → v.paused ≡ false
        → full ≡ false → ⊥
    open-not_extra full quiet full_is open' room =
        let live = cut-go_on proto v line old full b quiet full_is open' room in
        let other : Live b ≡ Extra b = live ∙ is_extra in cc

  -- ---- silence after a byte, up to the end of the burst and beyond it

  abbrev pub waited_on : BurstCut R → ℕ → ℕ → BurstCut R
  waited_on v t quiet = record v { taken = t; quiet = quiet; paused = v.paused || nat_le 2 quiet }

  pub stands-waits : (n : ℕ) (v : BurstCut R) (line : List Tick) (t q : ℕ) → CutStandsFor proto v line
      → v.quiet < 4 → v.taken + n ≡ t → q ≡ min 4 (v.quiet + n)
      → CutStandsFor proto (waited_on v t q) (line ++ silent n)
  stands-waits zero v line t q old few is so =
      let A : ℕ → Type 0 = λ k. CutStandsFor proto (record v { taken = k }) line in
      let B : ℕ → Type 0 = λ k. CutStandsFor proto (record v { taken = t; quiet = k }) line in
      let C : Bool → Type 0 = λ p. CutStandsFor proto
      (record v { taken = t; quiet = q; paused = p }) line in
      let L : List Tick → Type 0 = λ l. CutStandsFor proto (waited_on v t q) l in
      let same : v.taken ≡ t = omega arith in
      let still : v.quiet ≡ q = omega arith in
      let told = paused-by proto v line old few ∙ ap (λ k. v.paused || nat_le 2 k) still in
      subst L (sym (append-nil line)) (subst C told (subst B still (subst A same old)))
  stands-waits (suc n) v line t q old few is so =
      let first : BurstCut R = waited_on v (v.taken + 1) (v.quiet + 1) in
      let next : CutStandsFor proto first (line ++ Silent ∷ []) = stands-wait proto v line old few in
      let longer : List Tick = (line ++ Silent ∷ []) ++ silent n in
      let B : ℕ → Type 0 = λ k. CutStandsFor proto (waited_on v t k) longer in
      let C : Bool → Type 0 = λ p. CutStandsFor proto
      (record v { taken = t; quiet = q; paused = p }) longer in
      let L : List Tick → Type 0 = λ l. CutStandsFor proto (waited_on v t q) l in
      subst L (append_assoc line (Silent ∷ []) (silent n))
      (⊎_elim
      (λ less. subst C (or_more v.paused (v.quiet + 1) q (omega arith))
      (stands-waits n first (line ++ Silent ∷ []) t q next less (omega arith) (omega arith)))
      (λ more.
      let whole : v.quiet + 1 ≡ q = omega arith in
      subst B whole (stands-silence proto n first (line ++ Silent ∷ []) t next more (omega arith)))
      (cases_lt (v.quiet + 1) 4))

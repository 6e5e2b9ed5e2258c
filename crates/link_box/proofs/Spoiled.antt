-- Ticks that are filled or spoiled stay contiguous. Spoiled ticks are no frame, and differ only in
-- their last byte.
use Rattle.frame_ending.proofs.{LiveTicks.live_ticks-contiguous, Pauses.ended}
use Rattle.frame_ending.{proofs.Pauses.contiguous-ends, specs.LiveBytes.live_ticks}
use Rattle.line_rules.specs.{Rules.Rules, RulesLaws.IsLawful, Spoiling.IsSpoiling}
use Rattle.link_box.specs.Emissions.{spoiled, owed, filled_ticks}
use Rattle.std.proofs.Common.{◌≡◌, ◌∙◌, ℕ, zero, suc, ◌+◌, ◌<◌, ◌≤◌, false, List, [], ◌∷◌, ◌++◌}
use Rattle.std.proofs.Common.{length, replicate, refl, sym, ap, subst, arith, append_assoc}
use Rattle.std.proofs.{Common.length-append, lemmas.List.append-nil, lemmas.List.length-replicate}
use Rattle.yasir_ticks.proofs.{BurstsOfLaws.contiguous-more, SilenceLaws.bytes_in-append}
use Rattle.yasir_ticks.specs.{Bursts.Burst, BurstsOf.IsContiguous, BurstsOf.one, BurstsOf.more}
use Rattle.yasir_ticks.specs.Ticks.{bytes_in, silent}
use Rattle.yasir_ticks.specs.declared.tick.Tick.{Tick, TheVariants.Silent, TheVariants.Byte}

-- ---- contiguous ticks

pub contiguous-wider : (c k : ℕ) (x : List Tick) → c ≤ k → IsContiguous c x → IsContiguous k x
contiguous-wider c k x wide (one b) = one b
contiguous-wider c k x wide (more b gap rest few contiguous) =
    let still : gap < k = omega arith in
    more b gap rest still (contiguous-wider c k rest wide contiguous)

pub contiguous-some : (c : ℕ) (x : List Tick) → IsContiguous c x → 0 < length x
contiguous-some c x (one b) = omega arith
contiguous-some c x (more b gap rest few contiguous) = omega arith

-- bytes that follow without silence
pub contiguous-filled : (c n b : ℕ) (x : List Tick) → 0 < c → IsContiguous c x
    → IsContiguous c (x ++ replicate n (Byte b))
contiguous-filled c zero b x some contiguous =
    let P : List Tick → Type 0 = λ y. IsContiguous c y in
    subst P (sym (append-nil x)) contiguous
contiguous-filled c (suc n) b x some contiguous =
    let P : List Tick → Type 0 = λ y. IsContiguous c y in
    subst P (append_assoc x (Byte b ∷ []) (replicate n (Byte b)))
    (contiguous-filled c n b (x ++ Byte b ∷ []) some (contiguous-more c x 0 b contiguous some))

-- ---- spoiled ticks

module _ (rules : Rules) where
  pub spoiled-nil : (h : List ℕ) → spoiled rules h [] ≡ []
  unfolding spoiled
  spoiled-nil h = refl

  pub spoiled-last : (h : List ℕ) (b : ℕ)
      → spoiled rules h (Byte b ∷ []) ≡ Byte (rules.spoil h b) ∷ []
  unfolding spoiled
  spoiled-last h b = refl

  spoiled-silence : (h : List ℕ) → spoiled rules h (Silent ∷ []) ≡ Silent ∷ []
  unfolding spoiled
  spoiled-silence h = refl

  -- a tick that other ticks follow stays the same
  pub spoiled-next : (h : List ℕ) (t u : Tick) (x : List Tick)
      → spoiled rules h (t ∷ u ∷ x) ≡ t ∷ spoiled rules (h ++ bytes_in (t ∷ [])) (u ∷ x)
  unfolding spoiled
  spoiled-next h Silent u x = ap (λ y. Silent ∷ spoiled rules y (u ∷ x)) (sym (append-nil h))
  spoiled-next h (Byte b) u x = refl

  -- Only the last byte differs.
  pub spoiled-ended : (h : List ℕ) (w : List Tick) (a : ℕ)
      → spoiled rules h (ended w a) ≡ ended w (rules.spoil (h ++ bytes_in w) a)
  spoiled-ended h [] a = spoiled-last h a
      ∙ ap (λ y. Byte (rules.spoil y a) ∷ []) (sym (append-nil h))
  spoiled-ended h (t ∷ []) a =
      spoiled-next h t (Byte a) [] ∙ ap (λ y. t ∷ y) (spoiled-last (h ++ bytes_in (t ∷ [])) a)
  spoiled-ended h (t ∷ u ∷ w) a =
      spoiled-next h t u (w ++ Byte a ∷ [])
      ∙ (ap (λ y. t ∷ y) (spoiled-ended (h ++ bytes_in (t ∷ [])) (u ∷ w) a)
      ∙ ap (λ y. t ∷ ended (u ∷ w) (rules.spoil y a))
      (append_assoc h (bytes_in (t ∷ [])) (bytes_in (u ∷ w))
      ∙ ap (λ y. h ++ y) (sym (bytes_in-append (t ∷ []) (u ∷ w)))))

  -- Contiguous ticks stay contiguous when they are spoiled.
  spoiled-byte : (h : List ℕ) (b : ℕ) (x : List Tick) → 0 < length x
      → spoiled rules h (Byte b ∷ x) ≡ Byte b ∷ spoiled rules (h ++ b ∷ []) x
  spoiled-byte h b [] some = absurd (omega arith)
  spoiled-byte h b (t ∷ x) some = spoiled-next h (Byte b) t x

  spoiled-silent : (h : List ℕ) (gap : ℕ) (x : List Tick)
      → spoiled rules h (silent gap ++ x) ≡ silent gap ++ spoiled rules h x
  unfolding spoiled
  spoiled-silent h zero x = refl
  spoiled-silent h (suc gap) x = ap (λ y. Silent ∷ y) (spoiled-silent h gap x)

  some-behind : (c gap : ℕ) (x : List Tick) → IsContiguous c x → 0 < length (silent gap ++ x)
  some-behind c zero x contiguous = contiguous-some c x contiguous
  some-behind c (suc gap) x contiguous = omega arith

  pub spoiled-contiguous : (c : ℕ) (h : List ℕ) (x : List Tick) → IsContiguous c x
      → IsContiguous c (spoiled rules h x)
  spoiled-contiguous c h x (one b) =
      let P : List Tick → Type 0 = λ y. IsContiguous c y in
      subst P (sym (spoiled-last h b)) (one (rules.spoil h b))
  spoiled-contiguous c h x (more b gap rest few contiguous) =
      let P : List Tick → Type 0 = λ y. IsContiguous c y in
      let is : spoiled rules h (Byte b ∷ (silent gap ++ rest))
      ≡ Byte b ∷ (silent gap ++ spoiled rules (h ++ b ∷ []) rest) =
      spoiled-byte h b (silent gap ++ rest) (some-behind c gap rest contiguous)
      ∙ ap (λ y. Byte b ∷ y) (spoiled-silent (h ++ b ∷ []) gap rest) in
      subst P (sym is) (more b gap (spoiled rules (h ++ b ∷ []) rest) few
      (spoiled-contiguous c (h ++ b ∷ []) rest contiguous))

  pub spoiled-length : (h : List ℕ) (x : List Tick) → length (spoiled rules h x) ≡ length x
  spoiled-length h [] = ap length (spoiled-nil h)
  spoiled-length h (Silent ∷ []) = ap length (spoiled-silence h)
  spoiled-length h (Byte b ∷ []) = ap length (spoiled-last h b)
  spoiled-length h (t ∷ u ∷ x) =
      ap length (spoiled-next h t u x)
      ∙ ap suc (spoiled-length (h ++ bytes_in (t ∷ [])) (u ∷ x))

  -- the bytes of spoiled ticks, after other bytes, are no frame
  pub spoiled-no_frame : (c : ℕ) (h : List ℕ) (x : List Tick) → IsSpoiling rules
      → IsContiguous c x → rules.is_frame (h ++ bytes_in (spoiled rules h x)) ≡ false
  spoiled-no_frame c h x spoiling contiguous =
      let last = contiguous-ends c x contiguous in
      let w : List Tick = last.0 in
      let b : ℕ = rules.spoil (h ++ bytes_in w) last.1 in
      ap (λ y. rules.is_frame (h ++ bytes_in y))
      (ap (λ y. spoiled rules h y) last.2 ∙ spoiled-ended h w last.1)
      ∙ (ap (λ y. rules.is_frame (h ++ y)) (bytes_in-append w (Byte b ∷ []))
      ∙ (ap rules.is_frame (sym (append_assoc h (bytes_in w) (b ∷ [])))
      ∙ spoiling.no_frame (h ++ bytes_in w) last.1))

-- ---- what leaves of a burst

module _ (rules : Rules) (lawful : IsLawful rules) (d : Burst) (whole : IsContiguous 4 d.body) where
  pub filled-contiguous : IsContiguous 2 (filled_ticks rules d)
  filled-contiguous =
      contiguous-filled 2 (owed rules d) 0 (live_ticks rules d) (omega arith)
      (live_ticks-contiguous rules lawful d whole)

  pub filled-length : length (filled_ticks rules d)
      ≡ length (live_ticks rules d) + owed rules d
  filled-length =
      length-append (live_ticks rules d) (replicate (owed rules d) (Byte 0))
      ∙ ap (λ k. length (live_ticks rules d) + k) (length-replicate (owed rules d) (Byte 0))

-- What leaves of a burst that passes, and of one that doesn't.
use Rattle.line_rules.specs.Rules.{Rules, lacking_of, spoil_of}
use Rattle.link_box.specs.Emissions.{spoiled}
use Rattle.link_box.specs.Leaving.{is_none, fill_byte, fill_out, leaves}
use Rattle.line_rules.specs.Outlet.{emitted, owed_after}
use Rattle.std.proofs.Common.{◌≡◌, ◌∙◌, ℕ, zero, suc, ◌<◌, ◌==◌, Bool, true, false, List, [], ◌∷◌}
use Rattle.std.proofs.Common.{◌++◌, length, take, drop, replicate, refl, sym, ap, arith}
use Rattle.std.proofs.Common.{append_assoc, if◌then◌else◌}
use Rattle.std.proofs.lemmas.{Bool.cond-false, Bool.ne_eqb, List.append-nil}
use Rattle.yasir_ticks.specs.Ticks.{silent, bytes_in}
use Rattle.yasir_ticks.specs.declared.tick.Tick.{Tick, TheVariants.Silent, TheVariants.Byte}

module _ (rules : Rules) where
  pub leaves-none : (p : Bool) (left : List ℕ) (owed : ℕ)
      → leaves rules p left [] owed ≡ fill_out rules left owed
  unfolding leaves
  leaves-none p left owed = refl

  pub leaves-silent : (p : Bool) (left : List ℕ) (live : List Tick) (owed : ℕ)
      → leaves rules p left (Silent ∷ live) owed ≡ Silent ∷ leaves rules p left live owed
  unfolding leaves
  leaves-silent p left live owed = refl

  pub leaves-byte : (p : Bool) (left : List ℕ) (b : ℕ) (live : List Tick) (owed : ℕ)
      → leaves rules p left (Byte b ∷ live) owed
      ≡ Byte (emitted rules left b (is_none live) p)
      ∷ leaves rules p (left ++ b ∷ []) live (owed_after rules left b (is_none live) p)
  unfolding leaves
  leaves-byte p left b live owed = refl

  pub fill_out-zero : (left : List ℕ) → fill_out rules left 0 ≡ []
  unfolding fill_out
  fill_out-zero left = refl

  pub fill_out-suc : (left : List ℕ) (k : ℕ)
      → fill_out rules left (suc k) ≡ fill_byte rules left k ∷ fill_out rules (left ++ 0 ∷ []) k
  unfolding fill_out
  fill_out-suc left k = refl

  -- a fill is bytes 0, of which the last is spoiled
  fill-spoiled : (left : List ℕ) (k : ℕ)
      → fill_out rules left k ≡ spoiled rules left (replicate k (Byte 0))
  unfolding fill_out spoiled
  fill-spoiled left zero = refl
  fill-spoiled left (suc zero) = refl
  fill-spoiled left (suc (suc k)) = ap (λ l. Byte 0 ∷ l) (fill-spoiled (left ++ 0 ∷ []) (suc k))

  -- what passes leaves as it is
  pub leaves-passed : (left : List ℕ) (live : List Tick) → leaves rules true left live 0 ≡ live
  unfolding leaves fill_out
  leaves-passed left [] = refl
  leaves-passed left (Silent ∷ live) = ap (λ l. Silent ∷ l) (leaves-passed left live)
  leaves-passed left (Byte b ∷ []) = refl
  leaves-passed left (Byte b ∷ t ∷ live) =
      ap (λ l. Byte b ∷ l) (leaves-passed (left ++ b ∷ []) (t ∷ live))

  -- the last byte, and the fill that it owes
  last-spoiled : (left : List ℕ) (b k : ℕ)
      → Byte (if k == 0 then spoil_of rules left b else b) ∷ fill_out rules (left ++ b ∷ []) k
      ≡ spoiled rules left (Byte b ∷ replicate k (Byte 0))
  unfolding fill_out spoiled
  last-spoiled left b zero = refl
  last-spoiled left b (suc k) =
      let other : (suc k == 0) ≡ false = ne_eqb (suc k) 0 (λ e. omega arith) in
      ap (λ x. Byte x ∷ fill_out rules (left ++ b ∷ []) (suc k)) (cond-false _ _ _ other)
      ∙ ap (λ l. Byte b ∷ l) (fill-spoiled (left ++ b ∷ []) (suc k))

  -- What doesn't pass leaves spoiled, with its fill.
  pub leaves-spoiled : (left : List ℕ) (w : List Tick) (b : ℕ)
      → leaves rules false left (w ++ Byte b ∷ []) 0
      ≡ spoiled rules left ((w ++ Byte b ∷ [])
      ++ replicate (lacking_of rules (left ++ bytes_in (w ++ Byte b ∷ []))) (Byte 0))
  unfolding leaves spoiled
  leaves-spoiled left [] b = last-spoiled left b (lacking_of rules (left ++ b ∷ []))
  leaves-spoiled left (Silent ∷ w) b = ap (λ l. Silent ∷ l) (leaves-spoiled left w b)
  leaves-spoiled left (Byte c ∷ []) b =
      ap (λ l. Byte c ∷ l) (leaves-spoiled (left ++ c ∷ []) [] b
      ∙ ap (λ x. spoiled rules (left ++ c ∷ [])
      ((Byte b ∷ []) ++ replicate (lacking_of rules x) (Byte 0)))
      (append_assoc left (c ∷ []) (b ∷ [])))
  leaves-spoiled left (Byte c ∷ t ∷ w) b =
      ap (λ l. Byte c ∷ l) (leaves-spoiled (left ++ c ∷ []) (t ∷ w) b
      ∙ ap (λ x. spoiled rules (left ++ c ∷ [])
      (((t ∷ w) ++ Byte b ∷ []) ++ replicate (lacking_of rules x) (Byte 0)))
      (append_assoc left (c ∷ []) (bytes_in ((t ∷ w) ++ Byte b ∷ []))))

  -- what hasn't left after k ticks, if the last one isn't among these
  pub leaves-drop : (p : Bool) (left : List ℕ) (live : List Tick) (k : ℕ) → k < length live
      → leaves rules p (left ++ bytes_in (take k live)) (drop k live) 0
      ≡ drop k (leaves rules p left live 0)
  leaves-drop p left live zero within =
      ap (λ x. leaves rules p x live 0) (append-nil left)
  leaves-drop p left [] (suc k) within = absurd (omega arith)
  leaves-drop p left (Silent ∷ live) (suc k) within =
      leaves-drop p left live k (omega arith)
      ∙ ap (λ l. drop (suc k) l) (sym (leaves-silent p left live 0))
  leaves-drop p left (Byte b ∷ []) (suc k) within = absurd (omega arith)
  leaves-drop p left (Byte b ∷ t ∷ live) (suc k) within =
      let rest : k < length (t ∷ live) = omega arith in
      ap (λ x. leaves rules p x (drop k (t ∷ live)) 0)
      (sym (append_assoc left (b ∷ []) (bytes_in (take k (t ∷ live)))))
      ∙ (leaves-drop p (left ++ b ∷ []) (t ∷ live) k rest
      ∙ ap (λ l. drop (suc k) l) (sym (leaves-byte p left b (t ∷ live) 0)))

  -- silence before the live ticks leaves first
  pub leaves-behind : (p : Bool) (n : ℕ) (live : List Tick)
      → leaves rules p [] (silent n ++ live) 0 ≡ silent n ++ leaves rules p [] live 0
  leaves-behind p zero live = refl
  leaves-behind p (suc n) live =
      leaves-silent p [] (silent n ++ live) 0 ∙ ap (λ l. Silent ∷ l) (leaves-behind p n live)

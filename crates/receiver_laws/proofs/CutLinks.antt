-- What a causal walk notes before the end of a line doesn't change when the line goes on. So a
-- burst that the end cuts off isn't noted.
use Rattle.frame_ending.proofs.Walks.{adds_one_tick, before-early, before-late}
use Rattle.frame_ending.specs.Causal.{IsCausal}
use Rattle.frame_ending.specs.Walk.{Walker, Noted, walked, notes_before, notes_at, notes_of}
use Rattle.std.proofs.Common.{◌≡◌, ◌∙◌, ◌==◌, ℕ, ◌+◌, ◌≤◌, nat_lt, List, [], ◌∷◌, ◌++◌, length}
use Rattle.std.proofs.Common.{refl, sym, ap, arith, ⊎_elim, append_assoc, length-append}
use Rattle.std.proofs.lemmas.Bool.{cases_lt, cases_Bool, cond-true, cond-false, eqb-true}
use Rattle.std.proofs.lemmas.List.{append-nil, Elements.filter-append}
use Rattle.yasir_ticks.specs.{Bursts.bursts, declared.tick.Tick.Tick}

module _ {N : Type 0} where
  before-before : (m k : ℕ) (l : List (Noted N)) → m ≤ k
      → notes_before m (notes_before k l) ≡ notes_before m l
  before-before m k [] within = refl
  before-before m k (n ∷ l) within =
      let rest = before-before m k l within in
      ⊎_elim
      (λ early. ap (λ x. notes_before m x) (before-early k n l early)
      ∙ ⊎_elim
      (λ soon. before-early m n (notes_before k l) soon
      ∙ (ap (λ x. n ∷ x) rest ∙ sym (before-early m n l soon)))
      (λ late. before-late m n (notes_before k l) late ∙ (rest ∙ sym (before-late m n l late)))
      (cases_lt n.tick m))
      (λ late. let h : m ≤ n.tick = omega arith in
      ap (λ x. notes_before m x) (before-late k n l late)
      ∙ (rest ∙ sym (before-late m n l h)))
      (cases_lt n.tick k)

  before-at : (m : ℕ) (l : List (Noted N)) → notes_before m (notes_at m l) ≡ []
  before-at m [] = refl
  before-at m (n ∷ l) =
      ⊎_elim
      (λ here. let same : n.tick ≡ m = eqb-true n.tick m here in
      let late : m ≤ n.tick = omega arith in
      ap (λ x. notes_before m x) (cond-true (n.tick == m) (n ∷ notes_at m l) (notes_at m l) here)
      ∙ (before-late m n (notes_at m l) late ∙ before-at m l))
      (λ other. ap (λ x. notes_before m x)
      (cond-false (n.tick == m) (n ∷ notes_at m l) (notes_at m l) other)
      ∙ before-at m l)
      (cases_Bool (n.tick == m))

module _ {S N : Type 0} (w : Walker S N) (causal : IsCausal w) where
  pub notes-settled : (s : S) (line more : List Tick)
      → notes_before (length line) (walked w s (bursts (line ++ more))) ≡ notes_of w s line
  notes-settled s line [] =
      ap (λ l. notes_before (length line) (walked w s (bursts l))) (append-nil line)
  notes-settled s line (t ∷ more) =
      let m : ℕ = length line in
      let longer : List Tick = line ++ t ∷ [] in
      let long : length longer ≡ m + 1 = length-append line (t ∷ []) in
      let within : m ≤ length longer = omega arith in
      let whole : longer ++ more ≡ line ++ t ∷ more = append_assoc line (t ∷ []) more in
      let all : List (Noted N) = walked w s (bursts (line ++ t ∷ more)) in
      let added : List (Noted N) = notes_at m (walked w s (bursts longer)) in
      let here : notes_before (length longer) all ≡ notes_of w s line ++ added =
      ap (λ l. notes_before (length longer) (walked w s (bursts l))) (sym whole)
      ∙ (notes-settled s longer more ∙ (adds_one_tick w causal s line t).notes) in
      sym (before-before m (length longer) all within)
      ∙ (ap (λ x. notes_before m x) here
      ∙ (filter-append (λ n. nat_lt n.tick m) (notes_of w s line) added
      ∙ (ap (λ x. notes_before m (notes_of w s line) ++ x)
      (before-at m (walked w s (bursts longer)))
      ∙ (append-nil (notes_before m (notes_of w s line))
      ∙ before-before m m (walked w s (bursts line)) (omega arith)))))

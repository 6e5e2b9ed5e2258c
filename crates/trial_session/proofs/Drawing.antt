-- One more draw.
use Rattle.std.proofs.Common.{◌≡◌, ◌∙◌, ℕ, zero, suc, ◌+◌, ◌%◌, List, [], ◌∷◌, ◌++◌, refl, ap, sym}
use Rattle.std.proofs.Common.{map, arith, add_comm}
use Rattle.{std.proofs.lemmas.List.map-append, trial_session.specs.Alterations.alteration_of}
use Rattle.trial_session.specs.Draws.{next_state, drawn, draw_state_after, draws, bytes_drawn, nth_drawn}

pub state_after-suc : (n x : ℕ) → draw_state_after (suc n) x ≡ next_state (draw_state_after n x)
unfolding draw_state_after
state_after-suc zero x = refl
state_after-suc (suc n) x = state_after-suc n (next_state x)

pub draws-suc : (n x : ℕ) → draws (suc n) x ≡ draws n x ++ drawn (draw_state_after (suc n) x) ∷ []
unfolding draws draw_state_after
draws-suc zero x = refl
draws-suc (suc n) x = ap (λ l. drawn (next_state x) ∷ l) (draws-suc n (next_state x))

pub state_after-more : (n x : ℕ) → draw_state_after (n + 1) x ≡ next_state (draw_state_after n x)
state_after-more n x =
    let more : n + 1 ≡ suc n = omega arith in
    ap (λ k. draw_state_after k x) more ∙ state_after-suc n x

pub bytes_drawn-more : (n x : ℕ)
    → bytes_drawn (n + 1) x ≡ bytes_drawn n x ++ (drawn (next_state (draw_state_after n x)) % 256) ∷ []
bytes_drawn-more n x =
    let more : n + 1 ≡ suc n = omega arith in
    ap (λ k. bytes_drawn k x) more
    ∙ ap (map (λ d. d % 256)) (draws-suc n x)
    ∙ map-append (λ d. d % 256) (draws n x) (drawn (draw_state_after (suc n) x) ∷ [])
    ∙ ap (λ s. bytes_drawn n x ++ (drawn s % 256) ∷ []) (state_after-suc n x)

-- Draws in two parts: n more draws after m.
pub state_after-add : (m n x : ℕ) → draw_state_after (m + n) x ≡ draw_state_after n (draw_state_after m x)
unfolding draw_state_after
state_after-add zero n x =
    let same : 0 + n ≡ n = omega arith in
    ap (λ k. draw_state_after k x) same
state_after-add (suc m) n x =
    let more : suc m + n ≡ suc (m + n) = omega arith in
    ap (λ k. draw_state_after k x) more ∙ state_after-add m n (next_state x)

pub state_after-zero : (x : ℕ) → draw_state_after 0 x ≡ x
unfolding draw_state_after
state_after-zero x = refl

pub bytes_drawn-zero : (x : ℕ) → bytes_drawn 0 x ≡ []
unfolding draws
bytes_drawn-zero x = refl

-- If a value holds the state after n draws, it gives the next byte that is drawn.
pub drawn-more : (bytes : List ℕ) (n x state value next : ℕ) → state ≡ draw_state_after n x
    → bytes ≡ bytes_drawn n x → next ≡ next_state state → value ≡ drawn next
    → bytes ++ (value % 256) ∷ [] ≡ bytes_drawn (n + 1) x
drawn-more bytes n x state value next is so stepped gives =
    let last : value ≡ drawn (next_state (draw_state_after n x)) =
    gives ∙ ap drawn (stepped ∙ ap next_state is) in
    ap (λ l. l ++ (value % 256) ∷ []) so
    ∙ ap (λ d. bytes_drawn n x ++ (d % 256) ∷ []) last ∙ sym (bytes_drawn-more n x)

-- ---- a few draws

pub after-one : (x : ℕ) → draw_state_after 1 x ≡ next_state x
unfolding draw_state_after
after-one x = refl

pub after-two : (x : ℕ) → draw_state_after 2 x ≡ next_state (next_state x)
unfolding draw_state_after
after-two x = refl

pub after-three : (x : ℕ) → draw_state_after 3 x ≡ next_state (next_state (next_state x))
unfolding draw_state_after
after-three x = refl

-- three draws in a row
module _ (x one two three a b c : ℕ) (first : one ≡ next_state x) (second : two ≡ next_state one)
    (third : three ≡ next_state two) where
  pub one-is : one ≡ draw_state_after 1 x
  one-is = first ∙ sym (after-one x)

  pub two-is : two ≡ draw_state_after 2 x
  two-is = second ∙ ap next_state first ∙ sym (after-two x)

  pub three-is : three ≡ draw_state_after 3 x
  three-is = third ∙ ap next_state (second ∙ ap next_state first) ∙ sym (after-three x)

  pub alteration-is : (n : ℕ) → a ≡ drawn one → b ≡ drawn two → c ≡ drawn three
      → alteration_of (a % 8) (b % n) (c % 255 + 1)
      ≡ alteration_of (nth_drawn 1 x % 8) (nth_drawn 2 x % n) (1 + nth_drawn 3 x % 255)
  alteration-is n a_is b_is c_is =
      ap (λ k. alteration_of (k % 8) (b % n) (c % 255 + 1)) (a_is ∙ ap drawn one-is)
      ∙ ap (λ k. alteration_of (nth_drawn 1 x % 8) (k % n) (c % 255 + 1)) (b_is ∙ ap drawn two-is)
      ∙ ap (λ k. alteration_of (nth_drawn 1 x % 8) (nth_drawn 2 x % n) (k % 255 + 1))
      (c_is ∙ ap drawn three-is)
      ∙ ap (λ k. alteration_of (nth_drawn 1 x % 8) (nth_drawn 2 x % n) k)
      (add_comm (nth_drawn 3 x % 255) 1)

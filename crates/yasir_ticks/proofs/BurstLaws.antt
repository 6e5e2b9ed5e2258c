-- The bursts of a line that goes on by one tick. The cut is any number, since each device has its
-- own.
use Rattle.std.proofs.Common.{◌≡◌, ℕ, zero, suc, ◌+◌, ◌-◌, ◌<◌, ◌≤◌, nat_lt, cond, List, [], ◌∷◌}
use Rattle.std.proofs.Common.{◌++◌, length, refl, arith, sym, ◌∙◌, ap, append_assoc, length-append}
use Rattle.std.proofs.Common.{add-one, subst, ⊎_elim}
use Rattle.std.proofs.lemmas.Bool.{cases_lt, lt-ltb, le-ltb, cond-true, cond-false}
use Rattle.std.proofs.lemmas.List.{append-nil, length-replicate}
use Rattle.yasir_ticks.specs.Bursts.{Burst, with_byte, bursts_from, end_of, AreClosed}
use Rattle.yasir_ticks.specs.{BurstsOf.StartsFrom, Ticks.silent}
use Rattle.yasir_ticks.specs.declared.tick.Tick.{Tick, TheVariants.Silent, TheVariants.Byte}

-- a burst of one byte
abbrev pub alone : ℕ → ℕ → Burst
alone m b = record { start = m; body = Byte b ∷ [] }

-- a burst that a byte at tick m has joined at its end
abbrev pub with_last : Burst → ℕ → ℕ → Burst
with_last d m b = record {
  start = d.start;
  body = d.body ++ (silent (m - end_of d) ++ (Byte b ∷ []));
}

-- a burst that a byte at tick n has joined at its start
abbrev pub with_first : ℕ → ℕ → Burst → Burst
with_first n b d = record { start = n; body = Byte b ∷ (silent (d.start - suc n) ++ d.body) }

-- these bursts, with a byte at tick m put after them
unfoldable pub extended : ℕ → ℕ → ℕ → List Burst → List Burst
extended cut m b [] = alone m b ∷ []
extended cut m b (d ∷ []) =
    cond (nat_lt m (end_of d + cut)) (with_last d m b ∷ []) (d ∷ alone m b ∷ [])
extended cut m b (d ∷ e ∷ ds) = d ∷ extended cut m b (e ∷ ds)

module _ (cut : ℕ) where
  pub with_byte-near : (n b : ℕ) (d : Burst) (ds : List Burst) → d.start < suc n + cut
      → with_byte cut n b (d ∷ ds) ≡ with_first n b d ∷ ds
  unfolding with_byte
  with_byte-near n b d ds near = cond-true _ _ _ (lt-ltb d.start (suc n + cut) near)

  pub with_byte-far : (n b : ℕ) (d : Burst) (ds : List Burst) → suc n + cut ≤ d.start
      → with_byte cut n b (d ∷ ds) ≡ alone n b ∷ d ∷ ds
  unfolding with_byte
  with_byte-far n b d ds far = cond-false _ _ _ (le-ltb d.start (suc n + cut) far)

  pub extended-near : (m b : ℕ) (d : Burst) → m < end_of d + cut
      → extended cut m b (d ∷ []) ≡ with_last d m b ∷ []
  unfolding extended
  extended-near m b d near = cond-true _ _ _ (lt-ltb m (end_of d + cut) near)

  pub extended-far : (m b : ℕ) (d : Burst) → end_of d + cut ≤ m
      → extended cut m b (d ∷ []) ≡ d ∷ alone m b ∷ []
  unfolding extended
  extended-far m b d far = cond-false _ _ _ (le-ltb m (end_of d + cut) far)

  pub extended-cons : (m b : ℕ) (d e : Burst) (ds : List Burst)
      → extended cut m b (d ∷ e ∷ ds) ≡ d ∷ extended cut m b (e ∷ ds)
  unfolding extended
  extended-cons m b d e ds = refl

  -- A byte before a single burst and a byte after it may be added in either order, if the first
  -- byte is too far from the burst to join it.
  both-far : (n m a b : ℕ) (d : Burst) → suc n + cut ≤ d.start
      → extended cut m b (with_byte cut n a (d ∷ []))
      ≡ with_byte cut n a (extended cut m b (d ∷ []))
  both-far n m a b d far =
      ap (λ x. extended cut m b x) (with_byte-far n a d [] far)
      ∙ (extended-cons m b (alone n a) d []
      ∙ ⊎_elim
      (λ near. ap (λ x. alone n a ∷ x) (extended-near m b d near)
      ∙ sym (ap (λ x. with_byte cut n a x) (extended-near m b d near)
      ∙ with_byte-far n a (with_last d m b) [] far))
      (λ away. ap (λ x. alone n a ∷ x) (extended-far m b d away)
      ∙ sym (ap (λ x. with_byte cut n a x) (extended-far m b d away)
      ∙ with_byte-far n a d (alone m b ∷ []) far))
      (cases_lt m (end_of d + cut)))

  end_of-with_first : (n a : ℕ) (d : Burst) → suc n ≤ d.start → end_of (with_first n a d) ≡ end_of d
  end_of-with_first n a d later =
      let body : length (silent (d.start - suc n) ++ d.body) ≡ d.start - suc n + length d.body =
      length-append (silent (d.start - suc n)) d.body
      ∙ ap (λ k. k + length d.body) (length-replicate (d.start - suc n) Silent) in
      omega arith

  with_last-with_first : (n m a b : ℕ) (d : Burst) → suc n ≤ d.start
      → with_last (with_first n a d) m b ≡ with_first n a (with_last d m b)
  with_last-with_first n m a b d later =
      ap (λ x. let u : Burst = record { start = n; body = Byte a ∷ x } in u)
      (append_assoc (silent (d.start - suc n)) d.body
      (silent (m - end_of (with_first n a d)) ++ (Byte b ∷ []))
      ∙ ap (λ k. silent (d.start - suc n) ++ (d.body ++ (silent (m - k) ++ (Byte b ∷ []))))
      (end_of-with_first n a d later))

  -- A byte before a single burst and a byte after it may be added in either order, if the first
  -- byte joins the burst.
  both-near : (n m a b : ℕ) (d : Burst) → suc n ≤ d.start → d.start < suc n + cut
      → extended cut m b (with_byte cut n a (d ∷ []))
      ≡ with_byte cut n a (extended cut m b (d ∷ []))
  both-near n m a b d later near =
      let end : end_of (with_first n a d) ≡ end_of d = end_of-with_first n a d later in
      ap (λ x. extended cut m b x) (with_byte-near n a d [] near)
      ∙ ⊎_elim
      (λ soon. let soon' : m < end_of (with_first n a d) + cut = rw end soon in
      extended-near m b (with_first n a d) soon'
      ∙ (ap (λ x. x ∷ []) (with_last-with_first n m a b d later)
      ∙ sym (ap (λ x. with_byte cut n a x) (extended-near m b d soon)
      ∙ with_byte-near n a (with_last d m b) [] near)))
      (λ away. let away' : end_of (with_first n a d) + cut ≤ m = rw end away in
      extended-far m b (with_first n a d) away'
      ∙ sym (ap (λ x. with_byte cut n a x) (extended-far m b d away)
      ∙ with_byte-near n a d (alone m b ∷ []) near))
      (cases_lt m (end_of d + cut))

  -- Two bytes may be added to a line without bursts in either order.
  both-alone : (n m a b : ℕ) → n < m
      → extended cut m b (with_byte cut n a []) ≡ with_byte cut n a (extended cut m b [])
  unfolding with_byte extended
  both-alone n m a b before = rw (add-one n) refl

  -- A byte before any bursts and a byte after them may be added in either order.
  extended-with_byte : (n m a b : ℕ) (ds : List Burst) → n < m → StartsFrom (suc n) ds
      → extended cut m b (with_byte cut n a ds) ≡ with_byte cut n a (extended cut m b ds)
  extended-with_byte n m a b [] before starts = both-alone n m a b before
  extended-with_byte n m a b (d ∷ []) before starts =
      ⊎_elim (λ near. both-near n m a b d starts near) (λ far. both-far n m a b d far)
      (cases_lt d.start (suc n + cut))
  extended-with_byte n m a b (d ∷ e ∷ ds) before starts =
      let more : with_byte cut n a (extended cut m b (d ∷ e ∷ ds))
      ≡ with_byte cut n a (d ∷ extended cut m b (e ∷ ds)) =
      ap (λ x. with_byte cut n a x) (extended-cons m b d e ds) in
      ⊎_elim
      (λ near. ap (λ x. extended cut m b x) (with_byte-near n a d (e ∷ ds) near)
      ∙ (extended-cons m b (with_first n a d) e ds
      ∙ sym (more ∙ with_byte-near n a d (extended cut m b (e ∷ ds)) near)))
      (λ far. ap (λ x. extended cut m b x) (with_byte-far n a d (e ∷ ds) far)
      ∙ (extended-cons m b (alone n a) d (e ∷ ds)
      ∙ (ap (λ x. alone n a ∷ x) (extended-cons m b d e ds)
      ∙ sym (more ∙ with_byte-far n a d (extended cut m b (e ∷ ds)) far))))
      (cases_lt d.start (suc n + cut))

  with_byte-starts-nil : (n b : ℕ) → StartsFrom n (with_byte cut n b [])
  unfolding with_byte
  with_byte-starts-nil n b = omega arith

  with_byte-starts : (n b : ℕ) (ds : List Burst) → StartsFrom n (with_byte cut n b ds)
  with_byte-starts n b [] = with_byte-starts-nil n b
  with_byte-starts n b (d ∷ ds) =
      ⊎_elim
      (λ near. let P : List Burst → Type 0 = λ x. StartsFrom n x in
      subst P (sym (with_byte-near n b d ds near)) (omega arith))
      (λ far. let P : List Burst → Type 0 = λ x. StartsFrom n x in
      subst P (sym (with_byte-far n b d ds far)) (omega arith))
      (cases_lt d.start (suc n + cut))

  StartsFrom-weaker : (n m : ℕ) (ds : List Burst) → n ≤ m → StartsFrom m ds → StartsFrom n ds
  StartsFrom-weaker n m [] le starts = tt
  StartsFrom-weaker n m (d ∷ ds) le starts = omega arith

  pub bursts_from-starts : (n : ℕ) (l : List Tick) → StartsFrom n (bursts_from cut n l)
  unfolding bursts_from
  bursts_from-starts n [] = tt
  bursts_from-starts n (Silent ∷ l) = StartsFrom-weaker n (suc n) (bursts_from cut (suc n) l)
      (omega arith) (bursts_from-starts (suc n) l)
  bursts_from-starts n (Byte b ∷ l) = with_byte-starts n b (bursts_from cut (suc n) l)

  -- One more byte of a line joins the last burst, or is a burst of its own.
  pub bursts_from-byte : (n m b : ℕ) (l : List Tick) → n + length l ≡ m
      → bursts_from cut n (l ++ Byte b ∷ []) ≡ extended cut m b (bursts_from cut n l)
  unfolding bursts_from with_byte extended
  bursts_from-byte n m b [] here = let e : n ≡ m = omega arith in ap (λ k. alone k b ∷ []) e
  bursts_from-byte n m b (Silent ∷ l) here = let e : suc n + length l ≡ m = omega arith in
      bursts_from-byte (suc n) m b l e
  bursts_from-byte n m b (Byte a ∷ l) here =
      let e : suc n + length l ≡ m = omega arith in
      let before : n < m = omega arith in
      ap (λ x. with_byte cut n a x) (bursts_from-byte (suc n) m b l e)
      ∙ sym (extended-with_byte n m a b (bursts_from cut (suc n) l) before
      (bursts_from-starts (suc n) l))

  -- Silence at the end of a line changes no burst.
  pub bursts_from-silent : (n : ℕ) (l : List Tick)
      → bursts_from cut n (l ++ Silent ∷ []) ≡ bursts_from cut n l
  unfolding bursts_from
  bursts_from-silent n [] = refl
  bursts_from-silent n (Silent ∷ l) = bursts_from-silent (suc n) l
  bursts_from-silent n (Byte a ∷ l) = ap (λ x. with_byte cut n a x) (bursts_from-silent (suc n) l)

  pub bursts_from-silent_end : (n k : ℕ) (l : List Tick)
      → bursts_from cut n (l ++ silent k) ≡ bursts_from cut n l
  bursts_from-silent_end n zero l = ap (λ x. bursts_from cut n x) (append-nil l)
  bursts_from-silent_end n (suc k) l =
      ap (λ x. bursts_from cut n x) (sym (append_assoc l (Silent ∷ []) (silent k)))
      ∙ (bursts_from-silent_end n k (l ++ Silent ∷ []) ∙ bursts_from-silent n l)

  pub extended-nil : (m b : ℕ) → extended cut m b [] ≡ alone m b ∷ []
  unfolding extended
  extended-nil m b = refl

  -- After bursts that are all closed, a byte is a burst of its own.
  pub extended-closed : (m b : ℕ) (ds : List Burst) → AreClosed cut m ds
      → extended cut m b ds ≡ ds ++ alone m b ∷ []
  extended-closed m b [] closed = extended-nil m b
  extended-closed m b (d ∷ []) closed = extended-far m b d closed.0
  extended-closed m b (d ∷ e ∷ ds) closed =
      extended-cons m b d e ds ∙ ap (λ x. d ∷ x) (extended-closed m b (e ∷ ds) closed.1)

  -- A byte joins the last burst if fewer than `cut` silent ticks separate them.
  pub extended-joins : (m b : ℕ) (front : List Burst) (d : Burst) → m < end_of d + cut
      → extended cut m b (front ++ d ∷ []) ≡ front ++ with_last d m b ∷ []
  extended-joins m b [] d near = extended-near m b d near
  extended-joins m b (x ∷ []) d near = extended-cons m b x d []
      ∙ ap (λ y. x ∷ y) (extended-near m b d near)
  extended-joins m b (x ∷ e ∷ front) d near =
      extended-cons m b x e (front ++ d ∷ [])
      ∙ ap (λ y. x ∷ y) (extended-joins m b (e ∷ front) d near)

-- Bursts that are closed stay closed.
pub AreClosed-later : (cut m n : ℕ) (ds : List Burst) → m ≤ n → AreClosed cut m ds
    → AreClosed cut n ds
AreClosed-later cut m n [] le closed = tt
AreClosed-later cut m n (d ∷ ds) le closed =
    (omega (arith, closed.0), AreClosed-later cut m n ds le closed.1)

pub AreClosed-more : (cut m : ℕ) (ds : List Burst) (d : Burst) → AreClosed cut m ds
    → end_of d + cut ≤ m → AreClosed cut m (ds ++ d ∷ [])
AreClosed-more cut m [] d closed last = (last, tt)
AreClosed-more cut m (e ∷ ds) d closed last = (closed.0, AreClosed-more cut m ds d closed.1 last)

-- The lines of the notes of some steps, as more steps go by.
use Rattle.frame_ending.specs.{Answers.note_in}
use Rattle.line_commands.specs.Boxes.{line_of_note}
use Rattle.line_commands.specs.TimedLines.{timed_lines, lines_at, lines_before}
use Rattle.session_lists.specs.FrameList.{KeptFrames}
use Rattle.std.proofs.Common.{◌≡◌, ◌∙◌, ℕ, zero, suc, ◌+◌, ◌-◌, ◌<◌, ◌≤◌, List, [], ◌∷◌, ◌++◌, length}
use Rattle.std.proofs.Common.{Bool, eqb, true, false, Option, Some, None, refl, sym, ap, subst, arith}
use Rattle.std.proofs.Common.{append-nil}
use Rattle.std.proofs.lemmas.Bool.{ne_eqb, eq-eqb}
use Rattle.std.proofs.lemmas.Grind.{flat_map-append}
use Rattle.std.proofs.lemmas.List.{map-append}
use Rattle.std.specs.List.{flat_map}
use Rattle.std.specs.Prelude.{cond, if◌then◌else◌}
use Rattle.two_wire.specs.Gate.{GateState, holds_back, gate_after, held_steps}
use Rattle.two_wire.specs.declared.{gate.Side.Side, gate.Waits.Waits}
use Rattle.wire_commands.specs.Making.{AreBefore}
use Rattle.wire_commands.specs.WireLines.{held_line, held_lines}
use Rattle.yasir_ticks.specs.declared.tick.Tick.{Tick}

abbrev pub Lines : Type 0
Lines = List (KeptFrames ℕ)

-- ---- lines by the steps into which they fall

abbrev pub AllAt : ℕ → Lines → Type 0
AllAt n [] = Unit {0}
AllAt n (k ∷ lines) = (k.head ≡ n) × AllAt n lines

abbrev pub text_in : Lines → List ℕ
text_in lines = flat_map (λ k. k.frame) lines

at-append : (n : ℕ) (a b : Lines) → lines_at n (a ++ b) ≡ lines_at n a ++ lines_at n b
at-append n a b = flat_map-append (λ line. cond (eqb line.head n) line.frame []) a b

none-below : (n : ℕ) (a : Lines) → AreBefore n a → lines_at n a ≡ []
none-below n [] below = refl
none-below n (k ∷ a) below =
    let differ : eqb k.head n ≡ false = ne_eqb k.head n (λ same. omega (arith, same, below.0)) in
    rw differ (none-below n a below.1)

none-later : (m n : ℕ) (a : Lines) → AllAt n a → m < n → lines_at m a ≡ []
none-later m n [] at earlier = refl
none-later m n (k ∷ a) at earlier =
    let differ : eqb k.head m ≡ false = ne_eqb k.head m (λ same. omega (arith, same, at.0, earlier)) in
    rw differ (none-later m n a at.1 earlier)

all-now : (n : ℕ) (a : Lines) → AllAt n a → lines_at n a ≡ text_in a
all-now n [] at = refl
all-now n (k ∷ a) at =
    let same : eqb k.head n ≡ true = eq-eqb k.head n at.0 in
    rw same (ap (λ l. k.frame ++ l) (all-now n a at.1))

-- ---- one more step

module _ (n : ℕ) (a b c x y z : Lines) (at_x : AllAt n x) (at_y : AllAt n y) (at_z : AllAt n z) where
  abbrev second : Lines
  second = (b ++ y) ++ (c ++ z)

  -- Lines of a later step change nothing of those before.
  before-same : (m : ℕ) → m ≤ n → lines_before m (a ++ x) second ≡ lines_before m a (b ++ c)
  before-same zero within = refl
  before-same (suc m) within =
      let first_at : lines_at m (a ++ x) ≡ lines_at m a =
      at-append m a x ∙ (ap (λ l. lines_at m a ++ l) (none-later m n x at_x (omega (arith, within)))
      ∙ append-nil (lines_at m a)) in
      let b_at : lines_at m (b ++ y) ≡ lines_at m b =
      at-append m b y ∙ (ap (λ l. lines_at m b ++ l) (none-later m n y at_y (omega (arith, within)))
      ∙ append-nil (lines_at m b)) in
      let c_at : lines_at m (c ++ z) ≡ lines_at m c =
      at-append m c z ∙ (ap (λ l. lines_at m c ++ l) (none-later m n z at_z (omega (arith, within)))
      ∙ append-nil (lines_at m c)) in
      rw (
        before-same m (omega (arith, within)),
        first_at,
        at-append m (b ++ y) (c ++ z),
        b_at,
        c_at,
        at-append m b c,
      ) refl

  module _ (below_a : AreBefore n a) (below_b : AreBefore n b) (below_c : AreBefore n c) where
    now-at : (l m : Lines) → AreBefore n l → AllAt n m → lines_at n (l ++ m) ≡ text_in m
    now-at l m below at =
        at-append n l m ∙ (ap (λ k. k ++ lines_at n m) (none-below n l below) ∙ all-now n m at)

    lines-more : lines_before (suc n) (a ++ x) second
        ≡ lines_before n a (b ++ c) ++ (text_in x ++ (text_in y ++ text_in z))
    lines-more = rw (
      before-same n (omega arith),
      now-at a x below_a at_x,
      at-append n (b ++ y) (c ++ z),
      now-at b y below_b at_y,
      now-at c z below_c at_z,
    ) refl

-- ---- steps into which no line falls

pub before-append : (n : ℕ) (a b : Lines) → AreBefore n a → AreBefore n b → AreBefore n (a ++ b)
before-append n [] b first second = second
before-append n (k ∷ a) b first second = (first.0, before-append n a b first.1 second)

pub before-later : (n m : ℕ) (a : Lines) → n ≤ m → AreBefore n a → AreBefore m a
before-later n m [] later before = tt
before-later n m (k ∷ a) later before =
    (omega (arith, later, before.0), before-later n m a later before.1)

pub before-from : (n m : ℕ) (a : Lines) → n < m → AllAt n a → AreBefore m a
before-from n m [] later at = tt
before-from n m (k ∷ a) later at =
    (omega (arith, later, at.0), before-from n m a later at.1)

lines-stay : (more n : ℕ) (a b : Lines) → AreBefore n a → AreBefore n b
    → lines_before (n + more) a b ≡ lines_before n a b
lines-stay zero n a b before_a before_b =
    let same : n + 0 ≡ n = omega arith in ap (λ k. lines_before k a b) same
lines-stay (suc more) n a b before_a before_b =
    let next : n + suc more ≡ suc (n + more) = omega arith in
    let now_a = none-below (n + more) a (before-later n (n + more) a (omega arith) before_a) in
    let now_b = none-below (n + more) b (before-later n (n + more) b (omega arith) before_b) in
    ap (λ k. lines_before k a b) next
    ∙ (ap (λ l. lines_before (n + more) a b ++ (l ++ lines_at (n + more) b)) now_a
    ∙ (ap (λ l. lines_before (n + more) a b ++ l) now_b
    ∙ (append-nil (lines_before (n + more) a b) ∙ lines-stay more n a b before_a before_b)))

-- Some steps go by, and lines fall only into the first of them.
pub lines-pass : (n count : ℕ) (a b c x y z : Lines) → 0 < count → AllAt n x → AllAt n y → AllAt n z
    → AreBefore n a → AreBefore n b → AreBefore n c
    → lines_before (n + count) (a ++ x) ((b ++ y) ++ (c ++ z))
    ≡ lines_before n a (b ++ c) ++ (text_in x ++ (text_in y ++ text_in z))
lines-pass n count a b c x y z some at_x at_y at_z before_a before_b before_c =
    let more : ℕ = count - 1 in
    let is : n + count ≡ suc n + more = omega (arith, some) in
    let both : (l m : Lines) → AreBefore n l → AllAt n m → AreBefore (suc n) (l ++ m) =
    λ l m before at. before-append (suc n) l m (before-later n (suc n) l (omega arith) before)
    (before-from n (suc n) m (omega arith) at) in
    ap (λ k. lines_before k (a ++ x) ((b ++ y) ++ (c ++ z))) is
    ∙ (lines-stay more (suc n) (a ++ x) ((b ++ y) ++ (c ++ z)) (both a x before_a at_x)
    (before-append (suc n) (b ++ y) (c ++ z) (both b y before_b at_y) (both c z before_c at_z))
    ∙ lines-more n a b c x y z at_x at_y at_z before_a before_b before_c)

-- ---- the lines of notes

module _ {N : Type 0} (line_of : N → List ℕ) where
  pub one-at : (n : ℕ) (note : Option N) → AllAt n (timed_lines line_of (note_in n note))
  one-at n None = tt
  one-at n (Some note) = (refl, tt)

  pub one-text : (n : ℕ) (note : Option N)
      → text_in (timed_lines line_of (note_in n note)) ≡ line_of_note line_of note
  one-text n None = refl
  one-text n (Some note) = append-nil (line_of note)

-- ---- the bursts that are kept back

abbrev pub held_one : ℕ → Bool → Lines
held_one n held = held_lines (if held then n ∷ [] else [])

pub held-at : (n : ℕ) (held : Bool) → AllAt n (held_one n held)
held-at n false = tt
held-at n true = (refl, tt)

pub held-text : (n : ℕ) (held : Bool)
    → text_in (held_one n held) ≡ (if held then held_line n else [])
held-text n false = refl
held-text n true = append-nil (held_line n)

one-before : (m n : ℕ) (held : Bool) → m < n → AreBefore n (held_one m held)
one-before m n false within = tt
one-before m n true within = (within, tt)

pub held-more : (a b : List ℕ) → held_lines (a ++ b) ≡ held_lines a ++ held_lines b
held-more a b = map-append _ a b

pub held-before : (side : Side) (waits : Waits) (n m : ℕ) (g : GateState) (x u : List Tick)
    → n + length x ≤ m → AreBefore m (held_lines (held_steps side waits n g x u))
held-before side waits n m g [] u within = tt
held-before side waits n m g (t ∷ x) [] within = tt
held-before side waits n m g (t ∷ x) (o ∷ u) within =
    let one : List ℕ = if holds_back side waits g t then n ∷ [] else [] in
    let rest : List ℕ = held_steps side waits (suc n) (gate_after side waits g t o) x u in
    subst (AreBefore m) (sym (held-more one rest))
    (before-append m (held_lines one) (held_lines rest)
    (one-before n m (holds_back side waits g t) (omega (arith, within)))
    (held-before side waits (suc n) m (gate_after side waits g t o) x u (omega (arith, within))))

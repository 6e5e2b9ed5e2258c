-- Ports on shared wires, and turns.
use Rattle.std.proofs.Common.{◌≡◌, ◌∙◌, ℕ, ◌≤◌, true, ◌||◌, List, []}
use Rattle.std.proofs.Common.{◌∷◌, length, refl, ap, arith}
use Rattle.yasir_ticks.specs.declared.tick.Tick.{Tick}
use Rattle.yasir_ticks.specs.declared.tick.Tick.TheVariants.{Silent, Byte}
use Rattle.two_wire.specs.declared.gate.Side.{Side}
use Rattle.two_wire.specs.declared.gate.Side.TheVariants.{Asks, Answers}
use Rattle.two_wire.specs.declared.gate.Spoken.{Spoken}
use Rattle.two_wire.specs.declared.gate.Spoken.TheVariants.{Nobody, Asker, Answerer}
use Rattle.two_wire.specs.declared.gate.Waits.{Waits}
use Rattle.two_wire.specs.Turns.{may_speak, may_ask, may_answer, may_ask_on, opposite, after_own}
use Rattle.two_wire.specs.Turns.{MaySay, InTurn, OthersInTurn, IsWithin, AreWithin}
use Rattle.two_wire.specs.Wires.{heard, hears, driven, drives, IsApart, AreApart}
use Rattle.two_wire.proofs.Keeping.{AreHeard}

pub heard-echo : (own wire : Tick) → heard own (driven own wire) ≡ heard own wire
heard-echo Silent wire = refl
heard-echo (Byte b) wire = refl

pub hears-echo : (own wires : List Tick) → hears own (drives own wires) ≡ hears own wires
hears-echo [] wires = refl
hears-echo (own ∷ owns) [] = refl
hears-echo (own ∷ owns) (wire ∷ wires) =
    ap (λ t. t ∷ hears owns (drives owns wires)) (heard-echo own wire)
    ∙ ap (λ l. heard own wire ∷ l) (hears-echo owns wires)

heard-other : (own other : Tick) → IsApart own other → heard own (driven own other) ≡ other
heard-other Silent other apart = refl
heard-other (Byte b) Silent apart = refl
heard-other (Byte b) (Byte c) apart = absurd apart

heard-own : (own other : Tick) → IsApart own other → heard other (driven own other) ≡ own
heard-own Silent Silent apart = refl
heard-own Silent (Byte c) apart = refl
heard-own (Byte b) Silent apart = refl
heard-own (Byte b) (Byte c) apart = absurd apart

pub hears-other : (own other : List Tick) → AreApart own other → hears own (drives own other) ≡ other
hears-other [] [] apart = refl
hears-other [] (o ∷ os) apart = absurd apart
hears-other (w ∷ ws) [] apart = absurd apart
hears-other (w ∷ ws) (o ∷ os) apart =
    ap (λ t. t ∷ hears ws (drives ws os)) (heard-other w o apart.0)
    ∙ ap (λ l. o ∷ l) (hears-other ws os apart.1)

pub hears-own : (own other : List Tick) → AreApart own other → hears other (drives own other) ≡ own
hears-own [] [] apart = refl
hears-own [] (o ∷ os) apart = absurd apart
hears-own (w ∷ ws) [] apart = absurd apart
hears-own (w ∷ ws) (o ∷ os) apart =
    ap (λ t. t ∷ hears os (drives ws os)) (heard-own w o apart.0)
    ∙ ap (λ l. w ∷ l) (hears-own ws os apart.1)

-- ---- turns

-- Both sides may never speak at once.
never-both : (side : Side) (waits : Waits) (spoken : Spoken) → may_speak side waits spoken ≡ true
    → may_speak (opposite side) waits spoken ≡ true → ⊥
never-both Asks waits (Nobody quiet) one two = cc
never-both Asks waits (Asker quiet) one two = grind arith
never-both Asks waits (Answerer quiet) one two = grind arith
never-both Answers waits (Nobody quiet) one two = cc
never-both Answers waits (Asker quiet) one two = grind arith
never-both Answers waits (Answerer quiet) one two = grind arith

one-speaks : (side : Side) (waits : Waits) (spoken : Spoken) (own other : Tick)
    → MaySay side waits spoken own → MaySay (opposite side) waits spoken other → IsApart own other
one-speaks side waits spoken Silent other one two = tt
one-speaks side waits spoken (Byte b) Silent one two = tt
one-speaks side waits spoken (Byte b) (Byte c) one two = never-both side waits spoken one two

pub turns-apart : (side : Side) (waits : Waits) (spoken : Spoken) (own others : List Tick)
    → length own ≡ length others → InTurn side waits spoken own others
    → OthersInTurn side waits spoken own others → AreApart own others
turns-apart side waits spoken [] [] same one two = tt
turns-apart side waits spoken [] (o ∷ os) same one two = absurd (omega arith)
turns-apart side waits spoken (w ∷ ws) [] same one two = absurd (omega arith)
turns-apart side waits spoken (w ∷ ws) (o ∷ os) same one two =
    let rest : length ws ≡ length os = omega arith in (
      one-speaks side waits spoken w o one.0 two.0,
      turns-apart side waits (after_own side spoken w o) ws os rest one.1 two.1,
    )

-- ---- what a port hears is what the others say, if both don't talk at once

pub are-heard : (own others : List Tick) → length own ≡ length others
    → AreHeard own others (hears own (drives own others))
are-heard [] others same = tt
are-heard (w ∷ ws) [] same = absurd (omega arith)
are-heard (w ∷ ws) (o ∷ os) same =
    let rest : length ws ≡ length os = omega arith in (heard-other w o, are-heard ws os rest)

pub all-heard : (own others : List Tick) → length own ≡ length others → AreHeard own others others
all-heard [] others same = tt
all-heard (w ∷ ws) [] same = absurd (omega arith)
all-heard (w ∷ ws) (o ∷ os) same =
    let rest : length ws ≡ length os = omega arith in ((λ apart. refl), all-heard ws os rest)

-- ---- one that is deaf while nobody else talks hears all

heard-deaf : (own other d : Tick) → IsApart own d → IsApart own other → IsWithin other d
    → heard d (driven own other) ≡ own
heard-deaf Silent Silent Silent apart two within = refl
heard-deaf Silent (Byte c) Silent apart two within = absurd within
heard-deaf Silent other (Byte e) apart two within = refl
heard-deaf (Byte b) other Silent apart two within = refl
heard-deaf (Byte b) other (Byte e) apart two within = absurd apart

pub hears-deafly : (own other deaf : List Tick) → AreApart own deaf → AreApart own other
    → AreWithin other deaf → hears deaf (drives own other) ≡ own
hears-deafly [] [] [] apart two within = refl
hears-deafly [] [] (d ∷ ds) apart two within = absurd apart
hears-deafly [] (o ∷ os) deaf apart two within = absurd two
hears-deafly (w ∷ ws) [] deaf apart two within = absurd two
hears-deafly (w ∷ ws) (o ∷ os) [] apart two within = absurd apart
hears-deafly (w ∷ ws) (o ∷ os) (d ∷ ds) apart two within =
    ap (λ t. t ∷ hears ds (drives ws os)) (heard-deaf w o d apart.0 two.0 within.0)
    ∙ ap (λ l. w ∷ l) (hears-deafly ws os ds apart.1 two.1 within.1)

-- on a pair of its own a box is heard by one that is never deaf while it talks
pub hears-apart : (own deaf : List Tick) → AreApart own deaf → hears deaf own ≡ own
hears-apart [] [] apart = refl
hears-apart [] (d ∷ ds) apart = absurd apart
hears-apart (w ∷ ws) [] apart = absurd apart
hears-apart (Silent ∷ ws) (Silent ∷ ds) apart = ap (λ l. Silent ∷ l) (hears-apart ws ds apart.1)
hears-apart (Silent ∷ ws) (Byte c ∷ ds) apart = ap (λ l. Silent ∷ l) (hears-apart ws ds apart.1)
hears-apart (Byte b ∷ ws) (Silent ∷ ds) apart = ap (λ l. Byte b ∷ l) (hears-apart ws ds apart.1)
hears-apart (Byte b ∷ ws) (Byte c ∷ ds) apart = absurd apart.0

-- ---- a port doesn't hear itself

one-deaf : (own wire : Tick) → IsApart own (heard own wire)
one-deaf Silent wire = tt
one-deaf (Byte b) wire = tt

pub hears-deaf : (own wires : List Tick) → length own ≡ length wires → AreApart own (hears own wires)
hears-deaf [] [] same = tt
hears-deaf [] (w ∷ ws) same = tt
hears-deaf (o ∷ os) [] same = absurd (omega arith)
hears-deaf (o ∷ os) (w ∷ ws) same =
    let rest : length os ≡ length ws = omega arith in (one-deaf o w, hears-deaf os ws rest)

-- ---- several devices on the same wires

heard-between : (own x y : Tick) → IsApart own (driven x y) → IsApart x y
    → heard x (driven own (driven x y)) ≡ driven own y
heard-between Silent Silent y apart two = refl
heard-between Silent (Byte b) Silent apart two = refl
heard-between Silent (Byte b) (Byte c) apart two = absurd two
heard-between (Byte a) Silent Silent apart two = refl
heard-between (Byte a) Silent (Byte c) apart two = absurd apart
heard-between (Byte a) (Byte b) y apart two = absurd apart

pub hears-between : (own x y : List Tick) → AreApart own (drives x y) → AreApart x y
    → hears x (drives own (drives x y)) ≡ drives own y
hears-between [] [] [] apart two = refl
hears-between [] [] (c ∷ y) apart two = absurd two
hears-between [] (b ∷ x) [] apart two = absurd two
hears-between [] (b ∷ x) (c ∷ y) apart two = absurd apart
hears-between (a ∷ own) [] y apart two = absurd apart
hears-between (a ∷ own) (b ∷ x) [] apart two = absurd two
hears-between (a ∷ own) (b ∷ x) (c ∷ y) apart two =
    ap (λ t. t ∷ hears x (drives own (drives x y))) (heard-between a b c apart.0 two.0)
    ∙ ap (λ l. driven a c ∷ l) (hears-between own x y apart.1 two.1)

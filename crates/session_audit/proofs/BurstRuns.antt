-- The bytes of a line's last burst after one more tick, and after a run.
use Rattle.frame_ending.proofs.BurstSteps.{longer-bytes, longer-end}
use Rattle.frame_ending.proofs.LastBurst.{grown, last_burst-byte, last_burst-silent, last_burst-nil}
use Rattle.frame_ending.proofs.LastBurst.{IsWithin, last_burst-within}
use Rattle.frame_ending.proofs.LiveTicks.{bytes_up_to, live_ticks-bytes}
use Rattle.frame_ending.specs.{LiveBytes.live_bytes, SoFar.last_burst}
use Rattle.frame_ending.specs.SoFar.{quiet_in, quiet_so_far, live_bytes_in, live_bytes_so_far}
use Rattle.line_rules.specs.Rules.{Rules}
use Rattle.session_audit.specs.BurstBytes.{burst_bytes_in, burst_bytes_so_far, BurstFor}
use Rattle.session_audit.specs.declared.burst_bytes.BurstBytes.{BurstBytes}
use Rattle.std.proofs.Common.{◌≡◌, ◌∙◌, ℕ, zero, suc, ◌+◌, ◌-◌, ◌<◌, ◌≤◌, List, [], ◌∷◌, ◌++◌}
use Rattle.std.proofs.Common.{length, refl, ap, sym, arith, ⊎_elim, Option, Some, None, IfSome, map}
use Rattle.std.proofs.Common.{take, min, length-append, append-nil, append_assoc}
use Rattle.std.proofs.lemmas.Bool.{cases_lt, lt-ltb, le-ltb, cond-true, cond-false}
use Rattle.std.proofs.lemmas.List.{length-replicate, take_all}
use Rattle.yasir_ticks.proofs.BurstLaws.{alone, with_last}
use Rattle.yasir_ticks.specs.{Bursts.Burst, Bursts.end_of, Ticks.silent, Ticks.bytes_in}
use Rattle.yasir_ticks.specs.declared.tick.Tick.{Tick, TheVariants.Silent, TheVariants.Byte}

longer-line : (line : List Tick) (t : Tick) → length (line ++ t ∷ []) ≡ length line + 1
longer-line line t = length-append line (t ∷ [])

-- The last burst of a line ends within the line.
last-within : (line : List Tick) → IfSome (last_burst line) (IsWithin (length line))
last-within line = by_last (last_burst line) refl
  where
    by_last : (o : Option Burst) → last_burst line ≡ o → IfSome o (IsWithin (length line))
    by_last None is = tt
    by_last (Some d) is = last_burst-within line d is

-- What a byte at tick `m` does to the last burst: after four silent ticks it begins a new burst,
-- and otherwise it goes on with the last one.
record ByByte (m b : ℕ) (o : Option Burst) : Type 0 where
  loud : quiet_in (m + 1) (Some (grown m b o)) ≡ 0
  first : 4 ≤ quiet_in m o → burst_bytes_in (Some (grown m b o)) ≡ b ∷ []
  further : quiet_in m o < 4 → burst_bytes_in (Some (grown m b o)) ≡ burst_bytes_in o ++ b ∷ []

by-byte : (m b : ℕ) (o : Option Burst) → IfSome o (IsWithin m) → ByByte m b o
by-byte m b None within = record {
  loud = omega arith;
  first = λ quiet. refl;
  further = λ few. absurd (omega arith);
}
by-byte m b (Some d) within = ⊎_elim near far (cases_lt m (end_of d + 4))
  where
    near : m < end_of d + 4 → ByByte m b (Some d)
    near few =
        let is : grown m b (Some d) ≡ with_last d m b =
        cond-true _ _ _ (lt-ltb m (end_of d + 4) few) in
        let end : end_of (with_last d m b) ≡ m + 1 = longer-end m b d within in
        let none : quiet_in (m + 1) (Some (with_last d m b)) ≡ 0 = omega arith in
        record {
          loud = ap (λ x. quiet_in (m + 1) (Some x)) is ∙ none;
          first = λ quiet. absurd (omega arith);
          further = λ still. ap (λ x. bytes_in x.body) is ∙ longer-bytes m b d within;
        }

    far : end_of d + 4 ≤ m → ByByte m b (Some d)
    far many =
        let is : grown m b (Some d) ≡ alone m b =
        cond-false _ _ _ (le-ltb m (end_of d + 4) many) in
        let none : quiet_in (m + 1) (Some (alone m b)) ≡ 0 = omega arith in
        record {
          loud = ap (λ x. quiet_in (m + 1) (Some x)) is ∙ none;
          first = λ quiet. ap (λ x. bytes_in x.body) is;
          further = λ still. absurd (omega arith);
        }

-- ---- a byte

module _ (line : List Tick) (b : ℕ) where
  pub loud-byte : quiet_so_far (line ++ Byte b ∷ []) ≡ 0
  loud-byte =
      let by = by-byte (length line) b (last_burst line) (last-within line) in
      ap (λ o. quiet_in (length (line ++ Byte b ∷ [])) o) (last_burst-byte line b)
      ∙ (ap (λ m. quiet_in m (Some (grown (length line) b (last_burst line))))
      (longer-line line (Byte b))
      ∙ by.loud)

  first-byte : 4 ≤ quiet_so_far line → burst_bytes_so_far (line ++ Byte b ∷ []) ≡ b ∷ []
  first-byte quiet =
      let by = by-byte (length line) b (last_burst line) (last-within line) in
      ap burst_bytes_in (last_burst-byte line b) ∙ by.first quiet

  further-byte : quiet_so_far line < 4
      → burst_bytes_so_far (line ++ Byte b ∷ []) ≡ burst_bytes_so_far line ++ b ∷ []
  further-byte few =
      let by = by-byte (length line) b (last_burst line) (last-within line) in
      ap burst_bytes_in (last_burst-byte line b) ∙ by.further few

-- ---- a run of bytes

pub further-run : (x : List ℕ) (line : List Tick) → quiet_so_far line < 4
    → burst_bytes_so_far (line ++ map Byte x) ≡ burst_bytes_so_far line ++ x
further-run [] line few =
    ap burst_bytes_so_far (append-nil line) ∙ sym (append-nil (burst_bytes_so_far line))
further-run (b ∷ x) line few =
    let loud = loud-byte line b in
    ap burst_bytes_so_far (sym (append_assoc line (Byte b ∷ []) (map Byte x)))
    ∙ (further-run x (line ++ Byte b ∷ []) (omega arith)
    ∙ (ap (λ l. l ++ x) (further-byte line b few)
    ∙ append_assoc (burst_bytes_so_far line) (b ∷ []) x))

pub first-run : (b : ℕ) (x : List ℕ) (line : List Tick) → 4 ≤ quiet_so_far line
    → burst_bytes_so_far (line ++ map Byte (b ∷ x)) ≡ b ∷ x
first-run b x line quiet =
    let loud = loud-byte line b in
    ap burst_bytes_so_far (sym (append_assoc line (Byte b ∷ []) (map Byte x)))
    ∙ (further-run x (line ++ Byte b ∷ []) (omega arith)
    ∙ ap (λ l. l ++ x) (first-byte line b quiet))

pub loud-run : (b : ℕ) (x : List ℕ) (line : List Tick)
    → quiet_so_far (line ++ map Byte (b ∷ x)) ≡ 0
loud-run b [] line = loud-byte line b
loud-run b (c ∷ x) line =
    ap quiet_so_far (sym (append_assoc line (Byte b ∷ []) (map Byte (c ∷ x))))
    ∙ loud-run c x (line ++ Byte b ∷ [])

-- ---- silence

same-burst : (n : ℕ) (line : List Tick) → last_burst (line ++ silent n) ≡ last_burst line
same-burst zero line = ap last_burst (append-nil line)
same-burst (suc n) line =
    ap last_burst (sym (append_assoc line (Silent ∷ []) (silent n)))
    ∙ (same-burst n (line ++ Silent ∷ []) ∙ last_burst-silent line)

pub same-bytes : (n : ℕ) (line : List Tick)
    → burst_bytes_so_far (line ++ silent n) ≡ burst_bytes_so_far line
same-bytes n line = ap burst_bytes_in (same-burst n line)

longer-quiet : (m n : ℕ) (o : Option Burst) → IfSome o (IsWithin m)
    → quiet_in (m + n) o ≡ min 4 (quiet_in m o + n)
longer-quiet m n None within = omega arith
longer-quiet m n (Some d) within = let end = within.within in omega arith

pub quiet-run : (n : ℕ) (line : List Tick)
    → quiet_so_far (line ++ silent n) ≡ min 4 (quiet_so_far line + n)
quiet-run n line =
    let long : length (line ++ silent n) ≡ length line + n =
    length-append line (silent n) ∙ ap (λ k. length line + k) (length-replicate n Silent) in
    ap (λ o. quiet_in (length (line ++ silent n)) o) (same-burst n line)
    ∙ (ap (λ m. quiet_in m (last_burst line)) long
    ∙ longer-quiet (length line) n (last_burst line) (last-within line))

-- ---- the live bytes

first-live : (rules : Rules) (o : Option Burst)
    → take (length (live_bytes_in rules o)) (burst_bytes_in o) ≡ live_bytes_in rules o
first-live rules None = refl
first-live rules (Some d) =
    sym (bytes_up_to (length (live_bytes rules d)) d.body) ∙ live_ticks-bytes rules d

-- The live bytes are the first bytes of the burst.
pub live-first : (rules : Rules) (line : List Tick)
    → take (length (live_bytes_so_far rules line)) (burst_bytes_so_far line)
    ≡ live_bytes_so_far rules line
live-first rules line = first-live rules (last_burst line)

pub none-quiet : quiet_so_far [] ≡ 4
none-quiet = ap (λ o. quiet_in 0 o) last_burst-nil

pub none-bytes : burst_bytes_so_far [] ≡ []
none-bytes = ap burst_bytes_in last_burst-nil

-- ---- what keeps them

-- Bytes that are cut off beyond the first `n` don't come among the first `n` again when more bytes
-- follow.
take-front : (n : ℕ) (x y : List ℕ) → take n (take n x ++ y) ≡ take n (x ++ y)
take-front zero x y = refl
take-front (suc n) [] y = refl
take-front (suc n) (b ∷ x) y = ap (λ l. b ∷ l) (take-front n x y)

take-least : (n : ℕ) (y : List ℕ) → take (min n (length y)) y ≡ take n y
take-least n y =
    ⊎_elim
    (λ few. let is : min n (length y) ≡ n = omega arith in ap (λ k. take k y) is)
    (λ all. let is : min n (length y) ≡ length y = omega arith in
    ap (λ k. take k y) is
    ∙ (take_all (length y) y (omega arith) ∙ sym (take_all n y all)))
    (cases_lt n (length y))

-- If as many bytes of `y` are added to `x` as there is room for, the first `n` of both together are
-- kept.
pub take-room : (n : ℕ) (x y : List ℕ) → length x ≤ n
    → x ++ take (min (n - length x) (length y)) y ≡ take n (x ++ y)
take-room n [] y few =
    let is : n - 0 ≡ n = omega arith in
    ap (λ k. take (min k (length y)) y) is ∙ take-least n y
take-room zero (b ∷ x) y few = absurd (omega arith)
take-room (suc n) (b ∷ x) y few =
    let is : suc n - suc (length x) ≡ n - length x = omega arith in
    ap (λ k. b ∷ (x ++ take (min k (length y)) y)) is
    ∙ ap (λ l. b ∷ l) (take-room n x y (omega arith))

module _ (old new : BurstBytes) (line : List Tick) (before : BurstFor old line) where
  pub heard : (middle x : List ℕ) → 0 < length x → new.quiet ≡ 0
      → (4 ≤ old.quiet → middle ≡ []) → (old.quiet < 4 → middle ≡ old.bytes.items)
      → new.bytes.items ≡ take 292 (middle ++ x)
      → BurstFor new (line ++ map Byte x)
  heard middle [] some loud first further kept = absurd (omega arith)
  heard middle (b ∷ x) some loud first further kept = record {
    quiet_is = loud ∙ sym (loud-run b x line);
    kept = ⊎_elim
        (λ few. let near : quiet_so_far line < 4 = omega (arith, few, before.quiet_is) in
        kept ∙ (ap (λ l. take 292 (l ++ b ∷ x)) (further few ∙ before.kept)
        ∙ (take-front 292 (burst_bytes_so_far line) (b ∷ x)
        ∙ ap (take 292) (sym (further-run (b ∷ x) line near)))))
        (λ many. let far : 4 ≤ quiet_so_far line = omega (arith, many, before.quiet_is) in
        kept ∙ (ap (λ l. take 292 (l ++ b ∷ x)) (first many)
        ∙ ap (take 292) (sym (first-run b x line far))))
        (cases_lt old.quiet 4);
  }

  pub waited : (n : ℕ) → new.quiet ≡ min 4 (old.quiet + n) → new.bytes.items ≡ old.bytes.items
      → BurstFor new (line ++ silent n)
  waited n quiet same = record {
    quiet_is = quiet ∙ (ap (λ k. min 4 (k + n)) before.quiet_is ∙ sym (quiet-run n line));
    kept = same ∙ (before.kept ∙ ap (take 292) (sym (same-bytes n line)));
  }

-- The bytes that leave in a run of ticks.
use Rattle.frame_ending.proofs.BurstRuns.{run-none}
use Rattle.frame_ending.specs.Answered.{answered}
use Rattle.check_receiver.specs.Runs.{CheckerHasTakenRun, CheckerIsFront}
use Rattle.check_receiver.specs.{Stands.CheckerStandsAt, declared.checker.Checker.Checker}
use Rattle.yasir_ticks.proofs.Marks.{ticks-length}
use Rattle.yasir_ticks.specs.DelayRing.{ring_ticks, marked_ticks, AreAlike}
use Rattle.yasir_ticks.specs.declared.delay_ring.DelayRing.{DelayRing}
use Rattle.frame_ending.specs.Stands.{CutStandsFor}
use Rattle.frame_ending.specs.declared.burst_cut.BurstCut.{BurstCut}
use Rattle.link_format.specs.declared.tag.Mac.{Ghosts as Mac}
use Rattle.line_rules.specs.declared.line_rules.LineRules.{Ghosts as LineRules}
use Rattle.link_format.specs.{Profile.profile_of, Setup.Setup}
use Rattle.link_box.specs.Checking.{checker, at_floor, brief_note}
use Rattle.sequence_journal.specs.declared.numbers.TheConstants.{LIMIT}
use Rattle.std.proofs.Common.{◌≡◌, ◌∙◌, ℕ, zero, suc, ◌+◌, ◌<◌, ◌≤◌, false, List, [], ◌∷◌, ◌++◌}
use Rattle.std.proofs.Common.{length, take, map, refl, sym, ap, subst, arith, nat_lt, ⊎_elim, ◌-◌}
use Rattle.std.proofs.Common.{length-append, drop, get_or, min, inl, inr}
use Rattle.std.proofs.{Math.Seq.take-append-add, lemmas.Bool.cases_lt, lemmas.Bool.lt-ltb}
use Rattle.std.proofs.lemmas.List.{append-nil, take_all, take-append-le, take-map, map-append}
use Rattle.std.proofs.lemmas.List.{length-take-le, length-drop, take-take, take-replicate}
use Rattle.std.specs.Prelude.{Result, Ok, Err, IsOk, OnOk}
use Rattle.yasir_ticks.specs.Ticks.{silent}
use Rattle.yasir_ticks.specs.declared.tick.Tick.{Tick, TheVariants.Silent, TheVariants.Byte}

-- A ring of `D` ticks has `D` ticks.
pub ring-whole : {D : ℕ} (ring : DelayRing D) → length (ring_ticks ring) ≡ D
ring-whole {D} ring =
    let bytes = ring.byte_room in
    let marks = ring.mark_room in
    let within = ring.within in
    let all = ticks-length ring.bytes ring.marks (bytes ∙ sym marks) in
    let less = length-drop ring.oldest (marked_ticks ring.bytes ring.marks) in
    length-take-le D (drop ring.oldest (marked_ticks ring.bytes ring.marks)) (omega arith)

-- If the first of some ticks is a byte, they aren't silent.
byte-first : (n : ℕ) (x : List ℕ) (Q : List Tick) → 0 < length x
    → map (λ b. Byte b) x ≡ take (length x) Q → 0 < n → take n Q ≡ silent n → ⊥
byte-first n [] Q some bytes any is = absurd (omega arith)
byte-first zero (b ∷ x) Q some bytes any is = absurd (omega arith)
byte-first (suc n) (b ∷ x) [] some bytes any is = let none = ap length is in absurd cc
byte-first (suc n) (b ∷ x) (q ∷ Q) some bytes any is =
    let first : q ≡ Silent = ap (λ l. get_or l 0 Silent) is in
    let byte : Byte b ≡ q = ap (λ l. get_or l 0 Silent) bytes in
    let both : Byte b ≡ Silent = byte ∙ first in
    absurd cc

-- If ticks are alike, fewer of them are, too.
pub less-alike : (j k : ℕ) (Q : List Tick) → j ≤ k → k ≤ length Q → AreAlike (take k Q)
    → AreAlike (take j Q)
less-alike j k Q less within alike =
    let size : length (take k Q) ≡ k = length-take-le k Q within in
    let long : length (take j Q) ≡ j = length-take-le j Q (omega arith) in
    let part : take j (take k Q) ≡ take j Q = take-take j k Q less in
    ⊎_elim
    (λ silence. inl (sym part ∙ (ap (λ l. take j l) (silence ∙ ap silent size)
    ∙ (take-replicate j k Silent less ∙ ap silent (sym long)))))
    (λ all. inr (
      take j all.0,
      sym part ∙ (ap (λ l. take j l) all.1
          ∙ take-map (λ b. Byte b) j all.0),
    ))
    alike

-- If the first ticks of a ring, followed by others, are alike, those of the ring are, too.
pub ring-alike : (Q E : List Tick) (j k : ℕ) → j ≤ k → j ≤ length Q → k ≤ length (Q ++ E)
    → AreAlike (take k (Q ++ E)) → AreAlike (take j Q)
ring-alike Q E j k less few within alike =
    let A : List Tick → Type 0 = λ l. AreAlike l in
    subst A (take-append-le j Q E few) (less-alike j k (Q ++ E) less within alike)

pub no-bytes : (x : List ℕ) → length x ≡ 0 → x ≡ []
no-bytes [] none = refl
no-bytes (b ∷ x) none = absurd (omega arith)

-- If the first ticks of a ring are alike, they are so with others after the ring.
pub alike-front : (Q E : List Tick) (k : ℕ) → k ≤ length Q → AreAlike (take k Q)
    → AreAlike (take k (Q ++ E))
alike-front Q E k few alike =
    let A : List Tick → Type 0 = λ l. AreAlike l in
    subst A (sym (take-append-le k Q E few)) alike

-- If the ticks of a ring are alike, and the first one is a byte, they are alike with bytes after
-- the ring.
pub alike-past : (Q : List Tick) (x bytes : List ℕ) (k : ℕ) → 0 < length Q
    → AreAlike (take (length Q) Q) → 0 < length x → map (λ b. Byte b) x ≡ take (length x) Q
    → AreAlike (take k (Q ++ map (λ b. Byte b) bytes))
alike-past Q x bytes k any alike some front =
    ⊎_elim
    (λ silence.
    let size = length-take-le (length Q) Q (omega arith) in
    absurd (byte-first (length Q) x Q some front any (silence ∙ ap silent size)))
    (λ all.
    let is : Q ≡ map (λ b. Byte b) all.0 = sym (take_all (length Q) Q (omega arith)) ∙ all.1 in
    inr (
      take k (all.0 ++ bytes),
      ap (λ l. take k (l ++ map (λ b. Byte b) bytes)) is
          ∙ (ap (λ l. take k l) (sym (map-append (λ b. Byte b) all.0 bytes))
          ∙ take-map (λ b. Byte b) k (all.0 ++ bytes)),
    ))
    alike

pub first-along : (Q E : List Tick) → 0 < length Q → get_or (Q ++ E) 0 Silent ≡ get_or Q 0 Silent
first-along [] E some = absurd (omega arith)
first-along (q ∷ Q) E some = refl

-- ---- what leaves while bytes come
pub front-along : (Q E : List Tick) (D k most : ℕ) (x : List ℕ) → length Q ≡ D → most ≡ min k D
    → length x < D → length x ≤ most → map (λ b. Byte b) x ≡ take (length x) Q
    → (length x < most → get_or Q (length x) Silent ≡ Silent) → CheckerIsFront (Q ++ E) k x
front-along Q E D k most x whole is short within bytes first = record {
  within = omega arith;
  bytes = bytes ∙ sym (take-append-le (length x) Q E (omega arith));
  all = λ less. get_or-front Q E (length x) (omega arith) ∙ first (omega arith);
}
  where
    get_or-front : (P F : List Tick) (n : ℕ) → n < length P
        → get_or (P ++ F) n Silent ≡ get_or P n Silent
    get_or-front [] F n few = absurd (omega arith)
    get_or-front (p ∷ P) F zero few = refl
    get_or-front (p ∷ P) F (suc n) few = get_or-front P F n (omega arith)

-- A whole ring of bytes leaves, and then the bytes that come.
pub whole-along : (Q : List Tick) (D k : ℕ) (x bytes : List ℕ) → length Q ≡ D → length x ≡ D
    → D ≤ k → k ≤ length bytes → map (λ b. Byte b) x ≡ take (length x) Q
    → CheckerIsFront (Q ++ map (λ b. Byte b) bytes) k (x ++ take (k - D) bytes)
whole-along Q D k x bytes whole size more few front =
    let behind : List ℕ = take (k - D) bytes in
    let E : List Tick = map (λ b. Byte b) bytes in
    let long = length-append x behind in
    let part = length-take-le (k - D) bytes (omega arith) in
    let all : length (x ++ behind) ≡ k = omega arith in
    let sum : length Q + (k - D) ≡ k = omega arith in
    let is : map (λ b. Byte b) x ≡ Q = front ∙ take_all (length x) Q (omega arith) in
    record {
      within = omega arith;
      bytes = map-append (λ b. Byte b) x behind
          ∙ (ap (λ l. l ++ map (λ b. Byte b) behind) is
          ∙ (ap (λ l. Q ++ l) (sym (take-map (λ b. Byte b) (k - D) bytes))
          ∙ (sym (take-append-add Q E (k - D))
          ∙ (ap (λ n. take n (Q ++ E)) (sum ∙ sym all)))));
      all = λ less. absurd (omega arith);
    }

-- what holds of a result that is `Ok`
pub of-ok : {T E : Type 0} (r : Result T E) (P : Type 0) → IsOk r → OnOk r P → P
of-ok (Ok x) P ok holds = holds
of-ok (Err e) P ok holds = absurd cc

pub bytes-long : (x : List ℕ) → length (map {B = Tick} (λ b. Byte b) x) ≡ length x
bytes-long [] = refl
bytes-long (b ∷ x) = ap suc (bytes-long x)

pub not-owed : (n : ℕ) → nat_lt 0 n ≡ false → n ≡ 0
not-owed n none =
    ⊎_elim
    (λ some. let there = lt-ltb 0 n some in absurd cc)
    (λ few. omega arith)
    (cases_lt 0 n)

-- The receiver takes a run of no tick.
pub none-taken : {R M : Type 0} (proto : LineRules R) (macs : Mac M) {B D : ℕ}
    (old : Checker R M B D) (last : ℕ) (setup : Setup) (line : List Tick)
    → CheckerStandsAt proto macs old last setup line → (cut : BurstCut R)
    → CutStandsFor proto cut (line ++ [])
    → CheckerHasTakenRun proto macs (record old { cut = cut }) last setup line [] []
none-taken proto macs {B} old last setup line stands cut cuts =
    let P : List Tick → Type 0 = λ l. CheckerStandsAt proto macs (record old { cut = cut }) last setup l in
    let C : List Tick → Type 0 = λ l. CutStandsFor proto cut l in
    record {
      stands = subst P (sym (append-nil line)) (record {
        word_is = stands.word_is;
        wide = stands.wide;
        delay_is = stands.delay_is;
        direction_is = stands.direction_is;
        cuts = subst C (append-nil line) cuts;
        left_in = stands.left_in;
        walks = stands.walks;
      });
      answers = run-none (checker (profile_of proto macs B LIMIT setup) proto.rules) brief_note
          (at_floor setup.floor) line;
    }

-- The receiver takes a run of no tick if nothing has changed.
pub same-taken : {R M : Type 0} (proto : LineRules R) (macs : Mac M) {B D : ℕ}
    (old : Checker R M B D) (last : ℕ) (setup : Setup) (line : List Tick)
    → CheckerStandsAt proto macs old last setup line → (left : List ℕ) → left ≡ []
    → CheckerHasTakenRun proto macs old last setup line [] (answered 0 left)
same-taken proto macs {B} old last setup line stands left empty =
    let P : List Tick → Type 0 = λ l. CheckerStandsAt proto macs old last setup l in
    let A : List ℕ → Type 0 = λ y. CheckerHasTakenRun proto macs old last setup line [] (answered 0 y) in
    subst A (sym empty) (record {
      stands = subst P (sym (append-nil line)) stands;
      answers = run-none (checker (profile_of proto macs B LIMIT setup) proto.rules) brief_note
          (at_floor setup.floor) line;
    })

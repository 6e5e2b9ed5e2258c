-- Runs of noteless ticks, joined from single ticks, and what they do to a ring.
use Rattle.frame_ending.proofs.BurstRuns.{run-none, run-joined, run-tick}
use Rattle.frame_ending.specs.{Answered.answered, Runs.AnswersRun, Walk.Walker}
use Rattle.{check_receiver.specs.Runs.CheckerIsFront, line_rules.specs.Rules.Rules}
use Rattle.link_format.specs.Profile.{Profile}
use Rattle.link_box.specs.Checking.{FullNote, checker, at_floor, brief_note}
use Rattle.link_box.specs.{Going.Goes, Holding.HasWalked, Verdicts.CheckState}
use Rattle.std.proofs.Common.{◌≡◌, ◌∙◌, ℕ, zero, suc, ◌+◌, ◌<◌, ◌≤◌, Bool, List, [], ◌∷◌, ◌++◌}
use Rattle.std.proofs.Common.{length, take, drop, get_or, map, refl, sym, ap, subst, arith}
use Rattle.std.proofs.Common.{append_assoc, ⊎_elim, Option, None, ◌⊎◌}
use Rattle.std.proofs.lemmas.{Bool.cases_lt, List.append-nil, List.length-take-le, List.get_or-take}
use Rattle.yasir_ticks.proofs.SilenceLaws.{bytes_in-append}
use Rattle.yasir_ticks.specs.{Bursts.Burst, Bursts.bursts, Ticks.silent, Ticks.bytes_in}
use Rattle.yasir_ticks.specs.declared.tick.Tick.{Tick, TheVariants.Silent, TheVariants.Byte}

-- ---- what ticks that enter do to a ring

pub entered-next : (Q : List Tick) (t : Tick) (E : List Tick) (k : ℕ) → 0 < length Q
    → drop k ((drop 1 Q ++ t ∷ []) ++ E) ≡ drop (suc k) (Q ++ t ∷ E)
entered-next [] t E k some = absurd (omega arith)
entered-next (q ∷ Q) t E k some = ap (λ l. drop k l) (append_assoc Q (t ∷ []) E)

pub left-next : (Q : List Tick) (t : Tick) (E : List Tick) (k : ℕ) → 0 < length Q
    → get_or Q 0 Silent ∷ take k ((drop 1 Q ++ t ∷ []) ++ E) ≡ take (suc k) (Q ++ t ∷ E)
left-next [] t E k some = absurd (omega arith)
left-next (q ∷ Q) t E k some = ap (λ l. q ∷ take k l) (append_assoc Q (t ∷ []) E)

pub bytes-next : (left : List ℕ) (Q : List Tick) (t : Tick) (E : List Tick) (k : ℕ)
    → 0 < length Q
    → (left ++ bytes_in (take 1 Q)) ++ bytes_in (take k ((drop 1 Q ++ t ∷ []) ++ E))
    ≡ left ++ bytes_in (take (suc k) (Q ++ t ∷ E))
bytes-next left [] t E k some = absurd (omega arith)
bytes-next left (q ∷ Q) t E k some =
    append_assoc left (bytes_in (q ∷ [])) (bytes_in (take k ((Q ++ t ∷ []) ++ E)))
    ∙ ap (λ l. left ++ l) (sym (bytes_in-append (q ∷ []) (take k ((Q ++ t ∷ []) ++ E)))
    ∙ ap (λ l. bytes_in (q ∷ take k l)) (append_assoc Q (t ∷ []) E))

-- ---- what leaves, in terms of its bytes

bytes-silent : (n : ℕ) → bytes_in (silent n) ≡ []
bytes-silent zero = refl
bytes-silent (suc n) = bytes-silent n

bytes-bytes : (x : List ℕ) → bytes_in (map (λ b. Byte b) x) ≡ x
bytes-bytes [] = refl
bytes-bytes (b ∷ x) = ap (λ l. b ∷ l) (bytes-bytes x)

pub answered-bytes : (n : ℕ) (x : List ℕ) → bytes_in (answered n x) ≡ x
answered-bytes n [] = bytes-silent n
answered-bytes n (b ∷ x) = bytes-bytes (b ∷ x)

take-silent : (k n : ℕ) → k ≤ n → take k (silent n) ≡ silent k
take-silent zero n few = refl
take-silent (suc k) zero few = absurd (omega arith)
take-silent (suc k) (suc n) few = ap (λ l. Silent ∷ l) (take-silent k n (omega arith))

take-less : (k n : ℕ) (x : List Tick) → k ≤ n → take k (take n x) ≡ take k x
take-less zero n x few = refl
take-less (suc k) zero x few = absurd (omega arith)
take-less (suc k) (suc n) [] few = refl
take-less (suc k) (suc n) (t ∷ x) few = ap (λ l. t ∷ l) (take-less k n x (omega arith))

-- The first ticks of a ring and of the first of others are the first of all.
pub take-along : (k j : ℕ) (Q E : List Tick) → k ≤ length Q + j
    → take k (Q ++ take j E) ≡ take k (Q ++ E)
take-along zero j Q E few = refl
take-along (suc k) j [] E few = take-less (suc k) j E (omega arith)
take-along (suc k) j (q ∷ Q) E few = ap (λ l. q ∷ l) (take-along k j Q E (omega arith))

-- If the first ticks are silent, silence leaves.
front-silence : (Q : List Tick) (c k : ℕ) (x : List ℕ) → k ≤ c → c ≤ length Q
    → take c Q ≡ silent c → CheckerIsFront Q k x → take k Q ≡ answered k x
front-silence Q c k [] few within is front =
    sym (take-less k c Q few) ∙ (ap (λ l. take k l) is ∙ take-silent k c few)
front-silence [] c k (b ∷ x) few within is front = let short = front.within in absurd (omega arith)
front-silence (q ∷ Q) zero k (b ∷ x) few within is front =
    let short = front.within in absurd (omega arith)
front-silence (q ∷ Q) (suc c) k (b ∷ x) few within is front =
    let first : q ≡ Silent = ap (λ l. get_or l 0 Silent) is in
    let byte : Byte b ≡ q = ap (λ l. get_or l 0 Silent) front.bytes in
    let both : Byte b ≡ Silent = byte ∙ first in
    absurd cc

answered-whole : (x : List ℕ) → map (λ b. Byte b) x ≡ answered (length x) x
answered-whole [] = refl
answered-whole (b ∷ x) = refl

byte-at : (y : List ℕ) (j : ℕ) → j < length y → get_or (map (λ b. Byte b) y) j Silent ≡ Silent → ⊥
byte-at [] j less is = absurd (omega arith)
byte-at (b ∷ y) zero less is = absurd cc
byte-at (b ∷ y) (suc j) less is = byte-at y j (omega arith) is

-- If the first ticks are bytes, these bytes leave.
front-bytes : (Q : List Tick) (c k : ℕ) (x y : List ℕ) → k ≤ c → c ≤ length Q
    → take c Q ≡ map (λ b. Byte b) y → CheckerIsFront Q k x → take k Q ≡ answered k x
front-bytes Q c k x y few within is front =
    let size : length y ≡ c = sym (map-long y) ∙ (sym (ap length is) ∙ length-take-le c Q within) in
    let short = front.within in
    ⊎_elim
    (λ less.
    let here : get_or (map (λ b. Byte b) y) (length x) Silent ≡ Silent =
    ap (λ l. get_or l (length x) Silent) (sym is)
    ∙ (get_or-take c Q (length x) Silent (omega arith) ∙ front.all less) in
    absurd (byte-at y (length x) (omega arith) here))
    (λ all.
    let same : length x ≡ k = omega arith in
    ap (λ j. take j Q) (sym same)
    ∙ (sym front.bytes ∙ (answered-whole x ∙ ap (λ j. answered j x) same)))
    (cases_lt (length x) k)
  where
    map-long : (z : List ℕ) → length (map {B = Tick} (λ b. Byte b) z) ≡ length z
    map-long [] = refl
    map-long (b ∷ z) = ap suc (map-long z)

-- If the next ticks are alike, they are what leaves.
pub front-answered : (Q : List Tick) (c k : ℕ) (x : List ℕ) → k ≤ c → c ≤ length Q
    → (take c Q ≡ silent (length (take c Q))) ⊎ ((y : List ℕ) × (take c Q ≡ map (λ b. Byte b) y))
    → CheckerIsFront Q k x → take k Q ≡ answered k x
front-answered Q c k x few within alike front =
    ⊎_elim
    (λ silence. front-silence Q c k x few within
    (silence ∙ ap silent (length-take-le c Q within)) front)
    (λ bytes. front-bytes Q c k x bytes.0 few within bytes.1 front)
    alike

-- ---- runs of a walk

module _ (profile : Profile) (rules : Rules) (floor : ℕ) where
  abbrev w : Walker CheckState FullNote
  w = checker profile rules

  -- Holds if the run `run`, of noteless ticks, comes after `line`, the walk has then come so far,
  -- and the ticks `answer` leave during the run.
  pub record RunsTo (line run : List Tick) (s : CheckState) (passes : Bool) (left : List ℕ)
      (live : List Tick) (owed : ℕ) (waiting : Option Burst) (answer : List Tick) : Type 0 where
    pub walked : HasWalked profile rules floor (length (line ++ run)) (bursts (line ++ run)) s
        passes left live owed waiting
    pub answers : AnswersRun w brief_note (at_floor floor) line run answer

  pub runs-none : (line : List Tick) (s : CheckState) (passes : Bool) (left : List ℕ)
      (live : List Tick) (owed : ℕ) (waiting : Option Burst)
      → HasWalked profile rules floor (length line) (bursts line) s passes left live owed waiting
      → RunsTo line [] s passes left live owed waiting []
  runs-none line s passes left live owed waiting walked =
      let P : List Tick → Type 0 = λ l. HasWalked profile rules floor (length l) (bursts l) s
      passes left live owed waiting in
      record {
        walked = subst P (sym (append-nil line)) walked;
        answers = run-none w brief_note (at_floor floor) line;
      }

  pub runs-first : (line : List Tick) (t : Tick) (run : List Tick) (s : CheckState)
      (passes : Bool) (left : List ℕ) (live : List Tick) (owed : ℕ) (waiting : Option Burst)
      (left' : List ℕ) (live' : List Tick) (owed' : ℕ) (waiting' : Option Burst) (a : Tick)
      (answer : List Tick)
      → Goes profile rules floor line t s passes left live owed waiting a None
      → RunsTo (line ++ t ∷ []) run s passes left' live' owed' waiting' answer
      → RunsTo line (t ∷ run) s passes left' live' owed' waiting' (a ∷ answer)
  runs-first line t run s passes left live owed waiting left' live' owed' waiting' a answer goes
      rest =
      let P : List Tick → Type 0 = λ l. HasWalked profile rules floor (length l) (bursts l) s
      passes left' live' owed' waiting' in
      record {
        walked = subst P (append_assoc line (t ∷ []) run) rest.walked;
        answers = run-joined w brief_note (at_floor floor) line (t ∷ []) run (a ∷ []) answer
            (run-tick w brief_note (at_floor floor) line t a goes.answers) rest.answers;
      }

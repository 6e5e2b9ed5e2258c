-- A burst that begins in a run of bytes.
use Rattle.frame_ending.proofs.BurstRuns.{run-joined, run-tick}
use Rattle.frame_ending.specs.{Answered.answered, Answers.AnswersTick as AnswersTickOf, Walk.Walker}
use Rattle.frame_ending.specs.declared.box_step.BoxStep.{BoxStep}
use Rattle.check_receiver.proofs.Heads.{head-is-good, head-is-bad, head-isn't-short}
use Rattle.check_receiver.specs.Runs.{CheckerHasTakenRun, CheckerIsFront, KeepsHeader}
use Rattle.check_receiver.specs.{Stands.CheckerStandsAt, Stands.CheckerHasTaken, declared.checker.Checker.Checker}
use Rattle.frame_ending.specs.{Cuts.cut_of, Cuts.byte_cut, LiveBytes.live_end, SoFar.last_burst}
use Rattle.frame_ending.specs.Stands.{CutStandsFor}
use Rattle.frame_ending.specs.declared.burst_cut.BurstCut.{BurstCut}
use Rattle.frame_ending.specs.declared.cut.Cut.TheVariants.{Start, Live, Extra}
use Rattle.link_format.specs.declared.tag.Mac.{Ghosts as Mac}
use Rattle.line_rules.specs.Rules.{Rules, head_of}
use Rattle.line_rules.specs.declared.head.Head.TheVariants.{Good, Bad}
use Rattle.line_rules.specs.declared.line_rules.LineRules.{Ghosts as LineRules}
use Rattle.link_format.specs.{Profile.profile_of, Setup.Setup}
use Rattle.link_box.specs.Checking.{FullNote, checker, at_floor, brief_note}
use Rattle.link_box.specs.Verdicts.{CheckState}
use Rattle.link_box.specs.declared.check_note.CheckNote.{CheckNote}
use Rattle.sequence_journal.specs.declared.numbers.TheConstants.{LIMIT}
use Rattle.std.proofs.Common.{◌≡◌, ◌∙◌, ◌⊎◌, ℕ, zero, suc, ◌+◌, ◌<◌, ◌≤◌, ◌==◌, true, List, [], ◌∷◌}
use Rattle.std.proofs.Common.{◌++◌, length, take, drop, get_or, map, refl, sym, ap, subst, arith}
use Rattle.std.proofs.Common.{append_assoc, inl, inr, ⊎_elim, Option, Some, None}
use Rattle.std.proofs.lemmas.Bool.{cases_Bool, cond-true, cond-false}
use Rattle.std.proofs.lemmas.List.{append-nil, take-append-le, take-take, length-take-le}
use Rattle.yasir_ticks.specs.{Bursts.Burst, Ticks.silent}
use Rattle.yasir_ticks.specs.declared.tick.Tick.{Tick, TheVariants.Silent, TheVariants.Byte}

-- ---- what a byte is

byte-cases : (rules : Rules) (n b : ℕ) (o : Option Burst)
    → (byte_cut rules n b o ≡ Start b)
    ⊎ ((byte_cut rules n b o ≡ Live b) ⊎ (byte_cut rules n b o ≡ Extra b))
byte-cases rules n b None = inl refl
byte-cases rules n b (Some d) =
    ⊎_elim
    (λ first. inl (cond-true (d.start == n) _ _ first))
    (λ later. ⊎_elim
    (λ live. inr (inl (cond-false (d.start == n) _ _ later
    ∙ cond-true (live_end rules d == suc n) _ _ live)))
    (λ over. inr (inr (cond-false (d.start == n) _ _ later
    ∙ cond-false (live_end rules d == suc n) _ _ over)))
    (cases_Bool (live_end rules d == suc n)))
    (cases_Bool (d.start == n))

-- A byte that doesn't go on with a burst begins one.
pub byte-begins : (rules : Rules) (line : List Tick) (b : ℕ)
    → (cut_of rules line (Byte b) ≡ Live b → ⊥) → (cut_of rules line (Byte b) ≡ Extra b → ⊥)
    → cut_of rules line (Byte b) ≡ Start b
byte-begins rules line b live extra =
    ⊎_elim
    (λ start. start)
    (λ others. ⊎_elim (λ is. absurd (live is)) (λ is. absurd (extra is)) others)
    (byte-cases rules (length line) b (last_burst (line ++ Byte b ∷ [])))

-- ---- headers

-- A good header stays good.
pub good-keeps : (rules : Rules) (x more : List ℕ) → head_of rules x ≡ Good
    → KeepsHeader rules x more
good-keeps rules x more good = λ n few whole.
    let is = head-is-good rules x good in
    ap rules.is_good_header (take-append-le rules.header_len x (take n more) is.0) ∙ is.1

-- If a header stays good with some bytes, it does so with fewer of them.
pub keeps-front : (rules : Rules) (x more : List ℕ) (n : ℕ) (front : List ℕ) → n ≤ length more
    → front ≡ take n more → KeepsHeader rules x more → KeepsHeader rules x front
keeps-front rules x more n front few is keeps =
    let K : List ℕ → Type 0 = λ y. KeepsHeader rules x y in
    subst K (sym is) (λ k within whole.
    let size = length-take-le n more few in
    let same : take k (take n more) ≡ take k more = take-take k n more (omega arith) in
    let L : List ℕ → Type 0 = λ y. rules.header_len ≤ length (x ++ y) in
    ap (λ y. rules.is_good_header (take rules.header_len (x ++ y))) same
    ∙ keeps k (omega arith) (subst L same whole))

pub first-byte : (bytes : List ℕ) → 0 < length bytes → get_or bytes 0 0 ∷ drop 1 bytes ≡ bytes
first-byte [] some = absurd (omega arith)
first-byte (b ∷ bytes) some = refl

-- If bytes begin with a good header, the header is good from the first byte on as soon as it is
-- whole.
pub start-keeps : (rules : Rules) (b : ℕ) (rest bytes : List ℕ) (n : ℕ) → b ∷ rest ≡ bytes
    → n ≤ length bytes → head_of rules (take n bytes) ≡ Good → KeepsHeader rules (b ∷ []) rest
start-keeps rules b rest bytes n is few good = λ k within whole.
    let known = head-is-good rules (take n bytes) good in
    let size = length-take-le n bytes few in
    let all : take rules.header_len (take n bytes) ≡ take rules.header_len bytes =
    take-take rules.header_len n bytes (omega (arith, known.0)) in
    let here : take (suc k) bytes ≡ b ∷ take k rest = ap (λ l. take (suc k) l) (sym is) in
    let L : List ℕ → Type 0 = λ l. rules.header_len ≤ length l in
    let long = ap length is in
    let there : rules.header_len ≤ length (take (suc k) bytes) = subst L (sym here) whole in
    let sized = length-take-le (suc k) bytes (omega arith) in
    let part : take rules.header_len (take (suc k) bytes) ≡ take rules.header_len bytes =
    take-take rules.header_len (suc k) bytes (omega arith) in
    ap (λ l. rules.is_good_header (take rules.header_len l)) (sym here)
    ∙ (ap rules.is_good_header (part ∙ sym all) ∙ known.1)

pub not-bad : (rules : Rules) (b : ℕ) (rest : List ℕ) → KeepsHeader rules (b ∷ []) rest
    → head_of rules (b ∷ []) ≡ Bad → ⊥
not-bad rules b rest keeps bad =
    let long = head-isn't-short rules (b ∷ []) (λ short. absurd cc) in
    let good : rules.is_good_header (take rules.header_len (b ∷ [])) ≡ true =
    keeps 0 (omega arith) long in
    let other = head-is-bad rules (b ∷ []) bad in
    absurd cc

-- ---- what leaves

-- If silence leaves next, no byte does.
pub front-none : (Q : List Tick) (k : ℕ) (x : List ℕ) → CheckerIsFront Q k x → get_or Q 0 Silent ≡ Silent
    → x ≡ []
front-none Q k [] front quiet = refl
front-none [] k (b ∷ x) front quiet = let long = ap length front.bytes in absurd cc
front-none (q ∷ Q) k (b ∷ x) front quiet =
    let first : Byte b ≡ q = ap (λ l. get_or l 0 Silent) front.bytes in
    let both : Byte b ≡ Silent = first ∙ quiet in
    absurd cc

-- After a first byte has entered a silent ring, silence still leaves next.
pub ring-still : (n b : ℕ) → 2 ≤ n → get_or (drop 1 (silent n) ++ Byte b ∷ []) 0 Silent ≡ Silent
ring-still zero b many = absurd (omega arith)
ring-still (suc zero) b many = absurd (omega arith)
ring-still (suc (suc n)) b many = refl

-- ---- runs

module _ {R M : Type 0} (proto : LineRules R) (macs : Mac M) {B D : ℕ} (new : Checker R M B D)
    (last : ℕ) (setup : Setup) (line : List Tick) where
  abbrev w : Walker CheckState FullNote
  w = checker (profile_of proto macs B LIMIT setup) proto.rules

  -- A noteless tick is a run of one tick.
  pub one-taken : (t a : Tick) (step : BoxStep CheckNote)
      → CheckerHasTaken proto macs new last setup line t step
      → step.note ≡ None → step.tick ≡ a
      → CheckerHasTakenRun proto macs new last setup line (t ∷ []) (a ∷ [])
  one-taken t a step taken none is =
      let A : Tick → Option CheckNote → Type 0 = λ u n. AnswersTickOf w brief_note
      (at_floor setup.floor) line t u n in
      record {
        stands = taken.stands;
        answers = run-tick w brief_note (at_floor setup.floor) line t a
            (subst (λ u. A u None) is (subst (λ n. A step.tick n) none taken.answers));
      }

  -- A run and then another one are one run.
  pub more-taken : (mid : Checker R M B D) (run more answer next : List Tick)
      → CheckerHasTakenRun proto macs mid last setup line run answer
      → CheckerHasTakenRun proto macs new last setup (line ++ run) more next
      → CheckerHasTakenRun proto macs new last setup line (run ++ more) (answer ++ next)
  more-taken mid run more answer next first rest =
      let S : List Tick → Type 0 = λ l. CheckerStandsAt proto macs new last setup l in
      record {
        stands = subst S (append_assoc line run more) rest.stands;
        answers = run-joined w brief_note (at_floor setup.floor) line run more answer next
            first.answers rest.answers;
      }

-- The receiver stays as it is if no byte comes.
pub still-stands : {R M : Type 0} (proto : LineRules R) (macs : Mac M) {B D : ℕ}
    (old : Checker R M B D) (last : ℕ) (setup : Setup) (line : List Tick) (cut : BurstCut R)
    (k : ℕ) (bytes : List ℕ) → CheckerStandsAt proto macs old last setup line → k ≡ 0
    → CutStandsFor proto cut (line ++ map (λ b. Byte b) (take k bytes))
    → CheckerStandsAt proto macs (record old { cut = cut }) last setup line
still-stands proto macs old last setup line cut k bytes stands none cuts =
    let C : List Tick → Type 0 = λ l. CutStandsFor proto cut l in
    record {
      word_is = stands.word_is;
      wide = stands.wide;
      delay_is = stands.delay_is;
      direction_is = stands.direction_is;
      cuts = subst C (ap (λ j. line ++ map (λ b. Byte b) (take j bytes)) none ∙ append-nil line)
          cuts;
      left_in = stands.left_in;
      walks = stands.walks;
    }

-- A first byte and the run of those that follow it are a run.
pub run-whole : (first : ℕ) (tail bytes : List ℕ) (more all : ℕ) → first ∷ tail ≡ bytes
    → all ≡ 1 + more
    → Byte first ∷ map (λ b. Byte b) (take more tail) ≡ map (λ b. Byte b) (take all bytes)
run-whole first tail bytes more all is count =
    let next : suc more ≡ all = omega arith in
    ap (λ l. map (λ b. Byte b) (take (suc more) l)) is
    ∙ ap (λ k. map (λ b. Byte b) (take k bytes)) next

pub answer-whole : (items : List ℕ) (more all : ℕ) → items ≡ [] → all ≡ 1 + more
    → Silent ∷ answered more items ≡ answered all items
answer-whole items more all none count =
    let next : suc more ≡ all = omega arith in
    ap (λ y. Silent ∷ answered more y) none
    ∙ (ap silent next ∙ sym (ap (λ y. answered all y) none))

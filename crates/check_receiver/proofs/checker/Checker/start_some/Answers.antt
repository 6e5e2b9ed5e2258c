use Rattle.frame_ending.specs.Answered.{answered}
use Rattle.check_receiver.proofs.Beginnings.{answer-whole, first-byte, more-taken, not-bad}
use Rattle.check_receiver.proofs.Beginnings.{run-whole, still-stands}
use Rattle.check_receiver.proofs.{Lending.bytes-long, Lending.same-taken, RunsTaken.idle-taken}
use Rattle.check_receiver.specs.{Phases.LeftIn, Runs.CheckerHasTakenRun, Runs.KeepsHeader}
use Rattle.check_receiver.specs.declared.phase.Phase.{Phase, TheVariants.Idle}
use Rattle.line_rules.specs.Outlet.{owed_by}
use Rattle.std.proofs.Common.{◌≡◌, ◌∙◌, ◌+◌, ◌-◌, ◌<◌, ◌++◌, [], ◌∷◌, sym, ap, subst, arith, length}
use Rattle.std.proofs.Common.{List, ℕ, take, drop, map, refl, slice_index_or}
use Rattle.std.proofs.lemmas.{Bool.eqb-false, List.length-take-le, List.length-drop, List.take_all}
use Rattle.{std.proofs.lemmas.List.take-take, yasir_ticks.specs.Ticks.silent}
use Rattle.yasir_ticks.specs.declared.tick.Tick.{Tick, TheVariants.Silent, TheVariants.Byte}
use Rattle.check_receiver.proofs.checker.Checker.start_some.Goals as goal

pub returns-then-passed-gt0-clause-run : goal.returns-then-passed-gt0-clause-run
returns-then-passed-gt0-clause-run g c = λ last setup line stands.
    let bytes : List ℕ = take c.cut_some-passed.result c.args.bytes.now in
    let run : List Tick = map (λ b. Byte b) bytes in
    let within = c.cut_some-passed.ensures.within in
    let size : length run ≡ c.cut_some-passed.result = bytes-long bytes
    ∙ length-take-le c.cut_some-passed.result c.args.bytes.now (omega arith) in
    let new = record c.args.self.now { cut = c.cut_some-passed.new.cut } in
    let Len : ℕ → Type 0 = λ k. CheckerHasTakenRun g.R.LineRules g.M.Mac new last setup line run
    (silent k) in
    let A : List ℕ → Type 0 = λ y. CheckerHasTakenRun g.R.LineRules g.M.Mac new last setup line run
    (answered c.cut_some-passed.result y) in
    subst A (sym c.requires.empty) (subst Len size
    (idle-taken g.R.LineRules g.M.Mac c.args.self.now last setup line stands
    c.cut_some-passed.new.cut run c.requires.phase
    (c.cut_some-passed.ensures.stands line stands.cuts)
    (c.cut_some-passed.ensures.none line stands.cuts)))

pub returns-then-ticks-self-clause-run : goal.returns-then-ticks-self-clause-run
returns-then-ticks-self-clause-run g c = λ last setup line stands.
    let some = c.if-passed-gt0.false in
    same-taken g.R.LineRules g.M.Mac
    (record c.args.self.now { cut = c.cut_some-passed.new.cut }) last setup line
    (still-stands g.R.LineRules g.M.Mac c.args.self.now last setup line
    c.cut_some-passed.new.cut c.cut_some-passed.result c.args.bytes.now stands (omega arith)
    (c.cut_some-passed.ensures.stands line stands.cuts)) c.args.sent.now.items c.requires.empty

pub returns-then-is_empty-clause-run : goal.returns-then-is_empty-clause-run
returns-then-is_empty-clause-run g c = λ last setup line stands.
    let some = c.if-passed-gt0.false in
    same-taken g.R.LineRules g.M.Mac
    (record c.args.self.now { cut = c.cut_some-passed.new.cut }) last setup line
    (still-stands g.R.LineRules g.M.Mac c.args.self.now last setup line
    c.cut_some-passed.new.cut c.cut_some-passed.result c.args.bytes.now stands (omega arith)
    (c.cut_some-passed.ensures.stands line stands.cuts)) c.args.sent.now.items c.requires.empty

pub returns-clause-run : goal.returns-clause-run
returns-clause-run g c = λ last setup line stands.
    let passed = c.if-passed-gt0.false in
    let none : c.cut_some-passed.result ≡ 0 = omega arith in
    let rules = g.R.LineRules.rules in
    let bytes : List ℕ = c.args.bytes.now in
    let front : List ℕ = c.noteless_front-front.result.now in
    let within = c.noteless_front-front.ensures.within in
    let other = eqb-false (length front) 0 (sym c.is_empty.ensures ∙ c.if-is_empty.false) in
    let some : 0 < length front = omega arith in
    let here = still-stands g.R.LineRules g.M.Mac c.args.self.now last setup line
    c.cut_some-passed.new.cut c.cut_some-passed.result bytes stands none
    (c.cut_some-passed.ensures.stands line stands.cuts) in
    let first : ℕ = slice_index_or front 0 0 in
    let tail : List ℕ = take (length front - 1) (drop 1 front) in
    let less = length-drop 1 front in
    let tail_is : tail ≡ drop 1 front = take_all (length front - 1) (drop 1 front) (omega arith) in
    let whole : first ∷ tail ≡ front = ap (λ l. first ∷ l) tail_is ∙ first-byte front some in
    let keeps = c.noteless_front-front.ensures.keeps first tail whole in
    let count = c.ticks.ensures.count line here.cuts in
    let early = c.if-ticks-self.false in
    let L : Phase → Type 0 = λ p. LeftIn p c.args.self.now.until (owed_by c.args.self.now.outlet) in
    let idle : L Idle = subst L c.requires.phase stands.left_in in
    let begun = c.start.ensures.run last setup line here
    (c.cut_some-passed.ensures.starts none (omega arith) line first stands.cuts) idle.0
    (omega arith) (not-bad rules first tail keeps) in
    let K : List ℕ → Type 0 = λ x. KeepsHeader rules x tail in
    let rest = c.follow_on.ensures.run last setup (line ++ Byte first ∷ []) begun.0.stands begun.1
    (subst K (sym begun.3) keeps) in
    let items : List ℕ = c.follow_on.new.sent.items in
    let quiet : items ≡ [] = c.follow_on.ensures.silent begun.2 in
    let more : ℕ = c.follow_on.result in
    let few = c.follow_on.ensures.within in
    let long = ap length whole in
    let is = c.noteless_front-front.ensures.front in
    let A : List Tick → List Tick → Type 0 = λ run answer. CheckerHasTakenRun g.R.LineRules g.M.Mac
    c.follow_on.new.self last setup line run answer in
    subst (λ run. A run (answered (1 + more) items))
    (run-whole first tail front more (1 + more) whole refl
    ∙ ap (λ y. map (λ b. Byte b) y) (ap (λ y. take (1 + more) y) is
    ∙ take-take (1 + more) (length front) bytes (omega arith)))
    (subst (λ answer. A (Byte first ∷ map (λ b. Byte b) (take more tail)) answer)
    (answer-whole items more (1 + more) quiet refl)
    (more-taken g.R.LineRules g.M.Mac c.follow_on.new.self last setup line c.start.new.self
    (Byte first ∷ []) (map (λ b. Byte b) (take more tail)) (Silent ∷ []) (answered more items)
    begun.0 rest))

use Rattle.{frame_ending.specs.Answered.answered, check_receiver.proofs.Beginnings.more-taken}
use Rattle.check_receiver.proofs.{Fills.answered-bytes, Lending.of-ok, Lending.same-taken}
use Rattle.{check_receiver.specs.Runs.CheckerHasTakenRun, std.proofs.Common.◌≡◌}
use Rattle.std.proofs.Common.{◌∙◌, ◌++◌, ℕ, List, [], ◌∷◌, arith, length, map, refl, sym, ap, subst}
use Rattle.std.proofs.{Common.length-append, lemmas.Bool.ltb-true, lemmas.List.map-append}
use Rattle.{std.proofs.lemmas.List.replicate-append-replicate, yasir_ticks.specs.Ticks.silent}
use Rattle.yasir_ticks.specs.declared.tick.Tick.{Tick, TheVariants.Silent, TheVariants.Byte}
use Rattle.check_receiver.proofs.checker.Checker.fill_some.Goals as goal

pub loop-count-init : goal.loop-count-init
loop-count-init g c = record {
  taken = omega arith;
  until = c.requires.until;
  closed = c.requires.phase;
  long = ap length c.requires.empty;
  direction = refl;
  run = λ last setup line stands.
      let A : List ℕ → Type 0 = λ x. CheckerHasTakenRun g.R.LineRules g.M.Mac c.args.self.now last setup
      line [] (map (λ b. Byte b) x) in
      subst A (sym c.requires.empty)
      (same-taken g.R.LineRules g.M.Mac c.args.self.now last setup line stands [] refl);
}

pub loop-count-preserved : goal.loop-count-preserved
loop-count-preserved g c =
    let n : ℕ = c.loop-count.count in
    let x : List ℕ = c.loop-count.sent.items in
    let b : ℕ = c.fill_one-byte.result in
    let new = c.fill_one-byte.new.self in
    let before = c.loop-count.invariant in
    let less = c.loop-count-test.true in
    let capped = c.min-most.ensures in
    let long = before.long in
    let ok : c.try_push.new.self.items ≡ x ++ b ∷ [] =
    of-ok c.try_push.result _ (c.try_push.ensures.variant.1 (omega arith)) c.try_push.ensures.ok in
    let some = ltb-true 0 c.loop-count.self.outlet.owed
    (sym c.owes.ensures ∙ c.if-not-owes.false) in
    let taken = before.taken in
    let one = c.fill_one-byte.ensures.taken in
    let size = ap length ok in
    let sum = length-append x (b ∷ []) in
    record {
      taken = omega arith;
      until = c.fill_one-byte.ensures.until ∙ before.until;
      closed = c.fill_one-byte.ensures.phase before.closed;
      long = omega arith;
      direction = c.fill_one-byte.ensures.direction ∙ before.direction;
      run = λ last setup line stands.
          let first = before.run last setup line stands in
          let next = c.fill_one-byte.ensures.run last setup (line ++ silent n) first.stands
          before.closed before.until some tt in
          let A : List Tick → List Tick → Type 0 = λ run answer. CheckerHasTakenRun g.R.LineRules g.M.Mac
          new last setup line run answer in
          subst (λ run. A run (map (λ b. Byte b) c.try_push.new.self.items))
          (replicate-append-replicate n 1 Silent)
          (subst (λ answer. A (silent n ++ Silent ∷ []) answer)
          (sym (ap (λ y. map (λ b. Byte b) y) ok ∙ map-append (λ b. Byte b) x (b ∷ [])))
          (more-taken g.R.LineRules g.M.Mac new last setup line c.loop-count.self (silent n)
          (Silent ∷ []) (map (λ b. Byte b) x) (Byte b ∷ []) first next));
    }

pub returns-then-not-owes-clause-run : goal.returns-then-not-owes-clause-run
returns-then-not-owes-clause-run g c = λ last setup line stands.
    let n : ℕ = c.loop-count.count in
    let A : List Tick → Type 0 = λ answer. CheckerHasTakenRun g.R.LineRules g.M.Mac c.loop-count.self last
    setup line (silent n) answer in
    subst A (answered-bytes c.loop-count.sent.items n c.loop-count.invariant.long)
    (c.loop-count.invariant.run last setup line stands)

pub returns-clause-run : goal.returns-clause-run
returns-clause-run g c = λ last setup line stands.
    let n : ℕ = c.loop-count.count in
    let x : List ℕ = c.loop-count.sent.items in
    let end = c.loop-count-test.false in
    let within = c.loop-count.auto.count-end in
    let all : n ≡ c.min-most.result = omega arith in
    let A : List Tick → Type 0 = λ answer. CheckerHasTakenRun g.R.LineRules g.M.Mac c.loop-count.self last
    setup line (silent n) answer in
    let Len : ℕ → Type 0 = λ k. CheckerHasTakenRun g.R.LineRules g.M.Mac c.loop-count.self last setup line
    (silent k) (answered k x) in
    subst Len all (subst A (answered-bytes x n c.loop-count.invariant.long)
    (c.loop-count.invariant.run last setup line stands))

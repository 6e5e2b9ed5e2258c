use Rattle.frame_ending.specs.Answered.{answered}
use Rattle.check_receiver.proofs.Beginnings.{front-none, keeps-front}
use Rattle.check_receiver.proofs.Lending.{none-taken, bytes-long, ring-whole, first-along}
use Rattle.check_receiver.proofs.{Lending.less-alike, RunTicks.take-along, RunsTaken.follow-taken}
use Rattle.check_receiver.specs.{Phases.is_open, Runs.CheckerHasTakenRun, Runs.CheckerIsFront, Runs.KeepsHeader}
use Rattle.yasir_ticks.specs.DelayRing.{ring_ticks}
use Rattle.frame_ending.specs.{SoFar.live_bytes_so_far, Stands.CutStandsFor}
use Rattle.std.proofs.Common.{◌≡◌, ◌∙◌, ◌++◌, [], sym, ap, subst, arith, length, List, ℕ, take, map}
use Rattle.std.proofs.Common.{refl, length-append}
use Rattle.std.proofs.lemmas.List.{take-take, take-map, length-take-le}
use Rattle.yasir_ticks.specs.declared.tick.Tick.{Tick, TheVariants.Byte}
use Rattle.check_receiver.proofs.checker.Checker.follow_on.Goals as goal

pub returns-then-taken-eq0-clause-run : goal.returns-then-taken-eq0-clause-run
returns-then-taken-eq0-clause-run g c = λ last setup line stands waits keeps.
    let part : List ℕ = take c.alike_along-count.result c.args.bytes.now in
    let cut = c.go_on_some-taken.new.self in
    let C : ℕ → Type 0 = λ k. CutStandsFor g.R.LineRules cut
    (line ++ map (λ b. Byte b) (take k part)) in
    let A : List ℕ → Type 0 = λ y. CheckerHasTakenRun g.R.LineRules g.M.Mac
    (record c.args.self.now { cut = cut }) last setup line [] (answered 0 y) in
    subst A (sym c.requires.empty)
    (none-taken g.R.LineRules g.M.Mac c.args.self.now last setup line stands cut
    (subst C c.if-taken-eq0.true (c.go_on_some-taken.ensures.stands line stands.cuts)))

pub lend_along-requires : goal.lend_along-requires
lend_along-requires g c =
    let Q : List Tick = ring_ticks c.args.self.now.ring in
    let E : List Tick = map (λ b. Byte b) c.args.bytes.now in
    let count : ℕ = c.alike_along-count.result in
    let within = c.alike_along-count.ensures.within in
    let few = c.go_on_some-taken.ensures.within in
    let long : length (take count c.args.bytes.now) ≡ count =
    length-take-le count c.args.bytes.now (omega arith) in
    let all = bytes-long c.args.bytes.now in
    let sum = length-append Q E in
    let most = c.alike_along-count.ensures.most in (
      omega arith,
      (
        omega arith,
        (
          omega arith,
          (
            less-alike c.go_on_some-taken.result count (Q ++ E)
                (omega arith) (omega arith) c.alike_along-count.ensures.alike,
            c.requires.empty,
          ),
        ),
      ),
    )

pub returns-clause-run : goal.returns-clause-run
returns-clause-run g c = λ last setup line stands waits keeps.
    let count : ℕ = c.alike_along-count.result in
    let part : List ℕ = take count c.args.bytes.now in
    let taken : ℕ = c.go_on_some-taken.result in
    let entering : List ℕ = take taken part in
    let old = c.args.self.now in
    let within = c.alike_along-count.ensures.within in
    let few = c.go_on_some-taken.ensures.within in
    let any = c.if-taken-eq0.false in
    let long : length part ≡ count = length-take-le count c.args.bytes.now (omega arith) in
    let size : length entering ≡ taken = length-take-le taken part (omega arith) in
    let keeps-entering : KeepsHeader g.R.LineRules.rules
    (live_bytes_so_far g.R.LineRules.rules line) entering =
    keeps-front g.R.LineRules.rules (live_bytes_so_far g.R.LineRules.rules line) c.args.bytes.now
    taken entering (omega arith) (take-take taken count c.args.bytes.now (omega arith)) keeps in
    let Q : List Tick = ring_ticks old.ring in
    let E : List Tick = map (λ b. Byte b) c.args.bytes.now in
    let all = bytes-long c.args.bytes.now in
    let sum = length-append Q E in
    let first = take-take taken count c.args.bytes.now (omega arith) in
    let along : take (length entering) (Q ++ map (λ b. Byte b) entering)
    ≡ take (length entering) (Q ++ E) =
    ap (λ y. take (length entering) (Q ++ map (λ b. Byte b) y)) first
    ∙ (ap (λ l. take (length entering) (Q ++ l))
    (sym (take-map (λ b. Byte b) taken c.args.bytes.now))
    ∙ take-along (length entering) taken Q E (omega arith)) in
    let items : List ℕ = c.lend_along.new.sent.items in
    let F : ℕ → Type 0 = λ k. CheckerIsFront (Q ++ E) k items in
    let new = record old {
      cut = c.go_on_some-taken.new.self;
      mac = c.update.new.self;
      ring = c.pass_bytes.new.self;
      until = g.row.D;
    } in
    let Len : ℕ → Type 0 = λ k. CheckerHasTakenRun g.R.LineRules g.M.Mac new last setup line
    (map (λ b. Byte b) entering) (answered k items) in
    let Ticks : List ℕ → Type 0 = λ y. CheckerHasTakenRun g.R.LineRules g.M.Mac new last setup line
    (map (λ b. Byte b) y) (answered taken items) in
    subst Ticks first
    (subst Len size
    (follow-taken g.R.LineRules g.M.Mac old last setup line stands c.go_on_some-taken.new.self
    c.pass_bytes.new.self count items g.row.D E (omega arith)
    c.alike_along-count.ensures.alike
    entering c.update.new.self (ap (λ p. is_open p) waits) (omega arith) (omega arith) along
    keeps-entering
    (c.go_on_some-taken.ensures.stands line stands.cuts)
    (c.go_on_some-taken.ensures.live line stands.cuts)
    (λ key text mac_is. c.update.ensures key text mac_is)
    (subst F (sym size) c.lend_along.ensures) c.pass_bytes.ensures refl))

pub returns-clause-silent : goal.returns-clause-silent
returns-clause-silent g c = λ quiet.
    let Q : List Tick = ring_ticks c.args.self.now.ring in
    let E : List Tick = map (λ b. Byte b) c.args.bytes.now in
    let whole = ring-whole c.args.self.now.ring in
    let some = c.args.self.now.ring.some in
    front-none (Q ++ E) c.go_on_some-taken.result c.lend_along.new.sent.items
    c.lend_along.ensures (first-along Q E (omega arith) ∙ quiet)

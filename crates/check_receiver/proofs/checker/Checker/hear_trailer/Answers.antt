use Rattle.{frame_ending.specs.Answered.answered, check_receiver.proofs.Lending.same-taken}
use Rattle.check_receiver.proofs.{Lending.less-alike, Lending.ring-whole, RunsTaken.trailer-taken}
use Rattle.check_receiver.specs.{Phases.is_open, Runs.CheckerHasTakenRun, Runs.CheckerIsFront}
use Rattle.{yasir_ticks.specs.DelayRing.ring_ticks, std.proofs.Common.◌≡◌}
use Rattle.std.proofs.Common.{◌-◌, ◌++◌, sym, ap, subst, arith, length, List, ℕ, take, drop, map}
use Rattle.std.proofs.lemmas.List.{take-take, length-take-le}
use Rattle.yasir_ticks.specs.{Ticks.silent, declared.tick.Tick.TheVariants.Byte}
use Rattle.check_receiver.proofs.checker.Checker.hear_trailer.Goals as goal

pub returns-then-until-lt3-clause-run : goal.returns-then-until-lt3-clause-run
returns-then-until-lt3-clause-run g c = λ last setup line stands.
    same-taken g.R.LineRules g.M.Mac c.args.self.now last setup line stands c.args.sent.now.items
    c.requires.empty

pub returns-then-until-clause-run : goal.returns-then-until-clause-run
returns-then-until-clause-run g c = λ last setup line stands.
    same-taken g.R.LineRules g.M.Mac c.args.self.now last setup line stands c.args.sent.now.items
    c.requires.empty

pub lend-requires : goal.lend-requires
lend-requires g c =
    let count : ℕ = c.front_alike-count.result in
    let within = c.front_alike-count.ensures.within in
    let most = c.min-most.ensures in
    let first = c.min.ensures in
    let few = c.pass_over_some-taken.ensures.within in
    let long : length (take count c.args.bytes.now) ≡ count =
    length-take-le count c.args.bytes.now (omega arith) in
    let whole = ring-whole c.args.self.now.ring in (
      omega arith,
      (
        omega arith,
        (
          less-alike c.pass_over_some-taken.result count
              (ring_ticks c.args.self.now.ring) (omega arith) (omega arith)
              c.front_alike-count.ensures.alike,
          c.requires.empty,
        ),
      ),
    )

pub returns-clause-run : goal.returns-clause-run
returns-clause-run g c = λ last setup line stands.
    let old = c.args.self.now in
    let count : ℕ = c.front_alike-count.result in
    let part : List ℕ = take count c.args.bytes.now in
    let taken : ℕ = c.pass_over_some-taken.result in
    let heard : List ℕ = take taken part in
    let within = c.front_alike-count.ensures.within in
    let most = c.min-most.ensures in
    let first = c.min.ensures in
    let widened = c.from-until.ensures in
    let many = c.if-until-lt3.false in
    let behind = c.if-until.false in
    let few = c.pass_over_some-taken.ensures.within in
    let long : length part ≡ count = length-take-le count c.args.bytes.now (omega arith) in
    let size : length heard ≡ taken = length-take-le taken part (omega arith) in
    let items : List ℕ = c.lend.new.sent.items in
    let F : ℕ → Type 0 = λ k. CheckerIsFront (ring_ticks old.ring) k items in
    let G : ℕ → Type 0 = λ k. ring_ticks c.pass_silence.new.self
    ≡ drop k (ring_ticks old.ring ++ silent k) in
    let new = record old {
      cut = c.pass_over_some-taken.new.self;
      arriving = c.take_some.new.self;
      ring = c.pass_silence.new.self;
      until = old.until - taken;
    } in
    let Len : ℕ → Type 0 = λ k. CheckerHasTakenRun g.R.LineRules g.M.Mac new last setup line
    (map (λ b. Byte b) heard) (answered k items) in
    let Ticks : List ℕ → Type 0 = λ y. CheckerHasTakenRun g.R.LineRules g.M.Mac new last setup line
    (map (λ b. Byte b) y) (answered taken items) in
    subst Ticks (take-take taken count c.args.bytes.now (omega arith))
    (subst Len size
    (trailer-taken g.R.LineRules g.M.Mac old last setup line stands c.pass_over_some-taken.new.self
    c.pass_silence.new.self count items (old.until - taken) (omega arith)
    c.front_alike-count.ensures.alike heard
    c.take_some.new.self (ap (λ p. is_open p) c.requires.phase) (omega arith) (omega arith)
    (omega arith)
    (c.pass_over_some-taken.ensures.stands line stands.cuts)
    (c.pass_over_some-taken.ensures.extra line stands.cuts)
    c.take_some.ensures
    (subst F (sym size) c.lend.ensures) (subst G (sym size) c.pass_silence.ensures)
    (omega arith)))

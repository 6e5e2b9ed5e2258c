use Rattle.{frame_ending.specs.Answered.answered, check_receiver.proofs.Lending.bytes-long}
use Rattle.check_receiver.proofs.Lending.{same-taken, less-alike, ring-whole}
use Rattle.yasir_ticks.specs.DelayRing.{ring_ticks}
use Rattle.check_receiver.{proofs.RunsTaken.flow-counted, specs.Runs.CheckerHasTakenRun}
use Rattle.std.proofs.Common.{◌≡◌, ◌∙◌, ◌-◌, subst, arith, length, List, ℕ, take, map}
use Rattle.std.proofs.lemmas.List.{take-take, length-take-le}
use Rattle.yasir_ticks.specs.declared.tick.Tick.{Tick, TheVariants.Byte}
use Rattle.check_receiver.proofs.checker.Checker.pass_over.Goals as goal

pub returns-then-self-lt2-clause-run : goal.returns-then-self-lt2-clause-run
returns-then-self-lt2-clause-run g c = λ last setup line stands.
    same-taken g.R.LineRules g.M.Mac c.args.self.now last setup line stands c.args.sent.now.items
    c.requires.empty

pub lend-requires : goal.lend-requires
lend-requires g c =
    let count : ℕ = c.front_alike-count.result in
    let within = c.front_alike-count.ensures.within in
    let most = c.min-most.ensures in
    let first = c.min.ensures in
    let few = c.cut_some-taken.ensures.within in
    let long : length (take count c.args.bytes.now) ≡ count =
    length-take-le count c.args.bytes.now (omega arith) in
    let whole = ring-whole c.args.self.now.ring in (
      omega arith,
      (
        omega arith,
        (
          less-alike c.cut_some-taken.result count
              (ring_ticks c.args.self.now.ring) (omega arith) (omega arith)
              c.front_alike-count.ensures.alike,
          c.requires.empty,
        ),
      ),
    )

pub returns-clause-run : goal.returns-clause-run
returns-clause-run g c = λ last setup line stands.
    let count : ℕ = c.front_alike-count.result in
    let part : List ℕ = take count c.args.bytes.now in
    let taken : ℕ = c.cut_some-taken.result in
    let run : List Tick = map (λ b. Byte b) (take taken part) in
    let old = c.args.self.now in
    let within = c.front_alike-count.ensures.within in
    let most = c.min-most.ensures in
    let first = c.min.ensures in
    let widened = c.from.ensures in
    let few = c.cut_some-taken.ensures.within in
    let some = c.if-self-lt2.false in
    let long : length part ≡ count = length-take-le count c.args.bytes.now (omega arith) in
    let size : length run ≡ taken = bytes-long (take taken part)
    ∙ length-take-le taken part (omega arith) in
    let items : List ℕ = c.lend.new.sent.items in
    let new = record old {
      cut = c.cut_some-taken.new.cut;
      ring = c.pass_silence.new.self;
      until = old.until - taken;
    } in
    let Ticks : List ℕ → Type 0 = λ y. CheckerHasTakenRun g.R.LineRules g.M.Mac new last setup line
    (map (λ b. Byte b) y) (answered taken items) in
    subst Ticks (take-take taken count c.args.bytes.now (omega arith))
    (flow-counted g.R.LineRules g.M.Mac old last setup line stands c.cut_some-taken.new.cut
    c.pass_silence.new.self count items (old.until - taken) (omega arith)
    c.front_alike-count.ensures.alike run taken size
    c.requires.phase (omega arith) (omega arith)
    (c.cut_some-taken.ensures.stands line stands.cuts)
    (c.cut_some-taken.ensures.none line stands.cuts) c.lend.ensures c.pass_silence.ensures
    (omega arith))

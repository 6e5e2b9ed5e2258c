use Rattle.check_receiver.proofs.Beginnings.{byte-begins}
use Rattle.check_receiver.proofs.RestRuns.{live-begin_none, extra-begin_none}
use Rattle.frame_ending.specs.Stands.{CutStandsFor}
use Rattle.std.proofs.Common.{◌≡◌, ◌∙◌, ◌++◌, ap, subst, arith, map, take, List, ℕ}
use Rattle.std.proofs.lemmas.List.{append-nil}
use Rattle.yasir_ticks.specs.declared.tick.Tick.{Tick, TheVariants.Byte}
use Rattle.check_receiver.proofs.runs.cut_some.Goals as goal

pub returns-then-live-gt0-clause-none : goal.returns-then-live-gt0-clause-none
returns-then-live-gt0-clause-none g c = λ line old.
    live-begin_none g.R.LineRules.rules (take c.go_on_some-live.result c.args.bytes.now) line
    (c.go_on_some-live.ensures.live line old)

pub returns-clause-none : goal.returns-clause-none
returns-clause-none g c = λ line old.
    let few = c.if-live-gt0.false in
    let none : c.go_on_some-live.result ≡ 0 = omega arith in
    let C : List Tick → Type 0 = λ l. CutStandsFor g.R.LineRules c.go_on_some-live.new.self l in
    let same : line ++ map (λ b. Byte b) (take c.go_on_some-live.result c.args.bytes.now) ≡ line =
    ap (λ k. line ++ map (λ b. Byte b) (take k c.args.bytes.now)) none ∙ append-nil line in
    extra-begin_none g.R.LineRules.rules (take c.pass_over_some.result c.args.bytes.now) line
    (c.pass_over_some.ensures.extra line
    (subst C same (c.go_on_some-live.ensures.stands line old)))

pub returns-then-live-gt0-clause-starts : goal.returns-then-live-gt0-clause-starts
returns-then-live-gt0-clause-starts g c = λ none. let some = c.if-live-gt0.true in
    absurd (omega arith)

pub returns-clause-starts : goal.returns-clause-starts
returns-clause-starts g c = λ none any line b old.
    let few = c.if-live-gt0.false in
    let no_live : c.go_on_some-live.result ≡ 0 = omega arith in
    let bytes : List ℕ = c.args.bytes.now in
    let C : List Tick → Type 0 = λ l. CutStandsFor g.R.LineRules c.go_on_some-live.new.self l in
    let E : List Tick → Type 0 = λ l. CutStandsFor g.R.LineRules c.pass_over_some.new.self l in
    let same : line ++ map (λ k. Byte k) (take c.go_on_some-live.result bytes) ≡ line =
    ap (λ k. line ++ map (λ y. Byte y) (take k bytes)) no_live ∙ append-nil line in
    let still : line ++ map (λ k. Byte k) (take c.pass_over_some.result bytes) ≡ line =
    ap (λ k. line ++ map (λ y. Byte y) (take k bytes)) none ∙ append-nil line in
    let after : C line = subst C same (c.go_on_some-live.ensures.stands line old) in
    byte-begins g.R.LineRules.rules line b
    (c.go_on_some-live.ensures.all (omega arith) line b after)
    (c.pass_over_some.ensures.all (omega arith) line b
    (subst E still (c.pass_over_some.ensures.stands line after)))

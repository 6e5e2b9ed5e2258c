use Rattle.line_texts.proofs.Added.{adds_joined, adds_line, adds_then, adds_as, silence_joins}
use Rattle.line_texts.specs.Texts.{waiting_in}
use Rattle.std.proofs.Common.{◌≡◌, ◌+◌, ◌-◌, ◌∙◌, [], ap, arith}
use Rattle.std.proofs.lemmas.List.{replicate-append-replicate}
use Rattle.yasir_ticks.specs.{Ticks.silent, declared.tick.Tick.TheVariants.Silent}
use Rattle.line_texts.proofs.adding.add_silence.Goals as goal

pub returns-then-join_silence-clause-adds : goal.returns-then-join_silence-clause-adds
returns-then-join_silence-clause-adds c =
    adds_joined (waiting_in c.args.texts.now) c.join_silence.new.self _
    (c.join_silence.ensures.joined c.if-join_silence.true)

pub returns-clause-adds : goal.returns-clause-adds
returns-clause-adds c =
    let taken = c.complete_by_silence-taken.result in
    let rest = c.args.ticks - taken in
    let all : taken + rest ≡ c.args.ticks = omega (arith, c.complete_by_silence-taken.ensures.within) in
    let joined = silence_joins c.complete_by_silence-taken.new.self rest c.join_silence-2.result
    c.complete_by_silence-taken.ensures.count
    (omega (arith, all, c.requires.short, c.complete_by_silence-taken.ensures.silence))
    c.join_silence-2.ensures.fills in
    adds_as _ _ _ _ [] (replicate-append-replicate taken rest Silent ∙ ap silent all)
    (adds_then (waiting_in c.args.texts.now) _ _ (silent taken) (silent rest)
    (adds_line (waiting_in c.args.texts.now) c.join_silence.new.self
    c.complete_by_silence-taken.new.self c.complete_by_silence-taken.new.room.items (silent taken)
    (c.join_silence.ensures.left c.if-join_silence.false)
    c.complete_by_silence-taken.ensures.taken)
    (adds_joined _ c.join_silence-2.new.self (silent rest)
    (c.join_silence-2.ensures.joined joined)))

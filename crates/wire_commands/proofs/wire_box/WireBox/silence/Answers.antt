use Rattle.std.proofs.Common.{drop, sym, arith}
use Rattle.std.proofs.lemmas.List.{length-drop}
use Rattle.wire_commands.proofs.Ahead.{silent-some, silent-none}
use Rattle.wire_commands.proofs.wire_box.WireBox.silence.Goals as goal

pub returns-then-self-len : goal.returns-then-self-len
returns-then-self-len g c =
    let value = c.args.self.now in
    sym (silent-some value.next (drop value.at value.bytes.items)
    (omega (arith, length-drop value.at value.bytes.items, c.len.ensures.value, c.if-self-len.true)))

pub returns-else-self-len : goal.returns-else-self-len
returns-else-self-len g c =
    let value = c.args.self.now in
    sym (silent-none value.next (drop value.at value.bytes.items)
    (omega (arith, length-drop value.at value.bytes.items, c.len.ensures.value, c.if-self-len.false)))

use Rattle.std.proofs.Common.{◌≡◌, ◌∙◌, ◌<◌, inl, inr, ℕ, drop, length, refl, sym, ap, arith}
use Rattle.std.proofs.lemmas.List.{length-replicate}
use Rattle.wire_commands.proofs.Ahead.{silence-follows}
use Rattle.wire_commands.specs.WireBox.{next_of, silent_behind}
use Rattle.yasir_ticks.specs.declared.tick.Tick.TheVariants.{Silent}
use Rattle.wire_commands.proofs.wire_lines.ready.Goals as goal

-- the receiver has only silent ticks
pub returns-in-Silent : goal.returns-in-Silent
returns-in-Silent g c =
    let receiver = c.args.receiver.now in
    let n : ℕ = silent_behind receiver in
    let some : 0 < n = omega (arith, c.silence-silent.ensures, c.if-silent-eq0.false) in
    let follows = silence-follows receiver.next (drop receiver.at receiver.bytes.items) some in
    let size : length (next_of receiver) ≡ n = ap length follows ∙ length-replicate n Silent in
    let sent = c.len.ensures ∙ ap length c.next.ensures in
    record {
      some = omega (arith, c.min.ensures, some, c.silence-silent.ensures, sent, c.requires.sent);
      sent = omega (arith, c.min.ensures, sent);
      got = omega (arith, c.min.ensures, c.silence-silent.ensures, size);
      still = inr (
        sym c.now.ensures ∙ c.in-Silent.is,
        omega (arith, c.min.ensures, c.silence-silent.ensures),
      );
    }

-- one tick goes by
pub returns-then-silent-eq0 : goal.returns-then-silent-eq0
returns-then-silent-eq0 g c = record {
  some = omega arith;
  sent = omega (arith, c.requires.sent);
  got = omega (arith, c.requires.got);
  still = inl refl;
}

pub returns-in-Byte : goal.returns-in-Byte
returns-in-Byte g c = record {
  some = omega arith;
  sent = omega (arith, c.requires.sent);
  got = omega (arith, c.requires.got);
  still = inl refl;
}

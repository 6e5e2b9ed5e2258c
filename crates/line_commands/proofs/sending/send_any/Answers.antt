use Rattle.std.proofs.Common.{inl, inr, refl, arith}
use Rattle.std.proofs.lemmas.List.{nil_from_length}
use Rattle.line_commands.proofs.sending.send_any.Goals as goal

pub returns-then-is_empty : goal.returns-then-is_empty
returns-then-is_empty g c = inr (nil_from_length c.args.bytes.now (grind arith), refl, refl)

pub returns : goal.returns
returns g c = inl c.send.ensures

use Rattle.line_rules.specs.Bytes.{AreBytes}
use Rattle.rtu_frame.{proofs.RtuLaws.right_ending_by_crc, specs.Frame.HasRightEnding}
use Rattle.std.proofs.Common.{◌<◌, sym, subst, ℕ, nat_eq, IsTrue, arith}
use Rattle.std.proofs.lemmas.List.Elements.{All-from_get_or}
use Rattle.rtu_frame.proofs.frame.has_right_ending.Goals as goal

pub returns : goal.returns
returns c =
    let P : ℕ → Type 0 = λ r. (IsTrue (nat_eq r 0) → HasRightEnding c.args.bytes.now)
    × (HasRightEnding c.args.bytes.now → IsTrue (nat_eq r 0)) in
    let bytes : AreBytes c.args.bytes.now =
    All-from_get_or (λ b. b < 256) c.args.bytes.now 0
    (λ i within. let fits = c.type_inv.bytes i in omega arith) in
    subst P (sym c.crc16.ensures) (right_ending_by_crc c.args.bytes.now bytes)

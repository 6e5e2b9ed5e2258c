use Rattle.std.proofs.Common.{length, refl}
use Rattle.command_ends.proofs.KeyLemmas.{spelled, room_of, room_for}
use Rattle.command_ends.proofs.key_text.decode.Goals as goal

pub unwrap-requires : goal.unwrap-requires
unwrap-requires c =
    let said = spelled c.args.digits.now c.decode_to_slice.new.out
    (length (room_of c.args.digits.now))
    c.decode_to_slice.result c.requires.digits
    (room_for c.args.digits.now c.requires.even c.requires.few)
    c.decode_to_slice.ensures.value in
    rw said.0 refl

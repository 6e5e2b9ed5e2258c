use Rattle.std.proofs.Common.{◌<◌, sym, ◌∙◌, ap, Some, arith}
use Rattle.std.proofs.lemmas.List.Elements.{All-from_get_or}
use Rattle.line_rules.specs.Bytes.{AreBytes}
use Rattle.vectors.proofs.UserData.{user_of-frame, user_of-none, user_data-within}
use Rattle.vectors.proofs.table.user_of.Goals as goal

pub bytes_of-requires : goal.bytes_of-requires
bytes_of-requires c =
    let within = user_data-within _ _ _ c.in-Ok.ensures.read in
    let fits = c.requires in
    rw c.as_slice.ensures.value (omega arith)

pub returns-in-Ok : goal.returns-in-Ok
returns-in-Ok c =
    ap Some (c.bytes_of.ensures ∙ c.as_slice.ensures.value)
    ∙ sym (user_of-frame _ _ _ c.in-Ok.ensures.read)

pub returns-in-Err : goal.returns-in-Err
returns-in-Err c =
    let bytes : AreBytes c.args.text.now =
    All-from_get_or (λ b. b < 256) c.args.text.now 0
    (λ i within. let fits = c.type_inv.text i in omega arith) in
    sym (user_of-none c.args.text.now bytes
    (λ framed. let no = c.in-Err.ensures.cause.1 framed in cc))

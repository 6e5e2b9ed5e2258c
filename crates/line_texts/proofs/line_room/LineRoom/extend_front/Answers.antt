use Rattle.std.proofs.Common.{◌≤◌, length, ap, refl, sym, arith}
use Rattle.{std.proofs.lemmas.List.length-take-le, yasir_io.proofs.TextRooms.front_held}
use Rattle.line_texts.proofs.line_room.LineRoom.extend_front.Goals as goal

pub returns : goal.returns
returns g c =
    let at : c.self.inside.len ≤ 65536 = c.self.invariant in
    let size = length-take-le c.self.inside.len c.self.inside.bytes (omega arith) in
    let held = ap (λ v. v.items) c.self.view_is in
    rw (← c.copy_from_slice.ensures.after)
    (front_held c.self.inside.len c.args.count g.row.N c.self.inside.bytes
    c.copy_from_slice.new.self _ _ _ c.args.self.now.items refl
    (omega (arith, size, ap length held))
    (omega (arith, ap length c.copy_from_slice.ensures.after)) (sym held))

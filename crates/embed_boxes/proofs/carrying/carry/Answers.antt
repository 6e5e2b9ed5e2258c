use Rattle.embed_boxes.{proofs.Delivered.delivered, specs.Carrying.profile_with}
use Rattle.{link_box.specs.Checking.received_line}
use Rattle.rtu_frame.specs.Rules.{rtu_rules}
use Rattle.std.proofs.Common.{◌≡◌, ◌∙◌, ℕ, List, ap}
use Rattle.embed_boxes.proofs.carrying.carry.Goals as goal

pub returns-in-Ok-through-clause-carries : goal.returns-in-Ok-through-clause-carries
returns-in-Ok-through-clause-carries c =
    let key : List ℕ = c.args.key.now in
    let seals = c.in-Ok.ensures.other in
    let checks : c.in-Ok-through.received.items
    ≡ received_line (profile_with key) rtu_rules 0 c.in-Ok.link.items =
    c.in-Ok-through.ensures.other
    ∙ ap (received_line (profile_with key) rtu_rules 0) c.as_slice.ensures.value in
    record {
      seals = seals;
      checks = checks;
      delivers = delivered key c.args.line.now c.in-Ok.link.items
          c.in-Ok-through.received.items seals checks;
    }

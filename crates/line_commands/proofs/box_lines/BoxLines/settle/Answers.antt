use Rattle.std.proofs.Common.{◌∙◌, refl, subst, IfSome}
use Rattle.sequence_journal.specs.Late.{late_link, disk_floor, HasFloorBetween}
use Rattle.line_commands.proofs.box_lines.BoxLines.settle.Goals as goal

pub returns-in-Ok : goal.returns-in-Ok
returns-in-Ok g c = let ready = c.requires.ready in let did = c.in-Ok.ensures in record {
  taken = refl;
  stands = λ setup line stood. record { steps = stood.steps; number_is = stood.number_is };
  number = refl;
  link = did.link;
  not_below = did.not_below;
  is_kept = did.safe;
  any_moment = did.any_moment;
  cause = did.cause;
  settled = did.settled ∙ ready.level;
  fits = did.stands.fits;
  ready = record {
    serves = ready.serves;
    link_is = did.link ∙ ready.link_is;
    level = did.number ∙ ready.level;
    rising = did.stands.rising;
  };
  closes = c.close.ensures;
  failed = tt;
}

pub returns-in-Err : goal.returns-in-Err
returns-in-Err g c = let ready = c.requires.ready in let did = c.in-Err.ensures in record {
  taken = refl;
  stands = λ setup line stood. record { steps = stood.steps; number_is = stood.number_is };
  number = refl;
  link = did.link;
  not_below = did.not_below;
  is_kept = did.safe;
  any_moment = did.any_moment;
  cause = did.cause;
  settled = tt;
  fits = tt;
  ready = tt;
  closes = tt;
  failed = subst (λ n. IfSome (g.D.SlotDisk.told c.settle_all.new.disk)
      (HasFloorBetween (late_link c.args.self.now.late) (disk_floor c.args.self.now.late) n))
      ready.level did.failed;
}

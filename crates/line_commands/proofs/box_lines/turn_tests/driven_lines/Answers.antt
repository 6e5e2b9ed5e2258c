use Rattle.line_commands.specs.BoxLines.{MayDrive}
use Rattle.std.proofs.Common.{◌≡◌, Some, sym, subst}
use Rattle.yasir_io.specs.Steady.{steady_slots}
use Rattle.line_commands.proofs.box_lines.turn_tests.driven_lines.Goals as goal

pub drive-requires : goal.drive-requires
drive-requires g c =
    let is = sym c.new-driven.ensures.state in record {
      fresh = record {
        none = subst (λ s. g.B.LinkBox.taken s.lines.line_box ≡ 0) is c.new-lines.ensures.taken;
        able = subst
            (λ s. MayDrive g.B.LinkBox g.B.LineBox.line_of s.lines (Some (steady_slots s.disk))) is
            (c.new-lines.ensures.may (Some (steady_slots c.args.disk.now)) c.requires.fits);
      };
    }

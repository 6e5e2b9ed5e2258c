use Rattle.command_ends.proofs.EndCauses.{input_cause, input_cause_of_whole, sink_cause_of_end}
use Rattle.command_ends.proofs.FlushLaws.{flushes_of_end}
use Rattle.line_commands.proofs.Floors.{disk_cause_of_end, disk_cause_of_whole}
use Rattle.line_commands.proofs.OverInput.{answer_ok, ends_as}
use Rattle.line_commands.proofs.run_end.end_run.Goals as goal
use Rattle.std.proofs.Common.{◌≡◌, ◌∙◌, true, false, ap, sym, refl, arith}
use Rattle.tick_drive.specs.Consumers.{is_write_fault, is_journal_fault}
use Rattle.tick_drive.specs.Input.{is_read_fault}
use Rattle.yasir_io.proofs.FlushLaws.{none_flushed}

pub returns-in-Whole : goal.returns-in-Whole
returns-in-Whole g c =
    let flushed = c.flush_both.ensures in record {
      status = rw c.in-Whole.is flushed.status;
      out = flushed.out;
      log = flushed.log;
      input = λ before now read. input_cause_of_whole before now c.flush_both.result flushed.status
          (read.same (ap is_read_fault c.in-Whole.is));
      disk = λ before now same. disk_cause_of_whole before now c.flush_both.result flushed.status same;
      sinks = flushed.sinks;
      flushes = flushed.flushes;
    }

pub returns-in_default : goal.returns-in_default
returns-in_default g c =
    let calm = answer_ok c.args.end c.requires in rw c.status_of.ensures (record {
      status = ends_as c.args.end;
      out = refl;
      log = refl;
      input = λ before now read. input_cause before now c.args.end read;
      disk = λ before now same. disk_cause_of_end before now c.args.end (record {
        never_falls = omega (arith, same);
        failed = λ is. let none : true ≡ false = sym is ∙ ap is_journal_fault calm in cc;
        same = λ is. same;
      });
      sinks = sink_cause_of_end _ _ _ _ c.args.end (ap is_write_fault calm) c.in_default.not-Whole
          refl refl;
      flushes = flushes_of_end g.O.Sink g.L.Sink _ _ _ _ c.args.end c.in_default.not-Whole
          (none_flushed g.O.Sink g.L.Sink _ _);
    })

use Rattle.{session_audit.specs.Listing.numbered_line_of, std.proofs.Common.◌++◌}
use Rattle.{std.proofs.Common.sym, std.proofs.Common.subst, yasir_io.proofs.OutputLemmas.more_waits}
use Rattle.yasir_io.{proofs.OutputLemmas.prefix_of_more, specs.Output.Buffered}
use Rattle.session_audit.proofs.lines.push_numbered_line.Goals as goal

pub returns-in-Ok-clause-ok : goal.returns-in-Ok-clause-ok
returns-in-Ok-clause-ok g c = λ held before waits.
    let line = numbered_line_of c.args.name.now (record {
      number = c.args.head.number;
      start = c.args.head.start;
      frame = c.args.bytes.now;
    }) in
    subst (λ w. Buffered held (g.O.Sink.held c.make_room.new.sink) w (before ++ line))
    (sym c.write_numbered_line.ensures)
    (more_waits held _ _ before line (c.in-Ok.ensures.ok held before waits))

pub returns-in-Err-clause-err : goal.returns-in-Err-clause-err
returns-in-Err-clause-err g c = λ held before waits.
    prefix_of_more held _ before _ (c.in-Err.ensures.err held before waits)

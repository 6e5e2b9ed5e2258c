use Rattle.line_capture.proofs.RunEnds.{takes_kept}
use Rattle.line_capture.proofs.take.take_read.Goals as goal

pub returns-clause-takes : goal.returns-clause-takes
returns-clause-takes g c =
    takes_kept g.F.FormReader.format c.args.taking c.args.read.now.end _ c.as_slice-file.result.now
    c.is_whole-whole.result c.in-Ok.collected.kept c.in-Ok.collected.end _ _ c.write_taken.result
    c.is_whole-whole.ensures c.as_slice-file.ensures.value c.in-Ok.ensures
    c.write_taken.ensures.writes

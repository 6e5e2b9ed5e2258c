use Rattle.{std.proofs.Common.sym, std.proofs.Common.◌∙◌, vectors.proofs.FullRoom.no_frame-beyond}
use Rattle.vectors.proofs.frame.is_frame.Goals as goal

pub returns-then-take_some-bytes : goal.returns-then-take_some-bytes
returns-then-take_some-bytes g c =
    let all = c.take_some.ensures.stands _ c.fresh-rules.ensures.stands in
    let full = sym (g.R.LineRules.fullness c.take_some.new.self _ all)
    ∙ c.take_some.ensures.all c.if-take_some-bytes.true in
    sym (no_frame-beyond g.R.LineRules.rules g.R.LineRules.lawful g.R.LineRules.framed
    c.args.bytes.now c.take_some.result c.if-take_some-bytes.true full)

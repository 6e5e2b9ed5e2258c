use Rattle.std.proofs.Common.{◌∙◌, [], ◌++◌, ap, drop, bytes_eq}
use Rattle.check_receiver.specs.Arrivals.{bytes_come}
use Rattle.check_receiver.proofs.checker.Checker.has_tag_of.Goals as goal

pub returns-clause-mac_is : goal.returns-clause-mac_is
returns-clause-mac_is g c = λ key text mac_is. (
  [],
  c.finish-tag.ensures.begun key (text ++ c.to_be_bytes.result) (c.update.ensures key text mac_is),
)

pub returns-clause-compared : goal.returns-clause-compared
returns-clause-compared g c = λ key text mac_is come.
    c.has_tag.ensures come
    ∙ ap (λ t. bytes_eq (drop g.row.B (bytes_come c.args.self.now.arriving)) t)
    (c.finish-tag.ensures.tag key (text ++ c.to_be_bytes.result) (c.update.ensures key text mac_is)
    ∙ ap (λ n. g.M.Mac.tag_of key (text ++ n)) c.to_be_bytes.ensures)

use Rattle.std.proofs.Common.{Some, IfErr, sym, subst}
use Rattle.yasir_c.specs.Holding.{HandsNothing}
use Rattle.yasir_c.specs.declared.held.Held.TheVariants.{LineBox}
use Rattle.yasir_c.proofs.held.Held.committed.Goals as goal

pub returns-in-LineBox-clause-kept : goal.returns-in-LineBox-clause-kept
returns-in-LineBox-clause-kept c =
    subst (λ h. IfErr c.committed.result
    (HandsNothing c.args.ok (Some h) (Some (LineBox c.committed.new.self))))
    (sym c.in-LineBox.is) c.committed.ensures.kept

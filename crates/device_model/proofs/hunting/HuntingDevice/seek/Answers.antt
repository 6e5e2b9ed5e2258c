use Rattle.device_model.proofs.HuntRuns.{passes-run, first-run, none-of}
use Rattle.device_model.proofs.HuntSteps.{empty-held}
use Rattle.std.proofs.Common.{◌∙◌, length, take, refl, sym, arith}
use Rattle.std.proofs.lemmas.{Bool.eqb-true, List.get_or-take, List.length-take}
use Rattle.device_model.proofs.hunting.HuntingDevice.seek.Goals as goal

pub returns-then-passed-gt0-clause-takes : goal.returns-then-passed-gt0-clause-takes
returns-then-passed-gt0-clause-takes g c =
    passes-run g.R.LineRules g.R.Hunted.FIRST g.R.Hunted.SECOND g.met.R.Hunted.hunted
    c.args.self.now c.args.at (take c.bytes_before-passed.result c.args.following.now)
    (empty-held c.args.self.now c.requires.lends (none-of c.args.self.now.bytes.items
    (eqb-true (length c.args.self.now.bytes.items) 0 (sym c.if-is_empty.ensures))))
    c.requires.lacking
    (λ k below is.
    let count = length-take c.bytes_before-passed.result c.args.following.now in
    c.bytes_before-passed.ensures.other k (omega arith)
    (sym (get_or-take c.bytes_before-passed.result c.args.following.now k 0 (omega arith))
    ∙ (is ∙ sym c.FIRST.ensures)))

pub begin_header-requires-clause-none : goal.begin_header-requires-clause-none
begin_header-requires-clause-none g c =
    none-of c.args.self.now.bytes.items
    (eqb-true (length c.args.self.now.bytes.items) 0 (sym c.if-is_empty.ensures))

pub returns-clause-takes : goal.returns-clause-takes
returns-clause-takes g c =
    first-run g.R.LineRules g.R.Hunted.FIRST g.R.Hunted.SECOND g.met.R.Hunted.hunted
    c.args.self.now c.look.new.self c.args.at _ c.args.following.now c.requires.some refl
    c.look.ensures

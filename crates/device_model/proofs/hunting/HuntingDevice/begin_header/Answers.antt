use Rattle.device_model.proofs.HuntRuns.{begun-run, part-joined, first-two}
use Rattle.device_model.proofs.HuntSteps.{items-held, empty-held}
use Rattle.device_model.specs.HuntingDevice.{HuntTakesRun}
use Rattle.std.proofs.Common.{◌≡◌, ◌∙◌, [], ◌++◌, ◌+◌, length, take, sym, ap, subst, arith}
use Rattle.std.proofs.lemmas.List.{length-take, take_rest}
use Rattle.device_model.proofs.hunting.HuntingDevice.begin_header.Goals as goal

pub go_on-part-requires : goal.go_on-part-requires
go_on-part-requires g c =
    let header = g.met.R.Hunted.header in
    let within = g.met.R.Hunted.hunted.start_within in
    omega arith

pub returns-clause-takes : goal.returns-clause-takes
returns-clause-takes g c =
    let following = c.args.following.now in
    let header = g.met.R.Hunted.header in
    let none = ap length c.requires.none in
    let n = c.from-mark.result in
    let two : n ≡ 2 = omega (arith, c.from-mark.ensures) in
    let count = length-take n following in
    let mid = record c.keep.new.self { lacking = c.behind_mark-self.result } in
    let mark = ap (λ k. take k following) two ∙ first-two g.R.Hunted.FIRST g.R.Hunted.SECOND following c.requires.two c.requires.first
    c.requires.second in
    part-joined g.R.LineRules g.R.Hunted.FIRST g.R.Hunted.SECOND g.met.R.Hunted.hunted
    c.args.self.now mid c.go_on-part.new.self c.args.at following _ n c.go_on-part.result.taken _
    (take_rest following n) (omega arith)
    (subst (λ y. HuntTakesRun g.R.LineRules g.R.Hunted.FIRST g.R.Hunted.SECOND c.args.self.now mid
    c.args.at y []) (sym mark)
    (begun-run g.R.LineRules g.R.Hunted.FIRST g.R.Hunted.SECOND g.met.R.Hunted.hunted
    c.args.self.now mid c.args.at
    (empty-held c.args.self.now c.requires.lends c.requires.none) c.keep.ensures.ticks
    (items-held c.keep.new.self (c.keep.ensures.lends ∙ c.requires.lends)
    ∙ (c.keep.ensures.bytes (omega arith)
    ∙ (ap (λ y. y ++ take n following) c.requires.none ∙ mark)))
    (omega arith) c.keep.ensures.start))
    (c.go_on-part.ensures.takes (c.args.at + n))

use Rattle.device_model.proofs.HuntFrames.{lacking-run, header-run, bare-run, frame-run}
use Rattle.{device_model.specs.HuntingDevice.frames_told, line_rules.specs.Rules.lacking_of}
use Rattle.std.proofs.Common.{◌≡◌, ◌∙◌, ◌-◌, length, take, refl, arith, ⊎_elim}
use Rattle.std.proofs.lemmas.{Bool.cases_lt, List.length-take}
use Rattle.device_model.proofs.hunting.HuntingDevice.go_on.Goals as goal

pub returns-then-self-gt0-clause-takes : goal.returns-then-self-gt0-clause-takes
returns-then-self-gt0-clause-takes g c = λ at.
    let count = length-take c.min-taken.result c.args.following.now in
    let kept = c.keep.ensures.lacking in
    lacking-run g.R.LineRules g.R.Hunted.FIRST g.R.Hunted.SECOND g.met.R.Hunted.hunted
    c.args.self.now _ (take c.min-taken.result c.args.following.now) c.requires (omega arith)
    c.keep.ensures.lends c.keep.ensures.bytes at c.keep.ensures.ticks c.keep.ensures.start
    c.keep.ensures.rules (omega arith) c.if-self-gt0.true

pub returns-then-len-from-clause-takes : goal.returns-then-len-from-clause-takes
returns-then-len-from-clause-takes g c = λ at.
    let count = length-take c.min-taken.result c.args.following.now in
    let kept = c.keep.ensures.lacking in
    let header = g.met.R.Hunted.header in
    let items = c.keep.new.self.bytes.items in
    let mid = record c.keep.new.self { lacking = c.keep.new.self.lacking - c.min-taken.result } in
    let whole : length items ≡ g.R.LineRules.rules.header_len = omega arith in
    ⊎_elim
    (λ more. header-run g.R.LineRules g.R.Hunted.FIRST g.R.Hunted.SECOND g.met.R.Hunted.hunted
    c.args.self.now mid (take c.min-taken.result c.args.following.now) c.requires
    (omega arith) c.keep.ensures.lends c.keep.ensures.bytes c.keep.ensures.start (omega arith)
    whole c.meet_header-reads.new.self
    (λ r. frames_told r c.meet_header-reads.new.self.start c.meet_header-reads.new.self.bytes.items) refl
    c.meet_header-reads.result more (λ room. c.meet_header-reads.ensures.behind room more) at
    (c.meet_header-reads.ensures.ticks ∙ c.keep.ensures.ticks))
    (λ none. bare-run g.R.LineRules g.R.Hunted.FIRST g.R.Hunted.SECOND g.met.R.Hunted.hunted
    c.args.self.now mid (take c.min-taken.result c.args.following.now) c.requires
    (omega arith) c.keep.ensures.lends c.keep.ensures.bytes c.keep.ensures.start (omega arith)
    whole c.meet_header-reads.new.self _ (omega arith)
    (λ room.
    let gone = c.meet_header-reads.ensures.goes room whole (omega arith) in
    (gone.none, gone.lacking, gone.frames)) at
    (c.meet_header-reads.ensures.ticks ∙ c.keep.ensures.ticks))
    (cases_lt 0 (lacking_of g.R.LineRules.rules items))

pub returns-clause-takes : goal.returns-clause-takes
returns-clause-takes g c = λ at.
    let count = length-take c.min-taken.result c.args.following.now in
    let kept = c.keep.ensures.lacking in
    let header = g.met.R.Hunted.header in
    frame-run g.R.LineRules g.R.Hunted.FIRST g.R.Hunted.SECOND g.met.R.Hunted.hunted
    c.args.self.now c.keep.new.self (take c.min-taken.result c.args.following.now) c.requires
    (omega arith) c.keep.ensures.lends c.keep.ensures.bytes c.end-reads.new.self _
    c.keep.ensures.start c.keep.ensures.rules (omega arith) (λ whole. omega arith)
    (λ long stands room.
    let gone = c.end-reads.ensures.goes (omega arith) long stands room in
    (gone.none, gone.lacking, gone.frames)) at
    (c.end-reads.ensures.ticks ∙ c.keep.ensures.ticks)

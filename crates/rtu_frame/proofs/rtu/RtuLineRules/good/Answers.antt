use Rattle.std.proofs.Common.{◌≡◌, ap, sym, ◌∙◌, nat_eq, nat_le, false, ◌&&◌}
use Rattle.std.proofs.lemmas.Bool.{le-leb, lt-leb}
use Rattle.rtu_frame.proofs.RtuLaws.{rtu_good}
use Rattle.rtu_frame.proofs.rtu.RtuLineRules.good.Goals as goal

pub returns-then-self-ge-SHORTEST : goal.returns-then-self-ge-SHORTEST
returns-then-self-ge-SHORTEST c = λ x stands.
    ap (λ v. v && nat_eq c.args.self.now.register 0)
    (sym (le-leb 4 c.args.self.now.len c.if-self-ge-SHORTEST.true))
    ∙ rtu_good c.args.self.now x stands

pub returns-else-self-ge-SHORTEST : goal.returns-else-self-ge-SHORTEST
returns-else-self-ge-SHORTEST c = λ x stands.
    let short : nat_le 4 c.args.self.now.len ≡ false =
    lt-leb 4 c.args.self.now.len c.if-self-ge-SHORTEST.false in
    short ∙ (sym (ap (λ v. v && nat_eq c.args.self.now.register 0) short)
    ∙ rtu_good c.args.self.now x stands)

use Rattle.dnp_link_frame.{proofs.DnpRuns.dnp_go_on, proofs.DnpRuns.appends-none, specs.Dnp.Appends}
use Rattle.std.proofs.Common.{◌≡◌, ◌<◌, [], refl, arith, sym, ◌∙◌, subst}
use Rattle.std.proofs.lemmas.{Bool.eqb-true, List.nil_from_length, List.Elements.All-from_get_or}
use Rattle.dnp_link_frame.proofs.dnp.Dnp.go_on.Goals as goal

pub returns-then-is_empty-clause-appends : goal.returns-then-is_empty-clause-appends
returns-then-is_empty-clause-appends c =
    let none : c.args.run.now ≡ [] =
    nil_from_length c.args.run.now
    (eqb-true _ _ (sym c.is_empty.ensures ∙ c.if-is_empty.true)) in
    subst (Appends c.args.self.now c.args.self.now) (sym none) (appends-none c.args.self.now)

pub returns-clause-appends : goal.returns-clause-appends
returns-clause-appends c =
    dnp_go_on c.args.self.now _ c.args.run.now c.requires.behind c.requires.block c.requires.room
    (All-from_get_or (λ b. b < 256) c.args.run.now 0
    (λ i within. let fits = c.type_inv.run i in omega arith))
    refl refl c.after_bytes-self.ensures refl refl refl refl

use Rattle.session_lists.proofs.Comparing.{found-more, found-next}
use Rattle.std.proofs.Common.{◌∙◌, refl, sym, ap, Some}
use Rattle.session_lists.specs.declared.comparison.Unexpected.{Unexpected}
use Rattle.device_model.specs.Frames.{FrameRead}
use Rattle.session_lists.proofs.comparison.Comparison.take.Goals as goal

pub returns-in-Some-clause-found : goal.returns-in-Some-clause-found
returns-in-Some-clause-found c = λ frames reads expects found.
    found-more c.args.expected.late c.args.self.now _ frames reads _ _
    c.in-Some.is refl refl found

pub returns-then-is_next-clause-found : goal.returns-then-is_next-clause-found
returns-then-is_next-clause-found c = λ frames reads expects found.
    found-next c.args.expected.late c.args.self.now _ frames reads _ _ c.in-None.is refl
    (sym c.if-is_next.true ∙ c.is_next.ensures frames expects) c.in-None.is found

pub returns-clause-found : goal.returns-clause-found
returns-clause-found c = λ frames reads expects found.
    let made : FrameRead → Unexpected = λ f. record { place = c.args.self.now.read; frame = f } in
    found-next c.args.expected.late c.args.self.now _ frames reads _ _ c.in-None.is refl
    (sym c.if-is_next.false ∙ c.is_next.ensures frames expects)
    (ap (λ f. Some (made f)) c.new-frame.ensures) found

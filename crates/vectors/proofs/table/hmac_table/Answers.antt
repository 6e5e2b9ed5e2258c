use Rattle.std.proofs.Common.{◌≡◌, [], ◌∷◌, ap, ◌∙◌}
use Rattle.vectors.specs.{Cases.answer, Tables.hmac_cases}
use Rattle.vectors.proofs.table.hmac_table.Goals as goal

pub returns-clause-answer : goal.returns-clause-answer
unfolding hmac_cases
returns-clause-answer c =
    let same : c.new.result ∷ c.new-2.result ∷ c.new-3.result ∷ c.new-4.result ∷ c.new-5.result
    ∷ c.new-6.result ∷ c.new-7.result ∷ [] ≡ hmac_cases = cc in
    c.answered.ensures.answer ∙ ap answer same

use Rattle.std.proofs.Common.{◌≡◌, [], ◌∷◌, ap, ◌∙◌}
use Rattle.vectors.specs.{Cases.answer, Tables.crc_cases}
use Rattle.vectors.proofs.table.crc_table.Goals as goal

pub returns-clause-answer : goal.returns-clause-answer
unfolding crc_cases
returns-clause-answer c =
    let same : c.new.result ∷ c.new-2.result ∷ c.new-3.result ∷ c.new-4.result ∷ []
    ≡ crc_cases = cc in
    c.answered.ensures.answer ∙ ap answer same

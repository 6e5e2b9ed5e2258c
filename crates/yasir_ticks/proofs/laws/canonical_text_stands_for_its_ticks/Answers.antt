use Rattle.yasir_ticks.proofs.CanonicalLaws.{canonical_text-stands, canonical_text-same}
use Rattle.yasir_ticks.proofs.laws.canonical_text_stands_for_its_ticks.Goals as goal

pub returns-clause-stands : goal.returns-clause-stands
returns-clause-stands c = canonical_text-stands

pub returns-clause-alone : goal.returns-clause-alone
returns-clause-alone c = canonical_text-same

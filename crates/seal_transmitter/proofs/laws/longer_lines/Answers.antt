use Rattle.link_format.specs.Profile.{profile_of}
use Rattle.link_box.proofs.SealCausality.{sealer-extends}
use Rattle.link_box.proofs.SealNumbers.{sealed-numbered}
use Rattle.link_box.proofs.SealNumbers.{sealed-extends}
use Rattle.link_box.specs.Sealing.{at_floor}
use Rattle.seal_transmitter.proofs.laws.longer_lines.Goals as goal

pub returns-clause-extends : goal.returns-clause-extends
returns-clause-extends g c = λ word_len limit setup line more.
    sealer-extends (profile_of g.R.LineRules g.M.Mac word_len limit setup) g.R.LineRules.rules
    g.R.LineRules.lawful (at_floor setup.floor) line more

pub returns-clause-kept : goal.returns-clause-kept
returns-clause-kept g c = λ word_len limit setup line more.
    sealed-extends (profile_of g.R.LineRules g.M.Mac word_len limit setup) g.R.LineRules.rules
    g.R.LineRules.lawful setup.floor line more

pub returns-clause-numbered : goal.returns-clause-numbered
returns-clause-numbered g c = λ word_len limit setup line.
    sealed-numbered (profile_of g.R.LineRules g.M.Mac word_len limit setup) g.R.LineRules.rules
    g.R.LineRules.lawful setup.floor line

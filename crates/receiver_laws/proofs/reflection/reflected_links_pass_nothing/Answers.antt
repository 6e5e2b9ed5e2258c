use Rattle.receiver_laws.proofs.Reflecting.{reflected-passed, nothing-passes, all-forged}
use Rattle.receiver_laws.proofs.Reflecting.{texts-differ}
use Rattle.receiver_laws.proofs.reflection.reflected_links_pass_nothing.Goals as goal

pub returns-clause-reflected : goal.returns-clause-reflected
returns-clause-reflected g c = λ profile other fit seal_floor check_floor line.
    reflected-passed profile other g.R.LineRules.rules g.R.LineRules.lawful g.R.LineRules.headed
    g.R.LineRules.framed fit seal_floor check_floor line

pub returns-clause-nothing : goal.returns-clause-nothing
returns-clause-nothing g c = λ profile other fit seal_floor check_floor line never.
    nothing-passes profile other g.R.LineRules.rules g.R.LineRules.lawful g.R.LineRules.headed
    g.R.LineRules.framed fit seal_floor check_floor line never

pub returns-clause-texts_differ : goal.returns-clause-texts_differ
returns-clause-texts_differ g c = texts-differ

pub returns-clause-all_forged : goal.returns-clause-all_forged
returns-clause-all_forged g c = all-forged

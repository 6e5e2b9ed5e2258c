use Rattle.two_wire.proofs.Ends.{end-gives}
use Rattle.two_wire.specs.TwoWire.{heard_lines}
use Rattle.two_wire.proofs.laws.two_wire_box_gives_whole_bursts.Goals as goal

pub returns-clause-two_wires : goal.returns-clause-two_wires
returns-clause-two_wires g c = λ end w is.
    end-gives g.R.LineRules.rules g.R.LineRules.lawful end (heard_lines w) is.drives_lines

pub returns-clause-four_wires : goal.returns-clause-four_wires
returns-clause-four_wires g c = λ end l is.
    end-gives g.R.LineRules.rules g.R.LineRules.lawful end l is

use Rattle.dnp_link_frame.proofs.Residue.{register_of-residue, residue-of_ending}
use Rattle.dnp_link_frame.proofs.laws.register_of_a_right_ending.Goals as goal

pub returns : goal.returns
returns c = λ x bytes. (register_of-residue x bytes, residue-of_ending x bytes)

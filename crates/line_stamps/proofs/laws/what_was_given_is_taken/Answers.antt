use Rattle.line_stamps.proofs.GivenLines.{given-line, given-free}
use Rattle.line_stamps.proofs.laws.what_was_given_is_taken.Goals as goal

pub returns : goal.returns
returns c = record {
  same = λ rate unit epoch m rest cs some small given.
      given-line rate unit epoch m some small rest cs given;
  free = λ rate unit epoch m rest cs some small given.
      given-free rate unit epoch m some small rest cs given;
}

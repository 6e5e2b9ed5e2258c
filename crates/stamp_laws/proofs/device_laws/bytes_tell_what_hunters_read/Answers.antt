use Rattle.{device_model.specs.Hunt.hunt, line_stamps.proofs.Clocks.in-their-ticks}
use Rattle.line_stamps.specs.{Places.line_of_places, Places.placed}
use Rattle.{stamp_laws.proofs.HuntedLines.hunted-line, std.proofs.Common.None, std.proofs.Common.ap}
use Rattle.stamp_laws.proofs.device_laws.bytes_tell_what_hunters_read.Goals as goal

pub returns : goal.returns
returns c = λ first second rules t cs n.
    ap (λ x. hunt first second rules 0 x)
    (hunted-line (line_of_places t cs) n (placed t cs) (in-their-ticks t None cs))

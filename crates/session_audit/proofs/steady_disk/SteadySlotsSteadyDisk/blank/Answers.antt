use Rattle.sequence_journal.{proofs.LoadLemmas.blank_holds_none, specs.Slots.greatest}
use Rattle.std.proofs.Common.{◌∙◌, ap}
use Rattle.session_audit.proofs.steady_disk.SteadySlotsSteadyDisk.blank.Goals as goal

pub returns : goal.returns
returns c = ap greatest c.new.ensures ∙ blank_holds_none

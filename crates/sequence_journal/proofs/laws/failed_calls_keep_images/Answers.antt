use Rattle.sequence_journal.proofs.FailedCallLaws.{same-after-write, same-after-calls}
use Rattle.sequence_journal.proofs.laws.failed_calls_keep_images.Goals as goal

pub returns-clause-write : goal.returns-clause-write
returns-clause-write g c = same-after-write g.D.SlotDisk

pub returns-clause-in_a_row : goal.returns-clause-in_a_row
returns-clause-in_a_row g c = same-after-calls g.D.SlotDisk

use Rattle.{std.proofs.Common.refl, yasir_io.proofs.Images.only_image_unmarked}
use Rattle.yasir_io.proofs.mem_slots.MemSlots.with_room.Goals as goal

pub returns-clause-synced : goal.returns-clause-synced
returns-clause-synced c image may = only_image_unmarked _ image may refl refl

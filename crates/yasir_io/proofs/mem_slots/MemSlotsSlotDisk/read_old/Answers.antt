use Rattle.yasir_io.proofs.Images.{elapses_unchanged}
use Rattle.yasir_io.proofs.mem_slots.MemSlotsSlotDisk.read_old.Goals as goal

pub returns-in_err-begin-clause-time : goal.returns-in_err-begin-clause-time
returns-in_err-begin-clause-time c = elapses_unchanged _ _ _ _ c.begin.ensures.may_add
    c.begin.ensures.present

pub returns-clause-time : goal.returns-clause-time
returns-clause-time c = elapses_unchanged _ _ _ _ c.begin.ensures.may_add c.begin.ensures.present

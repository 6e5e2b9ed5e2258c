use Rattle.yasir_io.proofs.Images.{elapses_unchanged, elapses_recorded, only_image}
use Rattle.yasir_io.specs.MemSlotsLaws.{present_is_image}
use Rattle.yasir_io.proofs.mem_slots.MemSlotsSlotDisk.sync.Goals as goal

pub returns-in_err-begin-clause-time : goal.returns-in_err-begin-clause-time
returns-in_err-begin-clause-time c = elapses_unchanged _ _ _ _ c.begin.ensures.may_add
    c.begin.ensures.present

pub returns-clause-durable : goal.returns-clause-durable
returns-clause-durable c image may = only_image c.settle.new.self c.settle.ensures.settled image may

pub returns-clause-as_read : goal.returns-clause-as_read
returns-clause-as_read c image had = present_is_image c.settle.new.self

pub returns-clause-time : goal.returns-clause-time
returns-clause-time c = elapses_recorded _ _ _ _ c.in_ok-begin.ensures.recorded

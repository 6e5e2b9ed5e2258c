use Rattle.yasir_io.proofs.Images.{elapses, elapses_recorded, images_torn, images_more}
use Rattle.yasir_io.proofs.Images.{images_reached, marks, sets}
use Rattle.yasir_io.proofs.mem_slots.MemSlotsSlotDisk.write_slot.Goals as goal

pub returns-in_err-begun-clause-images : goal.returns-in_err-begun-clause-images
returns-in_err-begun-clause-images c =
    images_torn c.args.slot c.args.self.now.present c.mark.new.self
    (marks c.args.slot _ _ _ c.begin-begun.ensures.present c.mark.ensures.slots
    c.mark.ensures.marked c.mark.ensures.other)

pub returns-in_err-begun-clause-images_back : goal.returns-in_err-begun-clause-images_back
returns-in_err-begun-clause-images_back c =
    images_reached c.args.slot c.args.self.now.present c.mark.new.self
    (marks c.args.slot _ _ _ c.begin-begun.ensures.present c.mark.ensures.slots
    c.mark.ensures.marked c.mark.ensures.other)

pub returns-in_err-begun-clause-time : goal.returns-in_err-begun-clause-time
returns-in_err-begun-clause-time c =
    elapses _ _ c.args.self.now.present c.mark.new.self c.begin-begun.ensures.may_add
    (images_more c.args.slot _ _
    (marks c.args.slot _ _ _ c.begin-begun.ensures.present c.mark.ensures.slots
    c.mark.ensures.marked c.mark.ensures.other))

pub returns-clause-images : goal.returns-clause-images
returns-clause-images c =
    images_torn c.args.slot c.args.self.now.present c.set.new.self
    (sets c.args.slot _ c.mark.new.self _ c.args.bytes.now
    (marks c.args.slot _ _ _ c.begin-begun.ensures.present c.mark.ensures.slots
    c.mark.ensures.marked c.mark.ensures.other)
    c.set.ensures.slots c.set.ensures.written)

pub returns-clause-images_back : goal.returns-clause-images_back
returns-clause-images_back c =
    images_reached c.args.slot c.args.self.now.present c.set.new.self
    (sets c.args.slot _ c.mark.new.self _ c.args.bytes.now
    (marks c.args.slot _ _ _ c.begin-begun.ensures.present c.mark.ensures.slots
    c.mark.ensures.marked c.mark.ensures.other)
    c.set.ensures.slots c.set.ensures.written)

pub returns-clause-time : goal.returns-clause-time
returns-clause-time c = elapses_recorded _ _ _ _ c.in_ok-begun.ensures.recorded

use Rattle.line_texts.proofs.Added.{AddsFirst, adds_begun, room_for_line, adds_on, adds_last}
use Rattle.std.proofs.Common.{◌-◌, length, drop, sym, subst, arith}
use Rattle.std.proofs.lemmas.List.{length-drop, take_all}
use Rattle.line_texts.proofs.adding.add_bytes.Goals as goal

pub loop-left-init : goal.loop-left-init
loop-left-init c = adds_begun c.args.texts.now c.args.bytes.now c.requires.short c.requires.room

pub complete_by_bytes-taken-requires-clause-room : goal.complete_by_bytes-taken-requires-clause-room
complete_by_bytes-taken-requires-clause-room c =
    let none = c.loop-left-test.true in
    let room = room_for_line _ c.loop-left.texts _ c.loop-left.left.now c.loop-left.invariant
    (c.join_bytes.ensures.some none) (c.join_bytes.ensures.fills none) in
    omega (arith, c.loop-left.invariant.room, room.1)

pub loop-left-preserved : goal.loop-left-preserved
loop-left-preserved c =
    let none = c.loop-left-test.true in
    let left = c.loop-left.left.now in
    let done = c.complete_by_bytes-taken in
    let same = c.join_bytes.ensures.left none in
    let n = done.result in
    subst (AddsFirst _ _ c.args.bytes.now)
    (sym (take_all (length left - n) (drop n left) (omega (arith, length-drop n left))))
    (adds_on _ c.loop-left.texts c.args.bytes.now left c.loop-left.invariant c.join_bytes.new.self
    done.new.self done.new.room n same (c.join_bytes.ensures.some none)
    (c.join_bytes.ensures.fills none) done.ensures.within done.ensures.left done.ensures.count
    done.ensures.begun done.ensures.taken)

pub returns-clause-adds : goal.returns-clause-adds
returns-clause-adds c = adds_last _ c.loop-left.texts _ c.loop-left.left.now c.loop-left.invariant
    c.join_bytes.new.self (c.join_bytes.ensures.joined c.loop-left-test.false)

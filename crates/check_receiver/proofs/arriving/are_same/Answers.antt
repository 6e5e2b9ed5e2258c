use Rattle.std.proofs.Common.{◌≡◌, arith, rules, length, length-append}
use Rattle.std.proofs.lemmas.Slice.Zip.{zip_turn, zip_end}
use Rattle.std.specs.Iterator.Adapters.{zip_first, zip_second}
use Rattle.std.specs.Slice.Iter.{iter_rest}
use Rattle.check_receiver.proofs.Comparing.{gathered_more, gathered_all}
use Rattle.check_receiver.proofs.arriving.are_same.Goals as goal

pub loop-one-preserved : goal.loop-one-preserved
loop-one-preserved c =
    let first : iter_rest (zip_first c.into_iter-one-iterator.result) ≡ c.args.left.now =
    search rules in
    let second : iter_rest (zip_second c.into_iter-one-iterator.result) ≡ c.args.right.now =
    search rules in
    let turn =
    zip_turn c.args.left.now c.args.right.now c.loop-one.yielded
    c.into_iter-one-iterator.result c.loop-one.one-iterator c.next.new.self c.next.result
    first second c.loop-one.yielded_by (c.in-Some.one, c.in-Some.other) c.in-Some.is
    c.next.ensures.steps in
    gathered_more c.args.left.now c.args.right.now (length c.loop-one.yielded) _ c.loop-one.differing
    c.in-Some.one.now c.in-Some.other.now (length-append c.loop-one.yielded _) (turn.2 0)
    (turn.3 0) c.loop-one.invariant

pub returns : goal.returns
returns c =
    let first : iter_rest (zip_first c.into_iter-one-iterator.result) ≡ c.args.left.now =
    search rules in
    let second : iter_rest (zip_second c.into_iter-one-iterator.result) ≡ c.args.right.now =
    search rules in
    let past =
    zip_end c.args.left.now c.args.right.now c.loop-one.yielded
    c.into_iter-one-iterator.result c.loop-one.one-iterator c.next.new.self c.next.result
    first second c.loop-one.yielded_by c.in-None.is c.next.ensures.steps in
    gathered_all c.args.left.now c.args.right.now (length c.loop-one.yielded)
    c.loop-one.differing c.if-left-right.false (omega arith) c.loop-one.invariant

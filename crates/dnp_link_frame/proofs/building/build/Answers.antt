use Rattle.dnp_link_frame.proofs.Loops.{is_built-first, is_built-next, is_built-last, is_built-whole}
use Rattle.dnp_link_frame.{proofs.Loops.is_built-room, specs.Frame.header_fields}
use Rattle.std.proofs.Common.{◌≡◌, ℕ, ◌<◌, ◌==◌, Bool, false, List, length, arith, refl, sym, ◌∙◌}
use Rattle.std.proofs.lemmas.{Bool.eqb-true, Bool.eqb-false, List.nil_from_length}
use Rattle.dnp_link_frame.proofs.building.build.Goals as goal

pub loop-block-init : goal.loop-block-init
loop-block-init c =
    is_built-first (header_fields c.args.header.now (length c.args.user.now))
    c.header_fields.result _ _ c.args.user.now c.new-bytes.ensures c.push_with_crc.ensures
    c.header_fields.ensures

pub push_with_crc-requires-in-Some : goal.push_with_crc-requires-in-Some
push_with_crc-requires-in-Some c =
    is_built-room (header_fields c.args.header.now (length c.args.user.now)) c.args.user.now
    c.loop-block.bytes.items c.loop-block.following.now c.in-Some.block.now refl (omega arith)
    (let left = c.in-Some.ensures.cases.2 in omega arith) (omega arith)
    (let left = c.in-Some.ensures.cases.2 in omega arith) c.loop-block.invariant

pub loop-block-preserved : goal.loop-block-preserved
loop-block-preserved c =
    is_built-next (header_fields c.args.header.now (length c.args.user.now)) c.args.user.now
    c.loop-block.bytes.items _ c.loop-block.following.now c.in-Some.block.now c.in-Some.more.now
    (let left = c.in-Some.ensures.cases.2 in omega arith) c.in-Some.ensures.cases.0
    c.in-Some.ensures.cases.1 c.push_with_crc-in-Some.ensures c.loop-block.invariant

pub returns-then-is_empty-clause-built : goal.returns-then-is_empty-clause-built
returns-then-is_empty-clause-built c =
    is_built-whole (header_fields c.args.header.now (length c.args.user.now)) c.args.user.now
    c.loop-block.bytes.items c.loop-block.following.now
    (nil_from_length c.loop-block.following.now
    (eqb-true _ _ (sym c.is_empty.ensures ∙ c.if-is_empty.true)))
    c.loop-block.invariant

some_follow : (x : List ℕ) (empty : Bool) → empty ≡ (length x == 0) → empty ≡ false → 0 < length x
some_follow x empty is not_empty =
    let some = eqb-false (length x) 0 (sym is ∙ not_empty) in omega arith

pub push_with_crc-requires-2 : goal.push_with_crc-requires-2
push_with_crc-requires-2 c =
    is_built-room (header_fields c.args.header.now (length c.args.user.now)) c.args.user.now
    c.loop-block.bytes.items c.loop-block.following.now c.loop-block.following.now refl
    (omega arith) (some_follow c.loop-block.following.now _ c.is_empty.ensures c.if-is_empty.false)
    (omega (arith, c.in_default.ensures.cases)) (omega arith) c.loop-block.invariant

pub returns-clause-built : goal.returns-clause-built
returns-clause-built c =
    is_built-last (header_fields c.args.header.now (length c.args.user.now)) c.args.user.now
    c.loop-block.bytes.items _ c.loop-block.following.now
    (some_follow c.loop-block.following.now _ c.is_empty.ensures c.if-is_empty.false)
    (omega (arith, c.in_default.ensures.cases))
    c.push_with_crc-2.ensures c.loop-block.invariant

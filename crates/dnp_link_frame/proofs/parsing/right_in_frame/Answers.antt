use Rattle.std.proofs.Common.{arith, sym, ◌∙◌, ◌<◌}
use Rattle.dnp_link_frame.specs.Beginnings.{right_in_start}
use Rattle.dnp_link_frame.proofs.FrameParts.{right_in_frame-start, right_in_start-within}
use Rattle.dnp_link_frame.proofs.FrameParts.{header_refused, blocks_judged}
use Rattle.dnp_link_frame.proofs.parsing.right_in_frame.Goals as goal

pub returns-then-start-lt3-clause-right : goal.returns-then-start-lt3-clause-right
returns-then-start-lt3-clause-right c =
    c.right_in_start-start.ensures ∙ sym (right_in_frame-start c.args.bytes.now (omega arith))

pub returns-then-start-lt3-clause-within : goal.returns-then-start-lt3-clause-within
returns-then-start-lt3-clause-within c =
    let early : right_in_start c.args.bytes.now < 3 = omega arith in
    let within = right_in_start-within c.args.bytes.now early in
    omega arith

pub returns-then-header-ne-HEADER-clause-right : goal.returns-then-header-ne-HEADER-clause-right
returns-then-header-ne-HEADER-clause-right c =
    header_refused c.args.bytes.now c.right_in_part-header.result (omega arith)
    c.right_in_part-header.ensures.right c.if-header-ne-HEADER.true

pub returns-clause-right : goal.returns-clause-right
returns-clause-right c =
    blocks_judged c.args.bytes.now c.from-user_len.result c.right_in_blocks.result (omega arith)
    (sym c.right_in_part-header.ensures.right ∙ c.if-header-ne-HEADER.false) (omega arith)
    c.right_in_blocks.ensures.right

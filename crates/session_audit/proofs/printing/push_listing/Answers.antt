use Rattle.command_ends.specs.FrameLine.{frame_lines}
use Rattle.session_audit.proofs.InOrder.{breaks-first}
use Rattle.session_audit.proofs.InOrder.{breaks-second, breaks-third, breaks-fourth, adds-all}
use Rattle.session_audit.specs.{Listing.forged_in, Listing.numbered_lines, Printing.on_the_way}
use Rattle.std.specs.Prelude.{codes}
use Rattle.session_audit.proofs.printing.push_listing.Goals as goal

pub returns-in_default-clause-err : goal.returns-in_default-clause-err
returns-in_default-clause-err g c = λ listing holds.
    let w0 = on_the_way (g.O.Sink.held c.args.out.now) c.args.text.now.text.items in
    breaks-first w0 w0 w0 w0 (numbered_lines (codes "sealed") listing.sealed)
    (numbered_lines (codes "passed") listing.passed) (frame_lines listing.reads)
    (numbered_lines (codes "forged") (forged_in listing)) (g.O.Sink.held c.push_numbered.new.out)
    (c.in_default.ensures.err listing.sealed holds.sealed_ones)

pub returns-in_default-push_numbered-clause-err : goal.returns-in_default-push_numbered-clause-err
returns-in_default-push_numbered-clause-err g c = λ listing holds.
    let w0 = on_the_way (g.O.Sink.held c.args.out.now) c.args.text.now.text.items in
    let w1 = on_the_way (g.O.Sink.held c.push_numbered.new.out)
    c.push_numbered.new.text.text.items in
    breaks-second w0 w1 w1 w1 (numbered_lines (codes "sealed") listing.sealed)
    (numbered_lines (codes "passed") listing.passed) (frame_lines listing.reads)
    (numbered_lines (codes "forged") (forged_in listing))
    (c.in-Ok.ensures.ok listing.sealed holds.sealed_ones)
    (g.O.Sink.held c.push_numbered-2.new.out)
    (c.in_default-push_numbered.ensures.err listing.passed holds.passed_ones)

pub returns-in_default-push_reads-clause-err : goal.returns-in_default-push_reads-clause-err
returns-in_default-push_reads-clause-err g c = λ listing holds.
    let w0 = on_the_way (g.O.Sink.held c.args.out.now) c.args.text.now.text.items in
    let w1 = on_the_way (g.O.Sink.held c.push_numbered.new.out)
    c.push_numbered.new.text.text.items in
    let w2 = on_the_way (g.O.Sink.held c.push_numbered-2.new.out)
    c.push_numbered-2.new.text.text.items in
    breaks-third w0 w1 w2 w2 (numbered_lines (codes "sealed") listing.sealed)
    (numbered_lines (codes "passed") listing.passed) (frame_lines listing.reads)
    (numbered_lines (codes "forged") (forged_in listing))
    (c.in-Ok.ensures.ok listing.sealed holds.sealed_ones)
    (c.in-Ok-push_numbered.ensures.ok listing.passed holds.passed_ones)
    (g.O.Sink.held c.push_reads.new.out)
    (c.in_default-push_reads.ensures.err listing.reads holds.read_ones)

pub returns-in-Err-clause-err : goal.returns-in-Err-clause-err
returns-in-Err-clause-err g c = λ listing holds.
    let w0 = on_the_way (g.O.Sink.held c.args.out.now) c.args.text.now.text.items in
    let w1 = on_the_way (g.O.Sink.held c.push_numbered.new.out)
    c.push_numbered.new.text.text.items in
    let w2 = on_the_way (g.O.Sink.held c.push_numbered-2.new.out)
    c.push_numbered-2.new.text.text.items in
    let w3 = on_the_way (g.O.Sink.held c.push_reads.new.out) c.push_reads.new.text.text.items in
    breaks-fourth w0 w1 w2 w3 (numbered_lines (codes "sealed") listing.sealed)
    (numbered_lines (codes "passed") listing.passed) (frame_lines listing.reads)
    (numbered_lines (codes "forged") (forged_in listing))
    (c.in-Ok.ensures.ok listing.sealed holds.sealed_ones)
    (c.in-Ok-push_numbered.ensures.ok listing.passed holds.passed_ones)
    (c.in-Ok-push_reads.ensures.ok listing.reads holds.read_ones)
    (g.O.Sink.held c.push_forged.new.out)
    (c.in-Err.ensures.err listing.sealed listing.passed holds.sealed_ones holds.passed_ones
    holds.in_turn)

pub returns-in-Ok-push_forged-clause-ok : goal.returns-in-Ok-push_forged-clause-ok
returns-in-Ok-push_forged-clause-ok g c = λ listing holds.
    let w0 = on_the_way (g.O.Sink.held c.args.out.now) c.args.text.now.text.items in
    let w1 = on_the_way (g.O.Sink.held c.push_numbered.new.out)
    c.push_numbered.new.text.text.items in
    let w2 = on_the_way (g.O.Sink.held c.push_numbered-2.new.out)
    c.push_numbered-2.new.text.text.items in
    let w3 = on_the_way (g.O.Sink.held c.push_reads.new.out) c.push_reads.new.text.text.items in
    adds-all w0 w1 w2 w3 (numbered_lines (codes "sealed") listing.sealed)
    (numbered_lines (codes "passed") listing.passed) (frame_lines listing.reads)
    (numbered_lines (codes "forged") (forged_in listing))
    (c.in-Ok.ensures.ok listing.sealed holds.sealed_ones)
    (c.in-Ok-push_numbered.ensures.ok listing.passed holds.passed_ones)
    (c.in-Ok-push_reads.ensures.ok listing.reads holds.read_ones)
    (on_the_way (g.O.Sink.held c.push_forged.new.out) c.push_forged.new.text.text.items)
    (c.in-Ok-push_forged.ensures.ok listing.sealed listing.passed holds.sealed_ones
    holds.passed_ones holds.in_turn)

use Rattle.std.proofs.Common.{◌∙◌, subst, refl, arith}
use Rattle.session_lists.specs.FrameBox.{kept_frames}
use Rattle.session_audit.specs.Printing.{AddsText, PrintingBreaksOff, on_the_way}
use Rattle.session_audit.proofs.Pushing.{kept_line, kept-lines, item-added, item-breaks}
use Rattle.session_audit.proofs.Pushing.{all-added}
use Rattle.session_audit.proofs.groups.push_numbered.Goals as goal

pub returns-in_default-clause-err : goal.returns-in_default-clause-err
returns-in_default-clause-err g c = λ listed holds.
    let first = on_the_way (g.O.Sink.held c.args.out.now) c.args.text.now.text.items in
    let last = g.O.Sink.held c.push_numbered_line.new.out in
    subst (PrintingBreaksOff first last) (kept-lines c.args.name.now listed)
    (item-breaks (kept_line c.args.name.now) c.args.frames.now c.loop-index.index
    c.len-index-end.result c.head-head.result c.bytes-bytes.result.now c.loop-index-test.true
    c.len-index-end.ensures.frames (λ frames other. c.head-head.ensures frames other)
    (λ frames other. c.bytes-bytes.ensures.frame frames other) first
    (on_the_way (g.O.Sink.held c.loop-index.out) c.loop-index.text.text.items)
    (kept_frames listed) holds (c.loop-index.invariant.adds (kept_frames listed) holds)
    _ refl last
    (λ start text. c.in_default.ensures.err start text))

pub loop-index-preserved : goal.loop-index-preserved
loop-index-preserved g c = record {
  calm = c.in-Ok.ensures.cause.same ∙ c.loop-index.invariant.calm;
  flushes = c.in-Ok.ensures.flushes ∙ c.loop-index.invariant.flushes;
  adds = λ kept holds. item-added (kept_line c.args.name.now) c.args.frames.now c.loop-index.index
      c.len-index-end.result c.head-head.result c.bytes-bytes.result.now c.loop-index-test.true
      c.len-index-end.ensures.frames (λ frames other. c.head-head.ensures frames other)
      (λ frames other. c.bytes-bytes.ensures.frame frames other)
      (on_the_way (g.O.Sink.held c.args.out.now) c.args.text.now.text.items)
      (on_the_way (g.O.Sink.held c.loop-index.out) c.loop-index.text.text.items)
      kept holds (c.loop-index.invariant.adds kept holds) _ refl
      (on_the_way (g.O.Sink.held c.push_numbered_line.new.out) c.push_numbered_line.new.text.text.items)
      (λ start text. c.in-Ok.ensures.ok start text);
}

pub returns-clause-ok : goal.returns-clause-ok
returns-clause-ok g c = λ listed holds.
    let first = on_the_way (g.O.Sink.held c.args.out.now) c.args.text.now.text.items in
    let last = on_the_way (g.O.Sink.held c.loop-index.out) c.loop-index.text.text.items in
    subst (AddsText first last) (kept-lines c.args.name.now listed)
    (all-added (kept_line c.args.name.now) c.args.frames.now c.loop-index.index
    c.len-index-end.result c.len-index-end.ensures.frames (omega (arith, c.loop-index-test.false))
    first last (kept_frames listed) holds
    (c.loop-index.invariant.adds (kept_frames listed) holds))

use Rattle.line_capture.proofs.LineTexts.{begun, part_line, part_log, sends_line, sent_line}
use Rattle.line_capture.proofs.LineTexts.{sent_log, stopped_line, stopped_log}
use Rattle.line_capture.proofs.placing.write_line.Goals as goal

pub returns-in-Err-clause-line : goal.returns-in-Err-clause-line
returns-in-Err-clause-line g c =
    let start = begun g.O.Sink g.L.Sink c.new-texts.result c.args.out.now c.args.log.now
    c.new-texts.ensures.written c.new-texts.ensures.ticks c.new-texts.ensures.notes in
    part_line g.O.Sink g.L.Sink _ _ _ _ start c.in-Err.field-0 c.in-Err.ensures

pub returns-in-Err-clause-log : goal.returns-in-Err-clause-log
returns-in-Err-clause-log g c =
    let start = begun g.O.Sink g.L.Sink c.new-texts.result c.args.out.now c.args.log.now
    c.new-texts.ensures.written c.new-texts.ensures.ticks c.new-texts.ensures.notes in
    part_log g.O.Sink g.L.Sink _ _ _ _ start c.in-Err.field-0 c.in-Err.ensures

pub returns-in-Ok-finish-clause-line : goal.returns-in-Ok-finish-clause-line
returns-in-Ok-finish-clause-line g c =
    let start = begun g.O.Sink g.L.Sink c.new-texts.result c.args.out.now c.args.log.now
    c.new-texts.ensures.written c.new-texts.ensures.ticks c.new-texts.ensures.notes in
    sent_line g.O.Sink g.L.Sink _ _ _ _ start _ c.in-Ok.ensures _ (c.in-Ok-finish.ensures.ok _ _ _
    (sends_line g.O.Sink g.L.Sink _ _ _ _ start _ c.in-Ok.ensures))

pub returns-in-Ok-finish-clause-log : goal.returns-in-Ok-finish-clause-log
returns-in-Ok-finish-clause-log g c =
    let start = begun g.O.Sink g.L.Sink c.new-texts.result c.args.out.now c.args.log.now
    c.new-texts.ensures.written c.new-texts.ensures.ticks c.new-texts.ensures.notes in
    sent_log g.O.Sink g.L.Sink _ _ _ _ start _ c.in-Ok.ensures _ (c.in-Ok-finish.ensures.ok _ _ _
    (sends_line g.O.Sink g.L.Sink _ _ _ _ start _ c.in-Ok.ensures))

pub returns-in-Err-finish-clause-line : goal.returns-in-Err-finish-clause-line
returns-in-Err-finish-clause-line g c =
    let start = begun g.O.Sink g.L.Sink c.new-texts.result c.args.out.now c.args.log.now
    c.new-texts.ensures.written c.new-texts.ensures.ticks c.new-texts.ensures.notes in
    stopped_line g.O.Sink g.L.Sink _ _ _ _ start _ c.in-Ok.ensures _
    (c.in-Err-finish.ensures.err _ _ _
    (sends_line g.O.Sink g.L.Sink _ _ _ _ start _ c.in-Ok.ensures))

pub returns-in-Err-finish-clause-log : goal.returns-in-Err-finish-clause-log
returns-in-Err-finish-clause-log g c =
    let start = begun g.O.Sink g.L.Sink c.new-texts.result c.args.out.now c.args.log.now
    c.new-texts.ensures.written c.new-texts.ensures.ticks c.new-texts.ensures.notes in
    stopped_log g.O.Sink g.L.Sink _ _ _ _ start _ c.in-Ok.ensures _
    (c.in-Err-finish.ensures.err _ _ _
    (sends_line g.O.Sink g.L.Sink _ _ _ _ start _ c.in-Ok.ensures))

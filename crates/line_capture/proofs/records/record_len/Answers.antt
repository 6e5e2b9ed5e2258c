use Rattle.std.proofs.Common.{arith, sym, ap, ◌∙◌, length}
use Rattle.line_capture.proofs.RecordBytes.{leads_more, leads_done}
use Rattle.line_capture.proofs.records.record_len.Goals as goal

pub loop-count-preserved : goal.loop-count-preserved
loop-count-preserved c = record {
  leads = leads_more c.args.line.now 65536 c.loop-count.count _ c.in-Byte.field-0 (omega arith)
      (omega arith) (sym c.in-Byte.is) c.loop-count.invariant.leads;
  within = omega arith;
}

pub returns-clause-bytes : goal.returns-clause-bytes
returns-clause-bytes c =
    leads_done c.args.line.now 65536 c.loop-count.count (omega arith) c.loop-count.invariant.leads

pub returns-clause-count : goal.returns-clause-count
returns-clause-count c = sym c.loop-count.invariant.leads.long
    ∙ ap length (leads_done c.args.line.now 65536 c.loop-count.count (omega arith)
    c.loop-count.invariant.leads)

pub returns-clause-within : goal.returns-clause-within
returns-clause-within c = omega arith

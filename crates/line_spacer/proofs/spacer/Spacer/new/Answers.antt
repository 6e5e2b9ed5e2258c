use Rattle.line_spacer.proofs.{Arriving.begins-empty, Owing.owes-none}
use Rattle.std.proofs.Common.{[]}
use Rattle.line_spacer.proofs.spacer.Spacer.new.Goals as goal

pub returns-clause-stands : goal.returns-clause-stands
returns-clause-stands g c = record {
  heard = c.fresh.ensures.stands;
  room = c.in_ok-queue.ensures.1;
  sent = begins-empty g.V.Device.reads g.row.GAP c.args.cap c.in_ok-queue.queue.frames
      c.requires.gap c.in_ok-queue.ensures.0;
}

pub returns-clause-owes : goal.returns-clause-owes
returns-clause-owes g c = owes-none g.V.Device c.args.cap _ [] (record {
  heard = c.fresh.ensures.stands;
  room = c.in_ok-queue.ensures.1;
  sent = begins-empty g.V.Device.reads g.row.GAP c.args.cap c.in_ok-queue.queue.frames
      c.requires.gap c.in_ok-queue.ensures.0;
})

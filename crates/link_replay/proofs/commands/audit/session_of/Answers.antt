use Rattle.link_replay.proofs.Auditing.{verdict-is}
use Rattle.link_replay.proofs.commands.audit.session_of.Goals as goal

pub returns-clause-verdicts : goal.returns-clause-verdicts
returns-clause-verdicts c = verdict-is c.args.asked.proto c.args.asked.profile (record {
  proto = c.args.asked.proto;
  profile = c.args.asked.profile;
  dir = c.args.asked.dir;
  key = c.args.key;
  sent_floor = c.args.asked.sent_floor;
  got_floor = c.args.asked.got_floor;
  tolerance = c.args.asked.tolerance;
})

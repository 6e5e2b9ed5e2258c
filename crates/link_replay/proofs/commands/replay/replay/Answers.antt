use Rattle.dnp_link_frame.specs.{Rules.dnp_rules, RulesLaws.dnp_lawful}
use Rattle.link_replay.proofs.Headlines.{replays-so}
use Rattle.command_ends.specs.declared.link.Profile.TheVariants.{Y18, Y24}
use Rattle.command_ends.specs.declared.link.Proto.TheVariants.{Rtu, Dnp3}
use Rattle.rtu_frame.specs.Rules.{rtu_rules, rtu_lawful}
use Rattle.link_box.proofs.SealNumbers.{sealed-numbered}
use Rattle.link_replay.proofs.commands.replay.replay.Goals as goal

pub replay_recordings-requires-clause-in_turn :
    goal.replay_recordings-requires-clause-in_turn
replay_recordings-requires-clause-in_turn g c = λ setup line.
    sealed-numbered _ rtu_rules rtu_lawful setup.floor line

pub replay_recordings-requires-3-clause-in_turn :
    goal.replay_recordings-requires-3-clause-in_turn
replay_recordings-requires-3-clause-in_turn g c = λ setup line.
    sealed-numbered _ dnp_rules dnp_lawful setup.floor line

pub replay_recordings-requires-2-clause-in_turn :
    goal.replay_recordings-requires-2-clause-in_turn
replay_recordings-requires-2-clause-in_turn g c = λ setup line.
    sealed-numbered _ rtu_rules rtu_lawful setup.floor line

pub replay_recordings-requires-4-clause-in_turn :
    goal.replay_recordings-requires-4-clause-in_turn
replay_recordings-requires-4-clause-in_turn g c = λ setup line.
    sealed-numbered _ dnp_rules dnp_lawful setup.floor line

pub returns-in-Rtu-Y18-with_link-clause-replays : goal.returns-in-Rtu-Y18-with_link-clause-replays
returns-in-Rtu-Y18-with_link-clause-replays g c = rw (c.in-Rtu-Y18-with_link.is-0, c.in-Rtu-Y18-with_link.is-1) (record {
  lists = replays-so g.K.Source g.S.Source g.O.Sink Rtu Y18 c.args.dir _ _ _ _ _ _ _
      c.replay_recordings.result c.replay_recordings.ensures.lists;
  log = c.replay_recordings.ensures.log;
  disk = c.replay_recordings.ensures.disk;
})

pub returns-in-Dnp3-Y18-with_link-clause-replays : goal.returns-in-Dnp3-Y18-with_link-clause-replays
returns-in-Dnp3-Y18-with_link-clause-replays g c = rw (c.in-Dnp3-Y18-with_link.is-0, c.in-Dnp3-Y18-with_link.is-1) (record {
  lists = replays-so g.K.Source g.S.Source g.O.Sink Dnp3 Y18 c.args.dir _ _ _ _ _ _ _
      c.replay_recordings-3.result c.replay_recordings-3.ensures.lists;
  log = c.replay_recordings-3.ensures.log;
  disk = c.replay_recordings-3.ensures.disk;
})

pub returns-in-Rtu-Y24-with_link-clause-replays : goal.returns-in-Rtu-Y24-with_link-clause-replays
returns-in-Rtu-Y24-with_link-clause-replays g c = rw (c.in-Rtu-Y24-with_link.is-0, c.in-Rtu-Y24-with_link.is-1) (record {
  lists = replays-so g.K.Source g.S.Source g.O.Sink Rtu Y24 c.args.dir _ _ _ _ _ _ _
      c.replay_recordings-2.result c.replay_recordings-2.ensures.lists;
  log = c.replay_recordings-2.ensures.log;
  disk = c.replay_recordings-2.ensures.disk;
})

pub returns-in-Dnp3-Y24-with_link-clause-replays : goal.returns-in-Dnp3-Y24-with_link-clause-replays
returns-in-Dnp3-Y24-with_link-clause-replays g c = rw (c.in-Dnp3-Y24-with_link.is-0, c.in-Dnp3-Y24-with_link.is-1) (record {
  lists = replays-so g.K.Source g.S.Source g.O.Sink Dnp3 Y24 c.args.dir _ _ _ _ _ _ _
      c.replay_recordings-4.result c.replay_recordings-4.ensures.lists;
  log = c.replay_recordings-4.ensures.log;
  disk = c.replay_recordings-4.ensures.disk;
})

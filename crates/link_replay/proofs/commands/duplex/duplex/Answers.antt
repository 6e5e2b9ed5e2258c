use Rattle.link_replay.proofs.commands.duplex.duplex.Goals as goal

pub returns-in-Rtu-Y18-with_link-clause-duplexes : goal.returns-in-Rtu-Y18-with_link-clause-duplexes
returns-in-Rtu-Y18-with_link-clause-duplexes g c = rw (c.in-Rtu-Y18-with_link.is-0, c.in-Rtu-Y18-with_link.is-1) (record {
  texts = c.duplex_with.ensures.duplexes;
  disk = c.duplex_with.ensures.disk;
})

pub returns-in-Dnp3-Y18-with_link-clause-duplexes : goal.returns-in-Dnp3-Y18-with_link-clause-duplexes
returns-in-Dnp3-Y18-with_link-clause-duplexes g c = rw (c.in-Dnp3-Y18-with_link.is-0, c.in-Dnp3-Y18-with_link.is-1) (record {
  texts = c.duplex_with-3.ensures.duplexes;
  disk = c.duplex_with-3.ensures.disk;
})

pub returns-in-Rtu-Y24-with_link-clause-duplexes : goal.returns-in-Rtu-Y24-with_link-clause-duplexes
returns-in-Rtu-Y24-with_link-clause-duplexes g c = rw (c.in-Rtu-Y24-with_link.is-0, c.in-Rtu-Y24-with_link.is-1) (record {
  texts = c.duplex_with-2.ensures.duplexes;
  disk = c.duplex_with-2.ensures.disk;
})

pub returns-in-Dnp3-Y24-with_link-clause-duplexes : goal.returns-in-Dnp3-Y24-with_link-clause-duplexes
returns-in-Dnp3-Y24-with_link-clause-duplexes g c = rw (c.in-Dnp3-Y24-with_link.is-0, c.in-Dnp3-Y24-with_link.is-1) (record {
  texts = c.duplex_with-4.ensures.duplexes;
  disk = c.duplex_with-4.ensures.disk;
})

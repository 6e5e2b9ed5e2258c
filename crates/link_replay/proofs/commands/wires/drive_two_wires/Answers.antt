use Rattle.link_replay.proofs.commands.wires.drive_two_wires.Goals as goal

pub returns-in-Rtu-Y18-with_link-clause-drives : goal.returns-in-Rtu-Y18-with_link-clause-drives
returns-in-Rtu-Y18-with_link-clause-drives g c = rw (c.in-Rtu-Y18-with_link.is-0, c.in-Rtu-Y18-with_link.is-1) (record {
  texts = c.drive_with.ensures.drives;
  disk = c.drive_with.ensures.disk;
})

pub returns-in-Dnp3-Y18-with_link-clause-drives : goal.returns-in-Dnp3-Y18-with_link-clause-drives
returns-in-Dnp3-Y18-with_link-clause-drives g c = rw (c.in-Dnp3-Y18-with_link.is-0, c.in-Dnp3-Y18-with_link.is-1) (record {
  texts = c.drive_with-3.ensures.drives;
  disk = c.drive_with-3.ensures.disk;
})

pub returns-in-Rtu-Y24-with_link-clause-drives : goal.returns-in-Rtu-Y24-with_link-clause-drives
returns-in-Rtu-Y24-with_link-clause-drives g c = rw (c.in-Rtu-Y24-with_link.is-0, c.in-Rtu-Y24-with_link.is-1) (record {
  texts = c.drive_with-2.ensures.drives;
  disk = c.drive_with-2.ensures.disk;
})

pub returns-in-Dnp3-Y24-with_link-clause-drives : goal.returns-in-Dnp3-Y24-with_link-clause-drives
returns-in-Dnp3-Y24-with_link-clause-drives g c = rw (c.in-Dnp3-Y24-with_link.is-0, c.in-Dnp3-Y24-with_link.is-1) (record {
  texts = c.drive_with-4.ensures.drives;
  disk = c.drive_with-4.ensures.disk;
})

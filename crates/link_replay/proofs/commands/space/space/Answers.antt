use Rattle.link_replay.proofs.Spaced.{spaces-of}
use Rattle.command_ends.specs.declared.link.Profile.TheVariants.{Y18, Y24}
use Rattle.command_ends.specs.declared.link.Proto.TheVariants.{Rtu, Dnp3}
use Rattle.link_replay.proofs.commands.space.space.Goals as goal

pub returns-in-Rtu-Y18-with_link-clause-spaces : goal.returns-in-Rtu-Y18-with_link-clause-spaces
returns-in-Rtu-Y18-with_link-clause-spaces g c =
    rw (c.in-Rtu-Y18-with_link.is-0, c.in-Rtu-Y18-with_link.is-1) (spaces-of _ _ _ Rtu Y18 _ _
    c.space_with.result c.space_with.ensures.spaces)

pub returns-in-Rtu-Y18-with_link-clause-causes : goal.returns-in-Rtu-Y18-with_link-clause-causes
returns-in-Rtu-Y18-with_link-clause-causes g c =
    c.space_with.ensures.causes c.args.proto c.args.profile

pub returns-in-Dnp3-Y18-with_link-clause-spaces : goal.returns-in-Dnp3-Y18-with_link-clause-spaces
returns-in-Dnp3-Y18-with_link-clause-spaces g c =
    rw (c.in-Dnp3-Y18-with_link.is-0, c.in-Dnp3-Y18-with_link.is-1) (spaces-of _ _ _ Dnp3 Y18 _ _
    c.space_with-3.result c.space_with-3.ensures.spaces)

pub returns-in-Dnp3-Y18-with_link-clause-causes : goal.returns-in-Dnp3-Y18-with_link-clause-causes
returns-in-Dnp3-Y18-with_link-clause-causes g c =
    c.space_with-3.ensures.causes c.args.proto c.args.profile

pub returns-in-Rtu-Y24-with_link-clause-spaces : goal.returns-in-Rtu-Y24-with_link-clause-spaces
returns-in-Rtu-Y24-with_link-clause-spaces g c =
    rw (c.in-Rtu-Y24-with_link.is-0, c.in-Rtu-Y24-with_link.is-1) (spaces-of _ _ _ Rtu Y24 _ _
    c.space_with-2.result c.space_with-2.ensures.spaces)

pub returns-in-Rtu-Y24-with_link-clause-causes : goal.returns-in-Rtu-Y24-with_link-clause-causes
returns-in-Rtu-Y24-with_link-clause-causes g c =
    c.space_with-2.ensures.causes c.args.proto c.args.profile

pub returns-in-Dnp3-Y24-with_link-clause-spaces : goal.returns-in-Dnp3-Y24-with_link-clause-spaces
returns-in-Dnp3-Y24-with_link-clause-spaces g c =
    rw (c.in-Dnp3-Y24-with_link.is-0, c.in-Dnp3-Y24-with_link.is-1) (spaces-of _ _ _ Dnp3 Y24 _ _
    c.space_with-4.result c.space_with-4.ensures.spaces)

pub returns-in-Dnp3-Y24-with_link-clause-causes : goal.returns-in-Dnp3-Y24-with_link-clause-causes
returns-in-Dnp3-Y24-with_link-clause-causes g c =
    c.space_with-4.ensures.causes c.args.proto c.args.profile

-- The boxes of a link, by its protocol and its profile.
use Rattle.std.specs.Prelude.{ℕ, ◌+◌}
use Rattle.link_format.specs.Setup.{Setup}
use Rattle.sequence_journal.specs.declared.numbers.TheConstants.{LIMIT}
use Rattle.command_ends.specs.Links.{rules_of, link_profile_of, delay_of}
use Rattle.command_ends.specs.declared.link.Profile.{Profile}
use Rattle.command_ends.specs.declared.link.Proto.{Proto}
use Rattle.line_commands.specs.Boxes.{Boxed}
use Rattle.line_commands.specs.SealBoxed.{sealing}
use Rattle.line_commands.specs.CheckBoxed.{checking}

-- How many silent ticks follow a whole line of a device: they close its last burst and carry the
-- trailer.
abbrev pub seal_rest : Profile → ℕ
seal_rest profile = delay_of profile + 6

-- How many silent ticks follow a whole line of a link: the last verdict falls in them, and all that
-- is held back leaves.
abbrev pub check_rest : ℕ
check_rest = 320

-- what the transmitter of a protocol and a profile makes of a line with this setup
abbrev pub seal_boxed : Proto → Profile → Setup → Boxed
seal_boxed proto profile setup =
    sealing (link_profile_of profile (rules_of proto).label LIMIT setup) (rules_of proto) setup.floor

-- what the receiver of a protocol and a profile makes of a link with this setup
abbrev pub check_boxed : Proto → Profile → Setup → Boxed
check_boxed proto profile setup =
    checking (link_profile_of profile (rules_of proto).label LIMIT setup) (rules_of proto) setup.floor

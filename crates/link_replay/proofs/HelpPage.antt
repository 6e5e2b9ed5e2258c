-- The page of `help` has a line for each command.
use Rattle.std.proofs.Common.{take, drop, refl}
use Rattle.link_replay.specs.AboutCommands.{NamesCommands}
use Rattle.link_replay.specs.declared.commands.about.TheConstants.{HELP_PAGE}
use Rattle.link_replay.specs.declared.words.Command.TheVariants.{Init, Read, Vectors, Seal, Check}
use Rattle.link_replay.specs.declared.words.Command.TheVariants.{Replay, Trial, Poll, Space}
use Rattle.link_replay.specs.declared.words.Command.TheVariants.{Audit, Duplex, LiveSeal, LiveCheck}
use Rattle.link_replay.specs.declared.words.Command.TheVariants.{TwoWire, LiveLine, Help, Version}

pub page_names_commands : NamesCommands HELP_PAGE
page_names_commands (Read proto) =
    record { before = take 104 HELP_PAGE; after = drop 114 HELP_PAGE; is = refl }
page_names_commands (Init proto profile dir) =
    record { before = take 173 HELP_PAGE; after = drop 195 HELP_PAGE; is = refl }
page_names_commands (Seal proto profile dir) =
    record { before = take 224 HELP_PAGE; after = drop 250 HELP_PAGE; is = refl }
page_names_commands (Check proto profile dir) =
    record { before = take 304 HELP_PAGE; after = drop 331 HELP_PAGE; is = refl }
page_names_commands (LiveSeal proto profile dir) =
    record { before = take 381 HELP_PAGE; after = drop 412 HELP_PAGE; is = refl }
page_names_commands (LiveCheck proto profile dir) =
    record { before = take 452 HELP_PAGE; after = drop 484 HELP_PAGE; is = refl }
page_names_commands (LiveLine proto profile dir) =
    record { before = take 520 HELP_PAGE; after = drop 552 HELP_PAGE; is = refl }
page_names_commands (Space proto profile) =
    record { before = take 599 HELP_PAGE; after = drop 610 HELP_PAGE; is = refl }
page_names_commands (Replay proto profile dir) =
    record { before = take 678 HELP_PAGE; after = drop 698 HELP_PAGE; is = refl }
page_names_commands (Audit asked) =
    record { before = take 756 HELP_PAGE; after = drop 802 HELP_PAGE; is = refl }
page_names_commands (Duplex proto profile dir) =
    record { before = take 832 HELP_PAGE; after = drop 852 HELP_PAGE; is = refl }
page_names_commands (TwoWire proto profile dir side waits) =
    record { before = take 892 HELP_PAGE; after = drop 932 HELP_PAGE; is = refl }
page_names_commands (Trial proto profile seed count) =
    record { before = take 972 HELP_PAGE; after = drop 994 HELP_PAGE; is = refl }
page_names_commands (Poll proto profile seed count) =
    record { before = take 1048 HELP_PAGE; after = drop 1069 HELP_PAGE; is = refl }
page_names_commands Vectors =
    record { before = take 1125 HELP_PAGE; after = drop 1136 HELP_PAGE; is = refl }
page_names_commands Help =
    record { before = take 1198 HELP_PAGE; after = drop 1206 HELP_PAGE; is = refl }
page_names_commands Version =
    record { before = take 1264 HELP_PAGE; after = drop 1275 HELP_PAGE; is = refl }

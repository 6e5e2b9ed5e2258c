-- Which statuses have a text that is written last to the log.
use Rattle.std.proofs.Common.{◌≡◌, ℕ, List, []}
use Rattle.command_ends.specs.{Reasons.untold, Statuses.fault_line}
use Rattle.command_ends.specs.declared.reasons.Reasons.{Reasons}
use Rattle.command_ends.specs.declared.status.Status.{Status}
use Rattle.command_ends.specs.declared.status.Status.TheVariants.{Done, WriteFault, Unclean}
use Rattle.link_replay.specs.UsageLines.{fault_text, text_with, journal_name}
use Rattle.live_ways.specs.declared.line_status.Ended.{Ended}

-- A status has such a text only if it has a fault line.
no_text_with : (words : List (List ℕ)) (name : List ℕ) (told : Reasons) (status : Status)
    → fault_line untold status ≡ [] → text_with words name told status ≡ []
no_text_with words name told Done none = none
no_text_with words name told WriteFault none = none
no_text_with words name told (Unclean verdict) none = none
no_text_with words name told status none = cc

pub no_text : (words : List (List ℕ)) (told : Reasons) (ended : Ended)
    → fault_line untold ended.status ≡ [] → fault_text words told ended ≡ []
no_text words told ended none =
    no_text_with words (journal_name ended.way) told ended.status none

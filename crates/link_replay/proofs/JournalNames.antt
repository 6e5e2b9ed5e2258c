-- What is said of a journal stands behind the first words of a fault line.
use Rattle.std.proofs.Common.{◌≡◌, ◌∙◌, ℕ, List, [], ◌++◌, Option, Some, None, take, drop}
use Rattle.std.proofs.Common.{refl, ap, sym, append_assoc}
use Rattle.std.specs.Prelude.{codes, decimal, unsigned_abs}
use Rattle.command_ends.specs.Reasons.{named_reason, refused_line}
use Rattle.command_ends.specs.Statuses.{journal_fault_line}
use Rattle.link_replay.specs.UsageLines.{named_fault_line}
use Rattle.yasir_io.specs.declared.reason.Reason.{Reason}
use Rattle.yasir_io.specs.declared.reason.Reason.TheVariants.{Numbered}

behind : (what a b c : List ℕ) → what ++ a ++ b ++ c ≡ what ++ (a ++ b ++ c)
behind what a b c = ap (λ l. l ++ c) (append_assoc what a b) ∙ append_assoc what (a ++ b) c

-- The line of a refused call is what failed, and then the reason.
refused-behind : (what busy : List ℕ) (why : Reason)
    → refused_line what busy why ≡ what ++ refused_line [] busy why
refused-behind what busy (Numbered number) =
    behind what (codes ": error ") (decimal (unsigned_abs number)) (codes " of the system\n")
refused-behind what busy why = behind what (codes ": ") (named_reason busy why) (codes "\n")

-- A name behind the first 14 bytes of a journal's fault line makes it the line of that journal.
pub journal-named : (name : List ℕ) (why : Option Reason)
    → take 14 (journal_fault_line why) ++ name ++ drop 14 (journal_fault_line why)
    ≡ named_fault_line name why
journal-named name None = refl
journal-named name (Some why) =
    let what : List ℕ = codes "fault: journal" in
    let busy : List ℕ = codes "held by another run" in
    ap (λ l. take 14 l ++ name ++ drop 14 l) (refused-behind what busy why)
    ∙ sym (refused-behind (what ++ name) busy why)

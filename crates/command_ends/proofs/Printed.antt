-- A text that was written whole, whatever the flushes after it returned.
use Rattle.command_ends.specs.{PrintsText.PrintsText, declared.status.Status.Status}
use Rattle.command_ends.specs.declared.status.Status.TheVariants.{Done, WriteFault}
use Rattle.std.proofs.Common.{◌≡◌, ◌⊎◌, ℕ, List, [], Option, inl, inr, subst, sym, append-nil}
use Rattle.std.specs.Io.KnownBytes.{append_known}

pub prints_whole : (text : List ℕ) (before now : Option (List ℕ)) (status : Status)
    → (status ≡ Done) ⊎ (status ≡ WriteFault) → now ≡ append_known before text
    → PrintsText text before now status
prints_whole text before now status (inl done) is =
    subst (PrintsText text before now) (sym done) is
prints_whole text before now status (inr fault) is =
    subst (PrintsText text before now) (sym fault) (record {
      front = text;
      rest = [];
      got = is;
      all = sym (append-nil text);
    })

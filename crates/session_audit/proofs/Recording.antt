-- If the recordings are known, and their text was printed or broken off, `PrintsItems` holds.
use Rattle.session_audit.specs.Printing.{PrintsText}
use Rattle.session_audit.specs.Recorded.{IsRecordedWith, PrintsItems}
use Rattle.command_ends.specs.declared.status.Status.{Status, TheVariants.Done}
use Rattle.{command_ends.specs.declared.status.Status.TheVariants.WriteFault, std.proofs.Common.ℕ}
use Rattle.{std.proofs.Common.List, std.proofs.Common.Option, yasir_ticks.specs.Ticks.Item}

module _ (marks rest : ℕ) (text_of : List Item → List ℕ)
    (in_before in_now out_before out_now : Option (List ℕ)) (items : List Item)
    (recorded : IsRecordedWith marks in_before in_now items) where
  pub recorded-prints : (status : Status) → PrintsText (text_of items) out_before out_now status
      → PrintsItems marks rest text_of in_before in_now out_before out_now status
  recorded-prints Done is = record { items = items; recorded = recorded; printed = is }
  recorded-prints WriteFault got = record { items = items; recorded = recorded; printed = got }
  recorded-prints status never = absurd never

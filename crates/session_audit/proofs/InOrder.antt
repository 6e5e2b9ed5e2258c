-- Four texts that are added one after the other, and a text that was printed.
use Rattle.session_audit.proofs.Pushing.{adds-then, breaks-then, breaks-before}
use Rattle.session_audit.specs.Printing.{OnTheWay, AddsText, PrintingBreaksOff, PrintsText}
use Rattle.command_ends.{proofs.Printed.prints_whole, specs.declared.status.Status.Status}
use Rattle.command_ends.specs.declared.status.Status.TheVariants.{Done, WriteFault}
use Rattle.std.proofs.Common.{◌≡◌, ◌⊎◌, ℕ, List, ◌++◌, Option}
use Rattle.std.specs.Io.KnownBytes.{append_known}

module _ (w0 w1 w2 w3 : OnTheWay) (a b c d : List ℕ) where
  abbrev all : List ℕ
  all = a ++ b ++ c ++ d

  pub breaks-first : (held : Option (List ℕ)) → PrintingBreaksOff w0 held a → PrintingBreaksOff w0 held all
  breaks-first held breaks = breaks-before w0 held (a ++ b ++ c) d
      (breaks-before w0 held (a ++ b) c (breaks-before w0 held a b breaks))

  module _ (first : AddsText w0 w1 a) where
    pub breaks-second : (held : Option (List ℕ)) → PrintingBreaksOff w1 held b → PrintingBreaksOff w0 held all
    breaks-second held breaks = breaks-before w0 held (a ++ b ++ c) d
        (breaks-before w0 held (a ++ b) c (breaks-then w0 w1 held a b first breaks))

    module _ (second : AddsText w1 w2 b) where
      two : AddsText w0 w2 (a ++ b)
      two = adds-then w0 w1 w2 a b first second

      pub breaks-third : (held : Option (List ℕ)) → PrintingBreaksOff w2 held c → PrintingBreaksOff w0 held all
      breaks-third held breaks = breaks-before w0 held (a ++ b ++ c) d
          (breaks-then w0 w2 held (a ++ b) c two breaks)

      module _ (third : AddsText w2 w3 c) where
        three : AddsText w0 w3 (a ++ b ++ c)
        three = adds-then w0 w2 w3 (a ++ b) c two third

        pub breaks-fourth : (held : Option (List ℕ)) → PrintingBreaksOff w3 held d
            → PrintingBreaksOff w0 held all
        breaks-fourth held breaks = breaks-then w0 w3 held (a ++ b ++ c) d three breaks

        pub adds-all : (w4 : OnTheWay) → AddsText w3 w4 d → AddsText w0 w4 all
        adds-all w4 fourth = adds-then w0 w3 w4 (a ++ b ++ c) d three fourth

-- A text that was written whole was printed, whether or not the sinks were flushed.
pub prints-by : (text : List ℕ) (before now : Option (List ℕ)) (status : Status)
    → (status ≡ Done) ⊎ (status ≡ WriteFault) → now ≡ append_known before text
    → PrintsText text before now status
prints-by = prints_whole

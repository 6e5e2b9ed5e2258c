-- The text of each way in small streams.
use Rattle.std.proofs.Common.{◌≡◌, [], codes, refl}
use Rattle.live_line.specs.WayText.{text_on}
use Rattle.live_line.specs.declared.ways.Way.TheVariants.{Outgoing, Incoming}
use Rattle.yasir_ticks.specs.TickText.{lines_of}

-- lines of both ways, in turn
in_turn : (text_on Outgoing (codes ">+41\n<-2\n>-1\n<+0a\n") ≡ codes "+41\n-1\n")
    × (text_on Incoming (codes ">+41\n<-2\n>-1\n<+0a\n") ≡ codes "-2\n+0a\n")
unfolding lines_of
in_turn = (refl, refl)

-- a last line that hasn't ended
unended : (text_on Outgoing (codes "<-2\n>+4") ≡ codes "+4")
    × (text_on Incoming (codes "<-2\n>+4") ≡ codes "-2\n")
unfolding lines_of
unended = (refl, refl)

-- a letter alone, and a line with nothing behind its letter
no_text : (text_on Outgoing (codes ">") ≡ []) × (text_on Outgoing (codes ">\n") ≡ codes "\n")
unfolding lines_of
no_text = (refl, refl)

-- a line with no letter adds to neither text
no_letter : (text_on Outgoing (codes "+41\n<-2\n") ≡ []) × (text_on Incoming (codes "+41\n<-2\n") ≡ codes "-2\n")
unfolding lines_of
no_letter = (refl, refl)

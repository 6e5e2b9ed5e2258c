-- What follows from what both ways have heard, or from what stopped one, also follows from how the
-- reading of their stream ended.
use Rattle.live_line.specs.BothWays.{lines_in}
use Rattle.live_line.specs.declared.ways.Way.{Way}
use Rattle.live_ways.proofs.PieceTaken.{behind_by}
use Rattle.live_ways.specs.Ends.{is_stopped_end}
use Rattle.live_ways.specs.WayEnds.{EndsBehind, EndsWithin, EndsAtLast, EndsReading}
use Rattle.live_ways.specs.declared.way_end.WayEnd.{WayEnd}
use Rattle.live_ways.specs.declared.way_end.WayEnd.TheVariants.{Whole}
use Rattle.live_ways.specs.declared.way_end.WayEnd.TheVariants.{ReadFault, Stopped}
use Rattle.std.proofs.Common.{◌≡◌, ℕ, List, false, refl, inl, inr}
use Rattle.tick_drive.specs.declared.consumer.Stop.{Stop}
use Rattle.yasir_ticks.specs.declared.tick.Tick.{Tick}

module _ (Heard Then : (Way → List Tick) → Type 0)
    (Halts Stops : Way → Stop → (Way → List Tick) → Type 0)
    (halts : (way : Way) (stop : Stop) (lines : Way → List Tick) → Halts way stop lines
    → Stops way stop lines) where
  abbrev Hears : WayEnd → Type 0
  Hears end = is_stopped_end end ≡ false → (lines : Way → List Tick) → Heard lines → Then lines

  behind : (end : WayEnd) → Hears end → (front later : List ℕ)
      → EndsBehind Heard Halts end front later → EndsBehind Then Stops end front later
  behind (Stopped way stop) hears front later ends = halts way stop (lines_in front) ends
  behind end hears front later ends =
      behind_by Heard Then Halts Stops end front later refl (hears refl) ends

  within : (end : WayEnd) → Hears end → (stream : List ℕ) → EndsWithin Heard Halts end stream
      → EndsWithin Then Stops end stream
  within end hears stream ends = record {
    front = ends.front;
    later = ends.later;
    is = ends.is;
    begins = ends.begins;
    ends = behind end hears ends.front ends.later ends.ends;
  }

  at_last : (rest : Way → ℕ) (end : WayEnd) → Hears end → (stream : List ℕ)
      → EndsAtLast Heard Halts rest end stream → EndsAtLast Then Stops rest end stream
  at_last rest Whole hears stream ends =
      record { right = ends.right; holds = hears refl _ ends.holds }
  at_last rest (Stopped way stop) hears stream (inl ends) =
      inl (within (Stopped way stop) hears stream ends)
  at_last rest (Stopped way stop) hears stream (inr ends) =
      inr (record { right = ends.right; holds = halts way stop _ ends.holds })
  at_last rest end hears stream ends = within end hears stream ends

  pub reading_by : (rest : Way → ℕ) (at_end : Type 0) (end : WayEnd) → Hears end
      → (stream : List ℕ) → EndsReading Heard Halts rest at_end end stream
      → EndsReading Then Stops rest at_end end stream
  reading_by rest at_end ReadFault hears stream ends =
      record { begins = ends.begins; heard = hears refl _ ends.heard }
  reading_by rest at_end end hears stream (inl ends) = inl (within end hears stream ends)
  reading_by rest at_end end hears stream (inr last) =
      inr (last.0, at_last rest end hears _ last.1)

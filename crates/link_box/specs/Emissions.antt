-- What the receiver sends for a burst of the link, a fixed number of ticks later.
use Rattle.std.specs.Prelude.{ℕ, List, [], ◌∷◌, ◌++◌, replicate}
use Rattle.yasir_ticks.specs.Bursts.{Burst}
use Rattle.yasir_ticks.specs.declared.tick.Tick.{Tick}
use Rattle.yasir_ticks.specs.declared.tick.Tick.TheVariants.{Silent, Byte}
use Rattle.line_rules.specs.Rules.{Rules, lacking_of}
use Rattle.frame_ending.specs.LiveBytes.{live_bytes, live_ticks}
use Rattle.frame_ending.specs.Laid.{later}
use Rattle.link_format.specs.Profile.{Profile, delay}
use Rattle.link_box.specs.Verdicts.{Verdict}
use Rattle.link_box.specs.Verdicts.Verdict.{passed_with, refused, dropped}

-- these ticks, which follow the bytes `h`, with their last byte spoiled
unfoldable pub spoiled : Rules → List ℕ → List Tick → List Tick
spoiled rules h [] = []
spoiled rules h (Silent ∷ ticks) = Silent ∷ spoiled rules h ticks
spoiled rules h (Byte b ∷ []) = Byte (rules.spoil h b) ∷ []
spoiled rules h (Byte b ∷ t ∷ ticks) = Byte b ∷ spoiled rules (h ++ b ∷ []) (t ∷ ticks)

-- how many bytes a burst still lacks by its header
abbrev pub owed : Rules → Burst → ℕ
owed rules d = lacking_of rules (live_bytes rules d)

-- the live ticks of a burst, and a byte 0 for each byte that it lacks, so that a device that has
-- taken its header waits for nothing more
abbrev pub filled_ticks : Rules → Burst → List Tick
filled_ticks rules d = live_ticks rules d ++ replicate (owed rules d) (Byte 0)

-- these ticks of a burst, later by the delay
abbrev pub delayed : Profile → Burst → List Tick → Burst
delayed profile d ticks = later (delay profile) (record { start = d.start; body = ticks })

-- A passed burst leaves with its live ticks as they were. A refused one leaves filled, with its
-- last byte spoiled. Nothing of a dropped one leaves.
abbrev pub emission_by : Profile → Rules → Burst → Verdict → List Burst
emission_by profile rules d (passed_with number) = delayed profile d (live_ticks rules d) ∷ []
emission_by profile rules d (refused why) =
    delayed profile d (spoiled rules [] (filled_ticks rules d)) ∷ []
emission_by profile rules d (dropped why) = []

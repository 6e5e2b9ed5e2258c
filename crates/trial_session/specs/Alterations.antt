-- What is done to the ticks of a period on the link.
use Rattle.std.specs.Prelude.{ℕ, ◌-◌, ◌==◌, List, ◌++◌, length, take, bit_xor, slice_set}
use Rattle.std.specs.Prelude.{slice_index_or, if◌then◌else◌}
use Rattle.yasir_ticks.specs.Ticks.{silent}
use Rattle.yasir_ticks.specs.declared.tick.Tick.{Tick}
use Rattle.yasir_ticks.specs.declared.tick.Tick.TheVariants.{Silent, Byte}
use Rattle.trial_session.specs.declared.alteration.Alteration.{Alteration}
use Rattle.trial_session.specs.declared.alteration.Alteration.TheVariants.{Nothing, Change, Lose}
use Rattle.trial_session.specs.declared.alteration.Alteration.TheVariants.{Repeat, CutOff}

-- the alteration of a kind from 0 to 7, with a place and a value
abbrev pub alteration_of : ℕ → ℕ → ℕ → Alteration
alteration_of kind place value =
    if kind == 4 then Change place value
    else if kind == 5 then Lose
    else if kind == 6 then Repeat
    else if kind == 7 then CutOff place
    else Nothing

-- a changed tick: a byte has the bits of `value` turned, and silence becomes the byte `value`
abbrev pub changed : ℕ → Tick → Tick
changed value Silent = Byte value
changed value (Byte b) = Byte (bit_xor b value)

-- how many ticks half a period has
abbrev pub half_len : ℕ
half_len = 320

-- The ticks of a period as an alteration leaves them: `Change` changes one tick, `Lose` makes all
-- of them silent, `Repeat` puts the first half again in place of the second one, and `CutOff` makes
-- those from a place on silent.
abbrev pub altered : Alteration → List Tick → List Tick
altered Nothing ticks = ticks
altered (Change place value) ticks =
    slice_set ticks place (changed value (slice_index_or ticks place Silent))
altered Lose ticks = silent (length ticks)
altered Repeat ticks = take half_len ticks ++ take half_len ticks
altered (CutOff place) ticks = take place ticks ++ silent (length ticks - place)

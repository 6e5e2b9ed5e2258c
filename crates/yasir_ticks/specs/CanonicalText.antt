-- The canonical tick text of a list of ticks: maximal runs of bytes and of silence, cut into lines
-- that are as long as possible.
use Rattle.std.specs.Prelude.{ℕ, suc, ◌+◌, ◌*◌, ◌/◌, ◌%◌, ◌==◌, if◌then◌else◌, List, [], ◌∷◌, ◌++◌}
use Rattle.std.specs.Prelude.{length, take, drop, replicate}
use Rattle.std.specs.List.{flat_map, range_with_len}
use Rattle.std.specs.Fmt.{decimal}
use Rattle.hex.specs.Hex.{encode_lower}
use Rattle.yasir_ticks.specs.Characters.{plus_sign, minus_sign, line_feed}
use Rattle.yasir_ticks.specs.declared.tick.Tick.{Tick}
use Rattle.yasir_ticks.specs.declared.tick.Tick.TheVariants.{Silent, Byte}

-- a maximal run of bytes, or of silent ticks
pub data Stretch : Type 0 where
  bytes : List ℕ → Stretch
  silence : ℕ → Stretch

-- the maximal runs of a list of ticks, given its first tick and the runs of the others
abbrev pub with_tick : Tick → List Stretch → List Stretch
with_tick (Byte b) [] = bytes (b ∷ []) ∷ []
with_tick (Byte b) (bytes l ∷ more) = bytes (b ∷ l) ∷ more
with_tick (Byte b) (silence n ∷ more) = bytes (b ∷ []) ∷ silence n ∷ more
with_tick Silent [] = silence 1 ∷ []
with_tick Silent (bytes l ∷ more) = silence 1 ∷ bytes l ∷ more
with_tick Silent (silence n ∷ more) = silence (suc n) ∷ more

abbrev pub stretches : List Tick → List Stretch
stretches [] = []
stretches (t ∷ ticks) = with_tick t (stretches ticks)

abbrev pub byte_line : List ℕ → List ℕ
byte_line l = plus_sign ∷ (encode_lower l ++ line_feed ∷ [])

abbrev pub silence_line : ℕ → List ℕ
silence_line n = minus_sign ∷ (decimal n ++ line_feed ∷ [])

-- the lines of a maximal run: of 32 bytes each, or of 1000000 silent ticks each, but the last may
-- have fewer
abbrev pub stretch_lines : Stretch → List ℕ
stretch_lines (bytes l) = flat_map (λ i. byte_line (take 32 (drop (32 * i) l)))
    (range_with_len 0 ((length l + 31) / 32))
stretch_lines (silence n) =
    flat_map silence_line (replicate (n / 1000000) 1000000)
    ++ (if n % 1000000 == 0 then [] else silence_line (n % 1000000))

abbrev pub canonical_text : List Tick → List ℕ
canonical_text ticks = flat_map stretch_lines (stretches ticks)

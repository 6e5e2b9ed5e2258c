-- The live bytes of a burst: those before the first two silent ticks in a row, cut to the room that
-- these bytes have. Only they can be a frame.
use Rattle.std.specs.Prelude.{ℕ, zero, suc, ◌+◌, nat_lt, Bool, true, false, List, [], ◌∷◌, length}
use Rattle.std.specs.Prelude.{take}
use Rattle.line_rules.specs.Rules.{Rules}
use Rattle.yasir_ticks.specs.Ticks.{bytes_in}
use Rattle.yasir_ticks.specs.Bursts.{Burst}
use Rattle.yasir_ticks.specs.declared.tick.Tick.{Tick}
use Rattle.yasir_ticks.specs.declared.tick.Tick.TheVariants.{Silent, Byte}

-- the ticks before the first two silent ticks in a row; silence follows the end of the list
unfoldable pub before_pause : List Tick → List Tick
before_pause [] = []
before_pause (Byte b ∷ l) = Byte b ∷ before_pause l
before_pause (Silent ∷ []) = []
before_pause (Silent ∷ Silent ∷ l) = []
before_pause (Silent ∷ Byte b ∷ l) = Silent ∷ Byte b ∷ before_pause l

-- whether these ticks have two silent ones in a row
unfoldable pub has_pause : List Tick → Bool
has_pause [] = false
has_pause (Byte b ∷ l) = has_pause l
has_pause (Silent ∷ []) = false
has_pause (Silent ∷ Silent ∷ l) = true
has_pause (Silent ∷ Byte b ∷ l) = has_pause l

-- the ticks up to the k-th byte
unfoldable pub up_to_byte : ℕ → List Tick → List Tick
up_to_byte zero l = []
up_to_byte (suc k) [] = []
up_to_byte (suc k) (Silent ∷ l) = Silent ∷ up_to_byte (suc k) l
up_to_byte (suc k) (Byte b ∷ l) = Byte b ∷ up_to_byte k l

-- the first of these bytes, as many as there is room for
abbrev pub within_room : Rules → List ℕ → List ℕ
within_room rules x = take (rules.room x) x

-- the bytes of a burst before its first pause
abbrev pub spelled : Burst → List ℕ
spelled d = bytes_in (before_pause d.body)

-- the live bytes of a burst: those before its first pause, as many as there is room for
abbrev pub live_bytes : Rules → Burst → List ℕ
live_bytes rules d = within_room rules (spelled d)

-- the ticks of a burst up to its last live byte
abbrev pub live_ticks : Rules → Burst → List Tick
live_ticks rules d = up_to_byte (length (live_bytes rules d)) d.body

-- the tick after the last live byte
abbrev pub live_end : Rules → Burst → ℕ
live_end rules d = d.start + length (live_ticks rules d)

-- whether some byte of the burst isn't live
abbrev pub has_extra : Rules → Burst → Bool
has_extra rules d = nat_lt (length (live_bytes rules d)) (length (bytes_in d.body))

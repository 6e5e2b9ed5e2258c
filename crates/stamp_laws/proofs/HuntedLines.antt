-- A device that ignores silence hunts for frames in the bytes of a capture.
use Rattle.device_model.specs.Hunt.{Timed, timed}
use Rattle.line_stamps.specs.{Giving.ByteAt, Giving.bytes_from, Giving.at_tick, Places.PlacedByte}
use Rattle.stamp_laws.specs.HuntedBytes.{timed_byte}
use Rattle.std.proofs.Common.{◌≡◌, ◌∙◌, ℕ, zero, suc, List, [], ◌∷◌, ◌++◌, refl, ap, map}
use Rattle.yasir_ticks.specs.Ticks.{silent}
use Rattle.yasir_ticks.specs.declared.tick.Tick.{Tick, TheVariants.Silent, TheVariants.Byte}

-- a byte in its tick, as it is hunted
abbrev hunted : ByteAt → Timed
hunted x = record { tick = x.tick; byte = x.byte }

timed-is : (n : ℕ) (l : List Tick) → timed n l ≡ map hunted (bytes_from n l)
timed-is n [] = refl
timed-is n (Silent ∷ l) = timed-is (suc n) l
timed-is n (Byte b ∷ l) =
    ap (λ x. (let t : Timed = record { tick = n; byte = b } in t) ∷ x) (timed-is (suc n) l)

hunted-map : (xs : List PlacedByte) → map hunted (map at_tick xs) ≡ map timed_byte xs
hunted-map [] = refl
hunted-map (x ∷ xs) = ap (λ l. timed_byte x ∷ l) (hunted-map xs)

silent-none : (n k : ℕ) → timed n (silent k) ≡ []
silent-none n zero = refl
silent-none n (suc k) = silent-none (suc n) k

timed-silence : (n k : ℕ) (l : List Tick) → timed n (l ++ silent k) ≡ timed n l
timed-silence n k [] = silent-none n k
timed-silence n k (Silent ∷ l) = timed-silence (suc n) k l
timed-silence n k (Byte b ∷ l) =
    ap (λ x. (let t : Timed = record { tick = n; byte = b } in t) ∷ x) (timed-silence (suc n) k l)

-- The bytes of a line are those of the capture, if they are in the same ticks.
pub hunted-line : (l : List Tick) (k : ℕ) (xs : List PlacedByte)
    → bytes_from 0 l ≡ map at_tick xs → timed 0 (l ++ silent k) ≡ map timed_byte xs
hunted-line l k xs stand =
    timed-silence 0 k l
    ∙ (timed-is 0 l ∙ (ap (λ ys. map hunted ys) stand ∙ hunted-map xs))

-- What a device hears of a run of ticks.
use Rattle.frame_ending.specs.Answered.{answered}
use Rattle.device_model.specs.declared.device.Device.{Ghosts as Device}
use Rattle.session_lists.specs.{ReplayLists.Listens, declared.frame_list.FrameList.FrameList}
use Rattle.std.proofs.Common.{◌≡◌, ◌∙◌, ℕ, List, [], ◌∷◌, ◌++◌, ap, sym, subst, append-nil, arith}
use Rattle.std.proofs.Common.{length, map, take, min, ◌-◌, ◌≤◌, ◌+◌, drop, append_assoc}
use Rattle.std.proofs.{Common.length-drop, Math.Seq.take-add}
use Rattle.std.proofs.lemmas.List.{map-append, length-map, take_all, replicate-append-replicate}
use Rattle.yasir_ticks.specs.Ticks.{silent}
use Rattle.yasir_ticks.specs.declared.tick.Tick.{Tick, TheVariants.Silent, TheVariants.Byte}

-- If no more ticks come, the list holds what the device has read as before.
pub hears-nothing : {V : Type 0} (device : Device V) (value : V) (list : FrameList ℕ)
    (line : List Tick) → Listens device value list line → Listens device value list (line ++ [])
hears-nothing device value list line listens =
    subst (Listens device value list) (sym (append-nil line)) listens

-- The answer to a run of `count` ticks is the bytes that are heard, and then silence for the ticks
-- that are left of the run.
pub answered-heard : (line : List Tick) (count : ℕ) (left : List ℕ) (heard : ℕ)
    → heard ≡ min (length left) count → length (answered count left) ≡ count
    → (line ++ map Byte (take heard left)) ++ silent (count - heard) ≡ line ++ answered count left
answered-heard line count [] heard is long =
    let none : heard ≡ 0 = omega arith in
    let rest : count - heard ≡ count = omega arith in
    ap (λ n. (line ++ map Byte (take n [])) ++ silent (count - heard)) none
    ∙ (ap (λ l. l ++ silent (count - heard)) (append-nil line) ∙ ap (λ n. line ++ silent n) rest)
answered-heard line count (b ∷ x) heard is long =
    let size = length-map (b ∷ x) (λ a. Byte a) in
    let all : length (b ∷ x) ≤ heard = omega (arith, long, size) in
    let none : count - heard ≡ 0 = omega (arith, long, size) in
    ap (λ n. (line ++ map Byte (take heard (b ∷ x))) ++ silent n) none
    ∙ (append-nil (line ++ map Byte (take heard (b ∷ x)))
    ∙ ap (λ l. line ++ map Byte l) (take_all heard (b ∷ x) all))

-- ---- ticks in their order

-- To take as many bytes after a place as follow it is to take all of them.
pub slice_rest : (bytes : List ℕ) (i : ℕ)
    → take (length bytes - i) (drop i bytes) ≡ drop i bytes
slice_rest bytes i =
    let long = length-drop i bytes in
    take_all (length bytes - i) (drop i bytes) (omega arith)

-- The first `i` bytes of a list and then the next `n` are its first `i + n` bytes.
pub bytes_on : (line : List Tick) (bytes : List ℕ) (i n : ℕ)
    → (line ++ map Byte (take i bytes)) ++ map Byte (take n (drop i bytes))
    ≡ line ++ map Byte (take (i + n) bytes)
bytes_on line bytes i n =
    append_assoc line (map Byte (take i bytes)) (map Byte (take n (drop i bytes)))
    ∙ ap (λ l. line ++ l)
    (sym (map-append (λ b. Byte b) (take i bytes) (take n (drop i bytes)))
    ∙ ap (λ l. map Byte l) (sym (take-add i n bytes)))

pub silent_on : (line : List Tick) (n m : ℕ)
    → (line ++ silent n) ++ silent m ≡ line ++ silent (n + m)
silent_on line n m = append_assoc line (silent n) (silent m)
    ∙ ap (λ l. line ++ l) (replicate-append-replicate n m Silent)

-- What a device reads of the bursts of a line, if two tests tell its silent ticks.
use Rattle.device_model.specs.Frames.{FrameRead}
use Rattle.device_model.specs.RtuReads.{has_silence, is_frame_body, is_read, frame_in, rtu_reads}
use Rattle.line_stamps.specs.{Clock.silent_ticks, Places.PlacedByte, Places.ticks_from}
use Rattle.{rtu_frame.specs.Frame.is_frame, stamp_laws.proofs.CutLines.body_of}
use Rattle.stamp_laws.proofs.CutLines.{burst_of, Told, IsPart, AreParts, bursts-are, are-parts}
use Rattle.stamp_laws.specs.Cuts.{cut_where, any_next, bytes_of_cut, first_tick, frame_cut}
use Rattle.std.proofs.Common.{◌≡◌, ◌∙◌, ℕ, zero, suc, ◌+◌, ◌≤◌, inl, sym, ap, List, [], ◌∷◌, ◌++◌}
use Rattle.std.proofs.Common.{Bool, true, false, arith, refl, subst, map, filter, nat_lt, nat_le}
use Rattle.std.proofs.Common.{◌&&◌, ◌||◌, not, cond, length, le-leb, length-append}
use Rattle.std.proofs.lemmas.{Bool.lt-ltb, List.length-replicate}
use Rattle.yasir_ticks.proofs.{BurstLaws.bursts_from-silent_end, BurstsOfLaws.bursts_from-are}
use Rattle.yasir_ticks.proofs.SilenceLaws.{bytes_in-silent}
use Rattle.yasir_ticks.specs.Bursts.{Burst, bursts_from, end_of}
use Rattle.yasir_ticks.specs.{BurstsOf.AreBursts, Ticks.silent, Ticks.bytes_in}
use Rattle.yasir_ticks.specs.declared.tick.Tick.{Tick, TheVariants.Silent, TheVariants.Byte}

-- A list of ticks has two silent ones in a row exactly if it begins with two, or has them after its
-- first byte.
pause-before : (g b : ℕ) (l : List Tick)
    → has_silence 2 (silent g ++ (Byte b ∷ l)) ≡ nat_lt 1 g || has_silence 2 (Byte b ∷ l)
unfolding has_silence
pause-before zero b l = refl
pause-before (suc zero) b l = refl
pause-before (suc (suc g)) b l =
    ap (λ v. v || has_silence 2 (Byte b ∷ l)) (sym (lt-ltb 1 (suc (suc g)) (omega arith)))

byte-before : (b : ℕ) (l : List Tick) → has_silence 2 (Byte b ∷ l) ≡ has_silence 2 l
unfolding has_silence
byte-before b l = refl

no-silence : has_silence 2 [] ≡ false
unfolding has_silence
no-silence = refl

body-begins : (x : PlacedByte) (more : List PlacedByte)
    → (l : List Tick) × (body_of (x ∷ more) ≡ Byte x.byte ∷ l)
body-begins x [] = ([], refl)
body-begins x (y ∷ more) = (silent (silent_ticks x y) ++ body_of (y ∷ more), refl)

module _ (parted apart : PlacedByte → PlacedByte → Bool) where
  breaks : (z : List PlacedByte) → IsPart parted apart z
      → has_silence 2 (body_of z) ≡ any_next apart z
  breaks [] part = no-silence
  breaks (x ∷ []) part = byte-before x.byte [] ∙ no-silence
  breaks (x ∷ y ∷ more) part =
      let (l, begins) = body-begins y more in
      byte-before x.byte (silent (silent_ticks x y) ++ body_of (y ∷ more))
      ∙ (ap (λ w. has_silence 2 (silent (silent_ticks x y) ++ w)) begins
      ∙ (pause-before (silent_ticks x y) y.byte l
      ∙ (ap (λ w. nat_lt 1 (silent_ticks x y) || has_silence 2 w) (sym begins)
      ∙ (ap (λ v. v || has_silence 2 (body_of (y ∷ more))) part.0
      ∙ ap (λ v. apart x y || v) (breaks (y ∷ more) part.1)))))

  bytes-are : (z : List PlacedByte) → bytes_in (body_of z) ≡ bytes_of_cut z
  bytes-are [] = refl
  bytes-are (x ∷ []) = refl
  bytes-are (x ∷ y ∷ more) =
      ap (λ w. x.byte ∷ w)
      (bytes_in-silent (silent_ticks x y) (body_of (y ∷ more)) ∙ bytes-are (y ∷ more))

  -- whether the second test holds nowhere in a part, and the part's bytes are a frame
  abbrev pub is_whole_frame : List PlacedByte → Bool
  is_whole_frame z = not (any_next apart z) && is_frame (bytes_of_cut z)

  frame-is : (z : List PlacedByte) → IsPart parted apart z
      → is_frame_body 2 (body_of z) ≡ is_whole_frame z
  frame-is z part =
      ap (λ v. not v && is_frame (bytes_in (body_of z))) (breaks z part)
      ∙ ap (λ w. not (any_next apart z) && is_frame w) (bytes-are z)

  read-is : (z : List PlacedByte) → frame_in (burst_of z) ≡ frame_cut z
  read-is z =
      ap (λ w. let f : FrameRead = record { start = first_tick z; frame = w } in f) (bytes-are z)

-- Each of these bursts ends by tick m.
abbrev AllEnd : ℕ → List Burst → Type 0
AllEnd m [] = Unit {0}
AllEnd m (d ∷ ds) = (end_of d ≤ m) × AllEnd m ds

ends-within : (n m : ℕ) (l : List Tick) (ds : List Burst) → n + length l ≡ m → AreBursts 4 n l ds
    → AllEnd m ds
ends-within n m l [] long are = tt
ends-within n m l (d ∷ ds) long (gap, rest, is, begins, contiguous, far, more) =
    let all : length l ≡ length (silent gap ++ (d.body ++ rest)) = ap length is in
    let parts : length (silent gap ++ (d.body ++ rest)) ≡ gap + (length d.body + length rest) =
    length-append (silent gap) (d.body ++ rest)
    ∙ (ap (λ k. k + length (d.body ++ rest)) (length-replicate gap Silent)
    ∙ ap (λ k. gap + k) (length-append d.body rest)) in
    let e : end_of d + length rest ≡ m = omega arith in
    (omega arith, ends-within (end_of d) m rest ds e more)

module _ (parted apart : PlacedByte → PlacedByte → Bool) where
  -- What is read of bursts that all end by tick m, after four more ticks.
  read-each : (m n : ℕ) → m + 4 ≤ n → (zs : List (List PlacedByte)) → AreParts parted apart zs
      → AllEnd m (map burst_of zs)
      → map frame_in (filter (is_read 4 2 n) (map burst_of zs))
      ≡ map frame_cut (filter (is_whole_frame parted apart) zs)
  read-each m n long [] parts end = refl
  read-each m n long (z ∷ zs) parts end =
      let closed : nat_le (end_of (burst_of z) + 4) n ≡ true =
      le-leb (end_of (burst_of z) + 4) n (let h = end.0 in omega arith) in
      let read : is_read 4 2 n (burst_of z) ≡ is_whole_frame parted apart z =
      ap (λ v. v && is_frame_body 2 (body_of z)) closed ∙ frame-is parted apart z parts.0 in
      let rest = read-each m n long zs parts.1 end.1 in
      ap (λ v. map frame_in (cond v (burst_of z ∷ filter (is_read 4 2 n) (map burst_of zs))
      (filter (is_read 4 2 n) (map burst_of zs)))) read
      ∙ (elim (is_whole_frame parted apart z) as (λ v.
      map frame_in (cond v (burst_of z ∷ filter (is_read 4 2 n) (map burst_of zs))
      (filter (is_read 4 2 n) (map burst_of zs)))
      ≡ map frame_cut (cond v (z ∷ filter (is_whole_frame parted apart) zs)
      (filter (is_whole_frame parted apart) zs))) [
        | true ↦ ap (λ f. f ∷ map frame_in (filter (is_read 4 2 n) (map burst_of zs)))
            (read-is parted apart z) ∙ ap (λ fs. frame_cut z ∷ fs) rest
        | false ↦ rest
      ])

  pub reads-of-parts : (xs : List PlacedByte) → Told parted apart xs → (n : ℕ) → 4 ≤ n
      → rtu_reads (ticks_from 0 xs ++ silent n)
      ≡ map frame_cut (filter (is_whole_frame parted apart) (cut_where parted xs))
  reads-of-parts xs told n some =
      let are : bursts_from 4 0 (ticks_from 0 xs) ≡ map burst_of (cut_where parted xs) =
      bursts-are parted apart 0 xs told (inl (omega arith)) in
      let all : length (ticks_from 0 xs ++ silent n) ≡ length (ticks_from 0 xs) + n =
      length-append (ticks_from 0 xs) (silent n)
      ∙ ap (λ k. length (ticks_from 0 xs) + k) (length-replicate n Silent) in
      let long : length (ticks_from 0 xs) + 4 ≤ length (ticks_from 0 xs ++ silent n) =
      omega arith in
      let ends : AllEnd (length (ticks_from 0 xs)) (map burst_of (cut_where parted xs)) =
      subst (λ (ds : List Burst). AllEnd (length (ticks_from 0 xs)) ds) are
      (ends-within 0 (length (ticks_from 0 xs)) (ticks_from 0 xs)
      (bursts_from 4 0 (ticks_from 0 xs))
      (omega arith) (bursts_from-are 4 0 (ticks_from 0 xs))) in
      ap (λ ds. map frame_in (filter (is_read 4 2 (length (ticks_from 0 xs ++ silent n))) ds))
      (bursts_from-silent_end 4 0 n (ticks_from 0 xs) ∙ are)
      ∙ read-each (length (ticks_from 0 xs)) (length (ticks_from 0 xs ++ silent n)) long
      (cut_where parted xs) (are-parts parted apart xs told) ends

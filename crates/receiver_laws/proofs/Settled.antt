-- What is read of a line doesn't change when the line goes on. So what is read of a line on which
-- emissions are laid is what is read of the emissions.
use Rattle.frame_ending.proofs.{Emissions.laid-more, LaidBursts.bursts-laid}
use Rattle.frame_ending.proofs.Spread.{AreSpread, EndBy, bursts_from-end}
use Rattle.frame_ending.specs.Laid.{tick_at, laid}
use Rattle.device_model.proofs.ReadLaws.{frames_read-append, frames_read-open}
use Rattle.device_model.specs.{Frames.FrameRead, RtuReads.frames_read}
use Rattle.std.proofs.Common.{◌≡◌, ◌∙◌, ℕ, zero, suc, ◌+◌, ◌-◌, ◌<◌, ◌≤◌, List, [], ◌∷◌, ◌++◌}
use Rattle.std.proofs.Common.{length, refl, sym, ap, arith, append_assoc, length-append, ⊎_elim}
use Rattle.std.proofs.lemmas.Bool.{cases_lt}
use Rattle.std.proofs.lemmas.List.{append-nil, length-replicate, FromFn.length-map-range_with_len}
use Rattle.yasir_ticks.proofs.BurstLaws.{alone, with_last, extended, extended-nil, extended-near}
use Rattle.yasir_ticks.proofs.BurstLaws.{extended-far, extended-cons, bursts_from-byte}
use Rattle.yasir_ticks.proofs.BurstLaws.{bursts_from-silent}
use Rattle.yasir_ticks.specs.{Bursts.Burst, Bursts.bursts_from, Bursts.end_of, Ticks.silent}
use Rattle.yasir_ticks.specs.declared.tick.Tick.{Tick, TheVariants.Silent, TheVariants.Byte}

-- What a device reads of a line if `cut` silent ticks end a burst for it, and `pause` silent ticks
-- in a row inside a burst make it no frame. The RTU device has 4 and 2.
abbrev pub reads_with : ℕ → ℕ → List Tick → List FrameRead
reads_with cut pause line = frames_read cut pause (length line) (bursts_from cut 0 line)

-- ---- emissions on a longer line

pub laid-longer : (es : List Burst) (m k n : ℕ) → m + k ≡ n
    → (rest : List Tick) × (laid n es ≡ laid m es ++ rest)
laid-longer es m zero n sum =
    let same : n ≡ m = omega arith in
    ([], ap (λ i. laid i es) same ∙ sym (append-nil (laid m es)))
laid-longer es m (suc k) n sum =
    let shorter = laid-longer es m k (m + k) refl in
    let next : n ≡ m + k + 1 = omega arith in
    let t : Tick = tick_at es (m + k) in (
      shorter.0 ++ t ∷ [],
      ap (λ i. laid i es) next
          ∙ (laid-more (m + k) es
          ∙ (ap (λ x. x ++ t ∷ []) shorter.1 ∙ append_assoc (laid m es) shorter.0 (t ∷ []))),
    )

-- a tick by which all of these bursts have ended
abbrev pub last_end : List Burst → ℕ
last_end [] = 0
last_end (d ∷ ds) = end_of d + last_end ds

pub EndBy-later : (n m : ℕ) (ds : List Burst) → n ≤ m → EndBy n ds → EndBy m ds
EndBy-later n m [] later ends = tt
EndBy-later n m (d ∷ ds) later ends =
    let end : end_of d ≤ n = ends.0 in
    (omega arith, EndBy-later n m ds later ends.1)

pub EndBy-last : (ds : List Burst) → EndBy (last_end ds) ds
EndBy-last [] = tt
EndBy-last (d ∷ ds) =
    let later : last_end ds ≤ end_of d + last_end ds = omega arith in
    let here : end_of d ≤ end_of d + last_end ds = omega arith in
    (here, EndBy-later (last_end ds) (end_of d + last_end ds) ds later (EndBy-last ds))

with_last-later : (d : Burst) (k b : ℕ) → end_of d ≤ k → k < end_of (with_last d k b)
with_last-later d k b ends =
    let long : length (d.body ++ (silent (k - end_of d) ++ Byte b ∷ []))
    ≡ length d.body + ((k - end_of d) + 1) =
    length-append d.body (silent (k - end_of d) ++ Byte b ∷ [])
    ∙ ap (λ n. length d.body + n)
    (length-append (silent (k - end_of d)) (Byte b ∷ [])
    ∙ ap (λ n. n + 1) (length-replicate (k - end_of d) Silent)) in
    omega arith

module _ (cut pause : ℕ) where
  -- a byte at tick k changes nothing of what is read by then
  read-extended : (m k b : ℕ) (ds : List Burst) → m ≤ k → EndBy k ds
      → frames_read cut pause m (extended cut k b ds) ≡ frames_read cut pause m ds
  read-extended m k b [] le ends =
      let open_yet : m < end_of (alone k b) + cut = omega arith in
      ap (λ x. frames_read cut pause m x) (extended-nil cut k b)
      ∙ frames_read-open cut pause m (alone k b) open_yet
  read-extended m k b (d ∷ []) le ends =
      ⊎_elim
      (λ near.
      let later = with_last-later d k b ends.0 in
      let then : m < end_of (with_last d k b) + cut = omega arith in
      let now_open : m < end_of d + cut = omega arith in
      ap (λ x. frames_read cut pause m x) (extended-near cut k b d near)
      ∙ (frames_read-open cut pause m (with_last d k b) then
      ∙ sym (frames_read-open cut pause m d now_open)))
      (λ far.
      let open_yet : m < end_of (alone k b) + cut = omega arith in
      ap (λ x. frames_read cut pause m x) (extended-far cut k b d far)
      ∙ (frames_read-append cut pause m (d ∷ []) (alone k b ∷ [])
      ∙ (ap (λ x. frames_read cut pause m (d ∷ []) ++ x)
      (frames_read-open cut pause m (alone k b) open_yet)
      ∙ append-nil (frames_read cut pause m (d ∷ [])))))
      (cases_lt k (end_of d + cut))
  read-extended m k b (d ∷ e ∷ ds) le ends =
      ap (λ x. frames_read cut pause m x) (extended-cons cut k b d e ds)
      ∙ (frames_read-append cut pause m (d ∷ []) (extended cut k b (e ∷ ds))
      ∙ (ap (λ x. frames_read cut pause m (d ∷ []) ++ x) (read-extended m k b (e ∷ ds) le ends.1)
      ∙ sym (frames_read-append cut pause m (d ∷ []) (e ∷ ds))))

  read-one_more : (m : ℕ) (l : List Tick) (t : Tick) → m ≤ length l
      → frames_read cut pause m (bursts_from cut 0 (l ++ t ∷ []))
      ≡ frames_read cut pause m (bursts_from cut 0 l)
  read-one_more m l Silent le =
      ap (λ x. frames_read cut pause m x) (bursts_from-silent cut 0 l)
  read-one_more m l (Byte b) le =
      let here : 0 + length l ≡ length l = omega arith in
      ap (λ x. frames_read cut pause m x) (bursts_from-byte cut 0 (length l) b l here)
      ∙ read-extended m (length l) b (bursts_from cut 0 l) le
      (bursts_from-end cut 0 (length l) l here)

  reads-settled : (m : ℕ) (l more : List Tick) → m ≤ length l
      → frames_read cut pause m (bursts_from cut 0 (l ++ more))
      ≡ frames_read cut pause m (bursts_from cut 0 l)
  reads-settled m l [] le =
      ap (λ x. frames_read cut pause m (bursts_from cut 0 x)) (append-nil l)
  reads-settled m l (t ∷ more) le =
      let long = length-append l (t ∷ []) in
      ap (λ x. frames_read cut pause m (bursts_from cut 0 x)) (sym (append_assoc l (t ∷ []) more))
      ∙ (reads-settled m (l ++ t ∷ []) more (omega arith) ∙ read-one_more m l t le)

  -- What is read of a line by its end is what is read of the emissions that are laid on it, even if
  -- some haven't ended.
  pub reads-laid : (m : ℕ) (es : List Burst) → AreSpread cut 0 es
      → reads_with cut pause (laid m es) ≡ frames_read cut pause m es
  reads-laid m es spread =
      let long : length (laid m es) ≡ m = length-map-range_with_len (λ i. tick_at es i) 0 m in
      let n : ℕ = m + last_end es in
      let longer = laid-longer es m (last_end es) n refl in
      let ended : last_end es ≤ m + last_end es = omega arith in
      ap (λ i. frames_read cut pause i (bursts_from cut 0 (laid m es))) long
      ∙ (sym (reads-settled m (laid m es) longer.0 (omega arith))
      ∙ ap (λ x. frames_read cut pause m x)
      (ap (λ x. bursts_from cut 0 x) (sym longer.1)
      ∙ bursts-laid cut n es spread
      (EndBy-later (last_end es) n es ended (EndBy-last es))))

-- One more tick of a line that is divided into its closed bursts and the running one.
use Rattle.frame_ending.proofs.{BurstSteps.longer-end, LastBurst.IsWithin}
use Rattle.frame_ending.proofs.{LastBurst.last_burst-within, Running.with_byte_at}
use Rattle.frame_ending.{proofs.Running.divided-running, specs.Divided.IsDivided}
use Rattle.std.proofs.Common.{◌≡◌, ◌∙◌, ℕ, ◌+◌, ◌-◌, ◌<◌, ◌≤◌, List, [], ◌∷◌, ◌++◌, length, refl}
use Rattle.std.proofs.Common.{sym, ap, arith, append_assoc, length-append, get_or, Option, Some}
use Rattle.std.proofs.{Common.None, Common.IfSome, Math.Seq.get_or-append_seam}
use Rattle.std.proofs.lemmas.List.{append-nil, length-replicate}
use Rattle.yasir_ticks.proofs.BurstLaws.{alone, with_last, extended, extended-closed}
use Rattle.yasir_ticks.proofs.BurstLaws.{extended-joins, bursts_from-byte, bursts_from-silent}
use Rattle.yasir_ticks.proofs.BurstLaws.{AreClosed-later, AreClosed-more}
use Rattle.yasir_ticks.proofs.BurstsOfLaws.{contiguous-more}
use Rattle.yasir_ticks.specs.Bursts.{Burst, bursts, end_of, AreClosed}
use Rattle.yasir_ticks.specs.{BurstsOf.IsContiguous, BurstsOf.one, Ticks.silent}
use Rattle.yasir_ticks.specs.declared.tick.Tick.{Tick, TheVariants.Silent, TheVariants.Byte}

-- a line that is longer by one tick
pub longer-line : (line : List Tick) (t : Tick) → length (line ++ t ∷ []) ≡ length line + 1
longer-line line t = length-append line (t ∷ [])

module _ (line : List Tick) (closed : List Burst) where
  closed-later : (t : Tick) → AreClosed 4 (length line) closed
      → AreClosed 4 (length (line ++ t ∷ [])) closed
  closed-later t are =
      let n = longer-line line t in
      AreClosed-later 4 (length line) (length (line ++ t ∷ [])) closed (omega arith) are

  -- the running burst is contiguous, and ends within the line
  pub divided-within : (d : Burst) → IsDivided line closed (Some d) → IsWithin (length line) d
  divided-within d divided = last_burst-within line d
      (divided-running line closed (Some d) divided).0

  -- ---- a byte

  byte-bursts : (b : ℕ) (running : Option Burst) → IsDivided line closed running
      → bursts (line ++ Byte b ∷ []) ≡ closed ++ with_byte_at (length line) b running ∷ []
  byte-bursts b None divided =
      let here : 0 + length line ≡ length line = omega arith in
      bursts_from-byte 4 0 (length line) b line here
      ∙ (ap (λ ds. extended 4 (length line) b ds) (divided.is ∙ append-nil closed)
      ∙ extended-closed 4 (length line) b closed divided.are_closed)
  byte-bursts b (Some d) divided =
      let here : 0 + length line ≡ length line = omega arith in
      bursts_from-byte 4 0 (length line) b line here
      ∙ (ap (λ ds. extended 4 (length line) b ds) divided.is
      ∙ extended-joins 4 (length line) b closed d divided.is_running)

  -- after a byte, the running burst ends with it
  pub byte-ends : (b : ℕ) (running : Option Burst) → IsDivided line closed running
      → end_of (with_byte_at (length line) b running) ≡ length line + 1
  byte-ends b None divided = refl
  byte-ends b (Some d) divided = longer-end (length line) b d (divided-within d divided)

  pub byte-begun : (b : ℕ) (running : Option Burst) → IsDivided line closed running
      → (with_byte_at (length line) b running).start ≤ length line
  byte-begun b None divided = omega arith
  byte-begun b (Some d) divided = let end = (divided-within d divided).within in omega arith

  pub byte-contiguous : (b : ℕ) (running : Option Burst) → IsDivided line closed running
      → IsContiguous 4 (with_byte_at (length line) b running).body
  byte-contiguous b None divided = one b
  byte-contiguous b (Some d) divided =
      let within = divided-within d divided in
      let near : length line < end_of d + 4 = divided.is_running in
      let few : length line - end_of d < 4 = omega arith in
      contiguous-more 4 d.body (length line - end_of d) b within.contiguous few

  -- after a byte, the last tick of the running burst is that byte
  pub byte-last : (b : ℕ) (running : Option Burst) → IsDivided line closed running
      → get_or (with_byte_at (length line) b running).body
      (length line - (with_byte_at (length line) b running).start) Silent ≡ Byte b
  byte-last b None divided =
      let none : length line - length line ≡ 0 = omega arith in
      ap (λ k. get_or (Byte b ∷ []) k Silent) none
  byte-last b (Some d) divided =
      let end = (divided-within d divided).within in
      let gap : ℕ = length line - end_of d in
      let front : List Tick = d.body ++ silent gap in
      let long : length front ≡ length d.body + gap =
      length-append d.body (silent gap)
      ∙ ap (λ k. length d.body + k) (length-replicate gap Silent) in
      let same : length line - d.start ≡ length front = omega arith in
      ap (λ x. get_or x (length line - d.start) Silent)
      (sym (append_assoc d.body (silent gap) (Byte b ∷ [])))
      ∙ (ap (λ k. get_or (front ++ Byte b ∷ []) k Silent) same
      ∙ get_or-append_seam front (Byte b) [] Silent)

  -- A byte begins a burst or is the next one of the running burst.
  pub divided-byte : (b : ℕ) (running : Option Burst) → IsDivided line closed running
      → IsDivided (line ++ Byte b ∷ []) closed (Some (with_byte_at (length line) b running))
  divided-byte b running divided =
      let n = longer-line line (Byte b) in
      let ends = byte-ends b running divided in
      let near : length (line ++ Byte b ∷ []) < end_of (with_byte_at (length line) b running) + 4 =
      omega arith in
      record {
        is = byte-bursts b running divided;
        are_closed = closed-later (Byte b) divided.are_closed;
        is_running = near;
      }

  pub divided-begins : (b : ℕ) → IsDivided line closed None
      → IsDivided (line ++ Byte b ∷ []) closed (Some (alone (length line) b))
  divided-begins b divided = divided-byte b None divided

  pub divided-goes_on : (b : ℕ) (d : Burst) → IsDivided line closed (Some d)
      → IsDivided (line ++ Byte b ∷ []) closed (Some (with_last d (length line) b))
  divided-goes_on b d divided = divided-byte b (Some d) divided

  -- ---- silence

  -- A silent tick before the fourth in a row doesn't close the running burst, if there is one.
  pub divided-waits : (running : Option Burst) → IsDivided line closed running
      → IfSome running (λ d. length line + 1 < end_of d + 4)
      → IsDivided (line ++ Silent ∷ []) closed running
  divided-waits None divided near =
      record {
        is = bursts_from-silent 4 0 line ∙ divided.is;
        are_closed = closed-later Silent divided.are_closed;
        is_running = tt;
      }
  divided-waits (Some d) divided near =
      let n = longer-line line Silent in
      let open' : length (line ++ Silent ∷ []) < end_of d + 4 = omega arith in
      record {
        is = bursts_from-silent 4 0 line ∙ divided.is;
        are_closed = closed-later Silent divided.are_closed;
        is_running = open';
      }

  -- The fourth silent tick in a row closes the running burst.
  pub divided-closes : (d : Burst) → IsDivided line closed (Some d) → length line + 1 ≡ end_of d + 4
      → IsDivided (line ++ Silent ∷ []) (closed ++ d ∷ []) None
  divided-closes d divided last =
      let n = longer-line line Silent in
      let past : end_of d + 4 ≤ length (line ++ Silent ∷ []) = omega arith in
      record {
        is = bursts_from-silent 4 0 line ∙ (divided.is ∙ sym (append-nil (closed ++ d ∷ [])));
        are_closed = AreClosed-more 4 (length (line ++ Silent ∷ [])) closed d
            (closed-later Silent divided.are_closed) past;
        is_running = tt;
      }

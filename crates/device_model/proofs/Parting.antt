-- One more tick of a line that is parted into its closed bursts and the running one.
use Rattle.device_model.specs.Parted.{IsParted}
use Rattle.std.proofs.Common.{◌≡◌, ◌∙◌, ℕ, ◌+◌, ◌-◌, ◌<◌, ◌≤◌, List, [], ◌∷◌, ◌++◌, length, refl}
use Rattle.std.proofs.Common.{sym, ap, arith, length-append, Some, None}
use Rattle.std.proofs.lemmas.List.{append-nil, length-replicate}
use Rattle.yasir_ticks.proofs.BurstLaws.{alone, extended, extended-closed, extended-joins}
use Rattle.yasir_ticks.proofs.BurstLaws.{bursts_from-byte, bursts_from-silent, AreClosed-later}
use Rattle.yasir_ticks.{proofs.BurstLaws.AreClosed-more, specs.Bursts.Burst}
use Rattle.yasir_ticks.specs.{Bursts.bursts_from, Bursts.end_of, Bursts.AreClosed, Ticks.silent}
use Rattle.yasir_ticks.specs.declared.tick.Tick.{Tick, TheVariants.Silent, TheVariants.Byte}

-- a burst with `quiet` silent ticks and then a byte added to it
abbrev pub grown_by : Burst → ℕ → ℕ → Burst
grown_by d quiet b = record { start = d.start; body = d.body ++ (silent quiet ++ Byte b ∷ []) }

pub longer : (line : List Tick) (t : Tick) → length (line ++ t ∷ []) ≡ length line + 1
longer line t = length-append line (t ∷ [])

module _ (cut : ℕ) where
  pub parted-nothing : IsParted cut cut [] [] None
  unfolding bursts_from
  parted-nothing = record { is = refl; are_closed = tt; is_quiet = refl }

  module _ (line : List Tick) (closed : List Burst) where
    later : (t : Tick) → AreClosed cut (length line) closed
        → AreClosed cut (length (line ++ t ∷ [])) closed
    later t are =
        let n = longer line t in
        AreClosed-later cut (length line) (length (line ++ t ∷ [])) closed (omega arith) are

    -- If no burst is running, a byte begins one.
    pub parted-begins : (quiet b : ℕ) → 0 < cut → IsParted cut quiet line closed None
        → IsParted cut 0 (line ++ Byte b ∷ []) closed (Some (alone (length line) b))
    parted-begins quiet b some parted =
        let here : 0 + length line ≡ length line = omega arith in
        let n = longer line (Byte b) in
        let end : end_of (alone (length line) b) + 0 ≡ length (line ++ Byte b ∷ []) = omega arith in
        record {
          is = bursts_from-byte cut 0 (length line) b line here
              ∙ (ap (λ ds. extended cut (length line) b ds) (parted.is ∙ append-nil closed)
              ∙ extended-closed cut (length line) b closed parted.are_closed);
          are_closed = later (Byte b) parted.are_closed;
          is_quiet = (some, end);
        }

    -- If a burst is running, a byte goes on with it.
    pub parted-goes_on : (quiet b : ℕ) (d : Burst) → IsParted cut quiet line closed (Some d)
        → IsParted cut 0 (line ++ Byte b ∷ []) closed (Some (grown_by d quiet b))
    parted-goes_on quiet b d parted =
        let here : 0 + length line ≡ length line = omega arith in
        let n = longer line (Byte b) in
        let few : quiet < cut = parted.is_quiet.0 in
        let at : end_of d + quiet ≡ length line = parted.is_quiet.1 in
        let near : length line < end_of d + cut = omega arith in
        let since : length line - end_of d ≡ quiet = omega arith in
        let some : 0 < cut = omega arith in
        let long : length (grown_by d quiet b).body ≡ length d.body + (quiet + 1) =
        length-append d.body (silent quiet ++ Byte b ∷ [])
        ∙ ap (λ k. length d.body + k) (length-append (silent quiet) (Byte b ∷ [])
        ∙ ap (λ k. k + 1) (length-replicate quiet Silent)) in
        let end : end_of (grown_by d quiet b) + 0 ≡ length (line ++ Byte b ∷ []) = omega arith in
        record {
          is = bursts_from-byte cut 0 (length line) b line here
              ∙ (ap (λ ds. extended cut (length line) b ds) parted.is
              ∙ (extended-joins cut (length line) b closed d near
              ∙ ap (λ k. closed ++ grown_by d k b ∷ []) since));
          are_closed = later (Byte b) parted.are_closed;
          is_quiet = (some, end);
        }

    -- If no burst is running, silence goes on.
    pub parted-rests : (quiet : ℕ) → IsParted cut quiet line closed None
        → IsParted cut quiet (line ++ Silent ∷ []) closed None
    parted-rests quiet parted = record {
      is = bursts_from-silent cut 0 line ∙ parted.is;
      are_closed = later Silent parted.are_closed;
      is_quiet = parted.is_quiet;
    }

    -- A silent tick that comes too early to end the running burst leaves it running.
    pub parted-waits : (quiet : ℕ) (d : Burst) → quiet + 1 < cut
        → IsParted cut quiet line closed (Some d)
        → IsParted cut (quiet + 1) (line ++ Silent ∷ []) closed (Some d)
    parted-waits quiet d few parted =
        let n = longer line Silent in
        let at : end_of d + quiet ≡ length line = parted.is_quiet.1 in
        let next : end_of d + (quiet + 1) ≡ length (line ++ Silent ∷ []) = omega arith in
        record {
          is = bursts_from-silent cut 0 line ∙ parted.is;
          are_closed = later Silent parted.are_closed;
          is_quiet = (few, next);
        }

    -- The silent tick with which the silence is as long as `cut` ends the running burst.
    pub parted-ends : (quiet : ℕ) (d : Burst) → quiet + 1 ≡ cut
        → IsParted cut quiet line closed (Some d)
        → IsParted cut cut (line ++ Silent ∷ []) (closed ++ d ∷ []) None
    parted-ends quiet d last parted =
        let n = longer line Silent in
        let at : end_of d + quiet ≡ length line = parted.is_quiet.1 in
        let past : end_of d + cut ≤ length (line ++ Silent ∷ []) = omega arith in
        record {
          is = bursts_from-silent cut 0 line ∙ (parted.is ∙ sym (append-nil (closed ++ d ∷ [])));
          are_closed = AreClosed-more cut (length (line ++ Silent ∷ [])) closed d
              (later Silent parted.are_closed) past;
          is_quiet = refl;
        }

-- A causal walk on longer lines: its notes and its other line begin with those that it has for a
-- front of the line.
use Rattle.frame_ending.{proofs.Walks.adds_one_tick, specs.Causal.IsCausal, specs.Causal.AddsOneTick}
use Rattle.frame_ending.specs.{Laid.tick_at, Laid.laid, Longer.Begins, Longer.Extends, Walk.Walker}
use Rattle.frame_ending.specs.Walk.{walked, emitted_by, notes_before, notes_at, notes_of, line_of}
use Rattle.std.proofs.Common.{◌≡◌, ◌∙◌, ℕ, List, [], ◌∷◌, ◌++◌, length, sym, ap, subst}
use Rattle.std.proofs.Common.{append_assoc}
use Rattle.std.proofs.lemmas.List.{append-nil, FromFn.length-map-range_with_len}
use Rattle.yasir_ticks.proofs.BurstLaws.{bursts_from-silent_end}
use Rattle.yasir_ticks.specs.{Bursts.bursts, Ticks.silent}
use Rattle.yasir_ticks.specs.declared.{TheConstants.T3_5_TICKS, tick.Tick.Tick}

begins-more : {A : Type 0} (a b c : List A) (added : List A) → b ≡ a ++ added → Begins b c
    → Begins a c
begins-more a b c added is begins = record {
  rest = added ++ begins.rest;
  is = begins.is ∙ (ap (λ x. x ++ begins.rest) is ∙ append_assoc a added begins.rest);
}

-- The other line is as long as the line.
pub length-line_of : {S N : Type 0} (w : Walker S N) (s : S) (line : List Tick)
    → length (line_of w s line) ≡ length line
length-line_of w s line = length-map-range_with_len (λ i. tick_at (emitted_by w s (bursts line)) i) 0
    (length line)

module _ {S N : Type 0} (w : Walker S N) (causal : IsCausal w) where
  pub extends : (s : S) (line more : List Tick) → Extends w s line more
  extends s line [] =
      let P : List Tick → Type 0 = λ l. Extends w s line l in
      let same : Begins (notes_of w s line) (notes_of w s (line ++ [])) =
      record {
        rest = [];
        is = ap (λ l. notes_of w s l) (append-nil line)
            ∙ sym (append-nil (notes_of w s line));
      } in
      let ticks : Begins (line_of w s line) (line_of w s (line ++ [])) =
      record {
        rest = [];
        is = ap (λ l. line_of w s l) (append-nil line)
            ∙ sym (append-nil (line_of w s line));
      } in
      record { notes = same; ticks = ticks }
  extends s line (t ∷ more) =
      let on : AddsOneTick w s line t = adds_one_tick w causal s line t in
      let rest : Extends w s (line ++ t ∷ []) more = extends s (line ++ t ∷ []) more in
      let whole : (line ++ t ∷ []) ++ more ≡ line ++ t ∷ more = append_assoc line (t ∷ []) more in
      let P : List Tick → Type 0 = λ l. Begins (notes_of w s (line ++ t ∷ [])) (notes_of w s l) in
      let Q : List Tick → Type 0 = λ l. Begins (line_of w s (line ++ t ∷ [])) (line_of w s l) in
      record {
        notes = begins-more (notes_of w s line) (notes_of w s (line ++ t ∷ []))
            (notes_of w s (line ++ t ∷ more))
            (notes_at (length line) (walked w s (bursts (line ++ t ∷ [])))) on.notes
            (subst P whole rest.notes);
        ticks = begins-more (line_of w s line) (line_of w s (line ++ t ∷ []))
            (line_of w s (line ++ t ∷ more))
            (tick_at (emitted_by w s (bursts (line ++ t ∷ []))) (length line) ∷ []) on.ticks
            (subst Q whole rest.ticks);
      }

-- ---- silence after a line: the bursts and all that falls into the line's own ticks stay the same

module _ {S N : Type 0} (w : Walker S N) (s : S) (line : List Tick) (k : ℕ) where
  pub notes_of-silence : notes_before (length line) (walked w s (bursts (line ++ silent k)))
      ≡ notes_of w s line
  notes_of-silence = ap (λ ds. notes_before (length line) (walked w s ds))
      (bursts_from-silent_end T3_5_TICKS 0 k line)

  pub line_of-silence : laid (length line) (emitted_by w s (bursts (line ++ silent k)))
      ≡ line_of w s line
  line_of-silence = ap (λ ds. laid (length line) (emitted_by w s ds))
      (bursts_from-silent_end T3_5_TICKS 0 k line)

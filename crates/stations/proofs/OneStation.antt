-- If all frames name the same station, the box of several stations is the box of one.
use Rattle.frame_ending.specs.Walk.{Walker, noted, walked, emitted_by}
use Rattle.line_rules.specs.Rules.{Rules}
use Rattle.link_format.specs.NumberedFrame.{NumberedFrame}
use Rattle.std.proofs.Common.{◌≡◌, ◌∙◌, ℕ, List, [], ◌∷◌, ◌++◌, Option, Some, None, refl, sym, ap}
use Rattle.yasir_ticks.specs.Bursts.{Burst}
use Rattle.stations.proofs.Numbering.{IsNumbering, floor_by}
use Rattle.stations.specs.Shared.{StationBox, SharedState, floors_after, shared}

module _ {S N : Type 0} (rules : Rules) (box : StationBox S N) (is : IsNumbering rules box) where
  abbrev w : Walker SharedState N
  w = shared (λ x. 0) rules box

  abbrev its : SharedState → S
  its s = box.state (s.floors 0) s.free_from

  floor-is : (floors : ℕ → ℕ) (o : Option NumberedFrame)
      → floors_after (λ x. 0) floors o 0 ≡ floor_by (floors 0) o
  floor-is floors None = refl
  floor-is floors (Some f) = refl

  next-is : (s : SharedState) (d : Burst) → its (w.next s d) ≡ box.walker.next (its s) d
  next-is s d =
      ap (λ n. box.state n (box.free_from (box.walker.next (its s) d)))
      (floor-is s.floors (box.frame_in (box.walker.note (its s) d)))
      ∙ sym (is.counts (s.floors 0) s.free_from d)

  pub one-walked : (s : SharedState) (ds : List Burst)
      → walked w s ds ≡ walked box.walker (its s) ds
  one-walked s [] = refl
  one-walked s (d ∷ ds) =
      ap (λ l. noted w s d ∷ l)
      (one-walked (w.next s d) ds ∙ ap (λ t. walked box.walker t ds) (next-is s d))

  pub one-emitted : (s : SharedState) (ds : List Burst)
      → emitted_by w s ds ≡ emitted_by box.walker (its s) ds
  one-emitted s [] = refl
  one-emitted s (d ∷ ds) =
      ap (λ l. w.emission s d ++ l)
      (one-emitted (w.next s d) ds ∙ ap (λ t. emitted_by box.walker t ds) (next-is s d))

-- A walk over a line of which the first part ends in silence, and all that it emitted has left: it
-- goes on as a walk over the second part alone, later.
use Rattle.frame_ending.proofs.Emissions.{tick_at-none, tick_at-front, laid-more, laid-same}
use Rattle.frame_ending.proofs.Spread.{AreSpread, EndBy, bursts-spread, bursts-end}
use Rattle.frame_ending.proofs.Walks.{walked-append, emitted-append, before-early, before-late}
use Rattle.frame_ending.specs.{Causal.IsCausal, Laid.tick_at, Laid.laid, Laid.later}
use Rattle.frame_ending.specs.Walk.{Walker, Noted, noted, walked, emitted_by, state_after}
use Rattle.frame_ending.specs.Walk.{notes_before, notes_of, line_of}
use Rattle.link_format.specs.NumberedFrame.{NumberedFrame}
use Rattle.poll_laws.specs.Rested.{frame_later}
use Rattle.std.proofs.Common.{◌≡◌, ◌∙◌, ℕ, zero, suc, ◌+◌, ◌-◌, ◌<◌, ◌≤◌, ◌&&◌, nat_le, nat_lt, false}
use Rattle.std.proofs.Common.{Option, Some, None, List, [], ◌∷◌, ◌++◌, length, map, refl, sym, ap, arith}
use Rattle.std.proofs.Common.{append_assoc, length-append, ⊎_elim, subst}
use Rattle.std.proofs.lemmas.Bool.{cases_lt}
use Rattle.std.proofs.lemmas.List.{append-nil, length-replicate, map-append}
use Rattle.std.proofs.lemmas.List.Elements.{filter-append}
use Rattle.std.specs.List.{cons_option, filter_map}
use Rattle.two_wire.proofs.Resting.{bursts-joined, bursts-later}
use Rattle.yasir_ticks.proofs.BurstLaws.{bursts_from-silent_end}
use Rattle.yasir_ticks.specs.{Bursts.Burst, Bursts.bursts, Bursts.end_of, Ticks.silent}
use Rattle.yasir_ticks.specs.declared.{TheConstants.T3_5_TICKS, tick.Tick.Tick}
use Rattle.yasir_ticks.specs.declared.tick.Tick.TheVariants.{Silent}

-- ---- emissions that are laid n ticks later

not_yet : (a b i : ℕ) → i < a → (nat_le a i && nat_lt i b) ≡ false
not_yet a b i h = grind arith

module _ (n : ℕ) where
  pub later-dark : (ds : List Burst) (i : ℕ) → i < n → tick_at (map (later n) ds) i ≡ Silent
  unfolding tick_at
  later-dark [] i before = refl
  later-dark (d ∷ ds) i before =
      let early : i < n + d.start = omega arith in
      rw (not_yet (n + d.start) (n + d.start + length d.body) i early) (later-dark ds i before)

  same_place : (a b i : ℕ) → (nat_le (n + a) (n + i) && nat_lt (n + i) (n + a + b))
      ≡ (nat_le a i && nat_lt i (a + b))
  same_place a b i = grind arith

  pub tick_at-later : (ds : List Burst) (i j : ℕ) → n + i ≡ j
      → tick_at (map (later n) ds) j ≡ tick_at ds i
  unfolding tick_at
  tick_at-later [] i j at = refl
  tick_at-later (d ∷ ds) i j at =
      let back : n + i - (n + d.start) ≡ i - d.start = omega arith in
      rw (sym at, same_place d.start (length d.body) i, back, tick_at-later ds i (n + i) refl) refl

-- Holds if from tick n on emissions hide nothing that is laid behind them.
abbrev pub AreGone : ℕ → List Burst → Type 0
AreGone n es = (i : ℕ) → n ≤ i → (more : List Burst) → tick_at (es ++ more) i ≡ tick_at more i

module _ (es fs : List Burst) (n : ℕ) (gone : AreGone n es) where
  laid-front : laid n (es ++ map (later n) fs) ≡ laid n es
  laid-front = laid-same 0 n (λ i. tick_at (es ++ map (later n) fs) i) (λ i. tick_at es i)
      (λ i below.
      let before : i < n = omega arith in
      tick_at-front es (map (later n) fs) [] i
      (later-dark n fs i before ∙ sym (tick_at-none i))
      ∙ ap (λ l. tick_at l i) (append-nil es))

  pub laid-split : (m : ℕ) → laid (n + m) (es ++ map (later n) fs) ≡ laid n es ++ laid m fs
  laid-split zero =
      let none : n + 0 ≡ n = omega arith in
      ap (λ i. laid i (es ++ map (later n) fs)) none ∙ (laid-front ∙ sym (append-nil (laid n es)))
  laid-split (suc m) =
      let all : List Burst = es ++ map (later n) fs in
      let next : n + suc m ≡ n + m + 1 = omega arith in
      let one : suc m ≡ m + 1 = omega arith in
      let behind : n ≤ n + m = omega arith in
      ap (λ i. laid i all) next
      ∙ (laid-more (n + m) all
      ∙ (ap (λ l. l ++ tick_at all (n + m) ∷ []) (laid-split m)
      ∙ (append_assoc (laid n es) (laid m fs) (tick_at all (n + m) ∷ [])
      ∙ (ap (λ t. laid n es ++ (laid m fs ++ t ∷ []))
      (gone (n + m) behind (map (later n) fs) ∙ tick_at-later n fs m (n + m) refl)
      ∙ ap (λ l. laid n es ++ l) (sym (ap (λ i. laid i fs) one ∙ laid-more m fs))))))

  -- From then on only silence leaves.
  pub laid-dark : (k : ℕ) → laid (n + k) es ≡ laid n es ++ silent k
  laid-dark zero =
      let none : n + 0 ≡ n = omega arith in
      ap (λ i. laid i es) none ∙ sym (append-nil (laid n es))
  laid-dark (suc k) =
      let next : n + suc k ≡ n + k + 1 = omega arith in
      let behind : n ≤ n + k = omega arith in
      ap (λ i. laid i es) next
      ∙ (laid-more (n + k) es
      ∙ (ap (λ l. l ++ tick_at es (n + k) ∷ []) (laid-dark k)
      ∙ (append_assoc (laid n es) (silent k) (tick_at es (n + k) ∷ [])
      ∙ ap (λ l. laid n es ++ l)
      (ap (λ t. silent k ++ t ∷ [])
      (ap (λ l. tick_at l (n + k)) (sym (append-nil es)) ∙ (gone (n + k) behind [] ∙ tick_at-none (n + k)))
      ∙ silent-more k))))
    where
      silent-more : (k : ℕ) → silent k ++ Silent ∷ [] ≡ silent (suc k)
      silent-more zero = refl
      silent-more (suc k) = ap (λ l. Silent ∷ l) (silent-more k)

-- ---- walks over bursts that come n ticks later

-- Holds if a walk makes the same of a burst that comes n ticks later, from states that are alike.
pub record Shifts {S N : Type 0} (w : Walker S N) (n : ℕ) (moved : N → N) (Alike : S → S → Type 0) :
    Type 0 where
  pub next : (s t : S) (d : Burst) → Alike s t → Alike (w.next s (later n d)) (w.next t d)
  pub emission : (s t : S) (d : Burst) → Alike s t
      → w.emission s (later n d) ≡ map (later n) (w.emission t d)
  pub tick : (s t : S) (d : Burst) → Alike s t → w.tick s (later n d) ≡ n + w.tick t d
  pub note : (s t : S) (d : Burst) → Alike s t → w.note s (later n d) ≡ moved (w.note t d)

module _ {S N : Type 0} (w : Walker S N) (n : ℕ) (moved : N → N) (Alike : S → S → Type 0)
    (shifts : Shifts w n moved Alike) where
  abbrev pub moved_note : Noted N → Noted N
  moved_note q = record { tick = n + q.tick; note = moved q.note }

  emitted-later : (s t : S) (ds : List Burst) → Alike s t
      → emitted_by w s (map (later n) ds) ≡ map (later n) (emitted_by w t ds)
  emitted-later s t [] alike = refl
  emitted-later s t (d ∷ ds) alike =
      ap (λ l. l ++ emitted_by w (w.next s (later n d)) (map (later n) ds))
      (shifts.emission s t d alike)
      ∙ (ap (λ l. map (later n) (w.emission t d) ++ l)
      (emitted-later (w.next s (later n d)) (w.next t d) ds (shifts.next s t d alike))
      ∙ sym (map-append (later n) (w.emission t d) (emitted_by w (w.next t d) ds)))

  noted-later : (s t : S) (d : Burst) → Alike s t
      → noted w s (later n d) ≡ moved_note (noted w t d)
  noted-later s t d alike =
      ap (λ i. let q : Noted N = record { tick = i; note = w.note s (later n d) } in q)
      (shifts.tick s t d alike)
      ∙ ap (λ v. let q : Noted N = record { tick = n + w.tick t d; note = v } in q)
      (shifts.note s t d alike)

  walked-later : (s t : S) (ds : List Burst) → Alike s t
      → walked w s (map (later n) ds) ≡ map moved_note (walked w t ds)
  walked-later s t [] alike = refl
  walked-later s t (d ∷ ds) alike =
      ap (λ q. q ∷ walked w (w.next s (later n d)) (map (later n) ds)) (noted-later s t d alike)
      ∙ ap (λ l. moved_note (noted w t d) ∷ l)
      (walked-later (w.next s (later n d)) (w.next t d) ds (shifts.next s t d alike))

  before-moved : (m : ℕ) (notes : List (Noted N))
      → notes_before (n + m) (map moved_note notes) ≡ map moved_note (notes_before m notes)
  before-moved m [] = refl
  before-moved m (q ∷ notes) =
      ⊎_elim
      (λ early.
      let still : n + q.tick < n + m = omega arith in
      before-early (n + m) (moved_note q) (map moved_note notes) still
      ∙ (ap (λ l. moved_note q ∷ l) (before-moved m notes)
      ∙ sym (ap (map moved_note) (before-early m q notes early))))
      (λ late.
      let still : n + m ≤ n + q.tick = omega arith in
      before-late (n + m) (moved_note q) (map moved_note notes) still
      ∙ (before-moved m notes ∙ sym (ap (map moved_note) (before-late m q notes late))))
      (cases_lt q.tick m)

-- ---- all notes of a line that ends in silence

module _ {S N : Type 0} (w : Walker S N) (causal : IsCausal w) where
  pub all-noted : (s : S) (n m k : ℕ) (ds : List Burst) → AreSpread T3_5_TICKS n ds → EndBy m ds
      → m + T3_5_TICKS ≤ k → notes_before k (walked w s ds) ≡ walked w s ds
  all-noted s n m k [] spread ends late = refl
  all-noted s n m k (d ∷ ds) spread ends late =
      let soon : w.tick s d < end_of d + T3_5_TICKS = causal.in_time s d spread.1 in
      let end : end_of d ≤ m = ends.0 in
      let early : w.tick s d < k = omega arith in
      before-early k (noted w s d) (walked w (w.next s d) ds) early
      ∙ ap (λ l. noted w s d ∷ l)
      (all-noted (w.next s d) (end_of d + T3_5_TICKS) m k ds spread.2 ends.1 late)

-- ---- a line in two parts

-- For a line that ends with k silent ticks.
module _ (front : List Tick) (k : ℕ) where
  abbrev pub whole : List Tick
  whole = front ++ silent k

  pub whole-long : length whole ≡ length front + k
  whole-long = length-append front (silent k) ∙ ap (λ i. length front + i) (length-replicate k Silent)

  pub whole-bursts : bursts whole ≡ bursts front
  whole-bursts = bursts_from-silent_end T3_5_TICKS 0 k front

  module _ (enough : 4 ≤ k) where
    pub both-bursts : (y : List Tick)
        → bursts (whole ++ y) ≡ bursts whole ++ map (later (length whole)) (bursts y)
    both-bursts y =
        let long = whole-long in
        let sum : 0 + (length front + k) ≡ length whole = omega arith in
        ap bursts (append_assoc front (silent k) y)
        ∙ (bursts-joined T3_5_TICKS 0 (length whole) k front y enough sum
        ∙ (ap (λ ds. bursts front ++ ds) (bursts-later T3_5_TICKS (length whole) y)
        ∙ ap (λ ds. ds ++ map (later (length whole)) (bursts y)) (sym whole-bursts)))

    module _ {S N : Type 0} (w : Walker S N) (causal : IsCausal w) (moved : N → N)
        (Alike : S → S → Type 0) (shifts : Shifts w (length whole) moved Alike) (s t : S)
        (alike : Alike (state_after w s (bursts whole)) t)
        (gone : AreGone (length whole) (emitted_by w s (bursts whole))) where
      abbrev n : ℕ
      n = length whole

      pub line-split : (y : List Tick) → line_of w s (whole ++ y) ≡ line_of w s whole ++ line_of w t y
      line-split y =
          let ds : List Burst = bursts whole in
          let long = length-append whole y in
          ap (λ i. laid i (emitted_by w s (bursts (whole ++ y)))) long
          ∙ (ap (λ bs. laid (n + length y) (emitted_by w s bs)) (both-bursts y)
          ∙ (ap (λ es. laid (n + length y) es)
          (emitted-append w s ds (map (later n) (bursts y))
          ∙ ap (λ es. emitted_by w s ds ++ es)
          (emitted-later w n moved Alike shifts (state_after w s ds) t (bursts y) alike))
          ∙ laid-split (emitted_by w s ds) (emitted_by w t (bursts y)) n gone (length y)))

      pub notes-split : (y : List Tick) → notes_of w s (whole ++ y)
          ≡ notes_of w s whole ++ map (moved_note w n moved Alike shifts) (notes_of w t y)
      notes-split y =
          let ds : List Burst = bursts whole in
          let long = length-append whole y in
          let first : List (Noted N) = walked w s ds in
          let spread = bursts-spread whole in
          let size = whole-long in
          let P : List Burst → Type 0 = λ bs. EndBy (length front) bs in
          let ends : EndBy (length front) ds = subst P (sym whole-bursts) (bursts-end front) in
          let all : (i : ℕ) → n ≤ i → notes_before i first ≡ first =
          λ i from. all-noted w causal s 0 (length front) i ds spread ends (omega arith) in
          ap (λ i. notes_before i (walked w s (bursts (whole ++ y)))) long
          ∙ (ap (λ bs. notes_before (n + length y) (walked w s bs)) (both-bursts y)
          ∙ (ap (notes_before (n + length y))
          (walked-append w s ds (map (later n) (bursts y))
          ∙ ap (λ l. first ++ l)
          (walked-later w n moved Alike shifts (state_after w s ds) t (bursts y) alike))
          ∙ (filter-append (λ q. nat_lt q.tick (n + length y)) first
          (map (moved_note w n moved Alike shifts) (walked w t (bursts y)))
          ∙ (ap (λ l. l ++ notes_before (n + length y)
          (map (moved_note w n moved Alike shifts) (walked w t (bursts y))))
          (all (n + length y) (omega arith) ∙ sym (all n (omega arith)))
          ∙ ap (λ l. notes_before n first ++ l)
          (before-moved w n moved Alike shifts (length y) (walked w t (bursts y)))))))

-- ---- frames of notes

abbrev pub option_later : ℕ → Option NumberedFrame → Option NumberedFrame
option_later n None = None
option_later n (Some f) = Some (frame_later n f)

module _ {N : Type 0} (n : ℕ) (moved : N → N) (frame_in : N → Option NumberedFrame)
    (same : (v : N) → frame_in (moved v) ≡ option_later n (frame_in v)) where
  cons-later : (o : Option NumberedFrame) (fs : List NumberedFrame)
      → cons_option (option_later n o) (map (frame_later n) fs) ≡ map (frame_later n) (cons_option o fs)
  cons-later None fs = refl
  cons-later (Some f) fs = refl

  pub frames-later : (notes : List (Noted N))
      → filter_map (λ q. frame_in q.note) (map (λ q. let r : Noted N = record {
        tick = n + q.tick;
        note = moved q.note;
      } in r) notes) ≡ map (frame_later n) (filter_map (λ q. frame_in q.note) notes)
  frames-later [] = refl
  frames-later (q ∷ notes) =
      ap (λ o. cons_option o (filter_map (λ p. frame_in p.note)
      (map (λ p. let r : Noted N = record { tick = n + p.tick; note = moved p.note } in r) notes)))
      (same q.note)
      ∙ (ap (λ l. cons_option (option_later n (frame_in q.note)) l) (frames-later notes)
      ∙ cons-later (frame_in q.note) (filter_map (λ p. frame_in p.note) notes))

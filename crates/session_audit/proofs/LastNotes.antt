-- The note of a step is that of the line's last burst.
use Rattle.frame_ending.proofs.Spread.{AreSpread, EndBy, bursts-spread, bursts-end}
use Rattle.frame_ending.proofs.Walks.{adds_one_tick}
use Rattle.frame_ending.specs.Answers.{AnswersTick, told_notes, note_in}
use Rattle.frame_ending.specs.Causal.{IsCausal, AddsOneTick}
use Rattle.frame_ending.specs.Walk.{Walker, Noted, noted, walked, notes_of, notes_at}
use Rattle.frame_ending.specs.LiveBytes.{live_bytes}
use Rattle.frame_ending.specs.SoFar.{last_of, live_bytes_in, live_bytes_so_far}
use Rattle.{line_rules.specs.Rules.Rules, link_format.specs.NumberedFrame.NumberedFrame}
use Rattle.session_lists.specs.{FrameBox.frame_told, declared.frame_box.Numbered.Numbered}
use Rattle.session_audit.specs.FramesOf.{frames_among, numbered_frames, told_by, HasFrames}
use Rattle.std.proofs.Common.{◌≡◌, ◌∙◌, ◌==◌, ℕ, ◌+◌, ◌<◌, ◌≤◌, false, List, [], ◌∷◌, ◌++◌, length}
use Rattle.std.proofs.Common.{refl, ap, sym, subst, arith, ⊎_elim, Option, Some, None}
use Rattle.std.proofs.Common.{length-append, IfSome}
use Rattle.std.proofs.lemmas.Bool.{cases_Bool, cond-true, cond-false}
use Rattle.std.proofs.lemmas.List.{map-append, append_cancel_left, Elements.filter_map-append}
use Rattle.yasir_ticks.specs.Bursts.{Burst, bursts, end_of}
use Rattle.yasir_ticks.specs.BurstsOf.{IsContiguous, IsContiguous.one, IsContiguous.more}
use Rattle.yasir_ticks.specs.declared.{TheConstants.T3_5_TICKS, tick.Tick.Tick}

some_tick : (cut : ℕ) (body : List Tick) → IsContiguous cut body → 0 < length body
some_tick cut body (one b) = omega arith
some_tick cut body (more b gap rest near on) = omega arith

same-note : {A : Type 0} (x y : Noted A) (xs ys : List (Noted A)) → x ∷ xs ≡ y ∷ ys
    → x.note ≡ y.note
same-note {A} x y xs ys e = let same : x ≡ y = cc in ap (λ (z : Noted A). z.note) same

other : (a b : ℕ) → a < b → (a == b) ≡ false
other a b h = grind arith

module _ {S N : Type 0} (w : Walker S N) (causal : IsCausal w) where
  -- Holds if there are no notes, or only one, which is that of the last of these bursts.
  pub record IsLast (ds : List Burst) (notes : List (Noted N)) : Type 0 where
    pub each : (n : Noted N) (rest : List (Noted N)) → notes ≡ n ∷ rest
        → (s : S) × (d : Burst) × (last_of ds ≡ Some d) × (n ≡ noted w s d) × (rest ≡ [])

  last-note : (s : S) (k m : ℕ) (ds : List Burst) → AreSpread T3_5_TICKS k ds → EndBy (m + 1) ds
      → IsLast ds (notes_at m (walked w s ds))
  unfolding last_of
  last-note s k m [] spread ends = record { each = λ n rest is. cc }
  last-note s k m (d ∷ []) spread ends = record {
    each = λ n rest is. ⊎_elim
        (λ yes.
        let now : notes_at m (walked w s (d ∷ [])) ≡ noted w s d ∷ [] = cond-true _ _ _ yes in
        let same : noted w s d ∷ [] ≡ n ∷ rest = sym now ∙ is in
        (s, d, refl, cc, cc))
        (λ no.
        let none : notes_at m (walked w s (d ∷ [])) ≡ [] = cond-false _ _ _ no in
        cc)
        (cases_Bool (w.tick s d == m));
  }
  last-note s k m (d ∷ e ∷ ds) spread ends =
      let soon : w.tick s d < end_of d + T3_5_TICKS = causal.in_time s d spread.1 in
      let next : end_of d + T3_5_TICKS ≤ e.start = spread.2.0 in
      let some = some_tick T3_5_TICKS e.body spread.2.1 in
      let end : end_of e ≤ m + 1 = ends.1.0 in
      let early : w.tick s d < m = omega arith in
      let rest = last-note (w.next s d) (end_of d + T3_5_TICKS) m (e ∷ ds) spread.2 ends.1 in
      let skip : notes_at m (walked w s (d ∷ e ∷ ds))
      ≡ notes_at m (walked w (w.next s d) (e ∷ ds)) =
      cond-false _ _ _ (other (w.tick s d) m early) in
      record { each = λ n more is. rest.each n more (sym skip ∙ is) }

  -- The notes that a tick adds are none, or only the note of the last burst.
  pub last-added : (begun : S) (line : List Tick) (t : Tick)
      → IsLast (bursts (line ++ t ∷ []))
      (notes_at (length line) (walked w begun (bursts (line ++ t ∷ []))))
  last-added begun line t =
      let long : length (line ++ t ∷ []) ≡ length line + 1 = length-append line (t ∷ []) in
      last-note begun 0 (length line) (bursts (line ++ t ∷ [])) (bursts-spread (line ++ t ∷ []))
      (subst (λ m. EndBy m (bursts (line ++ t ∷ []))) long (bursts-end (line ++ t ∷ [])))

-- ---- the frame of a step

-- What a step tells of the notes that it adds. Their frames are those of the last burst.
module _ {S N A : Type 0} (w : Walker S N) (causal : IsCausal w) (rules : Rules)
    (frame_in : N → Option NumberedFrame) (brief : N → A) (told : A → Option Numbered)
    (has : HasFrames w rules frame_in brief told) (begun : S) (line : List Tick) (t : Tick) where
  abbrev now : List Tick
  now = line ++ t ∷ []

  abbrev added : List (Noted N)
  added = notes_at (length line) (walked w begun (bursts now))

  module _ (bytes : List ℕ) (bytes_are : bytes ≡ live_bytes_so_far rules now) where
    framed : (n : Noted N) (o : Option NumberedFrame) → frame_in n.note ≡ o
        → IfSome o (λ f. f.frame ≡ bytes)
        → frames_among frame_in (n ∷ []) ≡ frame_told (numbered_frames o) bytes
    framed n None is live = rw is refl
    framed n (Some f) is live = rw is
        (subst (λ b. f ∷ [] ≡ record { number = f.number; start = f.start; frame = b } ∷ []) live
        refl)

    -- If the note of the last burst has a frame, its bytes are the live bytes.
    live-of : (n : Noted N) (s : S) (d : Burst) → last_of (bursts now) ≡ Some d → n ≡ noted w s d
        → IfSome (frame_in n.note) (λ f. f.frame ≡ bytes)
    live-of n s d last is =
        let same : live_bytes rules d ≡ bytes =
        sym (bytes_are ∙ ap (live_bytes_in rules) last) in
        subst (λ (x : Noted N). IfSome (frame_in x.note) (λ f. f.frame ≡ bytes)) (sym is)
        (subst (λ b. IfSome (frame_in (w.note s d)) (λ f. f.frame ≡ b)) same (has.live s d))

    by-added : (notes : List (Noted N)) (tellings : Option A) → IsLast w causal (bursts now) notes
        → told_notes brief notes ≡ note_in (length line) tellings
        → frames_among frame_in notes ≡ frame_told (told_by told tellings) bytes
    by-added [] None last tells = refl
    by-added [] (Some note) last tells = cc
    by-added (n ∷ rest) None last tells = cc
    by-added (n ∷ rest) (Some note) last tells =
        let each = last.each n rest refl in
        let alone : n ∷ rest ≡ n ∷ [] = ap (λ l. n ∷ l) each.4 in
        let said : brief n.note ≡ note = same-note _ _ _ _ tells in
        let told_is : told note ≡ numbered_frames (frame_in n.note) =
        ap told (sym said) ∙ has.tells n.note in
        ap (frames_among frame_in) alone
        ∙ framed n (frame_in n.note) refl (live-of n each.0 each.1 each.2 each.3)
        ∙ ap (λ o. frame_told o bytes) (sym told_is)

    -- The frames after a step are those before it, and then the frame of the step, with the live
    -- bytes.
    pub frames-step : (answer : Tick) (tellings : Option A)
        → AnswersTick w brief begun line t answer tellings
        → frames_among frame_in (notes_of w begun now)
        ≡ frames_among frame_in (notes_of w begun line) ++ frame_told (told_by told tellings) bytes
    frames-step answer tellings answers =
        let on : AddsOneTick w begun line t = adds_one_tick w causal begun line t in
        let before = notes_of w begun line in
        let parts : told_notes brief before ++ told_notes brief added
        ≡ told_notes brief before ++ note_in (length line) tellings =
        sym (ap (told_notes brief) on.notes
        ∙ map-append (λ n. record { tick = n.tick; note = brief n.note }) before added)
        ∙ answers.note in
        let tells : told_notes brief added ≡ note_in (length line) tellings =
        append_cancel_left (told_notes brief before) _ _ parts in
        ap (frames_among frame_in) on.notes
        ∙ filter_map-append (λ n. frame_in n.note) before added
        ∙ ap (λ l. frames_among frame_in before ++ l)
        (by-added added tellings (last-added w causal begun line t) tells)

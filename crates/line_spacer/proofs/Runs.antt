-- A run of ticks: what leaves in it, and what is read at its end.
use Rattle.frame_ending.proofs.Emissions.{laid-more, laid-same}
use Rattle.frame_ending.specs.{Answered.answered, Laid.tick_at, Laid.laid}
use Rattle.device_model.specs.Frames.{FrameRead}
use Rattle.line_spacer.proofs.Arriving.{arrivals-append, drop-front}
use Rattle.line_spacer.proofs.Sending.{on_line, byte-sent, rest-passes, nothing-sent, frame-begins}
use Rattle.line_spacer.specs.Arrivals.{arriving, gained, arrivals_behind, arrivals}
use Rattle.line_spacer.specs.Runs.{SendsRun}
use Rattle.line_spacer.specs.Spacing.{Spaced, take_in, spaced, accepted_of}
use Rattle.line_spacer.specs.Stands.{HasSent, rest_behind, TakesIn, taken_in, AnswersSpaced}
use Rattle.std.proofs.Common.{◌≡◌, ◌∙◌, ℕ, zero, suc, ◌+◌, ◌-◌, ◌<◌, ◌≤◌, List, [], ◌∷◌, ◌++◌}
use Rattle.std.proofs.Common.{length, map, take, drop, fold, max, refl, sym, ap, subst, arith}
use Rattle.std.proofs.Common.{append_assoc, length-append, ⊎_elim}
use Rattle.std.proofs.lemmas.Bool.{cases_lt}
use Rattle.std.proofs.lemmas.List.{append-nil, drop_all, length-take-le, Sums.fold-append}
use Rattle.yasir_ticks.specs.{Bursts.Burst, Ticks.silent}
use Rattle.yasir_ticks.specs.declared.tick.Tick.{Tick, TheVariants.Silent, TheVariants.Byte}

-- ---- what leaves

module _ (gap : ℕ) (accepted : List Burst) where
  run-none : (m : ℕ) (unsent : List ℕ) (pause : ℕ) (queued : List (List ℕ))
      → HasSent gap m accepted unsent pause queued → SendsRun gap m accepted unsent pause queued []
  run-none m unsent pause queued has =
      let same : m ≡ m + 0 = omega arith in
      record {
        leave = ap (λ k. laid k accepted) (sym same) ∙ sym (append-nil (laid m accepted));
        sent = subst (λ k. HasSent gap k accepted unsent pause queued) same has;
      }

  run-more : (m : ℕ) (unsent : List ℕ) (pause : ℕ) (queued : List (List ℕ)) (u : Tick)
      (answer : List Tick) → tick_at accepted m ≡ u
      → SendsRun gap (m + 1) accepted unsent pause queued answer
      → SendsRun gap m accepted unsent pause queued (u ∷ answer)
  run-more m unsent pause queued u answer leaves others =
      let same : m + 1 + length answer ≡ m + length (u ∷ answer) = omega arith in
      record {
        leave = ap (λ k. laid k accepted) (sym same)
            ∙ (others.leave
            ∙ (ap (λ x. x ++ answer) (laid-more m accepted
            ∙ ap (λ v. laid m accepted ++ v ∷ []) leaves)
            ∙ append_assoc (laid m accepted) (u ∷ []) answer));
        sent = subst (λ k. HasSent gap k accepted unsent pause queued) same others.sent;
      }

  bytes-run : (n m : ℕ) (unsent : List ℕ) (pause : ℕ) (queued : List (List ℕ)) → n ≤ length unsent
      → HasSent gap m accepted unsent pause queued
      → SendsRun gap m accepted (drop n unsent) pause queued (on_line (take n unsent))
  bytes-run zero m unsent pause queued fits has = run-none m unsent pause queued has
  bytes-run (suc n) m [] pause queued fits has = absurd (omega arith)
  bytes-run (suc n) m (b ∷ unsent) pause queued fits has =
      let one = byte-sent gap m accepted b unsent pause queued has in
      run-more m (drop n unsent) pause queued (Byte b) (on_line (take n unsent)) one.leaves
      (bytes-run n (m + 1) unsent pause queued (omega arith) one.sent)

  rest-run : (n m pause : ℕ) (queued : List (List ℕ)) → n ≤ pause
      → HasSent gap m accepted [] pause queued
      → SendsRun gap m accepted [] (pause - n) queued (silent n)
  rest-run zero m pause queued fits has =
      let same : pause ≡ pause - 0 = omega arith in
      subst (λ k. SendsRun gap m accepted [] k queued []) same (run-none m [] pause queued has)
  rest-run (suc n) m zero queued fits has = absurd (omega arith)
  rest-run (suc n) m (suc pause) queued fits has =
      let one = rest-passes gap m accepted pause queued has in
      let same : pause - n ≡ suc pause - suc n = omega arith in
      subst (λ k. SendsRun gap m accepted [] k queued (silent (suc n))) same
      (run-more m [] (pause - n) queued Silent (silent n) one.leaves
      (rest-run n (m + 1) pause queued (omega arith) one.sent))

  idle-run : (n m : ℕ) → HasSent gap m accepted [] 0 [] → SendsRun gap m accepted [] 0 [] (silent n)
  idle-run zero m has = run-none m [] 0 [] has
  idle-run (suc n) m has =
      let one = nothing-sent gap m accepted has in
      run-more m [] 0 [] Silent (silent n) one.leaves (idle-run n (m + 1) one.sent)

-- ---- what is read

module _ (reads : List Tick → List FrameRead) where
  -- Nothing is read of these ticks before the last of them.
  abbrev pub IsQuiet : List Tick → List Tick → Type 0
  IsQuiet line x = (k : ℕ) → k < length x → reads (line ++ take k x) ≡ reads line

  arrivals-run : (line x : List Tick) (frames : List FrameRead) → 0 < length x → IsQuiet line x
      → reads (line ++ x) ≡ reads line ++ frames
      → arrivals_behind reads line x
      ≡ map (arriving (length line + (length x - 1))) frames
  unfolding arrivals_behind
  arrivals-run line [] frames some quiet is = absurd (omega arith)
  arrivals-run line (t ∷ []) frames some quiet is =
      let here : length line ≡ length line + (length (t ∷ []) - 1) = omega arith in
      let new : gained reads line t ≡ frames =
      ap (λ x. drop (length (reads line)) x) is ∙ drop-front (reads line) frames in
      append-nil (map (arriving (length line)) (gained reads line t))
      ∙ (ap (map (arriving (length line))) new ∙ ap (λ k. map (arriving k) frames) here)
  arrivals-run line (t ∷ u ∷ x) frames some quiet is =
      let next : List Tick = line ++ t ∷ [] in
      let one : reads next ≡ reads line = quiet 1 (omega arith) in
      let long = length-append line (t ∷ []) in
      let here : length next + (length (u ∷ x) - 1)
      ≡ length line + (length (t ∷ u ∷ x) - 1) = omega arith in
      let none : gained reads line t ≡ [] =
      ap (λ y. drop (length (reads line)) y) one
      ∙ drop_all (length (reads line)) (reads line) (omega arith) in
      let later : IsQuiet next (u ∷ x) = λ k within.
      let more : suc k < length (t ∷ u ∷ x) = omega arith in
      ap reads (append_assoc line (t ∷ []) (take k (u ∷ x))) ∙ (quiet (suc k) more ∙ sym one) in
      ap (λ y. map (arriving (length line)) y ++ arrivals_behind reads next (u ∷ x)) none
      ∙ (arrivals-run next (u ∷ x) frames (omega arith) later
      (ap reads (append_assoc line (t ∷ []) (u ∷ x)) ∙ (is ∙ ap (λ y. y ++ frames) (sym one)))
      ∙ ap (λ k. map (arriving k) frames) here)

  module _ (gap cap room : ℕ) (fits : room ≡ cap) (line x : List Tick) (frames : List FrameRead)
      (some : 0 < length x) (quiet : IsQuiet line x)
      (is : reads (line ++ x) ≡ reads line ++ frames) where
    abbrev last : ℕ
    last = length line + (length x - 1)

    pub spaced-run : spaced reads gap cap (line ++ x)
        ≡ taken_in gap room last (spaced reads gap cap line) frames
    spaced-run =
        let start : Spaced = record { accepted = []; lost = [] } in
        ap (fold (take_in gap cap) start) (arrivals-append reads [] line x
        ∙ ap (λ y. arrivals reads line ++ y) (arrivals-run line x frames some quiet is))
        ∙ (fold-append (take_in gap cap) start (arrivals reads line) (map (arriving last) frames)
        ∙ ap (λ c. taken_in gap c last (spaced reads gap cap line) frames) (sym fits))

    -- With a run, the line is longer by as many ticks as the answer has.
    length-run : (answer : List Tick) → length answer ≡ length x
        → length (line ++ x) ≡ length line + length answer
    length-run answer same = let long = length-append line x in omega arith

    -- what the spacer has sent in the run, before the frames of its last step are taken in
    pub run-before : (accepted : List Burst) (unsent : List ℕ) (pause : ℕ) (queued : List (List ℕ))
        (answer : List Tick) → length answer ≡ length x
        → HasSent gap (length line + length answer) accepted unsent pause queued
        → HasSent gap (last + 1) accepted unsent pause queued
    run-before accepted unsent pause queued answer same has =
        let end : length line + length answer ≡ last + 1 = omega arith in
        subst (λ k. HasSent gap k accepted unsent pause queued) end has

    pub run-sent : (unsent : List ℕ) (pause : ℕ) (queued : List (List ℕ))
        → HasSent gap (last + 1)
        (taken_in gap room last (spaced reads gap cap line) frames).accepted unsent pause queued
        → HasSent gap (length (line ++ x)) (accepted_of reads gap cap (line ++ x)) unsent pause queued
    run-sent unsent pause queued has =
        let long = length-append line x in
        let end : last + 1 ≡ length (line ++ x) = omega arith in
        subst (λ k. HasSent gap k (accepted_of reads gap cap (line ++ x)) unsent pause queued) end
        (subst (λ s. HasSent gap (last + 1) s.accepted unsent pause queued) (sym spaced-run) has)

    pub run-answers : (answer : List Tick) (lost : List FrameRead) → length answer ≡ length x
        → laid (length line + length answer) (accepted_of reads gap cap line)
        ≡ laid (length line) (accepted_of reads gap cap line) ++ answer
        → TakesIn gap room last (spaced reads gap cap line) frames lost
        → AnswersSpaced reads gap cap line x answer last lost
    run-answers answer lost same leave takes =
        let before : List Burst = accepted_of reads gap cap line in
        let after : List Burst = accepted_of reads gap cap (line ++ x) in
        record {
          ticks_leave = ap (λ k. laid k after) (length-run answer same)
              ∙ (laid-same 0 (length line + length answer) (λ i. tick_at after i)
              (λ i. tick_at before i)
              (λ i below. let within : i ≤ last = omega arith in
              ap (λ s. tick_at s.accepted i) spaced-run ∙ takes.stays i within)
              ∙ leave);
          are_lost = ap (λ s. s.lost) spaced-run ∙ takes.are_lost;
        }

-- ---- what a spacer sends

answered-bytes : (n : ℕ) (x : List ℕ) → 0 < length x → answered n x ≡ on_line x
answered-bytes n [] some = absurd (omega arith)
answered-bytes n (b ∷ x) some = refl

module _ (gap m : ℕ) (accepted : List Burst) where
  -- Bytes of the frame that has begun leave.
  pub bytes-leave : (n : ℕ) (unsent : List ℕ) (pause : ℕ) (queued : List (List ℕ)) → 0 < n
      → n ≤ length unsent → HasSent gap m accepted unsent pause queued
      → SendsRun gap m accepted (drop n unsent) pause queued (answered n (take n unsent))
  bytes-leave n unsent pause queued some within has =
      let few : length (take n unsent) ≡ n = length-take-le n unsent within in
      subst (λ x. SendsRun gap m accepted (drop n unsent) pause queued x)
      (sym (answered-bytes n (take n unsent) (omega arith)))
      (bytes-run gap accepted n m unsent pause queued within has)

  -- Silence leaves, after a frame or if no frame waits.
  pub silence-leaves : (n pause : ℕ) (queued : List (List ℕ)) → 0 < n → (0 < pause → n ≤ pause)
      → (pause ≤ 0 → queued ≡ []) → HasSent gap m accepted [] pause queued
      → SendsRun gap m accepted [] (pause - n) queued (silent n)
  silence-leaves n pause queued some quiet idle has =
      ⊎_elim
      (λ some_rest. rest-run gap accepted n m pause queued (quiet some_rest) has)
      (λ no_rest.
      let nothing : queued ≡ [] = idle no_rest in
      let zero_rest : pause ≡ 0 = omega arith in
      let less : 0 ≡ pause - n = omega arith in
      let P : ℕ → Type 0 = λ k. HasSent gap m accepted [] k queued in
      let Q : List (List ℕ) → Type 0 = λ q. HasSent gap m accepted [] 0 q in
      subst (λ q. SendsRun gap m accepted [] (pause - n) q (silent n)) (sym nothing)
      (subst (λ k. SendsRun gap m accepted [] k [] (silent n)) less
      (idle-run gap accepted n m (subst Q nothing (subst P zero_rest has)))))
      (cases_lt 0 pause)

  -- The first bytes of the next frame leave.
  pub frame-leaves : (n : ℕ) (frame : List ℕ) (queued : List (List ℕ)) → 0 < n
      → n ≤ max (length frame) 1 → HasSent gap m accepted [] 0 (frame ∷ queued)
      → SendsRun gap m accepted (drop n frame) (rest_behind gap frame) queued
      (answered n (take n frame))
  frame-leaves zero frame queued some within has = absurd (omega arith)
  frame-leaves (suc n) [] queued some within has =
      let last : 0 ≡ n = grind arith in
      let one = frame-begins gap m accepted [] queued has in
      subst (λ k. SendsRun gap m accepted [] (gap - 1) queued (silent (suc k))) last
      (run-more gap accepted m [] (gap - 1) queued Silent [] one.leaves
      (run-none gap accepted (m + 1) [] (gap - 1) queued one.sent))
  frame-leaves (suc n) (b ∷ frame) queued some within has =
      let one = frame-begins gap m accepted (b ∷ frame) queued has in
      run-more gap accepted m (drop n frame) gap queued (Byte b) (on_line (take n frame)) one.leaves
      (bytes-run gap accepted n (m + 1) frame gap queued (grind arith) one.sent)

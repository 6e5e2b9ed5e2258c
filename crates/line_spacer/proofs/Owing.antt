-- Ticks whose answers a spacer owes: what is heard of them, and what it makes of the first of them.
use Rattle.frame_ending.{proofs.Emissions.laid-same, specs.Laid.laid, specs.Laid.tick_at}
use Rattle.device_model.specs.{Frames.FrameRead, declared.device.Device.Ghosts as Device}
use Rattle.line_spacer.proofs.Runs.{IsQuiet, spaced-run}
use Rattle.line_spacer.specs.{Arrivals.arriving, Owing.ArePending, Owing.Owes, Owing.still_read}
use Rattle.line_spacer.specs.Spacing.{Spaced, accepted_of, lost_of, spaced, spaced_line}
use Rattle.line_spacer.specs.Stands.{AnswersSpaced, HasSent, SpacerStandsFor, TakesIn, taken_in}
use Rattle.line_spacer.specs.declared.spacer.Spacer.{Spacer}
use Rattle.std.proofs.Common.{◌≡◌, ◌∙◌, ℕ, zero, suc, ◌+◌, ◌-◌, ◌<◌, ◌≤◌, List, [], ◌∷◌, ◌++◌}
use Rattle.std.proofs.Common.{length, map, take, drop, refl, sym, ap, subst, arith, append_assoc}
use Rattle.std.proofs.Common.{length-append, length-drop, take-add, take-append-drop, ⊎_elim}
use Rattle.std.proofs.{Math.Seq.take-append-add, lemmas.Bool.cases_lt, lemmas.List.append-nil}
use Rattle.std.proofs.lemmas.List.{drop_all, length-take-le, take-append-le, take-take, take_all}
use Rattle.yasir_ticks.specs.{Bursts.Burst, declared.tick.Tick.Tick}

pub still-some : (ticks : List Tick) (frames : List FrameRead) → 0 < length ticks
    → still_read ticks frames ≡ frames
still-some [] frames some = absurd (omega arith)
still-some (t ∷ ticks) frames some = refl

module _ (reads : List Tick → List FrameRead) (gap cap : ℕ) where
  pub none-pending : (line : List Tick)
      → ArePending reads gap cap line [] (spaced reads gap cap line) []
  none-pending line = record {
    none_lost = λ n early. absurd (omega arith);
    stays = λ n i early below. absurd (omega arith);
    lost = refl;
    all = ap (λ x. spaced reads gap cap x) (append-nil line);
  }

  -- ---- more is heard, and nothing of it is read before its last tick

  module _ (line owed more : List Tick) (made : Spaced) (frames : List FrameRead)
      (was : ArePending reads gap cap line owed made []) (some : 0 < length more)
      (quiet : IsQuiet reads (line ++ owed) more)
      (is : reads ((line ++ owed) ++ more) ≡ reads (line ++ owed) ++ frames) where
    abbrev heard : List Tick
    heard = line ++ owed

    quiet-front : (k : ℕ) → k < length more → IsQuiet reads heard (take k more)
    quiet-front k early j within =
        let long : length (take k more) ≡ k = length-take-le k more (omega arith) in
        let few : j ≤ k = omega arith in
        let there : j < length more = omega arith in
        ap (λ x. reads (heard ++ x)) (take-take j k more few) ∙ quiet j there

    some-same : (k : ℕ) → 0 < k → k < length more
        → spaced reads gap cap (heard ++ take k more) ≡ spaced reads gap cap heard
    some-same k there early =
        let long : length (take k more) ≡ k = length-take-le k more (omega arith) in
        spaced-run reads gap cap cap refl heard (take k more) [] (omega arith)
        (quiet-front k early) (quiet k early ∙ sym (append-nil (reads heard)))

    same : (k : ℕ) → k < length more → spaced reads gap cap (heard ++ take k more) ≡ made
    same zero early = ap (λ x. spaced reads gap cap x) (append-nil heard) ∙ was.all
    same (suc k) early = some-same (suc k) (omega arith) early ∙ was.all

    front-same : (n : ℕ) → n < length owed → take n (owed ++ more) ≡ take n owed
    front-same n early = take-append-le n owed more (omega arith)

    behind-same : (n : ℕ) → length owed ≤ n → n < length (owed ++ more)
        → spaced reads gap cap (line ++ take n (owed ++ more)) ≡ made
    behind-same n later within =
        let long = length-append owed more in
        let sum : n ≡ length owed + (n - length owed) = omega arith in
        let few : n - length owed < length more = omega arith in
        ap (λ x. spaced reads gap cap (line ++ x)) (ap (λ k. take k (owed ++ more)) sum
        ∙ take-append-add owed more (n - length owed))
        ∙ (ap (λ x. spaced reads gap cap x)
        (sym (append_assoc line owed (take (n - length owed) more))) ∙ same (n - length owed) few)

    steps : length heard + (length more - 1) ≡ length line + (length (owed ++ more) - 1)
    steps =
        let all = length-append owed more in
        let sum : length heard ≡ length line + length owed = length-append line owed in
        omega arith

    pub more-pending : ArePending reads gap cap line (owed ++ more) made frames
    more-pending = record {
      none_lost = λ n within. ⊎_elim
          (λ early. ap (λ x. lost_of reads gap cap (line ++ x)) (front-same n early)
          ∙ was.none_lost n early)
          (λ later. ap (λ s. s.lost) (behind-same n later within) ∙ was.lost)
          (cases_lt n (length owed));
      stays = λ n i within below. ⊎_elim
          (λ early. ap (λ x. tick_at (accepted_of reads gap cap (line ++ x)) i)
          (front-same n early) ∙ was.stays n i early below)
          (λ later. ap (λ s. tick_at s.accepted i) (behind-same n later within))
          (cases_lt n (length owed));
      lost = was.lost;
      all = ap (λ x. spaced reads gap cap x) (sym (append_assoc line owed more))
          ∙ (spaced-run reads gap cap cap refl heard more frames some quiet is
          ∙ (ap (λ s. taken_in gap cap (length heard + (length more - 1)) s frames) was.all
          ∙ ap (λ k. taken_in gap cap k made frames) steps));
    }

  -- ---- the first n of the owed ticks are answered

  module _ (line owed : List Tick) (made : Spaced) (frames : List FrameRead) (n : ℕ)
      (was : ArePending reads gap cap line owed made frames) where
    joined : (line ++ take n owed) ++ drop n owed ≡ line ++ owed
    joined = append_assoc line (take n owed) (drop n owed)
        ∙ ap (λ x. line ++ x) (take-append-drop n owed)

    part-is : (k : ℕ) → (line ++ take n owed) ++ take k (drop n owed) ≡ line ++ take (n + k) owed
    part-is k = append_assoc line (take n owed) (take k (drop n owed))
        ∙ ap (λ x. line ++ x) (sym (take-add n k owed))

    part-pending : n < length owed
        → ArePending reads gap cap (line ++ take n owed) (drop n owed) made frames
    part-pending less =
        let pause = length-drop n owed in
        let few : length (take n owed) ≡ n = length-take-le n owed (omega arith) in
        let long = length-append line (take n owed) in
        let last : length line + (length owed - 1)
        ≡ length (line ++ take n owed) + (length (drop n owed) - 1) = omega arith in
        record {
          none_lost = λ k early.
              let there : n + k < length owed = omega arith in
              ap (λ x. lost_of reads gap cap x) (part-is k)
              ∙ (was.none_lost (n + k) there ∙ sym (was.none_lost n less));
          stays = λ k i early below.
              let there : n + k < length owed = omega arith in
              let within : i < length line + (n + k) = omega arith in
              ap (λ x. tick_at (accepted_of reads gap cap x) i) (part-is k)
              ∙ was.stays (n + k) i there within;
          lost = was.lost ∙ sym (was.none_lost n less);
          all = ap (λ x. spaced reads gap cap x) joined
              ∙ (was.all ∙ ap (λ k. taken_in gap cap k made frames) last);
        }

    -- Up to the end of the line, what has left is the same with and without the frames of the owed
    -- ticks.
    begun : 0 < length owed
        → laid (length line) made.accepted
        ≡ laid (length line) (accepted_of reads gap cap line)
    begun some = laid-same 0 (length line) (λ i. tick_at made.accepted i)
        (λ i. tick_at (accepted_of reads gap cap line) i)
        (λ i below.
        let within : i < length line + 0 = omega arith in
        sym (was.stays 0 i some within)
        ∙ ap (λ x. tick_at (accepted_of reads gap cap x) i) (append-nil line))

    part-leave : n < length owed → (answer : List Tick)
        → laid (length line + n) made.accepted ≡ laid (length line) made.accepted ++ answer
        → spaced_line reads gap cap (line ++ take n owed) ≡ spaced_line reads gap cap line ++ answer
    part-leave less answer leave =
        let few : length (take n owed) ≡ n = length-take-le n owed (omega arith) in
        let long : length (line ++ take n owed) ≡ length line + n =
        length-append line (take n owed) ∙ ap (λ k. length line + k) few in
        ap (λ k. laid k (accepted_of reads gap cap (line ++ take n owed))) long
        ∙ (laid-same 0 (length line + n)
        (λ i. tick_at (accepted_of reads gap cap (line ++ take n owed)) i)
        (λ i. tick_at made.accepted i)
        (λ i below. let within : i < length line + n = omega arith in was.stays n i less within)
        ∙ (leave ∙ ap (λ x. x ++ answer) (begun (omega arith))))

  -- ---- all owed ticks are answered

  module _ (line owed : List Tick) (made : Spaced) (frames : List FrameRead) (some : 0 < length owed)
      (was : ArePending reads gap cap line owed made frames) where
    abbrev end : ℕ
    end = length line + (length owed - 1)

    whole-pending : ArePending reads gap cap (line ++ owed) [] (taken_in gap cap end made frames) []
    whole-pending = record {
      none_lost = λ n early. absurd (omega arith);
      stays = λ n i early below. absurd (omega arith);
      lost = sym (ap (λ s. s.lost) was.all);
      all = ap (λ x. spaced reads gap cap x) (append-nil (line ++ owed)) ∙ was.all;
    }

    whole-answers : (answer : List Tick) (lost : List FrameRead)
        → laid (length line + length owed) made.accepted
        ≡ laid (length line) made.accepted ++ answer
        → TakesIn gap cap end made frames lost
        → AnswersSpaced reads gap cap line owed answer end lost
    whole-answers answer lost leave takes =
        let long = length-append line owed in record {
          ticks_leave =
              ap (λ k. laid k (accepted_of reads gap cap (line ++ owed))) long
              ∙ (laid-same 0 (length line + length owed)
              (λ i. tick_at (accepted_of reads gap cap (line ++ owed)) i)
              (λ i. tick_at made.accepted i)
              (λ i below.
              let within : i ≤ end = omega arith in
              ap (λ s. tick_at s.accepted i) was.all ∙ takes.stays i within)
              ∙ (leave ∙ ap (λ x. x ++ answer) (begun line owed made frames 0 was some)));
          are_lost = ap (λ s. s.lost) was.all
              ∙ (takes.are_lost ∙ ap (λ x. x ++ map (arriving end) lost) was.lost);
        }

  -- ---- n of the owed ticks are answered, which may be all

  module _ (room : ℕ) (fits : room ≡ cap) (line owed : List Tick) (made : Spaced)
      (frames : List FrameRead) (n : ℕ) (some : 0 < n) (within : n ≤ length owed)
      (was : ArePending reads gap cap line owed made frames) (front : List FrameRead)
      (part : n < length owed → front ≡ []) (all : length owed ≤ n → front ≡ frames) where
    abbrev last_step : ℕ
    last_step = length line + (n - 1)

    long : length (line ++ take n owed) ≡ last_step + 1
    long =
        let few : length (take n owed) ≡ n = length-take-le n owed within in
        let sum = length-append line (take n owed) in
        omega arith

    -- what the spacer has sent when n owed ticks are answered
    pub given-sent : (accepted : List Burst) (unsent : List ℕ) (pause : ℕ) (queued : List (List ℕ))
        → HasSent gap (last_step + 1) accepted unsent pause queued
        → HasSent gap (length (line ++ take n owed)) accepted unsent pause queued
    given-sent accepted unsent pause queued has =
        subst (λ k. HasSent gap k accepted unsent pause queued) (sym long) has

    pub given-before : (accepted : List Burst) (unsent : List ℕ) (pause : ℕ) (queued : List (List ℕ))
        (answer : List Tick) → length answer ≡ n
        → HasSent gap (length line + length answer) accepted unsent pause queued
        → HasSent gap (last_step + 1) accepted unsent pause queued
    given-before accepted unsent pause queued answer same has =
        let sum : length line + length answer ≡ last_step + 1 = omega arith in
        subst (λ k. HasSent gap k accepted unsent pause queued) sum has

    abbrev after : Spaced
    after = taken_in gap room last_step made front

    if-part : n < length owed → ArePending reads gap cap (line ++ take n owed) (drop n owed) after
        (still_read (drop n owed) frames)
    if-part less =
        let pause = length-drop n owed in
        let there : 0 < length (drop n owed) = omega arith in
        subst (λ f. ArePending reads gap cap (line ++ take n owed) (drop n owed)
        (taken_in gap room last_step made f) (still_read (drop n owed) frames))
        (sym (part less))
        (subst (λ f. ArePending reads gap cap (line ++ take n owed) (drop n owed) made f)
        (sym (still-some (drop n owed) frames there))
        (part-pending line owed made frames n was less))

    if-whole : length owed ≤ n → ArePending reads gap cap (line ++ take n owed) (drop n owed) after
        (still_read (drop n owed) frames)
    if-whole whole =
        let there : 0 < length owed = omega arith in
        let count : length line + (length owed - 1) ≡ last_step = omega arith in
        subst (λ x. ArePending reads gap cap (line ++ take n owed) x after (still_read x frames))
        (sym (drop_all n owed whole))
        (subst (λ x. ArePending reads gap cap (line ++ x) [] after [])
        (sym (take_all n owed whole))
        (subst (λ f. ArePending reads gap cap (line ++ owed) []
        (taken_in gap room last_step made f) []) (sym (all whole))
        (subst (λ c. ArePending reads gap cap (line ++ owed) []
        (taken_in gap c last_step made frames) []) (sym fits)
        (subst (λ k. ArePending reads gap cap (line ++ owed) [] (taken_in gap cap k made frames) [])
        count (whole-pending line owed made frames there was)))))

    pub given-pending : ArePending reads gap cap (line ++ take n owed) (drop n owed) after
        (still_read (drop n owed) frames)
    given-pending = ⊎_elim (λ less. if-part less) (λ whole. if-whole whole)
        (cases_lt n (length owed))

    module _ (answer : List Tick) (lost : List FrameRead) (same : length answer ≡ n)
        (leave : laid (length line + length answer) made.accepted
        ≡ laid (length line) made.accepted ++ answer)
        (takes : TakesIn gap room last_step made front lost) where
      if-part-answers : n < length owed
          → AnswersSpaced reads gap cap line (take n owed) answer last_step lost
      if-part-answers less =
          let none : (taken_in gap room last_step made front).lost ≡ made.lost =
          ap (λ f. (taken_in gap room last_step made f).lost) (part less) in record {
            ticks_leave = part-leave line owed made frames n was less answer
                (subst (λ k. laid (length line + k) made.accepted
                ≡ laid (length line) made.accepted ++ answer) same leave);
            are_lost = was.none_lost n less ∙ (sym was.lost ∙ (sym none ∙ (takes.are_lost
                ∙ ap (λ x. x ++ map (arriving last_step) lost) was.lost)));
          }

      if-whole-answers : length owed ≤ n
          → AnswersSpaced reads gap cap line (take n owed) answer last_step lost
      if-whole-answers whole =
          let there : 0 < length owed = omega arith in
          let as_long : length answer ≡ length owed = omega arith in
          let count : length line + (length owed - 1) ≡ last_step = omega arith in
          subst (λ x. AnswersSpaced reads gap cap line x answer last_step lost)
          (sym (take_all n owed whole))
          (subst (λ k. AnswersSpaced reads gap cap line owed answer k lost) count
          (whole-answers line owed made frames there was answer lost
          (subst (λ k. laid (length line + k) made.accepted
          ≡ laid (length line) made.accepted ++ answer) as_long leave)
          (subst (λ k. TakesIn gap cap k made frames lost) (sym count)
          (subst (λ c. TakesIn gap c last_step made frames lost) fits
          (subst (λ f. TakesIn gap room last_step made f lost) (all whole) takes)))))

      pub given-answers : AnswersSpaced reads gap cap line (take n owed) answer last_step lost
      given-answers = ⊎_elim (λ less. if-part-answers less) (λ whole. if-whole-answers whole)
          (cases_lt n (length owed))

-- ---- nothing is owed

pub owes-none : {V : Type 0} {GAP : ℕ} (device : Device V) (cap : ℕ) (value : Spacer V GAP)
    (line : List Tick) → SpacerStandsFor device cap value line → Owes device cap value line [] []
owes-none {V} {GAP} device cap value line stands = record {
  heard = subst (device.stands value.device) (sym (append-nil line)) stands.heard;
  room = stands.room;
  made = spaced device.reads GAP cap line;
  sent = stands.sent;
  pending = none-pending device.reads GAP cap line;
}

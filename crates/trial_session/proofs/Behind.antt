-- The ticks of a link's period: those that are marked, and silence after them.
use Rattle.yasir_ticks.{proofs.Marks.ticks-length, specs.DelayRing.marked_ticks}
use Rattle.std.proofs.Common.{◌≡◌, ◌∙◌, ℕ, ◌+◌, ◌-◌, ◌≤◌, List, ◌++◌, length, take, drop, ap, sym}
use Rattle.std.proofs.Common.{arith, min, append-nil, length-append, ⊎_elim}
use Rattle.std.proofs.lemmas.{Bool.cases_lt, List.take-append-le, List.drop-append-le}
use Rattle.std.proofs.lemmas.List.{take-take, take-replicate, length-take-le, length-drop}
use Rattle.std.proofs.lemmas.List.{drop-replicate, length-replicate, take_all, take_at, drop_at}
use Rattle.{std.proofs.lemmas.List.drop-drop, trial_session.proofs.SentRuns.silence-more}
use Rattle.trial_session.{proofs.SentRuns.take-some, specs.Links.link_sent}
use Rattle.{trial_session.specs.declared.link.Link.Link, yasir_ticks.specs.Ticks.silent}
use Rattle.yasir_ticks.specs.declared.tick.Tick.{Tick, TheVariants.Silent}

module _ (marked len : ℕ) (ticks : List Tick) where
  abbrev A : List Tick
  A = take marked ticks

  -- If all ticks are marked, no silence follows them.
  pub all-marked : marked ≡ len → A ++ silent (len - marked) ≡ take len ticks
  all-marked all =
      let none : len - marked ≡ 0 = omega (arith, all) in
      ap (λ n. A ++ silent n) none ∙ append-nil A ∙ ap (λ n. take n ticks) all

  -- More silence follows.
  pub more-behind : (n : ℕ) → marked ≤ len
      → A ++ silent (len + n - marked) ≡ A ++ silent (len - marked) ++ silent n
  more-behind n within =
      let sum : len + n - marked ≡ (len - marked) + n = omega (arith, within) in
      ap (λ k. A ++ silent k) sum ∙ sym (silence-more (len - marked) n A)

  module _ (within : marked ≤ len) (room : len ≤ length ticks) where
    long : length A ≡ marked
    long = length-take-le marked ticks (omega (arith, within, room))

    -- how many ticks these are
    pub sent-long : length (A ++ silent (len - marked)) ≡ len
    sent-long =
        length-append A (silent (len - marked))
        ∙ (omega (arith, long, length-replicate (len - marked) Silent, within))

    -- a part of the marked ones
    pub in-front : (at n : ℕ) → at + n ≤ marked
        → take n (drop at (A ++ silent (len - marked))) ≡ take n (drop at A)
    in-front at n few =
        ap (take n) (drop-append-le at A (silent (len - marked)) (omega (arith, few, long)))
        ∙ take-append-le n (drop at A) (silent (len - marked))
        (omega (arith, few, long, length-drop at A))

    -- After the marked ticks there is only silence.
    behind : (n : ℕ) → drop (marked + n) (A ++ silent (len - marked))
        ≡ silent (len - marked - n)
    behind n =
        let S : List Tick = silent (len - marked) in
        sym (drop-drop n marked (A ++ S))
        ∙ ap (drop n) (drop_at A S marked long)
        ∙ drop-replicate n (len - marked) Silent

    front-of : (n : ℕ) → n ≤ len - marked
        → take (marked + n) (A ++ silent (len - marked)) ≡ A ++ silent n
    front-of n few =
        let S : List Tick = silent (len - marked) in
        take-some marked n (A ++ S)
        ∙ ap (λ l. l ++ take n (drop marked (A ++ S))) (take_at A S marked long)
        ∙ ap (λ l. A ++ take n l) (drop_at A S marked long)
        ∙ ap (λ l. A ++ l) (take-replicate n (len - marked) Silent few)

    -- From a place after the marked ticks on, all is silent.
    pub all-behind : (at : ℕ) → marked ≤ at → at ≤ len
        → take (len - at) (drop at (A ++ silent (len - marked))) ≡ silent (len - at)
    all-behind at beyond few =
        let to : at ≡ marked + (at - marked) = omega (arith, beyond) in
        let same : len - marked - (at - marked) ≡ len - at = omega (arith, beyond, few) in
        ap (λ n. take (len - at) (drop n (A ++ silent (len - marked)))) to
        ∙ ap (take (len - at)) (behind (at - marked) ∙ ap silent same)
        ∙ take_all (len - at) (silent (len - at)) (omega (
          arith,
          length-replicate (len - at) Silent,
        ))

    -- If all from a place on is made silent, the ticks before it stay.
    pub cut-behind : (place m : ℕ) → place ≤ len → m ≡ min marked place
        → take m ticks ++ silent (len - m)
        ≡ take place (A ++ silent (len - marked))
        ++ silent (length (A ++ silent (len - marked)) - place)
    cut-behind place m few is =
        let S : List Tick = silent (len - marked) in
        let end : silent (len - place) ≡ silent (length (A ++ S) - place) =
        ap (λ n. silent (n - place)) (sym sent-long) in ⊎_elim
        (λ below.
        let same : m ≡ marked = omega (arith, below, is) in
        let to : marked + (place - marked) ≡ place = omega (arith, below) in
        let rest : len - m ≡ (place - marked) + (len - place) =
        omega (arith, same, below, few) in
        ap (λ n. take n ticks ++ silent (len - m)) same
        ∙ ap (λ n. A ++ silent n) rest
        ∙ sym (silence-more (place - marked) (len - place) A)
        ∙ ap (λ l. l ++ silent (len - place))
        (sym (front-of (place - marked) (omega (arith, few)))
        ∙ ap (λ n. take n (A ++ S)) to)
        ∙ ap (λ l. take place (A ++ S) ++ l) end)
        (λ beyond.
        let same : m ≡ place = omega (arith, beyond, is) in
        ap (λ n. take n ticks ++ silent (len - n)) same
        ∙ ap (λ l. l ++ silent (len - place))
        (sym (take-append-le place A S (omega (arith, beyond, long))
        ∙ take-take place marked ticks beyond))
        ∙ ap (λ l. take place (A ++ S) ++ l) end)
        (cases_lt marked place)

pub link-long : (link : Link) → length (link_sent link) ≡ link.len
link-long link =
    let room = ticks-length link.bytes link.marks (link.byte_room ∙ sym link.mark_room) in
    sent-long link.marked link.len (marked_ticks link.bytes link.marks) link.marked_within
    (omega (arith, room, link.byte_room, link.within))

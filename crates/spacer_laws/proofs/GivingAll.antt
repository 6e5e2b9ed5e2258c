-- A spacer behind the receiver gives all that comes over an untouched link.
use Rattle.{frame_ending.proofs.Spread.EndBy, device_model.specs.Frames.FrameRead}
use Rattle.line_spacer.{proofs.Sending.free_from-append, specs.Arrivals.Arrival}
use Rattle.line_spacer.specs.{Arrivals.arrivals, Spacing.Spaced, Spacing.count_from}
use Rattle.line_spacer.specs.Spacing.{free_from, sent_from, take_in, accepted_of, lost_of}
use Rattle.spacer_laws.proofs.Accepted.{begin_of, with_frame, taken-few}
use Rattle.spacer_laws.proofs.LaidArrivals.{arrival_of}
use Rattle.spacer_laws.proofs.Leaving.{count-one, count-none, count-appended}
use Rattle.spacer_laws.specs.{GivingAll.AreGiven, Leaving.HaveLeft}
use Rattle.std.proofs.Common.{◌≡◌, ◌∙◌, ℕ, suc, ◌+◌, ◌-◌, ◌*◌, ◌<◌, ◌≤◌, List, [], ◌∷◌, ◌++◌}
use Rattle.std.proofs.Common.{length, map, fold, refl, sym, ap, subst, arith, ⊎_elim, append_assoc}
use Rattle.std.proofs.Math.Nat.{mul-le-mul_right}
use Rattle.std.proofs.lemmas.{Bool.cases_lt, List.append-nil, List.length-map}
use Rattle.yasir_ticks.specs.{Bursts.Burst, Bursts.end_of, Ticks.bytes_in}
use Rattle.yasir_ticks.specs.declared.tick.Tick.{Tick, TheVariants.Silent, TheVariants.Byte}

bytes-few : (x : List Tick) → length (bytes_in x) ≤ length x
bytes-few [] = omega arith
bytes-few (Silent ∷ x) = let few = bytes-few x in omega arith
bytes-few (Byte b ∷ x) = let few = bytes-few x in omega arith

module _ (gap ends most cap : ℕ) (room : most ≤ cap * (gap + 1)) where
  -- Holds if each of these bursts has at most `most` ticks, the first begins in tick n or later,
  -- and each of the others begins at least `gap` silent ticks after the one before it.
  abbrev pub ComeApart : ℕ → List Burst → Type 0
  ComeApart n [] = Unit {0}
  ComeApart n (d ∷ ds) =
      (n ≤ d.start) × (0 < length d.body) × (length d.body ≤ most) × ComeApart (end_of d + gap) ds

  -- What holds for the frames that are accepted of what came before tick n: the next one may begin
  -- by tick n + most + ends, and from any tick t up to that one there is room for those that
  -- haven't begun by t, if each takes one byte and its gap.
  record IsAhead (n : ℕ) (accepted : List Burst) : Type 0 where
    soon : free_from gap 0 accepted ≤ n + (most + ends)
    few : (t : ℕ) → count_from t accepted * (gap + 1) ≤ n + (most + ends) - t

  module _ (n : ℕ) (s : Spaced) (ahead : IsAhead n s.accepted) (d : Burst) (from : n ≤ d.start)
      (some : 0 < length d.body) (short : length d.body ≤ most) where
    abbrev arrival : Arrival
    arrival = arrival_of ends d

    abbrev start : ℕ
    start = begin_of gap cap s arrival

    abbrev sent : Burst
    sent = sent_from start (bytes_in d.body)

    next : arrival.step + 1 ≡ end_of d + ends
    next = omega arith

    room-left : count_from (arrival.step + 1) s.accepted < cap
    room-left =
        let at = next in
        let count : ℕ = count_from (arrival.step + 1) s.accepted in
        let few = ahead.few (arrival.step + 1) in
        ⊎_elim (λ less. less)
        (λ many. let over = mul-le-mul_right (gap + 1) many in absurd (omega arith))
        (cases_lt count cap)

    soon-begun : start ≤ d.start + (most + ends)
    soon-begun = let at = next in let soon = ahead.soon in grind arith

    long : length sent.body ≡ length (bytes_in d.body)
    long = length-map (bytes_in d.body) (λ b. Byte b)

    ahead-more : IsAhead (end_of d + gap) (s.accepted ++ sent ∷ [])
    ahead-more =
        let begun = soon-begun in
        let same = long in
        let bytes = bytes-few d.body in
        record {
          soon = let free = free_from-append gap 0 s.accepted (sent ∷ []) in omega arith;
          few = λ t.
              let others = ahead.few t in
              let parts = count-appended t s.accepted sent in
              let count : ℕ = count_from t s.accepted in
              let P : ℕ → Type 0 = λ c.
              c * (gap + 1) ≤ end_of d + gap + (most + ends) - t in
              ⊎_elim
              (λ early.
              let none = count-none t sent [] early in
              let same : count_from t (s.accepted ++ sent ∷ []) ≡ count = omega arith in
              subst P (sym same) (omega arith))
              (λ late.
              let one = count-one t sent [] late in
              let more : count_from t (s.accepted ++ sent ∷ []) ≡ suc count = omega arith in
              let product : suc count * (gap + 1) ≡ gap + 1 + count * (gap + 1) = grind arith in
              subst P (sym more) (omega arith))
              (cases_lt start t);
        }

  -- ---- all of them

  abbrev arrive : List Burst → List Arrival
  arrive ds = map (arrival_of ends) ds

  -- After what was accepted before, all of these bursts are given, and none is lost.
  record AllGiven (s after : Spaced) (ds : List Burst) : Type 0 where
    given : List Burst
    is : after.accepted ≡ s.accepted ++ given
    are_given : AreGiven (most + ends) ds given
    lost : after.lost ≡ s.lost

  all-given : (n : ℕ) (s : Spaced) (ds : List Burst) → IsAhead n s.accepted → ComeApart n ds
      → AllGiven s (fold (take_in gap cap) s (arrive ds)) ds
  all-given n s [] ahead come = record {
    given = [];
    is = sym (append-nil s.accepted);
    are_given = tt;
    lost = refl;
  }
  all-given n s (d ∷ ds) ahead come =
      let from : n ≤ d.start = come.0 in
      let some : 0 < length d.body = come.1 in
      let short : length d.body ≤ most = come.2 in
      let e : Burst = sent n s ahead d from some short in
      let t : Spaced = with_frame gap cap s (arrival_of ends d) in
      let others = all-given (end_of d + gap) t ds
      (ahead-more n s ahead d from some short) come.3 in
      let P : Spaced → Type 0 = λ x.
      AllGiven s (fold (take_in gap cap) x (arrive ds)) (d ∷ ds) in
      let is : P t = record {
        given = e ∷ others.given;
        is = others.is ∙ append_assoc s.accepted (e ∷ []) others.given;
        are_given = (refl, soon-begun n s ahead d from some short, others.are_given);
        lost = others.lost;
      } in
      subst P (sym (taken-few gap cap s (arrival_of ends d)
      (room-left n s ahead d from some short)))
      is

  nothing-ahead : IsAhead 0 []
  nothing-ahead = record { soon = omega arith; few = λ t. omega arith }

  pub given-from : (ds : List Burst) → ComeApart 0 ds → (line : List Tick)
      → (heard : List Tick → List FrameRead) → arrivals heard line ≡ arrive ds
      → AreGiven (most + ends) ds (accepted_of heard gap cap line)
      × (lost_of heard gap cap line ≡ [])
  given-from ds come line heard is =
      let start : Spaced = record { accepted = []; lost = [] } in
      let all = all-given 0 start ds nothing-ahead come in
      let same = ap (λ x. fold (take_in gap cap) start x) is in
      let P : List Burst → Type 0 = λ x. AreGiven (most + ends) ds x in (
        subst P (sym (ap (λ s. s.accepted) same ∙ all.is)) all.are_given,
        ap (λ s. s.lost) same ∙ all.lost,
      )

  -- If these bursts end by tick m, they have left by tick m + most + ends.
  pub given-left : (m k : ℕ) (ds es : List Burst) → EndBy m ds → m + (most + ends) ≤ k
      → AreGiven (most + ends) ds es → HaveLeft k es
  given-left m k [] [] all by given = tt
  given-left m k (d ∷ ds) (e ∷ es) all by given =
      let end : end_of d ≤ m = all.0 in
      let soon : e.start ≤ d.start + (most + ends) = given.1 in
      let bytes = bytes-few d.body in
      let long : length e.body ≡ length (bytes_in d.body) =
      ap length given.0 ∙ length-map (bytes_in d.body) (λ b. Byte b) in
      (omega arith, given-left m k ds es all.1 by given.2)
  given-left m k [] (e ∷ es) all by given = absurd given
  given-left m k (d ∷ ds) [] all by given = absurd given

-- The bursts of what the master says and of what the devices say: all are frames, and spaced.
use Rattle.line_rules.specs.Rules.{Rules}
use Rattle.link_format.specs.Profile.{Profile, delay, pause_len, trailer_len}
use Rattle.receiver_laws.proofs.Parting.{silent-add}
use Rattle.receiver_laws.specs.Untouched.{AreSpaced}
use Rattle.std.proofs.Common.{◌≡◌, ◌∙◌, ℕ, ◌+◌, ◌≤◌, List, [], ◌∷◌, ◌++◌, length}
use Rattle.std.proofs.Common.{refl, sym, ap, subst, arith, append_assoc, length-append}
use Rattle.std.proofs.lemmas.List.{length-replicate}
use Rattle.yasir_ticks.proofs.BurstsOfLaws.{bursts_from-only}
use Rattle.yasir_ticks.specs.{Bursts.Burst, Bursts.bursts, Ticks.silent}
use Rattle.yasir_ticks.specs.BurstsOf.{StartsFrom, AreBursts}
use Rattle.yasir_ticks.specs.declared.tick.Tick.{Tick, TheVariants.Silent}
use Rattle.two_wire.specs.Polling.{Polling, lateness}
use Rattle.two_wire.specs.Polls.{Poll, Poll.answered, Poll.unanswered, Further, said_on, further_len}
use Rattle.two_wire.specs.Polls.{poll_len, asked, replied, FollowInTurn, TakeTurns}

abbrev pub burst_at : ℕ → List Tick → Burst
burst_at start body = record { start = start; body = body }

-- the bursts of further frames behind this tick, and then these
abbrev pub further_bursts : ℕ → List Further → List Burst → List Burst
further_bursts at [] ds = ds
further_bursts at (u ∷ us) ds =
    burst_at (at + u.gap) u.frame
    ∷ further_bursts (at + (u.gap + length u.frame)) us ds

module _ (late : ℕ) where
  -- the bursts of the requests, if the next one begins at this tick, and of the answers, if it is
  -- heard then
  abbrev pub requests : ℕ → List Poll → List Burst
  requests at [] = []
  requests at (answered request wait answer others rest ∷ ps) =
      burst_at at request
      ∷ requests (at + (length request + poll_len late wait answer others rest)) ps
  requests at (unanswered request wait ∷ ps) =
      burst_at at request ∷ requests (at + (length request + wait)) ps

  abbrev pub answers : ℕ → List Poll → List Burst
  answers at [] = []
  answers at (answered request wait answer others rest ∷ ps) =
      burst_at (at + (length request + wait)) answer
      ∷ further_bursts (at + (length request + wait) + length answer) others
      (answers (at + (length request + wait) + length answer + further_len others
      + (late + (late + rest))) ps)
  answers at (unanswered request wait ∷ ps) = answers (at + (length request + wait)) ps

starts-less : (k n : ℕ) (ds : List Burst) → k ≤ n → StartsFrom n ds → StartsFrom k ds
starts-less k n [] le starts = tt
starts-less k n (d ∷ ds) le starts = omega arith

none-are : (n at : ℕ) → AreBursts 4 at (silent n) []
none-are n at = let long = length-replicate n Silent in ap (λ k. silent k) (sym long)

module _ (rules : Rules) (p : Polling) where
  abbrev late : ℕ
  late = lateness p.ab p.late

  pub requests-start : (n at : ℕ) (ps : List Poll) → n ≤ at → StartsFrom n (requests late at ps)
  requests-start n at [] le = tt
  requests-start n at (answered request wait answer others rest ∷ ps) le = le
  requests-start n at (unanswered request wait ∷ ps) le = le

  pub requests-are : (at n m : ℕ) (ps : List Poll) → TakeTurns rules p ps → m ≡ at + n
      → AreBursts 4 at (asked late 0 n ps) (requests late m ps)
  requests-are at n m [] turns sum = none-are (n + 0) at
  requests-are at n m (answered request wait answer others rest ∷ ps) turns sum =
      let k : ℕ = poll_len late wait answer others rest in
      let r : ℕ = length request in (
        n,
        asked late 0 k ps,
        refl,
        sum,
        turns.0.contiguous,
        requests-start (m + r + 4) (m + (r + k)) ps (omega arith),
        requests-are (m + r) k (m + (r + k)) ps turns.6 (omega arith),
      )
  requests-are at n m (unanswered request wait ∷ ps) turns sum =
      let r : ℕ = length request in
      let anew : delay p.ab + 3 ≤ wait = turns.2 in (
        n,
        asked late 0 wait ps,
        refl,
        sum,
        turns.0.contiguous,
        requests-start (m + r + 4) (m + (r + wait)) ps (omega arith),
        requests-are (m + r) wait (m + (r + wait)) ps turns.4 (omega arith),
      )

  pub answers-start : (n at : ℕ) (ps : List Poll) → n ≤ at → StartsFrom n (answers late at ps)
  answers-start n at [] le = tt
  answers-start n at (answered request wait answer others rest ∷ ps) le = omega arith
  answers-start n at (unanswered request wait ∷ ps) le =
      answers-start n (at + (length request + wait)) ps (omega arith)

  further-start : (n at : ℕ) (us : List Further) (ds : List Burst) → FollowInTurn rules p us
      → n ≤ at + 4 → StartsFrom n ds → StartsFrom n (further_bursts at us ds)
  further-start n at [] ds follow le starts = starts
  further-start n at (u ∷ us) ds follow le starts =
      let gap : delay p.ba + 3 ≤ u.gap = follow.1 in omega arith

  further-are : (at : ℕ) (us : List Further) (x : List Tick) (ds : List Burst)
      → FollowInTurn rules p us → StartsFrom (at + further_len us + 4) ds
      → AreBursts 4 (at + further_len us) x ds
      → AreBursts 4 at (said_on us x) (further_bursts at us ds)
  further-are at [] x ds follow starts are =
      subst (λ n. AreBursts 4 n x ds) (omega arith) are
  further-are at (u ∷ us) x ds follow starts are =
      let n : ℕ = at + (u.gap + length u.frame) in
      let same : at + further_len (u ∷ us) ≡ n + further_len us = omega arith in
      let starts_then : StartsFrom (n + further_len us + 4) ds =
      subst (λ k. StartsFrom (k + 4) ds) same starts in
      let are_then : AreBursts 4 (n + further_len us) x ds =
      subst (λ k. AreBursts 4 k x ds) same are in
      let end : at + u.gap + length u.frame ≡ n = omega arith in
      let behind : StartsFrom (n + 4) (further_bursts n us ds) =
      further-start (n + 4) n us ds follow.3 (omega arith)
      (starts-less (n + 4) (n + further_len us + 4) ds (omega arith) starts_then) in (
        u.gap,
        said_on us x,
        refl,
        refl,
        follow.0.contiguous,
        subst (λ k. StartsFrom (k + 4) (further_bursts n us ds)) (sym end) behind,
        subst (λ k. AreBursts 4 k (said_on us x) (further_bursts n us ds)) (sym end)
            (further-are n us x ds follow.3 starts_then are_then),
      )

  pub answers-are : (at n m : ℕ) (ps : List Poll) → TakeTurns rules p ps → m ≡ at + n
      → AreBursts 4 at (replied late 0 n ps) (answers late m ps)
  answers-are at n m [] turns sum = none-are (n + 0) at
  answers-are at n m (answered request wait answer others rest ∷ ps) turns sum =
      let begin : ℕ = m + (length request + wait) in
      let end : ℕ = begin + length answer in
      let k : ℕ = late + (late + rest) in
      let next : ℕ = end + further_len others + k in
      let x : List Tick = replied late 0 k ps in
      let ds : List Burst = answers late next ps in
      let starts : StartsFrom (end + further_len others + 4) ds =
      answers-start (end + further_len others + 4) next ps (omega arith) in (
        n + (length request + wait),
        said_on others x,
        refl,
        omega arith,
        turns.1.contiguous,
        further-start (end + 4) end others ds turns.2 (omega arith)
            (starts-less (end + 4) (end + further_len others + 4) ds (omega arith) starts),
        further-are end others x ds turns.2 starts
            (answers-are (end + further_len others) k next ps turns.6 refl),
      )
  answers-are at n m (unanswered request wait ∷ ps) turns sum =
      answers-are at (n + (length request + wait)) (m + (length request + wait)) ps turns.4
      (omega arith)

  pub bursts-asked : (n : ℕ) (ps : List Poll) → TakeTurns rules p ps
      → bursts (asked late 0 n ps) ≡ requests late n ps
  bursts-asked n ps turns =
      bursts_from-only 4 0 (asked late 0 n ps) (requests late n ps)
      (requests-are 0 n n ps turns (omega arith))

  pub bursts-replied : (n : ℕ) (ps : List Poll) → TakeTurns rules p ps
      → bursts (replied late 0 n ps) ≡ answers late n ps
  bursts-replied n ps turns =
      bursts_from-only 4 0 (replied late 0 n ps) (answers late n ps)
      (answers-are 0 n n ps turns (omega arith))

  -- ---- they are spaced

  pub requests-spaced : (n at : ℕ) (ps : List Poll) → TakeTurns rules p ps → n ≤ at
      → AreSpaced p.ab rules n (requests late at ps)
  requests-spaced n at [] turns le = tt
  requests-spaced n at (answered request wait answer others rest ∷ ps) turns le = (
    le,
    turns.0.whole,
    turns.0.framed,
    requests-spaced (at + length request + pause_len + trailer_len p.ab + 4)
        (at + (length request + poll_len late wait answer others rest)) ps turns.6 (omega arith),
  )
  requests-spaced n at (unanswered request wait ∷ ps) turns le =
      let anew : delay p.ab + 3 ≤ wait = turns.2 in (
        le,
        turns.0.whole,
        turns.0.framed,
        requests-spaced (at + length request + pause_len + trailer_len p.ab + 4)
            (at + (length request + wait)) ps turns.4 (omega arith),
      )

  module _ (same : delay p.ba ≡ delay p.ab) where
    further-spaced : (n at : ℕ) (us : List Further) (ds : List Burst) → FollowInTurn rules p us
        → n ≤ at + pause_len + trailer_len p.ba + 4
        → AreSpaced p.ba rules (at + further_len us + pause_len + trailer_len p.ba + 4) ds
        → AreSpaced p.ba rules n (further_bursts at us ds)
    further-spaced n at [] ds follow le spaced = spaced-less n
        (at + 0 + pause_len + trailer_len p.ba + 4) ds (omega arith) spaced
      where
        spaced-less : (n k : ℕ) (ds : List Burst) → n ≤ k → AreSpaced p.ba rules k ds
            → AreSpaced p.ba rules n ds
        spaced-less n k [] le spaced = tt
        spaced-less n k (d ∷ ds) le spaced =
            let from : k ≤ d.start = spaced.0 in (omega arith, spaced.1, spaced.2, spaced.3)
    further-spaced n at (u ∷ us) ds follow le spaced =
        let gap : delay p.ba + 3 ≤ u.gap = follow.1 in
        let k : ℕ = at + (u.gap + length u.frame) in
        let sum : at + further_len (u ∷ us) ≡ k + further_len us = omega arith in (
          omega arith,
          follow.0.whole,
          follow.0.framed,
          further-spaced (at + u.gap + length u.frame + pause_len + trailer_len p.ba + 4) k us ds
              follow.3 (omega arith)
              (subst (λ i. AreSpaced p.ba rules (i + pause_len + trailer_len p.ba + 4) ds) sum spaced),
        )

    pub answers-spaced : (n at : ℕ) (ps : List Poll) → TakeTurns rules p ps → n ≤ at
        → AreSpaced p.ba rules n (answers late at ps)
    answers-spaced n at [] turns le = tt
    answers-spaced n at (answered request wait answer others rest ∷ ps) turns le =
        let end : ℕ = at + (length request + wait) + length answer in
        let next : ℕ = end + further_len others + (late + (late + rest)) in (
          omega arith,
          turns.1.whole,
          turns.1.framed,
          further-spaced (end + pause_len + trailer_len p.ba + 4) end others (answers late next ps)
              turns.2 (omega arith)
              (answers-spaced (end + further_len others + pause_len + trailer_len p.ba + 4) next ps
              turns.6 (omega arith)),
        )
    answers-spaced n at (unanswered request wait ∷ ps) turns le =
        answers-spaced n (at + (length request + wait)) ps turns.4 (omega arith)

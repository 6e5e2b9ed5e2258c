-- In polls in which all take turns, the two boxes never send at once, and all turns are kept.
use Rattle.frame_ending.proofs.Spread.{AreSpread}
use Rattle.frame_ending.specs.{Laid.laid, Laid.tick_at}
use Rattle.line_rules.specs.{Rules.Rules, RulesLaws.IsLawful}
use Rattle.link_format.specs.Profile.{Profile, HasTags, delay}
use Rattle.receiver_laws.proofs.Packing.{packet, packets, packet-length, packets-spread}
use Rattle.receiver_laws.proofs.Parting.{silent-add}
use Rattle.receiver_laws.specs.Untouched.{AreSpaced, IsUntouchedLink}
use Rattle.std.proofs.Common.{◌≡◌, ◌∙◌, ◌⊎◌, inl, inr, ◌&&◌, ℕ, zero, suc, ◌+◌, ◌-◌, ◌≤◌, ◌<◌}
use Rattle.std.proofs.Common.{nat_lt, nat_le, false, List, [], ◌∷◌, ◌++◌, length, map, refl}
use Rattle.std.proofs.Common.{sym, ap, subst, arith, ⊎_elim, length-append, take, append_assoc}
use Rattle.std.proofs.lemmas.{Bool.cases_lt, List.length-replicate, List.take_at}
use Rattle.std.specs.List.{range_with_len}
use Rattle.yasir_ticks.specs.{Bursts.Burst, Bursts.end_of, Ticks.silent}
use Rattle.yasir_ticks.specs.BurstsOf.{StartsFrom, AreBursts}
use Rattle.yasir_ticks.specs.declared.tick.Tick.{Tick, TheVariants.Silent, TheVariants.Byte}
use Rattle.two_wire.specs.Polls.{Poll, Poll.answered, Poll.unanswered, Further, said_on, further_len}
use Rattle.two_wire.specs.Polls.{poll_len, asked, replied, FollowInTurn, TakeTurns, polls_of}
use Rattle.two_wire.specs.Polls.{PollInTurn}
use Rattle.two_wire.specs.Polling.{Polling, PollsInTurn, lateness, requests_sent, answers_sent}
use Rattle.two_wire.specs.Gate.{gated, at_rest}
use Rattle.two_wire.specs.Wires.{IsApart, AreApart, on_wires}
use Rattle.two_wire.specs.declared.gate.Side.TheVariants.{Asks, Answers}
use Rattle.two_wire.specs.declared.gate.Spoken.TheVariants.{Nobody}
use Rattle.two_wire.proofs.Ends.{on_wires-long}
use Rattle.two_wire.proofs.Letting.{KnownTurn, says-all}
use Rattle.two_wire.proofs.SentPackets.{sends-packets}
use Rattle.two_wire.proofs.Exchanges.{turns-a, turns-b, apart-a, apart-b, asked-later, replied-later}
use Rattle.two_wire.proofs.Exchanges.{asked-longer, replied-longer, silent-apart}
use Rattle.two_wire.proofs.Spacing.{burst_at, further_bursts, requests, answers, requests-are}
use Rattle.two_wire.proofs.Spacing.{answers-are, bursts-asked, bursts-replied, requests-spaced}
use Rattle.two_wire.proofs.Spacing.{answers-spaced, requests-start, answers-start}

-- ---- ticks of bursts

outside : (a b i : ℕ) → (i < a) ⊎ (b ≤ i) → (nat_le a i && nat_lt i b) ≡ false
outside a b i h = grind arith

tick-outside : (d : Burst) (ds : List Burst) (i : ℕ) → (i < d.start) ⊎ (end_of d ≤ i)
    → tick_at (d ∷ ds) i ≡ tick_at ds i
unfolding tick_at
tick-outside d ds i out = rw (outside d.start (end_of d) i out) refl

tick-none : (i : ℕ) → tick_at [] i ≡ Silent
unfolding tick_at
tick-none i = refl

dark-first : (n i : ℕ) (ds : List Burst) → AreSpread 4 n ds → i < n → tick_at ds i ≡ Silent
dark-first n i [] spread before = tick-none i
dark-first n i (d ∷ ds) spread before =
    let from : n ≤ d.start = spread.0 in
    let early : i < d.start = omega arith in
    tick-outside d ds i (inl early) ∙ dark-first (end_of d + 4) i ds spread.2 (omega arith)

spread-of : (n k : ℕ) (l : List Tick) (ds : List Burst) → AreBursts 4 n l ds → StartsFrom k ds
    → AreSpread 4 k ds
spread-of n k l [] are starts = tt
spread-of n k l (d ∷ ds) are starts =
    (starts, are.4, spread-of (end_of d) (end_of d + 4) are.1 ds are.6 are.5)

silent-left : (x y : Tick) → x ≡ Silent → IsApart x y
silent-left Silent y is = tt
silent-left (Byte b) y is = absurd (cc)

silent-right : (x y : Tick) → y ≡ Silent → IsApart x y
silent-right Silent y is = tt
silent-right (Byte b) Silent is = tt
silent-right (Byte b) (Byte c) is = absurd (cc)

same-apart : (x y v w : Tick) → x ≡ v → y ≡ w → IsApart v w → IsApart x y
same-apart x y v w a b apart =
    subst (λ t. IsApart t y) (sym a) (subst (λ t. IsApart v t) (sym b) apart)

lines-apart : (f g : ℕ → Tick) (a n : ℕ) → ((i : ℕ) → IsApart (f i) (g i))
    → AreApart (map f (range_with_len a n)) (map g (range_with_len a n))
lines-apart f g a zero apart = tt
lines-apart f g a (suc n) apart = (apart a, lines-apart f g (a + 1) n apart)

-- ---- packets

module _ (rules : Rules) (lawful : IsLawful rules) (p : Polling) (tags_ab : HasTags p.ab)
    (some_ab : 1 ≤ p.ab.word_len) (tags_ba : HasTags p.ba) (some_ba : 1 ≤ p.ba.word_len)
    (same : delay p.ba ≡ delay p.ab) where
  abbrev late : ℕ
  late = lateness p.ab p.late

  asked-spread : (f n at : ℕ) (ps : List Poll) → TakeTurns rules p ps → n ≤ at
      → AreSpread 4 n (packets p.ab rules f (requests late at ps))
  asked-spread f n at ps turns le =
      packets-spread p.ab tags_ab some_ab rules lawful f n at (requests late at ps)
      (requests-spaced rules p n at ps turns le)
      (spread-of at at (asked late 0 0 ps) (requests late at ps)
      (requests-are rules p at 0 at ps turns (omega arith))
      (requests-start rules p at at ps (omega arith)))

  replied-spread : (g n at : ℕ) (ps : List Poll) → TakeTurns rules p ps → n ≤ at
      → AreSpread 4 n (packets p.ba rules g (answers late at ps))
  replied-spread g n at ps turns le =
      packets-spread p.ba tags_ba some_ba rules lawful g n at (answers late at ps)
      (answers-spaced rules p same n at ps turns le)
      (spread-of at at (replied late 0 0 ps) (answers late at ps)
      (answers-are rules p at 0 at ps turns (omega arith))
      (answers-start rules p at at ps (omega arith)))

  -- the number after those of further frames
  abbrev after_further : ℕ → List Further → ℕ
  after_further g [] = g
  after_further g (u ∷ us) = after_further (suc g) us

  -- after an answer its packets have ended
  skip-further : (g at i : ℕ) (us : List Further) (ds : List Burst) → FollowInTurn rules p us
      → at + further_len us + delay p.ba ≤ i
      → tick_at (packets p.ba rules g (further_bursts at us ds)) i
      ≡ tick_at (packets p.ba rules (after_further g us) ds) i
  skip-further g at i [] ds follow past = refl
  skip-further g at i (u ∷ us) ds follow past =
      let d : Burst = burst_at (at + u.gap) u.frame in
      let q : Burst = packet p.ba rules (suc g) d in
      let n : ℕ = at + (u.gap + length u.frame) in
      let q_end = packet-length p.ba tags_ba some_ba rules lawful (suc g) d follow.0.contiguous
      follow.0.whole in
      let over : end_of q ≤ i = omega arith in
      tick-outside q (packets p.ba rules (suc g) (further_bursts n us ds)) i (inr over)
      ∙ skip-further (suc g) n i us ds follow.3 (omega arith)

  packets-apart : (f g at : ℕ) (ps : List Poll) → TakeTurns rules p ps → (i : ℕ)
      → IsApart (tick_at (packets p.ab rules f (requests late at ps)) i)
      (tick_at (packets p.ba rules g (answers late (late + at) ps)) i)
  packets-apart f g at [] turns i = silent-left (tick_at [] i) (tick_at [] i) (tick-none i)
  packets-apart f g at (answered request wait answer others rest ∷ ps) turns i =
      let k : ℕ = poll_len late wait answer others rest in
      let next : ℕ = at + (length request + k) in
      let begin : ℕ = late + at + (length request + wait) in
      let then : ℕ = begin + length answer + further_len others + (late + (late + rest)) in
      let sum : then ≡ late + next = omega arith in
      let r : Burst = burst_at at request in
      let a : Burst = burst_at begin answer in
      let x : Burst = packet p.ab rules (suc f) r in
      let y : Burst = packet p.ba rules (suc g) a in
      let xs : List Burst = packets p.ab rules (suc f) (requests late next ps) in
      let us : List Burst = further_bursts (begin + length answer) others (answers late then ps) in
      let ys : List Burst = packets p.ba rules (suc g) us in
      let zs : List Burst =
      packets p.ba rules (after_further (suc g) others) (answers late then ps) in
      let all : List Poll = answered request wait answer others rest ∷ ps in
      let x_end = packet-length p.ab tags_ab some_ab rules lawful (suc f) r turns.0.contiguous
      turns.0.whole in
      let y_end = packet-length p.ba tags_ba some_ba rules lawful (suc g) a turns.1.contiguous
      turns.1.whole in
      let y_spread : AreSpread 4 y.start (y ∷ ys) =
      later-spread (late + at) y ys (replied-spread g (late + at) (late + at) all turns (omega arith)) in
      ⊎_elim
      (λ early.
      let before : i < y.start = omega arith in
      silent-right (tick_at (x ∷ xs) i) (tick_at (y ∷ ys) i)
      (dark-first y.start i (y ∷ ys) y_spread before))
      (λ past. ⊎_elim
      (λ soon. silent-left (tick_at (x ∷ xs) i) (tick_at (y ∷ ys) i)
      (tick-outside x xs i (inr past)
      ∙ dark-first next i xs (asked-spread (suc f) next next ps turns.6 (omega arith)) soon))
      (λ over.
      let y_over : end_of y ≤ i = omega arith in
      let rest_of : tick_at (y ∷ ys) i ≡ tick_at zs i =
      tick-outside y ys i (inr y_over)
      ∙ skip-further (suc g) (begin + length answer) i others (answers late then ps) turns.2
      (omega arith) in
      let again : IsApart (tick_at xs i) (tick_at zs i) =
      subst (λ q. IsApart (tick_at xs i)
      (tick_at (packets p.ba rules (after_further (suc g) others) (answers late q ps)) i)) (sym sum)
      (packets-apart (suc f) (after_further (suc g) others) next ps turns.6 i) in
      same-apart (tick_at (x ∷ xs) i) (tick_at (y ∷ ys) i) (tick_at xs i) (tick_at zs i)
      (tick-outside x xs i (inr past)) rest_of again)
      (cases_lt i next))
      (cases_lt i (end_of x))
    where
      later-spread : (n : ℕ) (d : Burst) (ds : List Burst) → AreSpread 4 n (d ∷ ds)
          → AreSpread 4 d.start (d ∷ ds)
      later-spread n d ds spread = (omega arith, spread.1, spread.2)
  packets-apart f g at (unanswered request wait ∷ ps) turns i =
      let next : ℕ = at + (length request + wait) in
      let then : ℕ = late + at + (length request + wait) in
      let sum : then ≡ late + next = omega arith in
      let r : Burst = burst_at at request in
      let x : Burst = packet p.ab rules (suc f) r in
      let xs : List Burst = packets p.ab rules (suc f) (requests late next ps) in
      let ys : List Burst = packets p.ba rules g (answers late then ps) in
      let x_end = packet-length p.ab tags_ab some_ab rules lawful (suc f) r turns.0.contiguous
      turns.0.whole in
      ⊎_elim
      (λ early. silent-right (tick_at (x ∷ xs) i) (tick_at ys i)
      (dark-first then i ys (replied-spread g then then ps turns.4 (omega arith)) (omega arith)))
      (λ past.
      let again : IsApart (tick_at xs i) (tick_at ys i) =
      subst (λ q. IsApart (tick_at xs i) (tick_at (packets p.ba rules g (answers late q ps)) i))
      (sym sum) (packets-apart (suc f) g next ps turns.4 i) in
      same-apart (tick_at (x ∷ xs) i) (tick_at ys i) (tick_at xs i)
      (tick_at ys i) (tick-outside x xs i (inr past)) refl again)
      (cases_lt i (end_of x))

-- ---- later ticks

take-apart : (n : ℕ) (x y : List Tick) → AreApart x y → AreApart (take n x) (take n y)
take-apart zero x y apart = tt
take-apart (suc n) [] [] apart = tt
take-apart (suc n) [] (b ∷ y) apart = absurd apart
take-apart (suc n) (a ∷ x) [] apart = absurd apart
take-apart (suc n) (a ∷ x) (b ∷ y) apart = (apart.0, take-apart n x y apart.1)

apart-long : (x y : List Tick) → AreApart x y → length x ≡ length y
apart-long [] [] apart = refl
apart-long [] (b ∷ y) apart = absurd apart
apart-long (a ∷ x) [] apart = absurd apart
apart-long (a ∷ x) (b ∷ y) apart = let rest = apart-long x y apart.1 in omega arith

apart-later : (late : ℕ) (x y : List Tick) → AreApart x y
    → AreApart (on_wires late x) (on_wires late y)
apart-later late x y apart =
    subst (λ n. AreApart (on_wires late x) (take n (silent late ++ y))) (apart-long x y apart)
    (take-apart (length x) (silent late ++ x) (silent late ++ y) (silent-apart late x y apart))

-- what is said later, if enough silence follows it
said-later : (late more : ℕ) (line : List Tick) → late ≤ more
    → on_wires late (line ++ silent more) ≡ silent late ++ (line ++ silent (more - late))
said-later late more line within =
    let left : ℕ = more - late in
    let sum : left + late ≡ more = omega arith in
    let front : List Tick = silent late ++ (line ++ silent left) in
    let a = length-append line (silent more) in
    let b = length-append line (silent left) in
    let c = length-append (silent late) (line ++ silent left) in
    let d = length-replicate more Silent in
    let e = length-replicate left Silent in
    let f = length-replicate late Silent in
    let parts : silent late ++ (line ++ silent more) ≡ front ++ silent late =
    ap (λ l. silent late ++ l)
    (ap (λ l. line ++ l) (ap (λ k. silent k) (sym sum) ∙ sym (silent-add left late))
    ∙ sym (append_assoc line (silent left) (silent late)))
    ∙ sym (append_assoc (silent late) (line ++ silent left) (silent late)) in
    ap (take (length (line ++ silent more))) parts
    ∙ take_at front (silent late) (length (line ++ silent more)) (omega arith)

-- ---- all turns

said-long : (us : List Further) (x : List Tick) → length (said_on us x) ≡ further_len us + length x
said-long [] x = omega arith
said-long (u ∷ us) x =
    let rest = said-long us x in
    let a = length-append (silent u.gap) (u.frame ++ said_on us x) in
    let b = length-append u.frame (said_on us x) in
    let c = length-replicate u.gap Silent in
    omega arith

-- how many ticks polls take
abbrev polls_len : ℕ → List Poll → ℕ
polls_len n [] = 0
polls_len n (answered request wait answer others rest ∷ ps) =
    length request + (poll_len n wait answer others rest + polls_len n ps)
polls_len n (unanswered request wait ∷ ps) = length request + (wait + polls_len n ps)

asked-long : (late last i : ℕ) (ps : List Poll)
    → length (asked late last i ps) ≡ i + (polls_len late ps + last)
asked-long late last i [] = let quiet = length-replicate (i + last) Silent in omega arith
asked-long late last i (answered request wait answer others rest ∷ ps) =
    let k : ℕ = poll_len late wait answer others rest in
    let rest_long = asked-long late last k ps in
    let a = length-append (silent i) (request ++ asked late last k ps) in
    let b = length-append request (asked late last k ps) in
    let quiet = length-replicate i Silent in
    omega arith
asked-long late last i (unanswered request wait ∷ ps) =
    let rest_long = asked-long late last wait ps in
    let a = length-append (silent i) (request ++ asked late last wait ps) in
    let b = length-append request (asked late last wait ps) in
    let quiet = length-replicate i Silent in
    omega arith

replied-long : (late last j : ℕ) (ps : List Poll)
    → length (replied late last j ps) ≡ j + (polls_len late ps + last)
replied-long late last j [] = let quiet = length-replicate (j + last) Silent in omega arith
replied-long late last j (answered request wait answer others rest ∷ ps) =
    let q : ℕ = late + (late + rest) in
    let w : ℕ = j + (length request + wait) in
    let x : List Tick = replied late last q ps in
    let rest_long = replied-long late last q ps in
    let a = length-append (silent w) (answer ++ said_on others x) in
    let b = length-append answer (said_on others x) in
    let c = said-long others x in
    let quiet = length-replicate w Silent in
    omega arith
replied-long late last j (unanswered request wait ∷ ps) =
    let rest_long = replied-long late last (j + (length request + wait)) ps in omega arith

module _ (rules : Rules) (lawful : IsLawful rules) (p : Polling) (start : ℕ) (ps : List Poll)
    (more : ℕ) (tags_ab : HasTags p.ab) (some_ab : 1 ≤ p.ab.word_len) (tags_ba : HasTags p.ba)
    (some_ba : 1 ≤ p.ba.word_len) (is : PollInTurn rules p start ps more) where
  abbrev late_ab : ℕ
  late_ab = lateness p.ab p.late

  abbrev line_a : List Tick
  line_a = asked late_ab 0 start ps

  abbrev line_b : List Tick
  line_b = replied late_ab 0 (late_ab + start) ps

  untouched-asked : IsUntouchedLink p.ab rules p.requests_floor p.requests_behind line_a (late_ab + more)
  untouched-asked = record {
    spaced = subst (λ ds. AreSpaced p.ab rules 0 ds) (sym (bursts-asked rules p start ps is.turns))
        (requests-spaced rules p 0 start ps is.turns (omega arith));
    numbers = is.requests.numbers;
    not_above = is.requests.not_above;
    near = is.requests.near;
    silence = omega arith;
  }

  untouched-replied : IsUntouchedLink p.ba rules p.answers_floor p.answers_behind line_b more
  untouched-replied =
      let same = is.same_delay in
      let quiet = is.silence in
      record {
        spaced = subst (λ ds. AreSpaced p.ba rules 0 ds)
            (sym (bursts-replied rules p (late_ab + start) ps is.turns))
            (answers-spaced rules p same 0 (late_ab + start) ps is.turns (omega arith));
        numbers = is.answers.numbers;
        not_above = is.answers.not_above;
        near = is.answers.near;
        silence = omega arith;
      }

  all-long : length (line_a ++ silent (late_ab + more)) ≡ length (line_b ++ silent more)
  all-long =
      let a = asked-long late_ab 0 start ps in
      let b = replied-long late_ab 0 (late_ab + start) ps in
      let c = length-append line_a (silent (late_ab + more)) in
      let d = length-append line_b (silent more) in
      let e = length-replicate (late_ab + more) Silent in
      let f = length-replicate more Silent in
      omega arith

  sent-apart : AreApart (on_wires p.late (requests_sent rules (polls_of p start ps more)))
      (on_wires p.late (answers_sent rules (polls_of p start ps more)))
  sent-apart =
      let m : ℕ = length (line_a ++ silent (late_ab + more)) in
      let q : Polling = polls_of p start ps more in
      let xs : List Burst = packets p.ab rules p.requests_floor (requests late_ab start ps) in
      let ys : List Burst = packets p.ba rules p.answers_floor (answers late_ab (late_ab + start) ps) in
      let left : requests_sent rules q ≡ laid m xs =
      sends-packets p.ab tags_ab some_ab rules lawful p.requests_floor p.requests_behind line_a
      (late_ab + more) untouched-asked
      ∙ ap (λ ds. laid m (packets p.ab rules p.requests_floor ds))
      (bursts-asked rules p start ps is.turns) in
      let right : answers_sent rules q ≡ laid m ys =
      sends-packets p.ba tags_ba some_ba rules lawful p.answers_floor p.answers_behind line_b more
      untouched-replied
      ∙ (ap (λ ds. laid (length (line_b ++ silent more)) (packets p.ba rules p.answers_floor ds))
      (bursts-replied rules p (late_ab + start) ps is.turns)
      ∙ ap (λ k. laid k ys) (sym all-long)) in
      apart-later p.late (requests_sent rules q) (answers_sent rules q)
      (subst (λ l. AreApart l (answers_sent rules q)) (sym left)
      (subst (λ l. AreApart (laid m xs) l) (sym right)
      (lines-apart (λ i. tick_at xs i) (λ i. tick_at ys i) 0 m
      (λ i. packets-apart rules lawful p tags_ab some_ab tags_ba some_ba is.same_delay
      p.requests_floor p.answers_floor start ps is.turns i))))

  -- what is asked and what is replied, later
  asked-on : (k : ℕ) → k ≤ late_ab + more → on_wires k (line_a ++ silent (late_ab + more))
      ≡ asked late_ab (late_ab + more - k) (k + start) ps
  asked-on k le =
      said-later k (late_ab + more) line_a le
      ∙ (ap (λ l. silent k ++ l) (asked-longer late_ab (late_ab + more - k) start ps)
      ∙ sym (asked-later late_ab (late_ab + more - k) k start ps))

  replied-on : (k : ℕ) → k ≤ more → on_wires k (line_b ++ silent more)
      ≡ replied late_ab (more - k) (k + (late_ab + start)) ps
  replied-on k le =
      said-later k more line_b le
      ∙ (ap (λ l. silent k ++ l) (replied-longer late_ab (more - k) (late_ab + start) ps)
      ∙ sym (replied-later late_ab (more - k) k (late_ab + start) ps))

  pub in-turn : PollsInTurn rules (polls_of p start ps more)
  in-turn =
      let same = is.same_delay in
      let quiet = is.silence in
      let heard = is.heard in
      let same_late : late_ab ≡ lateness p.ba p.late = omega arith in
      let answers_later : on_wires (lateness p.ba p.late) (line_b ++ silent more)
      ≡ replied late_ab (more - late_ab) (late_ab + (late_ab + start)) ps =
      ap (λ k. on_wires k (line_b ++ silent more)) (sym same_late) ∙ replied-on late_ab quiet in
      let requests_later = asked-on late_ab (omega arith) in
      let answers_heard = replied-on p.lag heard in
      let requests_heard = asked-on p.lag (omega arith) in
      let same_ticks = all-long in
      let a = on_wires-long (lateness p.ba p.late) (line_b ++ silent more) in
      let b = on_wires-long p.lag (line_a ++ silent (late_ab + more)) in
      let c = on_wires-long late_ab (line_a ++ silent (late_ab + more)) in
      let d = on_wires-long p.lag (line_b ++ silent more) in
      let requests_now = asked-longer late_ab (late_ab + more) start ps in
      let answers_now = replied-longer late_ab more (late_ab + start) ps in
      record {
        same_ticks = all-long;
        requests = untouched-asked;
        answers = untouched-replied;
        requests_end = omega arith;
        answers_end = omega arith;
        at_a = says-all Answers p.waits_a at_rest (on_wires (lateness p.ba p.late) (line_b ++ silent more))
            (on_wires p.lag (line_a ++ silent (late_ab + more))) (λ few. absurd (omega arith))
            (omega arith)
            (subst (λ l. KnownTurn Answers p.waits_a (Nobody 0) l
            (on_wires p.lag (line_a ++ silent (late_ab + more)))) (sym answers_later)
            (subst (λ l. KnownTurn Answers p.waits_a (Nobody 0)
            (replied late_ab (more - late_ab) (late_ab + (late_ab + start)) ps) l)
            (sym requests_heard)
            (turns-a rules p start (late_ab + more - p.lag) (more - late_ab) ps is.turns is.wide
            (omega arith))));
        at_b = says-all Asks p.waits_b at_rest (on_wires late_ab (line_a ++ silent (late_ab + more)))
            (on_wires p.lag (line_b ++ silent more)) (λ few. absurd (omega arith)) (omega arith)
            (subst (λ l. KnownTurn Asks p.waits_b (Nobody 0) l
            (on_wires p.lag (line_b ++ silent more))) (sym requests_later)
            (subst (λ l. KnownTurn Asks p.waits_b (Nobody 0)
            (asked late_ab (late_ab + more - late_ab) (late_ab + start) ps) l) (sym answers_heard)
            (turns-b rules p start (late_ab + more - late_ab) (more - p.lag) ps is.turns is.begins
            (omega arith))));
        apart_a = subst (λ l. AreApart l (line_a ++ silent (late_ab + more))) (sym answers_later)
            (subst (λ l. AreApart (replied late_ab (more - late_ab) (late_ab + (late_ab + start)) ps)
            l) (sym requests_now)
            (apart-a rules p start (late_ab + more) (more - late_ab) ps is.turns (omega arith)));
        apart_b = subst (λ l. AreApart l (line_b ++ silent more)) (sym requests_later)
            (subst (λ l. AreApart (asked late_ab (late_ab + more - late_ab) (late_ab + start) ps) l)
            (sym answers_now)
            (apart-b rules p start (late_ab + more - late_ab) more ps is.turns (omega arith)));
        apart_link = sent-apart;
      }

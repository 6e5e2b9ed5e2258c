-- Polls in which all take turns, at any place of the line: all is heard there in turn, and apart.
use Rattle.std.proofs.Common.{◌≡◌, ◌∙◌, ℕ, zero, suc, ◌+◌, ◌-◌, ◌≤◌, ◌<◌, Bool, true, ◌||◌}
use Rattle.std.proofs.Common.{List, [], ◌∷◌, ◌++◌, length, refl, sym, ap, subst, arith}
use Rattle.std.proofs.Common.{append_assoc, length-append}
use Rattle.std.proofs.lemmas.List.{length-replicate}
use Rattle.line_rules.specs.Rules.{Rules}
use Rattle.link_format.specs.Profile.{delay}
use Rattle.receiver_laws.proofs.Parting.{silent-add}
use Rattle.yasir_ticks.specs.Ticks.{silent}
use Rattle.yasir_ticks.specs.BurstsOf.{IsContiguous, one, more}
use Rattle.yasir_ticks.specs.declared.tick.Tick.{Tick, TheVariants.Silent, TheVariants.Byte}
use Rattle.two_wire.specs.declared.gate.Side.{Side}
use Rattle.two_wire.specs.declared.gate.Side.TheVariants.{Asks, Answers}
use Rattle.two_wire.specs.declared.gate.Spoken.{Spoken}
use Rattle.two_wire.specs.declared.gate.Spoken.TheVariants.{Nobody, Asker, Answerer}
use Rattle.two_wire.specs.declared.gate.Waits.{Waits}
use Rattle.two_wire.specs.Polling.{Polling, lateness}
use Rattle.two_wire.specs.Polls.{Poll, Poll.answered, Poll.unanswered, Further, said_on, further_len}
use Rattle.two_wire.specs.Polls.{poll_len, asked, replied, FollowInTurn, TakeTurns}
use Rattle.two_wire.specs.Turns.{after, may_ask, may_answer, may_ask_on, may_speak}
use Rattle.two_wire.specs.Wires.{IsApart, AreApart}
use Rattle.two_wire.proofs.Letting.{KnownTurn, IsKnown, all-silent, both-silent, own-talks}
use Rattle.two_wire.proofs.Letting.{others-talk, asks-on, answers-on}
use Rattle.two_wire.proofs.Quiet.{two-silences, quieter, quieter-nobody, after-asker}
use Rattle.two_wire.proofs.Quiet.{after-answerer}

-- ---- silence, taken apart

three-silences : (a b c n : ℕ) (l : List Tick) → n ≡ a + (b + c)
    → silent n ++ l ≡ silent a ++ (silent b ++ (silent c ++ l))
three-silences a b c n l sum =
    sym (ap (λ x. silent a ++ x) (two-silences b c (b + c) l refl)
    ∙ two-silences a (b + c) n l (sym sum))

pub asked-later : (late last i j : ℕ) (ps : List Poll)
    → asked late last (i + j) ps ≡ silent i ++ asked late last j ps
asked-later late last i j [] =
    let sum : i + j + last ≡ i + (j + last) = omega arith in
    ap (λ k. silent k) sum ∙ sym (silent-add i (j + last))
asked-later late last i j (answered request wait answer others rest ∷ ps) =
    sym (two-silences i j (i + j)
    (request ++ asked late last (poll_len late wait answer others rest) ps) refl)
asked-later late last i j (unanswered request wait ∷ ps) =
    sym (two-silences i j (i + j) (request ++ asked late last wait ps) refl)

pub replied-later : (late last i j : ℕ) (ps : List Poll)
    → replied late last (i + j) ps ≡ silent i ++ replied late last j ps
replied-later late last i j [] =
    let sum : i + j + last ≡ i + (j + last) = omega arith in
    ap (λ k. silent k) sum ∙ sym (silent-add i (j + last))
replied-later late last i j (answered request wait answer others rest ∷ ps) =
    let n : ℕ = length request + wait in
    let sum : i + (j + n) ≡ i + j + n = omega arith in
    sym (two-silences i (j + n) (i + j + n)
    (answer ++ said_on others (replied late last (late + (late + rest)) ps)) sum)
replied-later late last i j (unanswered request wait ∷ ps) =
    let n : ℕ = length request + wait in
    let sum : i + j + n ≡ i + (j + n) = omega arith in
    ap (λ k. replied late last k ps) sum ∙ replied-later late last i (j + n) ps

-- ---- all polls, by what holds of silence and of what both sides say

-- What is asked is heard `a` ticks later at a place, and what is replied `b`, than where requests are
-- heard: so there an answer begins w silent ticks after its request, and the next request k after it.
module _ (late : ℕ) (MayAsk MayReply : Spoken → Type 0) (a b : ℕ) where
  abbrev pub Follow : List Further → Type 0
  Follow [] = Unit {0}
  Follow (u ∷ us) = IsContiguous 4 u.frame × MayReply (Answerer u.gap) × Follow us

  abbrev pub Plan : List Poll → Type 0
  Plan [] = Unit {0}
  Plan (answered request wait answer others rest ∷ ps) =
      IsContiguous 4 request × IsContiguous 4 answer × Follow others
      × ((w : ℕ) × (w + a ≡ wait + b) × MayReply (Asker w))
      × ((k : ℕ) × (k + b ≡ late + (late + rest) + a) × MayAsk (Answerer k)) × Plan ps
  Plan (unanswered request wait ∷ ps) =
      IsContiguous 4 request × ((w : ℕ) × (w + a ≡ wait + b)) × MayAsk (Asker wait) × Plan ps

module _ (late : ℕ) (R : Spoken → List Tick → List Tick → Type 0) (MayAsk MayReply : Spoken → Type 0)
    (ends : (k : ℕ) (s : Spoken) → R s (silent k) (silent k))
    (quiet : (k : ℕ) (s : Spoken) (x y : List Tick) → R (quieter k s) x y
    → R s (silent k ++ x) (silent k ++ y))
    (asks : (body : List Tick) → IsContiguous 4 body → (s : Spoken) (x y : List Tick) → MayAsk s
    → R (Asker 0) x y → R s (body ++ x) (silent (length body) ++ y))
    (replies : (body : List Tick) → IsContiguous 4 body → (s : Spoken) (x y : List Tick) → MayReply s
    → R (Answerer 0) x y → R s (silent (length body) ++ x) (body ++ y))
    (e f a b : ℕ) (balanced : e + a ≡ f + b) where
  follow : (us : List Further) → Follow late MayAsk MayReply a b us → (x y : List Tick) → R (Answerer 0) x y
      → R (Answerer 0) (silent (further_len us) ++ x) (said_on us y)
  follow [] plan x y then = then
  follow (u ∷ us) plan x y then =
      let n : ℕ = length u.frame in
      let shape = three-silences u.gap n (further_len us) (further_len (u ∷ us)) x refl in
      let last : Answerer u.gap ≡ quieter u.gap (Answerer 0) = sym (after-answerer u.gap) in
      let may : MayReply (quieter u.gap (Answerer 0)) = subst MayReply last plan.1 in
      subst (λ l. R (Answerer 0) l (said_on (u ∷ us) y)) (sym shape)
      (quiet u.gap (Answerer 0) (silent n ++ (silent (further_len us) ++ x))
      (u.frame ++ said_on us y)
      (replies u.frame plan.0 (quieter u.gap (Answerer 0)) (silent (further_len us) ++ x)
      (said_on us y) may (follow us plan.2 x y then)))

  pub polls-run : (ps : List Poll) (i j : ℕ) (s : Spoken) → Plan late MayAsk MayReply a b ps → i + b ≡ j + a
      → MayAsk (quieter i s) → R s (asked late e i ps) (replied late f j ps)
  polls-run [] i j s plan same may =
      let n : i + e ≡ j + f = omega arith in
      subst (λ k. R s (silent (i + e)) (silent k)) n (ends (i + e) s)
  polls-run (answered request wait answer others rest ∷ ps) i j s plan same may =
      let r : ℕ = length request in
      let w : ℕ = plan.3.0 in
      let k : ℕ = plan.4.0 in
      let w_is : w + a ≡ wait + b = plan.3.1 in
      let k_is : k + b ≡ late + (late + rest) + a = plan.4.1 in
      let n : ℕ = length answer in
      let m : ℕ = further_len others in
      let x : List Tick = asked late e k ps in
      let y : List Tick = replied late f (late + (late + rest)) ps in
      let left_sum : poll_len late wait answer others rest ≡ w + (n + (m + k)) = omega arith in
      let left : asked late e (poll_len late wait answer others rest) ps
      ≡ silent w ++ (silent n ++ (silent m ++ x)) =
      ap (λ q. asked late e q ps) left_sum
      ∙ (asked-later late e w (n + (m + k)) ps
      ∙ ap (λ l. silent w ++ l) (asked-later late e n (m + k) ps
      ∙ ap (λ l. silent n ++ l) (asked-later late e m k ps))) in
      let right_sum : j + (r + wait) ≡ i + (r + w) = omega arith in
      let right = three-silences i r w (j + (r + wait)) (answer ++ said_on others y) right_sum in
      let again : MayAsk (quieter k (Answerer 0)) =
      subst MayAsk (sym (after-answerer k)) plan.4.2 in
      let then = polls-run ps k (late + (late + rest)) (Answerer 0) plan.5 k_is again in
      let reply : MayReply (quieter w (Asker 0)) = subst MayReply (sym (after-asker w)) plan.3.2 in
      let all = quiet i s (request ++ (silent w ++ (silent n ++ (silent m ++ x))))
      (silent r ++ (silent w ++ (answer ++ said_on others y)))
      (asks request plan.0 (quieter i s) (silent w ++ (silent n ++ (silent m ++ x)))
      (silent w ++ (answer ++ said_on others y)) may
      (quiet w (Asker 0) (silent n ++ (silent m ++ x)) (answer ++ said_on others y)
      (replies answer plan.1 (quieter w (Asker 0)) (silent m ++ x) (said_on others y) reply
      (follow others plan.2 x y then)))) in
      subst (λ l. R s (silent i ++ (request ++ l)) (silent (j + (r + wait)) ++ (answer ++ said_on others y)))
      (sym left)
      (subst (λ l. R s (silent i ++ (request ++ (silent w ++ (silent n ++ (silent m ++ x))))) l) (sym right)
      all)
  polls-run (unanswered request wait ∷ ps) i j s plan same may =
      let r : ℕ = length request in
      let w : ℕ = plan.1.0 in
      let w_is : w + a ≡ wait + b = plan.1.1 in
      let sum : j + (r + wait) ≡ i + (r + w) = omega arith in
      let right : replied late f (j + (r + wait)) ps ≡ silent i ++ (silent r ++ replied late f w ps) =
      ap (λ q. replied late f q ps) sum
      ∙ (replied-later late f i (r + w) ps ∙ ap (λ l. silent i ++ l) (replied-later late f r w ps)) in
      let again : MayAsk (quieter wait (Asker 0)) =
      subst MayAsk (sym (after-asker wait)) plan.2 in
      let then = polls-run ps wait w (Asker 0) plan.3 (sym w_is) again in
      subst (λ l. R s (silent i ++ (request ++ asked late e wait ps)) l) (sym right)
      (quiet i s (request ++ asked late e wait ps) (silent r ++ replied late f w ps)
      (asks request plan.0 (quieter i s) (asked late e wait ps) (replied late f w ps) may then))

-- ---- apart

pub none-apart : (k : ℕ) → AreApart (silent k) (silent k)
none-apart zero = tt
none-apart (suc k) = (tt, none-apart k)

pub silent-apart : (k : ℕ) (x y : List Tick) → AreApart x y → AreApart (silent k ++ x) (silent k ++ y)
silent-apart zero x y apart = apart
silent-apart (suc k) x y apart = (tt, silent-apart k x y apart)

one-alone : (t : Tick) → IsApart t Silent
one-alone Silent = tt
one-alone (Byte b) = tt

left-apart : (body x y : List Tick) → AreApart x y → AreApart (body ++ x) (silent (length body) ++ y)
left-apart [] x y apart = apart
left-apart (t ∷ body) x y apart = (one-alone t, left-apart body x y apart)

right-apart : (body x y : List Tick) → AreApart x y → AreApart (silent (length body) ++ x) (body ++ y)
right-apart [] x y apart = apart
right-apart (t ∷ body) x y apart = (tt, right-apart body x y apart)

-- ---- at both ends

module _ (rules : Rules) (p : Polling) where
  abbrev late : ℕ
  late = lateness p.ab p.late

  abbrev MayAsk : Spoken → Type 0
  MayAsk s = may_speak Asks p.waits_b s ≡ true

  abbrev MayReply : Spoken → Type 0
  MayReply s = may_speak Answers p.waits_a s ≡ true

  abbrev Any : Spoken → Type 0
  Any s = Unit {0}

  follow-all : (Ask Reply : Spoken → Type 0) (a b : ℕ)
      → ((g : ℕ) → g < p.waits_a.pause → Reply (Answerer g)) → (us : List Further)
      → FollowInTurn rules p us → Follow late Ask Reply a b us
  follow-all Ask Reply a b may [] turns = tt
  follow-all Ask Reply a b may (u ∷ us) turns =
      (turns.0.contiguous, may u.gap turns.2, follow-all Ask Reply a b may us turns.3)

  -- as the gate at the devices' end hears it
  abbrev Known : Spoken → Type 0
  Known s = IsKnown Asks p.waits_b s

  plan-b : (ps : List Poll) → TakeTurns rules p ps → Plan late MayAsk Known 0 p.lag ps
  plan-b [] turns = tt
  plan-b (answered request wait answer others rest ∷ ps) turns =
      let k : ℕ = late + (late + rest) - p.lag in
      let enough : p.waits_b.pause + p.lag ≤ late + (late + rest) = turns.5 in
      let sum : k + p.lag ≡ late + (late + rest) + 0 = omega arith in
      let long : p.waits_b.pause ≤ k = omega arith in
      let may : MayAsk (Answerer k) = grind arith in (
        turns.0.contiguous,
        turns.1.contiguous,
        follow-all MayAsk Known 0 p.lag (λ g few b. refl) others turns.2,
        (wait + p.lag, omega arith, λ b. refl),
        (k, sum, may),
        plan-b ps turns.6,
      )
  plan-b (unanswered request wait ∷ ps) turns =
      let long : p.waits_b.window ≤ wait = turns.1 in
      let may : MayAsk (Asker wait) = grind arith in
      (turns.0.contiguous, (wait + p.lag, omega arith), may, plan-b ps turns.4)

  -- as the gate at the master's end hears it
  plan-a : (ps : List Poll) → TakeTurns rules p ps → Plan late Any MayReply p.lag (late + late) ps
  plan-a [] turns = tt
  plan-a (answered request wait answer others rest ∷ ps) turns =
      let w : ℕ = late + (late + wait) - p.lag in
      let heard : p.lag + 4 ≤ late + (late + wait) = turns.3 in
      let waited : late + (late + wait) < p.waits_a.window + p.lag = turns.4 in
      let sum : w + p.lag ≡ wait + (late + late) = omega arith in
      let over : 4 ≤ w = omega arith in
      let soon : w < p.waits_a.window = omega arith in
      let may : MayReply (Asker w) = grind arith in (
        turns.0.contiguous,
        turns.1.contiguous,
        follow-all Any MayReply p.lag (late + late) (λ g few. grind arith) others turns.2,
        (w, sum, may),
        (rest + p.lag, omega arith, tt),
        plan-a ps turns.6,
      )
  plan-a (unanswered request wait ∷ ps) turns =
      let heard : p.lag ≤ late + (late + wait) = turns.3 in
      let sum : late + (late + wait) - p.lag + p.lag ≡ wait + (late + late) = omega arith in
      (turns.0.contiguous, (late + (late + wait) - p.lag, sum), tt, plan-a ps turns.4)

  -- as it is on the wires, at any place where what is replied isn't heard earlier
  plan-apart : (b : ℕ) → b ≤ late + late → (ps : List Poll) → TakeTurns rules p ps
      → Plan late Any Any 0 b ps
  plan-apart b le [] turns = tt
  plan-apart b le (answered request wait answer others rest ∷ ps) turns =
      let sum : late + (late + rest) - b + b ≡ late + (late + rest) + 0 = omega arith in (
        turns.0.contiguous,
        turns.1.contiguous,
        follow-all Any Any 0 b (λ g few. tt) others turns.2,
        (wait + b, omega arith, tt),
        (late + (late + rest) - b, sum, tt),
        plan-apart b le ps turns.6,
      )
  plan-apart b le (unanswered request wait ∷ ps) turns =
      (turns.0.contiguous, (wait + b, omega arith), tt, plan-apart b le ps turns.4)

  module _ (start e f : ℕ) (ps : List Poll) (turns : TakeTurns rules p ps) where
    pub turns-b : p.waits_b.window ≤ late + start → e ≡ f + p.lag
        → KnownTurn Asks p.waits_b (Nobody 0) (asked late e (late + start) ps)
        (replied late f (p.lag + (late + start)) ps)
    turns-b enough balanced =
        let n : ℕ = late + start in
        let may : MayAsk (Nobody (0 + n)) = grind arith in
        let begins : MayAsk (quieter n (Nobody 0)) = subst MayAsk (sym (quieter-nobody n 0)) may in
        polls-run late (λ s x y. KnownTurn Asks p.waits_b s x y) MayAsk Known
        (λ k s. all-silent Asks p.waits_b k s) (λ k s x y. both-silent Asks p.waits_b k s x y)
        (λ body c s x y. own-talks Asks p.waits_b (asks-on p.waits_b) body c s x y)
        (λ body c s x y known. others-talk Asks p.waits_b body c s x y known) e f 0 p.lag (omega arith) ps n
        (p.lag + n) (Nobody 0) (plan-b ps turns) (omega arith) begins

    pub turns-a : 4 ≤ p.waits_a.pause → e + p.lag ≡ f + (late + late)
        → KnownTurn Answers p.waits_a (Nobody 0) (replied late f (late + (late + start)) ps)
        (asked late e (p.lag + start) ps)
    turns-a wide balanced =
        polls-run late (λ s x y. KnownTurn Answers p.waits_a s y x) Any MayReply
        (λ k s. all-silent Answers p.waits_a k s) (λ k s x y. both-silent Answers p.waits_a k s y x)
        (λ body c s x y any. others-talk Answers p.waits_a body c s y x (λ b. refl))
        (λ body c s x y. own-talks Answers p.waits_a (answers-on p.waits_a wide) body c s y x) e f
        p.lag (late + late) balanced ps (p.lag + start) (late + (late + start)) (Nobody 0)
        (plan-a ps turns) (omega arith) tt

    pub apart-a : e ≡ f + (late + late)
        → AreApart (replied late f (late + (late + start)) ps) (asked late e start ps)
    apart-a balanced =
        polls-run late (λ s x y. AreApart y x) Any Any (λ k s. none-apart k)
        (λ k s x y. silent-apart k y x) (λ body c s x y any. right-apart body y x)
        (λ body c s x y any. left-apart body y x) e f 0 (late + late) (omega arith) ps start
        (late + (late + start)) (Nobody 0) (plan-apart (late + late) (omega arith) ps turns)
        (omega arith) tt

    pub apart-b : e ≡ f
        → AreApart (asked late e (late + start) ps) (replied late f (late + start) ps)
    apart-b balanced =
        polls-run late (λ s x y. AreApart x y) Any Any (λ k s. none-apart k)
        (λ k s x y. silent-apart k x y) (λ body c s x y any. left-apart body x y)
        (λ body c s x y any. right-apart body x y) e f 0 0 (omega arith) ps (late + start)
        (late + start) (Nobody 0) (plan-apart 0 (omega arith) ps turns) (omega arith) tt

-- ---- the ticks behind the last poll

said-longer : (us : List Further) (x y : List Tick) → said_on us x ++ y ≡ said_on us (x ++ y)
said-longer [] x y = refl
said-longer (u ∷ us) x y =
    append_assoc (silent u.gap) (u.frame ++ said_on us x) y
    ∙ ap (λ l. silent u.gap ++ l) (append_assoc u.frame (said_on us x) y
    ∙ ap (λ l. u.frame ++ l) (said-longer us x y))

pub asked-longer : (late m n : ℕ) (ps : List Poll)
    → asked late 0 n ps ++ silent m ≡ asked late m n ps
asked-longer late m n [] =
    let sum : n + 0 + m ≡ n + m = omega arith in
    silent-add (n + 0) m ∙ ap (λ k. silent k) sum
asked-longer late m n (answered request wait answer others rest ∷ ps) =
    let k : ℕ = poll_len late wait answer others rest in
    append_assoc (silent n) (request ++ asked late 0 k ps) (silent m)
    ∙ ap (λ l. silent n ++ l) (append_assoc request (asked late 0 k ps) (silent m)
    ∙ ap (λ l. request ++ l) (asked-longer late m k ps))
asked-longer late m n (unanswered request wait ∷ ps) =
    append_assoc (silent n) (request ++ asked late 0 wait ps) (silent m)
    ∙ ap (λ l. silent n ++ l) (append_assoc request (asked late 0 wait ps) (silent m)
    ∙ ap (λ l. request ++ l) (asked-longer late m wait ps))

pub replied-longer : (late m n : ℕ) (ps : List Poll)
    → replied late 0 n ps ++ silent m ≡ replied late m n ps
replied-longer late m n [] =
    let sum : n + 0 + m ≡ n + m = omega arith in
    silent-add (n + 0) m ∙ ap (λ k. silent k) sum
replied-longer late m n (answered request wait answer others rest ∷ ps) =
    let k : ℕ = n + (length request + wait) in
    let x : List Tick = replied late 0 (late + (late + rest)) ps in
    append_assoc (silent k) (answer ++ said_on others x) (silent m)
    ∙ ap (λ l. silent k ++ l) (append_assoc answer (said_on others x) (silent m)
    ∙ ap (λ l. answer ++ l) (said-longer others x (silent m)
    ∙ ap (λ l. said_on others l) (replied-longer late m (late + (late + rest)) ps)))
replied-longer late m n (unanswered request wait ∷ ps) =
    replied-longer late m (n + (length request + wait)) ps

-- The bursts of a line in two parts, of which all bursts of the first are closed, and what one more
-- tick does to the bursts of the second.
use Rattle.frame_ending.proofs.BurstSteps.{live-more, live-over}
use Rattle.frame_ending.proofs.{Coming.closed-or-runs_on, LastBurst.IsWithin}
use Rattle.frame_ending.proofs.LastBurst.{last_burst-within}
use Rattle.frame_ending.proofs.{LiveSome.live-some, Running.IsRunning, Running.byte-lives}
use Rattle.frame_ending.proofs.Running.{byte-over, byte-starts, divided-running}
use Rattle.frame_ending.proofs.Spread.{AreSpread, bursts-spread}
use Rattle.frame_ending.specs.Causal.{IsCausal}
use Rattle.frame_ending.specs.{Cuts.cut_of, HasCome.AreNoted, Laid.later}
use Rattle.frame_ending.specs.LiveBytes.{has_pause, live_bytes}
use Rattle.frame_ending.specs.{SoFar.last_burst, SoFar.last_of, Walk.Walker}
use Rattle.frame_ending.specs.declared.cut.Cut.TheVariants.{Start, Live, Extra}
use Rattle.line_rules.specs.{Rules.Rules, Rules.fills_room, RulesLaws.IsLawful}
use Rattle.station_boxes.specs.Late.{late, InParts, StartBefore}
use Rattle.std.proofs.Common.{◌≡◌, ◌∙◌, ◌||◌, ℕ, ◌+◌, ◌-◌, ◌<◌, ◌≤◌, nat_le, Bool, List, [], ◌∷◌}
use Rattle.std.proofs.Common.{◌++◌, length, refl, sym, ap, subst, arith, ⊎_elim, Some, None}
use Rattle.std.proofs.Common.{append_assoc, get_or, length-append}
use Rattle.std.proofs.lemmas.Bool.{cases_Bool, cases_lt, or_parts}
use Rattle.std.proofs.lemmas.List.{append-nil, map-append}
use Rattle.yasir_ticks.proofs.BurstLaws.{alone, with_last, extended, extended-nil, extended-near}
use Rattle.yasir_ticks.proofs.BurstLaws.{extended-far, extended-cons, extended-closed}
use Rattle.yasir_ticks.proofs.BurstLaws.{bursts_from-byte, bursts_from-silent, AreClosed-later}
use Rattle.yasir_ticks.specs.Bursts.{Burst, bursts, bursts_from, end_of, AreClosed}
use Rattle.yasir_ticks.specs.{Ticks.silent}
use Rattle.yasir_ticks.specs.declared.tick.Tick.{Tick, TheVariants.Silent, TheVariants.Byte}

-- ---- bursts, later

module _ (m k b : ℕ) where
  with_last-late : (d : Burst) → with_last (later m d) (m + k) b ≡ later m (with_last d k b)
  with_last-late d =
      let gap : m + k - (m + d.start + length d.body) ≡ k - (d.start + length d.body) =
      omega arith in
      ap (λ g. let x : Burst = record {
        start = m + d.start;
        body = d.body ++ (silent g ++ Byte b ∷ []);
      } in x) gap

  extended-late : (ds : List Burst) → extended 4 (m + k) b (late m ds) ≡ late m (extended 4 k b ds)
  extended-late [] = extended-nil 4 (m + k) b ∙ sym (ap (λ l. late m l) (extended-nil 4 k b))
  extended-late (d ∷ []) =
      ⊎_elim
      (λ near. extended-near 4 (m + k) b (later m d) (omega arith)
      ∙ (ap (λ x. x ∷ []) (with_last-late d)
      ∙ sym (ap (λ l. late m l) (extended-near 4 k b d near))))
      (λ far. extended-far 4 (m + k) b (later m d) (omega arith)
      ∙ sym (ap (λ l. late m l) (extended-far 4 k b d far)))
      (cases_lt k (end_of d + 4))
  extended-late (d ∷ e ∷ ds) =
      extended-cons 4 (m + k) b (later m d) (later m e) (late m ds)
      ∙ (ap (λ l. later m d ∷ l) (extended-late (e ∷ ds))
      ∙ sym (ap (λ l. late m l) (extended-cons 4 k b d e ds)))

extended-after : (i b : ℕ) (front : List Burst) (d : Burst) (ds : List Burst)
    → extended 4 i b (front ++ d ∷ ds) ≡ front ++ extended 4 i b (d ∷ ds)
extended-after i b [] d ds = refl
extended-after i b (x ∷ []) d ds = extended-cons 4 i b x d ds
extended-after i b (x ∷ y ∷ front) d ds =
    extended-cons 4 i b x y (front ++ d ∷ ds)
    ∙ ap (λ l. x ∷ l) (extended-after i b (y ∷ front) d ds)

-- a byte after closed bursts and later ones
extended-parts : (m k b : ℕ) (front ds : List Burst) → AreClosed 4 m front
    → extended 4 (m + k) b (front ++ late m ds) ≡ front ++ late m (extended 4 k b ds)
extended-parts m k b front [] closed =
    ap (λ l. extended 4 (m + k) b l) (append-nil front)
    ∙ (extended-closed 4 (m + k) b front (AreClosed-later 4 m (m + k) front (omega arith) closed)
    ∙ sym (ap (λ l. front ++ late m l) (extended-nil 4 k b)))
extended-parts m k b front (d ∷ ds) closed =
    extended-after (m + k) b front (later m d) (late m ds)
    ∙ ap (λ l. front ++ l) (extended-late m k b (d ∷ ds))

module _ (before since line : List Tick) (t : Tick) where
  in-parts : (u : Tick) → InParts before since line
      → bursts (line ++ u ∷ []) ≡ bursts before ++ late (length before) (bursts (since ++ u ∷ []))
  in-parts Silent parts =
      bursts_from-silent 4 0 line
      ∙ (parts.are
      ∙ sym (ap (λ l. bursts before ++ late (length before) l) (bursts_from-silent 4 0 since)))
  in-parts (Byte b) parts =
      let m : ℕ = length before in
      let k : ℕ = length since in
      let whole : length line ≡ m + k = parts.long in
      let at : 0 + length line ≡ m + k = omega arith in
      let here : 0 + length since ≡ k = omega arith in
      bursts_from-byte 4 0 (m + k) b line at
      ∙ (ap (λ l. extended 4 (m + k) b l) parts.are
      ∙ (extended-parts m k b (bursts before) (bursts since) parts.closed
      ∙ sym (ap (λ l. bursts before ++ late m l) (bursts_from-byte 4 0 k b since here))))

  -- A line in two parts goes on in its second part.
  pub parts-more : InParts before since line → InParts before (since ++ t ∷ []) (line ++ t ∷ [])
  parts-more parts =
      let a = length-append line (t ∷ []) in
      let c = length-append since (t ∷ []) in
      let here : length line ≡ length before + length since = parts.long in
      record { closed = parts.closed; long = omega arith; are = in-parts t parts }

pub no-bursts : bursts [] ≡ []
unfolding bursts_from
no-bursts = refl

-- A line whose bursts are all closed is the first of two parts.
pub parts-begin : (line : List Tick) → AreClosed 4 (length line) (bursts line)
    → InParts line [] line
parts-begin line closed = record {
  closed = closed;
  long = omega arith;
  are = sym (ap (λ l. bursts line ++ late (length line) l) no-bursts ∙ append-nil (bursts line));
}

-- ---- the first byte of a burst

last-is : (ds : List Burst) (d : Burst) → last_of (ds ++ d ∷ []) ≡ Some d
unfolding last_of
last-is [] d = refl
last-is (e ∷ []) d = refl
last-is (e ∷ f ∷ ds) d = last-is (f ∷ ds) d

module _ (rules : Rules) (lawful : IsLawful rules) (line : List Tick) (b : ℕ) where
  -- If a byte is the first of a burst, all bursts before it are closed.
  pub start-closed : cut_of rules line (Byte b) ≡ Start b → AreClosed 4 (length line) (bursts line)
  start-closed starts =
      ⊎_elim
      (λ closed. closed)
      (λ on. let running : IsRunning line (Some on.last) = (
        ap last_of on.is ∙ last-is on.front on.last,
        on.near,
      ) in
      let none : Some on.last ≡ None = byte-starts rules lawful line b (Some on.last) running starts in
      absurd cc)
      (closed-or-runs_on line)

  running-none : AreClosed 4 (length line) (bursts line) → IsRunning line None
  running-none closed = divided-running line (bursts line) None
      (record { is = sym (append-nil (bursts line)); are_closed = closed; is_running = tt })

  -- If a byte isn't the first of a burst, not all bursts before it are closed.
  pub live-open : cut_of rules line (Byte b) ≡ Live b → AreClosed 4 (length line) (bursts line) → ⊥
  live-open lives closed =
      let goes = byte-lives rules lawful line b None (running-none closed) lives in
      let never : None ≡ Some goes.burst = goes.is in cc

  pub extra-open : cut_of rules line (Byte b) ≡ Extra b → AreClosed 4 (length line) (bursts line)
      → ⊥
  extra-open extra closed =
      let goes = byte-over rules lawful line b None (running-none closed) extra in
      let never : None ≡ Some goes.burst = goes.is in cc

-- All closed bursts of a line are noted.
module _ {S N : Type 0} (w : Walker S N) (causal : IsCausal w) where
  noted-by : (s : S) (n m : ℕ) (ds : List Burst) → AreSpread 4 n ds → AreClosed 4 m ds
      → AreNoted w s m ds
  noted-by s n m [] spread closed = tt
  noted-by s n m (d ∷ ds) spread closed =
      let soon = causal.in_time s d spread.1 in
      let end : end_of d + 4 ≤ m = closed.0 in
      (omega arith, noted-by (w.next s d) (end_of d + 4) m ds spread.2 closed.1)

  pub closed-noted : (s : S) (line : List Tick) → AreClosed 4 (length line) (bursts line)
      → AreNoted w s (length line) (bursts line)
  closed-noted s line closed = noted-by s 0 (length line) (bursts line) (bursts-spread line) closed

-- ---- the first burst of the second part, and those after it

head-stays : (x : List ℕ) (b : ℕ) → 0 < length x → get_or (x ++ b ∷ []) 0 0 ≡ get_or x 0 0
head-stays [] b some = absurd (omega arith)
head-stays (c ∷ x) b some = refl

module _ (rules : Rules) (lawful : IsLawful rules) where
  -- A burst that goes on keeps its first live byte.
  name-stays : (k b : ℕ) (d : Burst) → IsWithin k d
      → get_or (live_bytes rules (with_last d k b)) 0 0 ≡ get_or (live_bytes rules d) 0 0
  name-stays k b d within =
      let over : Bool = (has_pause d.body || nat_le 2 (k - end_of d))
      || fills_room rules (live_bytes rules d) in
      ⊎_elim
      (λ full. ap (λ x. get_or x 0 0) (live-over k b d within rules lawful full))
      (λ open'. let parts = or_parts (has_pause d.body || nat_le 2 (k - end_of d))
      (fills_room rules (live_bytes rules d)) open' in
      ap (λ x. get_or x 0 0) (live-more k b d within rules lawful parts.0 parts.1)
      ∙ head-stays (live_bytes rules d) b (live-some rules lawful d within.contiguous))
      (cases_Bool over)

-- Holds if, after bursts whose last one has ended by tick k, tick k comes before tick n.
abbrev pub IsSoon : ℕ → List Burst → ℕ → Type 0
IsSoon k ds n = (e : Burst) → last_of ds ≡ Some e → end_of e + 4 ≤ k → k < n

soon-tail : (k n : ℕ) (d e : Burst) (ds : List Burst) → IsSoon k (d ∷ e ∷ ds) n → IsSoon k (e ∷ ds) n
unfolding last_of
soon-tail k n d e ds soon = soon

soon-one : (k n : ℕ) (d : Burst) → IsSoon k (d ∷ []) n → end_of d + 4 ≤ k → k < n
unfolding last_of
soon-one k n d soon far = soon d refl far

before-more : (n k b : ℕ) (d : Burst) (ds : List Burst) → IsSoon k (d ∷ ds) n
    → StartBefore n (d ∷ ds) → StartBefore n (extended 4 k b (d ∷ ds))
before-more n k b d [] soon before =
    let P : List Burst → Type 0 = λ l. StartBefore n l in
    ⊎_elim
    (λ near. subst P (sym (extended-near 4 k b d near)) (before.0, tt))
    (λ far. subst P (sym (extended-far 4 k b d far)) (before.0, (soon-one k n d soon far, tt)))
    (cases_lt k (end_of d + 4))
before-more n k b d (e ∷ ds) soon before =
    let P : List Burst → Type 0 = λ l. StartBefore n l in
    subst P (sym (extended-cons 4 k b d e ds))
    (before.0, before-more n k b e ds (soon-tail k n d e ds soon) before.1)

-- What one more byte makes of these bursts: the first still has its first live byte, and if others
-- came after it, it is as it was.
pub record LeadsOn (rules : Rules) (k : ℕ) (d : Burst) (ds more : List Burst) : Type 0 where
  pub first : Burst
  pub others : List Burst
  pub is : more ≡ first ∷ others
  pub named : get_or (live_bytes rules first) 0 0 ≡ get_or (live_bytes rules d) 0 0
  pub busy : (n : Burst → ℕ) → StartBefore (n d) ds → IsSoon k (d ∷ ds) (n d)
      → StartBefore (n first) others

module _ (rules : Rules) (lawful : IsLawful rules) (since : List Tick) (b : ℕ) where
  abbrev at : ℕ
  at = length since

  single : (d : Burst) → bursts since ≡ d ∷ [] → last_burst since ≡ Some d
  unfolding last_of
  single d is = ap last_of is

  leads-byte : (d : Burst) (ds : List Burst) → bursts since ≡ d ∷ ds
      → LeadsOn rules at d ds (extended 4 at b (d ∷ ds))
  leads-byte d [] is =
      ⊎_elim
      (λ near.
      record {
        first = with_last d at b;
        others = [];
        is = extended-near 4 at b d near;
        named = name-stays rules lawful at b d (last_burst-within since d (single d is));
        busy = λ n before soon. tt;
      })
      (λ far.
      record {
        first = d;
        others = alone at b ∷ [];
        is = extended-far 4 at b d far;
        named = refl;
        busy = λ n before soon. (soon-one at (n d) d soon far, tt);
      })
      (cases_lt at (end_of d + 4))
  leads-byte d (e ∷ ds) is =
      record {
        first = d;
        others = extended 4 at b (e ∷ ds);
        is = extended-cons 4 at b d e ds;
        named = refl;
        busy = λ n before soon. before-more (n d) at b e ds (soon-tail at (n d) d e ds soon) before;
      }

  same-bursts : (d : Burst) (ds more less : List Burst) → more ≡ less
      → LeadsOn rules at d ds less → LeadsOn rules at d ds more
  same-bursts d ds more less same on = record {
    first = on.first;
    others = on.others;
    is = same ∙ on.is;
    named = on.named;
    busy = on.busy;
  }

-- What one more tick makes of the bursts of the second part.
pub leads-on : (rules : Rules) → IsLawful rules → (since : List Tick) (t : Tick) (d : Burst)
    (ds : List Burst) → bursts since ≡ d ∷ ds
    → LeadsOn rules (length since) d ds (bursts (since ++ t ∷ []))
leads-on rules lawful since Silent d ds is = record {
  first = d;
  others = ds;
  is = bursts_from-silent 4 0 since ∙ is;
  named = refl;
  busy = λ n before soon. before;
}
leads-on rules lawful since (Byte b) d ds is =
    let here : 0 + length since ≡ length since = omega arith in
    same-bursts rules lawful since b d ds (bursts (since ++ Byte b ∷ []))
    (extended 4 (length since) b (d ∷ ds))
    (bursts_from-byte 4 0 (length since) b since here
    ∙ ap (λ l. extended 4 (length since) b l) is)
    (leads-byte rules lawful since b d ds is)

closed-late : (m k : ℕ) (ds : List Burst) → AreClosed 4 k ds → AreClosed 4 (m + k) (late m ds)
closed-late m k [] closed = tt
closed-late m k (d ∷ ds) closed =
    let end : end_of d + 4 ≤ k = closed.0 in (omega arith, closed-late m k ds closed.1)

closed-append : (m : ℕ) (a b : List Burst) → AreClosed 4 m a → AreClosed 4 m b
    → AreClosed 4 m (a ++ b)
closed-append m [] b first second = second
closed-append m (d ∷ a) b first second = (first.0, closed-append m a b first.1 second)

-- If all bursts of the second part are closed, all bursts of the line are.
pub parts-closed : (before since line : List Tick) → InParts before since line
    → AreClosed 4 (length since) (bursts since) → AreClosed 4 (length line) (bursts line)
parts-closed before since line parts closed =
    let m : ℕ = length before in
    let k : ℕ = length since in
    let P : List Burst → Type 0 = λ l. AreClosed 4 (m + k) l in
    let Q : ℕ → Type 0 = λ i. AreClosed 4 i (bursts line) in
    subst Q (sym parts.long) (subst P (sym parts.are)
    (closed-append (m + k) (bursts before) (late m (bursts since))
    (AreClosed-later 4 m (m + k) (bursts before) (omega arith) parts.closed)
    (closed-late m k (bursts since) closed)))

-- If not all bursts of a line are closed, the last one may go on.
pub open-soon : (since : List Tick) (n : ℕ)
    → (AreClosed 4 (length since) (bursts since) → ⊥) → IsSoon (length since) (bursts since) n
open-soon since n open' e last ended =
    ⊎_elim
    (λ closed. absurd (open' closed))
    (λ on. let same : Some on.last ≡ Some e =
    sym (ap last_of on.is ∙ last-is on.front on.last) ∙ last in
    let its : on.last ≡ e = cc in
    let P : Burst → Type 0 = λ d. length since < end_of d + 4 in
    let near : length since < end_of e + 4 = subst P its on.near in
    absurd (omega arith))
    (closed-or-runs_on since)

closed-back : (m : ℕ) (a b : List Burst) → AreClosed 4 m (a ++ b) → AreClosed 4 m b
closed-back m [] b closed = closed
closed-back m (d ∷ a) b closed = closed-back m a b closed.1

closed-sooner : (m k : ℕ) (ds : List Burst) → AreClosed 4 (m + k) (late m ds) → AreClosed 4 k ds
closed-sooner m k [] closed = tt
closed-sooner m k (d ∷ ds) closed =
    let end : m + d.start + length d.body + 4 ≤ m + k = closed.0 in
    (omega arith, closed-sooner m k ds closed.1)

-- If all bursts of the line are closed, all bursts of the second part are.
pub closed-part : (before since line : List Tick) → InParts before since line
    → AreClosed 4 (length line) (bursts line) → AreClosed 4 (length since) (bursts since)
closed-part before since line parts closed =
    let m : ℕ = length before in
    let k : ℕ = length since in
    let P : List Burst → Type 0 = λ l. AreClosed 4 (m + k) l in
    let Q : ℕ → Type 0 = λ i. AreClosed 4 i (bursts line) in
    closed-sooner m k (bursts since) (closed-back (m + k) (bursts before) (late m (bursts since))
    (subst P parts.are (subst Q parts.long closed)))

-- The last burst of the line is that of the second part, if it has one.
pub last-part : (before since line : List Tick) → InParts before since line
    → (front : List Burst) (d : Burst) → bursts since ≡ front ++ d ∷ []
    → last_burst line ≡ Some (later (length before) d)
last-part before since line parts front d is =
    let m : ℕ = length before in
    ap last_of (parts.are ∙ ap (λ l. bursts before ++ late m l) is)
    ∙ (ap (λ l. last_of (bursts before ++ l)) (map-append (λ e. later m e) front (d ∷ []))
    ∙ (ap last_of (sym (append_assoc (bursts before) (late m front) (later m d ∷ [])))
    ∙ last-is (bursts before ++ late m front) (later m d)))

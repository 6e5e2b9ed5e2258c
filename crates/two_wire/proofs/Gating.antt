-- What a gate lets through of a line is some of its bursts, whole, and nothing else.
use Rattle.frame_ending.proofs.LaidBursts.{bursts-laid, laid-later}
use Rattle.frame_ending.proofs.Spread.{AreSpread, EndBy, bursts_from-spread, bursts_from-end}
use Rattle.frame_ending.specs.{Laid.laid, Laid.later, Laid.tick_at}
use Rattle.receiver_laws.proofs.Settled.{laid-longer, last_end, EndBy-later, EndBy-last}
use Rattle.receiver_laws.proofs.Parting.{silent-add}
use Rattle.receiver_laws.specs.Accounted.{IsSubsequence, IsSubsequence.none, IsSubsequence.skip}
use Rattle.receiver_laws.specs.Accounted.{IsSubsequence.keep}
use Rattle.std.proofs.Common.{◌≡◌, ◌∙◌, ℕ, zero, suc, ◌+◌, ◌<◌, ◌≤◌, Bool, true, false}
use Rattle.std.proofs.Common.{List, [], ◌∷◌, ◌++◌, length, map, take, refl, sym, ap}
use Rattle.std.proofs.Common.{subst, arith, ⊎_elim, append_assoc, length-append}
use Rattle.std.proofs.lemmas.Bool.{cases_Bool, cond-false, lt-leb}
use Rattle.std.proofs.lemmas.List.{length-replicate, append-nil, take_at}
use Rattle.std.proofs.lemmas.List.FromFn.{length-map-range_with_len}
use Rattle.yasir_ticks.proofs.BurstsOfLaws.{bursts_from-are, bursts_from-only}
use Rattle.yasir_ticks.specs.{Bursts.Burst, Bursts.bursts_from, Bursts.end_of, Ticks.silent}
use Rattle.yasir_ticks.specs.BurstsOf.{IsContiguous, one, more, StartsFrom, AreBursts}
use Rattle.yasir_ticks.specs.declared.tick.Tick.{Tick, TheVariants.Silent, TheVariants.Byte}
use Rattle.two_wire.specs.declared.gate.Waits.{Waits}
use Rattle.two_wire.specs.declared.gate.Side.{Side}
use Rattle.two_wire.specs.Gate.{GateState, lets, let_through, gate_after, gated}
use Rattle.two_wire.specs.Wires.{on_wires}
use Rattle.two_wire.proofs.Giving.{some-spread}

module _ (side : Side) (waits : Waits) where
  abbrev gives : GateState → List Tick → List Tick → List Tick
  gives g ticks others = gated side waits g ticks others

  -- ---- silence

  -- Silence leaves as silence, and then the gate knows this.
  record Passes (g : GateState) (k : ℕ) (x others : List Tick) : Type 0 where
    then_at : GateState
    quiet_is : then_at.quiet ≡ g.quiet + k
    open_is : then_at.open_now ≡ g.open_now
    behind : List Tick
    long : length behind + k ≡ length others
    is : gives g (silent k ++ x) others ≡ silent k ++ gives then_at x behind

  passes : (g : GateState) (k : ℕ) (x others : List Tick) → k ≤ length others → Passes g k x others
  passes g zero x others fits = record {
    then_at = g;
    quiet_is = omega arith;
    open_is = refl;
    behind = others;
    long = omega arith;
    is = refl;
  }
  passes g (suc k) x [] fits = absurd (omega arith)
  passes g (suc k) x (other ∷ others) fits =
      let h : GateState = gate_after side waits g Silent other in
      let rest = passes h k x others (omega arith) in
      let quiet = rest.quiet_is in
      let long = rest.long in
      record {
        then_at = rest.then_at;
        quiet_is = omega arith;
        open_is = rest.open_is;
        behind = rest.behind;
        long = omega arith;
        is = ap (λ l. Silent ∷ l) rest.is;
      }

  -- ---- a burst

  abbrev shown : Bool → List Tick → List Tick
  shown true body = body
  shown false body = silent (length body)

  shown-byte : (w : Bool) (b : ℕ) → shown w (Byte b ∷ []) ≡ let_through (Byte b) w ∷ []
  shown-byte true b = refl
  shown-byte false b = refl

  shown-more : (w : Bool) (b gap : ℕ) (x : List Tick)
      → shown w (Byte b ∷ (silent gap ++ x))
      ≡ let_through (Byte b) w ∷ (silent gap ++ shown w x)
  shown-more true b gap x = refl
  shown-more false b gap x =
      let long = length-append (silent gap) x in
      let quiet = length-replicate gap Silent in
      let sum : length (silent gap ++ x) ≡ gap + length x = omega arith in
      ap (λ l. Silent ∷ l) (ap (λ n. silent n) sum ∙ sym (silent-add gap (length x)))

  -- A burst leaves whole, or as silence, by what the gate makes of its first byte.
  record Shows (g : GateState) (w : Bool) (body x others : List Tick) : Type 0 where
    then_at : GateState
    quiet_is : then_at.quiet ≡ 0
    behind : List Tick
    long : length behind + length body ≡ length others
    is : gives g (body ++ x) others ≡ shown w body ++ gives then_at x behind

  lets-on : (g : GateState) (w : Bool) → g.quiet < 2 → g.open_now ≡ w → lets side waits g ≡ w
  lets-on g w few is =
      cond-false _ _ _ (lt-leb 2 g.quiet few) ∙ is

  shows : (g : GateState) (w : Bool) (body x others : List Tick) → IsContiguous 2 body
      → lets side waits g ≡ w → length body ≤ length others → Shows g w body x others
  shows g w body x [] (one b) lets_is fits = absurd (omega arith)
  shows g w body x (other ∷ others) (one b) lets_is fits =
      let h : GateState = gate_after side waits g (Byte b) other in
      record {
        then_at = h;
        quiet_is = refl;
        behind = others;
        long = omega arith;
        is = ap (λ v. let_through (Byte b) v ∷ gives h x others) lets_is
            ∙ ap (λ l. l ++ gives h x others) (sym (shown-byte w b));
      }
  shows g w body x [] (more b gap rest few contiguous) lets_is fits = absurd (omega arith)
  shows g w body x (other ∷ others) (more b gap rest few contiguous) lets_is fits =
      let h : GateState = gate_after side waits g (Byte b) other in
      let long = length-append (silent gap) rest in
      let quiet = length-replicate gap Silent in
      let pause = passes h gap (rest ++ x) others (omega arith) in
      let k : GateState = pause.then_at in
      let gone = pause.long in
      let soon = pause.quiet_is in
      let on : lets side waits k ≡ w =
      lets-on k w (omega arith) (pause.open_is ∙ lets_is) in
      let next = shows k w rest x pause.behind contiguous on (omega arith) in
      let left = next.long in
      record {
        then_at = next.then_at;
        quiet_is = next.quiet_is;
        behind = next.behind;
        long = omega arith;
        is = ap (λ v. let_through (Byte b) v ∷ gives h ((silent gap ++ rest) ++ x) others) lets_is
            ∙ (ap (λ l. let_through (Byte b) w ∷ gives h l others)
            (append_assoc (silent gap) rest x)
            ∙ (ap (λ l. let_through (Byte b) w ∷ l) (pause.is
            ∙ (ap (λ l. silent gap ++ l) next.is
            ∙ sym (append_assoc (silent gap) (shown w rest) (gives next.then_at x next.behind))))
            ∙ ap (λ l. l ++ gives next.then_at x next.behind) (sym (shown-more w b gap rest))));
      }

  -- ---- a line

  dark-before : (n k : ℕ) (l : List Tick) (ds : List Burst) → AreBursts 2 (n + k) l ds
      → AreBursts 2 n (silent k ++ l) ds
  dark-before n k l [] are =
      let long = length-append (silent k) l in
      let quiet = length-replicate k Silent in
      let sum : k + length l ≡ length (silent k ++ l) = omega arith in
      ap (λ x. silent k ++ x) are ∙ (silent-add k (length l) ∙ ap (λ i. silent i) sum)
  dark-before n k l (d ∷ ds) are =
      let start : d.start ≡ n + k + are.0 = are.3 in (
        k + are.0,
        are.1,
        ap (λ x. silent k ++ x) are.2
            ∙ (sym (append_assoc (silent k) (silent are.0) (d.body ++ are.1))
            ∙ ap (λ x. x ++ (d.body ++ are.1)) (silent-add k are.0)),
        omega arith,
        are.4,
        are.5,
        are.6,
      )

  starts-of : (n : ℕ) (ds : List Burst) → AreSpread 2 n ds → StartsFrom n ds
  starts-of n [] spread = tt
  starts-of n (d ∷ ds) spread = spread.0

  spread-of : (n k : ℕ) (l : List Tick) (ds : List Burst) → AreBursts 2 n l ds → StartsFrom k ds
      → AreSpread 2 k ds
  spread-of n k l [] are starts = tt
  spread-of n k l (d ∷ ds) are starts =
      (starts, are.4, spread-of (end_of d) (end_of d + 2) are.1 ds are.6 are.5)

  some-starts : (n k : ℕ) (l : List Tick) (xs ds : List Burst) → IsSubsequence xs ds
      → AreBursts 2 n l ds → StartsFrom k ds → StartsFrom k xs
  some-starts n k l xs ds is are starts =
      starts-of k xs (some-spread 2 k is (spread-of n k l ds are starts))

  -- Of a line a gate gives these bursts.
  pub record GivesBursts (g : GateState) (n : ℕ) (line others : List Tick) (ds : List Burst) :
      Type 0 where
    pub given : List Burst
    pub among : IsSubsequence given ds
    pub are : AreBursts 2 n (gives g line others) given

  -- Holds if the first of these bursts comes late enough after what the gate last let out.
  abbrev IsReady : ℕ → ℕ → List Burst → Type 0
  IsReady quiet n [] = Unit {0}
  IsReady quiet n (d ∷ ds) = n + 2 ≤ d.start + quiet

  ready-from : (n : ℕ) (ds : List Burst) (quiet : ℕ) → quiet ≡ 0 → StartsFrom (n + 2) ds
      → IsReady quiet n ds
  ready-from n [] quiet quiet_is starts = tt
  ready-from n (d ∷ ds) quiet quiet_is starts = omega arith

  gives-bursts : (g : GateState) (n : ℕ) (line others : List Tick) (ds : List Burst)
      → length others ≡ length line → AreBursts 2 n line ds → IsReady g.quiet n ds
      → GivesBursts g n line others ds
  gives-bursts g n line others [] same are ready =
      let k : ℕ = length line in
      let wait = passes g k [] others (omega arith) in
      let all : gives g line others ≡ silent k =
      ap (λ l. gives g l others) (are ∙ sym (append-nil (silent k)))
      ∙ (wait.is ∙ append-nil (silent k)) in
      let quiet = length-replicate k Silent in
      let long : k ≡ length (gives g line others) = sym (ap length all ∙ quiet) in
      record { given = []; among = none; are = all ∙ ap (λ i. silent i) long }
  gives-bursts g n line others (d ∷ ds) same are ready =
      let gap : ℕ = are.0 in
      let rest : List Tick = are.1 in
      let start : d.start ≡ n + gap = are.3 in
      let all = ap length are.2 in
      let sum = length-append (silent gap) (d.body ++ rest) in
      let more_sum = length-append d.body rest in
      let quiet = length-replicate gap Silent in
      let wait = passes g gap (d.body ++ rest) others (omega arith) in
      let h : GateState = wait.then_at in
      let soon = wait.quiet_is in
      let gone = wait.long in
      let show = shows h (lets side waits h) d.body rest wait.behind are.4 refl (omega arith) in
      let left = show.long in
      let next = gives-bursts show.then_at (end_of d) rest show.behind ds (omega arith) are.6
      (ready-from (end_of d) ds show.then_at.quiet show.quiet_is are.5) in
      let whole : gives g line others
      ≡ silent gap ++ (shown (lets side waits h) d.body ++ gives show.then_at rest show.behind) =
      ap (λ l. gives g l others) are.2 ∙ (wait.is ∙ ap (λ l. silent gap ++ l) show.is) in
      ⊎_elim
      (λ yes.
      let out : gives g line others
      ≡ silent gap ++ (d.body ++ gives show.then_at rest show.behind) =
      whole ∙ ap (λ v. silent gap ++ (shown v d.body ++ gives show.then_at rest show.behind)) yes in
      record {
        given = d ∷ next.given;
        among = keep next.among;
        are = (
          gap,
          gives show.then_at rest show.behind,
          out,
          start,
          are.4,
          some-starts (end_of d) (end_of d + 2) rest next.given ds next.among are.6 are.5,
          next.are,
        );
      })
      (λ no.
      let out : gives g line others
      ≡ silent gap ++ (silent (length d.body) ++ gives show.then_at rest show.behind) =
      whole ∙ ap (λ v. silent gap ++ (shown v d.body ++ gives show.then_at rest show.behind)) no in
      let end : end_of d ≡ n + gap + length d.body = omega arith in
      let from : AreBursts 2 (n + gap) (silent (length d.body) ++ gives show.then_at rest show.behind)
      next.given =
      dark-before (n + gap) (length d.body) (gives show.then_at rest show.behind) next.given
      (subst (λ i. AreBursts 2 i (gives show.then_at rest show.behind) next.given) end next.are) in
      record {
        given = next.given;
        among = skip next.among;
        are = subst (λ l. AreBursts 2 n l next.given) (sym out)
            (dark-before n gap (silent (length d.body) ++ gives show.then_at rest show.behind)
            next.given from);
      })
      (cases_Bool (lets side waits h))

  -- ---- a line that breaks off

  gives-front : (g : GateState) (x y others behind : List Tick) → length others ≡ length x
      → (h : GateState) × (gives g (x ++ y) (others ++ behind) ≡ gives g x others ++ gives h y behind)
  gives-front g [] y [] behind same = (g, refl)
  gives-front g [] y (other ∷ others) behind same = absurd (omega arith)
  gives-front g (t ∷ x) y [] behind same = absurd (omega arith)
  gives-front g (t ∷ x) y (other ∷ others) behind same =
      let rest = gives-front (gate_after side waits g t other) x y others behind (omega arith) in
      (rest.0, ap (λ l. let_through t (lets side waits g) ∷ l) rest.1)

  pub gives-long : (g : GateState) (x others : List Tick) → length others ≡ length x
      → length (gives g x others) ≡ length x
  gives-long g [] [] same = refl
  gives-long g [] (other ∷ others) same = absurd (omega arith)
  gives-long g (t ∷ x) [] same = absurd (omega arith)
  gives-long g (t ∷ x) (other ∷ others) same =
      let rest = gives-long (gate_after side waits g t other) x others (omega arith) in omega arith

-- ---- lines with the same bursts

same-line : (cut n : ℕ) (x y : List Tick) (ds : List Burst) → length x ≡ length y
    → AreBursts cut n x ds → AreBursts cut n y ds → x ≡ y
same-line cut n x y [] same left right = left ∙ (ap (λ i. silent i) same ∙ sym right)
same-line cut n x y (d ∷ ds) same left right =
    let start : d.start ≡ n + left.0 = left.3 in
    let begin : d.start ≡ n + right.0 = right.3 in
    let gaps : left.0 ≡ right.0 = omega arith in
    let long = ap length left.2 in
    let long_too = ap length right.2 in
    let a = length-append (silent left.0) (d.body ++ left.1) in
    let b = length-append (silent right.0) (d.body ++ right.1) in
    let c = length-append d.body left.1 in
    let e = length-append d.body right.1 in
    let p = length-replicate left.0 Silent in
    let q = length-replicate right.0 Silent in
    let rests : length left.1 ≡ length right.1 = omega arith in
    left.2
    ∙ (ap (λ i. silent i ++ (d.body ++ left.1)) gaps
    ∙ (ap (λ l. silent right.0 ++ (d.body ++ l))
    (same-line cut (end_of d) left.1 right.1 ds rests left.6 right.6)
    ∙ sym right.2))

pub laid-bursts : (cut : ℕ) (line : List Tick) (ds : List Burst) → AreBursts cut 0 line ds
    → line ≡ laid (length line) ds
laid-bursts cut line ds are =
    let m : ℕ = length line in
    let only : bursts_from cut 0 line ≡ ds = bursts_from-only cut 0 line ds are in
    let spread : AreSpread cut 0 ds = subst (λ l. AreSpread cut 0 l) only (bursts_from-spread cut 0 line) in
    let ends : EndBy m ds = subst (λ l. EndBy m l) only (bursts_from-end cut 0 m line (omega arith)) in
    let again : AreBursts cut 0 (laid m ds) ds =
    subst (λ l. AreBursts cut 0 (laid m ds) l) (bursts-laid cut m ds spread ends)
    (bursts_from-are cut 0 (laid m ds)) in
    let long : length (laid m ds) ≡ m = length-map-range_with_len (λ i. tick_at ds i) 0 m in
    same-line cut 0 line (laid m ds) ds (sym long) are again

-- ---- what a gate gives of bursts that are laid on a line

pub record GivesLaid (side : Side) (waits : Waits) (g : GateState) (m : ℕ) (others : List Tick)
    (ds : List Burst) : Type 0 where
  pub given : List Burst
  pub among : IsSubsequence given ds
  pub is : gated side waits g (laid m ds) others ≡ laid m given

pub gives-laid : (side : Side) (waits : Waits) (g : GateState) (m : ℕ) (others : List Tick)
    (ds : List Burst) → 2 ≤ g.quiet → length others ≡ m → AreSpread 2 0 ds
    → GivesLaid side waits g m others ds
gives-laid side waits g m others ds rested same spread =
    let n : ℕ = m + last_end ds in
    let longer = laid-longer ds m (last_end ds) n refl in
    let ended : last_end ds ≤ n = omega arith in
    let long : length (laid m ds) ≡ m = length-map-range_with_len (λ i. tick_at ds i) 0 m in
    let whole : length (laid n ds) ≡ n = length-map-range_with_len (λ i. tick_at ds i) 0 n in
    let are : AreBursts 2 0 (laid n ds) ds =
    subst (λ l. AreBursts 2 0 (laid n ds) l)
    (bursts-laid 2 n ds spread (EndBy-later (last_end ds) n ds ended (EndBy-last ds)))
    (bursts_from-are 2 0 (laid n ds)) in
    let behind : List Tick = silent (last_end ds) in
    let quiet = length-replicate (last_end ds) Silent in
    let all = length-append others behind in
    let gives_all = gives-bursts side waits g 0 (laid n ds) (others ++ behind) ds (omega arith) are
    (ready g.quiet rested ds spread) in
    let out : List Tick = gated side waits g (laid n ds) (others ++ behind) in
    let out_long : length out ≡ n =
    gives-long side waits g (laid n ds) (others ++ behind) (omega arith) ∙ whole in
    let shape : out ≡ laid n gives_all.given =
    laid-bursts 2 out gives_all.given gives_all.are ∙ ap (λ i. laid i gives_all.given) out_long in
    let front = gives-front side waits g (laid m ds) longer.0 others behind (omega arith) in
    let parts : out ≡ gated side waits g (laid m ds) others
    ++ gated side waits front.0 longer.0 behind =
    ap (λ l. gated side waits g l (others ++ behind)) longer.1 ∙ front.1 in
    let front_long : length (gated side waits g (laid m ds) others) ≡ m =
    gives-long side waits g (laid m ds) others (omega arith) ∙ long in
    let less = laid-longer gives_all.given m (last_end ds) n refl in
    let given_long : length (laid m gives_all.given) ≡ m =
    length-map-range_with_len (λ i. tick_at gives_all.given i) 0 m in
    record {
      given = gives_all.given;
      among = gives_all.among;
      is = sym (take_at (gated side waits g (laid m ds) others)
          (gated side waits front.0 longer.0 behind) m front_long)
          ∙ (ap (take m) (sym parts ∙ (shape ∙ less.1))
          ∙ take_at (laid m gives_all.given) less.0 m given_long);
    }
  where
    ready : (quiet : ℕ) → 2 ≤ quiet → (es : List Burst) → AreSpread 2 0 es → IsReady side waits quiet 0 es
    ready quiet rested [] spread = tt
    ready quiet rested (d ∷ es) spread = omega arith

-- ---- bursts that leave later

pub on_wires-laid : (late m : ℕ) (ds : List Burst)
    → on_wires late (laid m ds) ≡ laid m (map (later late) ds)
on_wires-laid late m ds =
    let long : length (laid m ds) ≡ m = length-map-range_with_len (λ i. tick_at ds i) 0 m in
    let xs : List Burst = map (later late) ds in
    let sum : m + late ≡ late + m = omega arith in
    let longer = laid-longer xs m late (late + m) sum in
    let laid_long : length (laid m xs) ≡ m = length-map-range_with_len (λ i. tick_at xs i) 0 m in
    ap (λ i. take i (silent late ++ laid m ds)) long
    ∙ (ap (take m) (sym (laid-later late m ds) ∙ longer.1)
    ∙ take_at (laid m xs) longer.0 m laid_long)

-- Some of the later bursts are some of the bursts, later.
pub some-later : (late : ℕ) (xs ds : List Burst) → IsSubsequence xs (map (later late) ds)
    → (ys : List Burst) × IsSubsequence ys ds × (xs ≡ map (later late) ys)
some-later late xs [] none = ([], none, refl)
some-later late xs (d ∷ ds) (skip is) =
    let rest = some-later late xs ds is in (rest.0, skip rest.1, rest.2)
some-later late (x ∷ xs) (d ∷ ds) (keep is) =
    let rest = some-later late xs ds is in
    (d ∷ rest.0, keep rest.1, ap (λ l. later late d ∷ l) rest.2)

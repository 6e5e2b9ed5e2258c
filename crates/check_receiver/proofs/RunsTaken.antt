-- The receiver after a run of ticks.
use Rattle.{frame_ending.specs.Answered.answered, check_receiver.proofs.Lending.ring-whole}
use Rattle.check_receiver.proofs.{LiveRuns.LiveRun, LiveRuns.live-run, Machine.waiting-none}
use Rattle.check_receiver.proofs.{Machine.waiting-some, OpenBursts.timely, OpenBursts.open-walks}
use Rattle.check_receiver.proofs.{PauseRuns.pause-run, RestRuns.idle-run, RestRuns.flow-run}
use Rattle.check_receiver.proofs.{RunTicks.RunsTo, RunTicks.front-answered, TrailerRuns.trailer-run}
use Rattle.check_receiver.specs.{Arrivals.bytes_come, Runs.CheckerHasTakenRun, Runs.BeginNone}
use Rattle.check_receiver.specs.{Runs.CheckerIsFront, Runs.KeepsHeader, Stands.MacHolds, Stands.CheckerStandsAt}
use Rattle.check_receiver.proofs.Settled.{more-left, open-left}
use Rattle.check_receiver.specs.Phases.{is_open, passes_in, LeftIn}
use Rattle.check_receiver.specs.declared.phase.Phase.{Phase, TheVariants.Idle}
use Rattle.check_receiver.specs.declared.{arriving.Arriving.Arriving, checker.Checker.Checker}
use Rattle.yasir_ticks.specs.DelayRing.{ring_ticks, AreAlike}
use Rattle.yasir_ticks.specs.declared.delay_ring.DelayRing.{DelayRing}
use Rattle.frame_ending.specs.{Cuts.cuts_after, LiveBytes.live_bytes, SoFar.live_bytes_in}
use Rattle.frame_ending.specs.{SoFar.live_bytes_so_far, Stands.CutStandsFor}
use Rattle.frame_ending.specs.declared.burst_cut.BurstCut.{BurstCut}
use Rattle.frame_ending.specs.declared.cut.Cut.TheVariants.{Live, Extra}
use Rattle.link_format.specs.declared.tag.Mac.{Ghosts as Mac}
use Rattle.line_rules.specs.Rules.{Rules, head_of}
use Rattle.line_rules.specs.declared.head.Head.TheVariants.{Good, Short}
use Rattle.line_rules.specs.declared.line_rules.LineRules.{Ghosts as LineRules}
use Rattle.link_format.specs.{Profile.Profile, Profile.profile_of, Profile.delay, Setup.Setup}
use Rattle.link_box.proofs.{Judging.head-short, Opened.IsOpen}
use Rattle.link_box.proofs.Opened.{last-of, may-of, long-of, unowed-of, bare-of, trailer-long}
use Rattle.link_box.proofs.{Opened.nothing-after, Settling.after-long}
use Rattle.link_box.specs.{Holding.HasWalked, Holding.trailer_so_far, Timely.IsTimely}
use Rattle.link_box.specs.Verdicts.{CheckState, after_live}
use Rattle.sequence_journal.specs.declared.numbers.TheConstants.{LIMIT}
use Rattle.line_rules.{proofs.Standing.stands-unowed, specs.Outlet.OutletRefuses, specs.Outlet.owed_by}
use Rattle.std.proofs.Common.{◌≡◌, ◌∙◌, ℕ, ◌+◌, ◌-◌, ◌<◌, ◌≤◌, Bool, true, false, List, [], ◌∷◌}
use Rattle.std.proofs.Common.{◌++◌, inr, length, take, drop, map, refl, sym, ap, subst, arith}
use Rattle.std.proofs.Common.{append_assoc, Option, Some, None, IfSome, IfNone, ⊎_elim, is_some}
use Rattle.std.proofs.lemmas.{Bool.cases_lt, List.length-drop, List.take-append-le}
use Rattle.std.proofs.lemmas.List.{drop-append-le, take-append-drop, replicate-append-replicate}
use Rattle.yasir_ticks.proofs.SilenceLaws.{bytes_in-append}
use Rattle.yasir_ticks.specs.{Bursts.Burst, Bursts.bursts, Ticks.silent, Ticks.bytes_in}
use Rattle.yasir_ticks.specs.declared.tick.Tick.{Tick, TheVariants.Silent, TheVariants.Byte}

no-ticks : (x : List Tick) → length x ≡ 0 → x ≡ []
no-ticks [] none = refl
no-ticks (t ∷ x) none = absurd (omega arith)

-- If silence enters a ring, as many of its live ticks leave.
ring-rest : (live : List Tick) (D k : ℕ) → k ≤ length live → length live ≤ D
    → drop k ((live ++ silent (D - length live)) ++ silent k)
    ≡ drop k live ++ silent (D - length (drop k live))
ring-rest live D k few within =
    let less = length-drop k live in
    let sum : D - length live + k ≡ D - length (drop k live) = omega arith in
    ap (λ l. drop k l) (append_assoc live (silent (D - length live)) (silent k))
    ∙ (drop-append-le k live (silent (D - length live) ++ silent k) few
    ∙ ap (λ l. drop k live ++ l)
    (replicate-append-replicate (D - length live) k Silent ∙ ap silent sum))

module _ {R M : Type 0} (proto : LineRules R) (macs : Mac M) {B D : ℕ} (old : Checker R M B D)
    (last : ℕ) (setup : Setup) (line : List Tick) (stands : CheckerStandsAt proto macs old last setup line)
    (cut : BurstCut R) where
  abbrev rules : Rules
  rules = proto.rules

  abbrev profile : Profile
  profile = profile_of proto macs B LIMIT setup

  abbrev state : CheckState
  state = record { floor = last; earliest_start = old.earliest_start }

  abbrev left : List ℕ
  left = stands.walks.left

  abbrev live : List Tick
  live = stands.walks.live

  abbrev Q : List Tick
  Q = ring_ticks old.ring

  -- Holds if the walk has gone on by a run, with these live ticks of the burst that haven't left
  -- yet.
  abbrev Runs : List Tick → Bool → List ℕ → List Tick → ℕ → Option Burst → List Tick → Type 0
  Runs run passes y l owing waiting answer =
      RunsTo profile rules setup.floor line run state passes y l owing waiting answer

  -- If the walk has gone on by a run, and the values that have changed are those of the walk, the
  -- receiver has taken the run.
  made : (run answer : List Tick) (mac : M) (arriving : Arriving B) (ring : DelayRing D)
      (until : ℕ) (waiting : Option Burst) (y : List ℕ) (l : List Tick)
      → CutStandsFor proto cut (line ++ run) → Runs run (passes_in old.phase) y l 0 waiting answer
      → owed_by old.outlet ≡ 0
      → IfNone waiting (passes_in old.phase ≡ false → 0 < length l
      → OutletRefuses proto old.outlet (y ++ bytes_in l))
      → ring_ticks ring ≡ l ++ silent (D - length l) → length l ≤ D → until ≡ length l
      → is_open old.phase ≡ is_some waiting → ((text : List ℕ) × macs.stands mac setup.key text)
      → IfSome waiting (λ d. MacHolds proto macs setup mac arriving d)
      → LeftIn old.phase until (owed_by old.outlet)
      → CheckerHasTakenRun proto macs
      (record old {
        cut = cut;
        mac = mac;
        arriving = arriving;
        ring = ring;
        until = until;
      }) last setup line run answer
  made run answer mac arriving ring until waiting y l cuts runs unowed knows ring_is few until_is
      waits_is mac_stands mac_holds left_in =
      let W : ℕ → Type 0 = λ n. HasWalked profile rules setup.floor (length (line ++ run))
      (bursts (line ++ run)) state (passes_in old.phase) y l n waiting in
      record {
        stands = record {
          word_is = stands.word_is;
          wide = stands.wide;
          delay_is = stands.delay_is;
          direction_is = stands.direction_is;
          cuts = cuts;
          left_in = left_in;
          walks = record {
            waiting = waiting;
            left = y;
            live = l;
            walked = subst W (sym unowed) runs.walked;
            outlet_is = stands-unowed proto old.outlet y unowed;
            knows = knows;
            ring_is = ring_is;
            few = few;
            until_is = until_is;
            waits_is = waits_is;
            mac_stands = mac_stands;
            mac_holds = mac_holds;
          };
        };
        answers = runs.answers;
      }

  -- ---- a verdict is open

  opened : is_open old.phase ≡ true → (d : Burst) × (stands.walks.waiting ≡ Some d)
  opened waits = waiting-some stands.walks.waiting (sym stands.walks.waits_is ∙ waits)

  open-burst : (waits : is_open old.phase ≡ true)
      → IsOpen proto profile setup.floor state line (passes_in old.phase) left live
      (owed_by old.outlet) (opened waits).0
  open-burst waits = open-walks stands.walks stands.wide (opened waits).0 (opened waits).1

  open-bare : (waits : is_open old.phase ≡ true)
      → IsOpen proto profile setup.floor state line false left live 0 (opened waits).0
  open-bare waits =
      let it = open-burst waits in
      record { timely = it.timely; some = it.some; walked = bare-of it }

  mac_holds-opened : (waits : is_open old.phase ≡ true)
      → MacHolds proto macs setup old.mac old.arriving (opened waits).0
  mac_holds-opened waits =
      let C : Option Burst → Type 0 = λ o. IfSome o
      (λ e. MacHolds proto macs setup old.mac old.arriving e) in
      subst C (opened waits).1 stands.walks.mac_holds

  head-opened : (waits : is_open old.phase ≡ true)
      → head_of rules (live_bytes_so_far rules line) ≡ Good
      → rules.header_len ≤ length (live_bytes rules (opened waits).0)
  head-opened waits good =
      let d : Burst = (opened waits).0 in
      let G : Option Burst → Type 0 = λ o. head_of rules (live_bytes_in rules o) ≡ Good in
      let here : head_of rules (live_bytes rules d) ≡ Good =
      subst G (last-of (open-burst waits)) good in
      ⊎_elim
      (λ short.
      let other : Short ≡ Good = sym (head-short rules (live_bytes rules d) short) ∙ here in
      absurd cc)
      (λ there. there)
      (cases_lt (length (live_bytes rules d)) rules.header_len)

  -- ---- no verdict is open

  abbrev Walked : List Tick → ℕ → Option Burst → Type 0
  Walked ticks owing waiting = HasWalked profile rules setup.floor (length line) (bursts line) state
      (passes_in old.phase) left ticks owing waiting

  walked-rests : is_open old.phase ≡ false → owed_by old.outlet ≡ 0 → Walked live 0 None
  walked-rests rests unowed =
      let waiting = waiting-none stands.walks.waiting (sym stands.walks.waits_is ∙ rests) in
      subst (λ k. Walked live k None) unowed
      (subst (λ o. Walked live (owed_by old.outlet) o) waiting stands.walks.walked)

  time : IsTimely profile rules
  time = timely proto macs B setup stands.wide

  -- While everything has left, silence leaves.
  pub idle-taken : (run : List Tick) → old.phase ≡ Idle → CutStandsFor proto cut (line ++ run)
      → BeginNone rules line run
      → CheckerHasTakenRun proto macs (record old { cut = cut }) last setup line run
      (silent (length run))
  idle-taken run idle cuts begin =
      let L : Phase → Type 0 = λ p. LeftIn p old.until (owed_by old.outlet) in
      let gone : L Idle = subst L idle stands.left_in in
      let rests : is_open old.phase ≡ false = ap (λ p. is_open p) idle in
      let none : old.until ≡ 0 = gone.0 in
      let unowed : owed_by old.outlet ≡ 0 = gone.1 in
      let empty : live ≡ [] = no-ticks live (sym stands.walks.until_is ∙ none) in
      let walked : Walked [] 0 None =
      subst (λ l. Walked l 0 None) empty (walked-rests rests unowed) in
      made run (silent (length run)) old.mac old.arriving old.ring old.until None left []
      cuts
      (idle-run proto profile time setup.floor state (passes_in old.phase) run line left walked
      begin)
      unowed (λ refused some. absurd (omega arith))
      (stands.walks.ring_is ∙ ap (λ l. l ++ silent (D - length l)) empty)
      (omega arith) none rests stands.walks.mac_stands tt stands.left_in

  -- ---- live ticks leave

  -- While no verdict is open, the outlet still knows all bytes of a refused burst while they leave.
  knows-still : (k : ℕ) → is_open old.phase ≡ false → k ≤ length live → passes_in old.phase ≡ false
      → 0 < length (drop k live)
      → OutletRefuses proto old.outlet ((left ++ bytes_in (take k live)) ++ bytes_in (drop k live))
  knows-still k rests few refused some =
      let K : Option Burst → Type 0 = λ o. IfNone o (passes_in old.phase ≡ false → 0 < length live
      → OutletRefuses proto old.outlet (left ++ bytes_in live)) in
      let waiting = waiting-none stands.walks.waiting (sym stands.walks.waits_is ∙ rests) in
      let knows : K None = subst K waiting stands.walks.knows in
      let same : (left ++ bytes_in (take k live)) ++ bytes_in (drop k live) ≡ left ++ bytes_in live =
      append_assoc left (bytes_in (take k live)) (bytes_in (drop k live))
      ∙ ap (λ l. left ++ l) (sym (bytes_in-append (take k live) (drop k live))
      ∙ ap (λ l. bytes_in l) (take-append-drop k live)) in
      let P : List ℕ → Type 0 = λ y. OutletRefuses proto old.outlet y in
      let less = length-drop k live in
      subst P (sym same) (knows refused (omega arith))

  module _ (ring : DelayRing D) (c : ℕ) (x : List ℕ) (until : ℕ)
      (within : c ≤ D) (alike : AreAlike (take c (ring_ticks old.ring))) where
    -- If `k` silent ticks have entered the ring, `k` of its live ticks have left.
    entered : (run : List Tick) (k : ℕ) (arriving : Arriving B) (waiting : Option Burst)
        (passes : Bool) → k ≤ c → k ≤ length live → CutStandsFor proto cut (line ++ run)
        → CheckerIsFront (ring_ticks old.ring) k x
        → ring_ticks ring ≡ drop k (ring_ticks old.ring ++ silent k) → until ≡ old.until - k
        → owed_by old.outlet ≡ 0
        → IfNone waiting (passes_in old.phase ≡ false → 0 < length (drop k live)
        → OutletRefuses proto old.outlet ((left ++ bytes_in (take k live)) ++ bytes_in (drop k live)))
        → Runs run passes (left ++ bytes_in (take k live)) (drop k live) 0 waiting (take k live)
        → passes_in old.phase ≡ passes → is_open old.phase ≡ is_some waiting
        → IfSome waiting (λ d. MacHolds proto macs setup old.mac arriving d)
        → LeftIn old.phase until (owed_by old.outlet)
        → CheckerHasTakenRun proto macs
        (record old {
          cut = cut;
          arriving = arriving;
          ring = ring;
          until = until;
        }) last setup line run (answered k x)
    entered run k arriving waiting passes few less cuts is ring_is until_is unowed knows runs
        passes_is waits mac_holds left_in =
        let count = stands.walks.until_is in
        let most = stands.walks.few in
        let size = ring-whole old.ring in
        let first : take k live ≡ take k Q =
        sym (ap (λ l. take k l) stands.walks.ring_is
        ∙ take-append-le k live (silent (D - length live)) less) in
        let leaves : take k Q ≡ answered k x = front-answered Q c k x few (omega arith) alike is in
        let fewer = length-drop k live in
        let P : Bool → Type 0 = λ p. Runs run p (left ++ bytes_in (take k live)) (drop k live) 0
        waiting (take k live) in
        let A : List Tick → Type 0 = λ l. CheckerHasTakenRun proto macs
        (record old {
          cut = cut;
          arriving = arriving;
          ring = ring;
          until = until;
        }) last setup line run l in
        subst A (first ∙ leaves)
        (made run (take k live) old.mac arriving ring until waiting
        (left ++ bytes_in (take k live)) (drop k live) cuts (subst P (sym passes_is) runs) unowed
        knows
        (ring_is
        ∙ (ap (λ l. drop k (l ++ silent k)) stands.walks.ring_is ∙ ring-rest live D k less most))
        (omega arith) (omega arith) waits stands.walks.mac_stands mac_holds left_in)

    -- ---- no verdict is open, and live ticks are leaving

    pub flow-counted : (run : List Tick) (k : ℕ) → length run ≡ k → is_open old.phase ≡ false
        → k < old.until → k ≤ c → CutStandsFor proto cut (line ++ run)
        → BeginNone rules line run → CheckerIsFront (ring_ticks old.ring) k x
        → ring_ticks ring ≡ drop k (ring_ticks old.ring ++ silent k) → until ≡ old.until - k
        → CheckerHasTakenRun proto macs
        (record old { cut = cut; ring = ring; until = until }) last setup line run (answered k x)
    flow-counted run k long rests less few cuts begin is ring_is until_is =
        let count = stands.walks.until_is in
        let owes = stands.walks.walked.unowed (omega arith) in
        let walked = walked-rests rests owes in
        let T : ℕ → Type 0 = λ j. Runs run (passes_in old.phase) (left ++ bytes_in (take j live))
        (drop j live) 0 None (take j live) in
        entered run k old.arriving None (passes_in old.phase) few (omega arith) cuts is ring_is
        until_is owes
        (knows-still k rests (omega arith))
        (subst T long (flow-run proto profile time setup.floor state (passes_in old.phase) run line
        left live walked begin (omega arith)))
        refl rests tt
        (more-left old.phase old.until until (owed_by old.outlet) stands.left_in (omega arith)
        (omega arith))

    -- ---- silence comes in the pause after the live bytes of the burst whose verdict is open

    pub pause-taken : (n : ℕ) → is_open old.phase ≡ true
        → head_of rules (live_bytes_so_far rules line) ≡ Good → n ≤ c → D + n ≤ old.until + 3
        → CutStandsFor proto cut (line ++ silent n) → CheckerIsFront (ring_ticks old.ring) n x
        → ring_ticks ring ≡ drop n (ring_ticks old.ring ++ silent n) → until ≡ old.until - n
        → CheckerHasTakenRun proto macs
        (record old { cut = cut; ring = ring; until = until }) last setup line (silent n)
        (answered n x)
    pause-taken n waits good few within_pause cuts is ring_is until_is =
        let it = open-burst waits in
        let long = long-of it in
        let count = stands.walks.until_is in
        let delay_is = stands.delay_is in
        let wide = stands.wide in
        entered (silent n) n old.arriving (Some (opened waits).0) false few (omega arith) cuts is
        ring_is until_is (unowed-of it) tt
        (pause-run proto profile setup.floor state (opened waits).0 (head-opened waits good) n line
        left live (open-bare waits) (omega arith) (omega arith))
        it.walked.opens.1 waits (mac_holds-opened waits)
        (open-left old.phase until (owed_by old.outlet) waits)

    -- ---- bytes of the trailer come of the burst whose verdict is open

    pub trailer-taken : (bytes : List ℕ) (arriving : Arriving B) → is_open old.phase ≡ true
        → length bytes ≤ c → old.until + 3 ≤ D → length bytes + 2 ≤ old.until
        → CutStandsFor proto cut (line ++ map (λ b. Byte b) bytes)
        → cuts_after rules line (map (λ b. Byte b) bytes) ≡ map (λ b. Extra b) bytes
        → (length (bytes_come old.arriving) + length bytes ≤ 20
        → bytes_come arriving ≡ bytes_come old.arriving ++ bytes)
        → CheckerIsFront (ring_ticks old.ring) (length bytes) x
        → ring_ticks ring ≡ drop (length bytes) (ring_ticks old.ring ++ silent (length bytes))
        → until ≡ old.until - length bytes
        → CheckerHasTakenRun proto macs
        (record old {
          cut = cut;
          arriving = arriving;
          ring = ring;
          until = until;
        }) last setup line (map (λ b. Byte b) bytes) (answered (length bytes) x)
    trailer-taken bytes arriving waits few behind left_over cuts are_extra takes is ring_is
        until_is =
        let d : Burst = (opened waits).0 in
        let it = open-burst waits in
        let long = long-of it in
        let count = stands.walks.until_is in
        let delay_is = stands.delay_is in
        let wide = stands.wide in
        let after = trailer-run proto profile setup.floor state bytes line left live d
        (open-bare waits) (omega arith) (omega arith) (omega arith) are_extra in
        let before = mac_holds-opened waits in
        let size = trailer-long it in
        let come = ap length before.come in
        let short = stands.word_is.1 in
        let room : length (bytes_come old.arriving) + length bytes ≤ 20 =
        ⊎_elim (λ twelve. omega arith) (λ sixteen. omega arith) macs.tag_size in
        let C : List ℕ → Type 0 = λ y. macs.stands old.mac setup.key
        (rules.label ∷ setup.direction ∷ y) in
        entered (map (λ b. Byte b) bytes) (length bytes) arriving (Some after.burst) false few
        (omega arith) cuts is ring_is until_is (unowed-of it) tt after.runs it.walked.opens.1 waits
        (record {
          mac_is = subst C (sym after.bytes) before.mac_is;
          come = takes room ∙ (ap (λ y. y ++ bytes) before.come ∙ sym after.trailer);
        })
        (open-left old.phase until (owed_by old.outlet) waits)

  -- ---- live bytes come of the burst whose verdict is open

  module _ (ring : DelayRing D) (c : ℕ) (x : List ℕ) (until : ℕ) (E : List Tick)
      (within : c ≤ length (ring_ticks old.ring ++ E))
      (alike : AreAlike (take c (ring_ticks old.ring ++ E))) where
    module _ (bytes : List ℕ) (mac : M) (waits : is_open old.phase ≡ true) (any : 0 < length bytes)
        (few : length bytes ≤ c)
        (along : take (length bytes) (ring_ticks old.ring ++ map (λ b. Byte b) bytes)
        ≡ take (length bytes) (ring_ticks old.ring ++ E))
        (keeps : KeepsHeader proto.rules (live_bytes_so_far proto.rules line) bytes)
        (cuts : CutStandsFor proto cut (line ++ map (λ b. Byte b) bytes))
        (are_live : cuts_after proto.rules line (map (λ b. Byte b) bytes)
        ≡ map (λ b. Live b) bytes)
        (mac_is : (key text : List ℕ) → macs.stands old.mac key text
        → macs.stands mac key (text ++ bytes))
        (is : CheckerIsFront (ring_ticks old.ring ++ E) (length bytes) x)
        (ring_is : ring_ticks ring
        ≡ drop (length bytes) (ring_ticks old.ring ++ map (λ b. Byte b) bytes))
        (whole : until ≡ D) where
      abbrev k : ℕ
      k = length bytes

      abbrev run : List Tick
      run = map (λ b. Byte b) bytes

      abbrev d : Burst
      d = (opened waits).0

      it : IsOpen proto profile setup.floor state line (passes_in old.phase) left live
          (owed_by old.outlet) d
      it = open-burst waits

      headed : KeepsHeader rules (live_bytes rules d) bytes
      headed =
          let K : Option Burst → Type 0 = λ o. KeepsHeader rules (live_bytes_in rules o) bytes in
          subst K (last-of it) keeps

      delay-is : D ≡ delay profile
      delay-is = let is = stands.delay_is in omega arith

      live-runs : LiveRun proto profile setup.floor state line left live Q d bytes
      live-runs =
          let most = stands.walks.few in
          let long = ring-whole old.ring in
          let size = delay-is in
          let delay_is = stands.delay_is in
          live-run proto profile setup.floor state bytes line left live Q d
          (stands.walks.ring_is ∙ ap (λ n. live ++ silent (n - length live)) delay-is)
          (omega arith) (open-bare waits) headed are_live (omega arith)

      none-after : trailer_so_far rules live-runs.burst ≡ []
      none-after =
          let e : Burst = live-runs.burst in
          let after : IsOpen proto profile setup.floor state (line ++ run) false
          (left ++ bytes_in (take k (Q ++ run))) live-runs.ticks 0 e =
          record { timely = it.timely; some = it.some; walked = live-runs.runs.walked } in
          let ends = (may-of after).after in
          let end = live-runs.end (inr any) in
          let long = after-long rules e in
          nothing-after (after_live rules e) (omega arith)

      mac_holds-after : MacHolds proto macs setup mac old.arriving live-runs.burst
      mac_holds-after =
          let before = mac_holds-opened waits in
          let none = live-runs.none any in
          let C : List ℕ → Type 0 = λ y. macs.stands mac setup.key
          (rules.label ∷ setup.direction ∷ y) in
          record {
            mac_is = subst C (sym live-runs.bytes)
                (mac_is setup.key (rules.label ∷ setup.direction ∷ live_bytes rules d)
                before.mac_is);
            come = before.come ∙ (none ∙ sym none-after);
          }

      pub follow-taken : CheckerHasTakenRun proto macs
          (record old { cut = cut; mac = mac; ring = ring; until = until }) last setup line run
          (answered k x)
      follow-taken =
          let leaves = along ∙ front-answered (Q ++ E) c k x few within alike is in
          let after = live-runs in
          let full = after.full (inr any) in
          let size = delay-is in
          let delay_is = stands.delay_is in
          let P : Bool → Type 0 = λ p. Runs run p (left ++ bytes_in (take k (Q ++ run))) after.ticks 0
          (Some after.burst) (take k (Q ++ run)) in
          let A : List Tick → Type 0 = λ l. CheckerHasTakenRun proto macs
          (record old { cut = cut; mac = mac; ring = ring; until = until }) last setup line run l in
          subst A leaves
          (made run (take k (Q ++ run)) mac old.arriving ring until (Some after.burst)
          (left ++ bytes_in (take k (Q ++ run))) after.ticks cuts
          (subst P (sym it.walked.opens.1) after.runs) (unowed-of it) tt
          (ring_is
          ∙ (sym after.ring
          ∙ ap (λ n. after.ticks ++ silent (n - length after.ticks)) (sym delay-is)))
          (let within' = after.few in omega arith) (omega arith) waits
          (rules.label ∷ setup.direction ∷ live_bytes rules after.burst, mac_holds-after.mac_is)
          mac_holds-after (open-left old.phase until (owed_by old.outlet) waits))

-- Runs of ticks that begin no burst, while no verdict is open.
use Rattle.frame_ending.specs.{HasCome.HasCome, Laid.tick_at, Walk.Walker}
use Rattle.check_receiver.proofs.Resting.{comes}
use Rattle.check_receiver.proofs.RunTicks.{RunsTo, runs-none, runs-first}
use Rattle.{check_receiver.specs.Runs.BeginNone, frame_ending.specs.Cuts.cuts_after}
use Rattle.frame_ending.specs.declared.cut.Cut.TheVariants.{Live, Extra, Quiet}
use Rattle.line_rules.specs.{Rules.Rules, declared.line_rules.LineRules.Ghosts as LineRules}
use Rattle.link_format.specs.Profile.{Profile}
use Rattle.link_box.proofs.Leavings.{leaves-none, leaves-silent, leaves-byte, fill_out-zero}
use Rattle.link_box.proofs.Resting.{goes-at, still-come, still-answers}
use Rattle.link_box.specs.Checking.{FullNote, checker, at_floor}
use Rattle.link_box.specs.{Going.Goes, Holding.HasWalked, Leaving.leaves, Timely.IsTimely}
use Rattle.link_box.specs.Verdicts.{CheckState}
use Rattle.std.proofs.Common.{◌≡◌, ◌∙◌, ℕ, zero, suc, ◌+◌, ◌-◌, ◌<◌, Bool, List, [], ◌∷◌, ◌++◌}
use Rattle.std.proofs.Common.{length, take, drop, get_or, map, refl, sym, ap, subst, arith}
use Rattle.std.proofs.Common.{append_assoc, inl, inr, None}
use Rattle.{std.proofs.lemmas.List.append-nil, yasir_ticks.proofs.SilenceLaws.bytes_in-append}
use Rattle.yasir_ticks.specs.{Bursts.Burst, Bursts.bursts, Ticks.silent, Ticks.bytes_in}
use Rattle.yasir_ticks.specs.declared.tick.Tick.{Tick, TheVariants.Silent, TheVariants.Byte}

-- ---- ticks that begin no burst

pub live-begin_none : (rules : Rules) (x : List ℕ) (line : List Tick)
    → cuts_after rules line (map (λ b. Byte b) x) ≡ map (λ b. Live b) x
    → BeginNone rules line (map (λ b. Byte b) x)
live-begin_none rules [] line cuts = tt
live-begin_none rules (b ∷ x) line cuts = (
  inl (ap (λ l. get_or l 0 Quiet) cuts),
  live-begin_none rules x (line ++ Byte b ∷ []) (ap (λ l. drop 1 l) cuts),
)

pub extra-begin_none : (rules : Rules) (x : List ℕ) (line : List Tick)
    → cuts_after rules line (map (λ b. Byte b) x) ≡ map (λ b. Extra b) x
    → BeginNone rules line (map (λ b. Byte b) x)
extra-begin_none rules [] line cuts = tt
extra-begin_none rules (b ∷ x) line cuts = (
  inr (ap (λ l. get_or l 0 Quiet) cuts),
  extra-begin_none rules x (line ++ Byte b ∷ []) (ap (λ l. drop 1 l) cuts),
)

pub silence-begin_none : (rules : Rules) (n : ℕ) (line : List Tick)
    → BeginNone rules line (silent n)
silence-begin_none rules zero line = tt
silence-begin_none rules (suc n) line = (tt, silence-begin_none rules n (line ++ Silent ∷ []))

-- If there is more than one live tick, the first one leaves as it came.
leaves-more : (rules : Rules) (p : Bool) (left : List ℕ) (live : List Tick) → 1 < length live
    → leaves rules p left live 0
    ≡ get_or live 0 Silent ∷ leaves rules p (left ++ bytes_in (take 1 live)) (drop 1 live) 0
leaves-more rules p left [] more = absurd (omega arith)
leaves-more rules p left (t ∷ []) more = absurd (omega arith)
leaves-more rules p left (Silent ∷ t ∷ live) more =
    leaves-silent rules p left (t ∷ live) 0
    ∙ ap (λ x. Silent ∷ leaves rules p x (t ∷ live) 0) (sym (append-nil left))
leaves-more rules p left (Byte b ∷ t ∷ live) more = leaves-byte rules p left b (t ∷ live) 0

module _ {R : Type 0} (proto : LineRules R) (profile : Profile)
    (timely : IsTimely profile proto.rules) (floor : ℕ) (s : CheckState) (passes : Bool) where
  abbrev rules : Rules
  rules = proto.rules

  abbrev w : Walker CheckState FullNote
  w = checker profile rules

  abbrev Walked : List Tick → List ℕ → List Tick → Type 0
  Walked line left live = HasWalked profile rules floor (length line) (bursts line) s passes left
      live 0 None

  abbrev Comes : List Tick → Tick → List Burst → Type 0
  Comes line t emissions = HasCome w (at_floor floor) (length line) (bursts (line ++ t ∷ [])) s
      emissions None

  -- ---- everything has left

  idle-one : (line : List Tick) (left : List ℕ) (t : Tick) (walked : Walked line left [])
      → Comes line t walked.emissions
      → Goes profile rules floor line t s passes left [] 0 None Silent None
  idle-one line left t walked come =
      let m : ℕ = length line in
      let none : leaves rules passes left [] 0 ≡ [] =
      leaves-none rules passes left 0 ∙ fill_out-zero rules left in
      let dark : (i j : ℕ) → get_or (leaves rules passes left [] 0) i Silent
      ≡ get_or (leaves rules passes left [] 0) j Silent =
      λ i j. ap (λ l. get_or l i Silent) none ∙ sym (ap (λ l. get_or l j Silent) none) in
      goes-at proto profile timely floor line t s passes left [] 0 None Silent None
      (record {
        emissions = walked.emissions;
        come = still-come proto profile timely floor line t s walked.emissions None come tt;
        unowed = λ some. refl;
        opens = tt;
        rests = record {
          shows = λ i later. walked.rests.shows i (omega arith) ∙ dark (i - m) (i - (m + 1));
          ends = λ some. let size = ap length none in absurd (omega arith);
        };
      })
      (still-answers proto profile timely floor line t s walked.emissions None come tt Silent
      (ap (λ x. tick_at x m) (append-nil walked.emissions)
      ∙ (walked.rests.shows m (omega arith) ∙ ap (λ l. get_or l (m - m) Silent) none)))

  pub idle-run : (run line : List Tick) (left : List ℕ) → Walked line left []
      → BeginNone rules line run
      → RunsTo profile rules floor line run s passes left [] 0 None (silent (length run))
  idle-run [] line left walked none =
      runs-none profile rules floor line s passes left [] 0 None walked
  idle-run (t ∷ run) line left walked none =
      let goes = idle-one line left t walked
      (comes proto profile timely floor s line t walked.emissions walked.come none.0) in
      runs-first profile rules floor line t run s passes left [] 0 None left [] 0 None Silent
      (silent (length run)) goes
      (idle-run run (line ++ t ∷ []) left goes.walked none.1)

  -- ---- more than one live tick hasn't left yet

  flow-one : (line : List Tick) (left : List ℕ) (live : List Tick) (t : Tick)
      (walked : Walked line left live) → Comes line t walked.emissions → 1 < length live
      → Goes profile rules floor line t s passes (left ++ bytes_in (take 1 live)) (drop 1 live) 0
      None (get_or live 0 Silent) None
  flow-one line left live t walked come more =
      let m : ℕ = length line in
      let a : Tick = get_or live 0 Silent in
      let old : List Tick = leaves rules passes left live 0 in
      let new : List Tick =
      leaves rules passes (left ++ bytes_in (take 1 live)) (drop 1 live) 0 in
      let step : old ≡ a ∷ new = leaves-more rules passes left live more in
      let none : m - m ≡ 0 = omega arith in
      goes-at proto profile timely floor line t s passes (left ++ bytes_in (take 1 live))
      (drop 1 live) 0 None a None
      (record {
        emissions = walked.emissions;
        come = still-come proto profile timely floor line t s walked.emissions None come tt;
        unowed = λ some. refl;
        opens = tt;
        rests = record {
          shows = λ i later.
              let one : i - m ≡ suc (i - (m + 1)) = omega arith in
              walked.rests.shows i (omega arith)
              ∙ (ap (λ k. get_or old k Silent) one
              ∙ ap (λ l. get_or l (suc (i - (m + 1))) Silent) step);
          ends = λ some.
              let size = ap length step in
              let end = walked.rests.ends (omega arith) in
              omega arith;
        };
      })
      (still-answers proto profile timely floor line t s walked.emissions None come tt a
      (ap (λ x. tick_at x m) (append-nil walked.emissions)
      ∙ (walked.rests.shows m (omega arith)
      ∙ (ap (λ k. get_or old k Silent) none ∙ ap (λ l. get_or l 0 Silent) step))))

  pub flow-run : (run line : List Tick) (left : List ℕ) (live : List Tick)
      → Walked line left live → BeginNone rules line run → length run < length live
      → RunsTo profile rules floor line run s passes
      (left ++ bytes_in (take (length run) live)) (drop (length run) live) 0 None
      (take (length run) live)
  flow-run [] line left live walked none few =
      let P : List ℕ → Type 0 = λ x. RunsTo profile rules floor line [] s passes x live 0 None []
      in
      subst P (sym (append-nil left))
      (runs-none profile rules floor line s passes left live 0 None walked)
  flow-run (t ∷ run) line left [] walked none few = absurd (omega arith)
  flow-run (t ∷ run) line left (u ∷ live) walked none few =
      let goes = flow-one line left (u ∷ live) t walked
      (comes proto profile timely floor s line t walked.emissions walked.come none.0)
      (omega arith) in
      let k : ℕ = length run in
      let next : List ℕ = left ++ bytes_in (u ∷ []) in
      let rest = flow-run run (line ++ t ∷ []) next live goes.walked none.1 (omega arith) in
      let all : next ++ bytes_in (take k live) ≡ left ++ bytes_in (u ∷ take k live) =
      append_assoc left (bytes_in (u ∷ [])) (bytes_in (take k live))
      ∙ ap (λ l. left ++ l) (sym (bytes_in-append (u ∷ []) (take k live))) in
      let P : List ℕ → Type 0 = λ x. RunsTo profile rules floor line (t ∷ run) s passes x
      (drop k live) 0 None (u ∷ take k live) in
      subst P all
      (runs-first profile rules floor line t run s passes next live 0 None
      (next ++ bytes_in (take k live)) (drop k live) 0 None u (take k live) goes rest)

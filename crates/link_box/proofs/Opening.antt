-- One more tick, before or after which a verdict is open.
use Rattle.frame_ending.proofs.Emissions.{tick_at-none, tick_at-before, tick_at-from}
use Rattle.frame_ending.specs.{HasCome.HasCome, Laid.tick_at}
use Rattle.frame_ending.proofs.LiveTicks.{live_ticks-bytes, live_ticks-contiguous}
use Rattle.frame_ending.{proofs.Pauses.contiguous-ends, specs.LiveBytes.before_pause}
use Rattle.frame_ending.specs.LiveBytes.{up_to_byte, spelled, live_bytes, live_ticks, live_end}
use Rattle.line_rules.specs.Rules.{Rules, lacking_of}
use Rattle.line_rules.specs.{RulesLaws.IsHeaded, declared.line_rules.LineRules.Ghosts as LineRules}
use Rattle.link_format.specs.Profile.{Profile, delay}
use Rattle.link_box.proofs.CheckCausality.{emission-dark, emission-shown}
use Rattle.link_box.proofs.{HeadTicks.short-pause, Judging.IsJudged}
use Rattle.link_box.proofs.Judging.{judged-verdict, checked-good, tick-short, tick-good}
use Rattle.link_box.proofs.Leavings.{leaves-none, fill_out-zero, leaves-silent, leaves-byte}
use Rattle.link_box.proofs.Leavings.{leaves-passed, leaves-spoiled, leaves-drop, leaves-behind}
use Rattle.link_box.proofs.{Past.past, Past.judged-late, Past.length-spoiled, Resting.goes-at}
use Rattle.link_box.proofs.Resting.{noted-come, noted-answers, still-come, still-answers}
use Rattle.link_box.specs.Checking.{checker, at_floor, note_tick}
use Rattle.link_box.specs.Emissions.{spoiled, owed, filled_ticks, delayed, emission_by}
use Rattle.link_box.specs.{Going.Goes, Holding.Opens, Holding.Rests, Holding.as_it_came}
use Rattle.link_box.specs.{Leaving.leaves, Timely.IsTimely, Verdicts.CheckState}
use Rattle.link_box.specs.Verdicts.{Verdict, checked, Verdict.passed_with, Verdict.refused}
use Rattle.link_box.specs.declared.check_note.CheckNote.TheVariants.{Passed, Refused}
use Rattle.link_box.specs.declared.check_note.RefusedWhy.{RefusedWhy}
use Rattle.std.proofs.Common.{◌≡◌, ◌∙◌, ℕ, zero, suc, ◌+◌, ◌-◌, ◌<◌, ◌≤◌, Bool, true, false, List}
use Rattle.std.proofs.Common.{[], ◌∷◌, ◌++◌, length, length-append, take, drop, get_or, replicate}
use Rattle.std.proofs.Common.{refl, sym, ap, arith, subst, ⊎_elim, Option, Some, None}
use Rattle.std.proofs.lemmas.{Bool.cases_lt, List.append-nil}
use Rattle.std.proofs.lemmas.List.{length-drop, length-take, get_or-drop, length-replicate}
use Rattle.yasir_ticks.specs.Bursts.{Burst, bursts}
use Rattle.yasir_ticks.specs.{BurstsOf.IsContiguous, Ticks.silent, Ticks.bytes_in}
use Rattle.yasir_ticks.specs.declared.tick.Tick.{Tick, TheVariants.Silent, TheVariants.Byte}

-- ---- silence in front

front-silent : (n k : ℕ) (x : List Tick) → k < n → get_or (silent n ++ x) k Silent ≡ Silent
front-silent zero k x few = absurd (omega arith)
front-silent (suc n) zero x few = refl
front-silent (suc n) (suc k) x few = front-silent n k x (omega arith)

behind-silent : (n j k : ℕ) (x : List Tick) → j ≡ n + k
    → get_or (silent n ++ x) j Silent ≡ get_or x k Silent
behind-silent zero j k x is = ap (λ i. get_or x i Silent) (let h : j ≡ k = omega arith in h)
behind-silent (suc n) zero k x is = absurd (omega arith)
behind-silent (suc n) (suc j) k x is = behind-silent n j k x (omega arith)

pub length-silent : (n : ℕ) (x : List Tick) → length (silent n ++ x) ≡ n + length x
length-silent zero x = omega arith
length-silent (suc n) x = let rest = length-silent n x in omega arith

-- what leaves before the last byte is as it came
pub leaves-front : (rules : Rules) (p : Bool) (left : List ℕ) (live : List Tick) (k : ℕ)
    → k + 1 < length live
    → get_or (leaves rules p left live 0) k Silent ≡ get_or live k Silent
leaves-front rules p left [] k within = absurd (omega arith)
leaves-front rules p left (Silent ∷ live) zero within =
    ap (λ l. get_or l 0 Silent) (leaves-silent rules p left live 0)
leaves-front rules p left (Silent ∷ live) (suc k) within =
    ap (λ l. get_or l (suc k) Silent) (leaves-silent rules p left live 0)
    ∙ leaves-front rules p left live k (omega arith)
leaves-front rules p left (Byte b ∷ []) k within = absurd (omega arith)
leaves-front rules p left (Byte b ∷ t ∷ live) zero within =
    ap (λ l. get_or l 0 Silent) (leaves-byte rules p left b (t ∷ live) 0)
leaves-front rules p left (Byte b ∷ t ∷ live) (suc k) within =
    let rest : k + 1 < length (t ∷ live) = omega arith in
    ap (λ l. get_or l (suc k) Silent) (leaves-byte rules p left b (t ∷ live) 0)
    ∙ leaves-front rules p (left ++ b ∷ []) (t ∷ live) k rest

-- the ticks up to the last byte before a pause are no more than all ticks before the pause
up_to-before : (x : List Tick)
    → length (up_to_byte (length (bytes_in (before_pause x))) x) ≤ length (before_pause x)
unfolding before_pause up_to_byte
up_to-before [] = omega arith
up_to-before (Byte b ∷ x) = let rest = up_to-before x in omega arith
up_to-before (Silent ∷ []) = omega arith
up_to-before (Silent ∷ Silent ∷ x) = omega arith
up_to-before (Silent ∷ Byte b ∷ x) = let rest = up_to-before x in omega arith

-- if a header is too short, the burst's live ticks are no more than those before its pause
pub short-ticks : (rules : Rules) → IsHeaded rules → (d : Burst)
    → length (live_bytes rules d) < rules.header_len
    → length (live_ticks rules d) ≤ length (before_pause d.body)
short-ticks rules headed d short =
    let room = headed.room_for_header (spelled d) in
    let part = length-take (rules.room (spelled d)) (spelled d) in
    let all : length (live_bytes rules d) ≡ length (spelled d) = omega arith in
    let few = up_to-before d.body in
    let same = ap (λ k. length (up_to_byte k d.body)) all in
    omega arith

up_to-same : (x : List Tick)
    → length (up_to_byte (length (bytes_in (before_pause x))) x) ≡ length (before_pause x)
unfolding before_pause up_to_byte
up_to-same [] = refl
up_to-same (Byte b ∷ x) = ap suc (up_to-same x)
up_to-same (Silent ∷ []) = refl
up_to-same (Silent ∷ Silent ∷ x) = refl
up_to-same (Silent ∷ Byte b ∷ x) = ap (λ n. suc (suc n)) (up_to-same x)

pub short-same : (rules : Rules) → IsHeaded rules → (d : Burst)
    → length (live_bytes rules d) < rules.header_len
    → length (live_ticks rules d) ≡ length (before_pause d.body)
short-same rules headed d short =
    let room = headed.room_for_header (spelled d) in
    let part = length-take (rules.room (spelled d)) (spelled d) in
    let all : length (live_bytes rules d) ≡ length (spelled d) = omega arith in
    ap (λ k. length (up_to_byte k d.body)) all ∙ up_to-same d.body

module _ (profile : Profile) (rules : Rules) where
  -- a burst that is later by the delay, seen from the burst's own start on
  delayed-shows : (d : Burst) (x : List Tick) (i : ℕ) → d.start ≤ i
      → tick_at (delayed profile d x ∷ []) i
      ≡ get_or (silent (delay profile) ++ x) (i - d.start) Silent
  delayed-shows d x i from =
      ⊎_elim
      (λ before. tick_at-before (delayed profile d x) i before
      ∙ sym (front-silent (delay profile) (i - d.start) x (omega arith)))
      (λ there. tick_at-from (delayed profile d x) i there
      ∙ sym (behind-silent (delay profile) (i - d.start) (i - (delay profile + d.start)) x
      (omega arith)))
      (cases_lt i (delay profile + d.start))

  -- until its last live byte leaves, a burst leaves as it came
  pub shown : (d : Burst) (v : Verdict) (m : ℕ) → d.start ≤ m
      → m + 1 < delay profile + live_end rules d
      → (delay profile + d.start ≤ m → IsJudged v)
      → tick_at (emission_by profile rules d v) m
      ≡ get_or (as_it_came profile rules d) (m - d.start) Silent
  shown d v m from before judged =
      ⊎_elim
      (λ dark. emission-dark profile rules d m v dark
      ∙ sym (front-silent (delay profile) (m - d.start) (live_ticks rules d) (omega arith)))
      (λ there. emission-shown profile rules d m v (judged there) there before
      ∙ sym (behind-silent (delay profile) (m - d.start) (m - (delay profile + d.start))
      (live_ticks rules d) (omega arith)))
      (cases_lt m (delay profile + d.start))

  module _ (floor m : ℕ) (ds : List Burst) (s : CheckState) (emissions : List Burst)
      (waiting : Option Burst)
      (come : HasCome (checker profile rules) (at_floor floor) m ds s emissions waiting) where
    -- from the tick on at which the next burst may start, what was emitted hides nothing
    pub come-past : (i : ℕ) → s.earliest_start ≤ i → (more : List Burst)
        → tick_at (emissions ++ more) i ≡ tick_at more i
    come-past i gone more =
        let same = ap (λ x. x.earliest_start) come.state in
        ap (λ x. tick_at (x ++ more) i) (sym come.emits)
        ∙ past profile rules (at_floor floor) come.settled i (omega arith) more

    pub come-dark : (i : ℕ) → s.earliest_start ≤ i → tick_at emissions i ≡ Silent
    come-dark i gone =
        ap (λ x. tick_at x i) (sym (append-nil emissions))
        ∙ (come-past i gone [] ∙ tick_at-none i)

    -- when the next burst may start, everything has left
    pub come-rests : (p : Bool) (left : List ℕ) → s.earliest_start ≤ m
        → Rests rules p m s.earliest_start left [] 0 emissions
    come-rests p left gone =
        let none = leaves-none rules p left 0 ∙ fill_out-zero rules left in
        record {
          shows = λ i from. come-dark i (omega arith)
              ∙ sym (ap (λ l. get_or l (i - m) Silent) none);
          ends = λ some. let size = ap length none in absurd (omega arith);
        }

-- a burst whose verdict is open isn't noted yet
pub opens-waits : (profile : Profile) (rules : Rules) → IsHeaded rules → (m : ℕ) (s : CheckState)
    (d : Burst) (left : List ℕ) (live : List Tick)
    → Opens profile rules m s.earliest_start d left live → m ≤ (checker profile rules).tick s d
opens-waits profile rules headed m s d left live opens =
    let from = opens.end_from in
    let near = opens.near in
    let keeps = opens.keeps in
    ⊎_elim
    (λ short.
    let tick = tick-short profile rules s d opens.late short in
    let ticks = short-ticks rules headed d short in
    ⊎_elim
    (λ few. omega arith)
    (λ many. let whole = opens.not_short many in absurd (omega arith))
    (cases_lt m (live_end rules d + 2)))
    (λ long.
    let tick = tick-good profile rules s d opens.late long (opens.not_bad long) in
    omega arith)
    (cases_lt (length (live_bytes rules d)) rules.header_len)

module _ {R : Type 0} (proto : LineRules R) (profile : Profile)
    (timely : IsTimely profile proto.rules) (floor : ℕ) (line : List Tick) (t : Tick)
    (s : CheckState) (emissions : List Burst) (e : Burst)
    (come : HasCome (checker profile proto.rules) (at_floor floor) (length line)
    (bursts (line ++ t ∷ [])) s emissions (Some e))
    (contiguous : IsContiguous 4 e.body) (from : e.start ≤ length line)
    (near : length line + 1 < live_end proto.rules e + delay profile) (answer : Tick)
    (answer_is : answer
    ≡ get_or (as_it_came profile proto.rules e) (length line - e.start) Silent) where
  abbrev rules : Rules
  rules = proto.rules

  abbrev m : ℕ
  m = length line

  -- what is seen of the burst is what leaves
  shown-now : (v : Verdict) → s.earliest_start ≤ e.start
      → (delay profile + e.start ≤ m → IsJudged v)
      → tick_at (emissions ++ (emission_by profile rules e v ++ [])) m ≡ answer
  shown-now v late judged =
      come-past profile rules floor m (bursts (line ++ t ∷ [])) s emissions (Some e) come m
      (omega arith) (emission_by profile rules e v ++ [])
      ∙ (ap (λ x. tick_at x m) (append-nil (emission_by profile rules e v))
      ∙ (shown profile rules e v m from (omega arith) judged ∙ sym answer_is))

  -- ---- the verdict is open after the tick too

  module _ (left : List ℕ) (live : List Tick)
      (opens : Opens profile rules (m + 1) s.earliest_start e left live) where
    waits : m + 1 ≤ (checker profile rules).tick s e
    waits = opens-waits profile rules proto.headed (m + 1) s e left live opens

    judged : delay profile + e.start ≤ m → IsJudged (checked profile rules s e)
    judged begun =
        let late = waits in
        ⊎_elim
        (λ short.
        let tick = tick-short profile rules s e opens.late short in
        let few = short-pause rules proto.lawful proto.headed e contiguous short in
        let head = timely.in_time in
        absurd (omega arith))
        (λ long. subst IsJudged
        (sym (checked-good profile rules s e opens.late long (opens.not_bad long)))
        (judged-verdict profile rules s.floor e))
        (cases_lt (length (live_bytes rules e)) rules.header_len)

    pub open-goes : (owed : ℕ) → owed ≡ 0
        → Goes profile rules floor line t s false left live owed (Some e) answer None
    open-goes owed none =
        goes-at proto profile timely floor line t s false left live owed (Some e) answer None
        (record {
          emissions = emissions;
          come = still-come proto profile timely floor line t s emissions (Some e) come waits;
          unowed = λ some. none;
          opens = (opens, refl);
          rests = tt;
        })
        (still-answers proto profile timely floor line t s emissions (Some e) come waits answer
        (shown-now (checked profile rules s e) opens.late judged))

  -- ---- the verdict falls

  module _ (left : List ℕ) (live : List Tick)
      (live_is : live ≡ drop (m + 1 - e.start) (as_it_came profile rules e))
      (left_is : left ≡ bytes_in (take (m + 1 - e.start) (as_it_came profile rules e))) where
    abbrev whole : List Tick
    whole = as_it_came profile rules e

    -- what leaves of the burst after its verdict
    judged-rests : (p : Bool) (x : List Tick) → s.earliest_start ≤ e.start
        → leaves rules p [] whole 0 ≡ silent (delay profile) ++ x
        → Rests rules p (m + 1) (e.start + (delay profile + length x)) left live 0
        (emissions ++ (delayed profile e x ∷ []))
    judged-rests p x late is =
        let k : ℕ = m + 1 - e.start in
        let size = length-silent (delay profile) (live_ticks rules e) in
        let all = length-silent (delay profile) x in
        let within : k < length whole = omega arith in
        let here : leaves rules p left live 0 ≡ drop k (silent (delay profile) ++ x) =
        ap (λ l. leaves rules p l live 0) left_is
        ∙ (ap (λ l. leaves rules p (bytes_in (take k whole)) l 0) live_is
        ∙ (leaves-drop rules p [] whole k within ∙ ap (λ l. drop k l) is)) in
        record {
          shows = λ i after.
              let place : i - e.start ≡ k + (i - (m + 1)) = omega arith in
              come-past profile rules floor m (bursts (line ++ t ∷ [])) s emissions (Some e) come i
              (omega arith) (delayed profile e x ∷ [])
              ∙ (delayed-shows profile rules e x i (omega arith)
              ∙ (ap (λ j. get_or (silent (delay profile) ++ x) j Silent) place
              ∙ (sym (get_or-drop k (silent (delay profile) ++ x) (i - (m + 1)) Silent)
              ∙ ap (λ l. get_or l (i - (m + 1)) Silent) (sym here))));
          ends = λ some.
              let long = ap length here in
              let less = length-drop k (silent (delay profile) ++ x) in
              omega arith;
        }

    pub pass-goes : (number : ℕ) → checked profile rules s e ≡ passed_with number
        → note_tick profile rules e (passed_with number) ≡ m
        → Goes profile rules floor line t
        (record { floor = number; earliest_start = live_end rules e + delay profile })
        true left live 0 None answer (Some (Passed number e.start (length (live_bytes rules e))))
    pass-goes number is now =
        let late = judged-late profile rules s e (subst IsJudged (sym is) tt) in
        let x : List Tick = live_ticks rules e in
        let end : e.start + (delay profile + length x) ≡ live_end rules e + delay profile =
        omega arith in
        let P : ℕ → Type 0 = λ n. Rests rules true (m + 1) n left live 0
        (emissions ++ (delayed profile e x ∷ [])) in
        goes-at proto profile timely floor line t
        (record { floor = number; earliest_start = live_end rules e + delay profile })
        true left live 0 None answer
        (Some (Passed number e.start (length (live_bytes rules e))))
        (record {
          emissions = emissions ++ (delayed profile e x ∷ []);
          come = noted-come proto profile timely floor line t s emissions e (passed_with number) is
              come now;
          unowed = λ some. refl;
          opens = tt;
          rests = subst P end (judged-rests true x late (leaves-passed rules [] whole));
        })
        (noted-answers proto profile timely floor line t s emissions e (passed_with number) is come
        now answer (shown-now (passed_with number) late (λ begun. tt)))

    pub refuse-goes : (why : RefusedWhy) → checked profile rules s e ≡ refused why
        → note_tick profile rules e (refused why) ≡ m
        → Goes profile rules floor line t
        (record {
          floor = s.floor;
          earliest_start = live_end rules e + delay profile + owed rules e;
        })
        false left live 0 None answer (Some (Refused e.start why))
    refuse-goes why is now =
        let late = judged-late profile rules s e (subst IsJudged (sym is) tt) in
        let fill : List Tick = replicate (owed rules e) (Byte 0) in
        let x : List Tick = spoiled rules [] (filled_ticks rules e) in
        let same = length-spoiled rules [] (filled_ticks rules e) in
        let long = length-append (live_ticks rules e) fill in
        let size = length-replicate (owed rules e) (Byte 0) in
        let last = contiguous-ends 2 (live_ticks rules e)
        (live_ticks-contiguous rules proto.lawful e contiguous) in
        let L : List Tick → Type 0 = λ y. leaves rules false [] y 0
        ≡ spoiled rules [] (y ++ replicate (lacking_of rules (bytes_in y)) (Byte 0)) in
        let leave : L (live_ticks rules e) =
        subst L (sym last.2) (leaves-spoiled rules [] last.0 last.1) in
        let owes : leaves rules false [] (live_ticks rules e) 0 ≡ x =
        leave ∙ ap (λ y. spoiled rules []
        (live_ticks rules e ++ replicate (lacking_of rules y) (Byte 0))) (live_ticks-bytes rules e) in
        let end : e.start + (delay profile + length x)
        ≡ live_end rules e + delay profile + owed rules e = omega arith in
        let P : ℕ → Type 0 = λ n. Rests rules false (m + 1) n left live 0
        (emissions ++ (delayed profile e x ∷ [])) in
        goes-at proto profile timely floor line t
        (record {
          floor = s.floor;
          earliest_start = live_end rules e + delay profile + owed rules e;
        })
        false left live 0 None answer (Some (Refused e.start why))
        (record {
          emissions = emissions ++ (delayed profile e x ∷ []);
          come = noted-come proto profile timely floor line t s emissions e (refused why) is come
              now;
          unowed = λ some. refl;
          opens = tt;
          rests = subst P end (judged-rests false x late
              (leaves-behind rules false (delay profile) (live_ticks rules e)
              ∙ ap (λ y. silent (delay profile) ++ y) owes));
        })
        (noted-answers proto profile timely floor line t s emissions e (refused why) is come now
        answer (shown-now (refused why) late (λ begun. tt)))

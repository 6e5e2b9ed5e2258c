-- All accepted frames have left after as many ticks as the frames that may wait, and one more, can
-- take.
use Rattle.frame_ending.proofs.Spread.{EndBy, bursts_from-end}
use Rattle.device_model.proofs.{HuntSteps.timed-silences, ReadLaws.frames_read-append}
use Rattle.device_model.{proofs.ReadLaws.frames_read-ended, specs.Frames.FrameRead}
use Rattle.device_model.specs.{Hunt.timed, Hunt.timed_bytes, Hunt.hunt, HuntFamily.hunt_family}
use Rattle.device_model.specs.RtuReads.{is_frame_body, frame_in, frames_read}
use Rattle.line_rules.specs.{Bytes.AreBytes, Rules.Rules, RulesLaws.IsLawful, RulesLaws.IsFramed}
use Rattle.line_spacer.proofs.Arriving.{arrivals-append}
use Rattle.line_spacer.specs.Arrivals.{Arrival, arriving, gained, arrivals_behind, arrivals}
use Rattle.line_spacer.specs.Spacing.{Spaced, count_from, free_from, sent_from, take_in, spaced}
use Rattle.line_spacer.specs.Spacing.{accepted_of}
use Rattle.receiver_laws.proofs.{Settled.reads_with, Standing.ticks-behind, Standing.ticks-front}
use Rattle.{rtu_frame.specs.Rules.rtu_framed, spacer_laws.proofs.Accepted.all-first}
use Rattle.spacer_laws.proofs.Accepted.{all-others, begin_of, taken-keeps, all-cons, arrivals-steps}
use Rattle.spacer_laws.proofs.{Accepted.arrivals-all, ReadFrames.rtu-frames, ReadFrames.hunt-all}
use Rattle.spacer_laws.{proofs.ReadFrames.hunts-all, specs.Leaving.HaveLeft}
use Rattle.std.proofs.Common.{◌≡◌, ◌∙◌, ℕ, zero, suc, ◌+◌, ◌-◌, ◌*◌, ◌<◌, ◌≤◌, List, [], ◌∷◌, ◌++◌}
use Rattle.std.proofs.Common.{length, map, take, max, fold, refl, sym, ap, subst, arith, nat_le}
use Rattle.std.proofs.Common.{true, cond, Bool, ⊎_elim, append_assoc, length-append, drop, get_or}
use Rattle.std.proofs.Math.Nat.{mul-le-mul_right}
use Rattle.std.proofs.lemmas.Bool.{cases_lt, le-leb, lt-leb}
use Rattle.std.proofs.lemmas.List.{append-nil, length-map, length-replicate, drop_all}
use Rattle.std.proofs.lemmas.List.{take-append-drop, Elements.filter-append, Elements.All-take}
use Rattle.std.specs.{List.filter, List.flat_map, Prelude.All}
use Rattle.yasir_ticks.proofs.{BurstLaws.bursts_from-silent_end, BurstsOfLaws.bursts_from-are}
use Rattle.yasir_ticks.specs.Bursts.{Burst, bursts_from, end_of}
use Rattle.yasir_ticks.specs.{BurstsOf.AreBursts, Ticks.silent, Ticks.AreTicks}
use Rattle.yasir_ticks.specs.declared.tick.Tick.{Tick, TheVariants.Silent, TheVariants.Byte}

-- ---- how many bursts haven't begun

pub count-one : (m : ℕ) (d : Burst) (ds : List Burst) → m ≤ d.start
    → count_from m (d ∷ ds) ≡ suc (count_from m ds)
count-one m d ds late = rw (le-leb m d.start late) refl

pub count-none : (m : ℕ) (d : Burst) (ds : List Burst) → d.start < m
    → count_from m (d ∷ ds) ≡ count_from m ds
count-none m d ds early = rw (lt-leb m d.start early) refl

count-fewer : (k m : ℕ) (ds : List Burst) → k ≤ m → count_from m ds ≤ count_from k ds
count-fewer k m [] later = omega arith
count-fewer k m (d ∷ ds) later =
    let others = count-fewer k m ds later in
    ⊎_elim
    (λ early. let none = count-none m d ds early in
    ⊎_elim
    (λ before. let same = count-none k d ds before in omega arith)
    (λ since. let one = count-one k d ds since in omega arith)
    (cases_lt d.start k))
    (λ late. let one = count-one m d ds late in
    let too = count-one k d ds (omega arith) in omega arith)
    (cases_lt d.start m)

pub count-appended : (m : ℕ) (ds : List Burst) (e : Burst)
    → count_from m (ds ++ e ∷ []) ≡ count_from m ds + count_from m (e ∷ [])
count-appended m ds e =
    let IsFrom : Burst → Bool = λ d. nat_le m d.start in
    ap length (filter-append IsFrom ds (e ∷ []))
    ∙ length-append (filter IsFrom ds) (filter IsFrom (e ∷ []))

count-append : (m : ℕ) (ds : List Burst) (e : Burst)
    → count_from m (ds ++ e ∷ []) ≤ suc (count_from m ds)
count-append m ds e =
    let parts = count-appended m ds e in
    ⊎_elim
    (λ early. let none = count-none m e [] early in omega arith)
    (λ late. let one = count-one m e [] late in omega arith)
    (cases_lt e.start m)

-- ---- how far they reach

module _ (gap m b : ℕ) where
  -- Holds if each of these bursts, of which the first may begin in tick n, begins as soon as it may
  -- or later, but then by tick m, and takes at most b ticks with its gap.
  abbrev AreSoon : ℕ → List Burst → Type 0
  AreSoon n [] = Unit {0}
  AreSoon n (d ∷ ds) =
      (n ≤ d.start) × (d.start ≤ max m n) × (length d.body + gap ≤ b)
      × AreSoon (end_of d + gap) ds

  soon-append : (n : ℕ) (ds : List Burst) (e : Burst) → AreSoon n ds
      → free_from gap n ds ≤ e.start → e.start ≤ max m (free_from gap n ds)
      → length e.body + gap ≤ b → AreSoon n (ds ++ e ∷ [])
  soon-append n [] e soon from by short = (from, by, short, tt)
  soon-append n (d ∷ ds) e soon from by short =
      (soon.0, soon.1, soon.2, soon-append (end_of d + gap) ds e soon.3 from by short)

  -- The last of these bursts, with its gap, is over by b ticks after tick m (or tick n, if that is
  -- later), and b more for each burst that begins in tick m or later.
  reach : (n : ℕ) (ds : List Burst) → AreSoon n ds
      → free_from gap n ds ≤ max n (m + b) + count_from m ds * b
  reach n [] soon = grind arith
  reach n (d ∷ ds) soon =
      let by : d.start ≤ max m n = soon.1 in
      let short : length d.body + gap ≤ b = soon.2 in
      let others = reach (end_of d + gap) ds soon.3 in
      let P : ℕ → Type 0 = λ c. free_from gap n (d ∷ ds) ≤ max n (m + b) + c * b in
      ⊎_elim
      (λ early.
      let near : max (end_of d + gap) (m + b) ≤ max n (m + b) = grind arith in
      subst P (sym (count-none m d ds early)) (omega arith))
      (λ late.
      let near : max (end_of d + gap) (m + b) ≤ max n (m + b) + b = grind arith in
      let more : suc (count_from m ds) * b ≡ b + count_from m ds * b = grind arith in
      subst P (sym (count-one m d ds late)) (omega arith))
      (cases_lt d.start m)

  grows : (n : ℕ) (ds : List Burst) → AreSoon n ds → n ≤ free_from gap n ds
  grows n [] soon = omega arith
  grows n (d ∷ ds) soon =
      let from : n ≤ d.start = soon.0 in
      let others = grows (end_of d + gap) ds soon.3 in
      omega arith

  -- If the last burst, with its gap, is over by tick k, all have left by then.
  reached : (n k : ℕ) (ds : List Burst) → AreSoon n ds → free_from gap n ds ≤ k → HaveLeft k ds
  reached n k [] soon by = tt
  reached n k (d ∷ ds) soon by =
      let others = grows (end_of d + gap) ds soon.3 in
      (omega arith, reached (end_of d + gap) k ds soon.3 by)

  -- ---- what is accepted by tick m

  module _ (cap : ℕ) where
    record IsSoon (s : Spaced) : Type 0 where
      soon : AreSoon 0 s.accepted
      few : count_from m s.accepted ≤ cap

    one-more : (s : Spaced) (a : Arrival) → a.step + 1 ≤ m → length a.frame.frame + gap ≤ b
        → IsSoon s → IsSoon (take_in gap cap s a)
    one-more s a before short is =
        let e : Burst = sent_from (begin_of gap cap s a) a.frame.frame in
        let long : length e.body ≡ length a.frame.frame =
        length-map a.frame.frame (λ x. Byte x) in
        let from : free_from gap 0 s.accepted ≤ e.start = grind arith in
        let by : e.start ≤ max m (free_from gap 0 s.accepted) = grind arith in
        taken-keeps gap cap IsSoon s a
        (λ room.
        let fewer = count-fewer (a.step + 1) m s.accepted before in
        let more = count-append m s.accepted e in
        record {
          soon = soon-append 0 s.accepted e is.soon from by (omega arith);
          few = omega arith;
        })
        (record { soon = is.soon; few = is.few })

    all-soon : (s : Spaced) (more : List Arrival) → All (λ (a : Arrival). a.step + 1 ≤ m) more
        → All (λ (a : Arrival). length a.frame.frame + gap ≤ b) more
        → IsSoon s → IsSoon (fold (take_in gap cap) s more)
    all-soon s [] before short is = is
    all-soon s (a ∷ more) before short is =
        let IsBefore : Arrival → Type 0 = λ x. x.step + 1 ≤ m in
        let IsShort : Arrival → Type 0 = λ x. length x.frame.frame + gap ≤ b in
        all-soon (take_in gap cap s a) more
        (all-others IsBefore a more before) (all-others IsShort a more short)
        (one-more s a (all-first IsBefore a more before) (all-first IsShort a more short) is)

-- What has left no tick early has left.
pub left-by : (m : ℕ) (ds : List Burst) → HaveLeft (m - 0) ds → HaveLeft m ds
left-by m ds left = let none : m - 0 ≡ m = omega arith in subst (λ k. HaveLeft k ds) none left

-- ---- after a line of which nothing more is read

-- Holds if nothing more is read in any number of silent ticks after a line.
abbrev pub ReadsNothing : (List Tick → List FrameRead) → List Tick → Type 0
ReadsNothing heard line = (n : ℕ) → heard (line ++ silent n) ≡ heard line

silent-arrivals : (heard : List Tick → List FrameRead) (line : List Tick) (k : ℕ)
    → ReadsNothing heard line → arrivals_behind heard line (silent k) ≡ []
unfolding arrivals_behind
silent-arrivals heard line zero nothing = refl
silent-arrivals heard line (suc k) nothing =
    let next : List Tick = line ++ Silent ∷ [] in
    let none : gained heard line Silent ≡ [] =
    ap (λ x. drop (length (heard line)) x) (nothing 1)
    ∙ drop_all (length (heard line)) (heard line) (omega arith) in
    ap (λ x. map (arriving (length line)) x ++ arrivals_behind heard next (silent k)) none
    ∙ silent-arrivals heard next k
    (λ n. ap heard (append_assoc line (Silent ∷ []) (silent n))
    ∙ (nothing (suc n) ∙ sym (nothing 1)))

module _ (heard : List Tick → List FrameRead) (gap cap b : ℕ) (line : List Tick)
    (short : All (λ (a : Arrival). length a.frame.frame + gap ≤ b) (arrivals heard line))
    (nothing : ReadsNothing heard line) where
  same-arrivals : (rest : ℕ) → arrivals heard (line ++ silent rest) ≡ arrivals heard line
  same-arrivals rest =
      arrivals-append heard [] line (silent rest)
      ∙ (ap (λ x. arrivals heard line ++ x) (silent-arrivals heard line rest nothing)
      ∙ append-nil (arrivals heard line))

  -- All frames have left `early` ticks before the end of enough silence.
  pub all-leave : (rest early : ℕ) → (cap + 1) * b + early ≤ rest
      → HaveLeft (length (line ++ silent rest) - early) (accepted_of heard gap cap (line ++ silent rest))
  all-leave rest early enough =
      let m : ℕ = length line in
      let start : Spaced = record { accepted = []; lost = [] } in
      let ds : List Burst = accepted_of heard gap cap line in
      let all : IsSoon gap m b cap (spaced heard gap cap line) =
      all-soon gap m b cap start (arrivals heard line)
      (arrivals-steps heard [] line m (omega arith)) short
      (record { soon = tt; few = omega arith }) in
      let far = reach gap m b 0 ds all.soon in
      let few = mul-le-mul_right b all.few in
      let long = length-append line (silent rest) in
      let quiet = length-replicate rest Silent in
      let more : (cap + 1) * b ≡ b + cap * b = grind arith in
      let by : free_from gap 0 ds ≤ length (line ++ silent rest) - early = omega arith in
      let same : accepted_of heard gap cap (line ++ silent rest) ≡ ds =
      ap (λ x. (fold (take_in gap cap) start x).accepted) (same-arrivals rest) in
      subst (λ x. HaveLeft (length (line ++ silent rest) - early) x) (sym same)
      (reached gap m b 0 (length (line ++ silent rest) - early) ds all.soon by)

-- ---- Modbus RTU

module _ (cut pause : ℕ) where
  -- If all bursts are closed at two moments, the same is read of them at both.
  closed-read : (k m n : ℕ) (ds : List Burst) → EndBy k ds → k + cut ≤ m → k + cut ≤ n
      → frames_read cut pause m ds ≡ frames_read cut pause n ds
  closed-read k m n [] ends early late = refl
  closed-read k m n (d ∷ ds) ends early late =
      let end : end_of d ≤ k = ends.0 in
      let one : (i : ℕ) → k + cut ≤ i → frames_read cut pause i (d ∷ [])
      ≡ cond (is_frame_body pause d.body) (frame_in d ∷ []) [] =
      λ i by. frames_read-ended cut pause i d (omega arith) in
      frames_read-append cut pause m (d ∷ []) ds
      ∙ (ap (λ x. x ++ frames_read cut pause m ds) (one m early ∙ sym (one n late))
      ∙ (ap (λ x. frames_read cut pause n (d ∷ []) ++ x) (closed-read k m n ds ends.1 early late)
      ∙ sym (frames_read-append cut pause n (d ∷ []) ds)))

  -- Once the silence that ends a burst is over, nothing more is read in silence.
  pub rtu-nothing : (line : List Tick) → ReadsNothing (reads_with cut pause) (line ++ silent cut)
  rtu-nothing line n =
      let quiet : List Tick = line ++ silent cut in
      let ds : List Burst = bursts_from cut 0 line in
      let short : bursts_from cut 0 quiet ≡ ds = bursts_from-silent_end cut 0 cut line in
      let same : bursts_from cut 0 (quiet ++ silent n) ≡ ds =
      bursts_from-silent_end cut 0 n quiet ∙ short in
      let first = length-append line (silent cut) in
      let second = length-append quiet (silent n) in
      let few = length-replicate cut Silent in
      let more = length-replicate n Silent in
      let all : EndBy (length line) ds =
      bursts_from-end cut 0 (length line) line (omega arith) in
      ap (λ x. frames_read cut pause (length (quiet ++ silent n)) x) same
      ∙ (closed-read (length line) (length (quiet ++ silent n)) (length quiet) ds all (omega arith)
      (omega arith)
      ∙ ap (λ x. frames_read cut pause (length quiet) x) (sym short))

  rtu-short : (gap : ℕ) (line : List Tick)
      → All (λ (f : FrameRead). length f.frame + gap ≤ 256 + gap) (reads_with cut pause line)
  rtu-short gap line k f within =
      let frame : List ℕ = (get_or (reads_with cut pause line) k f).frame in
      let fits : length frame ≤ 256 = rtu_framed.has_room frame
      (rtu-frames cut pause line k f within) in
      omega arith

  pub rtu-leave : (gap cap : ℕ) (line : List Tick) (rest early : ℕ)
      → (cap + 1) * (256 + gap) + cut + early ≤ rest
      → HaveLeft (length (line ++ silent rest) - early)
      (accepted_of (reads_with cut pause) gap cap (line ++ silent rest))
  rtu-leave gap cap line rest early enough =
      let heard : List Tick → List FrameRead = reads_with cut pause in
      let quiet : List Tick = line ++ silent cut in
      let P : List Tick → Type 0 =
      λ l. HaveLeft (length l - early) (accepted_of heard gap cap l) in
      let joined : quiet ++ silent (rest - cut) ≡ line ++ silent rest =
      append_assoc line (silent cut) (silent (rest - cut))
      ∙ ap (λ x. line ++ x) (silent-join cut (rest - cut) rest (omega arith)) in
      subst P joined
      (all-leave heard gap cap (256 + gap) quiet
      (arrivals-all (λ (f : FrameRead). length f.frame + gap ≤ 256 + gap) heard [] quiet
      (λ n. rtu-short gap (take n quiet)))
      (rtu-nothing line) (rest - cut) early (omega arith))
    where
      silent-join : (a c n : ℕ) → a + c ≡ n → silent a ++ silent c ≡ silent n
      silent-join zero c n sum = let same : c ≡ n = omega arith in ap (λ k. silent k) same
      silent-join (suc a) c zero sum = absurd (omega arith)
      silent-join (suc a) c (suc n) sum = ap (λ x. Silent ∷ x) (silent-join a c n (omega arith))

-- ---- devices that hunt

module _ (first second : ℕ) (rules : Rules) (lawful : IsLawful rules)
    (framed : IsFramed rules) where
  timed-fit : (n : ℕ) (line : List Tick) → AreTicks line → AreBytes (timed_bytes (timed n line))
  timed-fit n [] fit = λ k d none. absurd (omega arith)
  timed-fit n (Silent ∷ line) fit = timed-fit (suc n) line fit.1
  timed-fit n (Byte b ∷ line) fit =
      all-cons (λ c. c < 256) b (timed_bytes (timed (suc n) line)) fit.0
      (timed-fit (suc n) line fit.1)

  bursts-fit : (cut n : ℕ) (line : List Tick) (ds : List Burst) → AreBursts cut n line ds
      → AreTicks line → All (λ (d : Burst). AreBytes (timed_bytes (timed d.start d.body))) ds
  bursts-fit cut n line [] are fit = λ k d none. absurd (omega arith)
  bursts-fit cut n line (d ∷ ds) are fit =
      let P : List Tick → Type 0 = λ x. AreTicks x in
      let parts : AreTicks (d.body ++ are.1) =
      ticks-behind (silent are.0) (d.body ++ are.1) (subst P are.2 fit) in
      all-cons (λ (e : Burst). AreBytes (timed_bytes (timed e.start e.body))) d ds
      (timed-fit d.start d.body (ticks-front d.body are.1 parts))
      (bursts-fit cut (end_of d) are.1 ds are.6 (ticks-behind d.body are.1 parts))

  module _ (gap : ℕ) where
    abbrev IsShort : FrameRead → Type 0
    IsShort f = length f.frame + gap ≤ rules.longest + gap

    takes-short : (start n : ℕ) (x : List ℕ) → AreBytes x → rules.is_frame (take n x) ≡ true
        → IsShort (record { start = start; frame = take n x })
    takes-short start n x fit is =
        let room = framed.has_room (take n x) is in
        let most = lawful.bounded (take n x) (All-take (λ b. b < 256) n x fit) in
        omega arith

    fewer : (b : ℕ) (x : List ℕ) → AreBytes (b ∷ x) → AreBytes x
    fewer b x fit = all-others (λ c. c < 256) b x fit

    hunt-short : (cut : ℕ) (line : List Tick) → AreTicks line
        → All IsShort (hunt_family first second rules cut line)
    hunt-short zero line fit =
        hunt-all first second rules AreBytes IsShort fewer takes-short 0 (timed 0 line)
        (timed-fit 0 line fit)
    hunt-short (suc cut) line fit =
        hunts-all first second rules AreBytes IsShort fewer takes-short
        (bursts_from (suc cut) 0 line)
        (bursts-fit (suc cut) 0 line (bursts_from (suc cut) 0 line)
        (bursts_from-are (suc cut) 0 line) fit)

    pub hunt-nothing : (cut : ℕ) (line : List Tick)
        → ReadsNothing (hunt_family first second rules cut) line
    hunt-nothing zero line n = ap (hunt first second rules 0) (timed-silences line n)
    hunt-nothing (suc cut) line n =
        ap (λ ds. flat_map (λ (d : Burst). hunt first second rules 0 (timed d.start d.body)) ds)
        (bursts_from-silent_end (suc cut) 0 n line)

    pub hunt-leave : (cut cap : ℕ) (line : List Tick) (rest early : ℕ) → AreTicks line
        → (cap + 1) * (rules.longest + gap) + early ≤ rest
        → HaveLeft (length (line ++ silent rest) - early)
        (accepted_of (hunt_family first second rules cut) gap cap (line ++ silent rest))
    hunt-leave cut cap line rest early fit enough =
        let heard : List Tick → List FrameRead = hunt_family first second rules cut in
        let P : List Tick → Type 0 = λ x. AreTicks x in
        all-leave heard gap cap (rules.longest + gap) line
        (arrivals-all IsShort heard [] line
        (λ n. hunt-short cut (take n line) (ticks-front (take n line) (drop n line)
        (subst P (sym (take-append-drop n line)) fit))))
        (hunt-nothing cut line) rest early enough

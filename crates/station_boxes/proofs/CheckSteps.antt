-- What one more tick gives a receiver of several stations, of which a receiver of one station has
-- taken the ticks since it began.
use Rattle.frame_ending.proofs.{Spread.AreSpread, Spread.EndBy, Spread.bursts-spread}
use Rattle.frame_ending.proofs.{Spread.bursts-end, Walks.adds_one_tick, Walks.state_after-append}
use Rattle.frame_ending.proofs.{BurstSteps.alone-live, Dividing.longer-line}
use Rattle.frame_ending.specs.Answers.{AnswersTick, told_notes, note_in}
use Rattle.frame_ending.specs.Causal.{IsCausal, AddsOneTick}
use Rattle.frame_ending.specs.{Cuts.cut_of, HasCome.AreNoted, Laid.later, Laid.tick_at}
use Rattle.frame_ending.specs.LiveBytes.{live_bytes}
use Rattle.frame_ending.specs.SoFar.{last_burst, live_bytes_in, live_bytes_so_far, start_in}
use Rattle.frame_ending.specs.SoFar.{start_so_far}
use Rattle.frame_ending.specs.Walk.{Walker, Noted, noted, walked, emitted_by, state_after, notes_at}
use Rattle.frame_ending.specs.Walk.{notes_of}
use Rattle.frame_ending.specs.declared.cut.Cut.TheVariants.{Start}
use Rattle.line_rules.specs.Rules.{Rules}
use Rattle.line_rules.specs.declared.line_rules.LineRules.{Ghosts as LineRules}
use Rattle.link_box.proofs.{CheckCausality.checker-causal, Judging.checked-busy}
use Rattle.link_box.specs.Checking.{FullNote, at_floor, brief_note, checker, note_by, state_by}
use Rattle.link_box.specs.Checking.FullNote.{passed_note, refused_note, dropped_note}
use Rattle.link_box.specs.{Holding.HasWalked, Timely.IsTimely}
use Rattle.link_box.specs.Verdicts.{CheckState, Verdict, checked}
use Rattle.link_box.specs.Verdicts.Verdict.{passed_with, refused, dropped}
use Rattle.link_box.specs.declared.check_note.CheckNote.{CheckNote}
use Rattle.link_box.specs.declared.check_note.CheckNote.TheVariants.{Passed, Refused, Dropped}
use Rattle.link_box.specs.declared.check_note.DroppedWhy.TheVariants.{Busy}
use Rattle.link_format.specs.declared.tag.Mac.{Ghosts as Mac}
use Rattle.link_format.specs.{Profile.Profile, Profile.profile_of, Setup.Setup, Tag.tag}
use Rattle.sequence_journal.specs.declared.numbers.TheConstants.{LIMIT}
use Rattle.station_boxes.proofs.Anew.{Follow, follow-emitted, follow-floors}
use Rattle.station_boxes.proofs.Anew.{follow-free, follow-walked, late_noted}
use Rattle.station_boxes.proofs.Begun.{busy-soon, not-busy, shared-past, walked-closed}
use Rattle.station_boxes.proofs.Joined.{answers-joined, late_brief, notes-joined, step-told}
use Rattle.station_boxes.proofs.Parts.{IsSoon, closed-noted, closed-part, last-part, leads-on}
use Rattle.station_boxes.proofs.Parts.{no-bursts, open-soon, parts-begin, parts-closed, parts-more}
use Rattle.station_boxes.proofs.Parts.{start-closed}
use Rattle.station_boxes.specs.CheckWalks.{PassesNext, ServesFirst, checking_walk, floors_since}
use Rattle.station_boxes.specs.CheckWalks.{free_after_first, setup_of_one, state_at, walk_of}
use Rattle.station_boxes.specs.Late.{InParts, StartBefore, late}
use Rattle.station_boxes.specs.Names.{name_in}
use Rattle.station_boxes.specs.declared.naming.Naming.TheVariants.{FirstByte}
use Rattle.station_boxes.specs.Walks.{StationSetup, begun_at, stations_profile}
use Rattle.stations.proofs.{Causality.shared-causal, Blind.checks-blind}
use Rattle.stations.specs.Shared.{SharedState, checking_box, with_floor}
use Rattle.stations.specs.Table.{table_key}
use Rattle.std.proofs.Common.{◌≡◌, ◌∙◌, ◌==◌, ℕ, ◌+◌, ◌-◌, ◌<◌, ◌≤◌, Bool, List, [], ◌∷◌, ◌++◌, length, map}
use Rattle.std.proofs.Common.{refl, sym, ap, subst, arith, ⊎_elim, Option, Some, get_or}
use Rattle.std.proofs.lemmas.Bool.{cases_Bool, cond-true, cond-false, ne_eqb}
use Rattle.std.specs.Prelude.{option_map}
use Rattle.yasir_ticks.specs.Bursts.{Burst, bursts, end_of, AreClosed}
use Rattle.yasir_ticks.specs.BurstsOf.{IsContiguous, one, more}
use Rattle.yasir_ticks.proofs.BurstLaws.{alone, bursts_from-byte, bursts_from-silent, extended}
use Rattle.yasir_ticks.proofs.BurstLaws.{extended-nil}
use Rattle.yasir_ticks.specs.declared.tick.Tick.{Tick, TheVariants.Silent, TheVariants.Byte}

-- ---- the burst that is noted

some-ticks : (x : List Tick) → IsContiguous 4 x → 0 < length x
some-ticks x (one b) = omega arith
some-ticks x (more b gap rest few next) = omega arith

before-front : (n : ℕ) (front : List Burst) (d : Burst) → StartBefore n (front ++ d ∷ [])
    → StartBefore n front × (d.start < n)
before-front n [] d before = (tt, before.0)
before-front n (e ∷ front) d before =
    let rest = before-front n front d before.1 in ((before.0, rest.0), rest.1)

-- Holds if the note is that of the last of these bursts.
pub record NotedLast (profile : Profile) (rules : Rules) (s : CheckState) (note : CheckNote)
    (ds : List Burst) : Type 0 where
  pub front : List Burst
  pub last : Burst
  pub is : ds ≡ front ++ last ∷ []
  pub note_is : brief_note (note_by rules last
      (checked profile rules (state_after (checker profile rules) s front) last)) ≡ note

module _ (profile : Profile) (rules : Rules) (causal : IsCausal (checker profile rules)) (k : ℕ)
    (note : CheckNote) where
  abbrev o : Walker CheckState FullNote
  o = checker profile rules

  abbrev Told : List (Noted FullNote) → Type 0
  Told notes = told_notes brief_note notes ≡ note_in k (Some note)

  pub noted-last : (s : CheckState) (n : ℕ) (ds : List Burst) → AreSpread 4 n ds → EndBy (k + 1) ds
      → Told (notes_at k (walked o s ds)) → NotedLast profile rules s note ds
  noted-last s n [] spread ends told = absurd cc
  noted-last s n (d ∷ []) spread ends told =
      ⊎_elim
      (λ now. let its : Told (noted o s d ∷ []) = subst Told (cond-true _ _ _ now) told in
      let x : Noted CheckNote = record { tick = k; note = note } in
      record {
        front = [];
        last = d;
        is = refl;
        note_is = ap (λ l. (get_or l 0 x).note) its;
      })
      (λ other. let none : Told [] = subst Told (cond-false _ _ _ other) told in absurd cc)
      (cases_Bool (o.tick s d == k))
  noted-last s n (d ∷ e ∷ ds) spread ends told =
      let soon = causal.in_time s d spread.1 in
      let next : end_of d + 4 ≤ e.start = spread.2.0 in
      let some = some-ticks e.body spread.2.1 in
      let end : end_of e ≤ k + 1 = ends.1.0 in
      let other = ne_eqb (o.tick s d) k (λ same. omega arith) in
      let rest = noted-last (o.next s d) (end_of d + 4) (e ∷ ds) spread.2 ends.1
      (subst Told (cond-false _ _ _ other) told) in
      record {
        front = d ∷ rest.front;
        last = rest.last;
        is = ap (λ l. d ∷ l) rest.is;
        note_is = rest.note_is;
      }

-- a note with another start
abbrev pub at_start : ℕ → CheckNote → CheckNote
at_start from (Passed number start len) = Passed number from len
at_start from (Refused start why) = Refused from why
at_start from (Dropped start why) = Dropped from why

-- Holds of a note on a burst that isn't dropped.
abbrev pub IsOnJudged : CheckNote → Type 0
IsOnJudged (Passed number start len) = Unit {0}
IsOnJudged (Refused start why) = Unit {0}
IsOnJudged (Dropped start why) = ⊥

late-start : (m : ℕ) (rules : Rules) (d : Burst) (v : Verdict)
    → late_brief m (brief_note (note_by rules d v))
    ≡ at_start (m + d.start) (brief_note (note_by rules d v))
late-start m rules d (passed_with n) = refl
late-start m rules d (refused why) = refl
late-start m rules d (dropped why) = refl

-- Only the first of bursts that start too soon after it isn't dropped.
first-judged : (profile : Profile) (rules : Rules) (s : CheckState) (note : CheckNote)
    (d : Burst) (ds : List Burst) → StartBefore ((checker profile rules).next s d).earliest_start ds
    → IsOnJudged note → (front : List Burst) (last : Burst) → d ∷ ds ≡ front ++ last ∷ []
    → brief_note (note_by rules last
    (checked profile rules (state_after (checker profile rules) s front) last)) ≡ note
    → (front ≡ []) × (last ≡ d)
first-judged profile rules s note d ds busy judged [] last is noted = (refl, cc)
first-judged profile rules s note d ds busy judged (e ∷ front) last is noted =
    let o : Walker CheckState FullNote = checker profile rules in
    let same : d ≡ e = cc in
    let rest : ds ≡ front ++ last ∷ [] = cc in
    let P : List Burst → Type 0 = λ l. StartBefore (o.next s d).earliest_start l in
    let parts = before-front (o.next s d).earliest_start front last (subst P rest busy) in
    let state : state_after o (o.next s d) front ≡ o.next s d = busy-own profile rules (o.next s d) front parts.0 in
    let Q : Burst → Type 0 = λ x. brief_note (note_by rules last
    (checked profile rules (state_after o (o.next s x) front) last)) ≡ note in
    let R : CheckState → Type 0 = λ x. brief_note (note_by rules last (checked profile rules x last))
    ≡ note in
    let its : brief_note (note_by rules last (checked profile rules (o.next s d) last)) ≡ note =
    subst R state (subst Q (sym same) noted) in
    let V : Verdict → Type 0 = λ v. brief_note (note_by rules last v) ≡ note in
    let dropped_is : Dropped last.start Busy ≡ note =
    subst V (checked-busy profile rules (o.next s d) last parts.1) its in
    absurd (subst IsOnJudged (sym dropped_is) judged)
  where
    busy-own : (profile : Profile) (rules : Rules) (t : CheckState) (l : List Burst)
        → StartBefore t.earliest_start l → state_after (checker profile rules) t l ≡ t
    busy-own profile rules t [] before = refl
    busy-own profile rules t (x ∷ l) before =
        ap (λ v. state_after (checker profile rules) (state_by profile rules t x v) l)
        (checked-busy profile rules t x before.0)
        ∙ busy-own profile rules t l before.1

-- the note of a passed burst
passed-of : (n : FullNote) (number start len : ℕ) → brief_note n ≡ Passed number start len
    → (from : ℕ) × (frame : List ℕ) × (n ≡ passed_note number from frame)
passed-of (passed_note number start frame) m from len is =
    let same : number ≡ m = cc in (start, frame, ap (λ x. passed_note x start frame) same)
passed-of (refused_note start why) m from len is = absurd cc
passed-of (dropped_note start why) m from len is = absurd cc

one-note : (k : ℕ) (note : CheckNote) (notes : List (Noted FullNote))
    → told_notes brief_note notes ≡ note_in k (Some note)
    → (n : Noted FullNote) × (notes ≡ n ∷ []) × (n.tick ≡ k) × (brief_note n.note ≡ note)
one-note k note [] told = absurd cc
one-note k note (n ∷ []) told =
    let x : Noted CheckNote = record { tick = k; note = note } in
    (n, refl, ap (λ l. (get_or l 0 x).tick) told, ap (λ l. (get_or l 0 x).note) told)
one-note k note (n ∷ other ∷ notes) told = absurd cc

no-last : (front : List Burst) (d : Burst) → [] ≡ front ++ d ∷ [] → ⊥
no-last [] d same = cc
no-last (e ∷ front) d same = cc

module _ {R M : Type 0} (proto : LineRules R) (macs : Mac M) (B : ℕ) (wide : 2 ≤ B)
    (setup : StationSetup) where
  abbrev rules : Rules
  rules = proto.rules

  abbrev station : List ℕ → ℕ
  station = name_in setup.naming

  abbrev P : Profile
  P = stations_profile proto macs B setup

  abbrev w : Walker SharedState FullNote
  w = checking_walk proto macs B setup

  abbrev begun : SharedState
  begun = begun_at setup

  abbrev base : Profile
  base = profile_of proto macs B LIMIT (record { key = []; direction = setup.direction; floor = 0 })

  abbrev tags_of : List ℕ → ℕ → List ℕ → List ℕ
  tags_of key number frame = tag macs.tag_of key rules.label setup.direction frame number

  abbrev all : ℕ → List ℕ → List ℕ
  all number frame = tags_of (table_key setup.table (station frame)) number frame

  timely-of : (x : Setup) → IsTimely (profile_of proto macs B LIMIT x) rules
  timely-of x =
      let short = proto.headed.short in
      record {
        in_time = ⊎_elim (λ twelve. omega arith) (λ sixteen. omega arith) macs.tag_size;
      }

  pub one-causal : (x : Setup) → IsCausal (walk_of proto macs B setup x)
  one-causal x = checker-causal (profile_of proto macs B LIMIT x) rules proto.lawful proto.headed
      (timely-of x)

  pub all-causal : IsCausal w
  all-causal =
      let any : Setup = record { key = []; direction = setup.direction; floor = 0 } in
      shared-causal station rules (checking_box P rules)
      (checker-causal P rules proto.lawful proto.headed (record { in_time = (timely-of any).in_time }))
      (checks-blind P rules proto.lawful proto.headed)

  -- ---- the walks of both

  module _ (m : ℕ) (s : SharedState) (free : s.free_from ≤ m) where
    follow-of : (d : Burst) (ds : List Burst) (name : ℕ) → station (live_bytes rules d) ≡ name
        → StartBefore (free_after_first proto macs B setup
        (setup_of_one proto macs B setup name (s.floors name)) d) ds
        → Follow m base all (tags_of (table_key setup.table name)) rules station s
        (at_floor (s.floors name)) d ds
    follow-of d ds name named busy = record {
      free = omega arith;
      floor = ap s.floors named;
      tags = λ n. ap (λ i. tags_of (table_key setup.table i) n (live_bytes rules d)) named;
      busy = busy;
    }

    abbrev SameNotes : Setup → List Burst → Type 0
    SameNotes x es = walked w s (late m es)
        ≡ map (late_noted m) (walked (walk_of proto macs B setup x) (at_floor x.floor) es)

    abbrev SameTicks : Setup → List Burst → Type 0
    SameTicks x es = emitted_by w s (late m es)
        ≡ late m (emitted_by (walk_of proto macs B setup x) (at_floor x.floor) es)

    pub same-notes : (x : Setup) (name : ℕ) (es : List Burst)
        → ServesFirst proto macs B setup s.floors x name es → SameNotes x es
    same-notes x name [] serves = refl
    same-notes x name (d ∷ ds) serves =
        let Q : Setup → Type 0 = λ y. StartBefore (free_after_first proto macs B setup y d) ds in
        let Z : Setup → Type 0 = λ y. SameNotes y (d ∷ ds) in
        subst Z (sym serves.1)
        (follow-walked m base all (tags_of (table_key setup.table name)) rules station s
        (at_floor (s.floors name)) d ds
        (follow-of d ds name serves.0 (subst Q serves.1 serves.2)))

    pub same-ticks : (x : Setup) (name : ℕ) (es : List Burst)
        → ServesFirst proto macs B setup s.floors x name es → SameTicks x es
    same-ticks x name [] serves = refl
    same-ticks x name (d ∷ ds) serves =
        let Q : Setup → Type 0 = λ y. StartBefore (free_after_first proto macs B setup y d) ds in
        let Z : Setup → Type 0 = λ y. SameTicks y (d ∷ ds) in
        subst Z (sym serves.1)
        (follow-emitted m base all (tags_of (table_key setup.table name)) rules station s
        (at_floor (s.floors name)) d ds
        (follow-of d ds name serves.0 (subst Q serves.1 serves.2)))

    -- after the bursts of the second part
    abbrev SameAfter : Setup → ℕ → List Burst → Type 0
    SameAfter x name es =
        let t : CheckState = state_after (walk_of proto macs B setup x) (at_floor x.floor) es in
        (t.earliest_start ≡ (state_after w s (late m es)).free_from - m)
        × ((j : ℕ) → (state_after w s (late m es)).floors j
        ≡ floors_since proto macs B setup s.floors name t.floor es j)

    pub same-after : (x : Setup) (name : ℕ) (es : List Burst)
        → ServesFirst proto macs B setup s.floors x name es → SameAfter x name es
    same-after x name [] serves = (omega arith, λ j. refl)
    same-after x name (d ∷ ds) serves =
        let Q : Setup → Type 0 = λ y. StartBefore (free_after_first proto macs B setup y d) ds in
        let Z : Setup → Type 0 = λ y. SameAfter y name (d ∷ ds) in
        let follow = follow-of d ds name serves.0 (subst Q serves.1 serves.2) in
        let one_box : Setup = setup_of_one proto macs B setup name (s.floors name) in
        let t : CheckState = state_after (walk_of proto macs B setup one_box) (at_floor one_box.floor)
        (d ∷ ds) in
        subst Z (sym serves.1) (
          follow-free m base all (tags_of (table_key setup.table name)) rules station s
              (at_floor (s.floors name)) d ds follow,
          λ j. follow-floors m base all (tags_of (table_key setup.table name)) rules station s
              (at_floor (s.floors name)) d ds follow j
              ∙ ap (λ i. with_floor s.floors i t.floor j) serves.0,
        )

    -- the state of the receiver of one station after all these bursts is that after the first
    pub after-first : (x : Setup) (d : Burst) (ds : List Burst)
        → StartBefore (free_after_first proto macs B setup x d) ds
        → state_after (walk_of proto macs B setup x) (at_floor x.floor) (d ∷ ds)
        ≡ (walk_of proto macs B setup x).next (at_floor x.floor) d
    after-first x d ds busy = by ((walk_of proto macs B setup x).next (at_floor x.floor) d) ds busy
      where
        by : (t : CheckState) (l : List Burst) → StartBefore t.earliest_start l
            → state_after (walk_of proto macs B setup x) t l ≡ t
        by t [] before = refl
        by t (e ∷ l) before =
            ap (λ v. state_after (walk_of proto macs B setup x)
            (state_by (profile_of proto macs B LIMIT x) rules t e v) l)
            (checked-busy (profile_of proto macs B LIMIT x) rules t e before.0)
            ∙ by t l before.1

  -- ---- a step

  module _ (before since line : List Tick) (t : Tick) (parts : InParts before since line)
      (free : (state_at proto macs B setup before).free_from ≤ length before) (x : Setup) (name : ℕ)
      (serves : ServesFirst proto macs B setup (state_at proto macs B setup before).floors x name
      (bursts (since ++ t ∷ []))) (answer : Tick) (told : Option CheckNote)
      (answers : AnswersTick (walk_of proto macs B setup x) brief_note (at_floor x.floor) since t
      answer told) where
    abbrev m : ℕ
    m = length before

    abbrev k : ℕ
    k = length since

    abbrev s : SharedState
    s = state_at proto macs B setup before

    abbrev es : List Burst
    es = bursts (since ++ t ∷ [])

    parts-after : InParts before (since ++ t ∷ []) (line ++ t ∷ [])
    parts-after = parts-more before since line t parts

    noted-before : AreNoted w begun m (bursts before)
    noted-before = closed-noted w all-causal begun before parts.closed

    left-before : (i : ℕ) → m ≤ i → (later_ones : List Burst)
        → tick_at (emitted_by w begun (bursts before) ++ later_ones) i ≡ tick_at later_ones i
    left-before i from later_ones =
        shared-past P rules station begun (bursts before) i (omega arith) later_ones

    -- The step returns what the walk of the receiver of several stations adds.
    pub step-answers : AnswersTick w brief_note begun line t answer (option_map (late_brief m) told)
    step-answers = answers-joined w (walk_of proto macs B setup x) all-causal (one-causal x) begun s
        (at_floor x.floor) before since line t noted-before refl left-before parts.long
        parts-after.are (same-notes m s free x name es serves) (same-ticks m s free x name es serves)
        answer told answers

    notes-here : told_notes brief_note (notes_at k (walked (walk_of proto macs B setup x)
        (at_floor x.floor) es)) ≡ note_in k told
    notes-here = step-told (walk_of proto macs B setup x) (one-causal x) (at_floor x.floor) since t
        answer told answers

    module _ (note : CheckNote) (is : told ≡ Some note) where
      last-noted : NotedLast (profile_of proto macs B LIMIT x) rules (at_floor x.floor) note es
      last-noted =
          let E : ℕ → Type 0 = λ n. EndBy n es in
          let long = longer-line since t in
          noted-last (profile_of proto macs B LIMIT x) rules (one-causal x) k note (at_floor x.floor) 0
          es (bursts-spread (since ++ t ∷ [])) (subst E long (bursts-end (since ++ t ∷ [])))
          (notes-here ∙ ap (λ y. note_in k y) is)

      last-here : last_burst (line ++ t ∷ []) ≡ Some (later m last-noted.last)
      last-here = last-part before (since ++ t ∷ []) (line ++ t ∷ []) parts-after last-noted.front
          last-noted.last last-noted.is

      pub note-some : es ≡ [] → ⊥
      note-some none = no-last last-noted.front last-noted.last (sym none ∙ last-noted.is)

      -- The note tells the start of the last burst.
      pub note-start : late_brief m note ≡ at_start (start_so_far (line ++ t ∷ [])) note
      note-start =
          let start : start_so_far (line ++ t ∷ []) ≡ m + last-noted.last.start =
          ap (λ y. start_in y) last-here in
          let N : CheckNote → Type 0 = λ y. late_brief m y ≡ at_start (m + last-noted.last.start) y in
          subst N last-noted.note_is (late-start m rules last-noted.last
          (checked (profile_of proto macs B LIMIT x) rules
          (state_after (walk_of proto macs B setup x) (at_floor x.floor) last-noted.front)
          last-noted.last))
          ∙ ap (λ i. at_start i note) (sym start)

      -- A burst that isn't dropped names the station that is served.
      pub note-named : IsOnJudged note → station (live_bytes_so_far rules (line ++ t ∷ [])) ≡ name
      note-named judged = by es serves last-noted.is where
        by : (l : List Burst) → ServesFirst proto macs B setup s.floors x name l
            → l ≡ last-noted.front ++ last-noted.last ∷ []
            → station (live_bytes_so_far rules (line ++ t ∷ [])) ≡ name
        by [] none same = absurd (no-last last-noted.front last-noted.last same)
        by (d ∷ ds) first same =
            let only = first-judged (profile_of proto macs B LIMIT x) rules (at_floor x.floor) note d
            ds first.2 judged last-noted.front last-noted.last same last-noted.note_is in
            ap (λ y. station (live_bytes_in rules y)) last-here
            ∙ (ap (λ e. station (live_bytes rules e)) only.1 ∙ first.0)

    -- If a frame passes in the step, it does so by the walk.
    pub step-passes : (number start len : ℕ) → told ≡ Some (Passed number start len)
        → PassesNext w begun line t number
    step-passes number start len is =
        let notes : List (Noted FullNote) =
        notes_at k (walked (walk_of proto macs B setup x) (at_floor x.floor) es) in
        let single = one-note k (Passed number start len) notes
        (notes-here ∙ ap (λ y. note_in k y) is) in
        let n : Noted FullNote = single.0 in
        let passed = passed-of n.note number start len single.3 in
        let on : AddsOneTick w begun line t = adds_one_tick w all-causal begun line t in
        let joined = notes-joined w (walk_of proto macs B setup x) all-causal (one-causal x) begun s
        (at_floor x.floor) before since line t noted-before refl left-before parts.long
        parts-after.are (same-notes m s free x name es serves) (same-ticks m s free x name es serves) in
        let tick : m + n.tick ≡ length line = ap (λ i. m + i) single.2 ∙ sym parts.long in
        record {
          start = m + passed.0;
          frame = passed.1;
          note = on.notes ∙ ap (λ l. notes_of w begun line ++ l)
              (joined ∙ (ap (λ l. map (late_noted m) l) single.1
              ∙ (ap (λ y. late_noted m (record { tick = n.tick; note = y }) ∷ []) passed.2
              ∙ ap (λ i. let y : Noted FullNote = record {
                tick = i;
                note = passed_note number (m + passed.0) passed.1;
              } in y ∷ []) tick)));
        }

  -- ---- whether the receiver of one station goes on, or is begun anew

  module _ (before since line : List Tick) (parts : InParts before since line)
      (free : (state_at proto macs B setup before).free_from ≤ length before) (x : Setup) (name : ℕ)
      (serves : ServesFirst proto macs B setup (state_at proto macs B setup before).floors x name
      (bursts since)) where
    abbrev floors_then : ℕ → ℕ
    floors_then = (state_at proto macs B setup before).floors

    -- Holds if the receiver of one station still serves the first burst after the tick `t`, and
    -- the floors are those of as many stations.
    abbrev pub GoesOn : Tick → Type 0
    GoesOn t =
        ServesFirst proto macs B setup floors_then x name (bursts (since ++ t ∷ []))
        × ((last j : ℕ) → floors_since proto macs B setup floors_then name last (bursts since) j
        ≡ floors_since proto macs B setup floors_then name last (bursts (since ++ t ∷ [])) j)

    -- A silent tick changes no burst.
    pub goes-silent : GoesOn Silent
    goes-silent =
        let same : bursts (since ++ Silent ∷ []) ≡ bursts since = bursts_from-silent 4 0 since in
        let F : List Burst → Type 0 = λ l. ServesFirst proto macs B setup floors_then x name l in (
          subst F (sym same) serves,
          λ last j. sym (ap (λ l. floors_since proto macs B setup floors_then name last l j) same),
        )

    goes-by : setup.naming ≡ FirstByte → (t : Tick) (l : List Burst) → bursts since ≡ l
        → (l ≡ [] → ⊥)
        → ((d : Burst) (ds : List Burst) → l ≡ d ∷ ds
        → IsSoon (length since) (d ∷ ds) (free_after_first proto macs B setup x d))
        → ServesFirst proto macs B setup floors_then x name l → GoesOn t
    goes-by first t [] is some soon served = absurd (some refl)
    goes-by first t (d ∷ ds) is some soon served =
        let on = leads-on rules proto.lawful since t d ds is in
        let F : List Burst → Type 0 = λ l. ServesFirst proto macs B setup floors_then x name l in (
          subst F (sym on.is) (
            ap (λ n. name_in n (live_bytes rules on.first)) first
                ∙ (on.named ∙ (sym (ap (λ n. name_in n (live_bytes rules d)) first) ∙ served.0)),
            served.1,
            on.busy (λ e. free_after_first proto macs B setup x e) served.2 (soon d ds refl),
          ),
          λ last j. ap (λ l. floors_since proto macs B setup floors_then name last l j) is
              ∙ sym (ap (λ l. floors_since proto macs B setup floors_then name last l j) on.is),
        )

    -- A byte that isn't the first of a burst belongs to the last one.
    pub goes-open : setup.naming ≡ FirstByte → (t : Tick)
        → (AreClosed 4 (length line) (bursts line) → ⊥) → GoesOn t
    goes-open first t open' =
        let here : AreClosed 4 (length since) (bursts since) → ⊥ =
        λ closed. open' (parts-closed before since line parts closed) in
        let C : List Burst → Type 0 = λ l. AreClosed 4 (length since) l in
        goes-by first t (bursts since) refl
        (λ none. here (subst C (sym none) tt))
        (λ d ds is. let S : List Burst → Type 0 = λ l. IsSoon (length since) l
        (free_after_first proto macs B setup x d) in
        subst S is (open-soon since (free_after_first proto macs B setup x d) here))
        serves

    module _ (b : ℕ) (starts : cut_of rules line (Byte b) ≡ Start b) (answer : Tick)
        (told : Option CheckNote)
        (answers : AnswersTick (walk_of proto macs B setup x) brief_note (at_floor x.floor) since
        (Byte b) answer told) where
      closed-line : AreClosed 4 (length line) (bursts line)
      closed-line = start-closed rules proto.lawful line b starts

      closed-since : AreClosed 4 (length since) (bursts since)
      closed-since = closed-part before since line parts closed-line

      abbrev then_state : CheckState
      then_state = state_after (walk_of proto macs B setup x) (at_floor x.floor) (bursts since)

      said-here : told_notes brief_note (notes_at (length since) (walked
          (walk_of proto macs B setup x) (at_floor x.floor) (bursts (since ++ Byte b ∷ []))))
          ≡ note_in (length since) told
      said-here = step-told (walk_of proto macs B setup x) (one-causal x) (at_floor x.floor) since
          (Byte b) answer told answers

      -- A burst that is dropped since others are still leaving is one of those after the first.
      pub goes-busy : setup.naming ≡ FirstByte → (start : ℕ) → told ≡ Some (Dropped start Busy)
          → GoesOn (Byte b)
      goes-busy first start is =
          let soon : length since < then_state.earliest_start =
          busy-soon (profile_of proto macs B LIMIT x) rules (one-causal x) (at_floor x.floor) since b
          closed-since told said-here start is in
          goes-by first (Byte b) (bursts since) refl
          (λ none. let E : List Burst → Type 0 = λ l. length since
          < (state_after (walk_of proto macs B setup x) (at_floor x.floor) l).earliest_start in
          let never : length since < 0 = subst E none soon in absurd (omega arith))
          (λ d ds same e last ended.
          let F : List Burst → Type 0 = λ l. ServesFirst proto macs B setup floors_then x name l in
          let served : ServesFirst proto macs B setup floors_then x name (d ∷ ds) =
          subst F same serves in
          let E : List Burst → Type 0 = λ l. length since
          < (state_after (walk_of proto macs B setup x) (at_floor x.floor) l).earliest_start in
          let T : CheckState → Type 0 = λ t. length since < t.earliest_start in
          subst T (after-first (length before) (state_at proto macs B setup before) free x d ds
          served.2) (subst E same soon))
          serves

      module _ (last earliest : ℕ) (passes : Bool) (left : List ℕ) (live : List Tick) (owes : ℕ)
          (waiting : Option Burst)
          (has : HasWalked (profile_of proto macs B LIMIT x) rules x.floor (length since)
          (bursts since) (record { floor = last; earliest_start = earliest }) passes left live owes
          waiting) where
        state-then : then_state ≡ record { floor = last; earliest_start = earliest }
        state-then = walked-closed (profile_of proto macs B LIMIT x) rules (one-causal x) x.floor since
            (record { floor = last; earliest_start = earliest }) passes left live owes waiting has
            closed-since

        state-now : state_at proto macs B setup line
            ≡ state_after w (state_at proto macs B setup before) (late (length before) (bursts since))
        state-now =
            ap (λ l. state_after w begun l) parts.are
            ∙ state_after-append w begun (bursts before) (late (length before) (bursts since))

        -- The floors of the walk are those of the stations.
        pub turn-floors : (j : ℕ) → (state_at proto macs B setup line).floors j
            ≡ floors_since proto macs B setup floors_then name last (bursts since) j
        turn-floors j =
            let after = same-after (length before) (state_at proto macs B setup before) free x name
            (bursts since) serves in
            ap (λ (y : SharedState). y.floors j) state-now
            ∙ (after.1 j
            ∙ ap (λ (t : CheckState). floors_since proto macs B setup floors_then name t.floor
            (bursts since) j) state-then)

        -- If the burst isn't dropped since others are still leaving, all that came before has left.
        pub turn-free : (told ≡ Some (Dropped (length since) Busy) → ⊥)
            → (state_at proto macs B setup line).free_from ≤ length line
        turn-free other =
            let after = same-after (length before) (state_at proto macs B setup before) free x name
            (bursts since) serves in
            let gone : then_state.earliest_start ≤ length since =
            not-busy (profile_of proto macs B LIMIT x) rules (one-causal x) (at_floor x.floor) since b
            closed-since told said-here other in
            let same : then_state.earliest_start
            ≡ (state_after w (state_at proto macs B setup before)
            (late (length before) (bursts since))).free_from - length before = after.0 in
            let now_free : (state_at proto macs B setup line).free_from
            ≡ (state_after w (state_at proto macs B setup before)
            (late (length before) (bursts since))).free_from =
            ap (λ (y : SharedState). y.free_from) state-now in
            let long : length line ≡ length before + length since = parts.long in
            omega arith

      -- The line is then the first of two parts, and the burst is the first of the second.
      pub turn-parts : InParts line [] line
      turn-parts = parts-begin line closed-line

      pub turn-serves : setup.naming ≡ FirstByte → (y : Setup) (floors : ℕ → ℕ)
          → y ≡ setup_of_one proto macs B setup b (floors b)
          → ServesFirst proto macs B setup floors y b (bursts ([] ++ Byte b ∷ []))
      turn-serves first y floors is =
          let F : List Burst → Type 0 = λ l. ServesFirst proto macs B setup floors y b l in
          let here : bursts (Byte b ∷ []) ≡ alone 0 b ∷ [] =
          bursts_from-byte 4 0 0 b [] refl
          ∙ (ap (λ l. extended 4 0 b l) no-bursts ∙ extended-nil 4 0 b) in
          subst F (sym here) (
            ap (λ n. name_in n (live_bytes rules (alone 0 b))) first
                ∙ ap (λ l. get_or l 0 0) (alone-live 0 b rules proto.lawful),
            is,
            tt,
          )

-- A spacer behind the receiver gives only frames that have passed.
use Rattle.frame_ending.proofs.{LaidBursts.bursts-laid, Spread.AreSpread, Spread.bursts-spread}
use Rattle.frame_ending.specs.{Laid.laid, Walk.emitted_by}
use Rattle.device_model.{proofs.ReadLaws.frames_ended, specs.Frames.FrameRead}
use Rattle.line_rules.specs.{Rules.Rules, RulesLaws.IsLawful, RulesLaws.IsFramed}
use Rattle.line_spacer.{proofs.Sending.on_line, specs.Arrivals.Arrival, specs.Arrivals.arrivals}
use Rattle.line_spacer.specs.Spacing.{Spaced, count_from, take_in, accepted_of, lost_of}
use Rattle.line_spacer.specs.Spacing.{spaced_line}
use Rattle.link_format.specs.NumberedFrame.{NumberedFrame, numbers_of}
use Rattle.link_format.specs.Profile.{Profile, delay}
use Rattle.link_box.proofs.Apart.{emissions-spread}
use Rattle.link_box.specs.Checking.{checker, at_floor, passed, received_line}
use Rattle.link_box.specs.Verdicts.{CheckState, checked, Verdict.refused}
use Rattle.link_box.specs.declared.check_note.RefusedWhy.{RefusedWhy}
use Rattle.receiver_laws.proofs.{Headline.passed-sealed, OverUptimes.accounted-for, Readings.wrong}
use Rattle.receiver_laws.proofs.Rising.{have_passed}
use Rattle.receiver_laws.proofs.{Standing.bytes_in-byte_ticks}
use Rattle.receiver_laws.proofs.Settled.{laid-longer, last_end, EndBy-last, EndBy-later}
use Rattle.receiver_laws.proofs.Subsequences.{nothing-is, front-is, map-is, chain-is}
use Rattle.receiver_laws.specs.Accounted.{IsSubsequence}
use Rattle.receiver_laws.specs.Accounted.IsSubsequence.{none, skip, keep}
use Rattle.receiver_laws.specs.{Headline.bytes_sealed, Reading.delivered, Reading.ReadsWhatPassed}
use Rattle.{link_box.specs.Sealing.sealed, sequence_journal.specs.Uptimes.RiseFrom}
use Rattle.spacer_laws.proofs.Accepted.{accepted-apart, taken-few, taken-many, with_frame}
use Rattle.spacer_laws.proofs.{Accepted.without_frame, LaidArrivals.frames-laid}
use Rattle.spacer_laws.proofs.Within.{apart-spread}
use Rattle.spacer_laws.specs.Guarding.{Placed, frames_placed, placed_ticks, StandApart, CarriesOnly}
use Rattle.spacer_laws.specs.{Guarding.GivesOnlySealed, SpacesOut.AreApart, SpacesOut.ReadsFrames}
use Rattle.std.proofs.Common.{◌≡◌, ◌∙◌, ℕ, ◌+◌, ◌<◌, ◌≤◌, List, [], ◌∷◌, ◌++◌, length, map, fold}
use Rattle.std.proofs.Common.{refl, sym, ap, subst, arith, ⊎_elim, Bool, false, append_assoc}
use Rattle.std.proofs.Common.{length-append}
use Rattle.std.proofs.lemmas.{Bool.cases_lt, List.append-nil, List.map-append}
use Rattle.yasir_ticks.proofs.BurstsOfLaws.{bursts_from-are}
use Rattle.yasir_ticks.specs.Bursts.{Burst, bursts, end_of}
use Rattle.yasir_ticks.specs.{BurstsOf.AreBursts, BurstsOf.IsContiguous, Ticks.bytes_in}
use Rattle.yasir_ticks.specs.{Ticks.silent, declared.tick.Tick.Tick}

-- ---- the accepted frames are some of those that are read, in their order

abbrev bodies : List Burst → List (List Tick)
bodies ds = map (λ d. d.body) ds

abbrev sent_bodies : List Arrival → List (List Tick)
sent_bodies as' = map (λ a. on_line a.frame.frame) as'

record IsSome (s : Spaced) (after : Spaced) (more : List Arrival) : Type 0 where
  kept : List Arrival
  among : IsSubsequence kept more
  are : bodies after.accepted ≡ bodies s.accepted ++ sent_bodies kept

module _ (gap cap : ℕ) where
  some-kept : (s : Spaced) (more : List Arrival) → IsSome s (fold (take_in gap cap) s more) more
  some-kept s [] = record { kept = []; among = none; are = sym (append-nil (bodies s.accepted)) }
  some-kept s (a ∷ more) =
      let P : Spaced → Type 0 = λ x. IsSome s (fold (take_in gap cap) x more) (a ∷ more) in
      ⊎_elim
      (λ few.
      let others = some-kept (with_frame gap cap s a) more in
      let new : List Tick = on_line a.frame.frame in
      let is : P (with_frame gap cap s a) = record {
        kept = a ∷ others.kept;
        among = keep others.among;
        are = others.are
            ∙ (ap (λ x. x ++ sent_bodies others.kept) (map-append (λ d. d.body) s.accepted _)
            ∙ append_assoc (bodies s.accepted) (new ∷ []) (sent_bodies others.kept));
      } in
      subst P (sym (taken-few gap cap s a few)) is)
      (λ many.
      let others = some-kept (without_frame gap cap s a) more in
      let is : P (without_frame gap cap s a) = record {
        kept = others.kept;
        among = skip others.among;
        are = others.are;
      } in
      subst P (sym (taken-many gap cap s a many)) is)
      (cases_lt (count_from (a.step + 1) s.accepted) cap)

  lost-grows : (s : Spaced) (more : List Arrival)
      → length s.lost ≤ length (fold (take_in gap cap) s more).lost
  lost-grows s [] = omega arith
  lost-grows s (a ∷ more) =
      let P : Spaced → Type 0 = λ x. length s.lost ≤ length (fold (take_in gap cap) x more).lost in
      let long = length-append s.lost (a ∷ []) in
      ⊎_elim
      (λ few. subst P (sym (taken-few gap cap s a few))
      (lost-grows (with_frame gap cap s a) more))
      (λ many. let grows = lost-grows (without_frame gap cap s a) more in
      subst P (sym (taken-many gap cap s a many)) (omega arith))
      (cases_lt (count_from (a.step + 1) s.accepted) cap)

  -- If none is lost, all are accepted.
  all-kept : (s : Spaced) (more : List Arrival) → (fold (take_in gap cap) s more).lost ≡ s.lost
      → bodies (fold (take_in gap cap) s more).accepted ≡ bodies s.accepted ++ sent_bodies more
  all-kept s [] same = sym (append-nil (bodies s.accepted))
  all-kept s (a ∷ more) same =
      let new : List Tick = on_line a.frame.frame in
      let P : Spaced → Type 0 = λ x. (fold (take_in gap cap) x more).lost ≡ s.lost
      → bodies (fold (take_in gap cap) x more).accepted
      ≡ bodies s.accepted ++ sent_bodies (a ∷ more) in
      ⊎_elim
      (λ few.
      let is : P (with_frame gap cap s a) = λ kept.
      all-kept (with_frame gap cap s a) more kept
      ∙ (ap (λ x. x ++ sent_bodies more) (map-append (λ d. d.body) s.accepted _)
      ∙ append_assoc (bodies s.accepted) (new ∷ []) (sent_bodies more)) in
      subst P (sym (taken-few gap cap s a few)) is same)
      (λ many.
      let grows = lost-grows (without_frame gap cap s a) more in
      let long = length-append s.lost (a ∷ []) in
      let is : P (without_frame gap cap s a) = λ kept.
      let equal = ap (λ x. length x) kept in absurd (omega (arith, grows, long, equal)) in
      subst P (sym (taken-many gap cap s a many)) is same)
      (cases_lt (count_from (a.step + 1) s.accepted) cap)

-- The list `x` as the images under `f` of a subsequence of `y`.
record IsImage {X Y : Type 0} (f : X → Y) (x : List Y) (y : List X) : Type 0 where
  of : List X
  among : IsSubsequence of y
  is : x ≡ map f of

image-of : {X Y : Type 0} (f : X → Y) (x z : List Y) (y : List X) → IsSubsequence x z
    → z ≡ map f y → IsImage f x y
image-of f x z y none same = record { of = []; among = nothing-is y; is = refl }
image-of f x (a ∷ z) [] (skip is) same = cc
image-of f x (a ∷ z) (b ∷ y) (skip is) same =
    let tail : z ≡ map f y = cc in
    let others = image-of f x z y is tail in
    record { of = others.of; among = skip others.among; is = others.is }
image-of f (c ∷ x) (a ∷ z) [] (keep is) same = cc
image-of f (c ∷ x) (a ∷ z) (b ∷ y) (keep is) same =
    let first : a ≡ f b = cc in
    let tail : z ≡ map f y = cc in
    let others = image-of f x z y is tail in
    record {
      of = b ∷ others.of;
      among = keep others.among;
      is = ap (λ v. v ∷ x) first ∙ ap (λ w. f b ∷ w) others.is;
    }

-- Numbers still rise if some are left out.
rise-fewer : (floor n : ℕ) (x y : List ℕ) → IsSubsequence x y → n ≤ floor → RiseFrom floor y
    → RiseFrom n x
rise-fewer floor n x y none le rise = tt
rise-fewer floor n x (b ∷ y) (skip is) le rise =
    let above : floor < b = rise.0 in rise-fewer b n x y is (omega arith) rise.1
rise-fewer floor n (c ∷ x) (b ∷ y) (keep is) le rise =
    let above : floor < b = rise.0 in
    (omega arith, rise-fewer b b x y is (omega arith) rise.1)

-- ---- frames on a line

module _ (rules : Rules) (framed : IsFramed rules) (gap : ℕ) (wide : 4 ≤ gap) where
  record ArePlaced (least : ℕ) (line : List Tick) (frames : List NumberedFrame) : Type 0 where
    placed : List Placed
    rest : ℕ
    is : line ≡ placed_ticks placed ++ silent rest
    apart : StandApart gap least placed
    frames_are : frames_placed placed ≡ frames

  place-one : (quiet least : ℕ) (line rest : List Tick) (f : NumberedFrame)
      (frames : List NumberedFrame) → line ≡ silent quiet ++ (on_line f.frame ++ rest)
      → least ≤ quiet → ArePlaced gap rest frames → ArePlaced least line (f ∷ frames)
  place-one quiet least line rest f frames is le others = record {
    placed = record { quiet = quiet; frame = f } ∷ others.placed;
    rest = others.rest;
    is = is ∙ (ap (λ x. silent quiet ++ (on_line f.frame ++ x)) others.is
        ∙ (ap (λ x. silent quiet ++ x)
        (sym (append_assoc (on_line f.frame) (placed_ticks others.placed) (silent others.rest)))
        ∙ sym (append_assoc (silent quiet) (on_line f.frame ++ placed_ticks others.placed)
        (silent others.rest))));
    apart = (le, others.apart);
    frames_are = ap (λ x. f ∷ x) others.frames_are;
  }

  placed-from : (n least : ℕ) (line : List Tick) (ds : List Burst) (frames : List NumberedFrame)
      → AreBursts 4 n line ds → AreApart rules gap (n + least) ds
      → bodies ds ≡ map (λ f. on_line f.frame) frames → ArePlaced least line frames
  placed-from n least line [] [] are apart same = record {
    placed = [];
    rest = length line;
    is = are;
    apart = tt;
    frames_are = refl;
  }
  placed-from n least line [] (f ∷ frames) are apart same = cc
  placed-from n least line (d ∷ ds) [] are apart same = cc
  placed-from n least line (d ∷ ds) (f ∷ frames) are apart same =
      let body : d.body ≡ on_line f.frame = cc in
      let tail : bodies ds ≡ map (λ g. on_line g.frame) frames = cc in
      let from : n + least ≤ d.start = apart.0 in
      let start : d.start ≡ n + are.0 = are.3 in
      place-one are.0 least line are.1 f frames
      (are.2 ∙ ap (λ x. silent are.0 ++ (x ++ are.1)) body) (omega arith)
      (placed-from (end_of d) gap are.1 ds frames are.6 apart.2 tail)

  -- A line on which these bursts are laid carries only these frames.
  laid-carries : (m : ℕ) (ds : List Burst) (frames : List NumberedFrame) → AreApart rules gap 0 ds
      → bodies ds ≡ map (λ f. on_line f.frame) frames → (floor : ℕ) (all : List NumberedFrame)
      → IsSubsequence frames all → RiseFrom floor (numbers_of frames)
      → CarriesOnly gap floor all (laid m ds)
  laid-carries m ds frames apart same floor all among rise =
      let n : ℕ = m + last_end ds in
      let longer = laid-longer ds m (last_end ds) n refl in
      let later : last_end ds ≤ n = omega arith in
      let spread = apart-spread gap (omega arith) rules framed 4 0 0 ds (omega arith) wide
      (omega arith) apart in
      let P : List Burst → Type 0 = λ es. AreBursts 4 0 (laid n ds) es in
      let are : AreBursts 4 0 (laid n ds) ds =
      subst P (bursts-laid 4 n ds spread (EndBy-later (last_end ds) n ds later (EndBy-last ds)))
      (bursts_from-are 4 0 (laid n ds)) in
      let on = placed-from 0 0 (laid n ds) ds frames are apart same in
      record {
        placed = on.placed;
        rest = on.rest;
        front = record { rest = longer.0; is = sym on.is ∙ longer.1 };
        apart = on.apart;
        among = subst (λ x. IsSubsequence x all) (sym on.frames_are) among;
        rise = subst (λ x. RiseFrom floor (numbers_of x)) (sym on.frames_are) rise;
      }

-- ---- behind the receiver

-- What a spacer hears behind the receiver is frames that have passed: those of the receiver's
-- emissions that are whole, each `ends` ticks after its end. What leaves of a refused burst isn't.
pub record HearsEmissions (rules : Rules) (heard : List Tick → List FrameRead) (ends : ℕ)
    (profile : Profile) : Type 0 where
  pub sound : ReadsFrames rules heard
  pub passes : (floor : ℕ) (link : List Tick) → ReadsWhatPassed rules heard ends profile floor link
  pub whole : Burst → Bool
  pub refuses : (s : CheckState) (d : Burst) (why : RefusedWhy) → IsContiguous 4 d.body
      → checked profile rules s d ≡ refused why → whole (wrong profile rules d) ≡ false
  pub emissions : (floor : ℕ) (link : List Tick) (m : ℕ)
      → heard (laid m (emitted_by (checker profile rules) (at_floor floor) (bursts link)))
      ≡ frames_ended ends whole m (emitted_by (checker profile rules) (at_floor floor) (bursts link))

pub emissions-apart : (cut : ℕ) (profile : Profile) (rules : Rules) → IsLawful rules → 2 ≤ cut
    → cut ≤ delay profile → (floor : ℕ) (link : List Tick)
    → AreSpread cut 0 (emitted_by (checker profile rules) (at_floor floor) (bursts link))
emissions-apart cut profile rules lawful some near floor link =
    let start : 0 ≤ 0 + delay profile = omega arith in
    emissions-spread profile rules lawful cut some near (at_floor floor) 0 0 (bursts link)
    (bursts-spread link) start

module _ (rules : Rules) (lawful : IsLawful rules) (framed : IsFramed rules)
    (heard : List Tick → List FrameRead) (ends : ℕ) (profile : Profile)
    (hears : HearsEmissions rules heard ends profile) (gap : ℕ) (wide : 4 ≤ gap) (cap : ℕ) where
  -- the frames that arrive at the spacer have passed
  arriving-passed : (floor : ℕ) (link : List Tick)
      → IsSubsequence (map (λ a. a.frame) (arrivals heard (received_line profile rules floor link)))
      (map (delivered profile) (passed profile rules floor link))
  arriving-passed floor link =
      let es : List Burst = emitted_by (checker profile rules) (at_floor floor) (bursts link) in
      let late : 2 ≤ delay profile = omega arith in
      let spread = emissions-apart 2 profile rules lawful (omega arith) late floor link in
      let prefix = (hears.passes floor link).prefix in
      subst (λ x. IsSubsequence x (map (delivered profile) (passed profile rules floor link)))
      (sym (frames-laid ends hears.whole heard es spread (hears.emissions floor link)
      (length link)))
      (subst (λ y. IsSubsequence (heard (received_line profile rules floor link)) y) (sym prefix.is)
      (front-is (heard (received_line profile rules floor link)) prefix.rest))

  sent-as : (x : List Arrival) (y : List NumberedFrame)
      → map (λ a. a.frame) x ≡ map (delivered profile) y
      → sent_bodies x ≡ map (λ f. on_line f.frame) y
  sent-as [] [] same = refl
  sent-as [] (f ∷ y) same = cc
  sent-as (a ∷ x) [] same = cc
  sent-as (a ∷ x) (f ∷ y) same =
      let first : a.frame ≡ delivered profile f = cc in
      let tail : map (λ c. c.frame) x ≡ map (delivered profile) y = cc in
      ap (λ r. on_line r.frame ∷ sent_bodies x) first
      ∙ ap (λ z. on_line f.frame ∷ z) (sent-as x y tail)

  pub carries-only : (floor : ℕ) (link : List Tick)
      → CarriesOnly gap floor (passed profile rules floor link)
      (spaced_line heard gap cap (received_line profile rules floor link))
  carries-only floor link =
      let line : List Tick = received_line profile rules floor link in
      let all : List NumberedFrame = passed profile rules floor link in
      let some = some-kept gap cap (record { accepted = []; lost = [] }) (arrivals heard line) in
      let image = image-of (delivered profile) (map (λ a. a.frame) some.kept)
      (map (delivered profile) all) all
      (chain-is (map (λ a. a.frame) some.kept) (map (λ a. a.frame) (arrivals heard line))
      (map (delivered profile) all) (map-is (λ a. a.frame) some.among) (arriving-passed floor link))
      refl in
      laid-carries rules framed gap wide (length line) (accepted_of heard gap cap line) image.of
      (accepted-apart rules heard hears.sound gap cap line)
      (some.are ∙ sent-as some.kept image.of image.is) floor all image.among
      (rise-fewer floor floor (numbers_of image.of) (numbers_of all)
      (map-is (λ f. f.number) image.among) (omega arith)
      (have_passed profile rules lawful floor link).rise)

  bytes-are : (ds : List Burst) (frames : List NumberedFrame)
      → bodies ds ≡ map (λ f. on_line f.frame) frames
      → map (λ d. bytes_in d.body) ds ≡ bytes_sealed frames
  bytes-are [] [] same = refl
  bytes-are [] (f ∷ frames) same = cc
  bytes-are (d ∷ ds) [] same = cc
  bytes-are (d ∷ ds) (f ∷ frames) same =
      let first : d.body ≡ on_line f.frame = cc in
      let tail : bodies ds ≡ map (λ g. on_line g.frame) frames = cc in
      ap (λ x. x ∷ map (λ e. bytes_in e.body) ds)
      (ap bytes_in first ∙ bytes_in-byte_ticks f.frame)
      ∙ ap (λ x. f.frame ∷ x) (bytes-are ds frames tail)

  -- The accepted frames are some of those that passed, in their order.
  pub accepted-passed : (floor : ℕ) (link : List Tick)
      → IsSubsequence (map (λ d. bytes_in d.body)
      (accepted_of heard gap cap (received_line profile rules floor link)))
      (bytes_sealed (passed profile rules floor link))
  accepted-passed floor link =
      let line : List Tick = received_line profile rules floor link in
      let all : List NumberedFrame = passed profile rules floor link in
      let some = some-kept gap cap (record { accepted = []; lost = [] }) (arrivals heard line) in
      let image = image-of (delivered profile) (map (λ a. a.frame) some.kept)
      (map (delivered profile) all) all
      (chain-is (map (λ a. a.frame) some.kept) (map (λ a. a.frame) (arrivals heard line))
      (map (delivered profile) all) (map-is (λ a. a.frame) some.among) (arriving-passed floor link))
      refl in
      subst (λ x. IsSubsequence x (bytes_sealed all))
      (sym (bytes-are (accepted_of heard gap cap line) image.of
      (some.are ∙ sent-as some.kept image.of image.is)))
      (map-is (λ f. f.frame) image.among)

  -- If the spacer reads all frames that passed, and loses none, the accepted frames are those.
  pub accepted-all : (floor : ℕ) (link : List Tick)
      → heard (received_line profile rules floor link)
      ≡ map (delivered profile) (passed profile rules floor link)
      → lost_of heard gap cap (received_line profile rules floor link) ≡ []
      → map (λ d. bytes_in d.body)
      (accepted_of heard gap cap (received_line profile rules floor link))
      ≡ bytes_sealed (passed profile rules floor link)
  accepted-all floor link reads unlost =
      let line : List Tick = received_line profile rules floor link in
      let all : List NumberedFrame = passed profile rules floor link in
      let es : List Burst = emitted_by (checker profile rules) (at_floor floor) (bursts link) in
      let late : 2 ≤ delay profile = omega arith in
      let spread = emissions-apart 2 profile rules lawful (omega arith) late floor link in
      let frames : map (λ a. a.frame) (arrivals heard line) ≡ map (delivered profile) all =
      frames-laid ends hears.whole heard es spread (hears.emissions floor link) (length link)
      ∙ reads in
      bytes-are (accepted_of heard gap cap line) all
      (all-kept gap cap (record { accepted = []; lost = [] }) (arrivals heard line) unlost
      ∙ sent-as (arrivals heard line) all frames)

  pub gives-only-sealed : (seal_floor check_floor : ℕ) (line link : List Tick)
      → GivesOnlySealed profile rules heard gap cap seal_floor check_floor line link
  gives-only-sealed seal_floor check_floor line link =
      let only = carries-only check_floor link in
      let sealed_ones : List NumberedFrame = sealed profile rules seal_floor line in
      let passed_ones : List NumberedFrame = passed profile rules check_floor link in
      let accounted = accounted-for profile rules lawful seal_floor check_floor line link in
      record {
        only_passed = only;
        only_sealed = λ unforged. chain-is (bytes_sealed (frames_placed only.placed))
            (bytes_sealed passed_ones) (bytes_sealed sealed_ones)
            (map-is (λ f. f.frame) only.among)
            (passed-sealed seal_floor check_floor sealed_ones passed_ones accounted unforged);
        accounted = accounted;
      }

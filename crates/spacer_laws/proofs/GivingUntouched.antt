-- A spacer behind the receiver gives all that comes over an untouched link.
use Rattle.frame_ending.proofs.Spread.{AreSpread, EndBy, bursts-spread, bursts-end}
use Rattle.frame_ending.specs.{Laid.tick_at, Laid.laid, Laid.later, Walk.emitted_by}
use Rattle.device_model.proofs.ReadLaws.{frames_ended}
use Rattle.device_model.specs.{Frames.FrameRead, RtuReads.frame_in}
use Rattle.line_rules.specs.{Rules.Rules, RulesLaws.IsLawful, RulesLaws.IsFramed}
use Rattle.line_spacer.specs.{Arrivals.arrivals, Spacing.accepted_of, Spacing.lost_of}
use Rattle.link_format.specs.Profile.{Profile, HasTags, pause_len, trailer_len, delay}
use Rattle.link_box.specs.Checking.{checker, at_floor, passed, received_line}
use Rattle.receiver_laws.proofs.Deliveries.{delivers-all, untouched-emits}
use Rattle.receiver_laws.specs.Reading.{delivered}
use Rattle.receiver_laws.specs.Untouched.{AreSpaced, IsUntouchedLink, numbered, untouched}
use Rattle.link_box.specs.Sealing.{link_line}
use Rattle.spacer_laws.proofs.Accepted.{all-first, all-others, all-cons}
use Rattle.spacer_laws.proofs.GivingAll.{ComeApart, given-from, given-left}
use Rattle.spacer_laws.proofs.Guarding.{HearsEmissions, emissions-apart}
use Rattle.spacer_laws.proofs.LaidArrivals.{arrival_of, ended, arrivals-laid, contiguous-some}
use Rattle.spacer_laws.specs.GivingAll.{AreGiven, HasRoomFor, GivesAll}
use Rattle.std.proofs.Common.{◌≡◌, ◌∙◌, ℕ, suc, ◌+◌, ◌-◌, ◌*◌, ◌≤◌, List, [], ◌∷◌, ◌++◌, length}
use Rattle.std.proofs.Common.{map, refl, sym, ap, subst, arith, ⊎_elim, Bool, true, length-append}
use Rattle.std.proofs.Common.{◌&&◌, nat_le, cond, get_or}
use Rattle.std.proofs.lemmas.Bool.{cases_Bool, and_parts, le-leb}
use Rattle.std.proofs.lemmas.List.{length-map, length-replicate, FromFn.length-map-range_with_len}
use Rattle.std.specs.{List.filter, Prelude.All}
use Rattle.yasir_ticks.specs.{Bursts.Burst, Bursts.bursts, Bursts.end_of, Ticks.silent}
use Rattle.yasir_ticks.specs.declared.tick.Tick.{Tick, TheVariants.Silent}

-- ---- lists from which nothing is left out

filter-le : {X : Type 0} (p : X → Bool) (x : List X) → length (filter p x) ≤ length x
filter-le p [] = omega arith
filter-le p (a ∷ x) =
    let others = filter-le p x in
    let P : Bool → Type 0 = λ v. length (cond v (a ∷ filter p x) (filter p x)) ≤ suc (length x) in
    ⊎_elim (λ yes. subst P (sym yes) (omega arith)) (λ no. subst P (sym no) (omega arith))
    (cases_Bool (p a))

all-pass : {X : Type 0} (p : X → Bool) (x : List X) → length (filter p x) ≡ length x
    → All (λ a. p a ≡ true) x
all-pass p [] same = λ k d none. absurd (omega arith)
all-pass p (a ∷ x) same =
    let few = filter-le p x in
    let P : Bool → Type 0 = λ v. length (cond v (a ∷ filter p x) (filter p x)) ≡ suc (length x) in
    ⊎_elim
    (λ yes.
    let longer : suc (length (filter p x)) ≡ suc (length x) = subst P yes same in
    all-cons (λ b. p b ≡ true) a x yes (all-pass p x (omega arith)))
    (λ no. let shorter : length (filter p x) ≡ suc (length x) = subst P no same in
    absurd (omega arith))
    (cases_Bool (p a))

ended-all : (ends m : ℕ) (whole : Burst → Bool) (ds : List Burst) → All (λ d. whole d ≡ true) ds
    → ((n : ℕ) → n + ends ≤ m → EndBy n ds → ended ends whole m ds ≡ ds)
ended-all ends m whole [] all n by end = refl
ended-all ends m whole (d ∷ ds) all n by end =
    let is : whole d ≡ true = all-first (λ e. whole e ≡ true) d ds all in
    let here : end_of d ≤ n = end.0 in
    let yes : nat_le (end_of d + ends) m ≡ true = le-leb (end_of d + ends) m (omega arith) in
    let others = ended-all ends m whole ds (all-others (λ e. whole e ≡ true) d ds all) n by end.1 in
    ap (λ v. cond (v && whole d) (d ∷ ended ends whole m ds) (ended ends whole m ds)) yes
    ∙ (ap (λ v. cond v (d ∷ ended ends whole m ds) (ended ends whole m ds)) is
    ∙ ap (λ x. d ∷ x) others)

length-numbered : (rules : Rules) (floor : ℕ) (ds : List Burst)
    → length (numbered rules floor ds) ≡ length ds
length-numbered rules floor [] = refl
length-numbered rules floor (d ∷ ds) = ap suc (length-numbered rules (suc floor) ds)

end-later : (n k : ℕ) (ds : List Burst) → EndBy k ds → EndBy (n + k) (map (later n) ds)
end-later n k [] ends = tt
end-later n k (d ∷ ds) ends = let end : end_of d ≤ k = ends.0 in
    (omega arith, end-later n k ds ends.1)

given-later : (n late : ℕ) (ds es : List Burst) → AreGiven late (map (later n) ds) es
    → AreGiven (n + late) ds es
given-later n late [] [] given = tt
given-later n late (d ∷ ds) (e ∷ es) given =
    let soon : e.start ≤ n + d.start + late = given.1 in
    (given.0, omega arith, given-later n late ds es given.2)
given-later n late [] (e ∷ es) given = given
given-later n late (d ∷ ds) [] given = given

module _ (profile : Profile) (rules : Rules) (most gap cap ends : ℕ) (room : most ≤ cap * (gap + 1))
    (near : gap ≤ delay profile + 3) where
  come-apart : (n k j : ℕ) (ds : List Burst) → AreSpaced profile rules n ds → AreSpread 4 k ds
      → All (λ (d : Burst). length d.body ≤ most) ds → j ≤ delay profile + n
      → ComeApart gap ends most cap room j (map (later (delay profile)) ds)
  come-apart n k j [] spaced spread short le = tt
  come-apart n k j (d ∷ ds) spaced spread short le =
      let IsShort : Burst → Type 0 = λ e. length e.body ≤ most in
      let from : n ≤ d.start = spaced.0 in (
        omega arith,
        contiguous-some 4 d.body spread.1,
        all-first IsShort d ds short,
        come-apart (end_of d + pause_len + trailer_len profile + 4) (end_of d + 4)
            (delay profile + d.start + length d.body + gap) ds spaced.3 spread.2
            (all-others IsShort d ds short) (omega arith),
      )

module _ (profile : Profile) (tags : HasTags profile) (some : 1 ≤ profile.word_len)
    (rules : Rules) (lawful : IsLawful rules) (framed : IsFramed rules)
    (heard : List Tick → List FrameRead) (ends : ℕ)
    (hears : HearsEmissions rules heard ends profile)
    (floor behind : ℕ) (line : List Tick) (more : ℕ)
    (is : IsUntouchedLink profile rules floor behind line more) where
  abbrev ds : List Burst
  ds = bursts line

  abbrev es : List Burst
  es = map (later (delay profile)) ds

  abbrev link : ℕ → List Tick
  link rest = untouched profile rules floor line more rest

  emits : (rest : ℕ)
      → emitted_by (checker profile rules) (at_floor behind) (bursts (link rest)) ≡ es
  emits rest =
      untouched-emits profile tags some rules lawful framed floor behind line more rest is

  received : (rest : ℕ)
      → received_line profile rules behind (link rest) ≡ laid (length (link rest)) es
  received rest = ap (λ x. laid (length (link rest)) x) (emits rest)

  -- ---- what is heard of the emissions

  laid_read : (m : ℕ) → heard (laid m es) ≡ frames_ended ends hears.whole m es
  laid_read m =
      let P : List Burst → Type 0 = λ x. heard (laid m x) ≡ frames_ended ends hears.whole m x in
      subst P (emits 0) (hears.emissions behind (link 0) m)

  spread : AreSpread 2 0 es
  spread =
      let late : 2 ≤ delay profile = omega arith in
      subst (λ x. AreSpread 2 0 x) (emits 0)
      (emissions-apart 2 profile rules lawful (omega arith) late behind (link 0))

  all-whole : All (λ d. hears.whole d ≡ true) es
  all-whole =
      let rest : ℕ = delay profile + ends in
      let all = delivers-all profile tags some rules lawful framed floor behind line more rest is in
      let m : ℕ = length (link rest) in
      let test : Burst → Bool = λ d. nat_le (end_of d + ends) m && hears.whole d in
      let read : frames_ended ends hears.whole m es
      ≡ map (delivered profile) (passed profile rules behind (link rest)) =
      sym (laid_read m)
      ∙ (ap heard (sym (received rest))
      ∙ (hears.passes behind (link_line profile rules floor (line ++ silent more))).all rest
      (omega arith)) in
      let count : length (filter test es) ≡ length es =
      sym (length-map (filter test es) frame_in)
      ∙ (ap length read
      ∙ (length-map (passed profile rules behind (link rest)) (delivered profile)
      ∙ (ap length all.passes
      ∙ (length-numbered rules floor ds ∙ sym (length-map ds (later (delay profile))))))) in
      let passing = all-pass test es count in
      λ k d within.
      (and_parts (nat_le (end_of (get_or es k d) + ends) m) (hears.whole (get_or es k d))
      (passing k d within)).1

  link-length : (rest : ℕ)
      → length (link rest) ≡ delay profile + (length line + (more - delay profile + rest))
  link-length rest =
      let all = delivers-all profile tags some rules lawful framed floor behind line more rest is in
      let left : ℕ = more - delay profile + rest in
      let late = length-replicate (delay profile) Silent in
      let tail = length-replicate left Silent in
      let whole = length-append (silent (delay profile)) (line ++ silent left) in
      let behind_it = length-append line (silent left) in
      let long : length (received_line profile rules behind (link rest)) ≡ length (link rest) =
      length-map-range_with_len
      (λ i. tick_at (emitted_by (checker profile rules) (at_floor behind) (bursts (link rest))) i) 0
      (length (link rest)) in
      let comes = ap length all.comes in
      omega arith

  module _ (most gap cap : ℕ) (fits : HasRoomFor profile most gap cap line) (rest : ℕ) where
    abbrev heard_line : List Tick
    heard_line = received_line profile rules behind (link rest)

    come : ComeApart gap ends most cap fits.room 0 es
    come = come-apart profile rules most gap cap ends fits.room fits.near 0 0 0 ds is.spaced
        (bursts-spread line) fits.short (omega arith)

    arrive-all : ends ≤ more - delay profile + rest
        → arrivals heard heard_line ≡ map (arrival_of ends) es
    arrive-all enough =
        let m : ℕ = length (link rest) in
        let long = link-length rest in
        ap (arrivals heard) (received rest)
        ∙ (arrivals-laid ends hears.whole heard es spread laid_read m
        ∙ ap (map (arrival_of ends))
        (ended-all ends m hears.whole es all-whole (delay profile + length line) (omega arith)
        (end-later (delay profile) (length line) ds (bursts-end line))))

    all-given : ends ≤ more - delay profile + rest
        → AreGiven (most + ends) es (accepted_of heard gap cap heard_line)
        × (lost_of heard gap cap heard_line ≡ [])
    all-given enough =
        given-from gap ends most cap fits.room es come heard_line heard (arrive-all enough)

    pub gives-all : GivesAll profile rules heard ends most gap cap floor behind line more rest
    gives-all = record {
      none_lost = λ enough. (all-given enough).1;
      given = λ enough. given-later (delay profile) (most + ends) ds
          (accepted_of heard gap cap heard_line) (all-given enough).0;
      left = λ enough.
          let long = link-length rest in
          let same : length heard_line ≡ length (link rest) =
          length-map-range_with_len
          (λ i. tick_at (emitted_by (checker profile rules) (at_floor behind) (bursts (link rest))) i)
          0 (length (link rest)) in
          given-left gap ends most cap fits.room (delay profile + length line)
          (length heard_line) es
          (accepted_of heard gap cap heard_line)
          (end-later (delay profile) (length line) ds (bursts-end line)) (omega arith)
          (all-given (omega arith)).0;
    }

-- A line on which some bursts of a receiver are, and others aren't: what is read of it was sealed.
use Rattle.frame_ending.proofs.Spread.{AreSpread}
use Rattle.frame_ending.specs.{Laid.laid, Laid.later, Walk.emitted_by}
use Rattle.device_model.proofs.ReadLaws.{frames_ended, frames_ended-append, frames_ended-open}
use Rattle.device_model.proofs.ReadLaws.{frames_ended-ended}
use Rattle.device_model.specs.{Frames.FrameRead, RtuReads.frame_in}
use Rattle.line_rules.specs.{Rules.Rules, RulesLaws.IsLawful}
use Rattle.link_format.specs.Profile.{Profile}
use Rattle.link_box.specs.Checking.{checker, at_floor, passed, received_line}
use Rattle.receiver_laws.proofs.Headline.{bytes-delivered, passed-sealed}
use Rattle.receiver_laws.proofs.OverUptimes.{accounted-for}
use Rattle.receiver_laws.proofs.Subsequences.{nothing-is, front-is, join-is, chain-is}
use Rattle.receiver_laws.specs.Accounted.{IsSubsequence, IsSubsequence.none, IsSubsequence.skip}
use Rattle.receiver_laws.specs.Accounted.{IsSubsequence.keep}
use Rattle.receiver_laws.specs.Headline.{bytes_read, bytes_sealed}
use Rattle.receiver_laws.specs.Reading.{ReadsWhatPassed}
use Rattle.link_box.specs.Sealing.{sealed}
use Rattle.std.proofs.Common.{◌≡◌, ◌∙◌, ℕ, ◌+◌, ◌≤◌, Bool, true, false, cond, List, [], ◌∷◌, ◌++◌}
use Rattle.std.proofs.Common.{length, map, refl, sym, ap, subst, arith, ⊎_elim}
use Rattle.std.proofs.lemmas.{Bool.cases_lt, List.map-append}
use Rattle.yasir_ticks.specs.{Bursts.Burst, Bursts.bursts, Bursts.end_of}
use Rattle.yasir_ticks.specs.declared.tick.Tick.{Tick}
use Rattle.two_wire.specs.Given.{GivesSome, ReadsSealed}

pub same-is : {X : Type 0} (x : List X) → IsSubsequence x x
same-is [] = none
same-is (a ∷ x) = keep (same-is x)

-- ---- bursts that are left out, and later ones

spread-earlier : (cut n k : ℕ) (ds : List Burst) → n ≤ k → AreSpread cut k ds → AreSpread cut n ds
spread-earlier cut n k [] le spread = tt
spread-earlier cut n k (d ∷ ds) le spread =
    let from : k ≤ d.start = spread.0 in (omega arith, spread.1, spread.2)

pub some-spread : (cut n : ℕ) {xs ys : List Burst} → IsSubsequence xs ys → AreSpread cut n ys
    → AreSpread cut n xs
some-spread cut n none spread = tt
some-spread cut n (skip {x} {a} {y} is) spread =
    let from : n ≤ a.start = spread.0 in
    spread-earlier cut n (end_of a + cut) x (omega arith)
    (some-spread cut (end_of a + cut) is spread.2)
some-spread cut n (keep {x} {a} {y} is) spread =
    (spread.0, spread.1, some-spread cut (end_of a + cut) is spread.2)

pub later-spread : (cut late n : ℕ) (ds : List Burst) → AreSpread cut n ds
    → AreSpread cut (late + n) (map (later late) ds)
later-spread cut late n [] spread = tt
later-spread cut late n (d ∷ ds) spread =
    let from : n ≤ d.start = spread.0 in (
      omega arith,
      spread.1,
      spread-earlier cut (end_of (later late d) + cut) (late + (end_of d + cut))
          (map (later late) ds) (omega arith) (later-spread cut late (end_of d + cut) ds spread.2),
    )

pub later-some-spread : (cut late : ℕ) {xs ys : List Burst} → IsSubsequence xs ys
    → AreSpread cut 0 ys → AreSpread cut 0 (map (later late) xs)
later-some-spread cut late {xs} {ys} is spread =
    spread-earlier cut 0 (late + 0) (map (later late) xs) (omega arith)
    (later-spread cut late 0 xs (some-spread cut 0 is spread))

-- ---- what is read of them

module _ (ends m : ℕ) (body_whole : List Tick → Bool) where
  abbrev whole : Burst → Bool
  whole d = body_whole d.body

  abbrev bytes_of : List Burst → List (List ℕ)
  bytes_of ds = bytes_read (frames_ended ends whole m ds)

  bytes-cons : (d : Burst) (ds : List Burst) → bytes_of (d ∷ ds) ≡ bytes_of (d ∷ []) ++ bytes_of ds
  bytes-cons d ds =
      ap bytes_read (frames_ended-append ends whole m (d ∷ []) ds)
      ∙ map-append (λ f. f.frame) (frames_ended ends whole m (d ∷ [])) (frames_ended ends whole m ds)

  cond-bytes : (late : ℕ) (d : Burst) (w : Bool)
      → bytes_read (cond w (frame_in (later late d) ∷ []) []) ≡ bytes_read (cond w (frame_in d ∷ []) [])
  cond-bytes late d true = refl
  cond-bytes late d false = refl

  one-read : (late : ℕ) (d : Burst)
      → IsSubsequence (bytes_of (later late d ∷ [])) (bytes_of (d ∷ []))
  one-read late d =
      ⊎_elim
      (λ before. subst (λ x. IsSubsequence x (bytes_of (d ∷ [])))
      (sym (ap bytes_read (frames_ended-open ends whole m (later late d) before)))
      (nothing-is (bytes_of (d ∷ []))))
      (λ ended.
      let sooner : end_of d + ends ≤ m = omega arith in
      let same : bytes_of (later late d ∷ []) ≡ bytes_of (d ∷ []) =
      ap bytes_read (frames_ended-ended ends whole m (later late d) ended)
      ∙ (cond-bytes late d (whole d)
      ∙ sym (ap bytes_read (frames_ended-ended ends whole m d sooner))) in
      subst (λ x. IsSubsequence x (bytes_of (d ∷ []))) (sym same) (same-is (bytes_of (d ∷ []))))
      (cases_lt m (end_of (later late d) + ends))

  pub some-read : (late : ℕ) {xs ys : List Burst} → IsSubsequence xs ys
      → IsSubsequence (bytes_of (map (later late) xs)) (bytes_of ys)
  some-read late none = none
  some-read late (skip {x} {a} {y} is) =
      subst (λ l. IsSubsequence (bytes_of (map (later late) x)) l) (sym (bytes-cons a y))
      (join-is (bytes_of (map (later late) x)) (bytes_of y) (nothing-is (bytes_of (a ∷ [])))
      (some-read late is))
  some-read late (keep {x} {a} {y} is) =
      subst (λ l. IsSubsequence (bytes_of (later late a ∷ map (later late) x)) l)
      (sym (bytes-cons a y))
      (subst (λ l. IsSubsequence l (bytes_of (a ∷ []) ++ bytes_of y))
      (sym (bytes-cons (later late a) (map (later late) x)))
      (join-is (bytes_of (map (later late) x)) (bytes_of y) (one-read late a) (some-read late is)))

-- ---- the law, for a device that reads the bursts of a line that fit it

module _ (rules : Rules) (lawful : IsLawful rules) (reads : List Tick → List FrameRead) (ends : ℕ)
    (body_whole : List Tick → Bool) (profile : Profile) (Fit : List Burst → Type 0)
    (laid-read : (m : ℕ) (es : List Burst) → Fit es
    → reads (laid m es) ≡ frames_ended ends (λ d. body_whole d.body) m es)
    (some-fit : (late : ℕ) (xs ys : List Burst) → IsSubsequence xs ys → Fit ys
    → Fit (map (later late) xs))
    (all-fit : (floor : ℕ) (link : List Tick)
    → Fit (emitted_by (checker profile rules) (at_floor floor) (bursts link)))
    (passes : (floor : ℕ) (link : List Tick) → ReadsWhatPassed rules reads ends profile floor link)
  where
    reads-front : (floor : ℕ) (link : List Tick)
        → IsSubsequence (bytes_read (reads (received_line profile rules floor link)))
        (bytes_sealed (passed profile rules floor link))
    reads-front floor link =
        let read_ones : List FrameRead = reads (received_line profile rules floor link) in
        let more : List FrameRead = (passes floor link).prefix.rest in
        let all : bytes_sealed (passed profile rules floor link)
        ≡ bytes_read read_ones ++ bytes_read more =
        sym (bytes-delivered profile (passed profile rules floor link))
        ∙ (ap bytes_read (passes floor link).prefix.is ∙ map-append (λ f. f.frame) read_ones more) in
        subst (λ y. IsSubsequence (bytes_read read_ones) y) (sym all)
        (front-is (bytes_read read_ones) (bytes_read more))

    given-less : (floor late : ℕ) (link given : List Tick)
        → GivesSome profile rules floor late link given
        → IsSubsequence (bytes_read (reads given))
        (bytes_read (reads (received_line profile rules floor link)))
    given-less floor late link given gives =
        let es : List Burst = emitted_by (checker profile rules) (at_floor floor) (bursts link) in
        let m : ℕ = length link in
        let xs : List Burst = map (later late) gives.bursts_given in
        let left : reads given ≡ frames_ended ends (λ d. body_whole d.body) m xs =
        ap reads gives.is
        ∙ laid-read m xs (some-fit late gives.bursts_given es gives.among (all-fit floor link)) in
        let right : reads (received_line profile rules floor link)
        ≡ frames_ended ends (λ d. body_whole d.body) m es = laid-read m es (all-fit floor link) in
        subst (λ x. IsSubsequence (bytes_read x)
        (bytes_read (reads (received_line profile rules floor link)))) (sym left)
        (subst (λ y. IsSubsequence
        (bytes_read (frames_ended ends (λ d. body_whole d.body) m xs)) (bytes_read y)) (sym right)
        (some-read ends m body_whole late gives.among))

    pub given-sealed : (seal_floor check_floor late : ℕ) (line link given : List Tick)
        → GivesSome profile rules check_floor late link given
        → ReadsSealed rules reads profile seal_floor check_floor line link given
    given-sealed seal_floor check_floor late line link given gives =
        let passed_ones : List (List ℕ) = bytes_sealed (passed profile rules check_floor link) in
        let only = chain-is (bytes_read (reads given))
        (bytes_read (reads (received_line profile rules check_floor link))) passed_ones
        (given-less check_floor late link given gives) (reads-front check_floor link) in
        let accounted = accounted-for profile rules lawful seal_floor check_floor line link in
        record {
          only_passed = only;
          only_sealed = λ unforged. chain-is (bytes_read (reads given)) passed_ones
              (bytes_sealed (sealed profile rules seal_floor line)) only
              (passed-sealed seal_floor check_floor (sealed profile rules seal_floor line)
              (passed profile rules check_floor link) accounted unforged);
          accounted = accounted;
        }

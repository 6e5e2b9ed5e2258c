-- If nothing is forged, what a device reads is a subsequence of what was sealed: over any uptimes
-- of both boxes, and so over one uptime of each.
use Rattle.{device_model.specs.Frames.FrameRead, line_rules.specs.Rules.Rules}
use Rattle.{line_rules.specs.RulesLaws.IsLawful, link_format.specs.NumberedFrame.NumberedFrame}
use Rattle.{link_format.specs.Profile.Profile, link_box.specs.Checking.passed}
use Rattle.{link_box.specs.Checking.received_line, receiver_laws.proofs.OverUptimes.alone}
use Rattle.receiver_laws.proofs.OverUptimes.{alone-is, alone-go_on, accounted-over, accounted-for}
use Rattle.receiver_laws.proofs.Subsequences.{front-is, join-is, map-is, chain-is}
use Rattle.receiver_laws.specs.Accounted.{pairs_of, IsSubsequence, rightly_passed, forged}
use Rattle.receiver_laws.specs.Accounted.{IsAccountedFor, is_among, IsSubsequence.none}
use Rattle.receiver_laws.specs.Headline.{bytes_read, bytes_sealed, ReadsWhatWasSealed}
use Rattle.receiver_laws.specs.OverUptimes.{BoxUptime, bytes_over, sealed_over, passed_over_uptimes}
use Rattle.receiver_laws.specs.OverUptimes.{BothGoOn, ReadsOverUptimes}
use Rattle.receiver_laws.specs.Reading.{delivered, ReadsWhatPassed}
use Rattle.link_box.specs.Sealing.{sealed}
use Rattle.std.proofs.Common.{◌≡◌, ◌∙◌, ℕ, Bool, not, List, [], ◌∷◌, ◌++◌, map, refl, sym, ap}
use Rattle.std.proofs.Common.{subst, ⊎_elim, if◌then◌else◌}
use Rattle.std.proofs.lemmas.{Bool.cases_Bool, List.map-append, List.append-nil}
use Rattle.{std.specs.List.filter, yasir_ticks.specs.declared.tick.Tick.Tick}

-- If no element is left out, all stay.
pub all-stay : {X : Type 0} (test : X → Bool) (x : List X) → filter (λ a. not (test a)) x ≡ []
    → filter test x ≡ x
all-stay test [] none_out = refl
all-stay test (a ∷ x) none_out =
    ⊎_elim
    (λ stays. let P : Bool → Type 0 = λ b. (if b then a ∷ filter test x else filter test x)
    ≡ a ∷ x in
    let Q : Bool → Type 0 = λ b. (if not b then a ∷ filter (λ c. not (test c)) x
    else filter (λ c. not (test c)) x) ≡ [] in
    subst P (sym stays) (ap (λ l. a ∷ l) (all-stay test x (subst Q stays none_out))))
    (λ goes. let Q : Bool → Type 0 = λ b. (if not b then a ∷ filter (λ c. not (test c)) x
    else filter (λ c. not (test c)) x) ≡ [] in
    let never : a ∷ filter (λ c. not (test c)) x ≡ [] = subst Q goes none_out in cc)
    (cases_Bool (test a))

-- ---- frames as they are read, and as they passed

pub bytes-delivered : (profile : Profile) (frames : List NumberedFrame)
    → bytes_read (map (delivered profile) frames) ≡ bytes_sealed frames
bytes-delivered profile [] = refl
bytes-delivered profile (f ∷ frames) = ap (λ l. f.frame ∷ l) (bytes-delivered profile frames)

bytes-paired : (frames : List NumberedFrame) → map (λ a. a.frame) (pairs_of frames)
    ≡ bytes_sealed frames
bytes-paired [] = refl
bytes-paired (f ∷ frames) = ap (λ l. f.frame ∷ l) (bytes-paired frames)

-- If nothing is forged, the bytes of the passed frames are a subsequence of those of the sealed
-- ones.
pub passed-sealed : (seal_floor check_floor : ℕ) (sealed_ones passed_ones : List NumberedFrame)
    → IsAccountedFor seal_floor check_floor sealed_ones passed_ones
    → forged sealed_ones passed_ones ≡ []
    → IsSubsequence (bytes_sealed passed_ones) (bytes_sealed sealed_ones)
passed-sealed seal_floor check_floor sealed_ones passed_ones accounted unforged =
    let S : List (List ℕ) → List (List ℕ) → Type 0 = λ x y. IsSubsequence x y in
    let paired : S (map (λ a. a.frame) (pairs_of (rightly_passed sealed_ones passed_ones)))
    (map (λ a. a.frame) (pairs_of sealed_ones)) = map-is (λ a. a.frame) accounted.subsequence in
    let bytes : S (bytes_sealed (rightly_passed sealed_ones passed_ones))
    (bytes_sealed sealed_ones) =
    subst (λ x. S x (bytes_sealed sealed_ones))
    (bytes-paired (rightly_passed sealed_ones passed_ones))
    (subst (λ y. S (map (λ a. a.frame) (pairs_of (rightly_passed sealed_ones passed_ones))) y)
    (bytes-paired sealed_ones) paired) in
    subst (λ l. S (bytes_sealed l) (bytes_sealed sealed_ones))
    (all-stay (λ f. is_among sealed_ones f) passed_ones unforged) bytes

-- ---- the law over uptimes, and of one uptime on each side

module _ (rules : Rules) (lawful : IsLawful rules) (reads : List Tick → List FrameRead) (ends : ℕ)
    (profile : Profile) (passes : (floor : ℕ) (link : List Tick)
    → ReadsWhatPassed rules reads ends profile floor link) where
  -- In one uptime of the receiver, the device reads a front of what passed.
  pub reads-front : (floor : ℕ) (link : List Tick)
      → IsSubsequence (bytes_read (reads (received_line profile rules floor link)))
      (bytes_sealed (passed profile rules floor link))
  reads-front floor link =
      let passed_ones : List NumberedFrame = passed profile rules floor link in
      let read_ones : List FrameRead = reads (received_line profile rules floor link) in
      let later : List FrameRead = (passes floor link).prefix.rest in
      let whole : bytes_sealed passed_ones ≡ bytes_read read_ones ++ bytes_read later =
      sym (bytes-delivered profile passed_ones)
      ∙ ap (λ l. bytes_read l) (passes floor link).prefix.is
      ∙ map-append (λ f. f.frame) read_ones later in
      subst (λ y. IsSubsequence (bytes_read read_ones) y) (sym whole)
      (front-is (bytes_read read_ones) (bytes_read later))

  pub reads-passed : (checks : List BoxUptime) → IsSubsequence (bytes_over reads profile rules checks)
      (bytes_sealed (passed_over_uptimes profile rules checks))
  reads-passed [] = none
  reads-passed (check ∷ checks) =
      let first : List NumberedFrame = passed profile rules check.floor check.line in
      let later : List NumberedFrame = passed_over_uptimes profile rules checks in
      subst (λ y. IsSubsequence (bytes_over reads profile rules (check ∷ checks)) y)
      (sym (map-append (λ f. f.frame) first later))
      (join-is (bytes_over reads profile rules checks) (bytes_sealed later)
      (reads-front check.floor check.line) (reads-passed checks))

  pub reads-over : (seal_floor check_floor : ℕ) (seals checks : List BoxUptime)
      → BothGoOn profile rules seal_floor check_floor seals checks
      → ReadsOverUptimes rules reads profile seal_floor check_floor seals checks
  reads-over seal_floor check_floor seals checks go_on =
      let accounted = accounted-over profile rules lawful seal_floor check_floor seals checks
      go_on in
      record {
        only_sealed = λ unforged. chain-is (bytes_over reads profile rules checks)
            (bytes_sealed (passed_over_uptimes profile rules checks))
            (bytes_sealed (sealed_over profile rules seals)) (reads-passed checks)
            (passed-sealed seal_floor check_floor (sealed_over profile rules seals)
            (passed_over_uptimes profile rules checks) accounted unforged);
        only_passed = reads-passed checks;
        accounted = accounted;
      }

  alone-read : (floor : ℕ) (link : List Tick) → bytes_over reads profile rules (alone floor link)
      ≡ bytes_read (reads (received_line profile rules floor link))
  alone-read floor link = append-nil (bytes_read (reads (received_line profile rules floor link)))

  pub reads-sealed : (seal_floor check_floor : ℕ) (line link : List Tick)
      → ReadsWhatWasSealed rules reads ends profile seal_floor check_floor line link
  reads-sealed seal_floor check_floor line link =
      let over = reads-over seal_floor check_floor (alone seal_floor line)
      (alone check_floor link)
      (alone-go_on profile rules lawful seal_floor check_floor line link) in
      let Only : List NumberedFrame → List NumberedFrame → List (List ℕ) → Type 0 =
      λ sealed_ones passed_ones read_ones. forged sealed_ones passed_ones ≡ []
      → IsSubsequence read_ones (bytes_sealed sealed_ones) in
      let sealed_ones : List NumberedFrame = sealed profile rules seal_floor line in
      let passed_ones : List NumberedFrame = passed profile rules check_floor link in
      record {
        only_sealed =
            subst (λ r. Only sealed_ones passed_ones r) (alone-read check_floor link)
            (subst (λ p. Only sealed_ones p
            (bytes_over reads profile rules (alone check_floor link)))
            (alone-is (passed profile rules) check_floor link)
            (subst (λ s. Only s (passed_over_uptimes profile rules (alone check_floor link))
            (bytes_over reads profile rules (alone check_floor link)))
            (alone-is (sealed profile rules) seal_floor line) over.only_sealed));
        only_passed = passes check_floor link;
        accounted = accounted-for profile rules lawful seal_floor check_floor line link;
      }

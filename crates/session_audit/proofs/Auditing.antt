-- What a verdict says, and when two lists of reads don't differ.
use Rattle.command_ends.specs.Links.{rules_of, label_of, link_profile_of, device_reads}
use Rattle.command_ends.specs.declared.link.Profile.{Profile, TheVariants.Y18, TheVariants.Y24}
use Rattle.command_ends.specs.declared.link.Proto.{Proto, TheVariants.Rtu, TheVariants.Dnp3}
use Rattle.device_model.specs.{Frames.FrameRead, Stated.StatedDevice.rtu, Stated.StatedDevice.dnp}
use Rattle.{dnp_link_frame.specs.Rules.dnp_rules, line_rules.specs.RulesLaws.IsLawful}
use Rattle.dnp_link_frame.specs.RulesLaws.{dnp_lawful, dnp_headed}
use Rattle.link_format.specs.NumberedFrame.{NumberedFrame, numbers_of}
use Rattle.link_format.specs.{Setup.Setup}
use Rattle.receiver_laws.proofs.Accounting.{sealed-rise, rising-accounted}
use Rattle.receiver_laws.proofs.Headline.{all-stay, passed-sealed}
use Rattle.receiver_laws.proofs.{Rising.have_passed, Stated.stated_fit, Stated.stated_reads_all}
use Rattle.receiver_laws.specs.Accounted.{forged, is_among, pair_of, pairs_of, IsSubsequence}
use Rattle.receiver_laws.specs.{Accounted.IsAccountedFor, AllLeft.ReadsAllThatPassed}
use Rattle.receiver_laws.specs.{Headline.bytes_read, Headline.bytes_sealed}
use Rattle.receiver_laws.specs.Fitting.{StatedProfile.of_y18, StatedProfile.of_y24}
use Rattle.session_audit.proofs.Lately.{no-difference, differs-nowhere, within-bytes}
use Rattle.session_audit.proofs.Lately.{within-exact, within-itself, later-bytes}
use Rattle.session_audit.proofs.Spaced.{guarded-among, guarded-all, guarded-same}
use Rattle.session_lists.specs.Comparison.{first_difference, difference_at, difference_of}
use Rattle.session_lists.specs.{Expected.expected_by, Lateness.AreReadWithin, Lateness.read_later}
use Rattle.session_lists.specs.declared.lateness.Lateness.{Lateness}
use Rattle.session_lists.specs.declared.comparison.Difference.{Difference}
use Rattle.rtu_frame.specs.Rules.{rtu_rules, rtu_lawful, rtu_headed}
use Rattle.sequence_journal.specs.{Uptimes.RiseFrom, declared.numbers.TheConstants.LIMIT}
use Rattle.session_audit.specs.{Clean.IsClean, Sessions.LinkKind}
use Rattle.session_audit.specs.Sessions.{sent_profile, got_profile, lateness_in, expected_in}
use Rattle.session_audit.specs.Sessions.{own_line, rest_behind, got_setup, kind_of}
use Rattle.session_audit.specs.SpacedReads.{most_waiting, spaced_reads}
use Rattle.spacer_laws.proofs.Leaving.{ReadsNothing, rtu-nothing, hunt-nothing}
use Rattle.line_spacer.specs.Spacing.{spaced_line}
use Rattle.link_box.specs.Checking.{passed, received_line}
use Rattle.link_format.specs.{Profile.Profile as LinkProfile, Profile.delay, Y18.y18, Y24.y24}
use Rattle.receiver_laws.proofs.Subsequences.{chain-is}
use Rattle.dnp_link_frame.specs.RulesLaws.{dnp_framed}
use Rattle.command_ends.specs.Links.{gap_of}
use Rattle.session_audit.specs.Sessions.{sealed_in_session, passed_in_session, read_in, line_received, verdict_with}
use Rattle.session_audit.specs.{Verdicts.finding_by}
use Rattle.session_audit.specs.Verdicts.{are_none, counts_of}
use Rattle.session_audit.specs.declared.{session.Session.Session}
use Rattle.session_audit.specs.declared.verdict.Counts.{Counts}
use Rattle.session_audit.specs.declared.verdict.Finding.TheVariants.{Clean, Differs}
use Rattle.std.proofs.Common.{◌≡◌, ◌≢◌, ◌∙◌, ◌≤◌, ◌&&◌, ℕ, ◌==◌, Bool, true, false, List, []}
use Rattle.std.proofs.Common.{◌∷◌, arith}
use Rattle.std.proofs.Common.{length, Option, Some, None, option_map, refl, sym, ap}
use Rattle.std.proofs.Common.{subst, ⊎_elim, map, ◌++◌, if◌then◌else◌}
use Rattle.std.proofs.lemmas.Bool.{cases_Bool, and_from, eqb-true, eq-eqb}
use Rattle.std.proofs.lemmas.List.{length-map}
use Rattle.yasir_ticks.specs.{Ticks.AreTicks, Ticks.silent, declared.tick.Tick.Tick}

-- ---- verdicts

-- What must hold for a clean verdict: there is a frame, no frame is forged, and there is no
-- difference.
record Cleans (none : Bool) (frames : List NumberedFrame) (difference : Option Difference) :
    Type 0 where
  pub some : none ≡ false
  pub unforged : frames ≡ []
  pub same : difference ≡ None

clean-by : (none : Bool) (frames : List NumberedFrame) (difference : Option Difference)
    → finding_by none frames difference ≡ Clean → Cleans none frames difference
clean-by true frames difference is = cc
clean-by false [] None is = record { some = refl; unforged = refl; same = refl }
clean-by false [] (Some difference) is = cc
clean-by false (f ∷ frames) difference is = cc

never-by : (none : Bool) (frames : List NumberedFrame) (difference : Option Difference)
    (d : Difference) → difference ≡ None → finding_by none frames difference ≢ Differs d
never-by true frames difference d nowhere = λ is. cc
never-by false [] None d nowhere = λ is. cc
never-by false [] (Some difference) d nowhere = λ is. cc
never-by false (f ∷ frames) difference d nowhere = λ is. cc

none-mapped : {A B : Type 0} (f : A → B) (o : Option A) → option_map f o ≡ None → o ≡ None
none-mapped f None none = refl
none-mapped f (Some x) none = cc

-- If there is some frame, no more passed than were sealed, and no more were read than passed, some
-- frame was sealed.
shorter : {A : Type 0} {x y : List A} → IsSubsequence x y → length x ≤ length y
shorter IsSubsequence.none = omega arith
shorter (IsSubsequence.skip rest) = let few = shorter rest in omega (arith, few)
shorter (IsSubsequence.keep rest) = let few = shorter rest in omega (arith, few)

some-sealed : (counts : Counts) → are_none counts ≡ false → counts.passed ≤ counts.sealed
    → counts.read ≤ counts.passed → 1 ≤ counts.sealed
some-sealed counts some few same = ⊎_elim
    (λ none.
    let sealed : counts.sealed ≡ 0 = eqb-true counts.sealed 0 none in
    let passed : counts.passed ≡ 0 = omega (arith, sealed, few) in
    let read : counts.read ≡ 0 = omega (arith, passed, same) in
    let all : are_none counts ≡ true =
    and_from (counts.sealed == 0 && counts.passed == 0) (counts.read == 0)
    (and_from (counts.sealed == 0) (counts.passed == 0) none (eq-eqb counts.passed 0 passed))
    (eq-eqb counts.read 0 read) in
    let never : true ≡ false = sym all ∙ some in cc)
    (λ other. let n : counts.sealed ≢ 0 = λ is. (let never : true ≡ false =
    sym (eq-eqb counts.sealed 0 is) ∙ other in cc) in omega (arith, n))
    (cases_Bool (counts.sealed == 0))

-- ---- a session

whole-is : {X : Type 0} (x : List X) → IsSubsequence x x
whole-is [] = IsSubsequence.none
whole-is (a ∷ x) = IsSubsequence.keep (whole-is x)

-- What is read behind a spacer: some of the frames that passed or, if the link's bytes are below
-- 256, all of them, and nothing more in silence.
pub record IsGuarded (kind : LinkKind) (session : Session) (link : List Tick) : Type 0 where
  among : IsSubsequence (bytes_read (spaced_reads kind.reads kind.gap
      (line_received kind session link))) (bytes_sealed (passed_in_session kind session link))
  all : session.tolerance.spaced ≡ true → AreTicks link
      → bytes_read (spaced_reads kind.reads kind.gap (line_received kind session link))
      ≡ bytes_sealed (passed_in_session kind session link)
  same : session.tolerance.spaced ≡ true → AreTicks link
      → kind.reads (spaced_line kind.reads kind.gap most_waiting (line_received kind session link)
      ++ silent 4) ≡ spaced_reads kind.reads kind.gap (line_received kind session link)

module _ (kind : LinkKind) (session : Session) where
  abbrev late : Lateness
  late = lateness_in kind session

  -- the frames that should be read, by whether there is a spacer
  abbrev expected : List Tick → Bool → List FrameRead
  expected link spaced =
      expected_by spaced (delay (got_profile kind session)) (passed_in_session kind session link)
      (spaced_reads kind.reads kind.gap (line_received kind session link))

  -- They are some of those that passed.
  expected-among : (link : List Tick) → IsGuarded kind session link
      → IsSubsequence (bytes_read (expected_in kind session link))
      (bytes_sealed (passed_in_session kind session link))
  expected-among link guarded =
      let P : List NumberedFrame = passed_in_session kind session link in
      let Among : Bool → Type 0 =
      λ by. IsSubsequence (bytes_read (expected link by)) (bytes_sealed P) in
      ⊎_elim
      (λ spaced. subst Among (sym spaced) guarded.among)
      (λ plain. subst Among (sym plain)
      (subst (λ x. IsSubsequence x (bytes_sealed P))
      (sym (later-bytes (delay (got_profile kind session)) P)) (whole-is (bytes_sealed P))))
      (cases_Bool session.tolerance.spaced)

  -- Without a spacer they are those that passed, later by the receiver's delay.
  expected-plain : (link : List Tick) → session.tolerance.spaced ≡ false
      → expected_in kind session link
      ≡ map (read_later (delay (got_profile kind session))) (passed_in_session kind session link)
  expected-plain link plain = ap (expected link) plain

  -- With a spacer they are those that are read behind it.
  expected-spaced : (link : List Tick) → session.tolerance.spaced ≡ true
      → expected_in kind session link
      ≡ spaced_reads kind.reads kind.gap (line_received kind session link)
  expected-spaced link spaced = ap (expected link) spaced

  pub clean-says : IsLawful kind.rules → (device link received : List Tick) (counts : Counts)
      → IsGuarded kind session link
      → verdict_with kind session device link received ≡ record { counts = counts; finding = Clean }
      → IsClean kind session device link received counts
  clean-says lawful device link received counts guarded is =
      let S : List NumberedFrame = sealed_in_session kind session device in
      let P : List NumberedFrame = passed_in_session kind session link in
      let X : List FrameRead = read_in kind session received in
      let E : List FrameRead = expected_in kind session link in
      let counted : counts_of S P X ≡ counts = ap (λ v. v.counts) is in
      let parts = clean-by (are_none (counts_of S P X)) (forged S P) (difference_of late E X)
      (ap (λ v. v.finding) is) in
      let nowhere : first_difference late E X ≡ None =
      none-mapped (difference_at E X) (first_difference late E X) parts.same in
      let sealing : RiseFrom session.sent_floor (numbers_of S) =
      sealed-rise (sent_profile kind session) kind.rules lawful session.sent_floor _ in
      let passing : RiseFrom session.got_floor (numbers_of P) =
      (have_passed (got_profile kind session) kind.rules lawful session.got_floor _).rise in
      let accounted : IsAccountedFor session.sent_floor session.got_floor S P =
      rising-accounted session.sent_floor session.got_floor S P sealing passing in
      let reads : AreReadWithin session.tolerance.least session.tolerance.most E X =
      no-difference late E X nowhere in
      let bytes : bytes_read X ≡ bytes_read E =
      within-bytes session.tolerance.least session.tolerance.most E X reads in
      let plain : session.tolerance.spaced ≡ false → bytes_read X ≡ bytes_sealed P =
      λ none. bytes ∙ (ap bytes_read (expected-plain link none)
      ∙ later-bytes (delay (got_profile kind session)) P) in
      let read : IsSubsequence (bytes_read X) (bytes_sealed P) =
      subst (λ x. IsSubsequence x (bytes_sealed P)) (sym bytes) (expected-among link guarded) in
      let among : IsSubsequence (pairs_of P) (pairs_of S) =
      subst (λ l. IsSubsequence (pairs_of l) (pairs_of S))
      (all-stay (λ f. is_among S f) P parts.unforged) accounted.subsequence in
      let few : length P ≤ length S =
      subst (λ n. n ≤ length S) (length-map P pair_of)
      (subst (λ n. length (pairs_of P) ≤ n) (length-map S pair_of) (shorter among)) in
      let fewer : length X ≤ length P =
      subst (λ n. n ≤ length P) (length-map X (λ f. f.frame))
      (subst (λ n. length (bytes_read X) ≤ n) (length-map P (λ f. f.frame)) (shorter read)) in
      record {
        read_in_time = reads;
        read_the_same = λ told. ⊎_elim
            (λ spaced. bytes ∙ (ap bytes_read (expected-spaced link spaced)
            ∙ guarded.all spaced (told spaced)))
            plain (cases_Bool session.tolerance.spaced);
        read_exactly = λ none exact.
            within-exact session.tolerance.least session.tolerance.most exact E X reads
            ∙ expected-plain link none;
        passed_what_was_sealed = among;
        read_what_was_sealed = chain-is (bytes_read X) (bytes_sealed P) (bytes_sealed S) read
            (passed-sealed session.sent_floor session.got_floor S P accounted parts.unforged);
        sealed_rise = sealing;
        passed_rise = passing;
        some_sealed = subst (λ (c : Counts). 1 ≤ c.sealed) counted
            (some-sealed (counts_of S P X) parts.some few fewer);
        sealed_count = ap (λ (c : Counts). c.sealed) (sym counted);
        passed_count = ap (λ (c : Counts). c.passed) (sym counted);
        read_count = ap (λ (c : Counts). c.read) (sym counted);
      }

  -- If the frames that were read are those that should be, each in time, they don't differ.
  pub in-time-never : (device link received : List Tick)
      → AreReadWithin session.tolerance.least session.tolerance.most
      (expected_in kind session link) (read_in kind session received)
      → (difference : Difference)
      → (verdict_with kind session device link received).finding ≢ Differs difference
  in-time-never device link received within difference =
      let S : List NumberedFrame = sealed_in_session kind session device in
      let P : List NumberedFrame = passed_in_session kind session link in
      let X : List FrameRead = read_in kind session received in
      let E : List FrameRead = expected_in kind session link in
      let none : difference_of late E X ≡ None =
      ap (option_map (difference_at E X)) (differs-nowhere late E X within) in
      never-by (are_none (counts_of S P X)) (forged S P) (difference_of late E X) difference none

  -- What comes from the receiver, through the spacer if there is one, has all frames that should be
  -- read.
  own-line-read : (link : List Tick)
      → ReadsAllThatPassed kind.rules kind.reads (got_profile kind session) session.got_floor link
      (rest_behind session.tolerance.spaced) 4
      → AreTicks link → IsGuarded kind session link
      → read_in kind session (own_line kind session link) ≡ expected_in kind session link
  own-line-read link reads ticks guarded =
      let line : Bool → List Tick = λ by.
      if by then spaced_line kind.reads kind.gap most_waiting (line_received kind session link)
      else line_received kind session link in
      ⊎_elim
      (λ spaced. ap (λ by. read_in kind session (line by)) spaced
      ∙ (guarded.same spaced ticks ∙ sym (expected-spaced link spaced)))
      (λ plain. ap (λ by. read_in kind session (line by)) plain
      ∙ (reads ∙ sym (expected-plain link plain)))
      (cases_Bool session.tolerance.spaced)

  pub never-differs : (device link : List Tick) → session.tolerance.least ≡ 0
      → (difference : Difference)
      → ReadsAllThatPassed kind.rules kind.reads (got_profile kind session) session.got_floor link
      (rest_behind session.tolerance.spaced) 4
      → AreTicks link → IsGuarded kind session link
      → (verdict_with kind session device link (own_line kind session link)).finding
      ≢ Differs difference
  never-differs device link none difference reads ticks guarded =
      let E : List FrameRead = expected_in kind session link in
      in-time-never device link (own_line kind session link)
      (subst (λ x. AreReadWithin session.tolerance.least session.tolerance.most E x)
      (sym (own-line-read link reads ticks guarded))
      (within-itself session.tolerance.least session.tolerance.most none E)) difference

-- ---- both protocols, with both profiles

pub lawful-rules : (proto : Proto) → IsLawful (rules_of proto)
lawful-rules Rtu = rtu_lawful
lawful-rules Dnp3 = dnp_lawful

-- The line of a receiver, recorded until all has left, has all frames that passed.
pub reads-own-line : (proto : Proto) (profile : Profile) (setup : Setup) (floor : ℕ)
    (link : List Tick) → AreTicks link → (rest : ℕ) → 320 ≤ rest
    → ReadsAllThatPassed (rules_of proto) (device_reads proto)
    (link_profile_of profile (label_of proto) LIMIT setup) floor link rest 4
reads-own-line Rtu Y18 setup floor link ticks rest long =
    stated_reads_all rtu _ tt (stated_fit rtu_rules rtu_headed of_y18 1 LIMIT setup).timely floor link
    ticks rest 4 (omega (arith, long)) (omega arith)
reads-own-line Rtu Y24 setup floor link ticks rest long =
    stated_reads_all rtu _ tt (stated_fit rtu_rules rtu_headed of_y24 1 LIMIT setup).timely floor link
    ticks rest 4 (omega (arith, long)) (omega arith)
reads-own-line Dnp3 Y18 setup floor link ticks rest long =
    stated_reads_all dnp _ tt (stated_fit dnp_rules dnp_headed of_y18 2 LIMIT setup).timely floor link
    ticks rest 4 (omega (arith, long)) (omega arith)
reads-own-line Dnp3 Y24 setup floor link ticks rest long =
    stated_reads_all dnp _ tt (stated_fit dnp_rules dnp_headed of_y24 2 LIMIT setup).timely floor link
    ticks rest 4 (omega (arith, long)) (omega arith)

pub rest-long : (spaced : Bool) → 320 ≤ rest_behind spaced
rest-long true = omega arith
rest-long false = omega arith

nothing-stated : (proto : Proto) (line : List Tick)
    → ReadsNothing (device_reads proto) (line ++ silent 4)
nothing-stated Rtu line = rtu-nothing 4 2 line
nothing-stated Dnp3 line =
    hunt-nothing 0x05 0x64 dnp_rules dnp_lawful dnp_framed 0 0 (line ++ silent 4)

-- What is read behind each spacer, if enough silence follows the link.
module _ (proto : Proto) (profile : Profile) (setup : Setup) (floor : ℕ) (link : List Tick) where
  abbrev its : LinkProfile
  its = link_profile_of profile (label_of proto) LIMIT setup

  abbrev line : ℕ → List Tick
  line rest = received_line its (rules_of proto) floor (link ++ silent rest)

  abbrev passes : ℕ → List NumberedFrame
  passes rest = passed its (rules_of proto) floor (link ++ silent rest)

  record IsGuardedBy (rest : ℕ) : Type 0 where
    among : IsSubsequence (bytes_read (spaced_reads (device_reads proto) (gap_of profile)
        (line rest))) (bytes_sealed (passes rest))
    all : 21100 ≤ rest → AreTicks link
        → bytes_read (spaced_reads (device_reads proto) (gap_of profile) (line rest))
        ≡ bytes_sealed (passes rest)
    same : 21100 ≤ rest → AreTicks link
        → device_reads proto (spaced_line (device_reads proto) (gap_of profile) most_waiting
        (line rest) ++ silent 4)
        ≡ spaced_reads (device_reads proto) (gap_of profile) (line rest)

guarded-by : (proto : Proto) (profile : Profile) (setup : Setup) (floor : ℕ) (link : List Tick)
    (rest : ℕ) → IsGuardedBy proto profile setup floor link rest
guarded-by Rtu Y18 setup floor link rest =
    let fit = stated_fit rtu_rules rtu_headed of_y18 1 LIMIT setup in
    record {
      among = guarded-among rtu (y18 1 LIMIT setup) 21 floor tt tt (omega arith)
          (link ++ silent rest);
      all = λ long ticks. guarded-all rtu (y18 1 LIMIT setup) 21 floor tt tt (omega arith)
          fit.timely fit.word (omega arith) (omega arith) (omega arith) (omega arith)
          (omega arith) (omega arith)
          (nothing-stated Rtu) link ticks rest long;
      same = λ long ticks. guarded-same rtu (y18 1 LIMIT setup) 21 floor tt tt (omega arith)
          fit.timely fit.word (omega arith) (omega arith) (omega arith) (omega arith)
          (omega arith) (omega arith)
          (nothing-stated Rtu) link ticks rest long;
    }
guarded-by Rtu Y24 setup floor link rest =
    let fit = stated_fit rtu_rules rtu_headed of_y24 1 LIMIT setup in
    record {
      among = guarded-among rtu (y24 1 LIMIT setup) 27 floor tt tt (omega arith)
          (link ++ silent rest);
      all = λ long ticks. guarded-all rtu (y24 1 LIMIT setup) 27 floor tt tt (omega arith)
          fit.timely fit.word (omega arith) (omega arith) (omega arith) (omega arith)
          (omega arith) (omega arith)
          (nothing-stated Rtu) link ticks rest long;
      same = λ long ticks. guarded-same rtu (y24 1 LIMIT setup) 27 floor tt tt (omega arith)
          fit.timely fit.word (omega arith) (omega arith) (omega arith) (omega arith)
          (omega arith) (omega arith)
          (nothing-stated Rtu) link ticks rest long;
    }
guarded-by Dnp3 Y18 setup floor link rest =
    let fit = stated_fit dnp_rules dnp_headed of_y18 2 LIMIT setup in
    record {
      among = guarded-among dnp (y18 2 LIMIT setup) 21 floor tt tt (omega arith)
          (link ++ silent rest);
      all = λ long ticks. guarded-all dnp (y18 2 LIMIT setup) 21 floor tt tt (omega arith)
          fit.timely fit.word (omega arith) (omega arith) (omega arith) (omega arith)
          (omega arith) (omega arith)
          (nothing-stated Dnp3) link ticks rest long;
      same = λ long ticks. guarded-same dnp (y18 2 LIMIT setup) 21 floor tt tt (omega arith)
          fit.timely fit.word (omega arith) (omega arith) (omega arith) (omega arith)
          (omega arith) (omega arith)
          (nothing-stated Dnp3) link ticks rest long;
    }
guarded-by Dnp3 Y24 setup floor link rest =
    let fit = stated_fit dnp_rules dnp_headed of_y24 2 LIMIT setup in
    record {
      among = guarded-among dnp (y24 2 LIMIT setup) 27 floor tt tt (omega arith)
          (link ++ silent rest);
      all = λ long ticks. guarded-all dnp (y24 2 LIMIT setup) 27 floor tt tt (omega arith)
          fit.timely fit.word (omega arith) (omega arith) (omega arith) (omega arith)
          (omega arith) (omega arith)
          (nothing-stated Dnp3) link ticks rest long;
      same = λ long ticks. guarded-same dnp (y24 2 LIMIT setup) 27 floor tt tt (omega arith)
          fit.timely fit.word (omega arith) (omega arith) (omega arith) (omega arith)
          (omega arith) (omega arith)
          (nothing-stated Dnp3) link ticks rest long;
    }

rest-spaced : (spaced : Bool) → spaced ≡ true → 21100 ≤ rest_behind spaced
rest-spaced true is = omega arith
rest-spaced false is = cc

pub is-guarded : (session : Session) (link : List Tick) → IsGuarded (kind_of session) session link
is-guarded session link =
    let by = guarded-by session.proto session.profile (got_setup session) session.got_floor link
    (rest_behind session.tolerance.spaced) in
    record {
      among = by.among;
      all = λ spaced. by.all (rest-spaced session.tolerance.spaced spaced);
      same = λ spaced. by.same (rest-spaced session.tolerance.spaced spaced);
    }

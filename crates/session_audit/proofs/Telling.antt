-- What the lists of two recordings say of one another follows from the laws of the transmitter, the
-- receiver and the device.
use Rattle.device_model.specs.Frames.{FrameRead}
use Rattle.line_rules.specs.{Rules.Rules, RulesLaws.IsLawful, RulesLaws.IsFramed}
use Rattle.link_format.specs.NumberedFrame.{NumberedFrame, numbers_of}
use Rattle.link_format.specs.Profile.{Profile, HasTags, delay, words}
use Rattle.link_box.specs.Checking.{passed, received_line}
use Rattle.receiver_laws.proofs.Deliveries.{delivers-all}
use Rattle.receiver_laws.specs.Accounted.{forged, is_among, is_same_pair}
use Rattle.receiver_laws.specs.Headline.{ReadsWhatWasSealed}
use Rattle.receiver_laws.specs.Untouched.{AreSpaced, DeliversAll, IsUntouchedLink}
use Rattle.session_audit.specs.Listing.{Listing}
use Rattle.session_audit.specs.TellsOf.{TellsOf, DeliversLine, HasNoNumberTwice, device_rest}
use Rattle.{session_lists.specs.Recordings.before_mark, link_box.specs.Sealing.sealed}
use Rattle.{link_box.specs.Sealing.link_line, sequence_journal.specs.Uptimes.RiseFrom}
use Rattle.std.proofs.Common.{◌≡◌, ◌∙◌, ℕ, zero, suc, ◌+◌, ◌-◌, ◌<◌, ◌≤◌, ◌&&◌, ◌||◌, Bool, true}
use Rattle.std.proofs.Common.{false, not, List, [], ◌∷◌, ◌++◌, length, get_or, bytes_eq, refl, sym}
use Rattle.std.proofs.Common.{ap, subst, arith, append_assoc, eq-eqb, nat_lt, if◌then◌else◌}
use Rattle.std.proofs.{Math.Nat.one-le-pow, lemmas.Slice.Eq.bytes_eq-Decides}
use Rattle.yasir_ticks.specs.Bursts.{Burst, bursts, bursts_from, with_byte}
use Rattle.yasir_ticks.specs.Ticks.{Item, ticks_in, silent, Item.tick}
use Rattle.yasir_ticks.specs.declared.tick.Tick.{Tick, TheVariants.Silent, TheVariants.Byte}

-- ---- numbers that rise

above-floor : (floor i d : ℕ) (numbers : List ℕ) → RiseFrom floor numbers → i < length numbers
    → floor < get_or numbers i d
above-floor floor i d [] rise within = absurd (omega arith)
above-floor floor zero d (n ∷ numbers) rise within = rise.0
above-floor floor (suc i) d (n ∷ numbers) rise within =
    let first = rise.0 in
    let later = above-floor n i d numbers rise.1 (omega (arith, within)) in
    omega (arith, first, later)

rise-apart : (floor i j d : ℕ) (numbers : List ℕ) → RiseFrom floor numbers → i < j
    → j < length numbers → get_or numbers i d < get_or numbers j d
rise-apart floor i j d [] rise before within = absurd (omega arith)
rise-apart floor i zero d (n ∷ numbers) rise before within = absurd (omega arith)
rise-apart floor zero (suc j) d (n ∷ numbers) rise before within =
    above-floor n j d numbers rise.1 (omega (arith, within))
rise-apart floor (suc i) (suc j) d (n ∷ numbers) rise before within =
    rise-apart n i j d numbers rise.1 (omega (arith, before)) (omega (arith, within))

never-twice : (floor : ℕ) (numbers : List ℕ) → RiseFrom floor numbers → HasNoNumberTwice numbers
never-twice floor numbers rise i j d before within = λ same.
    let apart = rise-apart floor i j d numbers rise before within in
    omega (arith, apart, same)

-- ---- a list of passed frames of which none is forged

same-here : (f : NumberedFrame) → is_same_pair f f ≡ true
same-here f =
    ap (λ b. b && bytes_eq f.frame f.frame) (eq-eqb f.number f.number refl)
    ∙ (bytes_eq-Decides f.frame f.frame).1 refl

or-true : (b : Bool) → (b || true) ≡ true
or-true true = refl
or-true false = refl

among-here : (front back : List NumberedFrame) (f : NumberedFrame)
    → is_among (front ++ f ∷ back) f ≡ true
among-here [] back f = ap (λ b. b || is_among back f) (same-here f)
among-here (g ∷ front) back f =
    ap (λ b. is_same_pair g f || b) (among-here front back f) ∙ or-true (is_same_pair g f)

none-behind : (front back : List NumberedFrame) → forged (front ++ back) back ≡ []
none-behind front [] = refl
none-behind front (f ∷ back) =
    let rest : List NumberedFrame = forged (front ++ f ∷ back) back in
    let stays : rest ≡ [] = subst (λ l. forged l back ≡ [])
    (append_assoc front (f ∷ []) back) (none-behind (front ++ f ∷ []) back) in
    ap (λ b. if not b then f ∷ rest else rest) (among-here front back f) ∙ stays

-- ---- how many bursts a line has

few-either : (joins : Bool) (e f d : Burst) (ds : List Burst)
    → length (if joins then e ∷ ds else f ∷ d ∷ ds) ≤ suc (suc (length ds))
few-either true e f d ds = omega arith
few-either false e f d ds = omega arith

length-with_byte : (cut n b : ℕ) (ds : List Burst)
    → length (with_byte cut n b ds) ≤ suc (length ds)
unfolding with_byte
length-with_byte cut n b [] = omega arith
length-with_byte cut n b (d ∷ ds) = few-either (nat_lt d.start (suc n + cut))
    (record { start = n; body = Byte b ∷ (silent (d.start - suc n) ++ d.body) })
    (record { start = n; body = Byte b ∷ [] }) d ds

length-bursts_from : (cut n : ℕ) (l : List Tick) → length (bursts_from cut n l) ≤ length l
unfolding bursts_from
length-bursts_from cut n [] = omega arith
length-bursts_from cut n (Silent ∷ l) =
    let few = length-bursts_from cut (suc n) l in omega (arith, few)
length-bursts_from cut n (Byte b ∷ l) =
    let few = length-bursts_from cut (suc n) l in
    let more = length-with_byte cut n b (bursts_from cut (suc n) l) in
    omega (arith, few, more)

pub few-bursts : (line : List Tick) → length (bursts line) ≤ length line
few-bursts line = length-bursts_from 4 0 line

pub few-before : (items : List Item) → length (before_mark items) ≤ length (ticks_in items)
few-before (tick t ∷ items) = let few = few-before items in omega (arith, few)
few-before items = omega arith

-- ---- the lists

module _ (profile : Profile) (tags : HasTags profile) (some : 1 ≤ profile.word_len) (rules : Rules)
    (lawful : IsLawful rules) (framed : IsFramed rules) (reads : List Tick → List FrameRead)
    (ends : ℕ)
    (reads_sealed : (line link : List Tick)
    → ReadsWhatWasSealed rules reads ends profile 0 0 line link)
    (device recorded : List Tick) (rest : ℕ) (enough : delay profile + ends ≤ rest)
    (numbers : length (bursts device) ≤ profile.limit) where
  abbrev line : List Tick
  line = device ++ silent (device_rest profile)

  abbrev link : List Tick
  link = recorded ++ silent rest

  abbrev listed : Listing
  listed = record {
    sealed = sealed profile rules 0 line;
    passed = passed profile rules 0 link;
    reads = reads (received_line profile rules 0 link);
  }

  delivers : (more : ℕ) → link ≡ link_line profile rules 0 line ++ silent more
      → AreSpaced profile rules 0 (bursts device)
      → DeliversLine profile rules device link more listed
  delivers more is spaced =
      let many : 1 ≤ words profile = one-le-pow profile.word_len 256 (omega arith) in
      let untouched : IsUntouchedLink profile rules 0 0 device (device_rest profile) = record {
        spaced = spaced;
        numbers = omega (arith, numbers);
        not_above = omega arith;
        near = omega (arith, many);
        silence = omega arith;
      } in
      let all : DeliversAll profile rules 0 0 device (device_rest profile) more =
      delivers-all profile tags some rules lawful framed 0 0 device (device_rest profile) more
      untouched in
      let passes : passed profile rules 0 link ≡ sealed profile rules 0 line =
      ap (passed profile rules 0) is ∙ all.passes ∙ sym all.seals in
      let long : device_rest profile - delay profile + more ≡ 6 + more = omega arith in
      record {
        none_forged = ap (forged (sealed profile rules 0 line)) passes
            ∙ none-behind [] (sealed profile rules 0 line);
        all_sealed = all.seals;
        all_passed = passes;
        received = ap (received_line profile rules 0) is ∙ all.comes
            ∙ ap (λ n. silent (delay profile) ++ (device ++ silent n)) long;
      }

  pub tells-of : TellsOf profile rules device link listed
  tells-of =
      let law = reads_sealed line link in
      record {
        reads_what_passed = (reads_sealed line recorded).only_passed.all rest enough;
        passes_what_was_sealed = law.accounted.subsequence;
        reads_what_was_sealed = law.only_sealed;
        sealed_rise = law.accounted.sealed_rise;
        sealed_once = never-twice 0 (numbers_of (sealed profile rules 0 line))
            law.accounted.sealed_rise;
        passed_rise = law.accounted.passed_rise;
        passed_once = never-twice 0 (numbers_of (passed profile rules 0 link))
            law.accounted.passed_rise;
        untouched = delivers;
      }

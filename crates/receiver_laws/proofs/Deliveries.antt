-- An untouched link delivers all.
use Rattle.frame_ending.proofs.{LaidBursts.bursts-laid, LaidBursts.laid-later, Spread.EndBy}
use Rattle.frame_ending.{proofs.Spread.bursts-spread, proofs.Spread.bursts-end, specs.Laid.laid}
use Rattle.frame_ending.specs.{Laid.later, Laid.tick_at, Walk.walked, Walk.emitted_by, Walk.notes_before}
use Rattle.line_rules.specs.{Rules.Rules, RulesLaws.IsLawful, RulesLaws.IsFramed}
use Rattle.link_format.specs.Profile.{Profile, HasTags, pause_len, trailer_len, delay}
use Rattle.link_box.specs.Checking.{checker, at_floor as check_floor}
use Rattle.receiver_laws.proofs.{Delivering.PassesAll, Delivering.passes-all, Notes.frames_in}
use Rattle.receiver_laws.proofs.Packing.{packets, packets-spread, packets-end, SealsAll, seals-all}
use Rattle.receiver_laws.specs.Untouched.{IsUntouchedLink, DeliversAll, untouched}
use Rattle.link_box.proofs.SealNumbers.{frames_in as sealed_frames}
use Rattle.link_box.specs.Sealing.{sealer, at_floor as seal_floor, link_line}
use Rattle.std.proofs.Common.{◌≡◌, ◌∙◌, ℕ, ◌+◌, ◌-◌, ◌≤◌, List, [], ◌∷◌, ◌++◌, length, map, refl}
use Rattle.std.proofs.Common.{sym, ap, subst, arith, length-append}
use Rattle.std.proofs.lemmas.List.{length-replicate, FromFn.length-map-range_with_len}
use Rattle.yasir_ticks.proofs.{BurstLaws.bursts_from-silent_end, BurstsOfLaws.bursts_from-are}
use Rattle.yasir_ticks.specs.Bursts.{Burst, bursts, end_of}
use Rattle.yasir_ticks.specs.{BurstsOf.AreBursts, Ticks.silent}
use Rattle.yasir_ticks.specs.declared.tick.Tick.{Tick, TheVariants.Silent}

-- ---- the bursts of a line and its length determine it

parts-length : (gap : ℕ) (x y : List Tick)
    → length (silent gap ++ (x ++ y)) ≡ gap + (length x + length y)
parts-length gap x y =
    length-append (silent gap) (x ++ y)
    ∙ (ap (λ k. k + length (x ++ y)) (length-replicate gap Silent)
    ∙ ap (λ k. gap + k) (length-append x y))

same-line : (cut n : ℕ) (a b : List Tick) (ds : List Burst) → AreBursts cut n a ds
    → AreBursts cut n b ds → length a ≡ length b → a ≡ b
same-line cut n a b [] of_a of_b long = of_a ∙ (ap (λ k. silent k) long ∙ sym of_b)
same-line cut n a b (d ∷ ds) of_a of_b long =
    let begins_a : d.start ≡ n + of_a.0 = of_a.3 in
    let begins_b : d.start ≡ n + of_b.0 = of_b.3 in
    let gap : of_a.0 ≡ of_b.0 = omega arith in
    let long_a : length a ≡ of_a.0 + (length d.body + length of_a.1) =
    ap length of_a.2 ∙ parts-length of_a.0 d.body of_a.1 in
    let long_b : length b ≡ of_b.0 + (length d.body + length of_b.1) =
    ap length of_b.2 ∙ parts-length of_b.0 d.body of_b.1 in
    let rest : of_a.1 ≡ of_b.1 =
    same-line cut (end_of d) of_a.1 of_b.1 ds of_a.6 of_b.6 (omega arith) in
    of_a.2
    ∙ (ap (λ k. silent k ++ (d.body ++ of_a.1)) gap
    ∙ (ap (λ y. silent of_b.0 ++ (d.body ++ y)) rest ∙ sym of_b.2))

pub end-later : (m n : ℕ) (ds : List Burst) → m ≤ n → EndBy m ds → EndBy n ds
end-later m n [] le ends = tt
end-later m n (d ∷ ds) le ends = let end = ends.0 in (omega arith, end-later m n ds le ends.1)

-- Laid on a line, the bursts of `line` give `line` again, and silence after it.
pub laid-line : (line : List Tick) (k m : ℕ) → length line + k ≡ m
    → laid m (bursts line) ≡ line ++ silent k
laid-line line k m here =
    let ds : List Burst = bursts line in
    let le : length line ≤ m = omega arith in
    let P : List Burst → Type 0 = λ es. AreBursts 4 0 (laid m ds) es in
    let Q : List Burst → Type 0 = λ es. AreBursts 4 0 (line ++ silent k) es in
    let whole = bursts-laid 4 m ds (bursts-spread line)
    (end-later (length line) m ds le (bursts-end line)) in
    let long : length (laid m ds) ≡ m = length-map-range_with_len (λ i. tick_at ds i) 0 m in
    let other = length-append line (silent k) in
    let tail = length-replicate k Silent in
    same-line 4 0 (laid m ds) (line ++ silent k) ds
    (subst P whole (bursts_from-are 4 0 (laid m ds)))
    (subst Q (bursts_from-silent_end 4 0 k line) (bursts_from-are 4 0 (line ++ silent k)))
    (omega arith)

module _ (profile : Profile) (tags : HasTags profile) (some : 1 ≤ profile.word_len)
    (rules : Rules) (lawful : IsLawful rules) (framing : IsFramed rules) (floor behind : ℕ)
    (line : List Tick) (more rest : ℕ) (is : IsUntouchedLink profile rules floor behind line more) where
  abbrev ds : List Burst
  ds = bursts line

  abbrev sealed_line : List Tick
  sealed_line = line ++ silent more

  abbrev link : List Tick
  link = untouched profile rules floor line more rest

  abbrev its : List Burst
  its = packets profile rules floor ds

  whole-length : length sealed_line ≡ length line + more
  whole-length = length-append line (silent more) ∙ ap (λ k. length line + k)
      (length-replicate more Silent)

  same-bursts : bursts sealed_line ≡ ds
  same-bursts = bursts_from-silent_end 4 0 more line

  seal-room : length line + 4 ≤ length sealed_line
  seal-room = let long = whole-length in let quiet = is.silence in omega arith

  all-sealed : SealsAll profile tags some rules lawful (length line) (length sealed_line) seal-room
      (seal_floor floor) ds
  all-sealed = seals-all profile tags some rules lawful (length line) (length sealed_line) seal-room
      (seal_floor floor) 0 0 ds is.spaced (bursts-spread line) (bursts-end line) (omega arith)
      is.numbers

  -- ---- the link

  sealed-link : link_line profile rules floor sealed_line ≡ laid (length sealed_line) its
  sealed-link =
      ap (λ es. laid (length sealed_line) (emitted_by (sealer profile rules) (seal_floor floor) es))
      same-bursts
      ∙ ap (λ es. laid (length sealed_line) es) all-sealed.emits

  its-end : EndBy (length sealed_line) its
  its-end =
      let long = whole-length in
      let quiet = is.silence in
      end-later (length line + pause_len + trailer_len profile) (length sealed_line) its
      (omega arith)
      (packets-end profile tags some rules lawful floor 0 0 (length line) ds is.spaced
      (bursts-spread line) (bursts-end line))

  link-bursts : bursts link ≡ its
  link-bursts =
      bursts_from-silent_end 4 0 rest (link_line profile rules floor sealed_line)
      ∙ (ap (λ x. bursts x) sealed-link
      ∙ bursts-laid 4 (length sealed_line) its
      (packets-spread profile tags some rules lawful floor 0 0 ds is.spaced (bursts-spread line))
      its-end)

  link-length : length link ≡ length line + more + rest
  link-length =
      let long : length (link_line profile rules floor sealed_line) ≡ length sealed_line =
      length-map-range_with_len (λ i. tick_at (emitted_by (sealer profile rules) (seal_floor floor)
      (bursts sealed_line)) i) 0 (length sealed_line) in
      let all = length-append (link_line profile rules floor sealed_line) (silent rest) in
      let tail = length-replicate rest Silent in
      let whole = whole-length in
      omega arith

  -- ---- the receiver

  pass-room : length line + pause_len + trailer_len profile ≤ length link
  pass-room = let long = link-length in let quiet = is.silence in omega arith

  all-passed : PassesAll profile tags some rules lawful framing (length line) (length link)
      pass-room
      (check_floor behind) floor ds
  all-passed = passes-all profile tags some rules lawful framing (length line) (length link)
      pass-room
      (check_floor behind) floor 0 0 ds is.spaced (bursts-spread line) (bursts-end line)
      (omega arith)
      is.not_above is.near is.numbers

  -- The receiver emits what the device's line carries, later by the delay.
  pub untouched-emits : emitted_by (checker profile rules) (check_floor behind) (bursts link)
      ≡ map (later (delay profile)) ds
  untouched-emits =
      ap (λ es. emitted_by (checker profile rules) (check_floor behind) es) link-bursts
      ∙ all-passed.emits

  pub delivers-all : DeliversAll profile rules floor behind line more rest
  delivers-all =
      let late : ℕ = delay profile in
      let left : ℕ = more - delay profile + rest in
      let long = link-length in
      let quiet = is.silence in
      let parts : length link ≡ late + (length line + left) = omega arith in
      record {
        seals = ap (λ es. sealed_frames (notes_before (length sealed_line)
            (walked (sealer profile rules) (seal_floor floor) es))) same-bursts
            ∙ all-sealed.notes;
        passes = ap (λ es. frames_in (notes_before (length link)
            (walked (checker profile rules) (check_floor behind) es))) link-bursts
            ∙ all-passed.notes;
        comes = ap (λ es. laid (length link)
            (emitted_by (checker profile rules) (check_floor behind) es))
            link-bursts
            ∙ (ap (λ es. laid (length link) es) all-passed.emits
            ∙ (ap (λ k. laid k (map (later late) ds)) parts
            ∙ (laid-later late (length line + left) ds
            ∙ ap (λ l. silent late ++ l) (laid-line line left (length line + left) refl))));
      }

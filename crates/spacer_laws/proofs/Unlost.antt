-- A spacer behind the receiver loses no frame, whatever comes over the link.
use Rattle.frame_ending.proofs.LiveTicks.{live_ticks-bytes, live_ticks-contiguous}
use Rattle.frame_ending.proofs.Spread.{AreSpread, bursts-spread}
use Rattle.frame_ending.specs.{LiveBytes.live_bytes, LiveBytes.live_ticks, Walk.emitted_by}
use Rattle.device_model.specs.Frames.{FrameRead}
use Rattle.line_rules.specs.{Bytes.AreBytes, Rules.Rules, RulesLaws.IsLawful, RulesLaws.IsFramed}
use Rattle.line_spacer.specs.Spacing.{lost_of}
use Rattle.link_format.specs.Profile.{Profile, pause_len, trailer_len, delay}
use Rattle.link_box.proofs.Passing.{passed-passing}
use Rattle.link_box.specs.Checking.{state_by, checker, at_floor, received_line}
use Rattle.link_box.specs.Emissions.{delayed, emission_by}
use Rattle.link_box.specs.Verdicts.{CheckState, Verdict, after_live, checked}
use Rattle.link_box.specs.Verdicts.Verdict.{passed_with, refused, dropped}
use Rattle.link_box.specs.declared.check_note.RefusedWhy.{RefusedWhy}
use Rattle.receiver_laws.proofs.{Readings.wrong, Standing.AreOn, Standing.bursts-on}
use Rattle.receiver_laws.proofs.Standing.{byte_ticks, live-parts, shape-kept, ticks-behind, ticks-front}
use Rattle.spacer_laws.proofs.{Accepted.all-cons, GivingAll.ComeApart, GivingAll.given-from}
use Rattle.spacer_laws.proofs.Guarding.{HearsEmissions, emissions-apart}
use Rattle.spacer_laws.proofs.LaidArrivals.{ended, arrivals-laid, contiguous-some}
use Rattle.std.proofs.Common.{◌≡◌, ◌∙◌, ℕ, ◌+◌, ◌*◌, ◌<◌, ◌≤◌, Bool, true, false, cond, ◌&&◌, nat_le}
use Rattle.std.proofs.Common.{List, [], ◌∷◌, ◌++◌, length, refl, sym, ap, subst, arith}
use Rattle.std.proofs.Common.{length-append}
use Rattle.std.proofs.lemmas.{Bool.and_parts, List.length-map, List.length-replicate}
use Rattle.yasir_ticks.proofs.{BurstsOfLaws.bursts_from-are, SilenceLaws.bytes_in-silent}
use Rattle.yasir_ticks.specs.Bursts.{Burst, bursts, end_of}
use Rattle.yasir_ticks.specs.BurstsOf.{IsContiguous, one, more}
use Rattle.yasir_ticks.specs.Ticks.{AreTicks, bytes_in, silent}
use Rattle.yasir_ticks.specs.declared.tick.Tick.{Tick, TheVariants.Silent, TheVariants.Byte}

-- ---- ticks of a frame

pub bytes-fit : (x : List Tick) → AreTicks x → AreBytes (bytes_in x)
bytes-fit [] are = λ k d none. absurd (omega arith)
bytes-fit (Silent ∷ x) are = bytes-fit x are.1
bytes-fit (Byte b ∷ x) are = all-cons (λ c. c < 256) b (bytes_in x) are.0 (bytes-fit x are.1)

-- If no two silent ticks are side by side, at most every other tick is silent.
calm-few : (x : List Tick) → IsContiguous 2 x → length x ≤ 2 * length (bytes_in x)
calm-few x (one b) = omega arith
calm-few x (more b gap rest few contiguous) =
    let others = calm-few rest contiguous in
    let long = length-append (silent gap) rest in
    let quiet = length-replicate gap Silent in
    let bytes : length (bytes_in (silent gap ++ rest)) ≡ length (bytes_in rest) =
    ap length (bytes_in-silent gap rest) in
    omega (arith, few, others, long, quiet, bytes)

-- ---- what leaves of one burst

module _ (profile : Profile) (some : 1 ≤ profile.word_len) (rules : Rules)
    (lawful : IsLawful rules) (framed : IsFramed rules) where
  -- After a frame that passes come the pause and the trailer.
  packet-long : (s : CheckState) (d : Burst) (n : ℕ) → checked profile rules s d ≡ passed_with n
      → length (live_ticks rules d) + (pause_len + trailer_len profile) ≤ length d.body
  packet-long s d n is =
      let passing = passed-passing profile rules s d n is in
      let room : 0 < trailer_len profile = omega (arith, some) in
      let after = shape-kept pause_len (trailer_len profile) (after_live rules d) room
      passing.whole in
      let size = ap length after.2 in
      let parts = length-append (silent pause_len) (byte_ticks after.0 ++ after.1) in
      let quiet = length-replicate pause_len Silent in
      let trail = length-append (byte_ticks after.0) after.1 in
      let bytes : length (byte_ticks after.0) ≡ trailer_len profile =
      length-map after.0 (λ b. Byte b) ∙ after.3 in
      let whole = ap length (live-parts rules d) in
      let sum = length-append (live_ticks rules d) (after_live rules d) in
      omega (arith, size, parts, quiet, trail, bytes, whole, sum)

  -- A frame that passes leaves in at most twice as many ticks as the longest frame has bytes.
  frame-short : (s : CheckState) (d : Burst) (n : ℕ) → checked profile rules s d ≡ passed_with n
      → IsContiguous 4 d.body → AreTicks d.body
      → length (live_ticks rules d) ≤ 2 * rules.longest
  frame-short s d n is contiguous ticks =
      let live : List Tick = live_ticks rules d in
      let spells : bytes_in live ≡ live_bytes rules d = live_ticks-bytes rules d in
      let bytes : AreBytes (live_bytes rules d) =
      subst AreBytes spells
      (bytes-fit live (ticks-front live (after_live rules d)
      (subst AreTicks (live-parts rules d) ticks))) in
      let room = framed.has_room (live_bytes rules d)
      (passed-passing profile rules s d n is).framed in
      let most = lawful.bounded (live_bytes rules d) bytes in
      let few = calm-few live (live_ticks-contiguous rules lawful d contiguous) in
      let same = ap length spells in
      omega (arith, room, most, few, same)

  -- For a test by which what leaves of a refused burst isn't whole, these are the bursts that are
  -- whole and have ended `ends` ticks before tick m.
  module _ (ends gap cap : ℕ) (near : gap ≤ delay profile + 3)
      (room : 2 * rules.longest ≤ cap * (gap + 1)) (whole : Burst → Bool)
      (refuses : (s : CheckState) (d : Burst) (why : RefusedWhy) → IsContiguous 4 d.body
      → checked profile rules s d ≡ refused why → whole (wrong profile rules d) ≡ false)
      (m : ℕ) where
    abbrev Come : ℕ → List Burst → Type 0
    Come n ds = ComeApart gap ends (2 * rules.longest) cap room n ds

    abbrev read : List Burst → List Burst
    read es = ended ends whole m es

    come-later : (n k : ℕ) (ds : List Burst) → n ≤ k → Come k ds → Come n ds
    come-later n k [] le come = tt
    come-later n k (d ∷ ds) le come =
        let from : k ≤ d.start = come.0 in (omega (arith, from, le), come.1, come.2, come.3)

    -- An emission that is read, or isn't.
    come-one : (v : Bool) (n : ℕ) (e : Burst) (ds : List Burst) → (v ≡ true → Come n (e ∷ ds))
        → Come n ds → Come n (cond v (e ∷ ds) ds)
    come-one true n e ds front others = front refl
    come-one false n e ds front others = others

    step-apart : (s : CheckState) (d : Burst) (v : Verdict) (n : ℕ) (es : List Burst)
        → checked profile rules s d ≡ v → n ≤ d.start → IsContiguous 4 d.body → AreTicks d.body
        → Come (delay profile + (end_of d + 4)) (read es)
        → Come (delay profile + n) (read (emission_by profile rules d v ++ es))
    step-apart s d (passed_with number) n es is from contiguous ticks others =
        let live : List Tick = live_ticks rules d in
        let e : Burst = delayed profile d live in
        let long = packet-long s d number is in
        let next : end_of e + gap ≤ delay profile + (end_of d + 4) = omega (arith, long, near) in
        let start : delay profile + n ≤ e.start = omega (arith, from) in
        come-one (nat_le (end_of e + ends) m && whole e) (delay profile + n) e (read es)
        (λ yes. (
          start,
          contiguous-some 2 live (live_ticks-contiguous rules lawful d contiguous),
          frame-short s d number is contiguous ticks,
          come-later (end_of e + gap) (delay profile + (end_of d + 4)) (read es) next others,
        ))
        (come-later (delay profile + n) (delay profile + (end_of d + 4)) (read es)
        (omega (arith, from)) others)
    step-apart s d (refused why) n es is from contiguous ticks others =
        let e : Burst = wrong profile rules d in
        let no : whole e ≡ false = refuses s d why contiguous is in
        come-one (nat_le (end_of e + ends) m && whole e) (delay profile + n) e (read es)
        (λ yes. let never : true ≡ false =
        sym (and_parts (nat_le (end_of e + ends) m) (whole e) yes).1 ∙ no in cc)
        (come-later (delay profile + n) (delay profile + (end_of d + 4)) (read es)
        (omega (arith, from)) others)
    step-apart s d (dropped why) n es is from contiguous ticks others =
        come-later (delay profile + n) (delay profile + (end_of d + 4)) (read es)
        (omega (arith, from)) others

    -- The frames that are read begin at least the gap apart, since a pause and a trailer come after
    -- each on the link.
    walk-apart : (link : List Tick) → AreTicks link → (s : CheckState) (n : ℕ) (ds : List Burst)
        → AreSpread 4 n ds → AreOn link ds
        → Come (delay profile + n) (read (emitted_by (checker profile rules) s ds))
    walk-apart link ticks s n [] spread on = tt
    walk-apart link ticks s n (d ∷ ds) spread on =
        let v : Verdict = checked profile rules s d in
        let next : CheckState = state_by profile rules s d v in
        let its : AreTicks d.body =
        ticks-front d.body on.1 (ticks-behind on.0 (d.body ++ on.1) (subst AreTicks on.2 ticks)) in
        step-apart s d v n (emitted_by (checker profile rules) next ds) refl spread.0 spread.1 its
        (walk-apart link ticks next (end_of d + 4) ds spread.2 on.5)

-- ---- a link

-- If as many frames may wait as come while the longest is sent, a spacer behind the receiver loses
-- none.
pub none-lost : (profile : Profile) → 1 ≤ profile.word_len → (rules : Rules) → IsLawful rules
    → IsFramed rules → (heard : List Tick → List FrameRead) (ends : ℕ)
    → HearsEmissions rules heard ends profile → (gap cap : ℕ) → gap ≤ delay profile + 3
    → 2 * rules.longest ≤ cap * (gap + 1) → (floor : ℕ) (link : List Tick) → AreTicks link
    → lost_of heard gap cap (received_line profile rules floor link) ≡ []
none-lost profile some rules lawful framed heard ends hears gap cap near room floor link ticks =
    let es : List Burst = emitted_by (checker profile rules) (at_floor floor) (bursts link) in
    let m : ℕ = length link in
    let late : 2 ≤ delay profile = omega arith in
    let spread = emissions-apart 2 profile rules lawful (omega arith) late floor link in
    let on : AreOn link (bursts link) =
    bursts-on link (bursts link) [] link 0 refl refl (bursts_from-are 4 0 link) in
    let come = walk-apart profile some rules lawful framed ends gap cap near room hears.whole
    hears.refuses m link ticks (at_floor floor) 0 (bursts link) (bursts-spread link) on in
    let from = come-later profile some rules lawful framed ends gap cap near room hears.whole
    hears.refuses m 0 (delay profile + 0) (ended ends hears.whole m es) (omega arith) come in
    (given-from gap ends (2 * rules.longest) cap room (ended ends hears.whole m es) from
    (received_line profile rules floor link) heard
    (arrivals-laid ends hears.whole heard es spread (hears.emissions floor link) m)).1

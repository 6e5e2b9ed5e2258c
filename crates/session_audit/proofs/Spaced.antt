-- What a device reads behind the receiver and a spacer, with enough silence after the link.
use Rattle.device_model.specs.Frames.{FrameRead}
use Rattle.device_model.specs.Stated.{StatedDevice, stated_rules, stated_reads, stated_silence}
use Rattle.device_model.specs.Stated.{stated_lack, IsStatedWithin}
use Rattle.frame_ending.specs.{Laid.laid, Walk.emitted_by}
use Rattle.line_rules.specs.{Bytes.AreBytes, Rules.Rules, RulesLaws.IsLawful, RulesLaws.IsFramed}
use Rattle.line_spacer.specs.{Arrivals.Arrival, Arrivals.arrivals, Spacing.accepted_of}
use Rattle.line_spacer.specs.Spacing.{spaced_line}
use Rattle.link_box.specs.Checking.{checker, at_floor, passed, received_line}
use Rattle.link_box.specs.Timely.{IsTimely}
use Rattle.link_format.specs.{NumberedFrame.NumberedFrame, Profile.Profile, Profile.delay}
use Rattle.receiver_laws.proofs.{AllLeft.all-left, Rising.have_passed, Standing.ticks-behind}
use Rattle.receiver_laws.proofs.{Standing.ticks-front, Subsequences.chain-is}
use Rattle.receiver_laws.proofs.Stated.{stated_lawful, stated_headed, stated_framed, stated_lacks}
use Rattle.receiver_laws.proofs.Stated.{stated_reads_what_passed}
use Rattle.receiver_laws.specs.{Accounted.IsSubsequence, AllLeft.HasAllLeft, Headline.bytes_read}
use Rattle.receiver_laws.specs.{Headline.bytes_sealed, Reading.delivered, Standing.StandsOn}
use Rattle.session_audit.specs.SpacedReads.{most_waiting, spaced_reads}
use Rattle.spacer_laws.proofs.Accepted.{accepted-apart, all-first, all-others, all-cons}
use Rattle.spacer_laws.proofs.Guarding.{HearsEmissions, emissions-apart, accepted-passed}
use Rattle.spacer_laws.proofs.{Guarding.accepted-all, Guards.stated-hears, LaidArrivals.frames-laid}
use Rattle.spacer_laws.proofs.Leaving.{ReadsNothing, all-leave}
use Rattle.spacer_laws.proofs.Passing.{reads-among, reads-all, reads-nothing, stated-laid}
use Rattle.spacer_laws.proofs.Unlost.{bytes-fit, none-lost}
use Rattle.spacer_laws.specs.{Leaving.HaveLeft, SpacesOut.AreApart}
use Rattle.std.proofs.Common.{◌≡◌, ◌∙◌, ℕ, zero, suc, ◌+◌, ◌-◌, ◌*◌, ◌<◌, ◌≤◌, List, [], ◌∷◌, ◌++◌}
use Rattle.std.proofs.Common.{length, map, true, refl, sym, ap, subst, arith, append_assoc}
use Rattle.std.proofs.Common.{length-append}
use Rattle.std.proofs.lemmas.List.{length-replicate, Elements.All-map}
use Rattle.std.specs.Prelude.{All}
use Rattle.yasir_ticks.specs.{Bursts.Burst, Bursts.bursts, Ticks.AreTicks, Ticks.bytes_in}
use Rattle.yasir_ticks.specs.{Ticks.silent, declared.tick.Tick.Tick}
use Rattle.yasir_ticks.specs.declared.tick.Tick.TheVariants.{Silent}

-- ---- silence

silence-fit : (n : ℕ) → AreTicks (silent n)
silence-fit zero = tt
silence-fit (suc n) = (tt, silence-fit n)

quiet-fit : (x : List Tick) (n : ℕ) → AreTicks x → AreTicks (x ++ silent n)
quiet-fit [] n are = silence-fit n
quiet-fit (t ∷ x) n are = (are.0, quiet-fit x n are.1)

silence-join : (a c n : ℕ) → a + c ≡ n → silent a ++ silent c ≡ silent n
silence-join zero c n sum = let same : c ≡ n = omega (arith, sum) in ap (λ k. silent k) same
silence-join (suc a) c zero sum = absurd (omega (arith, sum))
silence-join (suc a) c (suc n) sum =
    ap (λ x. Silent ∷ x) (silence-join a c n (omega (arith, sum)))

-- ---- a property of frames that were read, and of their arrivals

arrivals-such : (P : FrameRead → Type 0) (x : List Arrival) (y : List FrameRead)
    → map (λ a. a.frame) x ≡ y → All P y → All (λ (a : Arrival). P a.frame) x
arrivals-such P [] y same all = λ k d none. absurd (omega arith)
arrivals-such P (a ∷ x) [] same all = cc
arrivals-such P (a ∷ x) (f ∷ y) same all =
    let first : f ≡ a.frame = cc in
    let tail : map (λ c. c.frame) x ≡ y = cc in
    all-cons (λ (c : Arrival). P c.frame) a x (subst P first (all-first P f y all))
    (arrivals-such P x y tail (all-others P f y all))

-- A frame that stands on a link of ticks, and is a frame of the protocol, isn't longer than the
-- longest one.
short-frame : (profile : Profile) (rules : Rules) (lawful : IsLawful rules) (framed : IsFramed rules)
    (link : List Tick) (f : NumberedFrame) → AreTicks link → rules.is_frame f.frame ≡ true
    → StandsOn profile link f → length f.frame ≤ rules.longest
short-frame profile rules lawful framed link f ticks is on =
    let body : AreTicks on.body =
    ticks-front on.body _ (ticks-behind on.front _ (subst AreTicks on.is ticks)) in
    let bytes : AreBytes f.frame = subst AreBytes on.spells (bytes-fit on.body body) in
    let room = framed.has_room f.frame is in
    let most = lawful.bounded f.frame bytes in
    omega (arith, room, most)

short-frames : (profile : Profile) (rules : Rules) (lawful : IsLawful rules)
    (framed : IsFramed rules) (link : List Tick) (frames : List NumberedFrame) → AreTicks link
    → All (λ (f : NumberedFrame). rules.is_frame f.frame ≡ true) frames
    → All (StandsOn profile link) frames
    → All (λ (f : NumberedFrame). length f.frame ≤ rules.longest) frames
short-frames profile rules lawful framed link [] ticks are on = λ k d none. absurd (omega arith)
short-frames profile rules lawful framed link (f ∷ frames) ticks are on =
    let IsFrame : NumberedFrame → Type 0 = λ g. rules.is_frame g.frame ≡ true in
    all-cons (λ (g : NumberedFrame). length g.frame ≤ rules.longest) f frames
    (short-frame profile rules lawful framed link f ticks (all-first IsFrame f frames are)
    (all-first (StandsOn profile link) f frames on))
    (short-frames profile rules lawful framed link frames ticks (all-others IsFrame f frames are)
    (all-others (StandsOn profile link) f frames on))

-- ---- behind the receiver and the spacer

module _ (device : StatedDevice) (profile : Profile) (gap floor : ℕ)
    (within : IsStatedWithin (delay profile) device) (near : IsStatedWithin gap device)
    (wide : 4 ≤ gap) where
  abbrev rules : Rules
  rules = stated_rules device

  abbrev heard : List Tick → List FrameRead
  heard = stated_reads device

  abbrev received : List Tick → List Tick
  received link = received_line profile rules floor link

  abbrev accepted : List Tick → List Burst
  accepted link = accepted_of heard gap most_waiting (received link)

  hears : HearsEmissions rules heard (stated_silence device) profile
  hears = stated-hears device profile within

  apart : (link : List Tick) → AreApart rules gap 0 (accepted link)
  apart link = accepted-apart rules heard hears.sound gap most_waiting (received link)

  -- Whatever is on the link, the device behind the spacer reads some of the frames that passed, in
  -- their order.
  pub guarded-among : (link : List Tick)
      → IsSubsequence (bytes_read (spaced_reads heard gap (received link)))
      (bytes_sealed (passed profile rules floor link))
  guarded-among link =
      chain-is _ _ _
      (reads-among rules heard (stated_silence device) gap (stated-laid device gap wide near)
      (length (received link)) (accepted link) (apart link))
      (accepted-passed rules (stated_lawful device) (stated_framed device) heard
      (stated_silence device) profile hears gap wide most_waiting floor link)

  module _ (timely : IsTimely profile rules) (some : 1 ≤ profile.word_len)
      (soon : delay profile + stated_lack device ≤ 320) (few : stated_silence device ≤ 4)
      (broad : 21 ≤ gap) (narrow : gap ≤ 27) (close : gap ≤ delay profile + 3)
      (longest : rules.longest ≤ 292)
      (nothing : (line : List Tick) → ReadsNothing heard (line ++ silent 4))
      (link : List Tick) (ticks : AreTicks link) (rest : ℕ) (long : 21100 ≤ rest) where
    after : (more : ℕ) → HasAllLeft profile rules floor link 320 more
    after more =
        all-left profile rules (stated_lawful device) (stated_headed device) timely floor link
        (stated_lack device) (stated_lacks device) ticks 320 soon more

    abbrev calm : ℕ
    calm = 320 + 4

    quiet-is : received (link ++ silent calm) ≡ received (link ++ silent 320) ++ silent 4
    quiet-is = (after 4).received

    whole-is : received (link ++ silent rest)
        ≡ received (link ++ silent calm) ++ silent (rest - calm)
    whole-is =
        let sum : 320 + (rest - 320) ≡ rest = omega (arith, long) in
        let parts : 4 + (rest - calm) ≡ rest - 320 = omega (arith, long) in
        ap (λ n. received (link ++ silent n)) (sym sum)
        ∙ ((after (rest - 320)).received
        ∙ (ap (λ x. received (link ++ silent 320) ++ x)
        (sym (silence-join 4 (rest - calm) (rest - 320) parts))
        ∙ (sym (append_assoc (received (link ++ silent 320)) (silent 4) (silent (rest - calm)))
        ∙ ap (λ x. x ++ silent (rest - calm)) (sym quiet-is))))

    -- what the spacer reads until then
    reads : (n : ℕ) → calm ≤ n → heard (received (link ++ silent n))
        ≡ map (delivered profile) (passed profile rules floor (link ++ silent n))
    reads n enough =
        (stated_reads_what_passed device profile within floor link).all n
        (omega (arith, soon, few, enough))

    short : All (λ (a : Arrival). length a.frame.frame + gap ≤ 292 + gap)
        (arrivals heard (received (link ++ silent calm)))
    short =
        let recorded : List Tick = link ++ silent calm in
        let ones : List NumberedFrame = passed profile rules floor recorded in
        let have = have_passed profile rules (stated_lawful device) floor recorded in
        let fit : AreTicks recorded = quiet-fit link calm ticks in
        let es : List Burst = emitted_by (checker profile rules) (at_floor floor) (bursts recorded) in
        let late : 2 ≤ delay profile = omega arith in
        let spread = emissions-apart 2 profile rules (stated_lawful device) (omega arith) late floor
        recorded in
        let are : All (λ (f : NumberedFrame). length f.frame ≤ rules.longest) ones =
        short-frames profile rules (stated_lawful device) (stated_framed device) recorded ones fit
        have.framed (have.stand fit some) in
        arrivals-such (λ (f : FrameRead). length f.frame + gap ≤ 292 + gap)
        (arrivals heard (received recorded)) (map (delivered profile) ones)
        (frames-laid (stated_silence device) hears.whole heard es spread
        (hears.emissions floor recorded) (length recorded) ∙ reads calm (omega arith))
        (All-map (λ (f : FrameRead). length f.frame + gap ≤ 292 + gap) (delivered profile) ones
        (λ k d inside. let one = are k d inside in omega (arith, one, longest)))

    left : HaveLeft (length (received (link ++ silent rest)) - 4) (accepted (link ++ silent rest))
    left =
        let P : List Tick → Type 0 =
        λ l. HaveLeft (length l - 4) (accepted_of heard gap most_waiting l) in
        let enough : (most_waiting + 1) * (292 + gap) + 4 ≤ rest - calm =
        omega (arith, long, narrow) in
        subst P (sym whole-is)
        (all-leave heard gap most_waiting (292 + gap) (received (link ++ silent calm)) short
        (subst (ReadsNothing heard) (sym quiet-is) (nothing (received (link ++ silent 320))))
        (rest - calm) 4 enough)

    in-time : length (received (link ++ silent rest)) - 4 + stated_silence device
        ≤ length (received (link ++ silent rest))
    in-time =
        let whole = ap length whole-is in
        let parts = length-append (received (link ++ silent calm)) (silent (rest - calm)) in
        let rests = length-replicate (rest - calm) Silent in
        omega (arith, few, whole, parts, rests, long)

    -- Once the spacer has sent all, nothing more is read in silence.
    pub guarded-same :
        heard (spaced_line heard gap most_waiting (received (link ++ silent rest)) ++ silent 4)
        ≡ spaced_reads heard gap (received (link ++ silent rest))
    guarded-same =
        reads-nothing rules heard (stated_silence device) gap (stated-laid device gap wide near)
        (length (received (link ++ silent rest))) (accepted (link ++ silent rest))
        (apart (link ++ silent rest)) (length (received (link ++ silent rest)) - 4) left in-time 4

    -- The device reads all frames that passed, since the spacer loses none.
    pub guarded-all : bytes_read (spaced_reads heard gap (received (link ++ silent rest)))
        ≡ bytes_sealed (passed profile rules floor (link ++ silent rest))
    guarded-all =
        let room : 2 * rules.longest ≤ most_waiting * (gap + 1) = omega (arith, longest, broad) in
        reads-all rules heard (stated_silence device) gap (stated-laid device gap wide near)
        (length (received (link ++ silent rest))) (accepted (link ++ silent rest))
        (apart (link ++ silent rest)) (length (received (link ++ silent rest)) - 4) left in-time
        ∙ accepted-all rules (stated_lawful device) (stated_framed device) heard
        (stated_silence device) profile hears gap wide most_waiting floor (link ++ silent rest)
        (reads rest (omega (arith, long)))
        (none-lost profile some rules (stated_lawful device) (stated_framed device) heard
        (stated_silence device) hears gap most_waiting close room floor (link ++ silent rest)
        (quiet-fit link rest ticks))

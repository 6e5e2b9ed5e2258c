-- Which frames are sealed of a spaced line, and that they pass on an untouched link.
use Rattle.device_model.specs.Frames.{FrameRead}
use Rattle.frame_ending.specs.LiveBytes.{before_pause, live_bytes, has_extra}
use Rattle.line_rules.specs.{Rules.Rules, RulesLaws.IsLawful, RulesLaws.IsFramed}
use Rattle.line_spacer.specs.Spacing.{accepted_of, spaced_line}
use Rattle.link_format.specs.Profile.{Profile, HasTags, pause_len, trailer_len, delay}
use Rattle.receiver_laws.proofs.{Deliveries.delivers-all, Standing.bytes_in-byte_ticks}
use Rattle.receiver_laws.specs.Headline.{bytes_sealed}
use Rattle.receiver_laws.specs.Untouched.{AreSpaced, IsUntouchedLink, numbered}
use Rattle.spacer_laws.proofs.{Accepted.accepted-apart, Within.laid-bursts, Within.within-begun}
use Rattle.spacer_laws.specs.Delivering.{IsSpacedForSealing, DeliversSpaced}
use Rattle.spacer_laws.specs.Leaving.{HaveLeft}
use Rattle.spacer_laws.specs.SpacesOut.{IsSent, AreApart, ReadsFrames, within}
use Rattle.std.proofs.Common.{◌≡◌, ◌∙◌, ℕ, suc, ◌+◌, ◌-◌, ◌≤◌, List, [], ◌∷◌, length, map, take}
use Rattle.std.proofs.Common.{refl, sym, ap, subst, arith, false}
use Rattle.std.proofs.lemmas.{Bool.le-ltb, List.length-map, List.take_all}
use Rattle.yasir_ticks.specs.{Bursts.Burst, Bursts.bursts, Bursts.end_of, Ticks.bytes_in}
use Rattle.yasir_ticks.specs.declared.tick.Tick.{Tick, TheVariants.Byte}

unpaused : (x : List ℕ) → before_pause (map (λ b. Byte b) x) ≡ map (λ b. Byte b) x
unfolding before_pause
unpaused [] = refl
unpaused (b ∷ x) = ap (λ l. Byte b ∷ l) (unpaused x)

module _ (rules : Rules) (framed : IsFramed rules) where
  -- ---- a burst that is a frame

  sent-bytes : (d : Burst) (sent : IsSent rules d) → bytes_in d.body ≡ sent.frame
  sent-bytes d sent = ap bytes_in sent.is ∙ bytes_in-byte_ticks sent.frame

  all-live : (d : Burst) (sent : IsSent rules d) → live_bytes rules d ≡ sent.frame
  all-live d sent =
      let spelled : bytes_in (before_pause d.body) ≡ sent.frame =
      ap (λ x. bytes_in (before_pause x)) sent.is
      ∙ (ap bytes_in (unpaused sent.frame) ∙ bytes_in-byte_ticks sent.frame) in
      ap (λ x. take (rules.room x) x) spelled
      ∙ take_all (rules.room sent.frame) sent.frame (framed.has_room sent.frame sent.framed)

  none-extra : (d : Burst) → IsSent rules d → has_extra rules d ≡ false
  none-extra d sent =
      let bytes = ap length (sent-bytes d sent) in
      let live = ap length (all-live d sent) in
      le-ltb (length (live_bytes rules d)) (length (bytes_in d.body)) (omega arith)

  -- ---- all bursts

  module _ (gap : ℕ) where
    -- Bursts that have left by tick m are whole before it.
    within-left : (m n : ℕ) (ds : List Burst) → AreApart rules gap n ds → HaveLeft m ds
        → within m ds ≡ ds
    within-left m n [] apart left = refl
    within-left m n (d ∷ ds) apart left =
        let sent = apart.1 in
        let end : end_of d ≤ m = left.0 in
        let byte = framed.some_byte sent.frame sent.framed in
        let long : length d.body ≡ length sent.frame =
        ap length sent.is ∙ length-map sent.frame (λ b. Byte b) in
        let whole : take (m - d.start) d.body ≡ d.body =
        take_all (m - d.start) d.body (omega arith) in
        within-begun m d ds (omega arith)
        ∙ (ap (λ x. let e : Burst = record { start = d.start; body = x } in e ∷ within m ds) whole
        ∙ ap (λ x. d ∷ x) (within-left m (end_of d + gap) ds apart.2 left.1))

    are-spaced : (profile : Profile) → delay profile + 3 ≤ gap → (n k : ℕ) (ds : List Burst)
        → k ≤ n → AreApart rules gap n ds → AreSpaced profile rules k ds
    are-spaced profile fits n k [] le apart = tt
    are-spaced profile fits n k (d ∷ ds) le apart =
        let from : n ≤ d.start = apart.0 in
        let sent = apart.1 in (
          omega arith,
          none-extra d sent,
          ap rules.is_frame (all-live d sent) ∙ sent.framed,
          are-spaced profile fits (end_of d + gap)
              (end_of d + pause_len + trailer_len profile + 4) ds
              (omega arith) apart.2,
        )

    whole-bytes : (floor n : ℕ) (ds : List Burst) → AreApart rules gap n ds
        → bytes_sealed (numbered rules floor ds) ≡ map (λ d. bytes_in d.body) ds
    whole-bytes floor n [] apart = refl
    whole-bytes floor n (d ∷ ds) apart =
        ap (λ x. x ∷ bytes_sealed (numbered rules (suc floor) ds))
        (all-live d apart.1 ∙ sym (sent-bytes d apart.1))
        ∙ ap (λ x. bytes_in d.body ∷ x) (whole-bytes (suc floor) (end_of d + gap) ds apart.2)

  -- ---- a spaced line

  module _ (profile : Profile) (tags : HasTags profile) (some : 1 ≤ profile.word_len)
      (lawful : IsLawful rules) (heard : List Tick → List FrameRead)
      (sound : ReadsFrames rules heard) (gap cap floor behind : ℕ) (line : List Tick)
      (more rest : ℕ)
      (is : IsSpacedForSealing profile gap floor behind (length line)
      (accepted_of heard gap cap line) more) where
    abbrev ds : List Burst
    ds = accepted_of heard gap cap line

    abbrev sent : List Tick
    sent = spaced_line heard gap cap line

    apart : AreApart rules gap 0 ds
    apart = accepted-apart rules heard sound gap cap line

    same-bursts : bursts sent ≡ ds
    same-bursts =
        let fits = is.fits in
        laid-bursts gap (omega arith) rules framed 4 (length line) ds (omega arith) (omega arith)
        apart
        ∙ within-left gap (length line) 0 ds apart is.left

    is-untouched : IsUntouchedLink profile rules floor behind sent more
    is-untouched =
        let same = same-bursts in
        let count = ap length same in
        let numbers = is.numbers in
        let P : List Burst → Type 0 = λ es. AreSpaced profile rules 0 es in
        record {
          spaced = subst P (sym same) (are-spaced gap profile is.fits 0 0 ds (omega arith) apart);
          numbers = omega arith;
          not_above = is.not_above;
          near = is.near;
          silence = is.silence;
        }

    pub delivers-spaced : DeliversSpaced profile rules heard gap cap floor behind line more rest
    delivers-spaced =
        let all = delivers-all profile tags some rules lawful framed floor behind sent more rest
        is-untouched in
        let its = ap (λ es. numbered rules floor es) same-bursts in
        record {
          seals = all.seals ∙ its;
          whole = whole-bytes gap floor 0 ds apart;
          passes = all.passes ∙ its;
          comes = all.comes;
        }

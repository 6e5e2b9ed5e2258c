-- Each frame of a session is sealed, and each frame that has passed is read.
use Rattle.device_model.specs.Frames.{FrameRead}
use Rattle.line_rules.specs.{Rules.Rules, RulesLaws.IsLawful, RulesLaws.IsFramed}
use Rattle.link_format.specs.Profile.{Profile, HasTags, trailer_len}
use Rattle.link_box.specs.Checking.{passed, received_line}
use Rattle.receiver_laws.proofs.Deliveries.{delivers-all}
use Rattle.receiver_laws.specs.Reading.{ReadsWhatPassed, delivered}
use Rattle.receiver_laws.specs.Untouched.{AreSpaced, IsUntouchedLink, numbered}
use Rattle.link_box.specs.Sealing.{sealer, at_floor, sealed, sealed_in}
use Rattle.std.proofs.Common.{◌≡◌, ◌∙◌, ℕ, zero, suc, ◌+◌, ◌-◌, ◌*◌, ◌^◌, ◌<◌, ◌≤◌, true, List, []}
use Rattle.std.proofs.Common.{◌∷◌, ◌++◌, length, map, refl, ap, sym, subst, arith, append_assoc}
use Rattle.std.{proofs.lemmas.Grind.pow_more, proofs.lemmas.List.length-map, specs.List.filter_map}
use Rattle.trial_session.proofs.Periods.{line-none, line-suc}
use Rattle.trial_session.proofs.Placed.{placed, length-placed, AreFrames, frames-more}
use Rattle.trial_session.proofs.Placed.{bursts-placed, spaced, frames_drawn, length-drawn}
use Rattle.trial_session.proofs.{Placed.line-drawn, Starting.no-note}
use Rattle.trial_session.specs.{DrawnFrames.Drawing, Session.state_at, Session.session_line}
use Rattle.yasir_ticks.proofs.BurstLaws.{bursts_from-silent_end}
use Rattle.yasir_ticks.specs.{Bursts.Burst, Bursts.bursts, Ticks.silent}
use Rattle.yasir_ticks.specs.declared.tick.Tick.{Tick, TheVariants.Byte}

length-numbered : (rules : Rules) (floor : ℕ) (ds : List Burst)
    → length (numbered rules floor ds) ≡ length ds
length-numbered rules floor [] = refl
length-numbered rules floor (d ∷ ds) = ap suc (length-numbered rules (suc floor) ds)

some-words : (n : ℕ) → 0 < 256 ^ n
some-words zero = omega arith
some-words (suc n) =
    let more : suc n ≡ n + 1 = omega arith in
    let before = some-words n in
    let is : 256 ^ suc n ≡ 256 ^ n * 256 = ap (λ k. 256 ^ k) more ∙ pow_more 256 n in
    omega (arith, before, is)

module _ (profile : Profile) (tags : HasTags profile) (some : 1 ≤ profile.word_len)
    (short : trailer_len profile ≤ 20) where
  module _ (rules : Rules) (lawful : IsLawful rules) (framed : IsFramed rules) (drawing : Drawing)
      (are : (x : ℕ) → rules.is_frame (drawing.frame x) ≡ true)
      (few : (x : ℕ) → length (drawing.frame x) ≤ 292) (seed : ℕ) where
    frames-are : (n : ℕ) → AreFrames rules (frames_drawn drawing seed n)
    frames-are zero = tt
    frames-are (suc n) =
        let x = state_at drawing seed n in
        frames-more rules (frames_drawn drawing seed n) (drawing.frame x) (frames-are n)
        (framed.some_byte (drawing.frame x) (are x), few x, are x, tt)

    session-bursts : (n : ℕ) → bursts (session_line drawing seed n)
        ≡ placed 0 (frames_drawn drawing seed n)
    session-bursts n =
        ap (λ l. bursts l) (line-drawn drawing seed n)
        ∙ bursts-placed rules 0 (frames_drawn drawing seed n) (frames-are n)

    pub all-sealed : (count : ℕ) → count ≤ profile.limit
        → length (sealed profile rules 0 (session_line drawing seed count)) ≡ count
    all-sealed zero within =
        ap (λ l. length (sealed profile rules 0 l)) (line-none drawing 0 seed)
        ∙ ap (λ notes. length (filter_map (λ n. sealed_in n.note) notes))
        (no-note (sealer profile rules) (at_floor 0))
    all-sealed (suc n) within =
        let f = drawing.frame (state_at drawing seed n) in
        let more = 640 - length f in
        let line : List Tick = session_line drawing seed n ++ map (λ b. Byte b) f in
        let whole : session_line drawing seed (suc n) ≡ line ++ silent more =
        line-suc drawing 0 seed n
        ∙ sym (append_assoc (session_line drawing seed n) (map (λ b. Byte b) f) (silent more)) in
        let them : bursts line ≡ placed 0 (frames_drawn drawing seed (suc n)) =
        sym (bursts_from-silent_end 4 0 more line) ∙ ap (λ l. bursts l) (sym whole)
        ∙ session-bursts (suc n) in
        let count : length (bursts line) ≡ suc n =
        ap length them ∙ length-placed 0 (frames_drawn drawing seed (suc n))
        ∙ length-drawn drawing seed (suc n) in
        let short_frame = few (state_at drawing seed n) in
        let room = some-words profile.word_len in
        let is : IsUntouchedLink profile rules 0 0 line more = record {
          spaced = subst (AreSpaced profile rules 0) (sym them)
              (spaced rules profile framed short 0 0 (frames_drawn drawing seed (suc n))
              (frames-are (suc n)) (omega arith));
          numbers = omega (arith, count, within);
          not_above = omega arith;
          near = omega (arith, room);
          silence = omega (arith, short, short_frame);
        } in
        ap (λ l. length (sealed profile rules 0 l)) whole
        ∙ ap length (delivers-all profile tags some rules lawful framed 0 0 line more 0 is).seals
        ∙ length-numbered rules 0 (bursts line) ∙ count

  pub reads-all : (rules : Rules) (reads : List Tick → List FrameRead) (ends : ℕ) (link : List Tick)
      → ends ≤ 200 → ReadsWhatPassed rules reads ends profile 0 link
      → length (reads (received_line profile rules 0 (link ++ silent 320)))
      ≡ length (passed profile rules 0 (link ++ silent 320))
  reads-all rules reads ends link soon law =
      ap length (law.all 320 (omega (arith, short, soon)))
      ∙ length-map (passed profile rules 0 (link ++ silent 320)) (delivered profile)

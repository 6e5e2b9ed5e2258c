-- The bytes of a whole trailer that have come give the verdict.
use Rattle.{byteorder.specs.Endian.big_number, check_receiver.specs.Arrivals.bytes_come}
use Rattle.check_receiver.specs.{Stands.MacHolds, declared.arriving.Arriving.Arriving}
use Rattle.frame_ending.specs.LiveBytes.{live_bytes}
use Rattle.frame_ending.specs.SoFar.{last_burst, live_bytes_in, live_bytes_so_far}
use Rattle.{link_format.specs.declared.tag.Mac.Ghosts as Mac, line_rules.specs.Rules.Rules}
use Rattle.line_rules.specs.{Rules.is_frame_of, declared.line_rules.LineRules.Ghosts as LineRules}
use Rattle.link_format.specs.{Profile.Profile, Profile.profile_of, Setup.Setup}
use Rattle.link_box.{proofs.Passing.number-within, specs.Holding.trailer_so_far}
use Rattle.link_box.specs.Verdicts.{number_of, tag_in, verdict_by_number, whole_verdict}
use Rattle.link_box.specs.Verdicts.Verdict.{passed_with, refused}
use Rattle.link_box.specs.declared.check_note.RefusedWhy.TheVariants.{Tag, Number}
use Rattle.sequence_journal.specs.{Numbers.full_of, declared.numbers.TheConstants.LIMIT}
use Rattle.std.proofs.Common.{◌≡◌, ◌∙◌, ℕ, ◌+◌, ◌^◌, ◌<◌, ◌≤◌, Bool, true, false, List, ◌∷◌, ◌++◌}
use Rattle.std.proofs.Common.{length, drop, sym, ap, arith, Option, Some, None, bytes_eq}
use Rattle.std.proofs.lemmas.Bool.{cond-true, cond-false}
use Rattle.std.specs.Int.{w64, to_be_bytes}
use Rattle.yasir_ticks.specs.{Bursts.Burst, declared.tick.Tick.Tick}

-- If the test of the last burst's live bytes says that they are a frame, they are.
pub last-frame : (rules : Rules) (line : List Tick) (d : Burst) (good : Bool)
    → good ≡ is_frame_of rules (live_bytes_so_far rules line) → last_burst line ≡ Some d
    → good ≡ true → rules.is_frame (live_bytes rules d) ≡ true
last-frame rules line d good is last whole =
    sym (ap (λ o. rules.is_frame (live_bytes_in rules o)) last) ∙ (sym is ∙ whole)

-- `o` is the full number that was read from the bytes of the word, above the floor `told`.
module _ {R M : Type 0} (proto : LineRules R) (macs : Mac M) {B : ℕ} (setup : Setup) {mac : M}
    {arriving : Arriving B} (d : Burst) (mac_is : MacHolds proto macs setup mac arriving d)
    (long : length (trailer_so_far proto.rules d) ≡ B + macs.TAG) (floor told : ℕ)
    (still : told ≡ floor) (o : Option ℕ)
    (read : B ≤ length (bytes_come arriving)
    → o ≡ full_of LIMIT (256 ^ B) told (big_number B (bytes_come arriving))) where
  abbrev profile : Profile
  profile = profile_of proto macs B LIMIT setup

  abbrev rules : Rules
  rules = proto.rules

  abbrev frame : List ℕ
  frame = live_bytes rules d

  abbrev bytes : List ℕ
  bytes = trailer_so_far rules d

  whole : B ≤ length (bytes_come arriving)
  whole = let size = ap length mac_is.come in omega arith

  -- The number that was read is that of the trailer's bytes.
  numbered : o ≡ number_of profile floor bytes
  numbered = read whole
      ∙ (ap (λ y. full_of LIMIT (256 ^ B) told (big_number B y)) mac_is.come
      ∙ ap (λ n. full_of LIMIT (256 ^ B) n (big_number B bytes)) still)

  framed : rules.is_frame frame ≡ true
      → whole_verdict profile rules floor frame bytes ≡ verdict_by_number profile frame bytes o
  framed good = cond-true (rules.is_frame frame) _ _ good
      ∙ ap (λ n. verdict_by_number profile frame bytes n) (sym numbered)

  -- If there is no number, the burst is refused for its number.
  pub wrong-number : rules.is_frame frame ≡ true → o ≡ None
      → refused Number ≡ whole_verdict profile rules floor frame bytes
  wrong-number good is =
      sym (framed good ∙ ap (λ n. verdict_by_number profile frame bytes n) is)

  -- If there is a number, it is above the floor and within the limit.
  pub number-in : (n : ℕ) → o ≡ Some n → (floor < n) × (n ≤ LIMIT)
  number-in n is =
      let lies = number-within profile floor bytes n (sym numbered ∙ is) in
      (lies.1, lies.2)

  module _ (good : rules.is_frame frame ≡ true) (n : ℕ) (is : o ≡ Some n) (same : Bool)
      (compared : (key text : List ℕ) → macs.stands mac key text → B ≤ length (bytes_come arriving)
      → same ≡ bytes_eq (drop B (bytes_come arriving))
      (macs.tag_of key (text ++ to_be_bytes w64 n))) where
    weighed : same ≡ bytes_eq (tag_in profile bytes) (profile.tag n frame)
    weighed =
        let text : List ℕ = rules.label ∷ setup.direction ∷ frame in
        compared setup.key text mac_is.mac_is whole
        ∙ ap (λ x. bytes_eq (drop B x) (macs.tag_of setup.key (text ++ to_be_bytes w64 n)))
        mac_is.come

    pub wrong-tag : same ≡ false → refused Tag ≡ whole_verdict profile rules floor frame bytes
    wrong-tag other =
        sym (framed good ∙ (ap (λ k. verdict_by_number profile frame bytes k) is
        ∙ cond-false (bytes_eq (tag_in profile bytes) (profile.tag n frame)) _ _
        (sym weighed ∙ other)))

    pub right-tag : same ≡ true → passed_with n ≡ whole_verdict profile rules floor frame bytes
    right-tag all =
        sym (framed good ∙ (ap (λ k. verdict_by_number profile frame bytes k) is
        ∙ cond-true (bytes_eq (tag_in profile bytes) (profile.tag n frame)) _ _
        (sym weighed ∙ all)))

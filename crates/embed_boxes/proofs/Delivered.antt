-- If the frames of a line are spaced and silence follows them, the line arrives as it was sent, 18
-- ticks later.
use Rattle.{embed_boxes.specs.Carrying.profile_with, link_format.specs.declared.dir.Dir.TheVariants.Ab}
use Rattle.link_format.{proofs.Profiles.y18-tags, specs.Setup.setup_of}
use Rattle.link_box.specs.Checking.{received_line}
use Rattle.receiver_laws.proofs.Deliveries.{delivers-all}
use Rattle.receiver_laws.specs.Untouched.{IsUntouchedLink, untouched, DeliversAll}
use Rattle.rtu_frame.specs.Rules.{rtu_rules, rtu_lawful, rtu_framed}
use Rattle.link_box.specs.Sealing.{link_line}
use Rattle.sequence_journal.specs.declared.numbers.TheConstants.{LIMIT}
use Rattle.std.proofs.Common.{◌≡◌, ◌∙◌, ℕ, ◌-◌, ◌+◌, List, ◌++◌, ap, sym, arith, lit≤}
use Rattle.std.proofs.lemmas.List.{append-nil}
use Rattle.yasir_ticks.specs.{Ticks.silent, declared.tick.Tick.Tick}

-- the law for the boxes of this program, which have the profile y18 and new journals
law : (key : List ℕ) (frames : List Tick) (more : ℕ)
    → IsUntouchedLink (profile_with key) rtu_rules 0 0 frames more
    → DeliversAll (profile_with key) rtu_rules 0 0 frames more 0
law key frames more is = delivers-all (profile_with key)
    (y18-tags rtu_rules.label LIMIT (setup_of key Ab 0)) (lit≤ tt) rtu_rules rtu_lawful rtu_framed
    0 0 frames more 0 is

pub delivered : (key : List ℕ) (line link received : List Tick)
    → link ≡ link_line (profile_with key) rtu_rules 0 line
    → received ≡ received_line (profile_with key) rtu_rules 0 link
    → (frames : List Tick) (more : ℕ) → line ≡ frames ++ silent more
    → IsUntouchedLink (profile_with key) rtu_rules 0 0 frames more
    → received ≡ silent 18 ++ (frames ++ silent (more - 18))
delivered key line link received seals checks frames more parts is =
    let all = law key frames more is in
    let sent : link ≡ untouched (profile_with key) rtu_rules 0 frames more 0 =
    seals ∙ (ap (link_line (profile_with key) rtu_rules 0) parts ∙ sym (append-nil _)) in
    let left : more - 18 + 0 ≡ more - 18 = omega arith in
    checks ∙ (ap (received_line (profile_with key) rtu_rules 0) sent
    ∙ (all.comes ∙ ap (λ n. silent 18 ++ (frames ++ silent n)) left))

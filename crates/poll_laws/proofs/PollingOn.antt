-- Polls in turn are delivered again by two boxes that have rested.
use Rattle.frame_ending.specs.Laid.{later}
use Rattle.line_rules.specs.{Rules.Rules, RulesLaws.IsLawful, RulesLaws.IsHeaded, RulesLaws.IsFramed}
use Rattle.link_box.specs.Checking.{passed, received_line}
use Rattle.link_box.specs.Sealing.{sealed}
use Rattle.link_box.specs.Timely.{IsTimely}
use Rattle.link_format.specs.Profile.{HasTags}
use Rattle.poll_laws.proofs.GoingOn.{goes-on}
use Rattle.poll_laws.specs.Rested.{Before, frame_later, GivesAll, GoesOn, BothHaveRested}
use Rattle.poll_laws.specs.Rested.{AreDeliveredThen}
use Rattle.receiver_laws.specs.{Recovery.LackAtMost, Untouched.numbered}
use Rattle.std.proofs.Common.{◌≡◌, ◌∙◌, ℕ, suc, ◌+◌, ◌≤◌, List, [], ◌∷◌, ◌++◌, length, map, refl, sym, ap}
use Rattle.std.proofs.Common.{arith}
use Rattle.two_wire.proofs.{Polling.said-comes, Polling.polls-delivered, Sharing.hears-other}
use Rattle.two_wire.proofs.Sharing.{hears-own}
use Rattle.two_wire.specs.Polling.{Polling, PollsInTurn, end_a, end_b, wires_a, wires_b}
use Rattle.frame_ending.specs.LiveBytes.{live_bytes}
use Rattle.yasir_ticks.specs.declared.tick.Tick.{Tick}
use Rattle.two_wire.specs.Polling.{PollsAreDelivered}
use Rattle.two_wire.specs.Polling.{requests_sent, answers_sent}
use Rattle.two_wire.specs.TwoWire.{heard_device, heard_link}
use Rattle.two_wire.specs.Wires.{on_wires}
use Rattle.two_wire.specs.declared.gate.Side.TheVariants.{Asks, Answers}
use Rattle.yasir_ticks.specs.Bursts.{Burst, bursts}

numbered-later : (rules : Rules) (n floor : ℕ) (ds : List Burst)
    → map (frame_later n) (numbered rules floor ds) ≡ numbered rules floor (map (later n) ds)
numbered-later rules n floor [] = refl
numbered-later rules n floor (d ∷ ds) =
    ap (λ l. frame_later n (record {
      number = suc floor;
      start = d.start;
      frame = live_bytes rules d;
    }) ∷ l) (numbered-later rules n (suc floor) ds)

twice-later : (a b : ℕ) (ds : List Burst) → map (later a) (map (later b) ds) ≡ map (later (a + b)) ds
twice-later a b [] = refl
twice-later a b (d ∷ ds) =
    let same : a + (b + d.start) ≡ a + b + d.start = omega arith in
    ap (λ n. let e : Burst = record { start = n; body = d.body } in
    e ∷ map (later a) (map (later b) ds)) same
    ∙ ap (λ l. later (a + b) d ∷ l) (twice-later a b ds)

module _ (rules : Rules) (lawful : IsLawful rules) (headed : IsHeaded rules)
    (framed : IsFramed rules) (p : Polling) (tags_ab : HasTags p.ab) (some_ab : 1 ≤ p.ab.word_len)
    (tags_ba : HasTags p.ba) (some_ba : 1 ≤ p.ba.word_len) (timely_ab : IsTimely p.ab rules)
    (timely_ba : IsTimely p.ba rules) (most : ℕ) (lack : LackAtMost rules most)
    (before_a before_b : Before) (rested : BothHaveRested rules most p before_a before_b)
    (is : PollsInTurn rules p) where
  delivered : PollsAreDelivered rules p
  delivered = polls-delivered rules lawful framed p tags_ab some_ab tags_ba some_ba is

  abbrev asked_link : List Tick
  asked_link = on_wires p.late (requests_sent rules p)

  abbrev answered_link : List Tick
  answered_link = on_wires p.late (answers_sent rules p)

  all-at-a : GivesAll rules (end_a p) (wires_a rules p)
  all-at-a =
      sym (ap (λ l. on_wires p.late (received_line p.ba rules p.answers_behind l))
      (hears-other asked_link answered_link is.apart_link)
      ∙ said-comes rules lawful framed p.ba tags_ba some_ba p.answers_floor p.answers_behind
      p.devices is.answers p.late is.answers_end)

  all-at-b : GivesAll rules (end_b p) (wires_b rules p)
  all-at-b =
      sym (ap (λ l. on_wires p.late (received_line p.ab rules p.requests_behind l))
      (hears-own asked_link answered_link is.apart_link)
      ∙ said-comes rules lawful framed p.ab tags_ab some_ab p.requests_floor p.requests_behind
      p.master is.requests p.late is.requests_end)

  on-a : GoesOn rules (end_a p) before_a (wires_a rules p)
  on-a = goes-on rules lawful headed most lack (end_a p) tags_ab timely_ba before_a rested.at_a
      (λ asks. let no : Answers ≡ Asks = asks in cc) (wires_a rules p) delivered.box_a all-at-a

  on-b : GoesOn rules (end_b p) before_b (wires_b rules p)
  on-b = goes-on rules lawful headed most lack (end_b p) tags_ba timely_ab before_b rested.at_b
      (λ asks. rested.fits) (wires_b rules p) delivered.box_b all-at-b

  pub delivered-then : AreDeliveredThen rules p before_a before_b
  delivered-then =
      let na : ℕ = length (heard_device before_a.wires) in
      let nb : ℕ = length (heard_device before_b.wires) in
      let ka : ℕ = length (heard_link before_a.wires) in
      let kb : ℕ = length (heard_link before_b.wires) in
      record {
        box_a = on-a.box;
        box_b = on-b.box;
        at_a = delivered.at_a;
        at_b = delivered.at_b;
        requests_sealed = on-a.seals
            ∙ ap (λ l. sealed p.ab rules before_a.sent_floor (heard_device before_a.wires) ++ l)
            (ap (λ l. map (frame_later na) (sealed p.ab rules p.requests_floor l))
            delivered.at_a.box_hears
            ∙ (ap (map (frame_later na)) delivered.requests_sealed
            ∙ numbered-later rules na p.requests_floor (bursts p.master.line)));
        answers_sealed = on-b.seals
            ∙ ap (λ l. sealed p.ba rules before_b.sent_floor (heard_device before_b.wires) ++ l)
            (ap (λ l. map (frame_later nb) (sealed p.ba rules p.answers_floor l))
            delivered.at_b.box_hears
            ∙ (ap (map (frame_later nb)) delivered.answers_sealed
            ∙ numbered-later rules nb p.answers_floor (bursts p.devices.line)));
        requests_pass = on-b.passes
            ∙ ap (λ l. passed p.ab rules before_b.got_floor (heard_link before_b.wires) ++ l)
            (ap (map (frame_later kb)) delivered.requests_pass
            ∙ (numbered-later rules kb p.requests_floor (map (later p.late) (bursts p.master.line))
            ∙ ap (numbered rules p.requests_floor) (twice-later kb p.late (bursts p.master.line))));
        answers_pass = on-a.passes
            ∙ ap (λ l. passed p.ba rules before_a.got_floor (heard_link before_a.wires) ++ l)
            (ap (map (frame_later ka)) delivered.answers_pass
            ∙ (numbered-later rules ka p.answers_floor (map (later p.late) (bursts p.devices.line))
            ∙ ap (numbered rules p.answers_floor) (twice-later ka p.late (bursts p.devices.line))));
      }

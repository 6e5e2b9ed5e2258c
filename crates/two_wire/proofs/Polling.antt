-- Polls over an untouched two-wire line are delivered, if the turns are kept.
use Rattle.frame_ending.proofs.LaidBursts.{bursts-laid}
use Rattle.frame_ending.proofs.Longer.{length-line_of}
use Rattle.frame_ending.proofs.Spread.{AreSpread, EndBy, bursts-spread, bursts-end}
use Rattle.frame_ending.specs.{Laid.laid, Laid.later, Walk.emitted_by, Walk.walked, Walk.notes_before}
use Rattle.link_box.specs.Checking.{checker, at_floor as check_floor}
use Rattle.receiver_laws.proofs.{Notes.frames_in, Delivering.PassesAll, Delivering.passes-all}
use Rattle.receiver_laws.proofs.Packing.{packet, packets, packets-spread, packets-end}
use Rattle.yasir_ticks.proofs.BurstLaws.{bursts_from-silent_end}
use Rattle.yasir_ticks.proofs.BurstsOfLaws.{bursts_from-are}
use Rattle.yasir_ticks.specs.Bursts.{Burst, end_of}
use Rattle.two_wire.proofs.Gating.{laid-bursts, on_wires-laid}
use Rattle.two_wire.proofs.Giving.{same-is, later-some-spread}
use Rattle.two_wire.proofs.SentPackets.{sends-packets}
use Rattle.line_rules.specs.{Rules.Rules, RulesLaws.IsLawful, RulesLaws.IsFramed}
use Rattle.link_format.specs.Profile.{Profile, HasTags, delay, pause_len, trailer_len}
use Rattle.link_box.specs.Checking.{received_line, passed}
use Rattle.receiver_laws.proofs.Deliveries.{delivers-all}
use Rattle.receiver_laws.specs.Untouched.{IsUntouchedLink, AreSpaced, numbered}
use Rattle.link_box.specs.Sealing.{sealer, link_line, sealed, at_floor as seal_floor}
use Rattle.std.proofs.Common.{◌≡◌, ◌∙◌, ℕ, suc, ◌+◌, ◌≤◌, ◌<◌, Bool, true, false, ◌||◌}
use Rattle.std.proofs.Common.{List, [], ◌∷◌, length, map, refl, sym, ap, arith}
use Rattle.std.proofs.Common.{⊎_elim, length-append}
use Rattle.std.proofs.lemmas.Bool.{cases_lt, cond-true, cond-false, le-leb, lt-leb}
use Rattle.std.proofs.lemmas.List.{length-replicate}
use Rattle.yasir_ticks.specs.{Bursts.bursts, Ticks.silent}
use Rattle.yasir_ticks.specs.declared.tick.Tick.{Tick, TheVariants.Silent, TheVariants.Byte}
use Rattle.two_wire.specs.declared.gate.Waits.{Waits}
use Rattle.two_wire.specs.declared.gate.Side.{Side}
use Rattle.two_wire.specs.declared.gate.Side.TheVariants.{Asks, Answers}
use Rattle.two_wire.specs.Gate.{GateState, lets, let_through, gate_after, gated, at_rest}
use Rattle.two_wire.specs.Turns.{may_speak, InTurn}
use Rattle.two_wire.specs.TwoWire.{IsTwoWire}
use Rattle.two_wire.specs.Polling.{Said, all_said, said_later, lateness, Polling, requests_sent}
use Rattle.two_wire.specs.Polling.{answers_sent, wires_a, wires_b, end_a, end_b, PollsInTurn}
use Rattle.two_wire.specs.Polling.{PollsAreDelivered}
use Rattle.two_wire.specs.Wires.{hears, drives, on_wires}
use Rattle.two_wire.proofs.Ends.{on_wires-long}
use Rattle.two_wire.proofs.Keeping.{with_byte}
use Rattle.two_wire.proofs.Sharing.{hears-other, hears-own}

pub drives-long : (own others : List Tick) → length own ≡ length others
    → length (drives own others) ≡ length own
drives-long [] [] same = refl
drives-long [] (o ∷ os) same = absurd (omega arith)
drives-long (w ∷ ws) [] same = absurd (omega arith)
drives-long (w ∷ ws) (o ∷ os) same = let rest = drives-long ws os (omega arith) in omega arith

-- ---- one direction

numbered-long : (late : ℕ) (ds : List Burst) → length (map (later late) ds) ≡ length ds
numbered-long late [] = refl
numbered-long late (d ∷ ds) = let rest = numbered-long late ds in omega arith

end-later : (m n : ℕ) (ds : List Burst) → m ≤ n → EndBy m ds → EndBy n ds
end-later m n [] le ends = tt
end-later m n (d ∷ ds) le ends = let end = ends.0 in (omega arith, end-later m n ds le ends.1)

ends-later : (late m : ℕ) (ds : List Burst) → EndBy m ds → EndBy (late + m) (map (later late) ds)
ends-later late m [] ends = tt
ends-later late m (d ∷ ds) ends = let end = ends.0 in (omega arith, ends-later late m ds ends.1)

thrice-later : (a b c : ℕ) (ds : List Burst)
    → map (later a) (map (later b) (map (later c) ds)) ≡ map (later (a + (b + c))) ds
thrice-later a b c [] = refl
thrice-later a b c (d ∷ ds) =
    let same : a + (b + (c + d.start)) ≡ a + (b + c) + d.start = omega arith in
    ap (λ n. let e : Burst = record { start = n; body = d.body } in
    e ∷ map (later a) (map (later b) (map (later c) ds))) same
    ∙ ap (λ l. later (a + (b + c)) d ∷ l) (thrice-later a b c ds)

module _ (profile : Profile) (rules : Rules) (late : ℕ) where
  spaced-earlier : (n k : ℕ) (ds : List Burst) → n ≤ k → AreSpaced profile rules k ds
      → AreSpaced profile rules n ds
  spaced-earlier n k [] le spaced = tt
  spaced-earlier n k (d ∷ ds) le spaced =
      let from : k ≤ d.start = spaced.0 in (omega arith, spaced.1, spaced.2, spaced.3)

  spaced-later : (n : ℕ) (ds : List Burst) → AreSpaced profile rules n ds
      → AreSpaced profile rules (late + n) (map (later late) ds)
  spaced-later n [] spaced = tt
  spaced-later n (d ∷ ds) spaced =
      let from : n ≤ d.start = spaced.0 in (
        omega arith,
        spaced.1,
        spaced.2,
        spaced-earlier (end_of (later late d) + pause_len + trailer_len profile + 4)
            (late + (end_of d + pause_len + trailer_len profile + 4)) (map (later late) ds)
            (omega arith)
            (spaced-later (end_of d + pause_len + trailer_len profile + 4) ds spaced.3),
      )

  packets-later : (floor : ℕ) (ds : List Burst)
      → map (later late) (packets profile rules floor ds)
      ≡ packets profile rules floor (map (later late) ds)
  packets-later floor [] = refl
  packets-later floor (d ∷ ds) =
      ap (λ l. later late (packet profile rules (suc floor) d) ∷ l) (packets-later (suc floor) ds)

module _ (rules : Rules) (lawful : IsLawful rules) (framed : IsFramed rules) (profile : Profile)
    (tags : HasTags profile) (some : 1 ≤ profile.word_len) (floor behind : ℕ) (said : Said)
    (untouched_is : IsUntouchedLink profile rules floor behind said.line said.more) (late : ℕ)
    (end : lateness profile late ≤ said.more) where
  abbrev sent : List Tick
  sent = link_line profile rules floor (all_said said)

  abbrev on_link : List Tick
  on_link = on_wires late sent

  abbrev ds : List Burst
  ds = bursts said.line

  abbrev es : List Burst
  es = map (later late) ds

  abbrev m : ℕ
  m = length (all_said said)

  pub sent-long : length sent ≡ m
  sent-long = length-line_of (sealer profile rules) (seal_floor floor) (all_said said)

  link-long : length on_link ≡ m
  link-long = on_wires-long late sent ∙ sent-long

  m-is : m ≡ length said.line + said.more
  m-is = length-append said.line (silent said.more) ∙ ap (λ k. length said.line + k)
      (length-replicate said.more Silent)

  spaced : AreSpaced profile rules 0 es
  spaced = spaced-earlier profile rules late 0 (late + 0) es (omega arith)
      (spaced-later profile rules late 0 ds untouched_is.spaced)

  spread : AreSpread 4 0 es
  spread = later-some-spread 4 late (same-is ds) (bursts-spread said.line)

  ends : EndBy (late + length said.line) es
  ends = ends-later late (length said.line) ds (bursts-end said.line)

  numbers : floor + length es ≤ profile.limit
  numbers =
      let long = numbered-long late ds in
      let all = untouched_is.numbers in
      omega arith

  link-is : on_link ≡ laid m (packets profile rules floor es)
  link-is =
      ap (on_wires late) (sends-packets profile tags some rules lawful floor behind said.line
      said.more untouched_is)
      ∙ (on_wires-laid late m (packets profile rules floor ds)
      ∙ ap (laid m) (packets-later profile rules late floor ds))

  packets-fit : EndBy m (packets profile rules floor es)
  packets-fit =
      let long = m-is in
      end-later (late + length said.line + pause_len + trailer_len profile) m
      (packets profile rules floor es) (omega arith)
      (packets-end profile tags some rules lawful floor 0 0 (late + length said.line) es spaced
      spread ends)

  link-bursts : bursts on_link ≡ packets profile rules floor es
  link-bursts =
      ap (λ l. bursts l) link-is
      ∙ bursts-laid 4 m (packets profile rules floor es)
      (packets-spread profile tags some rules lawful floor 0 0 es spaced spread) packets-fit

  pass-room : late + length said.line + pause_len + trailer_len profile ≤ length on_link
  pass-room = let long = link-long in let is = m-is in omega arith

  all-passed : PassesAll profile tags some rules lawful framed (late + length said.line)
      (length on_link) pass-room (check_floor behind) floor es
  all-passed = passes-all profile tags some rules lawful framed (late + length said.line)
      (length on_link) pass-room (check_floor behind) floor 0 0 es spaced spread ends (omega arith)
      untouched_is.not_above untouched_is.near numbers

  pub said-passes : passed profile rules behind on_link ≡ numbered rules floor es
  said-passes =
      ap (λ bs. frames_in (notes_before (length on_link)
      (walked (checker profile rules) (check_floor behind) bs))) link-bursts
      ∙ all-passed.notes

  said-is : laid m ds ≡ all_said said
  said-is =
      ap (λ bs. laid m bs) (sym (bursts_from-silent_end 4 0 said.more said.line))
      ∙ sym (laid-bursts 4 (all_said said) (bursts (all_said said))
      (bursts_from-are 4 0 (all_said said)))

  pub said-comes : on_wires late (received_line profile rules behind on_link)
      ≡ said_later profile late said
  said-comes =
      ap (on_wires late) (ap (λ bs. laid (length on_link)
      (emitted_by (checker profile rules) (check_floor behind) bs)) link-bursts
      ∙ (ap (λ bs. laid (length on_link) bs) all-passed.emits
      ∙ ap (λ k. laid k (map (later (delay profile)) es)) link-long))
      ∙ (on_wires-laid late m (map (later (delay profile)) es)
      ∙ (ap (laid m) (thrice-later late (delay profile) late ds)
      ∙ (sym (on_wires-laid (lateness profile late) m ds)
      ∙ ap (on_wires (lateness profile late)) said-is)))

  pub said-sealed : sealed profile rules floor (all_said said)
      ≡ numbered rules floor (bursts said.line)
  said-sealed =
      (delivers-all profile tags some rules lawful framed floor behind said.line said.more 0
      untouched_is).seals

  pub later-long : length (said_later profile late said) ≡ m
  later-long = on_wires-long (lateness profile late) (all_said said)

-- ---- both directions

module _ (rules : Rules) (lawful : IsLawful rules) (framed : IsFramed rules) (p : Polling)
    (tags_ab : HasTags p.ab) (some_ab : 1 ≤ p.ab.word_len) (tags_ba : HasTags p.ba)
    (some_ba : 1 ≤ p.ba.word_len) (is : PollsInTurn rules p) where
  abbrev asked : List Tick
  asked = all_said p.master

  abbrev answered : List Tick
  answered = all_said p.devices

  abbrev asked_later : List Tick
  asked_later = said_later p.ab p.late p.master

  abbrev answered_later : List Tick
  answered_later = said_later p.ba p.late p.devices

  abbrev asked_link : List Tick
  asked_link = on_wires p.late (requests_sent rules p)

  abbrev answered_link : List Tick
  answered_link = on_wires p.late (answers_sent rules p)

  abbrev link_wires : List Tick
  link_wires = drives asked_link answered_link

  requests-long : length asked_link ≡ length asked
  requests-long = on_wires-long p.late (requests_sent rules p)
      ∙ length-line_of (sealer p.ab rules) (seal_floor p.requests_floor) asked

  answers-long : length answered_link ≡ length answered
  answers-long = on_wires-long p.late (answers_sent rules p)
      ∙ length-line_of (sealer p.ba rules) (seal_floor p.answers_floor) answered

  asked_later-long : length asked_later ≡ length asked
  asked_later-long = on_wires-long (lateness p.ab p.late) asked

  answered_later-long : length answered_later ≡ length answered
  answered_later-long = on_wires-long (lateness p.ba p.late) answered

  -- each box hears what the other one sends
  heard-at-a : hears asked_link link_wires ≡ answered_link
  heard-at-a = hears-other asked_link answered_link is.apart_link

  heard-at-b : hears answered_link link_wires ≡ asked_link
  heard-at-b = hears-own asked_link answered_link is.apart_link

  -- what its receiver makes of that
  made-at-a : on_wires p.late (received_line p.ba rules p.answers_behind
      (hears asked_link link_wires)) ≡ answered_later
  made-at-a =
      ap (λ l. on_wires p.late (received_line p.ba rules p.answers_behind l)) heard-at-a
      ∙ said-comes rules lawful framed p.ba tags_ba some_ba p.answers_floor p.answers_behind
      p.devices is.answers p.late is.answers_end

  made-at-b : on_wires p.late (received_line p.ab rules p.requests_behind
      (hears answered_link link_wires)) ≡ asked_later
  made-at-b =
      ap (λ l. on_wires p.late (received_line p.ab rules p.requests_behind l)) heard-at-b
      ∙ said-comes rules lawful framed p.ab tags_ab some_ab p.requests_floor p.requests_behind
      p.master is.requests p.late is.requests_end

  box-a : IsTwoWire rules (end_a p) (wires_a rules p)
  box-a =
      let a = requests-long in
      let b = answers-long in
      let c = answered_later-long in
      let same = is.same_ticks in
      let d = drives-long answered_later asked (omega arith) in
      let e = drives-long asked_link answered_link (omega arith) in
      let heard = hears-other answered_later asked is.apart_a in
      let f = ap length heard in
      let g = ap length heard-at-a in
      record {
        device_ticks = omega arith;
        link_ticks = omega arith;
        drives_lines = record {
          device_ticks = omega arith;
          link_ticks = omega arith;
          same_ticks = omega arith;
          sent = sym (ap (λ l. on_wires p.late (link_line p.ab rules p.requests_floor l)) heard);
          given = sym (ap (λ l. gated Answers p.waits_a at_rest l (on_wires p.lag
              (hears answered_later (drives answered_later asked)))) made-at-a
              ∙ (ap (λ l. gated Answers p.waits_a at_rest answered_later (on_wires p.lag l)) heard
              ∙ is.at_a));
        };
      }

  box-b : IsTwoWire rules (end_b p) (wires_b rules p)
  box-b =
      let a = requests-long in
      let b = answers-long in
      let c = asked_later-long in
      let same = is.same_ticks in
      let d = drives-long asked_later answered (omega arith) in
      let e = drives-long asked_link answered_link (omega arith) in
      let heard = hears-other asked_later answered is.apart_b in
      let f = ap length heard in
      let g = ap length heard-at-b in
      record {
        device_ticks = omega arith;
        link_ticks = omega arith;
        drives_lines = record {
          device_ticks = omega arith;
          link_ticks = omega arith;
          same_ticks = omega arith;
          sent = sym (ap (λ l. on_wires p.late (link_line p.ba rules p.answers_floor l)) heard);
          given = sym (ap (λ l. gated Asks p.waits_b at_rest l (on_wires p.lag
              (hears asked_later (drives asked_later answered)))) made-at-b
              ∙ (ap (λ l. gated Asks p.waits_b at_rest asked_later (on_wires p.lag l)) heard
              ∙ is.at_b));
        };
      }

  pub polls-delivered : PollsAreDelivered rules p
  polls-delivered = record {
    box_a = box-a;
    box_b = box-b;
    at_a = record {
      apart = is.apart_a;
      device_hears = hears-own answered_later asked is.apart_a;
      box_hears = hears-other answered_later asked is.apart_a;
    };
    at_b = record {
      apart = is.apart_b;
      device_hears = hears-own asked_later answered is.apart_b;
      box_hears = hears-other asked_later answered is.apart_b;
    };
    requests_sealed = said-sealed rules lawful framed p.ab tags_ab some_ab p.requests_floor
        p.requests_behind p.master is.requests p.late is.requests_end;
    answers_sealed = said-sealed rules lawful framed p.ba tags_ba some_ba p.answers_floor
        p.answers_behind p.devices is.answers p.late is.answers_end;
    requests_pass = ap (passed p.ab rules p.requests_behind) heard-at-b
        ∙ said-passes rules lawful framed p.ab tags_ab some_ab p.requests_floor p.requests_behind
        p.master is.requests p.late is.requests_end;
    answers_pass = ap (passed p.ba rules p.answers_behind) heard-at-a
        ∙ said-passes rules lawful framed p.ba tags_ba some_ba p.answers_floor p.answers_behind
        p.devices is.answers p.late is.answers_end;
  }

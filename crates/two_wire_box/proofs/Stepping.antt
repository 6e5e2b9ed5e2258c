-- The steps of a two-wire box are turns of its pair of boxes.
use Rattle.duplex_box.specs.Pairs.{BothWays}
use Rattle.duplex_box.specs.Turns.{Turn, Turns, MakesLine, ticks_from_device}
use Rattle.duplex_box.specs.Turns.{ticks_from_link, ticks_to_link, ticks_to_device}
use Rattle.duplex_box.specs.Turns.{notes_sealed, notes_checked}
use Rattle.link_box.specs.Walking.{other_line}
use Rattle.link_box.specs.declared.box_trait.LinkBox.{Ghosts as LinkBox}
use Rattle.link_format.specs.Setup.{Setup}
use Rattle.sequence_journal.specs.Journal.{journal_floor}
use Rattle.std.proofs.Common.{◌≡◌, ◌∙◌, ℕ, List, [], ◌∷◌, length, map, take, refl}
use Rattle.std.proofs.Common.{sym, ap, arith}
use Rattle.std.proofs.lemmas.List.{length-map, take_all}
use Rattle.yasir_io.specs.declared.disk.SlotDisk.{Ghosts as SlotDisk}
use Rattle.yasir_ticks.specs.declared.tick.Tick.{Tick, TheVariants.Silent}
use Rattle.two_wire.specs.declared.gate.Side.{Side}
use Rattle.two_wire.specs.declared.gate.Waits.{Waits}
use Rattle.two_wire.specs.Gate.{at_rest, lets, let_through, gate_after, gated}
use Rattle.two_wire.specs.Wires.{heard, hears, on_wires}
use Rattle.two_wire.proofs.Ends.{hears-long}
use Rattle.two_wire_box.specs.Lines.{WireStep, EndState, TakesStep, TakesSteps, MakesWires}

module _ {S C A B X Y : Type 0} (sends : LinkBox S A) (gets : LinkBox C B) (d : SlotDisk X)
    (e : SlotDisk Y) (side : Side) (waits : Waits) where
  abbrev Steps : Type 0
  Steps = List (WireStep A B)

  abbrev device_wires : Steps → List Tick
  device_wires steps = map (λ s. s.device_wires) steps

  abbrev link_wires : Steps → List Tick
  link_wires steps = map (λ s. s.link_wires) steps

  abbrev for_device : Steps → List Tick
  for_device steps = map (λ s. s.step.device) steps

  abbrev for_link : Steps → List Tick
  for_link steps = map (λ s. s.step.link) steps

  abbrev to_device : Steps → List Tick
  to_device steps = map (λ s. s.to_device) steps

  abbrev to_link : Steps → List Tick
  to_link steps = map (λ s. s.to_link) steps

  -- the turns of the pair
  abbrev turn_of : WireStep A B → Turn A B
  turn_of s = record {
    from_device = heard s.to_device s.device_wires;
    from_link = heard s.to_link s.link_wires;
    step = s.step;
  }

  abbrev turns : Steps → List (Turn A B)
  turns [] = []
  turns (s ∷ steps) = turn_of s ∷ turns steps

  from-device : (steps : Steps)
      → ticks_from_device (turns steps) ≡ hears (to_device steps) (device_wires steps)
  from-device [] = refl
  from-device (s ∷ steps) = ap (λ l. heard s.to_device s.device_wires ∷ l) (from-device steps)

  from-link : (steps : Steps) → ticks_from_link (turns steps) ≡ hears (to_link steps) (link_wires steps)
  from-link [] = refl
  from-link (s ∷ steps) = ap (λ l. heard s.to_link s.link_wires ∷ l) (from-link steps)

  made-link : (steps : Steps) → ticks_to_link (turns steps) ≡ for_link steps
  made-link [] = refl
  made-link (s ∷ steps) = ap (λ l. s.step.link ∷ l) (made-link steps)

  made-device : (steps : Steps) → ticks_to_device (turns steps) ≡ for_device steps
  made-device [] = refl
  made-device (s ∷ steps) = ap (λ l. s.step.device ∷ l) (made-device steps)

  turns-are : (old new : EndState S C X Y) (steps : Steps)
      → TakesSteps sends gets d e side waits old steps new
      → Turns sends gets d e old.ways (turns steps) new.ways
  turns-are old new [] taken = ap (λ (s : EndState S C X Y). s.ways) taken
  turns-are old new (s ∷ steps) taken =
      let next : EndState S C X Y = taken.0 in
      (next.ways, taken.1.goes_on, turns-are next new steps taken.2)

  -- the ticks with which the box drives the wires are those that it decided one step before
  device-is : (old new : EndState S C X Y) (steps : Steps)
      → TakesSteps sends gets d e side waits old steps new
      → to_device steps ≡ gated side waits old.gate
      (take (length steps) (old.for_device ∷ for_device steps))
      (hears (to_device steps) (device_wires steps))
  device-is old new [] taken = refl
  device-is old new (s ∷ steps) taken =
      let next : EndState S C X Y = taken.0 in
      let first : TakesStep sends gets d e side waits old s next = taken.1 in
      let h : Tick = heard s.to_device s.device_wires in
      let hs : List Tick = hears (to_device steps) (device_wires steps) in
      let rest = device-is next new steps taken.2 in
      ap (λ t. t ∷ to_device steps) first.device_is
      ∙ ap (λ l. let_through old.for_device (lets side waits old.gate) ∷ l)
      (rest
      ∙ (ap (λ g. gated side waits g (take (length steps) (next.for_device ∷ for_device steps)) hs)
      first.gate_is
      ∙ ap (λ t. gated side waits (gate_after side waits old.gate old.for_device h)
      (take (length steps) (t ∷ for_device steps)) hs) first.made))

  link-is : (old new : EndState S C X Y) (steps : Steps)
      → TakesSteps sends gets d e side waits old steps new
      → to_link steps ≡ take (length steps) (old.for_link ∷ for_link steps)
  link-is old new [] taken = refl
  link-is old new (s ∷ steps) taken =
      let next : EndState S C X Y = taken.0 in
      let first : TakesStep sends gets d e side waits old s next = taken.1 in
      ap (λ t. t ∷ to_link steps) first.link_is
      ∙ ap (λ l. old.for_link ∷ l)
      (link-is next new steps taken.2
      ∙ ap (λ t. take (length steps) (t ∷ for_link steps)) first.sent)

  later-one : (x : List Tick) (steps : Steps) → length x ≡ length steps
      → on_wires 1 x ≡ take (length steps) (Silent ∷ x)
  later-one x steps same = ap (λ n. take n (Silent ∷ x)) same

  -- the laws of the pair: in each direction turns make the line of its box
  abbrev OutgoingApart : Type 0
  OutgoingApart = (old new : BothWays S C X Y) (its : List (Turn A B))
      → Turns sends gets d e old its new → (setup : Setup) (line : List Tick)
      → sends.stands old.outgoing.line_box (journal_floor old.outgoing.journal) setup line
      → MakesLine sends d old.outgoing new.outgoing setup line (ticks_from_device its)
      (ticks_to_link its) (notes_sealed its)

  abbrev IncomingApart : Type 0
  IncomingApart = (old new : BothWays S C X Y) (its : List (Turn A B))
      → Turns sends gets d e old its new → (setup : Setup) (line : List Tick)
      → gets.stands old.incoming.line_box (journal_floor old.incoming.journal) setup line
      → MakesLine gets e old.incoming new.incoming setup line (ticks_from_link its)
      (ticks_to_device its) (notes_checked its)

  pub makes-wires : OutgoingApart → IncomingApart
      → (old new : EndState S C X Y) (steps : Steps) (sent_setup got_setup : Setup)
      → TakesSteps sends gets d e side waits old steps new
      → old.gate ≡ at_rest → old.for_device ≡ Silent → old.for_link ≡ Silent
      → sends.stands old.ways.outgoing.line_box (journal_floor old.ways.outgoing.journal) sent_setup
      []
      → gets.stands old.ways.incoming.line_box (journal_floor old.ways.incoming.journal) got_setup []
      → MakesWires sends gets side waits sent_setup got_setup steps
  makes-wires outgoing incoming old new steps sent_setup got_setup taken gate_is device_silent
      link_silent sent_stands got_stands =
      let out = outgoing old.ways new.ways (turns steps) (turns-are old new steps taken) sent_setup []
      sent_stands in
      let into = incoming old.ways new.ways (turns steps) (turns-are old new steps taken) got_setup []
      got_stands in
      let hs : List Tick = hears (to_device steps) (device_wires steps) in
      let k : ℕ = length steps in
      let links : for_link steps ≡ other_line sends.walking sent_setup hs =
      sym (made-link steps) ∙ (sym out.answers_are
      ∙ ap (other_line sends.walking sent_setup) (from-device steps)) in
      let devices : for_device steps
      ≡ other_line gets.walking got_setup (hears (to_link steps) (link_wires steps)) =
      sym (made-device steps) ∙ (sym into.answers_are
      ∙ ap (other_line gets.walking got_setup) (from-link steps)) in
      let a = length-map steps (λ s. s.device_wires) in
      let b = length-map steps (λ s. s.link_wires) in
      let c = length-map steps (λ s. s.to_device) in
      let f = length-map steps (λ s. s.to_link) in
      let g = hears-long (to_device steps) (device_wires steps) (omega arith) in
      let h = hears-long (to_link steps) (link_wires steps) (omega arith) in
      let at_once : on_wires 0 hs ≡ hs = take_all (length hs) hs (omega arith) in
      record {
        device_ticks = omega arith;
        link_ticks = omega arith;
        drives_lines = record {
          device_ticks = omega arith;
          link_ticks = omega arith;
          same_ticks = omega arith;
          sent = link-is old new steps taken
              ∙ (ap (λ t. take k (t ∷ for_link steps)) link_silent
              ∙ (sym (later-one (for_link steps) steps (length-map steps (λ s. s.step.link)))
              ∙ ap (on_wires 1) links));
          given = device-is old new steps taken
              ∙ (ap (λ x. gated side waits x (take k (old.for_device ∷ for_device steps)) hs) gate_is
              ∙ (ap (λ t. gated side waits at_rest (take k (t ∷ for_device steps)) hs) device_silent
              ∙ (ap (λ l. gated side waits at_rest l hs)
              (sym (later-one (for_device steps) steps (length-map steps (λ s. s.step.device)))
              ∙ ap (on_wires 1) devices)
              ∙ ap (λ l. gated side waits at_rest (on_wires 1 (other_line gets.walking got_setup
              (hears (to_link steps) (link_wires steps)))) l) (sym at_once))));
        };
      }

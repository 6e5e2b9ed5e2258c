-- What a two-wire box over journals in memory has driven, after one more step.
use Rattle.duplex_box.specs.Pairs.{outgoing_box, incoming_box, ways_of, PairGoesOn}
use Rattle.duplex_box.specs.declared.pair.PairStep.{PairStep}
use Rattle.link_box.specs.declared.box_trait.LinkBox.{Ghosts as LinkBox}
use Rattle.link_format.specs.Setup.{Setup}
use Rattle.sequence_journal.specs.Journal.{journal_floor}
use Rattle.std.proofs.Common.{◌≡◌, ◌∙◌, List, [], ◌∷◌, ◌++◌, refl, sym, subst}
use Rattle.yasir_io.specs.contracts.steady.SteadySlotsSlotDisk.TheImpl.{ghosts}
use Rattle.yasir_io.specs.declared.steady.SteadySlots.{SteadySlots}
use Rattle.yasir_ticks.specs.declared.tick.Tick.{Tick, TheVariants.Silent}
use Rattle.two_wire.specs.Gate.{gate_state, gate_side, gate_waits, gate_after, at_rest}
use Rattle.two_wire.specs.Wires.{heard}
use Rattle.two_wire.specs.declared.gate.Side.{Side}
use Rattle.two_wire.specs.declared.gate.Waits.{Waits}
use Rattle.two_wire_box.specs.Ends.{pair_of, gate_of, for_device, link_now, device_now}
use Rattle.two_wire_box.specs.Lines.{WireStep, EndState, TakesStep, TakesSteps}
use Rattle.two_wire_box.specs.Steady.{steady_state, HasDriven}
use Rattle.two_wire_box.specs.declared.steady_end.SteadyEnd.{SteadyEnd}

module _ {S C A B : Type 0} (sends : LinkBox S A) (gets : LinkBox C B) where
  takes-more : (side : Side) (waits : Waits) (old mid new : EndState S C SteadySlots SteadySlots)
      (steps : List (WireStep A B)) (s : WireStep A B)
      → TakesSteps sends gets ghosts ghosts side waits old steps mid
      → TakesStep sends gets ghosts ghosts side waits mid s new
      → TakesSteps sends gets ghosts ghosts side waits old (steps ++ (s ∷ [])) new
  takes-more side waits old mid new [] s taken last = (
    new,
    subst (λ z. TakesStep sends gets ghosts ghosts side waits z s new) (sym taken) last,
    refl,
  )
  takes-more side waits old mid new (t ∷ steps) s taken last =
      (taken.0, taken.1, takes-more side waits taken.0 mid new steps s taken.2 last)

  pub driven-more : (side : Side) (waits : Waits) (sent_setup got_setup : Setup)
      (old new : SteadyEnd S C) (steps : List (WireStep A B)) (device_wires link_wires : Tick)
      (step : PairStep A B)
      → PairGoesOn sends gets ghosts ghosts (heard (device_now old.wires) device_wires)
      (heard (link_now old.wires) link_wires)
      (ways_of (pair_of old.wires) old.sent old.sent_disk old.got old.got_disk)
      (ways_of (pair_of new.wires) new.sent new.sent_disk new.got new.got_disk) step
      → gate_state (gate_of new.wires) ≡ gate_after (gate_side (gate_of old.wires))
      (gate_waits (gate_of old.wires)) (gate_state (gate_of old.wires)) (for_device old.wires)
      (heard (device_now old.wires) device_wires)
      → gate_side (gate_of new.wires) ≡ gate_side (gate_of old.wires)
      → gate_waits (gate_of new.wires) ≡ gate_waits (gate_of old.wires)
      → for_device new.wires ≡ step.device → link_now new.wires ≡ step.link
      → HasDriven sends gets side waits sent_setup got_setup old steps
      → HasDriven sends gets side waits sent_setup got_setup new (steps ++ (record {
        device_wires = device_wires;
        link_wires = link_wires;
        to_device = device_now old.wires;
        to_link = link_now old.wires;
        step = step;
      } ∷ []))
  driven-more side waits sent_setup got_setup old new steps device_wires link_wires step goes_on gate_is
      same_side same_waits made sent driven =
      let s : WireStep A B = record {
        device_wires = device_wires;
        link_wires = link_wires;
        to_device = device_now old.wires;
        to_link = link_now old.wires;
        step = step;
      } in
      let first : TakesStep sends gets ghosts ghosts (gate_side (gate_of old.wires))
      (gate_waits (gate_of old.wires)) (steady_state old) s (steady_state new) = record {
        device_is = refl;
        link_is = refl;
        goes_on = goes_on;
        gate_is = gate_is;
        made = made;
        sent = sent;
      } in
      let last : TakesStep sends gets ghosts ghosts side waits (steady_state old) s
      (steady_state new) =
      subst (λ z. TakesStep sends gets ghosts ghosts side z (steady_state old) s (steady_state new))
      driven.waits_is
      (subst (λ z. TakesStep sends gets ghosts ghosts z (gate_waits (gate_of old.wires))
      (steady_state old) s (steady_state new)) driven.side_is first) in
      record {
        side_is = same_side ∙ driven.side_is;
        waits_is = same_waits ∙ driven.waits_is;
        begun = driven.begun;
        at_rest_is = driven.at_rest_is;
        device_silent = driven.device_silent;
        link_silent = driven.link_silent;
        sent_stands = driven.sent_stands;
        got_stands = driven.got_stands;
        taken = takes-more side waits driven.begun (steady_state old) (steady_state new) steps s
            driven.taken last;
      }

  pub driven-none : (side : Side) (waits : Waits) (sent_setup got_setup : Setup)
      (value : SteadyEnd S C) → gate_side (gate_of value.wires) ≡ side
      → gate_waits (gate_of value.wires) ≡ waits → gate_state (gate_of value.wires) ≡ at_rest
      → for_device value.wires ≡ Silent → link_now value.wires ≡ Silent
      → journal_floor value.sent ≡ 0 → journal_floor value.got ≡ 0
      → sends.stands (outgoing_box (pair_of value.wires)) 0 sent_setup []
      → gets.stands (incoming_box (pair_of value.wires)) 0 got_setup []
      → HasDriven sends gets side waits sent_setup got_setup value []
  driven-none side waits sent_setup got_setup value side_is waits_is rests device_is link_is sent_floor
      got_floor sent_stands got_stands = record {
        side_is = side_is;
        waits_is = waits_is;
        begun = steady_state value;
        at_rest_is = rests;
        device_silent = device_is;
        link_silent = link_is;
        sent_stands = subst (λ n. sends.stands (outgoing_box (pair_of value.wires)) n sent_setup [])
            (sym sent_floor) sent_stands;
        got_stands = subst (λ n. gets.stands (incoming_box (pair_of value.wires)) n got_setup [])
            (sym got_floor) got_stands;
        taken = refl;
      }

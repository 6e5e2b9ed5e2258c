-- What a session has been, when it ends.
use Rattle.device_model.specs.declared.device.Device.{Ghosts as Device}
use Rattle.link_box.specs.Walking.{other_line}
use Rattle.link_box.specs.declared.box_trait.LinkBox.{Ghosts as LinkBox}
use Rattle.link_format.specs.{Directions.opposite_of, Setup.Setup, declared.dir.Dir.Dir}
use Rattle.session_lists.specs.declared.frame_box.FrameBox.{Ghosts as FrameBox}
use Rattle.std.proofs.Common.{◌≡◌, ◌∙◌, List, [], ◌∷◌, ◌++◌, length, take, sym, ap, subst, arith}
use Rattle.std.proofs.Common.{length-append}
use Rattle.std.proofs.Math.Seq.{take-append_seam}
use Rattle.yasir_ticks.specs.declared.tick.Tick.{Tick, TheVariants.Silent}
use Rattle.two_wire.specs.{Gate.gated, Gate.at_rest, TwoWire.EndWires, TwoWire.DrivesWires}
use Rattle.two_wire.specs.TwoWire.{heard_device, heard_link}
use Rattle.two_wire.specs.Wires.{on_wires}
use Rattle.two_wire.specs.declared.gate.{Side.Side, Waits.Waits}
use Rattle.two_wire_box.specs.{Lines.WireStep, Lines.MakesWires, Steady.HasDriven}
use Rattle.two_wire_box.specs.declared.steady_end.SteadyEnd.{SteadyEnd}
use Rattle.poll_session.specs.{PollEnds.HasPolled, Polled.IsPollEnd, Polled.boxes_of}
use Rattle.poll_session.specs.{TurnedEnds.poll_setup, declared.poll_end.PollEnd.PollEnd}

-- What leaves of a receiver's line is that line, one tick later.
pub made-is : (made other : List Tick) (t : Tick) → made ++ t ∷ [] ≡ Silent ∷ other
    → on_wires 1 other ≡ made
made-is made other t is =
    let more = length-append made (t ∷ []) in
    let long = ap length is in
    let same : length other ≡ length made = omega (arith, more, long) in
    ap (λ n. take n (Silent ∷ other)) same
    ∙ (ap (take (length made)) (sym is) ∙ take-append_seam made (t ∷ []))

module _ {S C A B X Y V : Type 0} (sends : LinkBox S A) (gets : LinkBox C B) (x : FrameBox X)
    (y : FrameBox Y) (v : Device V)
    (same : (setup : Setup) (line : List Tick) → (y.numbering setup).other_line line
    ≡ other_line gets.walking setup line)
    (law : (side : Side) (waits : Waits) (sent_setup got_setup : Setup) (value : SteadyEnd S C)
    (steps : List (WireStep A B)) → HasDriven sends gets side waits sent_setup got_setup value steps
    → MakesWires sends gets side waits sent_setup got_setup steps) where
  pub is-end : (dir : Dir) (value : PollEnd S C X Y V) (side : Side) (waits : Waits) (w : EndWires)
      (others deaf : List Tick) → HasPolled sends gets x y v dir value w others deaf
      → value.turned.side ≡ side → value.turned.waits ≡ waits
      → IsPollEnd (boxes_of sends x y dir) (boxes_of sends x y (opposite_of dir)) side waits w others
      deaf
  is-end dir value side waits w others deaf polled side_is waits_is =
      let turned = polled.turned in
      let setup : Setup = poll_setup (opposite_of dir) in
      let made : DrivesWires (other_line sends.walking (poll_setup dir)) (other_line gets.walking setup)
      1 0 value.turned.side value.turned.waits w =
      subst (DrivesWires (other_line sends.walking (poll_setup dir)) (other_line gets.walking setup) 1 0
      value.turned.side value.turned.waits) turned.wires_are
      (law value.turned.side value.turned.waits (poll_setup dir) setup value.turned.wires turned.steps
      turned.driven) in
      let lines = made.drives_lines in
      let first : IsPollEnd (boxes_of sends x y dir) (boxes_of sends x y (opposite_of dir))
      value.turned.side value.turned.waits w others deaf = record {
        drives = record {
          device_ticks = made.device_ticks;
          link_ticks = made.link_ticks;
          drives_lines = record {
            device_ticks = lines.device_ticks;
            link_ticks = lines.link_ticks;
            same_ticks = lines.same_ticks;
            sent = lines.sent;
            given = lines.given
                ∙ ap (λ l. gated value.turned.side value.turned.waits at_rest (on_wires 1 l)
                (on_wires 0 (heard_device w))) (sym (same setup (heard_link w)));
          };
        };
        beside = turned.beside;
      } in
      subst (λ s. IsPollEnd (boxes_of sends x y dir) (boxes_of sends x y (opposite_of dir)) s waits w
      others deaf) side_is
      (subst (λ z. IsPollEnd (boxes_of sends x y dir) (boxes_of sends x y (opposite_of dir))
      value.turned.side z w others deaf) waits_is first)

-- One more tick at an end of a session.
use Rattle.device_model.specs.declared.device.Device.{Ghosts as Device}
use Rattle.link_box.specs.declared.box_trait.LinkBox.{Ghosts as LinkBox}
use Rattle.link_format.specs.declared.dir.Dir.{Dir}
use Rattle.session_lists.specs.ReplayLists.{Listens}
use Rattle.session_lists.specs.declared.frame_box.FrameBox.{Ghosts as FrameBox}
use Rattle.std.proofs.Common.{◌≡◌, ◌∙◌, List, [], ◌∷◌, ◌++◌, length, sym, subst, arith}
use Rattle.std.proofs.lemmas.List.{length-map}
use Rattle.yasir_ticks.specs.declared.tick.Tick.{Tick}
use Rattle.two_wire.specs.TwoWire.{EndWires, heard_device, heard_link}
use Rattle.two_wire.specs.Wires.{heard, hears}
use Rattle.two_wire_box.specs.Lines.{WireStep, wires_in}
use Rattle.poll_session.proofs.Appending.{hears-and}
use Rattle.poll_session.specs.{PollEnds.HasPolled, TurnedEnds.EndHasTurned, TurnedEnds.wires_and}
use Rattle.poll_session.specs.{Watches.HasWatched, declared.poll_end.PollEnd.PollEnd}
use Rattle.poll_session.specs.declared.turned_end.EndTick.{EndTick}

-- the box drives each pair of wires in each tick in which something is on it
pub record AreLong (w : EndWires) : Type 0 where
  pub device : length w.to_device ≡ length w.device_wires
  pub link : length w.to_link ≡ length w.link_wires

pub are-long : {A B : Type 0} (steps : List (WireStep A B)) (w : EndWires) → wires_in steps ≡ w
    → AreLong w
are-long steps w is = subst AreLong is (record {
  device = length-map steps (λ s. s.to_device) ∙ sym (length-map steps (λ s. s.device_wires));
  link = length-map steps (λ s. s.to_link) ∙ sym (length-map steps (λ s. s.link_wires));
})

module _ {S C A B X Y V : Type 0} (sends : LinkBox S A) (gets : LinkBox C B) (x : FrameBox X)
    (y : FrameBox Y) (v : Device V) where
  pub polled-and : (dir : Dir) (old new : PollEnd S C X Y V) (w : EndWires) (others deaf : List Tick)
      (t : EndTick) → HasPolled sends gets x y v dir old w others deaf
      → EndHasTurned sends gets dir new.turned (wires_and w t) (others ++ t.said ∷ []) (deaf ++ t.deaf ∷ [])
      → HasWatched x y dir new.watch (heard_device w ++ heard t.to_device t.device_wires ∷ [])
      (heard_link w ++ heard t.to_link t.link_wires ∷ []) (w.to_device ++ t.to_device ∷ [])
      → Listens v new.ear new.read (hears deaf w.device_wires ++ heard t.deaf t.device_wires ∷ [])
      → HasPolled sends gets x y v dir new (wires_and w t) (others ++ t.said ∷ [])
      (deaf ++ t.deaf ∷ [])
  polled-and dir old new w others deaf t polled turned watched listens =
      let long = are-long polled.turned.steps w polled.turned.wires_are in
      let a = long.device in
      let b = polled.turned.beside.deaf_ticks in
      let device = hears-and w.to_device w.device_wires t.to_device t.device_wires long.device in
      let link = hears-and w.to_link w.link_wires t.to_link t.link_wires long.link in
      let ear = hears-and deaf w.device_wires t.deaf t.device_wires (omega (arith, a, b)) in
      record {
        turned = turned;
        watched = subst (λ l. HasWatched x y dir new.watch (heard_device (wires_and w t)) l
            (w.to_device ++ t.to_device ∷ [])) (sym link)
            (subst (λ l. HasWatched x y dir new.watch l
            (heard_link w ++ heard t.to_link t.link_wires ∷ []) (w.to_device ++ t.to_device ∷ []))
            (sym device) watched);
        listens = subst (Listens v new.ear new.read) (sym ear) listens;
      }

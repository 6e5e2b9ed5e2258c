-- What a two-wire box has made of its wires, at the beginning and at the end.
use Rattle.frame_ending.proofs.Longer.{length-line_of}
use Rattle.frame_ending.specs.{Answers.told_notes, Walk.Walker, Walk.notes_of}
use Rattle.link_box.specs.{Walking.other_line, declared.box_trait.LinkBox.Ghosts as LinkBox}
use Rattle.link_format.specs.Setup.{Setup}
use Rattle.line_commands.specs.{KeptBox.timed_of, TimedLines.timed_lines, TimedLines.lines_before}
use Rattle.session_lists.specs.FrameList.{KeptFrames}
use Rattle.std.proofs.Common.{◌≡◌, ◌∙◌, ℕ, List, [], ◌∷◌, ◌++◌, length, take, refl, sym, ap}
use Rattle.std.proofs.Common.{subst, arith, append-nil}
use Rattle.std.proofs.lemmas.List.{take_all, take-append-le}
use Rattle.two_wire.specs.Gate.{gated, held_steps, at_rest, gate_state, gate_side, gate_waits}
use Rattle.two_wire.specs.TwoWire.{EndWires}
use Rattle.two_wire.specs.{TwoWire.heard_device, TwoWire.heard_link, Wires.on_wires}
use Rattle.two_wire.specs.declared.{gate.Side.Side, gate.Waits.Waits}
use Rattle.wire_commands.proofs.{Gates.gated-size, Hearing.sure-none}
use Rattle.wire_commands.specs.Making.{AreBefore, HasMade, known_own}
use Rattle.wire_commands.specs.TickLines.{HasWritten}
use Rattle.wire_commands.specs.WireBox.{leaving, notes_told, HasLeft}
use Rattle.wire_commands.specs.WireLines.{held_lines, AreTextsOfWires}
use Rattle.wire_commands.specs.declared.wire_lines.WireLines.{WireLines}
use Rattle.yasir_ticks.specs.{Bursts.bursts_from, CanonicalText.canonical_text}
use Rattle.yasir_ticks.specs.declared.tick.Tick.{Tick, TheVariants.Silent}

-- what has left of a line, if as many ticks have as the line has
left-is : (x left next : List Tick) → Silent ∷ x ≡ left ++ next → length left ≡ length x
    → left ≡ on_wires 1 x
left-is x left next is level =
    sym (ap (λ l. take (length x) l) is
    ∙ (take-append-le (length x) left next (omega (arith, level))
    ∙ take_all (length x) left (omega (arith, level))))

-- ---- no tick has gone by

no-note : {S N : Type 0} (w : Walker S N) (s : S) → notes_of w s [] ≡ []
unfolding bursts_from
no-note w s = refl

no-line : {X N : Type 0} (b : LinkBox X N) (line_of : N → List ℕ) (setup : Setup)
    → timed_lines line_of (notes_told b setup []) ≡ []
no-line b line_of setup = ap (λ notes. timed_lines line_of (told_notes b.walking.brief notes))
    (no-note (b.walking.walker setup) (b.walking.begun setup))

pub begins-made : {S C A B : Type 0} (sends : LinkBox S A) (sent_line : A → List ℕ)
    (gets : LinkBox C B) (got_line : B → List ℕ) (side : Side) (waits : Waits)
    (sent_setup got_setup : Setup) (value : WireLines S C) (device_rest link_rest : List Tick)
    → HasLeft sends value.sender sent_setup [] [] → HasLeft gets value.receiver got_setup [] []
    → value.ticks ≡ 0 → gate_side value.gate ≡ side → gate_waits value.gate ≡ waits
    → gate_state value.gate ≡ at_rest → HasWritten value.link_text []
    → HasWritten value.device_text [] → value.notes.items ≡ []
    → HasMade sends sent_line gets got_line side waits sent_setup got_setup value [] [] device_rest
    link_rest
begins-made sends sent_line gets got_line side waits sent_setup got_setup value device_rest link_rest
    sender_is receiver_is none side_is waits_is gate_is to_link to_device notes = record {
      sent = [];
      sent_ahead = [];
      sent_left = [];
      got = [];
      got_ahead = [];
      got_left = [];
      sender_is = sender_is;
      receiver_is = receiver_is;
      sent_counted = sym none;
      got_counted = sym none;
      sent_left_counted = sym none;
      got_left_counted = sym none;
      device_counted = sym none;
      link_counted = sym none;
      device_heard = refl;
      link_heard = refl;
      device_sure = tt;
      link_sure = tt;
      side_is = side_is;
      waits_is = waits_is;
      gate_is = gate_is;
      to_link = to_link;
      to_device = to_device;
      sealed_before = subst (AreBefore value.ticks) (sym (no-line sends sent_line sent_setup)) tt;
      checked_before = subst (AreBefore value.ticks) (sym (no-line gets got_line got_setup)) tt;
      notes = notes ∙ sym (ap (λ n. lines_before n
          (timed_lines sent_line (notes_told sends sent_setup []))
          (timed_lines got_line (notes_told gets got_setup []) ++ [])) none);
    }

-- ---- all ticks have gone by

module _ {S C A B : Type 0} (sends : LinkBox S A) (sent_line : A → List ℕ) (gets : LinkBox C B)
    (got_line : B → List ℕ) (side : Side) (waits : Waits) (sent_setup got_setup : Setup)
    (value : WireLines S C) (device link : List Tick)
    (made : HasMade sends sent_line gets got_line side waits sent_setup got_setup value device link
    [] []) where
  sent-whole : made.sent ++ made.sent_ahead ≡ made.sent
  sent-whole =
      ap (λ l. made.sent ++ l)
      (sure-none (known_own value.gate value.receiver) made.sent_ahead made.device_sure)
      ∙ append-nil made.sent

  got-whole : made.got ++ made.got_ahead ≡ made.got
  got-whole =
      ap (λ l. made.got ++ l) (sure-none (leaving value.sender) made.got_ahead made.link_sure)
      ∙ append-nil made.got

  abbrev wires : EndWires
  wires = record {
    device_wires = device;
    link_wires = link;
    to_device = gated side waits at_rest made.got_left made.sent;
    to_link = made.sent_left;
  }

  sent-left : made.sent_left ≡ on_wires 1 (other_line sends.walking sent_setup made.sent)
  sent-left =
      let left : HasLeft sends value.sender sent_setup made.sent made.sent_left =
      subst (λ l. HasLeft sends value.sender sent_setup l made.sent_left) sent-whole made.sender_is in
      left-is (other_line sends.walking sent_setup made.sent) made.sent_left (leaving value.sender)
      left.leaves (made.sent_left_counted ∙ (sym made.sent_counted
      ∙ sym (length-line_of (sends.walking.walker sent_setup) (sends.walking.begun sent_setup)
      made.sent)))

  got-left : made.got_left ≡ on_wires 1 (other_line gets.walking got_setup made.got)
  got-left =
      let left : HasLeft gets value.receiver got_setup made.got made.got_left =
      subst (λ l. HasLeft gets value.receiver got_setup l made.got_left) got-whole made.receiver_is in
      left-is (other_line gets.walking got_setup made.got) made.got_left (leaving value.receiver)
      left.leaves (made.got_left_counted ∙ (sym made.got_counted
      ∙ sym (length-line_of (gets.walking.walker got_setup) (gets.walking.begun got_setup) made.got)))

  pub texts-of : (link_text device_text : List ℕ)
      → ((line : List Tick) → HasWritten value.link_text line → link_text ≡ canonical_text line)
      → ((line : List Tick) → HasWritten value.device_text line → device_text ≡ canonical_text line)
      → AreTextsOfWires (timed_of sends.walking sent_line sent_setup)
      (timed_of gets.walking got_line got_setup) side waits device link
      (record { link = link_text; device = device_text; notes = value.notes.items })
  texts-of link_text device_text link_is device_is =
      let levels : length made.got_left ≡ length made.sent =
      made.got_left_counted ∙ sym made.sent_counted in
      let size : length wires.to_device ≡ value.ticks =
      gated-size side waits at_rest made.got_left made.sent levels ∙ made.got_left_counted in
      let device_size = ap length made.device_heard in
      let link_size = ap length made.link_heard in
      let got_on : on_wires 1 (other_line gets.walking got_setup made.got)
      ≡ on_wires 1 (other_line gets.walking got_setup (heard_link wires)) =
      ap (λ l. on_wires 1 (other_line gets.walking got_setup l)) (sym made.link_heard) in
      let at_once : on_wires 0 (heard_device wires) ≡ heard_device wires =
      take_all (length (heard_device wires)) (heard_device wires) (omega arith) in
      let sealed : ℕ → List (KeptFrames ℕ) → List ℕ = λ n l. lines_before n
      (timed_lines sent_line (notes_told sends sent_setup (heard_device wires))) l in
      record {
        wires = wires;
        device_is = refl;
        link_is = refl;
        drives = record {
          device_ticks = size ∙ sym made.device_counted;
          link_ticks = made.sent_left_counted ∙ sym made.link_counted;
          drives_lines = record {
            device_ticks = size ∙ (sym made.sent_counted ∙ sym device_size);
            link_ticks = made.sent_left_counted ∙ (sym made.got_counted ∙ sym link_size);
            same_ticks = device_size ∙ (made.sent_counted ∙ (sym made.got_counted ∙ sym link_size));
            sent = sent-left
                ∙ ap (λ l. on_wires 1 (other_line sends.walking sent_setup l)) (sym made.device_heard);
            given = ap (λ l. gated side waits at_rest l made.sent) (got-left ∙ got_on)
                ∙ ap (λ l. gated side waits at_rest
                (on_wires 1 (other_line gets.walking got_setup (heard_link wires))) l)
                (sym (at_once ∙ made.device_heard));
          };
        };
        link_text = link_is made.sent_left made.to_link;
        device_text = device_is wires.to_device made.to_device;
        notes = made.notes
            ∙ (ap (λ l. lines_before value.ticks
            (timed_lines sent_line (notes_told sends sent_setup l))
            (timed_lines got_line (notes_told gets got_setup (made.got ++ made.got_ahead))
            ++ held_lines (held_steps side waits 0 at_rest made.got_left made.sent)))
            (sent-whole ∙ sym made.device_heard)
            ∙ (ap (λ l. sealed value.ticks (timed_lines got_line (notes_told gets got_setup l)
            ++ held_lines (held_steps side waits 0 at_rest made.got_left made.sent)))
            (got-whole ∙ sym made.link_heard)
            ∙ (ap (λ l. sealed value.ticks
            (timed_lines got_line (notes_told gets got_setup (heard_link wires))
            ++ held_lines (held_steps side waits 0 at_rest l made.sent))) (got-left ∙ got_on)
            ∙ (ap (λ l. sealed value.ticks
            (timed_lines got_line (notes_told gets got_setup (heard_link wires))
            ++ held_lines (held_steps side waits 0 at_rest
            (on_wires 1 (other_line gets.walking got_setup (heard_link wires))) l)))
            (sym made.device_heard)
            ∙ ap (λ n. sealed n (timed_lines got_line (notes_told gets got_setup (heard_link wires))
            ++ held_lines (held_steps side waits 0 at_rest
            (on_wires 1 (other_line gets.walking got_setup (heard_link wires)))
            (heard_device wires)))) (sym made.device_counted)))));
      }

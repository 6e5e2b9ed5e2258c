-- What a two-wire box has made of its wires, after more ticks have gone by.
use Rattle.frame_ending.specs.Answers.{note_in}
use Rattle.link_box.specs.declared.box_trait.LinkBox.{Ghosts as LinkBox}
use Rattle.link_format.specs.Setup.{Setup}
use Rattle.line_commands.specs.{Boxes.line_of_note, TimedLines.timed_lines, TimedLines.lines_before}
use Rattle.std.proofs.Common.{◌≡◌, ◌∙◌, ℕ, zero, suc, ◌+◌, ◌-◌, ◌<◌, ◌≤◌, List, [], ◌∷◌, ◌++◌}
use Rattle.std.proofs.Common.{length, take, drop, Bool, Option, sym, ap, subst, arith}
use Rattle.std.proofs.Common.{inl, inr, append_assoc, length-append}
use Rattle.std.proofs.lemmas.Bool.{cases_lt}
use Rattle.std.proofs.lemmas.List.{map-append, length-take-le, length-replicate, take-replicate}
use Rattle.std.proofs.lemmas.List.{drop-replicate, take-append-drop, replicate-append-replicate}
use Rattle.std.specs.Prelude.{if◌then◌else◌}
use Rattle.two_wire.specs.Gate.{GateState, gate_state, gate_side, gate_waits, gate_ticks}
use Rattle.two_wire.specs.Gate.{at_rest, holds_back, gated, held_steps}
use Rattle.two_wire.specs.Wires.{hears}
use Rattle.two_wire.specs.declared.{gate.Side.Side, gate.Waits.Waits}
use Rattle.wire_commands.proofs.Ahead.{left-size, left-more, left-served, left-gone, next-size}
use Rattle.wire_commands.proofs.Ahead.{silence-follows}
use Rattle.wire_commands.proofs.Gates.{hears-append, gated-append, gate-append, held-append, gated-still}
use Rattle.wire_commands.proofs.Gates.{held-still, gated-size}
use Rattle.wire_commands.proofs.Hearing.{sure-grow, sure-drop, sure-within, sure-heard}
use Rattle.wire_commands.proofs.NotedSteps.{Lines, AllAt, text_in, before-append, before-later, before-from}
use Rattle.wire_commands.proofs.NotedSteps.{lines-pass, one-at, one-text, held_one, held-at, held-text}
use Rattle.wire_commands.proofs.NotedSteps.{held-more, held-before}
use Rattle.wire_commands.specs.Hearing.{SurelyHears, gate_through}
use Rattle.wire_commands.specs.Making.{AreBefore, HasMade, IsAble, MakesSome, MayPass, passed, known_own}
use Rattle.wire_commands.specs.TickLines.{HasRoom, HasWritten}
use Rattle.wire_commands.specs.WireBox.{leaving, silent_behind, HasLeft, HasCaughtUp, CatchesUp}
use Rattle.wire_commands.specs.WireBox.{notes_told, Leaves}
use Rattle.wire_commands.specs.WireLines.{held_line, held_lines}
use Rattle.wire_commands.specs.declared.{wire_box.WireBox.WireBox, wire_lines.WireLines.WireLines}
use Rattle.yasir_ticks.specs.{Ticks.silent, declared.tick.Tick.Tick}
use Rattle.yasir_ticks.specs.declared.tick.Tick.TheVariants.{Silent}

silent-more : (m n : ℕ) → m ≤ n → silent n ≡ silent m ++ silent (n - m)
silent-more m n within =
    let same : n ≡ m + (n - m) = omega (arith, within) in
    ap silent same ∙ sym (replicate-append-replicate m (n - m) Silent)

-- a tick and silence behind it
first-still : (t : Tick) (n count : ℕ) → 0 < count → count ≤ n + 1
    → take count (t ∷ silent n) ≡ t ∷ silent (count - 1)
first-still t n zero some within = absurd (omega arith)
first-still t n (suc k) some within =
    let same : k ≡ suc k - 1 = omega arith in
    ap (λ l. t ∷ l) (take-replicate k n Silent (omega (arith, within)) ∙ ap silent same)

-- the first ticks of a list
pub first-of : (t : Tick) (l : List Tick) (count : ℕ) → 0 < count
    → t ∷ take (count - 1) l ≡ take count (t ∷ l)
first-of t l zero some = absurd (omega arith)
first-of t l (suc k) some =
    let same : suc k - 1 ≡ k = omega arith in
    ap (λ n. t ∷ take n l) same

drop-known : (count n left : ℕ) (t : Tick) → 0 < count → left + count ≡ n
    → drop count (t ∷ silent n) ≡ Silent ∷ silent left
drop-known zero n left t some is = absurd (omega arith)
drop-known (suc k) n left t some is =
    let same : n - k ≡ suc left = omega (arith, is) in
    drop-replicate k n Silent ∙ ap silent same

drop-known-none : (count n : ℕ) (t : Tick) → 0 < count → n ≡ 0 → drop count (t ∷ silent n) ≡ []
drop-known-none zero n t some is = absurd (omega arith)
drop-known-none (suc k) n t some is =
    let same : n - k ≡ 0 = omega (arith, is) in
    drop-replicate k n Silent ∙ ap silent same

module _ {S C : Type 0} (sender : WireBox S) (receiver : WireBox C) (count : ℕ)
    (may : MayPass sender receiver count) where
  -- at most one tick isn't known to be silent
  pub still-within : count ≤ silent_behind receiver + 1
  still-within = elim may.still [
    | inl one ↦ omega (arith, one)
    | inr more ↦ omega (arith, more.1)
  ]

  pub silence-within : 0 < silent_behind receiver → count ≤ silent_behind receiver
  silence-within some = elim may.still [
    | inl one ↦ omega (arith, one)
    | inr more ↦ more.1
  ]

  -- the ticks that leave from the receiver
  pub still-leaving : take count (leaving receiver) ≡ receiver.first ∷ silent (count - 1)
  still-leaving = elim may.still [
    | inl one ↦ ap (λ k. take k (leaving receiver)) one
        ∙ sym (ap (λ k. receiver.first ∷ silent (k - 1)) one)
    | inr more ↦
        let some : 0 < silent_behind receiver = omega (arith, more.1, may.some) in
        ap (λ l. take count (receiver.first ∷ l))
        (silence-follows receiver.next (drop receiver.at receiver.bytes.items) some)
        ∙ first-still receiver.first (silent_behind receiver) count may.some (omega (arith, more.1))
  ]

module _ {S C A B : Type 0} (sends : LinkBox S A) (sent_line : A → List ℕ) (gets : LinkBox C B)
    (got_line : B → List ℕ) (old new : WireLines S C) where
  abbrev pub old_side : Side
  old_side = gate_side old.gate

  abbrev pub old_waits : Waits
  old_waits = gate_waits old.gate

  abbrev pub g : GateState
  g = gate_state old.gate

  abbrev pub gate_now : Tick
  gate_now = passed old.gate old.receiver.first

  -- Ticks have gone by, this many.
  pub record Passes (sender : WireBox S) (receiver : WireBox C) (sealed : Option A)
      (checked : Option B) (device_rest link_rest : List Tick) (left count : ℕ) : Type 0 where
    pub sender_up : CatchesUp sends old.sender sender (known_own old.gate old.receiver) device_rest
        left sealed
    pub receiver_up : CatchesUp gets old.receiver receiver (leaving sender) link_rest left checked
    pub may : MayPass sender receiver count
    pub sender_leaves : Leaves sender new.sender count
    pub receiver_leaves : Leaves receiver new.receiver count
    pub same_side : gate_side new.gate ≡ old_side
    pub same_waits : gate_waits new.gate ≡ old_waits
    pub gate_goes : (heard : List Tick) → length heard ≡ count
        → heard ≡ hears (gate_now ∷ silent (count - 1)) (take count device_rest)
        → gate_state new.gate ≡ gate_through old_side old_waits g
        (old.receiver.first ∷ silent (count - 1)) heard
    pub link_text : (line : List Tick) → HasWritten old.link_text line
        → HasWritten new.link_text (line ++ take count (leaving sender))
    pub device_text : (line : List Tick) → HasWritten old.device_text line
        → HasWritten new.device_text (line ++ gate_now ∷ silent (count - 1))
    pub notes : new.notes.items ≡ ((old.notes.items ++ line_of_note sent_line sealed)
        ++ line_of_note got_line checked)
        ++ (if holds_back old_side old_waits g old.receiver.first then held_line old.ticks else [])
    pub ticks : new.ticks ≡ old.ticks + count

  module _ (sent_setup got_setup : Setup) (sender : WireBox S) (receiver : WireBox C)
      (sealed : Option A) (checked : Option B) (device link device_rest link_rest : List Tick)
      (left count : ℕ) (p : Passes sender receiver sealed checked device_rest link_rest left count)
      (made : HasMade sends sent_line gets got_line old_side old_waits sent_setup got_setup old device
      link device_rest link_rest) where
    abbrev up : HasCaughtUp sends sender sent_setup made.sent made.sent_ahead made.sent_left
        (known_own old.gate old.receiver) device_rest sealed
    up = p.sender_up.caught sent_setup made.sent made.sent_ahead made.sent_left made.sender_is
        (made.sent_left_counted ∙ sym made.sent_counted) made.device_sure

    link-known : SurelyHears (leaving sender) link_rest made.got_ahead
    link-known = subst (λ l. SurelyHears l link_rest made.got_ahead) (sym p.sender_up.leaving_is)
        (sure-grow (leaving old.sender) p.sender_up.more link_rest made.got_ahead made.link_sure)

    abbrev got_up : HasCaughtUp gets receiver got_setup made.got made.got_ahead made.got_left
        (leaving sender) link_rest checked
    got_up = p.receiver_up.caught got_setup made.got made.got_ahead made.got_left made.receiver_is
        (made.got_left_counted ∙ sym made.got_counted) link-known

    abbrev sent_on : List Tick
    sent_on = made.sent_ahead ++ up.more

    abbrev got_on : List Tick
    got_on = made.got_ahead ++ got_up.more

    abbrev O : List Tick
    O = take count sent_on

    abbrev T : List Tick
    T = old.receiver.first ∷ silent (count - 1)

    sent-enough : count ≤ length sent_on
    sent-enough = omega (
      arith,
      left-size sends sender sent_setup (made.sent ++ sent_on) made.sent_left up.left_is,
      length-append made.sent sent_on,
      made.sent_left_counted,
      made.sent_counted,
      p.may.sent,
    )

    got-enough : count ≤ length got_on
    got-enough = omega (
      arith,
      left-size gets receiver got_setup (made.got ++ got_on) made.got_left got_up.left_is,
      length-append made.got got_on,
      made.got_left_counted,
      made.got_counted,
      p.may.got,
    )

    sent-size : length O ≡ count
    sent-size = length-take-le count sent_on sent-enough

    got-size : length (take count got_on) ≡ count
    got-size = length-take-le count got_on got-enough

    still-size : length T ≡ count
    still-size = omega (arith, length-replicate (count - 1) Silent, p.may.some)

    -- what is known of the box's own ticks, now that the receiver is ahead
    abbrev known : List Tick
    known = gate_now ∷ silent (silent_behind receiver)

    device-known : SurelyHears known device_rest sent_on
    device-known =
        subst (λ l. SurelyHears (gate_now ∷ l) device_rest sent_on)
        (sym (silent-more (silent_behind old.receiver) (silent_behind receiver)
        p.receiver_up.silent_is))
        (sure-grow (known_own old.gate old.receiver)
        (silent (silent_behind receiver - silent_behind old.receiver)) device_rest sent_on up.heard)

    device-enough : count ≤ length device_rest
    device-enough = omega (arith, sure-within known device_rest sent_on device-known, sent-enough)

    link-enough : count ≤ length link_rest
    link-enough =
        omega (arith, sure-within (leaving sender) link_rest got_on got_up.heard, got-enough)

    -- ---- what is heard

    device-heard : hears (gate_now ∷ silent (count - 1)) (take count device_rest) ≡ O
    device-heard =
        ap (λ l. hears l (take count device_rest)) (sym (first-still gate_now (silent_behind receiver)
        count p.may.some (still-within sender receiver count p.may)))
        ∙ sure-heard count known device_rest sent_on device-known
        (omega (
          arith,
          length-replicate (silent_behind receiver) Silent,
          still-within sender receiver count p.may,
        )) sent-enough

    link-heard : hears (take count (leaving sender)) (take count link_rest) ≡ take count got_on
    link-heard = sure-heard count (leaving sender) link_rest got_on got_up.heard
        (omega (arith, p.may.sent)) got-enough

    abbrev gate_before : GateState
    gate_before = gate_through old_side old_waits at_rest made.got_left made.sent

    levels : length made.got_left ≡ length made.sent
    levels = made.got_left_counted ∙ sym made.sent_counted

    gated-now : gated old_side old_waits at_rest (made.got_left ++ T) (made.sent ++ O)
        ≡ gated old_side old_waits at_rest made.got_left made.sent ++ gate_now ∷ silent (count - 1)
    gated-now =
        gated-append old_side old_waits at_rest made.got_left T made.sent O levels
        ∙ ap (λ l. gated old_side old_waits at_rest made.got_left made.sent ++ l)
        (ap (λ x. gated old_side old_waits x T O) (sym made.gate_is)
        ∙ gated-still old_side old_waits g old.receiver.first (count - 1) O
        (omega (arith, sent-size, p.may.some)))

    device-all : hears (gated old_side old_waits at_rest (made.got_left ++ T) (made.sent ++ O))
        (device ++ take count device_rest) ≡ made.sent ++ O
    device-all =
        let before : List Tick = gated old_side old_waits at_rest made.got_left made.sent in
        let size = gated-size old_side old_waits at_rest made.got_left made.sent levels in
        ap (λ l. hears l (device ++ take count device_rest)) gated-now
        ∙ (hears-append before (gate_now ∷ silent (count - 1)) device (take count device_rest)
        (size ∙ (made.got_left_counted ∙ sym made.device_counted))
        ∙ (ap (λ l. l ++ hears (gate_now ∷ silent (count - 1)) (take count device_rest))
        made.device_heard ∙ ap (λ l. made.sent ++ l) device-heard))

    link-all : hears (made.sent_left ++ take count (leaving sender)) (link ++ take count link_rest)
        ≡ made.got ++ take count got_on
    link-all =
        hears-append made.sent_left (take count (leaving sender)) link (take count link_rest)
        (made.sent_left_counted ∙ sym made.link_counted)
        ∙ (ap (λ l. l ++ hears (take count (leaving sender)) (take count link_rest)) made.link_heard
        ∙ ap (λ l. made.got ++ l) link-heard)

    -- ---- what has left

    sent-line : made.sent ++ sent_on ≡ (made.sent ++ O) ++ drop count sent_on
    sent-line = ap (λ l. made.sent ++ l) (sym (take-append-drop count sent_on))
        ∙ sym (append_assoc made.sent O (drop count sent_on))

    got-line : made.got ++ got_on ≡ (made.got ++ take count got_on) ++ drop count got_on
    got-line = ap (λ l. made.got ++ l) (sym (take-append-drop count got_on))
        ∙ sym (append_assoc made.got (take count got_on) (drop count got_on))

    receiver-leaves : take count (leaving receiver) ≡ T
    receiver-leaves = still-leaving sender receiver count p.may
        ∙ ap (λ t. t ∷ silent (count - 1)) p.receiver_up.now_is

    -- what is known of the box's own ticks behind those that go by
    device-rest : SurelyHears (known_own new.gate new.receiver) (drop count device_rest)
        (drop count sent_on)
    device-rest =
        let sure = sure-drop count known device_rest sent_on device-known in
        elim (cases_lt 0 (silent_behind receiver)) [
          | inl some ↦
              let rest = p.receiver_leaves.silent_is some
              (silence-within sender receiver count p.may some) in
              subst (λ l. SurelyHears l (drop count device_rest) (drop count sent_on))
              (drop-known count (silent_behind receiver) (silent_behind new.receiver) gate_now
              p.may.some rest.1
              ∙ sym (ap (λ t. passed new.gate t ∷ silent (silent_behind new.receiver)) rest.0)) sure
          | inr none ↦
              let nothing : drop count known ≡ [] = drop-known-none count (silent_behind receiver)
              gate_now p.may.some (omega (arith, none)) in
              sure-grow [] (known_own new.gate new.receiver) (drop count device_rest)
              (drop count sent_on)
              (subst (λ l. SurelyHears l (drop count device_rest) (drop count sent_on)) nothing sure)
        ]

    link-rest : SurelyHears (leaving new.sender) (drop count link_rest) (drop count got_on)
    link-rest =
        subst (λ l. SurelyHears l (drop count link_rest) (drop count got_on))
        (sym p.sender_leaves.leaving_is)
        (sure-drop count (leaving sender) link_rest got_on got_up.heard)

    -- ---- the notes

    abbrev held : Bool
    held = holds_back old_side old_waits g old.receiver.first

    abbrev a : Lines
    a = timed_lines sent_line (notes_told sends sent_setup (made.sent ++ made.sent_ahead))

    abbrev b : Lines
    b = timed_lines got_line (notes_told gets got_setup (made.got ++ made.got_ahead))

    abbrev c : Lines
    c = held_lines (held_steps old_side old_waits 0 at_rest made.got_left made.sent)

    abbrev x : Lines
    x = timed_lines sent_line (note_in old.ticks sealed)

    abbrev y : Lines
    y = timed_lines got_line (note_in old.ticks checked)

    abbrev z : Lines
    z = held_one old.ticks held

    sealed-are : timed_lines sent_line (notes_told sends sent_setup
        ((made.sent ++ O) ++ drop count sent_on)) ≡ a ++ x
    sealed-are =
        ap (λ l. timed_lines sent_line (notes_told sends sent_setup l)) (sym sent-line)
        ∙ (ap (timed_lines sent_line) up.noted
        ∙ (map-append _ (notes_told sends sent_setup (made.sent ++ made.sent_ahead))
        (note_in (length made.sent) sealed)
        ∙ ap (λ n. a ++ timed_lines sent_line (note_in n sealed)) made.sent_counted))

    checked-are : timed_lines got_line (notes_told gets got_setup
        ((made.got ++ take count got_on) ++ drop count got_on)) ≡ b ++ y
    checked-are =
        ap (λ l. timed_lines got_line (notes_told gets got_setup l)) (sym got-line)
        ∙ (ap (timed_lines got_line) got_up.noted
        ∙ (map-append _ (notes_told gets got_setup (made.got ++ made.got_ahead))
        (note_in (length made.got) checked)
        ∙ ap (λ n. b ++ timed_lines got_line (note_in n checked)) made.got_counted))

    held-are : held_lines (held_steps old_side old_waits 0 at_rest (made.got_left ++ T)
        (made.sent ++ O)) ≡ c ++ z
    held-are =
        let before : List ℕ = held_steps old_side old_waits 0 at_rest made.got_left made.sent in
        ap held_lines
        (held-append old_side old_waits 0 old.ticks at_rest made.got_left T made.sent O levels
        (omega (arith, made.got_left_counted))
        ∙ ap (λ l. before ++ l)
        (ap (λ s. held_steps old_side old_waits old.ticks s T O) (sym made.gate_is)
        ∙ held-still old_side old_waits old.ticks g old.receiver.first (count - 1) O
        (omega (arith, sent-size, p.may.some))))
        ∙ held-more before (if held then old.ticks ∷ [] else [])

    all-notes : new.notes.items ≡ lines_before new.ticks
        (timed_lines sent_line (notes_told sends sent_setup
        ((made.sent ++ O) ++ drop count sent_on)))
        (timed_lines got_line (notes_told gets got_setup
        ((made.got ++ take count got_on) ++ drop count got_on))
        ++ held_lines (held_steps old_side old_waits 0 at_rest (made.got_left ++ T)
        (made.sent ++ O)))
    all-notes =
        let all : List ℕ = lines_before old.ticks a (b ++ c) in
        let sealed_text : List ℕ = line_of_note sent_line sealed in
        let checked_text : List ℕ = line_of_note got_line checked in
        let held_text : List ℕ = if held then held_line old.ticks else [] in
        let texts : text_in x ++ (text_in y ++ text_in z)
        ≡ sealed_text ++ (checked_text ++ held_text) =
        ap (λ l. l ++ (text_in y ++ text_in z)) (one-text sent_line old.ticks sealed)
        ∙ ap (λ l. sealed_text ++ l)
        (ap (λ l. l ++ text_in z) (one-text got_line old.ticks checked)
        ∙ ap (λ l. checked_text ++ l) (held-text old.ticks held)) in
        let pass = lines-pass old.ticks count a b c x y z p.may.some (one-at sent_line old.ticks sealed)
        (one-at got_line old.ticks checked) (held-at old.ticks held) made.sealed_before
        made.checked_before (held-before old_side old_waits 0 old.ticks at_rest made.got_left
        made.sent (omega (arith, made.got_left_counted))) in
        p.notes
        ∙ (ap (λ l. ((l ++ sealed_text) ++ checked_text) ++ held_text) made.notes
        ∙ (append_assoc (all ++ sealed_text) checked_text held_text
        ∙ (append_assoc all sealed_text (checked_text ++ held_text)
        ∙ (ap (λ l. all ++ l) (sym texts)
        ∙ (sym pass
        ∙ (ap (λ k. lines_before k (a ++ x) ((b ++ y) ++ (c ++ z))) (sym p.ticks)
        ∙ (ap (λ l. lines_before new.ticks l ((b ++ y) ++ (c ++ z))) (sym sealed-are)
        ∙ ap (λ l. lines_before new.ticks (timed_lines sent_line (notes_told sends sent_setup
        ((made.sent ++ O) ++ drop count sent_on))) l)
        (ap (λ l. l ++ (c ++ z)) (sym checked-are)
        ∙ ap (λ l. timed_lines got_line (notes_told gets got_setup
        ((made.got ++ take count got_on) ++ drop count got_on)) ++ l) (sym held-are)))))))))

    before-all : (n : ℕ) (l m : Lines) → AreBefore n l → AllAt n m → n < new.ticks
        → AreBefore new.ticks (l ++ m)
    before-all n l m before at later =
        before-append new.ticks l m (before-later n new.ticks l (omega (arith, later)) before)
        (before-from n new.ticks m later at)

    pub all-made : HasMade sends sent_line gets got_line old_side old_waits sent_setup got_setup new
        (device ++ take count device_rest) (link ++ take count link_rest) (drop count device_rest)
        (drop count link_rest)
    all-made =
        let later : old.ticks < new.ticks = omega (arith, p.ticks, p.may.some) in
        record {
          sent = made.sent ++ O;
          sent_ahead = drop count sent_on;
          sent_left = made.sent_left ++ take count (leaving sender);
          got = made.got ++ take count got_on;
          got_ahead = drop count got_on;
          got_left = made.got_left ++ T;
          sender_is = subst (λ l. HasLeft sends new.sender sent_setup l
              (made.sent_left ++ take count (leaving sender))) sent-line
              (left-more sends sender new.sender count sent_setup (made.sent ++ sent_on)
              made.sent_left p.sender_leaves up.left_is);
          receiver_is = subst (λ l. HasLeft gets new.receiver got_setup
              ((made.got ++ take count got_on) ++ drop count got_on) (made.got_left ++ l))
              receiver-leaves (subst (λ l. HasLeft gets new.receiver got_setup l
              (made.got_left ++ take count (leaving receiver))) got-line
              (left-more gets receiver new.receiver count got_setup (made.got ++ got_on)
              made.got_left p.receiver_leaves got_up.left_is));
          sent_counted = omega (arith, length-append made.sent O, made.sent_counted, sent-size, p.ticks);
          got_counted = omega (
            arith,
            length-append made.got (take count got_on),
            made.got_counted,
            got-size,
            p.ticks,
          );
          sent_left_counted = omega (
            arith,
            length-append made.sent_left (take count (leaving sender)),
            made.sent_left_counted,
            length-take-le count (leaving sender)
                (omega (arith, p.may.sent)),
            p.ticks,
          );
          got_left_counted = omega (
            arith,
            length-append made.got_left T,
            made.got_left_counted,
            still-size,
            p.ticks,
          );
          device_counted = omega (
            arith,
            length-append device (take count device_rest),
            made.device_counted,
            length-take-le count device_rest device-enough,
            p.ticks,
          );
          link_counted = omega (
            arith,
            length-append link (take count link_rest),
            made.link_counted,
            length-take-le count link_rest link-enough,
            p.ticks,
          );
          device_heard = device-all;
          link_heard = link-all;
          device_sure = device-rest;
          link_sure = link-rest;
          side_is = p.same_side;
          waits_is = p.same_waits;
          gate_is = p.gate_goes O sent-size (sym device-heard)
              ∙ (ap (λ s. gate_through old_side old_waits s T O) made.gate_is
              ∙ sym (gate-append old_side old_waits at_rest made.got_left T made.sent O levels));
          to_link = p.link_text made.sent_left made.to_link;
          to_device = subst (HasWritten new.device_text) (sym gated-now)
              (p.device_text (gated old_side old_waits at_rest made.got_left made.sent)
              made.to_device);
          sealed_before = subst (AreBefore new.ticks) (sym sealed-are)
              (before-all old.ticks a x made.sealed_before (one-at sent_line old.ticks sealed) later);
          checked_before = subst (AreBefore new.ticks) (sym checked-are)
              (before-all old.ticks b y made.checked_before (one-at got_line old.ticks checked) later);
          notes = all-notes;
        }

  passes-made : (side : Side) (waits : Waits) (sent_setup got_setup : Setup) (sender : WireBox S)
      (receiver : WireBox C) (sealed : Option A) (checked : Option B)
      (device link device_rest link_rest : List Tick) (left count : ℕ)
      → Passes sender receiver sealed checked device_rest link_rest left count
      → HasMade sends sent_line gets got_line side waits sent_setup got_setup old device link
      device_rest link_rest
      → HasMade sends sent_line gets got_line side waits sent_setup got_setup new
      (device ++ take count device_rest) (link ++ take count link_rest) (drop count device_rest)
      (drop count link_rest)
  passes-made side waits sent_setup got_setup sender receiver sealed checked device link device_rest
      link_rest left count p made =
      let was : HasMade sends sent_line gets got_line old_side old_waits sent_setup got_setup old
      device link device_rest link_rest =
      subst (λ w. HasMade sends sent_line gets got_line old_side w sent_setup got_setup old device link
      device_rest link_rest) (sym made.waits_is)
      (subst (λ s. HasMade sends sent_line gets got_line s waits sent_setup got_setup old device link
      device_rest link_rest) (sym made.side_is) made) in
      subst (λ w. HasMade sends sent_line gets got_line side w sent_setup got_setup new
      (device ++ take count device_rest) (link ++ take count link_rest) (drop count device_rest)
      (drop count link_rest)) made.waits_is
      (subst (λ s. HasMade sends sent_line gets got_line s old_waits sent_setup got_setup new
      (device ++ take count device_rest) (link ++ take count link_rest) (drop count device_rest)
      (drop count link_rest)) made.side_is
      (all-made sent_setup got_setup sender receiver sealed checked device link device_rest link_rest
      left count p was))

  able-on : (sender : WireBox S) (receiver : WireBox C) (sealed : Option A)
      (checked : Option B) (device_rest link_rest : List Tick) (left count : ℕ)
      → Passes sender receiver sealed checked device_rest link_rest left count
      → IsAble sends gets old left → gate_ticks new.gate ≡ gate_ticks old.gate + count
      → HasRoom new.link_text → HasRoom new.device_text → IsAble sends gets new (left - count)
  able-on sender receiver sealed checked device_rest link_rest left count p able ticks link_room
      device_room = record {
        sender = left-served sends sender new.sender count p.may.sent p.sender_leaves
            p.sender_up.served;
        receiver = left-served gets receiver new.receiver count p.may.got p.receiver_leaves
            p.receiver_up.served;
        sent_counted = left-gone sends sender new.sender count p.may.sent p.sender_leaves
            p.sender_up.served
            ∙ (ap (λ n. n + count) (p.sender_up.gone ∙ able.sent_counted) ∙ sym p.ticks);
        got_counted = left-gone gets receiver new.receiver count p.may.got p.receiver_leaves
            p.receiver_up.served
            ∙ (ap (λ n. n + count) (p.receiver_up.gone ∙ able.got_counted) ∙ sym p.ticks);
        gate_counted = ticks ∙ (ap (λ n. n + count) able.gate_counted ∙ sym p.ticks);
        sent_within = omega (
          arith,
          p.sender_up.within,
          next-size sender new.sender count p.may.sent p.sender_leaves,
        );
        got_within = omega (
          arith,
          p.receiver_up.within,
          next-size receiver new.receiver count p.may.got p.receiver_leaves,
        );
        link_room = link_room;
        device_room = device_room;
      }

  pub makes-some : (sender : WireBox S) (receiver : WireBox C) (sealed : Option A)
      (checked : Option B) (device_rest link_rest : List Tick) (left count : ℕ)
      → IsAble sends gets old left → gate_ticks new.gate ≡ gate_ticks old.gate + count
      → HasRoom new.link_text → HasRoom new.device_text
      → Passes sender receiver sealed checked device_rest link_rest left count
      → MakesSome sends sent_line gets got_line old new device_rest link_rest left count
  makes-some sender receiver sealed checked device_rest link_rest left count able ticks link_room
      device_room p = record {
        some = p.may.some;
        within = omega (arith, p.may.sent, p.sender_up.within);
        counted = p.ticks;
        able = able-on sender receiver sealed checked device_rest link_rest left count p able ticks
            link_room device_room;
        makes = λ side waits sent_setup got_setup device link made.
            passes-made side waits sent_setup got_setup sender receiver sealed checked device link
            device_rest link_rest left count p made;
      }

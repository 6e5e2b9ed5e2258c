-- One more tick at the end of what was on the wires, and of what was said.
use Rattle.duplex_box.specs.declared.pair.PairStep.{PairStep}
use Rattle.std.proofs.Common.{◌≡◌, ◌∙◌, ℕ, ◌+◌, List, [], ◌∷◌, ◌++◌, length, map, refl, sym, ap, arith}
use Rattle.std.proofs.{Common.length-append, lemmas.List.map-append}
use Rattle.yasir_ticks.specs.declared.tick.Tick.{Tick, TheVariants.Silent, TheVariants.Byte}
use Rattle.two_wire.specs.Turns.{opposite, after_own, MaySay, OthersInTurn, MayBeDeaf, IsWithin}
use Rattle.two_wire.specs.Turns.{AreWithin, DeafInTurn}
use Rattle.two_wire.specs.TwoWire.{EndWires}
use Rattle.two_wire.specs.Wires.{heard, hears, driven, drives}
use Rattle.two_wire.specs.declared.gate.{Side.Side, Spoken.Spoken, Waits.Waits}
use Rattle.two_wire.specs.declared.gate.Spoken.TheVariants.{Nobody}
use Rattle.two_wire_box.specs.Lines.{WireStep, wires_in}
use Rattle.poll_session.specs.TurnedEnds.{AreBeside, spoken_behind, wires_and}
use Rattle.poll_session.specs.declared.turned_end.EndTick.{EndTick}

pub hears-and : (own wires : List Tick) (o x : Tick) → length own ≡ length wires
    → hears (own ++ o ∷ []) (wires ++ x ∷ []) ≡ hears own wires ++ heard o x ∷ []
hears-and [] [] o x same = refl
hears-and [] (w ∷ ws) o x same = absurd (omega (arith, same))
hears-and (t ∷ ts) [] o x same = absurd (omega (arith, same))
hears-and (t ∷ ts) (w ∷ ws) o x same =
    let rest : length ts ≡ length ws = omega (arith, same) in
    ap (λ l. heard t w ∷ l) (hears-and ts ws o x rest)

drives-and : (own others : List Tick) (o x : Tick) → length own ≡ length others
    → drives (own ++ o ∷ []) (others ++ x ∷ []) ≡ drives own others ++ driven o x ∷ []
drives-and [] [] o x same = refl
drives-and [] (w ∷ ws) o x same = absurd (omega (arith, same))
drives-and (t ∷ ts) [] o x same = absurd (omega (arith, same))
drives-and (t ∷ ts) (w ∷ ws) o x same =
    let rest : length ts ≡ length ws = omega (arith, same) in
    ap (λ l. driven t w ∷ l) (drives-and ts ws o x rest)

pub spoken-and : (side : Side) (spoken : Spoken) (own others : List Tick) (t o : Tick)
    → length own ≡ length others → spoken_behind side spoken (own ++ t ∷ []) (others ++ o ∷ [])
    ≡ after_own side (spoken_behind side spoken own others) t o
spoken-and side spoken [] [] t o same = refl
spoken-and side spoken [] (w ∷ ws) t o same = absurd (omega (arith, same))
spoken-and side spoken (x ∷ xs) [] t o same = absurd (omega (arith, same))
spoken-and side spoken (x ∷ xs) (w ∷ ws) t o same =
    let rest : length xs ≡ length ws = omega (arith, same) in
    spoken-and side (after_own side spoken x w) xs ws t o rest

module _ (side : Side) (waits : Waits) where
  turn-and : (spoken : Spoken) (own others : List Tick) (t o : Tick) → length own ≡ length others
      → OthersInTurn side waits spoken own others
      → MaySay (opposite side) waits (spoken_behind side spoken own others) o
      → OthersInTurn side waits spoken (own ++ t ∷ []) (others ++ o ∷ [])
  turn-and spoken [] [] t o same all may = (may, tt)
  turn-and spoken [] (w ∷ ws) t o same all may = absurd (omega (arith, same))
  turn-and spoken (x ∷ xs) [] t o same all may = absurd (omega (arith, same))
  turn-and spoken (x ∷ xs) (w ∷ ws) t o same all may =
      let rest : length xs ≡ length ws = omega (arith, same) in
      (all.0, turn-and (after_own side spoken x w) xs ws t o rest all.1 may)

  deaf-and : (spoken : Spoken) (own others deaf : List Tick) (t o d : Tick)
      → length own ≡ length others → length own ≡ length deaf
      → DeafInTurn side waits 0 spoken own others deaf
      → MayBeDeaf side waits 0 (spoken_behind side spoken own others) d
      → DeafInTurn side waits 0 spoken (own ++ t ∷ []) (others ++ o ∷ []) (deaf ++ d ∷ [])
  deaf-and spoken [] [] [] t o d same long all may = (may, tt)
  deaf-and spoken [] [] (e ∷ es) t o d same long all may = absurd (omega (arith, long))
  deaf-and spoken [] (w ∷ ws) deaf t o d same long all may = absurd (omega (arith, same))
  deaf-and spoken (x ∷ xs) [] deaf t o d same long all may = absurd (omega (arith, same))
  deaf-and spoken (x ∷ xs) (w ∷ ws) [] t o d same long all may = absurd (omega (arith, long))
  deaf-and spoken (x ∷ xs) (w ∷ ws) (e ∷ es) t o d same long all may =
      let rest : length xs ≡ length ws = omega (arith, same) in
      let short : length xs ≡ length es = omega (arith, long) in
      (all.0, deaf-and (after_own side spoken x w) xs ws es t o d rest short all.1 may)

within-and : (others deaf : List Tick) (o d : Tick) → length others ≡ length deaf
    → AreWithin others deaf → IsWithin o d → AreWithin (others ++ o ∷ []) (deaf ++ d ∷ [])
within-and [] [] o d same all one = (one, tt)
within-and [] (e ∷ es) o d same all one = absurd (omega (arith, same))
within-and (w ∷ ws) [] o d same all one = absurd (omega (arith, same))
within-and (w ∷ ws) (e ∷ es) o d same all one =
    let rest : length ws ≡ length es = omega (arith, same) in
    (all.0, within-and ws es o d rest all.1 one)

pub beside-and : (side : Side) (waits : Waits) (w : EndWires) (others deaf : List Tick) (t : EndTick)
    → AreBeside side waits w others deaf → t.device_wires ≡ driven t.to_device t.said
    → MaySay (opposite side) waits (spoken_behind side (Nobody 0) w.to_device others) t.said
    → MayBeDeaf side waits 0 (spoken_behind side (Nobody 0) w.to_device others) t.deaf
    → IsWithin t.said t.deaf
    → AreBeside side waits (wires_and w t) (others ++ t.said ∷ []) (deaf ++ t.deaf ∷ [])
beside-and side waits w others deaf t beside wires may may_deaf within =
    let a = beside.same_ticks in
    let b = beside.deaf_ticks in
    let n = length-append w.to_device (t.to_device ∷ []) in
    let m = length-append others (t.said ∷ []) in
    let k = length-append deaf (t.deaf ∷ []) in
    record {
      same_ticks = omega (arith, a, n, m);
      deaf_ticks = omega (arith, b, n, k);
      wires_are = ap (λ l. l ++ t.device_wires ∷ []) beside.wires_are
          ∙ (ap (λ x. drives w.to_device others ++ x ∷ []) wires
          ∙ sym (drives-and w.to_device others t.to_device t.said (omega (arith, a))));
      while_they_talk = within-and others deaf t.said t.deaf (omega (arith, a, b))
          beside.while_they_talk within;
      in_turn = turn-and side waits (Nobody 0) w.to_device others t.to_device t.said (omega (arith, a))
          beside.in_turn may;
      deaf_in_turn = deaf-and side waits (Nobody 0) w.to_device others deaf t.to_device t.said t.deaf
          (omega (arith, a)) (omega (arith, b)) beside.deaf_in_turn may_deaf;
    }

four-wires : {a b c d e f g h : List Tick} → a ≡ e → b ≡ f → c ≡ g → d ≡ h
    → (let first : EndWires = record {
      device_wires = a;
      link_wires = b;
      to_device = c;
      to_link = d;
    } in
    let second : EndWires = record {
      device_wires = e;
      link_wires = f;
      to_device = g;
      to_link = h;
    } in first ≡ second)
four-wires p q r s = rw (p, q, r, s) refl

pub steps-and : {A B : Type 0} (steps : List (WireStep A B)) (w : EndWires) (t : EndTick)
    (step : PairStep A B) → wires_in steps ≡ w
    → wires_in (steps ++ (record {
      device_wires = t.device_wires;
      link_wires = t.link_wires;
      to_device = t.to_device;
      to_link = t.to_link;
      step = step;
    } ∷ [])) ≡ wires_and w t
steps-and {A} {B} steps w t step is =
    let s : WireStep A B = record {
      device_wires = t.device_wires;
      link_wires = t.link_wires;
      to_device = t.to_device;
      to_link = t.to_link;
      step = step;
    } in
    four-wires (map-append (λ s. s.device_wires) steps (s ∷ []))
    (map-append (λ s. s.link_wires) steps (s ∷ []))
    (map-append (λ s. s.to_device) steps (s ∷ []))
    (map-append (λ s. s.to_link) steps (s ∷ []))
    ∙ ap (λ v. wires_and v t) is

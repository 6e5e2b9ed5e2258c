-- What is on the wires determines with which ticks a two-wire box drives them.
use Rattle.frame_ending.proofs.Longer.{length-line_of}
use Rattle.frame_ending.specs.{Longer.Extends, Walk.Walker, Walk.line_of}
use Rattle.line_rules.specs.{Rules.Rules, RulesLaws.IsLawful, RulesLaws.IsHeaded}
use Rattle.link_box.proofs.CheckCausality.{checker-extends}
use Rattle.link_box.specs.Checking.{checker, at_floor as check_floor, received_line}
use Rattle.link_box.specs.Timely.{IsTimely}
use Rattle.link_box.proofs.SealCausality.{sealer-extends}
use Rattle.link_box.specs.Sealing.{sealer, link_line, at_floor as seal_floor}
use Rattle.std.proofs.Common.{◌≡◌, ◌∙◌, ℕ, zero, suc, ◌≤◌, List, [], ◌∷◌, ◌++◌, length}
use Rattle.std.proofs.Common.{take, drop, get_or, refl, sym, ap, arith, ⊎_elim}
use Rattle.std.proofs.lemmas.Bool.{cases_lt}
use Rattle.std.proofs.lemmas.List.{take_all, take_at, take-take, length-take-le}
use Rattle.std.proofs.lemmas.List.{take-append-drop}
use Rattle.yasir_ticks.specs.Ticks.{silent}
use Rattle.yasir_ticks.specs.declared.tick.Tick.{Tick, TheVariants.Silent}
use Rattle.two_wire.specs.declared.gate.Waits.{Waits}
use Rattle.two_wire.specs.declared.gate.Side.{Side}
use Rattle.two_wire.specs.Gate.{GateState, gated, gate_after, lets, let_through, at_rest}
use Rattle.two_wire.specs.TwoWire.{EndSetup, EndWires, heard_device, heard_link, IsTwoWire}
use Rattle.two_wire.specs.Wires.{heard, hears, on_wires}
use Rattle.two_wire.proofs.Ends.{hears-long, on_wires-long}

-- If two lists have the same first ticks, they have the same first ticks of fewer.
take-less : (j k : ℕ) (x y : List Tick) → j ≤ k → take k x ≡ take k y → take j x ≡ take j y
take-less j k x y le same =
    sym (take-take j k x le) ∙ (ap (take j) same ∙ take-take j k y le)

-- ---- each part depends only on the ticks so far

take-hears : (k : ℕ) (own wires : List Tick)
    → take k (hears own wires) ≡ hears (take k own) (take k wires)
take-hears zero own wires = refl
take-hears (suc k) [] wires = refl
take-hears (suc k) (o ∷ own) [] = refl
take-hears (suc k) (o ∷ own) (w ∷ wires) = ap (λ l. heard o w ∷ l) (take-hears k own wires)

-- what a gate lets through depends on what was heard before
same-gated : (side : Side) (waits : Waits) (k : ℕ) (g : GateState) (s t hs ks : List Tick)
    → length hs ≡ length ks → take (suc k) s ≡ take (suc k) t → take k hs ≡ take k ks
    → take (suc k) (gated side waits g s hs) ≡ take (suc k) (gated side waits g t ks)
same-gated side waits k g [] [] hs ks long ticks heard = refl
same-gated side waits k g [] (y ∷ t) hs ks long ticks heard = absurd (cc)
same-gated side waits k g (x ∷ s) [] hs ks long ticks heard = absurd (cc)
same-gated side waits k g (x ∷ s) (y ∷ t) [] [] long ticks heard = refl
same-gated side waits k g (x ∷ s) (y ∷ t) [] (b ∷ ks) long ticks heard = absurd (omega arith)
same-gated side waits k g (x ∷ s) (y ∷ t) (a ∷ hs) [] long ticks heard = absurd (omega arith)
same-gated side waits zero g (x ∷ s) (y ∷ t) (a ∷ hs) (b ∷ ks) long ticks heard =
    let first : x ≡ y = ap (λ l. get_or l 0 Silent) ticks in
    ap (λ z. let_through z (lets side waits g) ∷ []) first
same-gated side waits (suc k) g (x ∷ s) (y ∷ t) (a ∷ hs) (b ∷ ks) long ticks heard =
    let first : x ≡ y = ap (λ l. get_or l 0 Silent) ticks in
    let said : a ≡ b = ap (λ l. get_or l 0 Silent) heard in
    let less : length hs ≡ length ks = omega arith in
    let rest = same-gated side waits k (gate_after side waits g x a) s t hs ks less
    (ap (drop 1) ticks) (ap (drop 1) heard) in
    ap (λ l. let_through x (lets side waits g) ∷ l) rest
    ∙ (ap (λ z. let_through z (lets side waits g)
    ∷ take (suc k) (gated side waits (gate_after side waits g z a) t ks)) first
    ∙ ap (λ z. let_through y (lets side waits g)
    ∷ take (suc k) (gated side waits (gate_after side waits g y z) t ks)) said)

silent-front : (late k : ℕ) (x y : List Tick) → take k x ≡ take k y
    → take k (silent late ++ x) ≡ take k (silent late ++ y)
silent-front zero k x y same = same
silent-front (suc late) zero x y same = refl
silent-front (suc late) (suc k) x y same =
    ap (λ l. Silent ∷ l) (silent-front late k x y (take-less k (suc k) x y (omega arith) same))

same-heard : (late k : ℕ) (x y : List Tick) → length x ≡ length y → take k x ≡ take k y
    → take k (on_wires late x) ≡ take k (on_wires late y)
same-heard late k x y long same =
    ⊎_elim
    (λ short.
    let whole : x ≡ y = sym (take_all k x (omega arith)) ∙ (same ∙ take_all k y (omega arith)) in
    ap (λ l. take k (on_wires late l)) whole)
    (λ enough.
    take-take k (length x) (silent late ++ x) (omega arith)
    ∙ (silent-front late k x y same
    ∙ sym (take-take k (length y) (silent late ++ y) (omega arith))))
    (cases_lt (length x) k)

module _ {S N : Type 0} (w : Walker S N) (s : S)
    (extends : (line more : List Tick) → Extends w s line more) where
  take-line : (k : ℕ) (line : List Tick) → k ≤ length line
      → take k (line_of w s line) ≡ line_of w s (take k line)
  take-line k line within =
      let parts : line ≡ take k line ++ drop k line = sym (take-append-drop k line) in
      let begins = (extends (take k line) (drop k line)).ticks in
      let long = length-take-le k line within in
      let made = length-line_of w s (take k line) in
      ap (λ l. take k (line_of w s l)) parts
      ∙ (ap (take k) begins.is ∙ take_at (line_of w s (take k line)) begins.rest k (omega arith))

  same-line-front : (k : ℕ) (x y : List Tick) → length x ≡ length y → take k x ≡ take k y
      → take k (line_of w s x) ≡ take k (line_of w s y)
  same-line-front k x y long same =
      ⊎_elim
      (λ short.
      let whole : x ≡ y = sym (take_all k x (omega arith)) ∙ (same ∙ take_all k y (omega arith)) in
      ap (λ l. take k (line_of w s l)) whole)
      (λ enough. take-line k x enough
      ∙ (ap (line_of w s) same ∙ sym (take-line k y (omega arith))))
      (cases_lt (length x) k)

-- later ticks depend on fewer
same-later : (late k : ℕ) (x y : List Tick) → length x ≡ length y → take k x ≡ take k y
    → take (suc k) (on_wires (suc late) x) ≡ take (suc k) (on_wires (suc late) y)
same-later late k x y long same =
    ⊎_elim
    (λ short.
    let whole : x ≡ y = sym (take_all k x (omega arith)) ∙ (same ∙ take_all k y (omega arith)) in
    ap (λ l. take (suc k) (on_wires (suc late) l)) whole)
    (λ enough.
    take-take (suc k) (length x) (silent (suc late) ++ x) (omega arith)
    ∙ (ap (λ l. Silent ∷ l) (silent-front late k x y same)
    ∙ sym (take-take (suc k) (length y) (silent (suc late) ++ y) (omega arith))))
    (cases_lt (length x) (suc k))

-- ---- the box

module _ (rules : Rules) (lawful : IsLawful rules) (headed : IsHeaded rules) (late : ℕ)
    (end : EndSetup) (late_is : end.late ≡ suc late) (timely : IsTimely end.incoming rules)
    (v w : EndWires) (one : IsTwoWire rules end v) (two : IsTwoWire rules end w)
    (device_same : v.device_wires ≡ w.device_wires) (link_same : v.link_wires ≡ w.link_wires) where
  -- Holds if both drive the wires alike in the first k ticks.
  record Alike (k : ℕ) : Type 0 where
    device : take k v.to_device ≡ take k w.to_device
    link : take k v.to_link ≡ take k w.to_link

  device-long : length (heard_device v) ≡ length (heard_device w)
  device-long =
      let a = hears-long v.to_device v.device_wires one.device_ticks in
      let b = hears-long w.to_device w.device_wires two.device_ticks in
      let c = one.device_ticks in
      let d = two.device_ticks in
      let e = ap length device_same in
      omega arith

  link-long : length (heard_link v) ≡ length (heard_link w)
  link-long =
      let a = hears-long v.to_link v.link_wires one.link_ticks in
      let b = hears-long w.to_link w.link_wires two.link_ticks in
      let c = one.link_ticks in
      let d = two.link_ticks in
      let e = ap length link_same in
      omega arith

  heard-device : (k : ℕ) → Alike k → take k (heard_device v) ≡ take k (heard_device w)
  heard-device k alike =
      take-hears k v.to_device v.device_wires
      ∙ (ap (λ l. hears l (take k v.device_wires)) alike.device
      ∙ (ap (λ l. hears (take k w.to_device) (take k l)) device_same
      ∙ sym (take-hears k w.to_device w.device_wires)))

  heard-link : (k : ℕ) → Alike k → take k (heard_link v) ≡ take k (heard_link w)
  heard-link k alike =
      take-hears k v.to_link v.link_wires
      ∙ (ap (λ l. hears l (take k v.link_wires)) alike.link
      ∙ (ap (λ l. hears (take k w.to_link) (take k l)) link_same
      ∙ sym (take-hears k w.to_link w.link_wires)))

  abbrev sent_of : EndWires → List Tick
  sent_of u = link_line end.outgoing rules end.sent_floor (heard_device u)

  abbrev made_of : EndWires → List Tick
  made_of u = received_line end.incoming rules end.got_floor (heard_link u)

  next-link : (k : ℕ) → Alike k → take (suc k) v.to_link ≡ take (suc k) w.to_link
  next-link k alike =
      let seal_long = length-line_of (sealer end.outgoing rules) (seal_floor end.sent_floor) in
      let a = seal_long (heard_device v) in
      let b = seal_long (heard_device w) in
      let c = device-long in
      ap (take (suc k)) (one.drives_lines.sent ∙ ap (λ n. on_wires n (sent_of v)) late_is)
      ∙ (same-later late k (sent_of v) (sent_of w) (omega arith)
      (same-line-front (sealer end.outgoing rules) (seal_floor end.sent_floor)
      (sealer-extends end.outgoing rules lawful (seal_floor end.sent_floor)) k (heard_device v)
      (heard_device w) device-long (heard-device k alike))
      ∙ sym (ap (take (suc k)) (two.drives_lines.sent ∙ ap (λ n. on_wires n (sent_of w)) late_is)))

  next-device : (k : ℕ) → Alike k → take (suc k) v.to_device ≡ take (suc k) w.to_device
  next-device k alike =
      let check_long = length-line_of (checker end.incoming rules) (check_floor end.got_floor) in
      let a = check_long (heard_link v) in
      let b = check_long (heard_link w) in
      let c = link-long in
      let heard_v : List Tick = on_wires end.lag (heard_device v) in
      let heard_w : List Tick = on_wires end.lag (heard_device w) in
      let d = on_wires-long end.lag (heard_device v) in
      let e = on_wires-long end.lag (heard_device w) in
      let f = device-long in
      let ticks : take (suc k) (on_wires end.late (made_of v))
      ≡ take (suc k) (on_wires end.late (made_of w)) =
      ap (λ n. take (suc k) (on_wires n (made_of v))) late_is
      ∙ (same-later late k (made_of v) (made_of w) (omega arith)
      (same-line-front (checker end.incoming rules) (check_floor end.got_floor)
      (checker-extends end.incoming rules lawful headed timely (check_floor end.got_floor)) k
      (heard_link v) (heard_link w) link-long (heard-link k alike))
      ∙ sym (ap (λ n. take (suc k) (on_wires n (made_of w))) late_is)) in
      ap (take (suc k)) one.drives_lines.given
      ∙ (same-gated end.side end.waits k at_rest (on_wires end.late (made_of v))
      (on_wires end.late (made_of w)) heard_v heard_w (omega arith) ticks
      (same-heard end.lag k (heard_device v) (heard_device w) device-long (heard-device k alike))
      ∙ sym (ap (take (suc k)) two.drives_lines.given))

  alike : (k : ℕ) → Alike k
  alike zero = record { device = refl; link = refl }
  alike (suc k) =
      let before = alike k in
      record { device = next-device k before; link = next-link k before }

  pub same-device : v.to_device ≡ w.to_device
  same-device =
      let a = one.device_ticks in
      let b = two.device_ticks in
      let e = ap length device_same in
      let n : ℕ = length v.to_device in
      sym (take_all n v.to_device (omega arith))
      ∙ ((alike n).device ∙ take_all n w.to_device (omega arith))

  pub same-link : v.to_link ≡ w.to_link
  same-link =
      let a = one.link_ticks in
      let b = two.link_ticks in
      let e = ap length link_same in
      let n : ℕ = length v.to_link in
      sym (take_all n v.to_link (omega arith))
      ∙ ((alike n).link ∙ take_all n w.to_link (omega arith))

-- A two-wire box that has rested goes on as one that has just begun with the floors that it has
-- reached.
use Rattle.frame_ending.proofs.{Longer.length-line_of}
use Rattle.frame_ending.proofs.Spread.{AreSpread, bursts-spread}
use Rattle.frame_ending.specs.{Laid.tick_at, Laid.laid, Laid.later, Walk.emitted_by}
use Rattle.line_rules.specs.{Rules.Rules, RulesLaws.IsLawful, RulesLaws.IsHeaded}
use Rattle.link_box.proofs.Apart.{emissions-spread}
use Rattle.link_box.specs.Checking.{checker, at_floor as check_floor, passed, received_line}
use Rattle.link_box.specs.Sealing.{sealed, link_line}
use Rattle.link_box.specs.Timely.{IsTimely}
use Rattle.link_format.specs.NumberedFrame.{last_number}
use Rattle.link_format.specs.Profile.{Profile, HasTags, delay, pause_len, trailer_len}
use Rattle.poll_laws.proofs.CheckingOn.{checks-on, passed-on, given-quiet}
use Rattle.poll_laws.proofs.GatesOn.{gated-front, AreDark, lets-all-too}
use Rattle.poll_laws.proofs.Resuming.{later-dark, tick_at-later}
use Rattle.poll_laws.proofs.SealingOn.{seals-on, sealed-on, sent-quiet}
use Rattle.poll_laws.specs.Rested.{EndsSilent, and_then, Before, begun, HasRested, frame_later, GoesOn}
use Rattle.poll_laws.specs.Rested.{GivesAll}
use Rattle.receiver_laws.proofs.{Parting.take-append-add}
use Rattle.receiver_laws.proofs.Standing.{ticks-front}
use Rattle.receiver_laws.specs.Recovery.{LackAtMost}
use Rattle.std.proofs.Common.{◌≡◌, ◌∙◌, inr, ⊎_elim, ℕ, zero, suc, ◌+◌, ◌-◌, ◌≤◌, ◌<◌}
use Rattle.std.proofs.Common.{List, [], ◌∷◌, ◌++◌, length, map, take, refl, sym, ap, subst, arith}
use Rattle.std.proofs.Common.{append_assoc, length-append, ◌&&◌, nat_le, nat_lt, false}
use Rattle.std.proofs.lemmas.Bool.{cases_lt}
use Rattle.std.proofs.lemmas.List.{length-replicate}
use Rattle.std.specs.List.{range_with_len}
use Rattle.two_wire.proofs.Ends.{on_wires-long}
use Rattle.two_wire.proofs.Gating.{on_wires-laid}
use Rattle.two_wire.specs.Gate.{GateState, gated, at_rest}
use Rattle.two_wire.specs.TwoWire.{EndSetup, EndWires, IsTwoWire, heard_device, heard_link}
use Rattle.two_wire.specs.Wires.{hears, on_wires}
use Rattle.two_wire.specs.declared.gate.Side.TheVariants.{Asks}
use Rattle.yasir_ticks.specs.{Bursts.Burst, Bursts.bursts, Bursts.end_of}
use Rattle.yasir_ticks.specs.{Ticks.silent, Ticks.AreTicks}
use Rattle.yasir_ticks.specs.declared.tick.Tick.{Tick, TheVariants.Silent}

-- ---- two lists, one after the other

hears-both : (own next wires behind : List Tick) → length own ≡ length wires
    → hears (own ++ next) (wires ++ behind) ≡ hears own wires ++ hears next behind
hears-both [] next [] behind same = refl
hears-both [] next (w ∷ wires) behind same = absurd (omega arith)
hears-both (o ∷ own) next [] behind same = absurd (omega arith)
hears-both (o ∷ own) next (w ∷ wires) behind same =
    ap (λ l. hears (o ∷ []) (w ∷ []) ++ l) (hears-both own next wires behind (omega arith))

-- What leaves n ticks later of two lists is what leaves of both, if the first one ends with n
-- silent ticks.
on_wires-both : (n : ℕ) (x y : List Tick) → EndsSilent n x
    → on_wires n (x ++ y) ≡ on_wires n x ++ on_wires n y
on_wires-both n x y ends =
    let a : List Tick = ends.front in
    let quiet = length-replicate n Silent in
    let long = length-append a (silent n) in
    let size = ap length ends.is in
    let all = length-append x y in
    let first = length-append (silent n) a in
    let sum : length (x ++ y) ≡ length (silent n ++ a) + length y = omega arith in
    let one : length x ≡ length (silent n ++ a) + 0 = omega arith in
    let shape : (z : List Tick) → silent n ++ (x ++ z) ≡ (silent n ++ a) ++ (silent n ++ z) =
    λ z. ap (λ l. silent n ++ (l ++ z)) ends.is
    ∙ (ap (λ l. silent n ++ l) (append_assoc a (silent n) z)
    ∙ sym (append_assoc (silent n) a (silent n ++ z))) in
    let alone : on_wires n x ≡ silent n ++ a =
    ap (λ i. take i (silent n ++ x)) one
    ∙ (ap (λ l. take (length (silent n ++ a) + 0) l)
    (ap (λ l. silent n ++ l) ends.is ∙ sym (append_assoc (silent n) a (silent n)))
    ∙ (take-append-add (silent n ++ a) (silent n) 0 ∙ nothing (silent n ++ a))) in
    ap (λ i. take i (silent n ++ (x ++ y))) sum
    ∙ (ap (λ l. take (length (silent n ++ a) + length y) l) (shape y)
    ∙ (take-append-add (silent n ++ a) (silent n ++ y) (length y)
    ∙ ap (λ l. l ++ on_wires n y) (sym alone)))
  where
    nothing : (l : List Tick) → l ++ [] ≡ l
    nothing [] = refl
    nothing (t ∷ l) = ap (λ m. t ∷ m) (nothing l)

-- ---- what leaves of a receiver that has just begun

outside : (a b i : ℕ) → i < a → (nat_le a i && nat_lt i b) ≡ false
outside a b i h = grind arith

spread-dark : (cut n i : ℕ) (es : List Burst) → AreSpread cut n es → i < n → tick_at es i ≡ Silent
unfolding tick_at
spread-dark cut n i [] spread before = refl
spread-dark cut n i (e ∷ es) spread before =
    let from : n ≤ e.start = spread.0 in
    let early : i < e.start = omega arith in
    rw (outside e.start (end_of e) i early)
    (spread-dark cut (end_of e + cut) i es spread.2 (omega arith))

laid-dark-first : (m : ℕ) (es : List Burst) → tick_at es 0 ≡ Silent → tick_at es 1 ≡ Silent
    → AreDark 2 (laid m es)
laid-dark-first zero es one two = tt
laid-dark-first (suc zero) es one two = subst (λ t. AreDark 2 (t ∷ [])) (sym one) tt
laid-dark-first (suc (suc m)) es one two =
    subst (λ t. AreDark 2 (t ∷ tick_at es 1 ∷ map (λ i. tick_at es i) (range_with_len 2 m))) (sym one)
    (subst (λ t. AreDark 1 (t ∷ map (λ i. tick_at es i) (range_with_len 2 m))) (sym two) tt)

module _ (profile : Profile) (rules : Rules) (lawful : IsLawful rules) (floor late : ℕ)
    (link : List Tick) where
  abbrev es : List Burst
  es = emitted_by (checker profile rules) (check_floor floor) (bursts link)

  first-dark : (i : ℕ) → i < 2 → tick_at (map (later late) es) i ≡ Silent
  first-dark i first =
      let wide : 2 ≤ delay profile = omega arith in
      let spread : AreSpread 2 (delay profile) es =
      emissions-spread profile rules lawful 2 (omega arith) wide (check_floor floor) 0
      (delay profile) (bursts link) (bursts-spread link) (omega arith) in
      ⊎_elim
      (λ before. later-dark late es i before)
      (λ (from : late ≤ i).
      let at : late + (i - late) ≡ i = omega arith in
      tick_at-later late es (i - late) i at
      ∙ spread-dark 2 (delay profile) (i - late) es spread (omega arith))
      (cases_lt i late)

  received-dark : AreDark 2 (on_wires late (received_line profile rules floor link))
  received-dark =
      let one : 0 < 2 = omega arith in
      let two : 1 < 2 = omega arith in
      subst (λ l. AreDark 2 l) (sym (on_wires-laid late (length link) es))
      (laid-dark-first (length link) (map (later late) es) (first-dark 0 one) (first-dark 1 two))

-- ---- a box goes on

module _ (rules : Rules) (lawful : IsLawful rules) (headed : IsHeaded rules) (most : ℕ)
    (lack : LackAtMost rules most) (end : EndSetup) (tags : HasTags end.outgoing)
    (timely : IsTimely end.incoming rules) (before : Before)
    (rested : HasRested rules most end before)
    (fits : end.side ≡ Asks → end.waits.pause ≤ end.waits.window) (w : EndWires)
    (is : IsTwoWire rules end w) (all : GivesAll rules end w) where
  abbrev first : EndWires
  first = before.wires

  -- what the box heard of the device before, and hears then
  abbrev x : List Tick
  x = heard_device first

  abbrev y : List Tick
  y = heard_device w

  -- what it heard of the link before, and hears then
  abbrev l : List Tick
  l = heard_link first

  abbrev m : List Tick
  m = heard_link w

  device-both : heard_device (and_then first w) ≡ x ++ y
  device-both = hears-both first.to_device w.to_device first.device_wires w.device_wires
      rested.box.device_ticks

  link-both : heard_link (and_then first w) ≡ l ++ m
  link-both = hears-both first.to_link w.to_link first.link_wires w.link_wires
      rested.box.link_ticks

  -- ---- the transmitter

  abbrev free_device : ℕ
  free_device = delay end.outgoing + 3

  sealed-now : end.sent_floor ≡ last_number before.sent_floor
      (sealed end.outgoing rules before.sent_floor (rested.free.front ++ silent free_device))
  sealed-now = rested.sent_floor
      ∙ ap (λ z. last_number before.sent_floor (sealed end.outgoing rules before.sent_floor z))
      rested.free.is

  sends-both : link_line end.outgoing rules before.sent_floor (x ++ y)
      ≡ link_line end.outgoing rules before.sent_floor x
      ++ link_line end.outgoing rules end.sent_floor y
  sends-both =
      subst (λ z. link_line end.outgoing rules before.sent_floor (z ++ y)
      ≡ link_line end.outgoing rules before.sent_floor z
      ++ link_line end.outgoing rules end.sent_floor y) (sym rested.free.is)
      (seals-on end.outgoing rules tags rested.free.front free_device before.sent_floor lawful
      (omega arith) end.sent_floor sealed-now y)

  sealed-both : sealed end.outgoing rules before.sent_floor (x ++ y)
      ≡ sealed end.outgoing rules before.sent_floor x
      ++ map (frame_later (length x)) (sealed end.outgoing rules end.sent_floor y)
  sealed-both =
      subst (λ z. sealed end.outgoing rules before.sent_floor (z ++ y)
      ≡ sealed end.outgoing rules before.sent_floor z
      ++ map (frame_later (length z)) (sealed end.outgoing rules end.sent_floor y))
      (sym rested.free.is)
      (sealed-on end.outgoing rules tags rested.free.front free_device before.sent_floor lawful
      (omega arith) end.sent_floor sealed-now y)

  sends-silent : EndsSilent end.late (link_line end.outgoing rules before.sent_floor x)
  sends-silent =
      let quiet = sent-quiet end.outgoing rules tags rested.sent.front
      (pause_len + trailer_len end.outgoing + end.late) before.sent_floor end.late (omega arith) in
      record {
        front = quiet.0;
        is = ap (λ z. link_line end.outgoing rules before.sent_floor z) rested.sent.is ∙ quiet.1;
      }

  link-sent : first.to_link ++ w.to_link ≡ on_wires end.late
      (link_line end.outgoing rules before.sent_floor (heard_device (and_then first w)))
  link-sent =
      ap (λ z. z ++ w.to_link) rested.box.drives_lines.sent
      ∙ (ap (λ z. on_wires end.late (link_line end.outgoing rules before.sent_floor x) ++ z)
      is.drives_lines.sent
      ∙ (sym (on_wires-both end.late (link_line end.outgoing rules before.sent_floor x)
      (link_line end.outgoing rules end.sent_floor y) sends-silent)
      ∙ ap (on_wires end.late) (sym sends-both
      ∙ ap (λ z. link_line end.outgoing rules before.sent_floor z) (sym device-both))))

  -- ---- the receiver

  abbrev quiet_link : ℕ
  quiet_link = delay end.incoming + most + end.late

  passed-now : end.got_floor ≡ last_number before.got_floor
      (passed end.incoming rules before.got_floor (rested.received.front ++ silent quiet_link))
  passed-now = rested.got_floor
      ∙ ap (λ z. last_number before.got_floor (passed end.incoming rules before.got_floor z))
      rested.received.is

  link-ticks : AreTicks rested.received.front
  link-ticks = ticks-front rested.received.front (silent quiet_link)
      (subst (λ z. AreTicks z) rested.received.is rested.link_bytes)

  gives-both : received_line end.incoming rules before.got_floor (l ++ m)
      ≡ received_line end.incoming rules before.got_floor l
      ++ received_line end.incoming rules end.got_floor m
  gives-both =
      subst (λ z. received_line end.incoming rules before.got_floor (z ++ m)
      ≡ received_line end.incoming rules before.got_floor z
      ++ received_line end.incoming rules end.got_floor m) (sym rested.received.is)
      (checks-on end.incoming rules lawful headed timely most lack rested.received.front link-ticks
      quiet_link (omega arith) before.got_floor end.got_floor passed-now m)

  passed-both : passed end.incoming rules before.got_floor (l ++ m)
      ≡ passed end.incoming rules before.got_floor l
      ++ map (frame_later (length l)) (passed end.incoming rules end.got_floor m)
  passed-both =
      subst (λ z. passed end.incoming rules before.got_floor (z ++ m)
      ≡ passed end.incoming rules before.got_floor z
      ++ map (frame_later (length z)) (passed end.incoming rules end.got_floor m))
      (sym rested.received.is)
      (passed-on end.incoming rules lawful headed timely most lack rested.received.front link-ticks
      quiet_link (omega arith) before.got_floor end.got_floor passed-now m)

  abbrev r : List Tick
  r = received_line end.incoming rules before.got_floor l

  abbrev s : List Tick
  s = received_line end.incoming rules end.got_floor m

  gives-silent : EndsSilent end.late r
  gives-silent =
      let quiet = given-quiet end.incoming rules lawful headed timely most lack
      rested.received.front link-ticks quiet_link (omega arith) before.got_floor end.got_floor
      passed-now end.late (omega arith) in
      record {
        front = quiet.0;
        is = ap (λ z. received_line end.incoming rules before.got_floor z) rested.received.is ∙ quiet.1;
      }

  -- ---- the gate

  abbrev gates : GateState → List Tick → List Tick → List Tick
  gates g ticks others = gated end.side end.waits g ticks others

  through : gates at_rest (on_wires end.late s) (on_wires end.lag y) ≡ on_wires end.late s
  through = sym is.drives_lines.given ∙ all

  device-given : first.to_device ++ w.to_device
      ≡ gates at_rest (on_wires end.late (received_line end.incoming rules before.got_floor
      (heard_link (and_then first w)))) (on_wires end.lag (heard_device (and_then first w)))
  device-given =
      let a = on_wires-long end.late r in
      let b = on_wires-long end.lag x in
      let c = length-line_of (checker end.incoming rules) (check_floor before.got_floor) l in
      let same = rested.box.drives_lines.same_ticks in
      let long : length (on_wires end.late r) ≡ length (on_wires end.lag x) = omega arith in
      let on = gated-front end.side end.waits at_rest (on_wires end.late r) (on_wires end.late s)
      (on_wires end.lag x) (on_wires end.lag y) long in
      let then : gates on.0 (on_wires end.late s) (on_wires end.lag y) ≡ on_wires end.late s =
      lets-all-too end.side end.waits fits 2 at_rest on.0 (on_wires end.late s)
      (on_wires end.lag y) (inr (0, refl, omega arith)) (inr (omega arith, omega arith))
      (received-dark end.incoming rules lawful end.got_floor end.late m) through in
      ap (λ z. z ++ w.to_device) rested.box.drives_lines.given
      ∙ (ap (λ z. gates at_rest (on_wires end.late r) (on_wires end.lag x) ++ z) (all ∙ sym then)
      ∙ (sym on.1
      ∙ (ap (λ z. gates at_rest z (on_wires end.lag x ++ on_wires end.lag y))
      (sym (on_wires-both end.late r s gives-silent)
      ∙ ap (on_wires end.late) (sym gives-both
      ∙ ap (λ z. received_line end.incoming rules before.got_floor z) (sym link-both)))
      ∙ ap (λ z. gates at_rest (on_wires end.late (received_line end.incoming rules
      before.got_floor (heard_link (and_then first w)))) z)
      (sym (on_wires-both end.lag x y rested.lagged)
      ∙ ap (on_wires end.lag) (sym device-both)))))

  -- ---- all of it

  box-on : IsTwoWire rules (begun end before) (and_then first w)
  box-on =
      let a = length-append first.to_device w.to_device in
      let b = length-append first.device_wires w.device_wires in
      let c = length-append first.to_link w.to_link in
      let d = length-append first.link_wires w.link_wires in
      let e = ap length device-both ∙ length-append x y in
      let f = ap length link-both ∙ length-append l m in
      let p = rested.box.device_ticks in
      let q = rested.box.link_ticks in
      let u = is.device_ticks in
      let v = is.link_ticks in
      let pp = rested.box.drives_lines.device_ticks in
      let qq = rested.box.drives_lines.link_ticks in
      let ss = rested.box.drives_lines.same_ticks in
      let uu = is.drives_lines.device_ticks in
      let vv = is.drives_lines.link_ticks in
      let tt_ = is.drives_lines.same_ticks in
      record {
        device_ticks = omega arith;
        link_ticks = omega arith;
        drives_lines = record {
          device_ticks = omega arith;
          link_ticks = omega arith;
          same_ticks = omega arith;
          sent = link-sent;
          given = device-given;
        };
      }

  pub goes-on : GoesOn rules end before w
  goes-on = record {
    box = box-on;
    seals = ap (λ z. sealed end.outgoing rules before.sent_floor z) device-both ∙ sealed-both;
    passes = ap (λ z. passed end.incoming rules before.got_floor z) link-both ∙ passed-both;
  }

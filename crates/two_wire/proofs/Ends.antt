-- What a two-wire box gives to its device.
use Rattle.frame_ending.proofs.Longer.{length-line_of}
use Rattle.frame_ending.proofs.Spread.{AreSpread, bursts-spread}
use Rattle.frame_ending.specs.{Laid.laid, Laid.later, Walk.emitted_by}
use Rattle.line_rules.specs.{Rules.Rules, RulesLaws.IsLawful}
use Rattle.link_format.specs.Profile.{delay}
use Rattle.link_box.proofs.Apart.{emissions-spread}
use Rattle.link_box.specs.Checking.{checker, at_floor as check_floor, received_line}
use Rattle.std.proofs.Common.{◌≡◌, ◌∙◌, ℕ, ◌≤◌, List, [], ◌∷◌, length, map, refl, sym, ap, subst}
use Rattle.std.proofs.Common.{arith, drop, get_or, ◌++◌, length-append}
use Rattle.std.proofs.lemmas.List.{length-take-le}
use Rattle.yasir_ticks.specs.{Bursts.Burst, Bursts.bursts, Ticks.silent}
use Rattle.yasir_ticks.specs.declared.tick.Tick.{Tick, TheVariants.Silent, TheVariants.Byte}
use Rattle.device_model.specs.Frames.{FrameRead}
use Rattle.two_wire.specs.Gate.{gated, at_rest}
use Rattle.two_wire.specs.Given.{GivesSome, ReadsSealed}
use Rattle.two_wire.specs.Turns.{AreWithin}
use Rattle.two_wire.specs.declared.gate.Side.{Side}
use Rattle.two_wire.specs.declared.gate.Waits.{Waits}
use Rattle.two_wire.specs.TwoWire.{EndSetup, EndLines, EndWires, heard_device, heard_link, heard_lines}
use Rattle.two_wire.specs.TwoWire.{IsFourWire, IsTwoWire, KeepTurns, KeepTurnsDeafly, HearEachOther}
use Rattle.two_wire.specs.TwoWire.{ReadsOnlySealed, ReadsOnlySealedApart}
use Rattle.two_wire.specs.Wires.{hears, drives, on_wires, AreApart}
use Rattle.two_wire.proofs.Giving.{same-is, later-some-spread}
use Rattle.two_wire.proofs.Gating.{gives-laid, gives-long, on_wires-laid, some-later}
use Rattle.two_wire.proofs.Keeping.{AreHeard, stays-apart, talks-deafly}
use Rattle.two_wire.proofs.Sharing.{hears-other, hears-own, hears-deafly, hears-apart, are-heard}
use Rattle.two_wire.proofs.Sharing.{all-heard}

pub hears-long : (own wires : List Tick) → length own ≡ length wires
    → length (hears own wires) ≡ length own
hears-long [] [] same = refl
hears-long [] (w ∷ ws) same = absurd (omega arith)
hears-long (o ∷ os) [] same = absurd (omega arith)
hears-long (o ∷ os) (w ∷ ws) same =
    let rest = hears-long os ws (omega arith) in omega arith

pub on_wires-long : (late : ℕ) (x : List Tick) → length (on_wires late x) ≡ length x
on_wires-long late x =
    let sum = length-append (silent late) x in
    length-take-le (length x) (silent late ++ x) (omega arith)

pub gated-long : (side : Side) (waits : Waits) (lag : ℕ) (ticks others : List Tick)
    → length ticks ≡ length others
    → length (gated side waits at_rest ticks (on_wires lag others)) ≡ length others
gated-long side waits lag ticks others same =
    let long = on_wires-long lag others in
    gives-long side waits at_rest ticks (on_wires lag others) (omega arith) ∙ same

module _ (rules : Rules) (lawful : IsLawful rules) (end : EndSetup) (l : EndLines)
    (is : IsFourWire rules end l) where
  -- What leaves to the device is some of the receiver's bursts.
  pub end-gives : GivesSome end.incoming rules end.got_floor end.late l.from_link l.to_device
  end-gives =
      let link : List Tick = l.from_link in
      let m : ℕ = length link in
      let es : List Burst =
      emitted_by (checker end.incoming rules) (check_floor end.got_floor) (bursts link) in
      let xs : List Burst = map (later end.late) es in
      let wide : 2 ≤ delay end.incoming = omega arith in
      let spread : AreSpread 2 0 xs =
      later-some-spread 2 end.late (same-is es)
      (emissions-spread end.incoming rules lawful 2 (omega arith) wide (check_floor end.got_floor) 0 0
      (bursts link) (bursts-spread link) (omega arith)) in
      let heard : List Tick = on_wires end.lag l.from_device in
      let a = is.same_ticks in
      let long = on_wires-long end.lag l.from_device in
      let gives = gives-laid end.side end.waits at_rest m heard xs (omega arith) (omega arith) spread in
      let some = some-later end.late gives.given es gives.among in
      record {
        bursts_given = some.0;
        among = some.1;
        is = is.given
            ∙ (ap (λ x. gated end.side end.waits at_rest x heard) (on_wires-laid end.late m es)
            ∙ (gives.is ∙ ap (λ x. laid m x) some.2));
      }

-- ---- the box talks apart from all that keep the turns

module _ (rules : Rules) (end : EndSetup) (l : EndLines) (is : IsFourWire rules end l) where
  -- the box never talks while one is deaf in turn, if it hears what the others say
  pub deaf-apart : (others deaf : List Tick) → AreHeard l.to_device others l.from_device
      → KeepTurnsDeafly end l.to_device others deaf → AreApart l.to_device deaf
  deaf-apart others deaf heard deafly =
      let turns = deafly.turns in
      let made : List Tick = received_line end.incoming rules end.got_floor l.from_link in
      let a = is.device_ticks in
      let b = is.same_ticks in
      let c = turns.same_ticks in
      let e = deafly.deaf_ticks in
      let d = on_wires-long end.late made in
      let f = length-line_of (checker end.incoming rules) (check_floor end.got_floor) l.from_link in
      stays-apart end.side turns.kept end.waits end.lag turns.covers turns.before l.to_device
      (on_wires end.late made) others deaf l.from_device is.given (omega arith) (omega arith)
      (omega arith) turns.in_turn deafly.deaf_in_turn heard

  pub others-apart : (others : List Tick) → AreHeard l.to_device others l.from_device
      → KeepTurns end l.to_device others → AreApart l.to_device others
  others-apart others heard turns = deaf-apart others others heard (record {
    turns = turns;
    deaf_ticks = refl;
    deaf_in_turn = talks-deafly end.side turns.kept end.waits end.lag turns.covers turns.before
        l.to_device others turns.in_turn;
  })

-- ---- on two wires

module _ (rules : Rules) (end : EndSetup) (w : EndWires) (is : IsTwoWire rules end w)
    (others : List Tick) (wires_are : w.device_wires ≡ drives w.to_device others) where
  heard-are : length others ≡ length w.to_device → AreHeard w.to_device others (heard_device w)
  heard-are same = subst (λ x. AreHeard w.to_device others (hears w.to_device x)) (sym wires_are)
      (are-heard w.to_device others (sym same))

  box-apart : KeepTurns end w.to_device others → AreApart w.to_device others
  box-apart turns = others-apart rules end (heard_lines w) is.drives_lines others
      (heard-are turns.same_ticks) turns

  pub hear-each-other : KeepTurns end w.to_device others → HearEachOther w others
  hear-each-other turns = record {
    apart = box-apart turns;
    device_hears = ap (λ l. hears others l) wires_are
        ∙ hears-own w.to_device others (box-apart turns);
    box_hears = ap (λ l. hears w.to_device l) wires_are
        ∙ hears-other w.to_device others (box-apart turns);
  }

  -- one that is deaf in turn hears just what the box says
  pub hear-deafly : (deaf : List Tick) → AreWithin others deaf
      → KeepTurnsDeafly end w.to_device others deaf → hears deaf w.device_wires ≡ w.to_device
  hear-deafly deaf within deafly =
      ap (λ l. hears deaf l) wires_are
      ∙ hears-deafly w.to_device others deaf
      (deaf-apart rules end (heard_lines w) is.drives_lines others deaf
      (heard-are deafly.turns.same_ticks) deafly)
      (box-apart deafly.turns) within

-- What is read of what a box says is read of what its device hears, if the turns are kept.
module _ (rules : Rules) (lawful : IsLawful rules) (reads : List Tick → List FrameRead)
    (end : EndSetup) (seal_floor : ℕ) (line : List Tick)
    (of_given : (link given : List Tick)
    → GivesSome end.incoming rules end.got_floor end.late link given
    → ReadsSealed rules reads end.incoming seal_floor end.got_floor line link given) where
  pub reads-only-sealed : (w : EndWires) → IsTwoWire rules end w
      → ReadsOnlySealed rules reads end w seal_floor line
  reads-only-sealed w is =
      let Q : List Tick → Type 0 =
      λ l. ReadsSealed rules reads end.incoming seal_floor end.got_floor line (heard_link w) l in
      let of_box : Q w.to_device = of_given (heard_link w) w.to_device
      (end-gives rules lawful end (heard_lines w) is.drives_lines) in
      record {
        said = of_box;
        heard = λ others shares. subst Q
            (sym (hear-each-other rules end w is others shares.wires_are shares.turns).device_hears)
            of_box;
        deaf_too = λ others deaf beside. subst Q
            (sym (hear-deafly rules end w is others beside.wires_are deaf beside.while_they_talk
            beside.deafly)) of_box;
      }

  pub reads-only-sealed-apart : (l : EndLines) → IsFourWire rules end l
      → ReadsOnlySealedApart rules reads end l seal_floor line
  reads-only-sealed-apart l is =
      let Q : List Tick → Type 0 =
      λ x. ReadsSealed rules reads end.incoming seal_floor end.got_floor line l.from_link x in
      let of_box : Q l.to_device =
      of_given l.from_link l.to_device (end-gives rules lawful end l is) in
      record {
        said = of_box;
        deaf_too = λ deaf deafly. subst Q
            (sym (hears-apart l.to_device deaf (deaf-apart rules end l is l.from_device deaf
            (all-heard l.to_device l.from_device is.device_ticks) deafly))) of_box;
      }

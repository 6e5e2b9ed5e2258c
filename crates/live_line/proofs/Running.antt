-- One way of a live line as a consumer of ticks.
use Rattle.line_commands.specs.BoxLinesLaws.{floor_from_later}
use Rattle.line_commands.specs.declared.{port.Output.Output, port.Port.Ghosts as Port}
use Rattle.live_line.proofs.HandingBoth.{grown_own, grown_other}
use Rattle.live_line.proofs.Waiting.{port_same}
use Rattle.live_line.specs.BothWays.{grown, HandedBoth}
use Rattle.live_line.specs.WayLines.{WayOutside, way_outside, KeepsImages, PortKept, HandsOn, MayTake}
use Rattle.live_line.specs.WayLines.{TakesTick, IsAhead, StandsOver, HasTakenOn, HandedOn}
use Rattle.live_line.specs.WayLines.{HandedFronts, way_in, kept_in, settled_in, floor_in, most_in}
use Rattle.live_line.specs.WayLines.{link_in, MayHandOn}
use Rattle.live_line.specs.WayRuns.{WayOrigin, WayStands, WayHanded, WayStops, IsAbleWay, WayWent}
use Rattle.live_line.specs.WayRuns.{way_filtering, HandsAll, StopsAtSettle, StopsAtWrite}
use Rattle.live_line.specs.declared.way_box.WayBox.{Ghosts as WayBox}
use Rattle.live_line.specs.declared.way_lines.WayLines.{WayLines}
use Rattle.live_line.specs.declared.ways.Way.{Way}
use Rattle.link_format.specs.Setup.{Setup}
use Rattle.sequence_journal.proofs.SlotLemmas.{if_some_weaker}
use Rattle.sequence_journal.specs.Ahead.{ahead_disk, ahead_number, ahead_floor, ahead_by, StandsAhead}
use Rattle.sequence_journal.specs.Journal.{HasFloorFrom}
use Rattle.sequence_journal.specs.Late.{HasFloorBetween}
use Rattle.sequence_journal.specs.Slots.{floor_of}
use Rattle.sequence_journal.specs.declared.{ahead.AheadJournal.AheadJournal, link.LinkId.LinkId}
use Rattle.std.proofs.Common.{◌≡◌, ◌≢◌, ◌∙◌, ℕ, ◌+◌, ◌≤◌, List, [], ◌∷◌, ◌++◌, Ok, Err, Option, Some}
use Rattle.std.proofs.Common.{None, refl, ap, sym, subst, arith, Bool, true, false, IfSome, IsSomeAnd}
use Rattle.std.proofs.Common.{inl, append_assoc, Result, drop, take, map, length, ◌<◌}
use Rattle.std.proofs.Math.Nat.{le_refl, le_trans}
use Rattle.tick_drive.proofs.Causes.{disk_none, disk_then}
use Rattle.tick_drive.proofs.ItemLaws.{ticks_in-append}
use Rattle.tick_drive.proofs.Moving.{gives_items, gives_front}
use Rattle.tick_drive.specs.Consumers.{IsNoneDone, AreJoined, Gives, GivesFirst, is_journal_fault, is_write_fault}
use Rattle.tick_drive.specs.declared.consumer.Stop.{Stop}
use Rattle.tick_drive.specs.declared.consumer.Stop.TheVariants.{WriteFault, JournalFault, NoMemory}
use Rattle.yasir_io.proofs.Moments.{leaves_then, leaves_weaker}
use Rattle.yasir_io.specs.Causes.{Rose}
use Rattle.yasir_io.specs.Disks.{Slots}
use Rattle.yasir_io.specs.declared.disk.SlotDisk.{Ghosts as SlotDisk}
use Rattle.yasir_ticks.proofs.TickRuns.{items_of_ticks, ticks_in-run}
use Rattle.yasir_ticks.specs.declared.TheConstants.{MAX_TICKS}
use Rattle.yasir_ticks.specs.TickRun.{run_ticks, run_items}
use Rattle.yasir_ticks.specs.Ticks.{Item, ticks_in, Item.tick}
use Rattle.yasir_ticks.specs.declared.tick.Tick.{Tick}
use Rattle.yasir_ticks.specs.declared.tick_run.TickRun.{TickRun}

widen : (low high a b : ℕ) → a ≤ low → high ≤ b → (floor : Option ℕ)
    → IsSomeAnd floor (λ n. (low ≤ n) × (n ≤ high)) → IsSomeAnd floor (λ n. (a ≤ n) × (n ≤ b))
widen low high a b below above None has = has
widen low high a b below above (Some n) has = (le_trans below has.0, le_trans has.1 above)

-- what has a floor between numbers has one between numbers that lie further apart
pub between_as : (slots : Slots) (link other : LinkId) (low high a b : ℕ) → other ≡ link → a ≤ low
    → high ≤ b → HasFloorBetween link low high slots → HasFloorBetween other a b slots
between_as slots link other low high a b same below above has =
    subst (λ l. HasFloorBetween l a b slots) (sym same)
    (widen low high a b below above (floor_of link slots) has)

-- ---- what calls do to the images of a disk and to the counts of faults

module _ {D : Type 0} (d : SlotDisk D) where
  pub images_none : ((disk : D) (c : Slots) → d.left_since disk (d.moment disk) c
      → d.may_leave disk c) → (at : AheadJournal) (disk : D) → KeepsImages d at at disk disk
  images_none only_now at disk = record {
    link = refl;
    most = refl;
    settles = le_refl _;
    rises = le_refl _;
    is_kept = λ kept. kept;
    any_moment = λ kept. record {
      later = le_refl _;
      each = λ c left. kept.floors c (only_now disk c left);
      before = λ t c le left. inl left;
    };
  }

  pub images_then : (a b c : AheadJournal) (x y z : D) → KeepsImages d a b x y
      → KeepsImages d b c y z → KeepsImages d a c x z
  images_then a b c x y z first second = record {
    link = second.link ∙ first.link;
    most = second.most ∙ first.most;
    settles = le_trans first.settles second.settles;
    rises = le_trans first.rises second.rises;
    is_kept = λ kept. second.is_kept (first.is_kept kept);
    any_moment = λ kept. leaves_then d.moment d.left_since x y z _ (first.any_moment kept)
        (leaves_weaker d.moment d.left_since y z (HasFloorFrom (ahead_disk b))
        (HasFloorFrom (ahead_disk a)) (floor_from_later (ahead_disk a) (ahead_disk b) first.link
        first.rises) (second.any_moment (first.is_kept kept)));
  }

module _ {P : Type 0} (p : Port P) where
  pub port_then : (a b c : P) (is_cause : Bool) → PortKept p a b false → PortKept p b c is_cause
      → PortKept p a c is_cause
  port_then a b c is_cause first then = record {
    left_same = then.left_same ∙ first.left_same;
    read_same = then.read_same ∙ first.read_same;
    same = λ e to. then.same e to ∙ first.same refl to;
    failed = λ e. let at = then.failed e in (
      at.0,
      subst (λ n. Rose n (p.write_faults c at.0)) (first.same refl at.0) at.1,
    );
  }

module _ {X P D : Type 0} (x : WayBox X) (p : Port P) (d : SlotDisk D) (way : Way) where
  pub way-none : ((disk : D) (c : Slots) → d.left_since disk (d.moment disk) c → d.may_leave disk c)
      → IsNoneDone (way_filtering x p d way)
  way-none only_now at able = record {
    images = images_none d only_now (kept_in at.lines) at.disk;
    disk = disk_none (d.faults at.disk);
    port = port_same p at.port;
  }

  pub way-then : AreJoined (way_filtering x p d way)
  way-then a b c result first second = record {
    images = images_then d (kept_in a.lines) (kept_in b.lines) (kept_in c.lines) a.disk b.disk c.disk
        first.images second.images;
    disk = disk_then (d.faults a.disk) (d.faults b.disk) (d.faults c.disk) (is_journal_fault result)
        first.disk second.disk;
    port = port_then p a.port b.port c.port (is_write_fault result) first.port second.port;
  }

  -- ---- handing on

  module _ (old new : WayOutside X P D) (ahead : IsAhead old.lines)
      (number_is : (value : X) (setup : Setup) (line : List Tick) → x.stands value setup line
      → x.number value ≡ x.number_for setup line) where
    handed_of : HandsOn x p d way old new (Ok tt) → (origin : WayOrigin) (line : List Tick)
        → WayStands x p d way old origin line → WayHanded x p d way new origin line
    handed_of hands origin line stands =
        let on = hands.handed origin.made origin.start origin.read stands.early origin.setup line
        stands.makes stands.handed stands.taken in
        let own : grown stands.early way on.later way ≡ line =
        grown_own stands.early way on.later ∙ sym on.is in
        record {
          stands = record {
            makes = stands.makes;
            early = grown stands.early way on.later;
            others = λ other apart. grown_other stands.early way on.later other apart
                ∙ stands.others other apart;
            handed = on.handed;
            taken = subst (λ l. HasTakenOn x new.lines origin.setup l line) (sym own) on.taken;
          };
          all = own;
        }

    stopped_of : (stop : Stop) → HandsOn x p d way old new (Err stop) → (origin : WayOrigin)
        (line : List Tick) → WayStands x p d way old origin line
        → WayStops x p d way new stop origin line
    stopped_of WriteFault hands origin line stands =
        let on = hands.stops origin.made origin.start origin.read stands.early origin.setup line
        stands.makes stands.handed stands.taken in
        record {
          lines = grown stands.early way on.later;
          is = grown_own stands.early way on.later ∙ sym on.is;
          others = λ other apart. grown_other stands.early way on.later other apart
              ∙ stands.others other apart;
          fronts = on.fronts;
          settled = on.settled;
          ahead = hands.ahead ahead refl;
          stands = hands.stands refl;
        }
    stopped_of JournalFault hands origin line stands =
        let used = number_is (way_in old.lines) origin.setup line stands.taken.stood in
        let settled = stands.taken.settled in
        record {
          early = stands.early;
          later = stands.taken.later;
          is = stands.taken.is;
          others = stands.others;
          handed = subst (λ port. HandedBoth origin.made origin.start (p.history port) origin.read
              stands.early) (sym hands.stops.0) stands.handed;
          reached = omega (arith, settled, ahead.covers, hands.images.rises);
          floors = if_some_weaker (HasFloorBetween (link_in old.lines) (floor_in old.lines)
              (x.number (way_in old.lines) + most_in old.lines))
              (HasFloorBetween (link_in new.lines) (x.number_for origin.setup (stands.early way))
              (x.number_for origin.setup line + most_in new.lines)) (d.told new.disk)
              (λ slots has. between_as slots (link_in old.lines) (link_in new.lines) _ _ _ _
              hands.images.link (omega (arith, settled, ahead.covers))
              (omega (arith, used, hands.images.most)) has) hands.stops.1;
        }
    stopped_of NoMemory hands origin line stands = hands.stops

    pub hands_all : (result : Result (Unit {0}) Stop) → HandsOn x p d way old new result
        → HandsAll x p d way old new result
    hands_all (Ok tt) hands = record {
      taken = hands.counted;
      handed = handed_of hands;
      stopped = tt;
      settled = hands.settled refl ∙ sym hands.number;
      able = record {
        may = hands.may;
        ahead = hands.ahead ahead refl;
        stands = hands.stands refl;
      };
      went = record { images = hands.images; disk = hands.disk; port = hands.port };
    }
    hands_all (Err stop) hands = record {
      taken = hands.counted;
      handed = tt;
      stopped = stopped_of stop hands;
      settled = tt;
      able = tt;
      went = record { images = hands.images; disk = hands.disk; port = hands.port };
    }

  -- ---- a tick

  module _ (old mid : WayLines X) (port : P) (disk : D) (t : Tick) (takes : TakesTick x old mid t)
    where
      abbrev at_old : WayOutside X P D
      at_old = way_outside old port disk

      abbrev at_mid : WayOutside X P D
      at_mid = way_outside mid port disk

      still_ahead : IsAhead old → IsAhead mid
      still_ahead ahead = record {
        covers = omega (arith, ahead.covers, ap ahead_number takes.kept, ap ahead_floor takes.kept);
        within = omega (
          arith,
          ahead.within,
          ap ahead_number takes.kept,
          ap ahead_floor takes.kept,
          ap ahead_by takes.kept,
        );
      }

      pub tick_ahead : IsAhead old → IsAhead mid
      tick_ahead = still_ahead

      pub tick_stands : StandsOver old (d.told disk) → StandsOver mid (d.told disk)
      tick_stands stands = subst (λ kept. StandsAhead kept (d.told disk)) (sym takes.kept) stands

      tick_moves : (origin : WayOrigin) (items : List Item)
          → WayStands x p d way at_old origin (ticks_in items)
          → WayStands x p d way at_mid origin (ticks_in (items ++ tick t ∷ []))
      tick_moves origin items stands =
          subst (WayStands x p d way at_mid origin) (sym (ticks_in-append items (tick t ∷ [])))
          (record {
            makes = stands.makes;
            early = stands.early;
            others = stands.others;
            handed = stands.handed;
            taken = takes.takes origin.setup (stands.early way) (ticks_in items) stands.taken;
          })

      images_kept : ((disk : D) (c : Slots) → d.left_since disk (d.moment disk) c
          → d.may_leave disk c) → KeepsImages d (kept_in old) (kept_in mid) disk disk
      images_kept only_now = subst (λ kept. KeepsImages d (kept_in old) kept disk disk) (sym takes.kept)
          (images_none d only_now (kept_in old) disk)

      pub tick_given : ((disk : D) (c : Slots) → d.left_since disk (d.moment disk) c
          → d.may_leave disk c) → IsAbleWay x p d way at_old → MayTake x mid
          → Gives (way_filtering x p d way) at_old at_mid (tick t ∷ []) (Ok tt)
      tick_given only_now able may = record {
        moved = tick_moves;
        stopped = tt;
        counted = takes.counted;
        is_able = record {
          may = may;
          ahead = still_ahead able.ahead;
          stands = tick_stands able.stands;
        };
        went = record {
          images = images_kept only_now;
          disk = disk_none (d.faults disk);
          port = port_same p port;
        };
      }

      pub tick_handed : (new : WayOutside X P D) (result : Result (Unit {0}) Stop)
          → ((disk : D) (c : Slots) → d.left_since disk (d.moment disk) c → d.may_leave disk c)
          → HandsAll x p d way at_mid new result
          → Gives (way_filtering x p d way) at_old new (tick t ∷ []) result
      tick_handed new (Ok tt) only_now hands = record {
        moved = λ origin items stands.
            (hands.handed origin (ticks_in (items ++ tick t ∷ [])) (tick_moves origin items stands)).stands;
        stopped = tt;
        counted = hands.taken ∙ takes.counted;
        is_able = hands.able;
        went = way-then at_old at_mid new (Ok tt) (record {
          images = images_kept only_now;
          disk = disk_none (d.faults disk);
          port = port_same p port;
        }) hands.went;
      }
      tick_handed new (Err stop) only_now hands = record {
        moved = tt;
        stopped = record {
          place = 0;
          within = omega arith;
          at = λ origin items stands. hands.stopped origin (ticks_in (items ++ tick t ∷ []))
              (tick_moves origin items stands);
        };
        counted = tt;
        is_able = tt;
        went = way-then at_old at_mid new (Err stop) (record {
          images = images_kept only_now;
          disk = disk_none (d.faults disk);
          port = port_same p port;
        }) hands.went;
      }

-- the first tick of a run, as the first of its items
pub first_item : (run : TickRun) (t : Tick) → run_ticks run ≡ t ∷ drop 1 (run_ticks run)
    → run_items run ≡ tick t ∷ drop 1 (run_items run)
first_item run t is = items_of_ticks run ∙ (ap (map tick) is
    ∙ ap (λ l. tick t ∷ l) (map-drop (run_ticks run) ∙ ap (drop 1) (sym (items_of_ticks run))))
  where
    map-drop : (ticks : List Tick) → map tick (drop 1 ticks) ≡ drop 1 (map tick ticks)
    map-drop [] = refl
    map-drop (u ∷ ticks) = refl

-- a run of at least one tick has room for the first one
pub counts_one : (run : TickRun) (t : Tick) → run_ticks run ≡ t ∷ drop 1 (run_ticks run)
    → (taken : ℕ) → taken + length (ticks_in (run_items run)) ≤ MAX_TICKS → taken < MAX_TICKS
counts_one run t is taken room =
    omega (arith, room, ap length (ticks_in-run run), ap length is)

module _ {X P D : Type 0} (x : WayBox X) (p : Port P) (d : SlotDisk D) (way : Way)
    (old new : WayOutside X P D) (run : TickRun) (t : Tick)
    (is : run_ticks run ≡ t ∷ drop 1 (run_ticks run)) where
  front_is : tick t ∷ [] ≡ take 1 (run_items run)
  front_is = sym (ap (take 1) (first_item run t is))

  -- If the first tick of a run was taken, the first of its items was given.
  pub one_given : Gives (way_filtering x p d way) old new (tick t ∷ []) (Ok tt)
      → GivesFirst (way_filtering x p d way) old new (run_items run) 1
  one_given gives = record {
    some = omega arith;
    within = omega (arith, ap length (first_item run t is));
    gives = gives_items (way_filtering x p d way) old new (tick t ∷ []) (take 1 (run_items run))
        (Ok tt) front_is gives;
  }

  -- If the way was stopped at the first tick of a run, it was stopped at one of its items.
  pub one_stopped : (stop : Stop) → Gives (way_filtering x p d way) old new (tick t ∷ []) (Err stop)
      → Gives (way_filtering x p d way) old new (run_items run) (Err stop)
  one_stopped stop gives = gives_items (way_filtering x p d way) old new
      (tick t ∷ drop 1 (run_items run)) (run_items run) (Err stop) (sym (first_item run t is))
      (gives_front (way_filtering x p d way) old new (tick t ∷ []) (drop 1 (run_items run)) stop gives)

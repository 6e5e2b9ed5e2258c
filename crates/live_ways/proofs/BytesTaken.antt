-- What calls on both ways of a line do, one after the other.
use Rattle.line_commands.specs.declared.port.Port.{Ghosts as Port}
use Rattle.live_line.proofs.Running.{images_then}
use Rattle.live_line.specs.declared.way_box.WayBox.{Ghosts as WayBox}
use Rattle.live_line.specs.declared.ways.Way.{Way}
use Rattle.live_ways.proofs.BothTaken.{goes_same}
use Rattle.live_ways.specs.BothDisks.{disk_on}
use Rattle.live_ways.specs.Ends.{is_disk_end}
use Rattle.live_ways.specs.LiveLine.{LineAt, LineStands, LineGoes, IsReadyLine}
use Rattle.live_ways.specs.LiveLine.{TakesBytes, EndsInBytes, kept_on, HeardAt, HaltsAt}
use Rattle.live_ways.specs.WayEnds.{EndsBehind}
use Rattle.live_ways.specs.declared.way_end.WayEnd.{WayEnd}
use Rattle.live_ways.specs.declared.way_end.WayEnd.TheVariants.{Whole, Refused, NoWay, TooLong}
use Rattle.live_ways.specs.declared.way_end.WayEnd.TheVariants.{TooManyBytes, ReadFault, Stopped}
use Rattle.std.proofs.Common.{◌≡◌, ◌∙◌, ℕ, List, [], ◌∷◌, ◌++◌, refl, ap, sym, subst, arith}
use Rattle.std.proofs.Common.{append-nil, append_assoc, drop, take, length, length-drop, ◌-◌}
use Rattle.std.proofs.lemmas.List.{take_all}
use Rattle.tick_drive.proofs.Causes.{disk_then}
use Rattle.tick_drive.specs.declared.consumer.Stop.{Stop}
use Rattle.tick_drive.specs.declared.end.TooMuch.TheVariants.{Ticks, Bytes}
use Rattle.yasir_ticks.specs.declared.tick.Tick.{Tick}
use Rattle.yasir_io.specs.Causes.{Rose}
use Rattle.yasir_io.specs.Disks.{Slots}
use Rattle.yasir_io.specs.declared.disk.SlotDisk.{Ghosts as SlotDisk}

-- What an end says of the bytes that come after it, it also says if there are more of them.
later_weaker : (Heard : (Way → List Tick) → Type 0)
    (Halts : Way → Stop → (Way → List Tick) → Type 0) (end : WayEnd) (front later rest : List ℕ)
    → EndsBehind Heard Halts end front later → EndsBehind Heard Halts end front (later ++ rest)
later_weaker Heard Halts (Refused way bad) front later rest ends = record {
  byte = ends.byte;
  rest = ends.rest ++ rest;
  is = ap (λ l. l ++ rest) ends.is;
  own = ends.own;
  refused = ends.refused;
  line = ends.line;
  why = ends.why;
  heard = ends.heard;
}
later_weaker Heard Halts (NoWay line) front later rest ends = record {
  byte = ends.byte;
  rest = ends.rest ++ rest;
  is = ap (λ l. l ++ rest) ends.is;
  begins = ends.begins;
  is_no_letter = ends.is_no_letter;
  line_is = ends.line_is;
  heard = ends.heard;
}
later_weaker Heard Halts (TooLong way Ticks count) front later rest ends = record {
  byte = ends.byte;
  rest = ends.rest ++ rest;
  is = ap (λ l. l ++ rest) ends.is;
  sum = ends.sum;
  above = ends.above;
  heard = ends.heard;
}
later_weaker Heard Halts (TooLong way Bytes count) front later rest ends = ends
later_weaker Heard Halts (TooManyBytes count) front later rest ends = ends
later_weaker Heard Halts (Stopped way stop) front later rest ends = ends
later_weaker Heard Halts Whole front later rest ends = absurd ends
later_weaker Heard Halts ReadFault front later rest ends = absurd ends

module _ {X Y P D : Type 0} (x : WayBox X) (y : WayBox Y) (p : Port P) (d : SlotDisk D) where
  pub goes_then : (a b c : LineAt X Y P D) (end : WayEnd) → LineGoes x y p d a b Whole
      → LineGoes x y p d b c end → LineGoes x y p d a c end
  goes_then a b c end first then = record {
    images = λ way. images_then d (kept_on a.line way) (kept_on b.line way) (kept_on c.line way)
        (disk_on a.disks way) (disk_on b.disks way) (disk_on c.disks way) (first.images way)
        (then.images way);
    disks = λ way. disk_then (d.faults (disk_on a.disks way)) (d.faults (disk_on b.disks way))
        (d.faults (disk_on c.disks way)) (is_disk_end way end) (first.disks way) (then.disks way);
    reads = record {
      never_falls = omega (arith, first.reads.never_falls, then.reads.never_falls);
      failed = λ e. subst (λ n. Rose n (p.read_faults c.port)) (first.reads.same refl)
          (then.reads.failed e);
      same = λ e. then.reads.same e ∙ first.reads.same refl;
    };
    same = λ e to. then.same e to ∙ first.same refl to;
    failed = λ e. let at = then.failed e in (
      at.0,
      subst (λ n. Rose n (p.write_faults c.port at.0)) (first.same refl at.0) at.1,
    );
  }

  pub bytes_none : ((disk : D) (c : Slots) → d.left_since disk (d.moment disk) c
      → d.may_leave disk c) → (at : LineAt X Y P D) → IsReadyLine x y p d at
      → TakesBytes x y p d at at []
  bytes_none only_now at ready = record {
    ready = ready;
    goes = goes_same x y p d only_now at.line at.line at.port at.disks (λ way. refl) Whole
        (record { no_disk = λ way. refl; no_read = refl; no_write = refl });
    left = refl;
    takes = λ origin stream stands.
        subst (LineStands x y p d at origin) (sym (append-nil stream)) stands;
  }

  pub bytes_then : (a b c : LineAt X Y P D) (first then : List ℕ) → TakesBytes x y p d a b first
      → TakesBytes x y p d b c then → TakesBytes x y p d a c (first ++ then)
  bytes_then a b c first then one two = record {
    ready = two.ready;
    goes = goes_then a b c Whole one.goes two.goes;
    left = two.left ∙ one.left;
    takes = λ origin stream stands. subst (LineStands x y p d c origin)
        (append_assoc stream first then) (two.takes origin (stream ++ first)
        (one.takes origin stream stands));
  }

  pub ends_then : (a b c : LineAt X Y P D) (first then rest : List ℕ) (end : WayEnd)
      → TakesBytes x y p d a b first → EndsInBytes x y p d b c end then
      → EndsInBytes x y p d a c end (first ++ (then ++ rest))
  ends_then a b c first then rest end one two = record {
    goes = goes_then a b c end one.goes two.goes;
    left = two.left ∙ one.left;
    no_read = two.no_read;
    ready = two.ready;
    ends = λ origin stream stands.
        let at = two.ends origin (stream ++ first) (one.takes origin stream stands) in
        record {
          front = at.front;
          later = at.later ++ rest;
          is = sym (append_assoc stream first (then ++ rest))
              ∙ (sym (append_assoc (stream ++ first) then rest)
              ∙ (ap (λ l. l ++ rest) at.is ∙ append_assoc at.front at.later rest));
          begins = at.begins;
          ends = later_weaker (HeardAt x y p d c origin) (HaltsAt x y p d c origin) end at.front
              at.later rest at.ends;
        };
  }

  -- ---- a piece

  -- All bytes of a piece but those that are left were taken.
  pub record HasTakenSo (old now : LineAt X Y P D) (piece left : List ℕ) : Type 0 where
    pub done : List ℕ
    pub is : piece ≡ done ++ left
    pub takes : TakesBytes x y p d old now done

  pub so_none : ((disk : D) (c : Slots) → d.left_since disk (d.moment disk) c → d.may_leave disk c)
      → (at : LineAt X Y P D) (piece : List ℕ) → IsReadyLine x y p d at
      → HasTakenSo at at piece piece
  so_none only_now at piece ready =
      record { done = []; is = refl; takes = bytes_none only_now at ready }

  -- The bytes behind the first one are all that are left then.
  pub so_behind : (old now : LineAt X Y P D) (piece left : List ℕ)
      → HasTakenSo old now piece (drop 1 left)
      → HasTakenSo old now piece (take (length left - 1) (drop 1 left))
  so_behind old now piece left so = subst (HasTakenSo old now piece)
      (sym (take_all (length left - 1) (drop 1 left) (omega (arith, length-drop 1 left)))) so

  pub so_more : (old now next : LineAt X Y P D) (piece left rest : List ℕ) (byte : ℕ)
      → HasTakenSo old now piece left → left ≡ byte ∷ rest
      → TakesBytes x y p d now next (byte ∷ []) → HasTakenSo old next piece rest
  so_more old now next piece left rest byte so is takes = record {
    done = so.done ++ byte ∷ [];
    is = so.is ∙ (ap (λ l. so.done ++ l) is ∙ sym (append_assoc so.done (byte ∷ []) rest));
    takes = bytes_then old now next so.done (byte ∷ []) so.takes takes;
  }

  pub so_ended : (old now next : LineAt X Y P D) (piece left rest : List ℕ) (byte : ℕ)
      (end : WayEnd) → HasTakenSo old now piece left → left ≡ byte ∷ rest
      → EndsInBytes x y p d now next end (byte ∷ []) → EndsInBytes x y p d old next end piece
  so_ended old now next piece left rest byte end so is ends =
      subst (EndsInBytes x y p d old next end) (sym (so.is ∙ ap (λ l. so.done ++ l) is))
      (ends_then old now next so.done (byte ∷ []) rest end so.takes ends)

  pub so_all : (old now : LineAt X Y P D) (piece left : List ℕ) → HasTakenSo old now piece left
      → left ≡ [] → TakesBytes x y p d old now piece
  so_all old now piece left so is = subst (TakesBytes x y p d old now)
      (sym (so.is ∙ (ap (λ l. so.done ++ l) is ∙ append-nil so.done))) so.takes

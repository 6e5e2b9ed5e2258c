-- Laws of what calls of a filter do to the disk's images and to the counts of faults: for no call,
-- and for calls that follow other calls.
use Rattle.std.specs.Prelude.{ℕ, List, Bool, false}
use Rattle.std.proofs.Common.{◌∙◌, refl, subst, inl}
use Rattle.std.proofs.Math.Nat.{le_refl, le_trans}
use Rattle.yasir_io.specs.Causes.{Rose}
use Rattle.yasir_io.specs.Disks.{Slots}
use Rattle.yasir_io.specs.declared.disk.SlotDisk.{Ghosts as SlotDisk}
use Rattle.yasir_io.proofs.Moments.{leaves_then, leaves_weaker}
use Rattle.sequence_journal.specs.Journal.{HasFloorFrom}
use Rattle.link_box.specs.declared.box_trait.LinkBox.{Ghosts as LinkBox}
use Rattle.tick_drive.specs.Consumers.{IsNoneDone, AreJoined, is_journal_fault, is_write_fault}
use Rattle.tick_drive.proofs.Causes.{disk_none, disk_then}
use Rattle.line_commands.specs.BoxLinesLaws.{floor_from_later}
use Rattle.line_commands.specs.declared.port.Port.{Ghosts as Port}
use Rattle.live_commands.specs.AheadLines.{disk_in}
use Rattle.live_commands.specs.Filtering.{Outside, KeepsImages, OutputCause, PortCause, filtering}

module _ {P : Type 0} (p : Port P) where
  pub outputs_none : (port : P) → OutputCause p port port false
  outputs_none port = record { same = λ _ to. refl; failed = λ e. cc }

  pub outputs_then : (a b c : P) (is_cause : Bool) → OutputCause p a b false
      → OutputCause p b c is_cause → OutputCause p a c is_cause
  outputs_then a b c is_cause first then = record {
    same = λ e to. then.same e to ∙ first.same refl to;
    failed = λ e. let at = then.failed e in (
      at.0,
      subst (λ n. Rose n (p.write_faults c at.0)) (first.same refl at.0) at.1,
    );
  }

  pub port_none : (port : P) → PortCause p port port false
  port_none port =
      record { left_same = refl; read_same = refl; outputs = outputs_none port }

  pub port_then : (a b c : P) (is_cause : Bool) → PortCause p a b false → PortCause p b c is_cause
      → PortCause p a c is_cause
  port_then a b c is_cause first then = record {
    left_same = then.left_same ∙ first.left_same;
    read_same = then.read_same ∙ first.read_same;
    outputs = outputs_then a b c is_cause first.outputs then.outputs;
  }

module _ {B P D : Type 0} (p : Port P) (d : SlotDisk D) where
  pub images_none : ((disk : D) (c : Slots) → d.left_since disk (d.moment disk) c
      → d.may_leave disk c)
      → (at : Outside B P D) → KeepsImages p d at at
  images_none only_now at = record {
    link = refl;
    most = refl;
    settles = le_refl _;
    rises = le_refl _;
    is_kept = λ kept. kept;
    any_moment = λ kept. record {
      later = le_refl _;
      each = λ c left. kept.floors c (only_now at.disk c left);
      before = λ t c le left. inl left;
    };
  }

  pub images_then : (a b c : Outside B P D) → KeepsImages p d a b → KeepsImages p d b c
      → KeepsImages p d a c
  images_then a b c first second = record {
    link = second.link ∙ first.link;
    most = second.most ∙ first.most;
    settles = le_trans first.settles second.settles;
    rises = le_trans first.rises second.rises;
    is_kept = λ kept. second.is_kept (first.is_kept kept);
    any_moment = λ kept. leaves_then d.moment d.left_since a.disk b.disk c.disk _
        (first.any_moment kept)
        (leaves_weaker d.moment d.left_since b.disk c.disk
        (HasFloorFrom (disk_in b.lines)) (HasFloorFrom (disk_in a.lines))
        (floor_from_later (disk_in a.lines) (disk_in b.lines) first.link first.rises)
        (second.any_moment (first.is_kept kept)));
  }

module _ {B N P D : Type 0} (b : LinkBox B N) (line_of : N → List ℕ) (p : Port P) (d : SlotDisk D)
  where
    pub filters-none : ((disk : D) (c : Slots) → d.left_since disk (d.moment disk) c
        → d.may_leave disk c)
        → IsNoneDone (filtering b line_of p d)
    filters-none only_now at able = record {
      images = images_none p d only_now at;
      disk = disk_none (d.faults at.disk);
      port = port_none p at.port;
    }

    pub filters-then : AreJoined (filtering b line_of p d)
    filters-then s0 s1 s2 result first second = record {
      images = images_then p d s0 s1 s2 first.images second.images;
      disk = disk_then (d.faults s0.disk) (d.faults s1.disk) (d.faults s2.disk)
          (is_journal_fault result) first.disk second.disk;
      port = port_then p s0.port s1.port s2.port (is_write_fault result) first.port second.port;
    }

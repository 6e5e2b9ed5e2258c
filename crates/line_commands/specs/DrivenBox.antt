-- The meaning, as a consumer, of a box that is driven by references to it and to what it writes to.
use Rattle.std.specs.Prelude.{◌≡◌, ℕ, List, Result}
use Rattle.std.proofs.Common.{◌∙◌, refl}
use Rattle.yasir_io.specs.Disks.{Slots}
use Rattle.yasir_io.specs.declared.disk.SlotDisk.{Ghosts as SlotDisk}
use Rattle.yasir_io.specs.declared.sink.Sink.{Ghosts as Sink}
use Rattle.link_box.specs.declared.box_trait.LinkBox.{Ghosts as LinkBox}
use Rattle.tick_drive.specs.Consumers.{Consuming, IsNoneDone, AreJoined}
use Rattle.tick_drive.specs.declared.consumer.Stop.{Stop}
use Rattle.line_commands.specs.BoxLines.{State, state_of_lines, BoxLinesGoOn, driving}
use Rattle.line_commands.specs.BoxLinesLaws.{drives-none, drives-then}
use Rattle.line_commands.specs.declared.driven_box.DrivenBox.{DrivenBox}

-- the present state of what the references refer to
abbrev pub state_in : {B O L D : Type 0} → DrivenBox B O L D → State B O L D
state_in driven = state_of_lines driven.lines.now driven.out.now driven.log.now driven.disk.now

-- The references are the same as before.
pub record HoldsSame {B O L D : Type 0} (old new : DrivenBox B O L D) : Type 0 where
  pub lines : new.lines.ghost_name ≡ old.lines.ghost_name
  pub out : new.out.ghost_name ≡ old.out.ghost_name
  pub log : new.log.ghost_name ≡ old.log.ghost_name
  pub disk : new.disk.ghost_name ≡ old.disk.ghost_name

module _ {B N O L D : Type 0} (b : LinkBox B N) (line_of : N → List ℕ) (o : Sink O) (l : Sink L)
    (d : SlotDisk D) where
  -- what calls do to what the references refer to, while the references stay the same
  pub record GoesOnBehind (old new : DrivenBox B O L D) (result : Result (Unit {0}) Stop) :
      Type 0 where
    pub went : BoxLinesGoOn o l d (state_in old) (state_in new) result
    pub holds : HoldsSame old new

  abbrev pub driven_by : Consuming (DrivenBox B O L D)
  driven_by = record {
    Origin = (driving b line_of o l d).Origin;
    stands = λ driven. (driving b line_of o l d).stands (state_in driven);
    stopped = λ driven. (driving b line_of o l d).stopped (state_in driven);
    taken = λ driven. (driving b line_of o l d).taken (state_in driven);
    able = λ driven. (driving b line_of o l d).able (state_in driven);
    went = GoesOnBehind;
  }

  pub holds-none : ((disk : D) (c : Slots) → d.left_since disk (d.moment disk) c
      → d.may_leave disk c)
      → IsNoneDone driven_by
  holds-none only_now driven able = record {
    went = drives-none b line_of o l d only_now (state_in driven) able;
    holds = record { lines = refl; out = refl; log = refl; disk = refl };
  }

  pub holds-then : AreJoined driven_by
  holds-then h0 h1 h2 result first second = record {
    went = drives-then b line_of o l d (state_in h0) (state_in h1) (state_in h2) result first.went
        second.went;
    holds = record {
      lines = second.holds.lines ∙ first.holds.lines;
      out = second.holds.out ∙ first.holds.out;
      log = second.holds.log ∙ first.holds.log;
      disk = second.holds.disk ∙ first.holds.disk;
    };
  }

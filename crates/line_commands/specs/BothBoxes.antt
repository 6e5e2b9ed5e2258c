-- A box for each direction of a line, which take the two recordings of an input.
use Rattle.std.specs.Prelude.{◌≡◌, ℕ, ◌+◌, List, ◌++◌, length, ⊤}
use Rattle.yasir_ticks.specs.Ticks.{Item, ticks_in}
use Rattle.yasir_ticks.specs.declared.tick.Tick.{Tick}
use Rattle.link_format.specs.Setup.{Setup}
use Rattle.link_box.specs.declared.box_trait.LinkBox.{Ghosts as LinkBox}
use Rattle.tick_drive.specs.Consumers.{Consuming}
use Rattle.tick_drive.specs.declared.consumer.Stop.TheVariants.{NoMemory}
use Rattle.session_lists.specs.Recordings.{lists_have_mark, before_mark, behind_mark}
use Rattle.line_commands.specs.KeptBox.{ticks_kept, KeepsLine, IsSteady}
use Rattle.line_commands.specs.declared.both_boxes.BothBoxes.{BothBoxes}

-- how the boxes of both directions are set up
pub record Setups : Type 0 where
  pub outgoing : Setup
  pub incoming : Setup

module _ {S C A B : Type 0} (s : LinkBox S A) (sent_line : A → List ℕ) (c : LinkBox C B)
    (got_line : B → List ℕ) where
  -- how many ticks of both recordings were taken
  abbrev pub both_taken : BothBoxes S C → ℕ
  both_taken both = ticks_kept both.outgoing + ticks_kept both.incoming

  pub record AreSteady (both : BothBoxes S C) : Type 0 where
    pub outgoing : IsSteady s sent_line both.outgoing
    pub incoming : IsSteady c got_line both.incoming

  -- The box of the outgoing direction has taken this line of a device, and the box of the incoming
  -- direction this link.
  pub record KeepsBoth (both : BothBoxes S C) (setups : Setups) (device link : List Tick) :
      Type 0 where
    pub outgoing : KeepsLine s sent_line both.outgoing setups.outgoing device
    pub incoming : KeepsLine c got_line both.incoming setups.incoming link

  -- The boxes have taken these items: the ticks before the mark, and those after it.
  pub record KeepsItems (both : BothBoxes S C) (setups : Setups) (items : List Item) : Type 0 where
    pub keeps : KeepsBoth both setups (before_mark items) (behind_mark items)
    pub marked : both.marked ≡ lists_have_mark items

  -- The boxes have taken the items `more`, after those that they had taken.
  pub record BothBoxesGoOn (old new : BothBoxes S C) (more : List Item) : Type 0 where
    pub moved : (setups : Setups) (items : List Item) → KeepsItems old setups items
        → KeepsItems new setups (items ++ more)
    pub counted : both_taken new ≡ both_taken old + length (ticks_in more)
    pub steady : AreSteady new

  -- The meaning of both boxes as one consumer: it stops only if there is no memory, and writes
  -- nothing.
  abbrev pub keeping : Consuming (BothBoxes S C)
  keeping = record {
    Origin = Setups;
    stands = KeepsItems;
    stopped = λ both stop setups items. stop ≡ NoMemory;
    taken = both_taken;
    able = AreSteady;
    went = λ old new result. ⊤;
  }

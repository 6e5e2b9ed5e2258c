-- What the lists keep of an input.
use Rattle.std.specs.Prelude.{◌≡◌, ◌≢◌, ℕ, List, Option, Result, Ok, Err, ⊤}
use Rattle.yasir_ticks.specs.Ticks.{Item}
use Rattle.tick_drive.specs.Consumers.{Consuming}
use Rattle.tick_drive.specs.Drive.{StopsForMemory}
use Rattle.tick_drive.specs.Input.{Takes, IsWhole}
use Rattle.tick_drive.specs.declared.consumer.Stop.TheVariants.{NoMemory}
use Rattle.tick_drive.specs.declared.end.End.{End}
use Rattle.tick_drive.specs.declared.end.End.TheVariants.{Whole}
use Rattle.session_lists.specs.TickLists.{HoldsParts, ticks_listed}
use Rattle.session_lists.specs.declared.tick_lists.TickLists.{TickLists}

-- What the lists promise as a consumer: they stop only if there is no memory, and they write
-- nothing.
abbrev pub listing : Consuming TickLists
listing = record {
  Origin = Unit {0};
  stands = λ lists origin items. HoldsParts lists items;
  stopped = λ lists stop origin items. stop ≡ NoMemory;
  taken = ticks_listed;
  able = λ lists. Unit {0};
  went = λ old new result. ⊤;
}

-- Holds if the whole input was read and is right, and the lists hold its parts.
pub record KeepsWhole (marks : ℕ) (before now : Option (List ℕ)) (lists : TickLists) : Type 0 where
  pub items : List Item
  pub takes : IsWhole marks 0 before now items
  pub holds : HoldsParts lists items

-- Holds if the input ended in any other way than `Whole`, and there was no memory for a tick if the
-- lists stopped it.
pub record EndsBefore (marks : ℕ) (before now : Option (List ℕ)) (end : End) : Type 0 where
  pub items : List Item
  pub takes : Takes marks 0 before now items end
  pub other : end ≢ Whole
  pub memory : StopsForMemory end

-- what each result says of an input that must have exactly `marks` marks
abbrev pub ListsTicks : ℕ → Option (List ℕ) → Option (List ℕ) → Result TickLists End → Type 0
ListsTicks marks before now (Ok lists) = KeepsWhole marks before now lists
ListsTicks marks before now (Err end) = EndsBefore marks before now end

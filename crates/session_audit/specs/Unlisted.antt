-- What is said of a consumer that has no memory.
use Rattle.std.specs.Prelude.{◌≡◌, ⊤}
use Rattle.tick_drive.specs.Consumers.{Consuming}
use Rattle.tick_drive.specs.declared.consumer.Stop.TheVariants.{NoMemory}
use Rattle.session_audit.specs.declared.unlisted.Unlisted.{Unlisted}

-- It takes nothing, and stops only for want of memory.
abbrev pub unlisting : Consuming Unlisted
unlisting = record {
  Origin = Unit {0};
  stands = λ consumer start items. ⊤;
  stopped = λ consumer stop start items. stop ≡ NoMemory;
  taken = λ consumer. 0;
  able = λ consumer. ⊤;
  went = λ old new result. ⊤;
}

-- A consumer that stops only if there is no memory stops a drive only then.
use Rattle.std.proofs.Common.{◌≡◌, ℕ, List, [], Option, Err, subst}
use Rattle.tick_drive.specs.{Consumers.Consuming, Consumers.Gives, Drive.Drives, Drive.drive_answer_of}
use Rattle.tick_drive.specs.Drive.{StopsForMemory}
use Rattle.tick_drive.specs.declared.consumer.Stop.{Stop, TheVariants.NoMemory}
use Rattle.tick_drive.specs.declared.end.End.{End}
use Rattle.yasir_ticks.specs.Ticks.{Item}

module _ {C : Type 0} (meaning : Consuming C)
    (only : (consumer : C) (stop : Stop) (origin : meaning.Origin) (items : List Item)
    → meaning.stopped consumer stop origin items → stop ≡ NoMemory)
    (marks rest : ℕ) (before now : Option (List ℕ)) (old new : C)
    (origin : meaning.Origin) (begins : meaning.stands old origin []) where
  pub stops-for-memory : (end : End) → Drives meaning marks rest before now old new end
      → StopsForMemory end
  stops-for-memory end driven = λ stop is.
      let gives : Gives meaning old new driven.items (Err stop) =
      subst (λ e. Gives meaning old new driven.items (drive_answer_of e)) is driven.gives in
      only new stop origin _ (gives.stopped.at origin [] begins)

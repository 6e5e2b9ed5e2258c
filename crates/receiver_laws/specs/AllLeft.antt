-- When all that a receiver held back has left: from then on only silence leaves, and nothing more
-- passes.
use Rattle.std.specs.Prelude.{◌≡◌, ℕ, ◌+◌, List, ◌++◌}
use Rattle.yasir_ticks.specs.Ticks.{silent}
use Rattle.yasir_ticks.specs.declared.tick.Tick.{Tick}
use Rattle.line_rules.specs.Rules.{Rules}
use Rattle.device_model.specs.Frames.{FrameRead}
use Rattle.link_format.specs.Profile.{Profile}
use Rattle.link_box.specs.Checking.{passed, received_line}
use Rattle.receiver_laws.specs.Reading.{delivered_of}

-- Holds if `rest` silent ticks after the link are enough for all to leave: with `more` of them the
-- receiver's line goes on in silence, and the same frames pass.
pub record HasAllLeft (profile : Profile) (rules : Rules) (floor : ℕ) (link : List Tick)
    (rest more : ℕ) : Type 0 where
  pub received : received_line profile rules floor (link ++ silent (rest + more))
      ≡ received_line profile rules floor (link ++ silent rest) ++ silent more
  pub passes : passed profile rules floor (link ++ silent (rest + more))
      ≡ passed profile rules floor (link ++ silent rest)

-- Take a recording of the receiver's line, for the link and `rest` silent ticks after it, and then
-- `more` silent ticks. Holds if a device that reads a line as `reads` says reads from these all
-- frames that passed, each as late as the receiver is, and nothing else.
abbrev pub ReadsAllThatPassed : Rules → (List Tick → List FrameRead) → Profile → ℕ → List Tick → ℕ
    → ℕ → Type 0
ReadsAllThatPassed rules reads profile floor link rest more =
    reads (received_line profile rules floor (link ++ silent rest) ++ silent more)
    ≡ delivered_of profile rules floor (link ++ silent rest)

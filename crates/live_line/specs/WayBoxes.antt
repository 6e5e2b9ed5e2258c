-- What one way of a live line makes of its ticks, and how that is added to texts.
use Rattle.std.specs.Prelude.{ℕ, List, [], ◌∷◌, ◌++◌}
use Rattle.yasir_ticks.specs.declared.tick.Tick.{Tick}
use Rattle.link_format.specs.Setup.{Setup}
use Rattle.line_texts.specs.Adding.{TextAdds}
use Rattle.line_texts.specs.Sending.{LineAndNotes, AnswersNoted, Waiting}
use Rattle.line_texts.specs.Texts.{waiting_in}
use Rattle.line_texts.specs.declared.texts.Texts.{Texts}

-- `made` is what is made of a line, and `stands` holds if a box with this setup has taken this line.
module _ {X : Type 0} (made : Setup → LineAndNotes) (stands : X → Setup → List Tick → Type 0) where
  -- After this line the box has taken the tick `t`, and what it made of it was added to the texts.
  pub record AddsTick (value : X) (before now : Waiting) (setup : Setup) (line : List Tick)
      (t : Tick) : Type 0 where
    pub stood : stands value setup (line ++ t ∷ [])
    pub answer : List Tick
    pub note : List ℕ
    pub noted : AnswersNoted (made setup) line (t ∷ []) answer note
    pub adds : TextAdds before now answer note

  -- the same after whatever line the box had taken
  abbrev pub AddsAfterAny : X → X → Texts → Texts → Tick → Type 0
  AddsAfterAny old new before now t = (setup : Setup) (line : List Tick) → stands old setup line
      → AddsTick new (waiting_in before) (waiting_in now) setup line t

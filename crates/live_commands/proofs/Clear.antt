-- If nothing waits to be handed on, all that the box makes of its line is handed on.
use Rattle.live_commands.specs.AheadLines.{StandsAfter, settled_in, waits_in}
use Rattle.live_commands.specs.declared.ahead_lines.AheadLines.{AheadLines}
use Rattle.line_texts.specs.Adding.{Waits}
use Rattle.line_texts.specs.Sending.{Waiting}
use Rattle.link_box.specs.declared.box_trait.LinkBox.{Ghosts as LinkBox}
use Rattle.live_commands.specs.Filtering.{LiveOrigin, HandsOver, IsClear, made_at, box_at}
use Rattle.line_commands.proofs.Handing.{noted_none, text_none}
use Rattle.line_commands.proofs.Texts.{text_one}
use Rattle.line_commands.specs.{History.History, LiveText.IsTextOf, Order.Handed}
use Rattle.yasir_io.specs.Disks.{Slots}
use Rattle.std.proofs.Common.{◌≡◌, ◌∙◌, ℕ, List, [], ◌++◌, Option, refl, sym, ap, subst, append-nil}
use Rattle.yasir_ticks.specs.CanonicalText.{canonical_text}
use Rattle.yasir_ticks.specs.declared.tick.Tick.{Tick}

no_text : canonical_text [] ≡ []
no_text = refl

-- If nothing waits, nothing was made of the ticks that wait.
nothing_waits : (waits : Waiting) (answer : List Tick) (note : List ℕ) → Waits waits answer note
    → Waits waits [] [] → (note ≡ []) × IsTextOf [] answer
nothing_waits waits answer note some none =
    let same : canonical_text (answer ++ []) ≡ canonical_text [] =
    sym (some.written.text []) ∙ none.written.text [] in
    let text : canonical_text answer ≡ [] =
    ap canonical_text (sym (append-nil answer)) ∙ (same ∙ no_text) in (
      sym some.notes_are ∙ none.notes_are,
      subst (λ l. IsTextOf l answer) text (text_one answer),
    )

module _ {B N : Type 0} (b : LinkBox B N) (line_of : N → List ℕ)
    (lines : AheadLines B) (slots : Option Slots) (history : History) (origin : LiveOrigin)
    (line : List Tick) (clear : IsClear lines slots) where
  pub all_handed : HandsOver b line_of lines history origin line
      → Handed (made_at b line_of origin) origin.start history origin.read line
  all_handed over =
      let made = made_at b line_of origin in
      let none = nothing_waits (waits_in lines) over.answer over.note over.waits clear.waits in
      subst (Handed made origin.start history origin.read) (sym over.is)
      (text_none made origin.start origin.read over.early over.later over.answer over.note [] over.noted
      none.1 history refl
      (noted_none made origin.start origin.read over.early over.later over.answer over.note []
      over.noted none.1 history none.0 over.handed))

  pub all_settled : StandsAfter b line_of lines origin.setup line
      → settled_in lines ≡ (box_at b line_of origin).number line
  all_settled stood = clear.settled ∙ stood.number_is

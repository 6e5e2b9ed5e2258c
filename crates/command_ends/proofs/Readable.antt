-- A right text within the limits isn't refused, and isn't too long.
use Rattle.{command_ends.specs.Readable.IsReadableWith, std.proofs.Common.◌≡◌}
use Rattle.std.proofs.Common.{ℕ, ◌+◌, ◌≤◌, inl, inr, List, [], ◌∷◌, ◌++◌, length, length-append}
use Rattle.std.proofs.Common.{Option, Some, None, subst, sym, ap, ◌∙◌, append-nil, arith}
use Rattle.std.specs.Io.KnownBytes.{prepend_known, IsAtEnd}
use Rattle.tick_drive.proofs.ItemLaws.{ticks_in-append}
use Rattle.tick_drive.specs.Input.{Takes, AreFew, IsRefusedByte, IsRefusedEnd, InputIsRefused}
use Rattle.tick_drive.specs.Input.{HasTooManyTicks, HasTooManyBytes, max_bytes}
use Rattle.tick_drive.specs.declared.end.End.TheVariants.{Refused, TooLong}
use Rattle.tick_drive.specs.declared.end.TooMuch.{TooMuch, TheVariants.Ticks, TheVariants.Bytes}
use Rattle.yasir_ticks.proofs.TextLaws.{ended_items-begin, IsTickText-one}
use Rattle.yasir_ticks.specs.{Characters.line_feed, TickText.IsTickText, Ticks.Item, Ticks.ticks_in}
use Rattle.yasir_ticks.specs.declared.fault.BadTicks.{BadTicks}

-- What was met of a told text is a front of it.
pub met_of_told : (text met : List ℕ) (later : Option (List ℕ))
    → Some text ≡ prepend_known met later → (rest : List ℕ) × (text ≡ met ++ rest)
met_of_told text met None h = cc
met_of_told text met (Some rest) h = (rest, cc)

-- If the input has ended, all of a told text was met.
pub all_of_told : (text met : List ℕ) (now : Option (List ℕ)) → Some text ≡ prepend_known met now
    → IsAtEnd now → text ≡ met
all_of_told text met None h ended = cc
all_of_told text met (Some rest) h ended =
    let whole : text ≡ met ++ rest = cc in whole ∙ ap (λ r. met ++ r) ended ∙ append-nil met

-- If some items have few ticks, so does a front of them.
few_in_front : (items front back : List Item) → items ≡ front ++ back → AreFew items → AreFew front
few_in_front items front back whole few =
    let sum : length (ticks_in items) ≡ length (ticks_in front) + length (ticks_in back) =
    ap (λ l. length (ticks_in l)) whole ∙ ap length (ticks_in-append front back)
    ∙ length-append (ticks_in front) (ticks_in back) in
    omega (arith, sum)

module _ (marks : ℕ) (text : List ℕ) (items : List Item) (right : IsTickText marks text items)
  where
    no_byte_refused : (met : List ℕ) (bad : BadTicks) → IsRefusedByte marks (Some text) met bad → ⊥
    no_byte_refused met bad h =
        let at = met_of_told text (met ++ h.byte ∷ []) h.met.came.0 h.met.came.1 in
        h.refused.refused (at.0, items, subst (λ x. IsTickText marks x items) at.1 right)

    no_end_refused : (met : List ℕ) (now : Option (List ℕ)) (bad : BadTicks)
        → IsRefusedEnd marks (Some text) now met bad → ⊥
    no_end_refused met now bad h =
        h.refused (
          items,
          subst (λ x. IsTickText marks x items)
              (all_of_told text met now h.met.met.came h.met.at_end) right,
        )

    no_refusal : (now : Option (List ℕ)) (taken : List Item) (bad : BadTicks)
        → InputIsRefused marks (Some text) now taken bad → ⊥
    no_refusal now taken bad h = elim h.refused [
      | inl byte ↦ no_byte_refused h.text bad byte
      | inr end ↦ no_end_refused h.text now bad end
    ]

    no_line_too_long : (now : Option (List ℕ)) (taken : List Item) (count : ℕ) → AreFew items
        → HasTooManyTicks marks (Some text) now taken count → ⊥
    no_line_too_long now taken count few h = elim h.ended [
      | inl e ↦
          let at = met_of_told text (h.text ++ line_feed ∷ []) e.met.came.0 e.met.came.1 in
          let front = ended_items-begin marks (h.text ++ line_feed ∷ []) at.0 items
          (subst (λ x. IsTickText marks x items) at.1 right) in
          let short : AreFew (taken ++ h.line) =
          few_in_front items (taken ++ h.line) front.0 (front.1 ∙ ap (λ l. l ++ front.0) e.ended)
          few in
          omega (arith, short, h.sum, h.above)
      | inr e ↦
          let same : items ≡ taken ++ h.line = IsTickText-one marks text items
          (taken ++ h.line) right
          (subst (λ x. IsTickText marks x (taken ++ h.line))
          (sym (all_of_told text h.text now e.met.met.came e.met.at_end)) e.ended) in
          let short : AreFew (taken ++ h.line) = subst AreFew same few in
          omega (arith, short, h.sum, h.above)
    ]

    no_byte_too_many : (taken : List Item) (count : ℕ) → length text ≤ max_bytes
        → HasTooManyBytes marks (Some text) taken count → ⊥
    no_byte_too_many taken count few h =
        let at = met_of_told text (h.text ++ h.byte ∷ []) h.came.0 h.came.1 in
        let long : length text ≡ length (h.text ++ h.byte ∷ []) + length at.0 =
        ap length at.1 ∙ length-append (h.text ++ h.byte ∷ []) at.0 in
        let more : length (h.text ++ h.byte ∷ []) ≡ length h.text + 1 =
        length-append h.text (h.byte ∷ []) in
        omega (arith, long, more, h.full)

module _ {marks : ℕ} (rest : ℕ) (before now : Option (List ℕ)) (taken : List Item)
    (readable : IsReadableWith marks before) where
  -- A right text isn't refused.
  pub not_refused : (bad : BadTicks) → Takes marks rest before now taken (Refused bad) → ⊥
  not_refused bad h = no_refusal marks readable.text readable.items readable.right now taken bad
      (subst (λ left. InputIsRefused marks left now taken bad) readable.told h)

  -- A right text within the limits isn't too long.
  pub not_too_long : (what : TooMuch) (count : ℕ)
      → Takes marks rest before now taken (TooLong what count) → ⊥
  not_too_long Ticks count h = no_line_too_long marks readable.text readable.items
      readable.right now
      taken count readable.few_ticks
      (subst (λ left. HasTooManyTicks marks left now taken count) readable.told h)
  not_too_long Bytes count h = no_byte_too_many marks readable.text readable.items
      readable.right taken
      count readable.few_bytes
      (subst (λ left. HasTooManyBytes marks left taken count) readable.told h)

-- If a box is given a right key, a journal that holds a number for its link and a right text, and
-- nothing outside fails, the status is Done.
use Rattle.{link_format.specs.declared.dir.Dir.Dir, link_format.specs.Setup.Setup}
use Rattle.command_ends.specs.{Causes.DiskCause, declared.status.Status.Status}
use Rattle.sequence_journal.specs.{Links.HasDirection, declared.link.LinkId.LinkId}
use Rattle.std.proofs.Common.{◌≡◌, ◌∙◌, ℕ, ◌+◌, List, [], ◌∷◌, ◌++◌, length, Option, Some, None}
use Rattle.std.proofs.Common.{inl, inr, refl, sym, ap, subst, arith, append_assoc, length-append}
use Rattle.std.specs.Io.KnownBytes.{prepend_known, IsAtEnd}
use Rattle.tick_drive.{proofs.ItemLaws.ticks_in-append, specs.declared.consumer.Stop.Stop}
use Rattle.tick_drive.specs.declared.end.End.TheVariants.{Refused, TooLong}
use Rattle.tick_drive.specs.declared.end.TooMuch.{TooMuch, TheVariants.Ticks, TheVariants.Bytes}
use Rattle.yasir_io.specs.{Causes.Rose, declared.disk.SlotDisk.Ghosts as SlotDisk}
use Rattle.yasir_io.specs.declared.source.Source.{Ghosts as Source}
use Rattle.yasir_ticks.proofs.TextLaws.{ended_items-begin, IsTickText-one}
use Rattle.yasir_ticks.specs.{TickText.IsTickText, TickText.ended_items, Ticks.ticks_in}
use Rattle.yasir_ticks.specs.declared.{fault.BadTicks.BadTicks, tick.Tick.Tick}
use Rattle.command_ends.specs.declared.status.Status.TheVariants as status
use Rattle.line_commands.proofs.Replayable.{no_key_refused, no_journal_refused, wrong_link_refused}
use Rattle.line_commands.specs.Boxes.{Boxed}
use Rattle.live_commands.specs.Able.{IsLiveText, IsLivable}
use Rattle.live_commands.specs.LiveCommand.{Around, LivesBox}
use Rattle.live_commands.specs.TextEnds.{HasTooManyTicks, HasTooManyBytes, EndsText}
use Rattle.line_commands.specs.declared.port.Port.{Ghosts as Port}
use Rattle.command_ends.proofs.Readable.{met_of_told, all_of_told}

-- A text that was read from an input that holds a right text.
module _ (Heard : List Tick → Type 0) (Halts : Stop → List Tick → Type 0) (rest : ℕ)
    (before now : Option (List ℕ)) (live : IsLiveText before) (text : List ℕ)
    (came : before ≡ prepend_known text now) where
  told : Some live.text ≡ prepend_known text now
  told = sym live.told ∙ came

  -- The whole text begins with each front of the text that was read.
  goes_on : (front later : List ℕ) → text ≡ front ++ later
      → (more : List ℕ) × (live.text ≡ front ++ more)
  goes_on front later is =
      let unread = met_of_told live.text text now told in (
        later ++ unread.0,
        unread.1 ∙ (ap (λ l. l ++ unread.0) is ∙ append_assoc front later unread.0),
      )

  few_in_front : (count : ℕ) (front later : List ℕ) → text ≡ front ++ later
      → HasTooManyTicks Heard Halts count (ended_items front) → ⊥
  few_in_front count front later is ends =
      let at = goes_on front later is in
      let begins = ended_items-begin 0 front at.0 live.items
      (subst (λ x. IsTickText 0 x live.items) at.1 live.right) in
      let sum : length (ticks_in live.items)
      ≡ length (ticks_in (ended_items front)) + length (ticks_in begins.0) =
      ap (λ l. length (ticks_in l)) begins.1
      ∙ (ap length (ticks_in-append (ended_items front) begins.0)
      ∙ length-append (ticks_in (ended_items front)) (ticks_in begins.0)) in
      omega (arith, sum, ends.sum, ends.above, live.few_ticks)

  no_bytes_too_many : (count : ℕ) (front later : List ℕ) → text ≡ front ++ later
      → HasTooManyBytes Heard Halts count front → ⊥
  no_bytes_too_many count front later is ends =
      let at = goes_on front later is in
      elim ends.many [
        | inl unended ↦
            let no_line = unended.1 in
            let few = live.few_unended no_line.whole no_line.part at.0
            (at.1 ∙ (ap (λ l. l ++ at.0) no_line.is
            ∙ append_assoc no_line.whole no_line.part at.0))
            (ap ended_items (sym no_line.is) ∙ no_line.none) in
            omega (arith, few, unended.0, no_line.counted)
        | inr all ↦
            let long : length live.text ≡ length front + length at.0 =
            ap length at.1 ∙ length-append front at.0 in
            omega (arith, long, all.0, all.1, live.few_bytes)
      ]

  -- The text isn't refused.
  pub live_not_refused : (bad : BadTicks)
      → EndsText Heard Halts rest (IsAtEnd now) (Refused bad) text → ⊥
  live_not_refused bad ends = elim ends [
    | inl within ↦
        let next = within.ends in
        let at = goes_on (within.front ++ next.byte ∷ []) next.rest
        (within.is ∙ (ap (λ l. within.front ++ l) next.is
        ∙ sym (append_assoc within.front (next.byte ∷ []) next.rest))) in
        next.refused.refused (
          at.0,
          live.items,
          subst (λ x. IsTickText 0 x live.items) at.1 live.right,
        )
    | inr last ↦ last.1.refused.refused (
      live.items,
      subst (λ x. IsTickText 0 x live.items) (all_of_told live.text text now told last.0) live.right,
    )
  ]

  -- The text isn't too long either: it has neither too many ticks nor too many bytes.
  pub live_not_too_long : (what : TooMuch) (count : ℕ)
      → EndsText Heard Halts rest (IsAtEnd now) (TooLong what count) text → ⊥
  live_not_too_long Ticks count ends = elim ends [
    | inl within ↦ few_in_front count within.front within.later within.is within.ends
    | inr last ↦
        let same : live.items ≡ last.1.items = IsTickText-one 0 text live.items last.1.items
        (subst (λ x. IsTickText 0 x live.items) (all_of_told live.text text now told last.0)
        live.right) last.1.right in
        let long : length (ticks_in live.items) ≡ length (ticks_in last.1.items) =
        ap (λ l. length (ticks_in l)) same in
        omega (arith, long, last.1.holds.sum, last.1.holds.above, live.few_ticks)
  ]
  live_not_too_long Bytes count ends = elim ends [
    | inl within ↦ no_bytes_too_many count within.front within.later within.is within.ends
    | inr last ↦ last.1
  ]

module _ {K P D : Type 0} (k : Source K) (p : Port P) (d : SlotDisk D) where
  -- If all that a box is given is right and no count of faults rose, the status is Done.
  module _ (boxed : Setup → Boxed) (link : LinkId) (directed : HasDirection link) (dir : Dir)
      (rest ahead : ℕ) (key_before key_after : K) (before after : Around P D)
      (right : IsLivable link (k.left key_before) (d.told before.disk) (p.left before.port))
      (key_calm : ¬ Rose (k.faults key_before) (k.faults key_after))
      (read_calm : ¬ Rose (p.read_faults before.port) (p.read_faults after.port))
      (disk_calm : ¬ Rose (d.faults before.disk) (d.faults after.disk)) where
    pub lives_done : (end : Status)
        → LivesBox k p d boxed link dir rest ahead key_before key_after before after end
        → DiskCause (d.faults before.disk) (d.faults after.disk) end
        → (end ≡ status.WriteFault → ⊥) → end ≡ status.Done
    lives_done status.Done lives disk no_write = refl
    lives_done (status.BadTicks bad) lives disk no_write =
        let line = lives.runs in
        absurd (live_not_refused _ _ rest (p.left before.port) (p.left after.port) right.line
        line.text line.came bad line.ends)
    lives_done (status.TooLong what count) lives disk no_write =
        let line = lives.runs in
        absurd (live_not_too_long _ _ rest (p.left before.port) (p.left after.port) right.line
        line.text line.came what count line.ends)
    lives_done status.ReadFault lives disk no_write = elim lives [
      | inl key ↦ absurd (key_calm key.rose)
      | inr keyed ↦ absurd (read_calm keyed.runs.1)
    ]
    lives_done status.WriteFault lives disk no_write = absurd (no_write refl)
    lives_done status.JournalFault lives disk no_write = absurd (disk_calm disk)
    lives_done (status.BadKey place) lives disk no_write =
        absurd (no_key_refused right.key lives.text (k.left key_after) place lives.met
        lives.refused)
    lives_done (status.BadJournal a b) lives disk no_write =
        absurd (no_journal_refused right.journal a b directed lives.runs.0)
    lives_done (status.WrongLink slot) lives disk no_write =
        absurd (wrong_link_refused right.journal slot lives.runs.0)
    lives_done end lives disk no_write = absurd lives.runs

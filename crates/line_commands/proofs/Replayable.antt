-- If the key, the journal and the input are right, only a fault outside keeps a run from being
-- done.
use Rattle.line_commands.specs.{Boxes.Boxed, Given.HasKey, Given.HoldsJournal}
use Rattle.line_commands.specs.ReplaysBox.{ReplaysBox, IsReplayable}
use Rattle.{hex.proofs.HexLemmas.decode_of-ok, link_format.specs.declared.dir.Dir.Dir}
use Rattle.command_ends.specs.KeyText.{IsKeyText, IsKeyMet, IsNoKey}
use Rattle.link_format.specs.Setup.{Setup}
use Rattle.command_ends.proofs.Readable.{met_of_told, all_of_told, not_refused, not_too_long}
use Rattle.command_ends.specs.Causes.{ReadsCause, DiskCause, SinkCause, NoneRose}
use Rattle.command_ends.specs.{Outside.Outside, declared.status.Status.Status}
use Rattle.command_ends.specs.declared.status.Status.TheVariants.{Done, BadTicks, ReadFault}
use Rattle.command_ends.specs.declared.status.Status.TheVariants.{WriteFault, JournalFault}
use Rattle.command_ends.specs.declared.status.Status.TheVariants.{TooLong, BadKey, BadJournal}
use Rattle.command_ends.specs.declared.status.Status.TheVariants.{WrongLink}
use Rattle.sequence_journal.{proofs.SlotLemmas.no_own_floor, specs.Links.HasDirection}
use Rattle.sequence_journal.specs.Loading.{FindsNone, FindsOther}
use Rattle.sequence_journal.specs.Slots.{own_floor, any_floor, old_floor, any_number_held, greater}
use Rattle.sequence_journal.specs.Slots.{floor_by, floor_of, place_of_greater, wrong_by}
use Rattle.sequence_journal.specs.declared.link.LinkId.{LinkId}
use Rattle.std.proofs.Common.{◌≡◌, ◌∙◌, ℕ, ◌+◌, ◌*◌, ◌≤◌, inl, inr, List, length, length-append}
use Rattle.std.proofs.Common.{Option, Some, None, subst, sym, ap, refl, arith}
use Rattle.yasir_io.specs.Disks.{Slots}
use Rattle.yasir_io.specs.declared.disk.{Slot.Slot, SlotDisk.Ghosts as SlotDisk}
use Rattle.yasir_io.specs.declared.{sink.Sink.Ghosts as Sink, source.Source.Ghosts as Source}

key_text_short : (text key : List ℕ) → IsKeyText text key → length text ≤ 130
key_text_short text key is =
    let twice : length is.digits ≡ 2 * length key = (decode_of-ok is.digits key is.decodes).2 in
    let few : length is.ending ≤ 2 = elim is.ends [
      | inl none ↦ omega (arith, ap length none)
      | inr (inl lf) ↦ omega (arith, ap length lf)
      | inr (inr cr) ↦ omega (arith, ap length cr)
    ] in
    let all : length text ≡ length is.digits + length is.ending =
    ap length is.all ∙ length-append is.digits is.ending in
    omega (arith, is.short, twice, few, all)

other_link_has_no_floor : (own any old : Option ℕ) (a b : Option ℕ) (place : Slot)
    → wrong_by own (place_of_greater a b) ≡ Some place → any ≡ greater a b
    → floor_by own any old ≡ None
other_link_has_no_floor (Some m) any old a b place wrong is = absurd cc
other_link_has_no_floor None any old None None place wrong is = absurd cc
other_link_has_no_floor None any old None (Some b) place wrong is = rw is refl
other_link_has_no_floor None any old (Some a) None place wrong is = rw is refl
other_link_has_no_floor None any old (Some a) (Some b) place wrong is = rw is refl

-- a right key text is met whole
pub whole_key_met : {told : Option (List ℕ)} (given : HasKey told) (met : List ℕ)
    (now : Option (List ℕ)) → IsKeyMet told now met → given.text ≡ met
whole_key_met given met now read =
    let is : IsKeyMet (Some given.text) now met =
    subst (λ left. IsKeyMet left now met) given.is read in
    elim is.whole [
      | inl ended ↦ all_of_told given.text met now is.met ended
      | inr long ↦
          let rest = met_of_told given.text met now is.met in
          let all : length given.text ≡ length met + length rest.0 =
          ap length rest.1 ∙ length-append met rest.0 in
          let short : length given.text ≤ 130 =
          key_text_short given.text given.key given.right in
          absurd (omega (arith, long, all, short))
    ]

-- a right key isn't refused
pub no_key_refused : {told : Option (List ℕ)} (given : HasKey told) (met : List ℕ)
    (now : Option (List ℕ)) (place : ℕ) → IsKeyMet told now met → IsNoKey met place → ⊥
no_key_refused given met now place read none = none.none (
  given.key,
  subst (λ t. IsKeyText t given.key) (whole_key_met given met now read) given.right,
)

-- Slots that have a floor for the link aren't refused.
module _ {link : LinkId} {told : Option Slots} (given : HoldsJournal link told) where
  pub no_journal_refused : (a b : List ℕ) → HasDirection link → FindsNone told a b → ⊥
  no_journal_refused a b right found =
      let finds : FindsNone (Some given.slots) a b =
      subst (λ t. FindsNone t a b) given.is found in
      let no_own : own_floor link finds.read ≡ None =
      no_own_floor link finds.read right finds.none in
      let no_floor : floor_of link finds.read ≡ None =
      rw (no_own, finds.none, finds.none_old) refl in
      let both : Some given.floor ≡ None =
      sym given.has_floor ∙ ap (floor_of link) finds.are_read ∙ no_floor in
      cc

  pub wrong_link_refused : (slot : List ℕ) → FindsOther link told slot → ⊥
  wrong_link_refused slot found =
      let finds : FindsOther link (Some given.slots) slot =
      subst (λ t. FindsOther link t slot) given.is found in
      let no_floor : floor_of link finds.read ≡ None =
      other_link_has_no_floor (own_floor link finds.read) (any_floor finds.read)
      (old_floor finds.read) (any_number_held finds.read.a) (any_number_held finds.read.b)
      finds.place finds.wrong refl in
      let both : Some given.floor ≡ None =
      sym given.has_floor ∙ ap (floor_of link) finds.are_read ∙ no_floor in
      cc

module _ {K S O L D : Type 0} (k : Source K) (s : Source S) (o : Sink O) (l : Sink L)
    (d : SlotDisk D) (boxed : Setup → Boxed) (link : LinkId) (directed : HasDirection link)
    (dir : Dir) (rest : ℕ) (before after : Outside K S O L D)
    (right : IsReplayable link (k.left before.key) (d.told before.disk) (s.left before.input))
    (calm : NoneRose (k.faults before.key) (k.faults after.key) (s.faults before.input)
    (s.faults after.input)
    (o.faults before.out) (o.faults after.out) (l.faults before.log) (l.faults after.log)
    (d.faults before.disk) (d.faults after.disk)) where
  pub replayable_done : (status : Status) → ReplaysBox k s o l d boxed link dir rest before after
      status
      → ReadsCause (k.faults before.key) (k.faults after.key) (s.faults before.input)
      (s.faults after.input) status
      → DiskCause (d.faults before.disk) (d.faults after.disk) status
      → SinkCause (o.faults before.out) (o.faults after.out) (l.faults before.log)
      (l.faults after.log) status → status ≡ Done
  replayable_done Done h reads disk sinks = refl
  replayable_done (BadTicks bad) h reads disk sinks =
      absurd (not_refused rest (s.left before.input) (s.left after.input) h.runs.items right.input
      bad h.runs.takes)
  replayable_done (TooLong what count) h reads disk sinks =
      absurd (not_too_long rest (s.left before.input) (s.left after.input) h.runs.items right.input
      what count h.runs.takes)
  replayable_done ReadFault h reads disk sinks = elim reads.0 [
    | inl key ↦ absurd (calm.key key)
    | inr read ↦ absurd (calm.input read)
  ]
  replayable_done WriteFault h reads disk sinks = elim sinks [
    | inl out ↦ absurd (calm.out out)
    | inr log ↦ absurd (calm.log log)
  ]
  replayable_done JournalFault h reads disk sinks = absurd (calm.disk disk)
  replayable_done (BadKey place) h reads disk sinks =
      absurd (no_key_refused right.key h.text (k.left after.key) place h.met h.refused)
  replayable_done (BadJournal a b) h reads disk sinks =
      absurd (no_journal_refused right.journal a b directed h.runs.0)
  replayable_done (WrongLink slot) h reads disk sinks =
      absurd (wrong_link_refused right.journal slot h.runs.0)
  replayable_done status h reads disk sinks = absurd h.runs

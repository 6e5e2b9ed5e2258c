-- If a key and a text with its marks are right and nothing outside fails, the status of a run over
-- recordings is `Done` or `NoMemory`, and that of an audit is the status of its verdict or
-- `NoMemory`.
use Rattle.{line_commands.proofs.Replayable.whole_key_met, line_commands.specs.LinkBoxes.seal_rest}
use Rattle.link_format.specs.declared.dir.Dir.{Dir}
use Rattle.link_replay.proofs.KeyedRuns.{EndsAs, keyed_done}
use Rattle.link_replay.specs.AuditCommand.{AuditsItems, EndsWithVerdict, PrintsVerdict, verdict_in}
use Rattle.link_replay.specs.AuditCommand.{verdict_text}
use Rattle.link_replay.specs.ReplayCommand.{Replays, ReplaysWith, IsListable, replay_listing}
use Rattle.link_replay.specs.declared.words.Audited.{Audited}
use Rattle.command_ends.specs.declared.link.{Profile.Profile, Proto.Proto}
use Rattle.session_audit.{proofs.Keying.keyed-so, specs.Keyed.ReadsKeyFirst}
use Rattle.session_audit.specs.Keyed.{RunsWithKey}
use Rattle.session_audit.specs.{Keyed.LeavesAll, Recorded.PrintsItems, Recorded.recorded_lines}
use Rattle.session_lists.specs.Listed.{link_rest}
use Rattle.{command_ends.proofs.Readable.all_of_told, tick_drive.specs.Input.max_bytes}
use Rattle.command_ends.specs.Causes.{ReadsCause, SinkCause, NoneRose}
use Rattle.command_ends.specs.{Outside.Outside, declared.status.Status.Status}
use Rattle.command_ends.specs.declared.status.Status.TheVariants.{Done, BadTicks, ReadFault}
use Rattle.command_ends.specs.declared.status.Status.TheVariants.{WriteFault, TooLong, NoMemory}
use Rattle.command_ends.specs.declared.status.Status.TheVariants.{Unclean}
use Rattle.std.proofs.Common.{◌≡◌, ◌⊎◌, ◌∙◌, ◌≤◌, ℕ, List, length, Some, inl, inr, ap, subst, sym}
use Rattle.yasir_io.specs.declared.{disk.SlotDisk.Ghosts as SlotDisk, sink.Sink.Ghosts as Sink}
use Rattle.{yasir_io.specs.declared.source.Source.Ghosts as Source, yasir_ticks.specs.Ticks.Item}

module _ {K S O L D : Type 0} (k : Source K) (s : Source S) (o : Sink O) (l : Sink L)
    (d : SlotDisk D) where
  -- what each status says of a run that reads a key, and then prints a text for the items of its
  -- input
  abbrev RunsOver : ℕ → ℕ → (List ℕ → List Item → List ℕ) → Outside K S O L D
      → Outside K S O L D → Status → Type 0
  RunsOver marks rest text_of before after status = ReadsKeyFirst k before.key after.key
      (λ key. PrintsItems marks rest (text_of key) (s.left before.input) (s.left after.input)
      (o.held before.out) (o.held after.out))
      (LeavesAll before.input after.input before.out after.out before.log after.log) status

  module _ (marks rest : ℕ) (before after : Outside K S O L D) where
    ends-as : (text_of : List Item → List ℕ) (status : Status)
        → PrintsItems marks rest text_of (s.left before.input) (s.left after.input)
        (o.held before.out) (o.held after.out) status
        → EndsAs k s o l d before after marks rest status
    ends-as text_of Done h = tt
    ends-as text_of NoMemory h = tt
    ends-as text_of ReadFault h = tt
    ends-as text_of WriteFault h = tt
    ends-as text_of (BadTicks bad) h = (h.items, h.takes)
    ends-as text_of (TooLong what count) h = (h.items, h.takes)
    ends-as text_of status h = absurd h

  module _ (marks rest : ℕ) (text_of : List ℕ → List Item → List ℕ)
      (before after : Outside K S O L D)
      (right : IsListable marks (k.left before.key) (s.left before.input))
      (calm : NoneRose (k.faults before.key) (k.faults after.key) (s.faults before.input)
      (s.faults after.input) (o.faults before.out) (o.faults after.out) (l.faults before.log)
      (l.faults after.log) (d.faults before.disk) (d.faults after.disk)) where
    over_done : (status : Status) → RunsOver marks rest text_of before after status
        → ReadsCause (k.faults before.key) (k.faults after.key) (s.faults before.input)
        (s.faults after.input) status
        → SinkCause (o.faults before.out) (o.faults after.out) (l.faults before.log)
        (l.faults after.log) status → (status ≡ Done) ⊎ (status ≡ NoMemory)
    over_done status h reads sinks = keyed_done k s o l d before after marks rest right calm _ _
        status (λ key. ends-as marks rest before after (text_of key) status) h reads sinks

  -- `replay` prints the lines of its two recordings, and nothing else.
  replays-lines : (proto : Proto) (profile : Profile) (dir : Dir) (before after : Outside K S O L D)
      (status : Status) (key : List ℕ)
      → ReplaysWith proto profile dir (s.left before.input) (s.left after.input)
      (o.held before.out) (o.held after.out) key status
      → PrintsItems 1 link_rest (recorded_lines (replay_listing proto profile dir key)
      (seal_rest profile)) (s.left before.input) (s.left after.input) (o.held before.out)
      (o.held after.out) status
  replays-lines proto profile dir before after Done key h =
      record { items = h.items; recorded = h.recorded; printed = h.printed }
  replays-lines proto profile dir before after status key h = h

  module _ (before after : Outside K S O L D)
      (calm : NoneRose (k.faults before.key) (k.faults after.key) (s.faults before.input)
      (s.faults after.input) (o.faults before.out) (o.faults after.out) (l.faults before.log)
      (l.faults after.log) (d.faults before.disk) (d.faults after.disk)) where
    pub listable_done : (proto : Proto) (profile : Profile) (dir : Dir)
        → IsListable 1 (k.left before.key) (s.left before.input) → (status : Status)
        → Replays k s o l proto profile dir before after status
        → ReadsCause (k.faults before.key) (k.faults after.key) (s.faults before.input)
        (s.faults after.input) status
        → SinkCause (o.faults before.out) (o.faults after.out) (l.faults before.log)
        (l.faults after.log) status → (status ≡ Done) ⊎ (status ≡ NoMemory)
    listable_done proto profile dir right status h reads sinks = over_done 1 link_rest
        (λ key. recorded_lines (replay_listing proto profile dir key) (seal_rest profile)) before after
        right calm status
        (keyed-so k before.key after.key
        (ReplaysWith proto profile dir (s.left before.input) (s.left after.input)
        (o.held before.out) (o.held after.out))
        (λ key. PrintsItems 1 link_rest (recorded_lines (replay_listing proto profile dir key)
        (seal_rest profile)) (s.left before.input) (s.left after.input) (o.held before.out)
        (o.held after.out))
        (LeavesAll before.input after.input before.out after.out before.log after.log) status
        (replays-lines proto profile dir before after status) h.lists)
        reads sinks

  -- ---- an audit

  module _ (asked : Audited) (before after : Outside K S O L D)
      (right : IsListable 2 (k.left before.key) (s.left before.input)) where
    abbrev Printed : List ℕ → Status → Type 0
    Printed key status = PrintsVerdict asked key (s.left before.input) (s.left after.input)
        (o.held before.out) (o.held after.out) status

    abbrev Keyed : Status → Type 0
    Keyed status = RunsWithKey k before.key after.key
        (λ key. AuditsItems asked key (s.left before.input) (s.left after.input)
        (o.held before.out) (o.held after.out))
        (LeavesAll before.input after.input before.out after.out before.log after.log) status

    -- An audit that has printed a verdict ends with the status of the verdict on what it was given.
    verdict_ends : (status : Status) (h : Keyed status) → Printed h.key status
        → EndsWithVerdict asked (k.left before.key) (s.left before.input) status
    verdict_ends status h printed =
        let key : right.key.text ≡ h.text = whole_key_met right.key h.text (k.left after.key) h.met in
        let recorded = printed.recorded in
        let input : right.input.text ≡ recorded.text = all_of_told right.input.text recorded.text
        (s.left after.input) (sym right.input.told ∙ recorded.met.met.came) recorded.met.at_end in (
          record {
            key = record {
              text = h.text;
              key = h.key;
              is = right.key.is ∙ ap (λ t. Some t) key;
              right = h.right;
            };
            input = record {
              text = recorded.text;
              items = printed.items;
              told = right.input.told ∙ ap (λ t. Some t) input;
              right = recorded.right;
              few_ticks = recorded.few;
              few_bytes = subst (λ t. length t ≤ max_bytes) input right.input.few_bytes;
            };
          },
          printed.status_is,
        )

    pub auditable_done : NoneRose (k.faults before.key) (k.faults after.key)
        (s.faults before.input)
        (s.faults after.input) (o.faults before.out) (o.faults after.out) (l.faults before.log)
        (l.faults after.log) (d.faults before.disk) (d.faults after.disk)
        → (status : Status)
        → ReadsKeyFirst k before.key after.key
        (λ key. AuditsItems asked key (s.left before.input) (s.left after.input)
        (o.held before.out) (o.held after.out))
        (LeavesAll before.input after.input before.out after.out before.log after.log) status
        → ReadsCause (k.faults before.key) (k.faults after.key) (s.faults before.input)
        (s.faults after.input) status
        → SinkCause (o.faults before.out) (o.faults after.out) (l.faults before.log)
        (l.faults after.log) status
        → EndsWithVerdict asked (k.left before.key) (s.left before.input) status
        ⊎ (status ≡ NoMemory)
    auditable_done calm Done h reads sinks = inl (verdict_ends Done h h.does)
    auditable_done calm (Unclean verdict) h reads sinks =
        inl (verdict_ends (Unclean verdict) h h.does)
    auditable_done calm status h reads sinks =
        let printed = keyed-so k before.key after.key
        (λ key. AuditsItems asked key (s.left before.input) (s.left after.input)
        (o.held before.out) (o.held after.out))
        (λ key. PrintsItems 2 0 (λ items. verdict_text (verdict_in asked key items))
        (s.left before.input) (s.left after.input) (o.held before.out) (o.held after.out))
        (LeavesAll before.input after.input before.out after.out before.log after.log) status
        (λ key is. is) h in
        let ends = over_done 2 0 (λ key items. verdict_text (verdict_in asked key items)) before
        after right calm status printed reads sinks in
        elim ends [ inl is ↦ cc | inr is ↦ inr is ]

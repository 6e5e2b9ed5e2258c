-- How the run of a command over an input ends: from the end of the drive to the status.
use Rattle.line_commands.specs.OverInput.{has_stopped, OfFront, MakesAll, MakesFront, DrivesOver}
use Rattle.line_commands.specs.OverInput.{AtWrite}
use Rattle.line_commands.specs.OverInput.{RunsOver, EndsAs}
use Rattle.command_ends.proofs.Readable.{not_refused, not_too_long}
use Rattle.command_ends.specs.Causes.{InputCause, SinkCause, NoneRose}
use Rattle.command_ends.specs.{Endings.status_of, Readable.IsReadable}
use Rattle.command_ends.specs.declared.status.Status.{Status}
use Rattle.command_ends.specs.declared.status.Status.TheVariants.{Done, BadTicks, ReadFault}
use Rattle.command_ends.specs.declared.status.Status.TheVariants.{WriteFault, TooLong}
use Rattle.std.proofs.Common.{◌≡◌, ◌∙◌, ℕ, ◌+◌, ◌⊎◌, inl, inr, false, List, [], ◌++◌, length}
use Rattle.std.proofs.Common.{take, drop, Option, Ok, subst, sym, ap, refl, append_assoc, append-nil}
use Rattle.std.proofs.Math.Seq.{take-append_seam, take-length}
use Rattle.std.proofs.lemmas.List.{take-append-drop}
use Rattle.tick_drive.proofs.ItemLaws.{ticks_in-append}
use Rattle.tick_drive.specs.Consumers.{Consuming, Gives}
use Rattle.tick_drive.specs.{Drive.Drives, Drive.drive_answer_of, Input.Takes}
use Rattle.tick_drive.specs.declared.consumer.Stop.{Stop}
use Rattle.tick_drive.specs.declared.consumer.Stop.TheVariants as stops
use Rattle.tick_drive.specs.declared.end.End.{End}
use Rattle.tick_drive.specs.declared.end.End.TheVariants.{Whole, Refused, Stopped}
use Rattle.tick_drive.specs.declared.end.End.TheVariants as ends
use Rattle.yasir_ticks.specs.{Ticks.Item, Ticks.ticks_in, declared.tick.Tick.Tick}

-- The first ticks of a line are as many of its ticks as they are.
pub front-take : (line more all : List Tick) → all ≡ line ++ more → line ≡ take (length line) all
front-take line more all is = sym (ap (take (length line)) is ∙ take-append_seam line more)

-- The ticks of some items are those of the first of them and then those of the others.
pub ticks_in-cut : (items front rest : List Item) → items ≡ front ++ rest
    → ticks_in items ≡ ticks_in front ++ ticks_in rest
ticks_in-cut items front rest is = ap ticks_in is ∙ ticks_in-append front rest

-- ---- a drive that wasn't stopped

pub answer_ok : (end : End) → has_stopped end ≡ false → drive_answer_of end ≡ Ok tt
answer_ok (Stopped stop) other = cc
answer_ok end other = refl

pub no_stop : (end : End) → ((stop : Stop) → end ≡ Stopped stop → ⊥) → has_stopped end ≡ false
no_stop (Stopped stop) other = absurd (other stop refl)
no_stop end other = refl

pub ends_as : (end : End) → EndsAs end (status_of end)
ends_as Whole = inl refl
ends_as end = refl

-- If the end is no stop, all items were taken.
pub gave_all : {C : Type 0} (meaning : Consuming C) (old new : C) (items : List Item) (end : End)
    → has_stopped end ≡ false → Gives meaning old new items (drive_answer_of end)
    → Gives meaning old new items (Ok tt)
gave_all meaning old new items end other given =
    subst (Gives meaning old new items) (answer_ok end other) given

module _ (rest : ℕ) (before now : Option (List ℕ)) where
  -- What was made of the first of the ticks of the first items was made of the first ticks taken.
  pub front_made : (made : List Tick → Type 0) (items front others : List Item) (end : End)
      → Takes 0 rest before now items end → items ≡ front ++ others
      → OfFront made (ticks_in front) → MakesFront rest before now made
  front_made made items front others end takes is at =
      let all : ticks_in items ≡ at.early ++ (at.later ++ ticks_in others) =
      ticks_in-cut items front others is ∙ ap (λ t. t ++ ticks_in others) (sym at.is)
      ∙ append_assoc at.early at.later (ticks_in others) in record {
        items = items;
        end = end;
        count = length at.early;
        takes = takes;
        makes = subst made (front-take at.early (at.later ++ ticks_in others) (ticks_in items) all)
            at.makes;
      }

  -- What was made of all ticks was made of a front of them.
  pub all_is_front : (made : List Tick → Type 0) (end : End) → MakesAll rest before now made end
      → MakesFront rest before now made
  all_is_front made end all = record {
    items = all.items;
    end = end;
    count = length (ticks_in all.items);
    takes = all.takes;
    makes = subst made (sym (take-length (ticks_in all.items))) all.makes;
  }

  -- What was made of a front of all ticks was made of the first of them.
  pub front_of_all : (made : List Tick → Type 0) (end : End)
      → MakesAll rest before now (OfFront made) end → MakesFront rest before now made
  front_of_all made end all = front_made made all.items all.items [] end all.takes
      (sym (append-nil all.items)) all.makes

  pub made_then : (old new : List Tick → Type 0) (end : End) → MakesAll rest before now old end
      → ((line : List Tick) → old line → new line) → MakesAll rest before now new end
  made_then old new end all then =
      record { items = all.items; takes = all.takes; makes = then _ all.makes }

  -- ---- a consumer that was driven over the input

  -- If it stands for some items, `waits` holds of their ticks. If it was stopped at the last of
  -- some items, `stopped` holds of a front of their ticks.
  module _ {C : Type 0} (meaning : Consuming C) (old new : C) (origin : meaning.Origin)
      (begun : meaning.stands old origin [])
      (waits : List Tick → Type 0) (stopped : Stop → List Tick → Type 0) where
    abbrev Stood : Type 0
    Stood = (items : List Item) → meaning.stands new origin items → waits (ticks_in items)

    abbrev Halted : Type 0
    Halted = (stop : Stop) (items : List Item) → meaning.stopped new stop origin items
        → OfFront (stopped stop) (ticks_in items)

    pub all_driven : (end : End) → has_stopped end ≡ false
        → Drives meaning 0 rest before now old new end → Stood → MakesAll rest before now waits end
    all_driven end other driven stood =
        let gave = gave_all meaning old new driven.items end other driven.gives in
        record {
          items = driven.items;
          takes = driven.takes;
          makes = stood driven.items (gave.moved origin [] begun);
        }

    pub stop_driven : (stop : Stop) → Drives meaning 0 rest before now old new (Stopped stop)
        → Halted → MakesFront rest before now (stopped stop)
    stop_driven stop driven halted =
        let at = driven.gives.stopped in
        front_made (stopped stop) driven.items (take (at.place + 1) driven.items)
        (drop (at.place + 1) driven.items) (Stopped stop) driven.takes
        (sym (take-append-drop (at.place + 1) driven.items))
        (halted stop (take (at.place + 1) driven.items) (at.at origin [] begun))

    pub driven_over : (end : End) → Drives meaning 0 rest before now old new end → Stood → Halted
        → DrivesOver rest before now waits stopped end
    driven_over (Stopped stop) driven stood halted = stop_driven stop driven halted
    driven_over end driven stood halted = all_driven end refl driven stood

  -- ---- from the end of the drive to the status

  -- If the end is no stop, what is made of all ticks waits.
  all_wait : (waits : List Tick → Type 0) (stopped : Stop → List Tick → Type 0) (end : End)
      → has_stopped end ≡ false → DrivesOver rest before now waits stopped end
      → MakesAll rest before now waits end
  all_wait waits stopped (Stopped stop) other driven = cc
  all_wait waits stopped end other driven = driven

  pub all_drives : (waits : List Tick → Type 0) (stopped : Stop → List Tick → Type 0) (end : End)
      → has_stopped end ≡ false → MakesAll rest before now waits end
      → DrivesOver rest before now waits stopped end
  all_drives waits stopped (Stopped stop) other all = cc
  all_drives waits stopped end other all = all

  -- The input ended, what was made of all its ticks was written, and the sinks were flushed, or a
  -- flush failed.
  pub ends_over : (made all front : List Tick → Type 0) (others : Status → Type 0) (end : End)
      → has_stopped end ≡ false → MakesAll rest before now made end
      → ((line : List Tick) → made line → all line)
      → ((line : List Tick) → made line → front line) → (status : Status) → EndsAs end status
      → RunsOver rest before now all front others status
  ends_over made all front others (Stopped stop) other taken whole part status is = cc
  ends_over made all front others Whole other taken whole part status (inl done) =
      subst (RunsOver rest before now all front others) (sym done)
      (made_then made all Whole taken whole)
  ends_over made all front others Whole other taken whole part status (inr fault) =
      subst (RunsOver rest before now all front others) (sym fault)
      (all_is_front front Whole (made_then made front Whole taken part))
  ends_over made all front others end other taken whole part status is =
      subst (RunsOver rest before now all front others) (sym is)
      (made_then made all end taken whole)

  module _ (waits : List Tick → Type 0) (stopped : Stop → List Tick → Type 0) (end : End)
      (other : has_stopped end ≡ false) (driven : DrivesOver rest before now waits stopped end) where
    -- What waited was written in part.
    pub fails_over : (front : List Tick → Type 0) → ((line : List Tick) → waits line → front line)
        → MakesFront rest before now front
    fails_over front then = all_is_front front end
        (made_then waits front end (all_wait waits stopped end other driven) then)

    -- What waited was written whole.
    pub writes_over : (all front : List Tick → Type 0) (others : Status → Type 0)
        → ((line : List Tick) → waits line → all line)
        → ((line : List Tick) → waits line → front line) → (status : Status) → EndsAs end status
        → RunsOver rest before now all front others status
    writes_over all front others whole part status is = ends_over waits all front others end other
        (all_wait waits stopped end other driven) whole part status is

-- ---- a consumer that only a failed write stops

pub at_write : (front : List Tick → Type 0) (stop : Stop) (ticks : List Tick)
    → stop ≡ stops.WriteFault → OfFront front ticks → OfFront (AtWrite front stop) ticks
at_write front stop ticks why at = subst (λ s. OfFront (AtWrite front s) ticks) (sym why) at

pub is_at_write : (rest : ℕ) (before now : Option (List ℕ)) (front : List Tick → Type 0)
    (stop : Stop) → MakesFront rest before now (AtWrite front stop)
    → (stop ≡ stops.WriteFault) × MakesFront rest before now front
is_at_write rest before now front stops.WriteFault at = (refl, at)
is_at_write rest before now front stop at = absurd at.makes

-- ---- a right input

-- A right text within the limits, and no fault outside, give `Done`, or one of the other statuses.
pub right_input_done : (rest : ℕ) (before now : Option (List ℕ)) (all front : List Tick → Type 0)
    (other : Status → Type 0) (key0 key1 in0 in1 out0 out1 log0 log1 disk0 disk1 : ℕ)
    → IsReadable before → NoneRose key0 key1 in0 in1 out0 out1 log0 log1 disk0 disk1
    → (status : Status) → RunsOver rest before now all front other status
    → InputCause in0 in1 status → SinkCause out0 out1 log0 log1 status
    → (status ≡ Done) ⊎ other status
right_input_done rest before now all front other key0 key1 in0 in1 out0 out1 log0 log1 disk0 disk1
    readable calm Done h input sinks = inl refl
right_input_done rest before now all front other key0 key1 in0 in1 out0 out1 log0 log1 disk0 disk1
    readable calm (BadTicks bad) h input sinks =
    absurd (not_refused rest before now h.items readable bad h.takes)
right_input_done rest before now all front other key0 key1 in0 in1 out0 out1 log0 log1 disk0 disk1
    readable calm (TooLong what count) h input sinks =
    absurd (not_too_long rest before now h.items readable what count h.takes)
right_input_done rest before now all front other key0 key1 in0 in1 out0 out1 log0 log1 disk0 disk1
    readable calm ReadFault h input sinks = absurd (calm.input input.0)
right_input_done rest before now all front other key0 key1 in0 in1 out0 out1 log0 log1 disk0 disk1
    readable calm WriteFault h input sinks =
    elim sinks [ inl out ↦ absurd (calm.out out) | inr log ↦ absurd (calm.log log) ]
right_input_done rest before now all front other key0 key1 in0 in1 out0 out1 log0 log1 disk0 disk1
    readable calm status h input sinks = inr h

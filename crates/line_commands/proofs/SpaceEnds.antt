-- How the run of `space` ends: from the end of its input to its status.
use Rattle.device_model.specs.Frames.{FrameRead}
use Rattle.line_commands.proofs.OverInput.{answer_ok, gave_all, made_then, front_of_all, all_driven}
use Rattle.line_commands.proofs.OverInput.{stop_driven, all_drives, at_write}
use Rattle.line_commands.specs.{DrivenLines.DrivesLines, OwedTexts.StopsWriting, OwedTexts.WritesAllOwed}
use Rattle.line_commands.specs.OverInput.{AtWrite, has_stopped, OfFront, MakesAll, EndsAs}
use Rattle.line_commands.specs.SpacedLines.{HasSpacedFronts, KeepsHeld, SpacesItems, SpacesTicks}
use Rattle.line_commands.specs.SpacedLines.{StopsWithin, spacing, writing_behind}
use Rattle.line_commands.specs.SpacedLinesLaws.{holds-then}
use Rattle.line_commands.specs.SpacedTexts.{most_waiting, arrival_lines, spaced_texts}
use Rattle.line_commands.specs.SpacesLine.{TakesNothing, space_rest}
use Rattle.line_commands.specs.declared.spaced_lines.SpacedLines.{SpacedLines}
use Rattle.line_commands.specs.declared.spacers.LineSpacer.{Ghosts as LineSpacer}
use Rattle.line_spacer.specs.{Arrivals.arrivals_behind, Spacing.spaced, Spacing.none_yet}
use Rattle.line_texts.proofs.Sending.{begins}
use Rattle.line_texts.specs.{Adding.TextHasRoom, Sending.LineAndNotes, Sending.SendsTexts}
use Rattle.line_texts.specs.Sending.{SinkTexts}
use Rattle.line_texts.specs.{Texts.texts_held, Texts.waiting_in, Writer.WriterHasWritten}
use Rattle.line_texts.specs.declared.texts.Texts.{Texts}
use Rattle.command_ends.specs.declared.status.Status.{Status}
use Rattle.command_ends.specs.declared.status.Status.TheVariants.{Done, WriteFault, NoMemory}
use Rattle.std.proofs.Common.{◌≡◌, ◌∙◌, ℕ, inl, inr, false, List, [], Option, None, Ok, Err}
use Rattle.std.proofs.Common.{subst, sym, ap, refl}
use Rattle.tick_drive.specs.{Drive.Drives}
use Rattle.tick_drive.specs.declared.{consumer.Stop.Stop, end.End.End, end.End.TheVariants.Whole}
use Rattle.tick_drive.specs.declared.end.End.TheVariants.{Refused, TooLong, ReadFault, Stopped}
use Rattle.yasir_io.specs.{TextBuffer.waiting_bytes, declared.sink.Sink.Ghosts as Sink}
use Rattle.yasir_ticks.specs.{Ticks.ticks_in, declared.tick.Tick.Tick}

-- Of a line without ticks nothing is made.
nothing_spaced : (reads : List Tick → List FrameRead) (gap : ℕ)
    → spaced reads gap most_waiting [] ≡ none_yet
unfolding arrivals_behind
nothing_spaced reads gap = refl

-- So nothing has to be sent for such a line.
pub nothing_sends : (reads : List Tick → List FrameRead) (gap : ℕ) (texts : Texts)
    → WriterHasWritten texts.writer [] [] → texts.ticks.items ≡ []
    → waiting_bytes texts.notes ≡ [] → (held : SinkTexts)
    → SendsTexts (spaced_texts reads gap) (waiting_in texts) held held []
nothing_sends reads gap texts written ticks notes held =
    begins (spaced_texts reads gap) texts.writer texts.ticks.items
    (waiting_bytes texts.notes) held refl
    (ap (λ s. arrival_lines s.lost) (nothing_spaced reads gap)) written ticks notes

module _ {B O L : Type 0} (b : LineSpacer B) (o : Sink O) (l : Sink L)
    (before now : Option (List ℕ)) where
  -- The texts of this line are on their way to the sinks.
  abbrev Sends : SpacedLines B O L → SinkTexts → List Tick → Type 0
  Sends lines start = SendsTexts (spaced_texts b.reads b.gap) (waiting_in lines.texts.now) start
      (texts_held o l (writing_behind lines))

  -- A write failed while the input was driven.
  pub drives_stopped : (old new : SpacedLines B O L) (stop : Stop)
      → Drives (spacing b o l) 0 space_rest before now old new (Stopped stop)
      → DrivesLines b o l old new before now (Stopped stop)
  drives_stopped old new stop driven = record {
    driven = λ start begun. stop_driven space_rest before now (spacing b o l) old new start begun
        (Sends new start) (AtWrite (HasSpacedFronts b o l new start)) stop driven
        (λ stop items at. at_write (HasSpacedFronts b o l new start) stop (ticks_in items) at.why
        at.within);
    keeps = driven.gives.went;
  }

  -- If the end is no stop, there is room for the answers that are still owed.
  pub room_at_end : (old mid : SpacedLines B O L) (end : End) → has_stopped end ≡ false
      → Drives (spacing b o l) 0 space_rest before now old mid end → TextHasRoom mid.texts.now
  room_at_end old mid end other driven =
      (gave_all (spacing b o l) old mid driven.items end other driven.gives).is_able.room

  module _ (old mid new : SpacedLines B O L) (end : End) (other : has_stopped end ≡ false)
      (driven : Drives (spacing b o l) 0 space_rest before now old mid end) where
    went : KeepsHeld o l old mid (Ok tt)
    went = (gave_all (spacing b o l) old mid driven.items end other driven.gives).went

    taken : (start : SinkTexts) → SpacesItems b o l old start []
        → MakesAll space_rest before now (SpacesTicks b o l mid start) end
    taken start begun = all_driven space_rest before now (spacing b o l) old mid start begun
        (SpacesTicks b o l mid start) (λ stop. HasSpacedFronts b o l mid start) end other driven
        (λ items at. at)

    -- After the answers that were owed are added, all texts are on their way.
    pub drives_all : WritesAllOwed b o l mid new None → DrivesLines b o l old new before now end
    drives_all wrote = record {
      driven = λ start begun. all_drives space_rest before now (Sends new start)
          (AtWrite (HasSpacedFronts b o l new start)) end other
          (made_then space_rest before now (SpacesTicks b o l mid start) (Sends new start) end
          (taken start begun) (λ line at. subst (Sends new start) (sym at.are)
          (wrote.moved start at.line at.behind at.many at.texts).sends));
      keeps = subst (KeepsHeld o l old new) (sym (answer_ok end other))
          (holds-then b o l old mid new (Ok tt) went wrote.keeps);
    }

    -- A write of the answers that were owed failed.
    pub drives_failed : (stop : Stop) → StopsWriting b o l mid new mid.owed None stop
        → DrivesLines b o l old new before now (Stopped stop)
    drives_failed stop wrote = record {
      driven = λ start begun. front_of_all space_rest before now
          (AtWrite (HasSpacedFronts b o l new start) stop) end
          (made_then space_rest before now (SpacesTicks b o l mid start)
          (OfFront (AtWrite (HasSpacedFronts b o l new start) stop)) end (taken start begun)
          (λ line at. at_write (HasSpacedFronts b o l new start) stop line wrote.why
          (subst (StopsWithin b o l new start) (sym at.are)
          (wrote.stopped start at.line at.behind at.many at.texts))));
      keeps = holds-then b o l old mid new (Err stop) went wrote.keeps;
    }

-- The end of an input is no want of memory.
pub has_memory : (end : End) → has_stopped end ≡ false → (status : Status) → EndsAs end status
    → status ≡ NoMemory → ⊥
has_memory Whole other status (inl done) none =
    let both : Done ≡ NoMemory = sym done ∙ none in cc
has_memory Whole other status (inr fault) none =
    let both : WriteFault ≡ NoMemory = sym fault ∙ none in cc
has_memory (Refused bad) other status is none = cc
has_memory end other status is none = cc

-- A run that took nothing lacked memory.
pub nothing_taken : (made : LineAndNotes) (in_before in_now : Option (List ℕ))
    (before now : SinkTexts) (status : Status)
    → TakesNothing made in_before in_now before now status → status ≡ NoMemory
nothing_taken made in_before in_now before now NoMemory h = refl
nothing_taken made in_before in_now before now status h = absurd h

-- What `space` leaves if it has taken all of its input: all accepted frames have left.
use Rattle.dnp_link_frame.specs.{Rules.dnp_rules, RulesLaws.dnp_lawful, RulesLaws.dnp_framed}
use Rattle.{line_spacer.specs.Spacing.accepted_of, line_texts.specs.Sending.SinkTexts}
use Rattle.{link_replay.specs.ReadCommand.device_reads}
use Rattle.link_replay.specs.SpaceCommand.{spaced_by, SpacesInput, SpacesTexts, Spaces}
use Rattle.command_ends.specs.Links.{gap_of}
use Rattle.command_ends.specs.declared.link.Profile.{Profile, TheVariants.Y18, TheVariants.Y24}
use Rattle.command_ends.specs.declared.link.Proto.{Proto, TheVariants.Rtu, TheVariants.Dnp3}
use Rattle.command_ends.specs.{Outside.Outside, Outside.outside, declared.status.Status.Status}
use Rattle.command_ends.specs.declared.status.Status.TheVariants.{Done}
use Rattle.line_commands.specs.{SpacedTexts.most_waiting, SpacesLine.SpacesLine}
use Rattle.{line_commands.specs.SpacesLine.space_rest, spacer_laws.proofs.Leaving.rtu-leave}
use Rattle.spacer_laws.proofs.Leaving.{hunt-leave, left-by}
use Rattle.spacer_laws.specs.Leaving.{HaveLeft, AllLeave}
use Rattle.std.proofs.Common.{◌≡◌, ◌∙◌, ℕ, List, ◌++◌, length, Option, ap, sym}
use Rattle.std.proofs.Common.{subst, arith, refl}
use Rattle.tick_drive.proofs.ItemLaws.{ticks_in-append}
use Rattle.tick_drive.specs.{Input.Takes, Items.silent_items, declared.end.End.TheVariants.Whole}
use Rattle.yasir_io.specs.declared.{sink.Sink.Ghosts as Sink, source.Source.Ghosts as Source}
use Rattle.yasir_ticks.proofs.{TextTicks.text-ticks, TickRuns.ticks_in-run}
use Rattle.yasir_ticks.specs.Ticks.{Item, ticks_in, silent, AreTicks}
use Rattle.yasir_ticks.specs.declared.{tick.Tick.Tick, tick_run.TickRun.TheVariants.Silence}

-- The silence that follows an input is long enough for all accepted frames to leave.
all-leave : (proto : Proto) (profile : Profile) (line : List Tick) → AreTicks line
    → AllLeave (device_reads proto) (gap_of profile) most_waiting line space_rest
all-leave Rtu Y18 line are =
    left-by (length (line ++ silent 21000))
    (accepted_of (device_reads Rtu) 21 64 (line ++ silent 21000))
    (rtu-leave 4 2 21 64 line 21000 0 (omega arith))
all-leave Rtu Y24 line are =
    left-by (length (line ++ silent 21000))
    (accepted_of (device_reads Rtu) 27 64 (line ++ silent 21000))
    (rtu-leave 4 2 27 64 line 21000 0 (omega arith))
all-leave Dnp3 Y18 line are =
    left-by (length (line ++ silent 21000))
    (accepted_of (device_reads Dnp3) 21 64 (line ++ silent 21000))
    (hunt-leave 0x05 0x64 dnp_rules dnp_lawful dnp_framed 21 0 64 line 21000 0 are (omega arith))
all-leave Dnp3 Y24 line are =
    left-by (length (line ++ silent 21000))
    (accepted_of (device_reads Dnp3) 27 64 (line ++ silent 21000))
    (hunt-leave 0x05 0x64 dnp_rules dnp_lawful dnp_framed 27 0 64 line 21000 0 are (omega arith))

whole-left : (proto : Proto) (profile : Profile) (before now : Option (List ℕ)) (items : List Item)
    → Takes 0 space_rest before now items Whole
    → HaveLeft (length (ticks_in items))
    (accepted_of (device_reads proto) (gap_of profile) most_waiting (ticks_in items))
whole-left proto profile before now items whole =
    let line = ticks_in whole.told in
    let all : ticks_in items ≡ line ++ silent space_rest =
    ap ticks_in whole.are ∙ ticks_in-append whole.told (silent_items space_rest)
    ∙ ap (λ x. line ++ x) (ticks_in-run (Silence space_rest)) in
    subst (λ l. HaveLeft (length l)
    (accepted_of (device_reads proto) (gap_of profile) most_waiting l)) (sym all)
    (all-leave proto profile line (text-ticks 0 whole.text whole.told whole.right))

module _ (proto : Proto) (profile : Profile) (in_before in_now : Option (List ℕ))
    (before now : SinkTexts) where
  spaces-by : (status : Status)
      → SpacesLine (spaced_by proto profile) in_before in_now before now status
      → SpacesInput proto profile in_before in_now before now status
  spaces-by Done h = record {
    items = h.items;
    takes = h.takes;
    sent = h.makes;
    left = whole-left proto profile in_before in_now h.items h.takes;
  }
  spaces-by status h = h

  pub whole-spaces : (status : Status) → SpacesInput proto profile in_before in_now before now status
      → SpacesLine (spaced_by proto profile) in_before in_now before now status
  whole-spaces Done h = record { items = h.items; takes = h.takes; makes = h.sent }
  whole-spaces status h = h

-- If the input and the sinks are as they were, and nothing else was touched, so is the outside.
pub same-outside : {K S O L D : Type 0} (key : K) (in0 in1 : S) (out0 out1 : O) (log0 log1 : L)
    (disk : D) → in1 ≡ in0 → out1 ≡ out0 → log1 ≡ log0
    → outside key in1 out1 log1 disk ≡ outside key in0 out0 log0 disk
same-outside key in0 in1 out0 out1 log0 log1 disk input out log = rw (input, out, log) refl

-- If a run of a spacer has written the texts that `space` makes, it has done what `space` does.
module _ {K S O L D : Type 0} (s : Source S) (o : Sink O) (l : Sink L) (proto : Proto)
    (profile : Profile) (before after : Outside K S O L D) where
  pub spaces-of : (status : Status)
      → SpacesTexts s o l (spaced_by proto profile) before after status
      → Spaces s o l proto profile before after status
  spaces-of status h = record {
    line = spaces-by proto profile _ _ _ _ status h.line;
    untouched = h.untouched;
    key = h.key;
    disk = h.disk;
  }

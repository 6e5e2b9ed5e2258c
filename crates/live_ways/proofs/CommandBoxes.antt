-- What both ways of a live line say at the start, and what a run says of these two boxes and this
-- spacer.
use Rattle.frame_ending.specs.Causal.{IsCausal}
use Rattle.line_commands.proofs.Histories.{told_none}
use Rattle.line_commands.proofs.Texts.{text_nil}
use Rattle.line_commands.proofs.Walking.{walk-boxed}
use Rattle.line_commands.specs.Boxes.{Boxed, IsBoxed}
use Rattle.line_commands.specs.History.{History}
use Rattle.line_commands.specs.LinkBoxed.{boxed_of}
use Rattle.line_commands.specs.Lines.{HasRead}
use Rattle.line_commands.specs.LiveText.{IsTextOf}
use Rattle.line_commands.specs.ReplaysBox.{boxed_with}
use Rattle.line_commands.specs.Sending.{made_by}
use Rattle.line_commands.specs.SpacedTexts.{most_waiting}
use Rattle.line_commands.specs.declared.port.Port.{Ghosts as Port}
use Rattle.line_commands.specs.declared.spacers.LineSpacer.{Ghosts as LineSpacer}
use Rattle.line_spacer.specs.Spacing.{spaced_line}
use Rattle.line_texts.specs.Sending.{LineAndNotes}
use Rattle.link_box.specs.Walking.{frames_of}
use Rattle.link_box.specs.declared.box_trait.LinkBox.{Ghosts as LinkBox}
use Rattle.link_format.specs.NumberedFrame.{numbers_of}
use Rattle.link_format.specs.Setup.{Setup}
use Rattle.live_line.proofs.Ended.{ended_nil}
use Rattle.live_line.specs.BothWays.{HandedBoth, lines_in}
use Rattle.live_line.specs.WayLines.{HasTakenOn}
use Rattle.live_line.specs.WayText.{text_on}
use Rattle.live_line.specs.declared.guarded_box.GuardedBox.{GuardedBox}
use Rattle.live_line.specs.declared.plain_box.PlainBox.{PlainBox}
use Rattle.live_line.specs.declared.way_box.WayBox.{Ghosts as WayBox}
use Rattle.live_line.specs.declared.ways.Way.{Way}
use Rattle.live_line.specs.declared.ways.Way.TheVariants.{Outgoing, Incoming}
use Rattle.live_ways.proofs.CommandRuns.{HasRisingNumbers}
use Rattle.live_ways.specs.BothDisks.{disk_on}
use Rattle.live_ways.specs.Driving.{IsLevel}
use Rattle.live_ways.specs.LineBegins.{BeginsBoth, plain_way, guarded_way, setups}
use Rattle.live_ways.specs.LiveLine.{line_at, StandsClear, IsReadyLine, lines_on}
use Rattle.live_ways.specs.LiveLine.{box_on, reader_on, made_on, number_on}
use Rattle.live_ways.specs.WayCommand.{BothWays}
use Rattle.live_ways.specs.WayLoads.{journal_on}
use Rattle.live_ways.specs.WayStreams.{line_of_boxes}
use Rattle.live_ways.specs.declared.both_disks.BothDisks.{BothDisks}
use Rattle.live_ways.specs.declared.both_ways.LiveLine.{LiveLine}
use Rattle.live_ways.specs.declared.loads.BothJournals.{BothJournals}
use Rattle.live_ways.specs.declared.loads.LineLinks.{LineLinks}
use Rattle.sequence_journal.specs.Journal.{Fits, journal_floor}
use Rattle.sequence_journal.specs.Uptimes.{RiseFrom}
use Rattle.std.proofs.Common.{◌≡◌, ◌∙◌, ℕ, List, [], length, refl, sym, ap, subst, arith}
use Rattle.yasir_io.specs.declared.disk.SlotDisk.{Ghosts as SlotDisk}
use Rattle.yasir_ticks.specs.TickText.{lines_of}
use Rattle.yasir_ticks.specs.declared.tick.Tick.{Tick}
use Rattle.device_model.specs.Frames.{FrameRead}

-- ---- nothing was read

no_text : (way : Way) → text_on way [] ≡ []
unfolding lines_of
no_text way = refl

no_lines : (way : Way) → lines_in [] way ≡ []
unfolding lines_of
no_lines way = refl

-- Of no tick nothing is made.
pub record MakesNothing (made : LineAndNotes) : Type 0 where
  pub no_tick : made.other_line [] ≡ []
  pub no_note : made.note_lines [] ≡ []

handed_none : (made : Way → LineAndNotes) (start : History) → ((way : Way) → MakesNothing (made way))
    → HandedBoth made start start [] (λ way. [])
handed_none made start nothing = record {
  events = [];
  is = told_none start;
  read_is = refl;
  text = λ way. subst (λ text. IsTextOf text ((made way).other_line [])) (sym (no_text way))
      (subst (IsTextOf []) (sym (nothing way).no_tick) text_nil);
  notes = λ way. no_text way ∙ sym (nothing way).no_note;
  out_ended = ended_nil;
  log_ended = ended_nil;
  out_flushed = refl;
  log_flushed = refl;
  in_order = tt;
}

module _ {X Y P D : Type 0} (x : WayBox X) (y : WayBox Y) (p : Port P) (d : SlotDisk D)
    (journals : BothJournals) (ahead : Way → ℕ) (setup : Way → Setup) (line : LiveLine X Y)
    (begins : BeginsBoth x y line journals ahead setup) where
  -- Over disks that hold the journals, both ways may take ticks.
  pub ready_first : (port : P) (disks : BothDisks D)
      → ((way : Way) → Fits (journal_on journals way) (d.told (disk_on disks way)))
      → IsReadyLine x y p d (line_at line port disks)
  ready_first port disks fits way = record {
    able = record {
      may = begins.may way;
      ahead = begins.ahead_by way;
      stands = begins.stands way (d.told (disk_on disks way)) (fits way);
    };
    counted = begins.none way ∙ sym (begins.nothing.count way);
    few = omega (arith, begins.nothing.count way);
  }

  -- The disks were settled for the journals' floors.
  pub level_first : ((way : Way) → number_on x y setup way []
      ≡ journal_floor (journal_on journals way))
      → IsLevel line
  level_first at_floor way = ap journal_floor (begins.journal way)
      ∙ sym ((begins.taken way).settled ∙ at_floor way)

  -- Nothing was handed on, and nothing waits.
  pub clear_first : ((way : Way) → MakesNothing (made_on x y setup way)) → (port : P)
      (disks : BothDisks D) → StandsClear x y p d (line_at line port disks) (record {
        start = p.history port;
        read = [];
        setup = setup;
      }) []
  clear_first nothing port disks = record {
    stands = record {
      parted = begins.nothing.parted;
      early = λ way. [];
      handed = handed_none (made_on x y setup) (p.history port) nothing;
      reads = λ way. record {
        has_read = subst (HasRead (reader_on line way).reader) (sym (no_text way))
            (begins.nothing.reads way);
        taken = subst (HasTakenOn (box_on x y way) (lines_on line way) (setup way) [])
            (sym (no_lines way)) (begins.taken way);
        count = begins.nothing.count way ∙ sym (ap length (no_lines way));
      };
    };
    all = λ way. sym (no_lines way);
  }

-- ---- the boxes

spaced_none : (reads : List Tick → List FrameRead) (gap : ℕ) (line : List Tick) → line ≡ []
    → spaced_line reads gap most_waiting line ≡ []
spaced_none reads gap line is = ap (spaced_line reads gap most_waiting) is ∙ refl

module _ {B N C M G : Type 0} (b : LinkBox B N) (sent_line : N → List ℕ) (c : LinkBox C M)
    (got_line : M → List ℕ) (g : LineSpacer G)
    (sent_causal : (value : B) (last : ℕ) (setup : Setup) (line : List Tick)
    → b.stands value last setup line → IsCausal (b.walking.walker setup))
    (sent_rising : (setup : Setup) (line : List Tick)
    → RiseFrom setup.floor (numbers_of (frames_of b.walking setup line)))
    (got_causal : (value : C) (last : ℕ) (setup : Setup) (line : List Tick)
    → c.stands value last setup line → IsCausal (c.walking.walker setup))
    (got_rising : (setup : Setup) (line : List Tick)
    → RiseFrom setup.floor (numbers_of (frames_of c.walking setup line)))
    (of : LineLinks) (key : List ℕ) (journals : BothJournals)
    (line : LiveLine (PlainBox B) (GuardedBox C G)) where
  abbrev pub ways : BothWays
  ways = line_of_boxes b sent_line c got_line g of

  abbrev pub setup : Way → Setup
  setup = setups ways key journals

  abbrev pub boxes : Way → ℕ → Boxed
  boxes way = boxed_with (ways.boxed way) key (ways.dir way)

  abbrev pub sends : WayBox (PlainBox B)
  sends = plain_way b sent_line

  abbrev pub gets : WayBox (GuardedBox C G)
  gets = guarded_way c got_line g

  abbrev floor : Way → ℕ
  floor way = journal_floor (journal_on journals way)

  pub made_is : (way : Way) → made_on sends gets setup way ≡ made_by (boxes way (floor way))
  made_is Outgoing = refl
  made_is Incoming = refl

  pub number_is : (way : Way) (line : List Tick) → number_on sends gets setup way line
      ≡ (boxes way (floor way)).number line
  number_is Outgoing line = refl
  number_is Incoming line = refl

  module _ (begins : BeginsBoth sends gets line journals ways.ahead setup) where
    sent_laws : IsBoxed (boxed_of b.walking sent_line (setup Outgoing)) (floor Outgoing)
    sent_laws = walk-boxed b.walking sent_line (setup Outgoing)
        (sent_causal _ _ (setup Outgoing) [] (begins.taken Outgoing).stood.steps)
        (sent_rising (setup Outgoing))

    got_laws : IsBoxed (boxed_of c.walking got_line (setup Incoming)) (floor Incoming)
    got_laws = walk-boxed c.walking got_line (setup Incoming)
        (got_causal _ _ (setup Incoming) [] (begins.taken Incoming).stood.plain.steps)
        (got_rising (setup Incoming))

    pub rising_numbers : (way : Way) → HasRisingNumbers (boxes way (floor way)) (floor way)
    rising_numbers Outgoing = record { rising = sent_laws.rising; last_is = sent_laws.last_is }
    rising_numbers Incoming = record { rising = got_laws.rising; last_is = got_laws.last_is }

    pub makes_nothing : (way : Way) → MakesNothing (made_on sends gets setup way)
    makes_nothing Outgoing = record { no_tick = sent_laws.no_tick; no_note = sent_laws.no_note }
    makes_nothing Incoming = record {
      no_tick = spaced_none g.reads g.gap _ got_laws.no_tick;
      no_note = got_laws.no_note;
    }

    pub at_floor : (way : Way) → number_on sends gets setup way [] ≡ floor way
    at_floor Outgoing = sent_laws.from_floor
    at_floor Incoming = got_laws.from_floor

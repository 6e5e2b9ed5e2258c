use Rattle.line_commands.proofs.Walking.{walk-boxed}
use Rattle.line_commands.specs.{LinkBoxed.boxed_of, Sending.made_by}
use Rattle.line_texts.proofs.Sending.{begins, fronts_sent}
use Rattle.line_texts.specs.Writer.{WriterHasWritten}
use Rattle.{line_texts.specs.Texts.waiting_in, link_format.specs.Setup.setup_of}
use Rattle.sequence_journal.specs.Journal.{journal_link, journal_floor}
use Rattle.std.proofs.Common.{◌∙◌, [], ap, refl, sym, subst}
use Rattle.line_commands.proofs.box_lines.BoxLines.new.Goals as goal

pub returns-clause-may : goal.returns-clause-may
returns-clause-may g c = λ told fits.
    let stands = c.new-2.ensures.stands told fits in record {
      ready = record {
        serves = record {
          of_link = c.in_memory.ensures.link ∙ c.requires.link ∙ sym c.new.ensures.link;
          fits = c.in_memory.ensures.fits;
        };
        link_is = ap journal_link c.new-2.ensures.journal ∙ c.requires.link
            ∙ sym c.new.ensures.link;
        level = c.new-2.ensures.number ∙ ap journal_floor c.new-2.ensures.journal
            ∙ sym c.in_memory.ensures.floor;
        rising = stands.rising;
      };
      room = c.new-3.ensures.room;
      fits = stands.fits;
    }

pub returns-clause-drives : goal.returns-clause-drives
returns-clause-drives g c = λ link texts told is.
    let floor = journal_floor c.args.journal in
    let setup = setup_of c.args.key.now c.args.dir floor in
    let stands = c.new.ensures.stands floor in
    let laws = walk-boxed g.B.LinkBox.walking g.B.LineBox.line_of setup
    (g.met.B.LineBox.causal c.new.result floor setup [] stands) (g.met.B.LineBox.rising setup) in
    let made = made_by (boxed_of g.B.LinkBox.walking g.B.LineBox.line_of setup) in
    let sends = begins made c.new-3.result.writer _ _ texts laws.no_tick laws.no_note
    c.new-3.ensures.written c.new-3.ensures.ticks c.new-3.ensures.notes in
    record {
      took = record {
        stood = record {
          steps = subst (λ n. g.B.LinkBox.stands c.new.result n setup [])
              (sym c.in_memory.ensures.floor) stands;
          number_is = c.in_memory.ensures.floor ∙ sym laws.from_floor;
        };
        sends = sends;
      };
      link_is = ap journal_link c.new-2.ensures.journal ∙ is;
      handed = record {
        early = [];
        later = [];
        is = refl;
        sent = fronts_sent made (waiting_in c.new-3.result) texts texts [] sends;
        settled = ap journal_floor c.new-2.ensures.journal ∙ sym laws.from_floor;
      };
    }

pub returns-clause-stands : goal.returns-clause-stands
returns-clause-stands g c =
    let floor = journal_floor c.args.journal in
    let setup = setup_of c.args.key.now c.args.dir floor in
    let stands = c.new.ensures.stands floor in
    let laws = walk-boxed g.B.LinkBox.walking g.B.LineBox.line_of setup
    (g.met.B.LineBox.causal c.new.result floor setup [] stands) (g.met.B.LineBox.rising setup) in
    record {
      steps = subst (λ n. g.B.LinkBox.stands c.new.result n setup [])
          (sym c.in_memory.ensures.floor) stands;
      number_is = c.in_memory.ensures.floor ∙ sym laws.from_floor;
    }

pub returns-clause-waits : goal.returns-clause-waits
returns-clause-waits g c = record {
  written = subst (WriterHasWritten c.new-3.result.writer []) (sym c.new-3.ensures.ticks)
      c.new-3.ensures.written;
  notes_are = c.new-3.ensures.notes;
}

use Rattle.line_commands.proofs.Walking.{walk-boxed}
use Rattle.line_commands.specs.{BoxLines.ToldFloor, LinkBoxed.boxed_of, Sending.made_by}
use Rattle.{link_format.specs.Setup.setup_of, line_commands.proofs.Handing.handed_none}
use Rattle.live_commands.proofs.Taken.{nothing_more}
use Rattle.sequence_journal.specs.Journal.{journal_link, journal_floor}
use Rattle.std.proofs.Common.{◌∙◌, [], refl, sym, ap, subst}
use Rattle.live_commands.proofs.live_box.LiveBox.new.Goals as goal

pub returns-clause-clear : goal.returns-clause-clear
returns-clause-clear g c = λ told fits.
    let may = c.new.ensures.may told fits in record {
      waits = c.new.ensures.waits;
      settled = c.new.ensures.settled ∙ sym c.new.ensures.number;
      ahead = may.ahead;
      stands = may.stands;
    }

pub returns-clause-filters : goal.returns-clause-filters
returns-clause-filters g c = λ history link told is fits.
    let floor = journal_floor c.args.journal in
    let setup = setup_of c.args.key.now c.args.dir floor in
    let stands = c.new.ensures.stands in
    let made = made_by (boxed_of g.B.LinkBox.walking g.B.LineBox.line_of setup) in
    let laws = walk-boxed g.B.LinkBox.walking g.B.LineBox.line_of setup
    (g.met.B.LineBox.causal _ _ setup [] stands.steps) (g.met.B.LineBox.rising setup) in
    record {
      stood = stands;
      over = record {
        early = [];
        later = [];
        is = refl;
        handed = handed_none made history laws.no_tick laws.no_note;
        settled = c.new.ensures.settled ∙ sym laws.from_floor;
        answer = [];
        note = [];
        noted = nothing_more made [];
        waits = c.new.ensures.waits;
      };
      link_is = ap journal_link c.new.ensures.disk ∙ is;
      floor_told = subst (λ n. ToldFloor link n told) (sym (ap journal_floor c.new.ensures.disk))
          (subst (λ l. ToldFloor l floor told) is fits.floor);
    }

use Rattle.line_commands.proofs.Walking.{walk-boxed}
use Rattle.link_format.specs.Setup.{setup_of}
use Rattle.sequence_journal.specs.Journal.{journal_floor}
use Rattle.std.proofs.Common.{◌∙◌, [], sym, subst}
use Rattle.live_line.proofs.plain_box.PlainBox.new.Goals as goal

pub returns-clause-stands : goal.returns-clause-stands
returns-clause-stands g c =
    let floor = journal_floor c.args.journal.now in
    let setup = setup_of c.args.key.now c.args.dir floor in
    let stands = c.new.ensures.stands floor in
    let laws = walk-boxed g.B.LinkBox.walking g.B.LineBox.line_of setup
    (g.met.B.LineBox.causal c.new.result floor setup [] stands) (g.met.B.LineBox.rising setup) in
    record {
      steps = subst (λ n. g.B.LinkBox.stands c.new.result n setup [])
          (sym c.in_memory.ensures.floor) stands;
      number_is = c.in_memory.ensures.floor ∙ sym laws.from_floor;
    }

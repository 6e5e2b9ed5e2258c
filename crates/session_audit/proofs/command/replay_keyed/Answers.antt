use Rattle.{link_format.specs.Setup.setup_of, session_audit.proofs.Recording.recorded-prints}
use Rattle.session_audit.specs.{Listing.listing_with, Listing.listing_text, Printing.PrintsText}
use Rattle.session_audit.specs.Recorded.{device_line, recorded_lines, link_ticks}
use Rattle.session_lists.specs.Listed.{link_rest}
use Rattle.command_ends.proofs.{EndCauses.input_cause_of_whole, FlushLaws.flushes_of_whole}
use Rattle.std.proofs.Common.{refl, subst}
use Rattle.session_audit.proofs.command.replay_keyed.Goals as goal

pub returns-clause-prints : goal.returns-clause-prints
returns-clause-prints g c =
    let setup = setup_of c.args.key.now c.args.dir 0 in
    let both = c.in-Whole.ensures.listed in
    let takes = both.takes in
    let line = device_line c.args.device_rest takes.told in
    let link = link_ticks takes.told in
    let listed = both.listed setup c.new-lists.ensures.listed in
    let listing = listing_with g.S.FrameBox g.C.FrameBox g.V.Device c.args.dir c.args.key.now in
    recorded-prints 1 link_rest (recorded_lines listing c.args.device_rest) (g.I.Source.left c.args.ends.input.now)
    (g.I.Source.left c.list_recordings-end.new.input) (g.O.Sink.held c.args.ends.out.now)
    (g.O.Sink.held c.print_listing.new.out) takes.told
    (record { text = takes.text; met = takes.met; right = takes.right; few = takes.few })
    c.print_listing.result
    (subst (λ held. PrintsText (listing_text (listing line link)) held
    (g.O.Sink.held c.print_listing.new.out) c.print_listing.result) c.in-Whole.ensures.out
    (c.print_listing.ensures.prints (listing line link) (record {
      sealed_ones = c.sealed.ensures setup line link listed;
      passed_ones = c.passed.ensures setup line link listed;
      read_ones = c.read.ensures setup line link listed;
      in_turn = c.requires.in_turn setup line;
    })))

pub returns-clause-input : goal.returns-clause-input
returns-clause-input g c = input_cause_of_whole _ _ c.print_listing.result
    c.print_listing.ensures.status (c.in-Whole.ensures.read.same refl)

pub returns-clause-flushes : goal.returns-clause-flushes
returns-clause-flushes g c = flushes_of_whole g.O.Sink g.L.Sink _ _ _ _ _ _
    c.in-Whole.ensures.flushes c.in-Whole.ensures.log_faults c.print_listing.result
    c.print_listing.ensures.flushes

use Rattle.session_audit.{proofs.InOrder.prints-by, specs.Listing.listing_text}
use Rattle.command_ends.proofs.FlushLaws.{flushes_of_whole}
use Rattle.std.proofs.Common.{◌∙◌, [], inl, refl}
use Rattle.yasir_io.proofs.OutputLemmas.{printed}
use Rattle.session_audit.proofs.printing.print_listing.Goals as goal

pub returns-in_default-clause-prints : goal.returns-in_default-clause-prints
returns-in_default-clause-prints g c = λ listing holds.
    let before = g.O.Sink.held c.args.out.now in
    c.in_default.ensures.err listing holds before [] (c.new-text.ensures.stands before)

pub returns-in-Ok-drain-clause-prints : goal.returns-in-Ok-drain-clause-prints
returns-in-Ok-drain-clause-prints g c = λ listing holds.
    let before = g.O.Sink.held c.args.out.now in
    prints-by (listing_text listing) before (g.O.Sink.held c.flush_both.new.out)
    c.flush_both.result c.flush_both.ensures.status
    (c.flush_both.ensures.out ∙ printed before (g.O.Sink.held c.drain.new.sink)
    (listing_text listing) (c.in-Ok-drain.ensures.ok before (listing_text listing)
    (c.in-Ok.ensures.ok listing holds before [] (c.new-text.ensures.stands before))))

pub returns-in-Err-clause-prints : goal.returns-in-Err-clause-prints
returns-in-Err-clause-prints g c = λ listing holds.
    let before = g.O.Sink.held c.args.out.now in
    c.in-Err.ensures.err before (listing_text listing)
    (c.in-Ok.ensures.ok listing holds before [] (c.new-text.ensures.stands before))

pub returns-in_default-clause-flushes : goal.returns-in_default-clause-flushes
returns-in_default-clause-flushes g c =
    inl (record { out = c.in_default.ensures.flushes; log = refl })

pub returns-in-Ok-drain-clause-flushes : goal.returns-in-Ok-drain-clause-flushes
returns-in-Ok-drain-clause-flushes g c = flushes_of_whole g.O.Sink g.L.Sink _ _ _ _ _ _ (record {
  out = c.in-Ok-drain.ensures.flushes ∙ c.in-Ok.ensures.flushes;
  log = refl;
}) refl c.flush_both.result c.flush_both.ensures.flushes

pub returns-in-Err-clause-flushes : goal.returns-in-Err-clause-flushes
returns-in-Err-clause-flushes g c = inl (record {
  out = c.in-Err.ensures.flushes ∙ c.in-Ok.ensures.flushes;
  log = refl;
})

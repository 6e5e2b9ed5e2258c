use Rattle.dnp_link_frame.specs.{Dnp.DnpStandsFor, Rules.dnp_rules}
use Rattle.{line_rules.proofs.Taking.HasTaken, std.proofs.Common.◌≡◌, std.proofs.Common.◌+◌}
use Rattle.dnp_link_frame.proofs.dnp.Dnp.take_header_bytes.Given as goal

abbrev pub invariant-loop-place : goal.invariant-loop-place
invariant-loop-place l = (l.self.len ≡ l.fn.self.len + l.place)
    × HasTaken dnp_rules DnpStandsFor l.fn.self l.following l.self l.place

use Rattle.dnp_link_frame.{proofs.DnpRuns.header_has_room-next, specs.Dnp.DnpStandsFor}
use Rattle.{dnp_link_frame.specs.Rules.dnp_rules, line_rules.proofs.Taking.taken-none}
use Rattle.{line_rules.proofs.Taking.taken-next, std.proofs.Common.arith, std.proofs.Common.refl}
use Rattle.dnp_link_frame.proofs.dnp.Dnp.take_header_bytes.Goals as goal

pub loop-place-init : goal.loop-place-init
loop-place-init c = (
  omega arith,
  taken-none dnp_rules DnpStandsFor c.args.self.now c.args.following.now,
)

pub loop-place-preserved : goal.loop-place-preserved
loop-place-preserved c = (
  omega (arith, c.loop-place.invariant.0),
  taken-next dnp_rules DnpStandsFor c.args.self.now c.args.following.now c.loop-place.self
      c.take_header_byte.new.self c.loop-place.place _ c.loop-place.invariant.1 (omega arith) refl
      (λ x stands. header_has_room-next c.loop-place.self x stands (omega arith))
      c.take_header_byte.ensures.stands,
)

-- How long a header may be.
use Rattle.std.specs.Prelude.{◌+◌, ◌*◌, ◌≤◌}
use Rattle.line_rules.specs.Rules.{Rules}
use Rattle.link_format.specs.Profile.{Profile, delay}

-- Holds if a header is short enough: with at most one silent tick between its bytes, all of it has
-- come by the tick in which its first byte must leave.
pub record IsTimely (profile : Profile) (rules : Rules) : Type 0 where
  pub in_time : 2 * rules.header_len ≤ delay profile + 2

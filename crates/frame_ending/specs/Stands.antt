-- What a value that cuts a line represents.
use Rattle.std.specs.Prelude.{◌≡◌, ℕ, List, length}
use Rattle.line_rules.specs.declared.line_rules.LineRules.{Ghosts as LineRules}
use Rattle.yasir_ticks.specs.declared.tick.Tick.{Tick}
use Rattle.frame_ending.specs.declared.burst_cut.BurstCut.{BurstCut}
use Rattle.frame_ending.specs.SoFar.{start_so_far, live_bytes_so_far, last_live_so_far}
use Rattle.frame_ending.specs.SoFar.{has_extra_so_far, has_paused_so_far, quiet_so_far}

-- Holds if the value has taken these ticks, by the rules of a protocol.
pub record CutStandsFor {R : Type 0} (proto : LineRules R) (value : BurstCut R) (line : List Tick) :
    Type 0 where
  pub count : value.taken ≡ length line
  pub quiet_is : value.quiet ≡ quiet_so_far line
  pub start_is : value.start ≡ start_so_far line
  pub last_live_is : value.last_live ≡ last_live_so_far proto.rules line
  pub extra_is : value.extra ≡ has_extra_so_far proto.rules line
  pub paused_is : value.paused ≡ has_paused_so_far line
  pub bytes : proto.stands value.rules (live_bytes_so_far proto.rules line)

-- how many ticks the value has taken
abbrev pub ticks_taken : {R : Type 0} → BurstCut R → ℕ
ticks_taken value = value.taken

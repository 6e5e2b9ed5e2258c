-- The live bytes are at the front of what is kept of a burst.
use Rattle.frame_ending.specs.SoFar.{live_bytes_so_far}
use Rattle.line_rules.specs.declared.line_rules.LineRules.{Ghosts as LineRules}
use Rattle.session_audit.{proofs.BurstRuns.live-first, specs.BurstBytes.burst_bytes_so_far}
use Rattle.std.proofs.Common.{◌≡◌, ◌∙◌, ℕ, ◌≤◌, List, length, ap, arith, take}
use Rattle.{std.proofs.lemmas.List.take-take, yasir_ticks.specs.declared.tick.Tick.Tick}

pub shown-live : {R : Type 0} (proto : LineRules R) (rules : R) (count : ℕ) (kept : List ℕ)
    (line : List Tick) → proto.MAX ≤ 292
    → proto.stands rules (live_bytes_so_far proto.rules line)
    → count ≡ length (live_bytes_so_far proto.rules line)
    → kept ≡ take 292 (burst_bytes_so_far line)
    → take count kept ≡ live_bytes_so_far proto.rules line
shown-live proto rules count kept line room stands is first =
    let x = live_bytes_so_far proto.rules line in
    let within = proto.within rules x stands in
    let bounded = proto.lawful.bounded x (proto.bytes rules x stands) in
    let longest = proto.numbers.longest_is in
    let few : length (live_bytes_so_far proto.rules line) ≤ 292 = omega arith in
    ap (λ k. take k kept) is
    ∙ (ap (take (length (live_bytes_so_far proto.rules line))) first
    ∙ (take-take (length (live_bytes_so_far proto.rules line)) 292 (burst_bytes_so_far line) few
    ∙ live-first proto.rules line))

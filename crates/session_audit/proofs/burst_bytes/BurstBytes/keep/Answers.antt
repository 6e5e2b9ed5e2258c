use Rattle.std.proofs.Common.{◌≡◌, ◌∙◌, ◌-◌, ◌≤◌, ◌++◌, ap, arith, length, min, take}
use Rattle.std.proofs.lemmas.List.{length-take}
use Rattle.session_audit.proofs.BurstRuns.{take-room}
use Rattle.session_audit.proofs.burst_bytes.BurstBytes.keep.Goals as goal

pub append-requires : goal.append-requires
append-requires c = omega (
  arith,
  c.len-room.ensures.value,
  c.len-room.ensures.fits,
  c.min-count.ensures,
  length-take c.min-count.result c.args.bytes.now,
)

pub returns-clause-bytes : goal.returns-clause-bytes
returns-clause-bytes c =
    let few : length c.args.self.now.bytes.items ≤ 292 = omega (
      arith,
      c.len-room.ensures.value,
      c.len-room.ensures.fits,
    ) in
    let count : c.min-count.result
    ≡ min (292 - length c.args.self.now.bytes.items) (length c.args.bytes.now) = omega (
      arith,
      c.len-room.ensures.value,
      c.min-count.ensures,
    ) in
    c.append.ensures
    ∙ (ap (λ k. c.args.self.now.bytes.items ++ take k c.args.bytes.now) count
    ∙ take-room 292 c.args.self.now.bytes.items c.args.bytes.now few)

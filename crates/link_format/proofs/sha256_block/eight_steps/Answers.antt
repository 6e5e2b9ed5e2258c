use Rattle.link_format.proofs.Sha256Blocks.{rounds_at}
use Rattle.std.proofs.Common.{arith}
use Rattle.link_format.proofs.sha256_block.eight_steps.Goals as goal

pub returns : goal.returns
returns c = λ words h keyed held.
    let s1 = c.step-v.ensures words h keyed held in
    let s2 = c.step-v-2.ensures words h keyed s1 in
    let s3 = c.step-v-3.ensures words h keyed (rounds_at h words _ _ _ (omega arith) s2) in
    let s4 = c.step-v-4.ensures words h keyed (rounds_at h words _ _ _ (omega arith) s3) in
    let s5 = c.step-v-5.ensures words h keyed (rounds_at h words _ _ _ (omega arith) s4) in
    let s6 = c.step-v-6.ensures words h keyed (rounds_at h words _ _ _ (omega arith) s5) in
    let s7 = c.step-v-7.ensures words h keyed (rounds_at h words _ _ _ (omega arith) s6) in
    rounds_at h words _ _ _ (omega arith)
    (c.step.ensures words h keyed (rounds_at h words _ _ _ (omega arith) s7))

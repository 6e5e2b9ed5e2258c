use Rattle.link_format.proofs.{KeyedWords.keyed_none, KeyedWords.AreKeyed_at, KeyedWords.IsFour_at}
use Rattle.link_format.proofs.Sha1Blocks.{IsFour_first, eight_on}
use Rattle.{link_format.specs.Words.AreBytesOfWord, sha1.specs.Sha1.schedule, sha1.specs.Sha1.round_constant}
use Rattle.std.proofs.Common.{ℕ, List, ◌+◌, ◌*◌, arith}
use Rattle.link_format.proofs.sha1_block.keyed_schedule.Goals as goal

pub loop-i-init : goal.loop-i-init
loop-i-init c =
    let block : List ℕ = c.args.block.now in
    let words : List ℕ = schedule block 64 in
    let a = IsFour_first block 0 _ (omega arith) c.loaded-a.ensures in
    let b = IsFour_first block 4 _ (omega arith) c.loaded-b.ensures in
    let x = IsFour_first block 8 _ (omega arith) c.loaded-c.ensures in
    let d = IsFour_first block 12 _ (omega arith) c.loaded-d.ensures in
    let e = c.next_four-e.ensures block 0 (omega arith) a b x d in
    let f = c.next_four-f.ensures block 4 (omega arith) b x d e in
    let g = c.next_four-g.ensures block 8 (omega arith) x d e f in
    let h = c.next_four-h.ensures block 12 (omega arith) d e f g in
    let k1 = c.write_keyed.ensures words (keyed_none round_constant words _) a in
    let k2 = c.write_keyed-2.ensures words k1 b in
    let k3 = c.write_keyed-3.ensures words k2 x in
    let k4 = c.write_keyed-4.ensures words k3 d in
    let k5 = c.write_keyed-5.ensures words k4 e in
    let k6 = c.write_keyed-6.ensures words k5 f in
    let k7 = c.write_keyed-7.ensures words k6 g in
    let k8 = c.write_keyed-8.ensures words k7 h in
    (k8, record { is_a = a; is_b = b; is_c = x; is_d = d; is_e = e; is_f = f; is_g = g; is_h = h })

pub loop-i-preserved : goal.loop-i-preserved
loop-i-preserved c =
    let block : List ℕ = c.args.block.now in
    let words : List ℕ = schedule block 64 in
    let i : ℕ = c.loop-i.i in
    let eight = c.loop-i.invariant.1 in
    let bytes : AreBytesOfWord block = c.fits-block in
    let next = c.far_four-next.ensures block (4 * i) bytes (omega arith) eight.is_a eight.is_b
    eight.is_e eight.is_g eight.is_h in
    let keyed = c.write_keyed-in-loop-i.ensures words c.loop-i.invariant.0
    (IsFour_at words (4 * i + 32) (4 * (i + 8)) _ (omega arith) next) in (
      AreKeyed_at round_constant words _ (4 * (i + 8 + 1)) (4 * (i + 1 + 8)) (omega arith) keyed,
      eight_on words (4 * i) (4 * (i + 1)) _ _ _ _ _ _ _ _ _ (omega arith) eight next,
    )

pub returns : goal.returns
returns c =
    AreKeyed_at round_constant _ _ (4 * (c.loop-i.i + 8)) 80 (omega arith) c.loop-i.invariant.0

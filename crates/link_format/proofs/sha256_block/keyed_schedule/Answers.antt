use Rattle.link_format.proofs.{KeyedWords.keyed_none, KeyedWords.AreKeyed_at, KeyedWords.IsFour_at}
use Rattle.link_format.proofs.Sha256Blocks.{IsFour_first}
use Rattle.{link_format.specs.Sha256Words.round_constant, sha2.specs.Sha256.schedule}
use Rattle.link_format.specs.{Sha256Words.AreKeyed, Words.IsFour}
use Rattle.std.proofs.Common.{◌≡◌, ℕ, List, ◌+◌, ◌*◌, arith}
use Rattle.link_format.proofs.sha256_block.keyed_schedule.Goals as goal

pub loop-i-init : goal.loop-i-init
loop-i-init c =
    let block : List ℕ = c.args.block.now in
    let words : List ℕ = schedule block 48 in
    let a = IsFour_first block 0 _ (omega arith) c.loaded-a.ensures in
    let b = IsFour_first block 4 _ (omega arith) c.loaded-b.ensures in
    let x = IsFour_first block 8 _ (omega arith) c.loaded-c.ensures in
    let d = IsFour_first block 12 _ (omega arith) c.loaded-d.ensures in
    let k1 = c.write_keyed.ensures words (keyed_none round_constant words _) a in
    let k2 = c.write_keyed-2.ensures words k1 b in
    let k3 = c.write_keyed-3.ensures words k2 x in
    let k4 = c.write_keyed-4.ensures words k3 d in
    (k4, record { is_a = a; is_b = b; is_c = x; is_d = d })

pub loop-i-preserved : goal.loop-i-preserved
loop-i-preserved c =
    let block : List ℕ = c.args.block.now in
    let words : List ℕ = schedule block 48 in
    let i : ℕ = c.loop-i.i in
    let t : ℕ = 16 * i in
    let sixteen = c.loop-i.invariant.1 in
    let at : (n k : ℕ) (four : List ℕ) → n ≡ k → IsFour words n four → IsFour words k four =
    IsFour_at words in
    let keyed_at : (keyed : List ℕ) (n k : ℕ) → n ≡ k → AreKeyed words keyed n
    → AreKeyed words keyed k = AreKeyed_at round_constant words in
    let a = c.next_four-a.ensures block t (omega arith) sixteen.is_a sixteen.is_b sixteen.is_c
    sixteen.is_d in
    let b = c.next_four-b.ensures block (t + 4) (omega arith) sixteen.is_b
    (at (t + 8) (t + 4 + 4) _ (omega arith) sixteen.is_c)
    (at (t + 12) (t + 4 + 8) _ (omega arith) sixteen.is_d)
    (at (t + 16) (t + 4 + 12) _ (omega arith) a) in
    let x = c.next_four-c.ensures block (t + 8) (omega arith) sixteen.is_c
    (at (t + 12) (t + 8 + 4) _ (omega arith) sixteen.is_d)
    (at (t + 16) (t + 8 + 8) _ (omega arith) a)
    (at (t + 4 + 16) (t + 8 + 12) _ (omega arith) b) in
    let d = c.next_four-d.ensures block (t + 12) (omega arith) sixteen.is_d
    (at (t + 16) (t + 12 + 4) _ (omega arith) a)
    (at (t + 4 + 16) (t + 12 + 8) _ (omega arith) b)
    (at (t + 8 + 16) (t + 12 + 12) _ (omega arith) x) in
    let k1 = c.write_keyed-in-loop-i.ensures words c.loop-i.invariant.0
    (at (t + 16) (4 * (4 * i + 4)) _ (omega arith) a) in
    let k2 = c.write_keyed-in-loop-i-2.ensures words
    (keyed_at _ (4 * (4 * i + 4 + 1)) (4 * (4 * i + 5)) (omega arith) k1)
    (at (t + 4 + 16) (4 * (4 * i + 5)) _ (omega arith) b) in
    let k3 = c.write_keyed-in-loop-i-3.ensures words
    (keyed_at _ (4 * (4 * i + 5 + 1)) (4 * (4 * i + 6)) (omega arith) k2)
    (at (t + 8 + 16) (4 * (4 * i + 6)) _ (omega arith) x) in
    let k4 = c.write_keyed-in-loop-i-4.ensures words
    (keyed_at _ (4 * (4 * i + 6 + 1)) (4 * (4 * i + 7)) (omega arith) k3)
    (at (t + 12 + 16) (4 * (4 * i + 7)) _ (omega arith) d) in (
      keyed_at _ (4 * (4 * i + 7 + 1)) (4 * (4 * (i + 1) + 4)) (omega arith) k4,
      record {
        is_a = at (t + 16) (16 * (i + 1)) _ (omega arith) a;
        is_b = at (t + 4 + 16) (16 * (i + 1) + 4) _ (omega arith) b;
        is_c = at (t + 8 + 16) (16 * (i + 1) + 8) _ (omega arith) x;
        is_d = at (t + 12 + 16) (16 * (i + 1) + 12) _ (omega arith) d;
      },
    )

pub returns : goal.returns
returns c =
    AreKeyed_at round_constant _ _ (4 * (4 * c.loop-i.i + 4)) 64 (omega arith)
    c.loop-i.invariant.0

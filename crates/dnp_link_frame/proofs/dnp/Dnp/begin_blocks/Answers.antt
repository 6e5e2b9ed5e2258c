use Rattle.dnp_link_frame.proofs.DnpRuns.{is_begun-first, is_begun-next, is_begun-last}
use Rattle.std.proofs.{Common.◌<◌, Common.refl, Common.arith, lemmas.List.Elements.All-from_get_or}
use Rattle.dnp_link_frame.proofs.dnp.Dnp.begin_blocks.Goals as goal

pub loop-following-init : goal.loop-following-init
loop-following-init c =
    is_begun-first c.args.self.now c.args.run.now c.blocks_at_beginning-right.result
    c.requires.behind c.requires.begins c.requires.some c.requires.room
    (All-from_get_or (λ b. b < 256) c.args.run.now 0
    (λ i within. let fits = c.type_inv.run i in omega arith))
    c.blocks_at_beginning-right.ensures

pub loop-following-preserved : goal.loop-following-preserved
loop-following-preserved c =
    is_begun-next c.args.self.now c.args.run.now c.loop-following.following.now
    c.split_at.result.0.now c.split_at.result.1.now c.loop-following.right c.is_right-right.result
    c.after_at_once.result (omega arith) c.split_at.ensures.front c.split_at.ensures.back
    c.after_at_once.ensures c.is_right-right.ensures c.loop-following.invariant

pub returns : goal.returns
returns c =
    is_begun-last c.args.self.now _ c.args.run.now c.loop-following.following.now
    c.loop-following.right c.loop-following.invariant (omega arith) refl refl
    c.after_bytes-self.ensures refl refl refl refl

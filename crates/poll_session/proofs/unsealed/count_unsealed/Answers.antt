use Rattle.poll_session.proofs.Finding.{no-read, no-read-behind, reads-at}
use Rattle.poll_session.specs.Unsealed.{behind_frame, is_missing, still_unread, unsealed_reads}
use Rattle.receiver_laws.specs.Headline.{bytes_read, bytes_sealed}
use Rattle.session_lists.specs.ReplayLists.{kept_read, kept_reads}
use Rattle.std.proofs.Common.{◌≡◌, ◌∙◌, ◌+◌, ap, arith, drop, suc, sym}
use Rattle.std.proofs.lemmas.List.{length-map}
use Rattle.poll_session.proofs.unsealed.count_unsealed.Goals as goal

pub loop-at-preserved : goal.loop-at-preserved
loop-at-preserved c =
    let before = c.loop-at.invariant in
    let few = c.look_up-found.ensures.few in (
      omega (arith, before.0, few),
      λ frames reads sealed_ones read_ones.
          let ss = bytes_sealed frames in
          let rs = bytes_read reads in
          let n = c.loop-at.at in
          let many = c.len-at-end.ensures.frames (kept_reads reads) read_ones ∙ length-map reads kept_read in
          let below = c.loop-at-test.true in
          let more : suc n ≡ n + 1 = omega arith in
          let bytes = c.bytes.result.now in
          let left = drop c.loop-at.next ss in
          let sofar = before.1 frames reads sealed_ones read_ones in
          let one : unsealed_reads left (drop n rs) ≡ is_missing (behind_frame bytes left)
          + unsealed_reads (still_unread (behind_frame bytes left) left) (drop (suc n) rs) =
          reads-at bytes left reads n no-read (omega (arith, many, below))
          (c.bytes.ensures.frame (kept_reads reads) no-read read_ones) in
          let missing : c.look_up-found.result.missing ≡ is_missing (behind_frame bytes left) =
          c.look_up-found.ensures.missing frames sealed_ones in
          let next : unsealed_reads (drop c.look_up-found.result.next ss) (drop (n + 1) rs)
          ≡ unsealed_reads (still_unread (behind_frame bytes left) left) (drop (suc n) rs) =
          ap (λ l. unsealed_reads l (drop (n + 1) rs)) (c.look_up-found.ensures.next frames sealed_ones)
          ∙ ap (λ k. unsealed_reads (still_unread (behind_frame bytes left) left) (drop k rs)) (sym more) in
          omega (arith, sofar, one, missing, next),
    )

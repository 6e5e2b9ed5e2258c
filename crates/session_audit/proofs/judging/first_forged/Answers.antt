use Rattle.receiver_laws.proofs.InTurn.{among-in-place}
use Rattle.receiver_laws.specs.Accounted.{forged, is_among}
use Rattle.session_lists.specs.FrameBox.{kept_frames, kept_numbered}
use Rattle.session_audit.proofs.Judged.{numbered_of, frame-at, forged-here, forged-behind}
use Rattle.{session_audit.specs.Judging.first_head, std.proofs.Common.◌≡◌, std.proofs.Common.◌∙◌}
use Rattle.std.proofs.Common.{◌<◌, ◌≤◌, true, false, [], ◌∷◌, length, get_or, sym, ap}
use Rattle.std.proofs.{Common.arith, Common.refl, lemmas.List.length-map, lemmas.List.drop_all}
use Rattle.session_audit.proofs.judging.first_forged.Goals as goal

pub returns-then-not-is_at_its_number : goal.returns-then-not-is_at_its_number
returns-then-not-is_at_its_number c = λ sealed_ones passed_ones sealed passed turn.
    let i = c.loop-index.index in
    let d = numbered_of c.head-head.result c.bytes.result.now in
    let within : i < length passed_ones =
    omega (
      arith,
      c.loop-index-test.true,
      c.len-index-end.ensures.frames (kept_frames passed_ones) passed
          ∙ length-map passed_ones kept_numbered,
    ) in
    let is = frame-at passed_ones i c.head-head.result c.bytes.result.now within
    (c.head-head.ensures (kept_frames passed_ones) (kept_numbered d) passed)
    (c.bytes.ensures.frame (kept_frames passed_ones) (kept_numbered d) passed) in
    let none : is_among sealed_ones (get_or passed_ones i d) ≡ false =
    ap (is_among sealed_ones) is
    ∙ sym (c.is_at_its_number.ensures sealed_ones d sealed refl refl
    ∙ among-in-place c.args.floor sealed_ones d turn)
    ∙ c.if-not-is_at_its_number.true in
    sym (ap first_head (c.loop-index.invariant sealed_ones passed_ones sealed passed turn
    ∙ forged-here sealed_ones passed_ones i d within none)
    ∙ ap (λ f. first_head (f ∷ [])) is)

pub loop-index-preserved : goal.loop-index-preserved
loop-index-preserved c = λ sealed_ones passed_ones sealed passed turn.
    let i = c.loop-index.index in
    let d = numbered_of c.head-head.result c.bytes.result.now in
    let within : i < length passed_ones =
    omega (
      arith,
      c.loop-index-test.true,
      c.len-index-end.ensures.frames (kept_frames passed_ones) passed
          ∙ length-map passed_ones kept_numbered,
    ) in
    let is = frame-at passed_ones i c.head-head.result c.bytes.result.now within
    (c.head-head.ensures (kept_frames passed_ones) (kept_numbered d) passed)
    (c.bytes.ensures.frame (kept_frames passed_ones) (kept_numbered d) passed) in
    let there : is_among sealed_ones (get_or passed_ones i d) ≡ true =
    ap (is_among sealed_ones) is
    ∙ sym (c.is_at_its_number.ensures sealed_ones d sealed refl refl
    ∙ among-in-place c.args.floor sealed_ones d turn)
    ∙ c.if-not-is_at_its_number.false in
    c.loop-index.invariant sealed_ones passed_ones sealed passed turn
    ∙ forged-behind sealed_ones passed_ones i d within there

pub returns : goal.returns
returns c = λ sealed_ones passed_ones sealed passed turn.
    let all : length passed_ones ≤ c.loop-index.index =
    omega (
      arith,
      c.loop-index-test.false,
      c.len-index-end.ensures.frames (kept_frames passed_ones) passed
          ∙ length-map passed_ones kept_numbered,
    ) in
    sym (ap first_head (c.loop-index.invariant sealed_ones passed_ones sealed passed turn
    ∙ ap (forged sealed_ones) (drop_all c.loop-index.index passed_ones all)))

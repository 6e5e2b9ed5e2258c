use Rattle.dnp_link_frame.proofs.FrameParts.{right_is_longest, refused_is_no_frame, judged_frame}
use Rattle.{dnp_link_frame.specs.Frame.IsLongestBeginning, line_rules.specs.Bytes.AreBytes}
use Rattle.std.proofs.Common.{arith, sym, ◌<◌, subst, ℕ, refl}
use Rattle.std.proofs.lemmas.List.Elements.{All-from_get_or}
use Rattle.dnp_link_frame.proofs.parsing.user_data.Goals as goal

pub returns-then-not-is_whole-clause-cause : goal.returns-then-not-is_whole-clause-cause
returns-then-not-is_whole-clause-cause c = (
  (λ is. cc),
  (λ framed. absurd (refused_is_no_frame c.args.frame.now c.right_in_frame-right.result
      c.is_whole.result c.right_in_frame-right.ensures.right c.is_whole.ensures
      c.if-not-is_whole.true framed)),
)

pub returns-then-not-is_whole-clause-place : goal.returns-then-not-is_whole-clause-place
returns-then-not-is_whole-clause-place c =
    let bytes : AreBytes c.args.frame.now =
    All-from_get_or (λ b. b < 256) c.args.frame.now 0
    (λ i within. let fits = c.type_inv.frame i in omega arith) in
    let P : ℕ → Type 0 = IsLongestBeginning c.args.frame.now in
    subst P (sym c.right_in_frame-right.ensures.right) (right_is_longest c.args.frame.now bytes)

pub returns-clause-read : goal.returns-clause-read
returns-clause-read c =
    let bytes : AreBytes c.args.frame.now =
    All-from_get_or (λ b. b < 256) c.args.frame.now 0
    (λ i within. let fits = c.type_inv.frame i in omega arith) in
    judged_frame c.args.frame.now c.right_in_frame-right.result c.is_whole.result
    c.header_in.result c.user_in.result.items bytes c.right_in_frame-right.ensures.right
    c.is_whole.ensures c.if-not-is_whole.false c.header_in.ensures c.user_in.ensures

pub returns-clause-cause : goal.returns-clause-cause
returns-clause-cause c = (
  (λ is.
      let bytes : AreBytes c.args.frame.now =
      All-from_get_or (λ b. b < 256) c.args.frame.now 0
      (λ i within. let fits = c.type_inv.frame i in omega arith) in
      record {
        header = c.header_in.result;
        user = c.user_in.result.items;
        of = judged_frame c.args.frame.now c.right_in_frame-right.result c.is_whole.result
            c.header_in.result c.user_in.result.items bytes c.right_in_frame-right.ensures.right
            c.is_whole.ensures c.if-not-is_whole.false c.header_in.ensures c.user_in.ensures;
      }),
  (λ framed. refl),
)

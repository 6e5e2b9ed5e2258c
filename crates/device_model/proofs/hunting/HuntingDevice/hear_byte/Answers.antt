use Rattle.device_model.specs.{Frames.frames_lent, Frames.FrameRead, HuntingDevice.HuntTakesRun}
use Rattle.std.proofs.Common.{◌≡◌, ◌∷◌, [], List, ℕ, Some, take, subst, arith}
use Rattle.std.proofs.lemmas.Bool.{cond-true, cond-false}
use Rattle.device_model.proofs.hunting.HuntingDevice.hear_byte.Goals as goal

pub returns-then-part : goal.returns-then-part
returns-then-part g c =
    let one : c.hear_part-part.result.taken ≡ 1 = omega (
      arith,
      c.hear_part-part.ensures.some,
      c.hear_part-part.ensures.within,
    ) in
    let new = c.hear_part-part.new.self in
    let Takes : List ℕ → List FrameRead → Type 0 =
    HuntTakesRun g.R.LineRules g.R.Hunted.FIRST g.R.Hunted.SECOND c.args.self.now new c.args.at in
    let frames : List FrameRead = frames_lent (Some new.start) new.bytes.items in
    subst (λ n. Takes (take n (c.args.byte ∷ [])) frames) one
    (subst (Takes (take c.hear_part-part.result.taken (c.args.byte ∷ [])))
    (cond-true _ _ _ c.if-part.true) c.hear_part-part.ensures.takes)

pub returns : goal.returns
returns g c =
    let one : c.hear_part-part.result.taken ≡ 1 = omega (
      arith,
      c.hear_part-part.ensures.some,
      c.hear_part-part.ensures.within,
    ) in
    let new = c.hear_part-part.new.self in
    let Takes : List ℕ → List FrameRead → Type 0 =
    HuntTakesRun g.R.LineRules g.R.Hunted.FIRST g.R.Hunted.SECOND c.args.self.now new c.args.at in
    subst (λ n. Takes (take n (c.args.byte ∷ [])) []) one
    (subst (Takes (take c.hear_part-part.result.taken (c.args.byte ∷ [])))
    (cond-false _ _ _ c.if-part.false) c.hear_part-part.ensures.takes)

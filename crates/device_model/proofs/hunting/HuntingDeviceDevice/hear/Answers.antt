use Rattle.device_model.proofs.HuntRuns.{no-run, part-joined, run-stands, run-reads}
use Rattle.device_model.{proofs.HuntRuns.run-unread-front, specs.Hunt.hunt_line}
use Rattle.device_model.specs.HuntingDevice.{HuntTakesRun, frames_told}
use Rattle.std.proofs.Common.{◌≡◌, ◌≤◌, ◌∙◌, ◌+◌, [], ◌++◌, refl, take, length, ap, subst, arith}
use Rattle.std.proofs.lemmas.Bool.{cond-true, cond-false}
use Rattle.std.proofs.lemmas.List.{take_rest, length-drop, length-take}
use Rattle.device_model.proofs.hunting.HuntingDeviceDevice.hear.Goals as goal

pub loop-taken-init : goal.loop-taken-init
loop-taken-init g c = (
  omega arith,
  no-run g.R.LineRules g.R.Hunted.FIRST g.R.Hunted.SECOND g.met.R.Hunted.hunted c.args.self.now
      c.args.self.now.ticks,
)

pub returns-then-part : goal.returns-then-part
returns-then-part g c =
    let same = take_rest c.args.bytes.now c.loop-taken.taken in
    let size = ap length same in
    let count = length-drop c.loop-taken.taken c.args.bytes.now in
    let within = c.hear_part-part.ensures.within in
    let some = c.hear_part-part.ensures.some in
    let test = c.loop-taken-test.true in
    let n = c.loop-taken.taken + c.hear_part-part.result.taken in
    let new = c.hear_part-part.new.self in
    let frames = frames_told c.hear_part-part.result.reads new.start new.bytes.items in
    let takes = part-joined g.R.LineRules g.R.Hunted.FIRST g.R.Hunted.SECOND g.met.R.Hunted.hunted
    c.args.self.now c.loop-taken.self new c.args.self.now.ticks
    c.args.bytes.now _ c.loop-taken.taken c.hear_part-part.result.taken frames same
    c.loop-taken.invariant.0 c.loop-taken.invariant.1 c.hear_part-part.ensures.takes in
    let few : n ≤ length c.args.bytes.now = omega (arith, count, size, within, test) in
    let long = length-take n c.args.bytes.now in
    record {
      some = λ any. omega (arith, some);
      within = few;
      whole = λ none. absurd cc;
      taken = refl;
      stands = λ line heard. run-stands g.R.LineRules g.R.Hunted.FIRST g.R.Hunted.SECOND g.met.R.Hunted.hunted
          c.args.self.now new (take n c.args.bytes.now) frames takes line heard _
          (omega (arith, long, few)) refl refl refl refl;
      answer = λ line heard. run-reads g.R.LineRules g.R.Hunted.FIRST g.R.Hunted.SECOND g.met.R.Hunted.hunted
          c.args.self.now new (take n c.args.bytes.now) frames takes line heard
          ∙ ap (λ f. hunt_line g.R.Hunted.FIRST g.R.Hunted.SECOND g.R.LineRules.rules line ++ f)
          (cond-true _ _ _ c.if-part.true);
      before = λ k below line heard. run-unread-front g.R.LineRules g.R.Hunted.FIRST g.R.Hunted.SECOND g.met.R.Hunted.hunted
          c.args.self.now new (take n c.args.bytes.now) frames takes line heard
          c.args.bytes.now n refl few k below;
    }

pub loop-taken-preserved : goal.loop-taken-preserved
loop-taken-preserved g c =
    let same = take_rest c.args.bytes.now c.loop-taken.taken in
    let count = ap length same in
    let within = c.hear_part-part.ensures.within in
    let new = c.hear_part-part.new.self in (
      omega (arith, length-drop c.loop-taken.taken c.args.bytes.now, c.loop-taken.invariant.0),
      part-joined g.R.LineRules g.R.Hunted.FIRST g.R.Hunted.SECOND g.met.R.Hunted.hunted
          c.args.self.now c.loop-taken.self new c.args.self.now.ticks
          c.args.bytes.now _ c.loop-taken.taken c.hear_part-part.result.taken [] same
          c.loop-taken.invariant.0 c.loop-taken.invariant.1
          (subst (HuntTakesRun g.R.LineRules g.R.Hunted.FIRST g.R.Hunted.SECOND c.loop-taken.self new
          _ _) (cond-false _ _ _ c.if-part.false) c.hear_part-part.ensures.takes),
    )

pub returns : goal.returns
returns g c =
    let bytes = c.args.bytes.now in
    let all : c.loop-taken.taken ≡ length bytes = omega (arith, c.loop-taken.invariant.0) in
    let takes = subst (λ k. HuntTakesRun g.R.LineRules g.R.Hunted.FIRST g.R.Hunted.SECOND
    c.args.self.now c.loop-taken.self c.args.self.now.ticks (take k bytes) []) all
    c.loop-taken.invariant.1 in
    let long = length-take (length bytes) bytes in
    record {
      some = λ any. any;
      within = omega arith;
      whole = λ none. refl;
      taken = refl;
      stands = λ line heard. run-stands g.R.LineRules g.R.Hunted.FIRST g.R.Hunted.SECOND g.met.R.Hunted.hunted
          c.args.self.now c.loop-taken.self (take (length bytes) bytes) []
          takes line heard _ (omega (arith, long)) refl refl refl refl;
      answer = run-reads g.R.LineRules g.R.Hunted.FIRST g.R.Hunted.SECOND g.met.R.Hunted.hunted
          c.args.self.now c.loop-taken.self (take (length bytes) bytes) [] takes;
      before = λ n below line heard. run-unread-front g.R.LineRules g.R.Hunted.FIRST g.R.Hunted.SECOND g.met.R.Hunted.hunted
          c.args.self.now c.loop-taken.self (take (length bytes) bytes) [] takes line heard bytes
          (length bytes) refl (omega arith) n below;
    }

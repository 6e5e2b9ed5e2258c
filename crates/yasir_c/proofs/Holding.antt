-- What a handle holds is taken out of it and put back.
use Rattle.std.proofs.Common.{◌≡◌, ◌≤◌, ℕ, ◌∙◌, refl, sym, ap, subst, arith, true, false}
use Rattle.{std.proofs.lemmas.Bool.false≢true, any_box.specs.declared.owed.Commit.Commit}
use Rattle.std.specs.Prelude.{Option, Some, None, is_some}
use Rattle.any_box.specs.declared.{held_box.HeldBox.HeldBox, held_box.HeldStep.HeldStep}
use Rattle.yasir_c.specs.{Answers.answer_of, Holding.HoldsOne, Withholding.readiness_after}
use Rattle.yasir_c.specs.Withholding.{withholding, after_step}
use Rattle.yasir_c.specs.Owning.{number_in_handle}
use Rattle.yasir_c.specs.declared.held.Held.{Held, TheVariants.LineBox}
use Rattle.yasir_c.specs.declared.answer.Answer.{Answer}
use Rattle.yasir_c.specs.declared.withholding.Readiness.TheVariants.{Ready, Withholds}
use Rattle.yasir_c.specs.declared.withholding.{Readiness.Readiness, WithholdingBox.WithholdingBox}

-- a handle whose number isn't 0 holds something
pub some-held : (value : Option Held) (n : ℕ) → n ≡ number_in_handle value → 1 ≤ n
    → (held : Held) × (value ≡ Some held)
some-held None n is some = absurd (omega (arith, is, some))
some-held (Some held) n is some = (held, refl)

-- what holds of what is taken out and of what is put back holds of the handle before and after
pub put-back : (P : Option Held → Option Held → Type 0) (o n : Option Held) (held same now : Held)
    → o ≡ Some held → same ≡ held → n ≡ Some now → P (Some same) (Some now) → P o n
put-back P o n held same now out is put holds =
    subst (λ x. P x n) (sym (out ∙ ap (λ h. Some h) (sym is)))
    (subst (λ x. P (Some same) x) (sym put) holds)

-- what holds of what is taken out holds of the handle before
pub held-so : (P : Option Held → Type 0) (o : Option Held) (held same : Held)
    → o ≡ Some held → same ≡ held → P (Some same) → P o
held-so P o held same out is holds = subst P (sym (out ∙ ap (λ h. Some h) (sym is))) holds

-- what is put back as it was taken out leaves the handle as it was
pub back-is : (o n : Option Held) (held same now : Held)
    → o ≡ Some held → same ≡ held → n ≡ Some now → now ≡ same → n ≡ o
back-is o n held same now out is put kept =
    (put ∙ ap (λ h. Some h) (kept ∙ is)) ∙ sym out

-- a box whose readiness is known
pub with-readiness : (line_box : WithholdingBox) (readiness : Readiness)
    → line_box.readiness ≡ readiness → Some (LineBox line_box)
    ≡ Some (LineBox (record { line_box = line_box.line_box; readiness = readiness }))
with-readiness line_box readiness is =
    ap (λ r. Some (LineBox (record { line_box = line_box.line_box; readiness = r }))) is

-- the readiness of a box after a step that has something for the caller to write, and after one
-- that has nothing
after-some : (commit : Option Commit) (answer : Answer) → true ≡ is_some commit
    → Withholds answer ≡ readiness_after commit answer
after-some None answer is = absurd (false≢true (sym is))
after-some (Some commit) answer is = refl

after-none : (commit : Option Commit) (answer : Answer) → false ≡ is_some commit
    → Ready ≡ readiness_after commit answer
after-none None answer is = refl
after-none (Some commit) answer is = absurd (false≢true is)

pub withheld-after : (held : HeldBox) (step : HeldStep) (answer : Answer) → answer ≡ answer_of step
    → true ≡ is_some step.commit → Some (LineBox (withholding answer held))
    ≡ Some (LineBox (after_step step held))
withheld-after held step answer is some =
    ap (λ r. Some (LineBox (record { line_box = held; readiness = r })))
    (ap (λ a. Withholds a) is ∙ after-some step.commit (answer_of step) some)

pub ready-after : (held : HeldBox) (step : HeldStep) (readiness : Readiness) → readiness ≡ Ready
    → false ≡ is_some step.commit
    → Some (LineBox (record { line_box = held; readiness = readiness }))
    ≡ Some (LineBox (after_step step held))
ready-after held step readiness is none =
    ap (λ r. Some (LineBox (record { line_box = held; readiness = r })))
    (is ∙ after-none step.commit (answer_of step) none)

-- whether a handle holds something
pub holds-one : (value : Option Held) → true ≡ is_some value → HoldsOne value
holds-one None is = absurd (false≢true (sym is))
holds-one (Some held) is = (held, refl)

pub holds-none : (value : Option Held) → false ≡ is_some value → value ≡ None
holds-none None is = refl
holds-none (Some held) is = absurd (false≢true is)

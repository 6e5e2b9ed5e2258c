-- The first ticks of a run at a box or a device.
use Rattle.link_format.specs.Setup.{Setup}
use Rattle.session_lists.proofs.{Runs.keeps-run, TakenLines.goes-then}
use Rattle.session_lists.specs.{FrameBox.AnswersFrameRun, Lines.ListsGoOn, Lines.TakesOn}
use Rattle.session_lists.specs.Guarding.{Guards}
use Rattle.session_lists.specs.declared.frame_box.FrameBox.{Ghosts as FrameBox}
use Rattle.session_lists.specs.declared.guard.Guard.{Ghosts as Guard}
use Rattle.session_lists.specs.declared.kept.Kept.{Kept}
use Rattle.std.proofs.Common.{◌≡◌, Bool, Option, Some, None}
use Rattle.std.proofs.Common.{ℕ, ◌+◌, ◌≤◌, List, [], ◌∷◌, ◌++◌, length, take, ap, sym, subst, arith}
use Rattle.{std.proofs.lemmas.List.length-take-le, yasir_ticks.specs.declared.tick.Tick.Tick}

-- If there is no guard, it doesn't matter what it would have heard.
pub guards-nothing : {G : Type 0} (guard : Guard G) (spaced : Bool) (value : Option G)
    (x y : List Tick) → value ≡ None → Guards guard spaced value x → Guards guard spaced value y
guards-nothing guard spaced None x y none heard = heard
guards-nothing guard spaced (Some value) x y none heard = cc

-- If a box behind which there is no guard has taken the first ticks of a run at once, and no frame
-- falls into them, what is kept of it is complete without a change.
pub passes-on : {B G : Type 0} (box : FrameBox B) (guard : Guard G) (old new : B) (kept : Kept G)
    (ticks answer : List Tick) (n : ℕ) → kept.guard ≡ None → n ≤ length ticks
    → box.taken new ≡ box.taken old + n
    → ((setup : Setup) (line : List Tick) → box.stands old setup line
    → box.stands new setup (line ++ take n ticks))
    → ((setup : Setup) (line : List Tick) → box.stands old setup line
    → AnswersFrameRun (box.numbering setup) line (take n ticks) answer)
    → TakesOn box guard old new kept kept (take n ticks)
passes-on box guard old new kept ticks answer n none within counts stands answers =
    let long : length (take n ticks) ≡ n = length-take-le n ticks within in
    record {
      counted = omega (arith, counts, long);
      few = omega arith;
      kept = λ origin line keeps. record {
        frames = keeps-run box old new kept.frames origin.setup line (take n ticks) answer
            keeps.frames (stands origin.setup line keeps.frames.steps)
            (answers origin.setup line keeps.frames.steps);
        heard = guards-nothing guard origin.spaced kept.guard _ _ none keeps.heard;
      };
    }

-- If no tick was taken at once, and then one tick by itself, the first tick of the run was taken.
pub one-on : {O S L : Type 0} (taken : S → ℕ) (size : L → ℕ)
    (keeps : O → S → L → List Tick → Type 0) (a b c : S) (x y z : L) (ticks rest : List Tick) (t : Tick) (n : ℕ) → n ≤ 0 → ticks ≡ t ∷ rest
    → ListsGoOn taken size keeps a b x y (take n ticks) → ListsGoOn taken size keeps b c y z (t ∷ [])
    → ListsGoOn taken size keeps a c x z (take 1 ticks)
one-on taken size keeps a b c x y z ticks rest t n few is none then =
    let zero_is : n ≡ 0 = omega (arith, few) in
    let first : ListsGoOn taken size keeps a b x y [] =
    subst (λ k. ListsGoOn taken size keeps a b x y (take k ticks)) zero_is none in
    subst (ListsGoOn taken size keeps a c x z) (sym (ap (λ l. take 1 l) is))
    (goes-then taken size keeps a b c x y z [] (t ∷ []) first then)

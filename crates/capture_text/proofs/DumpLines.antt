-- What a writer has written of two lines, tick by tick.
use Rattle.capture_text.proofs.TextLaws.{front_more, front_all, dump_padded}
use Rattle.capture_text.specs.{Changes.padded_rows, Dump.dump_text, Writer.HasWritten}
use Rattle.capture_text.specs.declared.text.Wires.{Wires}
use Rattle.capture_text.specs.declared.dump_writer.DumpWriter.{DumpWriter}
use Rattle.line_stamps.specs.declared.rate.Rate.{Rate}
use Rattle.std.proofs.Common.{◌≡◌, ◌∙◌, ℕ, ◌+◌, ◌<◌, max, List, [], ◌∷◌, ◌++◌, length, take, get_or}
use Rattle.std.proofs.Common.{subst, sym, ap, arith}
use Rattle.yasir_ticks.specs.declared.tick.Tick.{Tick, TheVariants.Silent}

pub written_so : (writer : DumpWriter) (xs ys more_x more_y : List Tick) (text more : List ℕ)
    → HasWritten writer xs ys text → xs ≡ more_x → ys ≡ more_y → more ≡ text
    → HasWritten writer more_x more_y more
written_so writer xs ys more_x more_y text more s of_x of_y is =
    let P : List Tick → Type 0 = λ x. HasWritten writer x ys text in
    let Q : List Tick → Type 0 = λ y. HasWritten writer more_x y text in
    let R : List ℕ → Type 0 = λ t. HasWritten writer more_x more_y t in
    subst R (sym is) (subst Q of_y (subst P of_x s))

-- one more tick of both lines
pub tick_more : (writer : DumpWriter) (a b : List Tick) (n : ℕ) (x y : Tick) (text more : List ℕ)
    → n < max (length a) (length b) → x ≡ get_or a n Silent → y ≡ get_or b n Silent
    → HasWritten writer (take n (padded_rows a b) ++ x ∷ []) (take n (padded_rows b a) ++ y ∷ []) text
    → more ≡ text → HasWritten writer (take (n + 1) (padded_rows a b)) (take (n + 1) (padded_rows b a)) more
tick_more writer a b n x y text more h of_x of_y s is =
    written_so writer (take n (padded_rows a b) ++ x ∷ []) (take n (padded_rows b a) ++ y ∷ [])
    (take (n + 1) (padded_rows a b)) (take (n + 1) (padded_rows b a)) text more s
    (ap (λ t. take n (padded_rows a b) ++ t ∷ []) of_x ∙ front_more a b n h)
    (ap (λ t. take n (padded_rows b a) ++ t ∷ []) of_y ∙ front_more b a n (omega arith)) is

-- all ticks of both lines, and the end of their dump
pub lines_end : (rate from : Rate) (wires those : Wires) (a b : List Tick) (n : ℕ)
    (text end : List ℕ) → n ≡ max (length a) (length b) → from ≡ rate → those ≡ wires
    → text ++ end ≡ dump_text from those (take n (padded_rows a b)) (take n (padded_rows b a))
    → text ++ end ≡ dump_text rate wires a b
lines_end rate from wires those a b n text end h of_rate of_wires is =
    is ∙ ap (λ r. dump_text r those (take n (padded_rows a b)) (take n (padded_rows b a))) of_rate
    ∙ ap (λ w. dump_text rate w (take n (padded_rows a b)) (take n (padded_rows b a))) of_wires
    ∙ ap (λ x. dump_text rate wires x (take n (padded_rows b a))) (front_all a b n h)
    ∙ ap (dump_text rate wires (padded_rows a b)) (front_all b a n (omega arith))
    ∙ dump_padded rate wires a b

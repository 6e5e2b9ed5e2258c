-- Texts whose lines have ended.
use Rattle.hex.specs.Hex.{encode_lower}
use Rattle.line_commands.specs.LiveText.{IsTextOf}
use Rattle.live_line.specs.WayText.{AreEnded}
use Rattle.std.proofs.Common.{◌≡◌, ◌∙◌, ◌==◌, ℕ, ◌+◌, ◌*◌, ◌/◌, ◌%◌, List, [], ◌∷◌, ◌++◌, Bool, true, false, cond}
use Rattle.std.proofs.Common.{refl, ap, sym, subst, length, take, drop, replicate}
use Rattle.std.specs.{Fmt.decimal, List.flat_map, List.range_with_len}
use Rattle.yasir_ticks.proofs.Lines.{behind, lines_of-append, lines_of-lf}
use Rattle.yasir_ticks.specs.CanonicalText.{byte_line, silence_line, stretch_lines, canonical_text}
use Rattle.yasir_ticks.specs.CanonicalText.{Stretch, stretches, Stretch.bytes, Stretch.silence}
use Rattle.yasir_ticks.specs.TickText.{Lines, lines_of}
use Rattle.yasir_ticks.specs.declared.tick.Tick.{Tick}

pub ended_nil : AreEnded []
unfolding lines_of
ended_nil = refl

pub ended_lf : (line : List ℕ) → AreEnded (line ++ 10 ∷ [])
ended_lf line = ap (λ (l : Lines). l.last) (lines_of-lf line)

last_behind : (x : Lines) (ended : List (List ℕ)) (last : List ℕ) → x.last ≡ [] → last ≡ []
    → (behind x ended last).last ≡ []
last_behind x [] last first then = ap (λ l. l ++ last) first ∙ then
last_behind x (l ∷ ls) last first then = then

pub ended_then : (x y : List ℕ) → AreEnded x → AreEnded y → AreEnded (x ++ y)
ended_then x y first then = ap (λ (l : Lines). l.last) (lines_of-append x y)
    ∙ last_behind (lines_of x) (lines_of y).ended (lines_of y).last first then

pub ended_all : {A : Type 0} (f : A → List ℕ) → ((a : A) → AreEnded (f a)) → (l : List A)
    → AreEnded (flat_map f l)
ended_all f each [] = ended_nil
ended_all f each (a ∷ l) = ended_then (f a) (flat_map f l) (each a) (ended_all f each l)

ended_bytes : (l : List ℕ) → AreEnded (byte_line l)
ended_bytes l = ended_lf (43 ∷ encode_lower l)

ended_silence : (n : ℕ) → AreEnded (silence_line n)
ended_silence n = ended_lf (45 ∷ decimal n)

ended_stretch : (stretch : Stretch) → AreEnded (stretch_lines stretch)
ended_stretch (bytes l) = ended_all (λ i. byte_line (take 32 (drop (32 * i) l)))
    (λ i. ended_bytes (take 32 (drop (32 * i) l))) (range_with_len 0 ((length l + 31) / 32))
ended_stretch (silence n) = ended_then (flat_map silence_line (replicate (n / 1000000) 1000000))
    (cond (n % 1000000 == 0) [] (silence_line (n % 1000000)))
    (ended_all silence_line ended_silence (replicate (n / 1000000) 1000000))
    (rest (n % 1000000 == 0))
  where
    rest : (is : Bool) → AreEnded (cond is [] (silence_line (n % 1000000)))
    rest true = ended_nil
    rest false = ended_silence (n % 1000000)

-- Each line of a text of ticks has ended.
pub ended_text : (text : List ℕ) (ticks : List Tick) → IsTextOf text ticks → AreEnded text
ended_text text ticks is = subst AreEnded (sym is.text_is)
    (ended_all canonical_text (λ piece. ended_all stretch_lines ended_stretch (stretches piece)) is.pieces)

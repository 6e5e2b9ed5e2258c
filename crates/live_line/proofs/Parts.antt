-- One more byte of a stream of both ways.
use Rattle.line_commands.proofs.BehindReads.{capped_then}
use Rattle.line_commands.specs.Counted.{capped}
use Rattle.std.proofs.Common.{◌≡◌, ◌≢◌, ◌∙◌, ℕ, zero, suc, ◌+◌, ◌<◌, List, [], ◌∷◌, ◌++◌, length, get_or}
use Rattle.std.proofs.Common.{refl, ap, sym, subst, arith, Some, None, length-append}
use Rattle.yasir_ticks.proofs.Lines.{IsFree, lines_of-lf, lines_of-more}
use Rattle.yasir_ticks.specs.TickText.{Lines, lines_of, line_after}
use Rattle.live_line.proofs.Texts.{begun, begun_last, gone_on, gone_on_last, gone_on_other, ended}
use Rattle.live_line.proofs.Texts.{ended_last, ended_other, letter_no_lf}
use Rattle.live_line.specs.WayText.{letter_of, text_on, IsWithin, HasParted, IsLettered, AreLettered}
use Rattle.live_line.specs.WayText.{AddsByte, BeginsLine}
use Rattle.live_line.specs.declared.ways.Way.{Way}
use Rattle.live_line.specs.declared.ways.Ways.{Ways}

-- one more line begins with a letter
lettered_more : (lines : List (List ℕ)) (line : List ℕ) → AreLettered lines → IsLettered line
    → AreLettered (lines ++ line ∷ [])
lettered_more [] line are is = (is, tt)
lettered_more (l ∷ lines) line are is = (are.0, lettered_more lines line are.1 is)

free_one : (byte : ℕ) → byte ≢ 10 → IsFree (byte ∷ [])
free_one byte apart zero within = apart
free_one byte apart (suc k) within = absurd (omega (arith, within))

-- a line goes on with a byte that is no LF, and the lines are as many as before
same_lines : (stream : List ℕ) (byte : ℕ) → byte ≢ 10
    → (lines_of (stream ++ byte ∷ [])).ended ≡ (lines_of stream).ended
same_lines stream byte apart = ap (λ (l : Lines). l.ended) (lines_of-more stream byte apart)

same_after : (stream : List ℕ) (byte : ℕ) → byte ≢ 10
    → line_after (stream ++ byte ∷ []) ≡ line_after stream
same_after stream byte apart = ap (λ l. suc (length l)) (same_lines stream byte apart)

-- an LF ends one more line
more_lines : (stream : List ℕ) → (lines_of (stream ++ 10 ∷ [])).ended
    ≡ (lines_of stream).ended ++ (lines_of stream).last ∷ []
more_lines stream = ap (λ (l : Lines). l.ended) (lines_of-lf stream)

more_after : (stream : List ℕ) → line_after (stream ++ 10 ∷ []) ≡ line_after stream + 1
more_after stream = omega (
  arith,
  ap length (more_lines stream),
  length-append (lines_of stream).ended ((lines_of stream).last ∷ []),
)

module _ (old new : Ways) (way : Way) (stream rest : List ℕ) (has : HasParted old stream)
    (is : (lines_of stream).last ≡ letter_of way ∷ rest) where
  -- a byte that is no LF goes on with the line of a way
  pub adds_free : (byte : ℕ) → byte ≢ 10 → new.within ≡ Some way → new.line ≡ old.line
      → AddsByte new way stream byte
  adds_free byte apart within line = record {
    parted = record {
      within = subst (λ w. IsWithin w (lines_of (stream ++ byte ∷ [])).last) (sym within)
          (rest ++ byte ∷ [], gone_on_last stream way rest is (byte ∷ []) (free_one byte apart));
      lettered = subst AreLettered (sym (same_lines stream byte apart)) has.lettered;
      line = line ∙ has.line ∙ ap capped (sym (same_after stream byte apart));
    };
    own = gone_on stream way rest is (byte ∷ []) (free_one byte apart);
    others = λ other beside.
        gone_on_other stream way rest is (byte ∷ []) other (free_one byte apart) beside;
  }

  -- an LF ends it
  pub adds_lf : new.within ≡ None → new.line ≡ capped (old.line + 1) → AddsByte new way stream 10
  adds_lf within line = record {
    parted = record {
      within = subst (λ w. IsWithin w (lines_of (stream ++ 10 ∷ [])).last) (sym within)
          (ended_last stream way rest is);
      lettered = subst AreLettered (sym (more_lines stream))
          (lettered_more (lines_of stream).ended (lines_of stream).last has.lettered
          (way, (rest, is)));
      line = line ∙ ap (λ n. capped (n + 1)) has.line ∙ capped_then (line_after stream) 1
          ∙ ap capped (sym (more_after stream));
    };
    own = ended stream way rest is;
    others = λ other beside. ended_other stream way rest is other beside;
  }

-- a letter begins a line
pub begins_line : (old new : Ways) (way : Way) (stream : List ℕ) (byte : ℕ) → HasParted old stream
    → (lines_of stream).last ≡ [] → byte ≡ letter_of way → new.within ≡ Some way
    → new.line ≡ old.line → BeginsLine new stream byte
begins_line old new way stream byte has none letter within line = subst (BeginsLine new stream)
    (sym letter) (record {
      parted = record {
        within = subst (λ w. IsWithin w (lines_of (stream ++ letter_of way ∷ [])).last) (sym within)
            ([], begun_last stream way none);
        lettered = subst AreLettered (sym (same_lines stream (letter_of way) (letter_no_lf way)))
            has.lettered;
        line = line ∙ has.line
            ∙ ap capped (sym (same_after stream (letter_of way) (letter_no_lf way)));
      };
      same = λ other. begun stream way other none;
    })

-- what a reader within a line, and one before a line, has parted
pub parted_some : (ways : Ways) (stream : List ℕ) (way : Way) → ways.within ≡ Some way
    → HasParted ways stream → (rest : List ℕ) × ((lines_of stream).last ≡ letter_of way ∷ rest)
parted_some ways stream way is parted =
    subst (λ w. IsWithin w (lines_of stream).last) is parted.within

pub parted_none : (ways : Ways) (stream : List ℕ) → ways.within ≡ None → HasParted ways stream
    → (lines_of stream).last ≡ []
parted_none ways stream is parted =
    subst (λ w. IsWithin w (lines_of stream).last) is parted.within

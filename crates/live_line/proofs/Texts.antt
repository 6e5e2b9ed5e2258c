-- The text of a way, as more bytes of a stream come.
use Rattle.std.proofs.Common.{◌≡◌, ◌≢◌, ◌∙◌, ℕ, List, [], ◌∷◌, ◌++◌, refl, ap, sym}
use Rattle.std.proofs.Common.{arith, append-nil, append_assoc}
use Rattle.std.proofs.lemmas.Grind.{flat_map-append}
use Rattle.std.specs.List.{flat_map}
use Rattle.yasir_ticks.proofs.Lines.{IsFree, lines_of-free, lines_of-lf, lines_of-more}
use Rattle.yasir_ticks.specs.TickText.{Lines, lines_of}
use Rattle.live_line.specs.WayText.{letter_of, own_part, own_line, text_on}
use Rattle.live_line.specs.declared.ways.Way.{Way}
use Rattle.live_line.specs.declared.ways.Way.TheVariants.{Outgoing, Incoming}

own_part_own : (way : Way) (x : List ℕ) → own_part way (letter_of way ∷ x) ≡ x
own_part_own Outgoing x = refl
own_part_own Incoming x = refl

own_line_own : (way : Way) (x : List ℕ) → own_line way (letter_of way ∷ x) ≡ x ++ 10 ∷ []
own_line_own Outgoing x = refl
own_line_own Incoming x = refl

own_part_other : (way other : Way) (x : List ℕ) → other ≢ way
    → own_part other (letter_of way ∷ x) ≡ []
own_part_other Outgoing Outgoing x apart = absurd (apart refl)
own_part_other Outgoing Incoming x apart = refl
own_part_other Incoming Outgoing x apart = refl
own_part_other Incoming Incoming x apart = absurd (apart refl)

own_line_other : (way other : Way) (x : List ℕ) → other ≢ way
    → own_line other (letter_of way ∷ x) ≡ []
own_line_other Outgoing Outgoing x apart = absurd (apart refl)
own_line_other Outgoing Incoming x apart = refl
own_line_other Incoming Outgoing x apart = refl
own_line_other Incoming Incoming x apart = absurd (apart refl)

own_part_begun : (way other : Way) → own_part other (letter_of way ∷ []) ≡ []
own_part_begun Outgoing Outgoing = refl
own_part_begun Outgoing Incoming = refl
own_part_begun Incoming Outgoing = refl
own_part_begun Incoming Incoming = refl

pub letter_no_lf : (way : Way) → letter_of way ≢ 10
letter_no_lf Outgoing = λ e. absurd (omega arith)
letter_no_lf Incoming = λ e. absurd (omega arith)

-- the text of a way, by the lines of a stream
abbrev pub by_lines : Way → Lines → List ℕ
by_lines way lines = flat_map (own_line way) lines.ended ++ own_part way lines.last

module _ (stream : List ℕ) where
  abbrev before : Way → List ℕ
  before way = flat_map (own_line way) (lines_of stream).ended

  text_at : (way : Way) (last : List ℕ) → (lines_of stream).last ≡ last
      → text_on way stream ≡ before way ++ own_part way last
  text_at way last is = ap (λ l. before way ++ own_part way l) is

  -- A letter begins a line, and adds nothing to any text.
  pub begun_last : (way : Way) → (lines_of stream).last ≡ []
      → (lines_of (stream ++ letter_of way ∷ [])).last ≡ letter_of way ∷ []
  begun_last way none = ap (λ (l : Lines). l.last) (lines_of-more stream (letter_of way) (letter_no_lf way))
      ∙ ap (λ l. l ++ letter_of way ∷ []) none

  pub begun : (way other : Way) → (lines_of stream).last ≡ []
      → text_on other (stream ++ letter_of way ∷ []) ≡ text_on other stream
  begun way other none = ap (by_lines other) (lines_of-more stream (letter_of way) (letter_no_lf way))
      ∙ (ap (λ l. before other ++ own_part other (l ++ letter_of way ∷ [])) none
      ∙ (ap (λ l. before other ++ l) (own_part_begun way other) ∙ sym (text_at other [] none)))

  module _ (way : Way) (x : List ℕ) (is : (lines_of stream).last ≡ letter_of way ∷ x) where
    -- Bytes without an LF go on with the line.
    pub gone_on_last : (more : List ℕ) → IsFree more
        → (lines_of (stream ++ more)).last ≡ letter_of way ∷ (x ++ more)
    gone_on_last more free = ap (λ (l : Lines). l.last) (lines_of-free more stream free)
        ∙ ap (λ l. l ++ more) is

    gone_on_by : (more : List ℕ) (other : Way) → IsFree more → text_on other (stream ++ more)
        ≡ before other ++ own_part other (letter_of way ∷ (x ++ more))
    gone_on_by more other free = ap (by_lines other) (lines_of-free more stream free)
        ∙ ap (λ l. before other ++ own_part other (l ++ more)) is

    own_at : text_on way stream ≡ before way ++ x
    own_at = text_at way (letter_of way ∷ x) is ∙ ap (λ l. before way ++ l) (own_part_own way x)

    other_at : (other : Way) → other ≢ way → text_on other stream ≡ before other ++ []
    other_at other apart = text_at other (letter_of way ∷ x) is
        ∙ ap (λ l. before other ++ l) (own_part_other way other x apart)

    pub gone_on : (more : List ℕ) → IsFree more
        → text_on way (stream ++ more) ≡ text_on way stream ++ more
    gone_on more free = gone_on_by more way free
        ∙ (ap (λ l. before way ++ l) (own_part_own way (x ++ more))
        ∙ (sym (append_assoc (before way) x more) ∙ ap (λ l. l ++ more) (sym own_at)))

    pub gone_on_other : (more : List ℕ) (other : Way) → IsFree more → other ≢ way
        → text_on other (stream ++ more) ≡ text_on other stream
    gone_on_other more other free apart = gone_on_by more other free
        ∙ (ap (λ l. before other ++ l) (own_part_other way other (x ++ more) apart)
        ∙ sym (other_at other apart))

    -- An LF ends the line.
    pub ended_last : (lines_of (stream ++ 10 ∷ [])).last ≡ []
    ended_last = ap (λ (l : Lines). l.last) (lines_of-lf stream)

    ended_by : (other : Way) → text_on other (stream ++ 10 ∷ [])
        ≡ before other ++ own_line other (letter_of way ∷ x)
    ended_by other = ap (by_lines other) (lines_of-lf stream)
        ∙ (append-nil (flat_map (own_line other) ((lines_of stream).ended ++ (lines_of stream).last ∷ []))
        ∙ (flat_map-append (own_line other) (lines_of stream).ended ((lines_of stream).last ∷ [])
        ∙ (ap (λ l. before other ++ (own_line other l ++ [])) is
        ∙ ap (λ l. before other ++ l) (append-nil (own_line other (letter_of way ∷ x))))))

    pub ended : text_on way (stream ++ 10 ∷ []) ≡ text_on way stream ++ 10 ∷ []
    ended = ended_by way ∙ (ap (λ l. before way ++ l) (own_line_own way x)
        ∙ (sym (append_assoc (before way) x (10 ∷ [])) ∙ ap (λ l. l ++ 10 ∷ []) (sym own_at)))

    pub ended_other : (other : Way) → other ≢ way
        → text_on other (stream ++ 10 ∷ []) ≡ text_on other stream
    ended_other other apart = ended_by other
        ∙ (ap (λ l. before other ++ l) (own_line_other way other x apart) ∙ sym (other_at other apart))

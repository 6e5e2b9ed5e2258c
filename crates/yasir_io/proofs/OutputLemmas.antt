-- Lemmas on what a sink has got of a text.
use Rattle.std.proofs.Common.{◌≡◌, ℕ, List, [], ◌++◌, Option, None, Some, Result, Ok, Err, OnErr}
use Rattle.std.proofs.Common.{take, drop, length, ◌-◌, arith, subst, refl, sym, ap, ◌∙◌}
use Rattle.std.proofs.Common.{append_assoc, append-nil, take-append-drop}
use Rattle.std.proofs.lemmas.List.{take_all, length-drop}
use Rattle.std.specs.Io.KnownBytes.{append_known}
use Rattle.yasir_io.specs.Output.{Buffered, GotPrefix}

-- What holds anyway also holds on an error.
pub always_on_err : {T E P : Type 0} (r : Result T E) → P → OnErr r P
always_on_err (Ok x) p = tt
always_on_err (Err e) p = p

pub append_known-nil : (known : Option (List ℕ)) → append_known known [] ≡ known
append_known-nil None = refl
append_known-nil (Some xs) = ap Some (append-nil xs)

pub append_known-twice : (known : Option (List ℕ)) (x y : List ℕ)
    → append_known (append_known known x) y ≡ append_known known (x ++ y)
append_known-twice None x y = refl
append_known-twice (Some xs) x y = ap Some (append_assoc xs x y)

-- If nothing was written yet, all of the text waits.
pub nothing_written : (start : Option (List ℕ)) (text : List ℕ) → Buffered start start text text
nothing_written start text = record { front = []; got = sym (append_known-nil start); all = refl }

-- If a part of what waits is written, the others wait.
pub part_written : (start now after : Option (List ℕ)) (part rest waits text : List ℕ)
    → Buffered start now waits text → waits ≡ part ++ rest → after ≡ append_known now part
    → Buffered start after rest text
part_written start now after part rest waits text so_far split written = record {
  front = so_far.front ++ part;
  got = written ∙ ap (λ known. append_known known part) so_far.got
      ∙ append_known-twice start so_far.front part;
  all = so_far.all ∙ ap (λ l. so_far.front ++ l) split ∙ sym (append_assoc so_far.front part rest);
}

-- If a call wrote n bytes of what waits, those after them wait.
pub some_written : (start now after : Option (List ℕ)) (n : ℕ) (waits text : List ℕ)
    → Buffered start now waits text → after ≡ append_known now (take n waits)
    → Buffered start after (drop n waits) text
some_written start now after n waits text so_far written =
    part_written start now after (take n waits) (drop n waits) waits text so_far
    (sym (take-append-drop n waits)) written

-- If a call wrote n bytes of what waits, those after them wait, in the form in which the program
-- slices them.
pub some_written_of_slice : (start now after : Option (List ℕ)) (n : ℕ) (waits text : List ℕ)
    → Buffered start now waits text → after ≡ append_known now (take n waits)
    → Buffered start after (take (length waits - n) (drop n waits)) text
some_written_of_slice start now after n waits text so_far written =
    let Waits : List ℕ → Type 0 = λ rest. Buffered start after rest text in
    subst Waits (sym (take_all (length waits - n) (drop n waits)
    (omega (arith, length-drop n waits))))
    (some_written start now after n waits text so_far written)

-- If all that waits is written, nothing waits.
pub all_written : (start now after : Option (List ℕ)) (waits text : List ℕ)
    → Buffered start now waits text → after ≡ append_known now waits → Buffered start after [] text
all_written start now after waits text so_far written =
    part_written start now after waits [] waits text so_far (sym (append-nil waits)) written

-- If a front of what waits is written, the sink has got a front of the text.
pub prefix_written : (start now after : Option (List ℕ)) (waits text : List ℕ)
    → Buffered start now waits text → GotPrefix now after waits → GotPrefix start after text
prefix_written start now after waits text so_far got =
    let more = part_written start now after got.front got.rest waits text so_far got.all got.got in
    record { front = more.front; rest = got.rest; got = more.got; all = more.all }

-- If a sink has got a front of a text, it has got a front of any text that begins with that text.
pub prefix_of_more : (start now : Option (List ℕ)) (text more : List ℕ) → GotPrefix start now text
    → GotPrefix start now (text ++ more)
prefix_of_more start now text more got = record {
  front = got.front;
  rest = got.rest ++ more;
  got = got.got;
  all = ap (λ l. l ++ more) got.all ∙ append_assoc got.front got.rest more;
}

-- A text that grows at its end has more bytes that wait.
pub more_waits : (start now : Option (List ℕ)) (waits text more : List ℕ)
    → Buffered start now waits text → Buffered start now (waits ++ more) (text ++ more)
more_waits start now waits text more so_far = record {
  front = so_far.front;
  got = so_far.got;
  all = ap (λ l. l ++ more) so_far.all ∙ append_assoc so_far.front waits more;
}

-- If nothing of a text waits, and a piece after it is written, nothing of both waits.
pub piece_written : (start now after : Option (List ℕ)) (text piece waits : List ℕ)
    → Buffered start now [] text → after ≡ append_known now piece → waits ≡ []
    → Buffered start after waits (text ++ piece)
piece_written start now after text piece waits so_far written none =
    let more = all_written start now after piece (text ++ piece)
    (more_waits start now [] text piece so_far) written in
    record {
      front = more.front;
      got = more.got;
      all = more.all ∙ ap (λ l. more.front ++ l) (sym none);
    }

-- If nothing of a text waits, and a front of a piece after it is written, the sink has got a front
-- of both.
pub piece_prefix : (start now after : Option (List ℕ)) (text piece : List ℕ)
    → Buffered start now [] text → GotPrefix now after piece → GotPrefix start after (text ++ piece)
piece_prefix start now after text piece so_far got =
    prefix_written start now after piece (text ++ piece) (more_waits start now [] text piece so_far)
    got

-- If nothing of a text waits, the sink has got all of it.
pub printed : (start now : Option (List ℕ)) (text : List ℕ) → Buffered start now [] text
    → now ≡ append_known start text
printed start now text buffered =
    subst (λ front. now ≡ append_known start front) (sym (buffered.all ∙ append-nil buffered.front))
    buffered.got

pub front_of_buffered : (start now : Option (List ℕ)) (waits text : List ℕ)
    → Buffered start now waits text
    → GotPrefix start now text
front_of_buffered start now waits text so_far =
    record { front = so_far.front; rest = waits; got = so_far.got; all = so_far.all }

-- The answer to a table as a function (`answer`) satisfies the relation `IsAnswer`.
use Rattle.std.proofs.Common.{◌≡◌, ℕ, ◌+◌, List, [], ◌∷◌, ◌++◌, length, Bool, Decides, true, false}
use Rattle.std.proofs.Common.{not, refl, ap, sym, ◌∙◌, subst, append_assoc}
use Rattle.std.proofs.lemmas.{Bool.false≢true, Iterator.Adapters.position_from-zero}
use Rattle.std.proofs.lemmas.List.{append-nil, length_push}
use Rattle.std.proofs.lemmas.List.Elements.{All-nil, All-cons, All-append}
use Rattle.std.{proofs.lemmas.Slice.Eq.bytes_eq-Decides, specs.List.position_from}
use Rattle.std.specs.Prelude.{Result, Option, Some, None, All}
use Rattle.vectors.specs.Cases.{case_value_of, has_bytes, IsRight, is_right, IsAnswer, case_answer_at, answer}
use Rattle.vectors.specs.declared.{table.Case.Case, table.Miss.Miss}

-- the answer to the cases from number `n` on, counted from 0
abbrev answer_from : ℕ → List Case → Result (Unit {0}) Miss
answer_from n rest = case_answer_at (position_from (λ case. not (is_right case)) n rest)

-- If all cases before these are right, the answer to these is the answer to all.
AnswersOn : List Case → Type 0
AnswersOn rest = (before : List Case) (n : ℕ) → n ≡ length before → All IsRight before
    → IsAnswer (before ++ rest) (answer_from n rest)

has_bytes-Decides : (value : Option (List ℕ)) (bytes : List ℕ)
    → Decides (has_bytes value bytes) (value ≡ Some bytes)
has_bytes-Decides None bytes = ((λ is. absurd (false≢true is)), (λ same. cc))
has_bytes-Decides (Some value) bytes =
    let same = bytes_eq-Decides value bytes in
    ((λ is. ap Some (same.0 is)), (λ is. same.1 cc))

is_right-Decides : (case : Case) → Decides (is_right case) (IsRight case)
is_right-Decides case = has_bytes-Decides (case_value_of case) case.want.items

answers_on : (case : Case) (rest : List Case) → AnswersOn rest → (b : Bool) → is_right case ≡ b
    → AnswersOn (case ∷ rest)
unfolding AnswersOn
answers_on case rest later true is before n at right =
    let one_more : n + 1 ≡ length (before ++ case ∷ []) =
    ap (λ (k : ℕ). k + 1) at ∙ sym (length_push before case) in
    let all_right : All IsRight (before ++ case ∷ []) =
    All-append IsRight before (case ∷ []) right
    (All-cons IsRight case [] ((is_right-Decides case).0 is) (All-nil IsRight)) in
    let P : List Case → Type 0 = λ cases. IsAnswer cases (answer_from (n + 1) rest) in
    rw is (subst P (append_assoc before (case ∷ []) rest)
    (later (before ++ case ∷ []) (n + 1) one_more all_right))
answers_on case rest later false isnt before n at right =
    rw isnt (record {
      before = before;
      miss = case;
      after = rest;
      whole = refl;
      right = right;
      wrong = λ same. let yes = (is_right-Decides case).1 same in cc;
      counted = ap (λ (k : ℕ). k + 1) at;
    })

AnswersOn-all : (rest : List Case) → AnswersOn rest
unfolding AnswersOn
AnswersOn-all [] before n at right = rw append-nil right
AnswersOn-all (case ∷ rest) before n at right =
    answers_on case rest (AnswersOn-all rest) (is_right case) refl before n at right

IsAnswer-answer : (cases : List Case) → IsAnswer cases (answer cases)
unfolding answer AnswersOn
IsAnswer-answer cases =
    rw (position_from-zero (λ case. not (is_right case)) cases)
    (AnswersOn-all cases [] 0 refl (All-nil IsRight))

pub is_answer : (cases : List Case) (result : Result (Unit {0}) Miss) → result ≡ answer cases
    → IsAnswer cases result
is_answer cases result same = rw same (IsAnswer-answer cases)

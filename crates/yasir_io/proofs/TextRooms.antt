-- Pieces of a text that are put after those that wait in a room.
use Rattle.std.proofs.Common.{◌≡◌, ◌∙◌, ℕ, ◌+◌, ◌≤◌, List, ◌++◌, length, take, sym, ap, arith}
use Rattle.std.proofs.{Common.append_assoc, Math.Seq.take-append-add}
use Rattle.std.proofs.lemmas.List.{take-append-le, take-take, length-take-le}

-- If a piece is written after the first `len` bytes of a room, the first len + n bytes are then
-- these and the first n of the piece.
pub front_held : (len n whole : ℕ) (room piece part behind rest items : List ℕ)
    → part ≡ take (len + whole) room → len + whole ≤ length room → n ≤ length piece
    → items ≡ take len room
    → take (len + n) ((take len part ++ (piece ++ behind)) ++ rest) ≡ items ++ take n piece
front_held len n whole room piece part behind rest items is fits few held =
    let same : take len part ≡ items =
    ap (take len) is ∙ take-take len (len + whole) room (omega arith) ∙ sym held in
    let long : length items ≡ len =
    ap length held ∙ length-take-le len room (omega arith) in
    let more = (piece ++ behind) ++ rest in
    ap (λ front. take (len + n) ((front ++ (piece ++ behind)) ++ rest)) same
    ∙ ap (take (len + n)) (append_assoc items (piece ++ behind) rest)
    ∙ ap (λ k. take (k + n) (items ++ more)) (sym long)
    ∙ take-append-add items more n
    ∙ ap (λ l. items ++ take n l) (append_assoc piece behind rest)
    ∙ ap (λ l. items ++ l) (take-append-le n piece (behind ++ rest) few)

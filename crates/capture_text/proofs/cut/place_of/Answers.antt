use Rattle.std.proofs.Common.{ℕ, ◌<◌, Bool, List, length, Option, Some, None, IfSome}
use Rattle.memchr.specs.Find.{is_byte, IsFirstByte}
use Rattle.memchr.proofs.lemmas.ValueLemmas.{IsFirstByte-value}
use Rattle.capture_text.proofs.cut.place_of.Goals as goal

below : (test : ℕ → Bool) (text : List ℕ) (r : Option ℕ) → IsFirstByte test text r
    → IfSome r (λ k. k < length text)
below test text None h = tt
below test text (Some k) h = h.0.high

pub returns-clause-place : goal.returns-clause-place
returns-clause-place c =
    IsFirstByte-value (is_byte c.args.byte) c.args.text.now c.memchr.result c.memchr.ensures

pub returns-clause-within : goal.returns-clause-within
returns-clause-within c =
    below (is_byte c.args.byte) c.args.text.now c.memchr.result c.memchr.ensures

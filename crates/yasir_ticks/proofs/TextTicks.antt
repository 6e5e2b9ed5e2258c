-- The ticks that a right text represents have bytes below 256.
use Rattle.hex.proofs.HexLemmas.{decode_of-ok}
use Rattle.hex.specs.{Hex.decode_of, Hex.IsBytes, declared.error.FromHexError.FromHexError}
use Rattle.std.proofs.Common.{◌≡◌, ℕ, suc, ◌==◌, ◌&&◌, List, [], ◌∷◌, ◌++◌, length, map, replicate}
use Rattle.std.proofs.Common.{Option, Some, None, Result, Ok, Err, refl, sym, subst, leb}
use Rattle.std.proofs.{Common.option_map, Common.IfSome, lemmas.Bool.cond_both}
use Rattle.std.specs.{Option.option_and_then, Result.result_ok}
use Rattle.yasir_ticks.proofs.{Lines.all_lines, RightTicks.are_silent, TickRuns.ticks_in-run}
use Rattle.yasir_ticks.specs.TickText.{byte_items, silence_items, content_items, line_items}
use Rattle.yasir_ticks.specs.TickText.{all_items, without_return, is_plain_decimal, number_after}
use Rattle.yasir_ticks.specs.TickText.{IsTickText}
use Rattle.yasir_ticks.specs.Ticks.{Item, AreTicks, ticks_in, Item.tick, Item.mark}
use Rattle.yasir_ticks.specs.declared.tick.Tick.TheVariants.{Silent, Byte}
use Rattle.yasir_ticks.specs.declared.tick_run.TickRun.TheVariants.{Silence}

-- ---- items

are_ticks-items : (a b : List Item) → AreTicks (ticks_in a) → AreTicks (ticks_in b)
    → AreTicks (ticks_in (a ++ b))
are_ticks-items [] b are more = more
are_ticks-items (tick t ∷ a) b are more = (are.0, are_ticks-items a b are.1 more)
are_ticks-items (mark ∷ a) b are more = are_ticks-items a b are more

are_ticks-bytes : (bytes : List ℕ) → IsBytes bytes
    → AreTicks (ticks_in (map (λ b. tick (Byte b)) bytes))
are_ticks-bytes [] fits = tt
are_ticks-bytes (b ∷ bytes) fits = (fits 0, are_ticks-bytes bytes (λ i. fits (suc i)))

are_ticks-silence : (n : ℕ) → AreTicks (ticks_in (replicate n (tick Silent)))
are_ticks-silence n = subst AreTicks (sym (ticks_in-run (Silence n))) (are_silent n)

-- ---- lines

-- Holds if a line has no right form, or the ticks that it represents have bytes below 256.
abbrev HasTicks : Option (List Item) → Type 0
HasTicks items = IfSome items (λ l. AreTicks (ticks_in l))

byte_items-ticks : (digits : List ℕ) → HasTicks (byte_items digits)
byte_items-ticks digits =
    cond_both (leb 1 (length digits) && leb (length digits) 64) _ None HasTicks
    (λ h. decoded (decode_of digits) (λ bytes e. (decode_of-ok digits bytes e).3)) (λ h. tt)
  where
    decoded : (r : Result (List ℕ) FromHexError)
        → ((bytes : List ℕ) → r ≡ Ok bytes → IsBytes bytes)
        → HasTicks (option_map (λ bytes. map (λ b. tick (Byte b)) bytes) (result_ok r))
    decoded (Ok bytes) fits = are_ticks-bytes bytes (fits bytes refl)
    decoded (Err e) fits = tt

silence_items-ticks : (digits : List ℕ) → HasTicks (silence_items digits)
silence_items-ticks digits =
    cond_both (is_plain_decimal digits && leb (number_after 0 digits) 1000000) _ None HasTicks
    (λ h. are_ticks-silence (number_after 0 digits)) (λ h. tt)

content_items-ticks : (x : List ℕ) → HasTicks (content_items x)
content_items-ticks [] = tt
content_items-ticks (c ∷ x) =
    cond_both (c == 43) (byte_items x) _ HasTicks (λ h. byte_items-ticks x)
    (λ h. cond_both (c == 45) (silence_items x) _ HasTicks (λ h. silence_items-ticks x)
    (λ h. cond_both (c == 37) _ None HasTicks
    (λ h. cond_both (length x == 0) (Some (mark ∷ [])) None HasTicks (λ h. tt) (λ h. tt))
    (λ h. tt)))

line_items-ticks : (line : List ℕ) → HasTicks (line_items line)
unfolding line_items
line_items-ticks [] = tt
line_items-ticks (c ∷ x) =
    cond_both (c == 35) _ (content_items (without_return (c ∷ x))) HasTicks
    (λ h. cond_both (leb (length x) 120) (Some []) None HasTicks (λ h. tt) (λ h. tt))
    (λ h. content_items-ticks (without_return (c ∷ x)))

-- ---- texts

all_items-ticks : (lines : List (List ℕ)) → HasTicks (all_items lines)
all_items-ticks [] = tt
all_items-ticks (l ∷ lines) =
    both (line_items l) (all_items lines) (line_items-ticks l) (all_items-ticks lines)
  where
    both : (first more : Option (List Item)) → HasTicks first → HasTicks more
        → HasTicks (option_and_then (λ items. option_map (λ others. items ++ others) more) first)
    both None more are others = tt
    both (Some a) None are others = tt
    both (Some a) (Some b) are others = are_ticks-items a b are others

-- If a text is right, the ticks that it represents have bytes below 256.
pub text-ticks : (marks : ℕ) (text : List ℕ) (items : List Item) → IsTickText marks text items
    → AreTicks (ticks_in items)
text-ticks marks text items right =
    subst HasTicks right.lines (all_items-ticks (all_lines text))

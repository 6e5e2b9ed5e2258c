-- A master who says one more byte, or nothing.
use Rattle.std.proofs.Common.{◌≡◌, ◌∙◌, ◌<◌, ◌≤◌, ℕ, zero, suc, ◌+◌, List, [], ◌∷◌, ◌++◌, length}
use Rattle.std.proofs.Common.{take, refl, sym, ap, subst, arith, Option, Some, None, nat_lt, Bool}
use Rattle.std.proofs.Common.{true, false, slice_get, if◌then◌else◌}
use Rattle.yasir_ticks.specs.declared.tick.Tick.{Tick, TheVariants.Silent, TheVariants.Byte}
use Rattle.trial_session.specs.Draws.{draw_state_after}
use Rattle.trial_session.specs.DrawnFrames.{Drawing}
use Rattle.poll_session.specs.Asking.{byte_tick, said_bytes, request_state, requests_drawn}
use Rattle.poll_session.specs.Asking.{request_drawn, wanted}
use Rattle.poll_session.specs.declared.master.Master.{Master}

pub said-byte : (ticks : List Tick) (b : ℕ)
    → said_bytes (ticks ++ Byte b ∷ []) ≡ said_bytes ticks ++ b ∷ []
said-byte [] b = refl
said-byte (Silent ∷ ticks) b = said-byte ticks b
said-byte (Byte c ∷ ticks) b = ap (λ l. c ∷ l) (said-byte ticks b)

pub said-silent : (ticks : List Tick) → said_bytes (ticks ++ Silent ∷ []) ≡ said_bytes ticks
said-silent [] = refl
said-silent (Silent ∷ ticks) = said-silent ticks
said-silent (Byte c ∷ ticks) = ap (λ l. c ∷ l) (said-silent ticks)

module _ (drawing : Drawing) (seed : ℕ) where
  pub state-first : request_state drawing seed zero ≡ seed
  unfolding request_state
  state-first = refl

  pub state-next : (n : ℕ) → request_state drawing seed (suc n)
      ≡ draw_state_after (drawing.draws (request_state drawing seed n)) (request_state drawing seed n)
  unfolding request_state
  state-next n = refl

  pub requests-none : requests_drawn drawing seed zero ≡ []
  unfolding requests_drawn
  requests-none = refl

  pub requests-next : (n : ℕ) → requests_drawn drawing seed (suc n)
      ≡ requests_drawn drawing seed n ++ request_drawn drawing seed n
  unfolding requests_drawn
  requests-next n = refl

-- The next byte is there: there is a request left, and the byte is its own.
pub record NextIs (value : Master) (b : ℕ) : Type 0 where
  pub left : value.asked < value.count
  pub get : slice_get value.frame.items value.at ≡ Some b

got : (o : Option ℕ) (b : ℕ) → byte_tick o ≡ Byte b → o ≡ Some b
got None b is = search
got (Some c) b is = search

silent-is-no-byte : (b : ℕ) → Silent ≡ Byte b → ⊥
silent-is-no-byte b is = cc

pub next-is : (value : Master) (b : ℕ) → wanted value ≡ Byte b → NextIs value b
next-is value b is = by-left (nat_lt value.asked value.count) refl is
  where
    by-left : (left : Bool) → nat_lt value.asked value.count ≡ left
        → (if left then byte_tick (slice_get value.frame.items value.at) else Silent) ≡ Byte b
        → NextIs value b
    by-left true less byte = record { left = grind arith; get = got _ b byte }
    by-left false less byte = absurd (silent-is-no-byte b byte)

pub one-more : (items : List ℕ) (at b : ℕ) → slice_get items at ≡ Some b
    → take (suc at) items ≡ take at items ++ b ∷ []
one-more [] at b is = search
one-more (x ∷ items) zero b is = search
one-more (x ∷ items) (suc at) b is = ap (λ l. x ∷ l) (one-more items at b is)

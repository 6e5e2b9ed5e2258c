-- Readers that take bytes one by one. At each place a byte either leads to a place, and gives at
-- most one item, or is refused.
use Rattle.std.specs.Prelude.{◌≡◌, ℕ, Bool, true, List, [], ◌∷◌, ◌++◌, Option, Result, Ok, Err}
use Rattle.std.specs.Option.{option_to_list}

module _ {P I F : Type 0} where
  -- these items in front of what the bytes that follow give, or why one of those is refused
  abbrev pub after_items : List I → Result (P × List I) F → Result (P × List I) F
  after_items items (Ok rest) = Ok (rest.0, items ++ rest.1)
  after_items items (Err why) = Err why

  -- what one byte gives, and then what the bytes that follow it give
  abbrev pub and_then_walk : Result (P × Option I) F → (P → Result (P × List I) F)
      → Result (P × List I) F
  and_then_walk (Ok next) rest = after_items (option_to_list next.1) (rest next.0)
  and_then_walk (Err why) rest = Err why

module _ {P I F : Type 0} (step : P → ℕ → Result (P × Option I) F) where
  -- the place to which a reader gets from this place over these bytes, and the items that they
  -- give, or why one of them is refused
  unfoldable pub walk : P → List ℕ → Result (P × List I) F
  walk from [] = Ok (from, [])
  walk from (b ∷ bytes) = and_then_walk (step from b) (λ place. walk place bytes)

module _ {I : Type 0} (IsRight : List ℕ → List I → Type 0) where
  -- Holds if each input of this format that begins with these bytes has these items first. If no
  -- input begins with the bytes, it holds for any items.
  abbrev pub HaveFirst : List ℕ → List I → Type 0
  HaveFirst bytes items = (more : List ℕ) (all : List I) → IsRight (bytes ++ more) all
      → (others : List I) × (all ≡ items ++ others)

  -- Holds if the bytes begin an input of this format, and these are the items of the bytes: each
  -- input that begins with the bytes has these items first, and no more items come first in each.
  pub record WalkBegins (bytes : List ℕ) (items : List I) : Type 0 where
    pub more : List ℕ
    pub others : List I
    pub right : IsRight (bytes ++ more) (items ++ others)
    pub each : HaveFirst bytes items
    pub no_more : (further : List I) → HaveFirst bytes (items ++ further) → further ≡ []

  -- Holds if no input of this format begins with these bytes.
  abbrev pub WalkBeginsNone : List ℕ → Type 0
  WalkBeginsNone bytes = (more : List ℕ) (items : List I) → IsRight (bytes ++ more) items → ⊥

-- Holds if a reader reads exactly this format: the inputs over which it gets from its first place
-- to one where the input may end are those of the format, with their items.
module _ {P I F : Type 0} (step : P → ℕ → Result (P × Option I) F) (start : P) (ends : P → Bool)
    (IsRight : List ℕ → List I → Type 0) where
  pub record ReadsFormat : Type 0 where
    pub sound : (bytes : List ℕ) (place : P) (items : List I)
        → walk step start bytes ≡ Ok (place, items) → ends place ≡ true → IsRight bytes items
    pub complete : (bytes : List ℕ) (items : List I) → IsRight bytes items
        → (place : P) × (walk step start bytes ≡ Ok (place, items)) × (ends place ≡ true)

  -- Holds if some bytes lead from this place to one where the input may end.
  pub record GoesOnFrom (place : P) : Type 0 where
    pub more : List ℕ
    pub others : List I
    pub last : P
    pub walks : walk step place more ≡ Ok (last, others)
    pub end : ends last ≡ true

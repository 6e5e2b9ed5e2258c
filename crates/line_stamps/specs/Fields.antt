-- Readers of formats that have fields of four bytes, and single bytes between them.
use Rattle.std.specs.Prelude.{◌≡◌, ℕ, ◌<◌, ◌≤◌, nat_lt, Bool, if◌then◌else◌, List, [], ◌∷◌, ◌++◌}
use Rattle.std.specs.Prelude.{length, Option, None, Result, Ok, Err}
use Rattle.line_stamps.specs.Walks.{HaveFirst, WalkBegins, WalkBeginsNone}

-- where a reader of such a format is: what comes next, and the bytes of a field that have come so
-- far
pub record Spot (S : Type 0) : Type 0 where
  pub stage : S
  pub partial : List ℕ

-- before a field or a single byte
abbrev pub before_field : {S : Type 0} → S → Spot S
before_field stage = record { stage = stage; partial = [] }

module _ {S I F : Type 0} where
  -- a step's result, as a spot before what comes next
  abbrev pub at_spot : Result (S × Option I) F → Result (Spot S × Option I) F
  at_spot (Ok next) = Ok (before_field next.0, next.1)
  at_spot (Err why) = Err why

-- One step: if single bytes come next, the byte is taken at once, and otherwise with its field.
module _ {S I F : Type 0} (takes_bytes : S → Bool) (field_at : S → List ℕ → Result (S × Option I) F)
    (byte_at : S → ℕ → Result (S × Option I) F) where
  abbrev pub spot_step : Spot S → ℕ → Result (Spot S × Option I) F
  spot_step spot b =
      if takes_bytes spot.stage then at_spot (byte_at spot.stage b)
      else if nat_lt (length spot.partial) 3
      then Ok (record { stage = spot.stage; partial = spot.partial ++ b ∷ [] }, None)
      else at_spot (field_at spot.stage (spot.partial ++ b ∷ []))

module _ {I : Type 0} (IsRight : List ℕ → List I → Type 0) where
  -- Holds if the bytes up to the last whole field begin an input of the format, with these items.
  -- Less than a field follows, with which no input has to go on. Each input that begins with all of
  -- the bytes has these items first.
  pub record AreFieldsSoFar (bytes : List ℕ) (items : List I) : Type 0 where
    pub front : List ℕ
    pub partial : List ℕ
    pub is : bytes ≡ front ++ partial
    pub short : length partial < 4
    pub begins : WalkBegins IsRight front items
    pub each : HaveFirst IsRight bytes items

-- Holds if byte b after these bytes is refused at the right offset and for the right cause: its
-- field is the first one with which no input of the format begins. The bytes before the field begin
-- an input, with these items.
module _ {I F : Type 0} (IsRight : List ℕ → List I → Type 0)
    (IsCause : List ℕ → List ℕ → F → Type 0) where
  pub record RefusesField (bytes : List ℕ) (items : List I) (b offset : ℕ) (why : F) : Type 0 where
    pub front : List ℕ
    pub field : List ℕ
    pub is : bytes ++ b ∷ [] ≡ front ++ field
    pub short : length field ≤ 4
    pub begins : WalkBegins IsRight front items
    pub wrong : WalkBeginsNone IsRight (front ++ field)
    pub place : offset ≡ length front
    pub cause : IsCause front field why

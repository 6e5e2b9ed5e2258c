-- The device that hunts, and what it has heard.
use Rattle.std.specs.Prelude.{◌≡◌, ℕ, ◌-◌, ◌<◌, Bool, true, false, List, [], ◌∷◌, ◌++◌, length}
use Rattle.std.specs.Prelude.{if◌then◌else◌, ◌≤◌, map, take}
use Rattle.line_rules.specs.Rules.{Rules, fills_room, lacking_of}
use Rattle.line_rules.specs.declared.line_rules.LineRules.{Ghosts as LineRules}
use Rattle.yasir_ticks.specs.declared.tick.Tick.{Tick}
use Rattle.yasir_ticks.specs.declared.tick.Tick.TheVariants.{Byte}
use Rattle.device_model.specs.declared.hunting.HuntingDevice.{HuntingDevice}
use Rattle.device_model.specs.Frames.{FrameRead}
use Rattle.device_model.specs.Hunt.{Timed, timed_bytes, timed, header_hunted, begins, bytes_taken, hunt}

-- Nothing is decided yet of these bytes: there are none, or only one that can begin a header, or a
-- header begins and not all bytes that are taken with it are there.
pub data IsUndecided (first second : ℕ) (rules : Rules) : List ℕ → Type 0 where
  nothing : IsUndecided first second rules []
  first_byte : IsUndecided first second rules (first ∷ [])
  header_begun : (x : List ℕ) → begins first second x ≡ true
      → length x < bytes_taken first second rules x → IsUndecided first second rules x

-- Holds if the hunt over the bytes `x` goes on with those of them that are held, whatever follows.
-- Nothing is decided yet of those.
pub record HuntGoesOn (first second : ℕ) (rules : Rules) (x held : List Timed) : Type 0 where
  pub goes : (z : List Timed) → hunt first second rules 0 (x ++ z)
      ≡ hunt first second rules 0 x ++ hunt first second rules 0 (held ++ z)
  pub undecided : IsUndecided first second rules (timed_bytes held)

-- Holds if `start` is the tick of the first of these bytes, or there are none.
abbrev pub StartsAt : ℕ → List Timed → Type 0
StartsAt start [] = Unit {0}
StartsAt start (t ∷ x) = start ≡ t.tick

-- how many bytes are lacking of those that are taken with a header that begins here, or 0 if none
-- does
abbrev pub bytes_lacking : ℕ → ℕ → Rules → List ℕ → ℕ
bytes_lacking first second rules x =
    if begins first second x then bytes_taken first second rules x - length x else 0

-- the bytes that the device holds or lends
abbrev pub frame_kept : {R : Type 0} → HuntingDevice R → List ℕ
frame_kept value = value.bytes.items

-- The bytes of which nothing is decided yet. The bytes of a frame that is lent aren't held any
-- more.
abbrev pub held_by_hunt : {R : Type 0} → HuntingDevice R → List ℕ
held_by_hunt value = if value.lends then [] else value.bytes.items

module _ {R : Type 0} (proto : LineRules R) (first second : ℕ) where
  -- Holds if a device that has heard the bytes `x` holds `bytes` of them, from tick `start` on, and
  -- lacks as many as `lacking` says. If the header is whole, `rules` have taken it.
  pub record HasHeard (rules : R) (bytes : List ℕ) (lacking start : ℕ) (x : List Timed) : Type 0 where
    pub held : List Timed
    pub goes_on : HuntGoesOn first second proto.rules x held
    pub bytes_are : bytes ≡ timed_bytes held
    pub lacks : lacking ≡ bytes_lacking first second proto.rules bytes
    pub stands : proto.rules.header_len ≤ length bytes
        → proto.stands rules (header_hunted proto.rules bytes)
    pub starts : StartsAt start held

  -- Holds if the device has heard the bytes `x`.
  abbrev pub HeardBy : HuntingDevice R → List Timed → Type 0
  HeardBy value x = HasHeard value.rules (held_by_hunt value) value.lacking value.start x

  -- Holds if the device has heard this line.
  pub record HuntStandsFor (value : HuntingDevice R) (line : List Tick) : Type 0 where
    pub count : value.ticks ≡ length line
    pub heard : HeardBy value (timed 0 line)

  -- Holds if the device takes the bytes `y`, the first at tick `at`, and reads `frames` with the
  -- last of them, and nothing before it.
  pub record HuntTakesRun (old new : HuntingDevice R) (at : ℕ) (y : List ℕ) (frames : List FrameRead) :
      Type 0 where
    pub ticks : new.ticks ≡ old.ticks
    pub hears : (x : List Timed) → HeardBy old x
        → HeardBy new (x ++ timed at (map (λ b. Byte b) y))
    pub reads : (x : List Timed) → HeardBy old x
        → hunt first second proto.rules 0 (x ++ timed at (map (λ b. Byte b) y))
        ≡ hunt first second proto.rules 0 x ++ frames
    pub unread : (n : ℕ) → n < length y → (x : List Timed) → HeardBy old x
        → hunt first second proto.rules 0 (x ++ timed at (map (λ b. Byte b) (take n y)))
        ≡ hunt first second proto.rules 0 x

-- ---- what happens to the bytes that are held

-- the frame with these bytes, if it is read
abbrev pub frames_told : Bool → ℕ → List ℕ → List FrameRead
frames_told reads start x =
    if reads then record { start = start; frame = x } ∷ [] else []

-- the frame that these bytes are, if they are one
abbrev pub frame_at : Rules → ℕ → List ℕ → List FrameRead
frame_at rules start x = frames_told (rules.is_frame x) start x

-- Holds if there is room for each of these bytes after those before it.
abbrev pub HuntHasRoom : Rules → List ℕ → Type 0
HuntHasRoom rules x = (n : ℕ) → n < length x → fills_room rules (take n x) ≡ false

-- Holds if the device holds nothing any more of the bytes `x`, the first of which came at tick
-- `start`, and lends them if they are a frame.
pub record LetsGo {R : Type 0} (rules : Rules) (start : ℕ) (x : List ℕ) (new : HuntingDevice R)
    (reads : Bool) : Type 0 where
  pub none : held_by_hunt new ≡ []
  pub lacking : new.lacking ≡ 0
  pub frames : frames_told reads new.start new.bytes.items ≡ frame_at rules start x

-- Holds if the device goes on after a header, which the rules have taken.
pub record GoesBehind {R : Type 0} (proto : LineRules R) (old new : HuntingDevice R)
    (reads : Bool) : Type 0 where
  pub start : new.start ≡ old.start
  pub bytes : new.bytes.items ≡ old.bytes.items
  pub lends : new.lends ≡ old.lends
  pub lacking : new.lacking ≡ lacking_of proto.rules old.bytes.items
  pub stands : proto.stands new.rules old.bytes.items
  pub none : reads ≡ false

-- A device that hunts over a run of bytes: those with which no header begins, those that it holds,
-- and those that complete what is taken with a header.
use Rattle.device_model.proofs.HuntCases.{found-whole, front-undecided}
use Rattle.device_model.proofs.HuntSteps.{timed-append, reads-after, goes-after, starts-more}
use Rattle.device_model.proofs.HuntSteps.{undecided-open, same-heard, nothing-held, held-first}
use Rattle.device_model.proofs.HuntSteps.{two-undecided, two-lack, passes-hears, passes-reads}
use Rattle.device_model.proofs.HuntSteps.{begins-hears, begins-reads}
use Rattle.device_model.proofs.Hunts.{timed_bytes-append, timed_bytes-length, hunt-whole}
use Rattle.device_model.specs.{Frames.FrameRead, Hunt.Timed}
use Rattle.device_model.specs.Hunt.{timed, timed_bytes, begins, bytes_taken, found, hunt, header_hunted}
use Rattle.device_model.specs.HuntLaws.{IsHunted}
use Rattle.device_model.specs.HuntingDevice.{IsUndecided, nothing, first_byte, HuntGoesOn, StartsAt}
use Rattle.device_model.specs.HuntingDevice.{HeardBy, HuntTakesRun, HuntStandsFor, frame_at, HuntHasRoom}
use Rattle.device_model.specs.HuntingDevice.{held_by_hunt, bytes_lacking}
use Rattle.device_model.specs.declared.hunting.HuntingDevice.{HuntingDevice}
use Rattle.line_rules.specs.{Rules.Rules, declared.line_rules.LineRules.Ghosts as LineRules}
use Rattle.std.proofs.Common.{◌≡◌, ◌∙◌, ℕ, zero, suc, ◌+◌, ◌-◌, ◌<◌, ◌≤◌, true, false, List, []}
use Rattle.std.proofs.Common.{◌∷◌, ◌++◌, length, take, map, get_or, refl, sym, ap, subst, arith}
use Rattle.std.proofs.Common.{length-append, append_assoc, ⊎_elim, drop, Bool, not}
use Rattle.std.proofs.Math.Seq.{take-append-add, take-add}
use Rattle.std.proofs.lemmas.{Bool.cases_lt, List.append-nil}
use Rattle.std.proofs.lemmas.List.{length-map, map-append, length-take, take-append-le, take-take}
use Rattle.yasir_ticks.specs.declared.tick.Tick.{Tick, TheVariants.Byte}

pub not-true : (b : Bool) → not b ≡ true → b ≡ false
not-true true is = absurd (cc)
not-true false is = refl

pub not-false : (b : Bool) → not b ≡ false → b ≡ true
not-false true is = refl
not-false false is = absurd (cc)

pub none-of : (l : List ℕ) → length l ≡ 0 → l ≡ []
none-of [] none = refl
none-of (b ∷ l) none = absurd (omega arith)

abbrev pub bytes_of : List ℕ → List Tick
bytes_of y = map (λ b. Byte b) y

abbrev pub run : ℕ → List ℕ → List Timed
run at y = timed at (bytes_of y)

pub run-append : (at to : ℕ) (y z : List ℕ) → at + length y ≡ to
    → run at (y ++ z) ≡ run at y ++ run to z
run-append at to y z end =
    ap (timed at) (map-append (λ b. Byte b) y z)
    ∙ timed-append at to (bytes_of y) (bytes_of z)
    (let e = length-map {A = ℕ} {B = Tick} y (λ b. Byte b) in omega arith)

run-bytes : (at : ℕ) (y : List ℕ) → timed_bytes (run at y) ≡ y
run-bytes at [] = refl
run-bytes at (b ∷ y) = ap (λ z. b ∷ z) (run-bytes (suc at) y)

grown-bytes : (held : List Timed) (at : ℕ) (y : List ℕ)
    → timed_bytes (held ++ run at y) ≡ timed_bytes held ++ y
grown-bytes held at y =
    timed_bytes-append held (run at y) ∙ ap (λ u. timed_bytes held ++ u) (run-bytes at y)

-- the first two bytes of a list
pub first-two : (first second : ℕ) (rest : List ℕ) → 2 ≤ length rest → get_or rest 0 0 ≡ first
    → get_or rest 1 0 ≡ second → take 2 rest ≡ first ∷ second ∷ []
first-two first second [] two is after = absurd (omega arith)
first-two first second (a ∷ []) two is after = absurd (omega arith)
first-two first second (a ∷ b ∷ rest) two is after =
    ap (λ u. u ∷ b ∷ []) is ∙ ap (λ u. first ∷ u ∷ []) after

module _ {R : Type 0} (proto : LineRules R) (first second : ℕ)
    (hunted : IsHunted first second proto.rules) where
  abbrev its : Rules
  its = proto.rules

  abbrev hunts : List Timed → List FrameRead
  hunts x = hunt first second its 0 x

  abbrev Undecided : List ℕ → Type 0
  Undecided x = IsUndecided first second its x

  abbrev Heard : HuntingDevice R → List Timed → Type 0
  Heard value x = HeardBy proto first second value x

  abbrev Takes : HuntingDevice R → HuntingDevice R → ℕ → List ℕ → List FrameRead → Type 0
  Takes old new at y frames = HuntTakesRun proto first second old new at y frames

  -- ---- runs one after the other

  pub no-run : (value : HuntingDevice R) (at : ℕ) → Takes value value at [] []
  no-run value at = record {
    ticks = refl;
    hears = λ x heard. subst (Heard value) (sym (append-nil x)) heard;
    reads = λ x heard. ap hunts (append-nil x) ∙ sym (append-nil (hunts x));
    unread = λ n below x heard. absurd (omega arith);
  }

  byte-run : (old new : HuntingDevice R) (at b : ℕ) (frames : List FrameRead)
      → new.ticks ≡ old.ticks
      → ((x : List Timed) → Heard old x → Heard new (x ++ run at (b ∷ [])))
      → ((x : List Timed) → Heard old x → hunts (x ++ run at (b ∷ [])) ≡ hunts x ++ frames)
      → Takes old new at (b ∷ []) frames
  byte-run old new at b frames ticks hears reads = record {
    ticks = ticks;
    hears = hears;
    reads = reads;
    unread = λ n below x heard.
        let none : n ≡ 0 = omega arith in
        ap (λ k. hunts (x ++ run at (take k (b ∷ [])))) none ∙ ap hunts (append-nil x);
  }

  pub joined-run : (old mid new : HuntingDevice R) (at to : ℕ) (y z : List ℕ)
      (frames : List FrameRead) → at + length y ≡ to → Takes old mid at y []
      → Takes mid new to z frames → Takes old new at (y ++ z) frames
  joined-run old mid new at to y z frames end former later =
      let joined : (x : List Timed) (u : List ℕ)
      → (x ++ run at y) ++ run to u ≡ x ++ run at (y ++ u) =
      λ x u. append_assoc x (run at y) (run to u)
      ∙ ap (λ v. x ++ v) (sym (run-append at to y u end)) in
      let same : (x : List Timed) → Heard old x → hunts (x ++ run at y) ≡ hunts x =
      λ x heard. former.reads x heard ∙ append-nil (hunts x) in
      record {
        ticks = later.ticks ∙ former.ticks;
        hears = λ x heard. subst (Heard new) (joined x z)
            (later.hears (x ++ run at y) (former.hears x heard));
        reads = λ x heard. ap hunts (sym (joined x z))
            ∙ (later.reads (x ++ run at y) (former.hears x heard)
            ∙ ap (λ f. f ++ frames) (same x heard));
        unread = λ n below x heard.
            ⊎_elim
            (λ earlier.
            ap (λ u. hunts (x ++ run at u)) (take-append-le n y z (omega arith))
            ∙ former.unread n earlier x heard)
            (λ after.
            let place : n ≡ length y + (n - length y) = omega arith in
            let sum = length-append y z in
            ap (λ k. hunts (x ++ run at (take k (y ++ z)))) place
            ∙ (ap (λ u. hunts (x ++ run at u)) (take-append-add y z (n - length y))
            ∙ (ap hunts (sym (joined x (take (n - length y) z)))
            ∙ (later.unread (n - length y) (omega arith) (x ++ run at y) (former.hears x heard)
            ∙ same x heard))))
            (cases_lt n (length y));
      }

  -- The first bytes of a list, and then the first of the others, are one run.
  pub part-joined : (old mid new : HuntingDevice R) (from : ℕ) (bytes rest : List ℕ) (taken n : ℕ)
      (frames : List FrameRead) → rest ≡ drop taken bytes → taken ≤ length bytes
      → Takes old mid from (take taken bytes) [] → Takes mid new (from + taken) (take n rest) frames
      → Takes old new from (take (taken + n) bytes) frames
  part-joined old mid new from bytes rest taken n frames is within former later =
      let count = length-take taken bytes in
      subst (λ y. Takes old new from y frames)
      (ap (λ y. take taken bytes ++ take n y) is ∙ sym (take-add taken n bytes))
      (joined-run old mid new from (from + taken) (take taken bytes) (take n rest) frames
      (omega arith) former later)

  -- The first byte of a list is a run of one byte.
  pub first-run : (old new : HuntingDevice R) (at b : ℕ) (rest : List ℕ) → 0 < length rest
      → b ≡ get_or rest 0 0 → Takes old new at (b ∷ []) [] → Takes old new at (take 1 rest) []
  first-run old new at b [] some is takes = absurd (omega arith)
  first-run old new at b (a ∷ rest) some is takes =
      subst (λ c. Takes old new at (c ∷ []) []) is takes

  -- A device that lets go of what it lent, and then takes a run, takes the run.
  pub after-letting : (old mid new : HuntingDevice R) (at : ℕ) (y : List ℕ)
      (frames : List FrameRead) → mid.ticks ≡ old.ticks
      → ((x : List Timed) → Heard old x → Heard mid x)
      → Takes mid new at y frames → Takes old new at y frames
  after-letting old mid new at y frames ticks keeps takes = record {
    ticks = takes.ticks ∙ ticks;
    hears = λ x heard. takes.hears x (keeps x heard);
    reads = λ x heard. takes.reads x (keeps x heard);
    unread = λ n below x heard. takes.unread n below x (keeps x heard);
  }

  -- ---- bytes with which no header begins

  -- A byte comes with which no header begins.
  pub passed-byte : (old new : HuntingDevice R) (at b : ℕ) → new.ticks ≡ old.ticks → old.lacking ≡ 0
      → (length (held_by_hunt old) ≡ 1 → b ≡ second → ⊥) → (b ≡ first → ⊥)
      → held_by_hunt new ≡ [] → new.lacking ≡ 0 → Takes old new at (b ∷ []) []
  passed-byte old new at b ticks unbegun other not_first empty lacking =
      byte-run old new at b [] ticks
      (λ x heard. passes-hears proto first second hunted old (record { tick = at; byte = b }) x
      heard unbegun other not_first new empty lacking)
      (λ x heard. passes-reads proto first second hunted old (record { tick = at; byte = b }) x
      heard unbegun other not_first)

  pub begun-byte : (old new : HuntingDevice R) (at b : ℕ) → new.ticks ≡ old.ticks → old.lacking ≡ 0
      → (length (held_by_hunt old) ≡ 1 → b ≡ second → ⊥) → b ≡ first
      → held_by_hunt new ≡ b ∷ [] → new.lacking ≡ 0 → new.start ≡ at → Takes old new at (b ∷ []) []
  begun-byte old new at b ticks unbegun other is_first is lacking start =
      byte-run old new at b [] ticks
      (λ x heard. begins-hears proto first second hunted old (record { tick = at; byte = b }) x
      heard unbegun other is_first new is lacking start)
      (λ x heard. begins-reads proto first second hunted old (record { tick = at; byte = b }) x
      heard unbegun other is_first)

  pub passes-run : (value : HuntingDevice R) (at : ℕ) (y : List ℕ) → held_by_hunt value ≡ []
      → value.lacking ≡ 0 → ((k : ℕ) → k < length y → get_or y k 0 ≡ first → ⊥)
      → Takes value value at y []
  passes-run value at [] empty lacking other = no-run value at
  passes-run value at (b ∷ y) empty lacking other =
      let none = ap length empty in
      joined-run value value value at (at + 1) (b ∷ []) y [] (omega arith)
      (passed-byte value value at b refl lacking (λ one. absurd (omega arith))
      (λ is. other 0 (omega arith) is) empty lacking)
      (passes-run value (at + 1) y empty lacking (λ k below is. other (suc k) (omega arith) is))

  -- ---- bytes that are held with those before them

  -- Holds if the device, which held the bytes `b`, now holds them and the bytes `y`, and reads
  -- nothing.
  pub record Holds (old new : HuntingDevice R) (at : ℕ) (b y : List ℕ) (frames : List FrameRead) :
      Type 0 where
    pub was : held_by_hunt old ≡ b
    pub fronts : (n : ℕ) → n < length y → Undecided (b ++ take n y)
    pub undecided : Undecided (b ++ y)
    pub bytes : held_by_hunt new ≡ b ++ y
    pub lacking : new.lacking ≡ bytes_lacking first second its (b ++ y)
    pub stands : its.header_len ≤ length (b ++ y)
        → proto.stands new.rules (header_hunted its (b ++ y))
    pub starts : (held : List Timed) → timed_bytes held ≡ b → StartsAt old.start held
        → StartsAt new.start (held ++ run at y)
    pub gives : frames ≡ []

  module _ (old : HuntingDevice R) (at : ℕ) (b : List ℕ) (was : held_by_hunt old ≡ b)
      (x : List Timed) (heard : Heard old x) where
    bytes-all : (z : List ℕ) → timed_bytes (heard.held ++ run at z) ≡ b ++ z
    bytes-all z =
        grown-bytes heard.held at z ∙ ap (λ u. u ++ z) (sym heard.bytes_are ∙ was)

    -- Nothing is read from bytes that are undecided.
    front-reads : (z : List ℕ) → Undecided (b ++ z) → hunts (x ++ run at z) ≡ hunts x ++ []
    front-reads z undecided =
        reads-after proto first second hunted x heard.held (heard.held ++ run at z) (run at z) []
        heard.goes_on (subst Undecided (sym (bytes-all z)) undecided)
        (λ w. ap hunts (sym (append_assoc heard.held (run at z) w)))

    front-goes : (z : List ℕ) → Undecided (b ++ z)
        → HuntGoesOn first second its (x ++ run at z) (heard.held ++ run at z)
    front-goes z undecided =
        goes-after proto first second hunted x heard.held (heard.held ++ run at z) (run at z) []
        heard.goes_on (subst Undecided (sym (bytes-all z)) undecided)
        (λ w. ap hunts (sym (append_assoc heard.held (run at z) w)))

  pub held-run : (old new : HuntingDevice R) (at : ℕ) (b y : List ℕ) (frames : List FrameRead)
      → new.ticks ≡ old.ticks
      → ((x : List Timed) → Heard old x → Holds old new at b y frames)
      → Takes old new at y frames
  held-run old new at b y frames ticks holds = record {
    ticks = ticks;
    hears = λ x heard.
        let is = holds x heard in
        record {
          held = heard.held ++ run at y;
          goes_on = front-goes old at b is.was x heard y is.undecided;
          bytes_are = is.bytes ∙ sym (bytes-all old at b is.was x heard y);
          lacks = is.lacking ∙ sym (ap (bytes_lacking first second its) is.bytes);
          stands = λ long.
              let same = ap length is.bytes in
              subst (λ u. proto.stands new.rules (header_hunted its u)) (sym is.bytes)
              (is.stands (omega arith));
          starts = is.starts heard.held (sym heard.bytes_are ∙ is.was) heard.starts;
        };
    reads = λ x heard.
        let is = holds x heard in
        front-reads old at b is.was x heard y is.undecided
        ∙ ap (λ f. hunts x ++ f) (sym is.gives);
    unread = λ n below x heard.
        let is = holds x heard in
        front-reads old at b is.was x heard (take n y) (is.fronts n below)
        ∙ append-nil (hunts x);
  }

  -- The first bytes of those that are taken together are undecided.
  pub fronts-of : (b y : List ℕ) → begins first second (b ++ y) ≡ true
      → length (b ++ y) ≤ bytes_taken first second its (b ++ y) → (n : ℕ) → n < length y
      → Undecided (b ++ take n y)
  fronts-of b y starts within n below =
      let sum = length-append b y in
      subst Undecided (take-append-add b y n)
      (front-undecided first second its proto.headed hunted (b ++ y) (length b + n) starts
      (omega arith) (omega arith))

  pub all-room : (w : List ℕ) → begins first second w ≡ true
      → length w ≤ bytes_taken first second its w → HuntHasRoom its w
  all-room w starts within = λ n below.
      undecided-open proto first second hunted (take n w)
      (front-undecided first second its proto.headed hunted w n starts (omega arith) (omega arith))

  -- ---- a header's first two bytes

  starts-there : (start at : ℕ) (y : List ℕ) (b : ℕ) → start ≡ at → (held : List Timed)
      → timed_bytes held ≡ [] → StartsAt start (held ++ run at (b ∷ y))
  starts-there start at y b is [] none = is
  starts-there start at y b is (t ∷ held) none = absurd (omega (arith, ap length none))

  fronts-two : (n : ℕ) → n < 2 → Undecided (take n (first ∷ second ∷ []))
  fronts-two zero below = nothing
  fronts-two (suc zero) below = first_byte
  fronts-two (suc (suc n)) below = absurd (omega arith)

  pub begun-run : (old new : HuntingDevice R) (at : ℕ) → held_by_hunt old ≡ []
      → new.ticks ≡ old.ticks → held_by_hunt new ≡ first ∷ second ∷ []
      → new.lacking ≡ its.header_len - 2 → new.start ≡ at
      → Takes old new at (first ∷ second ∷ []) []
  begun-run old new at empty ticks bytes lacking start =
      let within = hunted.start_within in
      held-run old new at [] (first ∷ second ∷ []) [] ticks (λ x heard. record {
        was = empty;
        fronts = fronts-two;
        undecided = two-undecided proto first second hunted;
        bytes = bytes;
        lacking = lacking ∙ sym (two-lack proto first second hunted);
        stands = λ long. absurd (omega arith);
        starts = λ held none before.
            starts-there new.start at (second ∷ []) first start held none;
        gives = refl;
      })

  -- The second byte of a header comes after the first one.
  pub second-run : (old new : HuntingDevice R) (at b : ℕ) → b ≡ second → new.ticks ≡ old.ticks
      → length (held_by_hunt old) ≡ 1 → held_by_hunt new ≡ held_by_hunt old ++ b ∷ []
      → new.lacking ≡ its.header_len - 2 → new.start ≡ old.start → Takes old new at (b ∷ []) []
  second-run old new at b is ticks one bytes lacking start =
      let within = hunted.start_within in
      subst (λ c. Takes old new at (c ∷ []) []) (sym is)
      (held-run old new at (first ∷ []) (second ∷ []) [] ticks (λ x heard.
      let was = held-first proto first second hunted old x heard one in
      record {
        was = was;
        fronts = λ n below.
            let none : n ≡ 0 = omega arith in
            subst (λ k. Undecided (first ∷ take k (second ∷ []))) (sym none) first_byte;
        undecided = two-undecided proto first second hunted;
        bytes = bytes ∙ (ap (λ u. u ++ b ∷ []) was ∙ ap (λ c. first ∷ c ∷ []) is);
        lacking = lacking ∙ sym (two-lack proto first second hunted);
        stands = λ long. absurd (omega arith);
        starts = λ held same before.
            let count = ap length same in
            let long = timed_bytes-length held in
            subst (λ s. StartsAt s (held ++ run at (second ∷ []))) (sym start)
            (starts-more proto first second hunted old.start held (run at (second ∷ []))
            (omega arith) before);
        gives = refl;
      }))

  -- ---- all bytes have come that are taken with a header

  whole-steps : (start : ℕ) (held z : List Timed) → begins first second (timed_bytes held) ≡ true
      → bytes_taken first second its (timed_bytes held) ≡ length (timed_bytes held)
      → StartsAt start held
      → hunts (held ++ z) ≡ frame_at its start (timed_bytes held) ++ hunts z
  whole-steps start [] z starts all at = cc
  whole-steps start (u ∷ held) z starts all at =
      let count = timed_bytes-length (u ∷ held) in
      hunt-whole first second its u held z starts (all ∙ count)
      ∙ ap (λ f. f ++ hunts z)
      (ap (λ n. found first second its n (timed_bytes (u ∷ held))) (sym at)
      ∙ found-whole first second its proto.headed hunted proto.framed (timed_bytes (u ∷ held))
      starts all start)

  -- Holds if with the bytes `y` all bytes have come that are taken with the header, the device has
  -- let them go, and `frames` is their frame, if they are one.
  pub record Ends (old new : HuntingDevice R) (b y : List ℕ) (frames : List FrameRead) : Type 0 where
    pub was : held_by_hunt old ≡ b
    pub some : 0 < length b
    pub starts : begins first second (b ++ y) ≡ true
    pub all : bytes_taken first second its (b ++ y) ≡ length (b ++ y)
    pub none : held_by_hunt new ≡ []
    pub lacking : new.lacking ≡ 0
    pub gives : frames ≡ frame_at its old.start (b ++ y)

  module _ (old new : HuntingDevice R) (at : ℕ) (b y : List ℕ) (frames : List FrameRead)
      (x : List Timed) (heard : Heard old x) (is : Ends old new b y frames) where
    end-steps : (z : List Timed)
        → hunts (heard.held ++ (run at y ++ z)) ≡ frames ++ hunts ([] ++ z)
    end-steps z =
        let whole : timed_bytes (heard.held ++ run at y) ≡ b ++ y =
        bytes-all old at b is.was x heard y in
        let count = timed_bytes-length heard.held in
        let same = ap length (sym heard.bytes_are ∙ is.was) in
        let some = is.some in
        ap hunts (sym (append_assoc heard.held (run at y) z))
        ∙ (whole-steps old.start (heard.held ++ run at y) z
        (ap (begins first second) whole ∙ is.starts)
        (ap (bytes_taken first second its) whole ∙ (is.all ∙ sym (ap length whole)))
        (starts-more proto first second hunted old.start heard.held (run at y) (omega arith)
        heard.starts)
        ∙ ap (λ f. f ++ hunts z) (ap (frame_at its old.start) whole ∙ sym is.gives))

  pub ended-run : (old new : HuntingDevice R) (at : ℕ) (b y : List ℕ) (frames : List FrameRead)
      → new.ticks ≡ old.ticks → ((x : List Timed) → Heard old x → Ends old new b y frames)
      → Takes old new at y frames
  ended-run old new at b y frames ticks ends = record {
    ticks = ticks;
    hears = λ x heard.
        let is = ends x heard in
        nothing-held proto first second hunted new (x ++ run at y)
        (goes-after proto first second hunted x heard.held [] (run at y) frames heard.goes_on
        nothing (end-steps old new at b y frames x heard is)) is.none is.lacking;
    reads = λ x heard.
        let is = ends x heard in
        reads-after proto first second hunted x heard.held [] (run at y) frames heard.goes_on
        nothing (end-steps old new at b y frames x heard is);
    unread = λ n below x heard.
        let is = ends x heard in
        let all = is.all in
        front-reads old at b is.was x heard (take n y)
        (fronts-of b y is.starts (omega arith) n below)
        ∙ append-nil (hunts x);
  }

  -- ---- a line

  module _ (old new : HuntingDevice R) (y : List ℕ) (frames : List FrameRead)
      (takes : Takes old new old.ticks y frames)
      (line : List Tick) (heard : HuntStandsFor proto first second old line) where
    line-run : (z : List ℕ) → timed 0 (line ++ bytes_of z) ≡ timed 0 line ++ run old.ticks z
    line-run z =
        let count = heard.count in
        timed-append 0 old.ticks line (bytes_of z) (omega arith)

    pub run-stands : (after : HuntingDevice R) → after.ticks ≡ old.ticks + length y
        → after.rules ≡ new.rules → held_by_hunt after ≡ held_by_hunt new → after.lacking ≡ new.lacking
        → after.start ≡ new.start → HuntStandsFor proto first second after (line ++ bytes_of y)
    run-stands after ticks rules bytes lacking start =
        let sum = length-append line (bytes_of y) in
        let long = length-map {A = ℕ} {B = Tick} y (λ b. Byte b) in
        let count = heard.count in
        record {
          count = omega arith;
          heard = subst (λ u. HeardBy proto first second after u) (sym (line-run y))
              (same-heard proto first second hunted new after (timed 0 line ++ run old.ticks y)
              rules bytes lacking start (takes.hears (timed 0 line) heard.heard));
        }

    pub run-reads : hunts (timed 0 (line ++ bytes_of y)) ≡ hunts (timed 0 line) ++ frames
    run-reads = ap hunts (line-run y) ∙ takes.reads (timed 0 line) heard.heard

    pub run-unread : (n : ℕ) → n < length y
        → hunts (timed 0 (line ++ bytes_of (take n y))) ≡ hunts (timed 0 line)
    run-unread n below =
        ap hunts (line-run (take n y)) ∙ takes.unread n below (timed 0 line) heard.heard

    pub run-unread-front : (bytes : List ℕ) (m : ℕ) → y ≡ take m bytes → m ≤ length bytes
        → (n : ℕ) → n < m
        → hunts (timed 0 (line ++ bytes_of (take n bytes))) ≡ hunts (timed 0 line)
    run-unread-front bytes m is within n below =
        let count = length-take m bytes in
        let long = ap length is in
        ap (λ u. hunts (timed 0 (line ++ bytes_of u)))
        (sym (take-take n m bytes (omega arith)) ∙ ap (take n) (sym is))
        ∙ run-unread n (omega arith)

-- The steps of a device that hunts, by the values that it has before and after.
use Rattle.device_model.proofs.HuntCases.{quiet, undecided-room, taken-short}
use Rattle.device_model.proofs.Hunts.{timed_bytes-length, begins-two, begins-other, begins-before}
use Rattle.device_model.{proofs.Hunts.hunt-none, proofs.Hunts.hunt-no_start, specs.Frames.FrameRead}
use Rattle.device_model.specs.Hunt.{Timed, timed, timed_bytes, header_hunted, begins, bytes_taken, hunt}
use Rattle.device_model.specs.HuntLaws.{IsHunted}
use Rattle.device_model.specs.HuntingDevice.{IsUndecided, nothing, first_byte, header_begun, HuntGoesOn}
use Rattle.device_model.specs.HuntingDevice.{StartsAt, HasHeard, HeardBy, HuntTakesRun, HuntStandsFor}
use Rattle.device_model.specs.HuntingDevice.{bytes_lacking, held_by_hunt, HuntHasRoom}
use Rattle.device_model.specs.declared.hunting.HuntingDevice.{HuntingDevice}
use Rattle.line_rules.specs.Rules.{Rules, fills_room}
use Rattle.line_rules.specs.declared.line_rules.LineRules.{Ghosts as LineRules}
use Rattle.std.proofs.Common.{◌≡◌, ◌∙◌, ℕ, zero, suc, ◌+◌, ◌-◌, ◌<◌, ◌≤◌, true, false, ◌==◌, List}
use Rattle.std.proofs.Common.{[], ◌∷◌, ◌++◌, length, take, refl, sym, ap, subst, arith, ⊎_elim}
use Rattle.std.proofs.{Common.length-append, Common.append_assoc, Common.drop, Math.Seq.take-add}
use Rattle.std.proofs.lemmas.Bool.{ne_eqb, eq-eqb, and_from, cond-true, cond-false, cases_lt}
use Rattle.std.proofs.lemmas.{Bool.false≢true, List.append-nil}
use Rattle.std.proofs.lemmas.List.{length-replicate, length-drop, take_all, take-append-drop}
use Rattle.yasir_ticks.specs.Ticks.{silent}
use Rattle.yasir_ticks.specs.declared.tick.Tick.{Tick, TheVariants.Silent, TheVariants.Byte}

-- ---- the bytes of a line

pub timed-append : (n m : ℕ) (x z : List Tick) → n + length x ≡ m
    → timed n (x ++ z) ≡ timed n x ++ timed m z
timed-append n m [] z at = let same : n ≡ m = omega arith in ap (λ k. timed k z) same
timed-append n m (Silent ∷ x) z at =
    let next : suc n + length x ≡ m = omega arith in timed-append (suc n) m x z next
timed-append n m (Byte b ∷ x) z at =
    let next : suc n + length x ≡ m = omega arith in
    ap (λ l. let t : Timed = record { tick = n; byte = b } in t ∷ l)
    (timed-append (suc n) m x z next)

pub timed-byte : (line : List Tick) (n b : ℕ) → n ≡ length line
    → timed 0 (line ++ Byte b ∷ [])
    ≡ timed 0 line ++ (let t : Timed = record { tick = n; byte = b } in t ∷ [])
timed-byte line n b is =
    let at : 0 + length line ≡ n = omega arith in timed-append 0 n line (Byte b ∷ []) at

pub timed-silent : (line : List Tick) → timed 0 (line ++ Silent ∷ []) ≡ timed 0 line
timed-silent line =
    let at : 0 + length line ≡ length line = omega arith in
    timed-append 0 (length line) line (Silent ∷ []) at ∙ append-nil (timed 0 line)

silent-timed : (n m : ℕ) → timed n (silent m) ≡ []
silent-timed n zero = refl
silent-timed n (suc m) = silent-timed (suc n) m

pub timed-silences : (line : List Tick) (n : ℕ) → timed 0 (line ++ silent n) ≡ timed 0 line
timed-silences line n =
    let at : 0 + length line ≡ length line = omega arith in
    timed-append 0 (length line) line (silent n) at
    ∙ (ap (λ y. timed 0 line ++ y) (silent-timed (length line) n) ∙ append-nil (timed 0 line))

-- A device that lends nothing holds the bytes that it keeps.
pub items-held : {R : Type 0} → (value : HuntingDevice R) → value.lends ≡ false
    → held_by_hunt value ≡ value.bytes.items
items-held value lends = cond-false _ _ _ lends

pub empty-held : {R : Type 0} → (value : HuntingDevice R) → value.lends ≡ false
    → value.bytes.items ≡ [] → held_by_hunt value ≡ []
empty-held value lends empty = items-held value lends ∙ empty

module _ {R : Type 0} (proto : LineRules R) (first second : ℕ)
    (hunted : IsHunted first second proto.rules) where
  abbrev its : Rules
  its = proto.rules

  abbrev hunts : List Timed → List FrameRead
  hunts x = hunt first second its 0 x

  abbrev Undecided : List ℕ → Type 0
  Undecided x = IsUndecided first second its x

  -- ---- the hunt goes on

  -- If the hunt over the held bytes and the bytes `ts` gives `frames` and then goes on with the
  -- bytes `later`, so does the hunt over all bytes.
  module _ (x held later ts : List Timed) (frames : List FrameRead)
      (goes : HuntGoesOn first second its x held) (undecided : Undecided (timed_bytes later))
      (steps : (z : List Timed) → hunts (held ++ (ts ++ z)) ≡ frames ++ hunts (later ++ z)) where
    pub reads-after : hunts (x ++ ts) ≡ hunts x ++ frames
    reads-after =
        goes.goes ts
        ∙ ap (λ y. hunts x ++ y)
        (ap (λ y. hunts (held ++ y)) (sym (append-nil ts))
        ∙ (steps []
        ∙ (ap (λ y. frames ++ y)
        (ap hunts (append-nil later) ∙ quiet first second its proto.headed hunted later undecided)
        ∙ append-nil frames)))

    pub goes-after : HuntGoesOn first second its (x ++ ts) later
    goes-after = record {
      goes = λ z. ap hunts (append_assoc x ts z)
          ∙ (goes.goes (ts ++ z)
          ∙ (ap (λ y. hunts x ++ y) (steps z)
          ∙ (sym (append_assoc (hunts x) frames (hunts (later ++ z)))
          ∙ ap (λ y. y ++ hunts (later ++ z)) (sym reads-after))));
      undecided = undecided;
    }

  -- ---- room

  -- If bytes are undecided, there is room for one more.
  pub undecided-open : (x : List ℕ) → Undecided x → fills_room its x ≡ false
  undecided-open x undecided =
      let room = undecided-room first second its proto.headed hunted proto.lawful x undecided in
      ne_eqb (length x) (its.room x) (λ all. omega arith)

  -- The rules take all of these bytes if there is room for each.
  pub takes-all : (rules : R) (x y : List ℕ) (n : ℕ)
      → ((k : ℕ) → k < length y → fills_room its (x ++ take k y) ≡ false)
      → proto.stands rules (x ++ take n y) → (n < length y → proto.is_full rules ≡ true)
      → proto.stands rules (x ++ y)
  takes-all rules x y n room stands full =
      ⊎_elim
      (λ short. absurd (false≢true (sym (room n short)
      ∙ (sym (proto.fullness rules (x ++ take n y) stands) ∙ full short))))
      (λ all. subst (λ z. proto.stands rules (x ++ z)) (take_all n y all) stands)
      (cases_lt n (length y))

  -- The rules take all bytes, from the first one on.
  pub takes-whole : (rules : R) (items given : List ℕ) (n : ℕ) → given ≡ items → HuntHasRoom its items
      → proto.stands rules (take n given) → (n < length given → proto.is_full rules ≡ true)
      → proto.stands rules items
  takes-whole rules items given n is room stands full =
      let count = ap length is in
      subst (proto.stands rules) is
      (takes-all rules [] given n
      (λ k below. ap (λ u. fills_room its (take k u)) is ∙ room k (omega arith)) stands full)

  -- The rules take all bytes after a header that they have taken.
  pub takes-rest : (rules : R) (items given : List ℕ) (header n : ℕ) → header ≡ its.header_len
      → header ≤ length items → given ≡ drop header items → HuntHasRoom its items
      → proto.stands rules (header_hunted its items ++ take n given)
      → (n < length given → proto.is_full rules ≡ true) → proto.stands rules items
  takes-rest rules items given header n size within is room stands full =
      let m : ℕ = its.header_len in
      let rest : given ≡ drop m items = is ∙ ap (λ k. drop k items) size in
      let count = ap length rest in
      let long = length-drop m items in
      subst (proto.stands rules)
      (ap (λ u. take m items ++ u) rest ∙ take-append-drop m items)
      (takes-all rules (take m items) given n
      (λ k below.
      ap (fills_room its)
      (ap (λ u. take m items ++ take k u) rest ∙ sym (take-add m k items))
      ∙ room (m + k) (omega arith))
      stands full)

  -- ---- what is held

  pub starts-more : (start : ℕ) (held ts : List Timed) → 0 < length held
      → StartsAt start held → StartsAt start (held ++ ts)
  starts-more start [] ts some starts = absurd (omega arith)
  starts-more start (u ∷ held) ts some starts = starts

  abbrev Heard : HuntingDevice R → List Timed → Type 0
  Heard value x = HeardBy proto first second value x

  -- A device that holds the same as before has heard the same.
  pub same-heard : (old new : HuntingDevice R) (x : List Timed) → new.rules ≡ old.rules
      → held_by_hunt new ≡ held_by_hunt old → new.lacking ≡ old.lacking → new.start ≡ old.start
      → Heard old x → Heard new x
  same-heard old new x rules bytes lacking start heard =
      subst (λ r. HasHeard proto first second r (held_by_hunt new) new.lacking new.start x) (sym rules)
      (subst (λ b. HasHeard proto first second old.rules b new.lacking new.start x) (sym bytes)
      (subst (λ n. HasHeard proto first second old.rules (held_by_hunt old) n new.start x) (sym lacking)
      (subst (λ s. HasHeard proto first second old.rules (held_by_hunt old) old.lacking s x) (sym start)
      heard)))

  -- If nothing is held, it doesn't matter what the rules have taken.
  pub nothing-held : (value : HuntingDevice R) (x : List Timed) → HuntGoesOn first second its x []
      → held_by_hunt value ≡ [] → value.lacking ≡ 0 → Heard value x
  nothing-held value x goes empty lacking =
      let none = ap length empty in
      let within = hunted.start_within in
      record {
        held = [];
        goes_on = goes;
        bytes_are = empty;
        lacks = lacking ∙ sym (ap (bytes_lacking first second its) empty);
        stands = λ long. absurd (omega arith);
        starts = tt;
      }

  -- ---- if no header has begun

  unbegun-few : (y : List ℕ) → Undecided y → bytes_lacking first second its y ≡ 0 → length y < 2
  unbegun-few y nothing none = omega arith
  unbegun-few y first_byte none = omega arith
  unbegun-few y (header_begun z starts few) none =
      let is : bytes_lacking first second its z ≡ bytes_taken first second its z - length z =
      cond-true _ _ _ starts in
      absurd (omega arith)

  pub held-few : (old : HuntingDevice R) (x : List Timed) → Heard old x → old.lacking ≡ 0
      → length (held_by_hunt old) < 2
  held-few old x heard lacking =
      unbegun-few (held_by_hunt old) (subst Undecided (sym heard.bytes_are) heard.goes_on.undecided)
      (sym heard.lacks ∙ lacking)

  one-held : (y : List ℕ) → Undecided y → length y ≡ 1 → y ≡ first ∷ []
  one-held y nothing one = cc
  one-held y first_byte one = refl
  one-held y (header_begun z starts few) one =
      let two = begins-two first second z starts in absurd (omega arith)

  pub held-first : (old : HuntingDevice R) (x : List Timed) → Heard old x
      → length (held_by_hunt old) ≡ 1 → held_by_hunt old ≡ first ∷ []
  held-first old x heard one =
      one-held (held_by_hunt old) (subst Undecided (sym heard.bytes_are) heard.goes_on.undecided) one

  pub two-begins : begins first second (first ∷ second ∷ []) ≡ true
  two-begins =
      and_from (first == first) (second == second) (eq-eqb first first refl)
      (eq-eqb second second refl)

  pub two-taken : bytes_taken first second its (first ∷ second ∷ []) ≡ its.header_len
  two-taken =
      let within = hunted.start_within in
      taken-short first second its proto.headed hunted (first ∷ second ∷ []) two-begins
      (omega arith)

  pub two-undecided : Undecided (first ∷ second ∷ [])
  two-undecided =
      let taken = two-taken in
      let within = hunted.start_within in
      header_begun (first ∷ second ∷ []) two-begins (omega arith)

  pub two-lack : bytes_lacking first second its (first ∷ second ∷ []) ≡ its.header_len - 2
  two-lack = cond-true _ _ _ two-begins ∙ ap (λ n. n - 2) two-taken

  -- ---- the held bytes are let go, and the byte may be the first one of a header

  module _ (old : HuntingDevice R) (t : Timed) (x : List Timed) (heard : Heard old x)
      (unbegun : old.lacking ≡ 0)
      (other : length (held_by_hunt old) ≡ 1 → t.byte ≡ second → ⊥) where
    forgets : (held : List Timed) → held_by_hunt old ≡ timed_bytes held → (z : List Timed)
        → hunts (held ++ t ∷ z) ≡ hunts (t ∷ z)
    forgets [] is z = refl
    forgets (s ∷ []) is z =
        let one : length (held_by_hunt old) ≡ 1 = ap length is in
        hunt-no_start first second its s (t ∷ z)
        (begins-before first second s.byte t.byte (timed_bytes z) (λ same. other one same))
    forgets (s ∷ u ∷ held) is z =
        let count = ap length is in
        let long = timed_bytes-length (s ∷ u ∷ held) in
        let few = held-few old x heard unbegun in
        absurd (omega arith)

    -- The byte isn't a first one.
    module _ (not_first : t.byte ≡ first → ⊥) where
      steps-out : (z : List Timed) → hunts (heard.held ++ t ∷ z) ≡ [] ++ hunts ([] ++ z)
      steps-out z =
          forgets heard.held heard.bytes_are z
          ∙ hunt-no_start first second its t z
          (begins-other first second t.byte (timed_bytes z) not_first)

      pub passes-hears : (rest : HuntingDevice R) → held_by_hunt rest ≡ [] → rest.lacking ≡ 0
          → Heard rest (x ++ t ∷ [])
      passes-hears rest empty lacking =
          nothing-held rest (x ++ t ∷ [])
          (goes-after x heard.held [] (t ∷ []) [] heard.goes_on nothing steps-out) empty lacking

      pub passes-reads : hunts (x ++ t ∷ []) ≡ hunts x ++ []
      passes-reads = reads-after x heard.held [] (t ∷ []) [] heard.goes_on nothing steps-out

    -- The byte is a first one.
    module _ (first_comes : t.byte ≡ first) where
      one-undecided : Undecided (t.byte ∷ [])
      one-undecided = subst (λ b. Undecided (b ∷ [])) (sym first_comes) first_byte

      steps-in : (z : List Timed) → hunts (heard.held ++ t ∷ z) ≡ [] ++ hunts (t ∷ [] ++ z)
      steps-in z = forgets heard.held heard.bytes_are z

      pub begins-hears : (rest : HuntingDevice R) → held_by_hunt rest ≡ t.byte ∷ [] → rest.lacking ≡ 0
          → rest.start ≡ t.tick → Heard rest (x ++ t ∷ [])
      begins-hears rest is lacking at =
          let one = ap length is in
          let within = hunted.start_within in
          record {
            held = t ∷ [];
            goes_on = goes-after x heard.held (t ∷ [])
                (t ∷ []) [] heard.goes_on one-undecided steps-in;
            bytes_are = is;
            lacks = lacking ∙ sym (ap (bytes_lacking first second its) is);
            stands = λ long. absurd (omega arith);
            starts = at;
          }

      pub begins-reads : hunts (x ++ t ∷ []) ≡ hunts x ++ []
      begins-reads = reads-after x heard.held (t ∷ [])
          (t ∷ []) [] heard.goes_on one-undecided steps-in

  -- ---- a line

  pub nothing-goes : HuntGoesOn first second its [] []
  nothing-goes = record {
    goes = λ z. ap (λ y. y ++ hunts z) (sym (hunt-none first second its 0));
    undecided = nothing;
  }

  pub heard-nothing : (value : HuntingDevice R) → held_by_hunt value ≡ [] → value.lacking ≡ 0
      → value.ticks ≡ 0 → HuntStandsFor proto first second value []
  heard-nothing value empty lacking count = record {
    count = count;
    heard = nothing-held value [] nothing-goes empty lacking;
  }

  abbrev Stands : HuntingDevice R → List Tick → Type 0
  Stands value line = HuntStandsFor proto first second value line

  -- the device, which has counted one more tick
  abbrev counted : HuntingDevice R → HuntingDevice R
  counted value = record value { ticks = value.ticks + 1 }

  -- Silence changes nothing but the count of ticks.
  pub silence-stands : (old : HuntingDevice R) (t : Tick) → t ≡ Silent → (line : List Tick)
      → Stands old line → Stands (counted old) (line ++ t ∷ [])
  silence-stands old t is line heard =
      let P : Tick → Type 0 = λ u. Stands (counted old) (line ++ u ∷ []) in
      let sum = length-append line (Silent ∷ []) in
      let was = heard.count in
      subst P (sym is) (record {
        count = omega arith;
        heard = subst (λ y. Heard old y) (sym (timed-silent line)) heard.heard;
      })

  pub silence-reads : (t : Tick) → t ≡ Silent → (line : List Tick)
      → hunts (timed 0 (line ++ t ∷ [])) ≡ hunts (timed 0 line) ++ []
  silence-reads t is line =
      ap (λ u. hunts (timed 0 (line ++ u ∷ []))) is
      ∙ (ap hunts (timed-silent line) ∙ sym (append-nil (hunts (timed 0 line))))

  pub silences-stand : (old : HuntingDevice R) (n : ℕ) (line : List Tick) → Stands old line
      → Stands (record old { ticks = old.ticks + n }) (line ++ silent n)
  silences-stand old n line heard =
      let sum = length-append line (silent n) in
      let long = length-replicate n Silent in
      let was = heard.count in
      record {
        count = omega arith;
        heard = subst (λ y. Heard old y) (sym (timed-silences line n)) heard.heard;
      }

  pub silences-read : (n : ℕ) (line : List Tick)
      → hunts (timed 0 (line ++ silent n)) ≡ hunts (timed 0 line)
  silences-read n line = ap hunts (timed-silences line n)

  module _ (old new : HuntingDevice R) (t : Tick) (b : ℕ) (is : t ≡ Byte b)
      (frames : List FrameRead)
      (takes : HuntTakesRun proto first second (counted old) new old.ticks (b ∷ []) frames)
      (line : List Tick) (heard : Stands old line) where
    pub byte-stands : Stands new (line ++ t ∷ [])
    byte-stands =
        let P : Tick → Type 0 = λ u. Stands new (line ++ u ∷ []) in
        let sum = length-append line (Byte b ∷ []) in
        let was = heard.count in
        let ticks = takes.ticks in
        subst P (sym is) (record {
          count = omega arith;
          heard = subst (λ y. Heard new y) (sym (timed-byte line old.ticks b heard.count))
              (takes.hears (timed 0 line) heard.heard);
        })

    pub byte-reads : hunts (timed 0 (line ++ t ∷ [])) ≡ hunts (timed 0 line) ++ frames
    byte-reads =
        ap (λ u. hunts (timed 0 (line ++ u ∷ []))) is
        ∙ (ap hunts (timed-byte line old.ticks b heard.count)
        ∙ takes.reads (timed 0 line) heard.heard)

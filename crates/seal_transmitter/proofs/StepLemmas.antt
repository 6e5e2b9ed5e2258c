-- What is on the link as the line of the device goes on.
use Rattle.frame_ending.proofs.Emissions.{tick_at-none, tick_at-from}
use Rattle.frame_ending.specs.{HasCome.AreNoted, Laid.tick_at, Walk.Noted, Walk.walked, Walk.emitted_by}
use Rattle.{frame_ending.specs.Walk.state_after, frame_ending.proofs.LiveTicks.live_end-within}
use Rattle.frame_ending.specs.LiveBytes.{live_bytes, live_ticks, live_end}
use Rattle.{line_rules.specs.Rules.Rules, link_format.specs.NumberedFrame.last_number}
use Rattle.link_format.specs.{Profile.Profile, Profile.trailer, Trailers.first_of}
use Rattle.link_box.proofs.SealNumbers.{frames_in}
use Rattle.link_box.specs.Sealing.{SealState, FullNote, Judgement, judged, state_by, note_by}
use Rattle.link_box.specs.Sealing.{emission_by, forwarded, trailing, sealer}
use Rattle.link_box.specs.Sealing.Judgement.{sealed_with, unsealed}
use Rattle.link_box.specs.declared.seal_note.UnsealedWhy.TheVariants.{Early, Form, Spent}
use Rattle.seal_transmitter.specs.Stands.{sent_at}
use Rattle.std.proofs.Common.{◌≡◌, ◌∙◌, ◌&&◌, ℕ, suc, ◌+◌, ◌-◌, ◌<◌, ◌≤◌, nat_lt, nat_le, true}
use Rattle.std.proofs.Common.{false, List, [], ◌∷◌, ◌++◌, length, map, drop, refl, sym, ap, arith}
use Rattle.std.proofs.Common.{append_assoc, length-append, get_or, ◌⊎◌, inl, inr, ⊎_elim}
use Rattle.std.proofs.lemmas.Bool.{cases_lt}
use Rattle.std.proofs.lemmas.List.{get_or_past, get_or-map, get_or-append_right, length-map}
use Rattle.yasir_ticks.specs.{Bursts.Burst, Bursts.end_of, Ticks.silent}
use Rattle.yasir_ticks.specs.declared.tick.Tick.{Tick, TheVariants.Silent, TheVariants.Byte}

-- ---- ticks over one another

-- a tick, or else another one if it is silent
abbrev pub or_else : Tick → Tick → Tick
or_else Silent t = t
or_else (Byte b) t = Byte b

or_else-assoc : (a b c : Tick) → or_else a (or_else b c) ≡ or_else (or_else a b) c
or_else-assoc Silent b c = refl
or_else-assoc (Byte x) b c = refl

pub or_else-silent : (a : Tick) → or_else a Silent ≡ a
or_else-silent Silent = refl
or_else-silent (Byte x) = refl

-- Holds if the emission has a byte at tick `i`, in case it covers this tick.
abbrev IsBright : Burst → ℕ → Type 0
IsBright e i = e.start ≤ i → i < end_of e → (x : ℕ) × (get_or e.body (i - e.start) Silent ≡ Byte x)

-- Holds if these emissions, when others follow them, hide tick `i` of the others only by a byte.
abbrev pub Overlays : List Burst → ℕ → Type 0
Overlays a i = (more : List Burst) → tick_at (a ++ more) i ≡ or_else (tick_at a i) (tick_at more i)

is_outside : (a b i : ℕ) → (i < a) ⊎ (b ≤ i) → (nat_le a i && nat_lt i b) ≡ false
is_outside a b i h = grind arith

is_inside : (a b i : ℕ) → a ≤ i → i < b → (nat_le a i && nat_lt i b) ≡ true
is_inside a b i h k = grind arith

overlays-outside : (e : Burst) (i : ℕ) → (i < e.start) ⊎ (end_of e ≤ i) → Overlays (e ∷ []) i
unfolding tick_at
overlays-outside e i out more = rw (is_outside e.start (end_of e) i out) refl

overlays-byte : (e : Burst) (i x : ℕ) → e.start ≤ i → i < end_of e
    → get_or e.body (i - e.start) Silent ≡ Byte x → Overlays (e ∷ []) i
unfolding tick_at
overlays-byte e i x from within is more =
    rw (is_inside e.start (end_of e) i from within) (rw is refl)

overlays-one : (e : Burst) (i : ℕ) → IsBright e i → Overlays (e ∷ []) i
overlays-one e i bright more =
    ⊎_elim
    (λ before. overlays-outside e i (inl before) more)
    (λ from. ⊎_elim
    (λ within. let byte = bright from within in overlays-byte e i byte.0 from within byte.1 more)
    (λ past. overlays-outside e i (inr past) more)
    (cases_lt i (end_of e)))
    (cases_lt i e.start)

pub overlays-none : (i : ℕ) → Overlays [] i
overlays-none i more = sym (ap (λ t. or_else t (tick_at more i)) (tick_at-none i))

overlays-append : (a b : List Burst) (i : ℕ) → Overlays a i → Overlays b i → Overlays (a ++ b) i
overlays-append a b i first second more =
    ap (λ x. tick_at x i) (append_assoc a b more)
    ∙ (first (b ++ more)
    ∙ (ap (λ t. or_else (tick_at a i) t) (second more)
    ∙ (or_else-assoc (tick_at a i) (tick_at b i) (tick_at more i)
    ∙ ap (λ t. or_else t (tick_at more i)) (sym (first b)))))

-- ---- bytes that are sent

pub sent-first : (m : ℕ) (unsent : List ℕ) → sent_at m unsent m ≡ first_of unsent
sent-first m [] = refl
sent-first m (b ∷ unsent) = let none : m - m ≡ 0 = omega arith in
    ap (λ k. get_or (map (λ x. Byte x) (b ∷ unsent)) k Silent) none

pub sent-later : (m : ℕ) (unsent : List ℕ) (i : ℕ) → m + 1 ≤ i
    → sent_at m unsent i ≡ sent_at (m + 1) (drop 1 unsent) i
sent-later m [] i later = refl
sent-later m (b ∷ unsent) i later =
    let one_less : i - m ≡ suc (i - (m + 1)) = omega arith in
    ap (λ k. get_or (map (λ x. Byte x) (b ∷ unsent)) k Silent) one_less

-- ---- emissions of closed bursts

module _ (profile : Profile) (rules : Rules) where
  -- Without a trailer, an emission ends with its burst or before.
  forwarded-dark : (d : Burst) (i : ℕ) → end_of d ≤ i → end_of (forwarded rules d []) ≤ i
  forwarded-dark d i later =
      let few = live_end-within rules d in
      let long = length-append (live_ticks rules d) [] in
      omega arith

  pub forwarded-past : (d : Burst) (i : ℕ) → end_of d ≤ i
      → tick_at (forwarded rules d [] ∷ []) i ≡ Silent
  forwarded-past d i later =
      let end = forwarded-dark d i later in
      let from : d.start ≤ i = omega arith in
      let past : length (live_ticks rules d ++ []) ≤ i - d.start = omega arith in
      tick_at-from (forwarded rules d []) i from
      ∙ get_or_past (live_ticks rules d ++ []) (i - d.start) Silent past

  -- After the three silent ticks that follow its live bytes, the emission of a sealed burst has the
  -- bytes of its trailer.
  pub sealed-from : (d : Burst) (bytes : List ℕ) (i : ℕ) → live_end rules d + 3 ≤ i
      → get_or (forwarded rules d (trailing bytes)).body (i - d.start) Silent
      ≡ sent_at (live_end rules d + 3) bytes i
  sealed-from d bytes i from =
      let n : ℕ = length (live_ticks rules d) in
      let first : n ≤ i - d.start = omega arith in
      let second : 3 ≤ i - d.start - n = omega arith in
      let same : i - d.start - n - 3 ≡ i - (live_end rules d + 3) = omega arith in
      get_or-append_right (live_ticks rules d) (trailing bytes) n (i - d.start) Silent refl first
      ∙ (get_or-append_right (silent 3) (map (λ b. Byte b) bytes) 3 (i - d.start - n) Silent refl
      second
      ∙ ap (λ k. get_or (map (λ b. Byte b) bytes) k Silent) same)

  sealed-bright : (d : Burst) (bytes : List ℕ) (i : ℕ) → live_end rules d + 3 ≤ i
      → IsBright (forwarded rules d (trailing bytes)) i
  sealed-bright d bytes i from begun within =
      let long : length (live_ticks rules d ++ (trailing bytes))
      ≡ length (live_ticks rules d) + (3 + length bytes) =
      simp (length-append, length-map) (omega arith) in
      let few : i - (live_end rules d + 3) < length bytes = omega arith in (
        get_or bytes (i - (live_end rules d + 3)) 0,
        sealed-from d bytes i from ∙ get_or-map (λ b. Byte b) bytes (i - (live_end rules d + 3)) 0
            Silent few,
      )

  emission-overlays : (d : Burst) (i : ℕ) (j : Judgement) → end_of d + 3 ≤ i
      → Overlays (emission_by profile rules d j) i
  emission-overlays d i (sealed_with n) later =
      let bytes : List ℕ = trailer profile n (live_bytes rules d) in
      let end = live_end-within rules d in
      let from : live_end rules d + 3 ≤ i = omega arith in
      overlays-one (forwarded rules d (trailing bytes)) i (sealed-bright d bytes i from)
  emission-overlays d i (unsealed Early) later = overlays-none i
  emission-overlays d i (unsealed Form) later =
      let past : end_of d ≤ i = omega arith in
      overlays-outside (forwarded rules d []) i (inr (forwarded-dark d i past))
  emission-overlays d i (unsealed Spent) later =
      let past : end_of d ≤ i = omega arith in
      overlays-outside (forwarded rules d []) i (inr (forwarded-dark d i past))

  pub noted-overlays : (s : SealState) (ds : List Burst) (m i : ℕ)
      → AreNoted (sealer profile rules) s m ds
      → m ≤ i → Overlays (emitted_by (sealer profile rules) s ds) i
  noted-overlays s [] m i are later = overlays-none i
  noted-overlays s (d ∷ ds) m i are later =
      let j : Judgement = judged profile rules s d in
      let next : SealState = state_by profile rules s d j in
      let close : end_of d + 3 < m = are.0 in
      let past : end_of d + 3 ≤ i = omega arith in
      overlays-append (emission_by profile rules d j) (emitted_by (sealer profile rules) next ds) i
      (emission-overlays d i j past) (noted-overlays next ds m i are.1 later)

  -- ---- numbers of bursts

  number-more : (s : SealState) (d : Burst) (tick floor : ℕ) (j : Judgement)
      (more : List (Noted FullNote))
      → floor ≡ last_number (state_by profile rules s d j).floor (frames_in more)
      → floor ≡ last_number s.floor (frames_in
      (record { tick = tick; note = note_by rules d j } ∷ more))
  number-more s d tick floor (sealed_with n) more rest = rest
  number-more s d tick floor (unsealed why) more rest = rest

  -- The last number among the notes is the floor of the state.
  pub noted-number : (s : SealState) (ds : List Burst)
      → (state_after (sealer profile rules) s ds).floor
      ≡ last_number s.floor (frames_in (walked (sealer profile rules) s ds))
  noted-number s [] = refl
  noted-number s (d ∷ ds) =
      let next : SealState = state_by profile rules s d (judged profile rules s d) in
      number-more s d (end_of d + 3) (state_after (sealer profile rules) next ds).floor
      (judged profile rules s d) (walked (sealer profile rules) next ds) (noted-number next ds)

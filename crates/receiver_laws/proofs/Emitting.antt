-- The emissions of the transmitter are apart, so each packet that ends within the link is a burst
-- of it.
use Rattle.frame_ending.proofs.LaidBursts.{bursts-laid}
use Rattle.frame_ending.proofs.Spread.{AreSpread, EndBy, bursts-spread, bursts-end}
use Rattle.frame_ending.specs.{Laid.laid, Laid.tick_at, Walk.emitted_by}
use Rattle.frame_ending.proofs.LiveTicks.{live_ticks-contiguous, live_end-within, live_end-whole}
use Rattle.frame_ending.proofs.{LiveTicks.live_ticks-whole, Pauses.contiguous-ends}
use Rattle.frame_ending.specs.LiveBytes.{live_bytes, live_ticks, has_extra}
use Rattle.line_rules.specs.{Rules.Rules, RulesLaws.IsLawful}
use Rattle.link_format.proofs.Profiles.{length-trailer}
use Rattle.link_format.specs.Profile.{Profile, HasTags, pause_len, trailer_len, trailer}
use Rattle.link_box.proofs.Spoiled.{contiguous-wider}
use Rattle.receiver_laws.proofs.Packing.{packet, packet-length, packet-contiguous}
use Rattle.receiver_laws.proofs.{Parting.same-front, Parting.are-front, Sending.sealed-is}
use Rattle.receiver_laws.proofs.{Sending.form-from, Sending.spent-from, Settled.laid-longer}
use Rattle.receiver_laws.proofs.Standing.{AreOn, bursts-on, byte_ticks}
use Rattle.receiver_laws.specs.Standing.{StandsOn, numbered_frame}
use Rattle.link_box.specs.Sealing.{SealState, Judgement, judged, state_by, trailing}
use Rattle.link_box.specs.Sealing.{emission_by, sealer, at_floor, link_line}
use Rattle.link_box.specs.Sealing.Judgement.{sealed_with, unsealed}
use Rattle.link_box.specs.declared.seal_note.UnsealedWhy.TheVariants.{Early, Form, Spent}
use Rattle.std.proofs.Common.{◌≡◌, ◌∙◌, ℕ, ◌+◌, ◌<◌, ◌≤◌, false, List, [], ◌∷◌, ◌++◌, length, refl}
use Rattle.std.proofs.Common.{sym, ap, subst, arith, ⊎_elim, append_assoc, length-append, drop}
use Rattle.std.proofs.{Math.Seq.drop-append_seam, lemmas.Bool.cases_lt, lemmas.Bool.ltb-false}
use Rattle.std.proofs.lemmas.List.{append-nil, length-map, FromFn.length-map-range_with_len}
use Rattle.yasir_ticks.proofs.BurstsOfLaws.{bursts_from-are, bursts_from-only}
use Rattle.yasir_ticks.proofs.SilenceLaws.{bytes_in-append}
use Rattle.yasir_ticks.specs.{Bursts.Burst, Bursts.bursts, Bursts.end_of, BurstsOf.AreBursts}
use Rattle.yasir_ticks.specs.{BurstsOf.IsContiguous, Ticks.silent, Ticks.bytes_in}
use Rattle.yasir_ticks.specs.declared.tick.Tick.{Tick, TheVariants.Byte}

ends-late : (w : List Tick) (a : ℕ) (body v : List Tick) → w ++ Byte a ∷ [] ≡ body ++ v
    → length body ≤ length w → 0 < length (bytes_in v)
ends-late w a body v same short =
    let parts = same-front w (Byte a ∷ []) body v same short in
    let all = ap (λ x. length (bytes_in x)) parts.2
    ∙ ap length (bytes_in-append parts.0 (Byte a ∷ [])) in
    let long = length-append (bytes_in parts.0) (a ∷ []) in
    omega arith

-- If ticks begin as `x` does, which ends with a byte, and have at least as many bytes as `x`, they
-- are at least as long.
long-enough : (x u body y : List Tick) (h : List ℕ) → IsContiguous 4 x → body ++ y ≡ x ++ u
    → bytes_in body ≡ h → length (bytes_in x) ≤ length h → length x ≤ length body
long-enough x u body y h contiguous same spells few =
    let last = contiguous-ends 4 x contiguous in
    let ends : length x ≡ length last.0 + 1 =
    ap length last.2 ∙ length-append last.0 (Byte last.1 ∷ []) in
    ⊎_elim
    (λ long. omega arith)
    (λ short.
    let v = same-front x u body y (sym same) (omega arith) in
    let more = ends-late last.0 last.1 body v.0 (sym last.2 ∙ v.1) short in
    let bytes : length (bytes_in x) ≡ length (bytes_in (body ++ v.0)) =
    ap (λ z. length (bytes_in z)) v.1 in
    let parts = ap length (bytes_in-append body v.0) in
    let split = length-append (bytes_in body) (bytes_in v.0) in
    let spelled = ap length spells in
    absurd (omega arith))
    (cases_lt (length last.0) (length body))

-- If two equal lists have fronts of the same length, what follows the fronts is equal too.
behind-same : (a b x y : List Tick) → a ++ x ≡ b ++ y → length a ≡ length b → x ≡ y
behind-same a b x y same long =
    sym (drop-append_seam a x)
    ∙ (ap (λ l. drop (length a) l) same
    ∙ (ap (λ k. drop k (b ++ y)) long ∙ drop-append_seam b y))

front-more : (a b c d : List Tick) → (a ++ (b ++ c)) ++ d ≡ a ++ (b ++ (c ++ d))
front-more a b c d = append_assoc a (b ++ c) d ∙ ap (λ l. a ++ l) (append_assoc b c d)

body-parts : (body live t more : List Tick) → live ≡ body
    → (live ++ t) ++ more ≡ body ++ (t ++ more)
body-parts body live t more same = ap (λ x. (x ++ t) ++ more) same ∙ append_assoc body t more

module _ (profile : Profile) (tags : HasTags profile) (some : 1 ≤ profile.word_len)
    (rules : Rules) (lawful : IsLawful rules) where
  -- ---- emissions are apart

  -- A burst that is forwarded without a trailer, before others, is apart from them.
  plain-spread : (d : Burst) (m : ℕ) (es : List Burst) → IsContiguous 4 d.body → m ≤ d.start
      → ((k : ℕ) → k ≤ end_of d + 4 → AreSpread 4 k es)
      → AreSpread 4 m (record { start = d.start; body = live_ticks rules d ++ [] } ∷ es)
  plain-spread d m es whole from rest =
      let P : List Tick → Type 0 = λ x. IsContiguous 4 x in
      let end = live_end-within rules d in
      let long = length-append (live_ticks rules d) [] in (
        from,
        subst P (sym (append-nil (live_ticks rules d)))
            (contiguous-wider 2 4 (live_ticks rules d) (omega arith)
            (live_ticks-contiguous rules lawful d whole)),
        rest (d.start + length (live_ticks rules d ++ []) + 4) (omega arith),
      )

  spread-by : (s : SealState) (d : Burst) (m : ℕ) (j : Judgement) (es : List Burst)
      → judged profile rules s d ≡ j → IsContiguous 4 d.body
      → (s.earliest_start ≤ d.start → m ≤ d.start)
      → (m ≤ d.start → m ≤ end_of d + 4)
      → ((k : ℕ) → ((x : ℕ) → end_of d + 4 ≤ x
      → (state_by profile rules s d j).earliest_start ≤ x → k ≤ x) → AreSpread 4 k es)
      → ((x : ℕ) → end_of d + 4 ≤ x → s.earliest_start ≤ x → m ≤ x)
      → AreSpread 4 m (emission_by profile rules d j ++ es)
  spread-by s d m (sealed_with n) es is whole from near rest on =
      let its = sealed-is profile rules s d n is in
      let none = its.no_extra in
      let end = packet-length profile tags some rules lawful n d whole none in
      let live = live_end-whole rules lawful d whole none in (
        from its.late,
        packet-contiguous profile tags some rules lawful n d whole none,
        rest (end_of (packet profile rules n d) + 4) (λ x after late. omega arith),
      )
  spread-by s d m (unsealed Early) es is whole from near rest on = rest m on
  spread-by s d m (unsealed Form) es is whole from near rest on =
      plain-spread d m es whole (from (form-from profile rules s d is))
      (λ k within. rest k (λ x after late. omega arith))
  spread-by s d m (unsealed Spent) es is whole from near rest on =
      plain-spread d m es whole (from (spent-from profile rules s d is))
      (λ k within. rest k (λ x after late. omega arith))

  pub emissions-spread : (s : SealState) (n m : ℕ) (ds : List Burst) → AreSpread 4 n ds
      → ((x : ℕ) → n ≤ x → s.earliest_start ≤ x → m ≤ x)
      → AreSpread 4 m (emitted_by (sealer profile rules) s ds)
  emissions-spread s n m [] spread on = tt
  emissions-spread s n m (d ∷ ds) spread on =
      let from = spread.0 in
      let j : Judgement = judged profile rules s d in
      spread-by s d m j (emitted_by (sealer profile rules) (state_by profile rules s d j) ds) refl
      spread.1 (λ late. on d.start from late) (λ late. omega arith)
      (λ k after. emissions-spread (state_by profile rules s d j) (end_of d + 4) k ds spread.2
      after)
      (λ x after late. on x (omega arith) late)

  -- ---- and end soon after the line

  ends-by : (s : SealState) (d : Burst) (m : ℕ) (j : Judgement) (es : List Burst)
      → judged profile rules s d ≡ j → IsContiguous 4 d.body → end_of d ≤ m
      → EndBy (m + pause_len + trailer_len profile) es
      → EndBy (m + pause_len + trailer_len profile) (emission_by profile rules d j ++ es)
  ends-by s d m (sealed_with n) es is whole end rest =
      let its = sealed-is profile rules s d n is in
      let long = packet-length profile tags some rules lawful n d whole its.no_extra in
      (omega arith, rest)
  ends-by s d m (unsealed Early) es is whole end rest = rest
  ends-by s d m j es is whole end rest =
      let live = live_end-within rules d in
      let long = length-append (live_ticks rules d) [] in
      (omega arith, rest)

  emissions-end : (s : SealState) (n m : ℕ) (ds : List Burst) → AreSpread 4 n ds → EndBy m ds
      → EndBy (m + pause_len + trailer_len profile) (emitted_by (sealer profile rules) s ds)
  emissions-end s n m [] spread ends = tt
  emissions-end s n m (d ∷ ds) spread ends =
      let j : Judgement = judged profile rules s d in
      ends-by s d m j (emitted_by (sealer profile rules) (state_by profile rules s d j) ds) refl
      spread.1 ends.0
      (emissions-end (state_by profile rules s d j) (end_of d + 4) m ds spread.2 ends.1)

  -- ---- the link of a line

  module _ (floor : ℕ) (line : List Tick) where
    abbrev pub its : List Burst
    its = emitted_by (sealer profile rules) (at_floor floor) (bursts line)

    abbrev pub link : List Tick
    link = link_line profile rules floor line

    abbrev pub more : ℕ
    more = pause_len + trailer_len profile

    -- the link, long enough for the last trailer
    abbrev pub longer : List Tick
    longer = laid (length line + more) its

    its-spread : AreSpread 4 0 its
    its-spread = emissions-spread (at_floor floor) 0 0 (bursts line) (bursts-spread line)
        (λ x after late. omega arith)

    pub longer-are : AreBursts 4 0 longer its
    longer-are =
        let same : length line + pause_len + trailer_len profile ≡ length line + more = omega arith
        in
        let P : ℕ → Type 0 = λ k. EndBy k its in
        let Q : List Burst → Type 0 = λ es. AreBursts 4 0 longer es in
        subst Q
        (bursts-laid 4 (length line + more) its its-spread
        (subst P same (emissions-end (at_floor floor) 0 (length line) (bursts line)
        (bursts-spread line) (bursts-end line))))
        (bursts_from-are 4 0 longer)

    pub longer-is : (rest : List Tick) × (longer ≡ link ++ rest)
    longer-is = laid-longer its (length line) more (length line + more) refl

    pub link-length : length link ≡ length line
    link-length = length-map-range_with_len (λ i. tick_at its i) 0 (length line)

    -- An emission that ends within the link is a burst of it, after those before it.
    pub link-bursts : (P : List Burst) (e : Burst) (Q : List Burst) → its ≡ P ++ e ∷ Q
        → end_of e ≤ length link → (X : List Burst) × (bursts link ≡ P ++ e ∷ X)
    link-bursts P e Q is within =
        let B : List Tick → List Burst → Type 0 = λ l es. AreBursts 4 0 l es in
        let whole : AreBursts 4 0 (link ++ longer-is.0) (P ++ e ∷ Q) =
        subst (λ l. B l (P ++ e ∷ Q)) longer-is.1 (subst (λ es. B longer es) is longer-are) in
        let front = are-front 4 0 link longer-is.0 P e Q whole (omega arith) in
        (front.0, bursts_from-only 4 0 link (P ++ e ∷ front.0) front.1)

    -- ---- a packet that is on the link ends within it

    on-at : (l : List Tick) (P : List Burst) (e : Burst) (Q : List Burst) → AreOn l (P ++ e ∷ Q)
        → (front : List Tick) × (back : List Tick) × (l ≡ front ++ (e.body ++ back))
        × (length front ≡ e.start)
    on-at l [] e Q on = (on.0, on.1, on.2, on.3)
    on-at l (p ∷ P) e Q on = on-at l P e Q on.5

    pub stands-within : (P Q : List Burst) (d : Burst) (n : ℕ)
        → its ≡ P ++ packet profile rules n d ∷ Q → IsContiguous 4 d.body
        → has_extra rules d ≡ false → StandsOn profile link (numbered_frame rules d n)
        → end_of (packet profile rules n d) ≤ length link
    stands-within P Q d n is whole none stands =
        let e : Burst = packet profile rules n d in
        let h : List ℕ = live_bytes rules d in
        let B : List Burst → Type 0 = λ es. AreOn longer es in
        let on = on-at longer P e Q
        (subst B is (bursts-on longer its [] longer 0 refl refl longer-are)) in
        let body : List Tick = stands.body in
        let t : List Tick = byte_ticks (trailer profile n h) in
        let z : List Tick = silent pause_len ++ (t ++ stands.back) in
        let y : List Tick = z ++ longer-is.0 in
        let u : List Tick = trailing (trailer profile n h) ++ on.1 in
        let here : longer ≡ stands.front ++ (body ++ y) =
        longer-is.1
        ∙ (ap (λ l. l ++ longer-is.0) stands.is ∙ front-more stands.front body z longer-is.0) in
        let place : length stands.front ≡ length on.0 = stands.begins ∙ sym on.3 in
        let same : body ++ y ≡ d.body ++ u =
        behind-same stands.front on.0 (body ++ y) (e.body ++ on.1) (sym here ∙ on.2) place
        ∙ body-parts d.body (live_ticks rules d) (trailing (trailer profile n h)) on.1
        (live_ticks-whole rules lawful d whole none) in
        let long = long-enough d.body u body y h whole same stands.spells
        (ltb-false (length h) (length (bytes_in d.body)) none) in
        let all = ap length stands.is in
        let front = length-append stands.front (body ++ z) in
        let parts = length-append body z in
        let tail = length-append (silent pause_len) (t ++ stands.back) in
        let trails = length-append t stands.back in
        let count = length-map (trailer profile n h) (λ b. Byte b) in
        let sized = length-trailer profile tags n h in
        let end = packet-length profile tags some rules lawful n d whole none in
        let begins : length stands.front ≡ d.start = stands.begins in
        omega arith

-- A burst that passes is a packet, and is on the link.
use Rattle.byteorder.specs.{Endian.big_number, Numbers.big_from-lt, Numbers.big_from-take}
use Rattle.frame_ending.proofs.LiveTicks.{live_ticks-bytes, live_ticks-contiguous}
use Rattle.frame_ending.specs.LiveBytes.{up_to_byte, live_bytes, live_ticks}
use Rattle.line_rules.specs.{Bytes.AreBytes, Rules.Rules, RulesLaws.IsLawful}
use Rattle.link_format.specs.Profile.{Profile, pause_len, trailer_len, trailer, words, word_of}
use Rattle.link_box.{proofs.Passing.IsPassing, proofs.Passing.number-within, specs.Shapes.kept}
use Rattle.link_box.specs.Verdicts.{CheckState, after_live, trailer_of}
use Rattle.receiver_laws.proofs.Words.{byte-places, word-bytes}
use Rattle.receiver_laws.specs.Standing.{StandsOn}
use Rattle.sequence_journal.{proofs.NumberLaws.least-is, specs.Numbers.least_with}
use Rattle.std.proofs.Common.{◌≡◌, ◌∙◌, ℕ, zero, suc, ◌+◌, ◌%◌, ◌<◌, ◌≤◌, true, false, List, []}
use Rattle.std.proofs.Common.{◌∷◌, ◌++◌, length, map, take, drop, replicate, refl, sym, ap, subst}
use Rattle.std.proofs.Common.{arith, append_assoc, length-append}
use Rattle.std.proofs.{Math.Seq.take-append_seam, lemmas.List.take-append-drop}
use Rattle.std.proofs.lemmas.List.{length-map, length-take, length-replicate, Elements.All-nil}
use Rattle.std.{proofs.lemmas.List.Elements.All-cons, specs.Int.bytes_high_first}
use Rattle.yasir_ticks.specs.{Bursts.Burst, Bursts.end_of, BurstsOf.IsContiguous}
use Rattle.yasir_ticks.specs.{BurstsOf.AreBursts, Ticks.silent, Ticks.bytes_in, Ticks.AreTicks}
use Rattle.yasir_ticks.specs.declared.tick.Tick.{Tick, TheVariants.Silent, TheVariants.Byte}

-- ---- ticks and their bytes

abbrev pub byte_ticks : List ℕ → List Tick
byte_ticks bytes = map (λ b. Byte b) bytes

pub bytes_in-byte_ticks : (bytes : List ℕ) → bytes_in (byte_ticks bytes) ≡ bytes
bytes_in-byte_ticks [] = refl
bytes_in-byte_ticks (b ∷ bytes) = ap (λ z. b ∷ z) (bytes_in-byte_ticks bytes)

pub ticks-behind : (x y : List Tick) → AreTicks (x ++ y) → AreTicks y
ticks-behind [] y are = are
ticks-behind (t ∷ x) y are = ticks-behind x y are.1

ticks-bytes : (bytes : List ℕ) (y : List Tick) → AreTicks (byte_ticks bytes ++ y) → AreBytes bytes
ticks-bytes [] y are = All-nil (λ b. b < 256)
ticks-bytes (b ∷ bytes) y are = All-cons (λ c. c < 256) b bytes are.0 (ticks-bytes bytes y are.1)

pub bytes-first : (n : ℕ) (x : List ℕ) → AreBytes x → AreBytes (take n x)
bytes-first zero x bytes = All-nil (λ b. b < 256)
bytes-first (suc n) [] bytes = All-nil (λ b. b < 256)
bytes-first (suc n) (a ∷ x) bytes =
    let here : 0 < length (a ∷ x) = omega arith in
    All-cons (λ b. b < 256) a (take n x) (bytes 0 0 here)
    (bytes-first n x (λ k d within. let h : suc k < length (a ∷ x) = omega arith in
    bytes (suc k) d h))

-- ---- a shape that is kept whole

bytes-kept : (n : ℕ) (x : List Tick) → n ≤ kept (replicate n true) x
    → (bytes : List ℕ) × (more : List Tick) × (x ≡ byte_ticks bytes ++ more) × (length bytes ≡ n)
unfolding kept
bytes-kept zero x whole = ([], x, refl, refl)
bytes-kept (suc n) [] whole = absurd (omega arith)
bytes-kept (suc n) (Silent ∷ x) whole = absurd (omega arith)
bytes-kept (suc n) (Byte b ∷ x) whole =
    let rest = bytes-kept n x (omega arith) in
    (b ∷ rest.0, rest.1, ap (λ y. Byte b ∷ y) rest.2, ap suc rest.3)

pub shape-kept : (j n : ℕ) (x : List Tick) → 0 < n
    → j + n ≤ kept (replicate j false ++ replicate n true) x
    → (bytes : List ℕ) × (more : List Tick) × (x ≡ silent j ++ (byte_ticks bytes ++ more))
    × (length bytes ≡ n)
unfolding kept
shape-kept zero n x some whole =
    let h : n ≤ kept (replicate n true) x = omega arith in
    bytes-kept n x h
shape-kept (suc j) n [] some whole =
    let rest = shape-kept j n [] some (omega arith) in
    let long : 0 ≡ length (silent j ++ (byte_ticks rest.0 ++ rest.1)) = ap length rest.2 in
    let parts = length-append (silent j) (byte_ticks rest.0 ++ rest.1) in
    let bytes = length-append (byte_ticks rest.0) rest.1 in
    let mapped = length-map rest.0 (λ b. Byte b) in
    let count = rest.3 in
    absurd (omega arith)
shape-kept (suc j) n (Silent ∷ x) some whole =
    let rest = shape-kept j n x some (omega arith) in
    (rest.0, rest.1, ap (λ y. Silent ∷ y) rest.2, rest.3)
shape-kept (suc j) n (Byte b ∷ x) some whole = absurd (omega arith)

-- The live ticks come first.
up_to_byte-first : (k : ℕ) (x : List Tick) → take (length (up_to_byte k x)) x ≡ up_to_byte k x
unfolding up_to_byte
up_to_byte-first zero x = refl
up_to_byte-first (suc k) [] = refl
up_to_byte-first (suc k) (Silent ∷ x) = ap (λ y. Silent ∷ y) (up_to_byte-first (suc k) x)
up_to_byte-first (suc k) (Byte b ∷ x) = ap (λ y. Byte b ∷ y) (up_to_byte-first k x)

pub live-parts : (rules : Rules) (d : Burst) → d.body ≡ live_ticks rules d ++ after_live rules d
live-parts rules d =
    let live : List Tick = live_ticks rules d in
    sym (take-append-drop (length live) d.body)
    ∙ ap (λ x. x ++ after_live rules d) (up_to_byte-first (length (live_bytes rules d)) d.body)

-- ---- a burst that passes

module _ (profile : Profile) (some : 1 ≤ profile.word_len) (rules : Rules) (s : CheckState)
    (d : Burst) (n : ℕ) (passing : IsPassing profile rules s d n) (ticks : AreTicks d.body) where
  after : (bytes : List ℕ) × (more : List Tick)
      × (after_live rules d ≡ silent pause_len ++ (byte_ticks bytes ++ more))
      × (length bytes ≡ trailer_len profile)
  after = shape-kept pause_len (trailer_len profile) (after_live rules d) (omega arith)
      passing.whole

  abbrev bytes : List ℕ
  bytes = after.0

  trailer-is : trailer_of profile rules d ≡ bytes
  trailer-is =
      let long : length (byte_ticks bytes) ≡ trailer_len profile =
      length-map bytes (λ b. Byte b) ∙ after.3 in
      ap (λ x. bytes_in (take (trailer_len profile) (drop pause_len x))) after.2
      ∙ (ap (λ k. bytes_in (take k (byte_ticks bytes ++ after.1))) (sym long)
      ∙ (ap bytes_in (take-append_seam (byte_ticks bytes) after.1)
      ∙ bytes_in-byte_ticks bytes))

  are_bytes : AreBytes bytes
  are_bytes =
      let P : List Tick → Type 0 = λ x. AreTicks x in
      ticks-bytes bytes after.1
      (ticks-behind (silent pause_len) (byte_ticks bytes ++ after.1)
      (subst P after.2
      (ticks-behind (live_ticks rules d) (after_live rules d)
      (subst P (live-parts rules d) ticks))))

  word : n % words profile ≡ word_of profile bytes
  word =
      let within = number-within profile s.floor (trailer_of profile rules d) n
      passing.numbered in
      let small : word_of profile bytes < words profile =
      big_from-lt 0 profile.word_len bytes (byte-places bytes are_bytes) in
      let least = least-is (words profile) s.floor (word_of profile bytes) small in
      ap (λ k. k % words profile)
      (within.0 ∙ ap (λ x. least_with (words profile) s.floor (word_of profile x)) trailer-is)
      ∙ least.has_word

  -- The bytes after the live ticks are the trailer of the number and the frame.
  is_trailer : bytes ≡ trailer profile n (live_bytes rules d)
  is_trailer =
      let w : ℕ = profile.word_len in
      let count : length bytes ≡ trailer_len profile = after.3 in
      let first = length-take w bytes in
      let long : length (take w bytes) ≡ w = omega arith in
      let whole : big_number w (take w bytes) ≡ word_of profile bytes =
      big_from-take 0 w w bytes (omega arith) in
      let front : bytes_high_first w n ≡ take w bytes =
      word-bytes w n (take w bytes) long (bytes-first w bytes are_bytes) (word ∙ sym whole) in
      let tag : drop w bytes ≡ profile.tag n (live_bytes rules d) =
      ap (λ x. drop w x) (sym trailer-is) ∙ passing.tagged in
      sym (take-append-drop w bytes)
      ∙ (ap (λ x. x ++ drop w bytes) (sym front)
      ∙ ap (λ x. bytes_high_first w n ++ x) tag)

  pub body-parts : (more : List Tick)
      × (d.body ≡ live_ticks rules d ++ (silent pause_len
      ++ (byte_ticks (trailer profile n (live_bytes rules d)) ++ more)))
  body-parts = (
    after.1,
    live-parts rules d
        ∙ ap (λ x. live_ticks rules d ++ x)
        (after.2 ∙ ap (λ x. silent pause_len ++ (byte_ticks x ++ after.1)) is_trailer),
  )

-- ---- bursts on a link

-- Holds if each of these bursts is on the link.
abbrev pub AreOn : List Tick → List Burst → Type 0
AreOn link [] = Unit {0}
AreOn link (d ∷ ds) =
    (front : List Tick) × (back : List Tick) × (link ≡ front ++ (d.body ++ back))
    × (length front ≡ d.start) × IsContiguous 4 d.body × AreOn link ds

pub bursts-on : (link : List Tick) (ds : List Burst) (front line : List Tick) (n : ℕ)
    → link ≡ front ++ line → length front ≡ n → AreBursts 4 n line ds → AreOn link ds
bursts-on link [] front line n is long are = tt
bursts-on link (d ∷ ds) front line n is long are =
    let before : List Tick = front ++ silent are.0 in
    let here : link ≡ before ++ (d.body ++ are.1) =
    is ∙ (ap (λ x. front ++ x) are.2 ∙ sym (append_assoc front (silent are.0) (d.body ++ are.1))) in
    let begins : length before ≡ d.start =
    length-append front (silent are.0)
    ∙ (ap (λ k. length front + k) (length-replicate are.0 Silent)
    ∙ (ap (λ k. k + are.0) long ∙ sym are.3)) in (
      before,
      are.1,
      here,
      begins,
      are.4,
      bursts-on link ds (before ++ d.body) are.1 (end_of d)
          (here ∙ sym (append_assoc before d.body are.1))
          (length-append before d.body ∙ ap (λ k. k + length d.body) begins) are.6,
    )

pub ticks-front : (x y : List Tick) → AreTicks (x ++ y) → AreTicks x
ticks-front [] y are = tt
ticks-front (t ∷ x) y are = (are.0, ticks-front x y are.1)

module _ (profile : Profile) (some : 1 ≤ profile.word_len) (rules : Rules)
    (lawful : IsLawful rules) (link : List Tick) (ticks : AreTicks link) where
  pub stands-on : (s : CheckState) (d : Burst) (ds : List Burst) (n : ℕ)
      → IsPassing profile rules s d n
      → AreOn link (d ∷ ds)
      → StandsOn profile link
      (record { number = n; start = d.start; frame = live_bytes rules d })
  stands-on s d ds n passing on =
      let P : List Tick → Type 0 = λ x. AreTicks x in
      let bytes : AreTicks d.body =
      ticks-front d.body on.1 (ticks-behind on.0 (d.body ++ on.1) (subst P on.2 ticks)) in
      let parts = body-parts profile some rules s d n passing bytes in
      let t : List Tick = byte_ticks (trailer profile n (live_bytes rules d)) in
      let live : List Tick = live_ticks rules d in
      record {
        front = on.0;
        body = live;
        back = parts.0 ++ on.1;
        is = on.2 ∙ ap (λ x. on.0 ++ x)
            (ap (λ x. x ++ on.1) parts.1
            ∙ (append_assoc live (silent pause_len ++ (t ++ parts.0)) on.1
            ∙ ap (λ x. live ++ (silent pause_len ++ x)) (append_assoc t parts.0 on.1)));
        begins = on.3;
        spells = live_ticks-bytes rules d;
        contiguous = live_ticks-contiguous rules lawful d on.4;
      }

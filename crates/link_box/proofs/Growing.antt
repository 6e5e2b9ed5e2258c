-- The burst whose verdict is open, one tick later.
use Rattle.frame_ending.specs.Causal.{MayGoOn, going_on}
use Rattle.frame_ending.proofs.{BurstSteps.live-over, LiveTicks.live_end-within}
use Rattle.frame_ending.proofs.LiveTicks.{live_ticks-over, live_ticks-open, live_ticks-more}
use Rattle.frame_ending.proofs.Pauses.{up_to_byte-le}
use Rattle.frame_ending.specs.LiveBytes.{has_pause, live_bytes, live_ticks, live_end}
use Rattle.line_rules.specs.{Rules.Rules, Rules.fills_room, RulesLaws.IsLawful, RulesLaws.IsHeaded}
use Rattle.link_format.specs.Profile.{Profile, delay, trailer_len, trailer_shape}
use Rattle.link_box.proofs.Judging.{checked-good, verdict-cut}
use Rattle.link_box.proofs.Opening.{short-ticks, length-silent}
use Rattle.link_box.proofs.Settling.{after-long, within, is_over, open-end, open-near}
use Rattle.link_box.proofs.Shaping.{pause-goes_on, kept-most, byte-keeps, byte-breaks}
use Rattle.link_box.{proofs.Shaping.pause-longer, specs.Checking.note_tick}
use Rattle.link_box.specs.{Holding.Opens, Holding.as_it_came, Shapes.kept, Verdicts.CheckState}
use Rattle.link_box.specs.Verdicts.{after_live, kept_after, checked, Verdict.refused}
use Rattle.link_box.specs.declared.check_note.RefusedWhy.TheVariants.{Trailer}
use Rattle.std.proofs.Common.{◌≡◌, ◌∙◌, ◌||◌, ℕ, zero, suc, ◌+◌, ◌-◌, ◌<◌, ◌≤◌, nat_le, Bool, true}
use Rattle.std.proofs.Common.{false, List, [], ◌∷◌, ◌++◌, length, take, drop, get_or, refl, sym, ap}
use Rattle.std.proofs.{Common.arith, Common.append_assoc, Common.⊎_elim, lemmas.Bool.cases_lt}
use Rattle.std.proofs.lemmas.{Bool.cases_Bool, Bool.ne_eqb, Bool.or_parts, List.length-drop}
use Rattle.std.proofs.lemmas.List.{get_or_append_left, drop-drop, take-append-le, drop-append-le}
use Rattle.yasir_ticks.proofs.{BurstsOfLaws.contiguous-more, SilenceLaws.bytes_in-append}
use Rattle.yasir_ticks.specs.{Bursts.Burst, Bursts.end_of, Ticks.silent, Ticks.bytes_in}
use Rattle.yasir_ticks.specs.declared.tick.Tick.{Tick, TheVariants.Silent, TheVariants.Byte}

-- ---- one tick leaves

take-one : (x : List Tick) (k : ℕ) → take k x ++ take 1 (drop k x) ≡ take (suc k) x
take-one [] zero = refl
take-one [] (suc k) = refl
take-one (t ∷ x) zero = refl
take-one (t ∷ x) (suc k) = ap (λ l. t ∷ l) (take-one x k)

pub left-more : (x live : List Tick) (left : List ℕ) (k : ℕ) → live ≡ drop k x
    → left ≡ bytes_in (take k x) → left ++ bytes_in (take 1 live) ≡ bytes_in (take (k + 1) x)
left-more x live left k live_is left_is =
    ap (λ l. left ++ bytes_in (take 1 l)) live_is
    ∙ (ap (λ l. l ++ bytes_in (take 1 (drop k x))) left_is
    ∙ (sym (bytes_in-append (take k x) (take 1 (drop k x)))
    ∙ ap (λ l. bytes_in l) (take-one x k
    ∙ (let one : suc k ≡ k + 1 = omega arith in ap (λ j. take j x) one))))

pub live-fewer : (x live : List Tick) (k : ℕ) → live ≡ drop k x
    → drop 1 live ≡ drop (k + 1) x
live-fewer x live k is = ap (λ l. drop 1 l) is ∙ drop-drop 1 k x

-- ---- silence

module _ {profile : Profile} {rules : Rules} (headed : IsHeaded rules)
    (some : 1 ≤ trailer_len profile) {m earliest : ℕ} {d : Burst} {left : List ℕ}
    {live : List Tick} (ends : end_of d ≤ m)
    (opens : Opens profile rules m earliest d left live) where
  abbrev whole : List Tick
  whole = as_it_came profile rules d

  place : m + 1 - d.start ≡ m - d.start + 1
  place = let from = opens.from in omega arith

  pub next-left : left ++ bytes_in (take 1 live) ≡ bytes_in (take (m + 1 - d.start) whole)
  next-left = left-more whole live left (m - d.start) opens.live_is opens.left_is
      ∙ ap (λ k. bytes_in (take k whole)) (sym place)

  pub next-live : drop 1 live ≡ drop (m + 1 - d.start) whole
  next-live = live-fewer whole live (m - d.start) opens.live_is
      ∙ ap (λ k. drop k whole) (sym place)

  -- how many live ticks haven't left yet
  pub live-long : length live + m ≡ live_end rules d + delay profile
  live-long =
      let size = length-silent (delay profile) (live_ticks rules d) in
      let less = length-drop (m - d.start) whole in
      let same = ap length opens.live_is in
      let from = opens.from in
      let near = opens.near in
      omega arith

  after-few : length (after_live rules d) ≤ m - live_end rules d
  after-few = let long = after-long rules d in omega arith

  -- a silent tick in the pause leaves the verdict open
  pub opens-silent : m < live_end rules d + 3
      → (live_end rules d + 1 ≤ m → rules.header_len ≤ length (live_bytes rules d))
      → Opens profile rules (m + 1) earliest d (left ++ bytes_in (take 1 live)) (drop 1 live)
  opens-silent few header = record {
    from = let from = opens.from in omega arith;
    end_from = let end = opens.end_from in omega arith;
    near = omega arith;
    late = opens.late;
    not_bad = opens.not_bad;
    not_short = λ more. header (omega arith);
    keeps =
        let end = opens.end_from in
        let keeps = opens.keeps in
        let after = after-few in
        let here : length (after_live rules d) ≤ kept (trailer_shape profile) (after_live rules d) =
        omega arith in
        let on = pause-goes_on 3 (trailer_len profile) (after_live rules d) (omega arith) here in
        omega arith;
    live_is = next-live;
    left_is = next-left;
  }

  -- a silent tick after the pause breaks the shape
  pub silent-kept : live_end rules d + 3 ≤ m → kept_after profile rules d ≡ m - live_end rules d
  silent-kept behind =
      let keeps = opens.keeps in
      let after = after-few in
      let most = kept-most 3 (trailer_len profile) (after_live rules d) (m - live_end rules d)
      (omega arith) after in
      omega arith

-- a burst whose shape breaks at tick m is refused at tick m
pub breaks : (profile : Profile) (rules : Rules) (m : ℕ) (s : CheckState) (d : Burst)
    → s.earliest_start ≤ d.start → rules.header_len ≤ length (live_bytes rules d)
    → rules.is_good_header (take rules.header_len (live_bytes rules d)) ≡ true
    → live_end rules d ≤ m → m + 1 < live_end rules d + delay profile
    → kept_after profile rules d ≡ m - live_end rules d
    → (checked profile rules s d ≡ refused Trailer)
    × (note_tick profile rules d (refused Trailer) ≡ m)
breaks profile rules m s d late long good from near keeps = (
  checked-good profile rules s d late long good
      ∙ verdict-cut profile rules s.floor d (omega arith),
  omega arith,
)

-- ---- a byte

module _ {profile : Profile} {rules : Rules} (lawful : IsLawful rules) (headed : IsHeaded rules)
    (some : 1 ≤ trailer_len profile) {m earliest : ℕ} {d : Burst} {left : List ℕ}
    {live : List Tick} (b : ℕ) (may : MayGoOn d m)
    (opens : Opens profile rules m earliest d left live) where
  abbrev e : Burst
  e = going_on d m b

  abbrev over : Bool
  over = is_over profile rules lawful headed d m b may

  abbrev gap : ℕ
  gap = m - end_of d

  ends : end_of d ≤ m
  ends = may.after

  -- ---- a byte that isn't live

  module _ (is : over ≡ true) where
    pub over-bytes : live_bytes rules e ≡ live_bytes rules d
    over-bytes = live-over m b d (within profile rules lawful headed d m b may) rules lawful is

    pub over-ticks : live_ticks rules e ≡ live_ticks rules d
    over-ticks = live_ticks-over rules lawful m b d (within profile rules lawful headed d m b may)
        is

    pub over-end : live_end rules e ≡ live_end rules d
    over-end = ap (λ x. d.start + length x) over-ticks

    over-shape : after_live rules e ≡ after_live rules d ++ (silent gap ++ Byte b ∷ [])
    over-shape =
        ap (λ x. drop (length x) e.body) over-ticks
        ∙ drop-append-le (length (live_ticks rules d)) d.body (silent gap ++ Byte b ∷ [])
        (up_to_byte-le (length (live_bytes rules d)) d.body)

    over-long : length (after_live rules d) + gap ≡ m - live_end rules d
    over-long = let long = after-long rules d in let after = ends in omega arith

    -- when a byte isn't live, the header is whole
    pub over-header : rules.header_len ≤ length (live_bytes rules d)
    over-header =
        ⊎_elim
        (λ short.
        let room = headed.room_for_header (live_bytes rules d) in
        let ticks = short-ticks rules headed d short in
        let after = ends in
        let last = live_end-within rules d in
        ⊎_elim
        (λ few.
        let open' : (has_pause d.body || nat_le 2 gap) ≡ false = ⊎_elim
        (λ paused.
        let long = pause-longer d.body paused in absurd (omega arith))
        (λ none. ap (λ p. p || nat_le 2 gap) none ∙ few-gap (omega arith))
        (cases_Bool (has_pause d.body)) in
        let empty : fills_room rules (live_bytes rules d) ≡ false =
        ne_eqb (length (live_bytes rules d)) (rules.room (live_bytes rules d))
        (λ full. omega arith) in
        let none : over ≡ false = ap (λ p. p || fills_room rules (live_bytes rules d)) open'
        ∙ empty in
        absurd cc)
        (λ many. opens.not_short many)
        (cases_lt m (live_end rules d + 2)))
        (λ long. long)
        (cases_lt (length (live_bytes rules d)) rules.header_len)
      where
        few-gap : gap < 2 → nat_le 2 gap ≡ false
        few-gap few = grind arith

    -- a byte in the pause breaks the shape
    pub over-breaks : m < live_end rules d + 3
        → kept_after profile rules e ≡ m - live_end rules e
    over-breaks few =
        let keeps = opens.keeps in
        let long = over-long in
        let end = over-end in
        let from = opens.end_from in
        ap (λ x. kept (trailer_shape profile) x) over-shape
        ∙ (byte-breaks 3 (trailer_len profile) (after_live rules d) gap b (omega arith)
        (omega arith)
        ∙ (let h : length (after_live rules d) + gap ≡ m - live_end rules e = omega arith in h))

    -- a byte after the pause keeps the shape
    pub over-keeps : live_end rules d + 3 ≤ m
        → m + 1 - live_end rules e ≤ kept_after profile rules e
    over-keeps behind =
        let keeps = opens.keeps in
        let long = over-long in
        let end = over-end in
        let near = opens.near in
        let same = ap (λ x. kept (trailer_shape profile) x) over-shape in
        let on = byte-keeps 3 (trailer_len profile) (after_live rules d) gap b (omega arith)
        (omega arith) (omega arith) in
        omega arith

    pub over-whole : as_it_came profile rules e ≡ as_it_came profile rules d
    over-whole = ap (λ x. silent (delay profile) ++ x) over-ticks

    pub over-left : left ++ bytes_in (take 1 live)
        ≡ bytes_in (take (m + 1 - e.start) (as_it_came profile rules e))
    over-left = next-left headed some ends opens
        ∙ ap (λ x. bytes_in (take (m + 1 - d.start) x)) (sym over-whole)

    pub over-live : drop 1 live ≡ drop (m + 1 - e.start) (as_it_came profile rules e)
    over-live = next-live headed some ends opens
        ∙ ap (λ x. drop (m + 1 - d.start) x) (sym over-whole)

    pub over-good : rules.is_good_header (take rules.header_len (live_bytes rules e)) ≡ true
    over-good = ap (λ x. rules.is_good_header (take rules.header_len x)) over-bytes
        ∙ opens.not_bad over-header

    pub over-long-header : rules.header_len ≤ length (live_bytes rules e)
    over-long-header = let same = ap length over-bytes in let long = over-header in omega arith

    -- a byte of the trailer, but not its last one, leaves the verdict open
    pub opens-over : live_end rules d + 3 ≤ m → m + 2 < live_end rules d + delay profile
        → Opens profile rules (m + 1) earliest e (left ++ bytes_in (take 1 live)) (drop 1 live)
    opens-over behind before = record {
      from = let from = opens.from in omega arith;
      end_from = let end = over-end in let from = opens.end_from in omega arith;
      near = let end = over-end in omega arith;
      late = opens.late;
      not_bad = λ long. over-good;
      not_short = λ more. over-long-header;
      keeps = over-keeps behind;
      live_is = over-live;
      left_is = over-left;
    }

  -- ---- another live byte

  module _ (is : over ≡ false) where
    pub open-whole : as_it_came profile rules e
        ≡ as_it_came profile rules d ++ (silent gap ++ Byte b ∷ [])
    open-whole =
        let parts = or_parts (has_pause d.body || nat_le 2 gap)
        (fills_room rules (live_bytes rules d)) is in
        let near = open-near profile rules lawful headed d m b may is in
        let few : gap < 4 = omega arith in
        let old = live_ticks-open rules lawful m b d (within profile rules lawful headed d m b may)
        parts.0 parts.1 in
        let new = live_ticks-more rules lawful m b d (within profile rules lawful headed d m b may)
        parts.0 parts.1 (contiguous-more 4 d.body gap b may.contiguous few) in
        ap (λ x. silent (delay profile) ++ x)
        (new ∙ ap (λ x. x ++ (silent gap ++ Byte b ∷ [])) (sym old))
        ∙ sym (append_assoc (silent (delay profile)) (live_ticks rules d)
        (silent gap ++ Byte b ∷ []))

    pub open-end_is : live_end rules e ≡ m + 1
    open-end_is = open-end profile rules lawful headed d m b may is

    open-within : m - d.start + 1 ≤ length (as_it_came profile rules d)
    open-within =
        let size = length-silent (delay profile) (live_ticks rules d) in
        let near = opens.near in
        let from = opens.from in
        omega arith

    pub open-left : left ++ bytes_in (take 1 live)
        ≡ bytes_in (take (m + 1 - e.start) (as_it_came profile rules e))
    open-left =
        let from = opens.from in
        let within' = open-within in
        next-left headed some ends opens
        ∙ (ap (λ x. bytes_in x) (sym (take-append-le (m + 1 - d.start) (as_it_came profile rules d)
        (silent gap ++ Byte b ∷ []) (omega arith)))
        ∙ ap (λ x. bytes_in (take (m + 1 - d.start) x)) (sym open-whole))

    -- what hasn't left after the step: the byte enters after the silent ticks before it
    pub open-live : drop 1 live ++ (silent gap ++ Byte b ∷ [])
        ≡ drop (m + 1 - e.start) (as_it_came profile rules e)
    open-live =
        let from = opens.from in
        let within' = open-within in
        ap (λ x. x ++ (silent gap ++ Byte b ∷ []))
        (next-live headed some ends opens)
        ∙ (sym (drop-append-le (m + 1 - d.start) (as_it_came profile rules d)
        (silent gap ++ Byte b ∷ []) (omega arith))
        ∙ ap (λ x. drop (m + 1 - d.start) x) (sym open-whole))

    pub open-seen : get_or (as_it_came profile rules e) (m - e.start) Silent
        ≡ get_or (as_it_came profile rules d) (m - d.start) Silent
    open-seen =
        let within' = open-within in
        ap (λ x. get_or x (m - d.start) Silent) open-whole
        ∙ get_or_append_left (as_it_came profile rules d) (silent gap ++ Byte b ∷ []) Silent
        (m - d.start) (omega arith)

    pub opens-live : (rules.header_len ≤ length (live_bytes rules e)
        → rules.is_good_header (take rules.header_len (live_bytes rules e)) ≡ true)
        → Opens profile rules (m + 1) earliest e (left ++ bytes_in (take 1 live))
        (drop 1 live ++ (silent gap ++ Byte b ∷ []))
    opens-live not_bad =
        let end = open-end_is in
        record {
          from = let from = opens.from in omega arith;
          end_from = omega arith;
          near = omega arith;
          late = opens.late;
          not_bad = not_bad;
          not_short = λ more. absurd (omega arith);
          keeps = omega arith;
          live_is = open-live;
          left_is = open-left;
        }

-- A burst that goes on after its note keeps its verdict.
use Rattle.frame_ending.specs.Causal.{MayGoOn, going_on}
use Rattle.frame_ending.proofs.BurstSteps.{spelled-paused, spelled-open, live-le, live-over}
use Rattle.frame_ending.proofs.BurstSteps.{live-more, end-more, longer-end, later}
use Rattle.frame_ending.proofs.LastBurst.{IsWithin}
use Rattle.frame_ending.proofs.LiveTicks.{live_ticks-over, live_ticks-open}
use Rattle.frame_ending.proofs.Pauses.{contiguous-ends, before_pause-whole, up_to_byte-append}
use Rattle.frame_ending.{proofs.Pauses.up_to_byte-le, specs.LiveBytes.before_pause}
use Rattle.frame_ending.specs.LiveBytes.{has_pause, up_to_byte, live_bytes, live_ticks, live_end}
use Rattle.line_rules.specs.{Rules.Rules, Rules.fills_room, RulesLaws.IsLawful, RulesLaws.IsHeaded}
use Rattle.link_format.specs.Profile.{Profile, pause_len, trailer_len, trailer_shape}
use Rattle.link_box.proofs.Judging.{IsJudged, checked-busy, checked-short, checked-bad}
use Rattle.link_box.proofs.Judging.{checked-good, verdict-cut, verdict-whole, tick-busy}
use Rattle.link_box.proofs.Judging.{tick-short, tick-bad, tick-good}
use Rattle.link_box.proofs.Keeping.{kept-le, kept-within, kept-broken, kept-over, kept-so_far}
use Rattle.link_box.proofs.Keeping.{kept-silence, length-shape, whole-stays}
use Rattle.link_box.specs.{Checking.trailer_tick, Checking.checker, Shapes.kept}
use Rattle.link_box.specs.Verdicts.{CheckState, after_live, kept_after, trailer_of, verdict_of}
use Rattle.link_box.specs.Verdicts.{whole_verdict, checked}
use Rattle.std.proofs.Common.{◌≡◌, ◌∙◌, ℕ, ◌+◌, ◌-◌, ◌<◌, ◌≤◌, nat_le, ◌||◌, Bool, true, false}
use Rattle.std.proofs.Common.{List, [], ◌∷◌, ◌++◌, length, take, drop, min, sym, ap, subst, arith}
use Rattle.std.proofs.Common.{⊎_elim, length-append}
use Rattle.std.proofs.{Math.Seq.drop-length, lemmas.Bool.cases_Bool}
use Rattle.std.proofs.lemmas.Bool.{cases_lt, or_parts, or_cases, eqb-true, ne_eqb, leb-false}
use Rattle.std.proofs.lemmas.List.{drop-append-le, take-append-le, length-drop}
use Rattle.yasir_ticks.specs.{Bursts.Burst, Bursts.end_of, Ticks.bytes_in, Ticks.silent}
use Rattle.yasir_ticks.specs.declared.tick.Tick.{Tick, TheVariants.Byte}

-- Holds if two bursts have the same verdict at the same tick and, if they aren't dropped, the same
-- live bytes and live ticks.
pub record IsSettled (profile : Profile) (rules : Rules) (s : CheckState) (d e : Burst) :
    Type 0 where
  pub verdict : checked profile rules s e ≡ checked profile rules s d
  pub tick : (checker profile rules).tick s e ≡ (checker profile rules).tick s d
  pub bytes : IsJudged (checked profile rules s d) → live_bytes rules e ≡ live_bytes rules d
  pub ticks : IsJudged (checked profile rules s d) → live_ticks rules e ≡ live_ticks rules d

-- ---- a burst that isn't noted before tick m

module _ (profile : Profile) (rules : Rules) (s : CheckState) (d : Burst) (m : ℕ)
    (begun : d.start < m) (within : end_of d ≤ m)
    (waits : m ≤ (checker profile rules).tick s d) where
  -- the burst didn't start too soon
  pub waits-late : s.earliest_start ≤ d.start
  waits-late =
      ⊎_elim
      (λ busy. let tick = tick-busy profile rules s d busy in absurd (omega arith))
      (λ free. free)
      (cases_lt d.start s.earliest_start)

  -- the header of the burst isn't bad
  pub waits-header : rules.header_len ≤ length (live_bytes rules d)
      → rules.is_good_header (take rules.header_len (live_bytes rules d)) ≡ true
  waits-header long =
      ⊎_elim
      (λ good. good)
      (λ bad.
      let tick = tick-bad profile rules s d waits-late long bad in
      let few = up_to_byte-le rules.header_len d.body in
      absurd (omega arith))
      (cases_Bool (rules.is_good_header (take rules.header_len (live_bytes rules d))))

-- ---- where its trailer ends

-- the ticks after the live ones are all other ticks of the burst
pub after-long : (rules : Rules) (d : Burst)
    → length (live_ticks rules d) + length (after_live rules d) ≡ length d.body
after-long rules d =
    let part = length-drop (length (live_ticks rules d)) d.body in
    let few = up_to_byte-le (length (live_bytes rules d)) d.body in
    omega arith

-- The tick of a trailer comes before another burst may start.
pub trailer_tick-soon : (profile : Profile) (rules : Rules) (d : Burst)
    → trailer_tick profile rules d ≤ end_of d + 3
trailer_tick-soon profile rules d =
    let long = after-long rules d in
    let few = kept-within pause_len (trailer_len profile) (after_live rules d) in
    omega arith

-- ---- a burst that goes on

module _ (profile : Profile) (rules : Rules) (lawful : IsLawful rules) (headed : IsHeaded rules)
    (d : Burst) (m b : ℕ) (may : MayGoOn d m) where
  abbrev pub within : IsWithin m d
  within = record { contiguous = may.contiguous; within = may.after }

  abbrev pub longer : Burst
  longer = going_on d m b

  -- how many silent ticks come before the byte
  abbrev gap : ℕ
  gap = m - end_of d

  -- whether no more bytes are live
  abbrev pub is_over : Bool
  is_over = (has_pause d.body || nat_le 2 gap) || fills_room rules (live_bytes rules d)

  -- ---- all bytes so far are live, and so is one more

  open-parts : is_over ≡ false → ((has_pause d.body || nat_le 2 gap) ≡ false)
      × (fills_room rules (live_bytes rules d) ≡ false)
  open-parts open' = or_parts (has_pause d.body || nat_le 2 gap)
      (fills_room rules (live_bytes rules d)) open'

  pub open-near : is_over ≡ false → m < end_of d + 2
  open-near open' =
      let parts = open-parts open' in
      let few = leb-false 2 gap (or_parts (has_pause d.body) (nat_le 2 gap) parts.0).1 in
      let after = may.after in
      omega arith

  open-ticks : is_over ≡ false → live_ticks rules d ≡ d.body
  open-ticks open' =
      let parts = open-parts open' in
      live_ticks-open rules lawful m b d within parts.0 parts.1

  pub open-bytes : is_over ≡ false → live_bytes rules longer ≡ live_bytes rules d ++ b ∷ []
  open-bytes open' =
      let parts = open-parts open' in
      live-more m b d within rules lawful parts.0 parts.1

  pub open-end : is_over ≡ false → live_end rules longer ≡ m + 1
  open-end open' =
      let parts = open-parts open' in
      end-more m b d within rules lawful parts.0 parts.1

  open-pause : is_over ≡ false → before_pause d.body ≡ d.body
  open-pause open' =
      let parts = open-parts open' in
      let none = (or_parts (has_pause d.body) (nat_le 2 gap) parts.0).0 in
      let last = contiguous-ends 4 d.body may.contiguous in
      let P : List Tick → Type 0 = λ x. has_pause x ≡ false → before_pause x ≡ x in
      subst P (sym last.2) (before_pause-whole last.0 last.1) none

  pub open-longer : is_over ≡ false → before_pause longer.body ≡ longer.body
  open-longer open' =
      let parts = open-parts open' in
      let last = contiguous-ends 4 d.body may.contiguous in
      let P : List Tick → Type 0 = λ x. (has_pause x || nat_le 2 gap) ≡ false
      → before_pause (x ++ (silent gap ++ Byte b ∷ [])) ≡ x ++ (silent gap ++ Byte b ∷ []) in
      subst P (sym last.2) (λ is. spelled-open last.0 last.1 gap b is) parts.0

  -- if one more byte is live, the tick of the trailer isn't before tick m
  open-waits : is_over ≡ false → m ≤ trailer_tick profile rules d
  open-waits open' =
      let near = open-near open' in
      let all = open-ticks open' in
      let none : after_live rules d ≡ [] =
      ap (λ x. drop (length x) d.body) all ∙ drop-length d.body in
      let keeps : kept_after profile rules d ≡ pause_len =
      ap (λ x. kept (trailer_shape profile) x) none ∙ kept-silence profile in
      let long : length (live_ticks rules d) ≡ length d.body = ap length all in
      omega arith

  -- ---- no more bytes are live

  pub over-after : is_over ≡ true
      → after_live rules longer ≡ after_live rules d ++ (silent gap ++ Byte b ∷ [])
  over-after over =
      let n : ℕ = length (live_ticks rules d) in
      let same = live_ticks-over rules lawful m b d within over in
      ap (λ x. drop (length x) longer.body) same
      ∙ drop-append-le n d.body (silent gap ++ Byte b ∷ [])
      (up_to_byte-le (length (live_bytes rules d)) d.body)

  pub over-kept : is_over ≡ true → trailer_tick profile rules d < m
      → kept_after profile rules longer ≡ kept_after profile rules d
  over-kept over early =
      let x : List Tick = after_live rules d in
      let long = after-long rules d in
      let shape = length-shape profile in
      let after = may.after in
      ap (λ y. kept (trailer_shape profile) y) (over-after over)
      ∙ ⊎_elim
      (λ broken. kept-broken (trailer_shape profile) x gap (Byte b ∷ []) broken)
      (λ keeps. kept-over (trailer_shape profile) x gap (Byte b ∷ []) (omega arith))
      (cases_lt (kept (trailer_shape profile) x) (length x + gap))

  over-tick : is_over ≡ true → trailer_tick profile rules d < m
      → trailer_tick profile rules longer ≡ trailer_tick profile rules d
  over-tick over early =
      ap (λ x. d.start + length x + min (kept_after profile rules longer)
      (pause_len + trailer_len profile - 1)) (live_ticks-over rules lawful m b d within over)
      ∙ ap (λ k. live_end rules d + min k (pause_len + trailer_len profile - 1))
      (over-kept over early)

  over-verdict : (floor : ℕ) → is_over ≡ true → trailer_tick profile rules d < m
      → verdict_of profile rules floor longer ≡ verdict_of profile rules floor d
  over-verdict floor over early =
      let same = over-kept over early in
      let x : List Tick = after_live rules d in
      ⊎_elim
      (λ cut.
      verdict-cut profile rules floor longer (omega arith)
      ∙ sym (verdict-cut profile rules floor d cut))
      (λ whole.
      let le = kept-le (trailer_shape profile) x in
      let shape = length-shape profile in
      let keeps : kept_after profile rules d ≡ pause_len + trailer_len profile = omega arith in
      verdict-whole profile rules floor longer (omega arith)
      ∙ (ap (λ h. whole_verdict profile rules floor h (trailer_of profile rules longer))
      (live-over m b d within rules lawful over)
      ∙ (ap (λ y. whole_verdict profile rules floor (live_bytes rules d) (bytes_in y))
      (ap (λ y. take (trailer_len profile) (drop pause_len y)) (over-after over)
      ∙ whole-stays (trailer_len profile) x (silent gap ++ Byte b ∷ []) keeps)
      ∙ sym (verdict-whole profile rules floor d whole))))
      (cases_lt (kept_after profile rules d) (pause_len + trailer_len profile))

  over-waits : is_over ≡ true → m ≤ trailer_tick profile rules d
      → m ≤ trailer_tick profile rules longer
  over-waits over late =
      let x : List Tick = after_live rules d in
      let long = after-long rules d in
      let after = may.after in
      let same : length (live_ticks rules longer) ≡ length (live_ticks rules d) =
      ap length (live_ticks-over rules lawful m b d within over) in
      let keeps = kept-so_far (trailer_shape profile) x gap (Byte b ∷ []) (omega arith) in
      let is : kept_after profile rules longer
      ≡ kept (trailer_shape profile) (x ++ (silent gap ++ Byte b ∷ [])) =
      ap (λ y. kept (trailer_shape profile) y) (over-after over) in
      omega arith

  pub good-waits : m ≤ trailer_tick profile rules d → m ≤ trailer_tick profile rules longer
  good-waits late =
      ⊎_elim
      (λ over. over-waits over late)
      (λ open'. let end = open-end open' in omega arith)
      (cases_Bool is_over)

  -- ---- headers

  -- a whole header stays whole
  pub long-bytes : rules.header_len ≤ length (live_bytes rules d)
      → rules.header_len ≤ length (live_bytes rules longer)
  long-bytes long =
      ⊎_elim
      (λ over. let same = ap length (live-over m b d within rules lawful over) in omega arith)
      (λ open'. let more = ap length (open-bytes open')
      ∙ length-append (live_bytes rules d) (b ∷ []) in omega arith)
      (cases_Bool is_over)

  pub long-header : rules.header_len ≤ length (live_bytes rules d)
      → take rules.header_len (live_bytes rules longer) ≡ take rules.header_len (live_bytes rules d)
  long-header long =
      ⊎_elim
      (λ over. ap (λ x. take rules.header_len x) (live-over m b d within rules lawful over))
      (λ open'. ap (λ x. take rules.header_len x) (open-bytes open')
      ∙ take-append-le rules.header_len (live_bytes rules d) (b ∷ []) long)
      (cases_Bool is_over)

  -- the ticks of a whole header stay the same
  long-ticks : rules.header_len ≤ length (live_bytes rules d)
      → up_to_byte rules.header_len longer.body ≡ up_to_byte rules.header_len d.body
  long-ticks long =
      let live = live-le rules lawful d in
      up_to_byte-append rules.header_len d.body (silent gap ++ Byte b ∷ []) (omega arith)

  -- a header that is too short, and has come to its end, stays too short
  short-over : length (live_bytes rules d) < rules.header_len
      → d.start + length (before_pause d.body) + 1 < m → (has_pause d.body || nat_le 2 gap) ≡ true
  short-over short early =
      let room = headed.room_for_header (live_bytes rules d) in
      ⊎_elim
      (λ over. ⊎_elim
      (λ paused. paused)
      (λ full.
      let fills : length (live_bytes rules d) ≡ rules.room (live_bytes rules d) =
      eqb-true _ _ full in
      absurd (omega arith))
      (or_cases (has_pause d.body || nat_le 2 gap) (fills_room rules (live_bytes rules d)) over))
      (λ open'.
      let near = open-near open' in
      let all = ap length (open-pause open') in
      absurd (omega arith))
      (cases_Bool is_over)

  short-pause : (has_pause d.body || nat_le 2 gap) ≡ true
      → before_pause longer.body ≡ before_pause d.body
  short-pause paused =
      let last = contiguous-ends 4 d.body may.contiguous in
      let P : List Tick → Type 0 = λ x. (has_pause x || nat_le 2 gap) ≡ true
      → before_pause (x ++ (silent gap ++ Byte b ∷ [])) ≡ before_pause x in
      subst P (sym last.2) (λ is. spelled-paused last.0 last.1 gap b is) paused

  -- ---- the verdict on the longer burst

  module _ (s : CheckState) where
    abbrev early_by : Type 0
    early_by = (checker profile rules).tick s d < m

    settled-busy : d.start < s.earliest_start → IsSettled profile rules s d longer
    settled-busy busy = record {
      verdict = checked-busy profile rules s longer busy
          ∙ sym (checked-busy profile rules s d busy);
      tick = tick-busy profile rules s longer busy ∙ sym (tick-busy profile rules s d busy);
      bytes = λ judged. absurd (subst IsJudged (checked-busy profile rules s d busy) judged);
      ticks = λ judged. absurd (subst IsJudged (checked-busy profile rules s d busy) judged);
    }

    settled-short : s.earliest_start ≤ d.start → length (live_bytes rules d) < rules.header_len
        → early_by → IsSettled profile rules s d longer
    settled-short late short early =
        let tick = tick-short profile rules s d late short in
        let paused = short-over short (omega arith) in
        let live = live-over m b d within rules lawful
        (ap (λ p. p || fills_room rules (live_bytes rules d)) paused) in
        let same = ap length live in
        let still : length (live_bytes rules longer) < rules.header_len = omega arith in
        record {
          verdict = checked-short profile rules s longer late still
              ∙ sym (checked-short profile rules s d late short);
          tick = tick-short profile rules s longer late still
              ∙ (ap (λ x. d.start + length x + 1) (short-pause paused) ∙ sym tick);
          bytes = λ judged.
              absurd (subst IsJudged (checked-short profile rules s d late short) judged);
          ticks = λ judged.
              absurd (subst IsJudged (checked-short profile rules s d late short) judged);
        }

    settled-bad : s.earliest_start ≤ d.start → rules.header_len ≤ length (live_bytes rules d)
        → rules.is_good_header (take rules.header_len (live_bytes rules d)) ≡ false
        → IsSettled profile rules s d longer
    settled-bad late long bad =
        let still = long-bytes long in
        let same = ap rules.is_good_header (long-header long) ∙ bad in
        record {
          verdict = checked-bad profile rules s longer late still same
              ∙ sym (checked-bad profile rules s d late long bad);
          tick = tick-bad profile rules s longer late still same
              ∙ (ap (λ x. d.start + (length x - 1)) (long-ticks long)
              ∙ sym (tick-bad profile rules s d late long bad));
          bytes = λ judged.
              absurd (subst IsJudged (checked-bad profile rules s d late long bad) judged);
          ticks = λ judged.
              absurd (subst IsJudged (checked-bad profile rules s d late long bad) judged);
        }

    settled-good : s.earliest_start ≤ d.start → rules.header_len ≤ length (live_bytes rules d)
        → rules.is_good_header (take rules.header_len (live_bytes rules d)) ≡ true
        → early_by → IsSettled profile rules s d longer
    settled-good late long good early =
        let still = long-bytes long in
        let same = ap rules.is_good_header (long-header long) ∙ good in
        let tick = tick-good profile rules s d late long good in
        let soon : trailer_tick profile rules d < m = omega arith in
        ⊎_elim
        (λ over. record {
          verdict = checked-good profile rules s longer late still same
              ∙ (over-verdict s.floor over soon
              ∙ sym (checked-good profile rules s d late long good));
          tick = tick-good profile rules s longer late still same
              ∙ (over-tick over soon ∙ sym tick);
          bytes = λ judged. live-over m b d within rules lawful over;
          ticks = λ judged. live_ticks-over rules lawful m b d within over;
        })
        (λ open'. let waits = open-waits open' in absurd (omega arith))
        (cases_Bool is_over)

    -- the verdict on a burst that is noted before tick m stays
    pub settled : early_by → IsSettled profile rules s d longer
    settled early =
        ⊎_elim
        settled-busy
        (λ late. ⊎_elim
        (λ short. settled-short late short early)
        (λ long. ⊎_elim
        (λ good. settled-good late long good early)
        (λ bad. settled-bad late long bad)
        (cases_Bool (rules.is_good_header (take rules.header_len (live_bytes rules d)))))
        (cases_lt (length (live_bytes rules d)) rules.header_len))
        (cases_lt d.start s.earliest_start)

    -- ---- a burst that isn't noted before tick m

    late-start : m ≤ (checker profile rules).tick s d → s.earliest_start ≤ d.start
    late-start late = waits-late profile rules s d m (later m b d within) may.after late

    late-header : m ≤ (checker profile rules).tick s d
        → rules.header_len ≤ length (live_bytes rules d)
        → rules.is_good_header (take rules.header_len (live_bytes rules d)) ≡ true
    late-header late long = waits-header profile rules s d m (later m b d within) may.after late
        long

    -- A header that is too short hasn't come to its end yet, or it has, and stays too short.
    waits-open : s.earliest_start ≤ d.start → length (live_bytes rules d) < rules.header_len
        → is_over ≡ false → m ≤ (checker profile rules).tick s longer
    waits-open free short open' =
        let more = ap length (open-bytes open') ∙ length-append (live_bytes rules d) (b ∷ []) in
        let end = open-end open' in
        let long = ap length (open-longer open') in
        let whole : end_of longer ≡ m + 1 = longer-end m b d within in
        ⊎_elim
        (λ still. let tick = tick-short profile rules s longer free still in omega arith)
        (λ header.
        let last : rules.header_len ≡ length (live_bytes rules longer) = omega arith in
        let all = ap (λ k. length (up_to_byte k longer.body)) last in
        ⊎_elim
        (λ good. let tick = tick-good profile rules s longer free header good in omega arith)
        (λ bad. let tick = tick-bad profile rules s longer free header bad in omega arith)
        (cases_Bool (rules.is_good_header (take rules.header_len (live_bytes rules longer)))))
        (cases_lt (length (live_bytes rules longer)) rules.header_len)

    waits-short : s.earliest_start ≤ d.start → length (live_bytes rules d) < rules.header_len
        → m ≤ d.start + length (before_pause d.body) + 1
        → m ≤ (checker profile rules).tick s longer
    waits-short free short late =
        let room = headed.room_for_header (live_bytes rules d) in
        ⊎_elim
        (λ paused.
        let live = ap length (live-over m b d within rules lawful
        (ap (λ p. p || fills_room rules (live_bytes rules d)) paused)) in
        let still : length (live_bytes rules longer) < rules.header_len = omega arith in
        let tick = tick-short profile rules s longer free still in
        let same = ap length (short-pause paused) in
        omega arith)
        (λ none. waits-open free short
        (ap (λ p. p || fills_room rules (live_bytes rules d)) none
        ∙ ne_eqb (length (live_bytes rules d)) (rules.room (live_bytes rules d))
        (λ full. omega arith)))
        (cases_Bool (has_pause d.body || nat_le 2 gap))

    pub waits-on : m ≤ (checker profile rules).tick s d
        → m ≤ (checker profile rules).tick s longer
    waits-on late =
        let free = late-start late in
        ⊎_elim
        (λ short. let tick = tick-short profile rules s d free short in
        waits-short free short (omega arith))
        (λ long.
        let good = late-header late long in
        let tick = tick-good profile rules s d free long good in
        let waits = good-waits (omega arith) in
        let still = tick-good profile rules s longer free (long-bytes long)
        (ap rules.is_good_header (long-header long) ∙ good) in
        omega arith)
        (cases_lt (length (live_bytes rules d)) rules.header_len)

-- What changes about a burst when it goes on by one byte, and what stays.
use Rattle.frame_ending.proofs.{LastBurst.IsWithin, Pauses.ended}
use Rattle.frame_ending.proofs.Pauses.{contiguous-ends, has_pause-append, before_pause-paused}
use Rattle.frame_ending.proofs.Pauses.{before_pause-goes_on, before_pause-whole, has_pause-silent}
use Rattle.frame_ending.proofs.Pauses.{before_pause-silent_few, before_pause-silent_more}
use Rattle.frame_ending.proofs.Pauses.{bytes_before-le, up_to_byte-append, up_to_byte-all}
use Rattle.frame_ending.proofs.Pauses.{up_to_byte-le}
use Rattle.frame_ending.proofs.Rooms.{within_room-open, within_room-more, within_room-full}
use Rattle.frame_ending.proofs.Rooms.{within_room-one, within_room-le}
use Rattle.frame_ending.specs.LiveBytes.{before_pause, has_pause, up_to_byte, within_room, spelled}
use Rattle.frame_ending.specs.LiveBytes.{live_bytes, live_end, has_extra}
use Rattle.line_rules.specs.{Rules.Rules, Rules.fills_room, RulesLaws.IsLawful}
use Rattle.std.proofs.Common.{◌≡◌, ℕ, suc, ◌+◌, ◌-◌, ◌<◌, ◌≤◌, nat_le, Bool, true, false, ◌||◌}
use Rattle.std.proofs.Common.{List, [], ◌∷◌, ◌++◌, length, refl, arith, sym, ◌∙◌, ap, subst, ⊎_elim}
use Rattle.std.proofs.Common.{append_assoc, length-append}
use Rattle.std.proofs.lemmas.Bool.{cases_Bool, or_cases, or_parts, leb-true, leb-false, lt-ltb}
use Rattle.std.proofs.lemmas.{Bool.le-ltb, List.append-nil, List.length-replicate}
use Rattle.yasir_ticks.proofs.BurstLaws.{alone, with_last}
use Rattle.yasir_ticks.proofs.SilenceLaws.{bytes_in-append, bytes_in-silent}
use Rattle.yasir_ticks.specs.{Bursts.Burst, Bursts.end_of, Ticks.bytes_in, Ticks.silent}
use Rattle.yasir_ticks.specs.declared.tick.Tick.{Tick, TheVariants.Silent, TheVariants.Byte}

-- this many silent ticks, and then a byte
abbrev gap_byte : ℕ → ℕ → List Tick
gap_byte gap b = silent gap ++ Byte b ∷ []

-- ---- the bytes before a pause

pub spelled-paused : (w : List Tick) (a gap b : ℕ) → (has_pause (ended w a) || nat_le 2 gap) ≡ true
    → before_pause (ended w a ++ gap_byte gap b) ≡ before_pause (ended w a)
spelled-paused w a gap b paused =
    ⊎_elim
    (λ inside. before_pause-paused w a (gap_byte gap b) inside)
    (λ none. ⊎_elim
    (λ inside. before_pause-paused w a (gap_byte gap b) inside)
    (λ after. before_pause-goes_on w a (gap_byte gap b) none
    ∙ (ap (λ y. ended w a ++ y) (before_pause-silent_more gap b (leb-true 2 gap after))
    ∙ (append-nil (ended w a) ∙ sym (before_pause-whole w a none))))
    (or_cases (has_pause (ended w a)) (nat_le 2 gap) paused))
    (cases_Bool (has_pause (ended w a)))

pub spelled-open : (w : List Tick) (a gap b : ℕ) → (has_pause (ended w a) || nat_le 2 gap) ≡ false
    → before_pause (ended w a ++ gap_byte gap b) ≡ ended w a ++ gap_byte gap b
spelled-open w a gap b none =
    let parts = or_parts (has_pause (ended w a)) (nat_le 2 gap) none in
    before_pause-goes_on w a (gap_byte gap b) parts.0
    ∙ ap (λ y. ended w a ++ y) (before_pause-silent_few gap b (leb-false 2 gap parts.1))

-- a burst has no more live bytes than bytes
pub live-le : (rules : Rules) → IsLawful rules → (d : Burst)
    → length (live_bytes rules d) ≤ length (bytes_in d.body)
live-le rules lawful d =
    let room = within_room-le rules lawful (spelled d) in
    let part = bytes_before-le d.body in
    omega arith

-- ---- a burst, and after it a byte at tick m

module _ (m b : ℕ) (d : Burst) (within : IsWithin m d) where
  abbrev gap : ℕ
  gap = m - end_of d

  abbrev longer : Burst
  longer = with_last d m b

  -- whether there are two silent ticks in a row in the burst, or after it
  abbrev pub paused : Bool
  paused = has_pause d.body || nat_le 2 (m - end_of d)

  pub longer-bytes : bytes_in longer.body ≡ bytes_in d.body ++ b ∷ []
  longer-bytes = bytes_in-append d.body (gap_byte gap b)
      ∙ ap (λ y. bytes_in d.body ++ y) (bytes_in-silent gap (Byte b ∷ []))

  pub longer-end : end_of longer ≡ m + 1
  longer-end =
      let end = within.within in
      let tail : length (gap_byte gap b) ≡ m - end_of d + 1 =
      length-append (silent gap) (Byte b ∷ []) ∙ ap (λ k. k + 1) (length-replicate gap Silent) in
      let whole = length-append d.body (gap_byte gap b) in
      omega arith

  pub longer-has_pause : has_pause longer.body ≡ paused
  longer-has_pause =
      let last = contiguous-ends 4 d.body within.contiguous in
      let P : List Tick → Type 0 = λ x. has_pause (x ++ gap_byte gap b)
      ≡ (has_pause x || nat_le 2 gap) in
      subst P (sym last.2)
      (has_pause-append last.0 last.1 (gap_byte gap b)
      ∙ ap (λ v. has_pause (ended last.0 last.1) || v) (has_pause-silent gap b))

  longer-spelled_paused : paused ≡ true → spelled longer ≡ spelled d
  longer-spelled_paused is =
      let last = contiguous-ends 4 d.body within.contiguous in
      let P : List Tick → Type 0 = λ x. (has_pause x || nat_le 2 gap) ≡ true
      → bytes_in (before_pause (x ++ gap_byte gap b)) ≡ bytes_in (before_pause x) in
      subst P (sym last.2) (λ yes. ap bytes_in (spelled-paused last.0 last.1 gap b yes)) is

  longer-spelled_open : paused ≡ false → spelled longer ≡ spelled d ++ b ∷ []
  longer-spelled_open is =
      let last = contiguous-ends 4 d.body within.contiguous in
      let P : List Tick → Type 0 = λ x. (has_pause x || nat_le 2 gap) ≡ false
      → bytes_in (before_pause (x ++ gap_byte gap b)) ≡ bytes_in (before_pause x) ++ b ∷ [] in
      subst P (sym last.2)
      (λ none.
      let parts = or_parts (has_pause (ended last.0 last.1)) (nat_le 2 gap) none in
      ap bytes_in (spelled-open last.0 last.1 gap b none)
      ∙ (bytes_in-append (ended last.0 last.1) (gap_byte gap b)
      ∙ (ap (λ y. bytes_in (ended last.0 last.1) ++ y) (bytes_in-silent gap (Byte b ∷ []))
      ∙ ap (λ y. bytes_in y ++ b ∷ []) (sym (before_pause-whole last.0 last.1 parts.0)))))
      is

  spelled-all : paused ≡ false → spelled d ≡ bytes_in d.body
  spelled-all is =
      let last = contiguous-ends 4 d.body within.contiguous in
      let parts = or_parts (has_pause d.body) (nat_le 2 gap) is in
      let P : List Tick → Type 0 = λ x. has_pause x ≡ false
      → bytes_in (before_pause x) ≡ bytes_in x in
      subst P (sym last.2) (λ none. ap bytes_in (before_pause-whole last.0 last.1 none)) parts.0

  pub later : d.start < m
  later =
      let last = contiguous-ends 4 d.body within.contiguous in
      let long = ap length last.2 ∙ length-append last.0 (Byte last.1 ∷ []) in
      let end = within.within in
      omega arith

  module _ (rules : Rules) (lawful : IsLawful rules) where
    -- After a pause, or if the room is full, no more bytes are live.
    pub live-over : (paused || fills_room rules (live_bytes rules d)) ≡ true
        → live_bytes rules longer ≡ live_bytes rules d
    live-over over =
        ⊎_elim
        (λ yes. ap (λ x. within_room rules x) (longer-spelled_paused yes))
        (λ none. ⊎_elim
        (λ yes. ap (λ x. within_room rules x) (longer-spelled_paused yes))
        (λ full. ap (λ x. within_room rules x) (longer-spelled_open none)
        ∙ within_room-full rules lawful (spelled d) b full)
        (or_cases paused (fills_room rules (live_bytes rules d)) over))
        (cases_Bool paused)

    pub end-over : (paused || fills_room rules (live_bytes rules d)) ≡ true
        → live_end rules longer ≡ live_end rules d
    end-over over =
        ap (λ h. d.start + length (up_to_byte (length h) longer.body)) (live-over over)
        ∙ ap (λ x. d.start + length x) (up_to_byte-append (length (live_bytes rules d)) d.body
        (gap_byte gap b) (live-le rules lawful d))

    pub extra-over : (paused || fills_room rules (live_bytes rules d)) ≡ true
        → has_extra rules longer ≡ true
    extra-over over =
        let live = ap length (live-over over) in
        let all = ap length longer-bytes ∙ length-append (bytes_in d.body) (b ∷ []) in
        let le = live-le rules lawful d in
        lt-ltb (length (live_bytes rules longer)) (length (bytes_in longer.body)) (omega arith)

    -- the last live byte comes before tick m
    pub live_end-le : live_end rules d ≤ m
    live_end-le =
        let part = up_to_byte-le (length (live_bytes rules d)) d.body in
        let end = within.within in
        omega arith

    -- Without a pause, and if the room isn't full, the byte is live.
    pub live-more : paused ≡ false → fills_room rules (live_bytes rules d) ≡ false
        → live_bytes rules longer ≡ live_bytes rules d ++ b ∷ []
    live-more none room =
        ap (λ x. within_room rules x) (longer-spelled_open none)
        ∙ within_room-more rules lawful (spelled d) b room

    pub live-all : paused ≡ false → fills_room rules (live_bytes rules d) ≡ false
        → live_bytes rules d ≡ bytes_in d.body
    live-all none room = within_room-open rules lawful (spelled d) room ∙ spelled-all none

    pub end-more : paused ≡ false → fills_room rules (live_bytes rules d) ≡ false
        → live_end rules longer ≡ m + 1
    end-more none room =
        let x : List Tick = d.body ++ silent gap in
        let split : ended x b ≡ longer.body = append_assoc d.body (silent gap) (Byte b ∷ []) in
        let bytes : bytes_in x ≡ bytes_in d.body =
        bytes_in-append d.body (silent gap)
        ∙ (ap (λ y. bytes_in d.body ++ y)
        (ap bytes_in (sym (append-nil (silent gap))) ∙ bytes_in-silent gap [])
        ∙ append-nil (bytes_in d.body)) in
        let live : length (live_bytes rules longer) ≡ suc (length (bytes_in x)) =
        ap length (live-more none room ∙ ap (λ h. h ++ b ∷ []) (live-all none room ∙ sym bytes))
        ∙ (length-append (bytes_in x) (b ∷ [])
        ∙ (let one : length (bytes_in x) + 1 ≡ suc (length (bytes_in x)) = omega arith in
        one)) in
        ap (λ k. d.start + length (up_to_byte k longer.body)) live
        ∙ (ap (λ y. d.start + length (up_to_byte (suc (length (bytes_in x))) y)) (sym split)
        ∙ (ap (λ y. d.start + length y) (up_to_byte-all x b ∙ split) ∙ longer-end))

    pub extra-more : paused ≡ false → fills_room rules (live_bytes rules d) ≡ false
        → has_extra rules longer ≡ has_extra rules d
    extra-more none room =
        let live = ap length (live-more none room) ∙ length-append (live_bytes rules d) (b ∷ []) in
        let all = ap length longer-bytes ∙ length-append (bytes_in d.body) (b ∷ []) in
        let same = ap length (live-all none room) in
        le-ltb (length (live_bytes rules longer)) (length (bytes_in longer.body)) (omega arith)
        ∙ sym (le-ltb (length (live_bytes rules d)) (length (bytes_in d.body)) (omega arith))

-- ---- a burst of one byte

module _ (m b : ℕ) where
  pub alone-has_pause : has_pause (alone m b).body ≡ false
  unfolding has_pause
  alone-has_pause = refl

  alone-spelled : spelled (alone m b) ≡ b ∷ []
  unfolding before_pause
  alone-spelled = refl

  one_byte : up_to_byte 1 (Byte b ∷ []) ≡ Byte b ∷ []
  unfolding up_to_byte
  one_byte = refl

  module _ (rules : Rules) (lawful : IsLawful rules) where
    pub alone-live : live_bytes rules (alone m b) ≡ b ∷ []
    alone-live = ap (λ x. within_room rules x) alone-spelled ∙ within_room-one rules lawful b

    pub alone-live_end : live_end rules (alone m b) ≡ m + 1
    alone-live_end = ap (λ h. m + length (up_to_byte (length h) (Byte b ∷ []))) alone-live
        ∙ ap (λ x. m + length x) one_byte

    pub alone-extra : has_extra rules (alone m b) ≡ false
    alone-extra =
        let one = ap length alone-live in
        le-ltb (length (live_bytes rules (alone m b))) (length (b ∷ [])) (omega arith)

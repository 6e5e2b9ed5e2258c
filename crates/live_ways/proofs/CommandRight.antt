-- If the input of a live line of two ways is a right stream within the limits, no end says
-- otherwise.
use Rattle.command_ends.proofs.Readable.{met_of_told, all_of_told}
use Rattle.live_line.proofs.Growing.{GoesOn, grows}
use Rattle.live_line.specs.BothWays.{lines_in}
use Rattle.live_line.specs.WayText.{text_on, letter_of, AreLettered, IsLettered}
use Rattle.live_line.specs.declared.ways.Way.{Way}
use Rattle.live_ways.specs.WayCommand.{IsLiveStream}
use Rattle.live_ways.specs.WayEnds.{closed, ended_by, EndsBehind, EndsWithin}
use Rattle.live_ways.specs.WayEnds.{RefusesNext, RefusesLetter, HasTooManyTicks, HasLongLine}
use Rattle.live_ways.specs.WayEnds.{HasTooManyBytes}
use Rattle.live_ways.specs.declared.way_end.WayEnd.{WayEnd}
use Rattle.live_ways.specs.declared.way_end.WayEnd.TheVariants.{Refused, NoWay, TooLong}
use Rattle.live_ways.specs.declared.way_end.WayEnd.TheVariants.{TooManyBytes}
use Rattle.std.proofs.Common.{◌≡◌, ◌≢◌, ◌∙◌, ◌==◌, ℕ, ◌+◌, ◌≤◌, ◌⊎◌, List, [], ◌∷◌, ◌++◌, length}
use Rattle.std.proofs.Common.{Option, Some}
use Rattle.std.proofs.Common.{Bool, true, false, cond, refl, sym, ap, subst, arith, inl, inr}
use Rattle.std.proofs.Common.{append_assoc}
use Rattle.std.proofs.Common.{length-append}
use Rattle.std.proofs.lemmas.Grind.{flat_map-append}
use Rattle.std.specs.Io.KnownBytes.{prepend_known, IsAtEnd}
use Rattle.std.specs.List.{flat_map}
use Rattle.std.specs.Prelude.{unwrap_or}
use Rattle.tick_drive.proofs.ItemLaws.{ticks_in-append}
use Rattle.tick_drive.specs.declared.consumer.Stop.{Stop}
use Rattle.tick_drive.specs.declared.end.TooMuch.TheVariants.{Ticks, Bytes}
use Rattle.yasir_ticks.proofs.Lines.{lines_of-append, behind}
use Rattle.yasir_ticks.specs.TickText.{Lines, lines_of, with_front, line_items, ended_items}
use Rattle.yasir_ticks.specs.TickText.{BeginsTickText}
use Rattle.yasir_ticks.specs.TickText.{IsTickText}
use Rattle.yasir_ticks.specs.Ticks.{Item, ticks_in}
use Rattle.yasir_ticks.specs.declared.fault.BadTicks.{BadTicks}
use Rattle.yasir_ticks.specs.declared.tick.Tick.{Tick}

-- ---- a text that is followed by more

ended_more : (lines : Lines) (ended : List (List ℕ)) (last : List ℕ)
    → (more : List (List ℕ)) × ((behind lines ended last).ended ≡ lines.ended ++ more)
ended_more lines [] last = ([], sym (append_none lines.ended))
  where
    append_none : (ls : List (List ℕ)) → ls ++ [] ≡ ls
    append_none [] = refl
    append_none (l ∷ ls) = ap (λ rest. l ∷ rest) (append_none ls)
ended_more lines (l ∷ ls) last = ((lines.last ++ l) ∷ ls, refl)

abbrev items_of : List ℕ → List Item
items_of l = unwrap_or (line_items l) []

items_more : (x y : List ℕ) → (more : List Item) × (ended_items (x ++ y) ≡ ended_items x ++ more)
items_more x y =
    let lines = ended_more (lines_of x) (lines_of y).ended (lines_of y).last in (
      flat_map items_of lines.0,
      ap (λ (l : Lines). flat_map items_of l.ended) (lines_of-append x y)
          ∙ (ap (flat_map items_of) lines.1 ∙ flat_map-append items_of (lines_of x).ended lines.0),
    )

ticks_more : (x y : List ℕ)
    → length (ticks_in (ended_items x)) ≤ length (ticks_in (ended_items (x ++ y)))
ticks_more x y =
    let more = items_more x y in
    let long : length (ticks_in (ended_items (x ++ y)))
    ≡ length (ticks_in (ended_items x)) + length (ticks_in more.0) =
    ap (λ l. length (ticks_in l)) more.1 ∙ (ap length (ticks_in-append (ended_items x) more.0)
    ∙ length-append (ticks_in (ended_items x)) (ticks_in more.0)) in
    omega (arith, long)

lines_more : (way : Way) (x y : List ℕ) → length (lines_in x way) ≤ length (lines_in (x ++ y) way)
lines_more way x y =
    let goes : GoesOn (text_on way x) (text_on way (x ++ y)) = grows way x y in
    subst (λ t. length (lines_in x way) ≤ length (ticks_in (ended_items t))) (sym goes.is)
    (ticks_more (text_on way x) goes.more)

begins_less : (front more : List ℕ) → BeginsTickText 0 (front ++ more) → BeginsTickText 0 front
begins_less front more begins = (
  more ++ begins.0,
  begins.1,
  subst (λ t. IsTickText 0 t begins.1) (append_assoc front more begins.0) begins.2,
)

-- ---- a line that begins with the letter of no way

-- The first of these lines, or the last if there is none, begins with this byte, or an LF ended it
-- before any.
abbrev BeginsWith : ℕ → List (List ℕ) → List ℕ → Type 0
BeginsWith b [] last = (l : List ℕ) × (last ≡ b ∷ l)
BeginsWith b (l ∷ ls) last = (l ≡ []) ⊎ ((rest : List ℕ) × (l ≡ b ∷ rest))

abbrev fronted : Bool → ℕ → Lines → Lines
fronted lf b lines = cond lf (record { ended = [] ∷ lines.ended; last = lines.last })
    (with_front b lines.ended lines.last)

begins_by : (lf : Bool) (b : ℕ) (ended : List (List ℕ)) (last : List ℕ)
    → BeginsWith b (fronted lf b (record { ended = ended; last = last })).ended
    (fronted lf b (record { ended = ended; last = last })).last
begins_by true b ended last = inl refl
begins_by false b [] last = (last, refl)
begins_by false b (l ∷ ls) last = inr (l, refl)

begins_of : (b : ℕ) (more : List ℕ)
    → BeginsWith b (lines_of (b ∷ more)).ended (lines_of (b ∷ more)).last
unfolding lines_of
begins_of b more = begins_by (b == 10) b (lines_of more).ended (lines_of more).last

lettered_behind : (xs ys : List (List ℕ)) → AreLettered (xs ++ ys) → AreLettered ys
lettered_behind [] ys are = are
lettered_behind (x ∷ xs) ys are = lettered_behind xs ys are.1

no_lettered : (b : ℕ) (line : List ℕ) → (line ≡ []) ⊎ ((rest : List ℕ) × (line ≡ b ∷ rest))
    → ((way : Way) → b ≢ letter_of way) → IsLettered line → ⊥
no_lettered b line (inl none) other is = let e = sym none ∙ is.1.1 in cc
no_lettered b line (inr begins) other is =
    let e : b ∷ begins.0 ≡ letter_of is.0 ∷ is.1.0 = sym begins.1 ∙ is.1.1 in
    let same : b ≡ letter_of is.0 = cc in
    other is.0 same

no_lines : (lines : Lines) (b : ℕ) (ended : List (List ℕ)) (last : List ℕ) → lines.last ≡ []
    → BeginsWith b ended last → ((way : Way) → b ≢ letter_of way)
    → AreLettered (behind lines ended last).ended → (behind lines ended last).last ≡ [] → ⊥
no_lines lines b [] last none begins other are closed =
    let e : [] ++ (b ∷ begins.0) ≡ [] =
    ap (λ l. l ++ (b ∷ begins.0)) (sym none) ∙ (ap (λ l. lines.last ++ l) (sym begins.1) ∙ closed) in
    cc
no_lines lines b (l ∷ ls) last none begins other are closed =
    let first : IsLettered (lines.last ++ l) =
    (lettered_behind lines.ended ((lines.last ++ l) ∷ ls) are).0 in
    no_lettered b l begins other (subst (λ x. IsLettered (x ++ l)) none first)

no_letter_in : (front : List ℕ) (b : ℕ) (more : List ℕ) → (lines_of front).last ≡ []
    → ((way : Way) → b ≢ letter_of way) → AreLettered (lines_of (front ++ b ∷ more)).ended
    → (lines_of (front ++ b ∷ more)).last ≡ [] → ⊥
no_letter_in front b more none other are closed =
    let is = lines_of-append front (b ∷ more) in
    no_lines (lines_of front) b (lines_of (b ∷ more)).ended (lines_of (b ∷ more)).last none
    (begins_of b more) other (subst (λ (l : Lines). AreLettered l.ended) is are)
    (subst (λ (l : Lines). l.last ≡ []) is closed)

-- ---- the stream

closed_by : (last stream : List ℕ) → (more : List ℕ) × (ended_by last stream ≡ stream ++ more)
closed_by [] stream = ([], sym (nothing stream))
  where
    nothing : (l : List ℕ) → l ++ [] ≡ l
    nothing [] = refl
    nothing (b ∷ l) = ap (λ rest. b ∷ rest) (nothing l)
closed_by (c ∷ last) stream = (10 ∷ [], refl)

module _ (Heard : (Way → List Tick) → Type 0) (Halts : Way → Stop → (Way → List Tick) → Type 0)
    (rest : Way → ℕ) (before now : Option (List ℕ)) (live : IsLiveStream before) (text : List ℕ)
    (came : before ≡ prepend_known text now) where
  abbrev whole : List ℕ
  whole = closed live.stream

  told : Some live.stream ≡ prepend_known text now
  told = sym live.told ∙ came

  -- An end inside the whole stream.
  pub record InWhole (end : WayEnd) : Type 0 where
    pub front : List ℕ
    pub later : List ℕ
    pub more : List ℕ
    pub is : whole ≡ front ++ (later ++ more)
    pub ends : EndsBehind Heard Halts end front later

  in_text : (end : WayEnd) → EndsWithin Heard Halts end text → InWhole end
  in_text end within =
      let unread = met_of_told live.stream text now told in
      let tail = closed_by (lines_of live.stream).last live.stream in
      record {
        front = within.front;
        later = within.later;
        more = unread.0 ++ tail.0;
        is = tail.1 ∙ (ap (λ l. l ++ tail.0) (unread.1 ∙ ap (λ l. l ++ unread.0) within.is)
            ∙ (append_assoc (within.front ++ within.later) unread.0 tail.0
            ∙ append_assoc within.front within.later (unread.0 ++ tail.0)));
        ends = within.ends;
      }

  in_closed : IsAtEnd now → (end : WayEnd) → EndsWithin Heard Halts end (closed text) → InWhole end
  in_closed at_end end within = record {
    front = within.front;
    later = within.later;
    more = [];
    is = ap closed (all_of_told live.stream text now told at_end)
        ∙ (within.is ∙ ap (λ l. within.front ++ l) (sym (nothing within.later)));
    ends = within.ends;
  }
    where
      nothing : (l : List ℕ) → l ++ [] ≡ l
      nothing [] = refl
      nothing (b ∷ l) = ap (λ rest. b ∷ rest) (nothing l)

  -- What was read ended within the stream, or where it was closed.
  pub in_either : (end : WayEnd)
      → EndsWithin Heard Halts end text ⊎ (IsAtEnd now × EndsWithin Heard Halts end (closed text))
      → InWhole end
  in_either end (inl within) = in_text end within
  in_either end (inr last) = in_closed last.0 end last.1

  -- The bytes behind the first one that wasn't taken.
  behind_one : (front later more : List ℕ) (byte : ℕ) (rest : List ℕ) → later ≡ byte ∷ rest
      → whole ≡ front ++ (later ++ more) → whole ≡ front ++ byte ∷ (rest ++ more)
  behind_one front later more byte rest is all =
      all ∙ ap (λ l. front ++ (l ++ more)) is

  -- the same, with that byte at the end of the first ones
  with_one : (front : List ℕ) (byte : ℕ) (back : List ℕ) → whole ≡ front ++ byte ∷ back
      → whole ≡ (front ++ byte ∷ []) ++ back
  with_one front byte back all = all ∙ sym (append_assoc front (byte ∷ []) back)

  pub not_refused : (way : Way) (bad : BadTicks) → InWhole (Refused way bad) → ⊥
  not_refused way bad at =
      let ends : RefusesNext Heard Halts way bad at.front at.later = at.ends in
      let byte = ends.byte in
      let back = ends.rest ++ at.more in
      let all : whole ≡ (at.front ++ byte ∷ []) ++ back = with_one at.front byte back
      (behind_one at.front at.later at.more byte ends.rest ends.is at.is) in
      let goes : GoesOn (text_on way (at.front ++ byte ∷ []))
      (text_on way ((at.front ++ byte ∷ []) ++ back)) =
      grows way (at.front ++ byte ∷ []) back in
      let text_is : text_on way whole ≡ (text_on way at.front ++ byte ∷ []) ++ goes.more =
      ap (text_on way) all ∙ (goes.is ∙ ap (λ l. l ++ goes.more) ends.own) in
      ends.refused.refused (begins_less (text_on way at.front ++ byte ∷ []) goes.more
      (subst (BeginsTickText 0) text_is (live.right.begins.begins way)))

  pub not_no_way : (line : ℕ) → InWhole (NoWay line) → ⊥
  not_no_way line at =
      let ends : RefusesLetter Heard Halts line at.front at.later = at.ends in
      let all : whole ≡ at.front ++ ends.byte ∷ (ends.rest ++ at.more) =
      behind_one at.front at.later at.more ends.byte ends.rest ends.is at.is in
      no_letter_in at.front ends.byte (ends.rest ++ at.more) ends.begins ends.is_no_letter
      (subst (λ l. AreLettered (lines_of l).ended) all live.right.begins.lettered)
      (subst (λ l. (lines_of l).last ≡ []) all live.right.ended)

  pub not_too_many_ticks : (way : Way) (count : ℕ) → InWhole (TooLong way Ticks count) → ⊥
  not_too_many_ticks way count at =
      let ends : HasTooManyTicks Heard Halts way count at.front at.later = at.ends in
      let back = ends.rest ++ at.more in
      let all : whole ≡ (at.front ++ ends.byte ∷ []) ++ back = with_one at.front ends.byte back
      (behind_one at.front at.later at.more ends.byte ends.rest ends.is at.is) in
      let more : length (lines_in (at.front ++ ends.byte ∷ []) way) ≤ length (lines_in whole way) =
      subst (λ l. length (lines_in (at.front ++ ends.byte ∷ []) way) ≤ length (lines_in l way))
      (sym all) (lines_more way (at.front ++ ends.byte ∷ []) back) in
      omega (arith, more, ends.sum, ends.above, live.few_ticks way)

  pub not_long : (way : Way) (count : ℕ) → InWhole (TooLong way Bytes count) → ⊥
  not_long way count at =
      let ends : HasLongLine Heard Halts way count at.front = at.ends in
      let line = ends.none in
      let goes : GoesOn (text_on way at.front) (text_on way (at.front ++ (at.later ++ at.more))) =
      grows way at.front (at.later ++ at.more) in
      let text_is : text_on way whole ≡ line.whole ++ (line.part ++ goes.more) =
      ap (text_on way) at.is ∙ (goes.is ∙ (ap (λ l. l ++ goes.more) line.is
      ∙ append_assoc line.whole line.part goes.more)) in
      let few : length line.part ≤ 2147483648 = live.few_unended way line.whole line.part goes.more
      text_is (ap ended_items (sym line.is) ∙ line.none) in
      omega (arith, few, ends.above, line.counted)

  pub not_too_many_bytes : (count : ℕ) → InWhole (TooManyBytes count) → ⊥
  not_too_many_bytes count at =
      let ends : HasTooManyBytes Heard Halts count at.front = at.ends in
      let long : length whole ≡ length at.front + length (at.later ++ at.more) =
      ap length at.is ∙ length-append at.front (at.later ++ at.more) in
      omega (arith, long, ends.above, ends.sum, live.few_bytes)

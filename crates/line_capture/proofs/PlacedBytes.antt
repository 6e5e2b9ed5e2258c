-- The bytes of a way, placed one after the other, and the ticks that go out with them.
use Rattle.line_capture.{proofs.CollectedBytes.item_parts, specs.Placed.plain}
use Rattle.line_capture.specs.Placed.{PlacedStopsAt, PlacesByte, SendsFront, PlacedSends, PushesLine, PlacesOne}
use Rattle.line_capture.specs.Placed.{TakesOne, StopsBefore, PlacesAll, PlacesPart, CountsNext}
use Rattle.line_capture.specs.{Placed.CountsOverlaps, Placed.AllInTime, declared.placing.LineStop.LineStop}
use Rattle.line_capture.specs.declared.placing.LineStop.TheVariants.{AllPlaced, TooLong}
use Rattle.line_stamps.specs.Places.{Spot, spot_of, line_of_places, last_spot, last_spot_from}
use Rattle.line_stamps.specs.Placing.{PlacingHasTaken, timing_of, answer_at, is_early, overlaps, is_late}
use Rattle.line_stamps.specs.Placing.{NoneRefused, silence_before, overlap_count}
use Rattle.line_stamps.specs.declared.{capture.CaptureByte.CaptureByte, placer.Placer.Placer}
use Rattle.line_stamps.specs.declared.placer.Unplaced.TheVariants.{Early, Late, Overlap}
use Rattle.line_stamps.specs.declared.timing.Timing.{Timing}
use Rattle.line_texts.proofs.Sending.{sends_added, sends_handed, sent_handed}
use Rattle.line_texts.specs.{Adding.TextAdds, Adding.TextHasRoom, Sending.AnswersNoted, Sending.SinkTexts}
use Rattle.line_texts.specs.Sending.{SendsTexts, HaveCause}
use Rattle.line_texts.specs.Texts.{Writing, writing, waiting_in, texts_held, Writes, HandsOut}
use Rattle.line_texts.specs.declared.texts.Texts.{Texts}
use Rattle.std.proofs.Common.{◌≡◌, ◌∙◌, ℕ, ◌+◌, ◌<◌, ◌≤◌, ◌^◌, Bool, true, false, cond, List, []}
use Rattle.std.proofs.Common.{◌∷◌, ◌++◌, length, take, get_or, min, drop, ◌-◌, Option, Some, None}
use Rattle.std.proofs.Common.{Result, Ok, Err, refl, sym, ap, subst, arith, append_assoc}
use Rattle.std.proofs.Common.{append-nil, suc, inr, ◌⊎◌}
use Rattle.std.proofs.lemmas.{List.take_more, List.replicate-append-replicate}
use Rattle.std.proofs.lemmas.{Result.on_ok_weaker, Result.on_err_weaker}
use Rattle.tick_drive.specs.Input.{max_ticks}
use Rattle.yasir_io.proofs.FlushLaws.{none_flushed, none_flushed_then}
use Rattle.yasir_io.specs.declared.{Failed.Failed, sink.Sink.Ghosts as Sink}
use Rattle.yasir_ticks.specs.{Ticks.silent, declared.tick.Tick.Tick, declared.tick.Tick.TheVariants.Silent}
use Rattle.line_capture.specs.declared.placing.LineStop.TheVariants as stops

-- ---- one byte more

answer_ok : (early late overlap : Bool) (n silence : ℕ)
    → cond early (Err Early) (cond late (Err Late) (cond overlap (Err Overlap) (Ok n))) ≡ Ok silence
    → (early ≡ false) × (overlap ≡ false)
answer_ok true late overlap n silence is = cc
answer_ok false true overlap n silence is = cc
answer_ok false false true n silence is = cc
answer_ok false false false n silence is = (refl, refl)

none_more : (t : Timing) (last : Option Spot) (front : List CaptureByte) (c : CaptureByte)
    → NoneRefused t last front → is_early t (last_spot_from t last front) c ≡ false
    → overlaps t (last_spot_from t last front) c ≡ false → NoneRefused t last (front ++ c ∷ [])
none_more t last [] c none early overlap = (early, overlap, tt)
none_more t last (d ∷ front) c none early overlap =
    (none.0, none.1, none_more t (Some (spot_of t last d)) front c none.2 early overlap)

pub placed_more : (t : Timing) (front : List CaptureByte) (c : CaptureByte) (more : List Tick)
    → NoneRefused t None front → PlacesByte t front c more → NoneRefused t None (front ++ c ∷ [])
placed_more t front c more none places =
    let both = answer_ok (is_early t (last_spot t front) c) (is_late (spot_of t (last_spot t front) c))
    (overlaps t (last_spot t front) c) (silence_before (last_spot t front) (spot_of t (last_spot t front) c))
    places.silence places.answer in
    none_more t None front c none both.0 both.1

-- ---- ticks that are added

module _ {O L : Type 0} (o : Sink O) (l : Sink L) where
  pub nothing_written : (at : Writing O L) → Writes o l at at (Ok tt)
  nothing_written at = record {
    cause = record {
      out_never_falls = omega arith;
      log_never_falls = omega arith;
      failed = tt;
      out_same = refl;
      log_same = refl;
    };
    flushes = none_flushed o l at.out at.log;
  }

  pub written_then : (a b c : Writing O L) (result : Result (Unit {0}) Failed)
      → Writes o l a b (Ok tt) → Writes o l b c result → Writes o l a c result
  written_then a b c result first second = record {
    cause = subst (λ n. HaveCause n (o.faults c.out) (l.faults a.log) (l.faults c.log) result)
        first.cause.out_same
        (subst (λ n. HaveCause (o.faults b.out) (o.faults c.out) n (l.faults c.log) result)
        first.cause.log_same second.cause);
    flushes = none_flushed_then o l a.out b.out c.out a.log b.log c.log first.flushes
        second.flushes;
  }

  no_notes : (line run : List Tick) → AnswersNoted plain line run run []
  no_notes line run = record { ticks_are = refl; note_is = refl }

  -- A short run was added to the texts.
  module _ (old : Writing O L) (added : Texts) (run : List Tick)
      (adds : TextAdds (waiting_in old.texts) (waiting_in added) run []) where
    added_sends : (start : SinkTexts) (line : List Tick) → PlacedSends o l start old line
        → SendsTexts plain (waiting_in added) start (texts_held o l old) (line ++ run)
    added_sends start line sends = sends_added plain line run run [] (no_notes line run)
        (waiting_in old.texts) (waiting_in added) start (texts_held o l old) sends adds

    -- There is room for more.
    pub short_added : TextHasRoom added → PushesLine o l old (record old { texts = added }) run (Ok tt)
    short_added room = record {
      goes = added_sends;
      stops = tt;
      room = room;
      writes = let none = nothing_written old in
          record { cause = none.cause; flushes = none.flushes };
    }

    -- What waited was written.
    pub short_handed : (new : Writing O L) (result : Result (Unit {0}) Failed)
        → HandsOut o l (writing added old.out old.log) new result → PushesLine o l old new run result
    short_handed new (Ok x) hands = record {
      goes = λ start line sends. sends_handed o l plain (line ++ run)
          (writing added old.out old.log) new start (added_sends start line sends) hands;
      stops = tt;
      room = hands.room;
      writes = record { cause = hands.writes.cause; flushes = hands.writes.flushes };
    }
    short_handed new (Err e) hands = record {
      goes = tt;
      stops = λ start line sends. record {
        ticks = line ++ run;
        later = [];
        is = sym (append-nil (line ++ run));
        sent = sent_handed o l plain (line ++ run) (writing added old.out old.log) new start
            (added_sends start line sends) e hands;
      };
      room = tt;
      writes = record { cause = hands.writes.cause; flushes = hands.writes.flushes };
    }

  -- no tick
  line_none : (at : Writing O L) → TextHasRoom at.texts → PushesLine o l at at [] (Ok tt)
  line_none at room = record {
    goes = λ start line sends. subst (PlacedSends o l start at) (sym (append-nil line)) sends;
    stops = tt;
    room = room;
    writes = nothing_written at;
  }

  -- If adding the first of two runs failed, adding both failed.
  pub line_fails : (old new : Writing O L) (first then : List Tick) (e : Failed)
      → PushesLine o l old new first (Err e) → PushesLine o l old new (first ++ then) (Err e)
  line_fails old new first then e pushed = record {
    goes = tt;
    stops = λ start line sends.
        let front = pushed.stops start line sends in record {
          ticks = front.ticks;
          later = front.later ++ then;
          is = sym (append_assoc line first then) ∙ ap (λ x. x ++ then) front.is
              ∙ append_assoc front.ticks front.later then;
          sent = front.sent;
        };
    room = tt;
    writes = pushed.writes;
  }

  -- If the first of two runs was added, the result for both is that of the second one.
  pub line_then : (old mid new : Writing O L) (first then : List Tick)
      (result : Result (Unit {0}) Failed) → PushesLine o l old mid first (Ok tt)
      → PushesLine o l mid new then result → PushesLine o l old new (first ++ then) result
  line_then old mid new first then result went pushed = record {
    goes = on_ok_weaker result (λ goes start line sends.
        subst (PlacedSends o l start new) (append_assoc line first then)
        (goes start (line ++ first) (went.goes start line sends))) pushed.goes;
    stops = on_err_weaker result (λ stops start line sends.
        subst (SendsFront start (texts_held o l new)) (append_assoc line first then)
        (stops start (line ++ first) (went.goes start line sends))) pushed.stops;
    room = pushed.room;
    writes = written_then old mid new result went.writes pushed.writes;
  }

  -- ---- silence

  -- Of `silence` silent ticks, all but `left` were added.
  pub record HasPushed (old now : Writing O L) (silence left : ℕ) : Type 0 where
    pub done : ℕ
    pub all : done + left ≡ silence
    pub pushes : PushesLine o l old now (silent done) (Ok tt)

  pub none_pushed : (at : Writing O L) (silence : ℕ) → TextHasRoom at.texts
      → HasPushed at at silence silence
  none_pushed at silence room =
      record { done = 0; all = omega arith; pushes = line_none at room }

  module _ (old now new : Writing O L) (silence left part : ℕ) (has : HasPushed old now silence left)
      (within : part ≤ left) where
    more_silent : silent has.done ++ silent part ≡ silent (has.done + part)
    more_silent = replicate-append-replicate has.done part Silent

    pub part_pushed : PushesLine o l now new (silent part) (Ok tt)
        → HasPushed old new silence (left - part)
    part_pushed pushed = record {
      done = has.done + part;
      all = omega (arith, has.all, within);
      pushes = subst (λ run. PushesLine o l old new run (Ok tt)) more_silent
          (line_then old now new (silent has.done) (silent part) (Ok tt) has.pushes pushed);
    }

    pub part_fails : (e : Failed) → PushesLine o l now new (silent part) (Err e)
        → PushesLine o l old new (silent silence) (Err e)
    part_fails e pushed =
        let sum : has.done + part + (left - part) ≡ silence = omega (arith, has.all, within) in
        subst (λ run. PushesLine o l old new run (Err e))
        (replicate-append-replicate (has.done + part) (left - part) Silent ∙ ap silent sum)
        (line_fails old new (silent (has.done + part)) (silent (left - part)) e
        (subst (λ run. PushesLine o l old new run (Err e)) more_silent
        (line_then old now new (silent has.done) (silent part) (Err e) has.pushes pushed)))

  pub all_pushed : (old now : Writing O L) (silence left : ℕ) → left ≤ 0
      → HasPushed old now silence left → PushesLine o l old now (silent silence) (Ok tt)
  all_pushed old now silence left none has =
      let all : has.done ≡ silence = omega (arith, has.all, none) in
      subst (λ n. PushesLine o l old now (silent n) (Ok tt)) all has.pushes

  -- ---- the bytes so far

  -- The bytes of `front` were placed, and their ticks were added.
  pub record SoFar (t : Timing) (placer : Placer) (front : List CaptureByte)
      (old now : Writing O L) : Type 0 where
    pub timing : timing_of placer ≡ t
    pub taken : PlacingHasTaken placer front
    pub placed : NoneRefused t None front
    pub few : length (line_of_places t front) ≤ max_ticks
    pub goes : (start : SinkTexts) → PlacedSends o l start old [] → PlacedSends o l start now (line_of_places t front)
    pub room : TextHasRoom now.texts
    pub writes : Writes o l old now (Ok tt)

  pub none_so_far : (t : Timing) (placer : Placer) (at : Writing O L) → TextHasRoom at.texts
      → timing_of placer ≡ t → PlacingHasTaken placer [] → SoFar t placer [] at at
  none_so_far t placer at room timing taken = record {
    timing = timing;
    taken = taken;
    placed = tt;
    few = omega arith;
    goes = λ start sends. sends;
    room = room;
    writes = nothing_written at;
  }

  module _ (t : Timing) (placer : Placer) (front : List CaptureByte) (c : CaptureByte)
      (old now next : Writing O L) (so_far : SoFar t placer front old now) where
    places_at : (result : Result (Unit {0}) Failed)
        → (one : PlacesOne o l placer front c now next result) → PlacesByte t front c one.more
    places_at result one = subst (λ u. PlacesByte u front c one.more) so_far.timing one.places

    pub one_more : (placed : Placer) → TakesOne o l placer placed front c now next
        → SoFar t placed (front ++ c ∷ []) old next
    one_more placed one =
        let at = places_at (Ok tt) one.one in record {
          timing = one.timing ∙ so_far.timing;
          taken = one.taken;
          placed = placed_more t front c one.one.more so_far.placed at;
          few = at.few;
          goes = λ start sends. subst (PlacedSends o l start next) (sym at.line)
              (one.one.pushes.goes start (line_of_places t front) (so_far.goes start sends));
          room = one.one.pushes.room;
          writes = written_then old now next (Ok tt) so_far.writes one.one.pushes.writes;
        }

    pub one_fails : (cs rest : List CaptureByte) (e : Failed) → cs ≡ (front ++ c ∷ []) ++ rest
        → PlacesOne o l placer front c now next (Err e) → PlacesPart o l t cs old next e
    one_fails cs rest e is one =
        let at = places_at (Err e) one in record {
          front = front ++ c ∷ [];
          rest = rest;
          is_front = record {
            is = is;
            placed = placed_more t front c one.more so_far.placed at;
            few = at.few;
          };
          stops = λ start sends. subst (SendsFront start (texts_held o l next)) (sym at.line)
              (one.pushes.stops start (line_of_places t front) (so_far.goes start sends));
          writes = written_then old now next (Err e) so_far.writes one.pushes.writes;
        }

    pub one_stops : (cs rest : List CaptureByte) (stop : LineStop) (count : ℕ)
        → cs ≡ front ++ c ∷ rest → count ≡ length front
        → StopsBefore o l (timing_of placer) front c now next stop
        → PlacesAll o l t cs old next (record { placed = count; stop = stop })
    one_stops cs rest stop count is counted stopped = record {
      front = front;
      rest = c ∷ rest;
      is_front = record { is = is; placed = so_far.placed; few = so_far.few };
      stop = stops_on stop (subst (λ u. PlacedStopsAt u front (c ∷ []) stop) so_far.timing stopped.why);
      placed = counted;
      goes = λ start sends. subst (λ at. PlacedSends o l start at (line_of_places t front)) (sym stopped.same)
          (so_far.goes start sends);
      writes = subst (λ at. Writes o l old at (Ok tt)) (sym stopped.same) so_far.writes;
    }
      where
        stops_on : (stop : LineStop) → PlacedStopsAt t front (c ∷ []) stop
            → PlacedStopsAt t front (c ∷ rest) stop
        stops_on AllPlaced why = cc
        stops_on (stops.Unplaced u) why = why
        stops_on (TooLong n) why = why

  pub next_so_far : (t : Timing) (placer : Placer) (cs : List CaptureByte) (i : ℕ) (d : CaptureByte)
      (old now : Writing O L) → i < length cs
      → SoFar t placer (take i cs ++ get_or cs i d ∷ []) old now
      → SoFar t placer (take (i + 1) cs) old now
  next_so_far t placer cs i d old now within so_far =
      subst (λ front. SoFar t placer front old now) (sym (take_more cs i d within)) so_far

  pub all_so_far : (t : Timing) (placer : Placer) (cs front : List CaptureByte)
      (old now : Writing O L) (count : ℕ) → front ≡ cs → count ≡ length cs
      → SoFar t placer front old now
      → PlacesAll o l t cs old now (record { placed = count; stop = AllPlaced })
  all_so_far t placer cs front old now count is counted so_far = record {
    front = front;
    rest = [];
    is_front = record { is = sym is ∙ sym (append-nil front); placed = so_far.placed; few = so_far.few };
    stop = refl;
    placed = counted ∙ ap length (sym is);
    goes = so_far.goes;
    writes = so_far.writes;
  }

in_time_more : (t : Timing) (last : Option Spot) (front : List CaptureByte) (c : CaptureByte)
    → AllInTime t last front → (answer_at t (last_spot_from t last front) c ≡ Err Early → ⊥)
    → (answer_at t (last_spot_from t last front) c ≡ Err Late → ⊥)
    → AllInTime t last (front ++ c ∷ [])
in_time_more t last [] c all early late = (early, late, tt)
in_time_more t last (d ∷ front) c all early late =
    (all.0, all.1, in_time_more t (Some (spot_of t last d)) front c all.2 early late)

-- A byte that was counted is one more that was taken, and is neither early nor late.
pub counts_on : (t : Timing) (cs : List CaptureByte) (i : ℕ) (d : CaptureByte)
    (placer placed : Placer) → i < length cs → timing_of placer ≡ t → AllInTime t None (take i cs)
    → CountsNext placer placed (take i cs) (get_or cs i d) true
    → (timing_of placed ≡ t) × PlacingHasTaken placed (take (i + 1) cs)
    × AllInTime t None (take (i + 1) cs)
counts_on t cs i d placer placed within timing in_time both =
    let more = sym (take_more cs i d within) in (
      both.1 ∙ timing,
      subst (PlacingHasTaken placed) more both.0,
      subst (AllInTime t None) more (in_time_more t None (take i cs) (get_or cs i d) in_time
          (subst (λ u. answer_at u (last_spot u (take i cs)) (get_or cs i d) ≡ Err Early → ⊥) timing both.2)
          (subst (λ u. answer_at u (last_spot u (take i cs)) (get_or cs i d) ≡ Err Late → ⊥) timing both.3)),
    )

-- the first byte that is early or late ends the count
pub counts_stop : (t : Timing) (cs : List CaptureByte) (i : ℕ) (d : CaptureByte)
    (placer placed : Placer) (n : ℕ) → i < length cs → timing_of placer ≡ t
    → PlacingHasTaken placer (take i cs) → AllInTime t None (take i cs)
    → CountsNext placer placed (take i cs) (get_or cs i d) false
    → ((xs : List CaptureByte) → PlacingHasTaken placed xs
    → n ≡ min (overlap_count (timing_of placed) xs) (2 ^ 64 - 1))
    → CountsOverlaps t cs n
counts_stop t cs i d placer placed n within timing taken in_time both counted =
    let all = counted (take i cs) (subst (λ p. PlacingHasTaken p (take i cs)) (sym both.0) taken) in record {
      front = take i cs;
      rest = get_or cs i d ∷ drop (suc i) cs;
      is = item_parts cs i d within;
      in_time = in_time;
      stop = inr (subst (λ u. (answer_at u (last_spot u (take i cs)) (get_or cs i d) ≡ Err Early)
          ⊎ (answer_at u (last_spot u (take i cs)) (get_or cs i d) ≡ Err Late)) timing both.1);
      count_is = subst (λ u. n ≡ min (overlap_count u (take i cs)) (2 ^ 64 - 1))
          (ap timing_of both.0 ∙ timing) all;
    }

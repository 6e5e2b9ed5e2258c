-- What more holds of the ticks that a box has taken, or of those at which it was stopped, also
-- holds of how the reading of a text ended.
use Rattle.line_commands.specs.ReplaysBox.{has_stopped}
use Rattle.live_commands.specs.TextEnds.{HasTooManyTicks, EndsBehind, EndsWithin, EndsAtLast, EndsText}
use Rattle.std.proofs.Common.{◌≡◌, ◌∙◌, ℕ, List, [], ◌++◌, ◌⊎◌, inl, inr, true, false, refl, sym}
use Rattle.std.proofs.Common.{subst, ap, append-nil, append_assoc}
use Rattle.tick_drive.proofs.ItemLaws.{ticks_in-append}
use Rattle.tick_drive.specs.declared.{consumer.Stop.Stop, end.End.End, end.End.TheVariants.Whole}
use Rattle.tick_drive.specs.declared.end.End.TheVariants.{Refused, TooLong, ReadFault, Stopped}
use Rattle.tick_drive.specs.declared.end.TooMuch.TheVariants.{Ticks, Bytes}
use Rattle.yasir_ticks.specs.{Ticks.Item, Ticks.ticks_in, Ticks.silent}
use Rattle.yasir_ticks.specs.{TickText.ended_items, declared.tick.Tick.Tick}

pub no_true : true ≡ false → ⊥
no_true e = cc

-- If more holds of the ticks taken where the box wasn't stopped, and of those at which it was
-- stopped where it was, more holds of how the reading of the text ended.
module _ (Heard Heard' : List Tick → Type 0) (Halts Halts' : Stop → List Tick → Type 0) where
  abbrev Hears : End → Type 0
  Hears end = has_stopped end ≡ false → (line : List Tick) → Heard line → Heard' line

  abbrev Stops : End → Type 0
  Stops end = has_stopped end ≡ true → (stop : Stop) (line : List Tick) → Halts stop line
      → Halts' stop line

  ticks_by : ((line : List Tick) → Heard line → Heard' line) → (count : ℕ) (items : List Item)
      → HasTooManyTicks Heard Halts count items → HasTooManyTicks Heard' Halts' count items
  ticks_by hears count items ends = record {
    earlier = ends.earlier;
    last = ends.last;
    are = ends.are;
    sum = ends.sum;
    above = ends.above;
    heard = hears _ ends.heard;
  }

  behind_by : (end : End) → Hears end → Stops end → (front later : List ℕ)
      → EndsBehind Heard Halts end front later → EndsBehind Heard' Halts' end front later
  behind_by (Refused bad) hears halts front later ends = record {
    byte = ends.byte;
    rest = ends.rest;
    is = ends.is;
    refused = ends.refused;
    line = ends.line;
    why = ends.why;
    heard = hears refl _ ends.heard;
  }
  behind_by (TooLong Ticks count) hears halts front later ends = ticks_by (hears refl) count _ ends
  behind_by (TooLong Bytes count) hears halts front later ends =
      record { many = ends.many; heard = hears refl _ ends.heard }
  behind_by (Stopped stop) hears halts front later ends = halts refl stop _ ends
  behind_by end hears halts front later ends = ends

  pub within_by : (end : End) → Hears end → Stops end → (text : List ℕ)
      → EndsWithin Heard Halts end text → EndsWithin Heard' Halts' end text
  within_by end hears halts text ends = record {
    front = ends.front;
    later = ends.later;
    is = ends.is;
    begins = ends.begins;
    ends = behind_by end hears halts ends.front ends.later ends.ends;
  }

  pub last_by : (rest : ℕ) (end : End) → Hears end → Stops end → (text : List ℕ)
      → EndsAtLast Heard Halts rest end text → EndsAtLast Heard' Halts' rest end text
  last_by rest Whole hears halts text ends =
      record { items = ends.items; right = ends.right; holds = hears refl _ ends.holds }
  last_by rest (Refused bad) hears halts text ends =
      record { refused = ends.refused; heard = hears refl _ ends.heard }
  last_by rest (TooLong Ticks count) hears halts text ends = record {
    items = ends.items;
    right = ends.right;
    holds = ticks_by (hears refl) count _ ends.holds;
  }
  last_by rest (Stopped stop) hears halts text ends =
      record { items = ends.items; right = ends.right; holds = halts refl stop _ ends.holds }
  last_by rest end hears halts text ends = ends

  either_by : (at_end : Type 0) (rest : ℕ) (end : End) → Hears end → Stops end → (text : List ℕ)
      → EndsWithin Heard Halts end text ⊎ (at_end × EndsAtLast Heard Halts rest end text)
      → EndsWithin Heard' Halts' end text ⊎ (at_end × EndsAtLast Heard' Halts' rest end text)
  either_by at_end rest end hears halts text (inl ends) = inl (within_by end hears halts text ends)
  either_by at_end rest end hears halts text (inr ends) =
      inr (ends.0, last_by rest end hears halts text ends.1)

  pub text_by : (rest : ℕ) (at_end : Type 0) (end : End) → Hears end → Stops end
      → (text : List ℕ)
      → EndsText Heard Halts rest at_end end text → EndsText Heard' Halts' rest at_end end text
  text_by rest at_end ReadFault hears halts text ends =
      record { begins = ends.begins; heard = hears refl _ ends.heard }
  text_by rest at_end end hears halts text ends =
      either_by at_end rest end hears halts text ends

-- If a box that had taken some ticks was stopped then, the reading ended with that, wherever it had
-- ended before.
module _ (Heard Heard' : List Tick → Type 0) (Halts Halts' : Stop → List Tick → Type 0) (stop : Stop)
    (stops : (line more : List Tick) → Heard line → Halts' stop (line ++ more)) where
  stops_at : (line : List Tick) → Heard line → Halts' stop line
  stops_at line heard = subst (Halts' stop) (append-nil line) (stops line [] heard)

  -- the box was stopped behind the earlier of some items
  stops_earlier : (count : ℕ) (items : List Item) → HasTooManyTicks Heard Halts count items
      → (more : List Tick) → Halts' stop (ticks_in items ++ more)
  stops_earlier count items ends more =
      let all : ticks_in ends.earlier ++ (ticks_in ends.last ++ more) ≡ ticks_in items ++ more =
      sym (append_assoc (ticks_in ends.earlier) (ticks_in ends.last) more)
      ∙ ap (λ l. l ++ more) (sym (ap ticks_in ends.are ∙ ticks_in-append ends.earlier ends.last)) in
      subst (Halts' stop) all (stops (ticks_in ends.earlier) (ticks_in ends.last ++ more) ends.heard)

  stopped_behind : (end : End) → has_stopped end ≡ false → (front later : List ℕ)
      → EndsBehind Heard Halts end front later → Halts' stop (ticks_in (ended_items front))
  stopped_behind (TooLong Ticks count) goes front later ends =
      subst (Halts' stop) (append-nil (ticks_in (ended_items front)))
      (stops_earlier count (ended_items front) ends [])
  stopped_behind (Stopped other) goes front later ends = absurd (no_true goes)
  stopped_behind Whole goes front later ends = absurd ends
  stopped_behind ReadFault goes front later ends = absurd ends
  stopped_behind end goes front later ends = stops_at _ ends.heard

  pub within_stopped : (end : End) → has_stopped end ≡ false → (text : List ℕ)
      → EndsWithin Heard Halts end text → EndsWithin Heard' Halts' (Stopped stop) text
  within_stopped end goes text ends = record {
    front = ends.front;
    later = ends.later;
    is = ends.is;
    begins = ends.begins;
    ends = stopped_behind end goes ends.front ends.later ends.ends;
  }

  pub last_stopped : (rest : ℕ) (end : End) → has_stopped end ≡ false → (text : List ℕ)
      → EndsAtLast Heard Halts rest end text
      → EndsWithin Heard' Halts' (Stopped stop) text
      ⊎ EndsAtLast Heard' Halts' rest (Stopped stop) text
  last_stopped rest Whole goes text ends = inr (record {
    items = ends.items;
    right = ends.right;
    holds = stops_at _ ends.holds;
  })
  last_stopped rest (Refused bad) goes text ends = inl (record {
    front = text;
    later = [];
    is = sym (append-nil text);
    begins = ends.refused.begins;
    ends = stops_at _ ends.heard;
  })
  last_stopped rest (TooLong Ticks count) goes text ends = inr (record {
    items = ends.items;
    right = ends.right;
    holds = stops_earlier count ends.items ends.holds (silent rest);
  })
  last_stopped rest (Stopped other) goes text ends = absurd (no_true goes)
  last_stopped rest end goes text ends = absurd ends

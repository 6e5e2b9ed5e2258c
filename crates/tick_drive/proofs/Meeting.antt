-- If a reader has taken a line from the kept bytes, the line is met.
use Rattle.std.proofs.Common.{◌≡◌, ◌+◌, ◌-◌, ◌<◌, ◌≤◌, ℕ, List, length, take, drop, get_or}
use Rattle.std.proofs.Common.{Option, ap, ◌∙◌, sym, subst, arith, length-append}
use Rattle.std.{proofs.lemmas.List.length-take, specs.Io.KnownBytes.prepend_known}
use Rattle.tick_drive.{proofs.Known.text_last, proofs.Known.met_slice, specs.Intake.HasMet}
use Rattle.tick_drive.specs.{Intake.MeetsLine, Intake.lent, declared.intake.Intake.Intake}
use Rattle.yasir_io.specs.Pieces.{kept_bytes, has_ended}
use Rattle.yasir_ticks.specs.{Reader.items_of_content, Reader.lent_bytes, Slices.TakesUpTo}
use Rattle.yasir_ticks.specs.{TickText.ended_items, declared.place.Content.Content}

pub meets_line : (old new : Intake) (marks : ℕ) (before now : Option (List ℕ)) (text kept : List ℕ)
    (within n : ℕ) (content : Content)
    → HasMet old marks before now text
    → TakesUpTo old.reader (take within kept) n content new.reader
    → kept ≡ kept_bytes old.pieces
    → kept_bytes new.pieces ≡ drop n (kept_bytes old.pieces)
    → has_ended new.pieces ≡ has_ended old.pieces
    → 0 < length kept → 0 < within → within ≤ old.room → new.room + n ≡ old.room
    → MeetsLine new marks before now text (items_of_content content (lent new))
meets_line old new marks before now text kept within n content met line same rest still some least
    fits room =
    let slice = take within kept in
    let first : 0 < n = line.progress (omega (arith, length-take within kept)) in
    let whole = text_last text slice n line.within first in
    let source = subst (λ l. before ≡ prepend_known text (prepend_known l now)) (sym same)
    met.source in
    record {
      front = take (n - 1) slice;
      byte = get_or slice (n - 1) 0;
      met = subst (HasMet new marks before now) (sym whole) (record {
        stands = line.stands marks text met.stands;
        begins = line.begins marks text met.stands;
        source = met_slice before now text kept (kept_bytes new.pieces) within n line.within
            (rest ∙ ap (λ l. drop n l) (sym same)) source;
        open_end = still ∙ met.open_end;
        count = omega (
          arith,
          met.count,
          length-append text (take n slice),
          length-take n slice,
          line.within,
        );
        within = omega (
          arith,
          met.count,
          length-append text (take n slice),
          length-take n slice,
          length-take within kept,
          line.within,
        );
      });
      ended = ap ended_items whole ∙ line.items marks text met.stands;
      quiet = λ more. (line.last marks text met.stands (λ none. more (ap (λ content.
          items_of_content content (lent_bytes new.reader)) none))).1;
    }

-- What calls add to a history, and what they hand on.
use Rattle.line_texts.specs.Sending.{LineAndNotes, AnswersNoted}
use Rattle.line_commands.proofs.Histories.{told_twice, told_none}
use Rattle.line_commands.proofs.Texts.{text_then, text_as, text_nil}
use Rattle.line_commands.specs.History.{Event, History, told_then, bytes_read_before, read_by}
use Rattle.line_commands.specs.History.{written, written_by, is_flushed, flushed_from, flushed_by}
use Rattle.line_commands.specs.History.Event.{reads, writes, flushes}
use Rattle.line_commands.specs.{LiveText.IsTextOf, Order.MayCome, Order.EachMayCome}
use Rattle.line_commands.specs.Order.{IsInOrder, HasNoted, HasHandedOn, Handed, HandedFronts}
use Rattle.line_commands.specs.declared.port.Output.{Output, TheVariants.Out, TheVariants.Log}
use Rattle.std.proofs.Common.{◌≡◌, ◌∙◌, ◌⊎◌, ℕ, List, [], ◌∷◌, ◌++◌, Bool, true, false, Option}
use Rattle.std.proofs.Common.{Some, None, refl, ap, sym, subst, append-nil, append_assoc, inl, inr}
use Rattle.std.proofs.lemmas.Grind.{flat_map-append}
use Rattle.yasir_ticks.specs.{TickText.ended_items, Ticks.ticks_in, declared.tick.Tick.Tick}

-- ---- histories

pub told_more : (start now next : History) (events more : List Event)
    → now ≡ told_then start events → next ≡ told_then now more
    → next ≡ told_then start (events ++ more)
told_more start now next events more is then =
    then ∙ (ap (λ t. told_then t more) is ∙ told_twice start events more)

pub read_more : (events more : List Event) (bytes : List ℕ) → bytes_read_before more ≡ bytes
    → bytes_read_before (events ++ more) ≡ bytes_read_before events ++ bytes
read_more events more bytes is =
    flat_map-append read_by events more ∙ ap (λ l. bytes_read_before events ++ l) is

pub written_more : (to : Output) (events more : List Event) (bytes : List ℕ)
    → written to more ≡ bytes → written to (events ++ more) ≡ written to events ++ bytes
written_more to events more bytes is =
    flat_map-append (written_by to) events more ∙ ap (λ l. written to events ++ l) is

flushed_then : (to : Output) (b : Bool) (xs ys : List Event)
    → flushed_from to b (xs ++ ys) ≡ flushed_from to (flushed_from to b xs) ys
flushed_then to b [] ys = refl
flushed_then to b (x ∷ xs) ys = flushed_then to (flushed_by to b x) xs ys

pub flushed_more : (to : Output) (events more : List Event) → is_flushed to events ≡ true
    → flushed_from to true more ≡ true → is_flushed to (events ++ more) ≡ true
flushed_more to events more before then =
    flushed_then to true events more ∙ (ap (λ b. flushed_from to b more) before ∙ then)

-- ---- order

module _ (made : LineAndNotes) where
  pub each_then : (line : List Tick) (front xs ys : List Event) → EachMayCome made line front xs
      → EachMayCome made line (front ++ xs) ys → EachMayCome made line front (xs ++ ys)
  each_then line front [] ys first then =
      subst (λ f. EachMayCome made line f ys) (append-nil front) then
  each_then line front (x ∷ xs) ys first then = (
    first.0,
    each_then line (front ++ x ∷ []) xs ys first.1
        (subst (λ f. EachMayCome made line f ys) (sym (append_assoc front (x ∷ []) xs)) then),
  )

  each_behind : (line : List Tick) (front xs ys : List Event)
      → EachMayCome made line front (xs ++ ys) → EachMayCome made line (front ++ xs) ys
  each_behind line front [] ys each =
      subst (λ f. EachMayCome made line f ys) (sym (append-nil front)) each
  each_behind line front (x ∷ xs) ys each =
      subst (λ f. EachMayCome made line f ys) (append_assoc front (x ∷ []) xs)
      (each_behind line (front ++ x ∷ []) xs ys each.1)

  pub ordered : (line : List Tick) (events : List Event) → EachMayCome made line [] events
      → IsInOrder made line events
  ordered line events each before after event is =
      (each_behind line [] before (event ∷ after)
      (subst (EachMayCome made line []) is each)).0

  longer : (line run : List Tick) (before : List Event) (event : Event)
      → MayCome made line before event → MayCome made (line ++ run) before event
  longer line run before (reads got) may = may
  longer line run before (writes Out bytes) may = record {
    early = may.early;
    later = may.later ++ run;
    is = ap (λ l. l ++ run) may.is ∙ append_assoc may.early may.later run;
    rest = may.rest;
    text = may.text;
    notes = may.notes;
    flushed = may.flushed;
  }
  longer line run before event may = tt

  pub each_longer : (line run : List Tick) (front events : List Event)
      → EachMayCome made line front events → EachMayCome made (line ++ run) front events
  each_longer line run front [] each = tt
  each_longer line run front (x ∷ xs) each =
      (longer line run front x each.0, each_longer line run (front ++ x ∷ []) xs each.1)

-- ---- what follows a write that failed

record IsQuiet (more : List Event) : Type 0 where
  read : bytes_read_before more ≡ []
  out : written Out more ≡ []
  log : written Log more ≡ []
  each : (made : LineAndNotes) (line : List Tick) (front : List Event)
      → EachMayCome made line front more

quiet_of : (to : Output) (more : List Event) → (more ≡ []) ⊎ (more ≡ flushes to false ∷ [])
    → IsQuiet more
quiet_of to more (inl is) = subst IsQuiet (sym is)
    (record { read = refl; out = refl; log = refl; each = λ made line front. tt })
quiet_of Out more (inr is) = subst IsQuiet (sym is)
    (record { read = refl; out = refl; log = refl; each = λ made line front. (tt, tt) })
quiet_of Log more (inr is) = subst IsQuiet (sym is)
    (record { read = refl; out = refl; log = refl; each = λ made line front. (tt, tt) })

-- ---- what is returned for one run

module _ (made : LineAndNotes) (start : History) (read : List ℕ) (line run answer : List Tick)
    (note text : List ℕ) (answers : AnswersNoted made line run answer note)
    (text_is : IsTextOf text answer) where
  -- The note was written and flushed.
  pub record Noted (now : History) : Type 0 where
    pub events : List Event
    pub is : now ≡ told_then start events
    pub read_is : bytes_read_before events ≡ read
    pub out : IsTextOf (written Out events) (made.other_line line)
    pub notes : written Log events ≡ made.note_lines (line ++ run)
    pub out_flushed : is_flushed Out events ≡ true
    pub log_flushed : is_flushed Log events ≡ true
    pub in_order : EachMayCome made (line ++ run) [] events

  pub noted_none : (now : History) → note ≡ [] → Handed made start now read line
      → Noted now
  noted_none now none handed = record {
    events = handed.events;
    is = handed.is;
    read_is = handed.read_is;
    out = handed.text;
    notes = handed.notes ∙ (sym (append-nil (made.note_lines line))
        ∙ (ap (λ l. made.note_lines line ++ l) (sym none) ∙ sym answers.note_is));
    out_flushed = handed.out_flushed;
    log_flushed = handed.log_flushed;
    in_order = each_longer made line run [] handed.events handed.in_order;
  }

  pub noted_sent : (now next : History) → Handed made start now read line
      → next ≡ told_then now (writes Log note ∷ flushes Log true ∷ []) → Noted next
  noted_sent now next handed then =
      let more : List Event = writes Log note ∷ flushes Log true ∷ [] in
      let events : List Event = handed.events in
      record {
        events = events ++ more;
        is = told_more start now next events more handed.is then;
        read_is = read_more events more [] refl ∙ (append-nil (bytes_read_before events) ∙ handed.read_is);
        out = text_as (written Out events) (written Out (events ++ more)) (made.other_line line)
            (made.other_line line)
            (sym (written_more Out events more [] refl ∙ append-nil (written Out events))) refl
            handed.text;
        notes = written_more Log events more note (append-nil note)
            ∙ (ap (λ l. l ++ note) handed.notes ∙ sym answers.note_is);
        out_flushed = flushed_more Out events more handed.out_flushed refl;
        log_flushed = flushed_more Log events more handed.log_flushed refl;
        in_order = each_then made (line ++ run) [] events more
            (each_longer made line run [] events handed.in_order) (tt, (tt, tt));
      }

  all_text : (written_so : List ℕ) → IsTextOf written_so (made.other_line line)
      → IsTextOf (written_so ++ text) (made.other_line (line ++ run))
  all_text written_so is = text_as (written_so ++ text) (written_so ++ text)
      (made.other_line line ++ answer) (made.other_line (line ++ run)) refl
      (sym answers.ticks_are) (text_then written_so text (made.other_line line) answer is text_is)

  -- Only a front of the note was written, or its flush failed.
  pub noted_cut : (now next : History) (front rest : List ℕ) (more : List Event)
      → note ≡ front ++ rest → (more ≡ []) ⊎ (more ≡ flushes Log false ∷ [])
      → Handed made start now read line → next ≡ told_then now (writes Log front ∷ more)
      → HandedFronts made start next read (line ++ run)
  noted_cut now next front rest more is tail handed then =
      let quiet : IsQuiet more = quiet_of Log more tail in
      let events : List Event = handed.events in
      let added : List Event = writes Log front ∷ more in
      record {
        events = events ++ added;
        is = told_more start now next events added handed.is then;
        read_is = read_more events added [] quiet.read
            ∙ (append-nil (bytes_read_before events) ∙ handed.read_is);
        out_rest = text;
        text = text_as (written Out events ++ text) (written Out (events ++ added) ++ text)
            (made.other_line (line ++ run)) (made.other_line (line ++ run))
            (ap (λ l. l ++ text) (sym (written_more Out events added [] quiet.out
            ∙ append-nil (written Out events)))) refl (all_text (written Out events) handed.text);
        log_rest = rest;
        notes = ap (λ l. l ++ rest) (written_more Log events added front
            (ap (λ l. front ++ l) quiet.log ∙ append-nil front))
            ∙ (append_assoc (written Log events) front rest
            ∙ (ap (λ l. written Log events ++ l) (sym is)
            ∙ (ap (λ l. l ++ note) handed.notes ∙ sym answers.note_is)));
        in_order = each_then made (line ++ run) [] events added
            (each_longer made line run [] events handed.in_order)
            (tt, quiet.each made (line ++ run) (events ++ writes Log front ∷ []));
      }

  may_write : (noted_events : List Event) (front rest : List ℕ) → text ≡ front ++ rest
      → IsTextOf (written Out noted_events) (made.other_line line)
      → written Log noted_events ≡ made.note_lines (line ++ run)
      → is_flushed Log noted_events ≡ true → HasNoted made (line ++ run) noted_events front
  may_write noted_events front rest is out notes flushed = record {
    early = line ++ run;
    later = [];
    is = sym (append-nil (line ++ run));
    rest = rest;
    text = text_as (written Out noted_events ++ text)
        ((written Out noted_events ++ front) ++ rest) (made.other_line (line ++ run))
        (made.other_line (line ++ run))
        (ap (λ l. written Out noted_events ++ l) is
        ∙ sym (append_assoc (written Out noted_events) front rest)) refl
        (all_text (written Out noted_events) out);
    notes = notes;
    flushed = flushed;
  }

  -- The note was handed on. Only a front of the text was written, or its flush failed.
  pub text_cut : (now next : History) (front rest : List ℕ) (more : List Event)
      → text ≡ front ++ rest → (more ≡ []) ⊎ (more ≡ flushes Out false ∷ [])
      → Noted now → next ≡ told_then now (writes Out front ∷ more)
      → HandedFronts made start next read (line ++ run)
  text_cut now next front rest more is tail noted then =
      let quiet : IsQuiet more = quiet_of Out more tail in
      let events : List Event = noted.events in
      let added : List Event = writes Out front ∷ more in
      record {
        events = events ++ added;
        is = told_more start now next events added noted.is then;
        read_is = read_more events added [] quiet.read
            ∙ (append-nil (bytes_read_before events) ∙ noted.read_is);
        out_rest = rest;
        text = text_as (written Out events ++ text) (written Out (events ++ added) ++ rest)
            (made.other_line (line ++ run)) (made.other_line (line ++ run))
            (ap (λ l. written Out events ++ l) is
            ∙ (sym (append_assoc (written Out events) front rest)
            ∙ ap (λ l. l ++ rest) (sym (written_more Out events added front
            (ap (λ l. front ++ l) quiet.out ∙ append-nil front))))) refl
            (all_text (written Out events) noted.out);
        log_rest = [];
        notes = append-nil (written Log (events ++ added))
            ∙ (written_more Log events added [] quiet.log
            ∙ (append-nil (written Log events) ∙ noted.notes));
        in_order = each_then made (line ++ run) [] events added noted.in_order (
          may_write events front rest is noted.out noted.notes noted.log_flushed,
          quiet.each made (line ++ run) (events ++ writes Out front ∷ []),
        );
      }

  pub text_sent : (now next : History) → Noted now
      → next ≡ told_then now (writes Out text ∷ flushes Out true ∷ [])
      → Handed made start next read (line ++ run)
  text_sent now next noted then =
      let more : List Event = writes Out text ∷ flushes Out true ∷ [] in
      let events : List Event = noted.events in
      record {
        events = events ++ more;
        is = told_more start now next events more noted.is then;
        read_is = read_more events more [] refl ∙ (append-nil (bytes_read_before events) ∙ noted.read_is);
        text = text_as (written Out events ++ text) (written Out (events ++ more))
            (made.other_line (line ++ run)) (made.other_line (line ++ run))
            (sym (written_more Out events more text (append-nil text))) refl
            (all_text (written Out events) noted.out);
        notes = written_more Log events more [] refl
            ∙ (append-nil (written Log events) ∙ noted.notes);
        out_flushed = flushed_more Out events more noted.out_flushed refl;
        log_flushed = flushed_more Log events more noted.log_flushed refl;
        in_order = each_then made (line ++ run) [] events more noted.in_order (
          may_write events text [] (sym (append-nil text)) noted.out noted.notes
              noted.log_flushed,
          (tt, tt),
        );
      }

  -- There is no text.
  pub text_none : (now : History) → text ≡ [] → Noted now
      → Handed made start now read (line ++ run)
  text_none now none noted = record {
    events = noted.events;
    is = noted.is;
    read_is = noted.read_is;
    text = text_as (written Out noted.events ++ text) (written Out noted.events)
        (made.other_line (line ++ run)) (made.other_line (line ++ run))
        (ap (λ l. written Out noted.events ++ l) none ∙ append-nil (written Out noted.events)) refl
        (all_text (written Out noted.events) noted.out);
    notes = noted.notes;
    out_flushed = noted.out_flushed;
    log_flushed = noted.log_flushed;
    in_order = noted.in_order;
  }

-- ---- nothing yet

pub handed_none : (made : LineAndNotes) (start : History) → made.other_line [] ≡ []
    → made.note_lines [] ≡ [] → Handed made start start [] []
handed_none made start no_tick no_note = record {
  events = [];
  is = told_none start;
  read_is = refl;
  text = text_as [] [] [] (made.other_line []) refl (sym no_tick) text_nil;
  notes = sym no_note;
  out_flushed = refl;
  log_flushed = refl;
  in_order = tt;
}

-- ---- a read

module _ (made : LineAndNotes) (start now next : History) (read : List ℕ)
    (handed : Handed made start now read (ticks_in (ended_items read))) where
  all_handed : HasHandedOn made handed.events
  all_handed =
      let line : ticks_in (ended_items read) ≡ ticks_in (ended_items (bytes_read_before handed.events)) =
      ap (λ l. ticks_in (ended_items l)) (sym handed.read_is) in
      record {
        text = text_as (written Out handed.events) (written Out handed.events)
            (made.other_line (ticks_in (ended_items read)))
            (made.other_line (ticks_in (ended_items (bytes_read_before handed.events)))) refl
            (ap made.other_line line) handed.text;
        notes = handed.notes ∙ ap made.note_lines line;
        out_flushed = handed.out_flushed;
        log_flushed = handed.log_flushed;
      }

  abbrev added_read : Option (List ℕ) → List Event
  added_read got = handed.events ++ reads got ∷ []

  read_handed : (got : Option (List ℕ)) (bytes : List ℕ) → read_by (reads got) ≡ bytes
      → next ≡ told_then now (reads got ∷ [])
      → Handed made start next (read ++ bytes) (ticks_in (ended_items read))
  read_handed got bytes is then =
      let more : List Event = reads got ∷ [] in
      let events : List Event = handed.events in
      record {
        events = events ++ more;
        is = told_more start now next events more handed.is then;
        read_is = read_more events more bytes (append-nil (read_by (reads got)) ∙ is)
            ∙ ap (λ l. l ++ bytes) handed.read_is;
        text = text_as (written Out events) (written Out (events ++ more))
            (made.other_line (ticks_in (ended_items read)))
            (made.other_line (ticks_in (ended_items read)))
            (sym (written_more Out events more [] refl ∙ append-nil (written Out events))) refl
            handed.text;
        notes = written_more Log events more [] refl
            ∙ (append-nil (written Log events) ∙ handed.notes);
        out_flushed = flushed_more Out events more handed.out_flushed refl;
        log_flushed = flushed_more Log events more handed.log_flushed refl;
        in_order = each_then made (ticks_in (ended_items read)) [] events more handed.in_order
            (all_handed, tt);
      }

  pub read_some : (bytes : List ℕ) → next ≡ told_then now (reads (Some bytes) ∷ [])
      → Handed made start next (read ++ bytes) (ticks_in (ended_items read))
  read_some bytes then = read_handed (Some bytes) bytes refl then

  pub read_failed : next ≡ told_then now (reads None ∷ [])
      → Handed made start next read (ticks_in (ended_items read))
  read_failed then = subst (λ l. Handed made start next l (ticks_in (ended_items read)))
      (append-nil read) (read_handed None [] refl then)

pub handed_in_order : (made : LineAndNotes) (start now : History) (read : List ℕ)
    (line : List Tick) → Handed made start now read line
    → (events : List Event) × (now ≡ told_then start events) × IsInOrder made line events
handed_in_order made start now read line handed =
    (handed.events, handed.is, ordered made line handed.events handed.in_order)

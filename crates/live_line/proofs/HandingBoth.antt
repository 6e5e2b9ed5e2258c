-- What calls add to a history of both ways, and what they hand on.
use Rattle.line_commands.proofs.Handing.{told_more, read_more, written_more, flushed_more}
use Rattle.line_commands.proofs.Texts.{text_as}
use Rattle.line_commands.specs.History.{Event, History, told_then, bytes_read_before, read_by, written}
use Rattle.line_commands.specs.History.{is_flushed, flushed_from}
use Rattle.line_commands.specs.History.Event.{reads, writes, flushes}
use Rattle.line_commands.specs.LiveText.{IsTextOf}
use Rattle.line_commands.specs.declared.port.Output.{Output, TheVariants.Out, TheVariants.Log}
use Rattle.line_texts.specs.Sending.{LineAndNotes}
use Rattle.live_line.proofs.Growing.{grows}
use Rattle.live_line.specs.BothWays.{grown, HasNotedBoth, MayComeBoth, EachMayComeBoth, HandedBoth}
use Rattle.live_line.specs.BothWays.{IsInOrderBoth, HasHandedOnBoth, lines_in}
use Rattle.live_line.specs.SentBoth.{joined, sent_pieces}
use Rattle.live_line.specs.WayText.{text_on}
use Rattle.live_line.specs.declared.ways.Way.{Way, TheVariants.Outgoing, TheVariants.Incoming}
use Rattle.std.proofs.Common.{◌≡◌, ◌≢◌, ◌∙◌, ◌⊎◌, ℕ, List, [], ◌∷◌, ◌++◌, true, false, refl, ap, sym}
use Rattle.std.proofs.Common.{append-nil, append_assoc, inl, inr, Option, Some, None, subst}
use Rattle.yasir_ticks.specs.{TickText.lines_of, declared.tick.Tick.Tick}

pub same_way : (way other : Way) → (other ≡ way) ⊎ (other ≢ way)
same_way Outgoing Outgoing = inl refl
same_way Outgoing Incoming = inr (λ e. cc)
same_way Incoming Outgoing = inr (λ e. cc)
same_way Incoming Incoming = inl refl

pub grown_own : (lines : Way → List Tick) (way : Way) (run : List Tick)
    → grown lines way run way ≡ lines way ++ run
grown_own lines Outgoing run = refl
grown_own lines Incoming run = refl

pub grown_other : (lines : Way → List Tick) (way : Way) (run : List Tick) (other : Way) → other ≢ way
    → grown lines way run other ≡ lines other
grown_other lines Outgoing run Outgoing apart = absurd (apart refl)
grown_other lines Outgoing run Incoming apart = refl
grown_other lines Incoming run Outgoing apart = refl
grown_other lines Incoming run Incoming apart = absurd (apart refl)

grown_by : (lines : Way → List Tick) (way : Way) (run : List Tick) (other : Way)
    → (more : List Tick) × (grown lines way run other ≡ lines other ++ more)
grown_by lines way run other = elim (same_way way other) [
  | inl is ↦ (run, subst (λ w. grown lines way run w ≡ lines w ++ run) (sym is) (grown_own lines way run))
  | inr apart ↦ ([], grown_other lines way run other apart ∙ sym (append-nil (lines other)))
]

-- a value for one way, and another one for the other
abbrev pub at_way : {A : Type 0} → Way → A → A → Way → A
at_way Outgoing own beside Outgoing = own
at_way Outgoing own beside Incoming = beside
at_way Incoming own beside Outgoing = beside
at_way Incoming own beside Incoming = own

pub at_own : {A : Type 0} (way : Way) (own beside : A) → at_way way own beside way ≡ own
at_own Outgoing own beside = refl
at_own Incoming own beside = refl

pub at_other : {A : Type 0} (way : Way) (own beside : A) (other : Way) → other ≢ way
    → at_way way own beside other ≡ beside
at_other Outgoing own beside Outgoing apart = absurd (apart refl)
at_other Outgoing own beside Incoming apart = refl
at_other Incoming own beside Outgoing apart = refl
at_other Incoming own beside Incoming apart = absurd (apart refl)

-- ---- order

module _ (made : Way → LineAndNotes) where
  pub each_then : (lines : Way → List Tick) (front xs ys : List Event)
      → EachMayComeBoth made lines front xs → EachMayComeBoth made lines (front ++ xs) ys
      → EachMayComeBoth made lines front (xs ++ ys)
  each_then lines front [] ys first then =
      subst (λ f. EachMayComeBoth made lines f ys) (append-nil front) then
  each_then lines front (x ∷ xs) ys first then = (
    first.0,
    each_then lines (front ++ x ∷ []) xs ys first.1
        (subst (λ f. EachMayComeBoth made lines f ys) (sym (append_assoc front (x ∷ []) xs)) then),
  )

  each_behind : (lines : Way → List Tick) (front xs ys : List Event)
      → EachMayComeBoth made lines front (xs ++ ys) → EachMayComeBoth made lines (front ++ xs) ys
  each_behind lines front [] ys each =
      subst (λ f. EachMayComeBoth made lines f ys) (sym (append-nil front)) each
  each_behind lines front (x ∷ xs) ys each =
      subst (λ f. EachMayComeBoth made lines f ys) (append_assoc front (x ∷ []) xs)
      (each_behind lines (front ++ x ∷ []) xs ys each.1)

  ordered : (lines : Way → List Tick) (events : List Event) → EachMayComeBoth made lines [] events
      → IsInOrderBoth made lines events
  ordered lines events each before after event is =
      (each_behind lines [] before (event ∷ after)
      (subst (EachMayComeBoth made lines []) is each)).0

  longer : (lines : Way → List Tick) (way : Way) (run : List Tick) (before : List Event) (event : Event)
      → MayComeBoth made lines before event → MayComeBoth made (grown lines way run) before event
  longer lines way run before (reads got) may = may
  longer lines way run before (writes Out bytes) may = record {
    early = may.early;
    later = λ other. may.later other ++ (grown_by lines way run other).0;
    is = λ other. (grown_by lines way run other).1
        ∙ (ap (λ l. l ++ (grown_by lines way run other).0) (may.is other)
        ∙ append_assoc (may.early other) (may.later other) (grown_by lines way run other).0);
    rest = may.rest;
    text = may.text;
    notes = may.notes;
    flushed = may.flushed;
  }
  longer lines way run before (writes Log bytes) may = tt
  longer lines way run before (flushes to well) may = tt

  pub each_longer : (lines : Way → List Tick) (way : Way) (run : List Tick) (front events : List Event)
      → EachMayComeBoth made lines front events
      → EachMayComeBoth made (grown lines way run) front events
  each_longer lines way run front [] each = tt
  each_longer lines way run front (x ∷ xs) each =
      (longer lines way run front x each.0, each_longer lines way run (front ++ x ∷ []) xs each.1)

-- ---- pieces

pub read_pieces : (to : Output) (pieces : List (List ℕ)) → bytes_read_before (sent_pieces to pieces) ≡ []
read_pieces to [] = refl
read_pieces to (piece ∷ pieces) = read_pieces to pieces

pub written_pieces : (to : Output) (pieces : List (List ℕ))
    → written to (sent_pieces to pieces) ≡ joined pieces
written_pieces Out [] = refl
written_pieces Out (piece ∷ pieces) = ap (λ l. piece ++ l) (written_pieces Out pieces)
written_pieces Log [] = refl
written_pieces Log (piece ∷ pieces) = ap (λ l. piece ++ l) (written_pieces Log pieces)

pub beside_pieces : (to other : Output) (pieces : List (List ℕ)) → other ≢ to
    → written other (sent_pieces to pieces) ≡ []
beside_pieces to other [] apart = refl
beside_pieces Out Out (piece ∷ pieces) apart = absurd (apart refl)
beside_pieces Out Log (piece ∷ pieces) apart = beside_pieces Out Log pieces apart
beside_pieces Log Out (piece ∷ pieces) apart = beside_pieces Log Out pieces apart
beside_pieces Log Log (piece ∷ pieces) apart = absurd (apart refl)

pub flushed_pieces : (to other : Output) (pieces : List (List ℕ))
    → flushed_from other true (sent_pieces to pieces) ≡ true
flushed_pieces to other [] = refl
flushed_pieces Out Out (piece ∷ pieces) = flushed_pieces Out Out pieces
flushed_pieces Out Log (piece ∷ pieces) = flushed_pieces Out Log pieces
flushed_pieces Log Out (piece ∷ pieces) = flushed_pieces Log Out pieces
flushed_pieces Log Log (piece ∷ pieces) = flushed_pieces Log Log pieces

-- a flush that failed, or no call
pub record IsQuiet (more : List Event) : Type 0 where
  pub read : bytes_read_before more ≡ []
  pub writes_none : (to : Output) → written to more ≡ []
  pub each : (made : Way → LineAndNotes) (lines : Way → List Tick) (front : List Event)
      → EachMayComeBoth made lines front more

pub quiet_of : (to : Output) (more : List Event) → (more ≡ []) ⊎ (more ≡ flushes to false ∷ [])
    → IsQuiet more
quiet_of to more tail = elim tail [
  | inl is ↦ subst IsQuiet (sym is) (record {
    read = refl;
    writes_none = λ other. refl;
    each = λ made lines front. tt;
  })
  | inr is ↦ subst IsQuiet (sym is) (record {
    read = refl;
    writes_none = none;
    each = λ made lines front. (tt, tt);
  })
]
  where
    none : (other : Output) → written other (flushes to false ∷ []) ≡ []
    none Out = refl
    none Log = refl

-- Log pieces may always come.
pub notes_come : (made : Way → LineAndNotes) (lines : Way → List Tick) (front : List Event)
    (pieces : List (List ℕ)) → EachMayComeBoth made lines front (sent_pieces Log pieces)
notes_come made lines front [] = tt
notes_come made lines front (piece ∷ pieces) = (
  tt,
  (
    tt,
    notes_come made lines ((front ++ writes Log piece ∷ []) ++ flushes Log true ∷ []) pieces,
  ),
)

-- ---- texts of both ways that go out in pieces

module _ (made : Way → LineAndNotes) (lines : Way → List Tick) (wrote whole logged : List ℕ)
    (lacks : Way → List ℕ)
    (text : (way : Way) → IsTextOf (text_on way (wrote ++ whole) ++ lacks way)
    ((made way).other_line (lines way)))
    (notes : (way : Way) → text_on way logged ≡ (made way).note_lines (lines way)) where
  -- The bytes that were written are a front of `wrote ++ whole`, and all notes are flushed.
  pub record Goes (events : List Event) (done left : List ℕ) : Type 0 where
    pub out : written Out events ≡ wrote ++ done
    pub is : whole ≡ done ++ left
    pub log : written Log events ≡ logged
    pub flushed : is_flushed Log events ≡ true

  pub may_put : (events : List Event) (done piece left : List ℕ) → Goes events done (piece ++ left)
      → HasNotedBoth made lines events piece
  may_put events done piece left goes =
      let front : List ℕ = written Out events ++ piece in
      let all : wrote ++ whole ≡ front ++ left =
      ap (λ l. wrote ++ l) (goes.is ∙ sym (append_assoc done piece left))
      ∙ (sym (append_assoc wrote (done ++ piece) left)
      ∙ ap (λ l. l ++ left) (sym (append_assoc wrote done piece)
      ∙ ap (λ l. l ++ piece) (sym goes.out))) in
      record {
        early = lines;
        later = λ way. [];
        is = λ way. sym (append-nil (lines way));
        rest = λ way. (grows way (written Out events ++ piece) left).more ++ lacks way;
        text = λ way. text_as (text_on way (wrote ++ whole) ++ lacks way)
            (text_on way (written Out events ++ piece)
            ++ ((grows way (written Out events ++ piece) left).more ++ lacks way))
            ((made way).other_line (lines way)) ((made way).other_line (lines way))
            (ap (λ l. l ++ lacks way) (ap (text_on way) all
            ∙ (grows way (written Out events ++ piece) left).is)
            ∙ append_assoc (text_on way (written Out events ++ piece))
            (grows way (written Out events ++ piece) left).more (lacks way)) refl (text way);
        notes = λ way. ap (text_on way) goes.log ∙ notes way;
        flushed = goes.flushed;
      }

  goes_further : (events : List Event) (done piece left : List ℕ) → Goes events done (piece ++ left)
      → Goes ((events ++ writes Out piece ∷ []) ++ flushes Out true ∷ []) (done ++ piece) left
  goes_further events done piece left goes =
      let more : List Event = writes Out piece ∷ flushes Out true ∷ [] in
      let as_one : (events ++ writes Out piece ∷ []) ++ flushes Out true ∷ [] ≡ events ++ more =
      append_assoc events (writes Out piece ∷ []) (flushes Out true ∷ []) in
      subst (λ e. Goes e (done ++ piece) left) (sym as_one) (record {
        out = written_more Out events more piece (append-nil piece)
            ∙ (ap (λ l. l ++ piece) goes.out ∙ append_assoc wrote done piece);
        is = goes.is ∙ sym (append_assoc done piece left);
        log = written_more Log events more [] refl ∙ (append-nil (written Log events) ∙ goes.log);
        flushed = flushed_more Log events more goes.flushed refl;
      })

  pub each_put : (events : List Event) (done : List ℕ) (pieces : List (List ℕ)) (left : List ℕ)
      → Goes events done (joined pieces ++ left)
      → EachMayComeBoth made lines events (sent_pieces Out pieces)
  each_put events done [] left goes = tt
  each_put events done (piece ∷ pieces) left goes =
      let here : Goes events done (piece ++ (joined pieces ++ left)) = record {
        out = goes.out;
        is = goes.is ∙ ap (λ l. done ++ l) (append_assoc piece (joined pieces) left);
        log = goes.log;
        flushed = goes.flushed;
      } in (
        may_put events done piece (joined pieces ++ left) here,
        (
          tt,
          each_put ((events ++ writes Out piece ∷ []) ++ flushes Out true ∷ []) (done ++ piece)
              pieces left (goes_further events done piece (joined pieces ++ left) here),
        ),
      )

pub handed_in_order : (made : Way → LineAndNotes) (start now : History) (read : List ℕ)
    (lines : Way → List Tick) → HandedBoth made start now read lines
    → (events : List Event) × (now ≡ told_then start events) × IsInOrderBoth made lines events
handed_in_order made start now read lines handed =
    (handed.events, handed.is, ordered made lines handed.events handed.in_order)

-- ---- a read

module _ (made : Way → LineAndNotes) (start now next : History) (read : List ℕ)
    (handed : HandedBoth made start now read (lines_in read)) where
  ticks_are : (way : Way) → lines_in read way ≡ lines_in (bytes_read_before handed.events) way
  ticks_are way = ap (λ l. lines_in l way) (sym handed.read_is)

  all_handed : HasHandedOnBoth made handed.events
  all_handed = record {
    text = λ way. text_as (text_on way (written Out handed.events))
        (text_on way (written Out handed.events)) ((made way).other_line (lines_in read way))
        ((made way).other_line (lines_in (bytes_read_before handed.events) way)) refl
        (ap (λ l. (made way).other_line l) (ticks_are way)) (handed.text way);
    notes = λ way. handed.notes way ∙ ap (λ l. (made way).note_lines l) (ticks_are way);
    out_flushed = handed.out_flushed;
    log_flushed = handed.log_flushed;
  }

  read_handed : (got : Option (List ℕ)) (bytes : List ℕ) → read_by (reads got) ≡ bytes
      → next ≡ told_then now (reads got ∷ [])
      → HandedBoth made start next (read ++ bytes) (lines_in read)
  read_handed got bytes is then =
      let more : List Event = reads got ∷ [] in
      let events : List Event = handed.events in
      let same_out : written Out (events ++ more) ≡ written Out events =
      written_more Out events more [] refl ∙ append-nil (written Out events) in
      let same_log : written Log (events ++ more) ≡ written Log events =
      written_more Log events more [] refl ∙ append-nil (written Log events) in
      record {
        events = events ++ more;
        is = told_more start now next events more handed.is then;
        read_is = read_more events more bytes (append-nil (read_by (reads got)) ∙ is)
            ∙ ap (λ l. l ++ bytes) handed.read_is;
        text = λ way. subst (λ l. IsTextOf (text_on way l) ((made way).other_line (lines_in read way)))
            (sym same_out) (handed.text way);
        notes = λ way. ap (text_on way) same_log ∙ handed.notes way;
        out_ended = ap (λ l. (lines_of l).last) same_out ∙ handed.out_ended;
        log_ended = ap (λ l. (lines_of l).last) same_log ∙ handed.log_ended;
        out_flushed = flushed_more Out events more handed.out_flushed refl;
        log_flushed = flushed_more Log events more handed.log_flushed refl;
        in_order = each_then made (lines_in read) [] events more handed.in_order (all_handed, tt);
      }

  pub read_some : (bytes : List ℕ) → next ≡ told_then now (reads (Some bytes) ∷ [])
      → HandedBoth made start next (read ++ bytes) (lines_in read)
  read_some bytes then = read_handed (Some bytes) bytes refl then

  pub read_failed : next ≡ told_then now (reads None ∷ [])
      → HandedBoth made start next read (lines_in read)
  read_failed then = subst (λ l. HandedBoth made start next l (lines_in read)) (append-nil read)
      (read_handed None [] refl then)

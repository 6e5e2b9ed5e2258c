-- What calls that write a text of one way hand on.
use Rattle.line_commands.proofs.Handing.{told_more, read_more, written_more, flushed_more}
use Rattle.line_commands.proofs.Texts.{text_then, text_as}
use Rattle.line_commands.specs.History.{Event, History, told_then, bytes_read_before, written}
use Rattle.line_commands.specs.History.{is_flushed}
use Rattle.line_commands.specs.History.Event.{writes, flushes}
use Rattle.line_commands.specs.LiveText.{IsTextOf}
use Rattle.line_commands.specs.declared.port.Output.{TheVariants.Out, TheVariants.Log}
use Rattle.line_texts.specs.Sending.{LineAndNotes, AnswersNoted}
use Rattle.live_line.proofs.HandingBoth.{same_way, grown_own, grown_other, at_way, at_own, at_other}
use Rattle.live_line.proofs.HandingBoth.{each_then, each_longer, read_pieces, written_pieces}
use Rattle.live_line.proofs.HandingBoth.{beside_pieces, flushed_pieces, IsQuiet, quiet_of, notes_come}
use Rattle.live_line.proofs.HandingBoth.{Goes, may_put, each_put}
use Rattle.live_line.specs.BothWays.{grown, EachMayComeBoth, HandedBoth, HandedBothFronts}
use Rattle.live_line.specs.SentBoth.{AddsText, joined, sent_pieces}
use Rattle.live_line.specs.WayText.{text_on, AreEnded}
use Rattle.live_line.specs.declared.ways.Way.{Way}
use Rattle.std.proofs.Common.{◌≡◌, ◌≢◌, ◌∙◌, ◌⊎◌, ℕ, List, [], ◌∷◌, ◌++◌, true, false, refl, ap, sym}
use Rattle.std.proofs.Common.{append-nil, append_assoc, inl, inr, subst}
use Rattle.yasir_ticks.specs.{TickText.lines_of, declared.tick.Tick.Tick}

out_beside : Log ≢ Out
out_beside = λ e. cc

log_beside : Out ≢ Log
log_beside = λ e. cc

-- What is returned for one run of a way, `run`: these ticks of the other line and these notes.
module _ (made : Way → LineAndNotes) (start : History) (read : List ℕ) (lines : Way → List Tick)
    (way : Way) (run answer : List Tick) (note text : List ℕ)
    (answers : AnswersNoted (made way) (lines way) run answer note) (text_is : IsTextOf text answer)
  where
    abbrev longer_lines : Way → List Tick
    longer_lines = grown lines way run

    -- The notes were written and flushed.
    pub record NotedBoth (now : History) : Type 0 where
      pub events : List Event
      pub is : now ≡ told_then start events
      pub read_is : bytes_read_before events ≡ read
      pub out : (other : Way) → IsTextOf (text_on other (written Out events))
          ((made other).other_line (lines other))
      pub notes : (other : Way) → text_on other (written Log events)
          ≡ (made other).note_lines (longer_lines other)
      pub out_ended : AreEnded (written Out events)
      pub log_ended : AreEnded (written Log events)
      pub out_flushed : is_flushed Out events ≡ true
      pub log_flushed : is_flushed Log events ≡ true
      pub in_order : EachMayComeBoth made longer_lines [] events

    -- With a text that is added to a way, the notes of both ways are those of the longer lines.
    notes_with : (logged bytes front rest : List ℕ)
        → ((other : Way) → text_on other logged ≡ (made other).note_lines (lines other))
        → note ≡ front ++ rest → AddsText way logged front bytes
        → (other : Way) → text_on other (logged ++ bytes) ++ at_way way rest [] other
        ≡ (made other).note_lines (longer_lines other)
    notes_with logged bytes front rest before is adds other = elim (same_way way other) [
      | inl same ↦ subst (λ w. text_on w (logged ++ bytes) ++ at_way way rest [] w
          ≡ (made w).note_lines (longer_lines w)) (sym same)
          (ap (λ l. text_on way (logged ++ bytes) ++ l) (at_own way rest [])
          ∙ (ap (λ l. l ++ rest) adds.own ∙ (append_assoc (text_on way logged) front rest
          ∙ (ap (λ l. text_on way logged ++ l) (sym is) ∙ (ap (λ l. l ++ note) (before way)
          ∙ (sym answers.note_is ∙ ap (λ l. (made way).note_lines l) (sym (grown_own lines way run))))))))
      | inr apart ↦ ap (λ l. text_on other (logged ++ bytes) ++ l) (at_other way rest [] other apart)
          ∙ (append-nil (text_on other (logged ++ bytes)) ∙ (adds.others other apart ∙ (before other
          ∙ ap (λ l. (made other).note_lines l) (sym (grown_other lines way run other apart)))))
    ]

    -- The same of the texts of the other lines.
    text_with : (wrote bytes front rest : List ℕ)
        → ((other : Way) → IsTextOf (text_on other wrote) ((made other).other_line (lines other)))
        → text ≡ front ++ rest → AddsText way wrote front bytes
        → (other : Way) → IsTextOf (text_on other (wrote ++ bytes) ++ at_way way rest [] other)
        ((made other).other_line (longer_lines other))
    text_with wrote bytes front rest before is adds other = elim (same_way way other) [
      | inl same ↦ subst (λ w. IsTextOf (text_on w (wrote ++ bytes) ++ at_way way rest [] w)
          ((made w).other_line (longer_lines w))) (sym same)
          (text_as (text_on way wrote ++ text) (text_on way (wrote ++ bytes) ++ at_way way rest [] way)
          ((made way).other_line (lines way) ++ answer) ((made way).other_line (longer_lines way))
          (ap (λ l. text_on way wrote ++ l) is ∙ (sym (append_assoc (text_on way wrote) front rest)
          ∙ (ap (λ l. l ++ rest) (sym adds.own)
          ∙ ap (λ l. text_on way (wrote ++ bytes) ++ l) (sym (at_own way rest [])))))
          (sym answers.ticks_are ∙ ap (λ l. (made way).other_line l) (sym (grown_own lines way run)))
          (text_then (text_on way wrote) text ((made way).other_line (lines way)) answer (before way) text_is))
      | inr apart ↦ text_as (text_on other wrote)
          (text_on other (wrote ++ bytes) ++ at_way way rest [] other)
          ((made other).other_line (lines other)) ((made other).other_line (longer_lines other))
          (sym (ap (λ l. text_on other (wrote ++ bytes) ++ l) (at_other way rest [] other apart)
          ∙ (append-nil (text_on other (wrote ++ bytes)) ∙ adds.others other apart)))
          (ap (λ l. (made other).other_line l) (sym (grown_other lines way run other apart)))
          (before other)
    ]

    no_rest : (wrote : List ℕ) (other : Way) → wrote ++ at_way way [] [] other ≡ wrote
    no_rest wrote other = elim (same_way way other) [
      | inl same ↦ ap (λ l. wrote ++ l) (ap (at_way way [] []) same ∙ at_own way [] []) ∙ append-nil wrote
      | inr apart ↦ ap (λ l. wrote ++ l) (at_other way [] [] other apart) ∙ append-nil wrote
    ]

    -- ---- the notes

    module _ (now next : History) (handed : HandedBoth made start now read lines)
        (pieces : List (List ℕ)) where
      abbrev events : List Event
      events = handed.events

      pub noted_sent : AddsText way (written Log handed.events) note (joined pieces)
          → AreEnded (written Log handed.events ++ joined pieces)
          → next ≡ told_then now (sent_pieces Log pieces) → NotedBoth next
      noted_sent adds ended then =
          let more : List Event = sent_pieces Log pieces in
          let logged : written Log (events ++ more) ≡ written Log events ++ joined pieces =
          written_more Log events more (joined pieces) (written_pieces Log pieces) in
          let same : written Out (events ++ more) ≡ written Out events =
          written_more Out events more [] (beside_pieces Log Out pieces log_beside)
          ∙ append-nil (written Out events) in
          record {
            events = events ++ more;
            is = told_more start now next events more handed.is then;
            read_is = read_more events more [] (read_pieces Log pieces)
                ∙ (append-nil (bytes_read_before events) ∙ handed.read_is);
            out = λ other. subst (λ l. IsTextOf (text_on other l) ((made other).other_line (lines other)))
                (sym same) (handed.text other);
            notes = λ other. ap (text_on other) logged
                ∙ (sym (no_rest (text_on other (written Log events ++ joined pieces)) other)
                ∙ notes_with (written Log events) (joined pieces) note [] handed.notes
                (sym (append-nil note)) adds other);
            out_ended = ap (λ l. (lines_of l).last) same ∙ handed.out_ended;
            log_ended = ap (λ l. (lines_of l).last) logged ∙ ended;
            out_flushed = flushed_more Out events more handed.out_flushed (flushed_pieces Log Out pieces);
            log_flushed = flushed_more Log events more handed.log_flushed (flushed_pieces Log Log pieces);
            in_order = each_then made longer_lines [] events more
                (each_longer made lines way run [] events handed.in_order)
                (notes_come made longer_lines events pieces);
          }

      pub noted_cut : (front rest cut : List ℕ) (tail : List Event) → note ≡ front ++ rest
          → AddsText way (written Log handed.events) front (joined pieces ++ cut)
          → AddsText way (written Out handed.events) [] []
          → (tail ≡ []) ⊎ (tail ≡ flushes Log false ∷ [])
          → next ≡ told_then now (sent_pieces Log pieces ++ writes Log cut ∷ tail)
          → HandedBothFronts made start next read longer_lines
      noted_cut front rest cut tail is adds none last then =
          let quiet : IsQuiet tail = quiet_of Log tail last in
          let more : List Event = sent_pieces Log pieces ++ writes Log cut ∷ tail in
          let logged : written Log (events ++ more) ≡ written Log events ++ (joined pieces ++ cut) =
          written_more Log events more (joined pieces ++ cut)
          (written_more Log (sent_pieces Log pieces) (writes Log cut ∷ tail) cut
          (ap (λ l. cut ++ l) (quiet.writes_none Log) ∙ append-nil cut)
          ∙ ap (λ l. l ++ cut) (written_pieces Log pieces)) in
          let same : written Out (events ++ more) ≡ written Out events ++ [] =
          written_more Out events more [] (written_more Out (sent_pieces Log pieces)
          (writes Log cut ∷ tail) [] (quiet.writes_none Out)
          ∙ ap (λ l. l ++ []) (beside_pieces Log Out pieces log_beside)) in
          record {
            events = events ++ more;
            is = told_more start now next events more handed.is then;
            read_is = read_more events more [] (read_more (sent_pieces Log pieces)
                (writes Log cut ∷ tail) [] quiet.read ∙ ap (λ l. l ++ []) (read_pieces Log pieces))
                ∙ (append-nil (bytes_read_before events) ∙ handed.read_is);
            out_rest = at_way way text [];
            text = λ other. subst (λ l. IsTextOf (text_on other l ++ at_way way text [] other)
                ((made other).other_line (longer_lines other))) (sym same)
                (text_with (written Out events) [] [] text handed.text refl none other);
            log_rest = at_way way rest [];
            notes = λ other. ap (λ l. text_on other l ++ at_way way rest [] other) logged
                ∙ notes_with (written Log events) (joined pieces ++ cut) front rest handed.notes is adds other;
            in_order = each_then made longer_lines [] events more
                (each_longer made lines way run [] events handed.in_order)
                (each_then made longer_lines events (sent_pieces Log pieces) (writes Log cut ∷ tail)
                (notes_come made longer_lines events pieces) (
                  tt,
                  quiet.each made longer_lines
                      ((events ++ sent_pieces Log pieces) ++ writes Log cut ∷ []),
                ));
          }

    -- ---- the text

    module _ (now next : History) (noted : NotedBoth now) (pieces : List (List ℕ)) where
      abbrev noted_events : List Event
      noted_events = noted.events

      pub text_sent : AddsText way (written Out noted.events) text (joined pieces)
          → AreEnded (written Out noted.events ++ joined pieces)
          → next ≡ told_then now (sent_pieces Out pieces)
          → HandedBoth made start next read longer_lines
      text_sent adds ended then =
          let more : List Event = sent_pieces Out pieces in
          let wrote : written Out (noted_events ++ more) ≡ written Out noted_events ++ joined pieces =
          written_more Out noted_events more (joined pieces) (written_pieces Out pieces) in
          let same : written Log (noted_events ++ more) ≡ written Log noted_events =
          written_more Log noted_events more [] (beside_pieces Out Log pieces out_beside)
          ∙ append-nil (written Log noted_events) in
          let all : (other : Way) → IsTextOf (text_on other (written Out noted_events ++ joined pieces)
          ++ at_way way [] [] other) ((made other).other_line (longer_lines other)) =
          text_with (written Out noted_events) (joined pieces) text [] noted.out
          (sym (append-nil text)) adds in
          record {
            events = noted_events ++ more;
            is = told_more start now next noted_events more noted.is then;
            read_is = read_more noted_events more [] (read_pieces Out pieces)
                ∙ (append-nil (bytes_read_before noted_events) ∙ noted.read_is);
            text = λ other. text_as (text_on other (written Out noted_events ++ joined pieces)
                ++ at_way way [] [] other) (text_on other (written Out (noted_events ++ more)))
                ((made other).other_line (longer_lines other)) ((made other).other_line (longer_lines other))
                (no_rest (text_on other (written Out noted_events ++ joined pieces)) other
                ∙ ap (text_on other) (sym wrote)) refl (all other);
            notes = λ other. ap (text_on other) same ∙ noted.notes other;
            out_ended = ap (λ l. (lines_of l).last) wrote ∙ ended;
            log_ended = ap (λ l. (lines_of l).last) same ∙ noted.log_ended;
            out_flushed = flushed_more Out noted_events more noted.out_flushed (flushed_pieces Out Out pieces);
            log_flushed = flushed_more Log noted_events more noted.log_flushed (flushed_pieces Out Log pieces);
            in_order = each_then made longer_lines [] noted_events more noted.in_order
                (each_put made longer_lines (written Out noted_events) (joined pieces)
                (written Log noted_events) (at_way way [] []) all noted.notes noted_events [] pieces []
                (record {
                  out = sym (append-nil (written Out noted_events));
                  is = sym (append-nil (joined pieces));
                  log = refl;
                  flushed = noted.log_flushed;
                }));
          }

      pub text_cut : (front rest cut : List ℕ) (tail : List Event) → text ≡ front ++ rest
          → AddsText way (written Out noted.events) front (joined pieces ++ cut)
          → (tail ≡ []) ⊎ (tail ≡ flushes Out false ∷ [])
          → next ≡ told_then now (sent_pieces Out pieces ++ writes Out cut ∷ tail)
          → HandedBothFronts made start next read longer_lines
      text_cut front rest cut tail is adds last then =
          let quiet : IsQuiet tail = quiet_of Out tail last in
          let whole : List ℕ = joined pieces ++ cut in
          let sent : List Event = sent_pieces Out pieces in
          let more : List Event = sent_pieces Out pieces ++ writes Out cut ∷ tail in
          let wrote : written Out (noted_events ++ more) ≡ written Out noted_events ++ (joined pieces ++ cut) =
          written_more Out noted_events more (joined pieces ++ cut)
          (written_more Out (sent_pieces Out pieces) (writes Out cut ∷ tail) cut
          (ap (λ l. cut ++ l) (quiet.writes_none Out) ∙ append-nil cut)
          ∙ ap (λ l. l ++ cut) (written_pieces Out pieces)) in
          let same : written Log (noted_events ++ more) ≡ written Log noted_events =
          written_more Log noted_events more [] (written_more Log (sent_pieces Out pieces)
          (writes Out cut ∷ tail) [] (quiet.writes_none Log)
          ∙ ap (λ l. l ++ []) (beside_pieces Out Log pieces out_beside))
          ∙ append-nil (written Log noted_events) in
          let all : (other : Way) → IsTextOf (text_on other (written Out noted_events ++ (joined pieces ++ cut))
          ++ at_way way rest [] other) ((made other).other_line (longer_lines other)) =
          text_with (written Out noted_events) (joined pieces ++ cut) front rest noted.out is adds in
          let begun : Goes made longer_lines (written Out noted_events) (joined pieces ++ cut)
          (written Log noted_events) (at_way way rest []) all noted.notes noted_events []
          (joined pieces ++ cut) = record {
            out = sym (append-nil (written Out noted_events));
            is = refl;
            log = refl;
            flushed = noted.log_flushed;
          } in
          let sent_all : Goes made longer_lines (written Out noted_events) (joined pieces ++ cut)
          (written Log noted_events) (at_way way rest []) all noted.notes
          (noted_events ++ sent_pieces Out pieces) (joined pieces) (cut ++ []) = record {
            out = written_more Out noted_events sent (joined pieces) (written_pieces Out pieces);
            is = ap (λ l. joined pieces ++ l) (sym (append-nil cut));
            log = written_more Log noted_events sent [] (beside_pieces Out Log pieces out_beside)
                ∙ append-nil (written Log noted_events);
            flushed = flushed_more Log noted_events sent noted.log_flushed (flushed_pieces Out Log pieces);
          } in
          record {
            events = noted_events ++ more;
            is = told_more start now next noted_events more noted.is then;
            read_is = read_more noted_events more [] (read_more (sent_pieces Out pieces)
                (writes Out cut ∷ tail) [] quiet.read ∙ ap (λ l. l ++ []) (read_pieces Out pieces))
                ∙ (append-nil (bytes_read_before noted_events) ∙ noted.read_is);
            out_rest = at_way way rest [];
            text = λ other. subst (λ l. IsTextOf (text_on other l ++ at_way way rest [] other)
                ((made other).other_line (longer_lines other))) (sym wrote) (all other);
            log_rest = λ other. [];
            notes = λ other. append-nil (text_on other (written Log (noted_events ++ more)))
                ∙ (ap (text_on other) same ∙ noted.notes other);
            in_order = each_then made longer_lines [] noted_events more noted.in_order
                (each_then made longer_lines noted_events (sent_pieces Out pieces) (writes Out cut ∷ tail)
                (each_put made longer_lines (written Out noted_events) (joined pieces ++ cut)
                (written Log noted_events) (at_way way rest []) all noted.notes noted_events [] pieces cut
                begun) (
                  may_put made longer_lines (written Out noted_events) (joined pieces ++ cut)
                      (written Log noted_events) (at_way way rest []) all noted.notes
                      (noted_events ++ sent_pieces Out pieces) (joined pieces) cut [] sent_all,
                  quiet.each made longer_lines
                      ((noted_events ++ sent_pieces Out pieces) ++ writes Out cut ∷ []),
                ));
          }

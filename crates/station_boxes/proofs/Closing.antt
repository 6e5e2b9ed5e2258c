-- How the burst that a tick closes is judged, by the questions that the code asks in turn.
use Rattle.frame_ending.specs.SoFar.{live_bytes_so_far, start_so_far}
use Rattle.frame_ending.specs.declared.cut.Cut.{TheVariants.Closed}
use Rattle.link_format.specs.declared.tag.Mac.{Ghosts as Mac}
use Rattle.link_format.specs.Profile.{Profile}
use Rattle.line_rules.specs.declared.line_rules.LineRules.{Ghosts as LineRules}
use Rattle.link_box.specs.Sealing.Judgement.{sealed_with, unsealed}
use Rattle.seal_transmitter.proofs.Judging.{sealed-judged, spent-judged}
use Rattle.seal_transmitter.specs.Between.{IsJudged}
use Rattle.sequence_journal.specs.declared.numbers.TheConstants.{LIMIT}
use Rattle.stations.proofs.Strangers.{floor-none}
use Rattle.stations.specs.Shared.{SharedState, with_floor}
use Rattle.stations.specs.Table.{StationEntry, has_station, table_floor}
use Rattle.station_boxes.proofs.{Tables.agrees-then, Advancing.closed-heard, Advancing.seals-with}
use Rattle.station_boxes.proofs.{Hearing.hears-name, Stepping.completed}
use Rattle.station_boxes.specs.Answers.{IsNamedWhy, one_why}
use Rattle.station_boxes.specs.Between.{FailsNext, IsBetween, IsLeft, IsOfForm, IsRight, IsSealedNow, Judges}
use Rattle.station_boxes.specs.Committing.{HasCommittedAt, HasFailedAt, HasFailedNext}
use Rattle.station_boxes.specs.{Names.name_in, Served.table_of, Stands.Agrees}
use Rattle.station_boxes.specs.Walks.{HasHeard, HasText, StationSetup, stations_profile}
use Rattle.station_boxes.specs.declared.note.UnsealedStationWhy.{UnsealedStationWhy}
use Rattle.station_boxes.specs.declared.note.UnsealedStationWhy.TheVariants.{Early, Form, Station}
use Rattle.station_boxes.specs.declared.note.UnsealedStationWhy.TheVariants.{Spent}
use Rattle.station_boxes.specs.declared.sealer.StationSealer.{StationSealer}
use Rattle.station_boxes.specs.declared.station.Station.{Station as Served}
use Rattle.link_format.specs.Trailers.{bytes_unsent}
use Rattle.std.proofs.Common.{◌≡◌, ◌∙◌, ℕ, ◌+◌, ◌<◌, ◌≤◌, true, false, List, [], ◌∷◌, ◌++◌, refl}
use Rattle.std.proofs.Common.{sym, ap, subst, arith}
use Rattle.std.proofs.lemmas.Bool.{ltb-false}
use Rattle.yasir_io.specs.declared.disk.SlotDisk.{Ghosts as SlotDisk}
use Rattle.yasir_ticks.specs.declared.tick.Tick.{Tick, TheVariants.Silent}

-- The table after a number is committed agrees with the state in which it is the station's floor.
pub agrees-committed : {D : Type 0} (d : SlotDisk D) (old new : List (Served D)) (name number : ℕ)
    → HasCommittedAt d old new name number → (start : List StationEntry) (s : SharedState)
    → Agrees (table_of old) start s → (from : ℕ)
    → Agrees (table_of new) start
    (record { floors = with_floor s.floors name number; free_from = from })
agrees-committed {D = D} d old new name number has start s agrees from =
    let one = has.one in
    let O : List (Served D) → Type 0 = λ l. Agrees (table_of l) start s in
    let N : List (Served D) → Type 0 = λ l. Agrees (table_of l) start
    (record { floors = with_floor s.floors name number; free_from = from }) in
    let M : ℕ → Type 0 = λ i. Agrees (table_of (one.front ++ one.after ∷ one.back)) start
    (record { floors = with_floor s.floors i number; free_from = from }) in
    let F : ℕ → Type 0 = λ i. has_station (table_of one.front) i ≡ false in
    subst N (sym one.new_is)
    (subst M one.named
    (agrees-then one.before one.after one.front one.back has.done.keeps.name has.done.keeps.key
    (subst F (sym one.named) one.first) start s (subst O one.old_is agrees) number
    has.done.committed.floor from))

module _ {R M : Type 0} (proto : LineRules R) (macs : Mac M) (word_len : ℕ)
    (setup : StationSetup) (s : SharedState) (line : List Tick) (earliest : ℕ)
    (free_is : s.free_from ≡ earliest) where
  abbrev name : ℕ
  name = name_in setup.naming (live_bytes_so_far proto.rules line)

  form-named : (why : UnsealedStationWhy) → IsOfForm why → IsNamedWhy setup.table name why
  form-named Early form = tt
  form-named Form form = tt
  form-named Station form = absurd form
  form-named Spent form = absurd form

  pub left-form : (why : UnsealedStationWhy) → IsOfForm why
      → ((profile : Profile) (last : ℕ)
      → IsJudged profile proto.rules last earliest line (unsealed (one_why why)))
      → IsLeft proto macs word_len setup s line why
  left-form why form judged =
      let P : ℕ → Type 0 = λ f. IsJudged (stations_profile proto macs word_len setup) proto.rules
      (s.floors name) f line (unsealed (one_why why)) in
      record {
        judged = subst P (sym free_is)
            (judged (stations_profile proto macs word_len setup) (s.floors name));
        named = form-named why form;
      }

  module _ (right : IsRight proto.rules earliest line) where
    spent : s.floors name ≡ LIMIT → Judges proto macs word_len setup s line (unsealed (one_why Spent))
    spent at =
        let P : ℕ → Type 0 = λ f. IsJudged (stations_profile proto macs word_len setup) proto.rules
        (s.floors name) f line (unsealed (one_why Spent)) in
        subst P (sym free_is)
        (spent-judged (stations_profile proto macs word_len setup) proto.rules (s.floors name)
        earliest line right.late right.whole right.good at)

    -- The station that the frame names has no number left, or isn't in the table.
    pub left-spent : (now : List StationEntry) → Agrees now setup.table s
        → has_station now name ≡ true → table_floor LIMIT now name ≡ LIMIT
        → IsLeft proto macs word_len setup s line Spent
    left-spent now agrees listed at = record {
      judged = spent (sym (agrees.floors name) ∙ at);
      named = sym (agrees.listed name) ∙ listed;
    }

    pub left-unlisted : (now : List StationEntry) → Agrees now setup.table s
        → has_station now name ≡ false → IsLeft proto macs word_len setup s line Station
    left-unlisted now agrees none = record {
      judged = spent (sym (agrees.floors name) ∙ floor-none LIMIT now name none);
      named = sym (agrees.listed name) ∙ none;
    }

    -- The frame is sealed with the next number of its station.
    pub seals-next : (now : List StationEntry) → Agrees now setup.table s → (number : ℕ)
        → number ≡ table_floor LIMIT now name + 1 → table_floor LIMIT now name < LIMIT
        → Judges proto macs word_len setup s line (sealed_with number)
    seals-next now agrees number next within =
        let floor : table_floor LIMIT now name ≡ s.floors name = agrees.floors name in
        let number_is : s.floors name + 1 ≡ number = omega arith in
        let P : ℕ → Type 0 = λ f. IsJudged (stations_profile proto macs word_len setup) proto.rules
        (s.floors name) f line (sealed_with number) in
        let N : ℕ → Type 0 = λ n. IsJudged (stations_profile proto macs word_len setup) proto.rules
        (s.floors name) earliest line (sealed_with n) in
        subst P (sym free_is)
        (subst N number_is
        (sealed-judged (stations_profile proto macs word_len setup) proto.rules (s.floors name)
        earliest line right.late right.whole right.good (λ same. absurd (omega arith))))

module _ {R M : Type 0} (proto : LineRules R) (macs : Mac M) {B : ℕ} (value : StationSealer R M B)
    (table : List StationEntry) (setup : StationSetup) (s : SharedState) (line : List Tick)
    (between : IsBetween proto macs value table setup s line Silent Closed)
    (right : IsRight proto.rules value.earliest_start (line ++ Silent ∷ [])) where
  -- All of a frame that isn't early has been heard.
  pub frame-heard : HasHeard proto macs value.mac value.head.items setup
      (live_bytes_so_far proto.rules (line ++ Silent ∷ []))
  frame-heard =
      let late : value.earliest_start ≤ start_so_far (line ++ Silent ∷ []) =
      ltb-false (start_so_far (line ++ Silent ∷ [])) value.earliest_start right.late in
      let F : ℕ → Type 0 = λ f. f ≤ start_so_far (line ++ Silent ∷ []) in
      closed-heard proto macs B setup line s (bytes_unsent value.trailer) value.mac
      value.head.items between.walks between.is_cut (subst F (sym between.free_is) late)

-- A frame that a tick closes: `now` is the transmitter once the text of the tag is complete, and `name`
-- the station that its first bytes name.
module _ {R M D : Type 0} (proto : LineRules R) (macs : Mac M) {B : ℕ} (d : SlotDisk D)
    (old now : StationSealer R M B) (stations : List (Served D)) (setup : StationSetup)
    (s : SharedState) (line : List Tick)
    (between : IsBetween proto macs old (table_of stations) setup s line Silent Closed)
    (right : IsRight proto.rules old.earliest_start (line ++ Silent ∷ []))
    (others : now ≡ record old { mac = now.mac })
    (completes : (live : List ℕ) → HasHeard proto macs old.mac old.head.items setup live
    → HasText proto macs now.mac setup live)
    (name : ℕ) (name_is : name ≡ name_in now.naming now.head.items) where
  abbrev frame : List ℕ
  frame = live_bytes_so_far proto.rules (line ++ Silent ∷ [])

  heard : HasHeard proto macs old.mac old.head.items setup frame
  heard = frame-heard proto macs old (table_of stations) setup s line between right

  named : name ≡ name_in setup.naming frame
  named =
      let naming : now.naming ≡ setup.naming =
      ap (λ (v : StationSealer R M B). v.naming) others ∙ between.naming_is in
      let head : now.head.items ≡ old.head.items =
      ap (λ (v : StationSealer R M B). v.head.items) others in
      name_is ∙ (ap (λ n. name_in n now.head.items) naming
      ∙ (ap (λ x. name_in setup.naming x) head
      ∙ hears-name proto macs setup old.mac old.head.items frame heard))

  pub frame-between : IsBetween proto macs now (table_of stations) setup s line Silent Closed
  frame-between =
      let P : StationSealer R M B → Type 0 = λ v.
      IsBetween proto macs v (table_of stations) setup s line Silent Closed in
      subst P (sym others)
      (completed proto macs old (table_of stations) setup s line now.mac Silent Closed completes
      between)

  pub frame-spent : has_station (table_of stations) name ≡ true
      → table_floor LIMIT (table_of stations) name ≡ LIMIT
      → IsLeft proto macs B setup s (line ++ Silent ∷ []) Spent
  frame-spent listed at =
      let L : ℕ → Type 0 = λ i. has_station (table_of stations) i ≡ true in
      let F : ℕ → Type 0 = λ i. table_floor LIMIT (table_of stations) i ≡ LIMIT in
      left-spent proto macs B setup s (line ++ Silent ∷ []) old.earliest_start between.free_is right
      (table_of stations) between.agrees (subst L named listed) (subst F named at)

  pub frame-unlisted : has_station (table_of stations) name ≡ false
      → IsLeft proto macs B setup s (line ++ Silent ∷ []) Station
  frame-unlisted none =
      let L : ℕ → Type 0 = λ i. has_station (table_of stations) i ≡ false in
      left-unlisted proto macs B setup s (line ++ Silent ∷ []) old.earliest_start between.free_is
      right (table_of stations) between.agrees (subst L named none)

  judges : (number : ℕ) → number ≡ table_floor LIMIT (table_of stations) name + 1
      → table_floor LIMIT (table_of stations) name < LIMIT
      → Judges proto macs B setup s (line ++ Silent ∷ []) (sealed_with number)
  judges number next within =
      let N : ℕ → Type 0 = λ i. number ≡ table_floor LIMIT (table_of stations) i + 1 in
      let W : ℕ → Type 0 = λ i. table_floor LIMIT (table_of stations) i < LIMIT in
      seals-next proto macs B setup s (line ++ Silent ∷ []) old.earliest_start between.free_is right
      (table_of stations) between.agrees number (subst N named next) (subst W named within)

  pub frame-sealed : (new : List (Served D)) (number : ℕ)
      → number ≡ table_floor LIMIT (table_of stations) name + 1
      → table_floor LIMIT (table_of stations) name < LIMIT
      → HasCommittedAt d stations new name number
      → IsSealedNow proto macs B now.mac (table_of new) setup s (line ++ Silent ∷ []) name number
  frame-sealed new number next within has =
      let A : ℕ → Type 0 = λ i. (from : ℕ) → Agrees (table_of new) setup.table
      (record { floors = with_floor s.floors i number; free_from = from }) in
      record {
        judged = judges number next within;
        named = named;
        text = completes frame heard;
        agrees = subst A named
            (agrees-committed d stations new name number has setup.table s between.agrees);
      }

  pub frame-fails : (new : List (Served D)) → HasFailedNext d stations new name
      → FailsNext proto macs B d stations new setup line Silent
  frame-fails new has =
      let number : ℕ = table_floor LIMIT (table_of stations) name + 1 in
      let F : ℕ → Type 0 = λ i. HasFailedAt d stations new i number in
      record {
        number = number;
        failed = subst F named has.failed;
        seals = seals-with proto macs B setup line s (bytes_unsent old.trailer) old.mac
            old.head.items between.walks number between.is_cut (judges number refl has.left);
      }

-- One more tick of a transmitter of several stations, by the values that it has before and after.
use Rattle.frame_ending.specs.declared.box_step.BoxStep.{BoxStep}
use Rattle.frame_ending.proofs.LastBurst.{last_burst-silent, last_burst-within}
use Rattle.frame_ending.proofs.{LiveTicks.live_end-whole, Running.with_byte_at, Running.IsRunning}
use Rattle.frame_ending.proofs.Running.{divided-running, silent-open, Closes, silent-closes}
use Rattle.frame_ending.proofs.Running.{last-next, byte-starts, start-bytes, start-end, byte-lives}
use Rattle.frame_ending.proofs.Running.{byte-over, passing-open, passing-byte}
use Rattle.frame_ending.specs.Cuts.{cut_of, IsPassing}
use Rattle.frame_ending.specs.LiveBytes.{live_bytes, live_end}
use Rattle.frame_ending.specs.SoFar.{last_burst, start_so_far, start_in, live_bytes_so_far}
use Rattle.frame_ending.specs.{SoFar.live_bytes_in, declared.cut.Cut.Cut}
use Rattle.frame_ending.specs.declared.cut.Cut.TheVariants.{Start, Live, Extra, Closed}
use Rattle.link_format.specs.{Tag.tag_text, declared.tag.Mac.Ghosts as Mac}
use Rattle.line_rules.specs.{Rules.Rules, declared.line_rules.LineRules.Ghosts as LineRules}
use Rattle.link_format.specs.{Profile.Profile, Profile.HasTags, Profile.trailer, Trailers.first_of}
use Rattle.link_box.specs.Sealing.{SealState, Judgement, judged, start_after}
use Rattle.link_box.specs.Sealing.Judgement.{sealed_with, unsealed}
use Rattle.stations.specs.Shared.{SharedState, its_state, sealing_box, with_floor}
use Rattle.stations.specs.Table.{table_floor, table_key}
use Rattle.station_boxes.proofs.Steps.{walked-begun, walked-divided, walks-silent, walks-unsealed}
use Rattle.station_boxes.proofs.Steps.{walks-sealed, walks-early, walks-live, walks-extra}
use Rattle.station_boxes.proofs.Steps.{seals-whole}
use Rattle.station_boxes.specs.Answers.{AnswersStep, SealsNext, one_why}
use Rattle.station_boxes.specs.{Between.Judges, Between.noteless, Names.name_in}
use Rattle.station_boxes.specs.Walks.{StationSetup, StationsHaveWalked, StationsWalk, HasHeard}
use Rattle.station_boxes.specs.Walks.{begun_at, stations_profile, stations_walk}
use Rattle.station_boxes.specs.declared.note.StationNote.{StationNote}
use Rattle.station_boxes.specs.declared.note.StationNote.TheVariants.{Sealed, Unsealed}
use Rattle.station_boxes.specs.declared.note.UnsealedStationWhy.{UnsealedStationWhy}
use Rattle.sequence_journal.specs.declared.numbers.TheConstants.{LIMIT}
use Rattle.std.proofs.Common.{◌≡◌, ◌∙◌, ℕ, ◌+◌, ◌<◌, ◌≤◌, List, [], ◌∷◌, ◌++◌, length, drop, refl}
use Rattle.std.proofs.Common.{sym, ap, subst, arith, ⊎_elim, Option, Some, None, IfSome}
use Rattle.std.proofs.lemmas.Bool.{cases_lt}
use Rattle.yasir_ticks.proofs.BurstLaws.{alone, with_last}
use Rattle.yasir_ticks.specs.{Bursts.Burst, Bursts.bursts, Bursts.end_of, BurstsOf.IsContiguous}
use Rattle.yasir_ticks.specs.declared.tick.Tick.{Tick, TheVariants.Silent, TheVariants.Byte}

-- Holds if the walk over `line` goes on by the tick `t` to this state, and the step is what the
-- definitions say.
pub record WalksOn {R M : Type 0} (proto : LineRules R) (macs : Mac M) (word_len : ℕ)
    (setup : StationSetup) (next : SharedState) (unsent : List ℕ) (mac : M) (head : List ℕ)
    (line : List Tick) (t : Tick) (step : BoxStep StationNote) : Type 0 where
  pub walks : StationsWalk proto macs word_len next unsent mac head setup (line ++ t ∷ [])
  pub answers : AnswersStep (stations_walk proto macs word_len setup) (begun_at setup) line t step

module _ {R M : Type 0} (proto : LineRules R) (macs : Mac M) (word_len : ℕ)
    (setup : StationSetup) where
  abbrev station : List ℕ → ℕ
  station x = name_in setup.naming x

  abbrev profile : Profile
  profile = stations_profile proto macs word_len setup

  abbrev rules : Rules
  rules = proto.rules

  abbrev floors : ℕ → ℕ
  floors = table_floor LIMIT setup.table

  abbrev key : List ℕ → List ℕ
  key x = table_key setup.table (name_in setup.naming x)

  tags : HasTags profile
  tags = record {
    sized = λ number frame.
        macs.tag_len (key frame) (tag_text rules.label setup.direction frame number);
  }

  pub walks-begun : (mac : M) (head : List ℕ)
      → StationsWalk proto macs word_len (begun_at setup) [] mac head setup []
  walks-begun mac head = record {
    running = None;
    walked = walked-begun (name_in setup.naming) profile rules floors;
    heard = tt;
  }

  module _ (line : List Tick) (state : SharedState) (unsent : List ℕ) (mac : M) (head : List ℕ)
      (old : StationsWalk proto macs word_len state unsent mac head setup line) where
    abbrev earliest : ℕ
    earliest = state.free_from

    abbrev m : ℕ
    m = length line

    abbrev On : SharedState → List ℕ → M → List ℕ → Tick → BoxStep StationNote → Type 0
    On next to_send new bytes t step =
        WalksOn proto macs word_len setup next to_send new bytes line t step

    abbrev WalkedBy : Option Burst → Type 0
    WalkedBy running = StationsHaveWalked (name_in setup.naming) profile rules floors m (bursts line)
        state unsent running

    abbrev WalkedThen : Tick → SharedState → List ℕ → Option Burst → Type 0
    WalkedThen t next to_send running =
        StationsHaveWalked (name_in setup.naming) profile rules floors (length (line ++ t ∷ []))
        (bursts (line ++ t ∷ [])) next to_send running

    abbrev Answered : Tick → BoxStep StationNote → Type 0
    Answered t step = AnswersStep (stations_walk proto macs word_len setup) (begun_at setup) line t
        step

    abbrev Judged : Judgement → Type 0
    Judged j = Judges proto macs word_len setup state (line ++ Silent ∷ []) j

    runs : IsRunning line old.running
    runs = divided-running line old.walked.come.settled old.running
        (walked-divided (name_in setup.naming) profile rules proto.lawful tags floors line state
        unsent old.running old.walked)

    -- ---- silence

    -- silence that closes no burst
    pub advance-open : (cut_of rules line Silent ≡ Closed → ⊥)
        → On state (drop 1 unsent) mac head Silent (noteless (first_of unsent))
    advance-open unclosed =
        let step = walks-silent (name_in setup.naming) profile rules proto.lawful tags floors line state unsent
        old.running old.walked
        (silent-open rules line old.running runs unclosed) in
        record {
          walks = record {
            running = old.running;
            walked = step.0;
            heard = old.heard;
          };
          answers = step.1;
        }

    -- A silent tick that is cut as `Closed` closes the running burst.
    closes : cut_of rules line Silent ≡ Closed → Closes rules line old.running
    closes closed = silent-closes rules line old.running runs closed

    closed-walked : (closed : cut_of rules line Silent ≡ Closed)
        → WalkedBy (Some (closes closed).burst)
    closed-walked closed = let P : Option Burst → Type 0 = λ o. WalkedBy o in
        subst P (closes closed).is old.walked

    closed-last : (closed : cut_of rules line Silent ≡ Closed)
        → last_burst (line ++ Silent ∷ []) ≡ Some (closes closed).burst
    closed-last closed =
        let P : Option Burst → Type 0 = λ o. IsRunning line o in
        let run : IsRunning line (Some (closes closed).burst) = subst P (closes closed).is runs in
        last_burst-silent line ∙ run.0

    closed-contiguous : (closed : cut_of rules line Silent ≡ Closed)
        → IsContiguous 4 (closes closed).burst.body
    closed-contiguous closed =
        (last_burst-within (line ++ Silent ∷ []) (closes closed).burst
        (closed-last closed)).contiguous

    -- the state of the box of the station that a burst names
    abbrev its : Burst → SealState
    its d = its_state (name_in setup.naming) rules (sealing_box profile rules) state d

    closed-judged : (closed : cut_of rules line Silent ≡ Closed) (j : Judgement) → Judged j
        → judged profile rules (its (closes closed).burst) (closes closed).burst ≡ j
    closed-judged closed j judge =
        let P : Option Burst → Type 0 = λ o. IfSome o (λ d. judged profile rules
        (record {
          floor = state.floors (name_in setup.naming (live_bytes_in rules o));
          earliest_start = state.free_from;
        }) d ≡ j) in
        subst P (closed-last closed) judge

    pub advance-unsealed : (why : UnsealedStationWhy) → cut_of rules line Silent ≡ Closed
        → Judged (unsealed (one_why why))
        → On state (drop 1 unsent) mac head Silent
        (record {
          tick = first_of unsent;
          note = Some (Unsealed (start_so_far (line ++ Silent ∷ [])) why);
        })
    advance-unsealed why closed judge =
        let d : Burst = (closes closed).burst in
        let step = walks-unsealed (name_in setup.naming) profile rules proto.lawful tags floors line state unsent d why
        (closed-walked closed) (closes closed).at
        (closed-judged closed (unsealed (one_why why)) judge) in
        let start : d.start ≡ start_so_far (line ++ Silent ∷ []) =
        sym (ap start_in (closed-last closed)) in
        let P : ℕ → Type 0 = λ n. Answered Silent
        (record { tick = first_of unsent; note = Some (Unsealed n why) }) in
        record {
          walks = record {
            running = None;
            walked = step.0;
            heard = tt;
          };
          answers = subst P start step.1;
        }

    -- what has been heard of the running burst
    heard-of : (d : Burst) → old.running ≡ Some d → earliest ≤ d.start
        → HasHeard proto macs mac head setup (live_bytes rules d)
    heard-of d is late =
        let P : Option Burst → Type 0 =
        λ o. IfSome o (λ d. earliest ≤ d.start
        → HasHeard proto macs mac head setup (live_bytes rules d)) in
        let known : earliest ≤ d.start → HasHeard proto macs mac head setup (live_bytes rules d) =
        subst P is old.heard in
        known late

    -- the step that seals a burst
    sealing : (station_name number : ℕ) (closed : cut_of rules line Silent ≡ Closed)
        → Judged (sealed_with number)
        → (bytes : List ℕ) → bytes ≡ trailer profile number (live_bytes rules (closes closed).burst)
        → WalkedThen Silent (record {
          floors = with_floor state.floors
              (name_in setup.naming (live_bytes rules (closes closed).burst)) number;
          free_from = start_after profile rules (closes closed).burst;
        }) (drop 1 bytes) None
        × Answered Silent
        (record {
          tick = first_of bytes;
          note = Some (Sealed station_name number (closes closed).burst.start
              (length (live_bytes rules (closes closed).burst)));
        })
        × SealsNext (stations_walk proto macs word_len setup) (begun_at setup) line Silent number
    sealing station_name number closed judge bytes is =
        walks-sealed (name_in setup.naming) profile rules proto.lawful tags floors line state unsent
        (closes closed).burst station_name number bytes (closed-walked closed) (closes closed).at
        (closed-judged closed (sealed_with number) judge) is

    pub seals-with : (number : ℕ) → cut_of rules line Silent ≡ Closed
        → Judged (sealed_with number)
        → SealsNext (stations_walk proto macs word_len setup) (begun_at setup) line Silent number
    seals-with number closed judge =
        (sealing 0 number closed judge (trailer profile number
        (live_bytes rules (closes closed).burst)) refl).2

    -- Of a burst that isn't early, all that has come has been heard.
    pub closed-heard : cut_of rules line Silent ≡ Closed
        → earliest ≤ start_so_far (line ++ Silent ∷ [])
        → HasHeard proto macs mac head setup (live_bytes_so_far rules (line ++ Silent ∷ []))
    closed-heard closed late =
        let d : Burst = (closes closed).burst in
        let start : start_so_far (line ++ Silent ∷ []) ≡ d.start =
        ap start_in (closed-last closed) in
        let P : List ℕ → Type 0 = λ x. HasHeard proto macs mac head setup x in
        subst P (sym (ap (λ o. live_bytes_in rules o) (closed-last closed)))
        (heard-of d (closes closed).is (omega arith))

    -- the state after this step
    abbrev pub sealed_state : ℕ → ℕ → SharedState
    sealed_state number next = record {
      floors = with_floor state.floors
          (name_in setup.naming (live_bytes_so_far rules (line ++ Silent ∷ []))) number;
      free_from = next;
    }

    pub advance-sealed : (station_name number next : ℕ) (bytes : List ℕ) (new : M) (front : List ℕ)
        → cut_of rules line Silent ≡ Closed → Judged (sealed_with number)
        → next ≡ length line + 1 + (word_len + macs.TAG) + 3
        → bytes ≡ trailer profile number (live_bytes_so_far rules (line ++ Silent ∷ []))
        → On (sealed_state number next) (drop 1 bytes) new front Silent
        (record {
          tick = first_of bytes;
          note = Some (Sealed station_name number (start_so_far (line ++ Silent ∷ []))
              (length (live_bytes_so_far rules (line ++ Silent ∷ []))));
        })
    advance-sealed station_name number next bytes new front closed judge next_is bytes_are =
        let d : Burst = (closes closed).burst in
        let is_sealed = closed-judged closed (sealed_with number) judge in
        let whole = seals-whole (name_in setup.naming) profile rules proto.lawful tags floors line
        state unsent d number is_sealed in
        let live : live_bytes_so_far rules (line ++ Silent ∷ []) ≡ live_bytes rules d =
        ap (λ o. live_bytes_in rules o) (closed-last closed) in
        let is : bytes ≡ trailer profile number (live_bytes rules d) =
        bytes_are ∙ ap (λ x. trailer profile number x) live in
        let step = sealing station_name number closed judge bytes is in
        let end : live_end rules d ≡ end_of d =
        live_end-whole rules proto.lawful d (closed-contiguous closed) whole in
        let at = (closes closed).at in
        let earliest_is : live_end rules d + 3 + (word_len + macs.TAG) + 4 ≡ next = omega arith in
        let P : ℕ → Type 0 = λ f. WalkedThen Silent (record {
          floors = with_floor state.floors (name_in setup.naming (live_bytes rules d)) number;
          free_from = f;
        }) (drop 1 bytes) None in
        let W : List ℕ → Type 0 = λ x. WalkedThen Silent (record {
          floors = with_floor state.floors (name_in setup.naming x) number;
          free_from = next;
        }) (drop 1 bytes) None in
        let Q : Option Burst → Type 0 = λ o. Answered Silent
        (record {
          tick = first_of bytes;
          note = Some (Sealed station_name number (start_in o) (length (live_bytes_in rules o)));
        }) in
        record {
          walks = record {
            running = None;
            walked = subst W (sym live) (subst P earliest_is step.0);
            heard = tt;
          };
          answers = subst Q (sym (closed-last closed)) step.1;
        }

    -- ---- a byte

    abbrev next_burst : ℕ → Burst
    next_burst b = with_byte_at m b old.running

    next-start : (b : ℕ) → start_so_far (line ++ Byte b ∷ []) ≡ (next_burst b).start
    next-start b = ap start_in (last-next rules proto.lawful line b old.running runs)

    -- A byte of an early burst is passed over, and the next byte of the trailer is sent.
    pub advance-early : (b : ℕ) → start_so_far (line ++ Byte b ∷ []) < earliest
        → On state (drop 1 unsent) mac head (Byte b) (noteless (first_of unsent))
    advance-early b early =
        let start = next-start b in
        let step = walks-early (name_in setup.naming) profile rules proto.lawful tags floors line state unsent
        old.running b old.walked (omega arith) in
        record {
          walks = record {
            running = Some (next_burst b);
            walked = step.0;
            heard = λ late. absurd (omega arith);
          };
          answers = step.1;
        }

    -- A live byte of a burst that isn't early is forwarded.
    live-on : (b : ℕ) (new : M) (front : List ℕ) → earliest ≤ start_so_far (line ++ Byte b ∷ [])
        → live_end rules (next_burst b) ≡ m + 1
        → HasHeard proto macs new front setup (live_bytes rules (next_burst b))
        → On state unsent new front (Byte b) (noteless (Byte b))
    live-on b new front late end heard =
        let start = next-start b in
        let step = walks-live (name_in setup.naming) profile rules proto.lawful tags floors line state
        unsent old.running b old.walked (omega arith) end in
        let P : List ℕ → Type 0 = λ l. WalkedThen (Byte b) state l (Some (next_burst b)) in
        record {
          walks = record {
            running = Some (next_burst b);
            walked = subst P (sym step.0) step.1;
            heard = λ h. heard;
          };
          answers = step.2;
        }

    pub advance-begin : (b : ℕ) (new : M) (front : List ℕ) → cut_of rules line (Byte b) ≡ Start b
        → earliest ≤ start_so_far (line ++ Byte b ∷ [])
        → HasHeard proto macs new front setup (b ∷ [])
        → On state unsent new front (Byte b) (noteless (Byte b))
    advance-begin b new front starts late heard =
        let none = byte-starts rules proto.lawful line b old.running runs starts in
        let is : next_burst b ≡ alone m b = ap (λ o. with_byte_at m b o) none in
        let end : live_end rules (next_burst b) ≡ m + 1 =
        ap (λ d. live_end rules d) is ∙ start-end rules proto.lawful line b in
        let bytes : live_bytes rules (next_burst b) ≡ b ∷ [] =
        ap (λ d. live_bytes rules d) is ∙ start-bytes rules proto.lawful line b in
        let P : List ℕ → Type 0 = λ x. HasHeard proto macs new front setup x in
        live-on b new front late end (subst P (sym bytes) heard)

    pub advance-live : (b : ℕ) (new : M) (front : List ℕ) → cut_of rules line (Byte b) ≡ Live b
        → earliest ≤ start_so_far (line ++ Byte b ∷ [])
        → ((live : List ℕ) → HasHeard proto macs mac head setup live
        → HasHeard proto macs new front setup (live ++ b ∷ []))
        → On state unsent new front (Byte b) (noteless (Byte b))
    advance-live b new front lives late more =
        let on = byte-lives rules proto.lawful line b old.running runs lives in
        let is : next_burst b ≡ with_last on.burst m b = ap (λ o. with_byte_at m b o) on.is in
        let start : start_so_far (line ++ Byte b ∷ []) ≡ on.burst.start =
        next-start b ∙ ap (λ (d : Burst). d.start) is in
        let bytes : live_bytes rules (next_burst b) ≡ live_bytes rules on.burst ++ b ∷ [] =
        ap (λ d. live_bytes rules d) is ∙ on.bytes in
        let P : List ℕ → Type 0 = λ x. HasHeard proto macs new front setup x in
        live-on b new front late (ap (λ d. live_end rules d) is ∙ on.end)
        (subst P (sym bytes) (more (live_bytes rules on.burst) (heard-of on.burst on.is (omega arith))))

    -- A byte that isn't live, of a burst that isn't early, is passed over.
    pub advance-extra : (b : ℕ) → cut_of rules line (Byte b) ≡ Extra b
        → earliest ≤ start_so_far (line ++ Byte b ∷ [])
        → On state (drop 1 unsent) mac head (Byte b) (noteless (first_of unsent))
    advance-extra b extra late =
        let on = byte-over rules proto.lawful line b old.running runs extra in
        let is : next_burst b ≡ with_last on.burst m b = ap (λ o. with_byte_at m b o) on.is in
        let same : start_so_far (line ++ Byte b ∷ []) ≡ on.burst.start =
        next-start b ∙ ap (λ (d : Burst). d.start) is in
        let start = next-start b in
        let heard = heard-of on.burst on.is (omega arith) in
        let bytes : live_bytes rules (next_burst b) ≡ live_bytes rules on.burst =
        ap (λ d. live_bytes rules d) is ∙ on.bytes in
        let H : List ℕ → Type 0 = λ x. HasHeard proto macs mac head setup x in
        let end : live_end rules (next_burst b) ≤ m = let e = ap (λ d. live_end rules d) is in
        let le = on.end in omega arith in
        let step = walks-extra (name_in setup.naming) profile rules proto.lawful tags floors line state unsent
        old.running b old.walked (omega arith) end in
        let P : List ℕ → Type 0 = λ l. WalkedThen (Byte b) state (drop 1 l) (Some (next_burst b)) in
        let Q : List ℕ → Type 0 = λ l. Answered (Byte b)
        (noteless (first_of l)) in
        record {
          walks = record {
            running = Some (next_burst b);
            walked = subst P (sym step.0) step.1;
            heard = λ h. subst H (sym bytes) heard;
          };
          answers = subst Q (sym step.0) step.2;
        }

    -- Any tick that isn't forwarded and closes no burst is passed over.
    pub advance-passing : (t : Tick) (cut : Cut) → cut_of rules line t ≡ cut → IsPassing cut
        → On state (drop 1 unsent) mac head t (noteless (first_of unsent))
    advance-passing Silent cut is passing =
        advance-open (λ closed. absurd (passing-open rules line cut passing (sym is ∙ closed)))
    advance-passing (Byte b) cut is passing =
        ⊎_elim
        (λ early. advance-early b early)
        (λ late. advance-extra b (passing-byte rules line b cut is passing) late)
        (cases_lt (start_so_far (line ++ Byte b ∷ [])) earliest)

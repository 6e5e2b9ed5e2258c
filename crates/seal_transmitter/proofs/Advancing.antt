-- One more tick of a transmitter, by the values that it has before and after.
use Rattle.frame_ending.specs.declared.box_step.BoxStep.{BoxStep}
use Rattle.frame_ending.proofs.LastBurst.{last_burst-silent, last_burst-within}
use Rattle.frame_ending.proofs.{LiveTicks.live_end-whole, Running.with_byte_at, Running.IsRunning}
use Rattle.frame_ending.proofs.Running.{divided-running, silent-open, Closes, silent-closes}
use Rattle.frame_ending.proofs.Running.{last-next, byte-starts, start-bytes, start-end, byte-lives}
use Rattle.frame_ending.proofs.Running.{byte-over, passing-open, passing-byte}
use Rattle.frame_ending.specs.Cuts.{cut_of, IsPassing}
use Rattle.frame_ending.specs.LiveBytes.{live_bytes, live_end}
use Rattle.frame_ending.specs.SoFar.{last_burst, start_so_far, start_in, live_bytes_so_far}
use Rattle.frame_ending.specs.{SoFar.live_bytes_in, declared.cut.Cut.Cut}
use Rattle.frame_ending.specs.declared.cut.Cut.TheVariants.{Start, Live, Extra, Closed}
use Rattle.link_format.specs.{Tag.tag_text, declared.tag.Mac.Ghosts as Mac}
use Rattle.line_rules.specs.{Rules.Rules, declared.line_rules.LineRules.Ghosts as LineRules}
use Rattle.link_format.specs.{NumberedFrame.last_number, Profile.Profile, Profile.profile_of}
use Rattle.link_format.specs.{Profile.HasTags, Profile.trailer, Setup.Setup, Trailers.first_of}
use Rattle.link_box.specs.Sealing.{SealState, Judgement, judged, start_after, sealed}
use Rattle.link_box.specs.Sealing.Judgement.{sealed_with, unsealed}
use Rattle.link_box.specs.declared.seal_note.SealNote.{SealNote}
use Rattle.link_box.specs.declared.seal_note.SealNote.TheVariants.{Sealed, Unsealed}
use Rattle.link_box.specs.declared.seal_note.UnsealedWhy.{UnsealedWhy}
use Rattle.seal_transmitter.proofs.Steps.{walked-begun, walked-divided, walks-silent}
use Rattle.seal_transmitter.proofs.Steps.{walks-unsealed, walks-sealed, walks-early, walks-live}
use Rattle.seal_transmitter.proofs.Steps.{walks-extra, seals-late, seals-whole, walked-number}
use Rattle.seal_transmitter.specs.{Answers.SealerAnswersTick, Answers.SealsWith, Between.IsJudged}
use Rattle.seal_transmitter.specs.{Between.noteless, Stands.SealerHasWalked, Stands.SealerWalks}
use Rattle.sequence_journal.specs.declared.numbers.TheConstants.{LIMIT}
use Rattle.std.proofs.Common.{◌≡◌, ◌∙◌, ℕ, ◌+◌, ◌<◌, ◌≤◌, List, [], ◌∷◌, ◌++◌, length, drop, refl}
use Rattle.std.proofs.Common.{sym, ap, subst, arith, ⊎_elim, Option, Some, None, IfSome}
use Rattle.std.proofs.lemmas.Bool.{cases_lt}
use Rattle.std.specs.Int.{w64, to_be_bytes, bytes_high_first}
use Rattle.yasir_ticks.proofs.BurstLaws.{alone, with_last}
use Rattle.yasir_ticks.specs.{Bursts.Burst, Bursts.bursts, Bursts.end_of, BurstsOf.IsContiguous}
use Rattle.yasir_ticks.specs.declared.tick.Tick.{Tick, TheVariants.Silent, TheVariants.Byte}

-- Holds if the walk over `line` goes on by the tick `t`, and the step is what the definitions say.
pub record WalksOn {R M : Type 0} (proto : LineRules R) (macs : Mac M) (word_len : ℕ)
    (setup : Setup) (last earliest : ℕ)
    (unsent : List ℕ) (mac : M) (line : List Tick) (t : Tick) (step : BoxStep SealNote) : Type 0 where
  pub walks : SealerWalks proto macs word_len last earliest unsent mac setup (line ++ t ∷ [])
  pub answers : SealerAnswersTick (profile_of proto macs word_len LIMIT setup) proto.rules setup.floor
      line t step

module _ {R M : Type 0} (proto : LineRules R) (macs : Mac M) (word_len : ℕ) (setup : Setup) where
  abbrev profile : Profile
  profile = profile_of proto macs word_len LIMIT setup

  abbrev rules : Rules
  rules = proto.rules

  tags : HasTags profile
  tags = record {
    sized = λ number frame.
        macs.tag_len setup.key (tag_text rules.label setup.direction frame number);
  }

  pub walks-begun : (mac : M) (none : macs.stands mac setup.key [])
      → SealerWalks proto macs word_len setup.floor 0 [] mac setup []
  walks-begun mac none = record {
    running = None;
    walked = walked-begun profile rules setup.floor;
    text = [];
    mac_is = none;
    text_is = tt;
  }

  module _ (line : List Tick) (last earliest : ℕ) (unsent : List ℕ) (mac : M)
      (old : SealerWalks proto macs word_len last earliest unsent mac setup line) where
    abbrev state : SealState
    state = record { floor = last; earliest_start = earliest }

    abbrev m : ℕ
    m = length line

    abbrev On : ℕ → ℕ → List ℕ → M → Tick → BoxStep SealNote → Type 0
    On number next to_send new t step =
        WalksOn proto macs word_len setup number next to_send new line t step

    abbrev WalkedBy : Option Burst → Type 0
    WalkedBy running = SealerHasWalked profile rules setup.floor m (bursts line) state unsent running

    abbrev WalkedThen : Tick → SealState → List ℕ → Option Burst → Type 0
    WalkedThen t next to_send running =
        SealerHasWalked profile rules setup.floor (length (line ++ t ∷ [])) (bursts (line ++ t ∷ [])) next
        to_send running

    runs : IsRunning line old.running
    runs = divided-running line old.walked.come.settled old.running
        (walked-divided profile rules proto.lawful tags setup.floor line state unsent old.running
        old.walked)

    -- The last number used is that of the last sealed frame.
    pub number-is : last ≡ last_number setup.floor (sealed profile rules setup.floor line)
    number-is = walked-number profile rules proto.lawful tags setup.floor line state unsent
        old.running old.walked

    -- ---- silence

    -- silence that closes no burst
    pub advance-open : (cut_of rules line Silent ≡ Closed → ⊥)
        → On last earliest (drop 1 unsent) mac Silent (noteless (first_of unsent))
    advance-open unclosed =
        let step = walks-silent profile rules proto.lawful tags setup.floor line state unsent
        old.running old.walked
        (silent-open rules line old.running runs unclosed) in
        record {
          walks = record {
            running = old.running;
            walked = step.0;
            text = old.text;
            mac_is = old.mac_is;
            text_is = old.text_is;
          };
          answers = step.1;
        }

    -- A silent tick that is cut as `Closed` closes the running burst.
    closes : cut_of rules line Silent ≡ Closed → Closes rules line old.running
    closes closed = silent-closes rules line old.running runs closed

    closed-walked : (closed : cut_of rules line Silent ≡ Closed)
        → WalkedBy (Some (closes closed).burst)
    closed-walked closed = let P : Option Burst → Type 0 = λ o. WalkedBy o in
        subst P (closes closed).is old.walked

    closed-last : (closed : cut_of rules line Silent ≡ Closed)
        → last_burst (line ++ Silent ∷ []) ≡ Some (closes closed).burst
    closed-last closed =
        let P : Option Burst → Type 0 = λ o. IsRunning line o in
        let run : IsRunning line (Some (closes closed).burst) = subst P (closes closed).is runs in
        last_burst-silent line ∙ run.0

    closed-contiguous : (closed : cut_of rules line Silent ≡ Closed)
        → IsContiguous 4 (closes closed).burst.body
    closed-contiguous closed =
        (last_burst-within (line ++ Silent ∷ []) (closes closed).burst
        (closed-last closed)).contiguous

    closed-judged : (closed : cut_of rules line Silent ≡ Closed) (j : Judgement)
        → IsJudged profile rules last earliest (line ++ Silent ∷ []) j
        → judged profile rules state (closes closed).burst ≡ j
    closed-judged closed j judge =
        let P : Option Burst → Type 0 = λ o. IfSome o (λ d. judged profile rules state d ≡ j) in
        subst P (closed-last closed) judge

    pub advance-unsealed : (why : UnsealedWhy) → cut_of rules line Silent ≡ Closed
        → IsJudged profile rules last earliest (line ++ Silent ∷ []) (unsealed why)
        → On last earliest (drop 1 unsent) mac Silent
        (record {
          tick = first_of unsent;
          note = Some (Unsealed (start_so_far (line ++ Silent ∷ [])) why);
        })
    advance-unsealed why closed judge =
        let d : Burst = (closes closed).burst in
        let step = walks-unsealed profile rules proto.lawful tags setup.floor line state unsent d why
        (closed-walked closed) (closes closed).at
        (closed-judged closed (unsealed why) judge) in
        let start : d.start ≡ start_so_far (line ++ Silent ∷ []) =
        sym (ap start_in (closed-last closed)) in
        let P : ℕ → Type 0 = λ n. SealerAnswersTick profile rules setup.floor line Silent
        (record { tick = first_of unsent; note = Some (Unsealed n why) }) in
        record {
          walks = record {
            running = None;
            walked = step.0;
            text = old.text;
            mac_is = old.mac_is;
            text_is = tt;
          };
          answers = subst P start step.1;
        }

    -- the text of the running burst
    text-of : (d : Burst) → old.running ≡ Some d → earliest ≤ d.start
        → old.text ≡ rules.label ∷ setup.direction ∷ live_bytes rules d
    text-of d is late =
        let P : Option Burst → Type 0 =
        λ o. IfSome o (λ d. earliest ≤ d.start
        → old.text ≡ rules.label ∷ setup.direction ∷ live_bytes rules d) in
        let known : earliest ≤ d.start → old.text
        ≡ rules.label ∷ setup.direction ∷ live_bytes rules d = subst P is old.text_is in
        known late

    -- the step that seals a burst
    sealing : (number : ℕ) (closed : cut_of rules line Silent ≡ Closed)
        → IsJudged profile rules last earliest (line ++ Silent ∷ []) (sealed_with number)
        → (bytes : List ℕ) → bytes ≡ trailer profile number (live_bytes rules (closes closed).burst)
        → WalkedThen Silent (record {
          floor = number;
          earliest_start = start_after profile rules (closes closed).burst;
        }) (drop 1 bytes) None
        × SealerAnswersTick profile rules setup.floor line Silent
        (record {
          tick = first_of bytes;
          note = Some (Sealed number (closes closed).burst.start
              (length (live_bytes rules (closes closed).burst)));
        })
        × SealsWith profile rules setup.floor line Silent number
    sealing number closed judge bytes is =
        walks-sealed profile rules proto.lawful tags setup.floor line state unsent
        (closes closed).burst number bytes (closed-walked closed) (closes closed).at
        (closed-judged closed (sealed_with number) judge) is

    pub seals-with : (number : ℕ) → cut_of rules line Silent ≡ Closed
        → IsJudged profile rules last earliest (line ++ Silent ∷ []) (sealed_with number)
        → SealsWith profile rules setup.floor line Silent number
    seals-with number closed judge =
        (sealing number closed judge (trailer profile number
        (live_bytes rules (closes closed).burst)) refl).2

    pub advance-sealed : (number next : ℕ) (bytes : List ℕ) (new : M)
        → cut_of rules line Silent ≡ Closed
        → IsJudged profile rules last earliest (line ++ Silent ∷ []) (sealed_with number)
        → next ≡ length line + 1 + (word_len + macs.TAG) + 3
        → ((text : List ℕ) → macs.stands mac setup.key text
        → bytes ≡ bytes_high_first word_len number
        ++ macs.tag_of setup.key (text ++ to_be_bytes w64 number))
        → ((text : List ℕ) → macs.stands mac setup.key text → macs.stands new setup.key [])
        → On number next (drop 1 bytes) new Silent
        (record {
          tick = first_of bytes;
          note = Some (Sealed number (start_so_far (line ++ Silent ∷ []))
              (length (live_bytes_so_far rules (line ++ Silent ∷ []))));
        })
    advance-sealed number next bytes new closed judge next_is tagged begun =
        let d : Burst = (closes closed).burst in
        let is_sealed = closed-judged closed (sealed_with number) judge in
        let late = seals-late profile rules proto.lawful tags setup.floor line state unsent d number
        is_sealed in
        let whole = seals-whole profile rules proto.lawful tags setup.floor line state unsent d number
        is_sealed in
        let text = text-of d (closes closed).is late in
        let is : bytes ≡ trailer profile number (live_bytes rules d) =
        tagged old.text old.mac_is
        ∙ ap (λ x. bytes_high_first word_len number
        ++ macs.tag_of setup.key (x ++ to_be_bytes w64 number)) text in
        let step = sealing number closed judge bytes is in
        let end : live_end rules d ≡ end_of d =
        live_end-whole rules proto.lawful d (closed-contiguous closed) whole in
        let at = (closes closed).at in
        let earliest_is : live_end rules d + 3 + (word_len + macs.TAG) + 4 ≡ next = omega arith in
        let P : ℕ → Type 0 = λ f. WalkedThen Silent (record { floor = number; earliest_start = f })
        (drop 1 bytes) None in
        let Q : Option Burst → Type 0 = λ o. SealerAnswersTick profile rules setup.floor line Silent
        (record {
          tick = first_of bytes;
          note = Some (Sealed number (start_in o) (length (live_bytes_in rules o)));
        }) in
        record {
          walks = record {
            running = None;
            walked = subst P earliest_is step.0;
            text = [];
            mac_is = begun old.text old.mac_is;
            text_is = tt;
          };
          answers = subst Q (sym (closed-last closed)) step.1;
        }

    -- ---- a byte

    abbrev next_burst : ℕ → Burst
    next_burst b = with_byte_at m b old.running

    next-start : (b : ℕ) → start_so_far (line ++ Byte b ∷ []) ≡ (next_burst b).start
    next-start b = ap start_in (last-next rules proto.lawful line b old.running runs)

    -- A byte that is cut as the first of a burst begins the burst at its own tick.
    pub starts-now : (b : ℕ) → cut_of rules line (Byte b) ≡ Start b
        → start_so_far (line ++ Byte b ∷ []) ≡ m
    starts-now b starts =
        let none = byte-starts rules proto.lawful line b old.running runs starts in
        let is : next_burst b ≡ alone m b = ap (λ o. with_byte_at m b o) none in
        next-start b ∙ ap (λ (d : Burst). d.start) is

    -- A byte of an early burst is passed over, and the next byte of the trailer is sent.
    pub advance-early : (b : ℕ) → start_so_far (line ++ Byte b ∷ []) < earliest
        → On last earliest (drop 1 unsent) mac (Byte b) (noteless (first_of unsent))
    advance-early b early =
        let start = next-start b in
        let step = walks-early profile rules proto.lawful tags setup.floor line state unsent
        old.running b old.walked (omega arith) in
        record {
          walks = record {
            running = Some (next_burst b);
            walked = step.0;
            text = old.text;
            mac_is = old.mac_is;
            text_is = λ late. absurd (omega arith);
          };
          answers = step.1;
        }

    -- A live byte of a burst that isn't early is forwarded.
    live-on : (b : ℕ) (new : M) (text : List ℕ) → earliest ≤ start_so_far (line ++ Byte b ∷ [])
        → live_end rules (next_burst b) ≡ m + 1
        → macs.stands new setup.key text
        → text ≡ rules.label ∷ setup.direction ∷ live_bytes rules (next_burst b)
        → On last earliest unsent new (Byte b) (noteless (Byte b))
    live-on b new text late end mac_is is =
        let start = next-start b in
        let step = walks-live profile rules proto.lawful tags setup.floor line state unsent
        old.running b old.walked (omega arith) end in
        let P : List ℕ → Type 0 = λ l. WalkedThen (Byte b) state l (Some (next_burst b)) in
        record {
          walks = record {
            running = Some (next_burst b);
            walked = subst P (sym step.0) step.1;
            text = text;
            mac_is = mac_is;
            text_is = λ h. is;
          };
          answers = step.2;
        }

    pub advance-begin : (b : ℕ) (new : M) → cut_of rules line (Byte b) ≡ Start b
        → earliest ≤ start_so_far (line ++ Byte b ∷ [])
        → macs.stands new setup.key (rules.label ∷ setup.direction ∷ b ∷ [])
        → On last earliest unsent new (Byte b) (noteless (Byte b))
    advance-begin b new starts late mac_is =
        let none = byte-starts rules proto.lawful line b old.running runs starts in
        let is : next_burst b ≡ alone m b = ap (λ o. with_byte_at m b o) none in
        let end : live_end rules (next_burst b) ≡ m + 1 =
        ap (λ d. live_end rules d) is ∙ start-end rules proto.lawful line b in
        let bytes : live_bytes rules (next_burst b) ≡ b ∷ [] =
        ap (λ d. live_bytes rules d) is ∙ start-bytes rules proto.lawful line b in
        live-on b new (rules.label ∷ setup.direction ∷ b ∷ []) late end mac_is
        (ap (λ h. rules.label ∷ setup.direction ∷ h) (sym bytes))

    pub advance-live : (b : ℕ) (new : M) → cut_of rules line (Byte b) ≡ Live b
        → earliest ≤ start_so_far (line ++ Byte b ∷ [])
        → ((text : List ℕ) → macs.stands mac setup.key text
        → macs.stands new setup.key (text ++ b ∷ []))
        → On last earliest unsent new (Byte b) (noteless (Byte b))
    advance-live b new lives late more =
        let on = byte-lives rules proto.lawful line b old.running runs lives in
        let is : next_burst b ≡ with_last on.burst m b = ap (λ o. with_byte_at m b o) on.is in
        let start : start_so_far (line ++ Byte b ∷ []) ≡ on.burst.start =
        next-start b ∙ ap (λ (d : Burst). d.start) is in
        let text = text-of on.burst on.is (omega arith) in
        live-on b new (old.text ++ b ∷ []) late (ap (λ d. live_end rules d) is ∙ on.end)
        (more old.text old.mac_is)
        (ap (λ x. x ++ b ∷ []) text ∙ ap (λ h. rules.label ∷ setup.direction ∷ h)
        (sym on.bytes ∙ sym (ap (λ d. live_bytes rules d) is)))

    -- A byte that isn't live, of a burst that isn't early, is passed over.
    pub advance-extra : (b : ℕ) → cut_of rules line (Byte b) ≡ Extra b
        → earliest ≤ start_so_far (line ++ Byte b ∷ [])
        → On last earliest (drop 1 unsent) mac (Byte b) (noteless (first_of unsent))
    advance-extra b extra late =
        let on = byte-over rules proto.lawful line b old.running runs extra in
        let is : next_burst b ≡ with_last on.burst m b = ap (λ o. with_byte_at m b o) on.is in
        let same : start_so_far (line ++ Byte b ∷ []) ≡ on.burst.start =
        next-start b ∙ ap (λ (d : Burst). d.start) is in
        let start = next-start b in
        let text = text-of on.burst on.is (omega arith) in
        let end : live_end rules (next_burst b) ≤ m = let e = ap (λ d. live_end rules d) is in
        let le = on.end in omega arith in
        let step = walks-extra profile rules proto.lawful tags setup.floor line state unsent
        old.running b old.walked (omega arith) end in
        let P : List ℕ → Type 0 = λ l. WalkedThen (Byte b) state (drop 1 l) (Some (next_burst b)) in
        let Q : List ℕ → Type 0 = λ l. SealerAnswersTick profile rules setup.floor line (Byte b)
        (noteless (first_of l)) in
        record {
          walks = record {
            running = Some (next_burst b);
            walked = subst P (sym step.0) step.1;
            text = old.text;
            mac_is = old.mac_is;
            text_is = λ h. text ∙ ap (λ h. rules.label ∷ setup.direction ∷ h)
                (sym on.bytes ∙ sym (ap (λ d. live_bytes rules d) is));
          };
          answers = subst Q (sym step.0) step.2;
        }

    -- Any tick that isn't forwarded and closes no burst is passed over.
    pub advance-passing : (t : Tick) (cut : Cut) → cut_of rules line t ≡ cut → IsPassing cut
        → On last earliest (drop 1 unsent) mac t (noteless (first_of unsent))
    advance-passing Silent cut is passing =
        advance-open (λ closed. absurd (passing-open rules line cut passing (sym is ∙ closed)))
    advance-passing (Byte b) cut is passing =
        ⊎_elim
        (λ early. advance-early b early)
        (λ late. advance-extra b (passing-byte rules line b cut is passing) late)
        (cases_lt (start_so_far (line ++ Byte b ∷ [])) earliest)

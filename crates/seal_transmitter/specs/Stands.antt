-- What a transmitter represents: its setup, and the ticks that it has taken.
use Rattle.std.specs.Prelude.{◌≡◌, ℕ, ◌+◌, ◌-◌, ◌<◌, ◌≤◌, List, ◌∷◌, ◌++◌, [], length, map}
use Rattle.std.specs.Prelude.{Option, IfSome, slice_index_or}
use Rattle.yasir_ticks.specs.Bursts.{Burst, bursts}
use Rattle.yasir_ticks.specs.declared.TheConstants.{T3_5_TICKS}
use Rattle.yasir_ticks.specs.declared.tick.Tick.{Tick}
use Rattle.yasir_ticks.specs.declared.tick.Tick.TheVariants.{Silent, Byte}
use Rattle.line_rules.specs.Rules.{Rules}
use Rattle.line_rules.specs.declared.line_rules.LineRules.{Ghosts as LineRules}
use Rattle.frame_ending.specs.LiveBytes.{live_bytes}
use Rattle.frame_ending.specs.Stands.{CutStandsFor, ticks_taken as ticks_cut}
use Rattle.frame_ending.specs.Laid.{tick_at}
use Rattle.frame_ending.specs.HasCome.{HasCome}
use Rattle.link_format.specs.declared.tag.Mac.{Ghosts as Mac}
use Rattle.link_format.specs.Tag.{direction_number}
use Rattle.link_format.specs.NumberedFrame.{last_number}
use Rattle.link_format.specs.Profile.{Profile, profile_of}
use Rattle.link_format.specs.Setup.{Setup}
use Rattle.link_format.specs.Trailers.{bytes_unsent}
use Rattle.sequence_journal.specs.declared.journal.Journal.{Journal}
use Rattle.sequence_journal.specs.declared.numbers.TheConstants.{LIMIT}
use Rattle.sequence_journal.specs.Journal.{journal_floor}
use Rattle.seal_transmitter.specs.Answers.{SealerAnswersTick}
use Rattle.link_box.specs.Sealing.{SealState, sealer, at_floor, sealed}
use Rattle.frame_ending.specs.declared.box_step.BoxStep.{BoxStep}
use Rattle.link_box.specs.declared.seal_note.SealNote.{SealNote}
use Rattle.seal_transmitter.specs.declared.sealer.Sealer.{Sealer}

-- tick `i` of the link, if the bytes `unsent` are sent from tick `m` on, and silence after them
abbrev pub sent_at : ℕ → List ℕ → ℕ → Tick
sent_at m unsent i = slice_index_or (map (λ b. Byte b) unsent) (i - m) Silent

-- Holds if, before tick `m`, the walk over the bursts `ds` has come to the state `s`, and only the
-- burst `running`, if there is one, isn't noted. Of what the other bursts emit, the bytes `unsent`
-- are still to be sent, the last of them at least four silent ticks before a burst may be sealed
-- again.
pub record SealerHasWalked (profile : Profile) (rules : Rules) (floor m : ℕ) (ds : List Burst)
    (s : SealState)
    (unsent : List ℕ) (running : Option Burst) : Type 0 where
  pub emissions : List Burst
  pub come : HasCome (sealer profile rules) (at_floor floor) m ds s emissions running
  pub sends : (i : ℕ) → m ≤ i → tick_at emissions i ≡ sent_at m unsent i
  pub in_time : 0 < length unsent → m + length unsent + T3_5_TICKS ≤ s.earliest_start

module _ {R M : Type 0} (proto : LineRules R) (macs : Mac M) where
  -- Holds if a transmitter with words of `word_len` bytes has come so far over the line: `last` is
  -- the last number that it used, a burst that starts before tick `earliest` is early, the bytes
  -- `unsent` are still to be sent, and `mac` is the MAC of the running burst.
  pub record SealerWalks (word_len last earliest : ℕ) (unsent : List ℕ) (mac : M) (setup : Setup)
      (line : List Tick) : Type 0 where
    pub running : Option Burst
    pub walked : SealerHasWalked (profile_of proto macs word_len LIMIT setup) proto.rules setup.floor
        (length line) (bursts line) (record { floor = last; earliest_start = earliest }) unsent
        running
    -- the text of the tag so far, if a burst is running and isn't early
    pub text : List ℕ
    pub mac_is : macs.stands mac setup.key text
    pub text_is : IfSome running (λ d. earliest ≤ d.start
        → text ≡ proto.rules.label ∷ setup.direction ∷ live_bytes proto.rules d)

  -- Holds if the transmitter, with this setup, has taken the ticks of `line`, and `last` is the
  -- last number that it used.
  pub record SealerStandsAt {B : ℕ} (value : Sealer R M B) (last : ℕ) (setup : Setup) (line : List Tick) :
      Type 0 where
    pub direction_is : direction_number value.direction ≡ setup.direction
    pub cuts : CutStandsFor proto value.cut line
    pub walks : SealerWalks B last value.earliest_start (bytes_unsent value.trailer) value.mac setup line

  -- Holds if the transmitter, with this setup, has taken the ticks of `line`, and its journal is
  -- `journal`.
  abbrev pub SealerStandsFor : {B : ℕ} → Sealer R M B → Journal → Setup → List Tick → Type 0
  SealerStandsFor value journal setup line = SealerStandsAt value (journal_floor journal) setup line

  -- Holds if the transmitter, after `line`, has taken the tick `t` as well: it represents both, the
  -- last number used is that of the last sealed frame, and `step` is what the definitions say.
  pub record SealerHasTaken {B : ℕ} (value : Sealer R M B) (last : ℕ) (setup : Setup) (line : List Tick)
      (t : Tick)
      (step : BoxStep SealNote) : Type 0 where
    pub stands : SealerStandsAt value last setup (line ++ t ∷ [])
    pub floor : last ≡ last_number setup.floor
        (sealed (profile_of proto macs B LIMIT setup) proto.rules setup.floor (line ++ t ∷ []))
    pub answers : SealerAnswersTick (profile_of proto macs B LIMIT setup) proto.rules setup.floor line t
        step

-- how many ticks the transmitter has taken
abbrev pub sealer_ticks : {R M : Type 0} {B : ℕ} → Sealer R M B → ℕ
sealer_ticks value = ticks_cut value.cut

-- the number of the transmitter's direction
abbrev pub sealer_direction : {R M : Type 0} {B : ℕ} → Sealer R M B → ℕ
sealer_direction value = direction_number value.direction

-- What is counted of the transmitter and the receiver.
use Rattle.std.specs.Prelude.{ℕ, Bool, true, false, List, length, replicate, Option, Some, None}
use Rattle.std.specs.List.{filter}
use Rattle.yasir_ticks.specs.declared.tick.Tick.{Tick}
use Rattle.line_rules.specs.Rules.{Rules}
use Rattle.line_rules.specs.declared.line_rules.LineRules.{Ghosts as LineRules}
use Rattle.link_format.specs.declared.tag.Mac.{Ghosts as Mac}
use Rattle.frame_ending.specs.Walk.{Noted}
use Rattle.link_format.specs.Profile.{Profile, profile_of}
use Rattle.link_format.specs.Setup.{Setup}
use Rattle.sequence_journal.specs.declared.numbers.TheConstants.{LIMIT}
use Rattle.link_box.specs.Sealing.{FullNote as SealFull, seal_notes, link_line, sealed}
use Rattle.link_box.specs.Sealing.FullNote.{sealed_note, unsealed_note}
use Rattle.link_box.specs.declared.seal_note.SealNote.{SealNote}
use Rattle.link_box.specs.declared.seal_note.SealNote.TheVariants.{Sealed, Unsealed}
use Rattle.link_box.specs.Checking.{FullNote as CheckFull, check_notes, passed, received_line}
use Rattle.link_box.specs.Checking.FullNote.{passed_note, refused_note, dropped_note}
use Rattle.link_box.specs.declared.check_note.CheckNote.{CheckNote}
use Rattle.link_box.specs.declared.check_note.CheckNote.TheVariants as Check
use Rattle.trial_session.specs.Counting.{Counting}
use Rattle.trial_session.specs.declared.fate.Fate.{Fate}
use Rattle.trial_session.specs.declared.fate.Fate.TheVariants.{Through, Refused, Dropped}

-- the setup of both boxes: a key of sixteen bytes 0, direction `ab`, and a new journal
abbrev pub trial_setup : Setup
trial_setup = record { key = replicate 16 0; direction = 0; floor = 0 }

-- the profile of a protocol and a MAC with words of this many bytes, with that setup
abbrev pub trial_profile : {R M : Type 0} → LineRules R → Mac M → ℕ → Profile
trial_profile proto macs word_len = profile_of proto macs word_len LIMIT trial_setup

-- the fate that a box tells of the note of a step, if there is a note
abbrev pub told_in_trial : {A : Type 0} → (A → Fate) → Option A → Option Fate
told_in_trial fate_of None = None
told_in_trial fate_of (Some note) = Some (fate_of note)

-- ---- the transmitter

-- the fate of the burst that a note of the transmitter is about
abbrev pub fate_sealed : SealNote → Fate
fate_sealed (Sealed number start len) = Through
fate_sealed (Unsealed start why) = Refused

-- whether the burst of a note wasn't sealed
abbrev pub is_unsealed : SealFull → Bool
is_unsealed (sealed_note number start frame) = false
is_unsealed (unsealed_note start why) = true

-- the bursts of a line that aren't sealed
abbrev pub unsealed : Profile → Rules → List Tick → List (Noted SealFull)
unsealed profile rules line = filter (λ n. is_unsealed n.note) (seal_notes profile rules 0 line)

-- what a transmitter with floor 0 makes of a line, and how many of its bursts have each fate
abbrev pub seal_counting : Profile → Rules → Counting
seal_counting profile rules = record {
  other_line = λ line. link_line profile rules 0 line;
  through = λ line. length (sealed profile rules 0 line);
  refused = λ line. length (unsealed profile rules line);
  dropped = λ line. 0;
}

-- `seal_counting` for the profile of a protocol and a MAC, with words of this many bytes
abbrev pub trial_sealing : {R M : Type 0} → LineRules R → Mac M → ℕ → Counting
trial_sealing proto macs word_len = seal_counting (trial_profile proto macs word_len) proto.rules

-- ---- the receiver

-- the fate of the burst that a note of the receiver is about
abbrev pub fate_checked : CheckNote → Fate
fate_checked (Check.Passed number start len) = Through
fate_checked (Check.Refused start why) = Refused
fate_checked (Check.Dropped start why) = Dropped

-- whether the burst of a note was refused
abbrev pub is_refused : CheckFull → Bool
is_refused (passed_note number start frame) = false
is_refused (refused_note start why) = true
is_refused (dropped_note start why) = false

-- whether the burst of a note was dropped
abbrev pub is_dropped : CheckFull → Bool
is_dropped (passed_note number start frame) = false
is_dropped (refused_note start why) = false
is_dropped (dropped_note start why) = true

-- the bursts of a link that are refused
abbrev pub refused : Profile → Rules → List Tick → List (Noted CheckFull)
refused profile rules link = filter (λ n. is_refused n.note) (check_notes profile rules 0 link)

-- the bursts of a link that are dropped
abbrev pub dropped : Profile → Rules → List Tick → List (Noted CheckFull)
dropped profile rules link = filter (λ n. is_dropped n.note) (check_notes profile rules 0 link)

-- what a receiver with floor 0 makes of a link, and how many of its bursts have each fate
abbrev pub check_counting : Profile → Rules → Counting
check_counting profile rules = record {
  other_line = λ link. received_line profile rules 0 link;
  through = λ link. length (passed profile rules 0 link);
  refused = λ link. length (refused profile rules link);
  dropped = λ link. length (dropped profile rules link);
}

-- `check_counting` for the profile of a protocol and a MAC, with words of this many bytes
abbrev pub trial_checking : {R M : Type 0} → LineRules R → Mac M → ℕ → Counting
trial_checking proto macs word_len = check_counting (trial_profile proto macs word_len) proto.rules

-- The transmitter as a box of a link.
use Rattle.std.specs.Prelude.{ℕ}
use Rattle.line_rules.specs.declared.line_rules.LineRules.{Ghosts as LineRules}
use Rattle.link_format.specs.declared.tag.Mac.{Ghosts as Mac}
use Rattle.link_format.specs.Profile.{profile_of}
use Rattle.link_box.specs.Walking.{Walking}
use Rattle.sequence_journal.specs.declared.numbers.TheConstants.{LIMIT}
use Rattle.seal_transmitter.specs.Answers.{brief_seal_note}
use Rattle.link_box.specs.Sealing.{SealState, FullNote, sealer, at_floor, sealed_in}
use Rattle.link_box.specs.declared.seal_note.SealNote.{SealNote}

-- the walk of the transmitter, for the rules of a protocol and a MAC, with words of this many bytes
abbrev pub seal_walking : {R M : Type 0} → LineRules R → Mac M → ℕ → Walking SealNote
seal_walking proto macs word_len = record {
  State = SealState;
  Full = FullNote;
  walker = λ setup. sealer (profile_of proto macs word_len LIMIT setup) proto.rules;
  begun = λ setup. at_floor setup.floor;
  brief = brief_seal_note;
  frame_in = sealed_in;
}

-- The link of a box.
use Rattle.std.specs.Prelude.{ℕ, ◌+◌}
use Rattle.line_rules.specs.declared.line_rules.LineRules.{Ghosts as LineRules}
use Rattle.link_format.specs.declared.tag.Mac.{Ghosts as Mac}
use Rattle.sequence_journal.specs.declared.link.LinkId.{LinkId}

-- The link of a box, as its journals name it, for the rules of a protocol, a MAC, words of this
-- many bytes and the direction with this number. It has the protocol's label, the direction, and
-- the receiver's delay in ticks, which is four ticks longer than the trailer (the word and the
-- tag).
abbrev pub link_by : {R M : Type 0} → LineRules R → Mac M → ℕ → ℕ → LinkId
link_by proto macs word_len direction = record {
  label = proto.rules.label;
  dir = direction;
  profile = 4 + word_len + macs.TAG;
}

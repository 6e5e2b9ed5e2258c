-- The rules of a protocol under another label. No law but that of the numbers speaks of the label.
use Rattle.std.specs.Prelude.{◌≡◌, ℕ, refl}
use Rattle.line_rules.specs.Rules.{Rules}
use Rattle.line_rules.specs.RulesLaws.{IsLawful, IsHeaded, IsFramed, IsFilling, HasNumbers}
use Rattle.line_rules.specs.Spoiling.{IsSpoiling}

-- these rules, with this label
abbrev pub relabelled : ℕ → Rules → Rules
relabelled label rules = record rules { label = label }

module _ (label : ℕ) (rules : Rules) where
  pub relabelled-lawful : IsLawful rules → IsLawful (relabelled label rules)
  relabelled-lawful laws = record {
    some_room = laws.some_room;
    fits = laws.fits;
    stays = laws.stays;
    bounded = laws.bounded;
  }

  pub relabelled-headed : IsHeaded rules → IsHeaded (relabelled label rules)
  relabelled-headed laws = record {
    short = laws.short;
    room_for_header = laws.room_for_header;
  }

  pub relabelled-framed : IsFramed rules → IsFramed (relabelled label rules)
  relabelled-framed laws = record {
    some_byte = laws.some_byte;
    good_header = laws.good_header;
    whole = laws.whole;
    has_room = laws.has_room;
  }

  pub relabelled-filling : IsFilling rules → IsFilling (relabelled label rules)
  relabelled-filling laws = record { has_room = laws.has_room; lessens = laws.lessens }

  pub relabelled-spoiling : IsSpoiling rules → IsSpoiling (relabelled label rules)
  relabelled-spoiling laws = record {
    no_frame = laws.no_frame;
    no_right_ending = laws.no_right_ending;
    kept = laws.kept;
    turned = laws.turned;
  }

  pub relabelled-numbers : (longest : ℕ) → rules.longest ≡ longest
      → HasNumbers (relabelled label rules) longest label
  relabelled-numbers longest is = record { longest_is = is; label_is = refl }

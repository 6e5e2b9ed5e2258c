-- The link that a journal serves.
use Rattle.std.specs.Prelude.{◌≡◌, ℕ, ◌||◌, Bool, true, nat_eq, List, [], ◌∷◌}
use Rattle.sequence_journal.specs.declared.link.LinkId.{LinkId}

-- whether there is a direction with this link's number: it is 0 or 1
abbrev pub has_direction : LinkId → Bool
has_direction link = nat_eq link.dir 0 || nat_eq link.dir 1

-- Holds if there is a direction with this link's number. Journals serve such links, whatever their
-- labels and profiles are.
abbrev pub HasDirection : LinkId → Type 0
HasDirection link = has_direction link ≡ true

-- the bytes of a slot between its number and the complement: the link, and the version of the slot,
-- which is 2
abbrev pub link_bytes : LinkId → List ℕ
link_bytes link = link.label ∷ link.dir ∷ link.profile ∷ 2 ∷ []

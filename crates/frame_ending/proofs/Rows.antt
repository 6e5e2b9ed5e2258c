-- What ticks are, computed from the definition: bytes with one silent tick between them, two silent
-- ticks inside a burst, three and four silent ticks before a byte, and more bytes than there is
-- room for.
use Rattle.frame_ending.specs.{Cuts.cuts_after, LiveBytes.before_pause, LiveBytes.has_pause}
use Rattle.frame_ending.specs.{LiveBytes.up_to_byte, SoFar.last_of, SoFar.start_so_far}
use Rattle.frame_ending.specs.SoFar.{last_live_so_far, live_bytes_so_far, has_extra_so_far}
use Rattle.frame_ending.specs.{SoFar.is_over_so_far, declared.cut.Cut.TheVariants.Start}
use Rattle.frame_ending.specs.declared.cut.Cut.TheVariants.{Live, Extra, Pause, Closed, Quiet}
use Rattle.line_rules.specs.{Headerless.headerless, Rules.Rules}
use Rattle.std.proofs.Common.{◌≡◌, ℕ, true, false, List, [], ◌∷◌, ◌++◌, refl}
use Rattle.yasir_ticks.specs.{Bursts.with_byte, Bursts.bursts_from, Ticks.silent}
use Rattle.yasir_ticks.specs.declared.tick.Tick.{Tick, TheVariants.Silent, TheVariants.Byte}

-- rules with room for this many bytes, and no frames
abbrev with_room : ℕ → Rules
with_room n = headerless 1 n (λ x. false) (λ x. false)

pub apart : cuts_after (with_room 256) []
    (Silent ∷ Byte 1 ∷ Silent ∷ Byte 3 ∷ Silent ∷ Byte 64 ∷ [])
    ≡ Quiet ∷ Start 1 ∷ Pause 1 ∷ Live 3 ∷ Pause 1 ∷ Live 64 ∷ []
unfolding with_byte bursts_from before_pause has_pause up_to_byte last_of
apart = refl

pub parted : cuts_after (with_room 256) []
    (Byte 1 ∷ Byte 3 ∷ Silent ∷ Silent ∷ Byte 64 ∷ Byte 33 ∷ silent 5)
    ≡ Start 1 ∷ Live 3 ∷ Pause 1 ∷ Pause 2 ∷ Extra 64 ∷ Extra 33 ∷ Pause 1 ∷ Pause 2 ∷ Pause 3
    ∷ Closed ∷ Quiet ∷ []
unfolding with_byte bursts_from before_pause has_pause up_to_byte last_of
parted = refl

pub three_and_four : cuts_after (with_room 256) []
    (Byte 1 ∷ Silent ∷ Silent ∷ Silent ∷ Byte 2 ∷ silent 4 ++ Byte 3 ∷ [])
    ≡ Start 1 ∷ Pause 1 ∷ Pause 2 ∷ Pause 3 ∷ Extra 2 ∷ Pause 1 ∷ Pause 2 ∷ Pause 3 ∷ Closed
    ∷ Start 3 ∷ []
unfolding with_byte bursts_from before_pause has_pause up_to_byte last_of
three_and_four = refl

pub no_room : cuts_after (with_room 2) [] (Byte 1 ∷ Byte 2 ∷ Byte 3 ∷ [])
    ≡ Start 1 ∷ Live 2 ∷ Extra 3 ∷ []
unfolding with_byte bursts_from before_pause has_pause up_to_byte last_of
no_room = refl

-- a burst with two silent ticks inside
abbrev parted_line : List Tick
parted_line = silent 3 ++ Byte 1 ∷ Byte 3 ∷ Silent ∷ Silent ∷ Byte 64 ∷ []

pub parted_burst : (start_so_far parted_line ≡ 3)
    × (live_bytes_so_far (with_room 256) parted_line ≡ 1 ∷ 3 ∷ [])
    × (last_live_so_far (with_room 256) parted_line ≡ 4)
    × (has_extra_so_far (with_room 256) parted_line ≡ true)
    × (is_over_so_far (with_room 256) parted_line ≡ true)
unfolding with_byte bursts_from before_pause has_pause up_to_byte last_of
parted_burst = (refl, refl, refl, refl, refl)

pub before_second_silence : (is_over_so_far (with_room 256) (Byte 1 ∷ Byte 3 ∷ Silent ∷ []) ≡ false)
    × (is_over_so_far (with_room 256) (Byte 1 ∷ Byte 3 ∷ Silent ∷ Silent ∷ []) ≡ true)
    × (has_extra_so_far (with_room 256) (Byte 1 ∷ Byte 3 ∷ Silent ∷ Silent ∷ []) ≡ false)
    × (is_over_so_far (with_room 2) (Byte 1 ∷ Byte 3 ∷ []) ≡ true)
unfolding with_byte bursts_from before_pause has_pause up_to_byte last_of
before_second_silence = (refl, refl, refl, refl)

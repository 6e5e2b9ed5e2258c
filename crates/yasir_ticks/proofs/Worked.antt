-- The definitions of tick text, applied to small texts.
use Rattle.hex.specs.Hex.{decode_pairs, encode_with}
use Rattle.std.proofs.Common.{◌≡◌, [], ◌∷◌, ◌++◌, replicate, codes, Some, None, refl, arith}
use Rattle.std.specs.Fmt.{digits}
use Rattle.yasir_ticks.proofs.Digits.{silence_items-right, silence_items-big}
use Rattle.yasir_ticks.specs.CanonicalText.{canonical_text, stretch_lines, Stretch.silence}
use Rattle.yasir_ticks.specs.TickText.{lines_of, line_items, silence_items, IsTickText, fault_after}
use Rattle.yasir_ticks.specs.{TickText.fault_at_end, TickText.line_after, Ticks.Item.tick}
use Rattle.yasir_ticks.specs.{Ticks.Item.mark, declared.fault.TickFault.TheVariants.Char}
use Rattle.yasir_ticks.specs.declared.fault.TickFault.TheVariants.{Odd, Long, Count, Empty, Mark}
use Rattle.yasir_ticks.specs.declared.tick.Tick.TheVariants.{Silent, Byte}

-- each kind of line, ended by LF or by CR and LF, and a last line without an LF
accepts_each_kind : IsTickText 1 (codes "+0aF5" ++ 13 ∷ 10 ∷ 10 ∷ codes "# a" ++ 13 ∷ 10 ∷ 13 ∷ 10
    ∷ codes "%" ++ 10 ∷ codes "-3")
    (tick (Byte 10) ∷ tick (Byte 245) ∷ mark ∷ tick Silent ∷ tick Silent ∷ tick Silent ∷ [])
unfolding lines_of line_items decode_pairs
accepts_each_kind = record { lines = refl; marked = refl }

-- two lines, each of them a mark
accepts_two_marks : IsTickText 2 (codes "%" ++ 13 ∷ 10 ∷ codes "%") (mark ∷ mark ∷ [])
unfolding lines_of line_items
accepts_two_marks = record { lines = refl; marked = refl }

accepts_nothing : IsTickText 0 [] []
unfolding lines_of line_items
accepts_nothing = record { lines = refl; marked = refl }

-- the longest silence of one line, and then one tick more
longest_silence : silence_items (codes "1000000") ≡ Some (replicate 1000000 (tick Silent))
longest_silence = silence_items-right (codes "1000000") 1000000 refl refl (omega arith)

no_longer_silence : silence_items (codes "1000001") ≡ None
no_longer_silence = silence_items-big (codes "1000001") (omega arith)

-- contents of no right form, and comments of 120 bytes and of 121
rows : (line_items (codes "%1") ≡ None) × (line_items (codes "-07") ≡ None)
    × (line_items (codes "-0") ≡ None) × (line_items (codes "+1") ≡ None)
    × (line_items (43 ∷ replicate 66 48) ≡ None)
    × (line_items (35 ∷ replicate 120 13) ≡ Some [])
    × (line_items (35 ∷ replicate 121 13) ≡ None)
unfolding line_items decode_pairs
rows = (refl, refl, refl, refl, refl, refl, refl)

-- Why a byte, or the end, is refused. `Count` is for a number that begins with 0 or is too large.
counts : (fault_after (codes "-") 48 ≡ Count) × (fault_after (codes "-100000") 49 ≡ Count)
unfolding lines_of
counts = (refl, refl)

-- `Odd` is for half a pair, before an LF and at the end; `Empty` is for no pair and for no number
odd_or_empty : (fault_after (codes "+1") 10 ≡ Odd) × (fault_at_end (codes "+1") ≡ Odd)
    × (fault_at_end (codes "+") ≡ Empty) × (fault_after (codes "-") 13 ≡ Empty)
unfolding lines_of line_items decode_pairs
odd_or_empty = (refl, refl, refl, refl)

-- `Long` is for digit 65 and for byte 121 of a comment; after 64 digits, a byte that is no digit is
-- `Char`
long_lines : (fault_after (43 ∷ replicate 64 48) 65 ≡ Long)
    × (fault_after (35 ∷ replicate 120 97) 13 ≡ Long)
    × (fault_after (43 ∷ replicate 64 48) 103 ≡ Char)
unfolding lines_of
long_lines = (refl, refl, refl)

-- `Char` is for a byte that must be a digit or a sign and is none, for a byte after a CR or after a
-- mark, and for a mark if none is left
misplaced : (fault_after (codes "+0") 103 ≡ Char) × (fault_after [] 120 ≡ Char)
    × (fault_after (codes "+0a" ++ 13 ∷ []) 120 ≡ Char) × (fault_after (codes "%") 37 ≡ Char)
    × (fault_after [] 37 ≡ Char) × (fault_after (codes "%" ++ 10 ∷ []) 37 ≡ Char)
unfolding lines_of
misplaced = (refl, refl, refl, refl, refl, refl)

-- `Mark` is for a missing mark, in line 2
missing : (fault_at_end (codes "+01") ≡ Mark) × (line_after (codes "+01" ++ 10 ∷ []) ≡ 2)
unfolding lines_of line_items decode_pairs
missing = (refl, refl)

-- the canonical text
canonical_nothing : canonical_text [] ≡ []
canonical_nothing = refl

canonical_short : canonical_text (Byte 1 ∷ Byte 171 ∷ Silent ∷ Silent ∷ Byte 0 ∷ [])
    ≡ codes "+01ab" ++ 10 ∷ codes "-2" ++ 10 ∷ codes "+00" ++ 10 ∷ []
unfolding encode_with digits
canonical_short = refl

canonical_34_bytes : canonical_text (replicate 34 (Byte 0))
    ≡ 43 ∷ replicate 64 48 ++ 10 ∷ codes "+0000" ++ 10 ∷ []
unfolding encode_with
canonical_34_bytes = refl

canonical_32_bytes : canonical_text (replicate 32 (Byte 0)) ≡ 43 ∷ replicate 64 48 ++ 10 ∷ []
unfolding encode_with
canonical_32_bytes = refl

canonical_long_silence : stretch_lines (silence 2000003)
    ≡ codes "-1000000" ++ 10 ∷ codes "-1000000" ++ 10 ∷ codes "-3" ++ 10 ∷ []
unfolding digits
canonical_long_silence = refl

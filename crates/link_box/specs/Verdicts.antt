-- The receiver's verdict on a burst of the link.
use Rattle.std.specs.Prelude.{ℕ, ◌+◌, nat_lt, List, take, drop, length, bytes_eq}
use Rattle.std.specs.Prelude.{Option, Some, None, if◌then◌else◌}
use Rattle.yasir_ticks.specs.Ticks.{bytes_in}
use Rattle.yasir_ticks.specs.Bursts.{Burst}
use Rattle.yasir_ticks.specs.declared.tick.Tick.{Tick}
use Rattle.line_rules.specs.Rules.{Rules, head_of}
use Rattle.line_rules.specs.declared.head.Head.{Head}
use Rattle.line_rules.specs.declared.head.Head.TheVariants.{Short, Good, Bad}
use Rattle.frame_ending.specs.LiveBytes.{live_bytes, live_ticks}
use Rattle.link_format.specs.Profile.{Profile, pause_len, trailer_len, trailer_shape, words}
use Rattle.link_format.specs.Profile.{word_of}
use Rattle.sequence_journal.specs.Numbers.{full_of}
use Rattle.link_box.specs.Shapes.{kept}
use Rattle.link_box.specs.declared.check_note.RefusedWhy.{RefusedWhy}
use Rattle.link_box.specs.declared.check_note.RefusedWhy.TheVariants.{Trailer, Form, Number}
use Rattle.link_box.specs.declared.check_note.RefusedWhy.TheVariants.{Tag}
use Rattle.link_box.specs.declared.check_note.DroppedWhy.{DroppedWhy}
use Rattle.link_box.specs.declared.check_note.DroppedWhy.TheVariants.{Busy, Head as NoHead}

-- what the receiver knows between bursts
pub record CheckState : Type 0 where
  -- the number of the last passed burst, or the floor of the journal if none has passed yet
  pub floor : ℕ
  -- a burst that starts before this tick meets a busy receiver
  pub earliest_start : ℕ

-- what happens to a burst: it passes with a number, or it is refused or dropped for a reason
pub data Verdict : Type 0 where
  passed_with : (number : ℕ) → Verdict
  refused : RefusedWhy → Verdict
  dropped : DroppedWhy → Verdict

-- ---- what follows the live bytes

-- the ticks of a burst after its last live byte
abbrev pub after_live : Rules → Burst → List Tick
after_live rules d = drop (length (live_ticks rules d)) d.body

-- how many of the first ticks after the live bytes keep the shape of a pause and a trailer
abbrev pub kept_after : Profile → Rules → Burst → ℕ
kept_after profile rules d = kept (trailer_shape profile) (after_live rules d)

-- the bytes of the trailer, if the shape is kept
abbrev pub trailer_of : Profile → Rules → Burst → List ℕ
trailer_of profile rules d =
    bytes_in (take (trailer_len profile) (drop pause_len (after_live rules d)))

-- ---- the verdict

-- the number of a trailer: the least one above the floor with its word, or `None` if that is above
-- the limit
abbrev pub number_of : Profile → ℕ → List ℕ → Option ℕ
number_of profile floor bytes = full_of profile.limit (words profile) floor (word_of profile bytes)

-- the tag that a trailer has
abbrev pub tag_in : Profile → List ℕ → List ℕ
tag_in profile bytes = drop profile.word_len bytes

-- the verdict by the number of a trailer: a frame passes if the trailer has the tag of that number
-- and the frame
abbrev pub verdict_by_number : Profile → List ℕ → List ℕ → Option ℕ → Verdict
verdict_by_number profile frame bytes None = refused Number
verdict_by_number profile frame bytes (Some number) =
    if bytes_eq (tag_in profile bytes) (profile.tag number frame) then passed_with number
    else refused Tag

-- the verdict on live bytes that a whole trailer follows
abbrev pub whole_verdict : Profile → Rules → ℕ → List ℕ → List ℕ → Verdict
whole_verdict profile rules floor frame bytes =
    if rules.is_frame frame
    then verdict_by_number profile frame bytes (number_of profile floor bytes)
    else refused Form

-- the verdict on a burst that isn't dropped: it is refused if no whole trailer follows its live
-- bytes, and otherwise its frame, its number and its tag decide, in this order
unfoldable pub verdict_of : Profile → Rules → ℕ → Burst → Verdict
verdict_of profile rules floor d =
    if nat_lt (kept_after profile rules d) (pause_len + trailer_len profile) then refused Trailer
    else whole_verdict profile rules floor (live_bytes rules d) (trailer_of profile rules d)

-- the verdict by the header: a burst whose header isn't good is dropped
abbrev pub verdict_by_head : Head → Verdict → Verdict
verdict_by_head Good verdict = verdict
verdict_by_head Short verdict = dropped NoHead
verdict_by_head Bad verdict = dropped NoHead

-- The verdict on a burst. It is dropped if it starts while the receiver is busy, or if its header
-- isn't good, and otherwise it has the verdict of `verdict_of`.
unfoldable pub checked : Profile → Rules → CheckState → Burst → Verdict
checked profile rules s d =
    if nat_lt d.start s.earliest_start then dropped Busy
    else verdict_by_head (head_of rules (live_bytes rules d)) (verdict_of profile rules s.floor d)

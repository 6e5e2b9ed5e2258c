use Rattle.session_lists.proofs.InPlace.{kept-at, is-below, is-past, is-there}
use Rattle.session_lists.specs.FrameBox.{kept_frames, kept_numbered}
use Rattle.{std.proofs.Common.◌≡◌}
use Rattle.std.proofs.Common.{◌∙◌, ◌-◌, ◌<◌, length, get_or, bytes_eq, sym, ap, arith}
use Rattle.std.proofs.{lemmas.List.length-map}
use Rattle.session_lists.proofs.places.is_at_its_number.Goals as goal

pub returns-then-number-floor : goal.returns-then-number-floor
returns-then-number-floor c = λ listed f holds number frame.
    sym (is-below c.args.floor listed f (omega (arith, number, c.if-number-floor.true)))

pub returns-then-place-len : goal.returns-then-place-len
returns-then-place-len c = λ listed f holds number frame.
    let all : c.len.result ≡ length listed =
    c.len.ensures.frames (kept_frames listed) holds ∙ length-map listed kept_numbered in
    sym (is-past c.args.floor listed f
    (omega (arith, all, number, c.if-number-floor.false, c.if-place-len.true)))

pub returns : goal.returns
returns c = λ listed f holds number frame.
    let place = c.args.number - c.args.floor - 1 in
    let all : c.len.result ≡ length listed =
    c.len.ensures.frames (kept_frames listed) holds ∙ length-map listed kept_numbered in
    let within : place < length listed = omega (arith, all, c.if-place-len.false) in
    c.eq.ensures
    ∙ ap (λ bytes. bytes_eq bytes c.args.bytes.now)
    (c.bytes.ensures.frame (kept_frames listed) (kept_numbered f) holds
    ∙ kept-at listed f place within)
    ∙ ap (λ bytes. bytes_eq (get_or listed place f).frame bytes) (sym frame)
    ∙ sym (is-there c.args.floor listed f place
    (omega (arith, number, c.if-number-floor.false)) within)

use Rattle.line_commands.proofs.NotesInOrder.{second-alone, first-alone, first-earlier}
use Rattle.line_commands.proofs.NotesInOrder.{second-earlier}
use Rattle.session_lists.{proofs.Lists.holds-length, specs.FrameList.KeptFrames}
use Rattle.std.proofs.Common.{◌<◌, ℕ, [], length, inl, inr, arith}
use Rattle.std.proofs.lemmas.Bool.{leb-true, leb-false}
use Rattle.line_commands.proofs.note_order.is_of_first.Goals as goal

none : KeptFrames ℕ
none = record { head = 0; frame = [] }

pub returns-then-places-len-clause-comes_before : goal.returns-then-places-len-clause-comes_before
returns-then-places-len-clause-comes_before c = λ is a b first second.
    let past = c.len.ensures.frames a first in
    let size = holds-length c.args.second.now b second in
    let some : c.args.places.second < length b = elim c.requires.some [
      | inl before ↦ absurd (omega (
        arith,
        before,
        past,
        c.if-places-len.true,
        holds-length c.args.first.now a first,
      ))
      | inr within ↦ omega (arith, within, size)
    ] in
    second-alone a b c.args.places.first c.args.places.second none
    (omega (arith, past, c.if-places-len.true)) some

pub returns-then-places-len-2-clause-comes_first :
    goal.returns-then-places-len-2-clause-comes_first
returns-then-places-len-2-clause-comes_first c = λ is a b first second.
    first-alone a b c.args.places.first c.args.places.second none
    (omega (
      arith,
      c.len.ensures.value,
      c.requires.first,
      c.if-places-len.false,
      holds-length c.args.first.now a first,
    ))
    (omega (arith, c.len-2.ensures.frames b second, c.if-places-len-2.true))

pub returns-clause-comes_first : goal.returns-clause-comes_first
returns-clause-comes_first c = λ is a b first second.
    let earlier = leb-true c.head.result c.head-2.result is in
    first-earlier a b c.args.places.first c.args.places.second none
    (omega (
      arith,
      c.len.ensures.value,
      c.requires.first,
      c.if-places-len.false,
      holds-length c.args.first.now a first,
    ))
    (omega (
      arith,
      c.len-2.ensures.value,
      c.requires.second,
      c.if-places-len-2.false,
      holds-length c.args.second.now b second,
    ))
    (omega (arith, earlier, c.head.ensures a none first, c.head-2.ensures b none second))

pub returns-clause-comes_before : goal.returns-clause-comes_before
returns-clause-comes_before c = λ is a b first second.
    let earlier = leb-false c.head.result c.head-2.result is in
    second-earlier a b c.args.places.first c.args.places.second none
    (omega (
      arith,
      c.len.ensures.value,
      c.requires.first,
      c.if-places-len.false,
      holds-length c.args.first.now a first,
    ))
    (omega (
      arith,
      c.len-2.ensures.value,
      c.requires.second,
      c.if-places-len-2.false,
      holds-length c.args.second.now b second,
    ))
    (omega (arith, earlier, c.head.ensures a none first, c.head-2.ensures b none second))

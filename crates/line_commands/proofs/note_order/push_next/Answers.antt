use Rattle.line_commands.proofs.NotesInOrder.{one-first, one-second}
use Rattle.line_commands.specs.NoteOrder.{MergedTo}
use Rattle.session_lists.{proofs.Lists.holds-length, specs.FrameList.KeptFrames}
use Rattle.std.proofs.Common.{◌+◌, ℕ, [], refl, subst, sym, arith}
use Rattle.line_commands.proofs.note_order.push_next.Goals as goal

none : KeptFrames ℕ
none = record { head = 0; frame = [] }

pub returns-then-is_of_first : goal.returns-then-is_of_first
returns-then-is_of_first c = record {
  merges = record {
    first_within = omega (arith, c.if-is_of_first.ensures.within refl);
    second_within = c.requires.merges.second_within;
    merged = λ a b first second n first_order second_order.
        subst (λ text. MergedTo n a b text (c.args.places.first + 1) c.args.places.second)
        (sym (c.in-Ok.ensures a none first))
        (one-first n a b c.args.text.now.items c.args.places.first c.args.places.second none
        (c.requires.merges.merged a b first second n first_order second_order)
        (omega (
          arith,
          c.if-is_of_first.ensures.within refl,
          holds-length c.args.first.now a first,
        ))
        (c.if-is_of_first.ensures.comes_first refl a b first second));
  };
  one = omega arith;
}

pub returns : goal.returns
returns c = record {
  merges = record {
    first_within = c.requires.merges.first_within;
    second_within = omega (arith, c.if-is_of_first.ensures.second refl);
    merged = λ a b first second n first_order second_order.
        subst (λ text. MergedTo n a b text c.args.places.first (c.args.places.second + 1))
        (sym (c.in-Ok-push_line.ensures b none second))
        (one-second n a b c.args.text.now.items c.args.places.first c.args.places.second none
        (c.requires.merges.merged a b first second n first_order second_order)
        (omega (
          arith,
          c.if-is_of_first.ensures.second refl,
          holds-length c.args.second.now b second,
        ))
        (c.if-is_of_first.ensures.comes_before refl a b first second));
  };
  one = omega arith;
}

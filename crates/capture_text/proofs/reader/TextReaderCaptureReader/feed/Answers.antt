use Rattle.std.proofs.Common.{◌++◌, ◌∷◌, [], ap, ◌∙◌}
use Rattle.std.specs.Option.{option_to_list}
use Rattle.capture_text.proofs.SeenTexts.{seen_more, seen_begins, seen_each, seen_none}
use Rattle.capture_text.proofs.reader.TextReaderCaptureReader.feed.Goals as goal

pub returns-in-Ok-clause-stands : goal.returns-in-Ok-clause-stands
returns-in-Ok-clause-stands c = λ text items s. record {
  bytes = s.bytes ++ option_to_list c.in-Ok.byte;
  stands = c.in-Ok.ensures.stands text s.bytes s.stands;
  items_are = ap (λ x. items ++ option_to_list x) c.seen.ensures
      ∙ seen_more s.bytes c.in-Ok.byte items s.items_are;
}

pub returns-in-Ok-clause-begins : goal.returns-in-Ok-clause-begins
returns-in-Ok-clause-begins c = λ text items s.
    seen_begins (text ++ c.args.b ∷ []) (s.bytes ++ option_to_list c.in-Ok.byte) _
    (c.in-Ok.ensures.begins text s.bytes s.stands)
    (ap (λ x. items ++ option_to_list x) c.seen.ensures
    ∙ seen_more s.bytes c.in-Ok.byte items s.items_are)

pub returns-in-Ok-clause-each : goal.returns-in-Ok-clause-each
returns-in-Ok-clause-each c = λ text items s.
    seen_each (text ++ c.args.b ∷ []) (s.bytes ++ option_to_list c.in-Ok.byte) _
    (c.in-Ok.ensures.begins text s.bytes s.stands)
    (ap (λ x. items ++ option_to_list x) c.seen.ensures
    ∙ seen_more s.bytes c.in-Ok.byte items s.items_are)

pub returns-in-Err-clause-refused : goal.returns-in-Err-clause-refused
returns-in-Err-clause-refused c = λ text items s.
    let parts = c.in-Err.ensures.refused text s.bytes s.stands in (
      seen_none (text ++ c.args.b ∷ []) parts.1,
      record {
        begins = seen_begins text s.bytes items parts.0 s.items_are;
        place = parts.2;
        cause = parts.3;
      },
    )

use Rattle.line_commands.proofs.BothKept.{keeps-whole, only-memory}
use Rattle.link_format.specs.Directions.{opposite_of}
use Rattle.{link_format.specs.Setup.setup_of}
use Rattle.std.proofs.Common.{refl}
use Rattle.line_commands.proofs.recording.record_both.Goals as goal

pub returns-in_default : goal.returns-in_default
returns-in_default g c = record {
  records = record {
    items = c.drive.ensures.driven.items;
    takes = c.drive.ensures.driven.takes;
    other = c.in_default.not-Whole;
    memory = only-memory g.S.LinkBox g.S.LineBox.line_of g.C.LinkBox g.C.LineBox.line_of
        c.new-both.result c.drive.new.consumer _ c.new-both.ensures.keeps
        c.new-both.ensures.unmarked _ _ c.drive.result c.drive.ensures.driven;
  };
  read = c.drive.ensures.read;
}

pub returns-in-Ok-clause-records : goal.returns-in-Ok-clause-records
returns-in-Ok-clause-records g c = record {
  items = c.in-Whole.ensures.driven.items;
  whole = c.in-Whole.ensures.driven.takes;
  texts = _;
  are = refl;
  holds = c.in-Ok.ensures (record {
    outgoing = setup_of c.args.key.now c.args.outgoing 0;
    incoming = setup_of c.args.key.now (opposite_of c.args.outgoing) 0;
  }) _ _ (keeps-whole g.S.LinkBox g.S.LineBox.line_of g.C.LinkBox g.C.LineBox.line_of
      c.new-both.result c.drive.new.consumer _ c.new-both.ensures.keeps
      c.new-both.ensures.unmarked _ _ _ c.in-Whole.ensures.driven refl);
}

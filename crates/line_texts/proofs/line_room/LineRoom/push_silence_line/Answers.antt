use Rattle.{line_texts.proofs.LineRooms.two_digits, std.proofs.lemmas.Fmt.decimal_digit}
use Rattle.line_texts.proofs.line_room.LineRoom.push_silence_line.Goals as goal

pub returns-then-ticks-lt10 : goal.returns-then-ticks-lt10
returns-then-ticks-lt10 c = rw (decimal_digit c.args.ticks c.if-ticks-lt10.true)
    c.extend_front.ensures

pub returns-then-ticks-lt100 : goal.returns-then-ticks-lt100
returns-then-ticks-lt100 c = rw (two_digits c.args.ticks c.if-ticks-lt10.false
    c.if-ticks-lt100.true) c.extend_front-then-ticks-lt100.ensures

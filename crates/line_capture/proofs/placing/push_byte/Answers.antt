use Rattle.line_capture.proofs.PlacedBytes.{line_fails, line_then}
use Rattle.line_texts.proofs.Added.{short_bytes_of}
use Rattle.std.proofs.Common.{◌∷◌, [], arith}
use Rattle.line_capture.proofs.placing.push_byte.Goals as goal

pub returns-in-Err : goal.returns-in-Err
returns-in-Err g c = line_fails g.O.Sink g.L.Sink _ _ _ _ _ c.in-Err.ensures

pub push_short-requires-clause-room : goal.push_short-requires-clause-room
push_short-requires-clause-room g c = c.in-Ok.ensures.room

pub push_short-requires-clause-short : goal.push_short-requires-clause-short
push_short-requires-clause-short g c = short_bytes_of (c.args.byte ∷ []) (omega arith)

pub returns : goal.returns
returns g c = line_then g.O.Sink g.L.Sink _ _ _ _ _ c.push_short.result c.in-Ok.ensures
    c.push_short.ensures

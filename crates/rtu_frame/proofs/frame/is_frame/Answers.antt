use Rattle.{rtu_frame.proofs.FrameLaws.last_byte_decides, std.proofs.Common.arith}
use Rattle.rtu_frame.proofs.frame.is_frame.Goals as goal

pub returns-then-bytes-length : goal.returns-then-bytes-length
returns-then-bytes-length c =
    last_byte_decides c.args.bytes.now c.to_le_bytes.result c.after_bytes.result (omega arith)
    (omega arith) (omega arith)
    c.after_bytes.ensures c.to_le_bytes.ensures c.if-bytes-length.true

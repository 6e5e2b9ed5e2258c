use Rattle.device_model.proofs.Forwarded.{burst-contiguous, forwarded-same, forwarded-whole}
use Rattle.device_model.proofs.Forwarded.{forwarded-read}
use Rattle.device_model.proofs.laws.forwarded_frames_are_read.Goals as goal

pub returns-clause-same : goal.returns-clause-same
returns-clause-same c = λ line d contains. forwarded-same d (burst-contiguous line d contains)

pub returns-clause-whole : goal.returns-clause-whole
returns-clause-whole c = λ line d contains framed.
    forwarded-whole d (burst-contiguous line d contains) framed

pub returns-clause-read : goal.returns-clause-read
returns-clause-read c = forwarded-read

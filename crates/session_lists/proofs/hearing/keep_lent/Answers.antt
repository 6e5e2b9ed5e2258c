use Rattle.device_model.specs.Frames.{frames_lent}
use Rattle.session_lists.specs.{FrameList.Holds, ReplayLists.kept_read, ReplayLists.kept_reads}
use Rattle.std.proofs.Common.{◌∙◌, ◌++◌, [], ◌∷◌, ap, sym, subst, append-nil}
use Rattle.std.proofs.lemmas.{List.map-append, Result.on_ok_weaker}
use Rattle.session_lists.proofs.hearing.keep_lent.Goals as goal

pub returns-in-None-clause-kept : goal.returns-in-None-clause-kept
returns-in-None-clause-kept g c = λ reads holds.
    subst (λ l. Holds c.args.frames.now (kept_reads l))
    (sym (ap (λ s. reads ++ frames_lent s (g.V.Device.lent c.args.device.now)) c.in-None.is
    ∙ append-nil reads)) holds

pub returns-in-Some-clause-kept : goal.returns-in-Some-clause-kept
returns-in-Some-clause-kept g c = on_ok_weaker c.push.result (λ pushed reads holds.
    subst (Holds c.push.new.self)
    (ap (λ x. kept_reads reads ++ record { head = c.in-Some.start; frame = x } ∷ [])
    c.frame_bytes.ensures.bytes
    ∙ sym (ap (λ s. kept_reads (reads ++ frames_lent s (g.V.Device.lent c.args.device.now))) c.in-Some.is
    ∙ map-append kept_read reads
    (record { start = c.in-Some.start; frame = g.V.Device.lent c.args.device.now } ∷ [])))
    (pushed (kept_reads reads) holds)) c.push.ensures.kept

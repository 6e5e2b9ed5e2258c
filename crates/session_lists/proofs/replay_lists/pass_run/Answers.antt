use Rattle.{frame_ending.specs.Answered.answered, session_lists.specs.FrameBox.AnswersFrameRun}
use Rattle.std.proofs.Common.{◌++◌, sym, subst}
use Rattle.std.proofs.lemmas.List.{take-map, take-replicate}
use Rattle.yasir_ticks.specs.declared.tick.Tick.TheVariants.{Silent, Byte}
use Rattle.session_lists.proofs.replay_lists.pass_run.Goals as goal

pub returns-in-Bytes-clause-stands : goal.returns-in-Bytes-clause-stands
returns-in-Bytes-clause-stands g c = rw c.in-Bytes.is (λ setup line before.
    subst (λ l. g.B.FrameBox.stands c.pass_bytes.new.self setup (line ++ l))
    (sym (take-map Byte c.pass_bytes.result c.in-Bytes.bytes.now))
    (c.pass_bytes.ensures.stands setup line before))

pub returns-in-Bytes-clause-answers : goal.returns-in-Bytes-clause-answers
returns-in-Bytes-clause-answers g c = rw c.in-Bytes.is (λ setup line before.
    subst (λ l. AnswersFrameRun (g.B.FrameBox.numbering setup) line l
    (answered c.pass_bytes.result c.pass_bytes.new.sent.items))
    (sym (take-map Byte c.pass_bytes.result c.in-Bytes.bytes.now))
    (c.pass_bytes.ensures.answers setup line before))

pub returns-in-Silence-clause-stands : goal.returns-in-Silence-clause-stands
returns-in-Silence-clause-stands g c = rw c.in-Silence.is (λ setup line before.
    subst (λ l. g.B.FrameBox.stands c.pass_silence.new.self setup (line ++ l))
    (sym (take-replicate c.pass_silence.result c.in-Silence.ticks Silent
    c.pass_silence.ensures.within))
    (c.pass_silence.ensures.stands setup line before))

pub returns-in-Silence-clause-answers : goal.returns-in-Silence-clause-answers
returns-in-Silence-clause-answers g c = rw c.in-Silence.is (λ setup line before.
    subst (λ l. AnswersFrameRun (g.B.FrameBox.numbering setup) line l
    (answered c.pass_silence.result c.pass_silence.new.sent.items))
    (sym (take-replicate c.pass_silence.result c.in-Silence.ticks Silent
    c.pass_silence.ensures.within))
    (c.pass_silence.ensures.answers setup line before))

use Rattle.line_commands.proofs.Filled.{then-front}
use Rattle.std.proofs.Common.{◌≡◌, ◌∙◌, ◌++◌, List, ℕ, ap, codes, subst}
use Rattle.std.specs.Io.KnownBytes.{append_known}
use Rattle.yasir_io.{proofs.OutputLemmas.append_known-twice, specs.Output.GotPrefix}
use Rattle.line_commands.proofs.recording.write_lines.Goals as goal

pub returns-in-Err-clause-err : goal.returns-in-Err-clause-err
returns-in-Err-clause-err g c = λ texts holds.
    let a = g.O.Sink.held c.args.out.now in
    let b = g.O.Sink.held c.write_all.new.sink in
    let d = g.O.Sink.held c.write_all-2.new.sink in
    let e = g.O.Sink.held c.write_all-3.new.sink in
    let mark : List ℕ = codes "%\n" in
    let first : b ≡ append_known a texts.link =
    c.in-Ok.ensures.ok ∙ ap (append_known a) (c.as_slice.ensures.value ∙ holds.link) in
    let second : d ≡ append_known a (texts.link ++ mark) = c.in-Ok-write_all.ensures.ok
    ∙ (ap (λ known. append_known known mark) first ∙ append_known-twice a texts.link mark) in
    let third : GotPrefix d e texts.device =
    subst (GotPrefix d e) (c.as_slice-2.ensures.value ∙ holds.device) c.in-Err.ensures.err in
    then-front a d e (texts.link ++ mark) texts.device second third

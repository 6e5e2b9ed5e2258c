use Rattle.line_commands.proofs.Filled.{holds-both, filled-by}
use Rattle.line_commands.specs.{KeptBox.timed_of, KeptBox.AreTextsOf, Recording.steps_of}
use Rattle.std.proofs.Common.{◌≡◌, ◌+◌, ℕ, refl, subst, arith}
use Rattle.line_commands.proofs.recording.finish_both.Goals as goal

pub merge_lines-requires-clause-first : goal.merge_lines-requires-clause-first
merge_lines-requires-clause-first g c = c.in-Ok-finish.ensures.whole

pub merge_lines-requires-clause-second : goal.merge_lines-requires-clause-second
merge_lines-requires-clause-second g c = c.in-Ok-finish-2.ensures.whole

pub returns-in-Ok-merge_lines : goal.returns-in-Ok-merge_lines
returns-in-Ok-merge_lines g c = λ setups device link keeps.
    let steps : ℕ = c.max-steps.result + 320 in
    let sent = timed_of g.S.LinkBox.walking g.S.LineBox.line_of setups.outgoing in
    let got = timed_of g.C.LinkBox.walking g.C.LineBox.line_of setups.incoming in
    let is : steps ≡ steps_of device link =
    omega (arith, c.max-steps.ensures, keeps.outgoing.counted, keeps.incoming.counted) in
    holds-both sent got device link steps is c.in-Ok-finish.link c.in-Ok-finish-2.device _
    (subst (λ line. AreTextsOf sent line c.in-Ok-finish.link)
    (filled-by _ _ steps device keeps.outgoing.counted refl)
    (c.in-Ok-finish.ensures.texts setups.outgoing _
    (c.in-Ok.ensures.goes.keeps setups.outgoing device keeps.outgoing)))
    (subst (λ line. AreTextsOf got line c.in-Ok-finish-2.device)
    (filled-by _ _ steps link keeps.incoming.counted refl)
    (c.in-Ok-finish-2.ensures.texts setups.incoming _
    (c.in-Ok-wait.ensures.goes.keeps setups.incoming link keeps.incoming)))
    refl refl c.in-Ok-merge_lines.ensures

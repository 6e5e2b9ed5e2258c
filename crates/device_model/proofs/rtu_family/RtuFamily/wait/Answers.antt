use Rattle.device_model.proofs.RtuRuns.{silence-unread, silent-behind, later-unread, counted-on}
use Rattle.device_model.{proofs.RtuRuns.read-last, specs.Frames.frames_lent}
use Rattle.device_model.specs.RtuFamily.{RtuFamilyStandsFor, rtu_family_reads}
use Rattle.std.proofs.Common.{◌≡◌, ◌∙◌, ℕ, ◌-◌, List, [], ◌++◌, sym, ap, subst, arith, inl, inr}
use Rattle.std.proofs.lemmas.List.{append-nil}
use Rattle.yasir_ticks.specs.{Ticks.silent, declared.tick.Tick.Tick}
use Rattle.device_model.proofs.rtu_family.RtuFamily.wait.Goals as goal

pub returns-then-left-eq0-clause-answer : goal.returns-then-left-eq0-clause-answer
returns-then-left-eq0-clause-answer c = λ cut gap line heard.
    silence-unread cut gap c.args.self.now line c.args.ticks (inl (omega arith)) heard
    ∙ sym (append-nil (rtu_family_reads cut gap line))

pub returns-then-left-eq0-clause-before : goal.returns-then-left-eq0-clause-before
returns-then-left-eq0-clause-before c = λ cut gap n below line heard.
    silence-unread cut gap c.args.self.now line n (inl (omega arith)) heard

pub returns-then-ticks-left-clause-answer : goal.returns-then-ticks-left-clause-answer
returns-then-ticks-left-clause-answer c = λ cut gap line heard.
    silence-unread cut gap c.args.self.now line c.args.ticks (inr (omega arith)) heard
    ∙ sym (append-nil (rtu_family_reads cut gap line))

pub returns-then-ticks-left-clause-before : goal.returns-then-ticks-left-clause-before
returns-then-ticks-left-clause-before c = λ cut gap n below line heard.
    silence-unread cut gap c.args.self.now line n (inr (omega arith)) heard

pub returns-in-Some-clause-stands : goal.returns-in-Some-clause-stands
returns-in-Some-clause-stands c = λ cut gap line heard.
    subst (RtuFamilyStandsFor cut gap c.wait_tick.new.self)
    (silent-behind line (c.from-left.result - 1) 1 c.from-left.result (omega arith))
    (c.wait_tick.ensures.stands cut gap (line ++ silent (c.from-left.result - 1))
    (c.wait_some-2.ensures.stands cut gap line heard))

pub returns-in-Some-clause-answer : goal.returns-in-Some-clause-answer
returns-in-Some-clause-answer c = λ cut gap line heard.
    read-last cut gap c.args.self.now line (c.from-left.result - 1) c.from-left.result
    _ (omega arith)
    (inr (omega arith)) heard
    (c.in-Some.ensures.answer cut gap (line ++ silent (c.from-left.result - 1))
    (c.wait_some-2.ensures.stands cut gap line heard))

pub returns-in-Some-clause-before : goal.returns-in-Some-clause-before
returns-in-Some-clause-before c = λ cut gap n below line heard.
    silence-unread cut gap c.args.self.now line n (inr (omega arith)) heard

pub wait_some-requires-3-clause-parts : goal.wait_some-requires-3-clause-parts
wait_some-requires-3-clause-parts c =
    let rested = counted-on c.args.self.now.silence.quiet c.args.self.now.silence.cut
    (c.from-left.result - 1) c.wait_some-2.new.self.silence.quiet (omega arith) c.wait_some-2.ensures.quiet in
    let cut_stays = c.wait_some-2.ensures.cut in
    let waited = counted-on c.wait_some-2.new.self.silence.quiet c.wait_some-2.new.self.silence.cut 1
    c.wait_tick.new.self.silence.quiet (omega arith) c.wait_tick.ensures.quiet in
    let cut_still = c.wait_tick.ensures.cut in
    inl (omega arith)

pub returns-clause-stands : goal.returns-clause-stands
returns-clause-stands c = λ cut gap line heard.
    subst (RtuFamilyStandsFor cut gap c.wait_some-3.new.self)
    (silent-behind line c.from-left.result (c.args.ticks - c.from-left.result) c.args.ticks
    (omega arith))
    (c.wait_some-3.ensures.stands cut gap (line ++ silent c.from-left.result)
    (subst (RtuFamilyStandsFor cut gap c.wait_tick.new.self)
    (silent-behind line (c.from-left.result - 1) 1 c.from-left.result (omega arith))
    (c.wait_tick.ensures.stands cut gap (line ++ silent (c.from-left.result - 1))
    (c.wait_some-2.ensures.stands cut gap line heard))))

unread : (c : goal.After-wait_some-3) (cut gap : ℕ) (line : List Tick)
    → RtuFamilyStandsFor cut gap c.args.self.now line → (n : ℕ)
    → rtu_family_reads cut gap (line ++ silent n) ≡ rtu_family_reads cut gap line
unread c cut gap line heard n =
    let rested = counted-on c.args.self.now.silence.quiet c.args.self.now.silence.cut
    (c.from-left.result - 1) c.wait_some-2.new.self.silence.quiet (omega arith) c.wait_some-2.ensures.quiet in
    let cut_stays = c.wait_some-2.ensures.cut in
    let waited = counted-on c.wait_some-2.new.self.silence.quiet c.wait_some-2.new.self.silence.cut 1
    c.wait_tick.new.self.silence.quiet (omega arith) c.wait_tick.ensures.quiet in
    let cut_still = c.wait_tick.ensures.cut in
    let behind = c.wait_some-2.ensures.stands cut gap line heard in
    later-unread cut gap c.args.self.now c.wait_tick.new.self line c.from-left.result heard (omega arith)
    (subst (RtuFamilyStandsFor cut gap c.wait_tick.new.self)
    (silent-behind line (c.from-left.result - 1) 1 c.from-left.result (omega arith))
    (c.wait_tick.ensures.stands cut gap (line ++ silent (c.from-left.result - 1)) behind))
    (omega arith)
    (read-last cut gap c.args.self.now line (c.from-left.result - 1) c.from-left.result []
    (omega arith) (inr (omega arith)) heard
    (c.wait_tick.ensures.answer cut gap (line ++ silent (c.from-left.result - 1)) behind
    ∙ ap (λ f. rtu_family_reads cut gap (line ++ silent (c.from-left.result - 1)) ++ frames_lent f c.wait_tick.new.self.bytes.items)
    c.in_default.is))
    n

pub returns-clause-answer : goal.returns-clause-answer
returns-clause-answer c = λ cut gap line heard.
    unread c cut gap line heard c.args.ticks ∙ sym (append-nil (rtu_family_reads cut gap line))

pub returns-clause-before : goal.returns-clause-before
returns-clause-before c = λ cut gap n below line heard. unread c cut gap line heard n

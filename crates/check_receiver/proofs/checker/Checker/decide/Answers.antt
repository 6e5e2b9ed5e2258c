use Rattle.check_receiver.proofs.Deciding.{room-kept, decide-refuses, decide-passes, decide-fails}
use Rattle.check_receiver.proofs.Journals.{journal-kept}
use Rattle.check_receiver.specs.{Between.IsNoPass, Checkings.CheckerCommitsNoted, Stands.CheckerHasTaken}
use Rattle.link_box.specs.declared.check_note.CheckNote.{CheckNote}
use Rattle.sequence_journal.specs.Journal.{journal_floor}
use Rattle.std.proofs.Common.{◌∙◌, ℕ, sym, ap, subst, rules, Option}
use Rattle.check_receiver.proofs.checker.Checker.decide.Goals as goal

pub refuse-requires : goal.refuse-requires
refuse-requires g c = (
  search rules,
  room-kept c.args.self.now c.verdict.new.self c.verdict.ensures.others c.requires.room,
)

pub returns-in-Err-clause-cut : goal.returns-in-Err-clause-cut
returns-in-Err-clause-cut g c =
    ap (λ v. v.cut) c.refuse.ensures.turned.turned.others ∙ ap (λ v. v.cut) c.verdict.ensures.others

pub returns-in-Err-clause-step : goal.returns-in-Err-clause-step
returns-in-Err-clause-step g c = λ setup line t whole.
    decide-refuses g.R.LineRules g.M.Mac c.args.self.now (journal_floor c.args.journal.now) setup
    line t whole c.verdict.new.self c.verdict.ensures.others
    (c.verdict.ensures.mac_is setup.key whole.key_text whole.mac_is) c.in-Err.why
    c.in-Err.ensures.judged c.refuse.new.self c.refuse.result c.refuse.ensures.turned
    c.refuse.ensures.earliest c.refuse.ensures.told

pub returns-in-Err-clause-journal : goal.returns-in-Err-clause-journal
returns-in-Err-clause-journal g c =
    let P : Option CheckNote → Type 0 = λ note. IsNoPass note in
    let noted = c.refuse.ensures.note in
    journal-kept g.S.SlotDisk c.args.journal.now c.args.disk.now
    (g.met.S.SlotDisk.only_now c.args.disk.now) c.requires.fits c.refuse.result
    (subst P (sym noted.1) tt)

pub returns-in_default-clause-err_passes : goal.returns-in_default-clause-err_passes
returns-in_default-clause-err_passes g c = (
  c.in-Ok.number,
  c.in_default.ensures.failed,
  λ setup line t whole. decide-fails g.R.LineRules g.M.Mac c.args.self.now
      (journal_floor c.args.journal.now) setup line t whole c.verdict.new.self
      c.verdict.ensures.others (c.verdict.ensures.mac_is setup.key whole.key_text whole.mac_is)
      c.in-Ok.number c.in-Ok.ensures.judged,
)

pub returns-in_default-clause-journal : goal.returns-in_default-clause-journal
returns-in_default-clause-journal g c = record {
  commits = tt;
  link = c.commit.ensures.link;
  fits = tt;
  failed = (c.in-Ok.number, c.in_default.ensures.failed);
  crash_safe = c.commit.ensures.crash_safe;
  any_moment = λ safe. c.commit.ensures.any_moment safe.kept;
  cause = search rules;
}

pub pass-requires : goal.pass-requires
pass-requires g c = (
  search rules,
  room-kept c.args.self.now c.verdict.new.self c.verdict.ensures.others c.requires.room,
)

pub returns-clause-cut : goal.returns-clause-cut
returns-clause-cut g c =
    ap (λ v. v.cut) c.pass.ensures.turned.others ∙ ap (λ v. v.cut) c.verdict.ensures.others

pub returns-clause-step : goal.returns-clause-step
returns-clause-step g c = λ setup line t whole.
    let S : ℕ → Type 0 = λ n. CheckerHasTaken g.R.LineRules g.M.Mac c.pass.new.self n setup line t
    c.pass.result in
    subst S (sym c.in-Ok-commit.ensures.committed.floor)
    (decide-passes g.R.LineRules g.M.Mac c.args.self.now (journal_floor c.args.journal.now) setup
    line t whole c.verdict.new.self c.verdict.ensures.others
    (c.verdict.ensures.mac_is setup.key whole.key_text whole.mac_is) c.in-Ok.number
    c.in-Ok.ensures.judged c.pass.new.self c.pass.result c.pass.ensures.turned
    c.pass.ensures.earliest c.pass.ensures.told)

pub returns-clause-journal : goal.returns-clause-journal
returns-clause-journal g c =
    let P : Option CheckNote → Type 0 = λ note. CheckerCommitsNoted g.S.SlotDisk c.args.journal.now
    c.commit.new.self c.args.disk.now c.commit.new.disk note in
    let noted = c.pass.ensures.note in
    record {
      commits = subst P (sym noted.2) c.in-Ok-commit.ensures.committed;
      link = c.commit.ensures.link;
      fits = c.in-Ok-commit.ensures.fits;
      failed = tt;
      crash_safe = c.commit.ensures.crash_safe;
      any_moment = λ safe. c.commit.ensures.any_moment safe.kept;
      cause = search rules;
    }

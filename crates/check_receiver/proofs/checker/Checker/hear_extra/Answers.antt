use Rattle.check_receiver.proofs.Hearing.{hears-between, until-long, break-taken}
use Rattle.check_receiver.proofs.{Journals.journal-kept, Resting.begins-none, Resting.rest-taken}
use Rattle.check_receiver.proofs.Taking.{more-taken, whole-taken}
use Rattle.check_receiver.specs.Between.{IsNoPass}
use Rattle.frame_ending.{proofs.Running.extra-tick, specs.declared.cut.Cut.TheVariants.Extra}
use Rattle.link_box.specs.declared.check_note.CheckNote.{CheckNote}
use Rattle.link_box.specs.declared.check_note.RefusedWhy.TheVariants.{Trailer}
use Rattle.sequence_journal.specs.Journal.{journal_floor}
use Rattle.std.proofs.Common.{◌∙◌, [], ◌∷◌, ◌++◌, inr, sym, subst, arith, refl, Option}
use Rattle.std.proofs.lemmas.Result.{IfOk-weaker, on_err_weaker}
use Rattle.check_receiver.proofs.checker.Checker.hear_extra.Goals as goal

-- ---- no verdict is open

pub returns-then-not-is_open-clause-step : goal.returns-then-not-is_open-clause-step
returns-then-not-is_open-clause-step g c = λ setup line t between.
    let closed = sym c.is_open.ensures ∙ c.if-not-is_open.true in
    let is = extra-tick g.R.LineRules.rules line t c.args.byte between.is_cut in
    rest-taken g.R.LineRules g.M.Mac c.args.self.now (journal_floor c.args.journal.now) setup line t
    (Extra c.args.byte) between c.pass_by.new.self c.pass_by.result c.pass_by.ensures.turned
    c.pass_by.ensures.note
    (begins-none g.R.LineRules.rules line t c.args.byte is (inr between.is_cut))
    closed

pub returns-then-not-is_open-clause-journal : goal.returns-then-not-is_open-clause-journal
returns-then-not-is_open-clause-journal g c =
    let P : Option CheckNote → Type 0 = λ note. IsNoPass note in
    journal-kept g.S.SlotDisk c.args.journal.now c.args.disk.now
    (g.met.S.SlotDisk.only_now c.args.disk.now) c.requires.fits c.pass_by.result
    (subst P (sym c.pass_by.ensures.note) tt)

-- ---- inside the pause

pub returns-then-from-clause-step : goal.returns-then-from-clause-step
returns-then-from-clause-step g c = λ setup line t between.
    let opens = sym c.is_open.ensures ∙ c.if-not-is_open.false in
    let hears = hears-between g.R.LineRules g.M.Mac c.args.self.now
    (journal_floor c.args.journal.now) setup line t c.args.byte between opens
    c.args.self.now.arriving c.args.self.now.mac between.walks.mac_stands in
    let long = until-long g.R.LineRules g.M.Mac c.args.self.now (journal_floor c.args.journal.now)
    setup line t c.args.byte hears in
    let until = c.from.ensures in
    let early = c.if-from.true in
    break-taken g.R.LineRules g.M.Mac c.args.self.now (journal_floor c.args.journal.now) setup line
    t c.args.byte hears c.refuse.new.self c.refuse.result c.refuse.ensures.turned
    (c.refuse.ensures.earliest (line ++ t ∷ []) between.cuts) Trailer
    (c.refuse.ensures.told (line ++ t ∷ []) between.cuts) refl (omega arith)

pub returns-then-from-clause-journal : goal.returns-then-from-clause-journal
returns-then-from-clause-journal g c =
    let P : Option CheckNote → Type 0 = λ note. IsNoPass note in
    let noted = c.refuse.ensures.note in
    journal-kept g.S.SlotDisk c.args.journal.now c.args.disk.now
    (g.met.S.SlotDisk.only_now c.args.disk.now) c.requires.fits c.refuse.result
    (subst P (sym noted.1) tt)

-- ---- a byte of the trailer

pub returns-then-self-gt1-clause-step : goal.returns-then-self-gt1-clause-step
returns-then-self-gt1-clause-step g c = λ setup line t between.
    let opens = sym c.is_open.ensures ∙ c.if-not-is_open.false in
    let until = c.from.ensures in
    let late = c.if-from.false in
    more-taken g.R.LineRules g.M.Mac c.args.self.now (journal_floor c.args.journal.now) setup line t
    c.args.byte between opens (omega arith) c.take.new.self c.take.ensures
    c.if-self-gt1.true
    c.pass_by-then-self-gt1.new.self c.pass_by-then-self-gt1.result
    c.pass_by-then-self-gt1.ensures.turned c.pass_by-then-self-gt1.ensures.note

pub returns-then-self-gt1-clause-journal : goal.returns-then-self-gt1-clause-journal
returns-then-self-gt1-clause-journal g c =
    let P : Option CheckNote → Type 0 = λ note. IsNoPass note in
    journal-kept g.S.SlotDisk c.args.journal.now c.args.disk.now
    (g.met.S.SlotDisk.only_now c.args.disk.now) c.requires.fits c.pass_by-then-self-gt1.result
    (subst P (sym c.pass_by-then-self-gt1.ensures.note) tt)

pub returns-clause-step : goal.returns-clause-step
returns-clause-step g c =
    let opens = sym c.is_open.ensures ∙ c.if-not-is_open.false in
    let until = c.from.ensures in
    let late = c.if-from.false in
    IfOk-weaker c.decide.result _ _
    (λ step takes setup line t between. takes setup line t
    (whole-taken g.R.LineRules g.M.Mac c.args.self.now (journal_floor c.args.journal.now) setup line
    t c.args.byte between opens (omega arith) c.take.new.self c.take.ensures
    c.if-self-gt1.false))
    c.decide.ensures.step

pub returns-clause-err_passes : goal.returns-clause-err_passes
returns-clause-err_passes g c =
    let opens = sym c.is_open.ensures ∙ c.if-not-is_open.false in
    let until = c.from.ensures in
    let late = c.if-from.false in
    on_err_weaker c.decide.result
    (λ fails. (
      fails.0,
      fails.1,
      λ setup line t between. fails.2 setup line t
          (whole-taken g.R.LineRules g.M.Mac c.args.self.now (journal_floor c.args.journal.now)
          setup line t c.args.byte between opens (omega arith) c.take.new.self
          c.take.ensures c.if-self-gt1.false),
    ))
    c.decide.ensures.err_passes

use Rattle.link_format.specs.Trailers.{bytes_unsent}
use Rattle.link_box.specs.Sealing.Judgement.{sealed_with}
use Rattle.link_box.specs.declared.seal_note.SealNote.{SealNote}
use Rattle.seal_transmitter.proofs.Advancing.{seals-with}
use Rattle.seal_transmitter.specs.{Answers.SealerCommitsNoted, Between.Judges, Stands.SealerHasTaken}
use Rattle.sequence_journal.specs.{Commits.HasFailed, Journal.journal_floor}
use Rattle.std.proofs.Common.{ℕ, ◌≡◌, ◌+◌, [], ◌∷◌, ◌++◌, rules, sym, ap, subst, Option}
use Rattle.yasir_ticks.specs.declared.tick.Tick.TheVariants.{Silent}
use Rattle.seal_transmitter.proofs.sealer.Sealer.close.Goals as goal

pub returns-in_default-clause-err_seals : goal.returns-in_default-clause-err_seals
returns-in_default-clause-err_seals g c = λ setup line between.
    seals-with g.R.LineRules g.M.Mac g.row.B setup line
    (journal_floor c.args.journal.now) c.args.self.now.earliest_start
    (bytes_unsent c.args.self.now.trailer) c.args.self.now.mac between.walks
    (journal_floor c.args.journal.now + 1) between.is_cut
    (c.in-None.ensures.judged setup (line ++ Silent ∷ []) between.cuts)

pub returns-in-Some-clause-step : goal.returns-in-Some-clause-step
returns-in-Some-clause-step g c = λ setup line between.
    c.leave.ensures.step (journal_floor c.args.journal.now) setup line between
    (c.in-Some.ensures.judged setup (line ++ Silent ∷ []) between.cuts)

pub returns-in-Ok-clause-step : goal.returns-in-Ok-clause-step
returns-in-Ok-clause-step g c = λ setup line between.
    let number : journal_floor c.args.journal.now + 1 ≡ c.floor-number.result + 1 =
    ap (λ n. n + 1) (sym c.floor-number.ensures.value) in
    let J : ℕ → Type 0 = λ n. Judges g.R.LineRules g.M.Mac c.args.self.now
    (journal_floor c.args.journal.now) setup
    (line ++ Silent ∷ []) (sealed_with n) in
    let S : ℕ → Type 0 = λ n. SealerHasTaken g.R.LineRules g.M.Mac c.seal.new.self n setup line Silent
    c.seal.result in
    subst S (sym c.in-Ok.ensures.committed.floor)
    (c.seal.ensures.step (journal_floor c.args.journal.now) setup line between
    (subst J number (c.in-None.ensures.judged setup (line ++ Silent ∷ []) between.cuts)))

pub returns-in_default-clause-journal : goal.returns-in_default-clause-journal
returns-in_default-clause-journal g c =
    let F : ℕ → Type 0 = λ n. HasFailed c.args.journal.now c.commit.new.self
    (g.D.SlotDisk.told c.args.disk.now) (g.D.SlotDisk.told c.commit.new.disk) n in
    record {
      commits = tt;
      link = c.commit.ensures.link;
      fits = tt;
      failed = subst F (ap (λ n. n + 1) c.floor-number.ensures.value) c.in_default.ensures.failed;
      crash_safe = c.commit.ensures.crash_safe;
      any_moment = λ safe. c.commit.ensures.any_moment safe.kept;
      cause = search rules;
    }

pub returns-in-Ok-clause-journal : goal.returns-in-Ok-clause-journal
returns-in-Ok-clause-journal g c =
    let P : Option SealNote → Type 0 = λ note. SealerCommitsNoted g.D.SlotDisk c.args.journal.now
    c.commit.new.self c.args.disk.now c.commit.new.disk note in
    let noted = c.seal.ensures.note in
    record {
      commits = subst P (sym noted.2)
          (ap (λ n. n + 1) c.floor-number.ensures.value, c.in-Ok.ensures.committed);
      link = c.commit.ensures.link;
      fits = c.in-Ok.ensures.fits;
      failed = tt;
      crash_safe = c.commit.ensures.crash_safe;
      any_moment = λ safe. c.commit.ensures.any_moment safe.kept;
      cause = search rules;
    }

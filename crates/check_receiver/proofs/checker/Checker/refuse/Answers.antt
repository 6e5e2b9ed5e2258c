use Rattle.check_receiver.specs.Turning.{Turned, refused}
use Rattle.{frame_ending.specs.SoFar.live_bytes_so_far, line_rules.specs.Rules.lacking_of}
use Rattle.link_box.specs.declared.check_note.CheckNote.TheVariants.{Refused}
use Rattle.std.proofs.Common.{◌≡◌, ◌∙◌, ap, sym, subst, arith, length, Some, List, ℕ}
use Rattle.yasir_ticks.specs.declared.tick.Tick.TheVariants.{Silent}
use Rattle.check_receiver.proofs.checker.Checker.refuse.Goals as goal

pub returns-clause-turned : goal.returns-clause-turned
returns-clause-turned g c =
    let from = ap (λ v. v.earliest_start) c.pass_by.ensures.turned.others in
    let T : ℕ → Type 0 = λ n. Turned g.R.LineRules (refused c.args.self.now c.refuse.new.self n)
    c.pass_by.new.self Silent c.pass_by.result.tick in
    record {
      outlet = c.refuse.new.self;
      knows = λ line cuts.
          let live : List ℕ = live_bytes_so_far g.R.LineRules.rules line in
          subst (λ v. g.R.LineRules.stands v live) (sym c.refuse.ensures.refused)
          (c.fork.ensures live (c.rules-2.ensures line cuts));
      owed = c.refuse.ensures.owed;
      turned = subst T (sym from) c.pass_by.ensures.turned;
    }

pub returns-clause-earliest : goal.returns-clause-earliest
returns-clause-earliest g c = λ line cuts.
    let same = ap (λ v. v.earliest_start) c.pass_by.ensures.turned.others in
    let count : c.ticks.result ≡ length line = c.ticks.ensures.count line cuts in
    let until = c.from.ensures in
    let lacks : c.lacking.result ≡ lacking_of g.R.LineRules.rules
    (live_bytes_so_far g.R.LineRules.rules line) =
    c.lacking.ensures (live_bytes_so_far g.R.LineRules.rules line) (c.rules.ensures line cuts) in
    let owed = c.from-2.ensures in
    omega arith

pub returns-clause-told : goal.returns-clause-told
returns-clause-told g c = λ line cuts.
    c.pass_by.ensures.note
    ∙ ap (λ n. Some (Refused n c.args.why)) (c.start-start.ensures line cuts)

use Rattle.link_format.specs.{Profile.Profile, Profile.profile_of, Setup.Setup, Setup.setup_of}
use Rattle.link_box.proofs.Begun.{walked-begun}
use Rattle.link_box.specs.{Checking.at_floor, Holding.HasWalked}
use Rattle.sequence_journal.specs.declared.numbers.TheConstants.{LIMIT}
use Rattle.{line_rules.proofs.Standing.stands-unowed, std.proofs.Common.◌≡◌}
use Rattle.std.proofs.Common.{◌∙◌, ◌-◌, ℕ, refl, sym, ap, subst, arith, [], length, false, None}
use Rattle.yasir_ticks.specs.{Bursts.bursts, Ticks.silent, declared.tick.Tick.Tick}
use Rattle.check_receiver.proofs.checker.Checker.new.Goals as goal

pub returns-clause-stands : goal.returns-clause-stands
returns-clause-stands g c = λ floor.
    let setup : Setup = setup_of c.args.key.now c.args.dir floor in
    let profile : Profile = profile_of g.R.LineRules g.M.Mac g.row.B LIMIT setup in
    let W : ℕ → Type 0 = λ o. HasWalked profile g.R.LineRules.rules setup.floor 0 (bursts [])
    (at_floor setup.floor) false [] [] o None in
    let whole : g.row.D ≡ g.row.D - length {A = Tick} [] = omega arith in
    record {
      word_is = c.requires.word;
      wide = c.requires.wide;
      delay_is = c.requires.delay;
      direction_is = refl;
      cuts = c.new.ensures.stands;
      left_in = (refl, c.new-3.ensures);
      walks = record {
        waiting = None;
        left = [];
        live = [];
        walked = subst W (sym c.new-3.ensures)
            (walked-begun profile g.R.LineRules.rules setup.floor);
        outlet_is = stands-unowed g.R.LineRules c.new-3.result [] c.new-3.ensures;
        knows = λ refused some. absurd (omega arith);
        ring_is = c.new-2.ensures ∙ ap silent whole;
        few = omega arith;
        until_is = refl;
        waits_is = refl;
        mac_stands = ([], c.with_key.ensures);
        mac_holds = tt;
      };
    }

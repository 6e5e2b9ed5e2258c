use Rattle.check_receiver.specs.Stands.{CheckerStandsAt}
use Rattle.link_format.specs.{Setup.Setup, Tag.direction_number}
use Rattle.std.proofs.Common.{◌∙◌, List, ℕ, [], refl, subst, arith}
use Rattle.station_boxes.proofs.checker.StationChecker.turn_to.Goals as goal

pub returns-clause-turned : goal.returns-clause-turned
returns-clause-turned g c = record {
  others = refl;
  since = let count = c.ticks.ensures.taken in let room = c.requires.room in omega arith;
  floor = c.journal_at-self.ensures.floor ∙ c.floor_of.ensures.value;
  stands = λ floor.
      let K : List ℕ → Type 0 = λ key.
      let x : Setup = record {
        key = key;
        direction = direction_number c.args.self.now.direction;
        floor = floor;
      } in CheckerStandsAt g.R.LineRules g.M.Mac c.new.result floor x [] in
      subst K c.key_of.ensures (c.new.ensures.stands floor);
}

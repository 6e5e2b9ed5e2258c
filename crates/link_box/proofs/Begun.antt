-- The receiver before the first tick.
use Rattle.frame_ending.proofs.{Coming.come-begun, Emissions.tick_at-none}
use Rattle.{frame_ending.specs.HasCome.HasCome, line_rules.specs.Rules.Rules}
use Rattle.link_format.specs.Profile.{Profile}
use Rattle.link_box.proofs.Leavings.{leaves-none, fill_out-zero}
use Rattle.link_box.specs.{Checking.checker, Checking.at_floor, Holding.HasWalked}
use Rattle.std.proofs.Common.{◌≡◌, ◌∙◌, ℕ, ◌-◌, false, List, [], length, get_or, refl, sym, ap}
use Rattle.std.proofs.Common.{subst, arith, None}
use Rattle.yasir_ticks.specs.Bursts.{Burst, bursts, bursts_from}
use Rattle.yasir_ticks.specs.declared.tick.Tick.TheVariants.{Silent}

bursts-none : bursts [] ≡ []
unfolding bursts_from
bursts-none = refl

pub walked-begun : (profile : Profile) (rules : Rules) (floor : ℕ)
    → HasWalked profile rules floor 0 (bursts []) (at_floor floor) false [] [] 0 None
walked-begun profile rules floor =
    let P : List Burst → Type 0 = λ ds. HasCome (checker profile rules) (at_floor floor) 0 ds
    (at_floor floor) [] None in
    let none = leaves-none rules false [] 0 ∙ fill_out-zero rules [] in
    record {
      emissions = [];
      come = subst P (sym bursts-none) (come-begun (checker profile rules) (at_floor floor));
      unowed = λ some. absurd (omega arith);
      opens = tt;
      rests = record {
        shows = λ i from. tick_at-none i ∙ sym (ap (λ l. get_or l (i - 0) Silent) none);
        ends = λ some. let size = ap length none in absurd (omega arith);
      };
    }

use Rattle.capture_text.proofs.LevelLaws.{tick_back}
use Rattle.capture_text.proofs.laws.levels_give_the_tick.Goals as goal

pub returns : goal.returns
returns c = λ bits tick few h. tick_back bits tick few h

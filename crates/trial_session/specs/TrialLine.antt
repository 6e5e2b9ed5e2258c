-- The line that is printed of a session.
use Rattle.std.specs.Prelude.{ℕ, List, ◌++◌, codes, decimal}
use Rattle.trial_session.specs.declared.summary.Summary.{Summary}

-- a word and then a number, each with a blank before it
abbrev pub worded : List ℕ → ℕ → List ℕ
worded word n = codes " " ++ word ++ codes " " ++ decimal n

-- `trial P SEED COUNT sealed A passed B refused C dropped D read E`
abbrev pub trial_line : List ℕ → ℕ → ℕ → Summary → List ℕ
trial_line name seed count counted =
    codes "trial" ++ worded name seed ++ codes " " ++ decimal count
    ++ worded (codes "sealed") counted.sealed
    ++ worded (codes "passed") counted.passed
    ++ worded (codes "refused") counted.refused
    ++ worded (codes "dropped") counted.dropped
    ++ worded (codes "read") counted.read
    ++ codes "\n"

-- What calls one after the other add to a history.
use Rattle.line_commands.specs.History.{Event, History, told_then, calls_then, written, written_by}
use Rattle.line_commands.specs.declared.port.Output.{Output, TheVariants.Out, TheVariants.Log}
use Rattle.std.proofs.Common.{◌≡◌, ◌∙◌, ℕ, List, [], ◌++◌, Option, Some, None, refl, ap, sym}
use Rattle.std.proofs.Common.{append-nil, append_assoc}
use Rattle.std.proofs.lemmas.Grind.{flat_map-append}
use Rattle.std.specs.Io.KnownBytes.{append_known}
use Rattle.yasir_io.proofs.OutputLemmas.{append_known-nil, append_known-twice}

-- the history with these calls, and with what the outputs have got
abbrev pub history_of : Option (List Event) → Option (List ℕ) → Option (List ℕ) → History
history_of calls out log = record { calls = calls; out = out; log = log }

-- Histories with equal parts are equal.
pub history_as : {a b : Option (List Event)} {c d e f : Option (List ℕ)} → a ≡ b → c ≡ d → e ≡ f
    → history_of a c e ≡ history_of b d f
history_as {a} {b} {c} {d} {e} {f} calls out log = ap (λ x. history_of x c e) calls
    ∙ (ap (λ x. history_of b x e) out ∙ ap (λ x. history_of b d x) log)

calls_twice : (calls : Option (List Event)) (a b : List Event)
    → calls_then (calls_then calls a) b ≡ calls_then calls (a ++ b)
calls_twice None a b = refl
calls_twice (Some events) a b = ap Some (append_assoc events a b)

written_twice : (known : Option (List ℕ)) (to : Output) (a b : List Event)
    → append_known (append_known known (written to a)) (written to b)
    ≡ append_known known (written to (a ++ b))
written_twice known to a b = append_known-twice known (written to a) (written to b)
    ∙ ap (λ l. append_known known l) (sym (flat_map-append (written_by to) a b))

pub told_twice : (start : History) (a b : List Event)
    → told_then (told_then start a) b ≡ told_then start (a ++ b)
told_twice start a b = history_as (calls_twice start.calls a b) (written_twice start.out Out a b)
    (written_twice start.log Log a b)

calls_none : (calls : Option (List Event)) → calls ≡ calls_then calls []
calls_none None = refl
calls_none (Some events) = ap Some (sym (append-nil events))

pub told_none : (start : History) → start ≡ told_then start []
told_none start = history_as (calls_none start.calls) (sym (append_known-nil start.out))
    (sym (append_known-nil start.log))

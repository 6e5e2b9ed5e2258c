-- A source and two sinks as a port.
use Rattle.line_commands.proofs.Histories.{history_of, history_as}
use Rattle.line_commands.specs.History.{WritesFront, untold}
use Rattle.line_commands.specs.declared.port.Output.{Output, TheVariants.Out, TheVariants.Log}
use Rattle.std.proofs.Common.{◌≡◌, ◌∙◌, ℕ, List, [], Option, Result, Ok, Err, None, OnOk}
use Rattle.std.proofs.Common.{OnErr, ◌++◌, refl, ap, sym, subst, append-nil}
use Rattle.std.specs.Io.KnownBytes.{append_known}
use Rattle.yasir_io.proofs.OutputLemmas.{append_known-nil}
use Rattle.yasir_io.specs.{Output.GotPrefix, declared.Failed.Failed}

-- the bytes that a write adds, by the event of this write
added : (known : Option (List ℕ)) (bytes : List ℕ)
    → append_known known bytes ≡ append_known known (bytes ++ [])
added known bytes = ap (λ l. append_known known l) (sym (append-nil bytes))

out_front : {out out' log : Option (List ℕ)} (piece : List ℕ)
    (result : Result (Unit {0}) Failed) → OnOk result (out' ≡ append_known out piece)
    → OnErr result (GotPrefix out out' piece)
    → WritesFront (history_of None out log) (history_of None out' log) Out piece result
out_front {out} {out'} {log} piece (Ok x) all cut = record {
  front = piece;
  rest = [];
  is = sym (append-nil piece);
  whole = refl;
  wrote = history_as refl (all ∙ added out piece) (sym (append_known-nil log));
}
out_front {out} {out'} {log} piece (Err e) all cut = record {
  front = cut.front;
  rest = cut.rest;
  is = cut.all;
  whole = tt;
  wrote = history_as refl (cut.got ∙ added out cut.front) (sym (append_known-nil log));
}

log_front : {out log log' : Option (List ℕ)} (piece : List ℕ)
    (result : Result (Unit {0}) Failed) → OnOk result (log' ≡ append_known log piece)
    → OnErr result (GotPrefix log log' piece)
    → WritesFront (history_of None out log) (history_of None out log') Log piece result
log_front {out} {log} {log'} piece (Ok x) all cut = record {
  front = piece;
  rest = [];
  is = sym (append-nil piece);
  whole = refl;
  wrote = history_as refl (sym (append_known-nil out)) (all ∙ added log piece);
}
log_front {out} {log} {log'} piece (Err e) all cut = record {
  front = cut.front;
  rest = cut.rest;
  is = cut.all;
  whole = tt;
  wrote = history_as refl (sym (append_known-nil out)) (cut.got ∙ added log cut.front);
}

pub wrote_out : {out out' log : Option (List ℕ)} (to : Output) (piece : List ℕ)
    (result : Result (Unit {0}) Failed) → to ≡ Out
    → OnOk result (out' ≡ append_known out piece) → OnErr result (GotPrefix out out' piece)
    → WritesFront (history_of None out log) (history_of None out' log) to piece result
wrote_out {out} {out'} {log} to piece result is all cut = subst
    (λ o. WritesFront (history_of None out log) (history_of None out' log) o piece result) (sym is)
    (out_front piece result all cut)

pub wrote_log : {out log log' : Option (List ℕ)} (to : Output) (piece : List ℕ)
    (result : Result (Unit {0}) Failed) → to ≡ Log
    → OnOk result (log' ≡ append_known log piece) → OnErr result (GotPrefix log log' piece)
    → WritesFront (history_of None out log) (history_of None out log') to piece result
wrote_log {out} {log} {log'} to piece result is all cut = subst
    (λ o. WritesFront (history_of None out log) (history_of None out log') o piece result) (sym is)
    (log_front piece result all cut)

-- Of a port that tells nothing each piece may have been written.
pub wrote_untold : (to : Output) (piece : List ℕ) (result : Result (Unit {0}) Failed)
    → WritesFront untold untold to piece result
wrote_untold to piece (Ok x) = record {
  front = piece;
  rest = [];
  is = sym (append-nil piece);
  whole = refl;
  wrote = refl;
}
wrote_untold to piece (Err e) = record {
  front = piece;
  rest = [];
  is = sym (append-nil piece);
  whole = tt;
  wrote = refl;
}

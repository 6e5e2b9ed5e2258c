-- What calls that write to a port do, one after another.
use Rattle.line_texts.specs.Sending.{LineAndNotes, AnswersNoted}
use Rattle.line_commands.proofs.Handing.{Noted, noted_none, noted_sent, noted_cut, text_cut, text_sent}
use Rattle.line_commands.proofs.Handing.{text_none}
use Rattle.line_commands.{proofs.Histories.told_twice, specs.History.Event, specs.History.told_then}
use Rattle.line_commands.specs.{History.History, Order.Handed, Sent.SendsAny}
use Rattle.line_commands.specs.History.{WritesFront, KeepsFaults, Event.writes, Event.flushes}
use Rattle.line_commands.specs.{LiveText.IsTextOf, Sent.WritesCause, Sent.SendsTicks, Sent.Hands}
use Rattle.line_commands.specs.declared.port.Output.{Output, TheVariants.Out, TheVariants.Log}
use Rattle.line_commands.specs.declared.port.Port.{Ghosts as Port}
use Rattle.std.proofs.Common.{◌≡◌, ◌≢◌, ◌∙◌, ◌⊎◌, ℕ, List, [], ◌∷◌, ◌++◌, true, false, Result, Ok}
use Rattle.std.proofs.Common.{Err, refl, ap, sym, subst, inl, inr, append-nil}
use Rattle.yasir_io.specs.{Causes.HasCause, Causes.Rose, declared.Failed.Failed}
use Rattle.yasir_ticks.specs.declared.tick.Tick.{Tick}

is_output : (to other : Output) → (other ≡ to) ⊎ (other ≢ to)
is_output Out Out = inl refl
is_output Out Log = inr (λ e. cc)
is_output Log Out = inr (λ e. cc)
is_output Log Log = inl refl

module _ {P : Type 0} (p : Port P) where
  abbrev Fails : P → P → Output → Result (Unit {0}) Failed → Type 0
  Fails old new to result = HasCause (p.write_faults old to) (p.write_faults new to) result

  abbrev Beside : P → P → Output → Type 0
  Beside old new to = KeepsFaults (p.read_faults old) (p.read_faults new) (p.write_faults old)
      (p.write_faults new) to × (p.left new ≡ p.left old)

  all_same : (old new : P) (to : Output) → Fails old new to (Ok tt) → Beside old new to
      → (other : Output) → p.write_faults new other ≡ p.write_faults old other
  all_same old new to cause beside other = elim (is_output to other) [
    | inl is ↦ subst (λ o. p.write_faults new o ≡ p.write_faults old o) (sym is) cause.same
    | inr apart ↦ beside.0.others other apart
  ]

  cause_ok : (old new : P) (to : Output) → Fails old new to (Ok tt) → Beside old new to
      → WritesCause p {T = Unit {0}} {E = Failed} old new (Ok tt)
  cause_ok old new to cause beside = record {
    left_same = beside.1;
    read_same = beside.0.read_same;
    same = all_same old new to cause beside;
    failed = tt;
  }

  cause_err : (old new : P) (to : Output) (e : Failed) → Fails old new to (Err e)
      → Beside old new to → WritesCause p {T = Unit {0}} {E = Failed} old new (Err e)
  cause_err old new to e cause beside = record {
    left_same = beside.1;
    read_same = beside.0.read_same;
    same = tt;
    failed = (to, cause.failed);
  }

  pub cause_then : (a b c : P) (result : Result (Unit {0}) Failed)
      → WritesCause p {T = Unit {0}} {E = Failed} a b (Ok tt) → WritesCause p b c result
      → WritesCause p a c result
  cause_then a b c (Ok x) first then = record {
    left_same = then.left_same ∙ first.left_same;
    read_same = then.read_same ∙ first.read_same;
    same = λ to. then.same to ∙ first.same to;
    failed = tt;
  }
  cause_then a b c (Err e) first then = record {
    left_same = then.left_same ∙ first.left_same;
    read_same = then.read_same ∙ first.read_same;
    same = tt;
    failed = let at = then.failed in (
      at.0,
      subst (λ n. Rose n (p.write_faults c at.0)) (first.same at.0) at.1,
    );
  }

  -- a write failed
  pub broken_write : (old new : P) (to : Output) (bytes : List ℕ) (e : Failed)
      → WritesFront {T = Unit {0}} (p.history old) (p.history new) to bytes (Err e)
      → Fails old new to (Err e) → Beside old new to
      → SendsTicks p {T = Unit {0}} old new to bytes (Err e)
  broken_write old new to bytes e wrote cause beside = record {
    ok = tt;
    err = record {
      front = wrote.front;
      rest = wrote.rest;
      is = wrote.is;
      more = [];
      tail = inl refl;
      told = wrote.wrote;
    };
    cause = cause_err old new to e cause beside;
  }

  wrote_all : (old new : P) (to : Output) (bytes : List ℕ)
      → WritesFront {T = Unit {0}} {E = Failed} (p.history old) (p.history new) to bytes (Ok tt)
      → p.history new ≡ told_then (p.history old) (writes to bytes ∷ [])
  wrote_all old new to bytes wrote =
      let all : bytes ≡ wrote.front =
      wrote.is ∙ (ap (λ l. wrote.front ++ l) wrote.whole ∙ append-nil wrote.front) in
      wrote.wrote ∙ ap (λ l. told_then (p.history old) (writes to l ∷ [])) (sym all)

  module _ (old mid new : P) (to : Output) (bytes : List ℕ)
      (wrote : WritesFront {T = Unit {0}} {E = Failed} (p.history old) (p.history mid) to bytes (Ok tt))
      (first : Fails old mid to (Ok tt)) (first_beside : Beside old mid to) where
    both : (well : Event) → p.history new ≡ told_then (p.history mid) (well ∷ [])
        → p.history new ≡ told_then (p.history old) (writes to bytes ∷ well ∷ [])
    both well then = then ∙ (ap (λ t. told_then t (well ∷ [])) (wrote_all old mid to bytes wrote)
        ∙ told_twice (p.history old) (writes to bytes ∷ []) (well ∷ []))

    pub both_sent : p.history new ≡ told_then (p.history mid) (flushes to true ∷ [])
        → Fails mid new to (Ok tt) → Beside mid new to
        → SendsTicks p {T = Unit {0}} {E = Failed} old new to bytes (Ok tt)
    both_sent then cause beside = record {
      ok = both (flushes to true) then;
      err = tt;
      cause = cause_then old mid new (Ok tt) (cause_ok old mid to first first_beside)
          (cause_ok mid new to cause beside);
    }

    pub broken_flush : (e : Failed) → p.history new ≡ told_then (p.history mid) (flushes to false ∷ [])
        → Fails mid new to (Err e) → Beside mid new to
        → SendsTicks p {T = Unit {0}} old new to bytes (Err e)
    broken_flush e then cause beside = record {
      ok = tt;
      err = record {
        front = bytes;
        rest = [];
        is = sym (append-nil bytes);
        more = flushes to false ∷ [];
        tail = inr refl;
        told = both (flushes to false) then;
      };
      cause = cause_then old mid new (Err e) (cause_ok old mid to first first_beside)
          (cause_err mid new to e cause beside);
    }

  -- ---- a note, and then a text

  cause_none : (port : P) → WritesCause p {T = Unit {0}} {E = Failed} port port (Ok tt)
  cause_none port = record { left_same = refl; read_same = refl; same = λ to. refl; failed = tt }

  pub any_cause : (old new : P) (to : Output) (bytes : List ℕ) (result : Result (Unit {0}) Failed)
      → SendsAny p old new to bytes result → WritesCause p old new result
  any_cause old new to bytes result (inl sends) = sends.cause
  any_cause old new to bytes result (inr none) =
      rw (none.1, none.2) (cause_none old)

  -- The notes were handed on, and then the text was, or sending it failed.
  hands_after : (old mid new : P) (note text : List ℕ) (answer : List Tick)
      (result : Result (Unit {0}) Failed) (is : IsTextOf text answer)
      → WritesCause p {T = Unit {0}} {E = Failed} old mid (Ok tt)
      → ((made : LineAndNotes) (start : History) (read : List ℕ) (line run : List Tick)
      (answers : AnswersNoted made line run answer note) → Handed made start (p.history old) read line
      → Noted made start read line run answer note text answers is (p.history mid))
      → SendsAny p mid new Out text result → Hands p old new answer note result
  hands_after old mid new note text answer (Ok x) is first noted (inl sends) = record {
    ok = λ made start read line run answers handed.
        text_sent made start read line run answer note text answers is (p.history mid)
        (p.history new) (noted made start read line run answers handed) sends.ok;
    err = tt;
    cause = cause_then old mid new (Ok x) first sends.cause;
  }
  hands_after old mid new note text answer (Err e) is first noted (inl sends) = record {
    ok = tt;
    err = λ made start read line run answers handed.
        text_cut made start read line run answer note text answers is (p.history mid)
        (p.history new) sends.err.front sends.err.rest sends.err.more sends.err.is sends.err.tail
        (noted made start read line run answers handed) sends.err.told;
    cause = cause_then old mid new (Err e) first sends.cause;
  }
  hands_after old mid new note text answer result is first noted (inr none) =
      subst (λ r. Hands p old new answer note r) (sym none.2)
      (subst (λ at. Hands p {T = Unit {0}} {E = Failed} old at answer note (Ok tt)) (sym none.1)
      (record {
        ok = λ made start read line run answers handed.
            text_none made start read line run answer note text answers is (p.history mid) none.0
            (noted made start read line run answers handed);
        err = tt;
        cause = first;
      }))

  -- There are no notes.
  pub hands_text : (old new : P) (note text : List ℕ) (answer : List Tick)
      (result : Result (Unit {0}) Failed) → note ≡ [] → IsTextOf text answer
      → SendsAny p old new Out text result → Hands p old new answer note result
  hands_text old new note text answer result none is sends =
      hands_after old old new note text answer result is (cause_none old)
      (λ made start read line run answers handed. noted_none made start read line run answer note
      text answers is (p.history old) none handed) sends

  -- Sending the note failed.
  pub hands_note : (old new : P) (note text : List ℕ) (answer : List Tick) (e : Failed)
      → IsTextOf text answer → SendsTicks p {T = Unit {0}} old new Log note (Err e)
      → Hands p {T = Unit {0}} old new answer note (Err e)
  hands_note old new note text answer e is sends = record {
    ok = tt;
    err = λ made start read line run answers handed.
        noted_cut made start read line run answer note text answers is (p.history old)
        (p.history new) sends.err.front sends.err.rest sends.err.more sends.err.is sends.err.tail
        handed sends.err.told;
    cause = sends.cause;
  }

  -- The notes were sent.
  pub hands_both : (old mid new : P) (note text : List ℕ) (answer : List Tick)
      (result : Result (Unit {0}) Failed) → IsTextOf text answer
      → SendsTicks p {T = Unit {0}} {E = Failed} old mid Log note (Ok tt)
      → SendsAny p mid new Out text result → Hands p old new answer note result
  hands_both old mid new note text answer result is first sends =
      hands_after old mid new note text answer result is first.cause
      (λ made start read line run answers handed. noted_sent made start read line run answer note
      text answers is (p.history old) (p.history mid) handed first.ok) sends

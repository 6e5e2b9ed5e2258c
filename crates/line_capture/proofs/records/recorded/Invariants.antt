use Rattle.line_capture.specs.{RecordWalk.records_walked, Records.records_text, Records.file_front}
use Rattle.std.proofs.Common.{◌≡◌, ◌-◌, ◌++◌, drop}
use Rattle.line_capture.proofs.records.recorded.Given as goal

-- the records that begin in the ticks so far were added
abbrev pub invariant-loop-tick : goal.invariant-loop-tick
invariant-loop-tick l = record {
  form : l.texts.form ≡ l.fn.form;
  rate : l.texts.rate ≡ l.fn.rate;
  text : l.texts.text.items ++ records_text l.fn.form l.fn.rate (records_walked (l.most - l.tick) l.tick
      (drop l.tick l.a) (drop l.tick l.b) l.room_a l.room_b)
      ≡ file_front l.fn.form ++ records_text l.fn.form l.fn.rate (records_walked l.most 0 l.a l.b 0 0);
}

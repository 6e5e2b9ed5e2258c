use Rattle.std.proofs.Common.{◌≡◌, ◌-◌, ◌<◌, ◌≤◌, length, take, true}
use Rattle.yasir_ticks.specs.TickText.{is_plain_decimal, number_after}
use Rattle.yasir_ticks.proofs.whole_lines.spelled_number.Given as goal

abbrev pub invariant-loop-digits : goal.invariant-loop-digits
invariant-loop-digits l = record {
  within : l.digits ≤ length l.bytes;
  plain : is_plain_decimal (take l.digits l.bytes) ≡ true;
  number_is : number_after 0 (take l.digits l.bytes) ≡ l.number;
  some : 0 < l.number;
  fits : l.number ≤ 1000000;
}

abbrev pub decreases-loop-digits : goal.decreases-loop-digits
decreases-loop-digits l = length l.bytes - l.digits

use Rattle.std.proofs.Common.{◌≡◌, ◌<◌, ◌^◌, take, true}
use Rattle.std.specs.List.{list_all}
use Rattle.script_lines.specs.Grammar.{is_digit, decimal_of}
use Rattle.script_lines.proofs.script.number.Given as goal

abbrev pub invariant-loop-digit : goal.invariant-loop-digit
invariant-loop-digit l = record {
  digits : list_all is_digit (take l.digit-index l.digits) ≡ true;
  value : l.number ≡ decimal_of (take l.digit-index l.digits);
  bound : l.number < 10 ^ l.digit-index;
}

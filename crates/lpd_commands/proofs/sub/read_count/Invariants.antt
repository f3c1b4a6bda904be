use Rattle.std.proofs.Common.{◌≡◌, ◌<◌, ◌^◌, take, true}
use Rattle.std.specs.List.{list_all}
use Rattle.lpd_values.specs.Kinds.{is_digit}
use Rattle.lpd_values.specs.Digits.{count_of}
use Rattle.lpd_commands.proofs.sub.read_count.Given as goal

abbrev pub invariant-loop-digit : goal.invariant-loop-digit
invariant-loop-digit l = record {
  digits : list_all is_digit (take l.digit-index l.digits) ≡ true;
  value : l.count ≡ count_of (take l.digit-index l.digits);
  bound : l.count < 10 ^ l.digit-index;
}

use Rattle.std.proofs.Common.{◌≡◌, IsTrue, length}
use Rattle.std.specs.List.{list_all}
use Rattle.lpd_values.specs.Name.{is_data_name}
use Rattle.program_words.specs.Naming.{data_names}
use Rattle.program_words.proofs.naming.data_names.Given as goal

abbrev pub invariant-loop-place : goal.invariant-loop-place
invariant-loop-place l = record {
  names : l.names ≡ data_names l.place l.fn.number l.fn.host;
  count : length l.names ≡ l.place;
  named : IsTrue (list_all is_data_name l.names);
}

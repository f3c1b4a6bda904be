use Rattle.std.proofs.Common.{◌≡◌, length}
use Rattle.std.specs.List.{list_all}
use Rattle.lpd_values.specs.Name.{is_data_name}
use Rattle.account_text.specs.Reading.{words_of}
use Rattle.account_text.proofs.control.all_data_names.Given as goal

abbrev pub invariant-loop-word : goal.invariant-loop-word
invariant-loop-word l = list_all is_data_name (words_of l.rest) ≡ list_all is_data_name (words_of l.text)

abbrev pub decreases-loop-word : goal.decreases-loop-word
decreases-loop-word l = length l.rest

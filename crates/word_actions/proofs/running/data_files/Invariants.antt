use Rattle.std.proofs.Common.{◌≡◌, ◌≤◌, ◌+◌, ◌++◌, ℕ, Bor, List, length, map, take, IsTrue}
use Rattle.std.specs.List.{list_all}
use Rattle.lpd_values.specs.Name.{is_data_name}
use Rattle.lpr_client.specs.declared.file.DataFile.{DataFile}
use Rattle.lpr_client.specs.Sendable.{is_sendable_file}
use Rattle.word_actions.proofs.DataFileLemmas.{Continues}
use Rattle.word_actions.proofs.running.data_files.Given as goal

-- the names of these files
abbrev pub names : List DataFile → List (List ℕ)
names files = map (λ (file : DataFile). file.name) files

-- these paths
abbrev pub texts : List (Bor (List ℕ)) → List (List ℕ)
texts paths = map (λ (path : Bor (List ℕ)). path.now) paths

abbrev pub invariant-loop-name : goal.invariant-loop-name
invariant-loop-name g l = record {
  sendable : IsTrue (list_all is_sendable_file l.read.items);
  named : IsTrue (list_all is_data_name l.name-iterator.a.rest.now);
  fewer : length l.read.items + length l.name-iterator.a.rest.now ≤ length l.fn.names;
  told : names l.read.items ++ take (length l.name-iterator.b.rest.now) l.name-iterator.a.rest.now ≡ take (length l.fn.paths) l.fn.names;
  whole : Continues (g.R.OpenReaders.contents l.fn.files) (texts l.fn.paths) (texts l.name-iterator.b.rest.now) l.read.items;
}

-- One row more: what its queue adds to those before it.
use Rattle.std.proofs.Common.{◌≡◌, ℕ, ◌+◌, ◌<◌, ◌≤◌, true, List, [], ◌∷◌, ◌++◌, length, get_or, drop, map, Some, slice_get, sym, ap, subst, ◌∙◌, append_assoc}
use Rattle.std.proofs.lemmas.Bool.{and_parts}
use Rattle.std.proofs.lemmas.List.{append-nil, drop_all, drop_more}
use Rattle.std.specs.List.{list_all, flat_map}
use Rattle.toml.specs.Data.{Data, Members, as_table}
use Rattle.toml.specs.View.{view}
use Rattle.toml.specs.declared.value.Value.{Value}
use Rattle.toml.proofs.Lines.{data_of_table}
use Rattle.config_values.specs.Config.{Queue}
use Rattle.spool_config.specs.declared.settings.ConfigFault.{ConfigFault}
use Rattle.spool_config.specs.Told.{TellQueues, TellsQueue}
use Rattle.spool_config.specs.Faults.{is_row, row_faults, queue_faults}
use Rattle.spool_config.proofs.Lists.{first_of}

-- what is left of some rows, as data, begins with the next
pub rest_of : (rows : List Value) (k : ℕ) (row : Value) → k < length rows → row ≡ get_or rows k row
    → map view (drop k rows) ≡ view row ∷ map view (drop (k + 1) rows)
rest_of rows k row within is =
    ap (map view) (drop_more rows k row within) ∙ ap (λ r. view r ∷ map view (drop (k + 1) rows)) (sym is)

pub first_row_faults : (rows : List Data) (row : Data) (rest : List Data) (t : Members) (fault : ConfigFault)
    → rows ≡ row ∷ rest → as_table row ≡ Some t → slice_get (queue_faults t) 0 ≡ Some fault → slice_get (flat_map row_faults rows) 0 ≡ Some fault
first_row_faults rows row rest t fault is read first =
    rw (is, read) (first_of (queue_faults t) (flat_map row_faults rest) fault first)

-- what completes the queues of the rest completes all
pub one_more_told : (rows : List Data) (row : Data) (rest : List Data) (t : Members) (all : List Data) (done : List Queue) (q : Queue)
    → rows ≡ row ∷ rest → as_table row ≡ Some t → TellsQueue t q
    → ((tail : List Queue) → TellQueues rows tail → TellQueues all (done ++ tail))
    → (tail : List Queue) → TellQueues rest tail → TellQueues all ((done ++ q ∷ []) ++ tail)
one_more_told rows row rest t all done q is read tells told tail more =
    rw (append_assoc done (q ∷ []) tail)
    (told (q ∷ tail) (rw is ((t, data_of_table row t read, tells), more)))

pub all_told : (rows : List Value) (k : ℕ) (all : List Data) (done : List Queue) → length rows ≤ k
    → ((tail : List Queue) → TellQueues (map view (drop k rows)) tail → TellQueues all (done ++ tail)) → TellQueues all done
all_told rows k all done past told =
    subst (TellQueues all) (append-nil done) (told [] (rw (drop_all k rows past) tt))

-- the faults of the rest, where those of the next row are none, and that the rest are tables
pub rest_faults : (rows : List Data) (row : Data) (rest : List Data) (t : Members) → rows ≡ row ∷ rest → as_table row ≡ Some t → queue_faults t ≡ []
    → flat_map row_faults rest ≡ flat_map row_faults rows
rest_faults rows row rest t is read none = rw (is, read, none)

pub rest_tables : (rows : List Data) (row : Data) (rest : List Data) → rows ≡ row ∷ rest → list_all is_row rows ≡ true → list_all is_row rest ≡ true
rest_tables rows row rest is each =
    let (here, more) = and_parts (is_row row) (list_all is_row rest) (rw is at each) in more

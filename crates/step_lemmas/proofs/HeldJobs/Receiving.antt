-- A job that is being received stays so while its session sends files.
use Rattle.std.proofs.Common.{◌≡◌, ℕ, ◌+◌, Bool, true, false, List, [], ◌∷◌, ◌++◌, ◌∙◌, ap}
use Rattle.std.specs.Prelude.{not, ◌&&◌, is_some}
use Rattle.std.specs.List.{list_all}
use Rattle.lpd_values.specs.Kept.{is_among}
use Rattle.lpd_values.specs.Told.{prints_in}
use Rattle.spool_history.specs.Events.Act.{Began, Put}
use Rattle.spool_history.specs.Acts.{File, at_last, is_open_in, names_in}
use Rattle.spool_history.specs.Now.{Job, is_received}
use Rattle.spool_history.specs.Steps.{acted}
use Rattle.spool_history.specs.Legal.{IsReceiving, HasOpen}
use Rattle.spool_laws.proofs.Known.{and_false}
use Rattle.spool_laws.proofs.Counts.{with_page, last_push}
use Rattle.spool_laws.proofs.Held.{open_push}
use Rattle.spool_laws.proofs.PutOff.{open_last as last_open}

-- a job of which a file is open isn't received
pub open_unreceived : {C : Type 0} (x : Job C) → is_open_in x.files ≡ true → is_received x ≡ false
open_unreceived x e =
    ap (λ (b : Bool). is_some x.control && (not b && list_all (λ name. is_among name (names_in x.files)) (prints_in x.control))) e
    ∙ and_false (is_some x.control)

-- once it is put the job is still being received
pub put_receiving : {C : Type 0} (file number : ℕ) (page : C) (P : File C → Type 0) (x : Job C) → IsReceiving x → HasOpen x.files file P → IsReceiving (acted (Put file number page) x)
put_receiving {C} file number page P x r o =
    let files : at_last (with_page page) x.files ≡ o.0 ++ with_page page o.1 ∷ [] = ap (at_last (with_page page)) o.2 ∙ last_push (with_page page) o.0 o.1 in
    let open' : is_open_in (at_last (with_page page) x.files) ≡ true = ap is_open_in files ∙ last_open o.0 (with_page page o.1) o.4 in
    (r.0, open_unreceived (acted (Put file number page) x) open')

-- once it began the job is still being received
pub began_receiving : {C : Type 0} (name : List ℕ) (count : ℕ) (x : Job C) → IsReceiving x → IsReceiving (acted (Began name count) x)
began_receiving {C} name count x r = (r.0, open_unreceived (acted (Began name count) x) (open_push x.files name count))

-- While a job is received: what its row and its pages become by each act of its session.
use Rattle.std.proofs.Common.{◌≡◌, ◌==◌, ℕ, ◌+◌, ◌-◌, Bool, true, false, List, [], ◌∷◌, ◌++◌, length, refl, sym, ◌∙◌, ap, arith}
use Rattle.std.specs.Prelude.{cond, not, ◌&&◌, is_some, sum_by}
use Rattle.std.proofs.lemmas.List.Sums.{sum_by_push}
use Rattle.std.specs.List.{list_all}
use Rattle.std.proofs.lemmas.List.{length_push}
use Rattle.lpd_values.specs.Contents.{Contents}
use Rattle.lpd_values.specs.Kept.{is_among}
use Rattle.lpd_values.specs.Told.{prints_in}
use Rattle.counts.specs.Amounts.{amount}
use Rattle.config_values.specs.Config.{Config, limit_of}
use Rattle.spool_history.specs.Events.Act.{Began, Put, FileEnded, Controlled}
use Rattle.spool_history.specs.Acts.{File, at_last, is_open_in, names_in}
use Rattle.spool_history.specs.Now.{Job, is_received, pages_held, pages_needed, printers_held, printers_needed, row_of}
use Rattle.spool_history.specs.Steps.{acted}
use Rattle.spool_history.specs.Legal.{IsReceiving, HasOpen}
use Rattle.spool_laws.specs.Sums.{chained_of}
use Rattle.spool_laws.proofs.Known.{and_false}
use Rattle.spool_laws.proofs.Counts.{with_page, last_push}
use Rattle.spool_laws.proofs.Copies.{pages_in}
use Rattle.spool_laws.proofs.Held.{pages_push, pages_ended, open_push}
use Rattle.spool_laws.proofs.Apart.{pages_sum}
use Rattle.step_lemmas.proofs.HeldJobs.Receiving.{began_receiving, open_unreceived, put_receiving}
use Rattle.step_lemmas.proofs.HeldJobs.Holding.{file_pages}
use Rattle.step_lemmas.proofs.Rows.Amounts.{row_same}
use Rattle.spool_laws.proofs.PutOff.{open_last as last_open}

-- what a job that is being received holds: what was lent to it
pub held_receiving : {C : Type 0} (x : Job C) → IsReceiving x → pages_held x ≡ x.granted
held_receiving x r = (let e = r.0 in let i = r.1 in rw (e, i) refl)

-- what it may still need
pub needed_receiving : {C : Type 0} (c : Config) (x : Job C) → IsReceiving x → pages_needed c x ≡ limit_of c x.queue - x.granted
needed_receiving c x r = (let e = r.0 in let i = r.1 in rw (e, i) refl)

-- what it has in its chain: the pages of its files
pub chained_receiving : {C : Type 0} (x : Job C) → IsReceiving x → chained_of x ≡ file_pages x
chained_receiving x r = (let e = r.0 in let i = r.1 in rw (e, i) refl)

-- what any job holds of pages stands in its row
pub held_in_row : {C : Type 0} (c : Config) (x : Job C) → amount (row_of c x).held 0 ≡ pages_held x
held_in_row c x = refl

-- as long as a job isn't received, its row is that of what was lent to it and how much was handed out
pub row_receiving : {C : Type 0} (c : Config) (x y : Job C) → IsReceiving x → IsReceiving y → y.number ≡ x.number → y.sender ≡ x.sender → y.queue ≡ x.queue → y.granted ≡ x.granted → y.handed ≡ x.handed
    → row_of c y ≡ row_of c x
row_receiving {C} c x y r r' n s q g h =
    let nx = needed_receiving c x r in
    let ny = needed_receiving c y r' in
    let lim : limit_of c y.queue ≡ limit_of c x.queue = ap (limit_of c) q in
    let ph : printers_held y ≡ printers_held x = ap (λ (i : ℕ). cond (i == 0) 0 1) h in
    let px : printers_needed x ≡ cond (x.handed == 0) 1 0 = (let e = r.0 in rw e refl) in
    let py : printers_needed y ≡ cond (y.handed == 0) 1 0 = (let e = r'.0 in rw e refl) in
    let pn : printers_needed y ≡ printers_needed x = py ∙ (ap (λ (i : ℕ). cond (i == 0) 1 0) h ∙ sym px) in
    row_same c x y n s q (held_receiving y r' ∙ (g ∙ sym (held_receiving x r))) ph (omega arith) pn

-- a page is put

-- its row is as it was
pub put_row : {C : Type 0} (c : Config) (file number : ℕ) (page : C) (P : File C → Type 0) (x : Job C) → IsReceiving x → HasOpen x.files file P → row_of c (acted (Put file number page) x) ≡ row_of c x
put_row c file number page P x r o = row_receiving c x (acted (Put file number page) x) r (put_receiving file number page P x r o) refl refl refl refl refl

-- and one page more is in its chain
pub put_chain : {C : Type 0} (file number : ℕ) (page : C) (P : File C → Type 0) (x : Job C) → IsReceiving x → HasOpen x.files file P → chained_of (acted (Put file number page) x) ≡ chained_of x + 1
put_chain {C} file number page P x r o =
    let y : Job C = acted (Put file number page) x in
    let pages : List (File C) → ℕ = sum_by (λ (g : File C). length g.pages) in
    let a = chained_receiving y (put_receiving file number page P x r o) ∙ ap pages (ap (at_last (with_page page)) o.2 ∙ last_push (with_page page) o.0 o.1) in
    let na = sum_by_push (λ (g : File C). length g.pages) o.0 (with_page page o.1) in
    omega (arith, a, chained_receiving x r ∙ ap pages o.2, na, sum_by_push (λ (g : File C). length g.pages) o.0 o.1, length_push o.1.pages page)

-- where the files have as many pages, the chain is as it was
chain_same : {C : Type 0} (x y : Job C) → IsReceiving x → IsReceiving y → pages_in y.files ≡ pages_in x.files → chained_of y ≡ chained_of x
chain_same x y r r' e = chained_receiving y r' ∙ (pages_sum y.files ∙ (e ∙ (sym (pages_sum x.files) ∙ sym (chained_receiving x r))))

-- a file begins

-- its row is as it was
pub began_row : {C : Type 0} (c : Config) (name : List ℕ) (count : ℕ) (x : Job C) → IsReceiving x → row_of c (acted (Began name count) x) ≡ row_of c x
began_row c name count x r = row_receiving c x (acted (Began name count) x) r (began_receiving name count x r) refl refl refl refl refl

-- and so is its chain
pub began_chain : {C : Type 0} (name : List ℕ) (count : ℕ) (x : Job C) → IsReceiving x → chained_of (acted (Began name count) x) ≡ chained_of x
began_chain name count x r = chain_same x (acted (Began name count) x) r (began_receiving name count x r) (pages_push x.files name count)

-- a file ends, and the job isn't received by that

-- its row is as it was
pub file_ended_row : {C : Type 0} (c : Config) (file : ℕ) (whole : Bool) (x : Job C) → IsReceiving x → is_received (acted (FileEnded file whole) x) ≡ false → row_of c (acted (FileEnded file whole) x) ≡ row_of c x
file_ended_row c file whole x r e = row_receiving c x (acted (FileEnded file whole) x) r (r.0, e) refl refl refl refl refl

-- and so is its chain
pub file_ended_chain : {C : Type 0} (file : ℕ) (whole : Bool) (x : Job C) → IsReceiving x → is_received (acted (FileEnded file whole) x) ≡ false → chained_of (acted (FileEnded file whole) x) ≡ chained_of x
file_ended_chain file whole x r e = chain_same x (acted (FileEnded file whole) x) r (r.0, e) (pages_ended x.files)

-- the control file comes, and the job isn't received by that

-- its row is as it was
pub controlled_row : {C : Type 0} (c : Config) (control : Contents) (whole : Bool) (x : Job C) → IsReceiving x → is_received (acted (Controlled control whole) x) ≡ false → row_of c (acted (Controlled control whole) x) ≡ row_of c x
controlled_row c control whole x r e = row_receiving c x (acted (Controlled control whole) x) r (r.0, e) refl refl refl refl refl

-- and so is its chain
pub controlled_chain : {C : Type 0} (control : Contents) (whole : Bool) (x : Job C) → IsReceiving x → is_received (acted (Controlled control whole) x) ≡ false → chained_of (acted (Controlled control whole) x) ≡ chained_of x
controlled_chain control whole x r e = chain_same x (acted (Controlled control whole) x) r (r.0, e) refl

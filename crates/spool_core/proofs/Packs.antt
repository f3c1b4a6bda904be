-- What several calls on parts of a core leave together.
use Rattle.std.proofs.Common.{◌≡◌, ℕ, ◌+◌, ◌-◌, ◌<◌, List, length, sym, ◌∙◌, ap}
use Rattle.std.proofs.lemmas.List.{get_or-set_same, set-set}
use Rattle.claims.specs.Claims.{Claims}
use Rattle.claims.specs.Changes.{given_back, need_ended}
use Rattle.page_pool.specs.Page.{Pages}
use Rattle.page_chain.specs.Changes.{unnamed_pages}
use Rattle.held_jobs.specs.Jobs.{HeldJob, no_job}
use Rattle.held_jobs.specs.Moves.{received_job}
use Rattle.held_jobs.specs.Books.{Books, job_at, prints_of, with_job}
use Rattle.spool_core.specs.declared.core_state.Core.TheInside.{Inside}
use Rattle.spool_core.specs.Inside.{core_view}
use Rattle.step_lemmas.proofs.Cores.Receiving.{received_core}

-- the job that was put at a place stands there
pub put_there : (b c : Books) (i : ℕ) (j : HeldJob) → i < length b.jobs → c ≡ with_job b i j → job_at c i ≡ j
put_there b c i j lt e = ap (λ (z : Books). job_at z i) e ∙ get_or-set_same b.jobs i j no_job lt

-- how many pages go back when a job is received
abbrev pub unprinted : HeldJob → ℕ
unprinted q = length (unnamed_pages q.chain.files (prints_of q))

-- the book once the job at a place is received
abbrev pub with_received : Books → ℕ → HeldJob → Books
with_received b i q = record (with_job b i (received_job (prints_of q) q)) { stored = b.stored - unprinted q }

received_book : (b c e : Books) (i : ℕ) (j : HeldJob) → i < length b.jobs → c ≡ with_job b i j → e ≡ with_received c i (job_at c i) → e ≡ with_received b i j
received_book b c e i j lt ec ee =
    ee ∙ (ap (λ (q : HeldJob). with_received c i q) (put_there b c i j lt ec)
    ∙ (ap (λ (z : Books). with_received z i j) ec
    ∙ ap (λ (l : List HeldJob). record b { jobs = l; stored = b.stored - unprinted j }) (set-set b.jobs i j (received_job (prints_of j) j))))

-- a core whose job at a place was changed first, and then received
pub received_pack : (a : Inside) (c e : Books) (pool : Pages) (t : Claims) (i : ℕ) (j : HeldJob) → i < length a.book.jobs → c ≡ with_job a.book i j
    → e ≡ with_received c i (job_at c i)
    → pool ≡ record a.pool { free = a.pool.free + unprinted (job_at c i) }
    → t ≡ given_back (need_ended a.table i 0) i 0 (unprinted (job_at c i))
    → received_core (core_view a) i (received_job (prints_of j) j) (unprinted j) ≡ core_view (record a { pool = pool; book = e; table = t })
received_pack a c e pool t i j lt ec ee ep et =
    let k = core_view a in
    let n = ap (λ (q : HeldJob). unprinted q) (put_there a.book c i j lt ec) in
    let b' = received_book a.book c e i j lt ec ee in
    let p' : pool ≡ record a.pool { free = a.pool.free + unprinted j } = ep ∙ ap (λ (m : ℕ). record a.pool { free = a.pool.free + m }) n in
    let t' : t ≡ given_back (need_ended a.table i 0) i 0 (unprinted j) = et ∙ ap (λ (m : ℕ). given_back (need_ended a.table i 0) i 0 m) n in
    ap (λ (z : Pages). record k { pool = z; book = with_received a.book i j; table = given_back (need_ended a.table i 0) i 0 (unprinted j) }) (sym p')
    ∙ (ap (λ (z : Books). record k { pool = pool; book = z; table = given_back (need_ended a.table i 0) i 0 (unprinted j) }) (sym b')
    ∙ ap (λ (z : Claims). record k { pool = pool; book = e; table = z }) (sym t'))

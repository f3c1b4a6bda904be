use Rattle.std.proofs.Common.{ℕ, ◌++◌, ◌∷◌, [], List, length, nat_eq, sym, ◌∙◌, ap, subst, arith}
use Rattle.std.specs.Map.{lookup}
use Rattle.held_jobs.specs.Jobs.{Facts}
use Rattle.held_jobs.specs.Books.{Books}
use Rattle.queues.specs.declared.entry.Entry.{Entry}
use Rattle.queues.specs.Inside.{IsBook}
use Rattle.queues.proofs.Entries.{length-seen}
use Rattle.queues.proofs.Numbers.{looks_up_none, other_keys}
use Rattle.queues.proofs.Rows.{added}
use Rattle.queues.proofs.book.Book.add.Goals as goal

pub insert_new-requires-clause-other : goal.insert_new-requires-clause-other
insert_new-requires-clause-other c =
    let f = c.self.inside in
    let other = other_keys f.nodes f.rows f.jobs.entries f.max_jobs f.pages f.page_size c.args.self.now c.args.number c.self.invariant c.self.view_is c.requires.other in
    ap (λ (es : List (ℕ × Entry)). lookup (nat_eq c.args.number) es) c.in_ok-reserve.ensures.entries
    ∙ looks_up_none c.args.number f.jobs.entries other

pub invariant_of-self-in-Ok : goal.invariant_of-self-in-Ok
invariant_of-self-in-Ok c =
    let f = c.self.inside in
    let other = other_keys f.nodes f.rows f.jobs.entries f.max_jobs f.pages f.page_size c.args.self.now c.args.number c.self.invariant c.self.view_is c.requires.other in
    let w : Entry = record { job = c.in_ok-job.job; chain = c.in-Ok.chain; row = c.insert_reserved-row.result } in
    let m = length-seen f.nodes f.jobs.entries in
    let n = ap (λ (u : Books). length u.jobs) c.self.view_is in
    let o = ap (λ (u : Books). u.max_jobs) c.self.view_is in
    let room = c.requires.room in
    let q = c.insert_reserved-row.ensures in
    let r = c.in-Ok.ensures in
    subst (λ (es : List (ℕ × Entry)). IsBook f.nodes c.insert_reserved-row.new.self es f.max_jobs f.pages f.page_size)
    (sym (c.insert_new.ensures ∙ ap (λ (es : List (ℕ × Entry)). es ++ (c.args.number, w) ∷ []) c.in_ok-reserve.ensures.entries))
    (added f.nodes f.rows c.insert_reserved-row.new.self f.jobs.entries f.max_jobs f.pages f.page_size c.args.number w c.self.invariant
    (omega (arith, m, n, o, room)) other q.was_vacant q.updates q.capacity q.len q.key_in_range (ap (λ (j : Facts). j.number) c.in_ok-job.ensures) r.row (r.held f.nodes) (r.empty f.nodes))

use Rattle.std.proofs.Common.{◌≡◌, ℕ, None, Some, List, Option, IsSome, length, slice_get, remove, refl, sym, ◌∙◌, ap, subst, arith}
use Rattle.page_chain.specs.Files.{File}
use Rattle.held_jobs.specs.Jobs.{HeldJob}
use Rattle.held_jobs.specs.Books.{Books, job_at}
use Rattle.indexmap.proofs.SetLemmas.{map-remove}
use Rattle.slab.specs.Slab.{Updates, get}
use Rattle.std.proofs.lemmas.Option.{get_or_from_slice_get, slice_get-get_or}
use Rattle.queues.specs.declared.entry.Entry.{Entry}
use Rattle.queues.specs.Inside.{IsBook, IsEntry, book_of, entry_at, no_entry, seen}
use Rattle.queues.proofs.Entries.{job_seen, within}
use Rattle.queues.proofs.Rows.{removed}
use Rattle.page_chain.proofs.Seen.{length-files_from as length-files}
use Rattle.queues.proofs.book.Book.remove.Goals as goal

pub remove-requires : goal.remove-requires
remove-requires c =
    let f = c.self.inside in
    let e = c.in-Some.entry in
    let il = within f.nodes f.jobs.entries f.max_jobs f.pages f.page_size c.args.self.now c.args.i c.self.view_is c.requires.here in
    let at : entry_at f.jobs.entries c.args.i ≡ (c.in-Some.field-0-0, e) = get_or_from_slice_get f.jobs.entries c.args.i (c.in-Some.field-0-0, e) no_entry (sym c.in-Some.ensures.entry) in
    let here = subst (λ (x : ℕ × Entry). IsEntry f.nodes f.rows f.page_size x) at (c.self.invariant.entries c.args.i il) in
    subst (λ (o : Option ℕ). IsSome o) (sym (ap (get f.rows) here.row ∙ here.taken)) refl

pub unreachable-requires : goal.unreachable-requires
unreachable-requires c =
    let f = c.self.inside in
    let il = within f.nodes f.jobs.entries f.max_jobs f.pages f.page_size c.args.self.now c.args.i c.self.view_is c.requires.here in
    let there = slice_get-get_or f.jobs.entries c.args.i no_entry il in
    let none : None ≡ slice_get f.jobs.entries c.args.i = c.in-None.ensures.entry in
    let both : None ≡ Some (entry_at f.jobs.entries c.args.i) = none ∙ there in
    cc

pub invariant_of-self : goal.invariant_of-self
invariant_of-self c =
    let f = c.self.inside in
    let e = c.in-Some.entry in
    let il = within f.nodes f.jobs.entries f.max_jobs f.pages f.page_size c.args.self.now c.args.i c.self.view_is c.requires.here in
    let at : entry_at f.jobs.entries c.args.i ≡ (c.in-Some.field-0-0, e) = get_or_from_slice_get f.jobs.entries c.args.i (c.in-Some.field-0-0, e) no_entry (sym c.in-Some.ensures.entry) in
    let j = ap (λ (u : Books). length (job_at u c.args.i).chain.files) c.self.view_is in
    let d = ap (λ (fs : List File). length fs) c.requires.drained in
    let s = ap (λ (j : HeldJob). length j.chain.files) (job_seen f.nodes f.jobs.entries c.args.i il) in
    let x = (entry_at f.jobs.entries c.args.i).1.chain in
    let n = length-files f.nodes x.row x.prints x.turned 0 x.files in
    let row : (entry_at f.jobs.entries c.args.i).1.row ≡ e.row = ap (λ (x : ℕ × Entry). x.1.row) at in
    subst (λ (es : List (ℕ × Entry)). IsBook f.nodes c.remove.new.self es f.max_jobs f.pages f.page_size) (sym c.in-Some.ensures.entries)
    (removed f.nodes f.rows c.remove.new.self f.jobs.entries f.max_jobs f.pages f.page_size c.args.i c.self.invariant il
    (omega (arith, j, d, s, n)) (subst (λ (r : ℕ). Updates f.rows c.remove.new.self r None) (sym row) c.remove.ensures.updates) c.remove.ensures.capacity c.remove.ensures.len)

pub returns : goal.returns
returns c =
    let f = c.self.inside in
    ap (λ (es : List (ℕ × Entry)). book_of f.nodes es f.max_jobs f.pages f.page_size) c.in-Some.ensures.entries
    ∙ (ap (λ (js : List HeldJob). record (book_of f.nodes f.jobs.entries f.max_jobs f.pages f.page_size) { jobs = js }) (map-remove (λ (x : ℕ × Entry). seen f.nodes x.1) f.jobs.entries c.args.i)
    ∙ ap (λ (u : Books). record u { jobs = remove u.jobs c.args.i }) c.self.view_is)

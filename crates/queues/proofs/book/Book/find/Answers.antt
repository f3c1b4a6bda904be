use Rattle.queues.proofs.Numbers.{absent_in, found_at}
use Rattle.queues.proofs.book.Book.find.Goals as goal

pub returns-clause-found : goal.returns-clause-found
returns-clause-found c =
    let f = c.self.inside in
    found_at f.nodes f.rows f.jobs.entries f.max_jobs f.pages f.page_size c.args.self.now c.args.number c.get_index_of.result c.self.invariant c.self.view_is c.get_index_of.ensures.index

pub returns-clause-absent : goal.returns-clause-absent
returns-clause-absent c =
    let f = c.self.inside in
    absent_in f.nodes f.rows f.jobs.entries f.max_jobs f.pages f.page_size c.args.self.now c.args.number c.get_index_of.result c.self.invariant c.self.view_is c.get_index_of.ensures.found

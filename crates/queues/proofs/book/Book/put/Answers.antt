use Rattle.std.proofs.Common.{◌≡◌, ℕ, ◌+◌, ◌<◌, ◌≤◌, ◌^◌, true, length, refl, sym, ◌∙◌, ap, subst}
use Rattle.page_chain.specs.Held.{shown}
use Rattle.page_chain.proofs.Counting.{page_of_size}
use Rattle.held_jobs.specs.Jobs.{HeldJob, last_size}
use Rattle.held_jobs.specs.Moves.{put_facts, put_job}
use Rattle.held_jobs.specs.Books.{Books}
use Rattle.queues.proofs.Entries.{here_at, leads_led}
use Rattle.queues.proofs.book.Book.put.Goals as goal

pub push-requires-clause-opened : goal.push-requires-clause-opened
push-requires-clause-opened c =
    let k = here_at c.args.i c.index_mut-entry.result.now c.self.invariant c.self.view_is c.requires.here c.index_mut-entry.ensures.value in
    subst (λ (j : HeldJob). j.chain.is_open ≡ true) k.shows c.requires.opened

pub push-requires-clause-held : goal.push-requires-clause-held
push-requires-clause-held c =
    let k = here_at c.args.i c.index_mut-entry.result.now c.self.invariant c.self.view_is c.requires.here c.index_mut-entry.ensures.value in
    k.entry.held

pub put-requires-clause-some : goal.put-requires-clause-some
put-requires-clause-some c =
    let k = here_at c.args.i c.index_mut-entry.result.now c.self.invariant c.self.view_is c.requires.here c.index_mut-entry.ensures.value in
    subst (λ (j : HeldJob). 0 < length j.facts.files) k.shows c.requires.some

pub put-requires-clause-fits : goal.put-requires-clause-fits
put-requires-clause-fits c =
    let k = here_at c.args.i c.index_mut-entry.result.now c.self.invariant c.self.view_is c.requires.here c.index_mut-entry.ensures.value in
    subst (λ (n : ℕ). n ≤ (last_size c.index_mut-entry.result.now.job.files).left) (sym c.len-len.ensures.len)
    (subst (λ (j : HeldJob). length c.args.page.octets ≤ (last_size j.facts.files).left) k.shows c.requires.fits)

pub put-requires-clause-few : goal.put-requires-clause-few
put-requires-clause-few c =
    let k = here_at c.args.i c.index_mut-entry.result.now c.self.invariant c.self.view_is c.requires.here c.index_mut-entry.ensures.value in
    subst (λ (j : HeldJob). (last_size j.facts.files).pages + 1 < 2 ^ 64) k.shows c.requires.few

pub invariant_of-self : goal.invariant_of-self
invariant_of-self c =
    let k = here_at c.args.i c.index_mut-entry.result.now c.self.invariant c.self.view_is c.requires.here c.index_mut-entry.ensures.value in
    let job : c.put.new.self ≡ put_facts (length c.args.page.octets) c.index_mut-entry.result.now.job = c.put.ensures ∙ ap (λ (n : ℕ). put_facts n c.index_mut-entry.result.now.job) c.len-len.ensures.len in
    let sizes = page_of_size c.self.inside.page_size (shown c.index_mut-entry.result.now.chain c.self.inside.nodes).files c.args.page k.entry.sizes (c.requires.size ∙ sym (ap (λ (u : Books). u.page_size) c.self.view_is)) in
    let total = c.push.ensures.total ∙ ap (λ (u : Books). u.stored + 1) c.self.view_is in
    (leads_led k c.push.new.nodes c.put.new.self c.push.new.self (put_job c.args.page) (c.args.self.now.stored + 1) c.push.ensures.chain job refl refl sizes total).book

pub returns : goal.returns
returns c =
    let k = here_at c.args.i c.index_mut-entry.result.now c.self.invariant c.self.view_is c.requires.here c.index_mut-entry.ensures.value in
    let job : c.put.new.self ≡ put_facts (length c.args.page.octets) c.index_mut-entry.result.now.job = c.put.ensures ∙ ap (λ (n : ℕ). put_facts n c.index_mut-entry.result.now.job) c.len-len.ensures.len in
    let sizes = page_of_size c.self.inside.page_size (shown c.index_mut-entry.result.now.chain c.self.inside.nodes).files c.args.page k.entry.sizes (c.requires.size ∙ sym (ap (λ (u : Books). u.page_size) c.self.view_is)) in
    let total = c.push.ensures.total ∙ ap (λ (u : Books). u.stored + 1) c.self.view_is in
    (leads_led k c.push.new.nodes c.put.new.self c.push.new.self (put_job c.args.page) (c.args.self.now.stored + 1) c.push.ensures.chain job refl refl sizes total).shows

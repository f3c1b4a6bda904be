use Rattle.std.proofs.Common.{◌≡◌, ℕ, ◌+◌, ◌-◌, ◌<◌, ◌≤◌, ◌^◌, length, get_or, ap, subst, sym, ◌∙◌, arith}
use Rattle.held_jobs.specs.declared.file.DataFile.{DataFile}
use Rattle.held_jobs.specs.declared.job.Job.TheInside.{Inside}
use Rattle.held_jobs.specs.Jobs.{Facts, contents_of, last_size}
use Rattle.held_jobs.specs.Moves.{put_facts}
use Rattle.held_jobs.proofs.Sizes.{last_is, put_view}
use Rattle.held_jobs.proofs.job.Job.put.Goals as goal

known : (k l : Facts) (len i m : ℕ) (x : DataFile) → k ≡ l → 0 < length l.files → len ≤ (last_size l.files).left → (last_size l.files).pages + 1 < 2 ^ 64
    → m ≡ length k.files → i ≡ m - 1 → x ≡ get_or k.files i x → (len ≤ x.left) × (x.pages + 1 < 2 ^ 64)
known k l len i m x e lt fits few em ei ex =
    let lt' : 0 < length k.files = subst (λ (j : Facts). 0 < length j.files) (sym e) lt in
    let is : x ≡ last_size l.files = last_is k.files i m x lt' em ei ex ∙ ap (λ (j : Facts). last_size j.files) e in
    (subst (λ (y : DataFile). len ≤ y.left) (sym is) fits, subst (λ (y : DataFile). y.pages + 1 < 2 ^ 64) (sym is) few)

abbrev view_of : Inside → Facts
view_of a = record {
  number = a.number;
  sender = a.sender;
  queue = a.queue;
  phase = a.phase;
  granted = a.granted;
  lent = a.lent;
  files = a.files.items;
  control = contents_of a.control;
  handed = a.handed;
  back = a.back;
}

pub overflow_sub-file : goal.overflow_sub-file
overflow_sub-file c =
    let k = known (view_of c.self.inside) c.args.self.now c.args.len (c.len-last.result - 1) c.len-last.result c.index_mut-file.result.now c.self.view_is c.requires.some c.requires.fits c.requires.few
    (let o = c.self.inside.files.ok in let e = c.len-last.ensures in omega arith) (let e : c.len-last.result - 1 ≡ c.len-last.result - 1 = omega arith in e) c.index_mut-file.ensures.value in
    let f = k.0 in
    omega arith

pub overflow_add-file : goal.overflow_add-file
overflow_add-file c =
    let k = known (view_of c.self.inside) c.args.self.now c.args.len (c.len-last.result - 1) c.len-last.result c.index_mut-file.result.now c.self.view_is c.requires.some c.requires.fits c.requires.few
    (let o = c.self.inside.files.ok in let e = c.len-last.ensures in omega arith) (let e : c.len-last.result - 1 ≡ c.len-last.result - 1 = omega arith in e) c.index_mut-file.ensures.value in
    let f = k.1 in
    omega arith

pub returns : goal.returns
returns c =
    let k = view_of c.self.inside in
    let some : 0 < length k.files = subst (λ (j : Facts). 0 < length j.files) (sym c.self.view_is) c.requires.some in
    put_view k c.args.len (c.len-last.result - 1) c.len-last.result c.index_mut-file.result.now some (let o = c.self.inside.files.ok in let e = c.len-last.ensures in omega arith) (let e : c.len-last.result - 1 ≡ c.len-last.result - 1 = omega arith in e) c.index_mut-file.ensures.value
    ∙ ap (put_facts c.args.len) c.self.view_is

use Rattle.std.proofs.Common.{◌≡◌, ℕ, ◌+◌, Bool, true, false, nat_lt, Option, List, [], ◌∷◌, ◌++◌, filter, Vec, Global, length, take, sym, ◌∙◌, ap, arith}
use Rattle.std.proofs.lemmas.Bool.{cond-true, cond-false, lt-ltb, le-ltb}
use Rattle.std.specs.Prelude.{is_ok, vec_capacity}
use Rattle.std.specs.List.{cons_option}
use Rattle.std.proofs.lemmas.List.{append-nil, length_push, get_or_default}
use Rattle.page_chain.specs.declared.run.Run.{Run}
use Rattle.page_chain.specs.Changes.{numbers_of}
use Rattle.page_chain.specs.Held.{no_run, names_in, run_at}
use Rattle.page_chain.proofs.Named.{listed_push, number_within}
use Rattle.page_chain.proofs.prints.list_prints.Goals.{in-Some+then-files-file-gt0, in-Some+else-files-file-gt0, in_default}
use Rattle.page_chain.proofs.prints.list_prints.Goals as goal

pub names-preserved : goal.names-preserved
names-preserved c =
    let files = c.args.files.now in
    let names = names_in files in
    let list = c.args.names.now in
    let i = c.names.name-index in
    let p : ℕ → Bool = λ k. nat_lt 0 (run_at files k).pages in
    let before = filter p (numbers_of names (take i list)) in
    let was = c.names.invariant in
    let listed : filter p (numbers_of names (take (i + 1) list)) ≡ before ++ filter p (cons_option c.find.result []) =
    listed_push p names list i c.name-item.result c.find.result c.names-test.true c.name-item.is c.find.ensures in
    elim c.match-find.branch [
      | in-Some+then-files-file-gt0 w ↦
          let file = w.in-Some.file in
          let there = number_within files c.name-item.result file (sym c.find.ensures ∙ w.in-Some.is) in
          let size = ap (λ (r : Run). r.pages) (get_or_default files file w.index-files-file.result no_run there) in
          let some = w.if-files-file-gt0.true in
          let has : p file ≡ true = lt-ltb 0 (run_at files file).pages (omega (arith, size, some)) in
          let new : filter p (cons_option c.find.result []) ≡ file ∷ [] =
          ap (λ (o : Option ℕ). filter p (cons_option o [])) w.in-Some.is ∙ cond-true (p file) (file ∷ []) [] has in
          let ok : is_ok w.push.result ≡ true = ap is_ok w.unwrap.ensures in
          let items : c.match-find.prints.items ≡ c.names.prints.items ++ file ∷ [] =
          ap (λ (v : Vec ℕ Global). v.items) w.prints-is ∙ (w.push.ensures.items ∙ cond-true (is_ok w.push.result) (c.names.prints.items ++ file ∷ []) c.names.prints.items ok) in
          record {
            listed = items ∙ (ap (λ (xs : List ℕ). xs ++ file ∷ []) was.listed ∙ sym (listed ∙ ap (λ (xs : List ℕ). before ++ xs) new));
            count = (let a = ap length items in let b = length_push c.names.prints.items file in let n = was.count in omega (arith, a, b, n));
            capacity = (let a = ap (λ (v : Vec ℕ Global). vec_capacity v) w.prints-is in let b = w.push.ensures.capacity in let n = was.capacity in omega (arith, a, b, n));
          }
      | in-Some+else-files-file-gt0 w ↦
          let file = w.in-Some.file in
          let there = number_within files c.name-item.result file (sym c.find.ensures ∙ w.in-Some.is) in
          let size = ap (λ (r : Run). r.pages) (get_or_default files file w.index-files-file.result no_run there) in
          let none = w.if-files-file-gt0.false in
          let has : p file ≡ false = le-ltb 0 (run_at files file).pages (omega (arith, size, none)) in
          let new : filter p (cons_option c.find.result []) ≡ [] =
          ap (λ (o : Option ℕ). filter p (cons_option o [])) w.in-Some.is ∙ cond-false (p file) (file ∷ []) [] has in
          let same = ap (λ (v : Vec ℕ Global). v.items) w.prints-is in
          record {
            listed = same ∙ (was.listed ∙ sym (listed ∙ (ap (λ (xs : List ℕ). before ++ xs) new ∙ append-nil before)));
            count = (let a = ap length same in let n = was.count in omega (arith, a, n));
            capacity = (let a = ap (λ (v : Vec ℕ Global). vec_capacity v) w.prints-is in let n = was.capacity in omega (arith, a, n));
          }
      | in_default w ↦
          let new : filter p (cons_option c.find.result []) ≡ [] = ap (λ (o : Option ℕ). filter p (cons_option o [])) w.in_default.is in
          let same = ap (λ (v : Vec ℕ Global). v.items) w.prints-is in
          record {
            listed = same ∙ (was.listed ∙ sym (listed ∙ (ap (λ (xs : List ℕ). before ++ xs) new ∙ append-nil before)));
            count = (let a = ap length same in let n = was.count in omega (arith, a, n));
            capacity = (let a = ap (λ (v : Vec ℕ Global). vec_capacity v) w.prints-is in let n = was.capacity in omega (arith, a, n));
          }
    ]

use Rattle.std.proofs.Common.{◌≡◌, ℕ, ◌<◌, Bool, true, false, List, Option, length, sym, ◌∙◌, ap, subst, arith}
use Rattle.std.specs.Prelude.{is_some}
use Rattle.std.proofs.lemmas.List.{length-map}
use Rattle.page_chain.specs.declared.chain.Chain.TheInside.{Inside}
use Rattle.page_chain.specs.declared.run.Run.{Run}
use Rattle.page_chain.specs.Changes.{has_name, number_of}
use Rattle.page_chain.specs.Held.{Kept, names_in}
use Rattle.page_chain.proofs.Named.{has_number}
use Rattle.page_chain.proofs.chain.Chain.refusal.Goals as goal

-- whether a file has the name, as the search for it says
has : (f : Inside) (name : List ℕ) (items : List Run) (found : Option ℕ) (there : Bool) → items ≡ f.files.items → found ≡ number_of (names_in items) name → there ≡ is_some found
    → has_name (names_in f.files.items) name ≡ there
has f name items found there are is e =
    has_number (names_in f.files.items) name ∙ (ap is_some (sym (is ∙ ap (λ (fs : List Run). number_of (names_in fs) name) are)) ∙ sym e)

pub returns-then-is_some : goal.returns-then-is_some
returns-then-is_some c =
    let is = has c.self.inside c.args.name.now c.as_slice.result.now c.find.result c.is_some.result c.as_slice.ensures.value c.find.ensures c.is_some.ensures ∙ c.if-is_some.true in
    subst (λ (u : Kept). has_name (names_in u.files) c.args.name.now ≡ true) c.self.view_is is

pub returns-then-len-self : goal.returns-then-len-self
returns-then-len-self c =
    let f = c.self.inside in
    let name = c.args.name.now in
    let not = has f name c.as_slice.result.now c.find.result c.is_some.result c.as_slice.ensures.value c.find.ensures c.is_some.ensures ∙ c.if-is_some.false in
    let count = length-map f.files.items (λ (run : Run). run.name) in
    let len = c.len.ensures in
    let full = c.if-len-self.true in
    let all : length (names_in f.files.items) ≡ f.file_room = (let a = c.as_slice.ensures.len in let b = ap length c.as_slice.ensures.value in omega (arith, count, a, b, len, full)) in
    subst (λ (u : Kept). (has_name (names_in u.files) name ≡ false) × (length (names_in u.files) ≡ u.file_room)) c.self.view_is (not, all)

pub returns : goal.returns
returns c =
    let f = c.self.inside in
    let name = c.args.name.now in
    let not = has f name c.as_slice.result.now c.find.result c.is_some.result c.as_slice.ensures.value c.find.ensures c.is_some.ensures ∙ c.if-is_some.false in
    let count = length-map f.files.items (λ (run : Run). run.name) in
    let len = c.len.ensures in
    let within = c.self.invariant.2 in
    let room : length (names_in f.files.items) < f.file_room =
    (let a = c.as_slice.ensures.len in let b = ap length c.as_slice.ensures.value in omega (arith, count, a, b, len, within, c.if-len-self.false)) in
    subst (λ (u : Kept). (has_name (names_in u.files) name ≡ false) × (length (names_in u.files) < u.file_room)) c.self.view_is (not, room)

use Rattle.std.proofs.Common.{◌≡◌, ◌-◌, ℕ, List, drop, take, length, sym, ◌∙◌, ap, subst}
use Rattle.std.proofs.lemmas.List.{take_rest}
use Rattle.page_chain.specs.Changes.{comes_again, is_to_come}
use Rattle.page_chain.specs.Held.{Kept, places_left, IsOfFile}
use Rattle.page_chain.proofs.Inside.{kept_of}
use Rattle.page_chain.proofs.Places.{to_come_is}
use Rattle.page_chain.proofs.chain.Chain.comes_again.Goals as goal

pub returns : goal.returns
returns c =
    let f = c.self.inside in
    let files = f.files.items in
    let prints = f.prints.items in
    let place = c.in-Some.place in
    let t = kept_of f in
    let v : t ≡ c.args.self.now = c.self.view_is in
    let number = subst (IsOfFile files) c.in-Some.is c.self.invariant.8 in
    let rest = ap (λ (xs : List ℕ). take (length xs - f.printed) (drop f.printed xs)) c.as_slice.ensures.value ∙ take_rest prints f.printed in
    let is = c.is_to_come.ensures ∙ (ap (λ (ps : List ℕ). is_to_come ps f.turned place) rest ∙ to_come_is files (drop f.printed prints) f.turned place c.self.invariant.7 number) in
    subst (λ (u : Kept). c.is_to_come.result ≡ comes_again (places_left u.files u.prints u.turned) u.last) v
    (is ∙ ap (comes_again (places_left files (drop f.printed prints) f.turned)) (sym c.in-Some.is))

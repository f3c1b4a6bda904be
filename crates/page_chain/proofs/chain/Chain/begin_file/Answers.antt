use Rattle.std.proofs.Common.{Option, None, ◌≡◌, ◌<◌, true, false, List, [], drop, length, sym, subst, arith}
use Rattle.std.proofs.lemmas.Grind.{common_steps}
use Rattle.std.proofs.lemmas.List.{length-map}
use Rattle.page_chain.specs.declared.run.Run.{Run}
use Rattle.page_chain.specs.declared.place.Place.{Place}
use Rattle.page_chain.specs.Changes.{begun}
use Rattle.page_chain.specs.Held.{Kept, Turns, names_in, places_left, HasTurned, IsOfFile}
use Rattle.page_chain.proofs.Inside.{kept_of}
use Rattle.page_chain.proofs.Places.{none_left}
use Rattle.page_chain.proofs.Calls.{begins, print_none, of_file_push}
use Rattle.page_chain.proofs.chain.Chain.begin_file.Goals as goal

pub invariant_of-self : goal.invariant_of-self
invariant_of-self c =
    let f = c.self.inside in
    let i = c.self.invariant in
    let t = kept_of f in
    let v : t ≡ c.args.self.now = c.self.view_is in
    let placed = subst (λ (u : Kept). places_left u.files u.prints u.turned ≡ []) (sym v) c.requires.placed in
    let empty = none_left f.files.items (drop f.printed f.prints.items) f.turned i.7 placed in
    let items = c.push_reserved.ensures.items in
    let fresh = subst (λ (u : Kept). u.last ≡ None) (sym v) c.requires.fresh in
    let room : length f.files.items < f.file_room =
    (let r = subst (λ (u : Kept). length (names_in u.files) < u.file_room) (sym v) c.in_default.ensures.1 in
    let m = length-map f.files.items (λ (run : Run). run.name) in omega (arith, r, m)) in (
      i.0,
      i.1,
      grind (arith, common_steps, room, c.push_reserved.ensures.len, i.2),
      (let m = c.push_reserved.ensures.capacity in let r = i.3 in omega (arith, m, r)),
      i.4,
      i.5,
      λ e. (grind (arith, common_steps, c.push_reserved.ensures.len), empty, fresh),
      print_none c.push_reserved.new.self.items (drop f.printed f.prints.items) f.turned empty,
      subst (λ (fs : List Run). IsOfFile fs f.last) (sym items) (of_file_push f.files.items (record { name = c.args.name; pages = 0 }) f.last i.8),
      subst (λ (o : Option Place). HasTurned c.push_reserved.new.self.items (drop f.printed f.prints.items) f.turned o) (sym fresh) tt,
    )

pub returns-clause-begun : goal.returns-clause-begun
returns-clause-begun c =
    let f = c.self.inside in
    let i = c.self.invariant in
    let t = kept_of f in
    let v : t ≡ c.args.self.now = c.self.view_is in
    let placed = subst (λ (u : Kept). places_left u.files u.prints u.turned ≡ []) (sym v) c.requires.placed in
    let closed = subst (λ (u : Kept). u.is_open ≡ false) (sym v) c.requires.closed in
    let room : length f.files.items < 52 =
    (let r = subst (λ (u : Kept). length (names_in u.files) < u.file_room) (sym v) c.in_default.ensures.1 in
    let m = length-map f.files.items (λ (run : Run). run.name) in let most = i.1 in omega (arith, r, m, most)) in
    let made = begins t c.args.name closed i.7 placed room in
    subst (λ (u : Kept). Turns u (record t { files = c.push_reserved.new.self.items; is_open = true }) (begun c.args.name)) v
    (subst (λ (fs : List Run). Turns t (record t { files = fs; is_open = true }) (begun c.args.name)) (sym c.push_reserved.ensures.items) made)

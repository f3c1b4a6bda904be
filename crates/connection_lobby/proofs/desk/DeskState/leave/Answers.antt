use Rattle.std.proofs.Common.{arith, rules}
use Rattle.std.proofs.lemmas.Option.{slice_get_within}
use Rattle.connection_lobby.proofs.HostLemmas.{no_other, one_less}
use Rattle.connection_lobby.proofs.desk.DeskState.leave.Goals as goal

pub remove-requires : goal.remove-requires
remove-requires c =
    let within = slice_get_within c.as_slice.result.now c.in-Some.at c.args.host c.in-Some.ensures.place in
    omega (arith, within, c.as_slice.ensures.len)

pub returns-in-Some-clause-share : goal.returns-in-Some-clause-share
returns-in-Some-clause-share c is =
    let less = one_less c.args.host c.as_slice.result.now c.in-Some.at c.in-Some.ensures.place in
    let items = c.remove.ensures.items in
    let value = c.as_slice.ensures.value in
    search (rules, less, items, value)

pub returns-in-Some-clause-others : goal.returns-in-Some-clause-others
returns-in-Some-clause-others c other differs =
    let same = no_other c.args.host other c.as_slice.result.now c.in-Some.at c.in-Some.ensures.place differs in
    let items = c.remove.ensures.items in
    let value = c.as_slice.ensures.value in
    search (rules, same, items, value)

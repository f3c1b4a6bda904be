use Rattle.std.proofs.Common.{◌≡◌, ◌++◌, ◌∷◌, [], add-one, subst, unwrap_or}
use Rattle.program_edge.specs.Networks.{IsNetworkText, NameNetworks}
use Rattle.program_words.proofs.AllowLemmas.{one_more_named, one_names_none}
use Rattle.program_words.proofs.serving.networks_of.Goals as goal

pub returns-in-None-clause-fault : goal.returns-in-None-clause-fault
returns-in-None-clause-fault c = (
  λ network named. c.in-None.ensures.none network (subst (λ t. IsNetworkText t network) c.in_ok-from_str-in-None.ensures.ok named),
  λ networks allowed.
      one_names_none c.in-Ok.texts.now c.loop-text.text-index _ c.loop-text-test.true c.in-None.ensures.none networks
      (subst (λ o. NameNetworks (unwrap_or o []) networks) c.in-Ok.ensures.texts allowed),
)

pub loop-text-preserved : goal.loop-text-preserved
loop-text-preserved c =
    let items : c.push.new.self.items ≡ c.loop-text.networks.items ++ c.in-Some.network ∷ [] =
    rw c.in_ok-push-in-Some.was at c.push.ensures.items in
    let more =
    one_more_named c.in-Ok.texts.now c.loop-text.text-index _ c.loop-text.networks.items c.in-Some.network c.loop-text-test.true
    c.loop-text.invariant c.in-Some.ensures.network in
    rw (items, add-one) more

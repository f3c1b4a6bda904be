use Rattle.std.proofs.Common.{◌≡◌, ◌∷◌, ◌++◌, [], ℕ, List, Some, ap, refl, subst, ◌∙◌}
use Rattle.receiver.specs.Reading.{Progress}
use Rattle.spool_world.specs.declared.connection.Connection.{Connection}
use Rattle.spool_world.specs.Worlds.{AddsConnection, IsNew, Worlds}
use Rattle.spool_world.specs.Inside.{world_view}
use Rattle.spool_world.proofs.world.World.add_connection.Goals as goal

-- a connection that was added is a new one
added : (old now : Worlds) (sender : ℕ) (k : Connection) (ks mid : List Connection) → old ≡ now → IsNew sender k → ks ≡ mid ++ k ∷ [] → mid ≡ old.connections → AddsConnection now sender (record old { connections = ks })
added old now sender k ks mid e new items reserved =
    subst (λ (w : Worlds). AddsConnection w sender (record old { connections = ks })) e
    (k, new, ap (λ (x : List Connection). record old { connections = x }) (items ∙ ap (λ (x : List Connection). x ++ k ∷ []) reserved))

pub returns-clause-added : goal.returns-clause-added
returns-clause-added c =
    added (world_view c.self.inside) c.args.self.now c.args.sender _ c.push_reserved.new.self.items c.reserve.new.self.items c.self.view_is
    (record { of = refl; reader = ap (λ (p : Progress). Some p) c.in_ok-reader.ensures; job = refl; kept = refl; unread = c.new-unread.ensures.items })
    c.push_reserved.ensures.items c.reserve.ensures.items

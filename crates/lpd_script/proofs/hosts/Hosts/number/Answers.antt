use Rattle.std.proofs.Common.{map, ap, ◌∙◌}
use Rattle.lpd_script.specs.Hosts.{sender_of, with_host}
use Rattle.lpd_script.proofs.HostPlaces.{same_place, same_hosts}
use Rattle.lpd_script.proofs.hosts.Hosts.number.Goals as goal
use Rattle.lpd_script.proofs.hosts.Hosts.number.Goals.{in-Ok-try_from, in-Err}

pub returns-clause-number : goal.returns-clause-number
returns-clause-number c =
    elim c.match-try_from.branch [
      | in-Ok-try_from w ↦ rw w.result-is (w.in-Ok-try_from.ensures.1 ∙ c.in-Ok.ensures.index
          ∙ same_place (λ host. host.items) c.into_vec.result.items c.self.inside.hosts.keys
          ∙ ap (sender_of (map (λ host. host.items) c.self.inside.hosts.keys)) c.into_vec.ensures
          ∙ ap (λ hosts. sender_of hosts c.args.host) c.self.view_is)
      | in-Err w ↦ rw w.result-is tt
    ]

pub returns-clause-hosts : goal.returns-clause-hosts
returns-clause-hosts c =
    elim c.match-try_from.branch [
      | in-Ok-try_from w ↦ rw w.result-is (ap (map (λ host. host.items)) c.in-Ok.ensures.keys
          ∙ same_hosts (λ host. host.items) c.into_vec.result c.self.inside.hosts.keys
          ∙ ap (with_host (map (λ host. host.items) c.self.inside.hosts.keys)) c.into_vec.ensures
          ∙ ap (λ hosts. with_host hosts c.args.host) c.self.view_is)
      | in-Err w ↦ rw w.result-is tt
    ]

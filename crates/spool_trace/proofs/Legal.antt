-- The events of a trace are a legal history, and so the laws of legal histories hold of them.
use Rattle.std.proofs.Common.{ℕ, List, [], ◌∷◌, Option, Some, None, length, refl}
use Rattle.account.specs.declared.entry.Outline.{Outline}
use Rattle.config_values.specs.Config.{Config}
use Rattle.spool_history.specs.Base.{first_base}
use Rattle.spool_history.specs.Events.{Event}
use Rattle.spool_history.specs.Now.{now}
use Rattle.spool_history.specs.Legal.{IsLegal}
use Rattle.spool_laws.proofs.Apart.{each_has_a_place}
use Rattle.spool_laws.proofs.OutlinedMay.{outline_legal}
use Rattle.spool_calls.specs.Looks.{outline_of}
use Rattle.spool_calls.specs.Looks.Detail.{Octets}
use Rattle.spool_requests.specs.Shows.{with_event}
use Rattle.spool_requests.specs.Due.{MayCome}
use Rattle.spool_trace.specs.Sessions.{sessions}
use Rattle.spool_trace.specs.Shown.{shown, events, spool_after}
use Rattle.spool_trace.specs.Headline.{EventsAreLegal, OutlineIsLegal, PagesAddUp}

grows : (c : Config) (h : List (Event (List ℕ))) (o : Option (Event (List ℕ))) → MayCome Octets (now c first_base h) o → IsLegal length c first_base h → IsLegal length c first_base (with_event o h)
grows c h None m l = l
grows c h (Some e) m l = (m, l)

pub legal : EventsAreLegal
legal c [] r = tt
legal c (e ∷ t) r = grows c (events c t) (shown (spool_after c t) (sessions t) e.step e.reply) r.0.may (legal c t r.1)

pub outlined : OutlineIsLegal
outlined c t r = outline_legal outline_of length (λ (o : Outline). o.length) (λ page. refl) c first_base (events c t) (legal c t r)

pub add_up : PagesAddUp
add_up c t r = each_has_a_place length c first_base (events c t) (legal c t r)

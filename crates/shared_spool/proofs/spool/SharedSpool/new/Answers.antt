use Rattle.std.proofs.Common.{◌≡◌, ℕ, ◌+◌, ◌<◌, List, rules, sym, ap, ◌∙◌, subst, length}
use Rattle.std.specs.Prelude.{Some, All, slice_get}
use Rattle.spool_ledgers.specs.Sums.{Sums, no_sums}
use Rattle.shared_spool.specs.Seats.{Desk, new_desk}
use Rattle.shared_spool.proofs.Rows.{all_pushed, at_pushed}
use Rattle.shared_spool.proofs.spool.SharedSpool.new.Goals as goal

pub printers-preserved : goal.printers-preserved
printers-preserved g c =
    let desk : c.new-in-printers.result ≡ new_desk (c.printers.i + 1) =
    c.new-in-printers.ensures ∙ ap (λ (s : Sums). record (new_desk (c.printers.i + 1)) { sums = s }) c.split_one-in-printers.ensures.one in
    let here : c.new-in-printers.result ≡ new_desk (length c.printers.printer_seats.items + 1) =
    desk ∙ ap (λ (n : ℕ). new_desk (n + 1)) (sym c.printers.invariant.seats) in
    let row = at_pushed c.printers.printer_seats.items c.new-in-printers.result (λ (k : ℕ). new_desk (k + 1)) c.printers.invariant.row here in
    record {
      parts = search rules;
      fresh = search rules;
      seats = search rules;
      room = search rules;
      row = subst (λ (ds : List Desk). (i : ℕ) → i < length ds → slice_get ds i ≡ Some (new_desk (i + 1))) (sym c.push_reserved-in-printers.ensures.items) row;
    }

pub sessions-preserved : goal.sessions-preserved
sessions-preserved g c =
    let fresh : c.new-in-sessions.result ≡ no_sums 1 = c.new-in-sessions.ensures ∙ c.split_one.ensures.one in
    let all = all_pushed (λ (s : Sums). s ≡ no_sums 1) c.sessions.session_seats.items c.new-in-sessions.result c.sessions.invariant.none fresh in
    record {
      parts = search rules;
      fresh = search rules;
      seats = search rules;
      room = search rules;
      none = subst (λ (ss : List Sums). All (λ (s : Sums). s ≡ no_sums 1) ss) (sym c.push_reserved.ensures.items) all;
    }

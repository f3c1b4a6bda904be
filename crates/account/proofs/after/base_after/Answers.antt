use Rattle.std.proofs.Common.{◌+◌, List, reverse, length, map, ap, sym, ◌∙◌, arith}
use Rattle.config_values.specs.Config.{printer_count}
use Rattle.spool_history.specs.Events.{Event}
use Rattle.spool_history.specs.Now.{up_to}
use Rattle.spool_history.specs.Said.{is_closed, openings}
use Rattle.spool_history.specs.Steps.{closed_after}
use Rattle.account.specs.declared.entry.Outline.{Outline}
use Rattle.account.specs.After.{printer_in, printers_after}
use Rattle.account.specs.Seen.{base_seen, event_seen, history}
use Rattle.account.proofs.Histories.{closed_more, openings_more, openings_within, told, told_all, told_more}
use Rattle.account.proofs.Printers.{base_is, printers_more}
use Rattle.account.proofs.after.base_after.Goals as goal

pub read-requires : goal.read-requires
read-requires c =
    let entries = c.args.entries.now in
    let i = c.loop-entry.entry-index in
    let e : Event Outline = event_seen c.entry-item.result in
    let t = told_more entries i c.entry-item.result c.loop-entry-test.true c.entry-item.is in
    let n = ap (λ (h : List (Event Outline)). length (openings h)) t in
    omega (arith, c.requires, c.loop-entry.invariant.accepted, openings_within entries (i + 1), n, openings_more e (told entries i))

pub loop-entry-preserved : goal.loop-entry-preserved
loop-entry-preserved c =
    let entries = c.args.entries.now in
    let config = c.args.config.now in
    let base = base_seen c.args.base.now in
    let i = c.loop-entry.entry-index in
    let was = c.loop-entry.invariant in
    let e : Event Outline = event_seen c.entry-item.result in
    let t = told_more entries i c.entry-item.result c.loop-entry-test.true c.entry-item.is in
    let n = ap (λ (h : List (Event Outline)). length (openings h)) t in
    record {
      accepted = omega (arith, c.read.ensures.accepted, was.accepted, n, openings_more e (told entries i));
      closed = c.read.ensures.closed
          ∙ (ap (closed_after e) was.closed
          ∙ (sym (closed_more base e (told entries i)) ∙ sym (ap (is_closed base) t)));
      printers = c.read.ensures.printers
          ∙ (ap (printers_after e) was.printers
          ∙ (sym (printers_more config base e (told entries i) (printer_count config))
          ∙ sym (ap (λ (h : List (Event Outline)). map (printer_in config base h) (up_to (printer_count config))) t)));
    }

pub returns : goal.returns
returns c =
    let entries = c.args.entries.now in
    let config = c.args.config.now in
    let base = base_seen c.args.base.now in
    let was = c.loop-entry.invariant in
    let t = told_all entries c.loop-entry.entry-index (omega arith) in
    let printers = c.as_slice-printers.result.now in
    base_is config base (history (reverse entries)) printers _
    (c.as_slice-printers.ensures.value ∙ (was.printers ∙ ap (λ (h : List (Event Outline)). map (printer_in config base h) (up_to (printer_count config))) t))
    (was.accepted ∙ ap (λ (h : List (Event Outline)). base.accepted + length (openings h)) t)
    (was.closed ∙ ap (is_closed base) t)
    c.count_stopped.ensures
    c.in_ok-stops_of.ensures

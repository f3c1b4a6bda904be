use Rattle.std.proofs.Common.{◌≡◌, ◌∙◌, ℕ, List, true, false, ap₂, sym, subst, map}
use Rattle.std.specs.Prelude.{Option}
use Rattle.std.specs.List.{list_all}
use Rattle.control_file.specs.declared.control.Control.{Control}
use Rattle.lpd_values.specs.Kept.{is_among}
use Rattle.control_file.specs.View.{contents}
use Rattle.spool_history.specs.Acts as A
use Rattle.account.specs.declared.entry.Outline.{Outline}
use Rattle.history_reader.specs.declared.state.File.{File}
use Rattle.history_reader.specs.Seen.{file_seen, control_seen}
use Rattle.history_legality.proofs.DoingLaws.{whole_by_end}
use Rattle.history_legality.proofs.doing.is_whole_by_end.Goals as goal

pub returns-then-not-has_open_before_last : goal.returns-then-not-has_open_before_last
returns-then-not-has_open_before_last c =
    let job = c.args.job.now in
    let files : List (A.File Outline) = map file_seen job.files.items in
    let control = c.in-Some.control in
    let closed : A.is_open_in (A.at_last (λ f. record f { ended = true }) files) ≡ false = cc (c.as_slice.ensures.value, c.has_open_before_last.ensures, c.if-not-has_open_before_last.true) in
    let all : c.all_begun.result ≡ list_all (λ name. is_among name (A.names_in files)) control.prints =
    c.all_begun.ensures ∙ ap₂ (λ (ns : List (List ℕ)) (fs : List File). list_all (λ name. is_among name (A.names_in (map file_seen fs))) ns)
    c.as_slice-then-not-has_open_before_last.ensures c.as_slice-then-not-has_open_before_last-2.ensures.value in
    subst (λ (o : Option Control). c.all_begun.result ≡ A.is_whole (control_seen o) (A.at_last (λ f. record f { ended = true }) files)) (sym c.in-Some.is) (whole_by_end c.all_begun.result (contents control) files closed all)

use Rattle.std.proofs.Common.{◌≡◌, ◌∙◌, ℕ, List, ap, map, subst, sym}
use Rattle.std.specs.Prelude.{IfSome, Option, Some}
use Rattle.lpd_values.specs.Told.{prints_in}
use Rattle.control_file.specs.declared.control.Control.{Control}
use Rattle.history_reader.specs.declared.state.File.{File}
use Rattle.history_reader.specs.Seen.{control_seen, file_seen}
use Rattle.audit_grants.proofs.KeptPages.{left_of}
use Rattle.audit_grants.proofs.kept.count_kept.Goals as goal

pub returns : goal.returns
returns c =
    let is : c.args.job.now.control ≡ Some c.in_ok-control.control.now = sym c.in_ok-control.ensures.value in
    let names : c.as_slice.result.now ≡ prints_in (control_seen c.args.job.now.control) =
    c.as_slice.ensures ∙ sym (ap (λ (o : Option Control). prints_in (control_seen o)) is) in
    subst (λ (k : ℕ). IfSome c.pages_left.result (λ n. n ≡ k))
    (ap (λ (l : List (List ℕ)). left_of l (map file_seen c.as_slice-2.result.now) c.args.job.now.back) names
    ∙ ap (λ (l : List File). left_of (prints_in (control_seen c.args.job.now.control)) (map file_seen l) c.args.job.now.back) c.as_slice-2.ensures.value)
    c.pages_left.ensures

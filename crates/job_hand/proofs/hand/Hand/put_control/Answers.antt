use Rattle.std.proofs.Common.{◌≡◌, ◌≤◌, length, ◌∙◌, ap, subst}
use Rattle.std.specs.Prelude.{IsTrue}
use Rattle.lpd_values.specs.Name.{is_control_name, number_of}
use Rattle.lpd_values.specs.declared.limits.TheConstants.{MAX_CONTROL_TEXT}
use Rattle.control_file.specs.View.{contents}
use Rattle.control_file.proofs.WriteLemmas.{control_is_read_back}
use Rattle.job_streams.specs.Stream.{IsFitControl, control_name}
use Rattle.job_hand.proofs.Standing.{is_control_line, stands_control}
use Rattle.job_hand.proofs.hand.Hand.put_control.Goals as goal

pub returns-clause-stands : goal.returns-clause-stands
returns-clause-stands g c = λ job h.
    let said = contents c.args.control.now in
    let text = c.as_slice-count.ensures ∙ c.in_ok-text.ensures in
    let short = subst (λ t. length t ≤ MAX_CONTROL_TEXT) text c.if-count-gt-MAX_CONTROL_TEXT.false in
    let fit : IsFitControl said = record {
      named = subst (λ n. IsTrue (is_control_name n)) c.in-Some.ensures.name c.in-Some.ensures.named;
      short = short;
      read = control_is_read_back c.args.control.now (control_name c.args.control.now.number) (subst (λ n. number_of n ≡ c.args.control.now.number) c.in-Some.ensures.name c.in-Some.ensures.number) short;
    } in
    stands_control g.F.Folder.seen g.F.Folder.may_leave c.args.self.now _ c.append.new.folder c.append-2.new.folder c.as_slice.result.now c.as_slice-2.result.now said job h
    (c.in_ok-control.ensures.knows fit job h.knows) (c.in_ok-control.ensures.closed job h.knows)
    c.in_ok-append.ensures.in_hand c.in_ok-append-2.ensures.in_hand c.in_ok-append-3.ensures.in_hand
    (is_control_line (length c.as_slice-count.result.now) c.in-Some.name c.as_slice.result.now said (c.as_slice.ensures ∙ c.in_ok-line.ensures) (ap length text) c.in-Some.ensures.name)
    (c.as_slice-2.ensures ∙ c.in_ok-text.ensures)

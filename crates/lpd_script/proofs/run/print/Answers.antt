use Rattle.std.proofs.Common.{rules, ◌≡◌, ◌++◌, false, cond, is_ok, sym, subst, ap, ◌∙◌, append-nil}
use Rattle.std.proofs.lemmas.Result.{on_ok_weaker}
use Rattle.lpd_commands.specs.Ends.{Writes}
use Rattle.lpd_commands.proofs.Writing.{Writes-append}
use Rattle.lpd_script.proofs.run.print.Goals as goal

pub returns-then-is_err-clause-printed : goal.returns-then-is_err-clause-printed
returns-then-is_err-clause-printed g c =
    let old = c.args.printed.now.items in
    let text = c.args.text.now in
    let a = g.W.OctetWrite.written c.args.output.now in
    let b = g.W.OctetWrite.written c.write_out.new.output in
    let d = g.W.OctetWrite.written c.write.new.output in
    let left = c.write_out.new.printed.items in
    let bad : is_ok c.extend_from_slice.result ≡ false = search rules in
    let kept : c.extend_from_slice.new.self.items ≡ old =
    c.extend_from_slice.ensures.items ∙ ap (λ x. cond x (old ++ c.as_bytes.result.now) old) bad in
    let same : (old ++ text ≡ (old ++ text) ++ left) =
    sym (append-nil (old ++ text)) ∙ ap (λ x. (old ++ text) ++ x) (sym c.in_ok-write_out.ensures.emptied) in
    on_ok_weaker c.write.result (λ (w : Writes b d c.as_bytes-then-is_err.result.now). (
      old ++ text,
      Writes-append a b d old text (subst (λ y. Writes a b y) kept c.in_ok-write_out.ensures.written)
          (subst (λ y. Writes b d y) c.as_bytes-then-is_err.ensures.value w),
      same,
    )) c.write.ensures.written

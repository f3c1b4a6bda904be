use Rattle.std.proofs.Common.{Err, map, take, length, ◌≤◌, ◌<◌, sym, subst, arith, rules}
use Rattle.std.specs.List.{concat}
use Rattle.std.proofs.lemmas.List.{length-map}
use Rattle.std.proofs.lemmas.Result.{err_from_is_err_and}
use Rattle.lpd_commands.specs.Ends.{Writes}
use Rattle.lpd_commands.proofs.Writing.{Writes-append, counts_one}
use Rattle.lpr_client.specs.Shown.{part_octets}
use Rattle.lpr_client.proofs.PartLemmas.{parts_more}
use Rattle.lpr_client.proofs.SendLemmas.{stops_here, acknowledged_more, reads_within}
use Rattle.lpr_client.proofs.send.send_parts.Goals as goal

pub returns-in_err-send_part-clause-err : goal.returns-in_err-send_part-clause-err
returns-in_err-send_part-clause-err g c =
    let here = c.loop-part.invariant in
    let parts = c.args.parts.now in
    let index = c.loop-part.part-index in
    let within : index < length (map part_octets parts) = subst (λ n. index < n) (sym (length-map parts part_octets)) c.loop-part-test.true in
    let returned = err_from_is_err_and c.from_residual.result c.from_residual.ensures.1 in
    rw (returned.1, returned.2)
    (stops_here c.in_err-send_part.field-0.0 (map part_octets parts) index (part_octets c.part-item.result) _ _ _ _ _ _ within
    (parts_more parts index c.part-item.result _ c.loop-part-test.true c.part-item.is) here.wrote here.took c.in_err-send_part.ensures.err)

pub returns-in_err-send_part-clause-reads : goal.returns-in_err-send_part-clause-reads
returns-in_err-send_part-clause-reads g c =
    let here = c.loop-part.invariant in
    let parts = c.args.parts.now in
    let index = c.loop-part.part-index in
    let within : index < length (map part_octets parts) = subst (λ n. index < n) (sym (length-map parts part_octets)) c.loop-part-test.true in
    reads_within (Err c.in_err-send_part.field-0.0) index (length (map part_octets parts)) _ _ _ within here.reads c.in_err-send_part.ensures.reads

pub loop-part-preserved : goal.loop-part-preserved
loop-part-preserved g c =
    let here = c.loop-part.invariant in
    let sent = c.in_ok-send_part.ensures in
    let part = c.part-item.result in
    let before = concat (take c.loop-part.part-index (map part_octets c.args.parts.now)) in
    record {
      wrote =
          subst (Writes _ _) (sym (parts_more c.args.parts.now c.loop-part.part-index part _ c.loop-part-test.true c.part-item.is))
          (Writes-append _ _ _ before (part_octets part) here.wrote sent.ok.0);
      took = acknowledged_more _ _ _ c.loop-part.part-index here.took sent.ok.1;
      reader_faults = search rules;
      writer_faults = search rules;
      reads = counts_one c.loop-part.part-index _ _ _ here.reads sent.reads;
    }

pub returns-clause-reads : goal.returns-clause-reads
returns-clause-reads g c =
    let parts = c.args.parts.now in
    let same = length-map parts part_octets in
    let within : c.loop-part.part-index ≤ length (map part_octets parts) = omega (arith, same, c.loop-part-test.false, c.loop-part.auto.part-index-end) in
    (c.loop-part.part-index, within, c.loop-part.invariant.reads)

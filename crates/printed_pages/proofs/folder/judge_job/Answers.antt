use Rattle.std.proofs.Common.{◌≡◌, ◌∙◌, ap, arith, rules, take, take_all}
use Rattle.printed_pages.proofs.Joins.{behind_last, goes_last, octets_of, one_of}
use Rattle.printed_pages.proofs.folder.judge_job.Goals as goal

pub returns-in-Some-eq0-clause-there : goal.returns-in-Some-eq0-clause-there
returns-in-Some-eq0-clause-there g c =
    let all : take c.loop-sheet.sheet-index c.args.sheets.now ≡ c.args.sheets.now =
    take_all c.loop-sheet.sheet-index c.args.sheets.now c.loop-sheet-test.false in
    let goes = rw all at c.loop-sheet.invariant.goes in
    let none = rw c.in-Some-eq0.field-0-test at c.in-Some-eq0.ensures.read in
    let one = rw c.read_at.auto.buffer at none in
    let part = rw c.loop-sheet.invariant.octets at one in
    goes_last (g.P.PrintedOctets.octets c.args.source.now) c.loop-sheet.at c.args.sheets.now goes part

pub returns-in_err-at-clause-fault : goal.returns-in_err-at-clause-fault
returns-in_err-at-clause-fault g c =
    let sheets = c.args.sheets.now in
    let i = c.loop-sheet.sheet-index in
    let one = one_of c.args.printer 0 c.loop-sheet.at sheets i _ c.in_err-at.field-0.0 c.loop-sheet-test.true (omega (arith, c.loop-sheet.invariant.sum)) c.in_err-at.ensures.next in
    search rules

pub returns-in-Some-read_at-clause-fault : goal.returns-in-Some-read_at-clause-fault
returns-in-Some-read_at-clause-fault g c =
    let sheets = c.args.sheets.now in
    let all = take_all c.loop-sheet.sheet-index sheets c.loop-sheet-test.false in
    let item = c.in-Some.ensures.item in
    behind_last c.args.printer c.loop-sheet.at sheets c.in-Some.last.now item.3.0 item.1 (c.loop-sheet.invariant.sum ∙ ap octets_of all)

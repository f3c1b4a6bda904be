use Rattle.std.proofs.Common.{arith, ◌∙◌, sym, is_ok, take, length-append}
use Rattle.control_socket.proofs.LineLemmas.{octets-behind, none-behind, none-kept, progress_of-behind}
use Rattle.control_socket.proofs.line.PartialLine.add.Goals as goal

pub returns-then-part-self-clause-progress : goal.returns-then-part-self-clause-progress
returns-then-part-self-clause-progress c =
    let end = rw c.line_feed_in-end.ensures.first at c.unwrap_or.ensures in
    let progress = progress_of-behind c.args.self.now.most c.args.self.now.octets.items c.args.piece.now c.unwrap_or.result c.args.self.now.unended end in
    grind (arith, length-append, progress)

pub invariant_of-self-clause-unended : goal.invariant_of-self-clause-unended
invariant_of-self-clause-unended c =
    let end = rw c.line_feed_in-end.ensures.first at c.unwrap_or.ensures in
    let none = c.args.self.now.unended in
    let both = none-behind c.args.self.now.octets.items c.args.piece.now c.unwrap_or.result none end in
    none-kept (is_ok c.extend_from_slice.result) c.args.self.now.octets.items (take c.unwrap_or.result c.args.piece.now) c.extend_from_slice.new.self.items none both c.extend_from_slice.ensures.items

pub returns-in-Some-clause-progress : goal.returns-in-Some-clause-progress
returns-in-Some-clause-progress c =
    let end = rw c.line_feed_in-end.ensures.first at c.unwrap_or.ensures in
    let progress = progress_of-behind c.args.self.now.most c.args.self.now.octets.items c.args.piece.now c.unwrap_or.result c.args.self.now.unended end in
    let first = c.line_feed_in-end.ensures.first in
    let is = c.in-Some.is in
    grind (arith, length-append, progress, first, is)

pub returns-in-Some-clause-octets : goal.returns-in-Some-clause-octets
returns-in-Some-clause-octets c differs =
    let end = rw c.line_feed_in-end.ensures.first at c.unwrap_or.ensures in
    let octets = octets-behind c.args.self.now.octets.items c.args.piece.now c.unwrap_or.result c.args.self.now.unended end in
    c.in_ok-extend_from_slice.ensures.items ∙ sym octets

pub returns-in-None-clause-octets : goal.returns-in-None-clause-octets
returns-in-None-clause-octets c differs =
    let end = rw c.line_feed_in-end.ensures.first at c.unwrap_or.ensures in
    let octets = octets-behind c.args.self.now.octets.items c.args.piece.now c.unwrap_or.result c.args.self.now.unended end in
    c.in_ok-extend_from_slice.ensures.items ∙ sym octets

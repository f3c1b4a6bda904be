use Rattle.std.proofs.Common.{◌≡◌, inl, inr, ◌<◌, ◌≤◌, ◌+◌, [], ◌∷◌, List, ℕ, Option, length, take, arith, ap, refl, sym, subst, ◌∙◌, length-take}
use Rattle.lpd_commands.specs.Ends.{Reads, Took, most_reads, one_more}
use Rattle.lpd_commands.proofs.Writing.{Took-none, counts_one}
use Rattle.request_session.specs.Course.{Came, session_after}
use Rattle.request_session.specs.Served.{side, source}
use Rattle.request_session.specs.Turned.{moment}
use Rattle.request_session.proofs.ReadLemmas.{Took-more, begins, comes, ends_there, longer, reads_out, stops}
use Rattle.request_session.proofs.talk.Talk.read_all.Goals as goal

pub reads-init : goal.reads-init
reads-init g c =
    let old = c.args in
    record {
      course = [];
      goes = begins g.T.Requests.carries old.self.now old.spool.now (side (g.W.OctetWrite.written old.writer.now) (g.W.OctetWrite.faults old.writer.now)) c.requires.none c.requires.start;
      awaits = refl;
      took = Took-none (g.I.OctetRead.left old.reader.now);
      faults = refl;
      reads = refl;
      within = omega arith;
      many = omega arith;
      nothing = ap (λ p. p.owed) c.requires.start;
    }

pub returns-in-Ok-eq0 : goal.returns-in-Ok-eq0
returns-in-Ok-eq0 g c =
    let l = c.reads.invariant in
    let first = moment c.args.self.now [] c.args.spool.now (side (g.W.OctetWrite.written c.args.writer.now) (g.W.OctetWrite.faults c.args.writer.now)) in
    let left = g.I.OctetRead.left in
    let none : take c.in-Ok-eq0.field-0 c.read.new.into ≡ [] = ap (λ n. take n c.read.new.into) c.in-Ok-eq0.field-0-test in
    let room : 0 < length c.reads.buffer = omega (arith, c.requires.room, c.reads.auto.buffer) in
    let faults = g.I.OctetRead.faults in
    let reads = g.I.OctetRead.reads in
    let most : c.reads._i + 1 ≤ most_reads = omega (arith, c.reads-test.true, c.reads.auto._i-end) in
    let out = reads_out (source (left c.args.reader.now) (faults c.args.reader.now) (reads c.args.reader.now)) (source (left c.reads.reader) (faults c.reads.reader) (reads c.reads.reader))
    (source (left c.read.new.self) (faults c.read.new.self) (reads c.read.new.self))
    (session_after c.args.self.now.sender l.course).arrived (length c.reads.buffer) (c.reads._i + 1) room l.took
    (subst (λ got. Reads (left c.reads.reader) (left c.read.new.self) got (length c.reads.buffer)) none c.in-Ok-eq0.ensures.octets)
    (c.in-Ok-eq0.ensures.ok ∙ l.faults) (counts_one c.reads._i _ _ _ l.reads c.read.ensures.counts) most in
    let e = ends_there {first = first} l.goes l.awaits refl c.end_here.result c.end_here.ensures out in
    record { over = (l.course, e.0, e.1) }

pub returns-in-Err : goal.returns-in-Err
returns-in-Err g c =
    let l = c.reads.invariant in
    let first = moment c.args.self.now [] c.args.spool.now (side (g.W.OctetWrite.written c.args.writer.now) (g.W.OctetWrite.faults c.args.writer.now)) in
    let e = c.in-Err.ensures.err in
    record {
      over = (
        l.course,
        stops {first = first} l.goes l.awaits,
        record {
          took = subst (λ (x : Option (List ℕ)). Took (g.I.OctetRead.left c.args.reader.now) x (session_after c.args.self.now.sender l.course).arrived) (sym e.0) l.took;
          reads = c.reads._i + 1;
          made = counts_one c.reads._i _ _ _ l.reads c.read.ensures.counts;
          most = omega (arith, c.reads-test.true, c.reads.auto._i-end);
          stopped = inl (e.1 ∙ ap one_more l.faults);
        },
      );
    }

pub returns-in-Some : goal.returns-in-Some
returns-in-Some g c =
    let l = c.reads.invariant in
    let first = moment c.args.self.now [] c.args.spool.now (side (g.W.OctetWrite.written c.args.writer.now) (g.W.OctetWrite.faults c.args.writer.now)) in
    let got = take c.in-Ok.count c.read.new.into in
    let k = c.in-Some.ensures.turned (Came got ∷ l.course) first (comes {first = first} l.goes got) in
    let left = g.I.OctetRead.left in
    let took = subst (λ (x : List ℕ). Took (left c.args.reader.now) (left c.read.new.self) x) (sym k.1) (Took-more (left c.args.reader.now) (left c.reads.reader) (left c.read.new.self) (session_after c.args.self.now.sender l.course).arrived got (length c.reads.buffer) l.took c.in-Ok.ensures.octets) in
    record {
      over = (
        k.0,
        k.2.0,
        record {
          took = took;
          reads = c.reads._i + 1;
          made = counts_one c.reads._i _ _ _ l.reads c.read.ensures.counts;
          most = omega (arith, c.reads-test.true, c.reads.auto._i-end);
          stopped = k.2.1 (session_after c.args.self.now.sender k.0).arrived (c.reads._i + 1)
              (source (left c.args.reader.now) (g.I.OctetRead.faults c.args.reader.now) (g.I.OctetRead.reads c.args.reader.now))
              (source (left c.read.new.self) (g.I.OctetRead.faults c.read.new.self) (g.I.OctetRead.reads c.read.new.self)) (c.in-Ok.ensures.ok ∙ l.faults);
        },
      );
    }

pub reads-preserved : goal.reads-preserved
reads-preserved g c =
    let l = c.reads.invariant in
    let first = moment c.args.self.now [] c.args.spool.now (side (g.W.OctetWrite.written c.args.writer.now) (g.W.OctetWrite.faults c.args.writer.now)) in
    let got = take c.in-Ok.count c.read.new.into in
    let k = c.in_default.ensures.turned (Came got ∷ l.course) first (comes {first = first} l.goes got) in
    let left = g.I.OctetRead.left in
    let count : 0 < c.in-Ok.count = omega (arith, c.in-Ok.count-test.1) in
    let some : 0 < length got = omega (arith, count, length-take c.in-Ok.count c.read.new.into, c.in-Ok.ensures.within, c.read.auto.into) in
    record {
      course = k.0;
      goes = k.2.0;
      awaits = k.2.1;
      took = subst (λ (x : List ℕ). Took (left c.args.reader.now) (left c.read.new.self) x) (sym k.1) (Took-more (left c.args.reader.now) (left c.reads.reader) (left c.read.new.self) (session_after c.args.self.now.sender l.course).arrived got (length c.reads.buffer) l.took c.in-Ok.ensures.octets);
      faults = c.in-Ok.ensures.ok ∙ l.faults;
      reads = counts_one c.reads._i _ _ _ l.reads c.read.ensures.counts;
      within = omega (arith, c.reads-test.true, c.reads.auto._i-end);
      many = longer c.reads._i (session_after c.args.self.now.sender k.0).arrived (session_after c.args.self.now.sender l.course).arrived got k.1 l.many some;
      nothing = c.read_on.ensures.nothing;
    }

pub returns : goal.returns
returns g c =
    let l = c.reads.invariant in
    let first = moment c.args.self.now [] c.args.spool.now (side (g.W.OctetWrite.written c.args.writer.now) (g.W.OctetWrite.faults c.args.writer.now)) in
    let all : c.reads._i ≡ most_reads = omega (arith, l.within, c.reads.auto._i-end, c.reads-test.false) in
    let many : most_reads ≤ length (session_after c.args.self.now.sender l.course).arrived = omega (arith, all, l.many) in
    record {
      over = (
        l.course,
        stops {first = first} l.goes l.awaits,
        record { took = l.took; reads = c.reads._i; made = l.reads; most = l.within; stopped = inr (l.faults, all, many) },
      );
    }

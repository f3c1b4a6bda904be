-- What a worker adds to its seat's shares, and how the counts of its sink rise.
use Rattle.std.specs.Prelude.{◌≡◌, ◌⊎◌, ℕ, ◌+◌, ◌-◌, ◌*◌, ◌^◌, Bool, true, false}
use Rattle.account.specs.declared.kind.Kind.{Kind}
use Rattle.account.specs.declared.kind.Kind.TheVariants.{Handed, Printed, Failed}
use Rattle.account.specs.Kinds.{number_of}
use Rattle.spool_ledgers.specs.Sums.{Sums, with_entry}
use Rattle.shared_spool.specs.Seats.{Desk}
use Rattle.printer_worker.specs.declared.worker.Ending.{Ending}
use Rattle.printer_worker.specs.declared.worker.Ending.TheVariants.{Foreign}
use Rattle.printer_worker.specs.declared.worker.WorkReport.{WorkReport}

-- a count rose by n, or stands at the last value of a u64
abbrev pub Rises : (old new n : ℕ) → Type 0
Rises old new n = (new ≡ old + n) ⊎ (new ≡ 2 ^ 64 - 1)

-- the kind of entry by which a page comes back
abbrev pub back_kind : (wrote : Bool) → Kind
back_kind true = Printed
back_kind false = Failed

-- the page that was out came back
abbrev pub without_page : (wrote : Bool) → Desk → Desk
without_page wrote d =
    record { printer = d.printer; is_out = false; sums = with_entry (back_kind wrote) d.sums }

-- so many pages were handed out, so many came back printed, and so many failed
abbrev pub with_pages : (handed printed failed : ℕ) → Sums → Sums
with_pages handed printed failed s = record {
  parts = s.parts;
  entries = s.entries + (handed + printed + failed);
  kinds = s.kinds + (handed * number_of Handed + printed * number_of Printed + failed * number_of Failed);
  handed = s.handed + handed;
}

-- each page that was handed out came back as it was told; where the worker ended with Foreign, all but
-- one that was written or one that was not
abbrev pub AddsTo : Ending → (written faults : ℕ) → (old new : Sums) → Type 0
AddsTo Foreign written faults old new =
    ((n : ℕ) × (written ≡ n + 1) × (new ≡ with_pages (written + faults) n faults old))
    ⊎ ((n : ℕ) × (faults ≡ n + 1) × (new ≡ with_pages (written + faults) written n old))
AddsTo _ written faults old new = new ≡ with_pages (written + faults) written faults old

abbrev pub Adds : WorkReport → (old new : Sums) → Type 0
Adds report old new = AddsTo report.ending report.written report.faults old new

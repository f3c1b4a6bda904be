-- The small spool has room for the worked job.
use Rattle.std.proofs.Common.{◌≡◌, ◌≤◌, ℕ, true, [], ◌∷◌, refl, lit≤, lit<}
use Rattle.std.proofs.lemmas.List.Elements.{All-nil, All-cons}
use Rattle.config_values.specs.Config.{Queue}
use Rattle.config_values.specs.Ranges.{IsConfig, IsWithin}
use Rattle.worked_histories.specs.Rows.{small}
use Rattle.lpd_values.specs.Kept.{is_among}
use Rattle.lpr_client.specs.declared.file.DataFile.{DataFile}
use Rattle.lone_jobs.specs.Lone.{HasRoomFor, file_names}
use Rattle.lone_jobs.specs.Worked.{lone}

ranges : IsConfig small
ranges = record {
  pages_low = lit≤ tt;
  pages_high = lit≤ tt;
  page_size_low = lit≤ tt;
  page_size_high = lit≤ tt;
  max_jobs_low = lit≤ tt;
  max_jobs_high = lit≤ tt;
  account_low = lit≤ tt;
  account_high = lit≤ tt;
  some_queue = lit≤ tt;
  few_queues = lit≤ tt;
  queues = All-cons (λ (q : Queue). IsWithin 4 q) _ [] (record {
    name = record { low = lit≤ tt; high = lit≤ tt; printable = All-cons (λ (octet : ℕ). (33 ≤ octet) × (octet ≤ 126)) 108 (112 ∷ []) (lit≤ tt, lit≤ tt) (All-cons (λ (octet : ℕ). (33 ≤ octet) × (octet ≤ 126)) 112 [] (lit≤ tt, lit≤ tt) (All-nil (λ (octet : ℕ). (33 ≤ octet) × (octet ≤ 126)))) };
    limit_low = lit≤ tt;
    limit_high = lit≤ tt;
    printers_low = lit≤ tt;
    printers_high = lit≤ tt;
  }) (All-nil (λ (q : Queue). IsWithin 4 q));
  names = (All-nil (λ (p : Queue). _), tt);
}

pub room : HasRoomFor small [] lone
room = record {
  config = ranges;
  trace = tt;
  going = refl;
  no_job = refl;
  known = (lit≤ tt, lit≤ tt);
  entries = (lit≤ tt, lit< tt);
  sendable = refl;
  names = (All-nil (λ (other : DataFile). _), tt);
  printed = All-cons (λ name. is_among name (file_names lone.files) ≡ true) _ [] refl (All-nil (λ name. is_among name (file_names lone.files) ≡ true));
  pages = lit≤ tt;
}

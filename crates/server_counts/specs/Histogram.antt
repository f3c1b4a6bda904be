-- How often which times were taken.
use Rattle.std.specs.Prelude.{ℕ, ◌+◌, ◌-◌, ◌^◌, List, length, min, nat_lt, replicate, slice_index_or, slice_set}
use Rattle.std.specs.List.{filter}
use Rattle.server_counts.specs.declared.histogram.Histogram.{Histogram}
use Rattle.server_counts.specs.declared.histogram.TheConstants.{BOUNDS}

-- a sum as far as 64 bits count
abbrev pub counted : ℕ → ℕ
counted n = min n (2 ^ 64 - 1)

-- the place of a time's bucket: as many bounds are below it
abbrev pub bucket_of : ℕ → ℕ
bucket_of time = length (filter (λ bound. nat_lt bound time) BOUNDS)

abbrev pub no_times : Histogram
no_times = record { buckets = replicate 10 0; milliseconds = 0 }

-- one more at a place
abbrev pub one_more : List ℕ → ℕ → List ℕ
one_more numbers at = slice_set numbers at (counted (slice_index_or numbers at 0 + 1))

-- these, and one more time
abbrev pub noted : Histogram → ℕ → Histogram
noted h time = record {
  buckets = one_more h.buckets (bucket_of time);
  milliseconds = counted (h.milliseconds + time);
}

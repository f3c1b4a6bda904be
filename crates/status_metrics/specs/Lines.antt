-- The lines of Prometheus's text format 0.0.4.
use Rattle.std.specs.Prelude.{ℕ, ◌+◌, ◌-◌, ◌/◌, ◌%◌, ◌^◌, ◌==◌, List, [], ◌∷◌, ◌++◌, codes, if◌then◌else◌, min, take}
use Rattle.std.specs.Fmt.{decimal}
use Rattle.std.specs.Str.{chars, encode_utf8_all}
use Rattle.std.specs.Str.Lossy.{utf8_lossy}
use Rattle.html_text.specs.declared.form.Form.TheVariants.{Label}
use Rattle.html_text.specs.Written.{written}
use Rattle.server_counts.specs.declared.histogram.Histogram.{Histogram as Times}
use Rattle.server_counts.specs.declared.histogram.TheConstants.{BOUNDS}
use Rattle.status_lines.specs.Status.{placed}
use Rattle.status_metrics.specs.declared.kind.SampleKind.{SampleKind}
use Rattle.status_metrics.specs.declared.kind.SampleKind.TheVariants as kind

abbrev pub kind_word : SampleKind → List ℕ
kind_word kind.Counter = codes "counter"
kind_word kind.Gauge = codes "gauge"
kind_word kind.Histogram = codes "histogram"

-- what a metric is: HELP and TYPE
unfoldable pub family_text : (name help : List ℕ) → SampleKind → List ℕ
family_text name help what =
    codes "# HELP " ++ (name ++ (codes " " ++ (help ++ (codes "\n# TYPE " ++ (name ++ (codes " " ++ (
    kind_word what ++ codes "\n")))))))

-- a sample without labels
unfoldable pub sample_text : (name : List ℕ) → ℕ → List ℕ
sample_text name value = name ++ (codes " " ++ (decimal value ++ codes "\n"))

-- a metric with one sample
unfoldable pub single_text : (name help : List ℕ) → SampleKind → ℕ → List ℕ
single_text name help what value = family_text name help what ++ sample_text name value

-- a sample with one label
unfoldable pub worded_text : (name label word : List ℕ) → ℕ → List ℕ
worded_text name label word value =
    name ++ (codes "{" ++ (label ++ (codes "=\"" ++ (word ++ (codes "\"} " ++ (decimal value ++ codes "\n"))))))

-- octets as the value of a label
abbrev pub label_octets : List ℕ → List ℕ
label_octets octets = encode_utf8_all (written Label (chars (utf8_lossy octets)))

-- a sample with the label of a queue of this name, and with further labels
unfoldable pub of_queue_text : (name queue further : List ℕ) → ℕ → List ℕ
of_queue_text name queue further value =
    name ++ (codes "{queue=\"" ++ (label_octets queue ++ (codes "\"" ++ (further ++ (codes "} " ++ (decimal value ++ codes "\n"))))))

-- the sum of numbers as far as 64 bits count
abbrev pub total_of : List ℕ → ℕ
total_of [] = 0
total_of (n ∷ ns) = min (n + total_of ns) (2 ^ 64 - 1)

-- so many milliseconds as seconds: with tenths, where they are a bound
abbrev pub bound_word : ℕ → List ℕ
bound_word bound =
    if bound % 1000 == 0 then decimal (bound / 1000) else decimal (bound / 1000) ++ (codes "." ++ decimal (bound / 100 % 10))

-- and with thousandths, where they are a sum
abbrev pub seconds_word : ℕ → List ℕ
seconds_word n =
    decimal (n / 1000) ++ (codes "." ++ (decimal (n / 100 % 10) ++ (decimal (n / 10 % 10) ++ decimal (n % 10))))

-- how many times were no longer than the bound at a place
unfoldable pub bucket_text : (name buckets : List ℕ) → ℕ → ℕ → List ℕ
bucket_text name buckets at bound =
    name ++ (codes "_bucket{le=\"" ++ (bound_word bound ++ (codes "\"} " ++ (decimal (total_of (take (at + 1) buckets)) ++ codes "\n"))))

-- how many there were, and their sum
unfoldable pub totals_text : (name : List ℕ) → Times → List ℕ
totals_text name times =
    (name ++ (codes "_bucket{le=\"+Inf\"} " ++ (decimal (total_of times.buckets) ++ codes "\n"))) ++ (
    (name ++ (codes "_sum " ++ (seconds_word times.milliseconds ++ codes "\n"))) ++ (
    name ++ (codes "_count " ++ (decimal (total_of times.buckets) ++ codes "\n"))))

unfoldable pub histogram_text : (name help : List ℕ) → Times → List ℕ
histogram_text name help times =
    family_text name help kind.Histogram ++ (placed (bucket_text name times.buckets) 0 BOUNDS ++ totals_text name times)

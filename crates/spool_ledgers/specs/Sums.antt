-- What shares add up to.
use Rattle.std.specs.Prelude.{ℕ, ◌+◌, if◌then◌else◌}
use Rattle.account.specs.declared.kind.Kind.{Kind}
use Rattle.account.specs.Kinds.{is_handed_kind, number_of}

-- how many parts of each ledger, and the three amounts: entries, the sum of their kind numbers, and hand-outs
pub record Sums : Type 0 where
  pub parts : ℕ
  pub entries : ℕ
  pub kinds : ℕ
  pub handed : ℕ

-- so many parts, and nothing added yet
abbrev pub no_sums : ℕ → Sums
no_sums n = record { parts = n; entries = 0; kinds = 0; handed = 0 }

-- an entry of the kind Handed is a page that was handed out
abbrev pub handed_by : Kind → ℕ
handed_by kind = if is_handed_kind kind then 1 else 0

-- one entry of this kind more
abbrev pub with_entry : Kind → Sums → Sums
with_entry kind s = record {
  parts = s.parts;
  entries = s.entries + 1;
  kinds = s.kinds + number_of kind;
  handed = s.handed + handed_by kind;
}

-- shares put together
abbrev pub both : Sums → Sums → Sums
both s t = record {
  parts = s.parts + t.parts;
  entries = s.entries + t.entries;
  kinds = s.kinds + t.kinds;
  handed = s.handed + t.handed;
}

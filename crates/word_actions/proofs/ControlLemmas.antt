-- Results that are errors.
use Rattle.std.proofs.Common.{◌≡◌, is_err, true, Err, Ok, OnErr, Result}

-- what holds at an error, of a result that is one
pub on_err : {T E : Type 0} (r : Result T E) (P : Type 0) → is_err r ≡ true → OnErr r P → P
on_err (Ok x) P is h = cc
on_err (Err e) P is h = h

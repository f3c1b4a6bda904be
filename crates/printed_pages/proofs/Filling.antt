-- A buffer is filled by as many reads as it takes.
use Rattle.std.proofs.Common.{◌≡◌, ◌<◌, ◌≤◌, ◌+◌, ◌-◌, ℕ, List, [], ◌++◌, Option, Some, None, length, take, drop, refl, sym, ap, ◌∙◌, arith, length-drop, length-take-le, take-take, take_all, ◌⊎◌, inl, inr, append-nil}
use Rattle.std.proofs.lemmas.Bool.{cases_lt}
use Rattle.std.proofs.Math.Seq.{take-append-add, take-append_seam}
use Rattle.std.proofs.lemmas.Slice.{take-put_mid}
use borrow.Rule.Slice.PartMut.{put_mid, same_len_mid}
use Rattle.lpd_commands.specs.Ends.{IsReadOut, Reads, Took}
use Rattle.lpd_commands.proofs.Writing.{Took-append}
use Rattle.printed_pages.specs.Sources.{IsAt, IsPart}

Took-read : (old rest : Option (List ℕ)) (got : List ℕ) (room : ℕ) → Reads old rest got room → Took old rest got
Took-read None rest got room h = h
Took-read (Some old) rest got room h = (drop (length got) old, h.0, h.1)

-- what stands in the buffer after one read more
filled : (into got : List ℕ) (count more room : ℕ) → count ≤ length into → more ≤ length got
    → take (count + more) (put_mid count room into got) ≡ take count into ++ take more got
filled into got count more room within some =
    let front : take (count + length got) (put_mid count room into got) ≡ take count into ++ got = take-put_mid count room into got
    (count + length got) refl within in
    let seam : take (length (take count into) + more) (take count into ++ got) ≡ take count into ++ take more got = take-append-add (take
    count into) got more in
    let add : take (count + more) (take count into ++ got) ≡ take count into ++ take more got = rw (length-take-le count into within) at
    seam in
    sym (take-take (count + more) (count + length got) (put_mid count room into got) (omega arith)) ∙ ap (take (count + more)) front ∙ add

pub rest_length : (into : List ℕ) (count : ℕ) → length (take (length into - count) (drop count into)) ≡ length into - count
rest_length into count = length-take-le (length into - count) (drop count into) (omega (arith, length-drop count into))

pub still_within : (into got : List ℕ) (count more : ℕ) → count ≤ length into → length got ≡ length into - count → more ≤ length got
    → count + more ≤ length (put_mid count (length into - count) into got)
still_within into got count more within long some =
    let same : length (put_mid count (length into - count) into got) ≡ length into =
    same_len_mid count (length into - count) into got (long ∙ sym (rest_length into count)) in
    omega arith

pub reads_more : (left old rest : Option (List ℕ)) (into got : List ℕ) (count more part room : ℕ) → count ≤ length into → more ≤ length got
    → Took left old (take count into) → Reads old rest (take more got) room → Took left rest (take (count + more) (put_mid count part
    into got))
reads_more left old rest into got count more part room within some took read =
    rw (filled into got count more part within some) (Took-append left old rest (take count into) (take more got) took (Took-read old
    rest (take more got) room read))

-- the octets at the front of a list are its first ones, so many as there is room for, where there is more room only if nothing is left
front_of : (got after : List ℕ) (room : ℕ) → (length got < room) ⊎ (room ≤ length got) → length got ≤ room
    → (length got < room → after ≡ []) → got ≡ take room (got ++ after)
front_of got after room (inl few) within out =
    let none : after ≡ [] = out few in
    let long : length (got ++ []) ≤ room = omega (arith, ap length (append-nil got), within) in
    rw none (sym (take_all room (got ++ []) long ∙ append-nil got))
front_of got after room (inr all) within out =
    let is : length got ≡ room = omega (arith, within, all) in
    rw (sym is) (sym (take-append_seam got after))

-- what was read from an octet of a file on is that part of it
pub is_part : (file rest then_ : Option (List ℕ)) (at n : ℕ) (buffer : List ℕ) → IsAt at file rest → Took rest then_ (take n buffer)
    → n ≤ length buffer → (n < length buffer → IsReadOut then_) → IsPart at file (take n buffer) (length buffer)
is_part None rest then_ at n buffer there took within out = tt
is_part (Some all) rest then_ at n buffer there took within out =
    let t : Took (Some (drop at all)) then_ (take n buffer) = rw there at took in
    let long : length (take n buffer) ≡ n = length-take-le n buffer within in
    let none : length (take n buffer) < length buffer → t.0 ≡ [] = λ few. rw t.2 at (out (omega (arith, long, few))) in
    rw t.1 (front_of (take n buffer) t.0 (length buffer) (cases_lt (length (take n buffer)) (length buffer)) (omega (arith, long, within)) none)

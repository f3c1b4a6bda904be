-- The head of a file is read, by as many reads as it takes.
use Rattle.std.proofs.Common.{◌≡◌, ◌<◌, ◌≤◌, ◌+◌, ◌-◌, ◌^◌, ℕ, List, [], ◌∷◌, ◌++◌, Option, Some, None, Result, Ok, Err, IfOk, OnErr, IfSome, length, take, drop, refl, sym, ap, ◌∙◌, arith, length-append, length-drop, length-take-le, take-take, take_all}
use Rattle.std.specs.Int.{to_be_bytes, w32}
use Rattle.std.proofs.Math.Seq.{take-append-add, take-append_seam}
use Rattle.std.proofs.lemmas.Slice.{take-put_mid}
use borrow.Rule.Slice.PartMut.{put_mid, same_len_mid}
use Rattle.hex.specs.Hex.{encode_lower, lower_digits}
use Rattle.hex.proofs.HexLemmas.{length-encode_with}
use Rattle.lpd_commands.specs.Ends.{IsReadOut, Reads, Took}
use Rattle.lpd_commands.proofs.Writing.{Took-append}
use Rattle.job_heads.specs.Head.{head, mark, name}
use Rattle.job_heads.specs.declared.HeadFault.{HeadFault}
use Rattle.job_heads.specs.declared.HeadFault.TheVariants.{NoHead, OtherVersion}
use Rattle.job_store.specs.Heads.{HasSender, IsHeadless}

Took-read : (old rest : Option (List ℕ)) (got : List ℕ) (room : ℕ) → Reads old rest got room → Took old rest got
Took-read None rest got room h = h
Took-read (Some old) rest got room h = (drop (length got) old, h.0, h.1)

-- what stands in the buffer after one read more
filled : (into got : List ℕ) (count more room : ℕ) → count ≤ length into → more ≤ length got
    → take (count + more) (put_mid count room into got) ≡ take count into ++ take more got
filled into got count more room within some =
    let front : take (count + length got) (put_mid count room into got) ≡ take count into ++ got = take-put_mid count room into got
    (count + length got) refl within in
    let seam : take (length (take count into) + more) (take count into ++ got) ≡ take count into ++ take more got = take-append-add (take
    count into) got more in
    let add : take (count + more) (take count into ++ got) ≡ take count into ++ take more got = rw (length-take-le count into within) at
    seam in
    sym (take-take (count + more) (count + length got) (put_mid count room into got) (omega arith)) ∙ ap (take (count + more)) front ∙ add

pub rest_length : (into : List ℕ) (count : ℕ) → length (take (length into - count) (drop count into)) ≡ length into - count
rest_length into count = length-take-le (length into - count) (drop count into) (omega (arith, length-drop count into))

pub still_within : (into got : List ℕ) (count more : ℕ) → count ≤ length into → length got ≡ length into - count → more ≤ length got
    → count + more ≤ length (put_mid count (length into - count) into got)
still_within into got count more within long some =
    let same : length (put_mid count (length into - count) into got) ≡ length into =
    same_len_mid count (length into - count) into got (long ∙ sym (rest_length into count)) in
    omega arith

pub reads_more : (left old rest : Option (List ℕ)) (into got : List ℕ) (count more part room : ℕ) → count ≤ length into → more ≤ length got
    → Took left old (take count into) → Reads old rest (take more got) room → Took left rest (take (count + more) (put_mid count part
    into got))
reads_more left old rest into got count more part room within some took read =
    rw (filled into got count more part within some) (Took-append left old rest (take count into) (take more got) took (Took-read old
    rest (take more got) room read))

length-head : (sender : ℕ) → length (head sender) ≡ 20
length-head sender =
    let digits : length (encode_lower (to_be_bytes w32 sender)) ≡ 8 = length-encode_with lower_digits (to_be_bytes w32 sender) in
    omega (
      arith,
      length-append mark (encode_lower (to_be_bytes w32 sender) ++ 10 ∷ []),
      length-append (encode_lower (to_be_bytes w32
          sender)) (10 ∷ []),
      digits,
    )

front : (xs ys : List ℕ) (n : ℕ) → length xs ≡ n → take n (xs ++ ys) ≡ xs
front xs ys n is = rw (sym is) (take-append_seam xs ys)

-- fewer octets than a head has are no head
pub too_few : (left rest : Option (List ℕ)) (buffer : List ℕ) (count : ℕ) → count < 20 → Took left rest (take count buffer)
    → count ≤ length buffer → IsReadOut rest
    → IfSome left (λ octets. IsHeadless octets NoHead)
too_few None rest buffer count few took within out = tt
too_few (Some octets) rest buffer count few took within out =
    let nothing : took.0 ≡ [] = rw took.2 at out in
    let long : length octets ≡ count = omega (
      arith,
      ap length took.1,
      length-append (take count buffer) took.0,
      length-take-le count
          buffer within,
      ap length nothing,
    ) in
    record {
      none = λ sender after small is. absurd (omega (arith, long, ap length is, length-append (head sender) after, length-head sender));
      other = λ is. absurd cc;
    }

-- what is read of the head
pub read_of_head : (left rest : Option (List ℕ)) (buffer : List ℕ) (count : ℕ) → 20 ≤ count → length buffer ≡ 20
    → Took left rest (take count buffer) → Took left rest buffer
read_of_head left rest buffer count all long took = rw (take_all count buffer (omega arith)) at took

no_head : (left rest : Option (List ℕ)) (buffer : List ℕ) (fault : HeadFault) → length buffer ≡ 20 → Took left rest buffer
    → ((sender : ℕ) → sender < 2 ^ 32 → buffer ≡ head sender → ⊥) → (fault ≡ OtherVersion → (after : List ℕ) × (buffer ≡ name ++ after))
    → IfSome left (λ octets. IsHeadless octets fault)
no_head None rest buffer fault long took none other = tt
no_head (Some octets) rest buffer fault long took none other = record {
  none = λ sender after small is.
      none sender small (sym (front buffer took.0 20 long) ∙ ap (take 20) (sym took.1 ∙ is)
      ∙ front (head sender) after 20 (length-head sender));
  other = λ is. let o = other is in (o.0 ++ took.0, took.1 ∙ ap (λ l. l ++ took.0) o.1);
}

pub headed : (left rest : Option (List ℕ)) (buffer : List ℕ) (result : Result ℕ HeadFault) → length buffer ≡ 20 → Took left rest buffer
    → IfOk result (λ sender. buffer ≡ head sender) → OnErr result ((sender : ℕ) → sender < 2 ^ 32 → buffer ≡ head sender → ⊥)
    → (result ≡ Err OtherVersion → (after : List ℕ) × (buffer ≡ name ++ after)) → HasSender left rest result
headed left rest buffer (Ok sender) long took read refused other = rw read at took
headed left rest buffer (Err fault) long took read refused other = no_head left rest buffer fault long took refused (λ is. other (ap (λ
    f. Err f) is))

-- A page so far, with one part more behind it.
use Rattle.std.proofs.Common.{◌≡◌, ◌<◌, ℕ, ◌+◌, ◌-◌, Bool, true, false, cond, List, [], ◌∷◌, ◌++◌, Some, length, take, codes, refl, ap, sym, ◌∙◌, subst, append_assoc, arith, length-append}
use Rattle.std.proofs.Math.Logic.{∥∥₁_map}
use Rattle.std.proofs.Math.Seq.{take-append_seam}
use Rattle.std.proofs.lemmas.List.{append-nil, take_all, take_more}
use Rattle.std.proofs.lemmas.List.Concat.{flat_map-append}
use Rattle.std.proofs.lemmas.Option.{get_or_from_slice_get, slice_get_within}
use Rattle.std.proofs.lemmas.Str.{encodes-append}
use Rattle.std.specs.List.{flat_map, slice_get}
use Rattle.std.specs.Str.{encode_utf8_all}
use Rattle.html_page.specs.declared.tag.Tag.{Tag}
use Rattle.html_page.specs.Parts.{Part, Start, End, Meta, Sheet, Words, LineEnd, Begins, Fits, IsPage, page_octets, part_chars, part_octets}

-- parts that fit behind parts that fit
fits_on : (from : List Tag) (ps : List Part) (between : List Tag) (qs : List Part) (to : List Tag) → Fits from ps between → Fits between qs to → Fits from (ps ++ qs) to
fits_on from [] between qs to h k = subst (λ (tags : List Tag). Fits tags qs to) (sym h) k
fits_on from (Start tag attributes ∷ ps) between qs to h k = fits_on (from ++ tag ∷ []) ps between qs to h k
fits_on from (End tag ∷ ps) between qs to h k = (h.0, h.1, fits_on h.0 ps between qs to h.2 k)
fits_on from (Meta attributes ∷ ps) between qs to h k = fits_on from ps between qs to h k
fits_on from (Sheet cs ∷ ps) between qs to h k = fits_on from ps between qs to h k
fits_on from (Words cs ∷ ps) between qs to h k = fits_on from ps between qs to h k
fits_on from (LineEnd ∷ ps) between qs to h k = fits_on from ps between qs to h k

-- the octets with one part more
octets_on : (parts : List Part) (part : Part) → page_octets parts ++ part_octets part ≡ page_octets (parts ++ part ∷ [])
octets_on parts part =
    let before = codes "<!DOCTYPE html>" in
    let so_far = flat_map part_chars parts in
    let chars = part_chars part in
    sym (encodes-append (before ++ so_far) chars)
    ∙ ap encode_utf8_all (append_assoc before so_far chars
    ∙ ap (λ (v : List ℕ). before ++ v) (ap (λ (v : List ℕ). so_far ++ v) (sym (append-nil chars)) ∙ sym (flat_map-append part_chars parts (part ∷ []))))

one_more : (opened after : List Tag) (was now : List ℕ) (part : Part) → Fits opened (part ∷ []) after → now ≡ was ++ part_octets part → Begins opened was → Begins after now
one_more opened after was now part fit e made = (
  made.0 ++ part ∷ [],
  fits_on [] made.0 opened (part ∷ []) after made.1 fit,
  e ∙ (ap (λ (v : List ℕ). v ++ part_octets part) made.2 ∙ octets_on made.0 part),
)

-- a part was put behind the page
pub put : (opened after : List Tag) (was now text : List ℕ) (part : Part) → Fits opened (part ∷ []) after → now ≡ was ++ text → text ≡ part_octets part → ∥ Begins opened was ∥₁ → ∥ Begins after now ∥₁
put opened after was now text part fit e t made =
    ∥∥₁_map made (one_more opened after was now part fit (e ∙ ap (λ (v : List ℕ). was ++ v) t))

-- a part that opens and closes nothing was put behind it, or memory was refused
pub put_or_not : (opened : List Tag) (was now text : List ℕ) (part : Part) (went : Bool) → Fits opened (part ∷ []) opened → now ≡ cond went (was ++ text) was → text ≡ part_octets part → ∥ Begins opened was ∥₁ → ∥ Begins opened now ∥₁
put_or_not opened was now text part true fit e t made = put opened opened was now text part fit e t made
put_or_not opened was now text part false fit e t made = ∥∥₁_map made (λ m. (m.0, m.1, e ∙ m.2))

-- a list is what stands before its last element, and that
pub last_splits : {X : Type 0} (xs : List X) (x : X) → Some x ≡ slice_get xs (length xs - 1) → xs ≡ take (length xs - 1) xs ++ x ∷ []
last_splits {X} xs x h =
    let within : length xs - 1 < length xs = slice_get_within xs (length xs - 1) x (sym h) in
    let whole : take (length xs - 1 + 1) xs ≡ xs = take_all (length xs - 1 + 1) xs (omega (arith, within)) in
    sym whole
    ∙ (take_more xs (length xs - 1) x within
    ∙ ap (λ (y : X). take (length xs - 1) xs ++ y ∷ []) (get_or_from_slice_get xs (length xs - 1) x x (sym h)))

-- the end of a line
pub line_octets : 10 ∷ [] ≡ part_octets LineEnd
unfolding lib.Utf8.encode
line_octets = refl

-- nothing was put
pub stays : (opened after : List Tag) (was now : List ℕ) → after ≡ opened → now ≡ was → ∥ Begins opened was ∥₁ → ∥ Begins after now ∥₁
stays opened after was now same e made =
    subst (λ (tags : List Tag). ∥ Begins tags now ∥₁) (sym same) (∥∥₁_map made (λ m. (m.0, m.1, e ∙ m.2)))

-- the last of open elements is closed
pub closes : (opened found after : List Tag) (n : ℕ) (t : Tag) → found ≡ opened → length found ≡ n → after ≡ take (n - 1) opened → Some t ≡ slice_get found (length found - 1) → Fits opened (End t ∷ []) after
closes opened found after n t same count rest last =
    let outer : take (length found - 1) found ≡ after =
    ap (λ (k : ℕ). take (k - 1) found) count ∙ (ap (λ (v : List Tag). take (n - 1) v) same ∙ sym rest) in
    (after, sym same ∙ (last_splits found t last ∙ ap (λ (v : List Tag). v ++ t ∷ []) outer), refl)

-- what was pushed and is popped again
pub popped : (opened pushed after : List Tag) (n : ℕ) (t : Tag) → pushed ≡ opened ++ t ∷ [] → n ≡ length pushed → after ≡ take (n - 1) pushed → after ≡ opened
popped opened pushed after n t e count rest =
    let same : n - 1 ≡ length opened = omega (arith, count, ap (λ (v : List Tag). length v) e, length-append opened (t ∷ [])) in
    rest ∙ (ap (λ (k : ℕ). take k pushed) same ∙ (ap (λ (v : List Tag). take (length opened) v) e ∙ take-append_seam opened (t ∷ [])))

-- no element is open any more
pub all_closed : (opened : List Tag) (octets : List ℕ) → opened ≡ [] → ∥ Begins opened octets ∥₁ → ∥ IsPage octets ∥₁
all_closed opened octets none made = subst (λ (tags : List Tag). ∥ Begins tags octets ∥₁) none made

-- The parts of a job, one after another.
use Rattle.std.proofs.Common.{◌≡◌, ◌<◌, ◌^◌, ℕ, List, [], ◌∷◌, ◌++◌, ◌+◌, length, take, get_or, refl, ap, sym, ◌∙◌, map, append_assoc, subst}
use Rattle.std.specs.List.{concat}
use Rattle.std.proofs.lemmas.List.{take_more, append-nil, length-map, get_or-map}
use Rattle.std.proofs.lemmas.List.Folds.{concat-append}
use Rattle.lpr_client.specs.Parts.{AreCounted, data_parts, file_parts}
use Rattle.lpr_client.specs.Shown.{part_octets}
use Rattle.lpr_client.specs.declared.file.DataFile.{DataFile}
use Rattle.lpr_client.specs.declared.part.Part.{Part}

pub data_parts-append : (files : List DataFile) (file : DataFile) → data_parts (files ++ file ∷ []) ≡ data_parts files ++ file_parts file
data_parts-append [] file = refl
data_parts-append (f ∷ files) file = ap (λ ps. file_parts f ++ ps) (data_parts-append files file)

-- one file more
pub file_more : (old items new : List (List ℕ)) (files : List DataFile) (i : ℕ) (file d : DataFile) →
    items ≡ old ++ data_parts (take i files) → new ≡ items ++ file_parts file → i < length files → file ≡ get_or files i d →
    new ≡ old ++ data_parts (take (i + 1) files)
file_more old items new files i file d a b h e =
    b ∙ (ap (λ t. t ++ file_parts file) a ∙ (append_assoc old (data_parts (take i files)) (file_parts file)
    ∙ ap (λ t. old ++ t) (sym (data_parts-append (take i files) file) ∙ (ap (λ v. data_parts (take i files ++ v ∷ [])) e ∙ ap data_parts (sym (take_more files i d h))))))

counted-append : (files : List DataFile) (file : DataFile) → AreCounted files → length file.octets < 10 ^ 19 → AreCounted (files ++ file ∷ [])
counted-append [] file h k = (k, tt)
counted-append (f ∷ files) file h k = (h.0, counted-append files file h.1 k)

-- one file more that is counted
pub counted_more : (files : List DataFile) (i : ℕ) (file d : DataFile) → AreCounted (take i files) → length file.octets < 10 ^ 19 → i < length files → file ≡ get_or files i d → AreCounted (take (i + 1) files)
counted_more files i file d h k l e =
    subst AreCounted (ap (λ v. take i files ++ v ∷ []) e ∙ sym (take_more files i d l)) (counted-append (take i files) file h k)

-- the parts up to one more
pub parts_more : (parts : List Part) (i : ℕ) (part d : Part) → i < length parts → part ≡ get_or parts i d →
    concat (take (i + 1) (map part_octets parts)) ≡ concat (take i (map part_octets parts)) ++ part_octets part
parts_more parts i part d h e =
    let octets = map part_octets parts in
    let k : i < length octets = subst (λ n. i < n) (sym (length-map parts part_octets)) h in
    let last : get_or octets i (part_octets d) ≡ part_octets part = get_or-map part_octets parts i d (part_octets d) h ∙ ap part_octets (sym e) in
    ap concat (take_more octets i (part_octets d) k) ∙ (concat-append (take i octets) (get_or octets i (part_octets d) ∷ [])
    ∙ ap (λ t. concat (take i octets) ++ t) (append-nil (get_or octets i (part_octets d)) ∙ last))

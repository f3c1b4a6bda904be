-- Octets cut into pages.
use Rattle.std.proofs.Common.{◌≡◌, ◌<◌, ◌≤◌, ℕ, zero, suc, List, [], ◌∷◌, ◌++◌, length, take, drop, refl, ap, ◌∙◌, arith, length-take, length-drop}
use Rattle.std.specs.List.{concat}
use Rattle.std.proofs.lemmas.List.{take-append-drop}
use Rattle.receiver.specs.Blocks.{AreCut}
use Rattle.lpr_client.specs.OneJob.{pieces}

-- the pages together are the octets
pub concat-pieces : (most z : ℕ) (octets : List ℕ) → 0 < z → length octets ≤ most → concat (pieces most z octets) ≡ octets
concat-pieces most z [] h k = refl
concat-pieces zero z (b ∷ bs) h k = absurd (omega arith)
concat-pieces (suc most) z (b ∷ bs) h k =
    let e = length-drop z (b ∷ bs) in
    ap (λ t. take z (b ∷ bs) ++ t) (concat-pieces most z (drop z (b ∷ bs)) h (omega arith)) ∙ take-append-drop z (b ∷ bs)

-- one page in front
cut_more : (z : ℕ) (page : List ℕ) (most : ℕ) (rest : List ℕ) → 0 < z → 0 < length page → length page ≤ z → (0 < length rest → length page ≡ z) → length rest ≤ most →
    AreCut z (pieces most z rest) → AreCut z (page ∷ pieces most z rest)
cut_more z page most [] h some fits full k c = (some, fits)
cut_more z page zero (b ∷ bs) h some fits full k c = absurd (omega arith)
cut_more z page (suc most) (b ∷ bs) h some fits full k c = (full (omega arith), h, c)

pub are_cut : (most z : ℕ) (octets : List ℕ) → 0 < z → length octets ≤ most → AreCut z (pieces most z octets)
are_cut most z [] h k = tt
are_cut zero z (b ∷ bs) h k = absurd (omega arith)
are_cut (suc most) z (b ∷ bs) h k =
    let e = length-drop z (b ∷ bs) in
    let t = length-take z (b ∷ bs) in
    cut_more z (take z (b ∷ bs)) most (drop z (b ∷ bs)) h (omega arith) (omega arith) (λ l. omega arith) (omega arith)
    (are_cut most z (drop z (b ∷ bs)) h (omega arith))

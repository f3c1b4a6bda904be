use Rattle.std.proofs.Common.{◌≡◌, ℕ, List, ◌++◌, append_assoc, string_bytes, sym, ◌∙◌, ap}
use Rattle.std.specs.Prelude.{Result, Ok, Err, IfOk, codes}
use Rattle.std.specs.Fmt.{decimal}
use Rattle.hex.specs.Hex.{encode_lower}
use Rattle.script_lines.proofs.texts.page_line.Goals as goal

regroup : (a b c d e f g h i j : List ℕ)
    → a ++ b ++ c ++ (d ++ e ++ f ++ g ++ h ++ i) ++ j
    ≡ a ++ (b ++ (c ++ (d ++ (e ++ (f ++ (g ++ (h ++ (i ++ j))))))))
regroup a b c d e f g h i j = simp append_assoc

-- a text that was made is the same text in other words
in_other_words : {T E : Type 0} (bytes : T → List ℕ) (r : Result T E) (a b : List ℕ) → a ≡ b
    → IfOk r (λ t. bytes t ≡ a) → IfOk r (λ t. bytes t ≡ b)
in_other_words bytes (Ok t) a b same h = h ∙ same
in_other_words bytes (Err e) a b same h = tt

pub returns : goal.returns
returns c =
    let octets : string_bytes c.in_ok-octets.octets ≡ encode_lower c.args.page.now.octets =
    c.in_ok-octets.ensures ∙ ap encode_lower c.as_slice.ensures in
    let printer = decimal c.args.printer in
    let job = decimal c.args.page.now.job in
    let place = decimal c.args.page.now.place in
    let shown = string_bytes c.in_ok-octets.octets in
    let same =
    regroup (codes "printer ") printer (codes ": ") (codes "job ") job (codes " place ") place
    (codes " ") shown (codes "\n") in
    simp (← octets) (in_other_words string_bytes c.format.result _ _ (sym same) c.format.ensures.ok)

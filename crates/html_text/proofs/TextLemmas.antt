-- Written texts: their pieces, and how they are read.
use Rattle.std.proofs.Common.{◌≡◌, ◌≢◌, ◌<◌, ◌⊎◌, inl, inr, ℕ, ◌+◌, Bool, true, false, ◌||◌, cond, eqb, ltb, List, [], ◌∷◌, ◌++◌, refl, ap, sym, ◌∙◌, append_assoc, arith}
use Rattle.std.proofs.lemmas.List.{append-nil}
use Rattle.std.proofs.lemmas.List.Sums.{fold-append}
use Rattle.std.proofs.lemmas.Bool.{cases_Bool}
use Rattle.std.proofs.lemmas.Bool.Decides.{eqb_tells}
use Rattle.std.proofs.lemmas.Str.{encodes-append}
use Rattle.std.proofs.lemmas.List.Concat.{flat_map-append}
use Rattle.std.specs.Str.{encode_utf8_all}
use Rattle.html_text.specs.declared.form.Form.{Form}
use Rattle.std.specs.List.{fold}
use Rattle.html_text.specs.declared.form.Form.TheVariants.{Html, Label}
use Rattle.html_text.specs.Written.{html_char, label_char, is_hidden, picture, written, written_char}
use Rattle.html_text.specs.Markup.{IsPlain, IsEntity, IsInert}
use Rattle.html_text.specs.Reading.{Plain, label_step}

-- a label's character, read
label_char_reads : (c : ℕ) (out : List ℕ) → fold label_step (Plain out) (label_char c) ≡ Plain (out ++ c ∷ [])
label_char_reads c out =
    elim (eqb_tells c 34) [
      | inl q ↦ rw q.0 (ap (λ v. Plain (out ++ v ∷ [])) (sym q.1))
      | inr q ↦
          elim (eqb_tells c 92) [
            | inl r ↦ rw (q.0, r.0) (ap (λ v. Plain (out ++ v ∷ [])) (sym r.1))
            | inr r ↦
                elim (eqb_tells c 10) [
                  | inl n ↦ rw (q.0, r.0, n.0) (ap (λ v. Plain (out ++ v ∷ [])) (sym n.1))
                  | inr n ↦ simp (q.0, r.0, n.0)
                ]
          ]
    ]

label_reads : (cs out : List ℕ) → fold label_step (Plain out) (written Label cs) ≡ Plain (out ++ cs)
label_reads [] out = ap Plain (sym (append-nil out))
label_reads (c ∷ cs) out =
    fold-append label_step (Plain out) (label_char c) (written Label cs)
    ∙ (ap (λ s. fold label_step s (written Label cs)) (label_char_reads c out)
    ∙ (label_reads cs (out ++ c ∷ []) ∙ ap Plain (append_assoc out (c ∷ []) cs)))

pub label_read_back : (cs : List ℕ) → fold label_step (Plain []) (written Label cs) ≡ Plain cs
label_read_back cs = label_reads cs []

-- what shows a hidden character means nothing in HTML
picture_plain : (c : ℕ) → IsPlain (picture c ∷ [])
picture_plain c =
    elim (cases_Bool (ltb c 32)) [
      | inl n ↦ rw n (record { char = 0x2400 + c; alone = refl; not_less = omega arith; not_greater = omega arith; not_ampersand = omega arith; not_quote = omega arith; not_apostrophe = omega arith })
      | inr n ↦
          elim (cases_Bool (eqb c 127)) [
            | inl d ↦ rw (n, d) (record { char = 0x2421; alone = refl; not_less = omega arith; not_greater = omega arith; not_ampersand = omega arith; not_quote = omega arith; not_apostrophe = omega arith })
            | inr d ↦ rw (n, d) (record { char = 0xFFFD; alone = refl; not_less = omega arith; not_greater = omega arith; not_ampersand = omega arith; not_quote = omega arith; not_apostrophe = omega arith })
          ]
    ]

piece_inert : (c : ℕ) → IsPlain (html_char c) ⊎ IsEntity (html_char c)
piece_inert c =
    elim (eqb_tells c 60) [
      | inl a ↦ rw a.0 (inr (inl refl))
      | inr a ↦
          elim (eqb_tells c 62) [
            | inl b ↦ rw (a.0, b.0) (inr (inr (inl refl)))
            | inr b ↦
                elim (eqb_tells c 38) [
                  | inl d ↦ rw (a.0, b.0, d.0) (inr (inr (inr (inl refl))))
                  | inr d ↦
                      elim (eqb_tells c 34) [
                        | inl e ↦ rw (a.0, b.0, d.0, e.0) (inr (inr (inr (inr (inl refl)))))
                        | inr e ↦
                            elim (eqb_tells c 39) [
                              | inl f ↦ rw (a.0, b.0, d.0, e.0, f.0) (inr (inr (inr (inr (inr refl)))))
                              | inr f ↦
                                  elim (cases_Bool (is_hidden c)) [
                                    | inl g ↦ simp (a.0, b.0, d.0, e.0, f.0, g) (inl (picture_plain c))
                                    | inr g ↦ simp (a.0, b.0, d.0, e.0, f.0, g) (inl (record { char = c; alone = refl; not_less = a.1; not_greater = b.1; not_ampersand = d.1; not_quote = e.1; not_apostrophe = f.1 }))
                                  ]
                            ]
                      ]
                ]
          ]
    ]

pub html_pieces : List ℕ → List (List ℕ)
html_pieces [] = []
html_pieces (c ∷ cs) = html_char c ∷ html_pieces cs

html_inert : (cs : List ℕ) → IsInert (html_pieces cs) (written Html cs)
unfolding html_pieces
html_inert [] = refl
html_inert (c ∷ cs) = (piece_inert c, written Html cs, refl, html_inert cs)

pub brings_no_markup : (cs : List ℕ) → (pieces : List (List ℕ)) × IsInert pieces (written Html cs)
brings_no_markup cs = (html_pieces cs, html_inert cs)

-- one character more
pub written_more : (form : Form) (was before after : List ℕ) (cs : List ℕ) (c : ℕ) → before ≡ was ++ encode_utf8_all (written form cs) → after ≡ before ++ encode_utf8_all (written_char form c) → after ≡ was ++ encode_utf8_all (written form (cs ++ c ∷ []))
written_more form was before after cs c h k =
    k
    ∙ (ap (λ v. v ++ encode_utf8_all (written_char form c)) h
    ∙ (append_assoc was (encode_utf8_all (written form cs)) (encode_utf8_all (written_char form c))
    ∙ (ap (λ v. was ++ v) (sym (encodes-append (written form cs) (written_char form c)))
    ∙ ap (λ v. was ++ encode_utf8_all v)
    (ap (λ v. written form cs ++ v) (sym (append-nil (written_char form c))) ∙ sym (flat_map-append (written_char form) cs (c ∷ []))))))

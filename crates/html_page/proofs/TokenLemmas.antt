-- How parts of a page are read.
use Rattle.std.proofs.Common.{◌≡◌, ◌⊎◌, inl, inr, ℕ, ◌+◌, ◌-◌, false, not, List, [], ◌∷◌, ◌++◌, length, codes, refl, ap, sym, ◌∙◌, append_assoc, arith, length-append, ◌==◌}
use Rattle.std.proofs.lemmas.Bool.Decides.{eqb_tells}
use Rattle.std.proofs.lemmas.List.Sums.{fold-append}
use Rattle.std.specs.List.{filter, flat_map, fold}
use Rattle.html_text.specs.declared.form.Form.TheVariants.{Html}
use Rattle.html_text.specs.Markup.{IsEntity, IsInert, IsPlain}
use Rattle.html_text.specs.Written.{written}
use Rattle.html_text.proofs.TextLemmas.{brings_no_markup}
use Rattle.html_page.specs.declared.attribute_name.AttributeName.{AttributeName}
use Rattle.html_page.specs.declared.attribute_name.AttributeName.TheVariants as attribute
use Rattle.html_page.specs.declared.tag.Tag.{Tag}
use Rattle.html_page.specs.declared.tag.Tag.TheVariants as tag
use Rattle.html_page.specs.Names.{attribute_name, tag_name}
use Rattle.html_page.specs.Parts.{Part, Start, End, Meta, Sheet, Words, LineEnd, Fits, attribute_chars, part_chars, sheet_chars}
use Rattle.html_page.specs.Tokens.{Place, Text, Naming, Inside, Value, Ending, is_void, page_chars, place_behind, step}

-- what is read behind what was read
on : (from between to : Place × ℕ) (xs ys : List ℕ) → fold step from xs ≡ between → fold step between ys ≡ to → fold step from (xs ++ ys) ≡ to
on from between to xs ys h k = fold-append step from xs ys ∙ (ap (λ (s : Place × ℕ). fold step s ys) h ∙ k)

-- names
start_name : (t : Tag) (d : ℕ) → fold step (Text, d) (codes "<" ++ tag_name t) ≡ (Naming (tag_name t), d)
start_name tag.A d = refl
start_name tag.B d = refl
start_name tag.Bdi d = refl
start_name tag.Body d = refl
start_name tag.Cell d = refl
start_name tag.Details d = refl
start_name tag.Division d = refl
start_name tag.Footer d = refl
start_name tag.Head d = refl
start_name tag.Header d = refl
start_name tag.HeaderCell d = refl
start_name tag.Heading1 d = refl
start_name tag.Heading2 d = refl
start_name tag.Heading3 d = refl
start_name tag.Html d = refl
start_name tag.Item d = refl
start_name tag.List d = refl
start_name tag.Main d = refl
start_name tag.Mark d = refl
start_name tag.Navigation d = refl
start_name tag.Paragraph d = refl
start_name tag.Path d = refl
start_name tag.Polygon d = refl
start_name tag.Row d = refl
start_name tag.Section d = refl
start_name tag.Small d = refl
start_name tag.Span d = refl
start_name tag.Summary d = refl
start_name tag.Svg d = refl
start_name tag.Table d = refl
start_name tag.TableBody d = refl
start_name tag.TableHead d = refl
start_name tag.Term d = refl
start_name tag.Terms d = refl
start_name tag.Title d = refl
start_name tag.Value d = refl

end_name : (t : Tag) (d : ℕ) → fold step (Text, d) (codes "</" ++ tag_name t) ≡ (Ending, d)
end_name tag.A d = refl
end_name tag.B d = refl
end_name tag.Bdi d = refl
end_name tag.Body d = refl
end_name tag.Cell d = refl
end_name tag.Details d = refl
end_name tag.Division d = refl
end_name tag.Footer d = refl
end_name tag.Head d = refl
end_name tag.Header d = refl
end_name tag.HeaderCell d = refl
end_name tag.Heading1 d = refl
end_name tag.Heading2 d = refl
end_name tag.Heading3 d = refl
end_name tag.Html d = refl
end_name tag.Item d = refl
end_name tag.List d = refl
end_name tag.Main d = refl
end_name tag.Mark d = refl
end_name tag.Navigation d = refl
end_name tag.Paragraph d = refl
end_name tag.Path d = refl
end_name tag.Polygon d = refl
end_name tag.Row d = refl
end_name tag.Section d = refl
end_name tag.Small d = refl
end_name tag.Span d = refl
end_name tag.Summary d = refl
end_name tag.Svg d = refl
end_name tag.Table d = refl
end_name tag.TableBody d = refl
end_name tag.TableHead d = refl
end_name tag.Term d = refl
end_name tag.Terms d = refl
end_name tag.Title d = refl
end_name tag.Value d = refl

not_void : (t : Tag) → is_void (tag_name t) ≡ false
not_void tag.A = refl
not_void tag.B = refl
not_void tag.Bdi = refl
not_void tag.Body = refl
not_void tag.Cell = refl
not_void tag.Details = refl
not_void tag.Division = refl
not_void tag.Footer = refl
not_void tag.Head = refl
not_void tag.Header = refl
not_void tag.HeaderCell = refl
not_void tag.Heading1 = refl
not_void tag.Heading2 = refl
not_void tag.Heading3 = refl
not_void tag.Html = refl
not_void tag.Item = refl
not_void tag.List = refl
not_void tag.Main = refl
not_void tag.Mark = refl
not_void tag.Navigation = refl
not_void tag.Paragraph = refl
not_void tag.Path = refl
not_void tag.Polygon = refl
not_void tag.Row = refl
not_void tag.Section = refl
not_void tag.Small = refl
not_void tag.Span = refl
not_void tag.Summary = refl
not_void tag.Svg = refl
not_void tag.Table = refl
not_void tag.TableBody = refl
not_void tag.TableHead = refl
not_void tag.Term = refl
not_void tag.Terms = refl
not_void tag.Title = refl
not_void tag.Value = refl

first_name : (a : AttributeName) (name : List ℕ) (d : ℕ) → fold step (Naming name, d) (codes " " ++ attribute_name a ++ codes "=\"") ≡ (Value name, d)
first_name attribute.AriaHidden name d = refl
first_name attribute.AriaLabel name d = refl
first_name attribute.AriaLabelledBy name d = refl
first_name attribute.Charset name d = refl
first_name attribute.Class name d = refl
first_name attribute.ColSpan name d = refl
first_name attribute.Content name d = refl
first_name attribute.Drawing name d = refl
first_name attribute.Href name d = refl
first_name attribute.HttpEquiv name d = refl
first_name attribute.Id name d = refl
first_name attribute.Lang name d = refl
first_name attribute.Name name d = refl
first_name attribute.Points name d = refl
first_name attribute.PreserveAspectRatio name d = refl
first_name attribute.Role name d = refl
first_name attribute.Scope name d = refl
first_name attribute.Style name d = refl
first_name attribute.TabIndex name d = refl
first_name attribute.ViewBox name d = refl

next_name : (a : AttributeName) (name : List ℕ) (d : ℕ) → fold step (Inside name, d) (codes " " ++ attribute_name a ++ codes "=\"") ≡ (Value name, d)
next_name attribute.AriaHidden name d = refl
next_name attribute.AriaLabel name d = refl
next_name attribute.AriaLabelledBy name d = refl
next_name attribute.Charset name d = refl
next_name attribute.Class name d = refl
next_name attribute.ColSpan name d = refl
next_name attribute.Content name d = refl
next_name attribute.Drawing name d = refl
next_name attribute.Href name d = refl
next_name attribute.HttpEquiv name d = refl
next_name attribute.Id name d = refl
next_name attribute.Lang name d = refl
next_name attribute.Name name d = refl
next_name attribute.Points name d = refl
next_name attribute.PreserveAspectRatio name d = refl
next_name attribute.Role name d = refl
next_name attribute.Scope name d = refl
next_name attribute.Style name d = refl
next_name attribute.TabIndex name d = refl
next_name attribute.ViewBox name d = refl

-- words stay in text
plain_in_text : (piece : List ℕ) (d : ℕ) → IsPlain piece → fold step (Text, d) piece ≡ (Text, d)
plain_in_text piece d p =
    rw p.alone (
    elim (eqb_tells p.char 60) [
      | inl q ↦ absurd (p.not_less q.1)
      | inr q ↦ rw q.0 refl
    ])

entity_in_text : (piece : List ℕ) (d : ℕ) → IsEntity piece → fold step (Text, d) piece ≡ (Text, d)
entity_in_text piece d (inl e) = rw e refl
entity_in_text piece d (inr (inl e)) = rw e refl
entity_in_text piece d (inr (inr (inl e))) = rw e refl
entity_in_text piece d (inr (inr (inr (inl e)))) = rw e refl
entity_in_text piece d (inr (inr (inr (inr e)))) = rw e refl

piece_in_text : (piece : List ℕ) (d : ℕ) → IsPlain piece ⊎ IsEntity piece → fold step (Text, d) piece ≡ (Text, d)
piece_in_text piece d (inl p) = plain_in_text piece d p
piece_in_text piece d (inr p) = entity_in_text piece d p

inert_in_text : (pieces : List (List ℕ)) (text : List ℕ) (d : ℕ) → IsInert pieces text → fold step (Text, d) text ≡ (Text, d)
inert_in_text [] text d h = rw h refl
inert_in_text (piece ∷ pieces) text d h =
    ap (λ (cs : List ℕ). fold step (Text, d) cs) h.2
    ∙ on (Text, d) (Text, d) (Text, d) piece h.1 (piece_in_text piece d h.0) (inert_in_text pieces h.1 d h.3)

words_in_text : (cs : List ℕ) (d : ℕ) → fold step (Text, d) (written Html cs) ≡ (Text, d)
words_in_text cs d = let m = brings_no_markup cs in inert_in_text m.0 (written Html cs) d m.1

-- values stay between their quotes
plain_in_value : (piece name : List ℕ) (d : ℕ) → IsPlain piece → fold step (Value name, d) piece ≡ (Value name, d)
plain_in_value piece name d p =
    rw p.alone (
    elim (eqb_tells p.char 34) [
      | inl q ↦ absurd (p.not_quote q.1)
      | inr q ↦ rw q.0 refl
    ])

entity_in_value : (piece name : List ℕ) (d : ℕ) → IsEntity piece → fold step (Value name, d) piece ≡ (Value name, d)
entity_in_value piece name d (inl e) = rw e refl
entity_in_value piece name d (inr (inl e)) = rw e refl
entity_in_value piece name d (inr (inr (inl e))) = rw e refl
entity_in_value piece name d (inr (inr (inr (inl e)))) = rw e refl
entity_in_value piece name d (inr (inr (inr (inr e)))) = rw e refl

piece_in_value : (piece name : List ℕ) (d : ℕ) → IsPlain piece ⊎ IsEntity piece → fold step (Value name, d) piece ≡ (Value name, d)
piece_in_value piece name d (inl p) = plain_in_value piece name d p
piece_in_value piece name d (inr p) = entity_in_value piece name d p

inert_in_value : (pieces : List (List ℕ)) (text name : List ℕ) (d : ℕ) → IsInert pieces text → fold step (Value name, d) text ≡ (Value name, d)
inert_in_value [] text name d h = rw h refl
inert_in_value (piece ∷ pieces) text name d h =
    ap (λ (cs : List ℕ). fold step (Value name, d) cs) h.2
    ∙ on (Value name, d) (Value name, d) (Value name, d) piece h.1 (piece_in_value piece name d h.0) (inert_in_value pieces h.1 name d h.3)

value_read : (cs name : List ℕ) (d : ℕ) → fold step (Value name, d) (written Html cs ++ codes "\"") ≡ (Inside name, d)
value_read cs name d =
    let m = brings_no_markup cs in
    on (Value name, d) (Value name, d) (Inside name, d) (written Html cs) (codes "\"") (inert_in_value m.0 (written Html cs) name d m.1) refl

-- attributes
first_attribute : (a : AttributeName × List ℕ) (name : List ℕ) (d : ℕ) → fold step (Naming name, d) (attribute_chars a) ≡ (Inside name, d)
first_attribute a name d =
    ap (λ (cs : List ℕ). fold step (Naming name, d) cs) (append_assoc (codes " " ++ attribute_name a.0 ++ codes "=\"") (written Html a.1) (codes "\""))
    ∙ on (Naming name, d) (Value name, d) (Inside name, d) (codes " " ++ attribute_name a.0 ++ codes "=\"") (written Html a.1 ++ codes "\"") (first_name a.0 name d) (value_read a.1 name d)

next_attribute : (a : AttributeName × List ℕ) (name : List ℕ) (d : ℕ) → fold step (Inside name, d) (attribute_chars a) ≡ (Inside name, d)
next_attribute a name d =
    ap (λ (cs : List ℕ). fold step (Inside name, d) cs) (append_assoc (codes " " ++ attribute_name a.0 ++ codes "=\"") (written Html a.1) (codes "\""))
    ∙ on (Inside name, d) (Value name, d) (Inside name, d) (codes " " ++ attribute_name a.0 ++ codes "=\"") (written Html a.1 ++ codes "\"") (next_name a.0 name d) (value_read a.1 name d)

next_attributes : (attributes : List (AttributeName × List ℕ)) (name : List ℕ) (d : ℕ) → fold step (Inside name, d) (flat_map attribute_chars attributes) ≡ (Inside name, d)
next_attributes [] name d = refl
next_attributes (a ∷ more) name d =
    on (Inside name, d) (Inside name, d) (Inside name, d) (attribute_chars a) (flat_map attribute_chars more) (next_attribute a name d) (next_attributes more name d)

-- a start tag from behind its name, of an element that isn't void
rest_of_start : (attributes : List (AttributeName × List ℕ)) (name : List ℕ) (d : ℕ) → is_void name ≡ false → fold step (Naming name, d) (flat_map attribute_chars attributes ++ codes ">") ≡ (Text, d + 1)
rest_of_start [] name d h = rw h refl
rest_of_start (a ∷ more) name d h =
    on (Naming name, d) (Inside name, d) (Text, d + 1) (attribute_chars a ++ flat_map attribute_chars more) (codes ">")
    (on (Naming name, d) (Inside name, d) (Inside name, d) (attribute_chars a) (flat_map attribute_chars more) (first_attribute a name d) (next_attributes more name d))
    (rw h refl)

start_read : (t : Tag) (attributes : List (AttributeName × List ℕ)) (d : ℕ) → fold step (Text, d) (part_chars (Start t attributes)) ≡ (Text, d + 1)
start_read t attributes d =
    ap (λ (cs : List ℕ). fold step (Text, d) cs) (append_assoc (codes "<" ++ tag_name t) (flat_map attribute_chars attributes) (codes ">"))
    ∙ on (Text, d) (Naming (tag_name t), d) (Text, d + 1) (codes "<" ++ tag_name t) (flat_map attribute_chars attributes ++ codes ">") (start_name t d)
    (rest_of_start attributes (tag_name t) d (not_void t))

end_read : (t : Tag) (d : ℕ) → fold step (Text, d) (part_chars (End t)) ≡ (Text, d - 1)
end_read t d = on (Text, d) (Ending, d) (Text, d - 1) (codes "</" ++ tag_name t) (codes ">") (end_name t d) refl

rest_of_meta : (attributes : List (AttributeName × List ℕ)) (d : ℕ) → fold step (Naming (codes "meta"), d) (flat_map attribute_chars attributes ++ codes ">") ≡ (Text, d)
rest_of_meta [] d = refl
rest_of_meta (a ∷ more) d =
    let name = codes "meta" in
    on (Naming name, d) (Inside name, d) (Text, d) (attribute_chars a ++ flat_map attribute_chars more) (codes ">")
    (on (Naming name, d) (Inside name, d) (Inside name, d) (attribute_chars a) (flat_map attribute_chars more) (first_attribute a name d) (next_attributes more name d))
    refl

meta_read : (attributes : List (AttributeName × List ℕ)) (d : ℕ) → fold step (Text, d) (part_chars (Meta attributes)) ≡ (Text, d)
meta_read attributes d =
    ap (λ (cs : List ℕ). fold step (Text, d) cs) (append_assoc (codes "<meta") (flat_map attribute_chars attributes) (codes ">"))
    ∙ on (Text, d) (Naming (codes "meta"), d) (Text, d) (codes "<meta") (flat_map attribute_chars attributes ++ codes ">") refl (rest_of_meta attributes d)

-- a style sheet
sheet_in_text : (cs : List ℕ) (d : ℕ) → fold step (Text, d) (filter (λ c. not (c == 60)) cs) ≡ (Text, d)
sheet_in_text [] d = refl
sheet_in_text (c ∷ cs) d =
    elim (eqb_tells c 60) [
      | inl q ↦ rw q.0 (sheet_in_text cs d)
      | inr q ↦ simp q.0 (sheet_in_text cs d)
    ]

sheet_read : (cs : List ℕ) (d : ℕ) → fold step (Text, d) (sheet_chars cs) ≡ (Text, d)
sheet_read cs d =
    let plain = filter (λ c. not (c == 60)) cs in
    let same : d + 1 - 1 ≡ d = omega arith in
    on (Text, d) (Text, d + 1) (Text, d) (codes "<style>" ++ plain) (codes "</style>")
    (on (Text, d) (Text, d + 1) (Text, d + 1) (codes "<style>") plain refl (sheet_in_text cs (d + 1)))
    (ap (λ (k : ℕ). (Text, k)) same)

-- parts that fit
parts_read : (from : List Tag) (parts : List Part) (to : List Tag) → Fits from parts to → fold step (Text, length from) (flat_map part_chars parts) ≡ (Text, length to)
parts_read from [] to h = ap (λ (tags : List Tag). (Text, length tags)) h
parts_read from (Start t attributes ∷ parts) to h =
    let more : length (from ++ t ∷ []) ≡ length from + 1 = length-append from (t ∷ []) in
    on (Text, length from) (Text, length from + 1) (Text, length to) (part_chars (Start t attributes)) (flat_map part_chars parts)
    (start_read t attributes (length from))
    (ap (λ (k : ℕ). fold step (Text, k) (flat_map part_chars parts)) (sym more) ∙ parts_read (from ++ t ∷ []) parts to h)
parts_read from (End t ∷ parts) to h =
    let all : length from ≡ length h.0 + 1 = ap (λ (tags : List Tag). length tags) h.1 ∙ length-append h.0 (t ∷ []) in
    let less : length from - 1 ≡ length h.0 = omega (arith, all) in
    on (Text, length from) (Text, length from - 1) (Text, length to) (part_chars (End t)) (flat_map part_chars parts)
    (end_read t (length from))
    (ap (λ (k : ℕ). fold step (Text, k) (flat_map part_chars parts)) less ∙ parts_read h.0 parts to h.2)
parts_read from (Meta attributes ∷ parts) to h =
    on (Text, length from) (Text, length from) (Text, length to) (part_chars (Meta attributes)) (flat_map part_chars parts)
    (meta_read attributes (length from)) (parts_read from parts to h)
parts_read from (Sheet cs ∷ parts) to h =
    on (Text, length from) (Text, length from) (Text, length to) (sheet_chars cs) (flat_map part_chars parts)
    (sheet_read cs (length from)) (parts_read from parts to h)
parts_read from (Words cs ∷ parts) to h =
    on (Text, length from) (Text, length from) (Text, length to) (written Html cs) (flat_map part_chars parts)
    (words_in_text cs (length from)) (parts_read from parts to h)
parts_read from (LineEnd ∷ parts) to h =
    on (Text, length from) (Text, length from) (Text, length to) (10 ∷ []) (flat_map part_chars parts) refl (parts_read from parts to h)

pub page_read : (parts : List Part) (opened : List Tag) → Fits [] parts opened → place_behind (page_chars parts) ≡ (Text, length opened)
page_read parts opened h =
    on (Text, 0) (Text, 0) (Text, length opened) (codes "<!DOCTYPE html>") (flat_map part_chars parts) refl (parts_read [] parts opened h)

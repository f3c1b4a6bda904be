-- Names of elements and attributes are ASCII: each is its own octets.
use Rattle.std.proofs.Common.{◌≡◌, ℕ, List, [], ◌∷◌, ◌++◌, map, codes, refl, ap, sym, ◌∙◌, append_assoc}
use Rattle.std.proofs.lemmas.Str.{encodes-append}
use Rattle.std.specs.List.{flat_map}
use Rattle.std.specs.Str.{encode_utf8_all}
use Rattle.html_page.specs.declared.attribute_name.AttributeName.{AttributeName}
use Rattle.html_page.specs.declared.attribute_name.AttributeName.TheVariants as attribute
use Rattle.html_page.specs.declared.tag.Tag.{Tag}
use Rattle.html_page.specs.declared.tag.Tag.TheVariants as tag
use Rattle.html_page.specs.declared.attribute.Attribute.{Attribute}
use Rattle.html_page.specs.Names.{attribute_name, tag_name}
use Rattle.html_page.specs.Parts.{Start, End, Meta, attribute_chars, part_octets, told, told_octets}

pub tag_is_ascii : (t : Tag) → encode_utf8_all (tag_name t) ≡ tag_name t
unfolding lib.Utf8.encode
tag_is_ascii tag.A = refl
tag_is_ascii tag.B = refl
tag_is_ascii tag.Bdi = refl
tag_is_ascii tag.Body = refl
tag_is_ascii tag.Cell = refl
tag_is_ascii tag.Details = refl
tag_is_ascii tag.Division = refl
tag_is_ascii tag.Footer = refl
tag_is_ascii tag.Head = refl
tag_is_ascii tag.Header = refl
tag_is_ascii tag.HeaderCell = refl
tag_is_ascii tag.Heading1 = refl
tag_is_ascii tag.Heading2 = refl
tag_is_ascii tag.Heading3 = refl
tag_is_ascii tag.Html = refl
tag_is_ascii tag.Item = refl
tag_is_ascii tag.List = refl
tag_is_ascii tag.Main = refl
tag_is_ascii tag.Mark = refl
tag_is_ascii tag.Navigation = refl
tag_is_ascii tag.Paragraph = refl
tag_is_ascii tag.Path = refl
tag_is_ascii tag.Polygon = refl
tag_is_ascii tag.Row = refl
tag_is_ascii tag.Section = refl
tag_is_ascii tag.Small = refl
tag_is_ascii tag.Span = refl
tag_is_ascii tag.Summary = refl
tag_is_ascii tag.Svg = refl
tag_is_ascii tag.Table = refl
tag_is_ascii tag.TableBody = refl
tag_is_ascii tag.TableHead = refl
tag_is_ascii tag.Term = refl
tag_is_ascii tag.Terms = refl
tag_is_ascii tag.Title = refl
tag_is_ascii tag.Value = refl

pub attribute_is_ascii : (a : AttributeName) → encode_utf8_all (attribute_name a) ≡ attribute_name a
unfolding lib.Utf8.encode
attribute_is_ascii attribute.AriaHidden = refl
attribute_is_ascii attribute.AriaLabel = refl
attribute_is_ascii attribute.AriaLabelledBy = refl
attribute_is_ascii attribute.Charset = refl
attribute_is_ascii attribute.Class = refl
attribute_is_ascii attribute.ColSpan = refl
attribute_is_ascii attribute.Content = refl
attribute_is_ascii attribute.Drawing = refl
attribute_is_ascii attribute.Href = refl
attribute_is_ascii attribute.HttpEquiv = refl
attribute_is_ascii attribute.Id = refl
attribute_is_ascii attribute.Lang = refl
attribute_is_ascii attribute.Name = refl
attribute_is_ascii attribute.Points = refl
attribute_is_ascii attribute.PreserveAspectRatio = refl
attribute_is_ascii attribute.Role = refl
attribute_is_ascii attribute.Scope = refl
attribute_is_ascii attribute.Style = refl
attribute_is_ascii attribute.TabIndex = refl
attribute_is_ascii attribute.ViewBox = refl

-- octets that stand between others, with a name before them
pub joined : (a n b c : List ℕ) → encode_utf8_all a ≡ a → encode_utf8_all n ≡ n → encode_utf8_all c ≡ c → a ++ n ++ encode_utf8_all b ++ c ≡ encode_utf8_all (a ++ n ++ b ++ c)
joined a n b c ea en ec =
    sym (
    encodes-append (a ++ n ++ b) c
    ∙ (ap (λ (v : List ℕ). v ++ encode_utf8_all c) (encodes-append (a ++ n) b ∙ ap (λ (v : List ℕ). v ++ encode_utf8_all b) (encodes-append a n ∙ (ap (λ (v : List ℕ). v ++ encode_utf8_all n) ea ∙ ap (λ (v : List ℕ). a ++ v) en)))
    ∙ ap (λ (v : List ℕ). a ++ n ++ encode_utf8_all b ++ v) ec)
    )

-- texts in a row behind another
in_a_row : (w a b c d e : List ℕ) → w ++ a ++ b ++ c ++ d ++ e ≡ w ++ (a ++ b ++ c ++ d ++ e)
in_a_row w a b c d e =
    ap (λ (v : List ℕ). v ++ c ++ d ++ e) (append_assoc w a b)
    ∙ (ap (λ (v : List ℕ). v ++ d ++ e) (append_assoc w (a ++ b) c)
    ∙ (ap (λ (v : List ℕ). v ++ e) (append_assoc w (a ++ b ++ c) d) ∙ append_assoc w (a ++ b ++ c ++ d) e))

-- an attribute that was put piece by piece
pub attribute_put : (name : AttributeName) (was shown now : List ℕ) → now ≡ was ++ codes " " ++ attribute_name name ++ codes "=\"" ++ encode_utf8_all shown ++ codes "\"" → now ≡ was ++ encode_utf8_all (codes " " ++ attribute_name name ++ codes "=\"" ++ shown ++ codes "\"")
unfolding lib.Utf8.encode
attribute_put name was shown now h =
    let n = attribute_name name in
    let ascii : encode_utf8_all (codes " " ++ n) ≡ codes " " ++ n =
    encodes-append (codes " ") n ∙ ap (λ (v : List ℕ). codes " " ++ v) (attribute_is_ascii name) in
    h
    ∙ (in_a_row was (codes " ") n (codes "=\"") (encode_utf8_all shown) (codes "\"")
    ∙ ap (λ (v : List ℕ). was ++ v) (joined (codes " " ++ n) (codes "=\"") shown (codes "\"") ascii refl refl))

-- attributes as octets
pub all_told : (attributes : List Attribute) → flat_map told_octets attributes ≡ encode_utf8_all (flat_map attribute_chars (map told attributes))
all_told [] = refl
all_told (a ∷ more) =
    ap (λ (v : List ℕ). told_octets a ++ v) (all_told more)
    ∙ sym (encodes-append (attribute_chars (told a)) (flat_map attribute_chars (map told more)))

-- a start tag that was put piece by piece
pub start_put : (t : Tag) (attributes : List Attribute) (now : List ℕ) → now ≡ codes "<" ++ tag_name t ++ flat_map told_octets attributes ++ codes ">" → now ≡ part_octets (Start t (map told attributes))
unfolding lib.Utf8.encode
start_put t attributes now h =
    h
    ∙ (ap (λ (v : List ℕ). codes "<" ++ tag_name t ++ v ++ codes ">") (all_told attributes)
    ∙ joined (codes "<") (tag_name t) (flat_map attribute_chars (map told attributes)) (codes ">") refl (tag_is_ascii t) refl)

-- a `meta`
pub meta_put : (attributes : List Attribute) (now : List ℕ) → now ≡ codes "<meta" ++ flat_map told_octets attributes ++ codes ">" → now ≡ part_octets (Meta (map told attributes))
unfolding lib.Utf8.encode
meta_put attributes now h =
    h
    ∙ (ap (λ (v : List ℕ). codes "<meta" ++ v ++ codes ">") (all_told attributes)
    ∙ joined (codes "<") (codes "meta") (flat_map attribute_chars (map told attributes)) (codes ">") refl refl refl)

-- an end tag
pub end_put : (t : Tag) (now : List ℕ) → now ≡ codes "</" ++ tag_name t ++ codes ">" → now ≡ part_octets (End t)
unfolding lib.Utf8.encode
end_put t now h =
    h
    ∙ sym (
    encodes-append (codes "</" ++ tag_name t) (codes ">")
    ∙ ap (λ (v : List ℕ). v ++ codes ">") (encodes-append (codes "</") (tag_name t) ∙ ap (λ (v : List ℕ). codes "</" ++ v) (tag_is_ascii t)))

-- a style sheet
pub sheet_put : (plain now : List ℕ) → now ≡ codes "<style>" ++ encode_utf8_all plain ++ codes "</style>" → now ≡ encode_utf8_all (codes "<style>" ++ plain ++ codes "</style>")
unfolding lib.Utf8.encode
sheet_put plain now h =
    h
    ∙ sym (
    encodes-append (codes "<style>" ++ plain) (codes "</style>")
    ∙ ap (λ (v : List ℕ). v ++ codes "</style>") (encodes-append (codes "<style>") plain))

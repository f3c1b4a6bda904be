-- What a page shows of itself while it is written.
use Rattle.std.specs.Prelude.{◌≡◌, ◌++◌, true, false, ℕ, List, Option, Some, None, [], length, ◌-◌, take, string_bytes}
use Rattle.std.specs.List.{slice_get}
use Rattle.html_page.specs.declared.draft.Draft.{Draft}
use Rattle.html_page.specs.declared.page.HtmlPage.{HtmlPage}
use Rattle.html_page.specs.declared.tag.Tag.{Tag}
use Rattle.html_page.specs.Parts.{End, part_octets}

-- the octets that a draft has
abbrev pub draft_written : Draft → List ℕ
draft_written d = string_bytes d.text

-- the elements that are open there, outermost first
abbrev pub draft_opened : Draft → List Tag
draft_opened d = d.opened.items

-- the octets that were put so far
abbrev pub written : HtmlPage → List ℕ
written p = draft_written p.draft

-- the elements that are open, outermost first
abbrev pub opened : HtmlPage → List Tag
opened p = draft_opened p.draft

-- no part of it was refused memory
abbrev pub IsWhole : HtmlPage → Type 0
IsWhole p = p.is_whole ≡ true

-- Memory for some part was refused.
abbrev pub IsLost : HtmlPage → Type 0
IsLost p = p.is_whole ≡ false

-- A part was put behind a page that was whole and still is; or no octet was put, since memory was refused, then or before.
abbrev pub Puts : HtmlPage → HtmlPage → List ℕ → Type 0
Puts was now octets = (IsWhole now → IsWhole was × (written now ≡ written was ++ octets)) × (IsLost now → written now ≡ written was)

-- the end tag of an element, where there is one
abbrev pub closing : Option Tag → List ℕ
closing None = []
closing (Some tag) = part_octets (End tag)

-- the end tag of the element that was opened last
abbrev pub last_closing : List Tag → List ℕ
last_closing tags = closing (slice_get tags (length tags - 1))

-- the others
abbrev pub outer : List Tag → List Tag
outer tags = take (length tags - 1) tags

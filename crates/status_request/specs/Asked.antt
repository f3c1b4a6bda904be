-- What of a request's head matters: its method, its target, and its fields Host.
use Rattle.std.specs.Prelude.{◌≡◌, ◌⊎◌, ℕ, Bool, List, [], ◌∷◌, ◌==◌, ◌||◌, IsTrue, true, false, codes, drop, length, map, take, if◌then◌else◌}
use Rattle.std.specs.Char.{to_ascii_lowercase}
use Rattle.std.specs.List.{before_first, filter, position_or_len}
use Rattle.std.specs.Str.{bytes_eq}
use Rattle.status_request.specs.Authority.{NamesHere}
use Rattle.status_request.specs.declared.asked.Method.{Method}
use Rattle.status_request.specs.declared.asked.Method.TheVariants.{Get, Head}
use Rattle.status_request.specs.declared.asked.Resource.{Resource}
use Rattle.status_request.specs.declared.asked.Resource.TheVariants.{Page, Metrics}

-- a question mark
abbrev pub is_query_mark : ℕ → Bool
is_query_mark b = b == 63

-- a target in absolute form begins with the scheme `http`, in whatever case (RFC 9112, section 3.2.2; RFC 9110, section 4.2.1)
abbrev pub is_absolute : List ℕ → Bool
is_absolute target = bytes_eq (map to_ascii_lowercase (take 7 target)) (codes "http://")

-- what stands behind the scheme of a target in absolute form
abbrev pub IsBehindScheme : List ℕ → List ℕ → Type 0
IsBehindScheme target rest = (is_absolute target ≡ true) × (rest ≡ drop 7 target)

-- an octet at which an authority ends: a slash or a question mark (RFC 3986, section 3.2; a target has no fragment)
abbrev pub ends_authority : ℕ → Bool
ends_authority b = b == 47 || b == 63

-- the authority of a target in absolute form: what stands behind its scheme, up to its path or its query
abbrev pub authority_of : List ℕ → List ℕ
authority_of target = before_first ends_authority (drop 7 target)

-- the authority that a target in absolute form has
abbrev pub IsAuthority : List ℕ → List ℕ → Type 0
IsAuthority target authority = (is_absolute target ≡ true) × (authority ≡ authority_of target)

-- what stands behind that authority
abbrev pub behind_authority : List ℕ → List ℕ
behind_authority target = let rest = drop 7 target in drop (position_or_len ends_authority rest) rest

-- no path is the root (RFC 9110, section 4.2.3)
abbrev pub rooted : List ℕ → List ℕ
rooted path = if length path == 0 then codes "/" else path

-- the path of a target: what stands before its query; in absolute form, behind its authority
unfoldable pub path_of : List ℕ → List ℕ
path_of target =
    if is_absolute target then rooted (before_first is_query_mark (behind_authority target)) else before_first is_query_mark target

-- where a resource is
abbrev pub resource_path : Resource → List ℕ
resource_path Page = codes "/"
resource_path Metrics = codes "/metrics"

abbrev pub method_name : Method → List ℕ
method_name Get = codes "GET"
method_name Head = codes "HEAD"

-- a field of this name is Host, in whatever case
abbrev pub is_host : List ℕ → Bool
is_host name = bytes_eq (map to_ascii_lowercase name) (codes "host")

-- the values of the fields Host among fields, each of which is its name and its value
abbrev pub host_values : List (List ℕ × List ℕ) → List (List ℕ)
host_values fields = map (λ field. field.1) (filter (λ field. is_host field.0) fields)

-- each field Host names the server of this name
abbrev pub AreHere : List ℕ → List (List ℕ × List ℕ) → Type 0
AreHere name [] = Unit {0}
AreHere name (field ∷ fields) = (IsTrue (is_host field.0) → NamesHere name field.1) × AreHere name fields

-- the server of this name is named: by the target, where that is in absolute form, whatever the fields Host say, and else by these (RFC
-- 9112, section 3.2.2)
unfoldable pub IsServerNamed : List ℕ → List ℕ → List (List ℕ × List ℕ) → Type 0
IsServerNamed name target fields =
    ((is_absolute target ≡ true) × NamesHere name (authority_of target)) ⊎ ((is_absolute target ≡ false) × AreHere name fields)

-- What octets ask for, in the words of httparse's grammar of a request's head (RFC 9112).
use Rattle.std.specs.Prelude.{◌≡◌, ◌≢◌, ◌<◌, ◌≤◌, ◌⊎◌, ℕ, List, length, map}
use Rattle.httparse.specs.Grammar.{RequestHead, ReadsRequest, HasNoRequest, NeverHasRequest, MayBecomeRequest}
use Rattle.httparse.specs.Spans.{RequestOverflows, header_bytes, name_and_value}
use Rattle.httparse.specs.declared.spans.HeaderSpan.{HeaderSpan}
use Rattle.status_request.specs.declared.asked.Method.{Method}
use Rattle.status_request.specs.declared.asked.Resource.{Resource}
use Rattle.status_request.specs.declared.judged.RequestReading.{RequestReading}
use Rattle.status_request.specs.declared.judged.RequestReading.TheVariants.{More, Wanted, Refused}
use Rattle.status_request.specs.declared.judged.RequestRefusal.{RequestRefusal}
use Rattle.status_request.specs.declared.judged.RequestRefusal.TheVariants.{BadRequest, OtherHost, NotFound, MethodNotAllowed, TooLarge}
use Rattle.status_request.specs.declared.judged.TheConstants.{MOST_OCTETS, MOST_FIELDS}
use Rattle.status_request.specs.Asked.{IsServerNamed, host_values, method_name, path_of, resource_path}

-- A request is for the server of this name: it has one field Host, or in HTTP/1.0 perhaps none (RFC 9112, section 3.2), and names that.
abbrev pub IsNamed : (name : List ℕ) (minor : ℕ) (target : List ℕ) (fields : List (List ℕ × List ℕ)) → Type 0
IsNamed name minor target fields =
    let count = length (host_values fields) in ((count ≡ 1) ⊎ ((count ≡ 0) × (minor ≡ 0))) × IsServerNamed name target fields

-- the names and values of fields, which lie so among these octets
abbrev pub fields_of : List ℕ → List HeaderSpan → List (List ℕ × List ℕ)
fields_of octets fields = map (header_bytes octets) fields

-- the server of this name is meant by a head
abbrev pub IsMeant : List ℕ → RequestHead → Type 0
IsMeant name head = IsNamed name head.minor head.target (map name_and_value head.fields)

-- the octets begin with a whole head, of which that holds
abbrev pub HasHead : List ℕ → (RequestHead → Type 0) → Type 0
HasHead octets P = (head : RequestHead) × (rest : List ℕ) × ReadsRequest octets head rest × P head

-- a method that is answered
abbrev pub IsAnswered : List ℕ → Type 0
IsAnswered name = (method : Method) × (name ≡ method_name method)

abbrev pub IsRefused : List ℕ → List ℕ → RequestRefusal → Type 0
-- whatever follows, no head comes of it
IsRefused name octets BadRequest = NeverHasRequest octets
IsRefused name octets OtherHost = HasHead octets (λ head. IsMeant name head → ⊥)
IsRefused name octets MethodNotAllowed = HasHead octets (λ head. (method : Method) → head.method ≢ method_name method)
IsRefused name octets NotFound = HasHead octets (λ head. IsAnswered head.method × ((resource : Resource) → path_of head.target ≢ resource_path resource))
-- no whole head in so many octets, or more fields than are read, whatever follows
IsRefused name octets TooLarge = (HasNoRequest octets × (MOST_OCTETS ≤ length octets)) ⊎ RequestOverflows MOST_FIELDS octets

-- what the octets that have come so far ask for of the server of a name
abbrev pub IsReading : List ℕ → List ℕ → RequestReading → Type 0
IsReading name octets More = HasNoRequest octets × MayBecomeRequest octets × (length octets < MOST_OCTETS)
IsReading name octets (Wanted method resource) =
    HasHead octets (λ head. IsMeant name head × (head.method ≡ method_name method) × (path_of head.target ≡ resource_path resource))
IsReading name octets (Refused refusal) = IsRefused name octets refusal

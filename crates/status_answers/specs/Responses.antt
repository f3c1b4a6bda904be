-- What is answered (RFC 9110, RFC 9112).
use Rattle.std.specs.Prelude.{◌≡◌, ℕ, List, ◌++◌, codes, length}
use Rattle.std.specs.Fmt.{decimal}
use Rattle.html_page.specs.Parts.{IsPage}
use Rattle.status_metrics.specs.Metrics.{metrics_text}
use Rattle.status_request.specs.declared.asked.Method.{Method}
use Rattle.status_request.specs.declared.asked.Method.TheVariants.{Get, Head}
use Rattle.status_request.specs.declared.asked.Resource.{Resource}
use Rattle.status_request.specs.declared.asked.Resource.TheVariants.{Page, Metrics}
use Rattle.status_request.specs.declared.judged.RequestRefusal.{RequestRefusal}
use Rattle.status_request.specs.declared.judged.RequestRefusal.TheVariants.{BadRequest, OtherHost, NotFound, MethodNotAllowed, TooLarge}
use Rattle.status_scene.specs.declared.scene.Scene.{Scene}

-- the status line of a refusal, from its code on
abbrev pub refusal_line : RequestRefusal → List ℕ
refusal_line BadRequest = codes "400 Bad Request"
refusal_line OtherHost = codes "400 Bad Request"
refusal_line NotFound = codes "404 Not Found"
refusal_line MethodNotAllowed = codes "405 Method Not Allowed"
refusal_line TooLarge = codes "431 Request Header Fields Too Large"

-- the type of a resource's text
abbrev pub kind_of : Resource → List ℕ
kind_of Page = codes "text/html; charset=utf-8"
kind_of Metrics = codes "text/plain; version=0.0.4; charset=utf-8"

-- a head: nothing is kept, run or fetched from elsewhere, and the connection ends
unfoldable pub head_text : (line kind : List ℕ) → ℕ → List ℕ
head_text line kind count =
    codes "HTTP/1.1 " ++ (line ++ (codes "\r\nAllow: GET, HEAD\r\nContent-Type: " ++ (kind ++ (codes "\r\nContent-Length: " ++ (
    decimal count ++ codes "\r\nCache-Control: no-store\r\nX-Content-Type-Options: nosniff\r\nContent-Security-Policy: default-src 'none'; style-src 'unsafe-inline'; base-uri 'none'; form-action 'none'; frame-ancestors 'none'\r\nReferrer-Policy: no-referrer\r\nConnection: close\r\n\r\n")))))

-- a response whose body is its status line, from its code on
abbrev pub in_one_line : List ℕ → List ℕ
in_one_line line =
    let body = line ++ codes "\n" in head_text line (codes "text/plain; charset=utf-8") (length body) ++ body

-- the text of a resource: a whole page, or exactly the metrics
abbrev pub IsBody : Scene → Resource → List ℕ → Type 0
IsBody scene Page body = ∥ IsPage body ∥₁
IsBody scene Metrics body = body ≡ metrics_text scene

-- the response with a resource whose text is the body; HEAD is answered without it
abbrev pub response_text : Method → Resource → List ℕ → List ℕ
response_text Get resource body = head_text (codes "200 OK") (kind_of resource) (length body) ++ body
response_text Head resource body = head_text (codes "200 OK") (kind_of resource) (length body)

use Rattle.std.proofs.Common.{◌≡◌, ℕ, List, ◌++◌, ◌∙◌, ap, codes, length, rules}
use Rattle.status_answers.specs.Responses.{head_text}
use Rattle.status_answers.proofs.response.in_one_line.Goals as goal

pub returns : goal.returns
returns c =
    let line = c.args.line.now in
    let kind = codes "text/plain; charset=utf-8" in
    let e : c.len.result ≡ length (line ++ codes "\n") = search rules in
    c.in_ok-push_str.ensures.bytes
    ∙ (ap (λ (v : List ℕ). v ++ c.as_str.result.now) (c.in_ok-response.ensures ∙ ap (λ (n : ℕ). head_text line kind n) e)
    ∙ ap (λ (v : List ℕ). head_text line kind (length (line ++ codes "\n")) ++ v) (c.as_str.ensures.value ∙ c.in_ok-body.ensures.ok))

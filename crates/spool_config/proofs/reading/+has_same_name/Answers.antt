use Rattle.std.proofs.Common.{◌≡◌, ℕ, ◌∙◌, sym, ◌||◌, ap}
use Rattle.std.specs.List.{list_any}
use Rattle.std.specs.Str.{bytes_eq}
use Rattle.spool_config.specs.Faults.{has_same}
use Rattle.spool_config.proofs.Names.{has_same-first, own_names, names}
use Rattle.spool_config.proofs.reading.+has_same_name.Goals as goal
use Rattle.spool_config.proofs.reading.+has_same_name.Goals.{After-is_among}

-- the first is among the rest, or two of the rest have one name
parts : {n : ℕ} (c : After-is_among n) → has_same (names c.args.queues.now) ≡ (c.is_among.result || has_same (names c.in-Some.rest.now))
parts c =
    let rest = c.in-Some.rest.now in
    let among = c.is_among.ensures ∙ ap (λ name. list_any (bytes_eq name) (names rest)) c.name.ensures in
    has_same-first c.args.queues.now c.in-Some.first.now rest c.in-Some.ensures.cases.0 ∙ ap (λ b. b || has_same (names rest)) (sym among)

pub returns-then-is_among-clause-value : goal.returns-then-is_among-clause-value
returns-then-is_among-clause-value n c =
    c.if-is_among.true ∙ sym (parts (goal.at.returns-then-is_among-clause-value n c).After-is_among ∙ rw c.if-is_among.true)

pub returns-else-is_among-clause-value : goal.returns-else-is_among-clause-value
returns-else-is_among-clause-value n c =
    c.has_same_name.ensures.value ∙ sym (parts (goal.at.returns-else-is_among-clause-value n c).After-is_among ∙ rw c.if-is_among.false)

pub returns-else-is_among-clause-own : goal.returns-else-is_among-clause-own
returns-else-is_among-clause-own n c = λ none. own_names c.args.queues.now (sym (returns-else-is_among-clause-value n c) ∙ none)

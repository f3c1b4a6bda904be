use Rattle.std.proofs.Common.{rules}
use Rattle.lpd_values.proofs.PieceLemmas.{skip_begins, skip_words, split_words, word_some}
use Rattle.account_text.specs.Reading.{is_gap}
use Rattle.account_text.proofs.words.next_word.Goals as goal

pub returns-then-is_empty : goal.returns-then-is_empty
returns-then-is_empty c =
    let words = skip_words is_gap c.args.text.now c.gap_len.result c.gap_len.ensures.value in
    search (rules, words)

pub returns : goal.returns
returns c =
    let words = skip_words is_gap c.args.text.now c.gap_len.result c.gap_len.ensures.value in
    let begins = skip_begins is_gap c.args.text.now c.gap_len.result c.gap_len.ensures.value in
    search (rules, words, begins, split_words, word_some)

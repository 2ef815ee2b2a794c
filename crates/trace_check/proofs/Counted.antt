-- Counted: how many lines a text has, by its bytes.
use Rattle.std.proofs.Common.{◌≡◌, ℕ, ◌+◌, ◌≤◌, List, [], ◌∷◌, ◌++◌, length, map, take, sym, ap, ◌∙◌, arith}
use Rattle.std.specs.List.{concat}
use Rattle.std.proofs.lemmas.List.{length-append, length-take-le}
use Rattle.std.proofs.lemmas.List.Folds.{concat-append}
use Rattle.cs_types.specs.History.{History}
use Rattle.scenario_text.specs.Text.{entry_text}
use Rattle.trace_check.specs.Lines.{lines_of}
use Rattle.trace_check.proofs.Texts.{lines-few, concat-lines}
use Rattle.trace_check.proofs.Runs.{some_text}

-- so many first lines of a text are no more than its bytes
pub common_few : (text : List ℕ) (count : ℕ) (lines more : List (List ℕ)) → count ≤ length lines → lines_of text ≡ take count lines ++ more → count ≤ length text
common_few text count lines more few is =
    let all = ap length is ∙ length-append (take count lines) more in
    let long = length-take-le count lines few in
    let bytes = lines-few text in
    omega (arith, all, long, bytes)

entries_long : (history : History) → length history ≤ length (concat (map entry_text history))
entries_long [] = omega arith
entries_long (entry ∷ history) =
    let some = some_text entry in
    let rest = entries_long history in
    let both = length-append (entry_text entry) (concat (map entry_text history)) in
    omega (arith, some, rest, both)

-- each entry's line has a byte
pub entries_few : (history : History) (text rest : List ℕ) → lines_of text ≡ map entry_text history ++ lines_of rest → length history + length rest ≤ length text
entries_few history text rest is =
    let whole : text ≡ concat (map entry_text history) ++ rest =
    sym (concat-lines text) ∙ ap concat is ∙ concat-append (map entry_text history) (lines_of rest)
    ∙ ap (λ (t : List ℕ). concat (map entry_text history) ++ t) (concat-lines rest) in
    let all = ap length whole ∙ length-append (concat (map entry_text history)) rest in
    let long = entries_long history in
    omega (arith, all, long)

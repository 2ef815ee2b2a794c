use Rattle.std.proofs.Common.{◌≡◌, ◌∙◌, ◌++◌, ◌-◌, List, ℕ, length, take, drop, ap, sym, refl, arith}
use Rattle.std.specs.Int.{w32, to_le_bytes}
use Rattle.std.proofs.lemmas.List.{take-append-drop, take_all, length-drop}
use Rattle.scenario_text.proofs.usual.behind.Goals as goal

pub returns : goal.returns
returns c =
    let text = c.args.text.now in
    let front = c.in_ok-front.front.now in
    let word = c.args.word.now in
    let is = c.in_ok-front.ensures.cases in
    let first : take 4 front ≡ take 4 word = sym c.four.ensures ∙ ap (to_le_bytes w32) c.if-four.false ∙ c.four-2.ensures in
    let tail : (bytes : List ℕ) → take (length bytes - 4) (drop 4 bytes) ≡ drop 4 bytes = λ bytes. take_all (length bytes - 4) (drop 4 bytes) (omega (arith, length-drop 4 bytes)) in
    let last = sym (tail front) ∙ c.if-not-are_same.ensures refl ∙ tail word in
    let same = sym (take-append-drop 4 front) ∙ (λ i. first i ++ last i) ∙ take-append-drop 4 word in
    sym (take-append-drop (length word) text)
    ∙ ap (λ (bytes : List ℕ). bytes ++ drop (length word) text) (sym is.1 ∙ same)
    ∙ ap (λ (bytes : List ℕ). word ++ bytes) (sym is.2)

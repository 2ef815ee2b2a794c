use Rattle.std.proofs.Common.{◌∙◌, ap, length, take, arith, take_all}
use Rattle.scenario_text.specs.Words.{Word}
use Rattle.scenario_text.specs.Grammar.{is_word}
use Rattle.scenario_text.proofs.words.is_word.Goals as goal

pub returns-then-word-keyword : goal.returns-then-word-keyword
returns-then-word-keyword c =
    let whole = take_all (length c.args.word.now) c.args.keyword.now (omega arith) in
    c.starts_with.ensures.value ∙ ap (λ (keyword : Word). is_word c.args.word.now (take (length c.args.word.now) keyword)) c.as_bytes.ensures.value ∙ ap (λ (keyword : Word). is_word c.args.word.now keyword) whole

use Rattle.std.proofs.Common.{rules, ◌≡◌, ◌∙◌, ap, List, Option, Some, None, option_map, codes}
use Rattle.clap.specs.Walk.{Text, Row, first_of}
use Rattle.clap.specs.Simple.{subcommand_rows_of}
use Rattle.clap.specs.Matches.{found_of}
use Rattle.clap.proofs.WalkLemmas.{first_value-rows}
use Rattle.command_words.specs.Forms.{words_by}
use Rattle.command_words.specs.Program.{words_met}
use Rattle.command_words.proofs.parser.matched.Goals as goal

-- a subcommand is met with its name and its rows
met_with : (met : Option (Text × List Row)) (name : Text) (rows : List Row) → Some name ≡ option_map (λ one. one.0) met → Some rows ≡ option_map (λ one. one.1) met →
    Some (words_by name (first_of (codes "value") rows)) ≡ option_map words_met met
met_with None name rows named has = absurd cc
met_with (Some met) name rows named has = cc

pub returns : goal.returns
returns c =
    let met = subcommand_rows_of c.args.matches.now in
    let name : Some c.in_ok-name.name.now ≡ option_map (λ (one : Text × List Row). one.0) met = search rules in
    ap (λ (value : Option Text). Some (words_by c.in_ok-name.name.now value)) (c.get_str.ensures ∙ first_value-rows (found_of c.in_ok-name.values.now) (codes "value"))
    ∙ met_with met _ _ name c.in_ok-name.ensures.rows

use Rattle.std.proofs.Common.{refl}
use Rattle.scenario_text.specs.Grammar.{creds_form}
use Rattle.scenario_text.specs.Reading.{lent, creds_value}
use Rattle.scenario_text.proofs.TaskLines.{exactly, refused, found, creds_shape, wrong_of_three, right_creds}
use Rattle.scenario_text.proofs.task.parse_creds.Goals as goal

pub returns-in_default-2-3 : goal.returns-in_default-2-3
returns-in_default-2-3 c =
    let words = lent c.args.words.now in
    wrong_of_three creds_form creds_value words 0 1 2 _ _ _ (creds_shape words (exactly 9 _ c.in-len9.len_at_least c.in-len9.len_below)) refl refl refl refl refl refl (refused _ _ _ _ c.parse_three.ensures c.in_default-2.is-0)

pub returns-in_default-2-2 : goal.returns-in_default-2-2
returns-in_default-2-2 c =
    let words = lent c.args.words.now in
    wrong_of_three creds_form creds_value words 3 4 5 _ _ _ (creds_shape words (exactly 9 _ c.in-len9.len_at_least c.in-len9.len_below)) refl refl refl refl refl refl (refused _ _ _ _ c.parse_three-2.ensures c.in_default-2.is-1)

pub returns-in_default-2 : goal.returns-in_default-2
returns-in_default-2 c =
    let words = lent c.args.words.now in
    wrong_of_three creds_form creds_value words 6 7 8 _ _ _ (creds_shape words (exactly 9 _ c.in-len9.len_at_least c.in-len9.len_below)) refl refl refl refl refl refl (refused _ _ _ _ c.parse_flags.ensures c.in_default-2.is-2)

pub returns : goal.returns
returns c =
    let words = lent c.args.words.now in
    let users = found _ _ _ _ c.parse_three.ensures c.in-Ok-Ok-Ok.is-0 in
    let groups = found _ _ _ _ c.parse_three-2.ensures c.in-Ok-Ok-Ok.is-1 in
    let flags = found _ _ _ _ c.parse_flags.ensures c.in-Ok-Ok-Ok.is-2 in
    right_creds words _ (creds_shape words (exactly 9 _ c.in-len9.len_at_least c.in-len9.len_below)) users.0 groups.0 flags.0
    (λ i. record {
      ruid = (users.1 i).0;
      euid = (users.1 i).1;
      suid = (users.1 i).2;
      rgid = (groups.1 i).0;
      egid = (groups.1 i).1;
      sgid = (groups.1 i).2;
      cap = (flags.1 i).0;
      mm = (flags.1 i).1;
      dumpable = (flags.1 i).2;
    })

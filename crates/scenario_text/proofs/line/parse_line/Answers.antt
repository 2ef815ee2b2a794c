use Rattle.std.proofs.Common.{◌∙◌, refl, sym}
use Rattle.std.proofs.lemmas.Bool.{eq-eqb, ne_eqb}
use Rattle.scenario_text.specs.Reading.{line_of}
use Rattle.scenario_text.proofs.Forms.{empty_line}
use Rattle.scenario_text.proofs.line.parse_line.Goals as goal
use Rattle.scenario_text.proofs.line.parse_line.Goals.{else-is_word-5-via-then-is_word-5+else-words-eq1, else-is_word-5-via-else-is_word-5}

pub returns-then-is_word-2 : goal.returns-then-is_word-2
unfolding line_of
returns-then-is_word-2 c =
    c.parse_task_line.ensures ∙ rw (sym c.if-is_word.ensures, sym c.if-is_word-2.ensures) refl

pub returns-then-is_word-3 : goal.returns-then-is_word-3
unfolding line_of
returns-then-is_word-3 c =
    c.parse_teach_line.ensures ∙ rw (sym c.if-is_word.ensures, sym c.if-is_word-2.ensures, sym c.if-is_word-3.ensures) refl

pub returns-then-is_word-4 : goal.returns-then-is_word-4
unfolding line_of
returns-then-is_word-4 c =
    c.parse_user_line.ensures
    ∙ rw (sym c.if-is_word.ensures, sym c.if-is_word-2.ensures, sym c.if-is_word-3.ensures, sym c.if-is_word-4.ensures) refl

pub returns-then-words-eq1 : goal.returns-then-words-eq1
unfolding line_of
returns-then-words-eq1 c =
    rw (
      sym c.if-is_word.ensures,
      sym c.if-is_word-2.ensures,
      sym c.if-is_word-3.ensures,
      sym c.if-is_word-4.ensures,
      sym c.if-is_word-5.ensures,
      eq-eqb _ 1 c.if-words-eq1.true,
    ) refl

pub returns-in_default : goal.returns-in_default
returns-in_default c = empty_line c.args.version c.args.siblings c.args.users.now c.args.place c.args.words.now c.in_default.len_below

pub returns-else-is_word-5 : goal.returns-else-is_word-5
unfolding line_of
returns-else-is_word-5 c =
    rw (sym c.if-is_word.ensures, sym c.if-is_word-2.ensures, sym c.if-is_word-3.ensures, sym c.if-is_word-4.ensures)
    (elim c.else-is_word-5.branch [
      | else-is_word-5-via-then-is_word-5+else-words-eq1 w ↦ rw (sym w.if-is_word-5.ensures, ne_eqb _ 1 w.if-words-eq1.false) refl
      | else-is_word-5-via-else-is_word-5 w ↦ rw (sym w.if-is_word-5.ensures) refl
    ])

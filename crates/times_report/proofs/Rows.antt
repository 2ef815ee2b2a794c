-- Rows: the lines of tasks and cookies, and which of them are left at an index of their loop.
use Rattle.std.proofs.Common.{◌≡◌, ◌∙◌, ℕ, suc, ◌+◌, ◌<◌, ◌≤◌, Bool, true, false, cond, List, [], ◌∷◌, ◌++◌, length, drop, get_or, sym, ap, subst, arith, Option}
use Rattle.std.specs.List.{flat_map, enumerate_from}
use Rattle.std.proofs.Math.Seq.{drop-cons}
use Rattle.std.proofs.lemmas.Bool.{cond-true, cond-false}
use Rattle.std.proofs.lemmas.List.{append-nil, drop_all}
use Rattle.cs_outside.specs.Device.{appended, WritesPrefix}
use Rattle.task_times.specs.declared.times.TaskTimes.{TaskTimes}
use Rattle.task_times.specs.declared.times.CookieTimes.{CookieTimes}
use Rattle.task_times.specs.TaskSums.{TaskSums}
use Rattle.scenario_text.specs.Words.{Word}
use Rattle.scenario_text.specs.Text.{line}
use Rattle.times_report.specs.TaskLines.{lines_of_tasks, lines_of_cookies, task_lines, task_text}
use Rattle.cs_outside.proofs.Reached.{AreLeft, all_left, none_left, whole_prefix, line_more, line_prefix, part_more, part_prefix}

-- ---- a line that is written where a test holds

abbrev line_where : Bool → List Word → List (List Word)
line_where test words = cond test (words ∷ []) []

pub where_sent : (test : Bool) (words : List Word) (bytes : List ℕ) (before now : Option (List ℕ)) → test ≡ true → bytes ≡ line words → now ≡ appended before bytes →
    now ≡ appended before (flat_map line (line_where test words))
where_sent test words bytes before now is text sent =
    none_left before (flat_map line (words ∷ [])) now (line_more before _ words [] bytes before now (all_left line before (words ∷ [])) text sent)
    ∙ ap (λ (lines : List (List Word)). appended before (flat_map line lines)) (sym (cond-true test (words ∷ []) [] is))

pub where_prefix : (test : Bool) (words : List Word) (bytes : List ℕ) (before now : Option (List ℕ)) → test ≡ true → bytes ≡ line words → WritesPrefix before bytes now →
    WritesPrefix before (flat_map line (line_where test words)) now
where_prefix test words bytes before now is text sent =
    subst (λ (lines : List (List Word)). WritesPrefix before (flat_map line lines) now) (sym (cond-true test (words ∷ []) [] is))
    (line_prefix before _ words [] bytes before now (all_left line before (words ∷ [])) text sent)

pub where_none : (test : Bool) (words : List Word) (before : Option (List ℕ)) → test ≡ false → before ≡ appended before (flat_map line (line_where test words))
where_none test words before is =
    none_left before [] before (all_left line before [])
    ∙ ap (λ (lines : List (List Word)). appended before (flat_map line lines)) (sym (cond-false test (words ∷ []) [] is))

pub where_none_prefix : (test : Bool) (words : List Word) (before : Option (List ℕ)) → test ≡ false → WritesPrefix before (flat_map line (line_where test words)) before
where_none_prefix test words before is = whole_prefix before _ before (where_none test words before is)

-- ---- the lines of rows

-- the lines of the rows from one on, by those of a row
abbrev pub lines_from : {X : Type 0} → (ℕ × X → List (List Word)) → List X → ℕ → List (List Word)
lines_from of rows k = flat_map of (enumerate_from k (drop k rows))

next_is : {X : Type 0} (of : ℕ × X → List (List Word)) (rows : List X) (k : ℕ) (none : X) → k < length rows →
    lines_from of rows k ≡ of (k, get_or rows k none) ++ lines_from of rows (k + 1)
next_is {X = X} of rows k none below =
    let next : suc k ≡ k + 1 = omega arith in
    ap (λ (left : List X). flat_map of (enumerate_from k left)) (drop-cons rows k none below)
    ∙ (λ i. of (k, get_or rows k none) ++ flat_map of (enumerate_from (k + 1) (drop (next i) rows)))

-- those of the next row go out, or a prefix of them
pub row_more : {X : Type 0} (of : ℕ × X → List (List Word)) (rows : List X) (k : ℕ) (none row : X) (before : Option (List ℕ)) (whole : List ℕ) (mid now : Option (List ℕ)) → k < length rows →
    row ≡ get_or rows k none → AreLeft line before whole (lines_from of rows k) mid → now ≡ appended mid (flat_map line (of (k, row))) → AreLeft line before whole (lines_from of rows (k + 1)) now
row_more {X = X} of rows k none row before whole mid now below is left sent =
    part_more before whole (of (k, get_or rows k none)) (lines_from of rows (k + 1)) mid now
    (subst (λ (lines : List (List Word)). AreLeft line before whole lines mid) (next_is of rows k none below) left)
    (sent ∙ ap (λ (x : X). appended mid (flat_map line (of (k, x)))) is)

pub row_prefix : {X : Type 0} (of : ℕ × X → List (List Word)) (rows : List X) (k : ℕ) (none row : X) (before : Option (List ℕ)) (whole : List ℕ) (mid now : Option (List ℕ)) → k < length rows →
    row ≡ get_or rows k none → AreLeft line before whole (lines_from of rows k) mid → WritesPrefix mid (flat_map line (of (k, row))) now → WritesPrefix before whole now
row_prefix {X = X} of rows k none row before whole mid now below is left sent =
    part_prefix before whole (of (k, get_or rows k none)) (lines_from of rows (k + 1)) mid now
    (subst (λ (lines : List (List Word)). AreLeft line before whole lines mid) (next_is of rows k none below) left)
    (subst (λ (x : X). WritesPrefix mid (flat_map line (of (k, x))) now) is sent)

-- and at the end there are none
pub rows_out : {X : Type 0} (of : ℕ × X → List (List Word)) (rows : List X) (k : ℕ) (before : Option (List ℕ)) (whole : List ℕ) (now : Option (List ℕ)) → length rows ≤ k →
    AreLeft line before whole (lines_from of rows k) now → now ≡ appended before whole
rows_out {X = X} of rows k before whole now past left =
    none_left before whole now
    (subst (λ (lines : List (List Word)). AreLeft line before whole lines now) (ap (λ (rest : List X). flat_map of (enumerate_from k rest)) (drop_all k rows past)) left)

-- ---- tasks, and then cookies

tasks_left : (sums : TaskSums) (tasks : List TaskTimes) (before mid : Option (List ℕ)) → tasks ≡ sums.tasks → mid ≡ appended before (flat_map line (lines_of_tasks tasks)) →
    AreLeft line before (task_text sums) (lines_of_cookies sums.cookies) mid
tasks_left sums tasks before mid is sent =
    part_more before (task_text sums) (lines_of_tasks sums.tasks) (lines_of_cookies sums.cookies) before mid (all_left line before (task_lines sums))
    (sent ∙ ap (λ (ts : List TaskTimes). appended before (flat_map line (lines_of_tasks ts))) is)

pub first_prefix : (sums : TaskSums) (tasks : List TaskTimes) (before now : Option (List ℕ)) → tasks ≡ sums.tasks → WritesPrefix before (flat_map line (lines_of_tasks tasks)) now →
    WritesPrefix before (task_text sums) now
first_prefix sums tasks before now is sent =
    part_prefix before (task_text sums) (lines_of_tasks sums.tasks) (lines_of_cookies sums.cookies) before now (all_left line before (task_lines sums))
    (subst (λ (ts : List TaskTimes). WritesPrefix before (flat_map line (lines_of_tasks ts)) now) is sent)

pub both_out : (sums : TaskSums) (tasks : List TaskTimes) (cookies : List CookieTimes) (before mid now : Option (List ℕ)) → tasks ≡ sums.tasks → cookies ≡ sums.cookies →
    mid ≡ appended before (flat_map line (lines_of_tasks tasks)) → now ≡ appended mid (flat_map line (lines_of_cookies cookies)) → now ≡ appended before (task_text sums)
both_out sums tasks cookies before mid now is are one two =
    none_left before (task_text sums) now
    (part_more before (task_text sums) (lines_of_cookies sums.cookies) [] mid now
    (subst (λ (lines : List (List Word)). AreLeft line before (task_text sums) lines mid) (sym (append-nil (lines_of_cookies sums.cookies))) (tasks_left sums tasks before mid is one))
    (two ∙ ap (λ (cs : List CookieTimes). appended mid (flat_map line (lines_of_cookies cs))) are))

pub both_prefix : (sums : TaskSums) (tasks : List TaskTimes) (cookies : List CookieTimes) (before mid now : Option (List ℕ)) → tasks ≡ sums.tasks → cookies ≡ sums.cookies →
    mid ≡ appended before (flat_map line (lines_of_tasks tasks)) → WritesPrefix mid (flat_map line (lines_of_cookies cookies)) now → WritesPrefix before (task_text sums) now
both_prefix sums tasks cookies before mid now is are one two =
    part_prefix before (task_text sums) (lines_of_cookies sums.cookies) [] mid now
    (subst (λ (lines : List (List Word)). AreLeft line before (task_text sums) lines mid) (sym (append-nil (lines_of_cookies sums.cookies))) (tasks_left sums tasks before mid is one))
    (subst (λ (cs : List CookieTimes). WritesPrefix mid (flat_map line (lines_of_cookies cs)) now) are two)

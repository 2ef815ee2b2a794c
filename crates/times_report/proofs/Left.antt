-- Left: which lines of the siblings are left at an index of their loop.
use Rattle.std.proofs.Common.{◌≡◌, ◌∙◌, ℕ, suc, ◌+◌, ◌<◌, ◌≤◌, List, [], ◌∷◌, ◌++◌, length, drop, map, get_or, sym, ap, subst, arith, Option}
use Rattle.std.specs.List.{flat_map, enumerate_from}
use Rattle.std.proofs.Math.Seq.{drop-cons}
use Rattle.std.proofs.lemmas.List.{append-nil, drop_all}
use Rattle.cs_outside.specs.Device.{appended, WritesPrefix}
use Rattle.run_times.specs.declared.by.By.{By}
use Rattle.run_times.specs.declared.by.By.TheVariants.{Cookie, Group}
use Rattle.run_times.specs.declared.siblings.SiblingTimes.{SiblingTimes}
use Rattle.pair_times.specs.declared.rows.PairTime.{PairTime}
use Rattle.run_summary.specs.Summaries.{Summary}
use Rattle.scenario_text.specs.Words.{Word}
use Rattle.scenario_text.specs.Text.{line}
use Rattle.cs_outside.proofs.Reached.{AreLeft, part_more, part_prefix}
use Rattle.times_report.specs.TaskLines.{task_lines}
use Rattle.times_report.specs.WaitLines.{wait_lines}
use Rattle.times_report.specs.Summary.{cpu_words, forced_words, pair_words, lines_of, sibling_lines, side_lines, end_lines}

-- the lines of the siblings from one on
abbrev pub lines_from : List SiblingTimes → ℕ → List (List Word)
lines_from siblings cpu = flat_map lines_of (enumerate_from cpu (drop cpu siblings))

-- the next are the two of that sibling
next_is : (siblings : List SiblingTimes) (cpu : ℕ) (none : SiblingTimes) → cpu < length siblings →
    lines_from siblings cpu ≡ cpu_words cpu (get_or siblings cpu none) ∷ forced_words cpu (get_or siblings cpu none) ∷ lines_from siblings (cpu + 1)
next_is siblings cpu none below =
    let next : suc cpu ≡ cpu + 1 = omega arith in
    let times = get_or siblings cpu none in
    ap (λ (left : List SiblingTimes). flat_map lines_of (enumerate_from cpu left)) (drop-cons siblings cpu none below)
    ∙ (λ i. cpu_words cpu times ∷ forced_words cpu times ∷ flat_map lines_of (enumerate_from (cpu + 1) (drop (next i) siblings)))

pub next_left : (before : Option (List ℕ)) (whole : List ℕ) (siblings : List SiblingTimes) (cpu : ℕ) (none : SiblingTimes) (now : Option (List ℕ)) → cpu < length siblings →
    AreLeft line before whole (lines_from siblings cpu) now →
    AreLeft line before whole (cpu_words cpu (get_or siblings cpu none) ∷ forced_words cpu (get_or siblings cpu none) ∷ lines_from siblings (cpu + 1)) now
next_left before whole siblings cpu none now below left =
    subst (λ (lines : List (List Word)). AreLeft line before whole lines now) (next_is siblings cpu none below) left

-- and at the end there are none
pub none_more : (before : Option (List ℕ)) (whole : List ℕ) (siblings : List SiblingTimes) (cpu : ℕ) (now : Option (List ℕ)) → length siblings ≤ cpu →
    AreLeft line before whole (lines_from siblings cpu) now → AreLeft line before whole [] now
none_more before whole siblings cpu now past left =
    subst (λ (lines : List (List Word)). AreLeft line before whole lines now)
    (ap (λ (rest : List SiblingTimes). flat_map lines_of (enumerate_from cpu rest)) (drop_all cpu siblings past)) left

-- ---- the pairs

-- the lines of the pairs from one on
abbrev pub pairs_from : By → List PairTime → ℕ → List (List Word)
pairs_from by pairs index = map (pair_words by) (drop index pairs)

next_pair_is : (by : By) (pairs : List PairTime) (index : ℕ) (none : PairTime) → index < length pairs →
    pairs_from by pairs index ≡ pair_words by (get_or pairs index none) ∷ pairs_from by pairs (index + 1)
next_pair_is by pairs index none below =
    let next : suc index ≡ index + 1 = omega arith in
    ap (map (pair_words by)) (drop-cons pairs index none below)
    ∙ (λ i. pair_words by (get_or pairs index none) ∷ map (pair_words by) (drop (next i) pairs))

pub next_pair : (by : By) (before : Option (List ℕ)) (whole : List ℕ) (pairs : List PairTime) (index : ℕ) (none : PairTime) (now : Option (List ℕ)) → index < length pairs →
    AreLeft line before whole (pairs_from by pairs index) now → AreLeft line before whole (pair_words by (get_or pairs index none) ∷ pairs_from by pairs (index + 1)) now
next_pair by before whole pairs index none now below left =
    subst (λ (lines : List (List Word)). AreLeft line before whole lines now) (next_pair_is by pairs index none below) left

pub no_pair : (by : By) (before : Option (List ℕ)) (whole : List ℕ) (pairs : List PairTime) (index : ℕ) (now : Option (List ℕ)) → length pairs ≤ index →
    AreLeft line before whole (pairs_from by pairs index) now → AreLeft line before whole [] now
no_pair by before whole pairs index now past left =
    subst (λ (lines : List (List Word)). AreLeft line before whole lines now) (ap (map (pair_words by)) (drop_all index pairs past)) left

-- ---- the parts of the summary

-- the parts by their lines
abbrev pub siblings_part : Summary → List (List Word)
siblings_part summary = sibling_lines summary.times.siblings

abbrev pub exposed_part : Summary → List (List Word)
exposed_part summary = side_lines Cookie summary.times.exposed summary.cookie_pairs.rows

abbrev pub mixed_part : Summary → List (List Word)
mixed_part summary = side_lines Group summary.times.mixed summary.group_pairs.rows

-- what follows each
abbrev pub after_mixed : Summary → List (List Word)
after_mixed summary = end_lines summary.times summary.replies

abbrev pub after_exposed : Summary → List (List Word)
after_exposed summary = mixed_part summary ++ after_mixed summary

abbrev pub after_tasks : Summary → List (List Word)
after_tasks summary = exposed_part summary ++ after_exposed summary

abbrev pub after_cookies : Summary → List (List Word)
after_cookies summary = wait_lines summary.waits.rows ++ after_tasks summary

abbrev pub after_siblings : Summary → List (List Word)
after_siblings summary = task_lines summary.tasks ++ after_cookies summary

-- a part goes out, or a prefix of it
pub part_out : (before : Option (List ℕ)) (whole : List ℕ) (part told : List (List Word)) (rest : List (List Word)) (mid now : Option (List ℕ)) → told ≡ part →
    AreLeft line before whole (part ++ rest) mid → now ≡ appended mid (flat_map line told) → AreLeft line before whole rest now
part_out before whole part told rest mid now is left sent =
    part_more before whole part rest mid now left (sent ∙ ap (λ (lines : List (List Word)). appended mid (flat_map line lines)) is)

pub part_begun : (before : Option (List ℕ)) (whole : List ℕ) (part told : List (List Word)) (rest : List (List Word)) (mid now : Option (List ℕ)) → told ≡ part →
    AreLeft line before whole (part ++ rest) mid → WritesPrefix mid (flat_map line told) now → WritesPrefix before whole now
part_begun before whole part told rest mid now is left sent =
    part_prefix before whole part rest mid now left (subst (λ (lines : List (List Word)). WritesPrefix mid (flat_map line lines) now) is sent)

-- the last part, with nothing after it
pub last_part : (before : Option (List ℕ)) (whole : List ℕ) (part : List (List Word)) (now : Option (List ℕ)) →
    AreLeft line before whole part now → AreLeft line before whole (part ++ []) now
last_part before whole part now left = subst (λ (lines : List (List Word)). AreLeft line before whole lines now) (sym (append-nil part)) left

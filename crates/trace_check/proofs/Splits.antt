-- Splits: an input is cut behind its first line that is `end`, and a scenario's text is cut off whole.
use Rattle.std.proofs.Common.{◌≡◌, ℕ, ◌+◌, ◌<◌, ◌==◌, true, false, List, [], ◌∷◌, ◌++◌, length, map, take, drop, refl, sym, ap, ◌∙◌, arith, append_assoc, append-nil, inl, inr}
use Rattle.std.specs.List.{concat, flat_map, enumerate_from}
use Rattle.std.proofs.lemmas.Bool.{cases_Bool, cond_both}
use Rattle.std.proofs.lemmas.List.{length-append, length-take-le, take_at, drop_at}
use Rattle.std.proofs.lemmas.Grind.{flat_map-append}
use Rattle.cs_types.specs.declared.task.Creds.{Creds}
use Rattle.cs_types.specs.declared.task.TaskSpec.{TaskSpec}
use Rattle.cs_types.specs.declared.scenario.Scenario.{Scenario}
use Rattle.cs_types.specs.Scenario.{IsValid}
use Rattle.scenario_text.specs.Words.{Word, task_words, teach_words, user_words, user_task_words}
use Rattle.scenario_text.specs.Text.{spaced, line, version_words, siblings_words, limits_words, users_words, users_in, number_of, task_words_in, step_words, end_words, scenario_text}
use Rattle.scenario_text.proofs.Plain.{plain_scenario}
use Rattle.scenario_text.proofs.Texts.{ArePlain, spaced_lacks}
use Rattle.trace_check.specs.Lines.{lines_of}
use Rattle.trace_check.specs.Parts.{is_end, up_to_end, behind_end, scenario_part, run_part}
use Rattle.trace_check.proofs.Texts.{lines-feed, concat-lines}

-- ---- the parts are the input

concat-parts : (lines : List (List ℕ)) → concat (up_to_end lines) ++ concat (behind_end lines) ≡ concat lines
unfolding up_to_end behind_end
concat-parts [] = refl
concat-parts (line ∷ lines) = elim (cases_Bool (is_end line)) [
  | inl ends ↦ rw ends (append_assoc line [] (concat lines))
  | inr other ↦
      rw other (append_assoc line (concat (up_to_end lines)) (concat (behind_end lines)) ∙ ap (λ (text : List ℕ). line ++ text) (concat-parts lines))
]

pub parts-append : (input : List ℕ) → scenario_part input ++ run_part input ≡ input
parts-append input = concat-parts (lines_of input) ∙ concat-lines input

-- ---- a line of the input

-- the text begins with a line that is not `end`
scenario-other : (text next rest : List ℕ) → lines_of text ≡ next ∷ lines_of rest → is_end next ≡ false → scenario_part text ≡ next ++ scenario_part rest
unfolding up_to_end
scenario-other text next rest is other = ap (λ (ls : List (List ℕ)). concat (up_to_end ls)) is ∙ rw other refl

run-other : (text next rest : List ℕ) → lines_of text ≡ next ∷ lines_of rest → is_end next ≡ false → run_part text ≡ run_part rest
unfolding behind_end
run-other text next rest is other = ap (λ (ls : List (List ℕ)). concat (behind_end ls)) is ∙ rw other refl

-- the text begins with the line `end`
scenario-end : (text next rest : List ℕ) → lines_of text ≡ next ∷ lines_of rest → is_end next ≡ true → scenario_part text ≡ next
unfolding up_to_end
scenario-end text next rest is ends = ap (λ (ls : List (List ℕ)). concat (up_to_end ls)) is ∙ rw ends (append-nil next)

run-end : (text next rest : List ℕ) → lines_of text ≡ next ∷ lines_of rest → is_end next ≡ true → run_part text ≡ rest
unfolding behind_end
run-end text next rest is ends = ap (λ (ls : List (List ℕ)). concat (behind_end ls)) is ∙ rw ends (concat-lines rest)

-- ---- how far the input is read

-- None of the lines in so many first bytes of the input is `end`, and this is what stands behind them.
pub record IsPassed (input : List ℕ) (count : ℕ) (rest : List ℕ) : Type 0 where
  pub bytes : count + length rest ≡ length input
  pub cut : input ≡ take count input ++ rest
  pub scenario : scenario_part input ≡ take count input ++ scenario_part rest
  pub run : run_part input ≡ run_part rest

pub nothing_passed : (input : List ℕ) → IsPassed input 0 input
nothing_passed input = record { bytes = omega arith; cut = refl; scenario = refl; run = refl }

-- So many first bytes of the input are its scenario, and the others its run.
pub record IsWhereCut (input : List ℕ) (count : ℕ) : Type 0 where
  pub scenario : take count input ≡ scenario_part input
  pub run : drop count input ≡ run_part input

-- a line stands next in the input, and this behind it
module _ (input rest next more : List ℕ) (count : ℕ) (passed : IsPassed input count rest) (is : rest ≡ next ++ more) where
  long : length (take count input ++ next) ≡ count + length next
  long =
      let bytes = passed.bytes in
      let front = length-take-le count input (omega (arith, bytes)) in
      omega (arith, front, length-append (take count input) next)

  whole : input ≡ (take count input ++ next) ++ more
  whole = passed.cut ∙ ap (λ (text : List ℕ). take count input ++ text) is ∙ sym (append_assoc (take count input) next more)

  front_is : take (count + length next) input ≡ take count input ++ next
  front_is = ap (take (count + length next)) whole ∙ take_at (take count input ++ next) more (count + length next) long

  back_is : drop (count + length next) input ≡ more
  back_is = ap (drop (count + length next)) whole ∙ drop_at (take count input ++ next) more (count + length next) long

  pub line_passed : lines_of rest ≡ next ∷ lines_of more → is_end next ≡ false → IsPassed input (count + length next) more
  line_passed first other =
      let bytes = passed.bytes in
      let all = ap length is ∙ length-append next more in record {
        bytes = omega (arith, bytes, all);
        cut = whole ∙ ap (λ (text : List ℕ). text ++ more) (sym front_is);
        scenario =
            passed.scenario
            ∙ ap (λ (text : List ℕ). take count input ++ text) (scenario-other rest next more first other)
            ∙ sym (append_assoc (take count input) next (scenario_part more))
            ∙ ap (λ (text : List ℕ). text ++ scenario_part more) (sym front_is);
        run = passed.run ∙ run-other rest next more first other;
      }

  cut_here : scenario_part rest ≡ next → run_part rest ≡ more → IsWhereCut input (count + length next)
  cut_here scenario run = record {
    scenario = front_is ∙ sym (passed.scenario ∙ ap (λ (text : List ℕ). take count input ++ text) scenario);
    run = back_is ∙ sym (passed.run ∙ run);
  }

  pub cut_at-end : lines_of rest ≡ next ∷ lines_of more → is_end next ≡ true → IsWhereCut input (count + length next)
  cut_at-end first ends = cut_here (scenario-end rest next more first ends) (run-end rest next more first ends)

  pub cut_at-nothing : next ≡ [] → rest ≡ [] → IsWhereCut input (count + length next)
  unfolding lines_of up_to_end behind_end
  cut_at-nothing none over =
      let left : more ≡ [] = ap (λ (text : List ℕ). text ++ more) (sym none) ∙ sym is ∙ over in
      cut_here (ap scenario_part over ∙ sym none) (ap run_part over ∙ sym left)

pub end_long : (next : List ℕ) → is_end next ≡ true → 0 < length next
end_long [] ends = absurd cc
end_long (byte ∷ next) ends = omega arith

-- ---- a scenario's text before a run

-- none of these lines is `end`
abbrev AreOthers : List (List Word) → Type 0
AreOthers [] = Unit {0}
AreOthers (words ∷ lines) = (is_end (line words) ≡ false) × AreOthers lines

others-append : (a b : List (List Word)) → AreOthers a → AreOthers b → AreOthers (a ++ b)
others-append [] b h k = k
others-append (words ∷ a) b h k = (h.0, others-append a b h.1 k)

others-map : {A : Type 0} (f : A → List Word) → ((x : A) → is_end (line (f x)) ≡ false) → (xs : List A) → AreOthers (map f xs)
others-map f each [] = tt
others-map f each (x ∷ xs) = (each x, others-map f each xs)

plain_front : (a b : List (List Word)) → ArePlain (a ++ b) → ArePlain a
plain_front [] b h = tt
plain_front ([] ∷ a) b h = absurd h
plain_front ((word ∷ words) ∷ a) b h = (h.0, plain_front a b h.1)

-- such lines stand in the scenario's part
before_run : (lines : List (List Word)) (run : List ℕ) → ArePlain lines → AreOthers lines →
    (scenario_part (flat_map line lines ++ run) ≡ flat_map line lines ++ scenario_part run) × (run_part (flat_map line lines ++ run) ≡ run_part run)
before_run [] run plain others = (refl, refl)
before_run ([] ∷ lines) run plain others = absurd plain
before_run ((word ∷ words) ∷ lines) run plain others =
    let text = line (word ∷ words) in
    let rest = flat_map line lines in
    let next = before_run lines run plain.1 others.1 in
    let first : lines_of ((text ++ rest) ++ run) ≡ text ∷ lines_of (rest ++ run) =
    ap lines_of (append_assoc text rest run ∙ append_assoc (spaced (word ∷ words)) (10 ∷ []) (rest ++ run))
    ∙ lines-feed (spaced (word ∷ words)) (rest ++ run) (spaced_lacks word words plain.0) in (
      scenario-other ((text ++ rest) ++ run) text (rest ++ run) first others.0
          ∙ ap (λ (t : List ℕ). text ++ t) next.0
          ∙ sym (append_assoc text rest (scenario_part run)),
      run-other ((text ++ rest) ++ run) text (rest ++ run) first others.0 ∙ next.1,
    )

-- the lines of a scenario before its last
abbrev lines_before : Scenario → List (List Word)
lines_before s =
    let users = users_in s.version s.tasks in
    (version_words s.version ∷ siblings_words s ∷ limits_words s ∷ [])
    ++ users_words users ++ map (task_words_in s.version users) s.tasks ++ map teach_words s.teaches ++ map step_words s.steps

task_other : (version : ℕ) (users : List Creds) (task : TaskSpec) → is_end (line (task_words_in version users task)) ≡ false
task_other version users task =
    cond_both (version == 2) (user_task_words (number_of users task.creds) task) (task_words task) (λ words. is_end (line words) ≡ false) (λ _. refl) (λ _. refl)

others_before : (s : Scenario) → AreOthers (lines_before s)
others_before s =
    let users = users_in s.version s.tasks in
    let head = version_words s.version ∷ siblings_words s ∷ limits_words s ∷ [] in
    let tasks = map (task_words_in s.version users) s.tasks in
    let one = others-append head (users_words users) (refl, (refl, (refl, tt))) (others-map (λ (numbered : ℕ × Creds). user_words numbered.0 numbered.1) (λ _. refl) (enumerate_from 0 users)) in
    let two = others-append (head ++ users_words users) tasks one (others-map (task_words_in s.version users) (task_other s.version users) s.tasks) in
    let three = others-append (head ++ users_words users ++ tasks) (map teach_words s.teaches) two (others-map teach_words (λ _. refl) s.teaches) in
    others-append (head ++ users_words users ++ tasks ++ map teach_words s.teaches) (map step_words s.steps) three (others-map step_words (λ _. refl) s.steps)

-- the parts of a valid scenario's text with a run behind it
parts_of : (s : Scenario) (run : List ℕ) → IsValid s → (scenario_part (scenario_text s ++ run) ≡ scenario_text s) × (run_part (scenario_text s ++ run) ≡ run)
parts_of s run valid =
    let before = flat_map line (lines_before s) in
    let last : List ℕ = line end_words in
    let plain = plain_front (lines_before s) (end_words ∷ []) (plain_scenario s valid) in
    let whole : scenario_text s ≡ before ++ last = flat_map-append line (lines_before s) (end_words ∷ []) in
    let cut : scenario_text s ++ run ≡ before ++ (last ++ run) =
    ap (λ (text : List ℕ). text ++ run) whole ∙ append_assoc before last run in
    let both = before_run (lines_before s) (last ++ run) plain (others_before s) in
    let first : lines_of (last ++ run) ≡ last ∷ lines_of run = lines-feed (spaced end_words) run refl in (
      ap scenario_part cut ∙ both.0 ∙ ap (λ (text : List ℕ). before ++ text) (scenario-end (last ++ run) last run first refl) ∙ sym whole,
      ap run_part cut ∙ both.1 ∙ run-end (last ++ run) last run first refl,
    )

pub scenario_part-text : (s : Scenario) (run : List ℕ) → IsValid s → scenario_part (scenario_text s ++ run) ≡ scenario_text s
scenario_part-text s run valid = (parts_of s run valid).0

pub run_part-text : (s : Scenario) (run : List ℕ) → IsValid s → run_part (scenario_text s ++ run) ≡ run
run_part-text s run valid = (parts_of s run valid).1

-- Refuted: the first wrong line of a text, and what is wanted there, while steps are left.
use Rattle.std.proofs.Common.{◌≡◌, ℕ, ◌+◌, ◌<◌, ◌≤◌, suc, eqb, List, [], ◌∷◌, ◌++◌, length, map, take, Option, Some, None, refl, sym, ap, ◌∙◌, subst, arith, inl, inr, append_assoc, append-nil, All}
use mathlib.Core.List.{IsPrefix}
use Rattle.std.specs.List.{flat_map, AllByRecursion}
use Rattle.std.specs.Prelude.{slice_get, slice_index_or, IfSome}
use Rattle.std.specs.Option.{option_map}
use Rattle.std.proofs.lemmas.Bool.{cases_Bool}
use Rattle.std.proofs.lemmas.List.{append_cancel_left, take-append-le, take-take}
use Rattle.std.proofs.lemmas.List.Concat.{flat_map-append}
use Rattle.std.proofs.lemmas.List.Elements.{recursion_from_All}
use Rattle.std.proofs.Math.Seq.{take-append_seam, take-append-add}
use Rattle.cs_types.specs.declared.event.Actor.{Actor}
use Rattle.cs_types.specs.declared.event.Step.{Step}
use Rattle.cs_types.specs.declared.reply.Entry.{Entry}
use Rattle.cs_types.specs.Scenario.{script, IsStep, IsPlayable}
use Rattle.cs_types.specs.Room.{Opening}
use Rattle.cs_types.specs.History.{History, Moment, beginning, next, moment_of, entry_of, made_from, history_of}
use Rattle.cs_laws.proofs.Histories.{length-history_of}
use Rattle.scenario_text.specs.Text.{entry_text}
use Rattle.scenario_text.specs.Entry.{FitsReply, IsMade}
use Rattle.room_report.specs.Report.{report_text}
use Rattle.sibling_workers.specs.Race.{IsRaced, events_in}
use Rattle.trace_check.specs.declared.judging.Wrong.{Wrong}
use Rattle.trace_check.specs.Lines.{begun_by, lines_of, without_feed, told, if_any}
use Rattle.trace_check.specs.Scripts.{BeginsWith}
use Rattle.trace_check.specs.Verdicts.{lines_printed, BeginsAs, AreRight, IsNext, Names, IsWantedOfStep, IsRefuted}
use Rattle.trace_check.specs.Following.{step_of, AreLines, IsOther, IsWrongStep, IsWantedLine}
use Rattle.trace_check.proofs.Known.{made_step}
use Rattle.trace_check.proofs.Runs.{entry_lines, one_line, entry_begins, step_begins, some_text}
use Rattle.trace_check.proofs.Texts.{some_line}
use Rattle.trace_check.proofs.Actors.{no_feed}
use Rattle.trace_check.proofs.Extending.{has_run}
use Rattle.trace_check.proofs.Shares.{shares, step_at, long_run}

-- ---- the lines of a run that begins with the entries of steps

-- steps are made in a core of up to 16 siblings
made_all : (opening : Opening) (steps : List Step) (moment : Moment) → opening.scenario.siblings ≤ 16 → AllByRecursion (IsStep opening.scenario.siblings) steps →
    AllByRecursion (λ entry. IsMade entry.actor entry.event) (made_from moment steps)
made_all opening [] moment few limits = tt
made_all opening (step ∷ steps) moment few limits =
    (made_step opening.scenario.siblings step.actor step.event few limits.0, made_all opening steps (next moment (entry_of moment step)) few limits.1)

-- the lines of these entries, and what follows
pub lines_behind : (opening : Opening) (steps : List Step) (run more : History) → IsPlayable opening.scenario → All (IsStep opening.scenario.siblings) steps →
    All (λ entry. FitsReply entry.reply) (history_of opening steps) → run ≡ history_of opening steps ++ more →
    lines_printed opening run ≡ map entry_text (history_of opening steps) ++ lines_of (flat_map entry_text more ++ report_text (moment_of opening run))
lines_behind opening steps run more playable limits fits is =
    let past = history_of opening steps in
    let report = report_text (moment_of opening run) in
    ap (λ (h : History). lines_of (flat_map entry_text h ++ report)) is
    ∙ ap (λ (text : List ℕ). lines_of (text ++ report)) (flat_map-append entry_text past more)
    ∙ ap lines_of (append_assoc (flat_map entry_text past) (flat_map entry_text more) report)
    ∙ entry_lines past (flat_map entry_text more ++ report)
    (made_all opening steps (beginning opening) playable.siblings.1 (recursion_from_All (IsStep opening.scenario.siblings) steps limits))
    (recursion_from_All (λ (entry : Entry). FitsReply entry.reply) past fits)

-- steps whose entries have the first lines of a text
pub record HaveLines (opening : Opening) (steps : List Step) (text rest : List ℕ) : Type 0 where
  pub scripts : (actor : Actor) → IsPrefix (events_in actor steps) (script opening.scenario actor)
  pub limits : All (IsStep opening.scenario.siblings) steps
  pub are : AreLines (history_of opening steps) text rest
  pub few : length steps ≤ length opening.scenario.steps

pub texts_long : (opening : Opening) (steps : List Step) → length (map entry_text (history_of opening steps)) ≡ length steps
texts_long opening steps = go (history_of opening steps) ∙ length-history_of opening steps where
  go : (history : History) → length (map entry_text history) ≡ length history
  go [] = refl
  go (entry ∷ history) = ap suc (go history)

-- the first lines of the text are those of a run
pub right : (opening : Opening) (steps : List Step) (text rest : List ℕ) → IsPlayable opening.scenario → HaveLines opening steps text rest →
    (count : ℕ) → count ≤ length steps → AreRight opening count text
right opening steps text rest playable have count few =
    let run = has_run opening steps have.scripts in
    let texts = map entry_text (history_of opening steps) in
    let long = texts_long opening steps in
    let lines = lines_behind opening steps run.history run.more playable have.limits have.are.fits run.is in
    record {
      history = run.history;
      raced = run.raced;
      same =
          ap (take count) lines
          ∙ take-append-le count texts (lines_of (flat_map entry_text run.more ++ report_text (moment_of opening run.history))) (omega (arith, few, long))
          ∙ sym (take-append-le count texts (lines_of rest) (omega (arith, few, long)))
          ∙ sym (ap (take count) have.are.lines);
    }

-- a run with these lines begins with the entries
pub begins_run : (opening : Opening) (steps : List Step) (text rest : List ℕ) (run : History) → IsPlayable opening.scenario → HaveLines opening steps text rest →
    IsRaced opening run → BeginsAs opening run (length steps) text → (more : History) × (run ≡ history_of opening steps ++ more)
begins_run opening steps text rest run playable have raced same =
    let texts = map entry_text (history_of opening steps) in
    let long = texts_long opening steps in
    let lines : take (length steps) (lines_printed opening run) ≡ texts =
    same ∙ ap (take (length steps)) have.are.lines
    ∙ ap (λ (n : ℕ). take n (texts ++ lines_of rest)) (sym long) ∙ take-append_seam texts (lines_of rest) in
    let begun =
    shares opening run playable raced steps [] [] run (beginning opening) refl refl refl (let few = have.few in omega (arith, few)) have.scripts
    (recursion_from_All (IsStep opening.scenario.siblings) steps have.limits)
    (recursion_from_All (λ (entry : Entry). FitsReply entry.reply) (history_of opening steps) have.are.fits)
    (report_text (moment_of opening run)) lines in
    (begun.rest, begun.is)

-- ---- a step that has another line

-- what is known of it, by what was made before
record AtStep (opening : Opening) (steps : List Step) (text rest : List ℕ) (wrong : Wrong) : Type 0 where
  have : HaveLines opening steps text rest
  count : length steps ≡ wrong.place
  left : wrong.place < length opening.scenario.steps
  line : wrong.line.now ≡ slice_index_or (lines_of rest) 0 []
  made : (step : Step) → IsNext opening.scenario (history_of opening steps) step → BeginsWith step.actor wrong.line.now →
      wrong.entry ≡ Some (entry_of (moment_of opening (history_of opening steps)) step)
  entry : IfSome wrong.entry (IsOther opening (history_of opening steps) wrong.line.now)

-- the facts that name the history
abbrev Facts : Opening → List ℕ → List ℕ → Wrong → History → Type 0
Facts opening text rest wrong past =
    AreLines past text rest × (length past ≡ wrong.place)
    × ((step : Step) → IsNext opening.scenario past step → BeginsWith step.actor wrong.line.now →
    wrong.entry ≡ Some (entry_of (moment_of opening past) step)) × IfSome wrong.entry (IsOther opening past wrong.line.now)

at_step : (opening : Opening) (text : List ℕ) (wrong : Wrong) → (is : IsWrongStep opening text wrong) → AtStep opening is.steps text is.rest wrong
at_step opening text wrong is =
    let facts = subst (Facts opening text is.rest wrong) is.is (is.are, is.count, is.made, is.entry) in
    let count : length is.steps ≡ wrong.place = sym (length-history_of opening is.steps) ∙ facts.1 in
    let left = is.left in
    record {
      have = record { scripts = is.scripts; limits = is.limits; are = facts.0; few = omega (arith, count, left) };
      count = count;
      left = left;
      line = is.line;
      made = facts.2;
      entry = facts.3;
    }

-- the next line of a run with these lines
pub take_one : (texts lines others : List (List ℕ)) → take (length texts + 1) (texts ++ lines) ≡ take (length texts + 1) (texts ++ others) → take 1 lines ≡ take 1 others
take_one texts lines others same =
    append_cancel_left texts (take 1 lines) (take 1 others)
    (sym (take-append-add texts lines 1) ∙ same ∙ take-append-add texts others 1)

first_same : (line : List ℕ) (more others : List (List ℕ)) → take 1 (line ∷ more) ≡ take 1 others → line ≡ slice_index_or others 0 []
first_same line more [] same = absurd cc
first_same line more (other ∷ others) same = cc

pub take_fewer : (n : ℕ) (xs ys : List (List ℕ)) → take (n + 1) xs ≡ take (n + 1) ys → take n xs ≡ take n ys
take_fewer n xs ys same = sym (take-take n (n + 1) xs (omega arith)) ∙ ap (take n) same ∙ take-take n (n + 1) ys (omega arith)

-- no run has this line
at_entry : (opening : Opening) (steps : List Step) (text rest : List ℕ) (wrong : Wrong) (run more : History) (entry : Entry) → IsPlayable opening.scenario →
    AtStep opening steps text rest wrong → IsRaced opening run → BeginsAs opening run (wrong.place + 1) text →
    run ≡ history_of opening steps ++ entry ∷ more → ⊥
at_entry opening steps text rest wrong run more entry playable at raced same is =
    let past = history_of opening steps in
    let texts = map entry_text past in
    let count = at.count in
    let left = at.left in
    let long = texts_long opening steps in
    let past_long = length-history_of opening steps in
    let here = step_at opening run past more entry playable raced is (omega (arith, count, left, past_long)) in
    let behind = flat_map entry_text more ++ report_text (moment_of opening run) in
    let lines : lines_printed opening run ≡ texts ++ lines_of (entry_text entry ++ behind) =
    lines_behind opening steps run (entry ∷ more) playable at.have.limits at.have.are.fits is
    ∙ ap (λ (t : List ℕ). texts ++ lines_of t) (append_assoc (entry_text entry) (flat_map entry_text more) (report_text (moment_of opening run))) in
    let places : length texts + 1 ≡ wrong.place + 1 = omega (arith, long, count) in
    let one : take 1 (lines_of (entry_text entry ++ behind)) ≡ take 1 (lines_of rest) =
    take_one texts (lines_of (entry_text entry ++ behind)) (lines_of rest)
    (ap (λ (n : ℕ). take n (texts ++ lines_of (entry_text entry ++ behind))) places ∙ sym (ap (take (wrong.place + 1)) lines) ∙ same
    ∙ ap (take (wrong.place + 1)) at.have.are.lines ∙ sym (ap (λ (n : ℕ). take n (texts ++ lines_of rest)) places)) in
    let begun = entry_begins entry behind (no_feed entry.actor here.known) in
    let line : begun.line ≡ wrong.line.now = first_same begun.line begun.more (lines_of rest) (ap (take 1) (sym begun.lines) ∙ one) ∙ sym at.line in
    let made = at.made (step_of entry) here.next (subst (BeginsWith entry.actor) line begun.begins) in
    let some : wrong.entry ≡ Some entry = made ∙ ap Some (sym here.is) in
    let other = subst (λ (e : Option Entry). IfSome e (IsOther opening past wrong.line.now)) some at.entry in
    let own = one_line entry behind (made_step opening.scenario.siblings entry.actor entry.event playable.siblings.1 here.limits) other.fits in
    other.other (first_same (entry_text entry) (lines_of behind) (lines_of rest) (ap (take 1) (sym own) ∙ one) ∙ sym at.line)

no_run : (opening : Opening) (steps : List Step) (text rest : List ℕ) (wrong : Wrong) (run : History) → IsPlayable opening.scenario →
    AtStep opening steps text rest wrong → IsRaced opening run → BeginsAs opening run (wrong.place + 1) text → ⊥
no_run opening steps text rest wrong run playable at raced same =
    let fewer : BeginsAs opening run (length steps) text =
    subst (λ (n : ℕ). BeginsAs opening run n text) (sym at.count) (take_fewer wrong.place (lines_printed opening run) (lines_of text) same) in
    let begun = begins_run opening steps text rest run playable at.have raced fewer in
    go begun.0 begun.1 where
      go : (more : History) → run ≡ history_of opening steps ++ more → ⊥
      go [] is =
          let long = ap length (is ∙ append-nil (history_of opening steps)) in
          let past_long = length-history_of opening steps in
          let all = long_run opening run raced in
          let count = at.count in
          let left = at.left in
          omega (arith, long, past_long, all, count, left)
      go (entry ∷ more) is = at_entry opening steps text rest wrong run more entry playable at raced same is

-- ---- what is wanted there

-- the line at a place behind other lines
pub line_at : (texts lines : List (List ℕ)) → slice_get (texts ++ lines) (length texts) ≡ slice_get lines 0
line_at [] lines = refl
line_at (text ∷ texts) lines = line_at texts lines

line_or : (texts lines : List (List ℕ)) → slice_index_or (texts ++ lines) (length texts) [] ≡ slice_index_or lines 0 []
line_or [] lines = refl
line_or (text ∷ texts) lines = line_or texts lines

-- no line is empty
pub first_any : (text : List ℕ) → slice_get (lines_of text) 0 ≡ if_any (slice_index_or (lines_of text) 0 [])
unfolding lines_of
first_any [] = refl
first_any (byte ∷ text) = elim (cases_Bool (eqb byte 10)) [
  | inl feed ↦ rw feed refl
  | inr other ↦ rw other (go (lines_of text))
] where
  go : (lines : List (List ℕ)) → slice_get (begun_by byte lines) 0 ≡ if_any (slice_index_or (begun_by byte lines) 0 [])
  go [] = refl
  go (line ∷ lines) = refl

-- a line that names a step begins with its actor
names_begins : (line : List ℕ) (step : Step) → Names line step → BeginsWith step.actor line
names_begins line step named = step_begins step line named.0 named.1

-- what was made is what is wanted
wanted_of_step : (opening : Opening) (steps : List Step) (text rest : List ℕ) (wrong : Wrong) (want : List ℕ) → AtStep opening steps text rest wrong →
    IsWantedLine wrong.entry wrong.line.now want →
    IsWantedOfStep opening (history_of opening steps) wrong.line.now (option_map without_feed (if_any want))
wanted_of_step opening steps text rest wrong want at wanted =
    record {
      entry = λ step next named.
          let past = history_of opening steps in
          let made = entry_of (moment_of opening past) step in
          let some : wrong.entry ≡ Some made = at.made step next (names_begins wrong.line.now step named) in
          let line : want ≡ entry_text made =
          subst (λ (e : Option Entry). IfSome e (λ entry. Names wrong.line.now (step_of entry) → want ≡ entry_text entry)) some wanted.named named in
          ap (λ (l : List ℕ). option_map without_feed (if_any l)) line ∙ some_line (entry_text made) (some_text made);
      nothing = λ none.
          ap (λ (l : List ℕ). option_map without_feed (if_any l)) (go wrong.entry refl wanted.unnamed wanted.none at.entry none);
    }
  where
    go : (entry : Option Entry) → wrong.entry ≡ entry → IfSome entry (λ made. (Names wrong.line.now (step_of made) → ⊥) → want ≡ []) →
        (entry ≡ None → want ≡ []) → IfSome entry (IsOther opening (history_of opening steps) wrong.line.now) →
        ((step : Step) → IsNext opening.scenario (history_of opening steps) step → Names wrong.line.now step → ⊥) → want ≡ []
    go None is unnamed nothing other none = nothing refl
    go (Some made) is unnamed nothing other none =
        let its : step_of made ≡ other.step = ap step_of other.is in
        unnamed (subst (λ (s : Step). Names wrong.line.now s → ⊥) (sym its) (none other.step other.next))

-- the text is refuted at this line
pub refuted : (opening : Opening) (first : ℕ) (text : List ℕ) (wrong : Wrong) (want : List ℕ) → IsPlayable opening.scenario → IsWrongStep opening text wrong →
    IsWantedLine wrong.entry wrong.line.now want →
    IsRefuted opening first text (first + wrong.place) (option_map without_feed (if_any want)) (option_map told (if_any wrong.line.now))
refuted opening first text wrong want playable is wanted =
    let steps = is.steps in
    let rest = is.rest in
    let at = at_step opening text wrong is in
    let texts = map entry_text (history_of opening steps) in
    let long : length texts ≡ wrong.place = texts_long opening steps ∙ at.count in
    let here : slice_get (lines_of text) wrong.place ≡ if_any wrong.line.now =
    ap (λ (ls : List (List ℕ)). slice_get ls wrong.place) at.have.are.lines
    ∙ ap (λ (n : ℕ). slice_get (texts ++ lines_of rest) n) (sym long) ∙ line_at texts (lines_of rest) ∙ first_any rest ∙ ap if_any (sym at.line) in
    let line : slice_index_or (lines_of text) wrong.place [] ≡ wrong.line.now =
    ap (λ (ls : List (List ℕ)). slice_index_or ls wrong.place []) at.have.are.lines
    ∙ ap (λ (n : ℕ). slice_index_or (texts ++ lines_of rest) n []) (sym long) ∙ line_or texts (lines_of rest) ∙ sym at.line in
    record {
      place = wrong.place;
      number = refl;
      wrong = record {
        right = λ count few. let counted = at.count in right opening steps text rest playable at.have count (omega (arith, few, counted));
        wrong = λ right_too. no_run opening steps text rest wrong right_too.history playable at right_too.raced right_too.same;
      };
      wanted = record {
        of_step = λ run raced same left.
            let begun = begins_run opening steps text rest run playable at.have raced
            (subst (λ (n : ℕ). BeginsAs opening run n text) (sym at.count) same) in
            let past : take wrong.place run ≡ history_of opening steps =
            ap (λ (n : ℕ). take n run) (sym (length-history_of opening steps ∙ at.count)) ∙ ap (take (length (history_of opening steps))) begun.1
            ∙ take-append_seam (history_of opening steps) begun.0 in
            subst (λ (l : List ℕ). IsWantedOfStep opening (take wrong.place run) l (option_map without_feed (if_any want))) (sym line)
            (subst (λ (h : History). IsWantedOfStep opening h wrong.line.now (option_map without_feed (if_any want))) (sym past)
            (wanted_of_step opening steps text rest wrong want at wanted));
        of_end = λ run raced same whole. let left = at.left in absurd (omega (arith, left, whole));
      };
      tells = ap (option_map told) (sym here);
    }

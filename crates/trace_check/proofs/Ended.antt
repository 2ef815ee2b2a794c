-- Ended: whether a text is a printed run, once all scripts are made, and which of its lines is the first wrong one.
use Rattle.std.proofs.Common.{◌≡◌, ◌↔◌, ℕ, ◌+◌, ◌≤◌, List, [], ◌∷◌, ◌++◌, length, map, take, drop, Some, refl, sym, ap, ◌∙◌, subst, arith, append_assoc, append-nil}
use Rattle.std.specs.List.{flat_map}
use Rattle.std.specs.Prelude.{slice_get, slice_index_or}
use Rattle.std.specs.Option.{option_map}
use Rattle.std.proofs.lemmas.List.{length-append, length-take-le, take-append-le, take-take}
use Rattle.std.proofs.Math.Seq.{take-append_seam}
use Rattle.cs_types.specs.declared.event.Actor.{Actor}
use Rattle.cs_types.specs.declared.event.Step.{Step}
use Rattle.cs_types.specs.Scenario.{script, IsPlayable}
use Rattle.cs_types.specs.Room.{Opening}
use Rattle.cs_types.specs.History.{History, moment_of, history_of, events_by}
use Rattle.cs_types.specs.Drain.{IsDrained}
use Rattle.cs_laws.proofs.Histories.{length-history_of, IsLegal-history_of}
use Rattle.cs_laws.proofs.Drains.{drained_alone}
use Rattle.scenario_text.specs.Text.{entry_text}
use Rattle.room_report.specs.Report.{report_text, output_text, output_from}
use Rattle.sibling_workers.specs.Race.{IsRaced, events_in}
use Rattle.trace_check.specs.declared.judging.Wrong.{Wrong}
use Rattle.trace_check.specs.declared.verdict.Verdict.{Verdict}
use Rattle.trace_check.specs.declared.verdict.Verdict.TheVariants.{Yes, No}
use Rattle.trace_check.specs.Lines.{lines_of, without_feed, told, if_any}
use Rattle.trace_check.specs.Verdicts.{IsVerdict, IsPrinted, lines_printed, BeginsAs, IsRefuted}
use Rattle.trace_check.specs.Following.{AreLines, HasFollowed, IsWrongStep}
use Rattle.trace_check.proofs.Texts.{same_lines}
use Rattle.trace_check.proofs.Extending.{events_of}
use Rattle.trace_check.proofs.Shares.{shuffle_length}
use Rattle.trace_check.proofs.Refuted.{HaveLines, lines_behind, texts_long, begins_run, line_at, first_any, take_one}

-- all scripts were made and the final drain too, and this is what is written behind the lines of the steps
record AtEnd (opening : Opening) (steps : List Step) (now : History) (whole rest end : List ℕ) : Type 0 where
  have : HaveLines opening steps whole rest
  all : length steps ≡ length opening.scenario.steps
  drained : IsDrained opening (history_of opening steps) now
  raced : IsRaced opening now
  lines : lines_printed opening now ≡ map entry_text (history_of opening steps) ++ lines_of end

behind_drop : (past made : History) → drop (length past) (past ++ made) ≡ made
behind_drop [] made = refl
behind_drop (entry ∷ past) made = behind_drop past made

at_end : (opening : Opening) (history now : History) (whole rest end : List ℕ) → IsPlayable opening.scenario → (followed : HasFollowed opening history whole rest) →
    IsDrained opening history now → end ≡ output_from opening (length history) now → AtEnd opening followed.made now whole rest end
at_end opening history now whole rest end playable followed drained is =
    let steps = followed.made in
    let past = history_of opening steps in
    let here : IsDrained opening past now = subst (λ (h : History). IsDrained opening h now) followed.is drained in
    let shuffle : (actor : Actor) → events_by actor past ≡ script opening.scenario actor = λ actor. events_of opening steps actor ∙ followed.scripts actor in
    let all : length steps ≡ length opening.scenario.steps =
    sym (length-history_of opening steps) ∙ shuffle_length opening.scenario.steps past shuffle in
    let are = subst (λ (h : History). AreLines h whole rest) followed.is followed.are in
    let behind : end ≡ flat_map entry_text here.made ++ report_text (moment_of opening now) =
    is
    ∙ ap (λ (h : History). flat_map entry_text (drop (length h) now) ++ report_text (moment_of opening now)) followed.is
    ∙ ap (λ (h : History). flat_map entry_text (drop (length past) h) ++ report_text (moment_of opening now)) here.added
    ∙ ap (λ (h : History). flat_map entry_text h ++ report_text (moment_of opening now)) (behind_drop past here.made) in
    record {
      have = record {
        scripts = λ actor. ([], append-nil (events_in actor steps) ∙ followed.scripts actor);
        limits = followed.limits;
        are = are;
        few = omega (arith, all);
      };
      all = all;
      drained = here;
      raced = record { played = past; legal = IsLegal-history_of opening steps; shuffle = shuffle; drained = here };
      lines =
          lines_behind opening steps now here.made playable followed.limits are.fits here.added
          ∙ ap (λ (text : List ℕ). map entry_text past ++ lines_of text) (sym behind);
    }

-- no other run has the lines of the steps
only : (opening : Opening) (steps : List Step) (now run : History) (whole rest end : List ℕ) → IsPlayable opening.scenario →
    AtEnd opening steps now whole rest end → IsRaced opening run → BeginsAs opening run (length steps) whole → run ≡ now
only opening steps now run whole rest end playable at raced same =
    let past = history_of opening steps in
    let begun = begins_run opening steps whole rest run playable at.have raced same in
    let long : length raced.played ≡ length past =
    shuffle_length opening.scenario.steps raced.played raced.shuffle ∙ sym at.all ∙ sym (length-history_of opening steps) in
    let played : raced.played ≡ past =
    sym (take-append_seam raced.played raced.drained.made)
    ∙ ap (take (length raced.played)) (sym raced.drained.added ∙ begun.1)
    ∙ ap (λ (n : ℕ). take n (past ++ begun.0)) long ∙ take-append_seam past begun.0 in
    drained_alone opening past run now (subst (λ (h : History). IsDrained opening h run) played raced.drained) at.drained

-- the text is the printed run
pub printed : (opening : Opening) (history now : History) (whole rest end one other : List ℕ) (count : ℕ) → IsPlayable opening.scenario →
    HasFollowed opening history whole rest → IsDrained opening history now → end ≡ output_from opening (length history) now →
    lines_of end ≡ take count (lines_of end) ++ lines_of one → lines_of rest ≡ take count (lines_of end) ++ lines_of other → one ≡ [] → other ≡ [] →
    IsPrinted opening whole
printed opening history now whole rest end one other count playable followed drained is end_is rest_is none nothing =
    let at = at_end opening history now whole rest end playable followed drained is in
    let texts = map entry_text (history_of opening followed.made) in
    let same : lines_of rest ≡ lines_of end =
    rest_is
    ∙ ap (λ (text : List ℕ). take count (lines_of end) ++ lines_of text) (nothing ∙ sym none)
    ∙ sym end_is in
    record {
      history = now;
      raced = at.raced;
      is =
          same_lines whole (output_text opening now)
          (at.have.are.lines ∙ ap (λ (lines : List (List ℕ)). texts ++ lines) same ∙ sym at.lines);
    }

first_get : (one other : List (List ℕ)) → take 1 one ≡ take 1 other → slice_get one 0 ≡ slice_get other 0
first_get [] [] same = refl
first_get [] (y ∷ other) same = absurd cc
first_get (x ∷ one) [] same = absurd cc
first_get (x ∷ one) (y ∷ other) same = let e : x ≡ y = cc in ap Some e

-- or it differs from that at a line
pub differs : (opening : Opening) (before line : ℕ) (history now : History) (whole rest end one other want found : List ℕ) (first count : ℕ) → IsPlayable opening.scenario →
    HasFollowed opening history whole rest → IsDrained opening history now → end ≡ output_from opening (length history) now →
    count ≤ length (lines_of end) → lines_of end ≡ take count (lines_of end) ++ lines_of one → lines_of rest ≡ take count (lines_of end) ++ lines_of other →
    (slice_get (lines_of one) 0 ≡ slice_get (lines_of other) 0 → (one ≡ []) × (other ≡ [])) → ((one ≡ []) × (other ≡ []) → ⊥) →
    want ≡ slice_index_or (lines_of one) 0 [] → found ≡ slice_index_or (lines_of other) 0 [] → first ≡ before + length history → line ≡ first + count →
    IsRefuted opening before whole line (option_map without_feed (if_any want)) (option_map told (if_any found))
differs opening before line history now whole rest end one other want found first count playable followed drained is few end_is rest_is same_then not_both
    want_is found_is first_is line_is =
    let steps = followed.made in
    let at = at_end opening history now whole rest end playable followed drained is in
    let texts = map entry_text (history_of opening steps) ++ take count (lines_of end) in
    let own : lines_printed opening now ≡ texts ++ lines_of one =
    at.lines ∙ ap (λ (lines : List (List ℕ)). map entry_text (history_of opening steps) ++ lines) end_is
    ∙ sym (append_assoc (map entry_text (history_of opening steps)) (take count (lines_of end)) (lines_of one)) in
    let its : lines_of whole ≡ texts ++ lines_of other =
    at.have.are.lines ∙ ap (λ (lines : List (List ℕ)). map entry_text (history_of opening steps) ++ lines) rest_is
    ∙ sym (append_assoc (map entry_text (history_of opening steps)) (take count (lines_of end)) (lines_of other)) in
    let steps_long = texts_long opening steps in
    let count_long = length-take-le count (lines_of end) few in
    let both_long = length-append (map entry_text (history_of opening steps)) (take count (lines_of end)) in
    let made_long = ap length followed.is ∙ length-history_of opening steps in
    let long : length texts ≡ length steps + count = omega (arith, steps_long, count_long, both_long) in
    let place = length texts in
    let all = at.all in
    let fewer : (run : History) (n : ℕ) → length steps ≤ n → BeginsAs opening run n whole → BeginsAs opening run (length steps) whole =
    λ run n enough same.
    sym (take-take (length steps) n (lines_printed opening run) enough) ∙ ap (take (length steps)) same
    ∙ take-take (length steps) n (lines_of whole) enough in
    let here : (lines text : List ℕ) (given : List ℕ) → given ≡ slice_index_or (lines_of text) 0 [] → (all_lines : List (List ℕ)) → all_lines ≡ texts ++ lines_of text →
    slice_get all_lines place ≡ if_any given =
    λ lines text given given_is all_lines all_is.
    ap (λ (ls : List (List ℕ)). slice_get ls place) all_is ∙ line_at texts (lines_of text) ∙ first_any text ∙ ap if_any (sym given_is) in
    record {
      place = place;
      number = omega (arith, first_is, line_is, long, made_long);
      wrong = record {
        right = λ n little. record {
          history = now;
          raced = at.raced;
          same =
              ap (take n) own ∙ take-append-le n texts (lines_of one) little ∙ sym (take-append-le n texts (lines_of other) little) ∙ sym (ap (take n) its);
        };
        wrong = λ right.
            let run_is = only opening steps now right.history whole rest end playable at right.raced (fewer right.history (place + 1) (omega (arith, long)) right.same) in
            let same : take (place + 1) (lines_printed opening now) ≡ take (place + 1) (lines_of whole) =
            subst (λ (h : History). BeginsAs opening h (place + 1) whole) run_is right.same in
            let next : take 1 (lines_of one) ≡ take 1 (lines_of other) =
            take_one texts (lines_of one) (lines_of other) (sym (ap (take (place + 1)) own) ∙ same ∙ ap (take (place + 1)) its) in
            not_both (same_then (first_get (lines_of one) (lines_of other) next));
      };
      wanted = record {
        of_step = λ run raced same left. absurd (omega (arith, left, all, long));
        of_end = λ run raced same whole_made.
            let run_is = only opening steps now run whole rest end playable at raced (fewer run place (omega (arith, long)) same) in
            ap (option_map without_feed)
            (sym (ap (λ (h : History). slice_get (lines_printed opening h) place) run_is ∙ here [] one want want_is (lines_printed opening now) own));
      };
      tells = ap (option_map told) (sym (here [] other found found_is (lines_of whole) its));
    }

-- ---- the whole

-- as many entries as the scenario has steps
pub made_length : (opening : Opening) (history : History) (whole rest : List ℕ) → HasFollowed opening history whole rest →
    length history ≡ length opening.scenario.steps
made_length opening history whole rest followed =
    shuffle_length opening.scenario.steps history
    (λ actor. ap (events_by actor) followed.is ∙ events_of opening followed.made actor ∙ followed.scripts actor)

-- what was followed in a room is so of its opening
pub followed_of : (own opening : Opening) (history : History) (whole rest : List ℕ) → own ≡ opening → HasFollowed own history whole rest →
    HasFollowed opening history whole rest
followed_of own opening history whole rest same = subst (λ (o : Opening). HasFollowed o history whole rest) same

pub wrong_of : (own opening : Opening) (text : List ℕ) (wrong : Wrong) → own ≡ opening → IsWrongStep own text wrong → IsWrongStep opening text wrong
wrong_of own opening text wrong same = subst (λ (o : Opening). IsWrongStep o text wrong) same

-- `Yes` is said of the printed runs alone, and of each
pub exact : (opening : Opening) (first : ℕ) (text : List ℕ) (verdict : Verdict) → IsVerdict opening first text verdict → (verdict ≡ Yes) ↔ IsPrinted opening text
exact opening first text Yes is = ((λ e. is), (λ printed_too. refl))
exact opening first text (No line want found) is = (
  (λ e. absurd cc),
  (λ printed_too. absurd (is.wrong.wrong (record {
    history = printed_too.history;
    raced = printed_too.raced;
    same = ap (λ (t : List ℕ). take (is.place + 1) (lines_of t)) (sym printed_too.is);
  }))),
)

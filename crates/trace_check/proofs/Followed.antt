-- Followed: the steps that the lines of a text name so far, and how it goes on.
use Rattle.std.proofs.Common.{◌≡◌, ◌≢◌, ℕ, ◌+◌, ◌<◌, true, false, List, [], ◌∷◌, ◌++◌, length, map, Option, Some, None, refl, sym, ap, ◌∙◌, subst, arith, inl, inr, append_assoc, append-nil, All}
use mathlib.Core.List.{IsPrefix}
use Rattle.std.specs.Prelude.{slice_index_or, IfSome, MatchOption}
use Rattle.std.proofs.lemmas.Bool.{cases_Bool}
use Rattle.std.proofs.lemmas.List.{length-append, map-append, append_cancel_left}
use Rattle.std.proofs.lemmas.List.Elements.{All-append, All-push, All-from_recursion}
use Rattle.cs_types.specs.declared.event.Actor.{Actor}
use Rattle.cs_types.specs.declared.event.Event.{Event}
use Rattle.cs_types.specs.declared.event.Step.{Step}
use Rattle.cs_types.specs.declared.reply.Entry.{Entry}
use Rattle.cs_types.specs.Scenario.{is_actor, script, IsPlayable, IsStep}
use Rattle.cs_types.specs.Room.{Opening}
use Rattle.cs_types.specs.History.{History, moment_of, entry_of, history_of, events_by}
use Rattle.cs_laws.proofs.Histories.{history_of-push, length-history_of}
use Rattle.scenario_text.specs.Text.{entry_text}
use Rattle.scenario_text.specs.Entry.{FitsReply}
use Rattle.sibling_workers.specs.Race.{events_in}
use Rattle.sibling_workers.proofs.Own.{is_actor-same, same_actor, events_in-append}
use Rattle.trace_check.specs.declared.judging.Wrong.{Wrong}
use Rattle.trace_check.specs.Lines.{lines_of}
use Rattle.trace_check.specs.Scripts.{rank, left_to}
use Rattle.trace_check.specs.Verdicts.{IsNext}
use Rattle.trace_check.specs.Following.{step_of, IsStuck, HasStepped, HasLine, AreLines, HasFollowed, IsOther, IsWrongStep}
use Rattle.trace_check.proofs.Advances.{events_own, events_other}
use Rattle.trace_check.proofs.Runs.{some_text}
use Rattle.trace_check.proofs.Known.{known_actor, next_step}
use Rattle.trace_check.proofs.Extending.{events_of, all_made}

-- so many steps were made, each as a line names it
pub record IsSoFar (opening : Opening) (steps : List Step) (places : List ℕ) (place : ℕ) (past : History) (text rest : List ℕ) : Type 0 where
  pub made : List Step
  pub is : past ≡ history_of opening made
  pub count : length made ≡ place
  pub scripts : (actor : Actor) → events_in actor steps ≡ events_in actor made ++ left_to steps places actor
  pub limits : All (IsStep opening.scenario.siblings) made
  pub are : AreLines past text rest

-- at the start none was
pub start : (opening : Opening) (steps : List Step) (places : List ℕ) (past : History) (text : List ℕ) → past ≡ [] →
    ((actor : Actor) → left_to steps places actor ≡ events_in actor steps) → IsSoFar opening steps places 0 past text text
start opening steps places past text none all =
    subst (λ (h : History). IsSoFar opening steps places 0 h text text) (sym none) (record {
      made = [];
      is = refl;
      count = refl;
      scripts = λ actor. sym (all actor);
      limits = All-from_recursion (IsStep opening.scenario.siblings) [] tt;
      are = record { lines = refl; fits = All-from_recursion (λ (entry : Entry). FitsReply entry.reply) [] tt };
    })

-- the events of one step more
pushed_own : (actor : Actor) (made : List Step) (step : Step) → is_actor step.actor actor ≡ true →
    events_in actor (made ++ step ∷ []) ≡ events_in actor made ++ step.event ∷ []
pushed_own actor made step own =
    events_in-append actor made (step ∷ []) ∙ ap (λ (events : List Event). events_in actor made ++ events) (events_own actor step [] own)

pushed_other : (actor : Actor) (made : List Step) (step : Step) → is_actor step.actor actor ≡ false →
    events_in actor (made ++ step ∷ []) ≡ events_in actor made
pushed_other actor made step other =
    events_in-append actor made (step ∷ [])
    ∙ ap (λ (events : List Event). events_in actor made ++ events) (events_other actor step [] other)
    ∙ append-nil (events_in actor made)

-- one more was made, and has the line of its place
pub more : (opening : Opening) (steps : List Step) (places moved : List ℕ) (place : ℕ) (past now : History) (text rest line behind : List ℕ) (entry : Entry) →
    IsSoFar opening steps places place past text rest → HasStepped opening steps places moved past now line entry →
    IsStep opening.scenario.siblings (step_of entry) → lines_of rest ≡ line ∷ lines_of behind → entry_text entry ≡ line →
    IsSoFar opening steps moved (place + 1) now text behind
more opening steps places moved place past now text rest line behind entry before stepped limits first same =
    let made = before.made in
    let step = step_of entry in
    let counted = before.count in
    record {
      made = made ++ step ∷ [];
      is =
          stepped.history
          ∙ ap (λ (e : Entry). past ++ e ∷ []) stepped.is
          ∙ ap (λ (h : History). h ++ entry_of (moment_of opening h) step ∷ []) before.is
          ∙ sym (history_of-push opening made step);
      count = length-append made (step ∷ []) ∙ omega (arith, counted);
      scripts = λ actor. elim (cases_Bool (is_actor step.actor actor)) [
        | inl own ↦
            subst (λ (a : Actor). events_in a steps ≡ events_in a (made ++ step ∷ []) ++ left_to steps moved a) (same_actor step.actor actor own)
            (before.scripts step.actor
            ∙ ap (λ (events : List Event). events_in step.actor made ++ events) stepped.next
            ∙ sym (append_assoc (events_in step.actor made) (step.event ∷ []) (left_to steps moved step.actor))
            ∙ ap (λ (events : List Event). events ++ left_to steps moved step.actor) (sym (pushed_own step.actor made step (is_actor-same step.actor))))
        | inr other ↦
            before.scripts actor
            ∙ ap (λ (events : List Event). events_in actor made ++ events) (sym (stepped.others actor other))
            ∙ ap (λ (events : List Event). events ++ left_to steps moved actor) (sym (pushed_other actor made step other))
      ];
      limits = All-push (IsStep opening.scenario.siblings) made step before.limits limits;
      are = record {
        lines =
            before.are.lines
            ∙ ap (λ (lines : List (List ℕ)). map entry_text past ++ lines) (first ∙ ap (λ (l : List ℕ). l ∷ lines_of behind) (sym same))
            ∙ sym (append_assoc (map entry_text past) (entry_text entry ∷ []) (lines_of behind))
            ∙ ap (λ (lines : List (List ℕ)). lines ++ lines_of behind)
            (sym (map-append entry_text past (entry ∷ [])) ∙ ap (map entry_text) (sym stepped.history));
        fits =
            subst (All (λ (e : Entry). FitsReply e.reply)) (sym stepped.history)
            (All-append (λ (e : Entry). FitsReply e.reply) past (entry ∷ []) before.are.fits
            (All-from_recursion (λ (e : Entry). FitsReply e.reply) (entry ∷ []) (stepped.fits, tt)));
      };
    }

-- each actor's steps are the first of its script
pub prefixes : (opening : Opening) (steps : List Step) (places : List ℕ) (place : ℕ) (past : History) (text rest : List ℕ) →
    (before : IsSoFar opening steps places place past text rest) → (actor : Actor) → IsPrefix (events_in actor before.made) (events_in actor steps)
prefixes opening steps places place past text rest before actor = (left_to steps places actor, sym (before.scripts actor))

-- all were made
pub all : (opening : Opening) (places : List ℕ) (place : ℕ) (past : History) (text rest : List ℕ) →
    IsSoFar opening opening.scenario.steps places place past text rest → place ≡ length opening.scenario.steps → HasFollowed opening past text rest
all opening places place past text rest before whole =
    record {
      made = before.made;
      is = before.is;
      scripts = all_made opening.scenario.steps before.made (prefixes opening opening.scenario.steps places place past text rest before) (before.count ∙ whole);
      limits = before.limits;
      are = before.are;
    }

-- ---- the first line that is not that of its place

-- the line at the start of a text
pub line_here : (rest line behind : List ℕ) → (0 < length line → lines_of rest ≡ line ∷ lines_of behind) → (line ≡ [] → rest ≡ []) →
    line ≡ slice_index_or (lines_of rest) 0 []
unfolding lines_of
line_here rest [] behind some none = ap (λ (text : List ℕ). slice_index_or (lines_of text) 0 []) (sym (none refl))
line_here rest (byte ∷ line) behind some none = ap (λ (lines : List (List ℕ)). slice_index_or lines 0 []) (sym (some (omega arith)))

-- the next step of an actor is the first that is left to it
next_left : (opening : Opening) (places : List ℕ) (place : ℕ) (past : History) (text rest : List ℕ) (step : Step) →
    IsSoFar opening opening.scenario.steps places place past text rest → IsNext opening.scenario past step →
    (more : List Event) × (left_to opening.scenario.steps places step.actor ≡ step.event ∷ more)
next_left opening places place past text rest step before is =
    let done : events_by step.actor past ≡ events_in step.actor before.made =
    ap (events_by step.actor) before.is ∙ events_of opening before.made step.actor in (
      is.0,
      append_cancel_left (events_in step.actor before.made) (left_to opening.scenario.steps places step.actor) (step.event ∷ is.0)
          (sym (before.scripts step.actor) ∙ sym is.1
          ∙ ap (λ (events : List Event). (events ++ step.event ∷ []) ++ is.0) done
          ∙ append_assoc (events_in step.actor before.made) (step.event ∷ []) is.0),
    )

next_known : (opening : Opening) (past : History) (step : Step) → IsPlayable opening.scenario → IsNext opening.scenario past step → rank step.actor < 24
next_known opening past step playable is = go (events_by step.actor past) is.1 where
  go : (done : List Event) → (done ++ step.event ∷ []) ++ is.0 ≡ script opening.scenario step.actor → rank step.actor < 24
  go [] e = known_actor opening.scenario step.actor step.event is.0 playable (sym e)
  go (event ∷ done) e = known_actor opening.scenario step.actor event ((done ++ step.event ∷ []) ++ is.0) playable (sym e)

same_step : (one other : Step) → one.actor ≡ other.actor → one.event ≡ other.event → one ≡ other
same_step one other who what =
    ap (λ (a : Actor). record { actor = a; event = one.event }) who ∙ ap (λ (e : Event). record { actor = other.actor; event = e }) what

-- the line begins with no actor that has a step left
pub stuck : (opening : Opening) (places : List ℕ) (place : ℕ) (past : History) (text rest : List ℕ) (wrong : Wrong) → IsPlayable opening.scenario →
    IsSoFar opening opening.scenario.steps places place past text rest → place < length opening.scenario.steps → wrong.place ≡ place →
    wrong.line.now ≡ slice_index_or (lines_of rest) 0 [] → wrong.entry ≡ None → IsStuck opening.scenario.steps places wrong.line.now →
    IsWrongStep opening text wrong
stuck opening places place past text rest wrong playable before left at line none is =
    record {
      steps = before.made;
      past = past;
      rest = rest;
      is = before.is;
      scripts = prefixes opening opening.scenario.steps places place past text rest before;
      limits = before.limits;
      are = before.are;
      count = ap length before.is ∙ length-history_of opening before.made ∙ before.count ∙ sym at;
      left = omega (arith, left, at);
      line = line;
      made = λ step next begins.
          let of = next_left opening places place past text rest step before next in
          let none_left = is step.actor (next_known opening past step playable next) begins in
          let both : step.event ∷ of.0 ≡ [] = sym of.1 ∙ none_left in absurd cc;
      entry = subst (λ (e : Option Entry). IfSome e (IsOther opening past wrong.line.now)) (sym none) tt;
    }

-- the entry of the actor's next step has another line
pub other_line : (opening : Opening) (places moved : List ℕ) (place : ℕ) (past now : History) (text rest : List ℕ) (entry : Entry) (wrong : Wrong) →
    IsPlayable opening.scenario → IsSoFar opening opening.scenario.steps places place past text rest → place < length opening.scenario.steps →
    wrong.place ≡ place → wrong.line.now ≡ slice_index_or (lines_of rest) 0 [] → wrong.entry ≡ Some entry →
    HasStepped opening opening.scenario.steps places moved past now wrong.line.now entry → entry_text entry ≢ wrong.line.now → IsWrongStep opening text wrong
other_line opening places moved place past now text rest entry wrong playable before left at line some stepped other =
    let steps = opening.scenario.steps in
    let done : events_by entry.actor past ≡ events_in entry.actor before.made =
    ap (events_by entry.actor) before.is ∙ events_of opening before.made entry.actor in
    record {
      steps = before.made;
      past = past;
      rest = rest;
      is = before.is;
      scripts = prefixes opening steps places place past text rest before;
      limits = before.limits;
      are = before.are;
      count = ap length before.is ∙ length-history_of opening before.made ∙ before.count ∙ sym at;
      left = omega (arith, left, at);
      line = line;
      made = λ step next begins.
          let of = next_left opening places place past text rest step before next in
          let who : step.actor ≡ entry.actor = stepped.begins step.actor (next_known opening past step playable next) begins in
          let what : step.event ∷ of.0 ≡ entry.event ∷ left_to steps moved entry.actor =
          sym of.1 ∙ ap (left_to steps places) who ∙ stepped.next in
          let event : step.event ≡ entry.event = cc in
          some ∙ ap Some (stepped.is ∙ ap (entry_of (moment_of opening past)) (same_step (step_of entry) step (sym who) (sym event)));
      entry = subst (λ (e : Option Entry). IfSome e (IsOther opening past wrong.line.now)) (sym some) (record {
        step = step_of entry;
        next = (
          left_to steps moved entry.actor,
          ap (λ (events : List Event). (events ++ entry.event ∷ []) ++ left_to steps moved entry.actor) done
              ∙ append_assoc (events_in entry.actor before.made) (entry.event ∷ []) (left_to steps moved entry.actor)
              ∙ ap (λ (events : List Event). events_in entry.actor before.made ++ events) (sym stepped.next)
              ∙ sym (before.scripts entry.actor),
        );
        is = stepped.is;
        fits = stepped.fits;
        other = other;
      });
    }

-- ---- by what was made

-- its line is that of its place
pub goes_on : (opening : Opening) (steps : List Step) (places moved : List ℕ) (place : ℕ) (past now : History) (text rest line behind : List ℕ) (entry : Option Entry) →
    IsSoFar opening steps places place past text rest →
    MatchOption entry (IsStuck steps places line) (HasStepped opening steps places moved past now line) →
    All (IsStep opening.scenario.siblings) steps → (0 < length line → lines_of rest ≡ line ∷ lines_of behind) → HasLine entry line →
    IsSoFar opening steps moved (place + 1) now text behind
goes_on opening steps places moved place past now text rest line behind None before made each first same = absurd same
goes_on opening steps places moved place past now text rest line behind (Some entry) before stepped each first same =
    more opening steps places moved place past now text rest line behind entry before stepped
    (next_step opening.scenario.siblings steps places entry.actor entry.event _ each stepped.next)
    (first (subst (λ (l : List ℕ). 0 < length l) same (some_text entry))) same

-- or it is not
pub wrong_here : (opening : Opening) (places moved : List ℕ) (place : ℕ) (past now : History) (text rest : List ℕ) (wrong : Wrong) →
    IsPlayable opening.scenario → IsSoFar opening opening.scenario.steps places place past text rest → place < length opening.scenario.steps →
    wrong.place ≡ place → wrong.line.now ≡ slice_index_or (lines_of rest) 0 [] →
    MatchOption wrong.entry (IsStuck opening.scenario.steps places wrong.line.now) (HasStepped opening opening.scenario.steps places moved past now wrong.line.now) →
    (HasLine wrong.entry wrong.line.now → ⊥) → IsWrongStep opening text wrong
wrong_here opening places moved place past now text rest wrong playable before left at line made not_its = go wrong.entry refl made not_its where
  go : (entry : Option Entry) → wrong.entry ≡ entry →
      MatchOption entry (IsStuck opening.scenario.steps places wrong.line.now) (HasStepped opening opening.scenario.steps places moved past now wrong.line.now) →
      (HasLine entry wrong.line.now → ⊥) → IsWrongStep opening text wrong
  go None none is not_its = stuck opening places place past text rest wrong playable before left at line none is
  go (Some entry) some is not_its = other_line opening places moved place past now text rest entry wrong playable before left at line some is not_its

-- what was made, by the opening and the steps that these are
pub made_of : (own opening : Opening) (steps all_steps : List Step) (places moved : List ℕ) (past now : History) (line : List ℕ) (entry : Option Entry) →
    own ≡ opening → steps ≡ all_steps → MatchOption entry (IsStuck steps places line) (HasStepped own steps places moved past now line) →
    MatchOption entry (IsStuck all_steps places line) (HasStepped opening all_steps places moved past now line)
made_of own opening steps all_steps places moved past now line entry same all made =
    subst (λ (s : List Step). MatchOption entry (IsStuck s places line) (HasStepped opening s places moved past now line)) all
    (subst (λ (o : Opening). MatchOption entry (IsStuck steps places line) (HasStepped o steps places moved past now line)) same made)

-- the room for entries
pub spare_more : (before now place most : ℕ) (entry : Option Entry) (line : List ℕ) → HasLine entry line → IfSome entry (λ _. now + 1 ≡ before) →
    before + place ≡ most → now + (place + 1) ≡ most
spare_more before now place most None line its less held = absurd its
spare_more before now place most (Some entry) line its less held = omega (arith, less, held)

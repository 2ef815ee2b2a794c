use Rattle.std.proofs.Common.{◌≡◌, ◌∙◌, ◌*◌, ◌<◌, ◌≤◌, List, length, sym, ap, subst, arith}
use Rattle.std.proofs.lemmas.Result.{IfOk-from_err}
use Rattle.cs_types.specs.declared.event.Step.{Step}
use Rattle.cs_types.specs.declared.scenario.Scenario.{Scenario}
use Rattle.cs_types.specs.Room.{Opening}
use Rattle.cs_types.specs.History.{IsLegal}
use Rattle.cs_types.specs.Shuffles.{IsShuffle}
use Rattle.cs_types.specs.Drain.{IsDrained}
use Rattle.core_lock.specs.Lists.{AreLists, steps_in}
use Rattle.sibling_workers.specs.Race.{lists_of}
use Rattle.sibling_workers.specs.Working.{HasAll}
use Rattle.sibling_workers.proofs.Listed.{are_lists, few_steps, shuffles}
use Rattle.sibling_workers.proofs.Fewer.{few_entries}
use Rattle.sibling_workers.proofs.racing.race.Goals as goal

pub play-requires-clause-lists : goal.play-requires-clause-lists
play-requires-clause-lists g c κs within =
    let scenario = c.args.scenario.now in
    let lists = c.in_ok-lists.lists in
    let is : lists ≡ lists_of scenario.steps = c.in_ok-lists.ensures ∙ ap lists_of c.items.ensures in
    subst (λ (s : Scenario). 0 < length lists → AreLists s.siblings lists) (sym c.requires.scenario)
    (subst (λ (ls : List (List Step)). 0 < length ls → AreLists scenario.siblings ls) (sym is) (are_lists scenario.siblings scenario.steps c.requires.playable.steps))

pub play-requires-clause-spare : goal.play-requires-clause-spare
play-requires-clause-spare g c κs within =
    let steps = c.args.scenario.now.steps in
    let is : c.in_ok-lists.lists ≡ lists_of steps = c.in_ok-lists.ensures ∙ ap lists_of c.items.ensures in
    let few : steps_in c.in_ok-lists.lists ≤ length steps = subst (λ (ls : List (List Step)). steps_in ls ≤ length steps) (sym is) (few_steps steps) in
    omega (arith, few, c.requires.spare)

pub drain-requires : goal.drain-requires
drain-requires g c =
    let scenario = c.args.scenario.now in
    let room = c.in_ok-room.room in
    let history = g.R.Room.history room in
    let is : c.in_ok-lists.lists ≡ lists_of scenario.steps = c.in_ok-lists.ensures ∙ ap lists_of c.items.ensures in
    let shuffle : IsShuffle scenario history =
    shuffles scenario history c.requires.playable (subst (λ (ls : List (List Step)). HasAll ls history) is c.in_ok-room.ensures.made)
    in
    let few : length history ≤ length scenario.steps = few_entries history scenario.steps shuffle in
    let spare : scenario.siblings * scenario.siblings ≤ g.R.Room.spare room = omega (arith, few, c.in_ok-room.ensures.spare, c.requires.spare) in
    record {
      spare = subst (λ (o : Opening). o.scenario.siblings * o.scenario.siblings ≤ g.R.Room.spare room) (sym c.in_ok-room.ensures.opening)
          (subst (λ (s : Scenario). s.siblings * s.siblings ≤ g.R.Room.spare room) (sym c.requires.scenario) spare);
    }

pub returns-clause-raced : goal.returns-clause-raced
returns-clause-raced g c =
    let scenario = c.args.scenario.now in
    let history = g.R.Room.history c.in_ok-room.room in
    let opened = c.in_ok-room.ensures.opening in
    let is : c.in_ok-lists.lists ≡ lists_of scenario.steps = c.in_ok-lists.ensures ∙ ap lists_of c.items.ensures in
    let shuffle : IsShuffle scenario history =
    shuffles scenario history c.requires.playable (subst (λ (ls : List (List Step)). HasAll ls history) is c.in_ok-room.ensures.made)
    in
    record {
      played = history;
      legal = subst (λ (o : Opening). IsLegal o history) opened c.in_ok-room.ensures.legal;
      shuffle = subst (λ (s : Scenario). IsShuffle s history) (sym c.requires.scenario) shuffle;
      drained = subst (λ (o : Opening). IsDrained o history (g.R.Room.history c.drain.new.self)) opened c.drain.ensures.entries;
    }

pub returns-clause-opening : goal.returns-clause-opening
returns-clause-opening g c = c.drain.ensures.opening ∙ c.in_ok-room.ensures.opening

-- ---- where there is no memory

pub returns-in_err-lists : goal.returns-in_err-lists
returns-in_err-lists g c = record { opening = IfOk-from_err _ _ c.from_residual.ensures.0; raced = IfOk-from_err _ _ c.from_residual.ensures.0 }

pub returns-in_err-room : goal.returns-in_err-room
returns-in_err-room g c =
    let is = c.from_residual-in_err-room.ensures.0 in
    record { opening = IfOk-from_err _ _ is; raced = IfOk-from_err _ _ is }

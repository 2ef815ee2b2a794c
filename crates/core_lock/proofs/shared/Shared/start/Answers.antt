use Rattle.std.proofs.Common.{◌≡◌, ◌^◌, ◌<◌, [], ◌∷◌, ◌++◌, sym, ap, subst, ◌∙◌, List, Option, Some, arith}
use Rattle.atomic_table.specs.Table.{opening as table_at}
use Rattle.core_lock.specs.declared.view.Beginning.{Beginning}
use Rattle.core_lock.specs.Board.{IsKept, first_view}
use Rattle.core_lock.proofs.Dealing.{opens}
use Rattle.core_lock.specs.Lists.{AreLists}
use Rattle.std.specs.declared.snapshot.Snapshot.{Snapshot}
use Rattle.core_lock.proofs.shared.Shared.start.Given.{Over}
use Rattle.core_lock.proofs.shared.Shared.start.Goals as goal
use Rattle.core_lock.proofs.shared.Shared.start.Goals.{In-Ok}

pub new-requires : goal.new-requires
new-requires g c =
    let begun : Beginning g.row.R.Denot = record { room = c.args.room; lists = c.args.lists } in
    let slots : c.push_reserved.new.self.items ≡ Some c.args.room ∷ [] = c.push_reserved.ensures.items ∙ ap (λ (xs : List (Option g.row.R.Denot)). xs ++ Some c.args.room ∷ []) c.in_ok-slots.ensures.items in
    let fits : g.R.Room.spare c.args.room < 2 ^ 64 = subst (λ n. n < 2 ^ 64) c.spare-fits.ensures c.spare-fits.type_inv in
    subst (λ (z : Beginning g.row.R.Denot × List (Option g.row.R.Denot)). IsKept g.R.Room.opening g.R.Room.history g.R.Room.spare z.0 (table_at (0 ∷ 0 ∷ []) z.1 (first_view z.0)))
    (λ i. (sym c.of-key.ensures i, sym slots i))
    (opens g.R.Room.opening g.R.Room.history g.R.Room.spare begun c.requires.lists c.requires.empty c.requires.spare fits)

module _ (g : Over) (c : In-Ok g) where
  -- the table was given what the lock began with
  begins : c.in-Ok.board.shared.key.value ≡ (record { room = c.args.room; lists = c.args.lists })
  begins = ap (λ (key : Snapshot (Beginning g.row.R.Denot)). key.value) c.in-Ok.ensures.ok.5 ∙ c.of-key.ensures

pub passes_of-requires : goal.passes_of-requires
passes_of-requires g c =
    let at = (goal.at.passes_of-requires g c).In-Ok in
    let ok = c.in-Ok.ensures.ok in
    let fits : g.R.Room.spare c.args.room < 2 ^ 64 = subst (λ n. n < 2 ^ 64) c.spare-fits.ensures c.spare-fits.type_inv in
    record {
      table = (ok.2, ap (λ table. table.words) ok.2 ∙ ok.0);
      seat = ok.4 ∙ ap (λ (key : Snapshot (Beginning g.row.R.Denot)). (first_view key.value, [])) (sym ok.5);
      lists = sym (ap (λ (begun : Beginning g.row.R.Denot). begun.lists) (begins g at));
      fair = subst (λ (begun : Beginning g.row.R.Denot). AreLists (g.R.Room.opening begun.room).scenario.siblings c.args.lists) (sym (begins g at)) c.requires.lists;
      fits = omega (arith, c.requires.spare, fits);
    }

pub returns-clause-opening : goal.returns-clause-opening
returns-clause-opening g c = ap (λ (begun : Beginning g.row.R.Denot). g.R.Room.opening begun.room) (begins g (goal.at.returns-clause-opening g c).In-Ok)

pub returns-clause-spare : goal.returns-clause-spare
returns-clause-spare g c = ap (λ (begun : Beginning g.row.R.Denot). g.R.Room.spare begun.room) (begins g (goal.at.returns-clause-spare g c).In-Ok)

pub returns-clause-lists : goal.returns-clause-lists
returns-clause-lists g c = ap (λ (begun : Beginning g.row.R.Denot). begun.lists) (begins g (goal.at.returns-clause-lists g c).In-Ok)

pub returns-clause-passes : goal.returns-clause-passes
returns-clause-passes g c = c.in_ok-passes.ensures

pub returns-in_default : goal.returns-in_default
returns-in_default g c = record { opening = tt; spare = tt; lists = tt; passes = tt }

-- Keeping: what a step of one seat leaves to the others.
use Rattle.std.proofs.Common.{◌≡◌, ◌≢◌, ℕ, List, [], ◌∷◌, set, refl, sym, subst, ⊎_elim, Option}
use Rattle.std.proofs.lemmas.List.Elements.{All-weaker}
use mathlib.Core.Option.{some}
use native.Mathlib.Decide.{ℕ_discrete}
use lib.ListN.{get_elem?}
use Rattle.atomic_table.specs.Table.{State}
use Rattle.atomic_table.proofs.Lists.{at_set}
use Rattle.cs_types.specs.declared.event.Step.{Step}
use Rattle.cs_types.specs.Room.{Opening}
use Rattle.cs_types.specs.History.{History}
use Rattle.core_lock.specs.declared.view.Progress.{Progress}
use Rattle.core_lock.specs.declared.view.Beginning.{Beginning}
use Rattle.core_lock.specs.declared.view.View.{View}
use Rattle.core_lock.specs.declared.view.View.TheVariants.{Gone, Idle, Waiting, Holding}
use Rattle.core_lock.specs.Board.{Books, IsOwned, IsWaiting, IsHolding, Knows, IsKept}

-- ---- functions that are changed at one place

abbrev pick : {P : Type 0} → Dec P → ℕ → ℕ → ℕ
pick (yes _) a b = a
pick (no _) a b = b

pub put : (ℕ → ℕ) → ℕ → ℕ → ℕ → ℕ
put f i c j = pick (ℕ_discrete j i) c (f j)

pub put_here : (f : ℕ → ℕ) (i c : ℕ) → put f i c i ≡ c
unfolding put
put_here f i c = go (ℕ_discrete i i)
  where
    go : (d : Dec (i ≡ i)) → pick d c (f i) ≡ c
    go (yes _) = refl
    go (no n) = absurd (n refl)

pub put_else : (f : ℕ → ℕ) (i c j : ℕ) → j ≢ i → put f i c j ≡ f j
unfolding put
put_else f i c j other = go (ℕ_discrete j i)
  where
    go : (d : Dec (j ≡ i)) → pick d c (f j) ≡ f j
    go (yes e) = absurd (other e)
    go (no _) = refl

-- what was at the one is at the other now
pub moved : (ℕ → ℕ) → ℕ → ℕ → ℕ → ℕ
moved f from to j = pick (ℕ_discrete (f j) from) to (f j)

pub moved_from : (f : ℕ → ℕ) (from to j : ℕ) → f j ≡ from → moved f from to j ≡ to
unfolding moved
moved_from f from to j is = go (ℕ_discrete (f j) from)
  where
    go : (d : Dec (f j ≡ from)) → pick d to (f j) ≡ to
    go (yes _) = refl
    go (no n) = absurd (n is)

pub moved_else : (f : ℕ → ℕ) (from to j : ℕ) → f j ≢ from → moved f from to j ≡ f j
unfolding moved
moved_else f from to j other = go (ℕ_discrete (f j) from)
  where
    go : (d : Dec (f j ≡ from)) → pick d to (f j) ≡ f j
    go (yes e) = absurd (other e)
    go (no _) = refl

-- ---- seats

-- where one seat has a new view, each seat knows what is true if that one does and the others do
pub seats_stay : {V : Type 0} (K : ℕ → V → Type 0) (views : List V) (seat : ℕ) (now : V) → K seat now →
    ((other : ℕ) (view : V) → other ≢ seat → get_elem? views other ≡ some view → K other view) →
    (other : ℕ) (view : V) → get_elem? (set views seat now) other ≡ some view → K other view
seats_stay {V} K views seat now mine others other view at =
    ⊎_elim (λ (t : (other ≡ seat) × (now ≡ view)). subst (λ (x : ℕ × V). K x.0 x.1) (λ i. (sym t.0 i, t.1 i)) mine)
    (λ (t : (other ≢ seat) × (get_elem? views other ≡ some view)). others other view t.0 t.1) (at_set views seat other now view at)

-- what a seat knows stays true where what it knows of its lists does, and of its ticket
pub knows_stays : {R : Type 0} (begun : Beginning R) (books now : Books) (seat : ℕ) →
    ((drawn : ℕ) (has : Progress) → IsOwned begun.lists books seat drawn has → IsOwned begun.lists now seat drawn has) →
    ((has : Progress) (ticket : ℕ) → IsWaiting begun.lists books seat has ticket → IsWaiting begun.lists now seat has ticket) →
    ((has : Progress) (ticket : ℕ) → IsHolding begun.lists books seat has ticket → IsHolding begun.lists now seat has ticket) →
    (view : View R) → Knows begun books seat view → Knows begun now seat view
knows_stays begun books now seat owned waiting holding Gone known = tt
knows_stays begun books now seat owned waiting holding (Idle from all) known =
    (known.0, All-weaker (IsOwned begun.lists books seat 0) (IsOwned begun.lists now seat 0) (owned 0) all known.1)
knows_stays begun books now seat owned waiting holding (Waiting from has ticket) known = (known.0, waiting has ticket known.1)
knows_stays begun books now seat owned waiting holding (Holding from has ticket) known = (known.0, holding has ticket known.1)

-- a list has another seat, and the rest of what is said of it is as it was
pub owned_anew : {lists : List (List Step)} {books : Books} {seat count : ℕ} {has : Progress} (owner : ℕ → ℕ) (now : ℕ) → IsOwned lists books seat count has → owner has.number ≡ now →
    IsOwned lists (record books { owner = owner }) now count has
owned_anew owner now known is = record { number = known.number; owner = is; made = known.made; steps = known.steps; seen = known.seen; note = known.note }

-- lists have other seats, and the rest of the rule is as it was
pub kept_anew : {R : Type 0} {opening : R → Opening} {history : R → History} {spare : R → ℕ} {begun : Beginning R} {state : State (Option R) (View R)} (kept : IsKept opening history spare begun state) (owner : ℕ → ℕ) (views : List (View R)) →
    ((seat : ℕ) (view : View R) → get_elem? views seat ≡ some view → Knows begun (record kept.books { owner = owner }) seat view) →
    IsKept opening history spare begun (record state { views = views })
kept_anew kept owner views known =
    record {
      books = record kept.books { owner = owner };
      words = kept.words;
      slot = kept.slot;
      behind = kept.behind;
      ahead = kept.ahead;
      busy = kept.busy;
      enough = kept.enough;
      fits = kept.fits;
      lists = kept.lists;
      as_many = kept.as_many;
      own = kept.own;
      no_other = kept.no_other;
      views = known;
    }

-- the parts of a view of one list
abbrev pub parts_or : {R : Type 0} → Beginning R × Progress × ℕ → View R → Beginning R × Progress × ℕ
parts_or or (Idle begun (has ∷ [])) = (begun, has, 0)
parts_or or (Waiting begun has ticket) = (begun, has, ticket)
parts_or or (Holding begun has ticket) = (begun, has, ticket)
parts_or or view = or

-- Coming: the seats of passes come together.
use Rattle.std.proofs.Common.{◌≡◌, ℕ, List, [], ◌∷◌, ◌++◌, refl, sym, ap, ◌∙◌, subst, append_assoc, Option}
use Rattle.std.specs.Prelude.{All, Contains}
use Rattle.std.proofs.lemmas.List.Elements.{All-cons, All-nil, All-weaker, Contains-append_left, Contains-append_right}
use Rattle.atomic_table.specs.Seated.{TableId}
use Rattle.atomic_table.specs.Table.{Me, Joins}
use Rattle.core_lock.specs.declared.view.Progress.{Progress}
use Rattle.core_lock.specs.declared.view.Beginning.{Beginning}
use Rattle.core_lock.specs.declared.view.View.{View}
use Rattle.core_lock.specs.declared.view.View.TheVariants.{Gone, Idle}
use Rattle.cs_types.specs.Room.{Opening}
use Rattle.cs_types.specs.History.{History}
use Rattle.core_lock.specs.Board.{IsKept, both_of}
use Rattle.core_lock.specs.Passes.{PassState}
use Rattle.core_lock.proofs.Dealing.{gathers_lists}

-- A seat of the table has the lists of all passes but the first ones, which are left.
pub record IsJoined {R : Type 0} (table id : TableId) (me : Me (Option R) (View R)) (passes left : List PassState) : Type 0 where
  pub at : table ≡ id
  pub begun : Beginning R
  pub all : List Progress
  pub idle : me ≡ (Idle begun all, [])
  pub done : List PassState
  pub split : passes ≡ left ++ done
  pub has : All (λ (pass : PassState). Contains all pass.progress) done

-- the first pass that comes
pub joined_one : {R : Type 0} (table id : TableId) (me : Me (Option R) (View R)) (passes left : List PassState) (pass : PassState) (begun : Beginning R) (has : Progress) →
    table ≡ id → me ≡ (Idle begun (has ∷ []), []) → passes ≡ left ++ pass ∷ [] → pass.progress ≡ has → IsJoined table id me passes left
joined_one table id me passes left pass begun has at idle split is = record {
  at = at;
  begun = begun;
  all = has ∷ [];
  idle = idle;
  done = pass ∷ [];
  split = split;
  has = All-cons (λ (p : PassState). Contains (has ∷ []) p.progress) pass [] (0, omega Rattle.std.proofs.Common.arith, sym is) (All-nil (λ (p : PassState). Contains (has ∷ []) p.progress));
}

-- one more comes
pub joined_more : {R : Type 0} (table now id : TableId) (me after : Me (Option R) (View R)) (passes left rest : List PassState) (pass : PassState) (has : Progress) (was : IsJoined table id me passes left) →
    now ≡ table → after ≡ (Idle was.begun (was.all ++ has ∷ []), []) → left ≡ rest ++ pass ∷ [] → pass.progress ≡ has → IsJoined now id after passes rest
joined_more table now id me after passes left rest pass has was same idle less is =
    let all = was.all ++ has ∷ [] in
    record {
      at = same ∙ was.at;
      begun = was.begun;
      all = all;
      idle = idle;
      done = pass ∷ was.done;
      split = was.split ∙ ap (λ (l : List PassState). l ++ was.done) less ∙ append_assoc rest (pass ∷ []) was.done;
      has = All-cons (λ (p : PassState). Contains all p.progress) pass was.done
          (Contains-append_right was.all (has ∷ []) pass.progress (0, omega Rattle.std.proofs.Common.arith, sym is))
          (All-weaker (λ (p : PassState). Contains was.all p.progress) (λ (p : PassState). Contains all p.progress) (λ p there. Contains-append_left was.all (has ∷ []) p.progress there) was.done was.has);
    }

-- a pass that is taken from the end of what is left is one of the passes
pub is_one : (passes left rest done : List PassState) (pass : PassState) → passes ≡ left ++ done → left ≡ rest ++ pass ∷ [] → Contains passes pass
is_one passes left rest done pass split less =
    subst (λ (l : List PassState). Contains l pass) (sym split)
    (Contains-append_left left done pass (subst (λ (l : List PassState). Contains l pass) (sym less) (Contains-append_right rest (pass ∷ []) pass (0, omega Rattle.std.proofs.Common.arith, refl))))

-- the lists of a pass come to a seat
pub joins_at : (R : Type 0) (opening : R → Opening) (history : R → History) (spare : R → ℕ) (key : Beginning R) (seat other : ℕ) (me its : Me (Option R) (View R))
    (begun from : Beginning R) (all : List Progress) (has : Progress) → me ≡ (Idle begun all, []) → its ≡ (Idle from (has ∷ []), []) →
    Joins (IsKept opening history spare key) seat me.0 other its.0 (both_of me.0 its.0) Gone
joins_at R opening history spare key seat other me its begun from all has idle other_idle =
    let P : Me (Option R) (View R) × Me (Option R) (View R) → Type 0 = λ z. Joins (IsKept opening history spare key) seat z.0.0 other z.1.0 (both_of z.0.0 z.1.0) Gone in
    subst P (λ i. (sym idle i, sym other_idle i)) (gathers_lists opening history spare key seat begun all other from (has ∷ []))

-- and its view then
pub joined_view : {R : Type 0} (me its now : Me (Option R) (View R)) (begun from : Beginning R) (all : List Progress) (has : Progress) → me ≡ (Idle begun all, []) → its ≡ (Idle from (has ∷ []), []) →
    now ≡ (both_of me.0 its.0, me.1) → now ≡ (Idle begun (all ++ has ∷ []), [])
joined_view me its now begun from all has idle other_idle is = is ∙ (λ i. (both_of (idle i).0 (other_idle i).0, (idle i).1))

-- where all have come, the seat has the lists of all
pub all_joined : {R : Type 0} (table id : TableId) (me : Me (Option R) (View R)) (passes left : List PassState) (was : IsJoined table id me passes left) → left ≡ [] →
    (begun : Beginning R) × (all : List Progress) × (me ≡ (Idle begun all, [])) × All (λ (pass : PassState). Contains all pass.progress) passes
all_joined table id me passes left was none = (
  was.begun,
  was.all,
  was.idle,
  subst (λ (l : List PassState). All (λ (pass : PassState). Contains was.all pass.progress) l) (sym (was.split ∙ ap (λ (l : List PassState). l ++ was.done) none)) was.has,
)

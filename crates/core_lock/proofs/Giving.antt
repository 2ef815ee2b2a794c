-- Giving: the lists are given to passes, one after another.
use Rattle.std.proofs.Common.{◌≡◌, ◌≢◌, ℕ, ◌+◌, ◌^◌, ◌<◌, ◌≤◌, List, [], ◌∷◌, ◌++◌, map, length, drop, get_or, refl, sym, ap, ◌∙◌, subst, arith, Option, length-append}
use Rattle.std.proofs.lemmas.List.{drop_more}
use Rattle.std.proofs.lemmas.List.Elements.{All-from_get_or, All-get_or}
use Rattle.std.proofs.lemmas.List.FromFn.{get_or-map-range_with_len, length-map-range_with_len, map-range_with_len_more}
use Rattle.std.proofs.lemmas.List.Sums.{sum_by-set}
use Rattle.std.specs.List.{range_with_len}
use Rattle.atomic_table.specs.Seated.{TableId}
use Rattle.atomic_table.specs.Table.{Me, Splits}
use Rattle.cs_types.specs.declared.event.Step.{Step}
use Rattle.cs_types.specs.Room.{Opening}
use Rattle.core_lock.specs.declared.view.Progress.{Progress}
use Rattle.core_lock.specs.declared.view.Beginning.{Beginning}
use Rattle.core_lock.specs.declared.view.View.{View}
use Rattle.core_lock.specs.declared.view.View.TheVariants.{Idle}
use Rattle.cs_types.specs.History.{History, IsLegal}
use Rattle.core_lock.specs.Lists.{list_at, IsList, AreLists, steps_in}
use Rattle.core_lock.specs.Board.{fresh, IsKept, kept_of, given_of}
use Rattle.core_lock.specs.Passes.{PassState, IsPass, lock_of, fresh_pass, pass_of}
use Rattle.core_lock.proofs.Dealing.{gives_list}

-- the empty history is legal
no_entry : (opening : Opening) → IsLegal opening []
no_entry opening past entry rest is = absurd (omega (arith, ap (λ (h : History). length h) is, length-append past (entry ∷ rest)))

module _ {R : Type 0} (opening : R → Opening) (spare : R → ℕ) where
  -- The first lists are given to passes, and a seat has the others.
  pub record IsDealt (id : TableId) (key : Beginning R) (table : TableId) (me : Me (Option R) (View R)) (passes : List PassState) (left : List (List Step)) : Type 0 where
    pub at : table ≡ id
    pub rest : left ≡ drop (length passes) key.lists
    pub count : length passes + length left ≡ length key.lists
    pub has : me ≡ (Idle key (map fresh (range_with_len (length passes) (length left))), [])
    pub given : passes ≡ map (fresh_pass (lock_of opening spare id key)) (range_with_len 0 (length passes))

  module _ (history : R → History) (id : TableId) (key : Beginning R) (table : TableId) where
    -- The first of the lists that are left is given away.
    pub splits_at : (seat : ℕ) (me : Me (Option R) (View R)) (passes : List PassState) (left rest : List (List Step)) (steps : List Step) → IsDealt id key table me passes left → left ≡ steps ∷ rest →
        Splits (IsKept opening history spare key) seat me.0 (kept_of me.0) (given_of me.0)
    splits_at seat me passes left rest steps dealt is =
        let k = length passes in
        let idle : me ≡ (Idle key (fresh k ∷ map fresh (range_with_len (k + 1) (length rest))), []) = dealt.has ∙ ap (λ (l : List (List Step)). let m : Me (Option R) (View R) = (Idle key (map fresh (range_with_len k (length l))), []) in m) is in
        let others : List Progress = map fresh (range_with_len (k + 1) (length rest)) in
        let P : Me (Option R) (View R) → Type 0 = λ m. Splits (IsKept opening history spare key) seat m.0 (kept_of m.0) (given_of m.0) in
        subst P (sym idle)
        (gives_list opening history spare key seat key (fresh k) others
        (All-from_get_or (λ (p : Progress). p.number ≢ k) others (fresh k)
        (λ i lt. subst (λ (p : Progress). p.number ≢ k) (sym (get_or-map-range_with_len fresh (k + 1) (length rest) i (k + 1 + i) (fresh k) (omega (arith, lt, length-map-range_with_len fresh (k + 1) (length rest))) refl)) (λ e. omega (arith, e)))))

  module _ (id : TableId) (key : Beginning R) (table : TableId) where
    -- the view of the new seat
    pub given_view : (me now : Me (Option R) (View R)) (passes : List PassState) (left rest : List (List Step)) (steps : List Step) → IsDealt id key table me passes left → left ≡ steps ∷ rest →
        now ≡ (given_of me.0, []) → now ≡ (Idle key (fresh (length passes) ∷ []), [])
    given_view me now passes left rest steps dealt is view =
        let k = length passes in
        view ∙ ap (λ (m : Me (Option R) (View R)). let n : Me (Option R) (View R) = (given_of m.0, []) in n)
        (dealt.has ∙ ap (λ (l : List (List Step)). let m : Me (Option R) (View R) = (Idle key (map fresh (range_with_len k (length l))), []) in m) is)

    -- the list of the new pass
    pub given_list : (me : Me (Option R) (View R)) (passes : List PassState) (left rest : List (List Step)) (steps : List Step) → IsDealt id key table me passes left → left ≡ steps ∷ rest →
        (length passes < length key.lists) × (list_at key.lists (length passes) ≡ steps) × (rest ≡ drop (length passes + 1) key.lists)
    given_list me passes left rest steps dealt is =
        let k = length passes in
        let lt : k < length key.lists = omega (arith, dealt.count, ap (λ (l : List (List Step)). length l) is) in
        let both : get_or key.lists k [] ∷ drop (k + 1) key.lists ≡ steps ∷ rest = sym (drop_more key.lists k [] lt) ∙ (sym dealt.rest ∙ is) in (
          lt,
          ap (λ (l : List (List Step)). get_or l 0 []) both,
          sym (ap (λ (l : List (List Step)). drop 1 l) both),
        )

    -- the new pass keeps what a pass keeps
    pub given_pass : (me now : Me (Option R) (View R)) (passes : List PassState) (left rest : List (List Step)) (steps : List Step) → IsDealt id key table me passes left → left ≡ steps ∷ rest →
        now ≡ (given_of me.0, []) → AreLists (opening key.room).scenario.siblings key.lists → steps_in key.lists < 2 ^ 64 → IsPass opening now steps 0
    given_pass me now passes left rest steps dealt is view fair fits =
        let k = length passes in
        let given = given_list me passes left rest steps dealt is in
        let siblings = (opening key.room).scenario.siblings in
        let its : IsList siblings steps = subst (IsList siblings) given.1 (All-get_or (IsList siblings) key.lists k [] given.0 fair.each) in
        let few : length steps ≤ steps_in key.lists =
        omega (arith, sum_by-set (length {A = Step}) key.lists k [] [] given.0, ap (length {A = Step}) given.1)
        in
        record {
          begun = key;
          has = fresh k;
          idle = given_view me now passes left rest steps dealt is view;
          listed = sym given.1;
          counted = refl;
          within = omega arith;
          fits = omega (arith, few, fits);
          fair = its;
          legal = no_entry (opening key.room);
          own = refl;
          first_steps = record { each = λ number lt. (0, refl); no_other = λ actor other. refl };
        }

    -- one list more is given
    pub dealt_more : (me after given : Me (Option R) (View R)) (new : TableId) (passes now : List PassState) (left rest : List (List Step)) (steps : List Step) (its : TableId) → IsDealt id key table me passes left → left ≡ steps ∷ rest →
        new ≡ table → after ≡ (kept_of me.0, me.1) → its ≡ table → given ≡ (given_of me.0, []) → now ≡ passes ++ pass_of opening spare its given.0 ∷ [] → IsDealt id key new after now rest
    dealt_more me after given new passes now left rest steps its dealt is same view its_is given_is more =
        let k = length passes in
        let had = dealt.has ∙ ap (λ (l : List (List Step)). let m : Me (Option R) (View R) = (Idle key (map fresh (range_with_len k (length l))), []) in m) is in
        let longer : length now ≡ k + 1 = ap (λ (ps : List PassState). length ps) more ∙ length-append passes (pass_of opening spare its given.0 ∷ []) in
        let lock = lock_of opening spare id key in
        let pass_is : pass_of opening spare its given.0 ≡ fresh_pass lock k =
        ap (λ (m : Me (Option R) (View R)). pass_of opening spare its m.0) (given_view me given passes left rest steps dealt is given_is)
        ∙ ap (λ t. fresh_pass (lock_of opening spare t key) k) (its_is ∙ dealt.at)
        in
        record {
          at = same ∙ dealt.at;
          rest = (given_list me passes left rest steps dealt is).2 ∙ ap (λ (n : ℕ). drop n key.lists) (sym longer);
          count = omega (arith, dealt.count, longer, ap (λ (l : List (List Step)). length l) is);
          has =
              view ∙ ap (λ (m : Me (Option R) (View R)). let n : Me (Option R) (View R) = (kept_of m.0, m.1) in n) had
              ∙ ap (λ (n : ℕ). let m : Me (Option R) (View R) = (Idle key (map fresh (range_with_len n (length rest))), []) in m) (sym longer);
          given =
              more ∙ (λ i. dealt.given i ++ pass_is i ∷ []) ∙ sym (map-range_with_len_more (fresh_pass lock) 0 k k (omega arith))
              ∙ ap (λ (n : ℕ). map (fresh_pass lock) (range_with_len 0 n)) (sym longer);
        }

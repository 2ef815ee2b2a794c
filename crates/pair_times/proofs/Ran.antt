-- Ran: what the tasks that the siblings run are told apart by, sibling by sibling.
use Rattle.std.proofs.Common.{◌≡◌, ℕ, zero, suc, ◌+◌, Bool, true, false, List, [], ◌∷◌, ◌++◌, refl, sym, ap, ◌∙◌, inl, inr, zero-add, arith, Option, Some, None}
use Rattle.std.specs.Prelude.{◌==◌, ◌||◌}
use Rattle.std.specs.List.{list_any, range_with_len}
use Rattle.std.specs.Option.{option_map_or}
use Rattle.std.proofs.lemmas.Bool.{cases_eq, ne_eqb}
use Rattle.std.proofs.lemmas.List.Folds.{list_any-append}
use Rattle.cs_types.specs.Room.{RoomState}
use Rattle.run_times.specs.declared.by.By.{By}
use Rattle.run_times.specs.Doing.{key_run}
use Rattle.pair_times.specs.Added.{has}

or_false : (x : Bool) → (x || false) ≡ x
or_false true = refl
or_false false = refl

any_push : {X : Type 0} (p : X → Bool) (xs : List X) (x : X) → list_any p (xs ++ x ∷ []) ≡ (list_any p xs || p x)
any_push p xs x = list_any-append p xs (x ∷ []) ∙ ap (λ (b : Bool). list_any p xs || b) (or_false (p x))

range_more : (a n : ℕ) → range_with_len a (suc n) ≡ range_with_len a n ++ (a + n) ∷ []
range_more a zero = ap (λ (k : ℕ). k ∷ []) (let same : a ≡ a + 0 = omega arith in same)
range_more a (suc n) =
    let same : a + 1 + n ≡ a + suc n = omega arith in
    ap (λ (r : List ℕ). a ∷ r) (range_more (a + 1) n ∙ ap (λ (k : ℕ). range_with_len (a + 1) n ++ k ∷ []) same)

-- whether one of the first siblings runs a task with this key
abbrev pub ran_by : By → RoomState → ℕ → ℕ → Bool
ran_by by room n key = list_any (λ cpu. option_map_or (λ own. own == key) (key_run by room cpu) false) (range_with_len 0 n)

ran_by-more : (by : By) (room : RoomState) (n key : ℕ) → ran_by by room (n + 1) key ≡ (ran_by by room n key || option_map_or (λ own. own == key) (key_run by room n) false)
ran_by-more by room n key =
    let more : n + 1 ≡ suc n = omega arith in
    ap (λ (m : ℕ). ran_by by room m key) more
    ∙ ap (list_any (λ cpu. option_map_or (λ own. own == key) (key_run by room cpu) false)) (range_more 0 n)
    ∙ any_push (λ cpu. option_map_or (λ own. own == key) (key_run by room cpu) false) (range_with_len 0 n) (0 + n)
    ∙ ap (λ (m : ℕ). ran_by by room n key || option_map_or (λ own. own == key) (key_run by room m) false) (zero-add n)

-- one that runs none
pub ran_none : (by : By) (room : RoomState) (n : ℕ) (keys : List ℕ) (key : ℕ) → None ≡ key_run by room n → has key keys ≡ ran_by by room n key →
    has key keys ≡ ran_by by room (n + 1) key
ran_none by room n keys key none so_far =
    so_far ∙ sym (or_false (ran_by by room n key))
    ∙ ap (λ (run : Option ℕ). ran_by by room n key || option_map_or (λ own. own == key) run false) none
    ∙ sym (ran_by-more by room n key)

-- one that runs a task whose key is there already
pub ran_again : (by : By) (room : RoomState) (n own : ℕ) (keys : List ℕ) (key : ℕ) → Some own ≡ key_run by room n → has own keys ≡ true → has key keys ≡ ran_by by room n key →
    has key keys ≡ ran_by by room (n + 1) key
ran_again by room n own keys key runs there so_far =
    same_as ∙ ap (λ (b : Bool). b || (own == key)) so_far
    ∙ ap (λ (run : Option ℕ). ran_by by room n key || option_map_or (λ own. own == key) run false) runs
    ∙ sym (ran_by-more by room n key) where
      same_as : has key keys ≡ (has key keys || (own == key))
      same_as = elim (cases_eq own key) [
        | inl same ↦
            let is : has key keys ≡ true = ap (λ (c : ℕ). has c keys) (sym same) ∙ there in
            is ∙ sym (ap (λ (b : Bool). b || (own == key)) is)
        | inr other ↦ sym (ap (λ (b : Bool). has key keys || b) (ne_eqb own key other) ∙ or_false (has key keys))
      ]

-- one that runs a task with a new key
pub ran_new : (by : By) (room : RoomState) (n own : ℕ) (keys : List ℕ) (key : ℕ) → Some own ≡ key_run by room n → has key keys ≡ ran_by by room n key →
    has key (keys ++ own ∷ []) ≡ ran_by by room (n + 1) key
ran_new by room n own keys key runs so_far =
    any_push (λ other. other == key) keys own
    ∙ ap (λ (b : Bool). b || (own == key)) so_far
    ∙ ap (λ (run : Option ℕ). ran_by by room n key || option_map_or (λ own. own == key) run false) runs
    ∙ sym (ran_by-more by room n key)

-- Exposed: whether tasks that are told apart run side by side.
use Rattle.std.proofs.Common.{◌≡◌, ◌≢◌, ℕ, ◌<◌, Bool, true, false, length, refl, ap, ◌∙◌, Option, Some}
use Rattle.std.specs.Prelude.{not, ◌&&◌}
use Rattle.std.specs.List.{list_any}
use Rattle.std.proofs.lemmas.Bool.{eq-eqb, ne_eqb}
use Rattle.cs_types.specs.Room.{RoomState}
use Rattle.run_times.specs.declared.by.By.{By}
use Rattle.run_times.specs.Doing.{is_busy, key_run, are_one, are_apart, siblings_of, some_apart}
use Rattle.run_times.proofs.Below.{some_below, none_below}
use Rattle.run_times.proofs.Busy.{busy_by}

-- two siblings with distinct ones do
pub apart_by : (by : By) (room : RoomState) (a b x y : ℕ) → a < length room.siblings → b < length room.siblings →
    key_run by room a ≡ Some x → key_run by room b ≡ Some y → x ≢ y → some_apart by room ≡ true
apart_by by room a b x y here there xs ys differ =
    some_below (λ i. list_any (are_apart by room i) (siblings_of room)) (length room.siblings) a here
    (some_below (are_apart by room a) (length room.siblings) b there
    ((λ i. busy_by by room a x xs i && busy_by by room b y ys i && not (are_one (xs i) (ys i))) ∙ ap not (ne_eqb x y differ)))

-- the sibling runs a living task with the shared one
abbrev pub RunsShared : By → RoomState → Option ℕ → ℕ → Type 0
RunsShared by room shared cpu = (key : ℕ) × (key_run by room cpu ≡ Some key) × (shared ≡ Some key)

-- if each that does not run idle does, none are apart
pub none_apart : (by : By) (room : RoomState) (shared : Option ℕ) → ((k : ℕ) → k < length room.siblings → is_busy room k ≡ true → RunsShared by room shared k) →
    some_apart by room ≡ false
none_apart by room shared same =
    none_below (λ i. list_any (are_apart by room i) (siblings_of room)) (length room.siblings)
    (λ i here. none_below (are_apart by room i) (length room.siblings)
    (λ j there. both (is_busy room i) (is_busy room j) _ (λ one other. alike i j (same i here one) (same j there other)))) where
      both : (x y z : Bool) → (x ≡ true → y ≡ true → z ≡ false) → (x && y && z) ≡ false
      both false y z none = refl
      both true false z none = refl
      both true true z none = none refl refl

      alike : (i j : ℕ) → RunsShared by room shared i → RunsShared by room shared j → not (are_one (key_run by room i) (key_run by room j)) ≡ false
      alike i j one other =
          let is : one.0 ≡ other.0 = (let e = one.2 in let f = other.2 in cc) in
          (λ k. not (are_one (one.1 k) (other.1 k))) ∙ ap not (eq-eqb one.0 other.0 is)

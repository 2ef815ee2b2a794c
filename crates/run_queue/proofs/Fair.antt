-- Fair: the first fair task of all classes is the first of its class.
use Rattle.std.proofs.Common.{◌≡◌, ℕ, Bool, false, List, [], ◌∷◌, ◌++◌, map, refl, ap, ◌∙◌}
use Rattle.std.specs.Prelude.{◌==◌, find, slice_get}
use Rattle.std.specs.Option.{option_map}
use Rattle.std.specs.FinMap.{entries, entries-from_sorted, from_sorted}
use Rattle.std.proofs.lemmas.Bool.{cond-false}
use Rattle.cs_types.specs.Order.{fair_class}
use Rattle.cs_types.specs.Queue.{Key, Members, Seat, seat_cmp, top_of}
use Rattle.cs_types.proofs.Queues.{said}
use Rattle.order_tree.specs.Rank.{least_rank}
use Rattle.run_queue.specs.Classes.{joined}
use Rattle.run_queue.specs.Fair.{first_in, least_rank_in}
use Rattle.run_queue.proofs.Seats.{joined_rise}

-- whether an entry is that of a fair task
abbrev is_fair : Seat × ℕ → Bool
is_fair entry = entry.0.0 == fair_class

-- none of another class is
passed : (class : ℕ) (es : List (Key × ℕ)) (later : List (Seat × ℕ)) → (class == fair_class) ≡ false →
    find is_fair (map (λ (e : Key × ℕ). ((class, e.0), e.1)) es ++ later) ≡ find is_fair later
passed class [] later other = refl
passed class (e ∷ es) later other = cond-false _ _ _ other ∙ passed class es later other

first_here : (es : List (Key × ℕ)) →
    option_map (λ (e : Seat × ℕ). e.1) (find is_fair (map (λ (e : Key × ℕ). ((fair_class, e.0), e.1)) es ++ [])) ≡ slice_get (map (λ (e : Key × ℕ). e.1) es) 0
first_here [] = refl
first_here (e ∷ es) = refl

first_joined : (stop deadline real_time fair : Members) →
    find is_fair (entries (from_sorted {R = seat_cmp} (joined stop deadline real_time fair))) ≡ find is_fair (map (λ (e : Key × ℕ). ((fair_class, e.0), e.1)) (entries fair) ++ [])
first_joined stop deadline real_time fair =
    ap (λ (es : List (Seat × ℕ)). find is_fair es) (entries-from_sorted seat_cmp (joined stop deadline real_time fair) (said (joined_rise stop deadline real_time fair)))
    ∙ passed 0 (entries stop) _ refl ∙ passed 1 (entries deadline) _ refl ∙ passed 2 (entries real_time) _ refl

pub first_in-joined : (stop deadline real_time fair : Members) → first_in fair_class (from_sorted (joined stop deadline real_time fair)) ≡ top_of fair
first_in-joined stop deadline real_time fair =
    ap (option_map (λ (e : Seat × ℕ). e.1)) (first_joined stop deadline real_time fair) ∙ first_here (entries fair)

least_here : (es : List (Key × ℕ)) →
    option_map (λ (e : Seat × ℕ). e.0.1.0) (find is_fair (map (λ (e : Key × ℕ). ((fair_class, e.0), e.1)) es ++ [])) ≡ option_map (λ (e : Key × ℕ). e.0.0) (slice_get es 0)
least_here [] = refl
least_here (e ∷ es) = refl

pub least_rank_in-joined : (stop deadline real_time fair : Members) → least_rank_in fair_class (from_sorted (joined stop deadline real_time fair)) ≡ least_rank fair
least_rank_in-joined stop deadline real_time fair =
    ap (option_map (λ (e : Seat × ℕ). e.0.1.0)) (first_joined stop deadline real_time fair) ∙ least_here (entries fair)

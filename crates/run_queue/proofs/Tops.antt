-- Tops: how many comparisons it takes to see that a class has no first task.
use Rattle.std.proofs.Common.{◌≡◌, ℕ, ◌+◌, ◌*◌, List, [], ◌∷◌, map, length, refl, ap, ◌∙◌, None}
use Rattle.std.specs.Prelude.{slice_get}
use Rattle.std.specs.FinMap.{entries, len, len-entries}
use Rattle.cs_types.specs.Comparisons.{digits, most_comparisons}
use Rattle.cs_types.specs.Queue.{top_of, Key, Members}

pub no_digits : digits 0 ≡ 0
unfolding digits
no_digits = refl

-- a class that has no first task has no task
none_there : (members : Members) → top_of members ≡ None → len members ≡ 0
none_there members none = len-entries members ∙ by_entries (entries members) none where
  by_entries : (es : List (Key × ℕ)) → slice_get (map (λ (entry : Key × ℕ). entry.1) es) 0 ≡ None → length es ≡ 0
  by_entries [] is = refl
  by_entries (e ∷ es) is = absurd cc

-- so two comparisons are the most of a search in it
pub none_compared : (members : Members) → top_of members ≡ None → most_comparisons (len members) ≡ 2
none_compared members none = ap most_comparisons (none_there members none) ∙ ap (λ n. 2 * n + 2) no_digits

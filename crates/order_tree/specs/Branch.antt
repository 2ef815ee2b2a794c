-- Branch: what a tree or a part of one stands for. No public clause cites this module.
use Rattle.std.specs.Prelude.{ℕ, List, not, Bool, true, false, refl}
use Rattle.std.specs.Coded.{Coded, code_by, coded×, coded_list, coded_ℕ}
use Rattle.std.specs.FinMap.{code}
use Rattle.std.specs.FinMap.Entries.{where_key}
use Rattle.std.specs.Ordering.{eq_by_cmp}
use Rattle.std.specs.declared.cmp.Ordering.{Ordering}
use Rattle.std.specs.declared.cmp.Ordering.TheVariants.{Less, Equal, Greater}
use Rattle.order_tree.specs.Order.{Entry, Members, Ordered, key_cmp}
use Rattle.order_tree.specs.declared.key.Key.{Key}

-- the entries by rising key, and the number of levels
pub record Branch : Type 0 where
  pub entries : List Entry
  pub height : ℕ

abbrev pub key_code : Coded Key
key_code =
    code_by (ℕ × (ℕ × (ℕ × ℕ))) (coded× coded_ℕ (coded× coded_ℕ (coded× coded_ℕ coded_ℕ))) (λ key. (key.group, (key.class, (key.rank, key.stamp))))
    (λ parts. record { group = parts.0; class = parts.1.0; rank = parts.1.1.0; stamp = parts.1.1.1 }) (λ _. refl)

abbrev pub branch_code : Coded Branch
branch_code =
    code_by (List Entry × ℕ) (coded× (coded_list (coded× key_code coded_ℕ)) coded_ℕ) (λ branch. (branch.entries, branch.height))
    (λ parts. record { entries = parts.0; height = parts.1 }) (λ _. refl)

abbrev pub ordered_code : Coded Ordered
ordered_code =
    code_by (Members × ℕ) (coded× (code key_code coded_ℕ) coded_ℕ) (λ tree. (tree.members, tree.spare))
    (λ parts. record { members = parts.0; spare = parts.1 }) (λ _. refl)

-- the entries of all other keys
abbrev pub without : Key → List Entry → List Entry
without key entries = where_key key_cmp (λ other. not (eq_by_cmp key_cmp key other)) entries

-- whether a key that compares so with another is above it, or maybe at it
abbrev pub reaches : Bool → Ordering → Bool
reaches at Less = false
reaches at Equal = at
reaches at Greater = true

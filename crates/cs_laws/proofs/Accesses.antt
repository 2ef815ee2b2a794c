-- Accesses: asking the guards changes no later answer of theirs.
use Rattle.std.proofs.Common.{◌≡◌, ℕ, zero, suc, ◌+◌, false, List, [], ◌∷◌, ◌++◌, map, refl, sym, ap, ◌∙◌}
use Rattle.std.specs.Prelude.{◌==◌, ◌&&◌}
use Rattle.std.specs.List.{list_any}
use Rattle.std.proofs.Math.ListN.{get_or}
use Rattle.std.proofs.Math.Seq.{map-set_same}
use Rattle.cs_types.specs.declared.task.TaskSpec.{TaskSpec}
use Rattle.cs_types.specs.Guards.{GuardState, GuardList, no_guard, guard_of, asked_once, asked_each, asked_until}
use Rattle.cs_types.specs.Access.{Rule, guard_rule, kernel_rules, access_rules, first_decision, may_access, asked_about}

-- one asking after another
pub asked_each-append : (guards : GuardList) (first then : List ℕ) → asked_each guards (first ++ then) ≡ asked_each (asked_each guards first) then
asked_each-append guards [] then = refl
asked_each-append guards (index ∷ first) then = asked_each-append (asked_once guards index) first then

-- the pairs of a guard, by the pairs of all
pairs_at : (all : List GuardState) (index : ℕ) → (get_or all index no_guard).pairs ≡ get_or (map (λ (guard : GuardState). guard.pairs) all) index []
pairs_at [] index = refl
pairs_at (guard ∷ all) zero = refl
pairs_at (guard ∷ all) (suc index) = pairs_at all index

pairs-asked_once : (guards : GuardList) (index other : ℕ) → (guard_of (asked_once guards index) other).pairs ≡ (guard_of guards other).pairs
pairs-asked_once guards index other =
    pairs_at (asked_once guards index).all other
    ∙ ap (λ (pairs : List (List (ℕ × ℕ))). get_or pairs other [])
    (map-set_same (λ (guard : GuardState). guard.pairs) guards.all index (record (guard_of guards index) { asked = (guard_of guards index).asked + 1 }) no_guard refl)
    ∙ sym (pairs_at guards.all other)

rules_alike : (guards : GuardList) (index : ℕ) (caller target : TaskSpec) (active : List ℕ) →
    map (guard_rule (asked_once guards index) caller target) active ≡ map (guard_rule guards caller target) active
rules_alike guards index caller target [] = refl
rules_alike guards index caller target (other ∷ active) =
    λ i. refuses_alike i ∷ rules_alike guards index caller target active i where
      refuses_alike : guard_rule (asked_once guards index) caller target other ≡ guard_rule guards caller target other
      refuses_alike =
          ap (λ (pairs : List (ℕ × ℕ)). record {
            decides = list_any (λ refused. (caller.creds.ruid == refused.0) && (target.creds.ruid == refused.1)) pairs;
            allows = false;
            asks = other ∷ [];
          }) (pairs-asked_once guards index other)

-- So the rules stay the same.
pub access_rules-asked_each : (guards : GuardList) (indices : List ℕ) (caller target : TaskSpec) →
    access_rules (asked_each guards indices) caller target ≡ access_rules guards caller target
access_rules-asked_each guards [] caller target = refl
access_rules-asked_each guards (index ∷ indices) caller target =
    access_rules-asked_each (asked_once guards index) indices caller target
    ∙ ap (λ (rules : List Rule). kernel_rules caller target ++ rules) (rules_alike guards index caller target guards.active)

pub may_access-asked_each : (guards : GuardList) (indices : List ℕ) (caller target : TaskSpec) →
    may_access (asked_each guards indices) caller target ≡ may_access guards caller target
unfolding may_access
may_access-asked_each guards indices caller target = ap first_decision (access_rules-asked_each guards indices caller target)

pub asked_about-asked_each : (guards : GuardList) (indices : List ℕ) (caller target : TaskSpec) →
    asked_about (asked_each guards indices) caller target ≡ asked_about guards caller target
unfolding asked_about
asked_about-asked_each guards indices caller target =
    ap (λ (rules : List Rule). asked_until (map (λ (rule : Rule). (rule.decides, rule.asks)) rules)) (access_rules-asked_each guards indices caller target)

-- Decisions: what the rules of access decide in turn, those of the kernel itself and then those of the guards.
use Rattle.std.proofs.Common.{◌≡◌, ℕ, Bool, true, false, cond, List, [], ◌∷◌, ◌++◌, map, length, refl, sym, ◌∙◌, ap, inl, inr, Some, None, arith}
use Rattle.std.specs.Prelude.{not, ◌&&◌, find}
use Rattle.std.specs.Option.{option_map}
use Rattle.std.specs.List.{list_all, AllByRecursion}
use Rattle.std.proofs.lemmas.Bool.{cases_Bool, cond-true, cond-false}
use Rattle.cs_types.specs.declared.task.TaskSpec.{TaskSpec}
use Rattle.cs_types.specs.Guards.{GuardList, guard_of, refuses, asked_until}
use Rattle.cs_types.specs.Access.{Rule, first_decision, kernel_rules, guard_rule, may_access, asked_about}

-- a rule as a condition, with the guards that are asked for it
abbrev tried : Rule → Bool × List ℕ
tried rule = (rule.decides, rule.asks)

-- ---- some rules before others

decided : (rules others : List Rule) (allows : Bool) → Some allows ≡ option_map (λ rule. rule.allows) (find (λ rule. rule.decides) rules) → allows ≡ first_decision (rules ++ others)
decided [] others allows is = absurd cc
decided (rule ∷ rules) others allows is =
    elim (cases_Bool rule.decides) [
      | inl here ↦
          let found = is ∙ ap (option_map (λ (rule : Rule). rule.allows)) (cond-true rule.decides (Some rule) (find (λ rule. rule.decides) rules) here) in
          let same : allows ≡ rule.allows = cc in
          same ∙ sym (cond-true rule.decides rule.allows (first_decision (rules ++ others)) here)
      | inr later ↦
          let found = is ∙ ap (option_map (λ (rule : Rule). rule.allows)) (cond-false rule.decides (Some rule) (find (λ rule. rule.decides) rules) later) in
          decided rules others allows found ∙ sym (cond-false rule.decides rule.allows (first_decision (rules ++ others)) later)
    ]

undecided : (rules others : List Rule) → None ≡ option_map (λ rule. rule.allows) (find (λ rule. rule.decides) rules) → first_decision (rules ++ others) ≡ first_decision others
undecided [] others is = refl
undecided (rule ∷ rules) others is =
    elim (cases_Bool rule.decides) [
      | inl here ↦
          let found = is ∙ ap (option_map (λ (rule : Rule). rule.allows)) (cond-true rule.decides (Some rule) (find (λ rule. rule.decides) rules) here) in absurd cc
      | inr later ↦
          let found = is ∙ ap (option_map (λ (rule : Rule). rule.allows)) (cond-false rule.decides (Some rule) (find (λ rule. rule.decides) rules) later) in
          cond-false rule.decides rule.allows (first_decision (rules ++ others)) later ∙ undecided rules others found
    ]

-- for none of these rules a guard is asked
abbrev AskNobody : List Rule → Type 0
AskNobody rules = AllByRecursion (λ rule. rule.asks ≡ []) rules

decided-asked : (rules others : List Rule) (allows : Bool) → AskNobody rules → Some allows ≡ option_map (λ rule. rule.allows) (find (λ rule. rule.decides) rules) → asked_until (map tried (rules ++ others)) ≡ []
decided-asked [] others allows nobody is = absurd cc
decided-asked (rule ∷ rules) others allows nobody is =
    ap (λ (asks : List ℕ). asks ++ cond rule.decides [] (asked_until (map tried (rules ++ others)))) nobody.0
    ∙ elim (cases_Bool rule.decides) [
      | inl here ↦ cond-true rule.decides [] (asked_until (map tried (rules ++ others))) here
      | inr later ↦
          let found = is ∙ ap (option_map (λ (rule : Rule). rule.allows)) (cond-false rule.decides (Some rule) (find (λ rule. rule.decides) rules) later) in
          cond-false rule.decides [] (asked_until (map tried (rules ++ others))) later ∙ decided-asked rules others allows nobody.1 found
    ]

undecided-asked : (rules others : List Rule) → AskNobody rules → None ≡ option_map (λ rule. rule.allows) (find (λ rule. rule.decides) rules) → asked_until (map tried (rules ++ others)) ≡ asked_until (map tried others)
undecided-asked [] others nobody is = refl
undecided-asked (rule ∷ rules) others nobody is =
    ap (λ (asks : List ℕ). asks ++ cond rule.decides [] (asked_until (map tried (rules ++ others)))) nobody.0
    ∙ elim (cases_Bool rule.decides) [
      | inl here ↦
          let found = is ∙ ap (option_map (λ (rule : Rule). rule.allows)) (cond-true rule.decides (Some rule) (find (λ rule. rule.decides) rules) here) in absurd cc
      | inr later ↦
          let found = is ∙ ap (option_map (λ (rule : Rule). rule.allows)) (cond-false rule.decides (Some rule) (find (λ rule. rule.decides) rules) later) in
          cond-false rule.decides [] (asked_until (map tried (rules ++ others))) later ∙ undecided-asked rules others nobody.1 found
    ]

-- ---- the guards

guards_decide : (guards : GuardList) (caller target : TaskSpec) (active : List ℕ) →
    first_decision (map (guard_rule guards caller target) active) ≡ list_all (λ index. not (refuses (guard_of guards index) (caller.creds.ruid, target.creds.ruid))) active
guards_decide guards caller target [] = refl
guards_decide guards caller target (index ∷ active) =
    refused_or (refuses (guard_of guards index) (caller.creds.ruid, target.creds.ruid)) (guards_decide guards caller target active) where
      refused_or : (refused : Bool) {a b : Bool} → a ≡ b → cond refused false a ≡ (not refused && b)
      refused_or true same = refl
      refused_or false same = same

guards_asked : (guards : GuardList) (caller target : TaskSpec) (active : List ℕ) →
    asked_until (map tried (map (guard_rule guards caller target) active))
    ≡ asked_until (map (λ index. (refuses (guard_of guards index) (caller.creds.ruid, target.creds.ruid), index ∷ [])) active)
guards_asked guards caller target [] = refl
guards_asked guards caller target (index ∷ active) =
    ap (λ (rest : List ℕ). index ∷ cond (refuses (guard_of guards index) (caller.creds.ruid, target.creds.ruid)) [] rest) (guards_asked guards caller target active)

-- ---- an access

-- where the kernel decides, its decision is the answer, and nobody is asked
pub kernel_decides : (guards : GuardList) (caller target : TaskSpec) (allows : Bool) → Some allows ≡ option_map (λ rule. rule.allows) (find (λ rule. rule.decides) (kernel_rules caller target)) →
    (allows ≡ may_access guards caller target) × (asked_about guards caller target ≡ [])
unfolding may_access asked_about
kernel_decides guards caller target allows is =
    let others = map (guard_rule guards caller target) guards.active in
    (decided (kernel_rules caller target) others allows is, decided-asked (kernel_rules caller target) others allows (refl, (refl, (refl, (refl, tt)))) is)

-- where it does not, the guards decide
pub kernel_undecided : (guards : GuardList) (caller target : TaskSpec) → None ≡ option_map (λ rule. rule.allows) (find (λ rule. rule.decides) (kernel_rules caller target)) →
    (may_access guards caller target ≡ list_all (λ index. not (refuses (guard_of guards index) (caller.creds.ruid, target.creds.ruid))) guards.active)
    × (asked_about guards caller target ≡ asked_until (map (λ index. (refuses (guard_of guards index) (caller.creds.ruid, target.creds.ruid), index ∷ [])) guards.active))
unfolding may_access asked_about
kernel_undecided guards caller target is =
    let others = map (guard_rule guards caller target) guards.active in (
      undecided (kernel_rules caller target) others is ∙ guards_decide guards caller target guards.active,
      undecided-asked (kernel_rules caller target) others (refl, (refl, (refl, (refl, tt)))) is ∙ guards_asked guards caller target guards.active,
    )

none_in : (xs : List ℕ) → length xs ≡ 0 → xs ≡ []
none_in [] none = refl
none_in (x ∷ xs) none = absurd (omega arith)

-- where no guard is active either, the answer is yes, and nobody is asked
pub nobody_decides : (guards : GuardList) (caller target : TaskSpec) → length guards.active ≡ 0 → None ≡ option_map (λ rule. rule.allows) (find (λ rule. rule.decides) (kernel_rules caller target)) →
    (true ≡ may_access guards caller target) × (asked_about guards caller target ≡ [])
nobody_decides guards caller target none is =
    let test : ℕ → Bool = λ index. refuses (guard_of guards index) (caller.creds.ruid, target.creds.ruid) in
    let parts = kernel_undecided guards caller target is in
    let empty = none_in guards.active none in (
      sym (parts.0 ∙ ap (list_all (λ index. not (test index))) empty),
      parts.1 ∙ ap (λ (active : List ℕ). asked_until (map (λ (index : ℕ). (test index, index ∷ [])) active)) empty,
    )

use Rattle.std.proofs.Common.{◌≡◌, ℕ, Bool, true, false, cond, not, List, [], ◌∷◌, ◌++◌, length, refl, sym, ap, ◌∙◌, subst, arith, inl, inr, Some, None}
use Rattle.std.specs.Prelude.{nat_lt, IsTrue, ◌==◌, slice_index_or}
use Rattle.std.specs.Option.{option_map}
use Rattle.std.proofs.lemmas.Bool.{cases_Bool, ltb-true, ltb-false, ne_eqb, eq-eqb}
use Rattle.cs_types.specs.declared.scenario.Teach.{Teach}
use Rattle.cs_types.specs.Guards.{GuardState, GuardList, guard_of, with_guard, taught, guards_on_bench, is_bench}
use Rattle.ptrace_check.specs.Answers.{IsTeachAnswer, with_answer}
use Rattle.ptrace_check.specs.Guards.{cap_of}
use Rattle.ptrace_check.specs.declared.answer.TeachAnswer.{TeachAnswer}
use Rattle.ptrace_check.specs.declared.answer.TeachAnswer.TheVariants as answer
use Rattle.scenario_input.specs.declared.stop.GuardKind.{GuardKind}
use Rattle.scenario_input.specs.declared.stop.GuardKind.TheVariants.{NoGuard, Full}
use Rattle.scenario_input.specs.Teaching.{BadTeach, fault_of}
use Rattle.scenario_input.proofs.Lines.{guard_is, no_guard_is, guards_more}
use Rattle.scenario_input.proofs.teaching.teach.Goals as goal

-- what is said of a line by the guards is said by the lines before it
module _ (guards : GuardList) (caps : List ℕ) (earlier : List Teach) (teach : Teach) (known : guards ≡ guards_on_bench earlier (length caps)) where
  -- a guard on the bench was handed in
  handed_in : IsTrue (is_bench (guard_of guards teach.guard).place) → nat_lt teach.guard (length caps) ≡ true
  handed_in bench = elim (cases_Bool (nat_lt teach.guard (length caps))) [
    | inl is ↦ is
    | inr isnt ↦ let wrong : false ≡ true = subst (λ (g : GuardState). IsTrue (is_bench g.place)) (ap (λ (all : GuardList). guard_of all teach.guard) known ∙ no_guard_is earlier teach (length caps) (ltb-false teach.guard (length caps) isnt)) bench in absurd cc
  ]

  pairs_are : nat_lt teach.guard (length caps) ≡ true → length (guard_of guards teach.guard).pairs ≡ length (taught earlier teach.guard)
  pairs_are is =
      ap (λ (g : GuardState). length g.pairs) (ap (λ (all : GuardList). guard_of all teach.guard) known ∙ guard_is earlier teach (length caps) (ltb-true teach.guard (length caps) is))

  -- of another none was
  not_handed_in : IsTrue (not (is_bench (guard_of guards teach.guard).place)) → nat_lt teach.guard (length caps) ≡ false
  not_handed_in other = elim (cases_Bool (nat_lt teach.guard (length caps))) [
    | inl is ↦ let wrong : false ≡ true = subst (λ (g : GuardState). IsTrue (not (is_bench g.place))) (ap (λ (all : GuardList). guard_of all teach.guard) known ∙ guard_is earlier teach (length caps) (ltb-true teach.guard (length caps) is)) other in absurd cc
    | inr isnt ↦ isnt
  ]

  fault_by : (below full : Bool) → nat_lt teach.guard (length caps) ≡ below → (length (taught earlier teach.guard) == slice_index_or caps teach.guard 0) ≡ full →
      fault_of caps earlier teach ≡ cond (not below) (Some NoGuard) (cond full (Some Full) None)
  fault_by below full is too = λ i. cond (not (is i)) (Some NoGuard) (cond (too i) (Some Full) None)

  pub no_fault : IsTeachAnswer (guard_of guards teach.guard) (cap_of caps teach.guard) answer.Taught → fault_of caps earlier teach ≡ None
  no_fault says =
      let is = handed_in says.0 in
      fault_by true false is (ne_eqb (length (taught earlier teach.guard)) (slice_index_or caps teach.guard 0) (λ e. omega (arith, says.1, pairs_are is, e)))

  pub no_guard_fault : IsTeachAnswer (guard_of guards teach.guard) (cap_of caps teach.guard) answer.NoGuard → fault_of caps earlier teach ≡ Some NoGuard
  no_guard_fault says = fault_by false _ (not_handed_in says) refl

  pub full_fault : (named : ℕ) → IsTeachAnswer (guard_of guards teach.guard) (cap_of caps teach.guard) (answer.Full named) → fault_of caps earlier teach ≡ Some Full
  full_fault named says =
      let is = handed_in says.0 in
      fault_by true true is (eq-eqb (length (taught earlier teach.guard)) (slice_index_or caps teach.guard 0) (sym (pairs_are is) ∙ says.2))

  pub more : IsTeachAnswer (guard_of guards teach.guard) (cap_of caps teach.guard) answer.Taught →
      with_guard guards teach.guard (with_answer answer.Taught (teach.from, teach.to) (guard_of guards teach.guard)) ≡ guards_on_bench (earlier ++ teach ∷ []) (length caps)
  more says =
      ap (λ (all : GuardList). with_guard all teach.guard (record (guard_of all teach.guard) { pairs = (guard_of all teach.guard).pairs ++ (teach.from, teach.to) ∷ [] })) known
      ∙ guards_more earlier teach (length caps) (ltb-true teach.guard (length caps) (handed_in says.0))

pub returns-in-Taught-clause-taught : goal.returns-in-Taught-clause-taught
returns-in-Taught-clause-taught g c earlier known =
    let guards = c.args.guards.now.guards in
    let teach = c.args.teach.now in
    let says = subst (IsTeachAnswer (guard_of guards teach.guard) (cap_of c.args.guards.now.caps teach.guard)) c.in-Taught.is c.teach.ensures.answer in
    record {
      fits = no_fault guards c.args.guards.now.caps earlier teach known says;
      guards = c.teach.ensures.taught
          ∙ ap (λ (said : TeachAnswer). with_guard guards teach.guard (with_answer said (teach.from, teach.to) (guard_of guards teach.guard))) c.in-Taught.is
          ∙ more guards c.args.guards.now.caps earlier teach known says;
    }

pub returns-in-NoGuard-clause-stop : goal.returns-in-NoGuard-clause-stop
returns-in-NoGuard-clause-stop g c earlier known =
    let guards = c.args.guards.now.guards in
    let teach = c.args.teach.now in
    let says = subst (IsTeachAnswer (guard_of guards teach.guard) (cap_of c.args.guards.now.caps teach.guard)) c.in-NoGuard.is c.teach.ensures.answer in
    ap (option_map (λ (kind : GuardKind). let bad : BadTeach = record { line = teach.line; kind = kind } in bad)) (no_guard_fault guards c.args.guards.now.caps earlier teach known says)

pub returns-in-Full-clause-stop : goal.returns-in-Full-clause-stop
returns-in-Full-clause-stop g c earlier known =
    let guards = c.args.guards.now.guards in
    let teach = c.args.teach.now in
    let says = subst (IsTeachAnswer (guard_of guards teach.guard) (cap_of c.args.guards.now.caps teach.guard)) c.in-Full.is c.teach.ensures.answer in
    ap (option_map (λ (kind : GuardKind). let bad : BadTeach = record { line = teach.line; kind = kind } in bad)) (full_fault guards c.args.guards.now.caps earlier teach known c.in-Full.cap says)

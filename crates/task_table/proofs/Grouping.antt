-- What spans say of the tasks, and what a task that comes or leaves makes of them.
use Rattle.std.proofs.Common.{◌≡◌, ◌≢◌, ℕ, zero, suc, ◌<◌, ◌≤◌, cond, List, [], ◌∷◌, length, get_or, set, replicate, inl, inr, refl, sym, ap, ◌∙◌, subst, arith, eq-eqb, ne_eqb}
use Rattle.std.specs.Prelude.{◌==◌, insert, remove, count_by}
use Rattle.std.specs.List.{AllByRecursion}
use Rattle.std.proofs.lemmas.Bool.{cases_eq, cond-true, cond-false}
use Rattle.std.proofs.lemmas.List.Sums.{sum_by-cons, sum_by-insert, sum_by-remove, count_by-le-length}
use Rattle.std.proofs.lemmas.List.{get_or-set_same, get_or-set_other}
use Rattle.task_table.specs.declared.spans.Span.{Span}
use Rattle.task_table.specs.Grouping.{place_of, no_span, span_at, Joins, Leaves, OthersStay, is_at_place, AreSpans, HasMember}

-- whether a member counts at a place
abbrev here : ℕ → ℕ × ℕ → ℕ
here place member = cond (is_at_place place member) 1 0

here-own : (member : ℕ × ℕ) → here (place_of member.0) member ≡ 1
here-own member = cond-true (place_of member.0 == place_of member.0) 1 0 (eq-eqb (place_of member.0) (place_of member.0) refl)

here-other : (place : ℕ) (member : ℕ × ℕ) → place ≢ place_of member.0 → here place member ≡ 0
here-other place member apart = cond-false (place_of member.0 == place) 1 0 (ne_eqb (place_of member.0) place (λ same. apart (sym same)))

-- no task, no count
pub no_spans : (place : ℕ) → (n : ℕ) → span_at (replicate n no_span) place ≡ no_span
no_spans place zero = refl
no_spans zero (suc n) = refl
no_spans (suc place) (suc n) = no_spans place n

-- ---- the numbers of a span that one more task joins, or that one leaves

module _ (old new : List Span) (place : ℕ) (others : OthersStay place old new) where
  -- a member of another span, or of one whose least is no higher, keeps its bound
  bounded : (member : ℕ × ℕ) → (place_of member.0 ≡ place → (span_at new place).least ≤ member.1) →
      (span_at old (place_of member.0)).least ≤ member.1 → (span_at new (place_of member.0)).least ≤ member.1
  bounded member own least =
      elim (cases_eq (place_of member.0) place) [
        | inl same ↦ subst (λ p. (span_at new p).least ≤ member.1) (sym same) (own same)
        | inr apart ↦ omega (arith, ap (λ (span : Span). span.least) (others (place_of member.0) apart), least)
      ]

  joined_leasts : (pid : ℕ) → Joins pid (span_at old place) (span_at new place) → (members : List (ℕ × ℕ)) →
      count_by (is_at_place place) members ≤ (span_at old place).count →
      AllByRecursion (λ member. (span_at old (place_of member.0)).least ≤ member.1) members →
      AllByRecursion (λ member. (span_at new (place_of member.0)).least ≤ member.1) members
  joined_leasts pid joins [] few leasts = tt
  joined_leasts pid joins (member ∷ members) few leasts =
      let cons = sum_by-cons (here place) member members in (
        bounded member
            (λ same. let one : here place member ≡ 1 = subst (λ p. here p member ≡ 1) same (here-own member) in
            let some : (span_at old place).count ≢ 0 = λ none. absurd (omega (arith, cons, one, few, none)) in
            let least = subst (λ p. (span_at old p).least ≤ member.1) same leasts.0 in
            omega (arith, joins.others some, least))
            leasts.0,
        joined_leasts pid joins members (omega (arith, cons, few)) leasts.1,
      )

  left_leasts : Leaves (span_at old place) (span_at new place) → (members : List (ℕ × ℕ)) →
      AllByRecursion (λ member. (span_at old (place_of member.0)).least ≤ member.1) members →
      AllByRecursion (λ member. (span_at new (place_of member.0)).least ≤ member.1) members
  left_leasts leaves [] leasts = tt
  left_leasts leaves (member ∷ members) leasts = (
    bounded member
        (λ same. let least = subst (λ p. (span_at old p).least ≤ member.1) same leasts.0 in omega (arith, leaves.least, least))
        leasts.0,
    left_leasts leaves members leasts.1,
  )

all_insert : {X : Type 0} (P : X → Type 0) (xs : List X) (i : ℕ) (x : X) → AllByRecursion P xs → P x → AllByRecursion P (insert xs i x)
all_insert P xs zero x all one = (one, all)
all_insert P [] (suc i) x all one = (one, tt)
all_insert P (y ∷ ys) (suc i) x all one = (all.0, all_insert P ys i x all.1 one)

all_remove : {X : Type 0} (P : X → Type 0) (xs : List X) (i : ℕ) → AllByRecursion P xs → AllByRecursion P (remove xs i)
all_remove P [] zero all = tt
all_remove P [] (suc i) all = tt
all_remove P (y ∷ ys) zero all = all.1
all_remove P (y ∷ ys) (suc i) all = (all.0, all_remove P ys i all.1)

-- a task comes
pub spans_insert : (old new : List Span) (members : List (ℕ × ℕ)) (i : ℕ) (member : ℕ × ℕ) → AreSpans old members →
    Joins member.1 (span_at old (place_of member.0)) (span_at new (place_of member.0)) → OthersStay (place_of member.0) old new →
    AreSpans new (insert members i member)
spans_insert old new members i member spans joins others =
    let place = place_of member.0 in
    record {
      counts = λ at.
          let sum = sum_by-insert (here at) members i member in
          elim (cases_eq at place) [
            | inl same ↦
                let one : here at member ≡ 1 = subst (λ p. here p member ≡ 1) (sym same) (here-own member) in
                omega (arith, ap (λ p. (span_at new p).count) same, joins.count, ap (λ p. (span_at old p).count) same, spans.counts at, sum, one)
            | inr apart ↦
                omega (arith, ap (λ (span : Span). span.count) (others at apart), spans.counts at, sum, here-other at member apart)
          ];
      leasts = all_insert (λ m. (span_at new (place_of m.0)).least ≤ m.1) members i member
          (joined_leasts old new place others member.1 joins members (omega (arith, spans.counts place)) spans.leasts) joins.own;
    }

-- a task leaves
pub spans_remove : (old new : List Span) (members : List (ℕ × ℕ)) (i : ℕ) (member : ℕ × ℕ) → AreSpans old members → HasMember members i member →
    Leaves (span_at old (place_of member.0)) (span_at new (place_of member.0)) → OthersStay (place_of member.0) old new →
    AreSpans new (remove members i)
spans_remove old new members i member spans at_i leaves others =
    let place = place_of member.0 in
    record {
      counts = λ at.
          let sum = sum_by-remove (here at) members i member at_i.within in
          let own : here at (get_or members i member) ≡ here at member = ap (here at) at_i.is in
          elim (cases_eq at place) [
            | inl same ↦
                let one : here at member ≡ 1 = subst (λ p. here p member ≡ 1) (sym same) (here-own member) in
                omega (arith, ap (λ p. (span_at new p).count) same, leaves.count, ap (λ p. (span_at old p).count) same, spans.counts at, sum, own, one)
            | inr apart ↦
                omega (arith, ap (λ (span : Span). span.count) (others at apart), spans.counts at, sum, own, here-other at member apart)
          ];
      leasts = all_remove (λ m. (span_at new (place_of m.0)).least ≤ m.1) members i (left_leasts old new place others leaves members spans.leasts);
    }

-- the span of a member counts it
pub some_of : (spans : List Span) (members : List (ℕ × ℕ)) (i : ℕ) (member : ℕ × ℕ) → AreSpans spans members →
    HasMember members i member → (span_at spans (place_of member.0)).count ≢ 0
some_of spans members i member are at_i none =
    let place = place_of member.0 in
    let sum = sum_by-remove (here place) members i member at_i.within in
    let own : here place (get_or members i member) ≡ 1 = ap (here place) at_i.is ∙ here-own member in
    absurd (omega (arith, sum, own, are.counts place, none))

-- as many tasks as there are, and no more, are of a span
pub few_of : (spans : List Span) (members : List (ℕ × ℕ)) (place : ℕ) → AreSpans spans members → (span_at spans place).count ≤ length members
few_of spans members place are = omega (arith, are.counts place, count_by-le-length (is_at_place place) members)

-- what is put in the place of a member
pub instead : {X : Type 0} (xs : List X) (i : ℕ) (x : X) → i < length xs → insert (remove xs i) i x ≡ set xs i x
instead [] i x within = absurd (omega arith)
instead (y ∷ ys) zero x within = refl
instead (y ∷ ys) (suc i) x within = ap (λ zs. y ∷ zs) (instead ys i x (omega arith))

-- the span that is read at a place
pub read_at : (spans : List Span) (place : ℕ) (span : Span) → place < length spans → span ≡ get_or spans place span → span_at spans place ≡ span
read_at [] place span within is = absurd (omega arith)
read_at (first ∷ spans) zero span within is = sym is
read_at (first ∷ spans) (suc place) span within is = read_at spans place span (omega arith) is

-- a span is written at a place
pub others_stay : (spans : List Span) (place : ℕ) (span : Span) → OthersStay place spans (set spans place span)
others_stay spans place span other apart = get_or-set_other spans place other span no_span apart

pub written_at : (spans : List Span) (place : ℕ) (span : Span) → place < length spans → span_at (set spans place span) place ≡ span
written_at spans place span within = get_or-set_same spans place span no_span within

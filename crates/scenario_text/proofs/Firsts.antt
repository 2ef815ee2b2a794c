-- First bad lines: a text's lines are cut behind those that are good.
use Rattle.std.proofs.Common.{◌≡◌, ℕ, suc, List, ◌++◌, length, take, drop, Option, Some, None, refl, sym, ap, ◌∙◌, arith, inl, inr}
use Rattle.std.specs.Prelude.{◌-◌}
use Rattle.std.proofs.lemmas.Bool.{cases_lt}
use Rattle.std.proofs.lemmas.List.{take_at, drop_at}
use Rattle.scenario_text.specs.declared.fault.BadKind.{BadKind}
use Rattle.scenario_text.specs.Words.{Word}
use Rattle.scenario_text.specs.Faults.{kind_of, kind_at, IsFirstBad}
use Rattle.scenario_text.specs.Reading.{AreGood}

module _ (lines before rest : List (List Word)) (cut : lines ≡ before ++ rest) where
  kind_here : kind_of (take (length before) lines) (drop (length before) lines) ≡ kind_of before rest
  kind_here =
      rw cut (ap (λ (ls : List (List Word)). kind_of ls (drop (length before) (before ++ rest))) (take_at before rest (length before) refl)
      ∙ ap (kind_of before) (drop_at before rest (length before) refl))

  -- one more good line
  pub good_more : (count : ℕ) → count ≡ length before → AreGood lines count → kind_of before rest ≡ None → (more : ℕ) → more ≡ suc count → AreGood lines more
  good_more count is good here more next k below =
      elim (cases_lt k count) [
        | inl less ↦ good k less
        | inr past ↦
            let same : k ≡ length before = omega arith in
            ap (λ (n : ℕ). kind_of (take n lines) (drop n lines)) same ∙ kind_here ∙ here
      ]

  -- the first bad line
  pub first_bad : (count : ℕ) → count ≡ length before → AreGood lines count → (kind : BadKind) → kind_of before rest ≡ Some kind → (number : ℕ) → number ≡ suc count → IsFirstBad lines number kind
  first_bad count is good kind here number next = record {
    is_line = omega arith;
    here =
        let place : number - 1 ≡ length before = omega arith in
        ap (λ (n : ℕ). kind_of (take n lines) (drop n lines)) place ∙ kind_here ∙ here;
    earlier = λ k some below. good (k - 1) (omega arith);
  }

-- there is one first bad line, and one first kind
some_is : {kind other : BadKind} → Some kind ≡ Some other → kind ≡ other
some_is e = cc

none_some : {kind : BadKind} {k : Option BadKind} → k ≡ None → k ≡ Some kind → ⊥
none_some e h = absurd cc

pub one_first : (lines : List (List Word)) (number other : ℕ) (kind found : BadKind) → IsFirstBad lines number kind → IsFirstBad lines other found → (number ≡ other) × (kind ≡ found)
one_first lines number other kind found is is' =
    elim (cases_lt number other) [
      | inl less ↦ absurd (none_some (is'.earlier number is.is_line less) is.here)
      | inr past ↦
          elim (cases_lt other number) [
            | inl less ↦ absurd (none_some (is.earlier other is'.is_line less) is'.here)
            | inr past' ↦
                let same : number ≡ other = omega arith in
                (same, some_is (sym is.here ∙ ap (kind_at lines) same ∙ is'.here))
          ]
    ]

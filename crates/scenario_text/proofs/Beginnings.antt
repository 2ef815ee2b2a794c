-- Beginnings: the first three lines of a text, each of which may have one form.
use Rattle.std.proofs.Common.{◌≡◌, ℕ, ◌≤◌, Bool, true, false, cond, eqb, leb, List, [], ◌∷◌, ◌++◌, length, Some, None, Ok, Err, Result, refl, sym, ap, subst, ◌∙◌, arith}
use Rattle.std.specs.Prelude.{MatchResult, ◌&&◌, ◌==◌, decimal}
use Rattle.std.specs.List.{list_any}
use Rattle.std.proofs.lemmas.Bool.{and_parts, not-true}
use Rattle.cs_types.specs.Scenario.{IsWithin, most_siblings}
use Rattle.scenario_text.specs.declared.fault.BadKind.{BadKind}
use Rattle.scenario_text.specs.declared.fault.BadKind.TheVariants.{Cut, Shape, Twice, Leader, Full, User}
use Rattle.scenario_text.specs.declared.fault.ReadFault.{ReadFault}
use Rattle.scenario_text.specs.declared.fault.ReadFault.TheVariants.{Bad}
use Rattle.scenario_text.specs.declared.head.Head.{Head}
use Rattle.scenario_text.specs.Words.{Word}
use Rattle.scenario_text.specs.Text.{version_words}
use Rattle.scenario_text.specs.Grammar.{value, Form, has_shape}
use Rattle.scenario_text.specs.Faults.{forms_after, has_end, first_held, kind_of, IsFirstBad}
use Rattle.scenario_text.specs.Reader.{Tells}
use Rattle.scenario_text.specs.Reading.{◌>>=◌, parts, Read, Readings, read_in, usable, Takes, line_as, ReadsHead, AreGood, version_reading, siblings_reading, limits_reading, IsHead, count_words, head_words, head_lines}
use Rattle.scenario_text.proofs.Judging.{Judged, forms_of, judged}
use Rattle.scenario_text.proofs.Numbers.{number_again}
use Rattle.scenario_text.proofs.Heads.{version_is, count_is, limits_are}
use Rattle.scenario_text.proofs.Kinded.{AreShort, goes_wrong, cut_kind, unusable_kind, judged_kind, right_kind}
use Rattle.scenario_text.proofs.Drafts.{ok_is, err_is}
use Rattle.scenario_text.proofs.Firsts.{good_more, first_bad}

-- a line that was taken in its form
pub record Taken {A : Type 0} (readings : Readings A) (before lines : List (List Word)) (x : A) (rest : List (List Word)) : Type 0 where
  pub words : List Word
  pub next : List Word
  pub more : List (List Word)
  pub lines_are : lines ≡ words ∷ next ∷ more
  pub rest_is : rest ≡ next ∷ more
  pub read : read_in readings (parts words) ≡ Ok x
  pub told : kind_of before lines ≡ goes_wrong before words

module _ {A : Type 0} (readings : Readings A) (before : List (List Word)) (no_end : has_end before ≡ false) (forms : forms_after before ≡ forms_of readings) (short : AreShort (forms_of readings)) where
  abbrev with_rest : List (List Word) → A → Read (A × List (List Word))
  with_rest rest x = Ok (x, rest)

  abbrev with_lines : List (List Word) → List Word → Read (List Word × List (List Word))
  with_lines rest words = Ok (words, rest)

  whole_words : (words : List Word) → usable words ≡ true → list_any (λ word. eqb (length word) 0) words ≡ false
  whole_words words h = not-true _ (and_parts (leb (length words) 15) _ h).1

  judged_here : (words : List Word) (r : Read A) → read_in readings (parts words) ≡ r → Judged r (forms_after before) words
  judged_here words r e =
      subst (λ (q : Read A). Judged q (forms_after before) words) e
      (subst (λ (fs : List Form). Judged (read_in readings (parts words)) fs words) (sym forms) (judged words readings))

  good_read : (words next : List Word) (more : List (List Word)) → usable words ≡ true → (r : Read A) → read_in readings (parts words) ≡ r → (x : A) (rest : List (List Word)) →
      (r >>= with_rest (next ∷ more)) ≡ Ok (x, rest) → Taken readings before (words ∷ next ∷ more) x rest
  good_read words next more u (Ok y) e x rest h =
      let both = ok_is (y, next ∷ more) (x, rest) h in
      let same : y ≡ x = ap (λ (p : A × List (List Word)). p.0) both in
      let left : next ∷ more ≡ rest = ap (λ (p : A × List (List Word)). p.1) both in
      record {
        words = words;
        next = next;
        more = more;
        lines_are = refl;
        rest_is = sym left;
        read = e ∙ ap (λ (z : A). Ok z) same;
        told = right_kind before no_end words next more (whole_words words u) y (judged_here words (Ok y) e);
      }
  good_read words next more u (Err kind) e x rest h = absurd cc

  bad_read : (words next : List Word) (more : List (List Word)) → usable words ≡ true → (r : Read A) → read_in readings (parts words) ≡ r → (kind : BadKind) →
      (r >>= with_rest (next ∷ more)) ≡ Err kind → kind_of before (words ∷ next ∷ more) ≡ Some kind
  bad_read words next more u (Ok y) e kind h = absurd cc
  bad_read words next more u (Err found) e kind h =
      judged_kind before no_end words next more (whole_words words u) A found (judged_here words (Err found) e)
      ∙ ap Some (err_is {A = A × List (List Word)} found kind h)

  good_words : (words next : List Word) (more : List (List Word)) (u : Bool) → usable words ≡ u → (x : A) (rest : List (List Word)) →
      (cond u (Ok words) (Err Shape) >>= with_lines (next ∷ more) >>= λ taken. read_in readings (parts taken.0) >>= with_rest taken.1) ≡ Ok (x, rest) → Taken readings before (words ∷ next ∷ more) x rest
  good_words words next more true e x rest h = good_read words next more e (read_in readings (parts words)) refl x rest h
  good_words words next more false e x rest h = absurd cc

  bad_words : (words next : List Word) (more : List (List Word)) (u : Bool) → usable words ≡ u → (kind : BadKind) →
      (cond u (Ok words) (Err Shape) >>= with_lines (next ∷ more) >>= λ taken. read_in readings (parts taken.0) >>= with_rest taken.1) ≡ Err kind → kind_of before (words ∷ next ∷ more) ≡ Some kind
  bad_words words next more true e kind h = bad_read words next more e (read_in readings (parts words)) refl kind h
  bad_words words next more false e kind h =
      unusable_kind before no_end words next more (subst AreShort (sym forms) short) e ∙ ap Some (err_is {A = A × List (List Word)} Shape kind h)

  pub as_good : (lines : List (List Word)) (x : A) (rest : List (List Word)) → line_as readings lines ≡ Ok (x, rest) → Taken readings before lines x rest
  unfolding line_as
  as_good [] x rest h = absurd cc
  as_good (words ∷ []) x rest h = absurd cc
  as_good (words ∷ next ∷ more) x rest h = good_words words next more (usable words) refl x rest h

  pub as_bad : (lines : List (List Word)) (kind : BadKind) → 1 ≤ length lines → line_as readings lines ≡ Err kind → kind_of before lines ≡ Some kind
  unfolding line_as
  as_bad [] kind some h = absurd (omega arith)
  as_bad (words ∷ []) kind some h = cut_kind before no_end words ∙ ap Some (err_is {A = A × List (List Word)} Cut kind h)
  as_bad (words ∷ next ∷ more) kind some h = bad_words words next more (usable words) refl kind h

-- ---- the three lines

none_good : (lines : List (List Word)) → AreGood lines 0
none_good lines k below = absurd (omega arith)

some_left : (lines : List (List Word)) (next : List Word) (more : List (List Word)) → lines ≡ next ∷ more → 1 ≤ length lines
some_left lines next more is = omega (arith, ap length is)

-- lines that begin with good ones
pub record Begins (lines before rest : List (List Word)) (count : ℕ) : Type 0 where
  pub cut : lines ≡ before ++ rest
  pub good : AreGood lines count
  pub some : 1 ≤ length rest

module _ (all : List (List Word)) where
  pub version_good : (version : ℕ) (rest : List (List Word)) → line_as version_reading all ≡ Ok (version, rest) → Begins all (version_words version ∷ []) rest 1 × IsWithin 1 2 version
  version_good version rest h =
      let taken = as_good version_reading [] refl refl refl all version rest h in
      let said = version_is taken.words version taken.read in
      let good : kind_of [] all ≡ None = taken.told ∙ ap (goes_wrong []) said.0 ∙ right_version version said.1 in (
        record {
          cut = taken.lines_are ∙ ap (λ (ws : List Word). ws ∷ taken.next ∷ taken.more) said.0 ∙ ap (λ (ls : List (List Word)). version_words version ∷ ls) (sym taken.rest_is);
          good = good_more all [] all refl 0 refl (none_good all) good 1 refl;
          some = some_left rest taken.next taken.more taken.rest_is;
        },
        said.1,
      ) where
        right_version : (version : ℕ) → IsWithin 1 2 version → goes_wrong [] (version_words version) ≡ None
        right_version version within = refl

  pub version_bad : (kind : BadKind) → 1 ≤ length all → line_as version_reading all ≡ Err kind → IsFirstBad all 1 kind
  version_bad kind some h =
      first_bad all [] all refl 0 refl (none_good all) kind (as_bad version_reading [] refl refl refl all kind some h) 1 refl

  module _ (version : ℕ) (known : IsWithin 1 2 version) (lines : List (List Word)) (begins : Begins all (version_words version ∷ []) lines 1) where
    abbrev first : List (List Word)
    first = version_words version ∷ []

    first_open : has_end first ≡ false
    unfolding has_shape
    first_open = refl

    version_said : value (decimal version) ≡ version
    version_said = let again = number_again 1 2 version (omega arith) known in again.same

    first_forms : forms_after first ≡ forms_of (siblings_reading version)
    first_forms = rw version_said refl

    pub count_good : (siblings : ℕ) (rest : List (List Word)) → line_as (siblings_reading version) lines ≡ Ok (siblings, rest) → Begins all (version_words version ∷ count_words siblings ∷ []) rest 2 × IsWithin 1 (most_siblings version) siblings
    count_good siblings rest h =
        let taken = as_good (siblings_reading version) first first_open first_forms refl lines siblings rest h in
        let said = count_is version taken.words siblings taken.read in
        let good : kind_of first lines ≡ None = taken.told ∙ ap (goes_wrong first) said.0 ∙ unnamed_head (count_words siblings) in (
          record {
            cut =
                begins.cut
                ∙ ap (λ (ls : List (List Word)). version_words version ∷ ls) (taken.lines_are ∙ ap (λ (ws : List Word). ws ∷ taken.next ∷ taken.more) said.0 ∙ ap (λ (ls : List (List Word)). count_words siblings ∷ ls) (sym taken.rest_is));
            good = good_more all first lines begins.cut 1 refl begins.good good 2 refl;
            some = some_left rest taken.next taken.more taken.rest_is;
          },
          said.1,
        ) where
          unnamed_head : (words : List Word) → goes_wrong first (count_words siblings) ≡ None
          unnamed_head words = by_version (value (decimal version) == 2) where
            by_version : (second : Bool) → first_held ((false, Twice) ∷ (false, Leader) ∷ (false, Full) ∷ (second && false, User) ∷ []) ≡ None
            by_version true = refl
            by_version false = refl

    pub count_bad : (kind : BadKind) → line_as (siblings_reading version) lines ≡ Err kind → IsFirstBad all 2 kind
    count_bad kind h =
        first_bad all first lines begins.cut 1 refl begins.good kind (as_bad (siblings_reading version) first first_open first_forms refl lines kind begins.some h) 2 refl

  module _ (version siblings : ℕ) (known : IsWithin 1 2 version) (few : IsWithin 1 (most_siblings version) siblings) (lines : List (List Word)) (begins : Begins all (version_words version ∷ count_words siblings ∷ []) lines 2) where
    abbrev second : List (List Word)
    second = version_words version ∷ count_words siblings ∷ []

    second_open : has_end second ≡ false
    unfolding has_shape
    second_open = refl

    pub limits_good : (head : Head) (rest : List (List Word)) → line_as (limits_reading version siblings) lines ≡ Ok (head, rest) → IsHead head × (all ≡ head_lines head ++ rest) × AreGood all 3 × (1 ≤ length rest)
    limits_good head rest h =
        let taken = as_good (limits_reading version siblings) second second_open refl refl lines head rest h in
        let said = limits_are version siblings taken.words head known few taken.read in
        let good : kind_of second lines ≡ None = taken.told ∙ ap (goes_wrong second) said.0 ∙ by_version (value (decimal version) == 2) in
        let cut : all ≡ version_words version ∷ count_words siblings ∷ head_words head ∷ rest =
        begins.cut
        ∙ ap (λ (ls : List (List Word)). version_words version ∷ count_words siblings ∷ ls) (taken.lines_are ∙ ap (λ (ws : List Word). ws ∷ taken.next ∷ taken.more) said.0 ∙ ap (λ (ls : List (List Word)). head_words head ∷ ls) (sym taken.rest_is)) in (
          said.1,
          cut ∙ (λ i. version_words (sym said.2 i) ∷ count_words (sym said.3 i) ∷ head_words head ∷ rest),
          good_more all second lines begins.cut 2 refl begins.good good 3 refl,
          some_left rest taken.next taken.more taken.rest_is,
        ) where
          by_version : (second : Bool) → first_held ((false, Twice) ∷ (false, Leader) ∷ (false, Full) ∷ (second && false, User) ∷ []) ≡ None
          by_version true = refl
          by_version false = refl

    pub limits_bad : (kind : BadKind) → line_as (limits_reading version siblings) lines ≡ Err kind → IsFirstBad all 3 kind
    limits_bad kind h =
        first_bad all second lines begins.cut 2 refl begins.good kind (as_bad (limits_reading version siblings) second second_open refl refl lines kind begins.some h) 3 refl

-- ---- what the code finds

-- a line that was taken, or its fault on the line of this number
abbrev pub OnLine : {A : Type 0} → Read A → ℕ → Result A ReadFault → Type 0
OnLine read line found = MatchResult read (λ x. found ≡ Ok x) (λ kind. found ≡ Err (Bad line kind))

-- what is found is one thing

abbrev found_it : {A : Type 0} → A → Result A ReadFault
found_it x = Ok x

abbrev fails_by : {A : Type 0} → ReadFault → Result A ReadFault
fails_by fault = Err fault

same_fault : {A : Type 0} (fault other : ReadFault) → fails_by {A = A} fault ≡ fails_by other → fault ≡ other
same_fault fault other e = cc

same_found : {A : Type 0} (x y : A) → found_it x ≡ found_it y → x ≡ y
same_found x y e = cc

no_fault : {A : Type 0} (x : A) (fault : ReadFault) → found_it x ≡ fails_by fault → ⊥
no_fault x fault e = absurd cc

module _ {A : Type 0} (taken : Read (A × List (List Word))) (rest : List (List Word)) (number : ℕ) where
  pub told_fault : (all : List (List Word)) (r : Read A) (q : Result A ReadFault) → Takes (λ x. x) r rest taken → OnLine r number q → ((kind : BadKind) → taken ≡ Err kind → IsFirstBad all number kind) → (fault : ReadFault) → q ≡ Err fault → Tells all fault
  told_fault all (Ok x) q takes on bad fault e = absurd (no_fault x fault (sym on ∙ e))
  told_fault all (Err kind) q takes on bad fault e =
      subst (Tells all) (same_fault {A = A} (Bad number kind) fault (sym on ∙ e)) (bad kind takes)

  pub told_line : (r : Read A) (q : Result A ReadFault) → Takes (λ x. x) r rest taken → OnLine r number q → (x : A) → q ≡ Ok x → taken ≡ Ok (x, rest)
  told_line (Ok y) q takes on x e = takes ∙ ap (λ (z : A). Ok (z, rest)) (same_found y x (sym on ∙ e))
  told_line (Err kind) q takes on x e = absurd (no_fault x (Bad number kind) (sym e ∙ on))

  pub taken_line : (r : Read A) → Takes (λ x. x) r rest taken → (x : A) → r ≡ Ok x → taken ≡ Ok (x, rest)
  taken_line r takes x e = subst (λ (r : Read A). Takes (λ x. x) r rest taken) e takes

  pub taken_fault : (r : Read A) → Takes (λ x. x) r rest taken → (kind : BadKind) → r ≡ Err kind → taken ≡ Err kind
  taken_fault r takes kind e = subst (λ (r : Read A). Takes (λ x. x) r rest taken) e takes

-- the head of these lines
pub head_found : (all lines : List (List Word)) (version siblings : ℕ) → IsWithin 1 2 version → IsWithin 1 (most_siblings version) siblings → Begins all (version_words version ∷ count_words siblings ∷ []) lines 2 →
    (r : Read Head) (q : Result Head ReadFault) (rest : List (List Word)) → Takes (λ head. head) r rest (line_as (limits_reading version siblings) lines) → OnLine r 3 q → ReadsHead all q rest
head_found all lines version siblings known few begins r (Ok head) rest takes on =
    limits_good all version siblings known few lines begins head rest (told_line (line_as (limits_reading version siblings) lines) rest 3 r (Ok head) takes on head refl)
head_found all lines version siblings known few begins r (Err fault) rest takes on =
    told_fault (line_as (limits_reading version siblings) lines) rest 3 all r (Err fault) takes on (limits_bad all version siblings known few lines begins) fault refl

-- Actors: the word of an actor, and the actor that a line begins with.
use Rattle.std.proofs.Common.{◌≡◌, ◌≢◌, ℕ, ◌+◌, ◌<◌, ◌≤◌, true, cond, eqb, List, [], ◌∷◌, ◌++◌, Some, refl, sym, ap, ◌∙◌, subst, arith, inl, inr}
use Rattle.std.specs.Prelude.{not, codes, decimal}
use Rattle.std.proofs.lemmas.Bool.{and_parts, cases_lt, le-ltb}
use Rattle.std.proofs.lemmas.Bool.Decides.{nat_tests}
use Rattle.cs_types.specs.declared.event.Actor.{Actor}
use Rattle.cs_types.specs.declared.event.Actor.TheVariants.{Sibling, Caller, End}
use Rattle.scenario_text.specs.Words.{actor_word}
use Rattle.scenario_text.proofs.Numbers.{number_again}
use Rattle.scenario_text.proofs.Texts.{lacks, lacks-append, decimal_lacks}
use Rattle.trace_check.specs.Scripts.{rank, named_actor, BeginsWith}

rank_sibling : (i : ℕ) → rank (Sibling i) < 24 → i ≤ 15
rank_sibling i known = elim (cases_lt i 16) [
  | inl below ↦ omega (arith, below)
  | inr past ↦ absurd (omega (arith, subst (λ b. (cond b i 24) < 24) (le-ltb i 16 past) known))
]

rank_caller : (j : ℕ) → rank (Caller j) < 24 → j ≤ 7
rank_caller j known = elim (cases_lt j 8) [
  | inl below ↦ omega (arith, below)
  | inr past ↦ absurd (omega (arith, subst (λ b. (cond b (16 + j) 24) < 24) (le-ltb j 8 past) known))
]

-- an actor that a scenario can have is the one with its word
pub named_again : (actor : Actor) → rank actor < 24 → named_actor (actor_word actor) ≡ Some actor
named_again (Sibling i) known =
    let again = number_again 0 15 i (omega arith) (omega arith, rank_sibling i known) in rw (again.right, again.same) refl
named_again (Caller j) known =
    let again = number_again 0 7 j (omega arith) (omega arith, rank_caller j known) in rw (again.right, again.same) refl
named_again End known = absurd (omega (arith, known))

-- no word of an actor has a byte below `0`
word_lacks : (byte : ℕ) (actor : Actor) → byte < 48 → lacks byte (codes "s") ≡ true → lacks byte (codes "c") ≡ true → rank actor < 24 →
    lacks byte (actor_word actor) ≡ true
word_lacks byte (Sibling i) low s c known =
    lacks-append byte (codes "s") (decimal i) s (decimal_lacks byte i (inl low) (let few = rank_sibling i known in omega (arith, few)))
word_lacks byte (Caller j) low s c known =
    lacks-append byte (codes "c") (decimal j) c (decimal_lacks byte j (inl low) (let few = rank_caller j known in omega (arith, few)))
word_lacks byte End low s c known = absurd (omega (arith, known))

pub no_space : (actor : Actor) → rank actor < 24 → lacks 32 (actor_word actor) ≡ true
no_space actor known = word_lacks 32 actor (omega arith) refl refl known

pub no_feed : (actor : Actor) → rank actor < 24 → lacks 10 (actor_word actor) ≡ true
no_feed actor known = word_lacks 10 actor (omega arith) refl refl known

-- ---- a cut at the first of a byte

not_itself : (first byte : ℕ) → not (eqb first byte) ≡ true → first ≢ byte
not_itself first byte differs e = grind (arith, nat_tests)

-- two texts that are cut at the first of a byte
pub cut_at : (byte : ℕ) (a b rest more : List ℕ) → lacks byte a ≡ true → lacks byte b ≡ true → a ++ byte ∷ rest ≡ b ++ byte ∷ more → a ≡ b
cut_at byte [] [] rest more h k e = refl
cut_at byte [] (y ∷ b) rest more h k e =
    let same : y ≡ byte = cc in absurd (not_itself y byte (and_parts (not (eqb y byte)) (lacks byte b) k).0 same)
cut_at byte (x ∷ a) [] rest more h k e =
    let same : x ≡ byte = cc in absurd (not_itself x byte (and_parts (not (eqb x byte)) (lacks byte a) h).0 same)
cut_at byte (x ∷ a) (y ∷ b) rest more h k e =
    let tail : a ++ byte ∷ rest ≡ b ++ byte ∷ more = cc in
    let prefix : a ≡ b =
    cut_at byte a b rest more (and_parts (not (eqb x byte)) (lacks byte a) h).1 (and_parts (not (eqb y byte)) (lacks byte b) k).1 tail in
    cc

has_itself : (byte : ℕ) (a rest : List ℕ) → lacks byte (a ++ byte ∷ rest) ≡ true → ⊥
has_itself byte [] rest h = not_itself byte byte (and_parts (not (eqb byte byte)) (lacks byte rest) h).0 refl
has_itself byte (x ∷ a) rest h = has_itself byte a rest (and_parts (not (eqb x byte)) (lacks byte (a ++ byte ∷ rest)) h).1

-- ---- a line that begins with an actor

-- one with no space begins with none
pub begins_with_none : (line : List ℕ) (actor : Actor) → lacks 32 line ≡ true → BeginsWith actor line → ⊥
begins_with_none line actor lack begins =
    has_itself 32 (actor_word actor) begins.behind (subst (λ (l : List ℕ). lacks 32 l ≡ true) begins.is lack)

-- what stands before its first space is the actor's word
pub word_before : (line word rest : List ℕ) (actor : Actor) → rank actor < 24 → line ≡ word ++ 32 ∷ rest → lacks 32 word ≡ true →
    BeginsWith actor line → word ≡ actor_word actor
word_before line word rest actor known is lack begins =
    cut_at 32 word (actor_word actor) rest begins.behind lack (no_space actor known) (sym is ∙ begins.is)

-- it begins with no other
pub begins_with_one : (line : List ℕ) (one other : Actor) → rank one < 24 → rank other < 24 → BeginsWith one line → BeginsWith other line → one ≡ other
begins_with_one line one other known also begins and =
    let word = word_before line (actor_word one) begins.behind other also begins.is (no_space one known) and in
    let same : Some one ≡ Some other = sym (named_again one known) ∙ ap named_actor word ∙ named_again other also in
    cc

-- Left: which segments are left at an index of the loop that writes them.
use Rattle.std.proofs.Common.{◌≡◌, ◌∙◌, ℕ, suc, ◌+◌, ◌<◌, ◌≤◌, List, [], ◌∷◌, ◌++◌, length, drop, get_or, refl, sym, ap, subst, arith, Option}
use Rattle.std.specs.List.{flat_map}
use Rattle.std.proofs.Math.Seq.{drop-cons}
use Rattle.std.proofs.lemmas.List.{drop_all}
use Rattle.cs_outside.specs.Device.{appended, WritesPrefix}
use Rattle.run_segments.specs.declared.segments.Segment.{Segment}
use Rattle.cs_outside.proofs.Reached.{AreLeft, reached_start, reached_more, reached_prefix}

module _ (text : Segment → List ℕ) (before : Option (List ℕ)) (head : List ℕ) (segments : List Segment) where
  -- what stands before the segments goes out, or a prefix of it
  pub head_out : (bytes : List ℕ) (now : Option (List ℕ)) → bytes ≡ head → now ≡ appended before bytes → AreLeft text before (head ++ flat_map text segments) segments now
  head_out bytes now is sent =
      let whole = head ++ flat_map text segments in
      record { reached = reached_more before whole whole head (flat_map text segments) bytes before now (reached_start before whole whole refl) refl is sent }

  pub head_prefix : (bytes : List ℕ) (now : Option (List ℕ)) → bytes ≡ head → WritesPrefix before bytes now → WritesPrefix before (head ++ flat_map text segments) now
  head_prefix bytes now is sent =
      let whole = head ++ flat_map text segments in
      reached_prefix before whole whole head (flat_map text segments) bytes before now (reached_start before whole whole refl) refl is sent

module _ (text : Segment → List ℕ) (before : Option (List ℕ)) (whole : List ℕ) (segments told : List Segment) (index : ℕ) (now : Option (List ℕ)) (is : told ≡ segments) where
  -- the next is the one at the index
  pub next_left : (none : Segment) → index < length told →
      AreLeft text before whole (drop index segments) now → AreLeft text before whole (get_or told index none ∷ drop (index + 1) segments) now
  next_left none below left =
      let next : suc index ≡ index + 1 = omega arith in
      let first : drop index told ≡ get_or told index none ∷ drop (index + 1) told = drop-cons told index none below ∙ (λ i. get_or told index none ∷ drop (next i) told) in
      let one : drop index segments ≡ get_or told index none ∷ drop (index + 1) segments =
      ap (drop index) (sym is) ∙ first ∙ ap (λ (all : List Segment). get_or told index none ∷ drop (index + 1) all) is in
      subst (λ (rest : List Segment). AreLeft text before whole rest now) one left

  -- and at the end there is none
  pub no_more : length told ≤ index → AreLeft text before whole (drop index segments) now → AreLeft text before whole [] now
  no_more past left =
      let none : drop index segments ≡ [] = ap (drop index) (sym is) ∙ drop_all index told past in
      subst (λ (rest : List Segment). AreLeft text before whole rest now) none left

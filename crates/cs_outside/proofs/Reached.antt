-- Reached: how far a text is written that goes out piece by piece, or line by line.
use Rattle.std.proofs.Common.{◌≡◌, ℕ, suc, ◌+◌, ◌≤◌, min, List, [], ◌∷◌, ◌++◌, length, take, refl, sym, ap, ◌∙◌, append_assoc, subst, arith, Option, Some, None}
use Rattle.std.specs.List.{flat_map}
use Rattle.std.proofs.lemmas.List.Concat.{flat_map-append}
use Rattle.std.proofs.lemmas.List.{append-nil, take_all, take_min, take-append-le}
use Rattle.cs_outside.specs.Device.{appended, WritesPrefix}

appended-appended : (before : Option (List ℕ)) (a b : List ℕ) → appended (appended before a) b ≡ appended before (a ++ b)
appended-appended None a b = refl
appended-appended (Some bytes) a b = ap Some (append_assoc bytes a b)

appended-nil : (before : Option (List ℕ)) → before ≡ appended before []
appended-nil None = refl
appended-nil (Some bytes) = ap Some (sym (append-nil bytes))

take_after : (prefix text : List ℕ) (n : ℕ) → take (length prefix + n) (prefix ++ text) ≡ prefix ++ take n text
take_after [] text n = let e : 0 + n ≡ n = omega arith in rw e refl
take_after (x ∷ prefix) text n =
    let e : suc (length prefix) + n ≡ suc (length prefix + n) = omega arith in
    rw e (ap (λ (bytes : List ℕ). x ∷ bytes) (take_after prefix text n))

-- of the whole text a part is written, and another is left
pub record Reached (before : Option (List ℕ)) (whole left : List ℕ) (now : Option (List ℕ)) : Type 0 where
  pub done : List ℕ
  pub written : now ≡ appended before done
  pub split : whole ≡ done ++ left

-- at the start all is left
pub reached_start : (before : Option (List ℕ)) (whole left : List ℕ) → whole ≡ left → Reached before whole left before
reached_start before whole left same = record { done = []; written = appended-nil before; split = same }

-- a piece goes out, and less is left
pub reached_more : (before : Option (List ℕ)) (whole left piece rest bytes : List ℕ) (mid now : Option (List ℕ)) →
    Reached before whole left mid → left ≡ piece ++ rest → bytes ≡ piece → now ≡ appended mid bytes → Reached before whole rest now
reached_more before whole left piece rest bytes mid now so_far next is sent = record {
  done = so_far.done ++ piece;
  written = sent ∙ ap (appended mid) is ∙ ap (λ (w : Option (List ℕ)). appended w piece) so_far.written ∙ appended-appended before so_far.done piece;
  split = so_far.split ∙ ap (λ (bytes : List ℕ). so_far.done ++ bytes) next ∙ sym (append_assoc so_far.done piece rest);
}

-- at the end the whole text is written
pub reached_end : (before : Option (List ℕ)) (whole left : List ℕ) (now : Option (List ℕ)) →
    Reached before whole left now → left ≡ [] → now ≡ appended before whole
reached_end before whole left now so_far none =
    so_far.written
    ∙ ap (appended before) (sym (so_far.split ∙ ap (λ (bytes : List ℕ). so_far.done ++ bytes) none ∙ append-nil so_far.done))

-- where a piece is next, a prefix of the piece makes a prefix of the text
pub reached_prefix : (before : Option (List ℕ)) (whole left piece rest bytes : List ℕ) (mid now : Option (List ℕ)) →
    Reached before whole left mid → left ≡ piece ++ rest → bytes ≡ piece → WritesPrefix mid bytes now → WritesPrefix before whole now
reached_prefix before whole left piece rest bytes mid now so_far next is sent =
    let written : WritesPrefix mid piece now = subst (λ (p : List ℕ). WritesPrefix mid p now) is sent in
    let prefix = so_far.done in
    let m = min written.0 (length piece) in
    let le : m ≤ length piece = omega arith in
    let cut : take (length prefix + m) (prefix ++ piece ++ rest) ≡ prefix ++ take written.0 piece =
    ap (take (length prefix + m)) (append_assoc prefix piece rest) ∙ take_after prefix (piece ++ rest) m
    ∙ ap (λ (bytes : List ℕ). prefix ++ bytes) (take-append-le m piece rest le ∙ take_min written.0 piece) in
    let text : whole ≡ prefix ++ piece ++ rest =
    so_far.split ∙ ap (λ (bytes : List ℕ). prefix ++ bytes) next ∙ sym (append_assoc prefix piece rest) in
    subst (λ (t : List ℕ). WritesPrefix before t now) (sym text) (
      length prefix + m,
      written.1 ∙ ap (λ (w : Option (List ℕ)). appended w (take written.0 piece)) so_far.written
          ∙ appended-appended before prefix (take written.0 piece) ∙ ap (appended before) (sym cut),
    )

-- what is written at the end is a prefix too
pub whole_prefix : (before : Option (List ℕ)) (whole : List ℕ) (now : Option (List ℕ)) → now ≡ appended before whole → WritesPrefix before whole now
whole_prefix before whole now written = (length whole, written ∙ ap (appended before) (sym (take_all (length whole) whole (omega arith))))

-- ---- lines, whose text is handed in

-- of the whole text these lines are left
pub record AreLeft {A : Type 0} (text : A → List ℕ) (before : Option (List ℕ)) (whole : List ℕ) (left : List A) (now : Option (List ℕ)) : Type 0 where
  pub reached : Reached before whole (flat_map text left) now

pub all_left : {A : Type 0} (text : A → List ℕ) (before : Option (List ℕ)) (lines : List A) → AreLeft text before (flat_map text lines) lines before
all_left text before lines = record { reached = reached_start before (flat_map text lines) (flat_map text lines) refl }

module _ {A : Type 0} {text : A → List ℕ} (before : Option (List ℕ)) (whole : List ℕ) where
  pub none_left : (now : Option (List ℕ)) → AreLeft text before whole [] now → now ≡ appended before whole
  none_left now so_far = reached_end before whole [] now so_far.reached refl

  -- the next line goes out, or a prefix of it
  pub line_more : (line : A) (lines : List A) (bytes : List ℕ) (mid now : Option (List ℕ)) →
      AreLeft text before whole (line ∷ lines) mid → bytes ≡ text line → now ≡ appended mid bytes → AreLeft text before whole lines now
  line_more line lines bytes mid now so_far is sent =
      record { reached = reached_more before whole (flat_map text (line ∷ lines)) (text line) (flat_map text lines) bytes mid now so_far.reached refl is sent }

  pub line_prefix : (line : A) (lines : List A) (bytes : List ℕ) (mid now : Option (List ℕ)) →
      AreLeft text before whole (line ∷ lines) mid → bytes ≡ text line → WritesPrefix mid bytes now → WritesPrefix before whole now
  line_prefix line lines bytes mid now so_far is sent =
      reached_prefix before whole (flat_map text (line ∷ lines)) (text line) (flat_map text lines) bytes mid now so_far.reached refl is sent

  -- the next lines go out, or a prefix of them
  pub part_more : (part lines : List A) (mid now : Option (List ℕ)) →
      AreLeft text before whole (part ++ lines) mid → now ≡ appended mid (flat_map text part) → AreLeft text before whole lines now
  part_more part lines mid now so_far sent =
      record { reached = reached_more before whole (flat_map text (part ++ lines)) (flat_map text part) (flat_map text lines) (flat_map text part) mid now so_far.reached (flat_map-append text part lines) refl sent }

  pub part_prefix : (part lines : List A) (mid now : Option (List ℕ)) →
      AreLeft text before whole (part ++ lines) mid → WritesPrefix mid (flat_map text part) now → WritesPrefix before whole now
  part_prefix part lines mid now so_far sent =
      reached_prefix before whole (flat_map text (part ++ lines)) (flat_map text part) (flat_map text lines) (flat_map text part) mid now so_far.reached (flat_map-append text part lines) refl sent

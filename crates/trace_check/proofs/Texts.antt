-- Texts: how a text is cut into its lines.
use Rattle.std.proofs.Common.{◌≡◌, ◌≢◌, ℕ, ◌+◌, ◌<◌, ◌≤◌, suc, zero, true, false, eqb, List, [], ◌∷◌, ◌++◌, length, take, drop, get_or, Option, Some, None, refl, sym, ap, ◌∙◌, arith, append_assoc, inl, inr, zero-le, take_all, min, map}
use Rattle.std.specs.Prelude.{not, slice_get}
use Rattle.std.specs.List.{concat}
use Rattle.std.specs.Option.{option_map}
use Rattle.std.proofs.lemmas.Bool.{and_parts, and_from, not-true, not_from_false, cases_Bool, eqb-true, eq-eqb, false_from_ne_true}
use Rattle.std.proofs.Math.Seq.{take-append-add}
use Rattle.std.proofs.lemmas.List.{take_more, take_min, map-append, drop_all, length-take-le, length-append, nil_from_length}
use Rattle.std.specs.Cmp.Lexicographic.{same_text, pointwise}
use Rattle.std.proofs.lemmas.List.Sums.{take_while-cons}
use Rattle.memchr.specs.Find.{IsFirstByte, is_byte}
use Rattle.scenario_text.proofs.Texts.{lacks}
use Rattle.trace_check.specs.Lines.{begun_by, lines_of, without_feed, shown, told, if_any}

-- ---- a line feed, and none

pub lines-feed : (word rest : List ℕ) → lacks 10 word ≡ true → lines_of (word ++ 10 ∷ rest) ≡ (word ++ 10 ∷ []) ∷ lines_of rest
unfolding lines_of
lines-feed [] rest h = refl
lines-feed (byte ∷ word) rest h =
    let parts = and_parts (not (eqb byte 10)) (lacks 10 word) h in
    rw (not-true (eqb byte 10) parts.0) (ap (begun_by byte) (lines-feed word rest parts.1))

-- a word before the first of these lines
abbrev begun : List ℕ → List (List ℕ) → List (List ℕ)
begun [] lines = lines
begun (byte ∷ word) lines = begun_by byte (begun word lines)

lines-begun : (word rest : List ℕ) → lacks 10 word ≡ true → lines_of (word ++ rest) ≡ begun word (lines_of rest)
unfolding lines_of
lines-begun [] rest h = refl
lines-begun (byte ∷ word) rest h =
    let parts = and_parts (not (eqb byte 10)) (lacks 10 word) h in
    rw (not-true (eqb byte 10) parts.0) (ap (begun_by byte) (lines-begun word rest parts.1))

-- the first of these lines begins with the word
pub record HasFirst (word : List ℕ) (lines : List (List ℕ)) : Type 0 where
  pub tail : List ℕ
  pub more : List (List ℕ)
  pub is : lines ≡ (word ++ tail) ∷ more

begun_has : (byte : ℕ) (word : List ℕ) (lines : List (List ℕ)) → HasFirst (byte ∷ word) (begun (byte ∷ word) lines)
begun_has byte [] [] = record { tail = []; more = []; is = refl }
begun_has byte [] (line ∷ lines) = record { tail = line; more = lines; is = refl }
begun_has byte (next ∷ word) lines =
    let has = begun_has next word lines in record { tail = has.tail; more = has.more; is = ap (begun_by byte) has.is }

pub first_begins : (byte : ℕ) (word rest : List ℕ) → lacks 10 (byte ∷ word) ≡ true → HasFirst (byte ∷ word) (lines_of ((byte ∷ word) ++ rest))
first_begins byte word rest h =
    let has = begun_has byte word (lines_of rest) in
    record { tail = has.tail; more = has.more; is = lines-begun (byte ∷ word) rest h ∙ has.is }

-- a line with no line feed
pub lines-last : (byte : ℕ) (word : List ℕ) → lacks 10 (byte ∷ word) ≡ true → lines_of (byte ∷ word) ≡ (byte ∷ word) ∷ []
unfolding lines_of
lines-last byte [] h =
    let parts = and_parts (not (eqb byte 10)) true h in rw (not-true (eqb byte 10) parts.0) refl
lines-last byte (next ∷ word) h =
    let parts = and_parts (not (eqb byte 10)) (lacks 10 (next ∷ word)) h in
    rw (not-true (eqb byte 10) parts.0) (ap (begun_by byte) (lines-last next word parts.1))

-- ---- the lines are the text

concat-begun : (byte : ℕ) (lines : List (List ℕ)) → concat (begun_by byte lines) ≡ byte ∷ concat lines
concat-begun byte [] = refl
concat-begun byte (line ∷ lines) = refl

pub concat-lines : (text : List ℕ) → concat (lines_of text) ≡ text
unfolding lines_of
concat-lines [] = refl
concat-lines (byte ∷ text) = elim (cases_Bool (eqb byte 10)) [
  | inl feed ↦
      let is : byte ≡ 10 = eqb-true byte 10 feed in
      rw feed (ap (λ (rest : List ℕ). 10 ∷ rest) (concat-lines text) ∙ ap (λ (b : ℕ). b ∷ text) (sym is))
  | inr other ↦ rw other (concat-begun byte (lines_of text) ∙ ap (λ (rest : List ℕ). byte ∷ rest) (concat-lines text))
]

-- texts with the same lines are one
pub same_lines : (one other : List ℕ) → lines_of one ≡ lines_of other → one ≡ other
same_lines one other same = sym (concat-lines one) ∙ ap concat same ∙ concat-lines other

-- there are as many lines as bytes at most
length-begun : (byte : ℕ) (lines : List (List ℕ)) → length (begun_by byte lines) ≤ length lines + 1
length-begun byte [] = omega arith
length-begun byte (line ∷ lines) = omega arith

pub lines-few : (text : List ℕ) → length (lines_of text) ≤ length text
unfolding lines_of
lines-few [] = omega arith
lines-few (byte ∷ text) =
    let few = lines-few text in
    elim (cases_Bool (eqb byte 10)) [
      | inl feed ↦ rw feed (omega (arith, few))
      | inr other ↦ rw other (omega (arith, few, length-begun byte (lines_of text)))
    ]

-- ---- where the first line ends

lacks_before : (byte : ℕ) (text : List ℕ) (end : ℕ) → ((k : ℕ) → k < end → eqb (get_or text k 0) byte ≡ false) → lacks byte (take end text) ≡ true
lacks_before byte [] zero off = refl
lacks_before byte [] (suc end) off = refl
lacks_before byte (first ∷ text) zero off = refl
lacks_before byte (first ∷ text) (suc end) off =
    and_from (not (eqb first byte)) (lacks byte (take end text)) (not_from_false (eqb first byte) (off 0 (omega arith)))
    (lacks_before byte text end (λ k below. off (suc k) (omega (arith, below))))

cut_here : (text : List ℕ) (end : ℕ) → end < length text → text ≡ take end text ++ get_or text end 0 ∷ drop (suc end) text
cut_here [] end below = absurd (omega (arith, below))
cut_here (first ∷ text) zero below = refl
cut_here (first ∷ text) (suc end) below = ap (λ (rest : List ℕ). first ∷ rest) (cut_here text end (omega (arith, below)))

-- the text is cut at the byte that a search found
pub record IsCut (byte : ℕ) (text : List ℕ) (end : ℕ) : Type 0 where
  pub inside : end < length text
  pub is : text ≡ take end text ++ byte ∷ drop (suc end) text
  pub here : get_or text end 0 ≡ byte
  pub before : lacks byte (take end text) ≡ true

-- this is where a search for the byte ends
abbrev pub found : ℕ → List ℕ → Option ℕ → Type 0
found byte text end = IsFirstByte (is_byte byte) text end

pub cut_found : (byte : ℕ) (text : List ℕ) (end : ℕ) → found byte text (Some end) → IsCut byte text end
cut_found byte text end first =
    record {
      inside = first.0.high;
      here = eqb-true (get_or text end 0) byte first.1;
      is =
          cut_here text end first.0.high
          ∙ ap (λ (here : ℕ). take end text ++ here ∷ drop (suc end) text) (eqb-true (get_or text end 0) byte first.1);
      before = lacks_before byte text end (λ k below. false_from_ne_true _ (first.0.before k zero-le below));
    }

pub none_found : (byte : ℕ) (text : List ℕ) → found byte text None → lacks byte text ≡ true
none_found byte text none =
    ap (lacks byte) (sym (take_all (length text) text (omega arith)))
    ∙ lacks_before byte text (length text) (λ k below. false_from_ne_true _ (none k zero-le below))

-- the text up to its first line feed, and what stands behind
pub first-cut : (text : List ℕ) (end : ℕ) → IsCut 10 text end → (front back : List ℕ) → front ≡ take (end + 1) text → back ≡ drop (end + 1) text →
    lines_of text ≡ front ∷ lines_of back
first-cut text end cut front back is rest =
    let next : end + 1 ≡ suc end = omega arith in
    let up : take (suc end) text ≡ take end text ++ 10 ∷ [] =
    ap (λ n. take n text) (sym next) ∙ take_more text end 0 cut.inside ∙ ap (λ (byte : ℕ). take end text ++ byte ∷ []) cut.here in
    ap lines_of cut.is ∙ lines-feed (take end text) (drop (suc end) text) cut.before
    ∙ ap (λ (line : List ℕ). line ∷ lines_of (drop (suc end) text)) (sym up ∙ sym (is ∙ ap (λ n. take n text) next))
    ∙ ap (λ (more : List ℕ). front ∷ lines_of more) (sym (rest ∙ ap (λ n. drop n text) next))

-- a text with no line feed
pub first-whole : (text : List ℕ) → lacks 10 text ≡ true → (front back : List ℕ) → front ≡ take (length text) text →
    back ≡ drop (length text) text → 0 < length front → lines_of text ≡ front ∷ lines_of back
unfolding lines_of
first-whole [] lack front back is rest some = absurd (omega (arith, some, ap length is))
first-whole (byte ∷ text) lack front back is rest some =
    lines-last byte text lack
    ∙ ap (λ (line : List ℕ). line ∷ []) (sym (is ∙ take_all (length (byte ∷ text)) (byte ∷ text) (omega arith)))
    ∙ ap (λ (more : List ℕ). front ∷ lines_of more) (sym (rest ∙ drop_all (length (byte ∷ text)) (byte ∷ text) (omega arith)))

-- ---- what stands before a line feed

pub before-feed : (word rest : List ℕ) → lacks 10 word ≡ true → without_feed (word ++ 10 ∷ rest) ≡ word
before-feed [] rest h = refl
before-feed (byte ∷ word) rest h =
    let parts = and_parts (not (eqb byte 10)) (lacks 10 word) h in
    take_while-cons (λ b. not (eqb b 10)) byte (word ++ 10 ∷ rest)
    ∙ rw parts.0 (ap (λ (w : List ℕ). byte ∷ w) (before-feed word rest parts.1))

pub before-none : (word : List ℕ) → lacks 10 word ≡ true → without_feed word ≡ word
before-none [] h = refl
before-none (byte ∷ word) h =
    let parts = and_parts (not (eqb byte 10)) (lacks 10 word) h in
    take_while-cons (λ b. not (eqb b 10)) byte word ∙ rw parts.0 (ap (λ (w : List ℕ). byte ∷ w) (before-none word parts.1))

-- ---- lines that two texts share

-- as many lines, and the next one
pub take_next : (lines : List (List ℕ)) (count : ℕ) (line : List ℕ) (more : List (List ℕ)) → count ≤ length lines → lines ≡ take count lines ++ line ∷ more →
    (take (count + 1) lines ≡ take count lines ++ line ∷ []) × (count + 1 ≤ length lines)
take_next lines count line more few is =
    let long : length (take count lines) ≡ count = length-take-le count lines few in
    let all : length lines ≡ length (take count lines) + length (line ∷ more) =
    ap length is ∙ length-append (take count lines) (line ∷ more) in (
      ap (λ (n : ℕ). take (n + 1) lines) (sym long)
          ∙ ap (take (length (take count lines) + 1)) is
          ∙ take-append-add (take count lines) (line ∷ more) 1,
      omega (arith, long, all),
    )

-- one more line is shared
pub share_next : (lines others : List (List ℕ)) (count : ℕ) (line same : List ℕ) (more rest : List (List ℕ)) → count ≤ length lines →
    lines ≡ take count lines ++ line ∷ more → others ≡ take count lines ++ same ∷ rest → line ≡ same →
    (lines ≡ take (count + 1) lines ++ more) × (others ≡ take (count + 1) lines ++ rest) × (count + 1 ≤ length lines)
share_next lines others count line same more rest few is other one =
    let next = take_next lines count line more few is in (
      is ∙ sym (ap (λ (front : List (List ℕ)). front ++ more) next.0 ∙ append_assoc (take count lines) (line ∷ []) more),
      other ∙ ap (λ (l : List ℕ). take count lines ++ l ∷ rest) (sym one)
          ∙ sym (ap (λ (front : List (List ℕ)). front ++ rest) next.0 ∙ append_assoc (take count lines) (line ∷ []) rest),
      next.1,
    )

-- texts that begin with the same line, or of which the first is empty
pub differ_empty : (one other : List ℕ) → one ≡ [] → slice_get (lines_of one) 0 ≡ slice_get (lines_of other) 0 → (one ≡ []) × (other ≡ [])
unfolding lines_of
differ_empty one other empty same = (empty, go (lines_of other) refl (sym (ap (λ (text : List ℕ). slice_get (lines_of text) 0) empty) ∙ same)) where
  go : (lines : List (List ℕ)) → lines_of other ≡ lines → None ≡ slice_get lines 0 → other ≡ []
  go [] none e = same_lines other [] none
  go (line ∷ lines) some e = absurd cc

pub differ_line : (one other line same : List ℕ) (more rest : List (List ℕ)) → lines_of one ≡ line ∷ more → (same ≡ [] → other ≡ []) →
    (0 < length same → lines_of other ≡ same ∷ rest) → line ≢ same → slice_get (lines_of one) 0 ≡ slice_get (lines_of other) 0 →
    (one ≡ []) × (other ≡ [])
unfolding lines_of
differ_line one other line [] more rest is none or differ e =
    let nothing : Some line ≡ None =
    ap (λ (lines : List (List ℕ)). slice_get lines 0) (sym is) ∙ e ∙ ap (λ (text : List ℕ). slice_get (lines_of text) 0) (none refl) in
    absurd cc
differ_line one other line (byte ∷ same) more rest is none or differ e =
    let equal : Some line ≡ Some (byte ∷ same) =
    ap (λ (lines : List (List ℕ)). slice_get lines 0) (sym is) ∙ e ∙ ap (λ (lines : List (List ℕ)). slice_get lines 0) (or (omega arith)) in
    let one_line : line ≡ byte ∷ same = cc in
    absurd (differ one_line)

-- ---- bytes that are compared

pub bytes_equal : (xs ys : List ℕ) → pointwise eqb xs ys ≡ true → xs ≡ ys
bytes_equal xs ys is = same_text xs ys (sym is)

bytes_same : (xs : List ℕ) → pointwise eqb xs xs ≡ true
bytes_same [] = refl
bytes_same (x ∷ xs) = rw (eq-eqb x x refl) (bytes_same xs)

pub bytes_differ : (xs ys : List ℕ) → pointwise eqb xs ys ≡ false → xs ≢ ys
bytes_differ xs ys isnt e =
    let both : true ≡ false = sym (bytes_same xs) ∙ ap (pointwise eqb xs) e ∙ isnt in absurd cc

pub is_some : (xs : List ℕ) → eqb (length xs) 0 ≡ false → 0 < length xs
is_some [] isnt = absurd cc
is_some (x ∷ xs) isnt = omega arith

pub is_nothing : (xs : List ℕ) → eqb (length xs) 0 ≡ true → xs ≡ []
is_nothing xs none = nil_from_length xs (eqb-true (length xs) 0 none)

-- ---- what is told of a line

pub told_next : (bytes : List ℕ) (index : ℕ) (before after : List ℕ) (byte d : ℕ) → index < length bytes → before ≡ map shown (take index bytes) →
    byte ≡ shown (get_or bytes index d) → after ≡ before ++ byte ∷ [] → after ≡ map shown (take (index + 1) bytes)
told_next bytes index before after byte d inside so_far is now =
    now
    ∙ ap (λ (b : List ℕ). b ++ byte ∷ []) so_far
    ∙ ap (λ (b : ℕ). map shown (take index bytes) ++ b ∷ []) is
    ∙ sym (map-append shown (take index bytes) (get_or bytes index d ∷ []))
    ∙ ap (map shown) (sym (take_more bytes index d inside))

pub any_some : (line : List ℕ) → eqb (length line) 0 ≡ false → if_any line ≡ Some line
any_some [] isnt = absurd cc
any_some (byte ∷ line) isnt = refl

pub told_all : (line before : List ℕ) (most index : ℕ) (out : List ℕ) → eqb (length line) 0 ≡ false → before ≡ without_feed line → most ≡ min (length before) 200 →
    length (take most before) ≤ index → out ≡ map shown (take index (take most before)) → Some out ≡ option_map told (if_any line)
told_all line before most index out some is few past now =
    let swap : min (length before) 200 ≡ min 200 (length before) = omega arith in
    sym (ap (option_map told) (any_some line some)
    ∙ ap (λ (b : List ℕ). Some (map shown (take 200 b))) (sym is)
    ∙ ap (λ (b : List ℕ). Some (map shown b)) (sym (take_min 200 before))
    ∙ ap (λ (n : ℕ). Some (map shown (take n before))) (sym (few ∙ swap))
    ∙ ap (λ (b : List ℕ). Some (map shown b)) (sym (take_all index (take most before) past))
    ∙ ap Some (sym now))

pub some_line : (line : List ℕ) → 0 < length line → option_map without_feed (if_any line) ≡ Some (without_feed line)
some_line [] some = absurd (omega (arith, some))
some_line (byte ∷ line) some = refl

pub not_nothing : (xs : List ℕ) → eqb (length xs) 0 ≡ false → xs ≢ []
not_nothing [] isnt none = absurd cc
not_nothing (x ∷ xs) isnt none = absurd cc

-- Cuts: where bytes are cut at separators, a text into lines and a line into words.
use Rattle.std.proofs.Common.{◌≡◌, ◌≢◌, ℕ, ◌+◌, ◌-◌, ◌≤◌, Bool, true, false, cond, eqb, ltb, leb, List, [], ◌∷◌, ◌++◌, length, take, drop, Option, Some, None, Ok, Err, refl, sym, ap, ◌∙◌, arith, inl, inr, ◌⊎◌, append_assoc, take_all, suc, map, zero-le}
use Rattle.std.specs.Borrow.{Bor}
use Rattle.std.specs.Prelude.{◌&&◌, not}
use Rattle.std.specs.List.{position_or_len, slice_split, onto_first, list_any}
use Rattle.std.proofs.Math.ListN.{get_or-map}
use Rattle.std.proofs.lemmas.Bool.{false_from_ne_true, ne_eqb, lt-leb, cases_lt, lt-ltb, le-ltb, le-leb, eq-eqb, cond-true, cond-false}
use Rattle.std.proofs.lemmas.List.{length-drop, get_or-drop, length-map, length-append, map-append, append-nil}
use Rattle.std.proofs.lemmas.List.Folds.{list_any-append}
use Rattle.std.proofs.Math.Bool.{or-true}
use Rattle.std.proofs.lemmas.List.Splits.{slice_split_none, slice_split_first}
use Rattle.std.proofs.lemmas.List.Sums.{fails_before_first, position_or_len_is}
use Rattle.memchr.specs.Find.{IsFirstByte, is_byte}
use Rattle.scenario_text.specs.declared.fault.BadKind.TheVariants.{Shape}
use Rattle.scenario_text.specs.Words.{Word}
use Rattle.scenario_text.specs.Faults.{pieces, words_in, lines_in, is_nothing}
use Rattle.scenario_text.specs.Reading.{Read, ◌>>=◌, parts, lent, after, texts, Reads, Takes, used, line_at}

-- where the first separator is, as `position` answers
abbrev pub place_of : ℕ → List ℕ → Option ℕ
place_of separator bytes =
    let place = position_or_len (λ byte. eqb byte separator) bytes in cond (ltb place (length bytes)) (Some place) None

-- and as a search for the byte does
pub first_is : (separator : ℕ) (bytes : List ℕ) (r : Option ℕ) → IsFirstByte (is_byte separator) bytes r → r ≡ place_of separator bytes
first_is separator bytes None none =
    let test = λ (byte : ℕ). eqb byte separator in
    let place : position_or_len test bytes ≡ length bytes =
    position_or_len_is test bytes (length bytes) 0 (omega arith) (λ k below. false_from_ne_true _ (none k zero-le below)) (λ below. absurd (omega arith)) in
    sym (ap (λ (p : ℕ). cond (ltb p (length bytes)) (Some p) None) place ∙ ap (λ (b : Bool). cond b (Some (length bytes)) None) (le-ltb _ _ (omega arith)))
first_is separator bytes (Some end) found =
    let test = λ (byte : ℕ). eqb byte separator in
    let place : position_or_len test bytes ≡ end =
    position_or_len_is test bytes end 0 (omega (arith, found.0.high)) (λ k below. false_from_ne_true _ (found.0.before k zero-le below)) (λ below. found.1) in
    sym (ap (λ (p : ℕ). cond (ltb p (length bytes)) (Some p) None) place ∙ ap (λ (b : Bool). cond b (Some end) None) (lt-ltb _ _ found.0.high))

pub uncut : (separator : ℕ) (bytes : List ℕ) → None ≡ place_of separator bytes → pieces separator bytes ≡ bytes ∷ []
unfolding pieces
uncut separator bytes none =
    let test = λ (byte : ℕ). eqb byte separator in
    let place = position_or_len test bytes in
    elim (cases_lt place (length bytes)) [
      | inl below ↦ let e : None ≡ Some place = none ∙ ap (λ (b : Bool). cond b (Some place) None) (lt-ltb _ _ below) in absurd cc
      | inr past ↦ slice_split_none test bytes (λ k d lt. fails_before_first test bytes k d (omega arith))
    ]

pub cut_at : (separator : ℕ) (bytes : List ℕ) (end : ℕ) → Some end ≡ place_of separator bytes →
    pieces separator bytes ≡ take end bytes ∷ pieces separator (take (length bytes - (end + 1)) (drop (end + 1) bytes))
unfolding pieces
cut_at separator bytes end some =
    let test = λ (byte : ℕ). eqb byte separator in
    let place = position_or_len test bytes in
    elim (cases_lt place (length bytes)) [
      | inl below ↦
          let e : Some end ≡ Some place = some ∙ ap (λ (b : Bool). cond b (Some place) None) (lt-ltb _ _ below) in
          let same : place ≡ end = cc in
          let rest : take (length bytes - (end + 1)) (drop (end + 1) bytes) ≡ drop (end + 1) bytes = take_all _ _ (omega (arith, length-drop (end + 1) bytes)) in
          rw (rest, ← same) (slice_split_first test bytes 0 below)
      | inr past ↦ let e : Some end ≡ None = some ∙ ap (λ (b : Bool). cond b (Some place) None) (le-ltb _ _ past) in absurd cc
    ]

-- there is always a piece
pub record HasPiece (all : List (List ℕ)) : Type 0 where
  pub first : List ℕ
  pub more : List (List ℕ)
  pub is : all ≡ first ∷ more

pub has_piece : (separator : ℕ) (bytes : List ℕ) → HasPiece (pieces separator bytes)
unfolding pieces
has_piece separator [] = record { first = []; more = []; is = refl }
has_piece separator (byte ∷ bytes) =
    let rest = has_piece separator bytes in
    elim (eqb byte separator) as (λ b. HasPiece (cond b ([] ∷ slice_split (λ x. eqb x separator) bytes) (onto_first byte (slice_split (λ x. eqb x separator) bytes)))) [
      | true ↦ record { first = []; more = slice_split (λ x. eqb x separator) bytes; is = refl }
      | false ↦ record { first = byte ∷ rest.first; more = rest.more; is = ap (onto_first byte) rest.is }
    ]

-- ---- the words of a line

abbrev pub is_empty : Word → Bool
is_empty word = eqb (length word) 0

and_no : (b : Bool) → (b && false) ≡ false
and_no true = refl
and_no false = refl

abbrev refused : Read (List Word)
refused = Err Shape

-- one more word
pub one_more : (all more left : List Word) (words new : List (Bor Word)) (word : Bor Word) → all ≡ texts words ++ left → left ≡ word.now ∷ more → new ≡ words ++ word ∷ [] → all ≡ texts new ++ more
one_more all more left words new word cut next is =
    cut
    ∙ ap (λ (ws : List Word). texts words ++ ws) next
    ∙ sym (append_assoc (texts words) (word.now ∷ []) more)
    ∙ ap (λ (ws : List Word). ws ++ more) (sym (map-append (λ (w : Bor Word). w.now) words (word ∷ [])) ∙ ap texts (sym is))

-- that is not empty
pub none_more : (words new : List (Bor Word)) (word : Bor Word) → list_any is_empty (texts words) ≡ false → length word.now ≢ 0 → new ≡ words ++ word ∷ [] → list_any is_empty (texts new) ≡ false
none_more words new word none some is =
    ap (λ (ws : List (Bor Word)). list_any is_empty (texts ws)) is
    ∙ ap (list_any is_empty) (map-append (λ (w : Bor Word). w.now) words (word ∷ []))
    ∙ list_any-append is_empty (texts words) (word.now ∷ [])
    ∙ rw (none, ne_eqb (length word.now) 0 some) refl

-- counted
pub counted_more : (words new : List (Bor Word)) (word : Bor Word) (count : ℕ) → length words ≡ count → new ≡ words ++ word ∷ [] → length new ≡ count + 1
counted_more words new word count counted is = omega (arith, ap length is, length-append words (word ∷ []))

-- a word too many, or an empty one
pub bad_word : (all more : List Word) (words : List (Bor Word)) (count : ℕ) (word : Bor Word) → length words ≡ count → all ≡ texts words ++ word.now ∷ more → (length word.now ≡ 0) ⊎ (count ≡ 15) → used all ≡ Err Shape
bad_word all more words count word counted cut (inl empty) =
    let here : is_empty word.now ≡ true = eq-eqb (length word.now) 0 empty in
    let some : list_any is_empty all ≡ true = ap (list_any is_empty) cut ∙ list_any-append is_empty (texts words) (word.now ∷ more) ∙ rw here (or-true _) in
    cond-false _ (Ok all) refused (ap (λ (b : Bool). leb (length all) 15 && not b) some ∙ and_no (leb (length all) 15))
bad_word all more words count word counted cut (inr full) =
    let count : length all ≡ length (texts words) + suc (length more) = ap length cut ∙ length-append (texts words) (word.now ∷ more) in
    let long : leb (length all) 15 ≡ false = lt-leb _ _ (omega (arith, count, length-map words (λ (w : Bor Word). w.now))) in
    cond-false _ (Ok all) refused (ap (λ (b : Bool). b && not (list_any is_empty all)) long)

-- no word is left
pub all_words : (all : List Word) (words : List (Bor Word)) → all ≡ texts words ++ [] → length words ≤ 15 → list_any is_empty (texts words) ≡ false → used all ≡ Ok (texts words)
all_words all words cut fits none =
    let whole : all ≡ texts words = cut ∙ append-nil (texts words) in
    let short : leb (length (texts words)) 15 ≡ true = le-leb _ _ (omega (arith, length-map words (λ (w : Bor Word). w.now))) in
    ap used whole ∙ cond-true _ (Ok (texts words)) refused (rw (short, none) refl)

-- words are seen alike where they are lent
pub lent_is : (words : List (Bor Word)) → lent words ≡ parts (texts words)
lent_is words = λ i. record {
  count = sym (length-map words (λ (w : Bor Word). w.now)) i;
  at = λ k. sym (get_or-map (λ (w : Bor Word). w.now) words k (record { ref_ptr = (0, 0); now = [] })) i;
}

-- the words after the first so many, as a pattern lends them
pub lent-rest : (n : ℕ) (words : List (Bor Word)) → lent (take (length words - n) (drop n words)) ≡ after n (lent words)
lent-rest n words =
    let rest : take (length words - n) (drop n words) ≡ drop n words = take_all _ _ (omega (arith, length-drop n words)) in
    ap lent rest ∙ (λ i. record {
      count = length-drop n words i;
      at = λ k. (get_or-drop n words k (record { ref_ptr = (0, 0); now = [] }) i).now;
    })

-- ---- the lines of a text

-- what a function read, with the rest that it left
pub Takes-then : {X Y A : Type 0} (view : X → Y) (r : Read X) (read : Read Y) (rest : List A) → Reads view r read → Takes view r rest (read >>= λ y. Ok (y, rest))
Takes-then view (Ok x) read rest h = rw h refl
Takes-then view (Err refusal) read rest h = rw h refl

-- the words of the first line, and the lines after it
pub line_at-lines_in : (text line rest : List ℕ) → pieces 10 text ≡ line ∷ pieces 10 rest → line_at (lines_in text) ≡ (used (words_in line) >>= λ words. Ok (words, lines_in rest))
unfolding lines_in
line_at-lines_in text line rest cut =
    let more = has_piece 10 rest in
    rw (cut, more.is) refl

-- a line of a byte and more is more than an empty word
not_blank : (byte : ℕ) (line : List ℕ) → words_in (byte ∷ line) ≡ [] ∷ [] → ⊥
unfolding words_in pieces
not_blank byte line =
    let rest = has_piece 32 line in
    elim (eqb byte 32) as (λ b. cond b ([] ∷ slice_split (λ x. eqb x 32) line) (onto_first byte (slice_split (λ x. eqb x 32) line)) ≡ [] ∷ [] → ⊥) [
      | true ↦ λ e. let whole : [] ∷ rest.first ∷ rest.more ≡ [] ∷ [] = ap (λ (ps : List (List ℕ)). [] ∷ ps) (sym rest.is) ∙ e in absurd cc
      | false ↦ λ e. let whole : (byte ∷ rest.first) ∷ rest.more ≡ [] ∷ [] = ap (onto_first byte) (sym rest.is) ∙ e in absurd cc
    ]

some_left : (words : List Word) (lines : List (List Word)) → (words ≡ [] ∷ [] → ⊥) → is_nothing (words ∷ lines) ≡ false
some_left [] lines h = refl
some_left ([] ∷ []) [] h = absurd (h refl)
some_left ([] ∷ []) (line ∷ lines) h = refl
some_left ([] ∷ word ∷ words) lines h = refl
some_left ((byte ∷ word) ∷ words) lines h = refl

-- nothing is left only where no byte is
pub is_nothing-lines_in : (text : List ℕ) → is_nothing (lines_in text) ≡ eqb (length text) 0
unfolding lines_in words_in pieces
is_nothing-lines_in [] = refl
is_nothing-lines_in (byte ∷ text) =
    let rest = has_piece 10 text in
    elim (eqb byte 10) as (λ b. is_nothing (map words_in (cond b ([] ∷ slice_split (λ x. eqb x 10) text) (onto_first byte (slice_split (λ x. eqb x 10) text)))) ≡ false) [
      | true ↦ rw rest.is refl
      | false ↦ rw rest.is (some_left (words_in (byte ∷ rest.first)) (map words_in rest.more) (not_blank byte rest.first))
    ]
    ∙ sym (ne_eqb (suc (length text)) 0 (λ e. omega arith))

-- a text has a line at least
pub some_lines : (text : List ℕ) → 1 ≤ length (lines_in text)
unfolding lines_in
some_lines text =
    let some = has_piece 10 text in
    let count : length (map words_in (pieces 10 text)) ≡ suc (length (map words_in some.more)) = ap (λ (ps : List (List ℕ)). length (map words_in ps)) some.is in
    omega arith

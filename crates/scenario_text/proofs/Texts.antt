-- Texts: a text is cut into the lines and the words that it is made of.
use Rattle.std.proofs.Common.{◌≡◌, ◌≢◌, ℕ, suc, ◌^◌, ◌<◌, Bool, true, false, eqb, List, [], ◌∷◌, ◌++◌, map, refl, sym, ap, ◌∙◌, arith, append_assoc, inl, inr}
use Rattle.std.specs.Prelude.{◌⊎◌, ◌&&◌, ℤ, pos, negsuc, not, codes, decimal}
use Rattle.std.specs.Fmt.{signed_decimal}
use Rattle.std.specs.List.{All, AllByRecursion, flat_map, join_with_byte}
use Rattle.std.specs.Str.Parse.{AllDigits}
use Rattle.std.proofs.lemmas.Bool.{and_parts, and_from, not-true, not_from_false, ne_eqb}
use Rattle.std.proofs.lemmas.List.Elements.{All-from_recursion}
use Rattle.std.proofs.lemmas.List.Splits.{slice_split_none, slice_split_at, join_with_byte-slice_split}
use Rattle.std.proofs.lemmas.Str.Parse.{digit_from_value}
use Rattle.std.proofs.lemmas.Fmt.{decimal_is_IsNumeral}
use Rattle.scenario_text.specs.Words.{Word}
use Rattle.scenario_text.specs.Text.{spaced, line}
use Rattle.scenario_text.specs.Faults.{pieces, words_in, lines_in}
use Rattle.scenario_text.proofs.Numbers.{IsSignedWithin}

-- ---- plain words

-- whether the byte does not stand in the word
abbrev pub lacks : ℕ → Word → Bool
lacks byte [] = true
lacks byte (first ∷ word) = not (eqb first byte) && lacks byte word

-- neither a line feed nor a space stands in the word
pub record IsPlain (word : Word) : Type 0 where
  pub no_feed : lacks 10 word ≡ true
  pub no_space : lacks 32 word ≡ true

-- a word that is given is plain by computation
pub plain_word : (word : Word) → lacks 10 word ≡ true → lacks 32 word ≡ true → IsPlain word
plain_word word feed space = record { no_feed = feed; no_space = space }

each_lacks : (byte : ℕ) (word : Word) → lacks byte word ≡ true → AllByRecursion (λ b. eqb b byte ≡ false) word
each_lacks byte [] h = tt
each_lacks byte (first ∷ word) h =
    let parts = and_parts (not (eqb first byte)) (lacks byte word) h in
    (not-true (eqb first byte) parts.0, each_lacks byte word parts.1)

pub all_lack : (byte : ℕ) (word : Word) → lacks byte word ≡ true → All (λ b. eqb b byte ≡ false) word
all_lack byte word h = All-from_recursion (λ b. eqb b byte ≡ false) word (each_lacks byte word h)

pub lacks-append : (byte : ℕ) (a b : Word) → lacks byte a ≡ true → lacks byte b ≡ true → lacks byte (a ++ b) ≡ true
lacks-append byte [] b h k = k
lacks-append byte (first ∷ a) b h k =
    let parts = and_parts (not (eqb first byte)) (lacks byte a) h in
    and_from (not (eqb first byte)) (lacks byte (a ++ b)) parts.0 (lacks-append byte a b parts.1 k)

digits_lack : (byte : ℕ) (word : Word) → (byte < 48) ⊎ (57 < byte) → AllDigits 10 word → lacks byte word ≡ true
digits_lack byte [] other h = refl
digits_lack byte (first ∷ word) other h =
    let range = digit_from_value first h.0 in
    let differs : first ≢ byte = λ e. elim other [ inl low ↦ omega arith | inr high ↦ omega arith ] in
    and_from (not (eqb first byte)) (lacks byte word) (not_from_false (eqb first byte) (ne_eqb first byte differs)) (digits_lack byte word other h.1)

-- no byte but a digit stands in a number
pub decimal_lacks : (byte n : ℕ) → (byte < 48) ⊎ (57 < byte) → n < 2 ^ 64 → lacks byte (decimal n) ≡ true
decimal_lacks byte n other fits = digits_lack byte (decimal n) other (decimal_is_IsNumeral n fits).0.1

pub plain_decimal : (n : ℕ) → n < 2 ^ 64 → IsPlain (decimal n)
plain_decimal n fits =
    record { no_feed = decimal_lacks 10 n (inl (omega arith)) fits; no_space = decimal_lacks 32 n (inl (omega arith)) fits }

pub pick_plain-append : (a b : Word) → IsPlain a → IsPlain b → IsPlain (a ++ b)
pick_plain-append a b h k =
    record { no_feed = lacks-append 10 a b h.no_feed k.no_feed; no_space = lacks-append 32 a b h.no_space k.no_space }

pub plain_signed : (below above : ℕ) (z : ℤ) → below < 2 ^ 64 → above < 2 ^ 64 → IsSignedWithin below above z → IsPlain (signed_decimal z)
plain_signed below above (pos n) small few is = plain_decimal n (omega arith)
plain_signed below above (negsuc n) small few is =
    pick_plain-append (codes "-") (decimal (suc n)) (plain_word _ refl refl) (plain_decimal (suc n) (omega arith))

-- ---- lines

-- each line has a word, and each word is plain
abbrev pub ArePlain : List (List Word) → Type 0
ArePlain [] = Unit {0}
ArePlain ([] ∷ lines) = ⊥
ArePlain ((word ∷ words) ∷ lines) = AllByRecursion IsPlain (word ∷ words) × ArePlain lines

pub ArePlain-append : (a b : List (List Word)) → ArePlain a → ArePlain b → ArePlain (a ++ b)
ArePlain-append [] b h k = k
ArePlain-append ([] ∷ a) b h k = absurd h
ArePlain-append ((word ∷ words) ∷ a) b h k = (h.0, ArePlain-append a b h.1 k)

pub words_in-spaced : (word : Word) (words : List Word) → AllByRecursion IsPlain (word ∷ words) → words_in (spaced (word ∷ words)) ≡ word ∷ words
unfolding words_in pieces
words_in-spaced word [] h = slice_split_none (λ b. eqb b 32) word (all_lack 32 word h.0.no_space)
words_in-spaced word (next ∷ words) h =
    slice_split_at (λ b. eqb b 32) word 32 (spaced (next ∷ words)) (all_lack 32 word h.0.no_space) refl
    ∙ ap (λ (ws : List Word). word ∷ ws) (words_in-spaced next words h.1)

pub spaced_lacks : (word : Word) (words : List Word) → AllByRecursion IsPlain (word ∷ words) → lacks 10 (spaced (word ∷ words)) ≡ true
spaced_lacks word [] h = h.0.no_feed
spaced_lacks word (next ∷ words) h =
    lacks-append 10 word (32 ∷ spaced (next ∷ words)) h.0.no_feed (spaced_lacks next words h.1)

-- plain lines are cut where they are joined
pub lines_in-flat_map : (lines : List (List Word)) → ArePlain lines → lines_in (flat_map line lines) ≡ lines ++ ([] ∷ []) ∷ []
unfolding lines_in words_in pieces
lines_in-flat_map [] h = refl
lines_in-flat_map ([] ∷ lines) h = absurd h
lines_in-flat_map ((word ∷ words) ∷ lines) h =
    let text = spaced (word ∷ words) in
    let rest = flat_map line lines in
    let cut : pieces 10 (text ++ 10 ∷ rest) ≡ text ∷ pieces 10 rest =
    slice_split_at (λ b. eqb b 10) text 10 rest (all_lack 10 text (spaced_lacks word words h.0)) refl in
    let prefix : words_in text ≡ word ∷ words = words_in-spaced word words h.0 in
    let more : lines_in rest ≡ lines ++ ([] ∷ []) ∷ [] = lines_in-flat_map lines h.1 in
    ap lines_in (append_assoc text (10 ∷ []) rest)
    ∙ ap (map words_in) cut
    ∙ ap (λ (ws : List Word). ws ∷ lines_in rest) prefix
    ∙ ap (λ (ls : List (List Word)). (word ∷ words) ∷ ls) more

spaced-words_in : (bytes : List ℕ) → spaced (words_in bytes) ≡ bytes
unfolding words_in pieces
spaced-words_in bytes = join_with_byte-slice_split 32 bytes

joined : (parts : List (List ℕ)) (lines : List (List Word)) → map words_in parts ≡ lines ++ ([] ∷ []) ∷ [] → join_with_byte 10 parts ≡ flat_map line lines
joined [] [] h = absurd cc
joined [] (words ∷ lines) h = absurd cc
joined (part ∷ []) [] h =
    let blank : words_in part ≡ [] ∷ [] = cc in
    sym (spaced-words_in part) ∙ ap spaced blank
joined (part ∷ next ∷ parts) [] h = absurd cc
joined (part ∷ []) (words ∷ []) h = absurd cc
joined (part ∷ []) (words ∷ line ∷ lines) h = absurd cc
joined (part ∷ next ∷ parts) (words ∷ lines) h =
    let here : words_in part ≡ words = cc in
    let there : map words_in (next ∷ parts) ≡ lines ++ ([] ∷ []) ∷ [] = cc in
    let prefix : part ≡ spaced words = sym (spaced-words_in part) ∙ ap spaced here in
    ap (λ (bytes : List ℕ). bytes ++ (10 ∷ join_with_byte 10 (next ∷ parts))) prefix
    ∙ ap (λ (bytes : List ℕ). spaced words ++ (10 ∷ bytes)) (joined (next ∷ parts) lines there)
    ∙ sym (append_assoc (spaced words) (10 ∷ []) (flat_map line lines))

-- a text is made of the lines into which it is cut
pub text_is : (bytes : List ℕ) (lines : List (List Word)) → lines_in bytes ≡ lines ++ ([] ∷ []) ∷ [] → bytes ≡ flat_map line lines
unfolding lines_in pieces
text_is bytes lines h = sym (join_with_byte-slice_split 10 bytes) ∙ joined (pieces 10 bytes) lines h

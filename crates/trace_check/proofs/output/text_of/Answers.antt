use Rattle.std.proofs.Common.{◌≡◌, ℕ, ◌+◌, ◌<◌, List, [], ◌∷◌, ◌++◌, length, get_or, take, encode_utf8, encode_utf8_all, sym, ap, ◌∙◌, append-nil}
use Rattle.std.proofs.lemmas.List.{take_more}
use Rattle.std.proofs.lemmas.Str.{encodes-append}
use Rattle.trace_check.proofs.output.text_of.Goals as goal

-- the characters of one byte more
next_char : (bytes : List ℕ) (index : ℕ) → index < length bytes → encode_utf8_all (take index bytes) ++ encode_utf8 (get_or bytes index 0) ≡ encode_utf8_all (take (index + 1) bytes)
next_char bytes index inside =
    sym (ap encode_utf8_all (take_more bytes index 0 inside)
    ∙ encodes-append (take index bytes) (get_or bytes index 0 ∷ [])
    ∙ ap (λ (t : List ℕ). encode_utf8_all (take index bytes) ++ t) (append-nil (encode_utf8 (get_or bytes index 0))))

pub loop-byte-preserved : goal.loop-byte-preserved
loop-byte-preserved c =
    c.in_ok-push.ensures.bytes
    ∙ ap (λ (t : List ℕ). t ++ encode_utf8 c.from.result) c.loop-byte.invariant
    ∙ ap (λ (k : ℕ). encode_utf8_all (take c.loop-byte.byte-index c.args.bytes.now) ++ encode_utf8 k) c.from.ensures
    ∙ next_char c.args.bytes.now c.loop-byte.byte-index c.loop-byte-test.true

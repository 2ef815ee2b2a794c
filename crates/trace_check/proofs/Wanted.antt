-- Wanted: what is wanted in the place of a line, by whether the line names the step of the entry that was made.
use Rattle.std.proofs.Common.{◌≡◌, ℕ, true, false, eqb, List, [], ◌++◌, length, take, drop, Option, Some, sym, ap, ◌∙◌, subst}
use Rattle.std.specs.Prelude.{codes}
use Rattle.std.specs.Cmp.Lexicographic.{pointwise}
use Rattle.std.proofs.Math.Seq.{take-append_seam}
use Rattle.std.proofs.lemmas.List.{take-append-drop}
use Rattle.cs_types.specs.declared.reply.Entry.{Entry}
use Rattle.scenario_text.specs.Words.{made_words}
use Rattle.scenario_text.specs.Text.{spaced, entry_text}
use Rattle.trace_check.specs.Following.{IsWantedLine, step_of}
use Rattle.trace_check.specs.Verdicts.{Names}
use Rattle.trace_check.proofs.Texts.{bytes_equal, bytes_differ}

-- what stands before the reply
abbrev head : Entry → List ℕ
head made = spaced (made_words made.actor made.event) ++ codes ": "

-- it is that of the line if a comparison says so
names : (made : Entry) (line begun : List ℕ) → begun ≡ head made → pointwise eqb begun (take (length begun) line) ≡ true → Names line (step_of made)
names made line begun is match =
    let front = bytes_equal begun (take (length begun) line) match in (
      drop (length begun) line,
      ap (λ (b : List ℕ). b ++ drop (length begun) line) (sym is ∙ front) ∙ take-append-drop (length begun) line,
    )

names_not : (made : Entry) (line begun : List ℕ) → begun ≡ head made → pointwise eqb begun (take (length begun) line) ≡ false → Names line (step_of made) → ⊥
names_not made line begun is differ named =
    bytes_differ begun (take (length begun) line) differ
    (sym (take-append_seam begun named.0) ∙ ap (take (length begun)) (ap (λ (b : List ℕ). b ++ named.0) is ∙ named.1))

pub named_line : (entry : Option Entry) (made : Entry) (line begun want : List ℕ) → entry ≡ Some made → begun ≡ head made →
    pointwise eqb begun (take (length begun) line) ≡ true → want ≡ entry_text made → IsWantedLine entry line want
named_line entry made line begun want some is match wanted =
    subst (λ (e : Option Entry). IsWantedLine e line want) (sym some) (record {
      named = λ named. wanted;
      unnamed = λ unnamed. absurd (unnamed (names made line begun is match));
      none = λ e. absurd cc;
    })

pub other_line : (entry : Option Entry) (made : Entry) (line begun want : List ℕ) → entry ≡ Some made → begun ≡ head made →
    pointwise eqb begun (take (length begun) line) ≡ false → want ≡ [] → IsWantedLine entry line want
other_line entry made line begun want some is differ wanted =
    subst (λ (e : Option Entry). IsWantedLine e line want) (sym some) (record {
      named = λ named. absurd (names_not made line begun is differ named);
      unnamed = λ unnamed. wanted;
      none = λ e. absurd cc;
    })

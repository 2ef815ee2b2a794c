-- Plain: what the parser makes of a word that does not begin with `-`.
use Rattle.std.proofs.Common.{◌≡◌, ◌∙◌, ap, refl, ℕ, ◌==◌, ◌&&◌, Bool, false, List, [], ◌∷◌, Option, Some, None, if◌then◌else◌, option_and_then}
use Rattle.std.specs.Str.{bytes_eq}
use Rattle.clap.specs.Lexer.{long_of, long_of_rest, short_of, short_of_rest, strip_byte}
use Rattle.clap.specs.Walk.{Held, Names, Rule, Step, Text, Walk, idle, value, subcommand_met, subcommand_or_other, to_positional, arg_by_index, walked, after_step}
use Rattle.clap.specs.Kinds.{or_else}
use Rattle.clap.specs.Faults.{other_fault, step_fault, turn_fault}
use Rattle.clap.specs.Simple.{Shape}
use Rattle.command_words.specs.Forms.{is_option}

-- no byte is stripped
unstripped : (word : Text) → is_option word ≡ false → strip_byte 45 word ≡ None
unstripped [] is = refl
unstripped (byte ∷ rest) is = ap (λ (b : Bool). if b then Some rest else None) is

-- it is neither a long option, nor a short one, nor `--`
no_long : (word : Text) → is_option word ≡ false → long_of word ≡ None
no_long word is = ap (λ (rest : Option Text). option_and_then long_of_rest (option_and_then (strip_byte 45) rest)) (unstripped word is)

no_short : (word : Text) → is_option word ≡ false → short_of word ≡ None
no_short word is = ap (option_and_then short_of_rest) (unstripped word is)

no_dashes : (word : Text) → is_option word ≡ false → bytes_eq word (45 ∷ 45 ∷ []) ≡ false
no_dashes [] is = refl
no_dashes (byte ∷ []) is = ap (λ (b : Bool). b && false) is
no_dashes (byte ∷ next ∷ rest) is = ap (λ (b : Bool). b && ((next == 45) && bytes_eq rest [])) is

-- a word that names no subcommand goes to a positional
goes_on : (rules : List Rule) (position : ℕ) (word : Text) (held : Held) → is_option word ≡ false → subcommand_or_other rules None idle position word held ≡ (held, value)
goes_on rules position word held is = rw (no_dashes word is, no_long word is, no_short word is) refl

-- and is no fault before that
no_fault : (shape : Shape) (word : Text) (held : Held) → is_option word ≡ false → other_fault shape None word held ≡ []
no_fault shape word held is = rw (no_dashes word is, no_long word is, no_short word is) refl

-- where a walk begins, with a number of positionals behind it
abbrev pub ready : Held → ℕ → Walk
ready held position = record { held = held; waiting = idle; position = position; is_trailing = false; stopped = None }

-- the turn of such a word
pub turn_of_plain : (shape : Shape) (names : Names) (position : ℕ) (held : Held) (word : Text) → is_option word ≡ false → subcommand_met names idle word ≡ None →
    turn_fault shape names (ready held position) word ≡ step_fault shape position held value
turn_of_plain shape names position held word is none =
    ap (λ (met : Option Text). or_else (other_fault shape met word held)
    (step_fault shape position (subcommand_or_other shape.rules met idle position word held).0 (subcommand_or_other shape.rules met idle position word held).1)) none
    ∙ (λ i. or_else (no_fault shape word held is i) (step_fault shape position (goes_on shape.rules position word held is i).0 (goes_on shape.rules position word held is i).1))

-- and where it leads
pub walk_of_plain : (rules : List Rule) (names : Names) (position : ℕ) (held : Held) (word : Text) → is_option word ≡ false → subcommand_met names idle word ≡ None →
    walked rules names (ready held position) word ≡ to_positional rules (arg_by_index rules position) word (ready held position) held
unfolding walked
walk_of_plain rules names position held word is none =
    ap (λ (met : Option Text). after_step rules word (ready held position) (subcommand_or_other rules met idle position word held).0 (subcommand_or_other rules met idle position word held).1) none
    ∙ ap (λ (met : Held × Step). after_step rules word (ready held position) met.0 met.1) (goes_on rules position word held is)

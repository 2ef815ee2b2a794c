-- Runs: how the lines of a history's output stand in a text.
use Rattle.std.proofs.Common.{◌≡◌, ℕ, ◌<◌, true, List, [], ◌∷◌, ◌++◌, length, map, refl, sym, ap, ◌∙◌, subst, arith, append_assoc}
use Rattle.std.specs.Prelude.{codes}
use Rattle.std.specs.List.{flat_map, AllByRecursion}
use Rattle.cs_types.specs.declared.event.Actor.{Actor}
use Rattle.cs_types.specs.declared.event.Actor.TheVariants.{Sibling, Caller, End}
use Rattle.cs_types.specs.declared.event.Event.{Event}
use Rattle.cs_types.specs.declared.event.Event.TheVariants.{Turn, Resched, Block, Exit, Tick, Wake, Advance, Fork, Prctl, SetSched, Offline, Online, Load, Unload}
use Rattle.cs_types.specs.declared.event.Step.{Step}
use Rattle.cs_types.specs.declared.reply.Entry.{Entry}
use Rattle.cs_types.specs.History.{History}
use Rattle.scenario_text.specs.Words.{Word, actor_word, event_words, deed_words, made_words, reply_words}
use Rattle.scenario_text.specs.Text.{spaced, line, entry_text}
use Rattle.scenario_text.specs.Entry.{FitsReply, IsMade}
use Rattle.scenario_text.proofs.Texts.{lacks, lacks-append}
use Rattle.scenario_text.proofs.Entries.{cut_made, cut_reply}
use Rattle.trace_check.specs.Lines.{lines_of}
use Rattle.trace_check.specs.Scripts.{BeginsWith}
use Rattle.trace_check.proofs.Texts.{lines-feed, first_begins}

-- ---- how the line of an entry begins

-- some word stands behind the actor's
record HasWord (words : List Word) : Type 0 where
  first : Word
  more : List Word
  is : words ≡ first ∷ more

has : (first : Word) (more : List Word) → HasWord (first ∷ more)
has first more = record { first = first; more = more; is = refl }

event_word : (event : Event) → HasWord (event_words event)
event_word (Turn cpu) = has _ _
event_word (Resched cpu) = has _ _
event_word (Block cpu) = has _ _
event_word (Exit cpu) = has _ _
event_word (Tick cpu) = has _ _
event_word (Wake pid) = has _ _
event_word (Advance delta) = has _ _
event_word (Fork caller thread) = has _ _
event_word (Prctl caller ask) = has _ _
event_word (SetSched pid policy) = has _ _
event_word (Offline cpu) = has _ _
event_word (Online cpu) = has _ _
event_word (Load index) = has _ _
event_word (Unload index) = has _ _

deed_word : (actor : Actor) (event : Event) → HasWord (deed_words actor event)
deed_word (Sibling i) event = event_word event
deed_word (Caller j) event = event_word event
deed_word End (Resched cpu) = has _ _
deed_word End event = event_word event

-- what stands behind the actor's word and the space
abbrev behind_actor : Entry → Word → List Word → List ℕ
behind_actor entry first more = spaced (first ∷ more) ++ codes ": " ++ line (reply_words entry.reply)

regroup : (word deed reply : List ℕ) → (word ++ 32 ∷ deed) ++ codes ": " ++ reply ≡ word ++ 32 ∷ (deed ++ codes ": " ++ reply)
regroup word deed reply = simp append_assoc

spaced_actor : (word first : Word) (more : List Word) → spaced (word ∷ first ∷ more) ≡ word ++ 32 ∷ spaced (first ∷ more)
spaced_actor word first more = refl

starts : (entry : Entry) (first : Word) (more : List Word) → deed_words entry.actor entry.event ≡ first ∷ more →
    entry_text entry ≡ actor_word entry.actor ++ 32 ∷ behind_actor entry first more
starts entry first more is =
    let reply = line (reply_words entry.reply) in
    let word = actor_word entry.actor in
    let made : spaced (made_words entry.actor entry.event) ≡ word ++ 32 ∷ spaced (first ∷ more) =
    ap (λ (deed : List Word). spaced (word ∷ deed)) is ∙ spaced_actor word first more in
    ap (λ (bytes : List ℕ). bytes ++ codes ": " ++ reply) made ∙ regroup word (spaced (first ∷ more)) reply

-- its text, whatever follows, and its line begin with its actor
pub record BeginsAsLine (entry : Entry) (text : List ℕ) : Type 0 where
  pub line : List ℕ
  pub more : List (List ℕ)
  pub lines : lines_of text ≡ line ∷ more
  pub begins : BeginsWith entry.actor line

-- the first line of a text that begins with a word and a space does so too
record IsFirst (word behind : List ℕ) : Type 0 where
  tail : List ℕ
  more : List (List ℕ)
  is : lines_of (word ++ 32 ∷ behind) ≡ (word ++ 32 ∷ tail) ∷ more

first_word : (word behind : List ℕ) → lacks 10 word ≡ true → IsFirst word behind
first_word [] behind lack = let first = first_begins 32 [] behind refl in record { tail = first.tail; more = first.more; is = first.is }
first_word (byte ∷ word) behind lack =
    let first = first_begins byte (word ++ 32 ∷ []) behind (lacks-append 10 (byte ∷ word) (32 ∷ []) lack refl) in
    record {
      tail = first.tail;
      more = first.more;
      is =
          ap lines_of (sym (append_assoc (byte ∷ word) (32 ∷ []) behind)) ∙ first.is
          ∙ ap (λ (line : List ℕ). line ∷ first.more) (append_assoc (byte ∷ word) (32 ∷ []) first.tail);
    }

pub entry_begins : (entry : Entry) (rest : List ℕ) → lacks 10 (actor_word entry.actor) ≡ true → BeginsAsLine entry (entry_text entry ++ rest)
entry_begins entry rest lack =
    let word = deed_word entry.actor entry.event in
    let text = behind_actor entry word.first word.more in
    let first = first_word (actor_word entry.actor) (text ++ rest) lack in
    record {
      line = actor_word entry.actor ++ 32 ∷ first.tail;
      more = first.more;
      lines =
          ap (λ (bytes : List ℕ). lines_of (bytes ++ rest)) (starts entry word.first word.more word.is)
          ∙ ap lines_of (append_assoc (actor_word entry.actor) (32 ∷ text) rest) ∙ first.is;
      begins = record { behind = first.tail; is = refl };
    }

-- its text alone is its line
pub text_begins : (entry : Entry) → BeginsWith entry.actor (entry_text entry)
text_begins entry =
    let word = deed_word entry.actor entry.event in
    record { behind = behind_actor entry word.first word.more; is = starts entry word.first word.more word.is }

-- so does what begins with a step's text
pub step_begins : (step : Step) (text rest : List ℕ) → (spaced (made_words step.actor step.event) ++ codes ": ") ++ rest ≡ text → BeginsWith step.actor text
step_begins step text rest is =
    let word = deed_word step.actor step.event in
    let actor = actor_word step.actor in
    let deed = spaced (word.first ∷ word.more) in
    record {
      behind = (deed ++ codes ": ") ++ rest;
      is =
          sym is
          ∙ ap (λ (deeds : List Word). (spaced (actor ∷ deeds) ++ codes ": ") ++ rest) word.is
          ∙ ap (λ (bytes : List ℕ). (bytes ++ codes ": ") ++ rest) (spaced_actor actor word.first word.more)
          ∙ ap (λ (bytes : List ℕ). bytes ++ rest) (append_assoc actor (32 ∷ deed) (codes ": "))
          ∙ append_assoc actor (32 ∷ (deed ++ codes ": ")) rest;
    }

longer : (word behind : List ℕ) → 0 < length (word ++ 32 ∷ behind)
longer [] behind = omega arith
longer (byte ∷ word) behind = omega arith

pub some_text : (entry : Entry) → 0 < length (entry_text entry)
some_text entry =
    let begins = text_begins entry in
    subst (λ (text : List ℕ). 0 < length text) (sym begins.is) (longer (actor_word entry.actor) begins.behind)

-- ---- the lines of entries

whole : (step reply : List ℕ) → step ++ codes ": " ++ (reply ++ 10 ∷ []) ≡ (step ++ (codes ": " ++ reply)) ++ 10 ∷ []
whole step reply = simp append_assoc

-- an entry whose numbers keep their limits has one line
pub one_line : (entry : Entry) (rest : List ℕ) → IsMade entry.actor entry.event → FitsReply entry.reply →
    lines_of (entry_text entry ++ rest) ≡ entry_text entry ∷ lines_of rest
one_line entry rest made fits =
    let step = spaced (made_words entry.actor entry.event) in
    let reply = spaced (reply_words entry.reply) in
    let body = step ++ (codes ": " ++ reply) in
    let lack = lacks-append 10 step (codes ": " ++ reply) (cut_made entry.actor entry.event made).no_feed
    (lacks-append 10 (codes ": ") reply refl (cut_reply entry.reply fits).no_feed) in
    let is : entry_text entry ≡ body ++ 10 ∷ [] = whole step reply in
    ap (λ (text : List ℕ). lines_of (text ++ rest)) is
    ∙ ap lines_of (append_assoc body (10 ∷ []) rest)
    ∙ lines-feed body rest lack
    ∙ ap (λ (text : List ℕ). text ∷ lines_of rest) (sym is)

pub entry_lines : (history : History) (rest : List ℕ) → AllByRecursion (λ entry. IsMade entry.actor entry.event) history →
    AllByRecursion (λ entry. FitsReply entry.reply) history →
    lines_of (flat_map entry_text history ++ rest) ≡ map entry_text history ++ lines_of rest
entry_lines [] rest made fits = refl
entry_lines (entry ∷ history) rest made fits =
    ap lines_of (append_assoc (entry_text entry) (flat_map entry_text history) rest)
    ∙ one_line entry (flat_map entry_text history ++ rest) made.0 fits.0
    ∙ ap (λ (lines : List (List ℕ)). entry_text entry ∷ lines) (entry_lines history rest made.1 fits.1)

-- Entries: the line of an entry spells it alone, whatever follows the line.
use Rattle.std.proofs.Common.{◌≡◌, ◌≢◌, ℕ, suc, ◌^◌, ◌<◌, Bool, true, false, eqb, List, [], ◌∷◌, ◌++◌, length, drop, get_or, Ok, refl, sym, ap, ◌∙◌, arith, append_assoc, append-nil, inr}
use Rattle.std.specs.Prelude.{ℤ, pos, negsuc, ◌==◌, ◌&&◌, not, if◌then◌else◌, codes, decimal}
use Rattle.std.specs.Fmt.{signed_decimal}
use Rattle.std.specs.List.{AllByRecursion}
use Rattle.std.proofs.lemmas.Bool.{and_parts, and_from, not-true, cond_both}
use Rattle.std.proofs.lemmas.Bool.Decides.{nat_tests}
use Rattle.std.proofs.lemmas.Fmt.{decimal_nonempty}
use Rattle.cs_types.specs.declared.event.Actor.{Actor}
use Rattle.cs_types.specs.declared.event.Actor.TheVariants.{Sibling, Caller, End}
use Rattle.cs_types.specs.declared.event.Ask.{Ask}
use Rattle.cs_types.specs.declared.event.Event.{Event}
use Rattle.cs_types.specs.declared.event.Event.TheVariants.{Turn, Resched, Block, Exit, Tick, Wake, Advance, Fork, Prctl, SetSched, Offline, Online, Load, Unload}
use Rattle.cs_types.specs.declared.event.Step.{Step}
use Rattle.cs_types.specs.declared.task.Policy.{Policy}
use Rattle.cs_types.specs.declared.task.Policy.TheVariants.{Stop, Deadline, Fifo, Rr, Fair}
use Rattle.cs_types.specs.declared.reply.Kind.{Kind}
use Rattle.cs_types.specs.declared.reply.Kind.TheVariants.{Selected, Adopted, Plain}
use Rattle.cs_types.specs.declared.reply.Errno.{Errno}
use Rattle.cs_types.specs.declared.reply.Errno.TheVariants.{Eperm, Esrch, Eagain, Enomem, Efault, Enodev, Einval, Ebusy}
use Rattle.cs_types.specs.declared.reply.Pick.{Pick}
use Rattle.cs_types.specs.declared.reply.Reply.{Reply}
use Rattle.cs_types.specs.declared.reply.Reply.TheVariants.{Picked, Nothing, Stole, Missed, Slept, Ended, Idle, HasThreads, Woken, Awake, NoTask, Now, Ticked, Child, Zero, Value, Set, Done, Already, Refused, NoCaller, Loaded, Dropped, NoGuard}
use Rattle.cs_types.specs.declared.reply.Reply.TheVariants as answer
use Rattle.cs_types.specs.declared.reply.Entry.{Entry}
use Rattle.cs_types.specs.Scenario.{IsPolicy, IsAsk, IsEvent}
use Rattle.scenario_text.specs.Words.{Word, policy_word, actor_word, ask_words, child_word, event_words, deed_words, made_words, run_word, kind_word, errno_word, pick_words, reply_words}
use Rattle.scenario_text.specs.Text.{spaced, entry_text}
use Rattle.scenario_text.specs.Entry.{FitsPick, FitsReply, IsMade, IsEntry}
use Rattle.scenario_text.specs.Grammar.{value}
use Rattle.scenario_text.specs.Faults.{words_in}
use Rattle.scenario_text.specs.Reading.{Read, parts, step_line}
use Rattle.scenario_text.proofs.Numbers.{IsSignedWithin, number_again}
use Rattle.scenario_text.proofs.Fields.{nice_is}
use Rattle.scenario_text.proofs.Steps.{by, pid_is, sibling_within, caller_within, step_again}
use Rattle.scenario_text.proofs.Texts.{lacks, IsPlain, plain_word, plain_decimal, decimal_lacks, lacks-append, words_in-spaced, spaced_lacks}
use Rattle.scenario_text.proofs.Plain.{plain_made}
use Rattle.scenario_text.proofs.Replies.{one_reply}

-- ---- a cut

not_itself : (first byte : ℕ) → not (eqb first byte) ≡ true → first ≢ byte
not_itself first byte differs e = grind (arith, nat_tests)

-- two texts that are cut at the first of a byte
cut_at : (byte : ℕ) (a b rest more : List ℕ) → lacks byte a ≡ true → lacks byte b ≡ true → a ++ byte ∷ rest ≡ b ++ byte ∷ more →
    (a ≡ b) × (rest ≡ more)
cut_at byte [] [] rest more h k e = (refl, cc)
cut_at byte [] (y ∷ b) rest more h k e =
    let same : y ≡ byte = cc in absurd (not_itself y byte (and_parts (not (eqb y byte)) (lacks byte b) k).0 same)
cut_at byte (x ∷ a) [] rest more h k e =
    let same : x ≡ byte = cc in absurd (not_itself x byte (and_parts (not (eqb x byte)) (lacks byte a) h).0 same)
cut_at byte (x ∷ a) (y ∷ b) rest more h k e =
    let tail : a ++ byte ∷ rest ≡ b ++ byte ∷ more = cc in
    let cut = cut_at byte a b rest more (and_parts (not (eqb x byte)) (lacks byte a) h).1 (and_parts (not (eqb y byte)) (lacks byte b) k).1 tail in
    let prefix : a ≡ b = cut.0 in
    (cc, cut.1)

-- ---- the colon before the reply

abbrev begins_with_space : List ℕ → Bool
begins_with_space [] = false
begins_with_space (first ∷ text) = eqb first 32

-- whether no colon stands before a space in the text
abbrev lacks_stop : List ℕ → Bool
lacks_stop [] = true
lacks_stop (first ∷ text) = not (eqb first 58 && begins_with_space text) && lacks_stop text

no_stop : (first second : ℕ) → not (eqb first 58 && eqb second 32) ≡ true → first ≡ 58 → second ≢ 32
no_stop first second lacks is e = grind (arith, nat_tests)

-- a text that begins so does not begin with a byte or more that has no colon before a space
not_later : (y : ℕ) (b rest more : List ℕ) → lacks_stop (y ∷ b) ≡ true → 58 ∷ 32 ∷ rest ≢ (y ∷ b) ++ 58 ∷ 32 ∷ more
not_later y [] rest more k e = let second = ap (λ (bytes : List ℕ). get_or bytes 1 0) e in omega arith
not_later y (z ∷ b) rest more k e =
    no_stop y z (and_parts (not (eqb y 58 && eqb z 32)) (lacks_stop (z ∷ b)) k).0
    (sym (ap (λ (bytes : List ℕ). get_or bytes 0 0) e)) (sym (ap (λ (bytes : List ℕ). get_or bytes 1 0) e))

-- two texts that are cut at the first colon before a space
cut_at_stop : (a b rest more : List ℕ) → lacks_stop a ≡ true → lacks_stop b ≡ true → a ++ 58 ∷ 32 ∷ rest ≡ b ++ 58 ∷ 32 ∷ more →
    (a ≡ b) × (rest ≡ more)
cut_at_stop [] [] rest more h k e = (refl, ap (drop 2) e)
cut_at_stop [] (y ∷ b) rest more h k e = absurd (not_later y b rest more k e)
cut_at_stop (x ∷ a) [] rest more h k e = absurd (not_later x a more rest h (sym e))
cut_at_stop (x ∷ a) (y ∷ b) rest more h k e =
    let cut = cut_at_stop a b rest more
    (and_parts (not (eqb x 58 && begins_with_space a)) (lacks_stop a) h).1
    (and_parts (not (eqb y 58 && begins_with_space b)) (lacks_stop b) k).1 (ap (drop 1) e) in
    let first : x ≡ y = ap (λ (bytes : List ℕ). get_or bytes 0 0) e in
    let prefix : a ≡ b = cut.0 in
    (cc, cut.1)

-- ---- no colon stands before a space in what was made

-- a word that brings no colon before a space to a text that it stands before
abbrev IsClosed : Word → Type 0
IsClosed word = (text : List ℕ) → lacks_stop text ≡ true → lacks_stop (word ++ text) ≡ true

abbrev AreClosed : List Word → Type 0
AreClosed words = AllByRecursion IsClosed words

closed : (word : Word) → lacks 58 word ≡ true → IsClosed word
closed [] lack text k = k
closed (first ∷ word) lack text k =
    let parts = and_parts (not (eqb first 58)) (lacks 58 word) lack in
    rw (not-true (eqb first 58) parts.0) (closed word parts.1 text k)

-- what may stand after a colon: a word that has no colon, and begins with no space
record IsTail (word : Word) : Type 0 where
  some : 0 < length word
  no_space : lacks 32 word ≡ true
  no_colon : lacks 58 word ≡ true

closed_after : (word : Word) → IsTail word → IsClosed (58 ∷ word)
closed_after [] tail text k = let some = tail.some in absurd (omega arith)
closed_after (first ∷ word) tail text k =
    let parts = and_parts (not (eqb first 32)) (lacks 32 word) tail.no_space in
    and_from (not (eqb first 32)) (lacks_stop ((first ∷ word) ++ text)) parts.0 (closed (first ∷ word) tail.no_colon text k)

colon_decimal : (n : ℕ) → n < 2 ^ 64 → lacks 58 (decimal n) ≡ true
colon_decimal n fits = decimal_lacks 58 n (inr (omega arith)) fits

closed_decimal : (n : ℕ) → n < 2 ^ 64 → IsClosed (decimal n)
closed_decimal n fits = closed (decimal n) (colon_decimal n fits)

tail_decimal : (n : ℕ) → n < 2 ^ 64 → IsTail (decimal n)
tail_decimal n fits =
    record { some = decimal_nonempty n fits; no_space = (plain_decimal n fits).no_space; no_colon = colon_decimal n fits }

colon_signed : (z : ℤ) → IsSignedWithin 2147483648 2147483647 z → lacks 58 (signed_decimal z) ≡ true
colon_signed (pos n) is = colon_decimal n (omega arith)
colon_signed (negsuc n) is = lacks-append 58 (codes "-") (decimal (suc n)) refl (colon_decimal (suc n) (omega arith))

tail_nice : (z : ℤ) → IsSignedWithin 20 19 z → IsTail (signed_decimal z)
tail_nice (pos n) is = tail_decimal n (omega arith)
tail_nice (negsuc n) is =
    let tail = tail_decimal (suc n) (omega arith) in
    record {
      some = omega arith;
      no_space = lacks-append 32 (codes "-") (decimal (suc n)) refl tail.no_space;
      no_colon = lacks-append 58 (codes "-") (decimal (suc n)) refl tail.no_colon;
    }

closed_policy : (policy : Policy) → IsPolicy policy → IsClosed (policy_word policy)
closed_policy Stop is = closed (codes "stop") refl
closed_policy (Deadline relative) is = closed_after (decimal relative) (tail_decimal relative (omega arith))
closed_policy (Fifo priority) is = closed_after (decimal priority) (tail_decimal priority (omega arith))
closed_policy (Rr priority) is = closed_after (decimal priority) (tail_decimal priority (omega arith))
closed_policy (Fair nice) is = closed_after (signed_decimal nice) (tail_nice nice ((nice_is nice).1 is))

closed_child : (thread : Bool) → IsClosed (child_word thread)
closed_child true = closed (codes "thread") refl
closed_child false = closed (codes "process") refl

closed_ask : (ask : Ask) → IsAsk ask → AreClosed (ask_words ask)
closed_ask ask is =
    (closed_decimal ask.cmd (omega (arith, is.cmd)), (closed (signed_decimal ask.pid) (colon_signed ask.pid ((pid_is ask.pid).1 is.pid)), (closed_decimal ask.scope (omega (arith, is.scope)), (closed_decimal ask.addr is.addr, tt))))

closed_event : (event : Event) → IsEvent 16 event → AreClosed (event_words event)
closed_event (Turn cpu) is = (closed (codes "turn") refl, tt)
closed_event (Resched cpu) is = (closed (codes "resched") refl, tt)
closed_event (Block cpu) is = (closed (codes "block") refl, tt)
closed_event (Exit cpu) is = (closed (codes "exit") refl, tt)
closed_event (Tick cpu) is = (closed (codes "tick") refl, tt)
closed_event (Wake pid) is = (closed (codes "wake") refl, (closed_decimal pid (omega arith), tt))
closed_event (Advance delta) is = (closed (codes "advance") refl, (closed_decimal delta (omega arith), tt))
closed_event (Fork caller thread) is =
    (closed (codes "fork") refl, (closed_decimal caller (omega arith), (closed_child thread, tt)))
closed_event (Prctl caller ask) is =
    (closed (codes "prctl") refl, (closed_decimal caller (omega (arith, is.0)), closed_ask ask is.1))
closed_event (SetSched pid policy) is =
    (closed (codes "setsched") refl, (closed_decimal pid (omega (arith, is.0)), (closed_policy policy is.1, tt)))
closed_event (Offline cpu) is = (closed (codes "offline") refl, (closed_decimal cpu (omega arith), tt))
closed_event (Online cpu) is = (closed (codes "online") refl, (closed_decimal cpu (omega arith), tt))
closed_event (Load index) is = (closed (codes "load") refl, (closed_decimal index (omega arith), tt))
closed_event (Unload index) is = (closed (codes "unload") refl, (closed_decimal index (omega arith), tt))

closed_made : (actor : Actor) (event : Event) → IsMade actor event → AreClosed (made_words actor event)
closed_made (Sibling i) event is =
    let within = sibling_within 16 i event is in
    (closed (actor_word (Sibling i)) (lacks-append 58 (codes "s") (decimal i) refl (colon_decimal i (omega arith))), closed_event event is.event)
closed_made (Caller j) event is =
    let within = caller_within 16 j event is in
    (closed (actor_word (Caller j)) (lacks-append 58 (codes "c") (decimal j) refl (colon_decimal j (omega arith))), closed_event event is.event)
closed_made End (Resched cpu) is =
    (closed (codes "end") refl, (closed (codes "resched") refl, (closed_decimal cpu (omega arith), tt)))
closed_made End event is = absurd is

spaced_lacks_stop : (word : Word) (words : List Word) → AreClosed (word ∷ words) → lacks_stop (spaced (word ∷ words)) ≡ true
spaced_lacks_stop word [] h = ap lacks_stop (sym (append-nil word)) ∙ h.0 [] refl
spaced_lacks_stop word (next ∷ words) h = h.0 (32 ∷ spaced (next ∷ words)) (spaced_lacks_stop next words h.1)

-- ---- a reply is plain

-- words that are cut where they are joined, with no line feed in them
pub record IsCut (words : List Word) : Type 0 where
  pub again : words_in (spaced words) ≡ words
  pub no_feed : lacks 10 (spaced words) ≡ true

cut_words : (word : Word) (words : List Word) → AllByRecursion IsPlain (word ∷ words) → IsCut (word ∷ words)
cut_words word words pick_plain = record { again = words_in-spaced word words pick_plain; no_feed = spaced_lacks word words pick_plain }

plain_kind : (kind : Kind) → IsPlain (kind_word kind)
plain_kind Selected = plain_word _ refl refl
plain_kind Adopted = plain_word _ refl refl
plain_kind Plain = plain_word _ refl refl

plain_errno : (errno : Errno) → IsPlain (errno_word errno)
plain_errno Eperm = plain_word _ refl refl
plain_errno Esrch = plain_word _ refl refl
plain_errno Eagain = plain_word _ refl refl
plain_errno Enomem = plain_word _ refl refl
plain_errno Efault = plain_word _ refl refl
plain_errno Enodev = plain_word _ refl refl
plain_errno Einval = plain_word _ refl refl
plain_errno Ebusy = plain_word _ refl refl

plain_run : (n : ℕ) → n < 2 ^ 64 → IsPlain (run_word n)
plain_run n fits =
    cond_both (n == 0) (codes "idle") (decimal n) IsPlain (λ _. plain_word _ refl refl) (λ _. plain_decimal n fits)

plain_pick : (pick : Pick) → FitsPick pick → AllByRecursion IsPlain (pick_words pick)
plain_pick pick fits =
    (plain_kind pick.kind, (plain_run pick.run fits.run, (plain_word _ refl refl, (plain_decimal pick.core fits.core, (plain_word _ refl refl, (plain_decimal pick.forced fits.forced, tt))))))

pub cut_reply : (reply : Reply) → FitsReply reply → IsCut (reply_words reply)
cut_reply (Picked pick) fits = cut_words _ _ (plain_pick pick fits)
cut_reply Nothing fits = cut_words _ _ (plain_word _ refl refl, tt)
cut_reply (Stole pid from) fits =
    cut_words _ _ (plain_word _ refl refl, (plain_decimal pid fits.0, (plain_word _ refl refl, (plain_decimal from fits.1, tt))))
cut_reply (Missed cpu) fits = cut_words _ _ (plain_word _ refl refl, (plain_decimal cpu fits, tt))
cut_reply answer.Offline fits = cut_words _ _ (plain_word _ refl refl, tt)
cut_reply (Slept pid pick) fits = cut_words _ _ (plain_word _ refl refl, (plain_decimal pid fits.0, plain_pick pick fits.1))
cut_reply (Ended pid pick) fits = cut_words _ _ (plain_word _ refl refl, (plain_decimal pid fits.0, plain_pick pick fits.1))
cut_reply Idle fits = cut_words _ _ (plain_word _ refl refl, tt)
cut_reply HasThreads fits = cut_words _ _ (plain_word _ refl refl, tt)
cut_reply (Woken cpu) fits = cut_words _ _ (plain_word _ refl refl, (plain_decimal cpu fits, tt))
cut_reply Awake fits = cut_words _ _ (plain_word _ refl refl, tt)
cut_reply NoTask fits = cut_words _ _ (plain_word _ refl refl, tt)
cut_reply (Now clock) fits = cut_words _ _ (plain_word _ refl refl, (plain_decimal clock fits, tt))
cut_reply (Ticked true) fits = cut_words _ _ (plain_word _ refl refl, (plain_word _ refl refl, tt))
cut_reply (Ticked false) fits = cut_words _ _ (plain_word _ refl refl, (plain_word _ refl refl, tt))
cut_reply (Child pid) fits = cut_words _ _ (plain_word _ refl refl, (plain_decimal pid fits, tt))
cut_reply Zero fits = cut_words _ _ (plain_word _ refl refl, tt)
cut_reply (Value cookie) fits = cut_words _ _ (plain_word _ refl refl, (plain_word _ refl refl, (plain_decimal cookie fits, tt)))
cut_reply Set fits = cut_words _ _ (plain_word _ refl refl, tt)
cut_reply Done fits = cut_words _ _ (plain_word _ refl refl, tt)
cut_reply Already fits = cut_words _ _ (plain_word _ refl refl, tt)
cut_reply (Refused errno) fits = cut_words _ _ (plain_errno errno, tt)
cut_reply NoCaller fits = cut_words _ _ (plain_word _ refl refl, tt)
cut_reply Loaded fits = cut_words _ _ (plain_word _ refl refl, tt)
cut_reply Dropped fits = cut_words _ _ (plain_word _ refl refl, tt)
cut_reply NoGuard fits = cut_words _ _ (plain_word _ refl refl, tt)

-- ---- one entry

plain_deed : (actor : Actor) (event : Event) → IsMade actor event → AllByRecursion IsPlain (made_words actor event)
plain_deed (Sibling i) event is = plain_made 16 (Sibling i) event (omega arith) is
plain_deed (Caller j) event is = plain_made 16 (Caller j) event (omega arith) is
plain_deed End (Resched cpu) is = (plain_word _ refl refl, (plain_word _ refl refl, (plain_decimal cpu (omega arith), tt)))
plain_deed End event is = absurd is

pub cut_made : (actor : Actor) (event : Event) → IsMade actor event → IsCut (made_words actor event)
cut_made actor event is = cut_words (actor_word actor) (deed_words actor event) (plain_deed actor event is)

-- the step that is read from its words: one of the end by its `e`, and each other as a step line
abbrev read_made : Word → List Word → Read Step
read_made actor deed =
    if get_or actor 0 0 == 101
    then Ok (by End (Resched (value (get_or deed 1 []))))
    else step_line 16 (parts (codes "step" ∷ actor ∷ deed))

made_again : (actor : Actor) (event : Event) → IsMade actor event → read_made (actor_word actor) (deed_words actor event) ≡ Ok (by actor event)
made_again (Sibling i) event is = step_again 16 (Sibling i) event (omega arith) is
made_again (Caller j) event is = step_again 16 (Caller j) event (omega arith) is
made_again End (Resched cpu) is =
    let again = number_again 0 255 cpu (omega arith) (omega arith, omega arith) in rw again.same refl
made_again End event is = absurd is

one_step : (a b : Step) → IsMade a.actor a.event → IsMade b.actor b.event → made_words a.actor a.event ≡ made_words b.actor b.event → a ≡ b
one_step a b is other same =
    let first : actor_word a.actor ≡ actor_word b.actor = cc in
    let later : deed_words a.actor a.event ≡ deed_words b.actor b.event = cc in
    let read : Ok a ≡ Ok b =
    sym (made_again a.actor a.event is)
    ∙ ap (λ (word : Word). read_made word (deed_words a.actor a.event)) first
    ∙ ap (λ (words : List Word). read_made (actor_word b.actor) words) later
    ∙ made_again b.actor b.event other in
    cc

abbrev made_of : Entry → Step
made_of entry = by entry.actor entry.event

regrouped : (made reply rest : List ℕ) → made ++ codes ": " ++ (reply ++ 10 ∷ []) ++ rest ≡ made ++ 58 ∷ 32 ∷ (reply ++ 10 ∷ rest)
regrouped made reply rest = simp append_assoc

-- Where two texts begin with the lines of entries, the entries are one, and what follows is the same.
pub one_entry : (a b : Entry) (rest more : List ℕ) → IsEntry a → IsEntry b → entry_text a ++ rest ≡ entry_text b ++ more → (a ≡ b) × (rest ≡ more)
one_entry a b rest more is other same =
    let made_a = made_words a.actor a.event in
    let made_b = made_words b.actor b.event in
    let reply_a = reply_words a.reply in
    let reply_b = reply_words b.reply in
    let whole = sym (regrouped (spaced made_a) (spaced reply_a) rest) ∙ same ∙ regrouped (spaced made_b) (spaced reply_b) more in
    let first = cut_at_stop (spaced made_a) (spaced made_b) (spaced reply_a ++ 10 ∷ rest) (spaced reply_b ++ 10 ∷ more)
    (spaced_lacks_stop (actor_word a.actor) (deed_words a.actor a.event) (closed_made a.actor a.event is.made))
    (spaced_lacks_stop (actor_word b.actor) (deed_words b.actor b.event) (closed_made b.actor b.event other.made))
    whole in
    let cut_a = cut_reply a.reply is.reply in
    let cut_b = cut_reply b.reply other.reply in
    let second = cut_at 10 (spaced reply_a) (spaced reply_b) rest more cut_a.no_feed cut_b.no_feed first.1 in
    let step = one_step (made_of a) (made_of b) is.made other.made
    (sym (cut_made a.actor a.event is.made).again ∙ ap words_in first.0 ∙ (cut_made b.actor b.event other.made).again) in
    let reply = one_reply a.reply b.reply is.reply other.reply (sym cut_a.again ∙ ap words_in second.0 ∙ cut_b.again) in (
      ap (λ (s : Step). record { actor = s.actor; event = s.event; reply = a.reply }) step
          ∙ ap (λ (r : Reply). record { actor = b.actor; event = b.event; reply = r }) reply,
      second.1,
    )

-- ---- how a line begins

spaced-byte : (byte : ℕ) (word : Word) (words : List Word) → spaced ((byte ∷ word) ∷ words) ≡ byte ∷ spaced (word ∷ words)
spaced-byte byte word [] = refl
spaced-byte byte word (next ∷ words) = refl

first_byte : (actor : Actor) (event : Event) → get_or (spaced (made_words actor event)) 0 114 ≢ 114
first_byte (Sibling i) event e =
    let first = ap (λ (bytes : List ℕ). get_or bytes 0 114) (spaced-byte 115 (decimal i) (deed_words (Sibling i) event)) in omega arith
first_byte (Caller j) event e =
    let first = ap (λ (bytes : List ℕ). get_or bytes 0 114) (spaced-byte 99 (decimal j) (deed_words (Caller j) event)) in omega arith
first_byte End event e =
    let first = ap (λ (bytes : List ℕ). get_or bytes 0 114) (spaced-byte 101 (codes "nd") (deed_words End event)) in omega arith

begins : (text rest more : List ℕ) → text ++ rest ≡ 114 ∷ more → get_or text 0 114 ≡ 114
begins [] rest more e = refl
begins (byte ∷ text) rest more e = cc

-- No line of an entry begins as `report` does.
pub not_report : (entry : Entry) (rest more : List ℕ) → entry_text entry ++ rest ≢ 114 ∷ more
not_report entry rest more e =
    let made = spaced (made_words entry.actor entry.event) in
    first_byte entry.actor entry.event
    (begins made (58 ∷ 32 ∷ (spaced (reply_words entry.reply) ++ 10 ∷ rest)) more (sym (regrouped made (spaced (reply_words entry.reply)) rest) ∙ e))

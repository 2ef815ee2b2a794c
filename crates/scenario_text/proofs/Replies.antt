-- Replies: the words of a reply spell it alone. They are read again, by what each word begins.
use Rattle.std.proofs.Common.{◌≡◌, ℕ, ◌^◌, ◌<◌, Bool, true, false, List, [], ◌∷◌, drop, get_or, refl, sym, ap, ◌∙◌, arith}
use Rattle.std.specs.Prelude.{◌==◌, ◌||◌, if◌then◌else◌, codes, decimal}
use Rattle.std.specs.Str.{bytes_eq}
use Rattle.std.proofs.lemmas.Bool.{cond_both, eqb-true}
use Rattle.cs_types.specs.declared.reply.Kind.{Kind}
use Rattle.cs_types.specs.declared.reply.Kind.TheVariants.{Selected, Adopted, Plain}
use Rattle.cs_types.specs.declared.reply.Errno.{Errno}
use Rattle.cs_types.specs.declared.reply.Errno.TheVariants.{Eperm, Esrch, Eagain, Enomem, Efault, Enodev, Einval, Ebusy}
use Rattle.cs_types.specs.declared.reply.Pick.{Pick}
use Rattle.cs_types.specs.declared.reply.Reply.{Reply}
use Rattle.cs_types.specs.declared.reply.Reply.TheVariants.{Picked, Nothing, Stole, Missed, Slept, Ended, Idle, HasThreads, Woken, Awake, NoTask, Now, Ticked, Child, Zero, Value, Set, Done, Already, Refused, NoCaller, Loaded, Dropped, NoGuard}
use Rattle.cs_types.specs.declared.reply.Reply.TheVariants as answer
use Rattle.scenario_text.specs.Words.{Word, run_word, kind_word, pick_words, errno_word, reply_words}
use Rattle.scenario_text.specs.Entry.{FitsPick, FitsReply}
use Rattle.scenario_text.specs.Grammar.{value, is_number}
use Rattle.scenario_text.proofs.Numbers.{number_again}

-- ---- the reader

-- the number that a word spells, 0 where it spells none
abbrev number : Word → ℕ
number word = if is_number 0 18446744073709551615 word then value word else 0

abbrev word_at : List Word → ℕ → Word
word_at words k = get_or words k []

abbrev kind_of : Word → Kind
kind_of word =
    if bytes_eq word (codes "Selected") then Selected else (if bytes_eq word (codes "Adopted") then Adopted else Plain)

abbrev is_kind : Word → Bool
is_kind word = bytes_eq word (codes "Selected") || bytes_eq word (codes "Adopted") || bytes_eq word (codes "Plain")

abbrev errno_of : Word → Errno
errno_of word =
    if bytes_eq word (codes "EPERM") then Eperm else (
    if bytes_eq word (codes "ESRCH") then Esrch else (
    if bytes_eq word (codes "EAGAIN") then Eagain else (
    if bytes_eq word (codes "ENOMEM") then Enomem else (
    if bytes_eq word (codes "EFAULT") then Efault else (
    if bytes_eq word (codes "ENODEV") then Enodev else (
    if bytes_eq word (codes "EINVAL") then Einval else Ebusy))))))

abbrev pick_of : List Word → Pick
pick_of words =
    record { kind = kind_of (word_at words 0); run = number (word_at words 1); core = number (word_at words 3); forced = number (word_at words 5) }

abbrev reply_of : List Word → Reply
reply_of words =
    let first = word_at words 0 in
    let second = word_at words 1 in
    if is_kind first then Picked (pick_of words) else (
    if bytes_eq first (codes "Nothing") then Nothing else (
    if bytes_eq first (codes "Stole") then Stole (number second) (number (word_at words 3)) else (
    if bytes_eq first (codes "Missed") then Missed (number second) else (
    if bytes_eq first (codes "Offline") then answer.Offline else (
    if bytes_eq first (codes "Slept") then Slept (number second) (pick_of (drop 2 words)) else (
    if bytes_eq first (codes "Ended") then Ended (number second) (pick_of (drop 2 words)) else (
    if bytes_eq first (codes "Idle") then Idle else (
    if bytes_eq first (codes "HasThreads") then HasThreads else (
    if bytes_eq first (codes "Woken") then Woken (number second) else (
    if bytes_eq first (codes "Awake") then Awake else (
    if bytes_eq first (codes "NoTask") then NoTask else (
    if bytes_eq first (codes "Now") then Now (number second) else (
    if bytes_eq first (codes "Ticked") then Ticked (bytes_eq second (codes "yes")) else (
    if bytes_eq first (codes "Child") then Child (number second) else (
    if bytes_eq first (codes "0") then (if bytes_eq second (codes "value") then Value (number (word_at words 2)) else Zero) else (
    if bytes_eq first (codes "Set") then Set else (
    if bytes_eq first (codes "Done") then Done else (
    if bytes_eq first (codes "Already") then Already else (
    if bytes_eq first (codes "NoCaller") then NoCaller else (
    if bytes_eq first (codes "Loaded") then Loaded else (
    if bytes_eq first (codes "Dropped") then Dropped else (
    if bytes_eq first (codes "NoGuard") then NoGuard else Refused (errno_of first)))))))))))))))))))))))

-- ---- what is spelled is read again

number-decimal : (n : ℕ) → n < 2 ^ 64 → number (decimal n) ≡ n
number-decimal n fits =
    let again = number_again 0 18446744073709551615 n (omega arith) (omega arith, omega arith) in rw (again.right, again.same) refl

number-idle : number (codes "idle") ≡ 0
unfolding is_number
number-idle = refl

number-run_word : (n : ℕ) → n < 2 ^ 64 → number (run_word n) ≡ n
number-run_word n fits =
    cond_both (n == 0) (codes "idle") (decimal n) (λ word. number word ≡ n) (λ is. number-idle ∙ sym (eqb-true n 0 is)) (λ _. number-decimal n fits)

kind-kind_word : (kind : Kind) → kind_of (kind_word kind) ≡ kind
kind-kind_word Selected = refl
kind-kind_word Adopted = refl
kind-kind_word Plain = refl

abbrev pick_with : Kind → ℕ → ℕ → ℕ → Pick
pick_with kind run core forced = record { kind = kind; run = run; core = core; forced = forced }

one_pick : (kind other : Kind) (run core forced r c f : ℕ) → kind ≡ other → run ≡ r → core ≡ c → forced ≡ f →
    pick_with kind run core forced ≡ pick_with other r c f
one_pick kind other run core forced r c f ek er ec ef = cc

pick-pick_words : (pick : Pick) → FitsPick pick → pick_of (pick_words pick) ≡ pick
pick-pick_words pick fits =
    one_pick _ pick.kind _ _ _ pick.run pick.core pick.forced
    (kind-kind_word pick.kind) (number-run_word pick.run fits.run) (number-decimal pick.core fits.core) (number-decimal pick.forced fits.forced)

picked : (kind : Kind) (words : List Word) → reply_of (kind_word kind ∷ words) ≡ Picked (pick_of (kind_word kind ∷ words))
picked Selected words = refl
picked Adopted words = refl
picked Plain words = refl

refused_with : (errno : Errno) → reply_of (errno_word errno ∷ []) ≡ Refused errno
refused_with Eperm = refl
refused_with Esrch = refl
refused_with Eagain = refl
refused_with Enomem = refl
refused_with Efault = refl
refused_with Enodev = refl
refused_with Einval = refl
refused_with Ebusy = refl

reply-reply_words : (reply : Reply) → FitsReply reply → reply_of (reply_words reply) ≡ reply
reply-reply_words (Picked pick) fits = picked pick.kind (drop 1 (pick_words pick)) ∙ ap Picked (pick-pick_words pick fits)
reply-reply_words Nothing fits = refl
reply-reply_words (Stole pid from) fits =
    ap (λ n. Stole n (number (decimal from))) (number-decimal pid fits.0) ∙ ap (Stole pid) (number-decimal from fits.1)
reply-reply_words (Missed cpu) fits = ap Missed (number-decimal cpu fits)
reply-reply_words answer.Offline fits = refl
reply-reply_words (Slept pid pick) fits =
    ap (λ n. Slept n (pick_of (pick_words pick))) (number-decimal pid fits.0) ∙ ap (λ (p : Pick). Slept pid p) (pick-pick_words pick fits.1)
reply-reply_words (Ended pid pick) fits =
    ap (λ n. Ended n (pick_of (pick_words pick))) (number-decimal pid fits.0) ∙ ap (λ (p : Pick). Ended pid p) (pick-pick_words pick fits.1)
reply-reply_words Idle fits = refl
reply-reply_words HasThreads fits = refl
reply-reply_words (Woken cpu) fits = ap Woken (number-decimal cpu fits)
reply-reply_words Awake fits = refl
reply-reply_words NoTask fits = refl
reply-reply_words (Now clock) fits = ap Now (number-decimal clock fits)
reply-reply_words (Ticked true) fits = refl
reply-reply_words (Ticked false) fits = refl
reply-reply_words (Child pid) fits = ap Child (number-decimal pid fits)
reply-reply_words Zero fits = refl
reply-reply_words (Value cookie) fits = ap Value (number-decimal cookie fits)
reply-reply_words Set fits = refl
reply-reply_words Done fits = refl
reply-reply_words Already fits = refl
reply-reply_words (Refused errno) fits = refused_with errno
reply-reply_words NoCaller fits = refl
reply-reply_words Loaded fits = refl
reply-reply_words Dropped fits = refl
reply-reply_words NoGuard fits = refl

-- So two replies with the same words are one.
pub one_reply : (a b : Reply) → FitsReply a → FitsReply b → reply_words a ≡ reply_words b → a ≡ b
one_reply a b fits others same = sym (reply-reply_words a fits) ∙ ap reply_of same ∙ reply-reply_words b others

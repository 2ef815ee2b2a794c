-- Tallies: what is counted of a history, entry by entry.
use Rattle.std.proofs.Common.{◌≡◌, ℕ, ◌+◌, ◌<◌, ◌≤◌, Bool, true, false, [], ◌∷◌, length, take, get_or, sym, ap, ◌∙◌, arith, add-zero, Some}
use Rattle.std.specs.Prelude.{slice_get}
use Rattle.std.specs.List.{count_by}
use Rattle.std.proofs.lemmas.List.Sums.{count_by_more_yes, count_by_more_no, sum_by-cons}
use Rattle.std.proofs.lemmas.Option.{slice_get_within, get_or_from_slice_get}
use Rattle.cs_types.specs.declared.reply.Kind.{Kind}
use Rattle.cs_types.specs.declared.reply.Kind.TheVariants.{Selected, Adopted, Plain}
use Rattle.cs_types.specs.declared.reply.Reply.{Reply}
use Rattle.cs_types.specs.declared.reply.Reply.TheVariants.{Picked, Slept, Ended, Stole, Missed}
use Rattle.cs_types.specs.declared.reply.Entry.{Entry}
use Rattle.cs_types.specs.Touches.{is_selected, is_adopted}
use Rattle.cs_types.specs.History.{History}
use Rattle.room_drill.specs.Summary.{is_plain, tells, is_steal, is_miss, one_where, count_of, tally_of, with_reply, total}

-- one more entry is counted or not
count_by_test : (test : Entry → Bool) (history : History) (place : ℕ) (entry : Entry) → place < length history → (b : Bool) →
    test (get_or history place entry) ≡ b → count_by test (take (place + 1) history) ≡ count_by test (take place history) + one_where b
count_by_test test history place entry within true = λ is. count_by_more_yes test history place entry within is
count_by_test test history place entry within false =
    λ is. count_by_more_no test history place entry within is ∙ sym (add-zero (count_by test (take place history)))

count_more : (is_counted : Reply → Bool) (history : History) (place : ℕ) (entry : Entry) → place < length history → get_or history place entry ≡ entry →
    count_of is_counted (take (place + 1) history) ≡ count_of is_counted (take place history) + one_where (is_counted entry.reply)
count_more is_counted history place entry within is =
    count_by_test (λ (e : Entry). is_counted e.reply) history place entry within (is_counted entry.reply) (ap (λ (e : Entry). is_counted e.reply) is)

-- the tally of the entries before the next place is the one before, with the reply of the entry at it
pub tally_next : (history : History) (place : ℕ) (entry : Entry) → slice_get history place ≡ Some entry →
    tally_of (take (place + 1) history) ≡ with_reply entry.reply (tally_of (take place history))
tally_next history place entry at =
    let within = slice_get_within history place entry at in
    let is = get_or_from_slice_get history place entry entry at in
    λ i. record {
      selected = count_more (tells is_selected) history place entry within is i;
      adopted = count_more (tells is_adopted) history place entry within is i;
      plain = count_more (tells is_plain) history place entry within is i;
      stole = count_more is_steal history place entry within is i;
      missed = count_more is_miss history place entry within is i;
    }

-- a reply counts once at most
abbrev ones : Reply → ℕ
ones reply =
    one_where (tells is_selected reply) + one_where (tells is_adopted reply) + one_where (tells is_plain reply)
    + one_where (is_steal reply) + one_where (is_miss reply)

kind_once : (kind : Kind) → one_where (is_selected kind) + one_where (is_adopted kind) + one_where (is_plain kind) + 0 + 0 ≤ 1
kind_once Selected = omega arith
kind_once Adopted = omega arith
kind_once Plain = omega arith

once : (reply : Reply) → ones reply ≤ 1
once (Picked pick) = kind_once pick.kind
once (Slept pid pick) = kind_once pick.kind
once (Ended pid pick) = kind_once pick.kind
once (Stole pid from) = omega arith
once (Missed cpu) = omega arith
once reply = omega arith

-- a count of the first entry and of those after it
count_cons : (is_counted : Reply → Bool) (entry : Entry) (history : History) →
    count_of is_counted (entry ∷ history) ≡ one_where (is_counted entry.reply) + count_of is_counted history
count_cons is_counted entry history = sum_by-cons (λ (e : Entry). one_where (is_counted e.reply)) entry history

-- no more are counted than there are entries
pub few_counted : (history : History) → total (tally_of history) ≤ length history
few_counted [] = omega arith
few_counted (entry ∷ history) =
    omega (
      arith,
      once entry.reply,
      few_counted history,
      count_cons (tells is_selected) entry history,
      count_cons (tells is_adopted) entry history,
      count_cons (tells is_plain) entry history,
      count_cons is_steal entry history,
      count_cons is_miss entry history,
    )

-- Counts: the counts of replies, entry by entry.
use Rattle.std.proofs.Common.{◌≡◌, ℕ, ◌+◌, ◌<◌, ◌≤◌, Bool, true, false, cond, [], ◌∷◌, ◌++◌, length, take, get_or, refl, sym, ap, ◌∙◌, subst, inl, inr, arith, Some}
use Rattle.std.specs.Prelude.{filter, slice_get}
use Rattle.std.proofs.lemmas.List.{append-nil, length-append, take_more}
use Rattle.std.proofs.lemmas.List.Elements.{filter-append}
use Rattle.std.proofs.lemmas.Option.{slice_get_cases}
use Rattle.cs_types.specs.declared.reply.Entry.{Entry}
use Rattle.cs_types.specs.declared.reply.Reply.{Reply}
use Rattle.cs_types.specs.declared.reply.Reply.TheVariants as reply
use Rattle.cs_types.specs.Laws.{is_refused}
use Rattle.cs_types.specs.History.{History}
use Rattle.run_summary.specs.declared.replies.ReplyCounts.{ReplyCounts}
use Rattle.run_summary.specs.Replies.{is_no_task, is_awake, is_idle, is_no_caller, is_offline, is_error, count_of, replies_of, with_reply, AreBelow}

count_of-push : (test : Reply → Bool) (history : History) (entry : Entry) →
    count_of test (history ++ entry ∷ []) ≡ cond (test entry.reply) (count_of test history + 1) (count_of test history)
count_of-push test history entry =
    ap length (filter-append (λ (e : Entry). test e.reply) history (entry ∷ [])) ∙ by_test (test entry.reply) where
      by_test : (passes : Bool) →
          length (filter (λ (e : Entry). test e.reply) history ++ cond passes (entry ∷ []) []) ≡ cond passes (count_of test history + 1) (count_of test history)
      by_test true = length-append (filter (λ (e : Entry). test e.reply) history) (entry ∷ [])
      by_test false = ap length (append-nil (filter (λ (e : Entry). test e.reply) history))

-- one more entry is one more reply
replies_of-push : (history : History) (entry : Entry) → replies_of (history ++ entry ∷ []) ≡ with_reply entry.reply (replies_of history)
replies_of-push history entry =
    let more = λ (test : Reply → Bool). count_of-push test history entry in
    λ i. record {
      no_task = more is_no_task i;
      awake = more is_awake i;
      idle = more is_idle i;
      no_caller = more is_no_caller i;
      offline = more is_offline i;
      errors = more is_error i;
    }

-- the counts of one more entry of a history
pub replies_more : (history : History) (place : ℕ) (entry : Entry) (old new : ReplyCounts) → Some entry ≡ slice_get history place →
    old ≡ replies_of (take place history) → new ≡ with_reply entry.reply old → new ≡ replies_of (take (place + 1) history)
replies_more history place entry old new there was more =
    let at = got history place entry there in
    more ∙ ap (with_reply entry.reply) was ∙ sym (replies_of-push (take place history) entry)
    ∙ ap (λ (e : Entry). replies_of (take place history ++ e ∷ [])) (sym at.1)
    ∙ ap replies_of (sym (take_more history place entry at.0)) where
      got : (h : History) (k : ℕ) (e : Entry) → Some e ≡ slice_get h k → (k < length h) × (get_or h k e ≡ e)
      got h k e is = elim (slice_get_cases h k).1 [
        | inl found ↦ let same : found.0 ≡ e = cc in (found.1, subst (λ (x : Entry). get_or h k x ≡ x) same found.3)
        | inr none ↦ absurd cc
      ]

-- no count is above the number of entries
count_of-le : (test : Reply → Bool) (history : History) → count_of test history ≤ length history
count_of-le test [] = omega arith
count_of-le test (entry ∷ history) = by_test (test entry.reply) (count_of-le test history) where
  by_test : (passes : Bool) → count_of test history ≤ length history →
      length (cond passes (entry ∷ filter (λ (e : Entry). test e.reply) history) (filter (λ (e : Entry). test e.reply) history)) ≤ length (entry ∷ history)
  by_test true few = omega (arith, few)
  by_test false few = omega (arith, few)

pub replies_below : (history : History) (most : ℕ) (counts : ReplyCounts) → counts ≡ replies_of history → length history < most → AreBelow most counts
replies_below history most counts are few =
    subst (AreBelow most) (sym are)
    (record {
      no_task = omega (arith, count_of-le is_no_task history, few);
      awake = omega (arith, count_of-le is_awake history, few);
      idle = omega (arith, count_of-le is_idle history, few);
      no_caller = omega (arith, count_of-le is_no_caller history, few);
      offline = omega (arith, count_of-le is_offline history, few);
      errors = omega (arith, count_of-le is_error history, few);
    })

-- ---- all refusals

once : (r : Reply) → ((cond (is_no_task r) 1 0 + cond (is_awake r) 1 0 + cond (is_idle r) 1 0 + cond (is_no_caller r) 1 0 + cond (is_offline r) 1 0 + cond (is_error r) 1 0)
    ≡ cond (is_refused r) 1 0)
once (reply.Picked pick) = refl
once reply.Nothing = refl
once (reply.Stole pid from) = refl
once (reply.Missed cpu) = refl
once reply.Offline = refl
once (reply.Slept pid pick) = refl
once (reply.Ended pid pick) = refl
once reply.Idle = refl
once reply.HasThreads = refl
once (reply.Woken cpu) = refl
once reply.Awake = refl
once reply.NoTask = refl
once (reply.Now clock) = refl
once (reply.Ticked asked) = refl
once (reply.Child pid) = refl
once reply.Zero = refl
once (reply.Value cookie) = refl
once reply.Set = refl
once reply.Done = refl
once reply.Already = refl
once (reply.Refused error) = refl
once reply.NoCaller = refl
once reply.Loaded = refl
once reply.Dropped = refl
once reply.NoGuard = refl

count_of-cons : (test : Reply → Bool) (entry : Entry) (history : History) → count_of test (entry ∷ history) ≡ cond (test entry.reply) 1 0 + count_of test history
count_of-cons test entry history = by_test (test entry.reply) where
  by_test : (passes : Bool) →
      length (cond passes (entry ∷ filter (λ (e : Entry). test e.reply) history) (filter (λ (e : Entry). test e.reply) history)) ≡ cond passes 1 0 + count_of test history
  by_test true = omega arith
  by_test false = omega arith

-- The counts add up to the number of the entries that are refused.
pub refused_adds_up : (history : History) →
    count_of is_no_task history + count_of is_awake history + count_of is_idle history + count_of is_no_caller history + count_of is_offline history + count_of is_error history
    ≡ count_of is_refused history
refused_adds_up [] = refl
refused_adds_up (entry ∷ history) =
    omega (
      arith,
      count_of-cons is_no_task entry history,
      count_of-cons is_awake entry history,
      count_of-cons is_idle entry history,
      count_of-cons is_no_caller entry history,
      count_of-cons is_offline entry history,
      count_of-cons is_error entry history,
      count_of-cons is_refused entry history,
      once entry.reply,
      refused_adds_up history,
    )

-- Counts: the counts once a task comes or goes, and what they say of a task's peers.
use Rattle.std.proofs.Common.{◌≡◌, ◌≢◌, ℕ, zero, suc, ◌+◌, ◌-◌, ◌%◌, ◌<◌, ◌≤◌, Bool, true, false, cond, not, ltb, eqb, List, [], ◌∷◌, ◌++◌, map, length, set, get_or, length-set, inl, inr, refl, sym, ap, ◌∙◌, arith}
use Rattle.std.specs.Prelude.{◌==◌, ◌&&◌, ◌||◌, filter, count_by, replicate}
use Rattle.std.specs.List.{list_any}
use Rattle.std.proofs.lemmas.Bool.{cases_eq, cond-false, eq-eqb, ne_eqb}
use Rattle.std.proofs.lemmas.Bool.Decides.{nat_tests}
use Rattle.std.proofs.lemmas.List.{length-map, length-replicate, get_or-set_other}
use Rattle.std.proofs.lemmas.Grind.{get_or-set_at}
use Rattle.std.proofs.lemmas.List.Sums.{length-filter, count_by-le-length, sum_by-cons}
use Rattle.std.proofs.lemmas.List.Elements.{recursion_from_All}
use Rattle.cs_types.specs.declared.queue.Queued.{Queued}
use Rattle.cs_types.specs.declared.task.Policy.{Policy}
use Rattle.cs_types.specs.declared.task.Policy.TheVariants.{Stop, Deadline, Fifo, Rr, Fair}
use Rattle.cs_types.specs.declared.task.Task.{Task}
use Rattle.cs_types.specs.Order.{real_time_class, class_of, priority_of}
use Rattle.cs_types.specs.Queue.{rank_by, queued_of}
use Rattle.cs_types.specs.Room.{has_pid}
use Rattle.task_table.specs.Table.{Rises}
use Rattle.task_table.proofs.Tables.{found_alone}
use Rattle.core_lanes.specs.Queued.{queued_among, queued_at, with_cookie, IsOf, HavePolicies, is_peer_of, has_peer}
use Rattle.core_lanes.proofs.Lists.{filter-map, filter-filter}
use Rattle.core_lanes.proofs.Queues.{is_on}
use Rattle.tree_queue.specs.Kinds.{kind_of, lot_of, count_of, AreCounted}
use Rattle.tree_queue.proofs.Splits.{IsSplit, length-split}
use Rattle.tree_queue.proofs.Tasks.{class_fits}
use Rattle.cookie_queue.proofs.Asked.{IsLow}
use Rattle.tree_queue.proofs.Asked.{low_among, filter_alike}

-- ---- a task that comes or goes

exchanged : (a b n : ℕ) → a + (b + n) ≡ b + (a + n)
exchanged a b n = omega arith

-- the number of one kind is another, and those of the other kinds stay
counted-set : (number : Queued → ℕ) {numbers one many : ℕ} {counts : List ℕ} {before now : List Queued} → one < numbers → many ≡ count_of number one now →
    AreCounted number numbers counts before → ((other : ℕ) → other ≢ one → count_of number other before ≡ count_of number other now) → AreCounted number numbers (set counts one many) now
counted-set number {one = one} {many} {counts} {now = now} few is counted stay = record {
  many = length-set counts one many ∙ counted.many;
  each = λ other below.
      elim (cases_eq other one) [
        | inl same ↦ get_or-set_at counts one other many 0 same (omega (arith, few, counted.many)) ∙ is ∙ ap (λ (n : ℕ). count_of number n now) (sym same)
        | inr differs ↦ get_or-set_other counts one other many 0 differs ∙ counted.each other below ∙ stay other differs
      ];
}

module _ (number : Queued → ℕ) {task : Queued} {all rest : List Queued} (split : IsSplit task all rest) where
  count-split : (one : ℕ) → count_of number one all ≡ cond (number task == one) 1 0 + count_of number one rest
  count-split one =
      ap (count_of number one) split.whole ∙ amid split.before ∙ ap (λ (ts : List Queued). cond (number task == one) 1 0 + count_of number one ts) (sym split.left) where
        amid : (before : List Queued) → count_of number one (before ++ task ∷ split.after) ≡ cond (number task == one) 1 0 + count_of number one (before ++ split.after)
        amid [] = sum_by-cons (λ (t : Queued). cond (number t == one) 1 0) task split.after
        amid (first ∷ before) =
            sum_by-cons (λ (t : Queued). cond (number t == one) 1 0) first (before ++ task ∷ split.after)
            ∙ ap (λ (n : ℕ). cond (number first == one) 1 0 + n) (amid before)
            ∙ exchanged (cond (number first == one) 1 0) (cond (number task == one) 1 0) (count_of number one (before ++ split.after))
            ∙ ap (λ (n : ℕ). cond (number task == one) 1 0 + n) (sym (sum_by-cons (λ (t : Queued). cond (number t == one) 1 0) first (before ++ split.after)))

  of_its_number : (one : ℕ) → one ≡ number task → count_of number one all ≡ 1 + count_of number one rest
  of_its_number one is = count-split one ∙ ap (λ (b : Bool). cond b 1 0 + count_of number one rest) (eq-eqb (number task) one (sym is))

  of_another : (one : ℕ) → one ≢ number task → count_of number one all ≡ count_of number one rest
  of_another one other =
      let more = count-split one ∙ ap (λ (b : Bool). cond b 1 0 + count_of number one rest) (ne_eqb (number task) one (λ is. other (sym is))) in
      omega (arith, more)

  module _ {numbers : ℕ} {counts : List ℕ} {one : ℕ} (is : one ≡ number task) (few : one < numbers) where
    pub counted-put : AreCounted number numbers counts rest → AreCounted number numbers (set counts one (get_or counts one 0 + 1)) all
    counted-put counted =
        counted-set number few (omega (arith, counted.each one few, of_its_number one is)) counted (λ other differs. sym (of_another other (λ same. differs (same ∙ sym is))))

    pub counted-take : AreCounted number numbers counts all → AreCounted number numbers (set counts one (get_or counts one 0 - 1)) rest
    counted-take counted =
        counted-set number few (omega (arith, counted.each one few, of_its_number one is)) counted (λ other differs. of_another other (λ same. differs (same ∙ sym is)))

    pub few-put : AreCounted number numbers counts rest → get_or counts one 0 + 1 ≤ length all
    few-put counted = omega (arith, counted.each one few, count_by-le-length (λ (t : Queued). number t == one) rest, length-split split)

    pub some-take : AreCounted number numbers counts all → 1 ≤ get_or counts one 0
    some-take counted = omega (arith, counted.each one few, of_its_number one is)

-- ---- a task that stays, and changes nothing that its number reads

pub counted-stay : (number : Queued → ℕ) {task now : Queued} {all then rest : List Queued} → IsSplit task all rest → IsSplit now then rest → number now ≡ number task →
    {numbers : ℕ} {counts : List ℕ} → AreCounted number numbers counts all → AreCounted number numbers counts then
counted-stay number {rest = rest} split split_now same counted = record {
  many = counted.many;
  each = λ one below.
      counted.each one below
      ∙ count-split number split one
      ∙ ap (λ (k : ℕ). cond (k == one) 1 0 + count_of number one rest) (sym same)
      ∙ sym (count-split number split_now one);
}

-- ---- peers

plain_priority : (policy : Policy) → class_of policy ≢ real_time_class → priority_of policy ≡ 0
plain_priority Stop other = refl
plain_priority (Deadline relative) other = refl
plain_priority (Fifo priority) other = absurd (other refl)
plain_priority (Rr priority) other = absurd (other refl)
plain_priority (Fair nice) other = refl

real_time_rank : (policy : Policy) (deadline vtime : ℕ) → class_of policy ≡ real_time_class → rank_by policy deadline vtime ≡ 99 - priority_of policy
real_time_rank Stop deadline vtime is = absurd (omega (arith, is))
real_time_rank (Deadline relative) deadline vtime is = absurd (omega (arith, is))
real_time_rank (Fifo priority) deadline vtime is = refl
real_time_rank (Rr priority) deadline vtime is = refl
real_time_rank (Fair nice) deadline vtime is = absurd (omega (arith, is))

by_numbers : (c d p q r s : ℕ) → c ≤ 3 → d ≤ 3 → p ≤ 99 → q ≤ 99 → (c ≢ 2 → p ≡ 0) → (d ≢ 2 → q ≡ 0) → (c ≡ 2 → r ≡ 99 - p) → (d ≡ 2 → s ≡ 99 - q) →
    (eqb c d && eqb p q) ≡ eqb (cond (eqb c 2) (4 + r) c) (cond (eqb d 2) (4 + s) d)
by_numbers c d p q r s low_c low_d low_p low_q plain_p plain_q rank_r rank_s =
    elim (cases_eq c 2) [
      | inl here ↦ elim (cases_eq d 2) [
        | inl there ↦ let one = rank_r here in let two = rank_s there in grind (arith, nat_tests)
        | inr other ↦ let one = rank_r here in let two = plain_q other in grind (arith, nat_tests)
      ]
      | inr differs ↦ elim (cases_eq d 2) [
        | inl there ↦ let one = plain_p differs in let two = rank_s there in grind (arith, nat_tests)
        | inr other ↦ let one = plain_p differs in let two = plain_q other in grind (arith, nat_tests)
      ]
    ]

-- peers are those of one kind
peer_kind : (task other : Task) → IsLow task → IsLow other → is_peer_of task other ≡ (kind_of (queued_of other) == kind_of (queued_of task))
peer_kind task other low_task low_other =
    by_numbers (class_of other.spec.policy) (class_of task.spec.policy) (priority_of other.spec.policy) (priority_of task.spec.policy) _ _
    (class_fits other.spec.policy) (class_fits task.spec.policy) low_other low_task (plain_priority other.spec.policy) (plain_priority task.spec.policy)
    (real_time_rank other.spec.policy other.deadline other.vtime) (real_time_rank task.spec.policy task.deadline task.vtime)

more_or_less : (m n : ℕ) (is pass : Bool) → m ≤ n → (((not is && pass) || ltb m n) ≡ ltb (cond (is && pass) 1 0 + m) (cond pass 1 0 + n)) × (cond (is && pass) 1 0 + m ≤ cond pass 1 0 + n)
more_or_less m n true true less = (grind (arith, nat_tests), omega (arith, less))
more_or_less m n true false less = (grind (arith, nat_tests), omega (arith, less))
more_or_less m n false true less = (grind (arith, nat_tests), omega (arith, less))
more_or_less m n false false less = (grind (arith, nat_tests), omega (arith, less))

-- another passes where more pass than are it and pass
another : (is pass : Task → Bool) (tasks : List Task) →
    (list_any (λ t. not (is t) && pass t) tasks ≡ ltb (count_by (λ t. is t && pass t) tasks) (count_by pass tasks)) × (count_by (λ t. is t && pass t) tasks ≤ count_by pass tasks)
another is pass [] = (refl, omega arith)
another is pass (task ∷ tasks) =
    let rest = another is pass tasks in
    let both = more_or_less (count_by (λ t. is t && pass t) tasks) (count_by pass tasks) (is task) (pass task) rest.1 in
    let it = sum_by-cons (λ (t : Task). cond (is t && pass t) 1 0) task tasks in
    let all = sum_by-cons (λ (t : Task). cond (pass t) 1 0) task tasks in
    (ap (λ b. (not (is task) && pass task) || b) rest.0 ∙ both.0 ∙ (λ i. ltb (sym it i) (sym all i)), omega (arith, it, all, both.1))

turned : (a b c : Bool) → (a && (b && c)) ≡ (b && (a && c))
turned true b c = refl
turned false true c = refl
turned false false c = refl

itself : (task : Task) → is_peer_of task task ≡ true
itself task = (λ i. eq-eqb (class_of task.spec.policy) (class_of task.spec.policy) refl i && eq-eqb (priority_of task.spec.policy) (priority_of task.spec.policy) refl i)

module _ (tasks : List Task) (cpu : ℕ) (task : Task) (rises : Rises tasks) (there : IsOf tasks task) (policies : HavePolicies tasks) (low_task : IsLow task) where
  -- the task itself is counted once where it is queued there
  counted_itself : count_by (λ t. has_pid task.spec.pid t && is_peer_of task t) (queued_among tasks cpu) ≡ cond (is_on cpu task) 1 0
  counted_itself =
      let is : Task → Bool = has_pid task.spec.pid in
      let pass : Task → Bool = is_peer_of task in
      let peer_here : Task → Bool = λ t. is_on cpu t && pass t in
      sym (length-filter (λ t. is t && pass t) (queued_among tasks cpu))
      ∙ ap length
      (filter-filter (is_on cpu) (λ t. is t && pass t) tasks
      ∙ (λ i. filter (λ t. turned (is_on cpu t) (is t) (pass t) i) tasks)
      ∙ sym (filter-filter is peer_here tasks)
      ∙ ap (filter peer_here) (found_alone 0 task.spec.pid tasks task rises there))
      ∙ ap (λ b. length (cond (is_on cpu task && b) (task ∷ []) [])) (itself task)
      ∙ one (is_on cpu task) where
        one : (b : Bool) → length (cond (b && true) (task ∷ []) []) ≡ cond b 1 0
        one true = refl
        one false = refl

  counted_peers : count_by (is_peer_of task) (queued_among tasks cpu) ≡ count_of kind_of (kind_of (queued_of task)) (queued_at tasks cpu)
  counted_peers =
      let kind = kind_of (queued_of task) in
      let queued = queued_among tasks cpu in
      sym (length-filter (is_peer_of task) queued)
      ∙ ap length (filter_alike IsLow (is_peer_of task) (λ t. kind_of (queued_of t) == kind) (λ t low. peer_kind task t low_task low) queued (recursion_from_All IsLow queued (low_among tasks cpu policies)))
      ∙ sym (length-map (filter (λ t. kind_of (queued_of t) == kind) queued) queued_of)
      ∙ ap length (sym (filter-map queued_of (λ t. kind_of t == kind) queued))
      ∙ length-filter (λ t. kind_of t == kind) (map queued_of queued)

  -- It has a peer where more are of its kind than itself.
  pub has_peer-counted : (kinds : List ℕ) (kind : ℕ) → kind ≡ kind_of (queued_of task) → kind < 104 → AreCounted kind_of 104 kinds (queued_at tasks cpu) →
      ltb (cond (is_on cpu task) 1 0) (get_or kinds kind 0) ≡ has_peer task (queued_among tasks cpu)
  has_peer-counted kinds kind is few counted =
      let own = counted_itself in
      let all = counted.each kind few ∙ ap (λ (n : ℕ). count_of kind_of n (queued_at tasks cpu)) is ∙ sym counted_peers in
      sym ((another (has_pid task.spec.pid) (is_peer_of task) (queued_among tasks cpu)).0 ∙ (λ i. ltb (own i) (sym all i)))

-- ---- no task

-- a list of one element over and over has it at each place
get_or-replicate : {X : Type 0} (n place : ℕ) (x : X) → get_or (replicate n x) place x ≡ x
get_or-replicate zero place x = refl
get_or-replicate (suc n) zero x = refl
get_or-replicate (suc n) (suc place) x = get_or-replicate n place x

-- of none there is none of any kind
pub counted-none : (number : Queued → ℕ) (numbers : ℕ) → AreCounted number numbers (replicate numbers 0) []
counted-none number numbers = record { many = length-replicate numbers 0; each = λ one below. get_or-replicate numbers one 0 }

-- ---- a lot of which no task is

-- no task has a cookie of that lot
pub none_with : (tasks : List Task) (cookie : ℕ) → count_of lot_of (cookie % 256) (map queued_of tasks) ≡ 0 → with_cookie cookie tasks ≡ []
none_with [] cookie none = refl
none_with (task ∷ tasks) cookie none =
    let more = sum_by-cons (λ (t : Queued). cond (lot_of t == cookie % 256) 1 0) (queued_of task) (map queued_of tasks) in
    let other : (task.cookie == cookie) ≡ false = ne_eqb task.cookie cookie (λ is.
    let counted = ap {B = ℕ} (λ (b : Bool). cond b 1 0) (eq-eqb (task.cookie % 256) (cookie % 256) (ap (λ (n : ℕ). n % 256) is)) in
    absurd (omega (arith, more, none, counted))) in
    cond-false _ (task ∷ with_cookie cookie tasks) (with_cookie cookie tasks) other ∙ none_with tasks cookie (omega (arith, more, none))

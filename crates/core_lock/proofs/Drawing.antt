-- Drawing: drawing a ticket keeps the rule.
use Rattle.std.proofs.Common.{◌≡◌, ℕ, ◌+◌, ◌%◌, ◌^◌, ◌<◌, ◌≤◌, List, [], ◌∷◌, length, drop, set, get_or, refl, sym, ap, ◌∙◌, subst, arith, Option, get_or-set_other, get_or-set_same, length-set, length-drop}
use Rattle.std.specs.Prelude.{sum_by}
use Rattle.std.proofs.lemmas.List.Elements.{All-head}
use Rattle.std.proofs.lemmas.List.Sums.{sum_by-set}
use mathlib.Core.Logic.{dite}
use mathlib.Core.Option.{none, some}
use native.Mathlib.Decide.{ℕ_discrete}
use lib.ListN.{get_elem?}
use Rattle.atomic_table.specs.Table.{State, Me, step, keeps, Allows}
use Rattle.cs_types.specs.declared.event.Step.{Step}
use Rattle.cs_types.specs.Room.{Opening}
use Rattle.cs_types.specs.History.{History}
use Rattle.core_lock.specs.declared.view.Progress.{Progress}
use Rattle.core_lock.specs.declared.view.Beginning.{Beginning}
use Rattle.core_lock.specs.declared.view.View.{View}
use Rattle.core_lock.specs.declared.view.View.TheVariants.{Idle, Waiting}
use Rattle.core_lock.specs.Lists.{list_at}
use Rattle.core_lock.specs.Board.{Books, IsOwned, Knows, IsKept, drawn}
use Rattle.core_lock.proofs.Keeping.{put, put_here, put_else, seats_stay, knows_stays, parts_or}

-- the steps of a list that have no ticket are no more after one is drawn
no_more : (left : List (List Step)) (number other : ℕ) → number < length left →
    length (list_at (set left number (drop 1 (list_at left number))) other) ≤ length (list_at left other)
no_more left number other lt =
    dite (ℕ_discrete other number)
    (λ e. let same = get_or-set_same left number (drop 1 (list_at left number)) [] lt in
    let shorter = length-drop 1 (list_at left number) in
    subst (λ (k : ℕ). length (list_at (set left number (drop 1 (list_at left number))) k) ≤ length (list_at left k)) (sym e)
    (omega (arith, ap (length {A = Step}) same, shorter)))
    (λ ne. omega (arith, ap (length {A = Step}) (get_or-set_other left number other (drop 1 (list_at left number)) [] ne)))

module _ {R : Type 0} (opening : R → Opening) (history : R → History) (spare : R → ℕ) (begun : Beginning R) where
  abbrev Rule : State (Option R) (View R) → Type 0
  Rule = IsKept opening history spare begun

  -- the books after a ticket is drawn
  abbrev after_draw : Books → ℕ → ℕ → Books
  after_draw b seat number =
      record b { ticket = b.ticket + 1; left = set b.left number (drop 1 (list_at b.left number)); queue = put b.queue b.ticket seat }

  draw_kept : (s : State (Option R) (View R)) (k : Rule s) (seat : ℕ) (has : Progress) → get_elem? s.views seat ≡ some (Idle begun (has ∷ [])) →
      has.made < length (list_at begun.lists has.number) →
      Rule record { words = set s.words 0 ((k.books.ticket + 1) % 2 ^ 64); homes = s.homes; views = set s.views seat (Waiting begun has k.books.ticket) }
  draw_kept s k seat has at more =
      let b = k.books in let n = has.number in
      let known = k.views seat (Idle begun (has ∷ [])) at in
      let mine : IsOwned begun.lists b seat 0 has = All-head (IsOwned begun.lists b seat 0) has [] known.1 in
      let lt : n < length b.left = omega (arith, mine.number, k.as_many) in
      let l = list_at b.left n in
      let now = after_draw b seat n in
      let shorter = length-drop 1 l in
      let some_left : 1 ≤ length l = omega (arith, mine.steps, more) in
      let less : sum_by (length {A = Step}) now.left + 1 ≡ sum_by (length {A = Step}) b.left =
      omega (arith, sum_by-set (length {A = Step}) b.left n (drop 1 l) [] lt, shorter, some_left)
      in
      let small : (b.ticket + 1) % 18446744073709551616 ≡ b.ticket + 1 = omega (arith, k.enough, k.fits, less) in
      record {
        books = now;
        words = ap (λ (ws : List ℕ). set ws 0 ((b.ticket + 1) % 18446744073709551616)) k.words ∙ ap (λ (t : ℕ). t ∷ length b.past ∷ []) small;
        slot = k.slot;
        behind = omega (arith, k.behind);
        ahead = λ out. omega (arith, k.ahead out);
        busy = λ out. let t = k.busy out in (t.0, t.1, omega (arith, t.2, no_more b.left n t.0 lt));
        enough = omega (arith, k.enough, less);
        fits = k.fits;
        lists = k.lists;
        as_many = length-set b.left n (drop 1 l) ∙ k.as_many;
        own = k.own;
        no_other = k.no_other;
        views = seats_stay (Knows begun now) s.views seat (Waiting begun has b.ticket) (
          refl,
          record {
            owned = record {
              number = mine.number;
              owner = mine.owner;
              made = mine.made;
              steps = omega (arith, mine.steps, some_left, shorter, ap (length {A = Step}) (get_or-set_same b.left n (drop 1 l) [] lt));
              seen = mine.seen;
              note = mine.note;
            };
            drew = put_here b.queue b.ticket seat;
            not_served = k.behind;
            drawn = omega arith;
            not_out = k.ahead;
          },
        )
            (λ other view apart there.
            let owned : (count : ℕ) (p : Progress) → IsOwned begun.lists b other count p → IsOwned begun.lists now other count p =
            λ count p o. record {
              number = o.number;
              owner = o.owner;
              made = o.made;
              steps = ap (λ (ss : List Step). p.made + length ss + count) (get_or-set_other b.left n p.number (drop 1 l) [] (λ e. apart (sym o.owner ∙ ap b.owner e ∙ mine.owner))) ∙ o.steps;
              seen = o.seen;
              note = o.note;
            }
            in
            knows_stays begun b now other owned
            (λ p t w. record {
              owned = owned 1 p w.owned;
              drew = put_else b.queue b.ticket seat t (λ e. omega (arith, w.drawn, e)) ∙ w.drew;
              not_served = w.not_served;
              drawn = omega (arith, w.drawn);
              not_out = w.not_out;
            })
            (λ p t h. record {
              owned = owned 1 p h.owned;
              drew = put_else b.queue b.ticket seat t (λ e. omega (arith, h.served, k.ahead h.out, e)) ∙ h.drew;
              served = h.served;
              out = h.out;
              whole = h.whole;
            })
            view (k.views other view there));
      }

  pub draws : (slots seat : ℕ) (from : Beginning R) (has : Progress) → has.made < length (list_at from.lists has.number) →
      Allows Rule slots seat (Idle from (has ∷ []), []) 0 (λ n. (n + 1) % 2 ^ 64) (drawn (step slots 0 1 0 none) (Idle from (has ∷ []), []))
  draws slots seat from has more s k deep at fits =
      let b = k.books in
      let found : get_or s.words 0 0 ≡ b.ticket = ap (λ (ws : List ℕ). get_or ws 0 0) k.words in
      let known = k.views seat (Idle from (has ∷ [])) at in
      let is = known.0 in
      let at' : get_elem? s.views seat ≡ some (Idle begun (has ∷ [])) = subst (λ (z : Beginning R). get_elem? s.views seat ≡ some (Idle z (has ∷ []))) is at in
      let more' = subst (λ (z : Beginning R). has.made < length (list_at z.lists has.number)) is more in
      let kept = draw_kept s k seat has at' more' in (
        Waiting from has (get_or s.words 0 0),
        keeps,
        tt,
        subst (λ (z : Beginning R × ℕ). Rule record { words = set s.words 0 ((z.1 + 1) % 18446744073709551616); homes = s.homes; views = set s.views seat (Waiting z.0 has z.1) })
            (λ i. (sym is i, sym found i)) kept,
        λ begun' has' e. let parts = ap (λ (m : Me (Option R) (View R)). parts_or (from, has, 0) m.0) e in
            ap (λ (z : Beginning R × Progress × ℕ). let m : Me (Option R) (View R) = (Waiting z.0 z.1 (get_or s.words 0 0), []) in m) parts,
      )

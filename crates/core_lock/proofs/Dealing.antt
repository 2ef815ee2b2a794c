-- Dealing: how the table is opened, how a list is given to a new seat and how seats come together, and what the table has at
-- the end.
use Rattle.std.proofs.Common.{◌≡◌, ◌≢◌, ℕ, ◌+◌, ◌^◌, ◌<◌, ◌≤◌, Bool, false, List, [], ◌∷◌, ◌++◌, map, length, set, get_or, refl, sym, ap, ◌∙◌, subst, ⊎_elim, inl, inr, ◌⊎◌, arith, zero, suc, Option, Some}
use Rattle.std.specs.Prelude.{All, Contains}
use Rattle.std.specs.List.{range_with_len}
use Rattle.std.proofs.lemmas.Bool.{cases_Bool}
use Rattle.std.proofs.lemmas.List.Elements.{All-head, All-tail, All-cons, All-nil, All-append, All-weaker, All-from_get_or, All-contains, All-get_or}
use Rattle.std.proofs.lemmas.List.FromFn.{get_or-map-range_with_len, length-map-range_with_len}
use mathlib.Core.Option.{some, some-ne-none, some-injective}
use mathlib.Core.Option as maybe
use mathlib.Core.List.{IsPrefix}
use lib.ListN.{get_elem?}
use Rattle.atomic_table.specs.Table.{State, Splits, Joins, Final, Seen}
use Rattle.atomic_table.specs.Table.{opening as table_at}
use Rattle.atomic_table.proofs.Lists.{set_else}
use Rattle.cs_types.specs.declared.event.Actor.{Actor}
use Rattle.cs_types.specs.Room.{Opening}
use Rattle.cs_types.specs.History.{History, events_by}
use Rattle.core_lock.specs.declared.view.Progress.{Progress}
use Rattle.core_lock.specs.declared.view.Beginning.{Beginning}
use Rattle.core_lock.specs.declared.view.View.{View}
use Rattle.core_lock.specs.declared.view.View.TheVariants.{Gone, Idle}
use Rattle.core_lock.specs.Lists.{list_at, actor_of, HasNoList, AreLists, events_first, steps_in}
use Rattle.core_lock.specs.Board.{fresh, Books, IsOwned, Knows, HasSlot, IsKept, first_view}
use Rattle.core_lock.proofs.Keeping.{put, put_here, put_else, moved, moved_from, moved_else, seats_stay, knows_stays, owned_anew, kept_anew}

-- what stands at a place of a list with one more at its end
at_end : {V : Type 0} (views : List V) (last view : V) (seat : ℕ) → get_elem? (views ++ last ∷ []) seat ≡ some view →
    (get_elem? views seat ≡ some view) ⊎ ((seat ≡ length views) × (last ≡ view))
at_end [] last view zero at = inr (refl, some-injective last view at)
at_end [] last view (suc seat) at = absurd (some-ne-none view (sym at))
at_end (x ∷ xs) last view zero at = inl at
at_end (x ∷ xs) last view (suc seat) at = ⊎_elim inl (λ (t : (seat ≡ length xs) × (last ≡ view)). inr (omega (arith, t.0), t.1)) (at_end xs last view seat at)

-- what stands in a list of one
only_one : {V : Type 0} (K : ℕ → V → Type 0) (one view : V) (seat : ℕ) → K 0 one → get_elem? (one ∷ []) seat ≡ some view → K seat view
only_one K one view zero known at = subst (K 0) (some-injective one view at) known
only_one K one view (suc seat) known at = absurd (some-ne-none view (sym at))

module _ {R : Type 0} (opening : R → Opening) (history : R → History) (spare : R → ℕ) (begun : Beginning R) where
  abbrev Rule : State (Option R) (View R) → Type 0
  Rule = IsKept opening history spare begun

  abbrev first_books : Books
  first_books = record { past = []; out = false; ticket = 0; owner = λ _. 0; made = λ _. 0; left = begun.lists; queue = λ _. 0 }

  -- the rule holds at the start
  pub opens : AreLists (opening begun.room).scenario.siblings begun.lists → history begun.room ≡ [] → steps_in begun.lists ≤ spare begun.room → spare begun.room < 2 ^ 64 →
      Rule (table_at (0 ∷ 0 ∷ []) (Some begun.room ∷ []) (first_view begun))
  opens lists empty enough fits =
      let n = length begun.lists in
      let all : List Progress = map fresh (range_with_len 0 n) in
      let long : length all ≡ n = length-map-range_with_len fresh 0 n in
      record {
        books = first_books;
        words = refl;
        slot = (begun.room, refl, record { opens = refl; tells = empty; spares = omega arith });
        behind = omega arith;
        ahead = λ out. absurd (Rattle.std.proofs.lemmas.Bool.false≢true out);
        busy = λ out. absurd (Rattle.std.proofs.lemmas.Bool.false≢true out);
        enough = omega (arith, enough);
        fits = fits;
        lists = lists;
        as_many = refl;
        own = λ number lt. refl;
        no_other = λ actor other. refl;
        views = λ seat view at. only_one (Knows begun first_books) (first_view begun) view seat (
          refl,
          All-from_get_or (IsOwned begun.lists first_books 0 0) all (fresh 0)
              (λ i lt. subst (IsOwned begun.lists first_books 0 0) (sym (get_or-map-range_with_len fresh 0 n i i (fresh 0) (omega (arith, lt, long)) (omega arith)))
              (record {
                number = omega (arith, lt, long);
                owner = refl;
                made = refl;
                steps = omega arith;
                seen = ([], refl);
                note = omega arith;
              })),
        )
            at;
      }

  -- a list is given to a new seat
  pub gives_list : (seat : ℕ) (from : Beginning R) (has : Progress) (rest : List Progress) → All (λ (p : Progress). p.number ≢ has.number) rest →
      Splits Rule seat (Idle from (has ∷ rest)) (Idle from rest) (Idle from (has ∷ []))
  gives_list seat from has rest apart s k at =
      let b = k.books in
      let new = length s.views in
      let now : Books = record b { owner = put b.owner has.number new } in
      let known = k.views seat (Idle from (has ∷ rest)) at in
      let mine : IsOwned begun.lists b seat 0 has = All-head (IsOwned begun.lists b seat 0) has rest known.1 in
      let rests : All (IsOwned begun.lists b seat 0) rest = All-tail (IsOwned begun.lists b seat 0) has rest known.1 in
      let owned : (other count : ℕ) (p : Progress) → p.number ≢ has.number → IsOwned begun.lists b other count p → IsOwned begun.lists now other count p =
      λ other count p ne o. owned_anew now.owner other o (put_else b.owner has.number new p.number ne ∙ o.owner) in
      let views = set s.views seat (Idle from rest) in
      let stay = seats_stay (Knows begun now) s.views seat (Idle from rest) (
        known.0,
        All-from_get_or (IsOwned begun.lists now seat 0) rest has
            (λ i lt. owned seat 0 (get_or rest i has) (All-get_or (λ (p : Progress). p.number ≢ has.number) rest i has lt apart) (All-get_or (IsOwned begun.lists b seat 0) rest i has lt rests)),
      )
      (λ other view ne there.
      let kept : (count : ℕ) (p : Progress) → IsOwned begun.lists b other count p → IsOwned begun.lists now other count p =
      λ count p o. owned other count p (λ e. ne (sym o.owner ∙ ap b.owner e ∙ mine.owner)) o
      in
      knows_stays begun b now other kept
      (λ p t w. record { owned = kept 1 p w.owned; drew = w.drew; not_served = w.not_served; drawn = w.drawn; not_out = w.not_out })
      (λ p t h. record { owned = kept 1 p h.owned; drew = h.drew; served = h.served; out = h.out; whole = h.whole })
      view (k.views other view there))
      in
      let longs : length views ≡ new = Rattle.std.proofs.Common.length-set s.views seat (Idle from rest) in
      kept_anew k now.owner (views ++ Idle from (has ∷ []) ∷ [])
      (λ other view there. ⊎_elim (stay other view)
      (λ (t : (other ≡ length views) × (Idle from (has ∷ []) ≡ view)).
      subst (λ (z : ℕ × View R). Knows begun now z.0 z.1) (λ i. (sym (t.0 ∙ longs) i, t.1 i)) (
        known.0,
        All-cons (IsOwned begun.lists now new 0) has [] (owned_anew now.owner new mine (put_here b.owner has.number new)) (All-nil (IsOwned begun.lists now new 0)),
      ))
      (at_end views (Idle from (has ∷ [])) view other there))

  -- the lists of two seats come to one
  pub gathers_lists : (seat : ℕ) (from : Beginning R) (all : List Progress) (other : ℕ) (from' : Beginning R) (more : List Progress) →
      Joins Rule seat (Idle from all) other (Idle from' more) (Idle from (all ++ more)) Gone
  gathers_lists seat from all other from' more s k at apart there =
      let b = k.books in
      let now : Books = record b { owner = moved b.owner other seat } in
      let there' : get_elem? s.views other ≡ some (Idle from' more) = sym (set_else s.views seat other (Idle from (all ++ more)) apart) ∙ there in
      let known = k.views seat (Idle from all) at in
      let others = k.views other (Idle from' more) there' in
      -- what was any seat's but the other's stays its own
      let kept : (who count : ℕ) (p : Progress) → who ≢ other → IsOwned begun.lists b who count p → IsOwned begun.lists now who count p =
      λ who count p ne o. owned_anew now.owner who o (moved_else b.owner other seat p.number (λ e. ne (sym o.owner ∙ e)) ∙ o.owner) in
      let came : (p : Progress) → IsOwned begun.lists b other 0 p → IsOwned begun.lists now seat 0 p =
      λ p o. owned_anew now.owner seat o (moved_from b.owner other seat p.number o.owner) in
      let both : Knows begun now seat (Idle from (all ++ more)) = (
        known.0,
        All-append (IsOwned begun.lists now seat 0) all more (All-weaker (IsOwned begun.lists b seat 0) (IsOwned begun.lists now seat 0) (λ p o. kept seat 0 p (λ e. apart (sym e)) o) all known.1)
            (All-weaker (IsOwned begun.lists b other 0) (IsOwned begun.lists now seat 0) came more others.1),
      )
      in
      kept_anew k now.owner (set (set s.views seat (Idle from (all ++ more))) other Gone)
      (seats_stay (Knows begun now) (set s.views seat (Idle from (all ++ more))) other Gone tt
      (λ who view ne at'.
      seats_stay (λ (j : ℕ) (v : View R). j ≢ other → Knows begun now j v) s.views seat (Idle from (all ++ more)) (λ _. both)
      (λ j v _ here ne'.
      knows_stays begun b now j (λ count p o. kept j count p ne' o)
      (λ p t w. record { owned = kept j 1 p ne' w.owned; drew = w.drew; not_served = w.not_served; drawn = w.drawn; not_out = w.not_out })
      (λ p t h. record { owned = kept j 1 p ne' h.owned; drew = h.drew; served = h.served; out = h.out; whole = h.whole })
      v (k.views j v here))
      who view at' ne))

  -- What a pass has seen begins a history, and the entries of its actor are the steps that it made. It read no greater length.
  pub record IsIn (past : History) (has : Progress) : Type 0 where
    pub seen : IsPrefix has.seen past
    pub own : events_by (actor_of (list_at begun.lists has.number)) past ≡ events_first has.made (list_at begun.lists has.number)
    pub note : has.note ≤ length past

  -- What is left at the end: the room, whose history has of each list the steps that were made.
  pub record IsLeft (room : R) (all : List Progress) : Type 0 where
    pub opened : opening room ≡ opening begun.room
    pub spares : spare room + length (history room) ≡ spare begun.room
    pub each : All (IsIn (history room)) all
    pub no_other : (actor : Actor) → HasNoList begun.lists actor → events_by actor (history room) ≡ []

  -- where one seat has all lists, the room is at home
  all_home : (s : State (Option R) (View R)) (k : Rule s) (seat : ℕ) (all : List Progress) → All (IsOwned begun.lists k.books seat 0) all →
      ((number : ℕ) → number < length begun.lists → (p : Progress) × Contains all p × (p.number ≡ number)) → k.books.out ≡ false
  all_home s k seat all owned covers =
      elim (cases_Bool k.books.out) [
        | inl out ↦
            let busy = k.busy out in
            let has = covers busy.0 busy.1 in
            let o = All-contains (IsOwned begun.lists k.books seat 0) all has.0 owned has.1 in
            let steps : has.0.made + length (list_at k.books.left busy.0) + 0 ≡ length (list_at begun.lists busy.0) = subst (λ (n : ℕ). has.0.made + length (list_at k.books.left n) + 0 ≡ length (list_at begun.lists n)) has.2 o.steps in
            let made : k.books.made busy.0 ≡ has.0.made = subst (λ (n : ℕ). k.books.made n ≡ has.0.made) has.2 o.made in
            absurd (omega (arith, busy.2, steps, made))
        | inr home ↦ home
      ]

  pub closes : (seat : ℕ) (from : Beginning R) (all : List Progress) (words : List ℕ) (slots : List (Option R)) →
      ((number : ℕ) → number < length begun.lists → (p : Progress) × Contains all p × (p.number ≡ number)) →
      Final (Seen Rule seat (Idle from all)) words slots → (room : R) × (get_elem? slots 0 ≡ some (Some room)) × IsLeft room all
  closes seat from all words slots covers final =
      let s = final.0 in
      let k = final.1.0 in
      let b = k.books in
      let owned = (k.views seat (Idle from all) final.1.1).1 in
      let home = all_home s k seat all owned covers in
      let slot : HasSlot opening history spare begun b.past false s.homes = subst (λ (o : Bool). HasSlot opening history spare begun b.past o s.homes) home k.slot in
      let room = slot.0 in
      let is = slot.2 in (
        room,
        final.4 0 (Some room) (ap (λ (hs : List (maybe.Option (Option R))). get_elem? hs 0) slot.1),
        subst (λ (h : History). (opening room ≡ opening begun.room) → (spare room + length h ≡ spare begun.room) → history room ≡ h → IsLeft room all) is.tells
            (λ opens spares _. record {
              opened = opens;
              spares = spares;
              each = All-weaker (IsOwned begun.lists b seat 0) (IsIn (history room))
                  (λ p o. subst (λ (h : History). IsIn h p) (sym is.tells) (record {
                    seen = o.seen;
                    own = k.own p.number o.number ∙ ap (λ (m : ℕ). events_first m (list_at begun.lists p.number)) o.made;
                    note = o.note;
                  })) all owned;
              no_other = λ actor other. subst (λ (h : History). events_by actor h ≡ []) (sym is.tells) (k.no_other actor other);
            }) is.opens is.spares is.tells,
      )

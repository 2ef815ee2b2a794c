-- Passing: making a step in the room and passing the turn on keeps the rule.
use Rattle.std.proofs.Common.{◌≡◌, ℕ, ◌+◌, ◌%◌, ◌^◌, ◌<◌, Bool, false, List, [], ◌∷◌, ◌++◌, length, set, get_or, refl, sym, ap, ◌∙◌, subst, arith, Option, Some, length-append}
use Rattle.std.specs.Prelude.{slice_get}
use Rattle.std.proofs.lemmas.List.Elements.{All-get_or}
use mathlib.Core.Logic.{dite}
use mathlib.Core.Option.{none, some}
use mathlib.Core.Option as maybe
use native.Mathlib.Decide.{ℕ_discrete}
use lib.ListN.{get_elem?}
use Rattle.atomic_table.specs.Table.{State, Me, Act, step, gives, Valid, Allows, stepped, carried_after}
use Rattle.cs_types.specs.declared.event.Actor.{Actor}
use Rattle.cs_types.specs.declared.event.Event.{Event}
use Rattle.cs_types.specs.declared.event.Step.{Step}
use Rattle.cs_types.specs.declared.reply.Reply.{Reply}
use Rattle.cs_types.specs.declared.reply.Entry.{Entry}
use Rattle.cs_types.specs.Room.{Opening}
use Rattle.cs_types.specs.Scenario.{is_actor}
use Rattle.cs_types.specs.History.{History, events_by}
use Rattle.core_lock.specs.declared.view.Progress.{Progress}
use Rattle.core_lock.specs.declared.view.Beginning.{Beginning}
use Rattle.core_lock.specs.declared.view.View.{View}
use Rattle.core_lock.specs.declared.view.View.TheVariants.{Idle, Holding}
use Rattle.core_lock.specs.Lists.{list_at, actor_of, HasNoList, IsList, events_first, HasFirstSteps}
use Rattle.core_lock.specs.Board.{entry_with, Books, IsOwned, IsHolding, Knows, HasSlot, IsKept, passed}
use Rattle.core_lock.proofs.Keeping.{put, put_here, put_else, seats_stay, knows_stays, parts_or}
use Rattle.core_lock.proofs.Entries.{is_actor-same, events_by-own, events_by-else, events_first-more, actor_at-is, prefix-more}

module _ {R : Type 0} (opening : R → Opening) (history : R → History) (spare : R → ℕ) where
  -- The room in a holder's hands, after the step.
  pub record IsAfter (from : Beginning R) (has : Progress) (room : R) (made : Step) (reply : Reply) : Type 0 where
    pub is_next : slice_get (list_at from.lists has.number) has.made ≡ Some made
    pub tells : history room ≡ has.seen ++ entry_with made reply ∷ []
    pub opens : opening room ≡ opening from.room
    pub spares : spare room + length (history room) ≡ spare from.room

module _ {R : Type 0} (opening : R → Opening) (history : R → History) (spare : R → ℕ) (begun : Beginning R) where
  abbrev Rule : State (Option R) (View R) → Type 0
  Rule = IsKept opening history spare begun

  -- the books after a step
  abbrev after_step : Books → ℕ → ℕ → Entry → Books
  after_step b number count entry = record b { past = b.past ++ entry ∷ []; out = false; made = put b.made number (count + 1) }

  -- what the entries are after a step: of the actor of each list, and of any other
  module _ (s : State (Option R) (View R)) (k : Rule s) (seat : ℕ) (has : Progress) (made : Step) (reply : Reply)
      (mine : IsOwned begun.lists k.books seat 1 has) (next : slice_get (list_at begun.lists has.number) has.made ≡ Some made) where
    made_by : made.actor ≡ actor_of (list_at begun.lists has.number)
    made_by =
        let fair : IsList (opening begun.room).scenario.siblings (list_at begun.lists has.number) =
        All-get_or (IsList (opening begun.room).scenario.siblings) begun.lists has.number [] mine.number k.lists.each in
        actor_at-is (list_at begun.lists has.number) has.made made fair.of_one next

    own_after : (number : ℕ) → number < length begun.lists →
        events_by (actor_of (list_at begun.lists number)) (k.books.past ++ entry_with made reply ∷ [])
        ≡ events_first (put k.books.made has.number (has.made + 1) number) (list_at begun.lists number)
    own_after number lt =
        let b = k.books in
        let n = has.number in
        let entry = entry_with made reply in
        let steps = list_at begun.lists n in
        dite (ℕ_discrete number n)
        (λ e. subst (λ (m : ℕ). events_by (actor_of (list_at begun.lists m)) (b.past ++ entry ∷ []) ≡ events_first (put b.made n (has.made + 1) m) (list_at begun.lists m)) (sym e)
        (events_by-own (actor_of steps) b.past entry (ap (λ (a : Actor). is_actor a (actor_of steps)) made_by ∙ is_actor-same (actor_of steps))
        ∙ ap (λ (es : List Event). es ++ made.event ∷ []) (k.own n mine.number ∙ ap (λ (m : ℕ). events_first m steps) mine.made)
        ∙ sym (events_first-more has.made steps made next)
        ∙ ap (λ (m : ℕ). events_first m steps) (sym (put_here b.made n (has.made + 1)))))
        (λ ne.
        events_by-else (actor_of (list_at begun.lists number)) b.past entry
        (ap (λ (a : Actor). is_actor a (actor_of (list_at begun.lists number))) made_by ∙ k.lists.apart n number mine.number lt (λ e. ne (sym e)))
        ∙ k.own number lt
        ∙ ap (λ (m : ℕ). events_first m (list_at begun.lists number)) (sym (put_else b.made n (has.made + 1) number ne)))

    none_after : (actor : Actor) → HasNoList begun.lists actor → events_by actor (k.books.past ++ entry_with made reply ∷ []) ≡ []
    none_after actor other =
        events_by-else actor k.books.past (entry_with made reply) (ap (λ (a : Actor). is_actor a actor) made_by ∙ other has.number mine.number) ∙ k.no_other actor other

  -- the room's entries are then the first steps of each list, and nothing else
  first_after : (s : State (Option R) (View R)) (k : Rule s) (seat : ℕ) (has : Progress) (ticket : ℕ) (room : R) (made : Step) (reply : Reply) →
      IsHolding begun.lists k.books seat has ticket → IsAfter opening history spare begun has room made reply → HasFirstSteps begun.lists (history room)
  first_after s k seat has ticket room made reply holds after =
      subst (HasFirstSteps begun.lists) (sym (after.tells ∙ ap (λ (h : History). h ++ entry_with made reply ∷ []) holds.whole))
      (record {
        each = λ number lt. (put k.books.made has.number (has.made + 1) number, own_after s k seat has made reply holds.owned after.is_next number lt);
        no_other = none_after s k seat has made reply holds.owned after.is_next;
      })

  pass_kept : (s : State (Option R) (View R)) (k : Rule s) (seat : ℕ) (has : Progress) (ticket : ℕ) (room : R) (made : Step) (reply : Reply) →
      IsHolding begun.lists k.books seat has ticket → IsAfter opening history spare begun has room made reply →
      Rule record {
        words = set s.words 1 ((length k.books.past + 1) % 2 ^ 64);
        homes = set s.homes 0 (some (Some room));
        views = set s.views seat (Idle begun (record has { made = has.made + 1; seen = history room } ∷ []));
      }
  pass_kept s k seat has ticket room made reply holds after =
      let b = k.books in
      let n = has.number in
      let mine = holds.owned in
      let entry = entry_with made reply in
      let now = after_step b n has.made entry in
      let now_is : history room ≡ b.past ++ entry ∷ [] = after.tells ∙ ap (λ (h : History). h ++ entry ∷ []) holds.whole in
      let longer : length (b.past ++ entry ∷ []) ≡ length b.past + 1 = length-append b.past (entry ∷ []) in
      let ahead = k.ahead holds.out in
      let small : (length b.past + 1) % 18446744073709551616 ≡ length (b.past ++ entry ∷ []) = omega (arith, ahead, k.enough, k.fits, longer) in
      let empty : s.homes ≡ none ∷ [] = subst (λ (o : Bool). HasSlot opening history spare begun b.past o s.homes) holds.out k.slot in
      let new : Progress = record has { made = has.made + 1; seen = history room } in
      record {
        books = now;
        words = ap (λ (ws : List ℕ). set ws 1 ((length b.past + 1) % 18446744073709551616)) k.words ∙ ap (λ (t : ℕ). b.ticket ∷ t ∷ []) small;
        slot = (
          room,
          ap (λ (hs : List (maybe.Option (Option R))). set hs 0 (some (Some room))) empty,
          record {
            opens = after.opens;
            tells = now_is;
            spares = subst (λ (h : History). spare room + length h ≡ spare begun.room) now_is after.spares;
          },
        );
        behind = omega (arith, ahead, longer);
        ahead = λ out. absurd (Rattle.std.proofs.lemmas.Bool.false≢true out);
        busy = λ out. absurd (Rattle.std.proofs.lemmas.Bool.false≢true out);
        enough = k.enough;
        fits = k.fits;
        lists = k.lists;
        as_many = k.as_many;
        own = own_after s k seat has made reply mine after.is_next;
        no_other = none_after s k seat has made reply mine after.is_next;
        views = seats_stay (Knows begun now) s.views seat (Idle begun (new ∷ [])) (
          refl,
          Rattle.std.proofs.lemmas.List.Elements.All-cons (IsOwned begun.lists now seat 0) new [] (record {
            number = mine.number;
            owner = mine.owner;
            made = put_here b.made n (has.made + 1);
            steps = omega (arith, mine.steps);
            seen = ([], Rattle.std.proofs.Common.append-nil (history room) ∙ now_is);
            note = omega (arith, mine.note, longer);
          }) (Rattle.std.proofs.lemmas.List.Elements.All-nil (IsOwned begun.lists now seat 0)),
        )
            (λ other view apart there.
            let owned : (count : ℕ) (p : Progress) → IsOwned begun.lists b other count p → IsOwned begun.lists now other count p =
            λ count p o. record {
              number = o.number;
              owner = o.owner;
              made = put_else b.made n (has.made + 1) p.number (λ e. apart (sym o.owner ∙ ap b.owner e ∙ mine.owner)) ∙ o.made;
              steps = o.steps;
              seen = prefix-more p.seen b.past (entry ∷ []) o.seen;
              note = omega (arith, o.note, longer);
            }
            in
            knows_stays begun b now other owned
            (λ p t w. record {
              owned = owned 1 p w.owned;
              drew = w.drew;
              not_served = omega (arith, w.not_out holds.out, longer);
              drawn = w.drawn;
              not_out = λ out. absurd (Rattle.std.proofs.lemmas.Bool.false≢true out);
            })
            (λ p t h. absurd (apart (sym h.drew ∙ ap b.queue (h.served ∙ sym holds.served) ∙ holds.drew)))
            view (k.views other view there));
      }

  abbrev Passed : State (Option R) (View R) → ℕ → ℕ → Beginning R → Progress → ℕ → R → Type 0
  Passed s slots seat from has ticket room =
      let me : Me (Option R) (View R) = (Holding from has ticket, (0, Some room) ∷ []) in
      (w : View R) × (a : Act (Option R)) × Valid s.homes me.1 a × Rule (stepped s 1 ((get_or s.words 1 0 + 1) % 18446744073709551616) seat me.1 w a)
      × passed history (step slots 1 1 0 none) me (get_or s.words 1 0) (w, carried_after me.1 a)

  passes_here : (s : State (Option R) (View R)) (k : Rule s) (slots seat : ℕ) (has : Progress) (ticket : ℕ) (room : R) (made : Step) (reply : Reply) →
      IsAfter opening history spare begun has room made reply → get_elem? s.views seat ≡ some (Holding begun has ticket) → Passed s slots seat begun has ticket room
  passes_here s k slots seat has ticket room made reply after at =
      let holds = (k.views seat (Holding begun has ticket) at).1 in
      let found : get_or s.words 1 0 ≡ length k.books.past = ap (λ (ws : List ℕ). get_or ws 1 0) k.words in
      let w : View R = Idle begun (record has { made = has.made + 1; seen = history room } ∷ []) in (
        w,
        gives,
        tt,
        subst (λ (x : ℕ). Rule record { words = set s.words 1 ((x + 1) % 18446744073709551616); homes = set s.homes 0 (some (Some room)); views = set s.views seat w }) (sym found)
            (pass_kept s k seat has ticket room made reply holds after),
        λ begun' has' ticket' room' e.
            let parts = ap (λ (m : Me (Option R) (View R)). parts_or (begun, has, 0) m.0) e in
            let carried = ap (λ (m : Me (Option R) (View R)). room_or room m.1) e in (
              λ i. (Idle (parts i).0 (record (parts i).1 { made = (parts i).1.made + 1; seen = history (carried i) } ∷ []), []),
              subst (λ (z : Beginning R × R). HasFirstSteps z.0.lists (history z.1)) (λ i. ((parts i).0, carried i)) (first_after s k seat has ticket room made reply holds after),
            ),
      )
    where
      room_or : R → List (ℕ × Option R) → R
      room_or or [] = or
      room_or or (x ∷ xs) = Rattle.std.proofs.Common.unwrap_or x.1 or

  pub passes_on : (slots seat : ℕ) (from : Beginning R) (has : Progress) (ticket : ℕ) (room : R) (made : Step) (reply : Reply) → IsAfter opening history spare from has room made reply →
      Allows Rule slots seat (Holding from has ticket, (0, Some room) ∷ []) 1 (λ n. (n + 1) % 2 ^ 64)
      (passed history (step slots 1 1 0 none) (Holding from has ticket, (0, Some room) ∷ []))
  passes_on slots seat from has ticket room made reply after s k deep at fits =
      let is = (k.views seat (Holding from has ticket) at).0 in
      subst (λ (z : Beginning R). Passed s slots seat z has ticket room) (sym is)
      (passes_here s k slots seat has ticket room made reply (subst (λ (z : Beginning R). IsAfter opening history spare z has room made reply) is after)
      (subst (λ (z : Beginning R). get_elem? s.views seat ≡ some (Holding z has ticket)) is at))

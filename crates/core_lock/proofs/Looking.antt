-- Looking: a look at the ticket that is served keeps the rule, and the seat takes the room where the ticket is its own.
use Rattle.std.proofs.Common.{◌≡◌, ◌≢◌, ℕ, Bool, true, false, List, [], ◌∷◌, length, set, get_or, refl, sym, ap, ◌∙◌, subst, inl, inr, arith, Option, Some, append-nil}
use Rattle.std.proofs.lemmas.Bool.{cases_Bool, true≢false}
use mathlib.Core.Logic.{dite}
use mathlib.Core.Option.{none, some}
use mathlib.Core.Option as maybe
use native.Mathlib.Decide.{ℕ_discrete}
use lib.ListN.{get_elem?}
use lib.Seq.{set-get_or}
use Rattle.atomic_table.specs.Table.{State, Me, Act, step, keeps, takes, Valid, Allows, stepped, carried_after}
use Rattle.atomic_table.proofs.Lists.{set_again}
use Rattle.cs_types.specs.Room.{Opening}
use Rattle.cs_types.specs.History.{History, events_by}
use Rattle.core_lock.specs.declared.view.Progress.{Progress}
use Rattle.core_lock.specs.declared.view.Beginning.{Beginning}
use Rattle.core_lock.specs.declared.view.View.{View}
use Rattle.core_lock.specs.declared.view.View.TheVariants.{Waiting, Holding}
use Rattle.core_lock.specs.Lists.{list_at, actor_of, events_first}
use Rattle.core_lock.specs.Board.{Books, IsOwned, IsWaiting, Knows, IsRoomAt, HasSlot, IsKept, HasTurn, looked}
use Rattle.core_lock.proofs.Keeping.{seats_stay, knows_stays, parts_or}

module _ {R : Type 0} (opening : R → Opening) (history : R → History) (spare : R → ℕ) (begun : Beginning R) where
  abbrev Rule : State (Option R) (View R) → Type 0
  Rule = IsKept opening history spare begun

  -- where a waiting seat finds its ticket served, the room is at home
  at_home : (s : State (Option R) (View R)) (k : Rule s) (seat ticket : ℕ) (has : Progress) → IsWaiting begun.lists k.books seat has ticket →
      length k.books.past ≡ ticket → k.books.out ≡ false
  at_home s k seat ticket has waits served =
      elim (cases_Bool k.books.out) [
        | inl out ↦ absurd (omega (arith, waits.not_out out, served))
        | inr home ↦ home
      ]

  look_kept : (s : State (Option R) (View R)) (k : Rule s) (seat ticket : ℕ) (has : Progress) (room : R) →
      IsWaiting begun.lists k.books seat has ticket → length k.books.past ≡ ticket → k.books.out ≡ false → IsRoomAt opening history spare begun k.books.past room →
      Rule record { words = s.words; homes = none ∷ []; views = set s.views seat (Holding begun (record has { seen = history room }) ticket) }
  look_kept s k seat ticket has room waits served home is_room =
      let b = k.books in
      let mine = waits.owned in
      let now : Books = record b { out = true } in
      let owned : (other count : ℕ) (p : Progress) → IsOwned begun.lists b other count p → IsOwned begun.lists now other count p =
      λ other count p o. record { number = o.number; owner = o.owner; made = o.made; steps = o.steps; seen = o.seen; note = o.note }
      in
      record {
        books = now;
        words = k.words;
        slot = refl;
        behind = k.behind;
        ahead = λ _. omega (arith, waits.drawn, served);
        busy = λ _. (has.number, mine.number, omega (arith, mine.steps, mine.made));
        enough = k.enough;
        fits = k.fits;
        lists = k.lists;
        as_many = k.as_many;
        own = k.own;
        no_other = k.no_other;
        views = seats_stay (Knows begun now) s.views seat (Holding begun (record has { seen = history room }) ticket) (
          refl,
          record {
            owned = record {
              number = mine.number;
              owner = mine.owner;
              made = mine.made;
              steps = mine.steps;
              seen = ([], append-nil (history room) ∙ is_room.tells);
              note = mine.note;
            };
            drew = waits.drew;
            served = sym served;
            out = refl;
            whole = is_room.tells;
          },
        )
            (λ other view apart there.
            knows_stays begun b now other (owned other)
            (λ p t w. record {
              owned = owned other 1 p w.owned;
              drew = w.drew;
              not_served = w.not_served;
              drawn = w.drawn;
              not_out = λ _.
                  let ne : t ≢ ticket = λ e. apart (sym w.drew ∙ ap b.queue e ∙ waits.drew) in
                  omega (arith, w.not_served, served, ne);
            })
            (λ p t h. absurd (true≢false (sym h.out ∙ home)))
            view (k.views other view there));
      }

  -- nothing changes where another ticket is served
  unchanged : (s : State (Option R) (View R)) (seat : ℕ) (view : View R) → get_elem? s.views seat ≡ some view → Rule s →
      Rule record { words = set s.words 1 (get_or s.words 1 0); homes = s.homes; views = set s.views seat view }
  unchanged s seat view at k =
      subst Rule (λ i. record { words = sym (set-get_or s.words 1 0) i; homes = s.homes; views = sym (set_again s.views seat view at) i }) k

  abbrev Looked : State (Option R) (View R) → ℕ → ℕ → Beginning R → Progress → ℕ → Type 0
  Looked s slots seat from has ticket =
      let me : Me (Option R) (View R) = (Waiting from has ticket, []) in
      (w : View R) × (a : Act (Option R)) × Valid s.homes me.1 a × Rule (stepped s 1 (get_or s.words 1 0) seat me.1 w a)
      × looked opening history spare (step slots 1 0 0 none) me (get_or s.words 1 0) (w, carried_after me.1 a)

  looks_here : (s : State (Option R) (View R)) (k : Rule s) (slots seat : ℕ) (has : Progress) (ticket : ℕ) →
      get_elem? s.views seat ≡ some (Waiting begun has ticket) → Looked s slots seat begun has ticket
  looks_here s k slots seat has ticket at =
      let b = k.books in
      let waits = (k.views seat (Waiting begun has ticket) at).1 in
      let mine = waits.owned in
      let me : Me (Option R) (View R) = (Waiting begun has ticket, []) in
      let found : get_or s.words 1 0 ≡ length b.past = ap (λ (ws : List ℕ). get_or ws 1 0) k.words in
      let parts : (begun' : Beginning R) (has' : Progress) (ticket' : ℕ) → me ≡ (Waiting begun' has' ticket', []) → (begun, has, ticket) ≡ (begun', has', ticket') =
      λ begun' has' ticket' e. ap (λ (m : Me (Option R) (View R)). parts_or (begun, has, 0) m.0) e
      in
      dite (ℕ_discrete (get_or s.words 1 0) ticket)
      (λ here.
      let served : length b.past ≡ ticket = sym found ∙ here in
      let home = at_home s k seat ticket has waits served in
      let slot : HasSlot opening history spare begun b.past false s.homes = subst (λ (o : Bool). HasSlot opening history spare begun b.past o s.homes) home k.slot in
      let room = slot.0 in
      let is_room = slot.2 in
      let w : View R = Holding begun (record has { seen = history room }) ticket in
      let own : events_by (actor_of (list_at begun.lists has.number)) (history room) ≡ events_first has.made (list_at begun.lists has.number) =
      subst (λ (z : History × ℕ). events_by (actor_of (list_at begun.lists has.number)) z.0 ≡ events_first z.1 (list_at begun.lists has.number)) (λ i. (sym is_room.tells i, mine.made i)) (k.own has.number mine.number)
      in
      let as_long : length (history room) ≡ length b.past = ap (λ (h : History). length h) is_room.tells in
      let turn : HasTurn opening history spare begun has ticket room (w, (0, Some room) ∷ []) = record {
        me = refl;
        grows = subst (λ (h : History). mathlib.Core.List.IsPrefix has.seen h) (sym is_room.tells) mine.seen;
        own = own;
        noted = omega (arith, mine.note, as_long);
        opens = is_room.opens;
        spares = omega (arith, is_room.spares, as_long);
        more = omega (arith, is_room.spares, waits.drawn, served, k.enough);
      } in (
        w,
        takes 0 (Some room),
        ap (λ (hs : List (maybe.Option (Option R))). get_elem? hs 0) slot.1,
        subst Rule (λ i. record {
          words = sym (set-get_or s.words 1 0) i;
          homes = sym (ap (λ (hs : List (maybe.Option (Option R))). set hs 0 none) slot.1) i;
          views = set s.views seat w;
        }) (look_kept s k seat ticket has room waits served home is_room),
        λ begun' has' ticket' e.
            subst (λ (z : Beginning R × Progress × ℕ). (get_or s.words 1 0 ≡ z.2 → (r : R) × HasTurn opening history spare z.0 z.1 z.2 r (w, (0, Some room) ∷ [])) × (get_or s.words 1 0 ≢ z.2 → (w, (0, Some room) ∷ []) ≡ me))
            (parts begun' has' ticket' e) ((λ _. (room, turn)), λ other. absurd (other here)),
      ))
      (λ not_here. (
        Waiting begun has ticket,
        keeps,
        tt,
        unchanged s seat (Waiting begun has ticket) at k,
        λ begun' has' ticket' e.
            subst (λ (z : Beginning R × Progress × ℕ). (get_or s.words 1 0 ≡ z.2 → (r : R) × HasTurn opening history spare z.0 z.1 z.2 r me) × (get_or s.words 1 0 ≢ z.2 → me ≡ me))
            (parts begun' has' ticket' e) ((λ here. absurd {A = (r : R) × HasTurn opening history spare begun has ticket r me} (not_here here)), λ _. refl),
      ))

  pub looks : (slots seat : ℕ) (from : Beginning R) (has : Progress) (ticket : ℕ) →
      Allows Rule slots seat (Waiting from has ticket, []) 1 (λ n. n) (looked opening history spare (step slots 1 0 0 none) (Waiting from has ticket, []))
  looks slots seat from has ticket s k deep at fits =
      let is = (k.views seat (Waiting from has ticket) at).0 in
      subst (λ (z : Beginning R). Looked s slots seat z has ticket) (sym is)
      (looks_here s k slots seat has ticket (subst (λ (z : Beginning R). get_elem? s.views seat ≡ some (Waiting z has ticket)) is at))

-- Going: how a pass goes on by a step, and by a reading.
use Rattle.std.proofs.Common.{◌≡◌, ℕ, ◌+◌, ◌^◌, ◌<◌, List, [], ◌∷◌, ◌++◌, refl, sym, ap, ◌∙◌, subst, arith, Option, Some}
use Rattle.std.specs.Prelude.{slice_get}
use Rattle.std.proofs.lemmas.Option.{slice_get_within}
use Rattle.atomic_table.specs.Seated.{TableId}
use Rattle.atomic_table.specs.Table.{Me}
use Rattle.cs_types.specs.declared.event.Actor.{Actor}
use Rattle.cs_types.specs.declared.event.Event.{Event}
use Rattle.cs_types.specs.declared.event.Step.{Step}
use Rattle.cs_types.specs.declared.reply.Reply.{Reply}
use Rattle.cs_types.specs.Room.{Opening}
use Rattle.cs_types.specs.Scenario.{is_actor, IsEvent}
use Rattle.cs_types.specs.History.{History, IsLegal, events_by}
use Rattle.std.proofs.lemmas.List.Elements.{All-get_or}
use Rattle.std.proofs.lemmas.Option.{get_or_from_slice_get}
use Rattle.core_lock.specs.declared.view.Progress.{Progress}
use Rattle.core_lock.specs.declared.view.Beginning.{Beginning}
use Rattle.core_lock.specs.declared.view.View.{View}
use Rattle.core_lock.specs.declared.view.View.TheVariants.{Idle}
use Rattle.core_lock.specs.Lists.{list_at, actor_of, events_first, HasFirstSteps}
use Rattle.core_lock.specs.Board.{HasTurn, HasMade, entry_with}
use Rattle.core_lock.specs.Passes.{Lock, PassState, IsPass, MakesNext, HasOwn, lock_of, pass_of}
use Rattle.core_lock.proofs.Entries.{is_actor-same, events_by-own, events_first-more, actor_at-is}

module _ {R : Type 0} (opening : R → Opening) (spare : R → ℕ) where
  -- what contracts see of a pass
  pub state_is : (table : TableId) (me : Me (Option R) (View R)) (begun : Beginning R) (has : Progress) (now : PassState) → me ≡ (Idle begun (has ∷ []), []) →
      pass_of opening spare table me.0 ≡ now → now ≡ record { lock = lock_of opening spare table begun; progress = has }
  state_is table me begun has now idle view = sym view ∙ ap (λ (m : Me (Option R) (View R)). pass_of opening spare table m.0) idle

  -- a pass of a lock is a seat of its table
  pub same_table : (table id : TableId) (begun key : Beginning R) (has : Progress) (now : PassState) (lock : Lock) → now ≡ record { lock = lock_of opening spare table begun; progress = has } →
      lock_of opening spare id key ≡ lock → now.lock ≡ lock → table ≡ id
  same_table table id begun key has now lock is view of = ap (λ (l : Lock). l.table) (sym (ap (λ (p : PassState). p.lock) is) ∙ of ∙ sym view)

module _ {R : Type 0} (opening : R → Opening) (history : R → History) (spare : R → ℕ) where
  -- a pass goes on by its next step
  pub goes_on : (me turned now : Me (Option R) (View R)) (steps : List Step) (count ticket : ℕ) (room : R) (made : Step) (reply : Reply) (p : IsPass opening me steps count) →
      HasTurn opening history spare p.begun p.has ticket room turned → slice_get (list_at p.begun.lists p.has.number) p.has.made ≡ Some made →
      HasMade opening p.begun p.has (history room) made reply now → IsPass opening now steps (count + 1)
  goes_on me turned now steps count ticket room made reply p turn next did =
      let entry = entry_with made reply in
      let at : slice_get steps count ≡ Some made = subst (λ (z : List Step × ℕ). slice_get z.0 z.1 ≡ Some made) (λ i. (sym p.listed i, sym p.counted i)) next in
      let by : made.actor ≡ actor_of steps = actor_at-is steps count made p.fair.of_one at in
      let before : events_by (actor_of steps) (history room) ≡ events_first count steps =
      subst (λ (z : List Step × ℕ). events_by (actor_of z.0) (history room) ≡ events_first z.1 z.0) (λ i. (sym p.listed i, sym p.counted i)) turn.own
      in
      record {
        begun = p.begun;
        has = record p.has { made = p.has.made + 1; seen = history room ++ entry ∷ [] };
        idle = did.me;
        listed = p.listed;
        counted = ap (λ (n : ℕ). n + 1) p.counted;
        within = omega (arith, slice_get_within steps count made at);
        fits = p.fits;
        fair = p.fair;
        legal = did.legal;
        first_steps = did.first_steps;
        own =
            events_by-own (actor_of steps) (history room) entry (ap (λ (a : Actor). is_actor a (actor_of steps)) by ∙ is_actor-same (actor_of steps))
            ∙ ap (λ (es : List Event). es ++ made.event ∷ []) before
            ∙ sym (events_first-more count steps made at);
      }

  -- what the call tells of it
  pub tells_next : (table : TableId) (begun : Beginning R) (has : Progress) (before now : PassState) (turned me : Me (Option R) (View R)) (ticket : ℕ) (room : R) (made : Step) (reply : Reply) →
      before ≡ record { lock = lock_of opening spare table begun; progress = has } →
      HasTurn opening history spare begun has ticket room turned → slice_get (list_at begun.lists has.number) has.made ≡ Some made →
      HasMade opening begun has (history room) made reply me → pass_of opening spare table me.0 ≡ now → MakesNext before reply now
  tells_next table begun has before now turned me ticket room made reply is turn next did view =
      let new : Progress = record has { made = has.made + 1; seen = history room ++ entry_with made reply ∷ [] } in
      let now_is = state_is opening spare table me begun new now did.me view in
      subst (λ (z : PassState × PassState). MakesNext z.0 reply z.1) (λ i. (sym is i, sym now_is i))
      (record { made = made; is_next = next; past = history room; grows = turn.grows; place = turn.noted; ends = refl })

module _ {R : Type 0} (opening : R → Opening) (spare : R → ℕ) where
  -- what each pass keeps, of what contracts see of it
  pub own_is : (table : TableId) (me : Me (Option R) (View R)) (steps : List Step) (count : ℕ) (p : IsPass opening me steps count) (now : PassState) →
      now ≡ record { lock = lock_of opening spare table p.begun; progress = p.has } → HasOwn now now.progress.seen
  own_is table me steps count p now is =
      subst (λ (s : PassState). HasOwn s s.progress.seen) (sym is)
      (subst (λ (z : List Step × ℕ). events_by (actor_of z.0) p.has.seen ≡ events_first z.1 z.0) (λ i. (p.listed i, p.counted i)) p.own)

  pub legal_is : (table : TableId) (me : Me (Option R) (View R)) (steps : List Step) (count : ℕ) (p : IsPass opening me steps count) (now : PassState) →
      now ≡ record { lock = lock_of opening spare table p.begun; progress = p.has } → IsLegal now.lock.opening now.progress.seen
  legal_is table me steps count p now is = subst (λ (s : PassState). IsLegal s.lock.opening s.progress.seen) (sym is) p.legal

  pub first_steps_is : (table : TableId) (me : Me (Option R) (View R)) (steps : List Step) (count : ℕ) (p : IsPass opening me steps count) (now : PassState) →
      now ≡ record { lock = lock_of opening spare table p.begun; progress = p.has } → HasFirstSteps now.lock.lists now.progress.seen
  first_steps_is table me steps count p now is = subst (λ (s : PassState). HasFirstSteps s.lock.lists s.progress.seen) (sym is) p.first_steps

  -- the next step of a pass keeps its limits
  pub is_event : (me : Me (Option R) (View R)) (steps : List Step) (count : ℕ) (p : IsPass opening me steps count) (made : Step) →
      slice_get (list_at p.begun.lists p.has.number) p.has.made ≡ Some made → IsEvent (opening p.begun.room).scenario.siblings made.event
  is_event me steps count p made next =
      let at : slice_get steps count ≡ Some made = subst (λ (z : List Step × ℕ). slice_get z.0 z.1 ≡ Some made) (λ i. (sym p.listed i, sym p.counted i)) next in
      let P : Step → Type 0 = λ s. IsEvent (opening p.begun.room).scenario.siblings s.event in
      subst P (get_or_from_slice_get steps count made made at) (All-get_or P steps count made (slice_get_within steps count made at) p.fair.events)

  -- as many steps as are made, and one more, fit a word
  pub one_more_fits : (me : Me (Option R) (View R)) (steps : List Step) (count : ℕ) (p : IsPass opening me steps count) (made : Step) →
      slice_get (list_at p.begun.lists p.has.number) p.has.made ≡ Some made → count + 1 < 2 ^ 64
  one_more_fits me steps count p made next =
      let at : slice_get steps count ≡ Some made = subst (λ (z : List Step × ℕ). slice_get z.0 z.1 ≡ Some made) (λ i. (sym p.listed i, sym p.counted i)) next in
      omega (arith, p.fits, slice_get_within steps count made at)

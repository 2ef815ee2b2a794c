-- Tasks of all classes that get other ranks and stamps, and stand in the same order.
use Rattle.std.proofs.Common.{◌≡◌, ℕ, true, List, [], ◌∷◌, ◌++◌, map, length, refl, sym, ap, ◌∙◌}
use Rattle.std.specs.Prelude.{◌&&◌}
use Rattle.std.specs.FinMap.{FinMap, entries, from_sorted, entries-from_sorted, is_sorted, len, len-entries}
use Rattle.std.specs.FinMap.Entries.{below_all}
use Rattle.std.specs.Ordering.{is_lt}
use Rattle.std.specs.declared.cmp.Ordering.{Ordering}
use Rattle.std.proofs.lemmas.List.{length-map, map-append}
use Rattle.cs_types.specs.Queue.{Key, key_cmp, Members, Seat, seat_cmp}
use Rattle.cs_types.proofs.Queues.{said, seat_total}
use Rattle.order_tree.specs.Anew.{reranked}
use Rattle.order_tree.proofs.Entries.{is_sorted-front, is_sorted-back}
use Rattle.run_queue.specs.Anew.{reseated}
use Rattle.run_queue.specs.Classes.{seats_in, joined}
use Rattle.run_queue.proofs.Seats.{seat_cmp-same, seated, joined_rise}

-- they are as many as before
pub len-anew : {K X Y J : Type 0} {R : K → K → Ordering} {S : J → J → Ordering} (f : K × X → J × Y) (before : FinMap R X) (after : FinMap S Y) →
    entries after ≡ map f (entries before) → len after ≡ len before
len-anew f before after is = len-entries after ∙ ap length is ∙ length-map (entries before) f ∙ sym (len-entries before)

-- ---- a class by itself

below_all-class : (class : ℕ) (key : Key) (es : List (Key × ℕ)) → below_all seat_cmp (class, key) (seated class es) ≡ below_all key_cmp key es
below_all-class class key [] = refl
below_all-class class key (e ∷ es) = λ i. is_lt (seat_cmp-same class key e.0 i) && below_all-class class key es i

is_sorted-class : (class : ℕ) (es : List (Key × ℕ)) → is_sorted seat_cmp (seated class es) ≡ is_sorted key_cmp es
is_sorted-class class [] = refl
is_sorted-class class (e ∷ es) = λ i. below_all-class class e.0 es i && is_sorted-class class es i

module _ (at : ℕ → Key → Key) where
  seated-anew : (class : ℕ) (es : List (Key × ℕ)) → map (reseated at) (seated class es) ≡ seated class (map (reranked at) es)
  seated-anew class [] = refl
  seated-anew class (e ∷ es) = ap (λ (rest : List (Seat × ℕ)). ((class, at e.1 e.0), e.1) ∷ rest) (seated-anew class es)

  -- one class in front of others
  anew-next : (class : ℕ) (members : Members) (later : List (Seat × ℕ)) →
      map (reseated at) (seats_in class members ++ later) ≡ seated class (map (reranked at) (entries members)) ++ map (reseated at) later
  anew-next class members later =
      map-append (reseated at) (seats_in class members) later ∙ ap (λ (front : List (Seat × ℕ)). front ++ map (reseated at) later) (seated-anew class (entries members))

  module _ (class : ℕ) (members : Members) (later : List (Seat × ℕ)) (still : is_sorted seat_cmp (map (reseated at) (seats_in class members ++ later)) ≡ true) where
    rising : is_sorted seat_cmp (seated class (map (reranked at) (entries members)) ++ map (reseated at) later) ≡ true
    rising = ap (is_sorted seat_cmp) (sym (anew-next class members later)) ∙ still

    rising-class : is_sorted key_cmp (map (reranked at) (entries members)) ≡ true
    rising-class =
        sym (is_sorted-class class (map (reranked at) (entries members)))
        ∙ is_sorted-front seat_total (seated class (map (reranked at) (entries members))) (map (reseated at) later) rising

    rising-later : is_sorted seat_cmp (map (reseated at) later) ≡ true
    rising-later = is_sorted-back seat_total (seated class (map (reranked at) (entries members))) (map (reseated at) later) rising

  -- ---- all classes

  module _ (stop deadline real_time fair : Members) where
    abbrev from_fair : List (Seat × ℕ)
    from_fair = seats_in 3 fair ++ []

    abbrev from_real_time : List (Seat × ℕ)
    from_real_time = seats_in 2 real_time ++ from_fair

    abbrev from_deadline : List (Seat × ℕ)
    from_deadline = seats_in 1 deadline ++ from_real_time

    pub entries-joined : entries (from_sorted {R = seat_cmp} (joined stop deadline real_time fair)) ≡ joined stop deadline real_time fair
    entries-joined = entries-from_sorted seat_cmp (joined stop deadline real_time fair) (said (joined_rise stop deadline real_time fair))

    module _ (still : is_sorted seat_cmp (map (reseated at) (joined stop deadline real_time fair)) ≡ true) where
      later : is_sorted seat_cmp (map (reseated at) from_deadline) ≡ true
      later = rising-later 0 stop from_deadline still

      latest : is_sorted seat_cmp (map (reseated at) from_real_time) ≡ true
      latest = rising-later 1 deadline from_real_time later

      pub rising-stop : is_sorted key_cmp (map (reranked at) (entries stop)) ≡ true
      rising-stop = rising-class 0 stop from_deadline still

      pub rising-deadline : is_sorted key_cmp (map (reranked at) (entries deadline)) ≡ true
      rising-deadline = rising-class 1 deadline from_real_time later

      pub rising-real_time : is_sorted key_cmp (map (reranked at) (entries real_time)) ≡ true
      rising-real_time = rising-class 2 real_time from_fair latest

      pub rising-fair : is_sorted key_cmp (map (reranked at) (entries fair)) ≡ true
      rising-fair = rising-class 3 fair [] (rising-later 2 real_time from_fair latest)

    module _ (a b c d : Members) (stops : entries a ≡ map (reranked at) (entries stop)) (deadlines : entries b ≡ map (reranked at) (entries deadline))
        (real_times : entries c ≡ map (reranked at) (entries real_time)) (fairs : entries d ≡ map (reranked at) (entries fair)) where
      pub joined-anew : joined a b c d ≡ map (reseated at) (joined stop deadline real_time fair)
      joined-anew =
          (λ i. seated 0 (stops i) ++ (seated 1 (deadlines i) ++ (seated 2 (real_times i) ++ (seated 3 (fairs i) ++ []))))
          ∙ sym (anew-next 0 stop from_deadline
          ∙ ap (λ (rest : List (Seat × ℕ)). seated 0 (map (reranked at) (entries stop)) ++ rest)
          (anew-next 1 deadline from_real_time
          ∙ ap (λ (rest : List (Seat × ℕ)). seated 1 (map (reranked at) (entries deadline)) ++ rest)
          (anew-next 2 real_time from_fair
          ∙ ap (λ (rest : List (Seat × ℕ)). seated 2 (map (reranked at) (entries real_time)) ++ rest) (anew-next 3 fair []))))

-- Runs: how the pairs of a history go on by one entry.
use Rattle.std.proofs.Common.{◌≡◌, ℕ, ◌+◌, ◌<◌, Bool, true, false, cond, List, [], ◌∷◌, ◌++◌, subst, refl, sym, ◌∙◌, arith, Some, None}
use Rattle.std.specs.Prelude.{◌&&◌}
use Rattle.cs_types.specs.declared.reply.Entry.{Entry}
use Rattle.cs_types.specs.Room.{Opening}
use Rattle.cs_types.specs.History.{History, fold_of}
use Rattle.run_times.specs.declared.by.By.{By}
use Rattle.run_times.specs.Times.{Span, advance_of, spans_of, time_in}
use Rattle.run_times.proofs.Spans.{spans_of-advance, spans_of-still, time_in-push}
use Rattle.pair_times.specs.declared.rows.PairTime.{PairTime}
use Rattle.pair_times.specs.Pairs.{runs_key, run_both, AreRows, time_of, ArePairsIn}
use Rattle.pair_times.specs.Added.{has}

more_where : (holds : Bool) (sum time : ℕ) → sum + cond holds time 0 ≡ cond holds (sum + time) sum
more_where true sum time = refl
more_where false sum time = omega arith

-- an advance adds its time to the pairs of those that run then
pub pairs_of-advance : (by : By) (opening : Opening) (history : History) (entry : Entry) (time : ℕ) (old rows : List PairTime) (keys : List ℕ) →
    advance_of entry.event ≡ Some time → ArePairsIn by (spans_of opening history) old → AreRows rows →
    ((key : ℕ) → has key keys ≡ runs_key by (fold_of opening history) key) →
    ((a b : ℕ) → a < b → time_of rows a b ≡ time_of old a b + cond (has a keys && has b keys) time 0) →
    ArePairsIn by (spans_of opening (history ++ entry ∷ [])) rows
pairs_of-advance by opening history entry time old rows keys is was order ran added =
    let room = fold_of opening history in
    let spans = spans_of opening history in
    subst (λ (all : List Span). ArePairsIn by all rows) (sym (spans_of-advance opening history entry time is))
    (record {
      order = order;
      times = λ a b lt.
          added a b lt
          ∙ (λ i. was.times a b lt i + cond (ran a i && ran b i) time 0)
          ∙ more_where (run_both by a b room) (time_in (run_both by a b) spans) time
          ∙ sym (time_in-push (run_both by a b) spans room time);
    })

-- any other entry adds none
pub pairs_of-still : (by : By) (opening : Opening) (history : History) (entry : Entry) (rows : List PairTime) → advance_of entry.event ≡ None →
    ArePairsIn by (spans_of opening history) rows → ArePairsIn by (spans_of opening (history ++ entry ∷ [])) rows
pairs_of-still by opening history entry rows is was = subst (λ (spans : List Span). ArePairsIn by spans rows) (sym (spans_of-still opening history entry is)) was

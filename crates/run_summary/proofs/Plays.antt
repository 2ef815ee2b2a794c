-- How a run with its summary goes on, step by step.
use Rattle.std.proofs.Common.{◌≡◌, ℕ, ◌+◌, ◌<◌, ◌≤◌, List, [], ◌∷◌, ◌++◌, length, suc, take, drop, get_or, sum_by, refl, sym, ap, ◌∙◌, subst, arith}
use Rattle.std.proofs.lemmas.List.{length-take-le, length-append}
use Rattle.std.proofs.lemmas.List.Sums.{sum_by-cons}
use Rattle.std.proofs.Math.Seq.{drop-cons}
use Rattle.cs_types.specs.declared.event.Step.{Step}
use Rattle.cs_types.specs.declared.reply.Entry.{Entry}
use Rattle.cs_types.specs.Room.{Opening}
use Rattle.cs_types.specs.History.{History, history_of}
use Rattle.cs_laws.proofs.Histories.{length-history_of}
use Rattle.pair_times.specs.Pairs.{most_rows}
use Rattle.wait_times.specs.Rows.{Waits, AreWaitsSoFar, AreWaitsBefore}
use Rattle.run_summary.specs.Summaries.{Summary, ArePartsOf}

-- the history so far is no longer than the steps
pub length_so_far : (opening : Opening) (steps : List Step) (i : ℕ) (past : History) → i ≤ length steps → past ≡ history_of opening (take i steps) → length past ≡ i
length_so_far opening steps i past lt so_far =
    ap length so_far ∙ length-history_of opening (take i steps) ∙ length-take-le i steps lt

-- the parts go on with it
pub parts_more : (opening same : Opening) (past now : History) (entry : Entry) (summary : Summary) → same ≡ opening → now ≡ past ++ entry ∷ [] →
    ((other : Entry) → other.event ≡ entry.event → ArePartsOf opening (past ++ other ∷ []) summary) → ArePartsOf same now summary
parts_more opening same past now entry summary alike one_more told =
    subst (λ (o : Opening). ArePartsOf o now summary) (sym alike) (subst (λ (h : History). ArePartsOf opening h summary) (sym one_more) (told entry refl))

-- and the rows that the steps left can add are fewer by those of the next
rows_left : (siblings : ℕ) (steps : List Step) (i : ℕ) (d : Step) → i < length steps →
    sum_by (λ (step : Step). most_rows siblings step.event) (drop i steps)
    ≡ most_rows siblings (get_or steps i d).event + sum_by (λ (step : Step). most_rows siblings step.event) (drop (i + 1) steps)
rows_left siblings steps i d few =
    let next : suc i ≡ i + 1 = omega arith in
    ap (sum_by (λ (step : Step). most_rows siblings step.event)) (drop-cons steps i d few)
    ∙ sum_by-cons (λ (step : Step). most_rows siblings step.event) (get_or steps i d) (drop (suc i) steps)
    ∙ ap (λ (n : ℕ). most_rows siblings (get_or steps i d).event + sum_by (λ (step : Step). most_rows siblings step.event) (drop n steps)) next

-- so there is memory for those of the next
pub rows_fit : (begun now : ℕ) (steps : List Step) (i : ℕ) (d : Step) (spare : ℕ) → now ≡ begun → i < length steps →
    sum_by (λ (step : Step). most_rows begun step.event) (drop i steps) ≤ spare → most_rows now (get_or steps i d).event ≤ spare
rows_fit begun now steps i d spare same few fits =
    omega (arith, rows_left begun steps i d few, ap (λ (n : ℕ). most_rows n (get_or steps i d).event) same, fits)

-- and after it for those of the rest
pub rows_go : (begun now : ℕ) (steps : List Step) (i : ℕ) (d : Step) (old new : ℕ) → now ≡ begun → i < length steps →
    sum_by (λ (step : Step). most_rows begun step.event) (drop i steps) ≤ old → old ≤ new + most_rows now (get_or steps i d).event →
    sum_by (λ (step : Step). most_rows begun step.event) (drop (i + 1) steps) ≤ new
rows_go begun now steps i d old new same few fits took =
    omega (arith, rows_left begun steps i d few, ap (λ (n : ℕ). most_rows n (get_or steps i d).event) same, fits, took)

-- the parts do not hang on the waits
pub parts_beside : (opening : Opening) (history : History) (summary new : Summary) → new ≡ record summary { waits = new.waits } → ArePartsOf opening history summary → ArePartsOf opening history new
parts_beside opening history summary new is parts =
    subst (ArePartsOf opening history) (sym is)
    (record {
      times = parts.times;
      pairs = record { by_cookie = parts.pairs.by_cookie; by_group = parts.pairs.by_group; cookie_pairs = parts.pairs.cookie_pairs; group_pairs = parts.pairs.group_pairs };
      tasks = parts.tasks;
    })

-- the waits before an entry that was just made
pub waits_before : (opening same : Opening) (past now : History) (entry : Entry) (waits kept : Waits) → same ≡ opening → now ≡ past ++ entry ∷ [] → kept ≡ waits →
    AreWaitsSoFar opening past waits → AreWaitsBefore same now entry kept
waits_before opening same past now entry waits kept alike one_more is so_far =
    record {
      past = past;
      added = one_more;
      so_far = subst (λ (o : Opening). AreWaitsSoFar o past kept) (sym alike) (subst (AreWaitsSoFar opening past) (sym is) so_far);
    }

-- the history with one entry more is no longer than the steps with the next one
pub length_with_next : (past now : History) (entry : Entry) (i count entries : ℕ) → now ≡ past ++ entry ∷ [] → length past ≡ i → i < count → count ≤ entries → length now ≤ entries
length_with_next past now entry i count entries one_more long few fits =
    omega (arith, ap length one_more ∙ length-append past (entry ∷ []), long, few, fits)

-- memory that stays
pub took_as_much : (old mid new more : ℕ) → old ≤ mid + more → new ≡ mid → old ≤ new + more
took_as_much old mid new more took same = omega (arith, took, same)

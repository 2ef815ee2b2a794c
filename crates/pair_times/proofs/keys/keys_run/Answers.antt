use Rattle.std.proofs.Common.{◌≡◌, ◌≢◌, ℕ, ◌<◌, List, true, false, length, get_or, sym, ap, ◌∙◌, subst, arith}
use Rattle.std.specs.Prelude.{AllPairs, ◌==◌}
use Rattle.std.proofs.lemmas.Bool.{both_ways, eq-eqb}
use Rattle.std.proofs.lemmas.List.Folds.{list_any_at}
use Rattle.std.proofs.lemmas.List.Quantifiers.{all_pairs_push}
use Rattle.arrayvec.specs.ArrayVec.{array_vec_len}
use Rattle.cs_types.specs.History.{fold_of}
use Rattle.cs_laws.proofs.Siblings.{length-fold_of}
use Rattle.pair_times.specs.Added.{has}
use Rattle.pair_times.proofs.Ran.{ran_by, ran_none, ran_again, ran_new}
use Rattle.pair_times.proofs.keys.keys_run.Goals as goal
use Rattle.pair_times.proofs.keys.keys_run.Goals.{in-Some+then-not-contains, in-Some+else-not-contains, in_default}

-- a key that is not there differs from each that is
apart : (keys : List ℕ) (own : ℕ) → has own keys ≡ false → (k d : ℕ) → k < length keys → get_or keys k d ≢ own
apart keys own new k d few same =
    both_ways (has own keys) new (list_any_at (λ other. other == own) keys k d few (eq-eqb (get_or keys k d) own same))

pub loop-cpu-preserved : goal.loop-cpu-preserved
loop-cpu-preserved g c =
    let room = fold_of (g.R.Room.opening c.args.room.now) (g.R.Room.history c.args.room.now) in
    let so_far = c.loop-cpu.invariant in
    let keys = c.loop-cpu.keys.items in
    record {
      few = elim c.match-key_run.branch [
        | in-Some+then-not-contains w ↦ omega (arith, ap array_vec_len w.keys-is, w.push.ensures.len, so_far.few)
        | in-Some+else-not-contains w ↦ omega (arith, ap array_vec_len w.keys-is, so_far.few)
        | in_default w ↦ omega (arith, ap array_vec_len w.keys-is, so_far.few)
      ];
      run = λ key. elim c.match-key_run.branch [
        | in-Some+then-not-contains w ↦
            ap (λ (xs : List ℕ). has key xs) (ap (λ v. v.items) w.keys-is ∙ w.push.ensures.items)
            ∙ ran_new c.args.by room c.loop-cpu.cpu w.in-Some.key keys key w.in-Some.ensures (so_far.run key)
        | in-Some+else-not-contains w ↦
            let there : has w.in-Some.key keys ≡ true = grind (arith, w.contains.ensures.value, w.deref.ensures, w.if-not-contains.false) in
            ap (λ (xs : List ℕ). has key xs) (ap (λ v. v.items) w.keys-is)
            ∙ ran_again c.args.by room c.loop-cpu.cpu w.in-Some.key keys key w.in-Some.ensures there (so_far.run key)
        | in_default w ↦
            ap (λ (xs : List ℕ). has key xs) (ap (λ v. v.items) w.keys-is)
            ∙ ran_none c.args.by room c.loop-cpu.cpu keys key w.in_default.ensures (so_far.run key)
      ];
      distinct = elim c.match-key_run.branch [
        | in-Some+then-not-contains w ↦
            let new : has w.in-Some.key keys ≡ false = grind (arith, w.contains.ensures.value, w.deref.ensures, w.if-not-contains.true) in
            subst (AllPairs (λ (x y : ℕ). x ≢ y)) (sym (ap (λ v. v.items) w.keys-is ∙ w.push.ensures.items))
            (all_pairs_push (λ (x y : ℕ). x ≢ y) keys w.in-Some.key so_far.distinct (apart keys w.in-Some.key new))
        | in-Some+else-not-contains w ↦ subst (AllPairs (λ (x y : ℕ). x ≢ y)) (sym (ap (λ v. v.items) w.keys-is)) so_far.distinct
        | in_default w ↦ subst (AllPairs (λ (x y : ℕ). x ≢ y)) (sym (ap (λ v. v.items) w.keys-is)) so_far.distinct
      ];
    }

pub returns-clause-run : goal.returns-clause-run
returns-clause-run g c key =
    let opening = g.R.Room.opening c.args.room.now in
    let history = g.R.Room.history c.args.room.now in
    let room = fold_of opening history in
    let all : c.loop-cpu.cpu ≡ length room.siblings =
    omega (arith, length-fold_of opening history, c.siblings-cpu-end.ensures.siblings, c.loop-cpu-test.false, c.loop-cpu.auto.cpu-end) in
    c.loop-cpu.invariant.run key ∙ ap (λ (n : ℕ). ran_by c.args.by room n key) all

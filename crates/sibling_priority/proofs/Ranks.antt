-- The order of offers is a strict weak order.
use Rattle.std.proofs.Common.{◌≡◌, ℕ, ◌+◌, Bool, true, false, ltb, eqb, arith}
use Rattle.std.specs.Prelude.{◌&&◌, ◌||◌}
use Rattle.std.specs.Cmp.{IsStrictWeakOrder}
use Rattle.std.proofs.lemmas.Bool.Decides.{nat_tests}
use Rattle.cs_types.specs.Order.{deadline_class, real_time_class, fair_class}
use Rattle.sibling_priority.specs.Offers.{is_higher_offer}

-- the order over the classes c and d, and what is less within the deadline, the real-time and the fair class
abbrev pub by_class : (c d : ℕ) (deadline real_time fair : Bool) → Bool
by_class c d deadline real_time fair =
    ltb c d
    || ((eqb c deadline_class && eqb d deadline_class) && deadline)
    || ((eqb c real_time_class && eqb d real_time_class) && real_time)
    || ((eqb c fair_class && eqb d fair_class) && fair)

-- the order over the classes c and d, the ranks r and s, and the snapshots u and v
abbrev pub higher_by : (c d r s u v : ℕ) → Bool
higher_by c d r s u v = by_class c d (ltb r s) (ltb r s) (ltb (r + v) (s + u))

one_way : (c d r s u v : ℕ) → higher_by c d r s u v ≡ true → higher_by d c s r v u ≡ false
one_way c d r s u v h = grind (arith, nat_tests)

chain : (c d e r s t u v w : ℕ) → higher_by c d r s u v ≡ false → higher_by d e s t v w ≡ false → higher_by c e r t u w ≡ false
chain c d e r s t u v w h k = grind (arith, nat_tests)

pub is_higher_offer_is_order : IsStrictWeakOrder is_higher_offer
is_higher_offer_is_order = record {
  one_way = λ a b h. one_way a.class b.class a.rank b.rank a.snapshot b.snapshot h;
  chain = λ a b c h k. chain a.class b.class c.class a.rank b.rank c.rank a.snapshot b.snapshot c.snapshot h k;
}

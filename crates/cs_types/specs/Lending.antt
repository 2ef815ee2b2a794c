-- Lending: what becomes of a list whose items are lent.
use Rattle.std.specs.Prelude.{List, length}
use Rattle.std.specs.List.{refill}
use Rattle.std.specs.Borrow.{Lends, MutBor, Fml, Array, RattleType}
use Rattle.cs_types.specs.contracts.list.List.{the_row}

-- the list ends as the items that are written last, as many as were lent
abbrev pub LendsItems : (T : RattleType) → MutBor (List T.Denot) → MutBor (List T.Denot) → Fml
LendsItems T list items = Lends (the_row T) (Array T 0) list items (refill (length list.now) list.now)

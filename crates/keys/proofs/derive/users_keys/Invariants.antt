-- The invariant: the keys written are those of the users passed.
use Rattle.std.proofs.Common.{◌*◌}
use Rattle.lists.proofs.Fronts.{Front}
use Rattle.keys.proofs.KeyLaws.{key_rows, turned_symbols}
use Rattle.keys.proofs.derive.users_keys.Given as goal

abbrev pub invariant-loop-i : goal.invariant-loop-i
invariant-loop-i l =
    Front l.initial.keys (key_rows l.plan.q l.users l.rate l.positions l.table (turned_symbols l.positions l.turned)) l.keys (l.i * l.positions)

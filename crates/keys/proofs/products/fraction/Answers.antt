use Rattle.std.proofs.Common.{ℕ, ◌+◌, ◌*◌, ◌/◌, ◌%◌, ◌^◌, ◌<◌, ◌≤◌, arith}
use Rattle.residues.proofs.Reciprocals.{parts-under, parts-over, fraction-fits}
use Rattle.keys.proofs.products.fraction.Goals as goal
use Rattle.keys.proofs.products.fraction.Goals.{Start}

-- the parts of the width by both halves of the reciprocal
abbrev parts : Start → ℕ
parts s = let a = s.args in a.a * (a.reciprocal / 4294967296) + a.a * (a.reciprocal % 4294967296) / 4294967296

under : (s : Start) → (let a = s.args in parts s * a.q ≤ a.a * 4294967296)
under s = let a = s.args in parts-under a.q 4294967296 a.reciprocal a.a s.requires.1 s.requires.2 s.requires.0 (omega arith)

over : (s : Start) → (let a = s.args in a.a * 4294967296 < parts s * a.q + a.q + a.q)
over s = let a = s.args in parts-over a.q 4294967296 a.reciprocal a.a s.requires.1 s.requires.2 s.requires.0 (omega arith)

pub overflow_mul-rest-2 : goal.overflow_mul-rest-2
overflow_mul-rest-2 c = omega (arith, under c)

pub overflow_sub-rest : goal.overflow_sub-rest
overflow_sub-rest c = omega (arith, under c)

-- one part more fits, and two where q is not more than the rest
one_more : (s : Start) → parts s + 1 < 2 ^ 32
one_more s = let a = s.args in fraction-fits a.q 4294967296 a.a (parts s + 1) (omega arith) s.requires.0 (omega (arith, under s))

two-more : (s : Start) → (let a = s.args in parts s * a.q + a.q ≤ a.a * 4294967296) → parts s + 2 < 2 ^ 32
two-more s left = let a = s.args in fraction-fits a.q 4294967296 a.a (parts s + 2) (omega arith) s.requires.0 (omega (arith, left))

pub overflow_cast-result : goal.overflow_cast-result
overflow_cast-result c = omega (arith, one_more (goal.at.overflow_cast-result c).Start)

pub returns-then-rest-q : goal.returns-then-rest-q
returns-then-rest-q c = let s = (goal.at.returns-then-rest-q c).Start in (omega (arith, c.if-rest-q.true, under s), omega (arith, under s))

pub overflow_cast-result-else-rest-q : goal.overflow_cast-result-else-rest-q
overflow_cast-result-else-rest-q c = let s = (goal.at.overflow_cast-result-else-rest-q c).Start in omega (arith, two-more s (omega (arith, c.if-rest-q.false, under s)))

pub returns-else-rest-q : goal.returns-else-rest-q
returns-else-rest-q c = let s = (goal.at.returns-else-rest-q c).Start in (omega (arith, over s), omega (arith, c.if-rest-q.false, under s))

use Rattle.std.proofs.Common.{ℕ, ◌+◌, ◌-◌, ◌*◌, ◌≤◌, length, ◌∙◌, arith}
use native.Mathlib.Nat.{add-sub_cancel_left}
use Rattle.lists.proofs.Fronts.{row_fits, length_part, part_at}
use Rattle.keys.proofs.SumLaws.{sums-below, sums_next}
use Rattle.keys.proofs.derive.add_product.Goals as goal
use Rattle.keys.proofs.derive.add_product.Goals.{Start}

-- the column lies in the turned source key
fits : (s : Start) → (let a = s.args in a.k * length a.keys.now + length a.keys.now ≤ length a.turned.now)
fits s =
    let a = s.args in
    row_fits (length a.row.now) (length a.keys.now) a.k (length a.turned.now) s.requires.0 s.requires.4

pub add_products-requires : goal.add_products-requires
add_products-requires c =
    let s = (goal.at.add_products-requires c).Start in
    let a = s.args in
    let L : ℕ = length a.keys.now in
    let b : ℕ = a.k * L in
    let v : ℕ = b + L - b in (
      s.requires.1,
      s.requires.2,
      s.requires.3,
      length_part v b a.turned.now (omega (arith, fits s)) ∙ add-sub_cancel_left _ _,
      λ p h. omega (arith, part_at v b a.turned.now p (omega arith), s.requires.5 a.k p s.requires.0 h),
      sums-below a.q a.row.now a.turned.now L a.keys.now a.k s.requires.6 (omega (arith, s.requires.1)),
    )

pub returns : goal.returns
returns c =
    let a = c.args in
    let L : ℕ = length a.keys.now in
    c.add_products.ensures
    ∙ sums_next a.q a.row.now a.turned.now L a.keys.now a.k c.requires.6 (a.k * L + L - a.k * L) (add-sub_cancel_left _ _)

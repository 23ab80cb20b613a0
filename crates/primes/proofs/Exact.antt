-- Division without a remainder is a multiplication modulo 2 ^ 32.
use mathlib.Core.Path.{◌≡◌, refl, sym, ap, ap₂, ◌∙◌}
use mathlib.Core.Bool.{Bool, true, false, ◌&&◌, ◌||◌}
use mathlib.Core.List.{List, [], ◌∷◌}
use Prim.Native.Nat.{ℕ, zero, suc, ◌+◌, ◌*◌, ◌/◌, ◌%◌, ◌≤◌, ◌<◌}
use native.Mathlib.Nat.{mod-eq_of_lt, mul-mod_left, le-div_iff_mul-le, mul-le-mul}
use native.Mathlib.Numerals.{add-one}
use native.Mathlib.Omega.{arith}
use lib.Dec.{T, eqb, leb, eqb→eq, leb→le, le→leb}
use lib.ListN.{length, get_or, drop, drop_of_length-le}
use lib.Seq.{drop-cons}
use Rattle.lists.proofs.Searches.{T_and, T-ext}
use Rattle.residues.proofs.Congruence.{Cong, of_eq, of-rem, c-trans, c-mul-left, c-mul-right, cong-one, to-mod}
use Rattle.pseudoprimes.proofs.Tables.{any_in, some_divides}
use Rattle.pseudoprimes.proofs.TableLaws.{eq→T}
use Rattle.pseudoprimes.proofs.Divisors.{factor}
use Rattle.primes.specs.Trying.{some_exact}

-- ---- one divisor d with its inverse v

module _ (q d v : ℕ) (small : q < 4294967296) (one : d * v % 4294967296 ≡ 1) where
  d-pos : 0 < d
  d-pos = go d one
    where
      go : (d : ℕ) → d * v % 4294967296 ≡ 1 → 0 < d
      go zero e = absurd (omega arith)
      go (suc d) e = omega arith

  inverse : Cong 4294967296 (d * v) 1
  inverse = cong-one 4294967296 (omega arith) (d * v) one

  exact-divides : q * v % 4294967296 ≤ 4294967295 / d → q % d ≡ 0
  exact-divides h =
      let low : q * v % 4294967296 * d ≤ 4294967295 = (le-div_iff_mul-le {k = d} d-pos).0 h in
      let c : Cong 4294967296 (q * v % 4294967296 * d) q =
      c-trans (c-mul-right d (of-rem 4294967296 (q * v)))
      (c-trans (of_eq {b = q * (d * v)} (omega arith)) (c-trans (c-mul-left q inverse) (of_eq (omega arith)))) in
      let e : q * v % 4294967296 * d ≡ q = sym (mod-eq_of_lt (omega arith)) ∙ to-mod c ∙ mod-eq_of_lt small in
      ap (λ (z : ℕ). z % d) (sym e) ∙ mul-mod_left (q * v % 4294967296) d

  divides-exact : q % d ≡ 0 → q * v % 4294967296 ≤ 4294967295 / d
  divides-exact z =
      let e : q ≡ d * (q / d) = factor q d z in
      let c : Cong 4294967296 (q * v) (q / d) =
      c-trans (of_eq {b = q / d * (d * v)} (omega (arith, ap (λ (w : ℕ). w * v) e))) (c-trans (c-mul-left (q / d) inverse) (of_eq (omega arith))) in
      let m : q / d * 1 ≤ q / d * d = mul-le-mul {n₁ = q / d} {m₁ = 1} {n₂ = q / d} {m₂ = d} (omega arith) d-pos in
      let f : q * v % 4294967296 ≡ q / d = to-mod c ∙ mod-eq_of_lt (omega arith) in
      (le-div_iff_mul-le {k = d} d-pos).1 (omega (arith, ap (λ (w : ℕ). w * d) f))

  exact-is : leb (q * v % 4294967296) (4294967295 / d) ≡ eqb (q % d) 0
  exact-is =
      T-ext (leb (q * v % 4294967296) (4294967295 / d)) (eqb (q % d) 0)
      (λ t. eq→T (q % d) 0 (exact-divides (leb→le (q * v % 4294967296) (4294967295 / d) t)))
      (λ t. le→leb (q * v % 4294967296) (4294967295 / d) (divides-exact (eqb→eq (q % d) 0 t)))

-- ---- a table of them

-- at each place: is v the inverse of d modulo 2 ^ 32, and l how often d goes into 2 ^ 32 - 1?
unfoldable pub fitted : List ℕ → List ℕ → List ℕ → Bool
fitted [] [] ls = true
fitted [] (v ∷ vs) ls = false
fitted (d ∷ ds) [] ls = false
fitted (d ∷ ds) (v ∷ vs) [] = false
fitted (d ∷ ds) (v ∷ vs) (l ∷ ls) = eqb (d * v % 4294967296) 1 && eqb l (4294967295 / d) && fitted ds vs ls

-- the table by multiplications is the list by remainders
pub exact-table : (q : ℕ) (ds vs ls : List ℕ) → q < 4294967296 → T (fitted ds vs ls) → some_exact q vs ls ≡ some_divides q ds
unfolding fitted some_exact any_in
exact-table q [] [] ls small t = refl
exact-table q [] (v ∷ vs) ls small t = absurd t
exact-table q (d ∷ ds) [] ls small t = absurd t
exact-table q (d ∷ ds) (v ∷ vs) [] small t = absurd t
exact-table q (d ∷ ds) (v ∷ vs) (l ∷ ls) small t =
    let (here, rest) = T_and (eqb (d * v % 4294967296) 1 && eqb l (4294967295 / d)) (fitted ds vs ls) t in
    let (one, limit) = T_and (eqb (d * v % 4294967296) 1) (eqb l (4294967295 / d)) here in
    ap₂ ◌||◌
    (ap (λ (m : ℕ). leb (q * v % 4294967296) m) (eqb→eq l (4294967295 / d) limit) ∙ exact-is q d v small (eqb→eq (d * v % 4294967296) 1 one))
    (exact-table q ds vs ls small rest)

-- ---- the loop over a table

pub exact-step : (q : ℕ) (vs ls : List ℕ) (i : ℕ) → i < length vs → length vs ≡ length ls
    → some_exact q (drop i vs) (drop i ls) ≡ (leb (q * get_or vs i 0 % 4294967296) (get_or ls i 0) || some_exact q (drop (i + 1) vs) (drop (i + 1) ls))
unfolding some_exact
exact-step q vs ls i h e = rw (drop-cons vs i 0 h, drop-cons ls i 0 (omega arith), add-one i)

pub exact-end : (q : ℕ) (vs ls : List ℕ) (i : ℕ) → length vs ≤ i → some_exact q (drop i vs) (drop i ls) ≡ false
unfolding some_exact
exact-end q vs ls i h = rw (drop_of_length-le vs h)

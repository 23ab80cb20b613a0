-- The largest coalitions decide. Where the rows of a coalition are independent and it leaks nothing to an observer, no part of it does; and where no part of
-- it leaks to a relay, its rows are independent.
use Prim.Native.Nat.{ℕ, zero, suc, ◌*◌, ◌/◌, ◌<◌}
use mathlib.Core.Path.{◌≡◌, sym, subst}
use mathlib.Core.Bool.{not}
use mathlib.Core.Logic.{◌⊎◌, ⊎_elim}
use mathlib.Core.List.{List, []}
use native.Mathlib.Omega.{arith}
use lib.Dec.{T, not_T, eqb, eqb_refl}
use lib.ListN.{length}
use Rattle.residues.specs.Primes.{Prime}
use Rattle.residues.proofs.Congruence.{Cong, of_eq, of-mod, c_sym, c-trans, cong-zero, zero-not-one}
use Rattle.lists.specs.Lists.{zeros}
use Rattle.lists.proofs.ListLaws.{all-picked, picked_all, length-zeros}
use Rattle.lists.proofs.Searches.{and_T}
use Rattle.lists.proofs.Sets.{lower, lower_in, lower-out}
use Rattle.matrices.specs.Linear.{Vector}
use Rattle.matrices.proofs.Notions.{dot_n, dot, InSpan, Independent}
use Rattle.matrices.proofs.Spans.{span-dot}
use Rattle.matrices.proofs.Solvability.{Extended, extend}
use Rattle.secrecy.specs.Model.{Pool, users, in_coalition, in_cluster, ZeroSum}
use Rattle.secrecy.specs.Leaks.{PairLeak}
use Rattle.secrecy.proofs.RankCondition.{row, coalition_rows, outside, row-vector, coalition-vectors}
use Rattle.secrecy.proofs.PairLeaks.{pair-iff, relay-iff}
use Rattle.secrecy.proofs.Independence.{Solved, solved}
use Rattle.secrecy.proofs.Products.{told-apart}
use Rattle.secrecy.proofs.Fills.{spot, spot-here, spot-off, Gives, relay-part, server-part, relay-fills, relay-watched, server-fills, server-watched}

-- the coalition's rows are independent
abbrev pub RowsIndependent : Pool → ℕ → Type 0
RowsIndependent P g = Independent P.q P.rate [] (coalition_rows P g)

-- source symbols that give its users the keys x, and a coalition whose users can be given any keys
pub record Keyed (P : Pool) (g : ℕ) (x : ℕ → ℕ) : Type 0 where
  pub N : List ℕ
  pub size : length N ≡ P.rate
  pub members : Gives P g x N

abbrev pub Free : Pool → ℕ → Type 0
Free P g = (x : ℕ → ℕ) → Keyed P g x

module _ (P : Pool) (prime : Prime P.q) (valid : Vector P.q (users P * P.rate) P.table) where
  -- ---- a part of a coalition

  pub part-quiet : ZeroSum P → (g h : ℕ) → ((i : ℕ) → i < users P → T (in_coalition g i) → T (in_coalition h i)) → RowsIndependent P h
      → (w : ℕ) → ¬ (PairLeak P h w) → ¬ (PairLeak P g w)
  part-quiet zs g h part rows zero quiet =
      (pair-iff P prime valid zs g 0).1
      (server-watched P prime valid g zs (server-part P g h part (server-fills P prime valid h zs rows ((pair-iff P prime valid zs h 0).0 quiet))))
  part-quiet zs g h part rows (suc u) quiet =
      (pair-iff P prime valid zs g (suc u)).1
      (relay-watched P prime valid g u (relay-part P g h part u (relay-fills P prime valid h u rows ((pair-iff P prime valid zs h (suc u)).0 quiet))))

  -- ---- users outside a coalition that leaks nothing to their relay

  -- source symbols that give the coalition's users the key 0, and user j the key 1
  record Told (g j : ℕ) : Type 0 where
    pub N : List ℕ
    pub none : Gives P g (λ i. 0) N
    pub one : Cong P.q (dot_n (row P j) N) 1

  module _ (g j : ℕ) (l : j < users P) (out : ¬ (T (in_coalition g j))) (quiet : ¬ (PairLeak P g (suc (j / P.size)))) where
    told : Told g j
    unfolding outside in_cluster
    told =
        let u : ℕ = j / P.size in
        let s : Solved P.q P.rate (coalition_rows P g) (outside P (in_cluster P u) g) (row P) (λ k. 1) (users P)
        = solved P.q prime P.rate (coalition_rows P g) (outside P (in_cluster P u) g) (row P)
        (coalition-vectors P prime valid g) (row-vector P prime valid) (λ k. 1) (users P) ((relay-iff P prime valid g u).0 quiet) in
        record {
          N = s.N;
          none = λ i m c.
              cong-zero P.q (dot_n (row P i) s.N)
              (picked_all (λ r. dot P.q r s.N ≡ 0) (users P) (in_coalition g) (row P) s.none i m c);
          one = of-mod P.q (dot_n (row P j) s.N) 1
              (s.hits j l (and_T (eqb (j / P.size) u) (not (in_coalition g j)) (eqb_refl u) (not_T (in_coalition g j) out)));
        }

    -- their rows are outside the span of the coalition's
    pub outside-span : ¬ (InSpan P.q P.rate (coalition_rows P g) (row P j))
    outside-span w =
        let t : Told g j = told in
        zero-not-one P.q prime.two
        (c-trans
        (c_sym (span-dot P.q P.rate (coalition_rows P g) (row P j) t.N w
        (all-picked (λ c. Cong P.q (dot_n c t.N) 0) (users P) (in_coalition g) (row P) t.none)))
        t.one)

  -- so a coalition's rows are independent, where the members below each user leak nothing to its relay
  pub rows-independent : (g : ℕ) → ((i : ℕ) → i < users P → ¬ (PairLeak P (lower g i) (suc (i / P.size)))) → RowsIndependent P g
  rows-independent g quiet =
      told-apart P.q P.rate [] (in_coalition g) (row P) prime.two (users P)
      (λ i l t.
      let s : Told (lower g i) i = told (lower g i) i l (lower-out g i) (quiet i l) in
      record { N = s.N; none = tt; before = λ k m c. s.none k (omega arith) (lower_in g i k m c); one = s.one })

  -- ---- coalitions whose users can be given any keys

  -- they have independent rows
  pub free-rows : (g : ℕ) → Free P g → RowsIndependent P g
  free-rows g f =
      told-apart P.q P.rate [] (in_coalition g) (row P) prime.two (users P)
      (λ i l t.
      let k : Keyed P g (spot 1 i) = f (spot 1 i) in
      record {
        N = k.N;
        none = tt;
        before = λ j m d. c-trans (k.members j (omega arith) d) (of_eq (spot-off 1 i j (omega arith)));
        one = c-trans (k.members i l t) (of_eq (spot-here 1 i));
      })

  -- nobody is one
  pub nobody-free : (g : ℕ) → ((i : ℕ) → ¬ (T (in_coalition g i))) → Free P g
  nobody-free g none x = record { N = zeros P.rate; size = length-zeros P.rate; members = λ i l t. absurd (none i t) }

  -- and with one it is one of one member more, whose row is outside the span
  pub free_more : (g h j : ℕ) → ((i : ℕ) → i < users P → T (in_coalition h i) → (i ≡ j) ⊎ T (in_coalition g i))
      → ¬ (InSpan P.q P.rate (coalition_rows P g) (row P j)) → Free P g → Free P h
  free_more g h j parts out f x =
      let k : Keyed P g x = f x in
      let e : Extended P.q P.rate (coalition_rows P g) (row P j) k.N (x j)
      = extend P.q prime P.rate (coalition_rows P g) (row P j) (coalition-vectors P prime valid g) (row-vector P prime valid j) out k.N k.size
      (x j) in
      record {
        N = e.N;
        size = e.size;
        members = λ i l t.
            ⊎_elim
            (λ c. subst (λ (z : ℕ). Cong P.q (dot_n (row P z) e.N) (x z)) (sym c) e.hits)
            (λ b. c-trans
            (picked_all (λ s. Cong P.q (dot_n s e.N) (dot_n s k.N)) (users P) (in_coalition g) (row P) e.keeps i l b) (k.members i l b))
            (parts i l t);
      }

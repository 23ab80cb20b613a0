-- Growing coalitions decide: what `grown` finds from nobody on is whether the plan is accepted.
use Prim.Native.Nat.{ℕ, zero, suc, ◌+◌, ◌-◌, ◌*◌, ◌/◌, ◌^◌, ◌≤◌, ◌<◌}
use mathlib.Core.Path.{◌≡◌, refl, sym, ap, ◌∙◌, subst}
use mathlib.Core.Bool.{Bool, true, false, cond}
use mathlib.Core.Logic.{◌↔◌, ◌⊎◌}
use mathlib.Core.List.{List, map}
use native.Mathlib.Nat.{pow-suc, div-lt_iff_lt-mul}
use native.Mathlib.Decide.{dec_lt}
use native.Mathlib.Omega.{arith}
use lib.Dec.{lit<, T, T_not, not_T, eqb, ltb, eqb→eq, ltb→lt, eqb_refl}
use lib.Pow.{pow_pos, pow_mono}
use lib.Count.{ones, ones-le}
use Rattle.refusals.specs.declared.Code.{Code}
use Rattle.refusals.specs.Codes.{accepted, first_of, is_accepted}
use Rattle.refusals.proofs.Orders.{number-accepts, first-decides}
use Rattle.lists.proofs.Searches.{T_and, and_T, T-decide, T-ext, T→true, all-at, all_made}
use Rattle.lists.proofs.BitLaws.{ones-many, bit-above, mask-under}
use Rattle.matrices.specs.Tables.{has_pivot, eliminated}
use Rattle.secrecy.specs.Model.{Pool, in_coalition}
use Rattle.secrecy.specs.Leaks.{leaks, PairLeak}
use Rattle.secrecy.proofs.PairLeaks.{leaks-iff}
use Rattle.secrecy.proofs.Largest.{outside-span, Free, free-rows, nobody-free, free_more}
use Rattle.plans.specs.declared.Plan.{Plan}
use Rattle.plans.specs.Plans.{users_of}
use Rattle.plans.proofs.PlanBounds.{Bounds, bounds-known}
use Rattle.vetting.specs.Pools.{pool_of}
use Rattle.vetting.specs.Walking.{reduced_by, table_of, base_table, rows_in, hit}
use Rattle.vetting.specs.Walk.{pairs}
use Rattle.vetting.specs.Vet.{leak_check, other_checks, vet_checks, vet_code}
use Rattle.vetting.specs.Growing.{quiet_to, is_quiet_at, grown}
use Rattle.vetting.proofs.VetLaws.{passed, walk_pair, walk-pivot}
use Rattle.vetting.proofs.ExactSecrecy.{Checked, checked, accepted-quiet}
use Rattle.vetting.proofs.PlanLaws.{vet-numbered}
use Rattle.vetting.proofs.MemberLaws.{members-none}
use Rattle.vetting.proofs.GrowingSets.{same-is, next-is, more-ones, more-member, more-table, top-ones, ones_none}
use Rattle.vetting.proofs.ByLargest.{Passes, accepted-iff-pass}

-- ---- tests

one-of : (b x y : Bool) → (T b → T x) → (¬ (T b) → T y) → T (cond b x y)
one-of true x y f g = f tt
one-of false x y f g = g (λ t. t)

then : (b x y : Bool) → T (cond b x y) → T b → T x
then true x y t s = t
then false x y t s = absurd s

else : (b x y : Bool) → T (cond b x y) → ¬ (T b) → T y
else true x y t n = absurd (n tt)
else false x y t n = t

by : {A B : Type 0} → Dec A → (A → B) → (¬ A → B) → B
by (yes a) f g = f a
by (no n) f g = g n

same : (k t : ℕ) → k ≡ t → T (eqb k t)
same k t e = subst (λ (z : ℕ). T (eqb k z)) e (eqb_refl k)

strict : (k t : ℕ) → k ≤ t → ¬ (T (eqb k t)) → k < t
strict k t h n = by (dec_lt k t) (λ l. l) (λ l. absurd (n (same k t (omega arith))))

pub accepted-iff : (P : Plan) (K : List ℕ) → T (is_accepted (vet_code P K)) ↔ (accepted ≡ vet_code P K)
accepted-iff P K = (
  (λ t. number-accepts (vet_checks P K) (vet-numbered P K) (T→true (is_accepted (vet_code P K)) t)),
  (λ e. subst (λ (c : Code). T (is_accepted c)) e tt),
)

-- a plan that another check refuses is not accepted
pub refused-others : (P : Plan) (K : List ℕ) → is_accepted (first_of (other_checks P K)) ≡ false → is_accepted (vet_code P K) ≡ false
refused-others P K e =
    ap is_accepted (sym (first-decides (other_checks P K) (map (leak_check P K) (pairs P.clusters P.size P.limit)) e)) ∙ e

module _ (P : Plan) (K : List ℕ) (others : accepted ≡ first_of (other_checks P K)) where
  abbrev pool : Pool
  pool = pool_of P K

  -- the base table, and that of a coalition
  abbrev base : List ℕ
  base = base_table P K

  abbrev table_at : ℕ → List ℕ
  table_at g = table_of P.q (rows_in P) P.rate base g

  c : Checked P K
  c = checked P K others

  b : Bounds P
  b = bounds-known P (passed P K others).bounds

  few-users : users_of P ≤ 16
  few-users = b.counts.few-users

  abbrev FreeAt : ℕ → Type 0
  FreeAt g = Free pool g

  -- ---- the tests of a coalition

  module _ (g : ℕ) (low : g < 2 ^ users_of P) where
    quiet-to : (w : ℕ) → w ≤ P.clusters → T (quiet_to P g (table_at g) w) ↔ (¬ (PairLeak pool g w))
    quiet-to w h =
        let same : hit P 0 base g w ≡ leaks pool g w = walk_pair P K others 0 g w low h in
        let search = leaks-iff pool c.prime c.valid g w in (
          (λ t k. T_not (hit P 0 base g w) t (subst T (sym same) (search.1 k))),
          (λ n. not_T (hit P 0 base g w) (λ t. n (search.0 (subst T same t)))),
        )

    quiet_at : T (is_quiet_at P g (table_at g)) ↔ ((w : ℕ) → w ≤ P.clusters → ¬ (PairLeak pool g w))
    unfolding is_quiet_at
    quiet_at = (
      (λ t w h. (quiet-to w h).0 (all-at (P.clusters + 1) (quiet_to P g (table_at g)) t w (omega arith))),
      (λ q. all_made (P.clusters + 1) (quiet_to P g (table_at g)) (λ w l. let h : w ≤ P.clusters = omega arith in (quiet-to w h).1 (q w h))),
    )

    -- a coalition whose members can be given any keys, and that is quiet, passes
    passes_at : FreeAt g → T (is_quiet_at P g (table_at g)) → Passes P K g
    passes_at f t = record { rows = free-rows pool c.prime c.valid g f; quiet = quiet_at.0 t }

  -- ---- one member more, below the others

  module _ (i g m : ℕ) (eg : g ≡ m * 2 ^ suc i) (room : g + 2 ^ suc i ≤ 2 ^ users_of P) (hi : i < users_of P) where
    small : m * 2 ^ suc i + 2 ^ i < 2 ^ 16
    small = omega (arith, pow-suc 2 i, pow_pos i, pow_mono few-users)

    table-next : eliminated P.q (rows_in P) P.rate i (table_at g) ≡ table_at (g + 2 ^ i)
    table-next =
        subst (λ (z : ℕ). eliminated P.q (rows_in P) P.rate i (table_at z) ≡ table_at (z + 2 ^ i)) (sym eg)
        (more-table m i small (omega (arith, few-users)) P.q (rows_in P) P.rate base)

    ones-next : ones (g + 2 ^ i) ≡ ones g + 1
    ones-next = subst (λ (z : ℕ). ones (z + 2 ^ i) ≡ ones z + 1) (sym eg) (more-ones m i small (omega (arith, few-users)))

    -- whose row is not 0
    free-next : T (has_pivot (rows_in P) P.rate i (table_at g)) → FreeAt g → FreeAt (g + 2 ^ i)
    free-next pivot =
        free_more pool c.prime c.valid g (g + 2 ^ i) i
        (λ j l. subst (λ (z : ℕ). T (in_coalition (z + 2 ^ i) j) → (j ≡ i) ⊎ T (in_coalition z j)) (sym eg)
        (more-member m i small (omega (arith, few-users)) j (omega (arith, few-users))))
        ((walk-pivot P K others g i (omega (arith, pow_pos (suc i))) hi).0 pivot)

  -- ---- an accepted plan: every test passes

  module _ (e : accepted ≡ vet_code P K) where
    in-walk : (g : ℕ) → g < 2 ^ users_of P → ones g ≤ P.limit → (w : ℕ) → w ≤ P.clusters → ¬ (PairLeak pool g w)
    in-walk g low few w h =
        accepted-quiet P K e g w (record { users = low; few = omega (arith, ones-many (users_of P) g low); observer = h })

    -- the row of a user that comes in is not 0
    comes-in : (g j : ℕ) → g < 2 ^ users_of P → ones g ≤ P.limit → j < users_of P → ¬ (T (in_coalition g j))
        → T (has_pivot (rows_in P) P.rate j (table_at g))
    comes-in g j low few l out =
        (walk-pivot P K others g j low l).1
        (outside-span pool c.prime c.valid g j l out
        (in-walk g low few (suc (j / P.size)) ((div-lt_iff_lt-mul {k = P.size} {x = j} {y = P.clusters} b.counts.some_size).1 l)))

    complete : (i k g m : ℕ) → g ≡ m * 2 ^ i → k ≡ ones g → k ≤ P.limit → g + 2 ^ i ≤ 2 ^ users_of P → i ≤ users_of P → T (grown P i k g (table_at g))
    unfolding grown
    complete zero k g m eg ek few room hi =
        let low : g < 2 ^ users_of P = omega (arith, pow_pos 0) in
        one-of (eqb k P.limit) (is_quiet_at P g (table_at g)) true
        (λ t. (quiet_at g low).1 (in-walk g low (omega arith))) (λ n. tt)
    complete (suc i) k g m eg ek few room hi =
        let low : g < 2 ^ users_of P = omega (arith, pow_pos (suc i)) in
        let p : 2 ^ suc i ≡ 2 ^ i * 2 = pow-suc 2 i in
        one-of (eqb k P.limit) (is_quiet_at P g (table_at g)) _
        (λ t. (quiet_at g low).1 (in-walk g low (omega arith)))
        (λ n.
        one-of (ltb (suc i + k) P.limit) true _ (λ t. tt)
        (λ s.
        let less : k < P.limit = strict k P.limit few n in
        and_T (has_pivot (rows_in P) P.rate i (table_at g)) _
        (comes-in g i low (omega arith) hi (λ t. subst T (ap (λ (z : ℕ). in_coalition z i) eg ∙ mask-under m (suc i) i (omega arith)) t))
        (and_T (grown P i (k + 1) (g + 2 ^ i) (eliminated P.q (rows_in P) P.rate i (table_at g))) (grown P i k g (table_at g))
        (subst (λ (U : List ℕ). T (grown P i (k + 1) (g + 2 ^ i) U)) (sym (table-next i g m eg room hi))
        (complete i (k + 1) (g + 2 ^ i) (m * 2 + 1) (ap (λ (z : ℕ). z + 2 ^ i) eg ∙ next-is m i) (omega (arith, ones-next i g m eg room hi)) (omega arith)
        (omega arith) (omega arith)))
        (complete i k g (m * 2) (eg ∙ same-is m i) ek few (omega arith) (omega arith)))))

  -- ---- where every test passes, so does each coalition: g with some users r below i

  sound : (i k g m r : ℕ) → g ≡ m * 2 ^ i → k ≡ ones g → ones g + ones r ≡ P.limit → r < 2 ^ i → g + 2 ^ i ≤ 2 ^ users_of P → i ≤ users_of P
      → FreeAt g → T (grown P i k g (table_at g)) → Passes P K (g + r)
  unfolding grown
  sound zero k g m r eg ek full l room hi f t =
      let z : r ≡ 0 = omega arith in
      let o : ones r ≡ 0 = omega (arith, ones-le 0 r l) in
      let low : g < 2 ^ users_of P = omega (arith, pow_pos 0) in
      subst (Passes P K) {x = g} {y = g + r} (omega arith)
      (passes_at g low f (then (eqb k P.limit) (is_quiet_at P g (table_at g)) true t (same k P.limit (omega arith))))
  sound (suc i) k g m r eg ek full l room hi f t =
      let low : g < 2 ^ users_of P = omega (arith, pow_pos (suc i)) in
      let p : 2 ^ suc i ≡ 2 ^ i * 2 = pow-suc 2 i in
      by (T-decide (eqb k P.limit))
      (λ s.
      let z : r ≡ 0 = ones_none (suc i) r l (omega (arith, eqb→eq k P.limit s)) in
      subst (Passes P K) {x = g} {y = g + r} (omega arith) (passes_at g low f (then (eqb k P.limit) (is_quiet_at P g (table_at g)) _ t s)))
      (λ n.
      let enough : ¬ (T (ltb (suc i + k) P.limit)) = λ s. absurd (omega (arith, ltb→lt (suc i + k) P.limit s, ones-le (suc i) r l)) in
      let (pivot, rest) = T_and (has_pivot (rows_in P) P.rate i (table_at g)) _
      (else (ltb (suc i + k) P.limit) true _ (else (eqb k P.limit) (is_quiet_at P g (table_at g)) _ t n) enough) in
      let (with-i, without) = T_and (grown P i (k + 1) (g + 2 ^ i) (eliminated P.q (rows_in P) P.rate i (table_at g))) (grown P i k g (table_at g)) rest in
      by (dec_lt r (2 ^ i))
      (λ h. sound i k g (m * 2) r (eg ∙ same-is m i) ek full h (omega arith) (omega arith) f without)
      (λ h.
      let r' : ℕ = r - 2 ^ i in
      let e : 2 ^ i + r' ≡ r = omega arith in
      let o : ones r ≡ 1 + ones r' = ap ones (sym e) ∙ top-ones i r' (omega arith) in
      let one : ones (g + 2 ^ i) ≡ ones g + 1 = ones-next i g m eg room hi in
      subst (Passes P K) {x = g + 2 ^ i + r'} {y = g + r} (omega arith)
      (sound i (k + 1) (g + 2 ^ i) (m * 2 + 1) r' (ap (λ (z : ℕ). z + 2 ^ i) eg ∙ next-is m i) (omega arith) (omega arith)
      (omega arith) (omega arith) (omega arith) (free-next i g m eg room hi pivot f)
      (subst (λ (U : List ℕ). T (grown P i (k + 1) (g + 2 ^ i) U)) (table-next i g m eg room hi) with-i))))

  -- ---- from nobody on

  nobody : table_at 0 ≡ base
  unfolding reduced_by
  nobody = ap (λ (is : List ℕ). reduced_by P.q (rows_in P) P.rate is base) (members-none 16 0)

  -- what `accepts` computes is whether the vet accepts
  pub grown-is : grown P (users_of P) 0 0 (base_table P K) ≡ is_accepted (vet_code P K)
  unfolding ones
  grown-is =
      ap (grown P (users_of P) 0 0) (sym nobody)
      ∙ T-ext (grown P (users_of P) 0 0 (table_at 0)) (is_accepted (vet_code P K))
      (λ t.
      (accepted-iff P K).1
      ((accepted-iff-pass P K others).1
      (λ h m.
      subst (Passes P K) {x = 0 + h} {y = h} (omega arith)
      (sound (users_of P) 0 0 0 h (omega arith) refl (omega (arith, ones-many (users_of P) h m.users, m.full)) m.users (omega arith) (omega arith)
      (nobody-free pool c.prime c.valid 0 (λ i t. subst T (bit-above 0 0 i (lit< tt) (omega arith)) t)) t))))
      (λ t. complete ((accepted-iff P K).0 t) (users_of P) 0 0 0 (omega arith) refl (omega arith) (omega arith) (omega arith))

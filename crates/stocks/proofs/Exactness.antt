-- The stocks that draws leave: just those that the test of a stock passes. To reach one, each pool in turn draws its symbols one by one.
use Prim.Native.Nat.{ℕ, zero, suc, ◌+◌, ◌-◌, ◌≤◌, ◌<◌}
use mathlib.Core.Path.{◌≡◌, refl, sym, ap, ◌∙◌, subst, subst⁻¹}
use mathlib.Core.Logic.{◌↔◌}
use mathlib.Core.Bool.{Bool, true, false, cond}
use mathlib.Core.List.{List, [], ◌∷◌, ◌++◌}
use native.Mathlib.Omega.{arith}
use native.Mathlib.Decide.{ℕ_discrete, dec_lt}
use borrow.Author.Tests.{eq-eqb, lt-ltb, le-ltb}
use lib.Dec.{eqb, ltb}
use lib.ListN.{length, drop, get_or-eq_default}
use Rattle.refusals.specs.declared.Code.{Code}
use Rattle.refusals.specs.Codes.{code, accepted, first_of}
use Rattle.refusals.proofs.CodeLaws.{accepted-takes}
use Rattle.refusals.proofs.Orders.{never-given}
use Rattle.lists.specs.Lists.{at, zeros, tab}
use Rattle.lists.specs.Search.{one_of}
use Rattle.lists.proofs.Searches.{T→true, not-T→false, one_known, one-true}
use Rattle.lists.proofs.ListLaws.{at-tab, length-tab, tab-cong, tab-at, el-zeros, length-zeros}
use Rattle.lists.proofs.Sums.{sum-smaller}
use Rattle.stocks.specs.declared.Stock.{Stock}
use Rattle.stocks.specs.Stocks.{max_pools, reserve_of, limit_of, drawn_of, held_by, Eight, fits, open_code, opened}
use Rattle.stocks.specs.Stocks.{Draw, draw_of, with_drawn, stock_checks, stock_code, run_of, Left}
use Rattle.stocks.specs.Machine.{with_list}
use Rattle.stocks.proofs.Pools.{mine, another}
use Rattle.stocks.proofs.StockLaws.{Good, good, good-fits, held-parts, owed-parts, Passed, answers, grown-at, grown-mine, grown-position, grown-owed}
use Rattle.stocks.proofs.StockLaws.{good-shares, good-opened, shares_fit}
use Rattle.stocks.proofs.Runs.{run-append, run-good, run-pools}

-- a good stock of which less is drawn is good
pub good-fewer : {size : ℕ} (S : Stock) (l m : List ℕ) → Good size (with_list S l) → ((i : ℕ) → i < max_pools → at m i ≤ at l i) → Good size (with_list S m)
good-fewer S l m g h =
    record {
      some = g.some;
      few = g.few;
      reserve-in = g.reserve-in;
      drawn-in = λ i s. omega (arith, h i s, g.drawn-in i s);
      past = g.past;
      held_in =
          omega (
            arith,
            g.held_in,
            sum-smaller S.pools (held_by (with_list S m)) (held_by (with_list S l)) (λ i s. omega (arith, h i (omega (arith, g.few)))),
          );
    }

-- ---- a pool draws its symbols one by one

abbrev one : ℕ → Draw
one p = draw_of p 1 (0 ∷ [])

abbrev pub ones_for : ℕ → ℕ → List Draw
ones_for p zero = []
ones_for p (suc n) = one p ∷ ones_for p n

module _ (stream : List ℕ) (p : ℕ) (from : 1 ≤ p) where
  one_passes : (S : Stock) → p ≤ S.pools → Good (length stream) (with_drawn S p 1) → Passed stream S (one p)
  one_passes S to g =
      record {
        state = good-fewer S (with_drawn S p 1).drawn S.drawn g (λ i h. omega (arith, grown-at S p 1 i h));
        from = from;
        to = to;
        some = omega arith;
        few = omega arith;
        room = refl;
        within = omega (arith, mine-now, g.drawn-in (p - 1) (omega (arith, to, g.few)));
        enough =
            omega (
              arith,
              g.held_in,
              held-parts (with_drawn S p 1),
              owed-parts (with_drawn S p 1) p from to,
              grown-owed S p 1 from to g.few,
              grown-position S p 1 from to g.few,
            );
      }
    where
      mine-now : drawn_of (with_drawn S p 1) (p - 1) ≡ drawn_of S (p - 1) + 1
      mine-now = grown-mine S p 1 from (omega (arith, to, g.few))

  -- what a pool has after L symbols more
  abbrev with : Stock → ℕ → ℕ → ℕ
  with S L i = drawn_of S i + cond (eqb (i + 1) p) L 0

  -- first one symbol, then n more
  grown-twice : (S : Stock) (n : ℕ) → with_drawn (with_drawn S p 1) p n ≡ with_drawn S p (suc n)
  grown-twice S n =
      ap (with_list S)
      (tab-cong max_pools (with (with_drawn S p 1) n) (with S (suc n))
      (λ i h. ap (λ (x : ℕ). x + cond (eqb (i + 1) p) n 0) (at-tab max_pools (with S 1) i h) ∙ plus (eqb (i + 1) p) (drawn_of S i)))
    where
      plus : (b : Bool) (x : ℕ) → x + cond b 1 0 + cond b n 0 ≡ x + cond b (suc n) 0
      plus true x = omega arith
      plus false x = omega arith

  nothing : (b : Bool) (x : ℕ) → x + cond b 0 0 ≡ x
  nothing true x = omega arith
  nothing false x = omega arith

  fewer : (b : Bool) (x n : ℕ) → x + cond b 1 0 ≤ x + cond b (suc n) 0
  fewer true x n = omega arith
  fewer false x n = omega arith

  pub ones-run : (n : ℕ) (S : Stock) → length S.drawn ≡ max_pools → p ≤ S.pools → Good (length stream) (with_drawn S p n)
      → run_of stream S (ones_for p n) ≡ with_drawn S p n
  unfolding run_of
  ones-run zero S eight to g = sym (ap (with_list S) (tab-at max_pools (with S 0) S.drawn eight (λ i h. nothing (eqb (i + 1) p) (drawn_of S i))))
  ones-run (suc n) S eight to g =
      let next : Stock = with_drawn S p 1 in
      let good-next : Good (length stream) next = good-fewer S (with_drawn S p (suc n)).drawn next.drawn g
      (λ i h. omega (arith, grown-at S p 1 i h, grown-at S p (suc n) i h, fewer (eqb (i + 1) p) (drawn_of S i) n)) in
      let good-all : Good (length stream) (with_drawn next p n) = subst⁻¹ (Good (length stream)) (grown-twice S n) g in
      let told = answers stream S (one p) (one_passes S to good-next) in
      ap (λ (R : Stock). run_of stream R (ones_for p n)) (accepted-takes (stock_code stream S (one p)) next S told)
      ∙ ones-run n next (length-tab max_pools (with S 1)) to good-all
      ∙ grown-twice S n

-- ---- pool after pool

abbrev up_to : Stock → ℕ → ℕ → ℕ
up_to S k j = cond (ltb j k) (drawn_of S j) 0

-- the stock S of which only the first k pools have drawn yet
abbrev part : Stock → ℕ → Stock
part S k = with_list S (tab max_pools (up_to S k))

all_for : List ℕ → ℕ → List Draw
all_for drawn zero = []
all_for drawn (suc k) = all_for drawn k ++ ones_for (suc k) (at drawn k)

up-before : (S : Stock) (k j : ℕ) → j < k → up_to S k j ≡ drawn_of S j
up-before S k j h = ap (λ (b : Bool). cond b (drawn_of S j) 0) (lt-ltb j k h)

up-past : (S : Stock) (k j : ℕ) → k ≤ j → up_to S k j ≡ 0
up-past S k j h = ap (λ (b : Bool). cond b (drawn_of S j) 0) (le-ltb j k h)

part-next : (S : Stock) (k : ℕ) → with_drawn (part S k) (suc k) (drawn_of S k) ≡ part S (suc k)
part-next S k =
    ap (with_list S)
    (tab-cong max_pools (λ j. drawn_of (part S k) j + cond (eqb (j + 1) (suc k)) (drawn_of S k) 0) (up_to S (suc k))
    (λ j h. ap (λ (x : ℕ). x + cond (eqb (j + 1) (suc k)) (drawn_of S k) 0) (at-tab max_pools (up_to S k) j h) ∙ go j (ℕ_discrete j k) (dec_lt j k)))
  where
    go : (j : ℕ) → Dec (j ≡ k) → Dec (j < k) → up_to S k j + cond (eqb (j + 1) (suc k)) (drawn_of S k) 0 ≡ up_to S (suc k) j
    go j (yes e) l =
        let own = mine (suc k) j (drawn_of S k) 0 (omega (arith, e)) in
        omega (arith, up-past S k j (omega (arith, e)), up-before S (suc k) j (omega (arith, e)), own, ap (drawn_of S) e)
    go j (no e) (yes l) =
        omega (arith, up-before S k j l, up-before S (suc k) j (omega arith), another (suc k) j (drawn_of S k) 0 (λ w. e (omega (arith, w))))
    go j (no e) (no l) =
        let none = another (suc k) j (drawn_of S k) 0 (λ w. e (omega (arith, w))) in
        omega (arith, up-past S k j (omega (arith, l)), up-past S (suc k) j (omega (arith, l, e)), none)

module _ (stream : List ℕ) (S : Stock) (eight : Eight S) (g : Good (length stream) S) where
  part-good : (k : ℕ) → Good (length stream) (part S k)
  part-good k = good-fewer S S.drawn (tab max_pools (up_to S k)) g (λ j h. omega (arith, at-tab max_pools (up_to S k) j h, some j (dec_lt j k)))
    where
      some : (j : ℕ) → Dec (j < k) → up_to S k j ≤ drawn_of S j
      some j (yes l) = omega (arith, up-before S k j l)
      some j (no l) = omega (arith, up-past S k j (omega (arith, l)))

  reach : (k : ℕ) → k ≤ S.pools → run_of stream (part S 0) (all_for S.drawn k) ≡ part S k
  unfolding run_of all_for
  reach zero h = refl
  reach (suc k) h =
      run-append stream (part S 0) (all_for S.drawn k) (ones_for (suc k) (drawn_of S k))
      ∙ ap (λ (R : Stock). run_of stream R (ones_for (suc k) (drawn_of S k))) (reach k (omega arith))
      ∙ ones-run stream (suc k) (omega arith) (drawn_of S k) (part S k) (length-tab max_pools (up_to S k)) h
      (subst⁻¹ (Good (length stream)) (part-next S k) (part-good (suc k)))
      ∙ part-next S k

  abbrev reserves : List ℕ
  reserves = tab S.pools (reserve_of S)

  abbrev limits : List ℕ
  limits = tab S.pools (limit_of S)

  cut : (f : ℕ → ℕ) (k : ℕ) → (S.pools ≤ k → f k ≡ 0) → Dec (k < S.pools) → at (tab S.pools f) k ≡ f k
  cut f k z (yes l) = at-tab S.pools f k l
  cut f k z (no l) = get_or-eq_default (tab S.pools f) 0 (omega (arith, length-tab S.pools f, l)) ∙ sym (z (omega (arith, l)))

  start : opened S.pools reserves limits ≡ part S 0
  start = λ i. record { pools = S.pools; reserves = same-reserves i; limits = same-limits i; drawn = none i }
    where
      same-reserves : tab max_pools (at reserves) ≡ S.reserves
      same-reserves =
          tab-at max_pools (at reserves) S.reserves eight.reserves
          (λ k h. cut (reserve_of S) k (λ l. omega (arith, g.reserve-in k h, g.past k h l)) (dec_lt k S.pools))

      same-limits : tab max_pools (at limits) ≡ S.limits
      same-limits = tab-at max_pools (at limits) S.limits eight.limits (λ k h. cut (limit_of S) k (g.past k h) (dec_lt k S.pools))

      none : zeros max_pools ≡ tab max_pools (up_to S 0)
      none = sym (tab-at max_pools (up_to S 0) (zeros max_pools) (length-zeros max_pools) (λ k h. up-past S 0 k (omega arith) ∙ sym (el-zeros max_pools k)))

  end : part S S.pools ≡ S
  end = ap (with_list S) (tab-at max_pools (up_to S S.pools) S.drawn eight.drawn (λ k h. go k h (dec_lt k S.pools)))
    where
      go : (k : ℕ) → k < max_pools → Dec (k < S.pools) → up_to S S.pools k ≡ drawn_of S k
      go k h (yes l) = up-before S S.pools k l
      go k h (no l) = omega (arith, up-past S S.pools k (omega (arith, l)), g.drawn-in k h, g.past k h (omega (arith, l)))

  opens-so : accepted ≡ open_code S.pools reserves limits stream
  opens-so =
      let r : length reserves ≡ S.pools = length-tab S.pools (reserve_of S) in
      let l : length limits ≡ S.pools = length-tab S.pools (limit_of S) in
      let opened : Good (length stream) (opened S.pools reserves limits) = subst⁻¹ (Good (length stream)) start (part-good 0) in
      sym
      (simp (
        one-true max_pools S.pools g.some g.few,
        eq-eqb (length reserves) S.pools r,
        eq-eqb (length limits) S.pools l,
        T→true (shares_fit S.pools reserves limits (length stream)) (good-shares S.pools reserves limits g.few r l (length stream) opened),
      ))

  pub good_left : Left stream S
  good_left =
      record {
        reserves = reserves;
        limits = limits;
        draws = all_for S.drawn S.pools;
        opens = opens-so;
        leaves = ap (λ (R : Stock). run_of stream R (all_for S.drawn S.pools)) start ∙ reach S.pools (omega arith) ∙ end;
      }

-- ---- and no others

pub left-good : {stream : List ℕ} {S : Stock} → Left stream S → Good (length stream) S
left-good {stream} {S} l =
    subst (Good (length stream)) l.leaves
    (run-good stream (opened S.pools l.reserves l.limits) l.draws (good-opened S.pools l.reserves l.limits stream l.opens))

-- what draws leave, further draws leave
pub still-left : (stream : List ℕ) (S : Stock) → Left stream S → (draws : List Draw) → Left stream (run_of stream S draws)
still-left stream S l draws =
    let same : (run_of stream S draws).pools ≡ S.pools = run-pools stream S draws in
    record {
      reserves = l.reserves;
      limits = l.limits;
      draws = l.draws ++ draws;
      opens = subst⁻¹ (λ (n : ℕ). accepted ≡ open_code n l.reserves l.limits stream) same l.opens;
      leaves =
          ap (λ (n : ℕ). run_of stream (opened n l.reserves l.limits) (l.draws ++ draws)) same
          ∙ run-append stream (opened S.pools l.reserves l.limits) l.draws draws
          ∙ ap (λ (R : Stock). run_of stream R draws) l.leaves;
    }

pub fits-left : (stream : List ℕ) (S : Stock) → Eight S → one_of max_pools S.pools ≡ true → (fits (length stream) S ≡ true) ↔ Left stream S
fits-left stream S eight counted =
    let (some, few) = one_known max_pools S.pools counted in
    ((λ e. good_left stream S eight (good (length stream) S some few e)), (λ l. good-fits (length stream) S (left-good l)))

-- the number 21, once the pools are counted right
pub refused-21 : (stream : List ℕ) (S : Stock) → Eight S → one_of max_pools S.pools ≡ true → (d : Draw)
    → (stock_code stream S d ≡ code 21) ↔ (¬ (Left stream S))
refused-21 stream S eight counted d = (
  (λ e left. other (ap (λ (c : Code). c.number) (sym (past (good-fits (length stream) S (left-good left))) ∙ e))),
  (λ none.
      let no-fit : fits (length stream) S ≡ false =
      not-T→false (fits (length stream) S) (λ t. none ((fits-left stream S eight counted).0 (T→true (fits (length stream) S) t))) in
      simp (counted, no-fit)),
)
  where
    past : fits (length stream) S ≡ true → stock_code stream S d ≡ first_of (drop 2 (stock_checks stream S d))
    past e = rw (counted, e)

    other : (first_of (drop 2 (stock_checks stream S d))).number ≡ 21 → ⊥
    other e = never-given 21 (drop 2 (stock_checks stream S d)) tt e

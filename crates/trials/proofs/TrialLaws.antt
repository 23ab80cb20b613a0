-- What is drawn in a round on paper, as Trials says it, and that everything about it is good.
use Prim.Native.Nat.{ℕ, suc, ◌+◌, ◌-◌, ◌/◌, ◌%◌, ◌<◌}
use mathlib.Core.Path.{◌≡◌, refl, sym, ap, ◌∙◌, subst}
use mathlib.Core.Bool.{not}
use mathlib.Core.List.{List, [], ◌∷◌}
use native.Mathlib.Nat.{mod-lt, mod-le}
use native.Mathlib.Omega.{arith}
use lib.Dec.{T}
use lib.ListN.{length}
use borrow.Author.Tests.{not-false}
use Rattle.refusals.specs.Codes.{code, accepted, first_of}
use Rattle.refusals.proofs.CodeLaws.{none-holds}
use Rattle.refusals.proofs.Orders.{first-accepts}
use Rattle.lists.specs.Lists.{at, All, tab}
use Rattle.lists.proofs.ListLaws.{at-tab, length-tab, tab-cong}
use Rattle.lists.proofs.Members.{all-at}
use Rattle.lists.proofs.Searches.{T→true}
use Rattle.residues.specs.Primes.{all_below}
use Rattle.residues.proofs.PrimeLaws.{below_at, at-below, prime-true, prime-pos}
use Rattle.plans.specs.declared.Plan.{Plan}
use Rattle.plans.specs.Plans.{users_of, table_checks}
use Rattle.plans.proofs.PlanBounds.{Bounds, bounds-known, some-users}
use Rattle.plans.proofs.TableLaws.{Passed, table-passed}
use Rattle.signed.specs.Caps.{cap_fits}
use Rattle.trials.specs.Generator.{stepped_by, value_of, value_at}
use Rattle.trials.specs.Trials.{source_key, readings, senders, last_sender, state_after, trial_checks}
use Rattle.trials.specs.Drawing.{drawn_of, senders_from, among, Fit, Maskable, Drawn}
use Rattle.trials.proofs.DrawLaws.{stepped-add, value-later, senders-from}
use Rattle.trials.proofs.OrderLaws.{senders-length, senders-all, senders-everyone, among-tab}
use Rattle.trials.proofs.RelayLaws.{all-tab}

value-small : (t : ℕ) → value_of t < 32768
value-small t = mod-lt (t / 65536) (omega arith)

-- values below a bound, also past the end
drawn-below : (b n : ℕ) (f : ℕ → ℕ) → ((k : ℕ) → f k < b) → T (all_below b (tab n f))
drawn-below b n f h =
    at-below b (tab n f) (λ i l. subst (λ (x : ℕ). x < b) (sym (at-tab n f i (omega (arith, length-tab n f)))) (h i))

module _ (P : Plan) (K : List ℕ) (m s : ℕ) where
  abbrev n : ℕ
  n = users_of P

  abbrev read : ℕ
  read = stepped_by n (stepped_by P.rate s)

  -- what the draws give is what Trials says
  pub readings-are : drawn_of (m + 1) (stepped_by P.rate s) n ≡ readings P K m s
  readings-are =
      tab-cong n (λ k. value_at (stepped_by P.rate s) k % (m + 1)) (λ i. value_at s (P.rate + i) % (m + 1))
      (λ k h. ap (λ (v : ℕ). v % (m + 1)) (value-later P.rate s k))

  pub senders-are : senders_from read n (tab n (λ i. i)) ≡ senders P K m s
  senders-are =
      ap (λ (t : ℕ). senders_from t n (tab n (λ i. i))) (stepped-add n P.rate s) ∙ senders-from P K m s n (P.rate + n) (tab n (λ i. i))

  pub state-is : stepped_by n read ≡ state_after P K m s
  state-is = ap (stepped_by n) (stepped-add n P.rate s) ∙ stepped-add n (P.rate + n) s

  pub senders-size : length (senders P K m s) ≡ n
  senders-size = ap length (sym senders-are) ∙ senders-length n read (tab n (λ i. i))

  pub readings-size : length (readings P K m s) ≡ n
  readings-size = length-tab n (λ i. value_at s (P.rate + i) % (m + 1))

  -- a reading is below 32,768, whatever the cap
  pub readings-small : (i : ℕ) → at (readings P K m s) i < 32768
  readings-small i =
      below_at 32768 (readings P K m s) (omega arith)
      (drawn-below 32768 n (λ i. value_at s (P.rate + i) % (m + 1))
      (λ k. omega (arith, mod-le (value_at s (P.rate + k)) (m + 1), value-small (stepped_by (suc (P.rate + k)) s)))) i

  module _ (e : accepted ≡ first_of (trial_checks P K m)) where
    passed : Passed P K
    passed = table-passed P K ((not (cap_fits P m), code 16) ∷ []) tt e

    pub fit : Fit P m
    fit =
        record {
          bounds = passed.bounds;
          prime = prime-true P.q passed.prime;
          cap = not-false (cap_fits P m) (none-holds (trial_checks P K m) tt e).1.1.1.1.0;
        }

    pub known : Bounds P
    known = bounds-known P passed.bounds

    pub maskable : Maskable P K m (source_key P K m s) (readings P K m s)
    maskable =
        record {
          fit = fit;
          table = first-accepts (table_checks P K) ((not (cap_fits P m), code 16) ∷ []) tt e;
          source = length-tab P.rate (λ j. value_at s j % P.q);
          symbols =
              T→true (all_below P.q (source_key P K m s))
              (drawn-below P.q P.rate (λ j. value_at s j % P.q) (λ k. mod-lt (value_at s k) (prime-pos passed.prime)));
          readings = readings-size;
          inside =
              λ i.
              let l : at (readings P K m s) i < m + 1 =
              below_at (m + 1) (readings P K m s) (omega arith)
              (drawn-below (m + 1) n (λ i. value_at s (P.rate + i) % (m + 1)) (λ k. mod-lt (value_at s (P.rate + k)) (omega arith))) i in
              omega arith;
        }

    pub drawn : Drawn P K m (source_key P K m s) (readings P K m s) (senders P K m s)
    drawn =
        let size : length (tab n (λ i. i)) ≡ n = length-tab n (λ i. i) in
        record {
          maskable = maskable;
          few = omega (arith, senders-size, known.counts.few-users);
          users =
              subst (All (λ i. i < n)) senders-are
              (senders-all (λ i. i < n) n read (tab n (λ i. i)) size (all-tab (λ i. i < n) n (λ i. i) (λ k h. h)));
          everyone =
              λ i h.
              subst (λ (l : List ℕ). T (among i l)) senders-are
              (senders-everyone i n read (tab n (λ i. i)) size (among-tab n (λ i. i) i i h refl));
        }

    -- the last sender is one of the users
    pub last-small : last_sender P K m s < n
    last-small =
        all-at (λ i. i < n) (senders P K m s) drawn.users (n - 1) (omega (arith, senders-size, some-users known.counts)) 0

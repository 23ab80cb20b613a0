-- How many pairs the vet looked at: all of an accepted plan, of a leaking one those up to the first that leaks, and none where another check refuses.
use Prim.Native.Nat.{ℕ, suc, ◌+◌, ◌*◌}
use mathlib.Core.Path.{◌≡◌, refl, sym, ap, ◌∙◌}
use mathlib.Core.Logic.{◌≢◌, ⊎_elim}
use mathlib.Core.Bool.{Bool, true, false, cond, not}
use mathlib.Core.List.{List, [], ◌∷◌, ◌++◌, map}
use native.Mathlib.Omega.{arith}
use lib.Dec.{T, eqb}
use lib.ListN.{length}
use Rattle.refusals.specs.declared.Code.{Code}
use Rattle.refusals.specs.Codes.{code, accepted, is_accepted, first_of}
use Rattle.refusals.proofs.CodeLaws.{accepted-takes, old-kept}
use Rattle.refusals.proofs.Orders.{number-accepts, first-decides}
use Rattle.residues.specs.Primes.{is_prime, all_below}
use Rattle.lists.specs.Lists.{All, tab}
use Rattle.lists.proofs.Searches.{T→true, not-T→false}
use Rattle.lists.proofs.Members.{all_map}
use Rattle.secrecy.specs.Leaks.{leaks}
use Rattle.plans.specs.declared.Plan.{Plan}
use Rattle.plans.specs.Plans.{users_of, in_bounds}
use Rattle.vetting.specs.declared.Pair.{Pair}
use Rattle.vetting.specs.Pools.{pool_of}
use Rattle.vetting.specs.Walk.{pairs, InWalk, First}
use Rattle.vetting.specs.Vet.{column_check, column_checks, leak_check, other_checks, vet_code}
use Rattle.vetting.specs.Length.{pair_count, place_in, looked_at}
use Rattle.vetting.proofs.PairLists.{pairs-in, pairs-length}
use Rattle.vetting.proofs.ExactSecrecy.{TestLeaks, LeaksTo, other-numbered, accepted-checked, accepted-quiet, found-iff, quiet-code, search, named}
use Rattle.vetting.proofs.ExactSecrecy.{walk-decides}

-- ---- places in a list

module _ (b : Pair → Bool) where
  place_none : (l : List Pair) → All (λ x. ¬ (T (b x))) l → place_in b l ≡ length l
  unfolding place_in
  place_none [] none = refl
  place_none (x ∷ l) none = rw (not-T→false (b x) none.0) (ap suc (place_none l none.1))

  place-first : (before after : List Pair) (p : Pair) → All (λ x. ¬ (T (b x))) before → T (b p) → place_in b (before ++ (p ∷ after)) ≡ length before + 1
  unfolding place_in
  place-first [] after p none here = rw (T→true (b p) here) refl
  place-first (x ∷ before) after p none here = rw (not-T→false (b x) none.0) (ap suc (place-first before after p none.1 here) ∙ omega arith)

-- ---- no check before the walk has the number 7

columns-apart : (P : Plan) (K : List ℕ) (l : List ℕ) → (first_of (map (column_check P K) l)).number ≡ 7 → ⊥
columns-apart P K [] e = omega arith
columns-apart P K (k ∷ l) e = go (column_check P K k).0 e (columns-apart P K l)
  where
    go : (t : Bool) → (cond t (column_check P K k).1 (first_of (map (column_check P K) l))).number ≡ 7
        → ((first_of (map (column_check P K) l)).number ≡ 7 → ⊥) → ⊥
    go true e ih = omega arith
    go false e ih = ih e

others_apart : (P : Plan) (K : List ℕ) → (first_of (other_checks P K)).number ≡ 7 → ⊥
others_apart P K =
    go (not (in_bounds P)) (not (eqb (length K) (users_of P * P.rate))) (not (is_prime P.q)) (not (all_below P.q K))
  where
    go : (s t u v : Bool)
        → (first_of ((s, code 1) ∷ (t, code 4) ∷ (u, code 2) ∷ (v, code 3) ∷ column_checks P K)).number ≡ 7 → ⊥
    go true t u v e = omega arith
    go false true u v e = omega arith
    go false false true v e = omega arith
    go false false false true e = omega arith
    go false false false false e = columns-apart P K (tab P.rate (λ k. k)) e

-- ---- of a plan and its table

module _ (P : Plan) (K : List ℕ) where
  abbrev walk : List Pair
  walk = pairs P.clusters P.size P.limit

  abbrev leaking : Pair → Bool
  leaking p = leaks (pool_of P K) p.coalition p.observer

  -- where the other checks accept, it is the place that the walk comes to
  looked-place : accepted ≡ first_of (other_checks P K) → looked_at P K ≡ place_in leaking walk
  looked-place e = accepted-takes (first_of (other_checks P K)) (place_in leaking walk) 0 e

  pub accepted-looked : accepted ≡ vet_code P K → looked_at P K ≡ pair_count P.clusters P.size P.limit
  accepted-looked e =
      let others : accepted ≡ first_of (other_checks P K) = accepted-checked P K e in
      looked-place others
      ∙ place_none leaking walk
      (all_map (λ x. InWalk P x.coalition x.observer) (λ x. ¬ (TestLeaks P K x))
      (λ x i t. accepted-quiet P K e x.coalition x.observer i ((found-iff P K others x).0 t)) walk (pairs-in P))
      ∙ pairs-length P.clusters P.size P.limit

  -- 7 comes after the other checks, none of which has that number
  pub leaking-checked : (vet_code P K).number ≡ 7 → accepted ≡ first_of (other_checks P K)
  leaking-checked e = go (is_accepted (first_of (other_checks P K))) refl
    where
      go : (t : Bool) → is_accepted (first_of (other_checks P K)) ≡ t → accepted ≡ first_of (other_checks P K)
      go true n = number-accepts (other_checks P K) (other-numbered P K) n
      go false n =
          let z : (first_of (other_checks P K)).number ≡ 7
          = ap (λ (d : Code). d.number) (first-decides (other_checks P K) (map (leak_check P K) walk) n) ∙ e in
          absurd (others_apart P K z)

  pub leaking-looked : accepted ≡ first_of (other_checks P K) → (p : Pair) (f : First (LeaksTo P K) walk p) → looked_at P K ≡ length f.before + 1
  leaking-looked others p f =
      looked-place others
      ∙ ap (place_in leaking) f.split
      ∙ place-first leaking f.before f.after p
      (all_map (λ x. ¬ (LeaksTo P K x)) (λ x. ¬ (TestLeaks P K x)) (λ x n t. n ((found-iff P K others x).0 t)) f.before f.none)
      ((found-iff P K others p).1 f.here)

  -- a refusal other than 7 comes before the walk
  pub others-looked : (vet_code P K).number ≢ 0 → (vet_code P K).number ≢ 7 → looked_at P K ≡ 0
  others-looked some other = go (is_accepted (first_of (other_checks P K))) refl
    where
      go : (t : Bool) → is_accepted (first_of (other_checks P K)) ≡ t → looked_at P K ≡ 0
      go false n = old-kept (first_of (other_checks P K)) (place_in leaking walk) 0 n
      go true n =
          let others : accepted ≡ first_of (other_checks P K) = number-accepts (other_checks P K) (other-numbered P K) n in
          ⊎_elim
          (λ none. absurd (some (ap (λ (d : Code). d.number) (sym (walk-decides P K others) ∙ quiet-code P K walk none))))
          (λ s.
          let f = s.1 in
          absurd (other (ap (λ (d : Code). d.number) (named P K others s.0 f.before f.after f.split f.none f.here))))
          (search P K walk)

-- Demand 3. What the vet accepts leaks nothing, by the counts of key blocks; and what passes the other checks is refused as leaking exactly where
-- some pair of coalition and observer leaks, and the refusal names the first such pair of the walk. (The vet's verdict is `verdict`, by its promise.)
use mathlib.Core.Path.{◌≡◌, refl, sym, ap, ◌∙◌, subst}
use mathlib.Core.Logic.{◌⊎◌, inl, inr, ⊎_elim, ◌↔◌}
use mathlib.Core.List.{List, [], ◌∷◌, ◌++◌, map}
use Prim.Native.Nat.{ℕ, ◌*◌, ◌≤◌}
use native.Mathlib.Omega.{arith}
use lib.Dec.{T}
use Rattle.refusals.specs.declared.Code.{Code}
use Rattle.refusals.specs.Codes.{accepted, first_of}
use Rattle.refusals.proofs.CodeLaws.{numbered}
use Rattle.residues.specs.Primes.{Prime, all_below}
use Rattle.lists.proofs.Searches.{T-decide, T→true, true→T, not-T→false}
use Rattle.residues.proofs.PrimeLaws.{prime-pos, below_at}
use Rattle.lists.specs.Lists.{All}
use Rattle.matrices.specs.Linear.{Vector}
use Rattle.lists.proofs.Members.{all_map, all_right}
use Rattle.secrecy.specs.Model.{view, ZeroSum}
use Rattle.secrecy.specs.Leaks.{keys_showing, leaks, Symbols, Leak, Agrees, PairLeak}
use Rattle.secrecy.proofs.PairLeaks.{Small, leaks-iff, equal-numbers, small-leak}
use Rattle.plans.specs.declared.Plan.{Plan}
use Rattle.vetting.specs.declared.Pair.{Pair}
use Rattle.plans.specs.Plans.{users_of}
use Rattle.vetting.specs.Pools.{pool_of}
use Rattle.vetting.specs.Walk.{pairs, InWalk, First}
use Rattle.vetting.specs.Vet.{leak_check, other_checks, vet_code, column_checks}
use Rattle.refusals.proofs.Orders.{rest-decides, first-accepts}
use Rattle.plans.proofs.TableLaws.{table-passed}
use Rattle.vetting.proofs.VetLaws.{columns-numbered, columns-passed}
pub use Rattle.vetting.proofs.PairLists.{pairs-in, in_pairs}

-- ---- a plan that passes the other checks

pub record Checked (P : Plan) (K : List ℕ) : Type 0 where
  pub prime : Prime P.q
  pub valid : Vector P.q (users_of P * P.rate) K
  pub zero-sum : ZeroSum (pool_of P K)

pub other-numbered : (P : Plan) (K : List ℕ) → T (numbered (other_checks P K))
other-numbered P K = columns-numbered P K P.rate (λ k. k)

pub checked : (P : Plan) (K : List ℕ) → accepted ≡ first_of (other_checks P K) → Checked P K
checked P K e =
    let p = table-passed P K (column_checks P K) (other-numbered P K) e in
    record {
      prime = p.prime;
      valid = record { size = p.size; small = λ i l. below_at P.q K (prime-pos p.prime) (true→T (all_below P.q K) p.below) i };
      zero-sum = columns-passed P K e;
    }

-- ---- the first of a list that has a property

-- of two properties that hold of the same pairs
pub first-map : {Q Q' : Pair → Type 0} {l : List Pair} {p : Pair} → ((x : Pair) → Q x ↔ Q' x) → First Q l p → First Q' l p
first-map {Q} {Q'} {l} {p} f k =
    record {
      before = k.before;
      after = k.after;
      split = k.split;
      none = all_map (λ x. ¬ (Q x)) (λ x. ¬ (Q' x)) (λ x n q. n ((f x).1 q)) k.before k.none;
      here = (f p).0 k.here;
    }

abbrev leak_code : Pair → Code
leak_code p = record { number = 7; first = p.coalition; second = p.observer }

module _ (P : Plan) (K : List ℕ) where
  abbrev pub TestLeaks : Pair → Type 0
  TestLeaks p = T (leaks (pool_of P K) p.coalition p.observer)

  pub search : (l : List Pair) → All (λ x. ¬ (TestLeaks x)) l ⊎ ((p : Pair) × First TestLeaks l p)
  search [] = inl tt
  search (x ∷ l) = go (T-decide (leaks (pool_of P K) x.coalition x.observer)) (search l)
    where
      go : Dec (TestLeaks x) → All (λ x. ¬ (TestLeaks x)) l ⊎ ((p : Pair) × First TestLeaks l p) → All (λ x. ¬ (TestLeaks x)) (x ∷ l) ⊎
          ((p : Pair) × First TestLeaks (x ∷ l) p)
      go (yes h) s = inr (x, record { before = []; after = l; split = refl; none = tt; here = h })
      go (no n) (inl s) = inl (n, s)
      go (no n) (inr (p, f)) =
          inr (p, record { before = x ∷ f.before; after = f.after; split = ap (λ (y : List Pair). x ∷ y) f.split; none = (n, f.none); here = f.here })

  pub quiet-code : (l : List Pair) → All (λ x. ¬ (TestLeaks x)) l → first_of (map (leak_check P K) l) ≡ accepted
  quiet-code [] h = refl
  quiet-code (x ∷ l) h = rw (not-T→false (leaks (pool_of P K) x.coalition x.observer) h.0) (quiet-code l h.1)

  first_code : (before after : List Pair) (p : Pair) → All (λ x. ¬ (TestLeaks x)) before → TestLeaks p
      → first_of (map (leak_check P K) (before ++ (p ∷ after))) ≡ leak_code p
  first_code [] after p h t = rw (T→true (leaks (pool_of P K) p.coalition p.observer) t) refl
  first_code (x ∷ before) after p h t = rw (not-T→false (leaks (pool_of P K) x.coalition x.observer) h.0) (first_code before after p h.1 t)

-- ---- the theorems

module _ (P : Plan) (K : List ℕ) where
  -- the pair of coalition and observer leaks: document 01's meaning, by counts of key blocks
  abbrev pub LeaksTo : Pair → Type 0
  LeaksTo p = PairLeak (pool_of P K) p.coalition p.observer

  abbrev walk : List Pair
  walk = pairs P.clusters P.size P.limit

  pub accepted-checked : accepted ≡ vet_code P K → accepted ≡ first_of (other_checks P K)
  accepted-checked e = first-accepts (other_checks P K) (map (leak_check P K) walk) (other-numbered P K) e

  pub walk-decides : accepted ≡ first_of (other_checks P K) → first_of (map (leak_check P K) walk) ≡ vet_code P K
  walk-decides o = rest-decides (other_checks P K) (map (leak_check P K) walk) (other-numbered P K) o

  -- an accepted plan: no pair leaks
  pub accepted-quiet : accepted ≡ vet_code P K → (g w : ℕ) → InWalk P g w → ¬ (PairLeak (pool_of P K) g w)
  accepted-quiet e g w i =
      let c : Checked P K = checked P K (accepted-checked e) in
      ⊎_elim
      (λ none k. in_pairs P (λ x. ¬ (TestLeaks P K x)) none g w i ((leaks-iff (pool_of P K) c.prime c.valid g w).1 k))
      (λ s.
      let f = s.1 in
      let z : accepted ≡ leak_code s.0
      = e ∙ sym (walk-decides (accepted-checked e)) ∙ ap (λ (l : List Pair). first_of (map (leak_check P K) l)) f.split ∙ first_code P K f.before f.after
      s.0 f.none f.here in
      let n : ◌≡◌ {A = ℕ} 0 7 = ap (λ (d : Code). d.number) z in
      absurd (omega arith))
      (search P K walk)

  -- (a) "Take any accepted plan, any gang of meters up to its limit, any watcher, which is one gateway or the desk, any block length and any sight. Every
  -- two sets of readings that agree on the gang's members and, where the watcher is the desk, on the total modulo the prime, have the same number of key
  -- blocks that show the watcher that sight in a round." Gang, watcher and sight are coalition, observer and view here.
  pub accepted-equal-numbers : accepted ≡ vet_code P K → (g w : ℕ) → InWalk P g w → (L : ℕ) → 1 ≤ L → L ≤ 64
      → (W W' : List ℕ) → Symbols P.q (users_of P) L W → Symbols P.q (users_of P) L W' → Agrees (pool_of P K) g w L W W'
      → (s : List ℕ) → keys_showing P.q P.rate (view (pool_of P K) g w) L W s ≡ keys_showing P.q P.rate (view (pool_of P K) g w) L W' s
  accepted-equal-numbers e g w i =
      let c : Checked P K = checked P K (accepted-checked e) in
      equal-numbers (pool_of P K) c.prime c.valid g w (accepted-quiet e g w i)

  module _ (others : accepted ≡ first_of (other_checks P K)) where
    c : Checked P K
    c = checked P K others

    pub found-iff : (p : Pair) → TestLeaks P K p ↔ LeaksTo p
    found-iff p = leaks-iff (pool_of P K) c.prime c.valid p.coalition p.observer

    pub named : (p : Pair) (before after : List Pair) → walk ≡ before ++ (p ∷ after) → All (λ x. ¬ (TestLeaks P K x)) before → TestLeaks P K p → vet_code P K
        ≡ leak_code p
    named p before after s n h =
        sym (walk-decides others) ∙ ap (λ (l : List Pair). first_of (map (leak_check P K) l)) s ∙ first_code P K before after p n h

    -- (b) "A plan that passes the other checks is refused as leaking exactly when, for some gang, watcher and block length, some such pair of sets has
    -- unequal numbers for some sight; the refusal names the first gang and watcher for which that is so."
    pub refused-names-first : (p : Pair) → (vet_code P K ≡ record { number = 7; first = p.coalition; second = p.observer }) ↔ First LeaksTo walk p
    refused-names-first p = (
      (λ e.
          ⊎_elim
          (λ none.
          let z : ◌≡◌ {A = ℕ} 0 7 = ap (λ (d : Code). d.number) (sym (quiet-code P K walk none) ∙ walk-decides others ∙ e) in
          absurd (omega arith))
          (λ s.
          let f = s.1 in
          let z : leak_code s.0 ≡ leak_code p = sym (named s.0 f.before f.after f.split f.none f.here) ∙ e in
          let same : s.0 ≡ p = λ i. record { coalition = (z i).first; observer = (z i).second } in
          subst (First LeaksTo walk) same (first-map found-iff f))
          (search P K walk)),
      (λ f. named p f.before f.after f.split
          (all_map (λ x. ¬ (LeaksTo x)) (λ x. ¬ (TestLeaks P K x)) (λ x n k. n ((found-iff x).0 k)) f.before f.none) ((found-iff p).1 f.here)),
    )

    pub refused-iff-leaks : ◌≡◌ {A = ℕ} (vet_code P K).number 7 ↔ ((g : ℕ) × (w : ℕ) × InWalk P g w × PairLeak (pool_of P K) g w)
    refused-iff-leaks = (
      (λ e.
          ⊎_elim
          (λ none.
          let z : ◌≡◌ {A = ℕ} 0 7 = ap (λ (d : Code). d.number) (sym (quiet-code P K walk none) ∙ walk-decides others) ∙ e in
          absurd (omega arith))
          (λ s.
          let f = s.1 in
          let w : All (λ x. InWalk P x.coalition x.observer) (f.before ++ (s.0 ∷ f.after))
          = subst (All (λ x. InWalk P x.coalition x.observer)) f.split (pairs-in P) in (
            s.0.coalition,
            s.0.observer,
            (all_right (λ x. InWalk P x.coalition x.observer) f.before (s.0 ∷ f.after) w).0,
            (found-iff s.0).0 f.here,
          ))
          (search P K walk)),
      (λ k.
          ⊎_elim
          (λ none.
          absurd (in_pairs P (λ x. ¬ (TestLeaks P K x)) none k.0 k.1 k.2 ((found-iff (record { coalition = k.0; observer = k.1 })).1 k.3)))
          (λ s. let f = s.1 in ap (λ (d : Code). d.number) (named s.0 f.before f.after f.split f.none f.here))
          (search P K walk)),
    )

    -- the leak of a pair needs one position, and no other readings than 0, 1 and q - 1
    pub leak-is-small : (g w : ℕ) → PairLeak (pool_of P K) g w
        → Leak P.q P.rate (Small P.q (users_of P)) (Agrees (pool_of P K) g w) (view (pool_of P K) g w)
    leak-is-small = small-leak (pool_of P K) c.prime c.valid c.zero-sum

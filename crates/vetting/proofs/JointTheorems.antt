-- What the vet with a pair of relays claims: which answers come before 19, what an acceptance means, and that with two relays the pair always leaks.
use mathlib.Core.Path.{◌≡◌, refl, sym, ap, ◌∙◌, subst}
use mathlib.Core.Bool.{Bool, true, false, cond, not}
use mathlib.Core.List.{List, ◌∷◌, ◌++◌, append_assoc}
use Prim.Native.Nat.{ℕ, ◌-◌, ◌^◌, ◌≤◌, ◌<◌}
use native.Mathlib.Omega.{arith}
use lib.Dec.{T, eqb, leb}
use lib.Pow.{pow_pos}
use borrow.Author.Tests.{eq-eqb}
use Rattle.refusals.specs.declared.Code.{Code}
use Rattle.refusals.specs.Codes.{code, accepted, is_accepted, first_of, if_accepted}
use Rattle.refusals.proofs.Orders.{first-decides, first-accepts, rest-decides, number-accepts}
use Rattle.lists.specs.Sums.{how_many}
use Rattle.lists.proofs.Sums.{sum-zero}
use Rattle.lists.proofs.BitLaws.{bit-above}
use Rattle.secrecy.specs.Model.{in_coalition, in_either, set_view}
use Rattle.secrecy.specs.Leaks.{longest, keys_showing, Symbols, Agree, JointLeak}
use Rattle.secrecy.proofs.PairLeaks.{joint-equal-numbers, two-clusters-leak}
use Rattle.plans.specs.declared.Plan.{Plan}
use Rattle.plans.specs.Plans.{users_of, table_checks}
use Rattle.vetting.specs.Pools.{pool_of}
use Rattle.vetting.specs.Walk.{pairs}
use Rattle.vetting.specs.Vet.{column_checks, leak_check, vet_checks, vet_code}
use Rattle.vetting.specs.Length.{place_in, looked_at}
use Rattle.vetting.specs.Joint.{relay_pair, relays_fit, joint_checks, checks_before, joint_code, joint_looked}
use Rattle.vetting.proofs.PlanLaws.{vetted, vet-numbered}
use Rattle.vetting.proofs.ExactSecrecy.{checked, accepted-checked}
use Rattle.vetting.proofs.JointLaws.{other-first, vet-other, none-eight, leak_checks, table-refuses, before-parts, joint-iff, joint-named}

module _ (P : Plan) (K : List ℕ) (a b : ℕ) where
  abbrev joint : List (Bool × Code)
  joint = joint_checks P K (relay_pair a b)

  -- a pair that does not fit is told after the table's own checks
  pub wrong-pair : accepted ≡ first_of (table_checks P K) → relays_fit P a b ≡ false → joint_code P K (relay_pair a b) ≡ code 8
  wrong-pair e f =
      sym (rest-decides (table_checks P K) ((not (relays_fit P a b), code 8) ∷ column_checks P K ++ (leak_checks P K ++ joint)) tt e)
      ∙ ap (λ (t : Bool). cond (not t) (code 8) (first_of (column_checks P K ++ (leak_checks P K ++ joint)))) f

  -- one that fits leaves the vet's checks, and then its own
  pub fit_parts : relays_fit P a b ≡ true → joint_code P K (relay_pair a b) ≡ first_of (vet_checks P K ++ joint)
  fit_parts f =
      ap (λ (t : Bool). first_of (table_checks P K ++ ((not t, code 8) ∷ (column_checks P K ++ (leak_checks P K ++ joint))))) f
      ∙ ap (λ (l : List (Bool × Code)). first_of (table_checks P K ++ l)) (sym (append_assoc (column_checks P K) (leak_checks P K) joint))

  abbrev place : ℕ
  place = place_in (λ p. (leak_check P K p).0) (pairs P.clusters P.size P.limit)

  -- and then nothing was looked at
  pub wrong-count : accepted ≡ first_of (table_checks P K) → relays_fit P a b ≡ false → joint_looked P K (relay_pair a b) ≡ 0
  wrong-count e f =
      let before : first_of (checks_before P K (relay_pair a b)) ≡ code 8
      = sym (rest-decides (table_checks P K) ((not (relays_fit P a b), code 8) ∷ column_checks P K) tt e)
      ∙ ap (λ (t : Bool). cond (not t) (code 8) (first_of (column_checks P K))) f in
      ap (λ (c : Code). cond (eqb c.number 19) 0 (if_accepted (first_of (checks_before P K (relay_pair a b))) place 0)) (wrong-pair e f)
      ∙ ap (λ (c : Code). if_accepted c place 0) before

  -- with one that fits, a plan that the vet refuses is answered as before
  pub refused-alone : relays_fit P a b ≡ true → is_accepted (vet_code P K) ≡ false
      → (joint_code P K (relay_pair a b) ≡ vet_code P K) × (joint_looked P K (relay_pair a b) ≡ looked_at P K)
  refused-alone f r =
      let e : joint_code P K (relay_pair a b) ≡ vet_code P K = fit_parts f ∙ sym (first-decides (vet_checks P K) joint r) in (
        e,
        ap (λ (c : Code). cond (eqb c.number 19) 0 (if_accepted (first_of (checks_before P K (relay_pair a b))) place 0)) e
            ∙ ap (λ (t : Bool). cond t 0 (if_accepted (first_of (checks_before P K (relay_pair a b))) place 0)) (vet-other P K)
            ∙ ap (λ (c : Code). if_accepted c place 0) (before-parts P K a b f),
      )

  -- 8 is given to no other
  pub only-wrong-pair : ◌≡◌ {A = ℕ} (joint_code P K (relay_pair a b)).number 8 → (accepted ≡ first_of (table_checks P K)) × (relays_fit P a b ≡ false)
  only-wrong-pair n = table (is_accepted (first_of (table_checks P K))) refl
    where
      apart : (c : Code) → eqb c.number 8 ≡ false → joint_code P K (relay_pair a b) ≡ c → ⊥
      apart c o e = subst T (sym (eq-eqb c.number 8 (ap (λ (d : Code). d.number) (sym e) ∙ n)) ∙ o) tt

      fits : accepted ≡ first_of (table_checks P K) → (t : Bool) → relays_fit P a b ≡ t → (accepted ≡ first_of (table_checks P K)) × (relays_fit P a b ≡ false)
      fits e true f = absurd (apart (first_of (vet_checks P K ++ joint)) (none-eight P K a b) (fit_parts f))
      fits e false f = (e, f)

      table : (t : Bool) → is_accepted (first_of (table_checks P K)) ≡ t → (accepted ≡ first_of (table_checks P K)) × (relays_fit P a b ≡ false)
      table true e = fits (number-accepts (table_checks P K) tt e) (relays_fit P a b) refl
      table false e =
          absurd (apart (first_of (table_checks P K)) (other-first 8 refl (table_checks P K) (refl, (refl, (refl, (refl, tt)))))
          (table-refuses P K (relay_pair a b) e).0)

  -- the pair of an accepted plan fits
  pub accepted-fits : accepted ≡ joint_code P K (relay_pair a b) → relays_fit P a b ≡ true
  accepted-fits e = go (relays_fit P a b) refl
    where
      table : accepted ≡ first_of (table_checks P K)
      table = first-accepts (table_checks P K) ((not (relays_fit P a b), code 8) ∷ column_checks P K ++ (leak_checks P K ++ joint)) tt e

      go : (t : Bool) → relays_fit P a b ≡ t → relays_fit P a b ≡ true
      go true f = f
      go false f =
          let z : ◌≡◌ {A = ℕ} 0 8 = ap (λ (d : Code). d.number) (e ∙ wrong-pair table f) in
          absurd (omega arith)

  pub accepted-vet : accepted ≡ joint_code P K (relay_pair a b) → accepted ≡ vet_code P K
  accepted-vet e = first-accepts (vet_checks P K) joint (vet-numbered P K) (e ∙ fit_parts (accepted-fits e))

  -- and leaks with no coalition
  pub accepted-pair-quiet : accepted ≡ joint_code P K (relay_pair a b) → (g : ℕ) → g < 2 ^ users_of P → how_many (users_of P) (in_coalition g) ≤ P.limit
      → ¬ (JointLeak (pool_of P K) (a - 1) (b - 1) g)
  accepted-pair-quiet e g users few leak =
      let z : ◌≡◌ {A = ℕ} 0 19
      = ap (λ (d : Code). d.number) e ∙ (joint-iff P K a b (accepted-vet e) (accepted-fits e)).1 (g, users, few, leak) in
      absurd (omega arith)

  -- so that readings that agree on the coalition have equal numbers
  pub accepted-pair-equal : accepted ≡ joint_code P K (relay_pair a b) → (g : ℕ) → g < 2 ^ users_of P → how_many (users_of P) (in_coalition g) ≤ P.limit
      → (L : ℕ) → 1 ≤ L → L ≤ longest
      → (W W' : List ℕ) → Symbols P.q (users_of P) L W → Symbols P.q (users_of P) L W' → Agree (pool_of P K) g L W W' → (s : List ℕ)
      → keys_showing P.q P.rate (set_view (pool_of P K) (in_either (pool_of P K) (a - 1) (b - 1)) g) L W s
      ≡ keys_showing P.q P.rate (set_view (pool_of P K) (in_either (pool_of P K) (a - 1) (b - 1)) g) L W' s
  accepted-pair-equal e g users few =
      let c = checked P K (accepted-checked P K (accepted-vet e)) in
      joint-equal-numbers (pool_of P K) c.prime c.valid (a - 1) (b - 1) g (accepted-pair-quiet e g users few)

  pub accepted-count : accepted ≡ joint_code P K (relay_pair a b) → joint_looked P K (relay_pair a b) ≡ looked_at P K
  accepted-count e =
      ap (λ (c : Code). cond (eqb c.number 19) 0 (if_accepted (first_of (checks_before P K (relay_pair a b))) place 0)) (sym e)
      ∙ ap (λ (c : Code). if_accepted c place 0) (before-parts P K a b (accepted-fits e))

  -- 19 comes after all other checks
  pub joint-last : ◌≡◌ {A = ℕ} (joint_code P K (relay_pair a b)).number 19 → (accepted ≡ vet_code P K) × (relays_fit P a b ≡ true)
  joint-last n = table (is_accepted (first_of (table_checks P K))) refl
    where
      -- a code that is also one of another number
      apart : (c : Code) → eqb c.number 19 ≡ false → joint_code P K (relay_pair a b) ≡ c → ⊥
      apart c o e =
          let z : true ≡ false = sym (eq-eqb c.number 19 (ap (λ (d : Code). d.number) (sym e) ∙ n)) ∙ o in
          subst T z tt

      vetted : relays_fit P a b ≡ true → (t : Bool) → is_accepted (vet_code P K) ≡ t → (accepted ≡ vet_code P K) × (relays_fit P a b ≡ true)
      vetted f true e = (number-accepts (vet_checks P K) (vet-numbered P K) e, f)
      vetted f false e = absurd (apart (vet_code P K) (vet-other P K) (fit_parts f ∙ sym (first-decides (vet_checks P K) joint e)))

      fits : accepted ≡ first_of (table_checks P K) → (t : Bool) → relays_fit P a b ≡ t → (accepted ≡ vet_code P K) × (relays_fit P a b ≡ true)
      fits e true f = vetted f (is_accepted (vet_code P K)) refl
      fits e false f = absurd (apart (code 8) refl (wrong-pair e f))

      table : (t : Bool) → is_accepted (first_of (table_checks P K)) ≡ t → (accepted ≡ vet_code P K) × (relays_fit P a b ≡ true)
      table true e = fits (number-accepts (table_checks P K) tt e) (relays_fit P a b) refl
      table false e =
          absurd (apart (first_of (table_checks P K)) (other-first 19 refl (table_checks P K) (refl, (refl, (refl, (refl, tt)))))
          (table-refuses P K (relay_pair a b) e).0)

  pub joint-count : ◌≡◌ {A = ℕ} (joint_code P K (relay_pair a b)).number 19 → joint_looked P K (relay_pair a b) ≡ 0
  joint-count n =
      ap (λ (t : Bool). cond t 0 (if_accepted (first_of (checks_before P K (relay_pair a b))) place 0))
      (eq-eqb (joint_code P K (relay_pair a b)).number 19 n)

-- ---- with two relays

module _ (P : Plan) (K : List ℕ) (two : P.clusters ≡ 2) (e : accepted ≡ vet_code P K) where
  both-fit : relays_fit P 1 2 ≡ true
  both-fit = ap (λ (u : ℕ). leb 2 u) two

  nobody : how_many (users_of P) (in_coalition 0) ≤ P.limit
  unfolding how_many
  nobody =
      let z : how_many (users_of P) (in_coalition 0) ≡ 0
      = sum-zero (users_of P) (λ i. cond (in_coalition 0 i) 1 0) (λ i l. ap (λ (t : Bool). cond t 1 0) (bit-above 0 0 i (pow_pos 0) (omega arith))) in
      omega arith

  pub two-relays : joint_code P K (relay_pair 1 2) ≡ record { number = 19; first = 0; second = 0 }
  two-relays =
      let c = checked P K (accepted-checked P K e) in
      let leak : JointLeak (pool_of P K) 0 1 0
      = two-clusters-leak (pool_of P K) c.prime c.valid c.zero-sum two (vetted P K e).bounds.counts.some_size in
      let n = (joint-iff P K 1 2 e both-fit).1 (0, pow_pos (users_of P), nobody, leak) in
      let w = joint-named P K 1 2 e both-fit n in
      let none : (0 < w.0) → ⊥ = λ l. w.5 0 l nobody leak in
      let z : w.0 ≡ 0 = omega (arith, none) in
      w.1 ∙ ap (λ (h : ℕ). record { number = 19; first = h; second = 0 }) z

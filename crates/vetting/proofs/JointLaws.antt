-- The vet with a pair of relays under one lock. Without a pair it answers as before; with one, a plan that the vet accepts is refused with 19 just where
-- the joint observer of the two leaks, and the refusal names the coalition of least number.
use mathlib.Core.Path.{◌≡◌, refl, sym, ap, ◌∙◌, subst}
use mathlib.Core.Logic.{◌⊎◌, inl, inr, ⊎_elim, ◌↔◌}
use mathlib.Core.Bool.{Bool, true, false, cond, not, ◌&&◌}
use mathlib.Core.List.{List, [], ◌∷◌, ◌++◌, map, map-append, append-nil}
use Prim.Native.Nat.{ℕ, zero, suc, ◌-◌, ◌^◌, ◌≤◌, ◌<◌}
use native.Mathlib.Nat.{not-suc-le-zero, le_of_suc-le-suc, eq-or-lt_of_le, lt-suc_self}
use native.Mathlib.Omega.{arith}
use lib.Dec.{T, eqb, leb, ltb, leb→le, ltb→lt}
use borrow.Author.Tests.{not-false, le-leb}
use Rattle.refusals.specs.declared.Code.{Code}
use Rattle.refusals.specs.Codes.{code, accepted, is_accepted, first_of, if_accepted}
use Rattle.refusals.proofs.CodeLaws.{numbered, none-holds, old-kept}
use Rattle.refusals.proofs.Orders.{numbered-map, first-decides, rest-decides}
use Rattle.lists.specs.Lists.{All, tab, picked, join_to}
use Rattle.lists.specs.Sums.{how_many}
use Rattle.lists.proofs.Members.{all_append}
use Rattle.lists.proofs.Searches.{T_and, true→T, false→not-T}
use Rattle.secrecy.specs.Model.{in_coalition, in_either}
use Rattle.secrecy.specs.Leaks.{leaks, joint_leaks, JointLeak}
use Rattle.secrecy.proofs.PairLeaks.{set-leaks-iff}
use Rattle.plans.specs.declared.Plan.{Plan}
use Rattle.plans.specs.Plans.{users_of, table_checks}
use Rattle.std.specs.Prelude.{Option, Some, None}
use Rattle.vetting.specs.declared.RelayPair.{RelayPair}
use Rattle.vetting.specs.Pools.{pool_of}
use Rattle.vetting.specs.Walk.{pairs}
use Rattle.vetting.specs.Vet.{column_check, column_checks, leak_check, other_checks, vet_checks, vet_code}
use Rattle.vetting.specs.Length.{place_in, looked_at}
use Rattle.vetting.specs.Joint.{relay_pair, coalitions, relays_fit, relay_checks, joint_check, joint_checks, checks_before, joint_code, joint_looked}
use Rattle.vetting.proofs.PairLists.{within}
use Rattle.vetting.proofs.ExactSecrecy.{Checked, checked, other-numbered, accepted-checked, walk-decides}

-- ---- codes of another number than n

module _ (n : ℕ) where
  -- a check with such a code
  abbrev pub OtherNumber : Bool × Code → Type 0
  OtherNumber check = eqb check.1.number n ≡ false

  pub others-map : {A : Type 0} (f : A → Bool × Code) → ((x : A) → OtherNumber (f x)) → (l : List A) → All OtherNumber (map f l)
  others-map f h [] = tt
  others-map f h (x ∷ l) = (h x, others-map f h l)

  -- and the code that such checks give
  pub other-first : eqb 0 n ≡ false → (checks : List (Bool × Code)) → All OtherNumber checks → eqb (first_of checks).number n ≡ false
  other-first some [] h = some
  other-first some (check ∷ checks) h = go check.0 (other-first some checks h.1)
    where
      go : (t : Bool) → eqb (first_of checks).number n ≡ false → eqb (cond t check.1 (first_of checks)).number n ≡ false
      go true ih = h.0
      go false ih = ih

-- ---- the check of the relays

-- it refuses with a number
pub relays-numbered : (P : Plan) (J : Option RelayPair) → T (numbered (relay_checks P J))
relays-numbered P None = tt
relays-numbered P (Some r) = tt

-- relays that fit: the lower first, and both in the plan
pub relays-known : (P : Plan) (a b : ℕ) → relays_fit P a b ≡ true → (1 ≤ a) × (a < b) × (b ≤ P.clusters)
relays-known P a b e =
    let (f, s) = T_and (leb 1 a && ltb a b) (leb b P.clusters) (true→T (relays_fit P a b) e) in
    let (f₁, s₁) = T_and (leb 1 a) (ltb a b) f in
    (leb→le 1 a f₁, ltb→lt a b s₁, leb→le b P.clusters s)

-- ---- the least number that passes two tests

-- 19 names a coalition
abbrev least_code : ℕ → Code
least_code g = record { number = 19; first = g; second = 0 }

module _ (b leaking : ℕ → Bool) where
  -- no number below n passes both
  abbrev NoneBelow : ℕ → Type 0
  NoneBelow n = (h : ℕ) → h < n → T (b h) → ¬ (T (leaking h))

  -- g is the least number below n that passes both
  record Least (n g : ℕ) : Type 0 where
    low : g < n
    few : T (b g)
    here : T (leaking g)
    none : NoneBelow g

  -- the checks on those that b picks, in rising number
  abbrev check : ℕ → Bool × Code
  check g = (leaking g, least_code g)

  abbrev checks_below : ℕ → List (Bool × Code)
  checks_below n = map check (picked n b (λ g. g ∷ []))

  -- the checks refuse nothing, or name the least
  abbrev Searched : ℕ → Type 0
  Searched n = (NoneBelow n × (accepted ≡ first_of (checks_below n))) ⊎ ((g : ℕ) × Least n g × (least_code g ≡ first_of (checks_below n)))

  -- ---- one number more

  abbrev last : ℕ → List (Bool × Code)
  last n = map check (cond (b n) (n ∷ []) [])

  last-after : (n : ℕ) → first_of (checks_below n ++ last n) ≡ first_of (checks_below (suc n))
  unfolding picked join_to
  last-after n = ap first_of (sym (map-append check (picked n b (λ g. g ∷ [])) (cond (b n) (n ∷ []) [])))

  none-next : (n : ℕ) → NoneBelow n → (T (b n) → ¬ (T (leaking n))) → NoneBelow (suc n)
  none-next n none q h l =
      ⊎_elim (λ s. subst (λ (k : ℕ). T (b k) → ¬ (T (leaking k))) (sym s) q) (λ c. none h c) (eq-or-lt_of_le (le_of_suc-le-suc l))

  last_code : (n : ℕ) (s : Bool) → cond s (cond (leaking n) (least_code n) accepted) accepted ≡ first_of (map check (cond s (n ∷ []) []))
  last_code n true = refl
  last_code n false = refl

  next : (n : ℕ) → Searched n → Searched (suc n)
  next n (inr (g, f, e)) =
      inr (
        g,
        record { low = omega (arith, f.low); few = f.few; here = f.here; none = f.none },
        e ∙ first-decides (checks_below n) (last n) (ap is_accepted (sym e)) ∙ last-after n,
      )
  next n (inl (none, e)) =
      go (b n) (leaking n) refl refl
      (last_code n (b n) ∙ rest-decides (checks_below n) (last n) (numbered-map check (λ g. tt) (picked n b (λ g. g ∷ []))) e ∙ last-after n)
    where
      go : (s t : Bool) → b n ≡ s → leaking n ≡ t → cond s (cond t (least_code n) accepted) accepted ≡ first_of (checks_below (suc n)) → Searched (suc n)
      go true true u v d = inr (n, record { low = lt-suc_self n; few = true→T (b n) u; here = true→T (leaking n) v; none = none }, d)
      go true false u v d = inl (none-next n none (λ _. false→not-T (leaking n) v), d)
      go false t u v d = inl (none-next n none (λ x. absurd (false→not-T (b n) u x)), d)

  least : (n : ℕ) → Searched n
  unfolding picked join_to
  least zero = inl ((λ h l. absurd (not-suc-le-zero l)), refl)
  least (suc n) = next n (least n)

-- ---- the vet

module _ (P : Plan) (K : List ℕ) where
  abbrev pub leak_checks : List (Bool × Code)
  leak_checks = map (leak_check P K) (pairs P.clusters P.size P.limit)

  columns-other : (n : ℕ) → eqb 6 n ≡ false → All (OtherNumber n) (column_checks P K)
  columns-other n h = others-map n (column_check P K) (λ k. h) (tab P.rate (λ k. k))

  leaks-other : (n : ℕ) → eqb 7 n ≡ false → All (OtherNumber n) leak_checks
  leaks-other n h = others-map n (leak_check P K) (λ p. h) (pairs P.clusters P.size P.limit)

  -- no code of the vet has the number 19, nor one of the checks before the walk
  pub vet-other : eqb (vet_code P K).number 19 ≡ false
  vet-other =
      other-first 19 refl (vet_checks P K)
      (refl, (refl, (refl, (refl, all_append (OtherNumber 19) (column_checks P K) leak_checks (columns-other 19 refl) (leaks-other 19 refl)))))

  before-other : (J : Option RelayPair) → eqb (first_of (checks_before P K J)).number 19 ≡ false
  before-other None = other-first 19 refl (other_checks P K) (refl, (refl, (refl, (refl, columns-other 19 refl))))
  before-other (Some r) = other-first 19 refl (checks_before P K (Some r)) (refl, (refl, (refl, (refl, (refl, columns-other 19 refl)))))

  -- and no code but that of the relays' own check has the number 8
  pub none-eight : (a b : ℕ) → eqb (first_of (vet_checks P K ++ joint_checks P K (relay_pair a b))).number 8 ≡ false
  none-eight a b =
      let joint : List (Bool × Code) = joint_checks P K (relay_pair a b) in
      let last : All (OtherNumber 8) joint = others-map 8 (joint_check P K a b) (λ g. refl) (coalitions (users_of P) P.limit) in
      other-first 8 refl (vet_checks P K ++ joint) (
        refl,
        (
          refl,
          (
            refl,
            (
              refl,
              all_append (OtherNumber 8) (column_checks P K ++ leak_checks) joint
                  (all_append (OtherNumber 8) (column_checks P K) leak_checks (columns-other 8 refl) (leaks-other 8 refl)) last,
            ),
          ),
        ),
      )

  before-numbered : (J : Option RelayPair) → T (numbered (checks_before P K J))
  before-numbered None = other-numbered P K
  before-numbered (Some r) = other-numbered P K

  same_code : joint_code P K None ≡ vet_code P K
  same_code = ap (λ (l : List (Bool × Code)). first_of (other_checks P K ++ l)) (append-nil leak_checks)

  -- without a pair the answers are those of before, all of them
  pub joint-none : (joint_code P K None ≡ vet_code P K) × (joint_looked P K None ≡ looked_at P K)
  joint-none = (
    same_code,
    ap (λ (t : Bool). cond t 0 (looked_at P K)) (ap (λ (c : Code). eqb c.number 19) same_code ∙ vet-other),
  )

  -- how many pairs are looked at, by the code of the checks before the walk
  abbrev placed : Code → ℕ
  placed d = if_accepted d (place_in (λ p. leaks (pool_of P K) p.coalition p.observer) (pairs P.clusters P.size P.limit)) 0

  module _ (J : Option RelayPair) where
    abbrev before-looked : ℕ
    before-looked = placed (first_of (checks_before P K J))

    -- as many as without a pair
    looked-same : first_of (other_checks P K) ≡ first_of (checks_before P K J) → eqb (joint_code P K J).number 19 ≡ false → looked_at P K ≡ joint_looked P K J
    looked-same e n = ap placed e ∙ ap (λ (t : Bool). cond t 0 before-looked) (sym n)

    -- where the checks before the walk refuse, so does the vet, which then looked at nothing
    pub before-refuses : is_accepted (first_of (checks_before P K J)) ≡ false → (first_of (checks_before P K J) ≡ joint_code P K J) × (0 ≡ joint_looked P K J)
    before-refuses e =
        let same : first_of (checks_before P K J) ≡ joint_code P K J = first-decides (checks_before P K J) (leak_checks ++ joint_checks P K J) e in (
          same,
          sym (old-kept (first_of (checks_before P K J)) _ 0 e)
              ∙ ap (λ (t : Bool). cond t 0 before-looked) (sym (before-other J) ∙ ap (λ (d : Code). eqb d.number 19) same),
        )

    -- so it is with a table that is refused by itself, whatever the pair is
    pub table-refuses : is_accepted (first_of (table_checks P K)) ≡ false → (joint_code P K J ≡ first_of (table_checks P K)) × (joint_looked P K J ≡ 0)
    table-refuses e =
        let same : first_of (table_checks P K) ≡ first_of (checks_before P K J) = first-decides (table_checks P K) (relay_checks P J ++ column_checks P K) e in
        let (code_same, none) = before-refuses (ap is_accepted (sym same) ∙ e) in
        (sym (same ∙ code_same), sym none)

  module _ (a b : ℕ) where
    -- a pair that fits changes nothing before the walk
    pub before-parts : relays_fit P a b ≡ true → first_of (checks_before P K (relay_pair a b)) ≡ first_of (other_checks P K)
    before-parts fit = ap (λ (t : Bool). first_of (table_checks P K ++ ((not t, code 8) ∷ column_checks P K))) fit

    -- and where the checks before the walk accept, the pair fits
    pub before-fits : accepted ≡ first_of (checks_before P K (relay_pair a b)) → relays_fit P a b ≡ true
    before-fits e =
        not-false (relays_fit P a b) (none-holds (checks_before P K (relay_pair a b)) (before-numbered (relay_pair a b)) e).1.1.1.1.0

    abbrev leaking : ℕ → Bool
    leaking g = joint_leaks (pool_of P K) (a - 1) (b - 1) g

    module _ (e : accepted ≡ vet_code P K) (fit : relays_fit P a b ≡ true) where
      others : accepted ≡ first_of (other_checks P K)
      others = accepted-checked P K e

      -- where the vet accepts, the joint observer decides
      pub joint-decides : first_of (joint_checks P K (relay_pair a b)) ≡ joint_code P K (relay_pair a b)
      joint-decides =
          rest-decides leak_checks (joint_checks P K (relay_pair a b)) (numbered-map (leak_check P K) (λ p. tt) (pairs P.clusters P.size P.limit))
          (e ∙ sym (walk-decides P K others))
          ∙ rest-decides (checks_before P K (relay_pair a b)) (leak_checks ++ joint_checks P K (relay_pair a b)) (other-numbered P K) (others ∙ sym (before-parts fit))

      -- it refuses nothing, or names the least coalition with which it leaks
      found : (NoneBelow (within P) leaking (2 ^ users_of P) × (accepted ≡ joint_code P K (relay_pair a b)))
          ⊎ ((g : ℕ) × Least (within P) leaking (2 ^ users_of P) g × (least_code g ≡ joint_code P K (relay_pair a b)))
      unfolding coalitions
      found =
          ⊎_elim (λ s. inl (s.0, s.1 ∙ joint-decides)) (λ s. inr (s.0, s.1, s.2 ∙ joint-decides))
          (least (within P) leaking (2 ^ users_of P))

      -- where it refuses nothing, as many pairs were looked at as before, and otherwise 0
      pub quiet-looked : accepted ≡ first_of (joint_checks P K (relay_pair a b)) → looked_at P K ≡ joint_looked P K (relay_pair a b)
      quiet-looked k = looked-same (relay_pair a b) (sym (before-parts fit)) (ap (λ (d : Code). eqb d.number 19) (sym (k ∙ joint-decides)))

      pub leaking-looked : is_accepted (first_of (joint_checks P K (relay_pair a b))) ≡ false → 0 ≡ joint_looked P K (relay_pair a b)
      leaking-looked k =
          ⊎_elim
          (λ s. absurd (subst T (ap is_accepted (s.1 ∙ sym joint-decides) ∙ k) tt))
          (λ s. ap (λ (d : Code). cond (eqb d.number 19) 0 (before-looked (relay_pair a b))) s.2)
          found

      -- the search finds a leak just where there is one
      leaking-iff : (g : ℕ) → T (leaking g) ↔ JointLeak (pool_of P K) (a - 1) (b - 1) g
      leaking-iff =
          let c : Checked P K = checked P K others in
          set-leaks-iff (pool_of P K) c.prime c.valid (in_either (pool_of P K) (a - 1) (b - 1))

      to-within : (g : ℕ) → how_many (users_of P) (in_coalition g) ≤ P.limit → T (within P g)
      to-within g h = true→T (within P g) (le-leb (how_many (users_of P) (in_coalition g)) P.limit h)

      -- 19 names the coalition of least number with which the pair leaks
      pub joint-named : (joint_code P K (relay_pair a b)).number ≡ 19
          → (g : ℕ)
          × (joint_code P K (relay_pair a b) ≡ record { number = 19; first = g; second = 0 })
          × (g < 2 ^ users_of P)
          × (how_many (users_of P) (in_coalition g) ≤ P.limit)
          × JointLeak (pool_of P K) (a - 1) (b - 1) g
          × ((h : ℕ) → h < g → how_many (users_of P) (in_coalition h) ≤ P.limit → ¬ (JointLeak (pool_of P K) (a - 1) (b - 1) h))
      joint-named n =
          ⊎_elim
          (λ s. let z : ◌≡◌ {A = ℕ} 0 19 = ap (λ (d : Code). d.number) s.1 ∙ n in absurd (omega arith))
          (λ s.
          let f = s.1 in (
            s.0,
            sym s.2,
            f.low,
            leb→le (how_many (users_of P) (in_coalition s.0)) P.limit f.few,
            (leaking-iff s.0).0 f.here,
            (λ h l few k. f.none h l (to-within h few) ((leaking-iff h).1 k)),
          ))
          found

      -- it is given just where the pair leaks with some coalition
      pub joint-iff : ((joint_code P K (relay_pair a b)).number ≡ 19)
          ↔ ((g : ℕ) × (g < 2 ^ users_of P) × (how_many (users_of P) (in_coalition g) ≤ P.limit) × JointLeak (pool_of P K) (a - 1) (b - 1) g)
      joint-iff = (
        (λ n. let w = joint-named n in (w.0, w.2, w.3, w.4)),
        (λ k.
            ⊎_elim
            (λ s. absurd (s.0 k.0 k.1 (to-within k.0 k.2) ((leaking-iff k.0).1 k.3)))
            (λ s. sym (ap (λ (d : Code). d.number) s.2))
            found),
      )

      -- and where the pair leaks with none, the plan is accepted
      pub joint-quiet : ((g : ℕ) → g < 2 ^ users_of P → how_many (users_of P) (in_coalition g) ≤ P.limit → ¬ (JointLeak (pool_of P K) (a - 1) (b - 1) g))
          → accepted ≡ joint_code P K (relay_pair a b)
      joint-quiet quiet =
          ⊎_elim
          (λ s. s.1)
          (λ s.
          absurd
          (quiet s.0 s.1.low (leb→le (how_many (users_of P) (in_coalition s.0)) P.limit s.1.few) ((leaking-iff s.0).0 s.1.here)))
          found

  -- where the checks before the walk accept, so do those of the vet without a pair
  pub before-accepts : (J : Option RelayPair) → accepted ≡ first_of (checks_before P K J) → accepted ≡ first_of (other_checks P K)
  before-accepts None e = e
  before-accepts (Some r) e = e ∙ before-parts r.first r.second (before-fits r.first r.second e)

  -- and a leak that the walk finds is the answer, with or without a pair
  pub walk-refuses : (J : Option RelayPair) → accepted ≡ first_of (checks_before P K J) → is_accepted (vet_code P K) ≡ false
      → (vet_code P K ≡ joint_code P K J) × (looked_at P K ≡ joint_looked P K J)
  walk-refuses J e k =
      let others : accepted ≡ first_of (other_checks P K) = before-accepts J e in
      let walk : first_of leak_checks ≡ vet_code P K = walk-decides P K others in
      let same : vet_code P K ≡ joint_code P K J
      = sym walk ∙ first-decides leak_checks (joint_checks P K J) (ap is_accepted walk ∙ k)
      ∙ rest-decides (checks_before P K J) (leak_checks ++ joint_checks P K J) (before-numbered J) e in
      (same, looked-same J (sym others ∙ e) (ap (λ (d : Code). eqb d.number 19) (sym same) ∙ vet-other))

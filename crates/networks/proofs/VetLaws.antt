-- What the vet's verdict means: it accepts just where no observer leaks, by the counts of source keys, and 7 names the first that does. (The verdict is
-- `first_of (vet_checks ..)`, by the vet's promise.)
use Prim.Native.Nat.{ℕ, zero, suc, ◌+◌, ◌≤◌, ◌<◌}
use mathlib.Core.Path.{◌≡◌, refl, sym, ap, ◌∙◌, subst}
use mathlib.Core.Bool.{Bool, true, false}
use mathlib.Core.Logic.{◌≢◌, ◌⊎◌, inl, inr, ⊎_elim, ◌↔◌}
use mathlib.Core.List.{List, ◌∷◌, map}
use native.Mathlib.Nat.{eq-or-lt_of_le}
use native.Mathlib.Decide.{dec_lt, ℕ_discrete}
use native.Mathlib.Omega.{arith}
use lib.Dec.{T}
use Rattle.refusals.specs.declared.Code.{Code}
use Rattle.refusals.specs.Codes.{accepted, first_of}
use Rattle.refusals.proofs.Orders.{first-accepts, rest-decides, lacks, never-given}
use Rattle.residues.proofs.PrimeLaws.{prime-pos}
use Rattle.lists.specs.Lists.{tab}
use Rattle.lists.proofs.Searches.{true→T, false→not-T}
use Rattle.cyclic.specs.Network.{Network}
use Rattle.cyclic.specs.NetworkLeaks.{ObserverLeak, leaks}
use Rattle.cyclic.proofs.NetworkVerdicts.{leaks-iff}
use Rattle.networks.specs.declared.Ring.{Ring}
use Rattle.networks.specs.Rings.{network_of, leak_checks, network_checks, vet_checks}
use Rattle.networks.specs.Machine.{Ready}
use Rattle.networks.proofs.CheckLaws.{ready-known}

abbrev named : ℕ → Code
named w = record { number = 7; first = 0; second = w }

-- ---- the walk, from relay j + 1 on

module _ (C : Network) where
  -- no observer of the walk leaks
  record Quiet (k j : ℕ) : Type 0 where
    code : first_of (leak_checks C k j) ≡ accepted
    server : leaks C 0 ≡ false
    relays : (v : ℕ) → j < v → v ≤ j + k → leaks C v ≡ false

  -- w leaks, and none before it
  record FirstFrom (k j w : ℕ) : Type 0 where
    code : first_of (leak_checks C k j) ≡ named w
    reached : (w ≡ 0) ⊎ ((j < w) × (w ≤ j + k))
    leaking : leaks C w ≡ true
    before : (v : ℕ) → j < v → v ≤ j + k → (w ≡ 0) ⊎ (v < w) → leaks C v ≡ false

  walk : (k j : ℕ) → Quiet k j ⊎ ((w : ℕ) × FirstFrom k j w)
  walk zero j = go (leaks C 0) refl
    where
      go : (b : Bool) → leaks C 0 ≡ b → Quiet 0 j ⊎ ((w : ℕ) × FirstFrom 0 j w)
      go false e = inl (record { code = rw e; server = e; relays = λ v a b. absurd (omega arith) })
      go true e = inr (0, record { code = rw e; reached = inl refl; leaking = e; before = λ v a b d. absurd (omega arith) })
  walk (suc k) j = go (leaks C (suc j)) refl (walk k (suc j))
    where
      here : leaks C (suc j) ≡ false → (v : ℕ) → j < v → ((suc j < v) → leaks C v ≡ false) → leaks C v ≡ false
      here e v a f = ⊎_elim (λ z. subst (λ (x : ℕ). leaks C x ≡ false) z e) f (eq-or-lt_of_le a)

      go : (b : Bool) → leaks C (suc j) ≡ b → Quiet k (suc j) ⊎ ((w : ℕ) × FirstFrom k (suc j) w) → Quiet (suc k) j ⊎ ((w : ℕ) × FirstFrom (suc k) j w)
      go true e rest =
          inr (
            suc j,
            record {
              code = rw e;
              reached = inr (omega arith, omega arith);
              leaking = e;
              before = λ v a b d. ⊎_elim (λ z. absurd (omega arith)) (λ l. absurd (omega arith)) d;
            },
          )
      go false e (inl q) =
          inl (record { code = rw e q.code; server = q.server; relays = λ v a b. here e v a (λ l. q.relays v l (omega arith)) })
      go false e (inr (w, f)) =
          inr (
            w,
            record {
              code = rw e f.code;
              reached = ⊎_elim inl (λ r. inr (omega (arith, r.0), omega (arith, r.1))) f.reached;
              leaking = f.leaking;
              before = λ v a b d. here e v a (λ l. f.before v l (omega arith) d);
            },
          )

  walk-lacks : (k j : ℕ) → T (lacks 6 (leak_checks C k j))
  walk-lacks zero j = tt
  walk-lacks (suc k) j = walk-lacks k (suc j)

  -- 7 for each of k relays and the server
  walk-numbers : (k j : ℕ) → map (λ check. check.1.number) (leak_checks C k j) ≡ tab (suc k) (λ _. 7)
  unfolding tab
  walk-numbers zero j = refl
  walk-numbers (suc k) j = ap (◌∷◌ 7) (walk-numbers k (suc j))

module _ (R : Ring) (K A : List ℕ) where
  -- the order of the vet: what every entry asks first, and then 7
  pub vet-numbers : map (λ check. check.1.number) (vet_checks R K A) ≡ 1 ∷ 22 ∷ 4 ∷ 2 ∷ 3 ∷ tab (suc R.size) (λ _. 7)
  vet-numbers = ap (λ (walk : List ℕ). 1 ∷ 22 ∷ 4 ∷ 2 ∷ 3 ∷ walk) (walk-numbers (network_of R K A) R.size 0)

  -- 6 is never given
  pub no_six : (first_of (vet_checks R K A)).number ≢ 6
  no_six = never-given 6 (vet_checks R K A) (walk-lacks (network_of R K A) R.size 0)

  -- what the vet accepts passes the other checks
  pub accepted-passes : accepted ≡ first_of (vet_checks R K A) → accepted ≡ first_of (network_checks R K A)
  accepted-passes e = first-accepts (network_checks R K A) (leak_checks (network_of R K A) R.size 0) tt e

  module _ (passed : accepted ≡ first_of (network_checks R K A)) where
    ready : Ready R K A
    ready = ready-known R K A passed

    leak-test : (w : ℕ) → T (leaks (network_of R K A) w) ↔ ObserverLeak (network_of R K A) w
    leak-test = leaks-iff (network_of R K A) (prime-pos ready.prime)

    to-leak : (w : ℕ) → leaks (network_of R K A) w ≡ true → ObserverLeak (network_of R K A) w
    to-leak w e = (leak-test w).0 (true→T (leaks (network_of R K A) w) e)

    no-leak : (w : ℕ) → leaks (network_of R K A) w ≡ false → ¬ (ObserverLeak (network_of R K A) w)
    no-leak w e k = false→not-T (leaks (network_of R K A) w) e ((leak-test w).1 k)

    -- the walk decides
    walked : first_of (leak_checks (network_of R K A) R.size 0) ≡ first_of (vet_checks R K A)
    walked = rest-decides (network_checks R K A) (leak_checks (network_of R K A) R.size 0) tt passed

    quiet : Quiet (network_of R K A) R.size 0 → (w : ℕ) → w ≤ R.size → ¬ (ObserverLeak (network_of R K A) w)
    quiet q zero l = no-leak zero q.server
    quiet q (suc j) l = no-leak (suc j) (q.relays (suc j) (omega arith) (omega arith))

    -- an accepted network leaks to no observer
    pub accepted-quiet : accepted ≡ first_of (vet_checks R K A) → (w : ℕ) → w ≤ R.size → ¬ (ObserverLeak (network_of R K A) w)
    accepted-quiet e =
        ⊎_elim quiet (λ x. absurd (omega (arith, ap (λ (c : Code). c.number) (e ∙ sym walked ∙ x.1.code)))) (walk (network_of R K A) R.size 0)

    -- 7 just where some observer leaks
    pub refused-iff : ◌≡◌ {A = ℕ} (first_of (vet_checks R K A)).number 7 ↔ ((w : ℕ) × (w ≤ R.size) × ObserverLeak (network_of R K A) w)
    refused-iff = go (walk (network_of R K A) R.size 0)
      where
        go : Quiet (network_of R K A) R.size 0 ⊎ ((w : ℕ) × FirstFrom (network_of R K A) R.size 0 w)
            → ◌≡◌ {A = ℕ} (first_of (vet_checks R K A)).number 7 ↔ ((w : ℕ) × (w ≤ R.size) × ObserverLeak (network_of R K A) w)
        go (inl q) = (
          (λ n. absurd (omega (arith, n, ap (λ (c : Code). c.number) (sym walked ∙ q.code)))),
          (λ x. absurd (quiet q x.0 x.1 x.2)),
        )
        go (inr (w, f)) = (
          (λ n. (w, ⊎_elim (λ z. omega arith) (λ r. omega (arith, r.1)) f.reached, to-leak w f.leaking)),
          (λ x. ap (λ (c : Code). c.number) (sym walked ∙ f.code)),
        )

    -- and it names the first
    pub named-first : (w : ℕ) → first_of (vet_checks R K A) ≡ named w
        → (w ≤ R.size) × ObserverLeak (network_of R K A) w
        × ((v : ℕ) → 1 ≤ v → v ≤ R.size → (w ≡ 0) ⊎ (v < w) → ¬ (ObserverLeak (network_of R K A) v))
    named-first w e = go (walk (network_of R K A) R.size 0)
      where
        go : Quiet (network_of R K A) R.size 0 ⊎ ((w : ℕ) × FirstFrom (network_of R K A) R.size 0 w) → (w ≤ R.size) × ObserverLeak (network_of R K A) w
            × ((v : ℕ) → 1 ≤ v → v ≤ R.size → (w ≡ 0) ⊎ (v < w) → ¬ (ObserverLeak (network_of R K A) v))
        go (inl q) = absurd (omega (arith, ap (λ (c : Code). c.number) (sym e ∙ sym walked ∙ q.code)))
        go (inr (x, f)) =
            let z : x ≡ w = ap (λ (c : Code). c.second) (sym f.code ∙ walked ∙ e) in (
              ⊎_elim (λ y. omega arith) (λ r. omega (arith, r.1)) f.reached,
              subst (ObserverLeak (network_of R K A)) z (to-leak x f.leaking),
              (λ v a b d. no-leak v (f.before v (omega arith) (omega arith) (subst (λ (y : ℕ). (y ≡ 0) ⊎ (v < y)) (sym z) d))),
            )

    -- the first that leaks is named
    pub first-named : (w : ℕ) → w ≤ R.size → ObserverLeak (network_of R K A) w
        → ((v : ℕ) → 1 ≤ v → v ≤ R.size → (w ≡ 0) ⊎ (v < w) → ¬ (ObserverLeak (network_of R K A) v)) → first_of (vet_checks R K A) ≡ named w
    first-named w h leak none = go (walk (network_of R K A) R.size 0)
      where
        go : Quiet (network_of R K A) R.size 0 ⊎ ((w : ℕ) × FirstFrom (network_of R K A) R.size 0 w) → first_of (vet_checks R K A) ≡ named w
        go (inl q) = absurd (quiet q w h leak)
        go (inr (x, f)) = sym walked ∙ f.code ∙ ap named (same (ℕ_discrete x 0) (ℕ_discrete w 0) (dec_lt x w) (dec_lt w x))
          where
            there : x ≢ 0 → x ≤ R.size
            there n = ⊎_elim (λ z. absurd (n z)) (λ r. omega (arith, r.1)) f.reached

            same : Dec (x ≡ 0) → Dec (w ≡ 0) → Dec (x < w) → Dec (w < x) → x ≡ w
            same (yes a) (yes b) c d = omega arith
            same (yes a) (no b) c d = absurd (no-leak w (f.before w (omega arith) (omega arith) (inl a)) leak)
            same (no a) (yes b) c d = absurd (none x (omega arith) (there a) (inl b) (to-leak x f.leaking))
            same (no a) (no b) (yes c) d = absurd (none x (omega arith) (there a) (inr c) (to-leak x f.leaking))
            same (no a) (no b) (no c) (yes d) = absurd (no-leak w (f.before w (omega arith) (omega arith) (inr d)) leak)
            same (no a) (no b) (no c) (no d) = omega arith

-- When a pair of coalition and observer leaks among the readings inside a cap: as a leak is among all symbols (secrecy, Leaks), but for sets of signed
-- readings, which travel as symbols.
use Rattle.std.specs.Prelude.{ℕ, zero, suc, ◌*◌, ◌≤◌, ◌<◌, ◌≡◌, ◌≢◌, List, T, ℤ, length}
use Rattle.secrecy.specs.Model.{Pool, users, in_coalition, in_either, set_view, view, total}
use Rattle.secrecy.specs.Leaks.{longest, keys_showing}
use Rattle.signed.specs.Numbers.{travelling, signed_reading}
use Rattle.signed.specs.Caps.{all_in_cap}

module _ (P : Pool) where
  -- two sets of signed readings agree on the coalition's members; and, for the server, on the total modulo the prime
  pub record SignedAgree (g L : ℕ) (R R' : List ℤ) : Type 0 where
    pub members : (i p : ℕ) → i < users P → T (in_coalition g i) → p < L → signed_reading L R i p ≡ signed_reading L R' i p

  pub record SignedServerAgree (g L : ℕ) (R R' : List ℤ) : Type 0 where
    pub coalition : SignedAgree g L R R'
    pub totals : (p : ℕ) → p < L → total P L (travelling P.q R) p ≡ total P L (travelling P.q R') p

  abbrev pub SignedAgrees : ℕ → ℕ → ℕ → List ℤ → List ℤ → Type 0
  SignedAgrees g zero = SignedServerAgree g
  SignedAgrees g (suc u) = SignedAgree g

  -- L signed readings for each user, all inside the cap m
  pub record Capped (m L : ℕ) (R : List ℤ) : Type 0 where
    pub size : length R ≡ users P * L
    pub inside : T (all_in_cap m R)

  -- among all source keys, how many show s under the signed readings R
  abbrev pub signed_showing : (ℕ → List ℕ → List ℕ → List ℕ) → ℕ → List ℤ → List ℕ → ℕ
  signed_showing see L R s = keys_showing P.q P.rate see L (travelling P.q R) s

  -- two sets of signed readings inside the cap that agree, and a view with unequal numbers
  pub record SignedLeak (m : ℕ) (agrees : ℕ → List ℤ → List ℤ → Type 0) (see : ℕ → List ℕ → List ℕ → List ℕ) : Type 0 where
    pub L : ℕ
    pub low : 1 ≤ L
    pub high : L ≤ longest
    pub R : List ℤ
    pub R' : List ℤ
    pub R-in : Capped m L R
    pub R'-in : Capped m L R'
    pub same : agrees L R R'
    pub s : List ℕ
    pub unequal : signed_showing see L R s ≢ signed_showing see L R' s

  -- the pair of coalition g and observer w; and the joint observer of clusters u and w with coalition g
  abbrev pub SignedPairLeak : ℕ → ℕ → ℕ → Type 0
  SignedPairLeak m g w = SignedLeak m (SignedAgrees g w) (view P g w)

  abbrev pub SignedJointLeak : ℕ → ℕ → ℕ → ℕ → Type 0
  SignedJointLeak m u w g = SignedLeak m (SignedAgree g) (set_view P (in_either P u w) g)

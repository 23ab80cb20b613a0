-- What is known once the checks have passed.
use Prim.Native.Nat.{ℕ, suc, ◌+◌, ◌-◌, ◌*◌, ◌/◌, ◌^◌, ◌≤◌, ◌<◌}
use mathlib.Core.Path.{◌≡◌, sym, ap, ◌∙◌}
use mathlib.Core.Bool.{Bool, true, false, cond, not, ◌&&◌}
use mathlib.Core.List.{List, [], ◌∷◌, ◌++◌}
use native.Mathlib.Omega.{arith}
use lib.Dec.{T, leb, ltb, eqb, leb→le, ltb→lt, eqb→eq}
use lib.ListN.{length}
use borrow.Author.Tests.{not-false}
use Rattle.refusals.specs.declared.Code.{Code}
use Rattle.refusals.specs.Codes.{code, accepted, first_of}
use Rattle.refusals.proofs.CodeLaws.{NoneHolds, none-holds}
use Rattle.refusals.proofs.Orders.{first-accepts, rest-decides}
use Rattle.residues.specs.Primes.{is_prime, all_below}
use Rattle.residues.proofs.PrimeLaws.{prime-pos, true-prime}
use Rattle.lists.proofs.Searches.{T_and, true→T}
use Rattle.cyclic.specs.Network.{Network, link_of, linked}
use Rattle.cyclic.specs.NetworkLeaks.{leaks}
use Rattle.networks.specs.Rings.{network_of, counts_fit, pattern_fits, table_fits, weights_fit, count_checks, symbol_checks}
use Rattle.networks.specs.Rings.{network_checks, leak_at, leak_checks}
use Rattle.networks.specs.Rings.{upload_checks, sum_checks, arrived_below, lent_fits, lent_below, arrival_checks}
use Rattle.networks.specs.Machine.{Counted, Ready}
use Rattle.networks.specs.declared.Ring.{Ring}

pub counted-known : (R : Ring) → accepted ≡ first_of (count_checks R) → Counted R
counted-known R e =
    let n : NoneHolds (count_checks R) = none-holds (count_checks R) tt e in
    let c : T (counts_fit R) = true→T (counts_fit R) (not-false (counts_fit R) n.0) in
    let p : T (pattern_fits R) = true→T (pattern_fits R) (not-false (pattern_fits R) n.1.0) in
    let (c₂, f) = T_and (leb 2 R.size && leb R.size 8 && leb 1 R.rate) (leb R.rate 16) c in
    let (c₁, d) = T_and (leb 2 R.size && leb R.size 8) (leb 1 R.rate) c₂ in
    let (a, b) = T_and (leb 2 R.size) (leb R.size 8) c₁ in
    let (p₂, k) = T_and (leb 1 R.links && leb R.links R.size && leb 1 R.parts) (leb R.parts 4) p in
    let (p₁, i) = T_and (leb 1 R.links && leb R.links R.size) (leb 1 R.parts) p₂ in
    let (g, h) = T_and (leb 1 R.links) (leb R.links R.size) p₁ in
    record {
      size_low = leb→le 2 R.size a;
      size-high = leb→le R.size 8 b;
      rate-low = leb→le 1 R.rate d;
      rate-high = leb→le R.rate 16 f;
      links-low = leb→le 1 R.links g;
      links-high = leb→le R.links R.size h;
      parts_low = leb→le 1 R.parts i;
      parts-high = leb→le R.parts 4 k;
    }

-- the symbol checks
pub record Passed (q : ℕ) (lengths below : Bool) : Type 0 where
  pub long : T lengths
  pub prime : is_prime q ≡ true
  pub symbols : T below

pub passed-known : (q : ℕ) (lengths below : Bool) → accepted ≡ first_of (symbol_checks q lengths below) → Passed q lengths below
passed-known q lengths below e =
    let n : NoneHolds (symbol_checks q lengths below) = none-holds (symbol_checks q lengths below) tt e in
    record {
      long = true→T lengths (not-false lengths n.0);
      prime = not-false (is_prime q) n.1.0;
      symbols = true→T below (not-false below n.1.1.0);
    }

-- both lists of checks
pub both-known : (R : Ring) (lengths below : Bool) → accepted ≡ first_of (count_checks R ++ symbol_checks R.q lengths below)
    → Counted R × Passed R.q lengths below
both-known R lengths below e =
    let first : accepted ≡ first_of (count_checks R) = first-accepts (count_checks R) (symbol_checks R.q lengths below) tt e in
    (counted-known R first, passed-known R.q lengths below (e ∙ sym (rest-decides (count_checks R) (symbol_checks R.q lengths below) tt first)))

pub ready-known : (R : Ring) (K A : List ℕ) → accepted ≡ first_of (network_checks R K A) → Ready R K A
ready-known R K A e =
    let (c, p) = both-known R (table_fits R K && weights_fit R A) (all_below R.q K && all_below R.q A) e in
    let (t, w) = T_and (table_fits R K) (weights_fit R A) p.long in
    let (u, v) = T_and (all_below R.q K) (all_below R.q A) p.symbols in
    record {
      counted = c;
      prime = true-prime R.q p.prime;
      table = eqb→eq (length K) (R.size * R.rate) t;
      weights = eqb→eq (length A) (R.size * R.links * (R.parts + 1)) w;
      table_below = u;
      weights-below = v;
    }

-- ---- the walk: the observers that are left decide, where those before do not leak

module _ (C : Network) where
  -- an observer that is not refused does not leak
  pub not-leaking : (w : ℕ) → accepted ≡ first_of (leak_at C w ∷ []) → leaks C w ≡ false
  not-leaking w e = (none-holds (leak_at C w ∷ []) tt e).0

  pub walk-next : (k j : ℕ) (c : Code) → leaks C (j + 1) ≡ false → first_of (leak_checks C (suc k) j) ≡ c → first_of (leak_checks C k (j + 1)) ≡ c
  walk-next k j c e h =
      let z : suc j ≡ j + 1 = omega arith in
      ap (λ (i : ℕ). first_of (leak_checks C k i)) (sym z)
      ∙ sym (ap (λ (b : Bool). cond b (record { number = 7; first = 0; second = suc j }) (first_of (leak_checks C k (suc j)))) (ap (leaks C) z ∙ e))
      ∙ h

  pub walk-found : (k j : ℕ) (c : Code) → leaks C (j + 1) ≡ true → first_of (leak_checks C (suc k) j) ≡ c → record { number = 7; first = 0; second = j + 1 } ≡ c
  walk-found k j c e h =
      let z : suc j ≡ j + 1 = omega arith in
      ap (λ (i : ℕ). record { number = 7; first = 0; second = i }) (sym z)
      ∙ sym (ap (λ (b : Bool). cond b (record { number = 7; first = 0; second = suc j }) (first_of (leak_checks C k (suc j)))) (ap (leaks C) z ∙ e))
      ∙ h

-- ---- two tests

pub both-no : (a b : Bool) → a ≡ false → false ≡ (a && b)
both-no a b e = rw e

pub both_yes : (a b c : Bool) → a ≡ true → c ≡ b → c ≡ (a && b)
both_yes a b c e f = rw e f

-- ---- an upload and a sum that nothing refuses

pub record UploadReady (R : Ring) (A : List ℕ) (k j : ℕ) (w : List ℕ) : Type 0 where
  pub counted : Counted R
  pub some : 0 < R.q
  pub weights : length A ≡ R.size * R.links * (R.parts + 1)
  pub reading : length w ≡ R.parts
  pub user-low : 1 ≤ k
  pub user-high : k ≤ R.size
  pub relay-low : 1 ≤ j
  pub relay-high : j ≤ R.size
  pub link : link_of (network_of R [] []) (k - 1) (j - 1) < R.links

pub upload-known : (R : Ring) (A : List ℕ) (k j : ℕ) (w : List ℕ) (x : ℕ) → accepted ≡ first_of (upload_checks R A k j w x) → UploadReady R A k j w
unfolding linked
upload-known R A k j w x e =
    let lengths : Bool = weights_fit R A && eqb (length w) R.parts in
    let below : Bool = all_below R.q A && all_below R.q w && ltb x R.q in
    let there : Bool = leb 1 k && leb k R.size && leb 1 j && leb j R.size && linked (network_of R [] []) (k - 1) (j - 1) in
    let first : accepted ≡ first_of (count_checks R ++ symbol_checks R.q lengths below)
    = first-accepts (count_checks R ++ symbol_checks R.q lengths below) ((not there, code 8) ∷ []) tt e in
    let last : accepted ≡ first_of ((not there, code 8) ∷ [])
    = e ∙ sym (rest-decides (count_checks R ++ symbol_checks R.q lengths below) ((not there, code 8) ∷ []) tt first) in
    let n : NoneHolds ((not there, code 8) ∷ []) = none-holds ((not there, code 8) ∷ []) tt last in
    let t : T there = true→T there (not-false there n.0) in
    let (c, p) = both-known R lengths below first in
    let (wf, rf) = T_and (weights_fit R A) (eqb (length w) R.parts) p.long in
    let (t₃, l) = T_and (leb 1 k && leb k R.size && leb 1 j && leb j R.size) (linked (network_of R [] []) (k - 1) (j - 1)) t in
    let (t₂, jh) = T_and (leb 1 k && leb k R.size && leb 1 j) (leb j R.size) t₃ in
    let (t₁, jl) = T_and (leb 1 k && leb k R.size) (leb 1 j) t₂ in
    let (kl, kh) = T_and (leb 1 k) (leb k R.size) t₁ in
    record {
      counted = c;
      some = prime-pos (true-prime R.q p.prime);
      weights = eqb→eq (length A) (R.size * R.links * (R.parts + 1)) wf;
      reading = eqb→eq (length w) R.parts rf;
      user-low = leb→le 1 k kl;
      user-high = leb→le k R.size kh;
      relay-low = leb→le 1 j jl;
      relay-high = leb→le j R.size jh;
      link = ltb→lt (link_of (network_of R [] []) (k - 1) (j - 1)) R.links l;
    }

pub sum-known : (R : Ring) (U : List ℕ) → accepted ≡ first_of (sum_checks R U) → (0 < R.q) × (length U ≡ R.links)
sum-known R U e =
    let (c, p) = both-known R (eqb (length U) R.links) (all_below R.q U) e in
    (prime-pos (true-prime R.q p.prime), eqb→eq (length U) R.links p.long)

-- ---- decoding that nothing before 23 refuses

pub record DecodeReady (R : Ring) (K A : List ℕ) (reported : ℕ) (Y out : List ℕ) : Type 0 where
  pub ready : Ready R K A
  pub many : length Y ≡ R.size
  pub below : T (arrived_below R.q R.size reported Y)
  pub room : length out ≡ R.parts

-- K sums, where the lengths are right
pub sums-many : (R : Ring) (K A Y out : List ℕ) → T (lent_fits R K A Y out) → length Y ≡ R.size
sums-many R K A Y out t =
    let (t₁, _) = T_and (table_fits R K && weights_fit R A && eqb (length Y) R.size) (eqb (length out) R.parts) t in
    let (_, y) = T_and (table_fits R K && weights_fit R A) (eqb (length Y) R.size) t₁ in
    eqb→eq (length Y) R.size y

pub arrivals-known : (R : Ring) (K A : List ℕ) (reported : ℕ) (Y out : List ℕ) → accepted ≡ first_of (arrival_checks R K A reported Y out)
    → DecodeReady R K A reported Y out
arrivals-known R K A reported Y out e =
    let last : List (Bool × Code) = (not (eqb (reported / 2 ^ R.size) 0), code 8) ∷ [] in
    let first : accepted ≡ first_of (count_checks R ++ symbol_checks R.q (lent_fits R K A Y out) (lent_below R K A reported Y))
    = first-accepts (count_checks R ++ symbol_checks R.q (lent_fits R K A Y out) (lent_below R K A reported Y)) last tt e in
    let (c, p) = both-known R (lent_fits R K A Y out) (lent_below R K A reported Y) first in
    let (t₁, o) = T_and (table_fits R K && weights_fit R A && eqb (length Y) R.size) (eqb (length out) R.parts) p.long in
    let (t₂, y) = T_and (table_fits R K && weights_fit R A) (eqb (length Y) R.size) t₁ in
    let (t, w) = T_and (table_fits R K) (weights_fit R A) t₂ in
    let (u₁, b) = T_and (all_below R.q K && all_below R.q A) (arrived_below R.q R.size reported Y) p.symbols in
    let (u, v) = T_and (all_below R.q K) (all_below R.q A) u₁ in
    record {
      ready =
          record {
            counted = c;
            prime = true-prime R.q p.prime;
            table = eqb→eq (length K) (R.size * R.rate) t;
            weights = eqb→eq (length A) (R.size * R.links * (R.parts + 1)) w;
            table_below = u;
            weights-below = v;
          };
      many = eqb→eq (length Y) R.size y;
      below = b;
      room = eqb→eq (length out) R.parts o;
    }

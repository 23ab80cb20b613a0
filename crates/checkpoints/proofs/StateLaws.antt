-- What is known of a relay's state that passed its checks.
use Prim.Native.Nat.{ℕ, ◌+◌, ◌-◌, ◌≤◌}
use mathlib.Core.Path.{◌≡◌, refl, sym, ap, ap₂, ◌∙◌}
use mathlib.Core.Bool.{Bool, true, not, ◌&&◌}
use mathlib.Core.List.{List, [], ◌∷◌, ◌++◌}
use native.Mathlib.Omega.{arith}
use lib.Dec.{T, leb, ltb, leb→le}
use lib.ListN.{length, take, drop, length-drop, take-append-drop}
use borrow.Author.Tests.{not-false, ltb-true, leb-true}
use Rattle.lists.specs.Lists.{zeros}
use Rattle.lists.proofs.Searches.{T→true, true→T, T_and}
use Rattle.refusals.specs.Codes.{code, accepted, first_of}
use Rattle.refusals.proofs.CodeLaws.{none-holds}
use Rattle.refusals.proofs.Orders.{first-accepts}
use Rattle.residues.specs.Primes.{is_prime, all_below}
use Rattle.plans.specs.Plans.{counts_fit, length_fits, max_length}
use Rattle.plans.proofs.PlanBounds.{Counts, counts-known, length-known}
use Rattle.rounds.specs.declared.RelayRound.{RelayRound}
use Rattle.rounds.specs.Rounds.{sums_fit}
use Rattle.rounds.specs.Relays.{relay_known, relay_checks}
use Rattle.checkpoints.specs.Checkpoints.{save_size, save_checks, save_code}

pub record Passed (R : RelayRound) : Type 0 where
  pub fit : counts_fit R.round.clusters R.round.size 0 ≡ true
  pub prime : is_prime R.round.q ≡ true
  pub long : length_fits R.round.length ≡ true
  pub known : relay_known R ≡ true
  pub first-sums : sums_fit R.round.q R.round.length R.round.sums ≡ true
  pub held-sums : sums_fit R.round.q R.round.length R.ahead.sums ≡ true

pub passed : (R : RelayRound) → accepted ≡ first_of (relay_checks R) → Passed R
passed R e =
    let w = none-holds (relay_checks R) tt e in
    let one : Bool = sums_fit R.round.q R.round.length R.round.sums in
    let two : Bool = sums_fit R.round.q R.round.length R.ahead.sums in
    let (first, second) = T_and one two (true→T (one && two) (not-false (one && two) w.1.1.1.1.1.0)) in
    record {
      fit = not-false (counts_fit R.round.clusters R.round.size 0) w.0;
      prime = not-false (is_prime R.round.q) w.1.0;
      long = not-false (length_fits R.round.length) w.1.1.0;
      known = not-false (relay_known R) w.1.1.1.0;
      first-sums = T→true one first;
      held-sums = T→true two second;
    }

module _ (R : RelayRound) (p : Passed R) where
  pub counts : Counts R.round.clusters R.round.size 0
  counts = counts-known R.round.clusters R.round.size 0 p.fit

  pub few-length : R.round.length ≤ 64
  few-length = (length-known R.round.length p.long).1

  pub few-cluster : R.cluster ≤ R.round.clusters
  few-cluster = leb→le R.cluster R.round.clusters (T_and (leb 1 R.cluster) (leb R.cluster R.round.clusters) (true→T (relay_known R) p.known)).1

-- sums past position L are 0, so that the first L of 64 say all
none_below : (l : List ℕ) → T (all_below 1 l) → l ≡ zeros (length l)
unfolding all_below
none_below [] t = refl
none_below (x ∷ l) t =
    let (here, rest) = T_and (ltb x 1) (all_below 1 l) t in
    ap₂ (λ (y : ℕ) (m : List ℕ). y ∷ m) (omega (arith, ltb-true x 1 (T→true (ltb x 1) here))) (none_below l rest)

pub sums-said : (q L : ℕ) (sums : List ℕ) → length sums ≡ max_length → sums_fit q L sums ≡ true → take L sums ++ zeros (max_length - L) ≡ sums
sums-said q L sums long e =
    let (low, high) = T_and (all_below q (take L sums)) (all_below 1 (drop L sums)) (true→T (sums_fit q L sums) e) in
    let rest : length (drop L sums) ≡ max_length - L = length-drop L sums ∙ ap (λ (n : ℕ). n - L) long in
    ap (λ (l : List ℕ). take L sums ++ l) (ap zeros (sym rest) ∙ sym (none_below (drop L sums) high))
    ∙ take-append-drop L sums

-- ---- and of one that is saved

pub record Savable (R : RelayRound) (out : List ℕ) (used : ℕ) : Type 0 where
  pub state : Passed R
  pub room : used + save_size R.round.length ≤ length out

pub state-first : (R : RelayRound) (out : List ℕ) (used : ℕ) → accepted ≡ save_code R out used → accepted ≡ first_of (relay_checks R)
state-first R out used e =
    first-accepts (relay_checks R) ((not (leb (used + save_size R.round.length) (length out)), code 4) ∷ []) tt e

pub savable : (R : RelayRound) (out : List ℕ) (used : ℕ) → accepted ≡ save_code R out used → Savable R out used
savable R out used e =
    let w = none-holds (save_checks R out used) tt e in
    let enough : Bool = leb (used + save_size R.round.length) (length out) in
    record {
      state = passed R (state-first R out used e);
      room = leb-true (used + save_size R.round.length) (length out) (not-false enough w.1.1.1.1.1.1.0);
    }

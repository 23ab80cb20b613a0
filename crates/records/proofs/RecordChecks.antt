-- What is known of a record that passed the reader's checks, and of a plan that passed the writer's.
-- Each fact is looked up by what it says and not by its place, so that the order of the checks stands in their list alone.
use Prim.Native.Nat.{ℕ, ◌+◌, ◌*◌, ◌≤◌}
use mathlib.Core.Path.{◌≡◌, sym, ap, ap₂, ◌∙◌}
use mathlib.Core.Bool.{Bool, true, false, ◌&&◌}
use mathlib.Core.List.{List}
use native.Mathlib.Omega.{arith}
use lib.Dec.{eqb, eqb→eq}
use lib.ListN.{length}
use borrow.Author.Tests.{not-false, eqb-true}
use Rattle.refusals.specs.Codes.{accepted}
use Rattle.refusals.proofs.CodeLaws.{none-holds}
use Rattle.residues.specs.Primes.{is_prime, all_below}
use Rattle.lists.proofs.Searches.{T→true, true→T, T_and}
use Rattle.plans.specs.declared.Plan.{Plan}
use Rattle.plans.specs.Plans.{users_of, in_bounds}
use Rattle.numerals.specs.Bytes.{numbers_at}
use Rattle.records.specs.Records.{width_of, size_with, width_in, record_size, distance, start, bad_trailer, plan_read, table_read, read_checks, read_code}
use Rattle.records.specs.Records.{write_checks, write_code}
use Rattle.records.proofs.Trailers.{trailer-of}

-- ---- reading

pub record Readable (B out : List ℕ) : Type 0 where
  pub trailer : bad_trailer B ≡ false
  pub bounds : in_bounds (plan_read B) ≡ true
  pub size : distance B ≡ size_with (width_in B) (plan_read B)
  pub lent : length out ≡ 256
  pub prime : is_prime (plan_read B).q ≡ true
  pub kind : width_in B ≡ width_of (plan_read B).q
  pub below : all_below (plan_read B).q (table_read B) ≡ true

pub readable : (B out : List ℕ) → accepted ≡ read_code B out → Readable B out
readable B out e =
    let w = none-holds (read_checks B out) tt e in
    let P : Plan = plan_read B in
    let sized : Bool = eqb (distance B) (size_with (width_in B) P) in
    let whole : Bool = eqb (length out) 256 in
    let prime : Bool = is_prime P.q in
    let kind : Bool = eqb (width_in B) (width_of P.q) in
    let (s, l) = T_and sized whole (true→T (sized && whole) (not-false (sized && whole) (search w))) in
    let (p, k) = T_and prime kind (true→T (prime && kind) (not-false (prime && kind) (search w))) in
    record {
      trailer = search w;
      bounds = not-false (in_bounds P) (search w);
      size = eqb→eq (distance B) (size_with (width_in B) P) s;
      lent = eqb→eq (length out) 256 l;
      prime = T→true prime p;
      kind = eqb→eq (width_in B) (width_of P.q) k;
      below = not-false (all_below P.q (table_read B)) (search w);
    }

-- the numbers that the plan in the bytes asks for
module _ (B : List ℕ) (P : Plan) (w n s : ℕ) (is-plan : P ≡ plan_read B) (wide : w ≡ width_in B) (count : n ≡ users_of P * P.rate) (first : s ≡ start B) where
  pub read_count : n ≡ users_of (plan_read B) * (plan_read B).rate
  read_count = count ∙ ap (λ (X : Plan). users_of X * X.rate) is-plan

  pub read-numbers : numbers_at w n B (s + 4 + w) ≡ table_read B
  read-numbers =
      ap₂ (λ (v m : ℕ). numbers_at v m B (s + 4 + v)) wide read_count
      ∙ ap (λ (i : ℕ). numbers_at (width_in B) (users_of (plan_read B) * (plan_read B).rate) B (i + 4 + width_in B)) first

  pub read_below : (t : Bool) → t ≡ all_below P.q (numbers_at w n B (s + 4 + w)) → all_below (plan_read B).q (table_read B) ≡ t
  read_below t e = sym (e ∙ ap₂ (λ (X : Plan) (K : List ℕ). all_below X.q K) is-plan read-numbers)

  -- they lie in the buffer
  pub numbers-inside : bad_trailer B ≡ false → distance B ≡ size_with (width_in B) (plan_read B) → s + 4 + w + w * n ≤ length B
  numbers-inside good e =
      let size : w * n ≡ width_in B * (users_of (plan_read B) * (plan_read B).rate) = ap₂ ◌*◌ wide read_count in
      omega (arith, first, wide, e, (trailer-of B good).inside)

-- ---- writing

pub record Writable (P : Plan) (K out : List ℕ) : Type 0 where
  pub bounds : in_bounds P ≡ true
  pub table : length K ≡ users_of P * P.rate
  pub prime : is_prime P.q ≡ true
  pub below : all_below P.q K ≡ true
  pub size : length out ≡ record_size P

pub writable : (P : Plan) (K out : List ℕ) → accepted ≡ write_code P K out → Writable P K out
writable P K out e =
    let w = none-holds (write_checks P K out) tt e in
    let table : Bool = eqb (length K) (users_of P * P.rate) in
    let size : Bool = eqb (length out) (record_size P) in
    record {
      bounds = not-false (in_bounds P) (search w);
      table = eqb-true (length K) (users_of P * P.rate) (not-false table (search w));
      prime = not-false (is_prime P.q) (search w);
      below = not-false (all_below P.q K) (search w);
      size = eqb-true (length out) (record_size P) (not-false size (search w));
    }

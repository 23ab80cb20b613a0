-- What is known of a plan and a key table that the vet accepts.
use Prim.Native.Nat.{ℕ, ◌*◌}
use mathlib.Core.Path.{◌≡◌}
use mathlib.Core.List.{List, map}
use lib.Dec.{T, eqb}
use lib.ListN.{length}
use borrow.Author.Tests.{not-false, eqb-true}
use Rattle.refusals.specs.Codes.{accepted, first_of}
use Rattle.refusals.proofs.CodeLaws.{numbered, none-holds}
use Rattle.residues.specs.Primes.{Prime, is_prime}
use Rattle.residues.proofs.PrimeLaws.{true-prime}
use Rattle.lists.specs.Lists.{tab}
use Rattle.plans.specs.declared.Plan.{Plan}
use Rattle.plans.specs.Plans.{users_of, in_bounds}
use Rattle.vetting.specs.Walk.{pairs}
use Rattle.vetting.specs.Vet.{column_check, leak_check, vet_checks}
use Rattle.plans.proofs.PlanBounds.{Bounds, bounds-known}
use Rattle.refusals.proofs.Orders.{numbered-append, numbered-map}

-- ---- a plan and a key table that the vet accepts

pub record Vetted (P : Plan) (K : List ℕ) : Type 0 where
  pub bounds : Bounds P
  pub size : length K ≡ users_of P * P.rate
  pub prime : Prime P.q

pub vet-numbered : (P : Plan) (K : List ℕ) → T (numbered (vet_checks P K))
vet-numbered P K =
    numbered-append (map (column_check P K) (tab P.rate (λ k. k))) (map (leak_check P K) (pairs P.clusters P.size P.limit))
    (numbered-map (column_check P K) (λ k. tt) (tab P.rate (λ k. k)))
    (numbered-map (leak_check P K) (λ pair. tt) (pairs P.clusters P.size P.limit))

pub vetted : (P : Plan) (K : List ℕ) → accepted ≡ first_of (vet_checks P K) → Vetted P K
vetted P K e =
    let w = none-holds (vet_checks P K) (vet-numbered P K) e in
    record {
      bounds = bounds-known P (not-false (in_bounds P) w.0);
      size = eqb-true (length K) (users_of P * P.rate) (not-false (eqb (length K) (users_of P * P.rate)) w.1.0);
      prime = true-prime P.q (not-false (is_prime P.q) w.1.1.0);
    }

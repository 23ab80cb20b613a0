use Rattle.std.proofs.Common.{◌≡◌, ℕ, ◌+◌, ◌-◌, ◌*◌, List, [], length, sym, ap, ◌∙◌, arith, length-take-le}
use lib.Seq.{length_front}
use Rattle.residues.specs.Primes.{Prime}
use Rattle.residues.proofs.PrimeLaws.{true-prime, prime-pos}
use Rattle.plans.specs.Plans.{users_of}
use Rattle.plans.proofs.PlanBounds.{Bounds, bounds-known, some-users}
use Rattle.keys.proofs.MakerLaws.{made-is}
use Rattle.keys.proofs.MakerSteps.{powers-size, last-makes}
use Rattle.keys.proofs.maker.fill_table.Goals as goal
use Rattle.keys.proofs.maker.fill_table.Goals.{Start}

-- what the plan satisfies
known : (s : Start) → Bounds s.args.plan
known s = bounds-known s.args.plan s.requires.0

prime : (s : Start) → Prime s.args.plan.q
prime s = true-prime s.args.plan.q s.requires.1

-- the rows before the last lie in the table
others : (s : Start) → (users_of s.args.plan - 1) * s.args.plan.rate + s.args.plan.rate ≡ length s.args.table.now
others s =
    let R : ℕ = s.args.plan.rate in
    let m : ℕ = users_of s.args.plan - 1 in
    let e : users_of s.args.plan ≡ m + 1 = omega (arith, some-users (known s).counts) in
    omega (arith, ap (λ (z : ℕ). z * R) e, s.requires.3)

pub fill_rows-requires : goal.fill_rows-requires
fill_rows-requires c =
    let s = (goal.at.fill_rows-requires c).Start in (
      (prime s).two,
      omega (arith, (known s).counts.few-users),
      (known s).few-symbols,
      length-take-le ((users_of s.args.plan - 1) * s.args.plan.rate)
          s.args.table.now (omega (arith, others s)),
    )

pub fill_last-requires : goal.fill_last-requires
fill_last-requires c =
    let s = (goal.at.fill_last-requires c).Start in
    let a = s.args in
    let m : ℕ = (users_of a.plan - 1) * a.plan.rate in
    let y : List ℕ = c.fill_rows.new.table in
    let size : length y ≡ m = powers-size a.plan.q a.generator (users_of a.plan) a.plan.rate y [] (some-users (known s).counts)
    (known s).some-symbols c.fill_rows.ensures in
    (prime-pos (prime s), length_front a.table.now y m (size ∙ sym (length-take-le m a.table.now (omega (arith, others s)))) ∙ omega (arith, others s))

pub returns : goal.returns
returns c =
    let s = (goal.at.returns c).Start in
    let a = s.args in
    c.fill_last.ensures
    ∙ last-makes a.plan.q a.generator (users_of a.plan) a.plan.rate _ _ (some-users (known s).counts) (known s).some-symbols
    c.fill_rows.ensures
    ∙ made-is a.plan a.generator (known s) (prime s) s.requires.2

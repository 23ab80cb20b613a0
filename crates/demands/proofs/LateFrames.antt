-- Q-3, for every state and frame: the five findings of a frame in the former order and in the new one, where the state is good; where it is not, the state's
-- own checks decide in both.
use Prim.Native.Nat.{ℕ}
use mathlib.Core.Path.{◌≡◌, refl, sym, ap, ◌∙◌}
use mathlib.Core.Bool.{Bool, true, false, cond, not, ◌&&◌, ◌||◌}
use mathlib.Core.List.{[]}
use lib.Dec.{eqb}
use lib.ListN.{length}
use Rattle.refusals.specs.declared.Code.{Code}
use Rattle.refusals.specs.Codes.{code, accepted, is_accepted, first_of}
use Rattle.refusals.proofs.Orders.{first-decides, rest-decides, number-accepts}
use Rattle.residues.specs.Primes.{all_below}
use Rattle.rounds.specs.declared.Round.{Round}
use Rattle.rounds.specs.Ledger.{Frame}
use Rattle.rounds.specs.Rounds.{one_of, has_reported, state_checks, own_checks, step_code}
use Rattle.demands.specs.LateFrames.{former_checks, former_code, LateAnswers}

-- no such sender, another round, a wrong length, a symbol too large, already reported
module _ (sender other long large again : Bool) where
  abbrev new : Code
  new = cond sender (code 8) (cond other (code 14) (cond long (code 4) (cond large (code 3) (cond again (code 11) accepted))))

  abbrev former : Code
  former = cond sender (code 8) (cond long (code 4) (cond large (code 3) (cond other (code 14) (cond again (code 11) accepted))))

orders : (sender other long large again : Bool)
    → new sender other long large again
    ≡ cond (other && (eqb (former sender other long large again).number 4 || eqb (former sender other long large again).number 3)) (code 14)
    (former sender other long large again)
orders true true long large again = refl
orders true false long large again = refl
orders false true true large again = refl
orders false true false true again = refl
orders false true false false again = refl
orders false false long large again = refl

pub late-answers : (senders : ℕ) (known : Bool) (R : Round) (f : Frame) → LateAnswers senders known R f
late-answers senders known R f = go (is_accepted (first_of (state_checks senders known R))) refl
  where
    late : Code → Bool
    late c = not (eqb f.number R.number) && (eqb c.number 4 || eqb c.number 3)

    go : (t : Bool) → is_accepted (first_of (state_checks senders known R)) ≡ t
        → step_code senders known R f
        ≡ cond (is_accepted (first_of (state_checks senders known R)) && late (former_code senders known R f)) (code 14) (former_code senders known R f)
    go true n =
        let e : accepted ≡ first_of (state_checks senders known R) = number-accepts (state_checks senders known R) tt n in
        sym (rest-decides (state_checks senders known R) (own_checks senders R [] f) tt e)
        ∙ orders (not (one_of senders f.sender)) (not (eqb f.number R.number)) (not (eqb (length f.block) R.length))
        (not (all_below R.q f.block)) (has_reported R [] f.sender)
        ∙ ap (λ (c : Code). cond (late c) (code 14) c) (rest-decides (state_checks senders known R) (former_checks senders known R f) tt e)
        ∙ sym (ap (λ (t : Bool). cond (t && late (former_code senders known R f)) (code 14) (former_code senders known R f)) n)
    go false n =
        sym (first-decides (state_checks senders known R) (own_checks senders R [] f) n)
        ∙ first-decides (state_checks senders known R) (former_checks senders known R f) n
        ∙ sym (ap (λ (t : Bool). cond (t && late (former_code senders known R f)) (code 14) (former_code senders known R f)) n)

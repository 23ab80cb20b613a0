-- A call that is refused, with whichever of its codes, leaves what it found.
use mathlib.Core.Path.{◌≡◌, refl, sym}
use mathlib.Core.Logic.{◌≢◌}
use mathlib.Core.Bool.{Bool, true, false}
use mathlib.Core.List.{List}
use lib.Dec.{T}
use Rattle.refusals.specs.declared.Code.{Code}
use Rattle.refusals.specs.Codes.{accepted, first_of, is_accepted, if_accepted}
use Rattle.refusals.proofs.CodeLaws.{numbered, old-kept}
use Rattle.refusals.proofs.Orders.{number-accepts}

pub refused-leaves : {A : Type 0} (checks : List (Bool × Code)) → T (numbered checks) → first_of checks ≢ accepted → (new old : A)
    → if_accepted (first_of checks) new old ≡ old
refused-leaves checks t n new old = old-kept (first_of checks) new old (go (is_accepted (first_of checks)) refl)
  where
    go : (b : Bool) → is_accepted (first_of checks) ≡ b → is_accepted (first_of checks) ≡ false
    go true e = absurd (n (sym (number-accepts checks t e)))
    go false e = e

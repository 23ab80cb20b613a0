use Rattle.arithmetic.proofs.modular.+power_mod.Given as goal

abbrev pub decreases-power_mod : goal.decreases-power_mod
decreases-power_mod l = l.exponent

use Rattle.plans.proofs.PlanBounds.{largest-prime}
use Rattle.plans.proofs.Plan.new.Goals as goal

pub returns-in_err-refuse_unless-clause-prime : goal.returns-in_err-refuse_unless-clause-prime
returns-in_err-refuse_unless-clause-prime c = largest-prime

pub returns-in_err-refuse_unless-2-clause-prime : goal.returns-in_err-refuse_unless-2-clause-prime
returns-in_err-refuse_unless-2-clause-prime c = largest-prime

pub returns-clause-prime : goal.returns-clause-prime
returns-clause-prime c = largest-prime

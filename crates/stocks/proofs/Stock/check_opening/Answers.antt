use mathlib.Core.Bool.{Bool, true, false, cond, not}
use mathlib.Core.Path.{◌≡◌, sym, ap, ◌∙◌}
use borrow.Author.Tests.{eq-eqb, eqb-true}
use lib.ListN.{length}
use Rattle.std.specs.Prelude.{Result, Ok, Err}
use Rattle.refusals.specs.declared.Refusal.{Refusal}
use Rattle.refusals.specs.declared.Refusal.TheVariants.{OutOfBounds, WrongLength, BadStock}
use Rattle.refusals.specs.Codes.{code, accepted, code_of_result}
use Rattle.refusals.proofs.CodeLaws.{held}
use Rattle.lists.specs.Search.{one_of}
use Rattle.lists.proofs.Searches.{one_known}
use Rattle.stocks.specs.Stocks.{max_pools, fits}
use Rattle.stocks.proofs.StockLaws.{opened-fits}
use Rattle.stocks.proofs.Stock.check_opening.Goals as goal
use Rattle.stocks.proofs.Stock.check_opening.Goals.{then-reserves-pools, else-reserves-pools}

-- the last check, by whether the stock is sound
last-code : (b : Bool) (v : Result (Unit {0}) Refusal) → v ≡ cond b (Ok tt) (Err BadStock) → code_of_result v ≡ cond (not b) (code 21) accepted
last-code true v e = ap code_of_result e
last-code false v e = ap code_of_result e

-- a reserve and a limit for each pool; and the stock of which nothing is drawn is sound just where its reserves fit
pub returns : goal.returns
returns c =
    let a = c.args in
    let counted : one_of max_pools a.pools ≡ true = sym c.one_of.ensures ∙ held _ tt OutOfBounds c.in_ok-refuse_unless.ensures in
    let both = held c.if-reserves-pools.refuse_unless tt WrongLength c.in_ok-refuse_unless-2.ensures in
    let lengths : (length a.reserves.now ≡ a.pools) × (length a.limits.now ≡ a.pools)
    = elim c.if-reserves-pools.branch [
      | then-reserves-pools w ↦ (w.if-reserves-pools.true, eqb-true (length a.limits.now) a.pools (sym w.refuse_unless-is ∙ both))
      | else-reserves-pools w ↦ absurd (w.if-reserves-pools.false (eqb-true (length a.reserves.now) a.pools (sym w.refuse_unless-is ∙ both)))
    ] in
    let (some, eight) = one_known max_pools a.pools counted in
    let sound =
    c.is_sound.ensures
    ∙ ap (fits (length a.stream.now)) c.fresh-stock.ensures
    ∙ opened-fits a.pools a.reserves.now a.limits.now eight lengths.0 lengths.1 (length a.stream.now) some in
    last-code c.is_sound.result c.refuse_unless-3.result c.refuse_unless-3.ensures
    ∙ simp (counted, eq-eqb _ _ lengths.0, eq-eqb _ _ lengths.1, sound)

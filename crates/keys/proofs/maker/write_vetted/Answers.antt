use Rattle.std.proofs.Common.{◌≡◌, ℕ, Bool, cond, eqb, List, map, length, sym, ap, ◌∙◌, eq-eqb}
use Rattle.std.proofs.lemmas.Result.{err_from_is_err_and}
use Rattle.refusals.specs.Codes.{first_of}
use Rattle.residues.proofs.PrimeLaws.{true-prime}
use Rattle.vetting.specs.Walk.{pairs}
use Rattle.vetting.specs.Vet.{leak_check, vet_code}
use Rattle.keys.specs.Maker.{made_table}
use Rattle.plans.proofs.PlanBounds.{bounds-known}
use Rattle.keys.proofs.MakerLaws.{made-verdict}
use Rattle.keys.proofs.maker.write_vetted.Goals as goal
use Rattle.keys.proofs.maker.write_vetted.Goals.{After-fill_table}

-- as many symbols are copied as there is room for
copied-whole : (from to after : List ℕ) → after ≡ cond (eqb (length from) (length to)) from to → length from ≡ length to → after ≡ from
copied-whole from to after e h = e ∙ ap (λ (t : Bool). cond t from to) (eq-eqb (length from) (length to) h)

-- what the vet finds of the table that was built is what the walk finds of the plan's
found : (c : After-fill_table) → (let P = c.args.plan in
    vet_code P c.fill_table.new.table
    ≡ first_of (map (leak_check P (made_table P.clusters P.size P.limit P.q c.args.generator)) (pairs P.clusters P.size P.limit)))
found c =
    let P = c.args.plan in
    ap (vet_code P) c.fill_table.ensures
    ∙ made-verdict P c.args.generator (bounds-known P c.requires.0) (true-prime P.q c.requires.1) c.requires.2 c.requires.0

pub returns-in_err-verdict_on-clause-code : goal.returns-in_err-verdict_on-clause-code
returns-in_err-verdict_on-clause-code c =
    let p = err_from_is_err_and c.from_residual.result c.from_residual.ensures.1 in
    rw (p.1, p.2) (c.in_err-verdict_on.ensures ∙ found (goal.at.returns-in_err-verdict_on-clause-code c).After-fill_table)

pub returns : goal.returns
returns c = record {
  code = c.in_ok-verdict_on.ensures ∙ found (goal.at.returns c).After-fill_table;
  table =
      copied-whole c.fill_table.new.table c.args.table.now _ c.copy.ensures (c.fill_table.auto.table ∙ c.requires.3 ∙ sym c.requires.4)
      ∙ c.fill_table.ensures;
}

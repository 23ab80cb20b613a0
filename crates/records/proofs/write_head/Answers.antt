use mathlib.Core.Path.{◌≡◌, sym, ap, ◌∙◌}
use mathlib.Core.List.{List, ◌++◌}
use Prim.Native.Nat.{ℕ, ◌-◌}
use native.Mathlib.Omega.{arith}
use lib.ListN.{length, take, drop}
use lib.Seq.{take_all, sets, sets-eq, length-sets}
use Rattle.lists.proofs.Fronts.{Front, length_part, front-part, front-whole}
use Rattle.numerals.specs.Bytes.{bytes_of}
use Rattle.numerals.proofs.Bytes.{length-bytes}
use Rattle.numerals.proofs.Rows.{number-written}
use Rattle.records.proofs.RecordLaws.{counts_of, head_of}
use Rattle.records.proofs.write_head.Goals as goal

pub returns : goal.returns
returns c =
    let width : ℕ = length c.args.out.now - 4 in
    let stored : List ℕ = sets c.args.out.now 0 (counts_of c.args.plan) in
    let counts : Front c.args.out.now (head_of width c.args.plan) stored 4 = let out : List ℕ = c.args.out.now in
    let long : length stored ≡ length out = length-sets out 0 (counts_of c.args.plan) in
    record {
      within = omega (arith, c.requires.1);
      whole = long;
      meant = omega (arith, length-bytes width c.args.plan.q, c.requires.1);
      same = ap (take 4) (sets-eq (counts_of c.args.plan) out 0 c.requires.1);
    } in
    let lent : length (take (length stored - 4) (drop 4 stored)) ≡ width = let f = counts in
    length_part (length stored - 4) 4 stored (omega (arith, f.within)) ∙ ap (λ (n : ℕ). n - 4) f.whole in
    let all : (Front c.args.out.now (head_of width c.args.plan) (take 4 stored ++ (c.write_number.new.out ++ drop (length stored - 4) (drop 4 stored))) (length c.args.out.now)) = let f = counts in
    let k : ℕ = length stored - 4 in
    let q : List ℕ = bytes_of width c.args.plan.q in
    front-part _ _ stored 4 k (length c.args.out.now) c.write_number.new.out (omega (arith, f.within, f.whole)) f (omega (arith, f.within))
    (number-written width c.args.plan.q _ _ lent c.requires.2 c.write_number.ensures
    ∙ sym (take_all k q (omega (arith, length-bytes width c.args.plan.q, f.whole)))) in
    let f = all in front-whole _ _ _ _ f (omega (arith, f.whole))

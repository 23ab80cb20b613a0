use mathlib.Core.Path.{◌≡◌, refl, sym, ap, ap₂, ◌∙◌}
use mathlib.Core.List.{List, ◌++◌, append_assoc}
use Prim.Native.Nat.{ℕ, ◌+◌, ◌-◌, ◌*◌}
use native.Mathlib.Omega.{arith}
use lib.ListN.{length, take, drop}
use lib.Seq.{drop-drop}
use Rattle.lists.proofs.Fronts.{length_part}
use Rattle.numerals.specs.Bytes.{bytes_of_all}
use Rattle.numerals.proofs.Rows.{row_written}
use Rattle.checkpoints.proofs.writing.put.Goals as goal

pub returns : goal.returns
returns c =
    let K : List ℕ = c.args.numbers.now in
    let out : List ℕ = c.args.out.now in
    let place : ℕ = c.args.place in
    let n : ℕ = c.args.width * length K in
    let k : ℕ = place + n - place in
    let y : List ℕ = c.write_numbers.new.out in
    let room : length (take k (drop place out)) ≡ n = length_part k place out (omega (arith, c.requires.2)) ∙ omega arith in
    let written : y ≡ bytes_of_all c.args.width K =
    row_written c.args.width K y (take k (drop place out)) c.requires.0 room c.requires.1 c.write_numbers.ensures in
    let past : drop k (drop place out) ≡ drop (place + n) out = drop-drop k place out ∙ ap (λ (i : ℕ). drop i out) {x = place + k} {y = place + n} (omega arith) in (
      refl,
      ap₂ (λ (a b : List ℕ). take place out ++ (a ++ b)) written past ∙ sym (append_assoc (take place out) (bytes_of_all c.args.width K) (drop (place + n) out)),
    )

-- Part by part the buffer becomes the record.
use mathlib.Core.Path.{◌≡◌, refl, sym, ap, ap₂, ◌∙◌}
use mathlib.Core.List.{List, [], ◌∷◌, ◌++◌}
use Prim.Native.Nat.{ℕ, ◌+◌, ◌-◌, ◌*◌, ◌^◌, ◌≤◌, ◌<◌}
use native.Mathlib.Omega.{arith}
use lib.ListN.{length, take, drop}
use lib.Seq.{length-take-le, take_all}
use Rattle.lists.specs.Lists.{at}
use Rattle.lists.proofs.Searches.{true→T}
use Rattle.lists.proofs.Fronts.{Front, length_part, front-none, front-part, front-whole}
use Rattle.residues.proofs.PrimeLaws.{prime-pos, true-prime, below_at}
use Rattle.numerals.specs.Bytes.{bytes_of}
use Rattle.numerals.proofs.Rows.{row_written}
use Rattle.records.specs.Records.{size_with, record_with}
use Rattle.records.proofs.RecordChecks.{Writable, writable}
use Rattle.records.proofs.RecordLaws.{counts_of, trailer_of, length-record, head-part, body-part, trailer-part, size-bound}
use Rattle.records.proofs.Widths.{width_few, width-holds}
use Rattle.records.proofs.write_parts.Goals as goal

pub write_trailer-requires : goal.write_trailer-requires
write_trailer-requires c =
    let buffer : List ℕ = c.args.out.now in
    let w : ℕ = c.width_of-width.result in
    let meant : List ℕ = record_with w c.args.plan c.args.table.now in
    let head : ℕ = 4 + w in
    let end : ℕ = length buffer - 4 in
    let passed : Writable c.args.plan c.args.table.now buffer = writable c.args.plan c.args.table.now buffer c.requires in
    let few : w ≤ 4 = omega (arith, c.width_of-width.ensures, width_few c.args.plan.q) in
    let sized : length buffer ≡ size_with w c.args.plan = passed.size ∙ ap (λ (n : ℕ). size_with n c.args.plan) (sym c.width_of-width.ensures) in
    let long : length buffer ≡ 8 + w + w * length c.args.table.now = sized ∙ ap (λ (n : ℕ). 8 + w + w * n) (sym passed.table) in
    let head-lent : length (take head buffer) ≡ head = length-take-le head buffer (omega (arith, long)) in
    let fits : c.args.plan.q < 256 ^ w = omega (arith, width-holds c.args.plan.q (omega arith), ap (λ (n : ℕ). 256 ^ n) c.width_of-width.ensures) in
    let all_fit : (k : ℕ) → at c.args.table.now k < 256 ^ w = λ k. let q : ℕ = c.args.plan.q in
    omega (arith, fits, below_at q c.args.table.now (prime-pos (true-prime q passed.prime)) (true→T _ passed.below) k) in
    let first : List ℕ = c.write_head.new.out ++ drop head buffer in
    let one : Front buffer meant first head = let a = c.args in
    let rest : length (take head buffer) - 4 ≡ w = omega (arith, head-lent) in
    front-part _ _ buffer 0 head head c.write_head.new.out (omega arith)
    (front-none _ meant 0 refl (length-record w a.plan a.table.now ∙ sym long))
    (omega (arith, long))
    (c.write_head.ensures ∙ ap (λ (n : ℕ). counts_of a.plan ++ bytes_of n a.plan.q) rest ∙ sym (head-part w a.plan a.table.now)) in
    let symbols-lent : (length (take (end - head) (drop head first)) ≡ w * length c.args.table.now) = length_part (end - head) head first (omega (arith, long, one.whole)) ∙ omega (arith, long) in
    let second : List ℕ = let T : List ℕ = first in
    let h : ℕ = head in
    take h T ++ (c.write_numbers.new.out ++ drop (end - h) (drop h T)) in
    let two : Front buffer meant second end = let a = c.args in
    let f = one in
    let body : w * length a.table.now ≡ end - head = omega (arith, long) in
    front-part _ _ first head (end - head) end c.write_numbers.new.out (omega (arith, long)) f
    (omega (arith, long, f.whole))
    (row_written w a.table.now _ (take (end - head) (drop head first)) few symbols-lent all_fit c.write_numbers.ensures
    ∙ sym (body-part w a.plan a.table.now) ∙ ap (λ (n : ℕ). take n (drop head meant)) body) in (
      omega (arith, sized, size-bound w c.args.plan few passed.bounds),
      length_part (length second - end) end second (omega (arith, two.within)) ∙ omega (arith, two.whole, long),
    )

pub returns : goal.returns
unfolding bytes_of
returns c =
    let buffer : List ℕ = c.args.out.now in
    let w : ℕ = c.width_of-width.result in
    let meant : List ℕ = record_with w c.args.plan c.args.table.now in
    let head : ℕ = 4 + w in
    let end : ℕ = length buffer - 4 in
    let passed : Writable c.args.plan c.args.table.now buffer = writable c.args.plan c.args.table.now buffer c.requires in
    let few : w ≤ 4 = omega (arith, c.width_of-width.ensures, width_few c.args.plan.q) in
    let sized : length buffer ≡ size_with w c.args.plan = passed.size ∙ ap (λ (n : ℕ). size_with n c.args.plan) (sym c.width_of-width.ensures) in
    let long : length buffer ≡ 8 + w + w * length c.args.table.now = sized ∙ ap (λ (n : ℕ). 8 + w + w * n) (sym passed.table) in
    let head-lent : length (take head buffer) ≡ head = length-take-le head buffer (omega (arith, long)) in
    let fits : c.args.plan.q < 256 ^ w = omega (arith, width-holds c.args.plan.q (omega arith), ap (λ (n : ℕ). 256 ^ n) c.width_of-width.ensures) in
    let all_fit : (k : ℕ) → at c.args.table.now k < 256 ^ w = λ k. let q : ℕ = c.args.plan.q in
    omega (arith, fits, below_at q c.args.table.now (prime-pos (true-prime q passed.prime)) (true→T _ passed.below) k) in
    let first : List ℕ = c.write_head.new.out ++ drop head buffer in
    let one : Front buffer meant first head = let a = c.args in
    let rest : length (take head buffer) - 4 ≡ w = omega (arith, head-lent) in
    front-part _ _ buffer 0 head head c.write_head.new.out (omega arith)
    (front-none _ meant 0 refl (length-record w a.plan a.table.now ∙ sym long))
    (omega (arith, long))
    (c.write_head.ensures ∙ ap (λ (n : ℕ). counts_of a.plan ++ bytes_of n a.plan.q) rest ∙ sym (head-part w a.plan a.table.now)) in
    let symbols-lent : (length (take (end - head) (drop head first)) ≡ w * length c.args.table.now) = length_part (end - head) head first (omega (arith, long, one.whole)) ∙ omega (arith, long) in
    let second : List ℕ = let T : List ℕ = first in
    let h : ℕ = head in
    take h T ++ (c.write_numbers.new.out ++ drop (end - h) (drop h T)) in
    let two : Front buffer meant second end = let a = c.args in
    let f = one in
    let body : w * length a.table.now ≡ end - head = omega (arith, long) in
    front-part _ _ first head (end - head) end c.write_numbers.new.out (omega (arith, long)) f
    (omega (arith, long, f.whole))
    (row_written w a.table.now _ (take (end - head) (drop head first)) few symbols-lent all_fit c.write_numbers.ensures
    ∙ sym (body-part w a.plan a.table.now) ∙ ap (λ (n : ℕ). take n (drop head meant)) body) in
    let a = c.args in
    let n : ℕ = length second - end in
    let marked = c.mark_of.ensures in
    let place : end ≡ 4 + w + w * length a.table.now = omega (arith, long) in
    let last : trailer_of w (size_with w a.plan) ≡ take n (drop end meant) =
    sym
    (ap (take n) (ap (λ (i : ℕ). drop i meant) place ∙ trailer-part w a.plan a.table.now)
    ∙ take_all n (trailer_of w (size_with w a.plan)) (omega (arith, two.whole, long))) in
    let f = front-part _ _ second end n (length buffer) c.write_trailer.new.out (omega (arith, two.whole, long)) two
    (omega (arith, two.within))
    (c.write_trailer.ensures ∙ ap₂ (λ (m x : ℕ). bytes_of 2 m ++ (0x4b ∷ x ∷ [])) sized marked ∙ last) in
    front-whole _ _ _ _ f (omega (arith, f.whole)) ∙ ap (λ (m : ℕ). record_with m a.plan a.table.now) c.width_of-width.ensures

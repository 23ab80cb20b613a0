-- Row by row the buffer takes the save.
use borrow.Author.Rules.{rules}
use mathlib.Core.Path.{◌≡◌, sym, ap, ap₂, ◌∙◌, subst}
use mathlib.Core.List.{List, [], ◌∷◌, ◌++◌}
use Prim.Native.Nat.{ℕ, ◌+◌, ◌*◌, ◌^◌, ◌≤◌, ◌<◌}
use native.Mathlib.Omega.{arith}
use lib.ListN.{length, take, drop}
use lib.Seq.{length-take-le}
use Rattle.lists.specs.Lists.{at}
use Rattle.plans.specs.Plans.{max_length}
use Rattle.numerals.specs.Bytes.{bytes_of_all}
use Rattle.rounds.specs.declared.RelayRound.{RelayRound}
use Rattle.checkpoints.specs.Checkpoints.{save_size}
use Rattle.checkpoints.proofs.StateLaws.{Savable, savable, few-length}
use Rattle.checkpoints.proofs.SaveRows.{counts_of, words_of, rolls_of, sums_of, held_sums_of, trailer_of, save-rows}
use Rattle.checkpoints.proofs.SaveRows.{Wrote, wrote_none, wrote-length, wrote-row, Fitting, fitting, regrouped}
use Rattle.checkpoints.proofs.writing.write_save.Goals as goal

-- ---- what is left
pub put-place-requires : goal.put-place-requires
put-place-requires c =
    let ready : Savable c.args.round c.args.out.now c.args.used = savable c.args.round c.args.out.now c.args.used c.requires in
    let fit : Fitting c.args.round = fitting c.args.round ready.state (omega arith) (omega arith) (omega arith) (omega arith) in
    (omega arith, fit.in-counts, omega (arith, ready.room))

pub put-place-requires-4 : goal.put-place-requires-4
put-place-requires-4 c =
    let ready : Savable c.args.round c.args.out.now c.args.used = savable c.args.round c.args.out.now c.args.used c.requires in
    let few : c.args.round.round.length ≤ 64 = few-length c.args.round ready.state in
    let sums-long : length c.args.round.round.sums ≡ max_length = search rules in
    let first-row : length (sums_of c.args.round) ≡ c.args.round.round.length = length-take-le c.args.round.round.length c.args.round.round.sums (omega (arith, sums-long, few)) in
    let fit : Fitting c.args.round = fitting c.args.round ready.state (omega arith) (omega arith) (omega arith) (omega arith) in
    let w1 : (Wrote c.args.out.now (take c.args.used c.args.out.now ++ bytes_of_all 1 (counts_of c.args.round)) c.put-place.new.out c.put-place.result) = wrote-row _ _ c.args.out.now c.args.used (wrote_none c.args.out.now c.args.used (omega (arith, ready.room))) _ _ 1 (counts_of c.args.round)
    c.put-place.ensures.0 (omega (arith, ready.room, c.put-place.ensures.0)) c.put-place.ensures.1 in
    let w2 : (Wrote c.args.out.now ((take c.args.used c.args.out.now ++ bytes_of_all 1 (counts_of c.args.round)) ++ bytes_of_all 4 (words_of c.args.round)) c.put-place-2.new.out c.put-place-2.result) = wrote-row _ _ _ _ w1 _ _ 4 (words_of c.args.round)
    c.put-place-2.ensures.0 (omega (arith, ready.room, c.put-place-2.ensures.0, c.put-place.ensures.0)) c.put-place-2.ensures.1 in
    let w3 : (Wrote c.args.out.now (((take c.args.used c.args.out.now ++ bytes_of_all 1 (counts_of c.args.round)) ++ bytes_of_all 4 (words_of c.args.round)) ++ bytes_of_all 2 (rolls_of c.args.round)) c.put-place-3.new.out c.put-place-3.result) = wrote-row _ _ _ _ w2 _ _ 2 (rolls_of c.args.round)
    c.put-place-3.ensures.0 (omega (arith, ready.room, c.put-place-3.ensures.0, c.put-place-2.ensures.0, c.put-place.ensures.0)) c.put-place-3.ensures.1 in
    (omega arith, fit.in-sums, omega (arith, ready.room, wrote-length _ _ _ _ w3, c.put-place-3.ensures.0, c.put-place-2.ensures.0, c.put-place.ensures.0, first-row))

pub put-place-requires-5 : goal.put-place-requires-5
put-place-requires-5 c =
    let ready : Savable c.args.round c.args.out.now c.args.used = savable c.args.round c.args.out.now c.args.used c.requires in
    let few : c.args.round.round.length ≤ 64 = few-length c.args.round ready.state in
    let sums-long : length c.args.round.round.sums ≡ max_length = search rules in
    let held-long : length c.args.round.ahead.sums ≡ max_length = search rules in
    let first-row : length (sums_of c.args.round) ≡ c.args.round.round.length = length-take-le c.args.round.round.length c.args.round.round.sums (omega (arith, sums-long, few)) in
    let second-row : length (held_sums_of c.args.round) ≡ c.args.round.round.length = length-take-le c.args.round.round.length c.args.round.ahead.sums (omega (arith, held-long, few)) in
    let fit : Fitting c.args.round = fitting c.args.round ready.state (omega arith) (omega arith) (omega arith) (omega arith) in
    let w1 : (Wrote c.args.out.now (take c.args.used c.args.out.now ++ bytes_of_all 1 (counts_of c.args.round)) c.put-place.new.out c.put-place.result) = wrote-row _ _ c.args.out.now c.args.used (wrote_none c.args.out.now c.args.used (omega (arith, ready.room))) _ _ 1 (counts_of c.args.round)
    c.put-place.ensures.0 (omega (arith, ready.room, c.put-place.ensures.0)) c.put-place.ensures.1 in
    let w2 : (Wrote c.args.out.now ((take c.args.used c.args.out.now ++ bytes_of_all 1 (counts_of c.args.round)) ++ bytes_of_all 4 (words_of c.args.round)) c.put-place-2.new.out c.put-place-2.result) = wrote-row _ _ _ _ w1 _ _ 4 (words_of c.args.round)
    c.put-place-2.ensures.0 (omega (arith, ready.room, c.put-place-2.ensures.0, c.put-place.ensures.0)) c.put-place-2.ensures.1 in
    let w3 : (Wrote c.args.out.now (((take c.args.used c.args.out.now ++ bytes_of_all 1 (counts_of c.args.round)) ++ bytes_of_all 4 (words_of c.args.round)) ++ bytes_of_all 2 (rolls_of c.args.round)) c.put-place-3.new.out c.put-place-3.result) = wrote-row _ _ _ _ w2 _ _ 2 (rolls_of c.args.round)
    c.put-place-3.ensures.0 (omega (arith, ready.room, c.put-place-3.ensures.0, c.put-place-2.ensures.0, c.put-place.ensures.0)) c.put-place-3.ensures.1 in
    let w4 : (Wrote c.args.out.now ((((take c.args.used c.args.out.now ++ bytes_of_all 1 (counts_of c.args.round)) ++ bytes_of_all 4 (words_of c.args.round)) ++ bytes_of_all 2 (rolls_of c.args.round)) ++ bytes_of_all 4 (sums_of c.args.round)) c.put-place-4.new.out c.put-place-4.result) = wrote-row _ _ _ _ w3 _ _ 4 (sums_of c.args.round)
    c.put-place-4.ensures.0 (omega (arith, ready.room, c.put-place-4.ensures.0, c.put-place-3.ensures.0, c.put-place-2.ensures.0, c.put-place.ensures.0, first-row)) c.put-place-4.ensures.1 in
    (omega arith, fit.in_held, omega (arith, ready.room, wrote-length _ _ _ _ w4, c.put-place-4.ensures.0, c.put-place-3.ensures.0, c.put-place-2.ensures.0, c.put-place.ensures.0, first-row, second-row))

pub put-requires : goal.put-requires
put-requires c =
    let ready : Savable c.args.round c.args.out.now c.args.used = savable c.args.round c.args.out.now c.args.used c.requires in
    let few : c.args.round.round.length ≤ 64 = few-length c.args.round ready.state in
    let sums-long : length c.args.round.round.sums ≡ max_length = search rules in
    let held-long : length c.args.round.ahead.sums ≡ max_length = search rules in
    let first-row : length (sums_of c.args.round) ≡ c.args.round.round.length = length-take-le c.args.round.round.length c.args.round.round.sums (omega (arith, sums-long, few)) in
    let second-row : length (held_sums_of c.args.round) ≡ c.args.round.round.length = length-take-le c.args.round.round.length c.args.round.ahead.sums (omega (arith, held-long, few)) in
    let fit : Fitting c.args.round = fitting c.args.round ready.state (omega arith) (omega arith) (omega arith) (omega arith) in
    let w1 : (Wrote c.args.out.now (take c.args.used c.args.out.now ++ bytes_of_all 1 (counts_of c.args.round)) c.put-place.new.out c.put-place.result) = wrote-row _ _ c.args.out.now c.args.used (wrote_none c.args.out.now c.args.used (omega (arith, ready.room))) _ _ 1 (counts_of c.args.round)
    c.put-place.ensures.0 (omega (arith, ready.room, c.put-place.ensures.0)) c.put-place.ensures.1 in
    let w2 : (Wrote c.args.out.now ((take c.args.used c.args.out.now ++ bytes_of_all 1 (counts_of c.args.round)) ++ bytes_of_all 4 (words_of c.args.round)) c.put-place-2.new.out c.put-place-2.result) = wrote-row _ _ _ _ w1 _ _ 4 (words_of c.args.round)
    c.put-place-2.ensures.0 (omega (arith, ready.room, c.put-place-2.ensures.0, c.put-place.ensures.0)) c.put-place-2.ensures.1 in
    let w3 : (Wrote c.args.out.now (((take c.args.used c.args.out.now ++ bytes_of_all 1 (counts_of c.args.round)) ++ bytes_of_all 4 (words_of c.args.round)) ++ bytes_of_all 2 (rolls_of c.args.round)) c.put-place-3.new.out c.put-place-3.result) = wrote-row _ _ _ _ w2 _ _ 2 (rolls_of c.args.round)
    c.put-place-3.ensures.0 (omega (arith, ready.room, c.put-place-3.ensures.0, c.put-place-2.ensures.0, c.put-place.ensures.0)) c.put-place-3.ensures.1 in
    let w4 : (Wrote c.args.out.now ((((take c.args.used c.args.out.now ++ bytes_of_all 1 (counts_of c.args.round)) ++ bytes_of_all 4 (words_of c.args.round)) ++ bytes_of_all 2 (rolls_of c.args.round)) ++ bytes_of_all 4 (sums_of c.args.round)) c.put-place-4.new.out c.put-place-4.result) = wrote-row _ _ _ _ w3 _ _ 4 (sums_of c.args.round)
    c.put-place-4.ensures.0 (omega (arith, ready.room, c.put-place-4.ensures.0, c.put-place-3.ensures.0, c.put-place-2.ensures.0, c.put-place.ensures.0, first-row)) c.put-place-4.ensures.1 in
    let w5 : (Wrote c.args.out.now (((((take c.args.used c.args.out.now ++ bytes_of_all 1 (counts_of c.args.round)) ++ bytes_of_all 4 (words_of c.args.round)) ++ bytes_of_all 2 (rolls_of c.args.round)) ++ bytes_of_all 4 (sums_of c.args.round)) ++ bytes_of_all 4 (held_sums_of c.args.round)) c.put-place-5.new.out c.put-place-5.result) = wrote-row _ _ _ _ w4 _ _ 4 (held_sums_of c.args.round)
    c.put-place-5.ensures.0 (omega (arith, ready.room, c.put-place-5.ensures.0, c.put-place-4.ensures.0, c.put-place-3.ensures.0, c.put-place-2.ensures.0, c.put-place.ensures.0, first-row, second-row)) c.put-place-5.ensures.1 in
    let sized : c.size_of.result ≡ save_size c.args.round.round.length = c.size_of.ensures in
    let distance-low : (k : ℕ) → at (c.size_of.result ∷ 0x524b ∷ []) k < 256 ^ 2 = λ k. subst (λ (n : ℕ). at (n ∷ 0x524b ∷ []) k < 256 ^ 2) (sym sized) (fit.in-trailer k) in
    (omega arith, distance-low, omega (arith, ready.room, wrote-length _ _ _ _ w5, c.put-place-5.ensures.0, c.put-place-4.ensures.0, c.put-place-3.ensures.0, c.put-place-2.ensures.0, c.put-place.ensures.0, first-row, second-row))

pub returns : goal.returns
returns c =
    let ready : Savable c.args.round c.args.out.now c.args.used = savable c.args.round c.args.out.now c.args.used c.requires in
    let few : c.args.round.round.length ≤ 64 = few-length c.args.round ready.state in
    let sums-long : length c.args.round.round.sums ≡ max_length = search rules in
    let held-long : length c.args.round.ahead.sums ≡ max_length = search rules in
    let first-row : length (sums_of c.args.round) ≡ c.args.round.round.length = length-take-le c.args.round.round.length c.args.round.round.sums (omega (arith, sums-long, few)) in
    let second-row : length (held_sums_of c.args.round) ≡ c.args.round.round.length = length-take-le c.args.round.round.length c.args.round.ahead.sums (omega (arith, held-long, few)) in
    let w1 : (Wrote c.args.out.now (take c.args.used c.args.out.now ++ bytes_of_all 1 (counts_of c.args.round)) c.put-place.new.out c.put-place.result) = wrote-row _ _ c.args.out.now c.args.used (wrote_none c.args.out.now c.args.used (omega (arith, ready.room))) _ _ 1 (counts_of c.args.round)
    c.put-place.ensures.0 (omega (arith, ready.room, c.put-place.ensures.0)) c.put-place.ensures.1 in
    let w2 : (Wrote c.args.out.now ((take c.args.used c.args.out.now ++ bytes_of_all 1 (counts_of c.args.round)) ++ bytes_of_all 4 (words_of c.args.round)) c.put-place-2.new.out c.put-place-2.result) = wrote-row _ _ _ _ w1 _ _ 4 (words_of c.args.round)
    c.put-place-2.ensures.0 (omega (arith, ready.room, c.put-place-2.ensures.0, c.put-place.ensures.0)) c.put-place-2.ensures.1 in
    let w3 : (Wrote c.args.out.now (((take c.args.used c.args.out.now ++ bytes_of_all 1 (counts_of c.args.round)) ++ bytes_of_all 4 (words_of c.args.round)) ++ bytes_of_all 2 (rolls_of c.args.round)) c.put-place-3.new.out c.put-place-3.result) = wrote-row _ _ _ _ w2 _ _ 2 (rolls_of c.args.round)
    c.put-place-3.ensures.0 (omega (arith, ready.room, c.put-place-3.ensures.0, c.put-place-2.ensures.0, c.put-place.ensures.0)) c.put-place-3.ensures.1 in
    let w4 : (Wrote c.args.out.now ((((take c.args.used c.args.out.now ++ bytes_of_all 1 (counts_of c.args.round)) ++ bytes_of_all 4 (words_of c.args.round)) ++ bytes_of_all 2 (rolls_of c.args.round)) ++ bytes_of_all 4 (sums_of c.args.round)) c.put-place-4.new.out c.put-place-4.result) = wrote-row _ _ _ _ w3 _ _ 4 (sums_of c.args.round)
    c.put-place-4.ensures.0 (omega (arith, ready.room, c.put-place-4.ensures.0, c.put-place-3.ensures.0, c.put-place-2.ensures.0, c.put-place.ensures.0, first-row)) c.put-place-4.ensures.1 in
    let w5 : (Wrote c.args.out.now (((((take c.args.used c.args.out.now ++ bytes_of_all 1 (counts_of c.args.round)) ++ bytes_of_all 4 (words_of c.args.round)) ++ bytes_of_all 2 (rolls_of c.args.round)) ++ bytes_of_all 4 (sums_of c.args.round)) ++ bytes_of_all 4 (held_sums_of c.args.round)) c.put-place-5.new.out c.put-place-5.result) = wrote-row _ _ _ _ w4 _ _ 4 (held_sums_of c.args.round)
    c.put-place-5.ensures.0 (omega (arith, ready.room, c.put-place-5.ensures.0, c.put-place-4.ensures.0, c.put-place-3.ensures.0, c.put-place-2.ensures.0, c.put-place.ensures.0, first-row, second-row)) c.put-place-5.ensures.1 in
    let sized : c.size_of.result ≡ save_size c.args.round.round.length = c.size_of.ensures in
    let w6 : (Wrote c.args.out.now ((((((take c.args.used c.args.out.now ++ bytes_of_all 1 (counts_of c.args.round)) ++ bytes_of_all 4 (words_of c.args.round)) ++ bytes_of_all 2 (rolls_of c.args.round)) ++ bytes_of_all 4 (sums_of c.args.round)) ++ bytes_of_all 4 (held_sums_of c.args.round)) ++ bytes_of_all 2 (trailer_of c.args.round)) c.put.new.out c.put.result) = let p : ℕ = c.put-place-5.result in
    let T : List ℕ = c.put-place-5.new.out in
    wrote-row _ _ _ _ w5 _ _ 2 (trailer_of c.args.round)
    c.put.ensures.0 (omega (arith, ready.room, c.put.ensures.0, c.put-place-5.ensures.0, c.put-place-4.ensures.0, c.put-place-3.ensures.0, c.put-place-2.ensures.0, c.put-place.ensures.0, first-row, second-row)) (c.put.ensures.1 ∙ ap (λ (x : ℕ). take p T ++ bytes_of_all 2 (x ∷ 0x524b ∷ []) ++ drop (p + 2 * 2) T) sized) in
    let w = w6 in
    let R : RelayRound = c.args.round in
    let X : List ℕ = take c.args.used c.args.out.now in
    let end : c.put.result ≡ c.args.used + save_size R.round.length = omega (arith, first-row, second-row, c.put.ensures.0, c.put-place-5.ensures.0, c.put-place-4.ensures.0, c.put-place-3.ensures.0, c.put-place-2.ensures.0, c.put-place.ensures.0) in
    let all = regrouped X (bytes_of_all 1 (counts_of R)) (bytes_of_all 4 (words_of R)) (bytes_of_all 2 (rolls_of R)) (bytes_of_all 4 (sums_of R))
    (bytes_of_all 4 (held_sums_of R)) (bytes_of_all 2 (trailer_of R)) in (
      end,
      w.same ∙ ap₂ (λ (a : List ℕ) (n : ℕ). a ++ drop n c.args.out.now) (all ∙ ap (λ (l : List ℕ). X ++ l) (sym (save-rows R))) end,
    )

use mathlib.Core.Path.{◌≡◌, sym, ap, ◌∙◌}
use mathlib.Core.List.{List, ◌++◌}
use Prim.Native.Nat.{ℕ, ◌+◌, ◌%◌, ◌≤◌}
use native.Mathlib.Omega.{arith}
use lib.ListN.{length, take}
use lib.Seq.{length-take-le, take_at}
use Rattle.lists.specs.Lists.{at, zeros, tab}
use Rattle.lists.proofs.ListLaws.{tab-cong}
use Rattle.refusals.specs.Codes.{accepted}
use Rattle.residues.specs.Primes.{all_below}
use Rattle.secrecy.specs.Model.{upload}
use Rattle.plans.specs.declared.Plan.{Plan}
use Rattle.vetting.specs.Pools.{pool_of}
use Rattle.keys.specs.Keys.{keys_of, unvetted_code, unvetted_after}
use Rattle.plans.specs.Plans.{users_of}
use Rattle.plans.proofs.PlanBounds.{bounds-known}
use Rattle.trials.specs.Drawing.{Maskable}
use Rattle.trials.proofs.MaskLaws.{dealt, keys_length, keys_below, upload-is}
use Rattle.trials.proofs.RelayLaws.{never-refused}
use Rattle.trials.proofs.uploads.mask.Goals as goal

-- ---- the keys that are dealt stand in the first places of what was lent

module _ {P : Plan} {K : List ℕ} {m : ℕ} {N W : List ℕ} (s : Maskable P K m N W) (n : ℕ) (all : n ≡ users_of P) where
  few : n ≤ 16
  few = omega (arith, all, (bounds-known P s.fit.bounds).counts.few-users)

  abbrev dealt_keys : List ℕ
  dealt_keys = keys_of P K 1 N

  dealing : (unvetted_after P K 1 N (take n (zeros 16)) ≡ dealt_keys) × (accepted ≡ unvetted_code P K 1 N (take n (zeros 16)))
  dealing = dealt P K m N W s (take n (zeros 16)) (length-take-le n (zeros 16) few ∙ all)

  whole : length dealt_keys ≡ n
  whole = keys_length P K m N W s ∙ sym all

  front : (l rest : List ℕ) → l ≡ unvetted_after P K 1 N (take n (zeros 16)) → take n (l ++ rest) ≡ dealt_keys
  front l rest e = ap (λ (x : List ℕ). take n (x ++ rest)) (e ∙ dealing.0) ∙ take_at dealt_keys rest n whole

pub returns-in_err-derive_unvetted : goal.returns-in_err-derive_unvetted
returns-in_err-derive_unvetted c =
    absurd (never-refused c.in_err-derive_unvetted.field-0.0 _ c.in_err-derive_unvetted.ensures.code (dealing c.requires.0 _ c.requires.1).1)

pub fill_uploads-requires : goal.fill_uploads-requires
fill_uploads-requires c =
    let s = c.requires.0 in
    let P : Plan = c.args.plan in
    let n : ℕ = length c.args.uploads.now in
    let keys = front s n c.requires.1 c.derive_unvetted.new.keys _ c.derive_unvetted.ensures.keys in (
      s.fit,
      s.readings ∙ sym c.requires.1,
      ap length keys ∙ whole s n c.requires.1,
      s.inside,
      ap (all_below P.q) keys ∙ keys_below P c.args.table.now c.args.cap c.args.source.now c.args.readings.now s,
      few s n c.requires.1,
    )

pub returns-clause-uploads : goal.returns-clause-uploads
returns-clause-uploads c =
    let s = c.requires.0 in
    let P : Plan = c.args.plan in
    let W : List ℕ = c.args.readings.now in
    let n : ℕ = length c.args.uploads.now in
    let keys : List ℕ = keys_of P c.args.table.now 1 c.args.source.now in
    c.fill_uploads.ensures.uploads
    ∙ ap (λ (l : List ℕ). tab n (λ i. (at W i + at l i) % P.q)) (front s n c.requires.1 c.derive_unvetted.new.keys _ c.derive_unvetted.ensures.keys)
    ∙ ap (λ (k : ℕ). tab k (λ i. (at W i + at keys i) % P.q)) c.requires.1
    ∙ tab-cong (users_of P) (λ i. (at W i + at keys i) % P.q) (λ i. upload (pool_of P c.args.table.now) 1 W c.args.source.now i 0)
    (upload-is P c.args.table.now c.args.cap c.args.source.now W s)

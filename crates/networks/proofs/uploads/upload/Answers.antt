use Prim.Native.Nat.{ℕ}
use mathlib.Core.Path.{ap, ◌∙◌}
use native.Mathlib.Omega.{arith}
use Rattle.refusals.specs.Codes.{accepted}
use Rattle.refusals.proofs.CodeLaws.{accepted-outcome}
use Rattle.cyclic.specs.Network.{link_of}
use Rattle.networks.specs.Rings.{upload_checks, uploaded}
use Rattle.networks.proofs.CheckLaws.{UploadReady, upload-known}
use Rattle.networks.proofs.uploads.upload.Goals as goal

pub combine-requires : goal.combine-requires
unfolding link_of
combine-requires c =
    let a = c.args in
    let r : UploadReady a.ring a.weights.now a.user a.relay a.reading.now
    = upload-known a.ring a.weights.now a.user a.relay a.reading.now a.key c.in_ok-check_upload.ensures in
    (r.counted, r.some, r.weights, omega (arith, r.user-low, r.user-high), r.link, r.reading)

pub returns : goal.returns
unfolding link_of
returns c =
    let a = c.args in
    ap (λ (n : ℕ). record { refusal = accepted; value = n }) c.combine.ensures
    ∙ accepted-outcome (upload_checks a.ring a.weights.now a.user a.relay a.reading.now a.key)
    (uploaded a.ring a.weights.now a.user a.relay a.reading.now a.key) c.in_ok-check_upload.ensures

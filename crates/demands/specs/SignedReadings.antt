-- Loads that run backwards (document 02, Q-1): a plan P with a cap m. The promises of `signed_upload`, `signed_unmask` and `show_totals` (signed) are
-- `signed_upload_code`, `signed_upload_after` and so on, which the statements name.
use Rattle.std.specs.Prelude.{ℕ, ◌-◌, ◌*◌, ◌≤◌, ◌<◌, ◌≡◌, ◌≢◌, ◌⊎◌, ◌↔◌, true, false, List, map, T, ℤ, pos, neg_ℤ, ◌+ℤ◌, ◌≤ℤ◌, ◌<ℤ◌, length, take, drop, get_or}
use Rattle.refusals.specs.declared.Code.{Code}
use Rattle.refusals.specs.Codes.{accepted, first_of}
use Rattle.lists.specs.Lists.{tab}
use Rattle.matrices.specs.Linear.{Vector}
use Rattle.secrecy.specs.Model.{upload, total, in_either, set_view, ZeroSum, view}
use Rattle.secrecy.specs.Leaks.{longest, PairLeak, JointLeak}
use Rattle.plans.specs.declared.Plan.{Plan}
use Rattle.plans.specs.Plans.{users_of, length_fits, plan_code}
use Rattle.vetting.specs.Pools.{pool_of}
use Rattle.vetting.specs.declared.Pair.{Pair}
use Rattle.vetting.specs.Walk.{pairs, InWalk, First}
use Rattle.vetting.specs.Vet.{other_checks, vet_code}
use Rattle.vetting.specs.Joint.{relay_pair, relays_fit, joint_code}
use Rattle.keys.specs.Keys.{keys_of}
use Rattle.masking.specs.Blocks.{unmasked_of}
use Rattle.rounds.specs.Ledger.{Frame}
use Rattle.rounds.specs.Rounds.{run_of, sums_after}
use Rattle.rounds.specs.Relays.{Event}
use Rattle.signed.specs.Numbers.{symbol_of, travelling, shown_of, true_sum, signed_reading}
use Rattle.signed.specs.Caps.{cap_fits, is_in_cap, all_in_cap}
use Rattle.signed.specs.SignedBlocks.{signed_upload_code, signed_upload_of, signed_upload_after, signed_unmask_code, signed_unmask_after}
use Rattle.signed.specs.SignedBlocks.{totals_code, totals_after}
use Rattle.signed.specs.SignedLeaks.{SignedAgree, SignedAgrees, Capped, signed_showing, SignedPairLeak, SignedJointLeak}
use Rattle.demands.specs.Demands.{opening, opens, AllHeard}
use Rattle.demands.specs.JointRelays.{Few}

-- "a reading is a signed number from −m to m"
abbrev pub CapMeans : Type 0
CapMeans = (m : ℕ) (w : ℤ) → T (is_in_cap m w) ↔ ((neg_ℤ (pos m) ≤ℤ w) × (w ≤ℤ pos m))

-- of a run of readings, each
abbrev pub AllInCapMeans : Type 0
AllInCapMeans = (m : ℕ) (R : List ℤ) → T (all_in_cap m R) ↔ ((p : ℕ) → p < length R → T (is_in_cap m (get_or R p (pos 0))))

module _ (P : Plan) (m : ℕ) where
  -- "16 when m is 0 or 2 × U × V × m is not below q"
  abbrev pub NoRoom : Type 0
  NoRoom = (m ≡ 0) ⊎ (P.q ≤ 2 * users_of P * m)

  abbrev pub CapRefused : Type 0
  CapRefused = (cap_fits P m ≡ false) ↔ NoRoom

  -- "after 2, with 1 before 2 in every signed call": the answer is 16 exactly for a good plan and such a cap, whatever else is handed over
  abbrev pub RefusesCap : Code → Type 0
  RefusesCap c = ◌≡◌ {A = ℕ} c.number 16 ↔ ((accepted ≡ plan_code P) × NoRoom)

  abbrev pub SixteenExactly : Type 0
  SixteenExactly =
      (L : ℕ) (R : List ℤ) (a b : List ℕ)
      → RefusesCap (signed_upload_code P m L R a b) × RefusesCap (signed_unmask_code P m L a b R) × RefusesCap (totals_code P m L a R)

  -- "15 when a reading is outside the cap, after 4 and before 3": the answer to an upload is 15 exactly where 1, 2, 16, 9 and 4 are not given and some reading
  -- is outside, whatever numbers the key has
  abbrev pub FifteenExactly : Type 0
  FifteenExactly =
      (L : ℕ) (R : List ℤ) (key out : List ℕ)
      → ◌≡◌ {A = ℕ} (signed_upload_code P m L R key out).number 15
      ↔ ((accepted ≡ plan_code P) × (cap_fits P m ≡ true) × (length_fits L ≡ true) × (length R ≡ L) × (length key ≡ L) × (length out ≡ L)
      × (all_in_cap m R ≡ false))

-- "With q 65,521 and 16 meters m may be 2,047 and not 2,048."
abbrev pub CapOfSixteen : Type 0
CapOfSixteen = (P : Plan) → P.q ≡ 65521 → users_of P ≡ 16 → (cap_fits P 2047 ≡ true) × (cap_fits P 2048 ≡ false)

module _ (P : Plan) (m : ℕ) (cap : cap_fits P m ≡ true) where
  -- "A negative reading w travels as q + w.": inside the cap, both ends included; any other reading as itself; what travels is a symbol
  abbrev pub Travels : Type 0
  Travels =
      0 < users_of P → (w : ℤ) → T (is_in_cap m w)
      → (symbol_of P.q w < P.q)
      × (w <ℤ pos 0 → pos (symbol_of P.q w) ≡ pos P.q +ℤ w)
      × (pos 0 ≤ℤ w → pos (symbol_of P.q w) ≡ w)

  -- and is shown as the reading
  abbrev pub ThereAndBack : Type 0
  ThereAndBack = 0 < users_of P → (w : ℤ) → T (is_in_cap m w) → shown_of P.q (symbol_of P.q w) ≡ w

  module _ (K : List ℕ) (L : ℕ) (R : List ℤ) (N : List ℕ) where
    abbrev W : List ℕ
    W = travelling P.q R

    -- where user i uploads its own readings, inside the cap, with its individual key into any buffer of L symbols, nothing is refused, and the buffer holds
    -- document 000's upload (25) of the readings as they travel, whatever the others' readings are
    abbrev pub SignedUploadsAre : Type 0
    SignedUploadsAre =
        accepted ≡ plan_code P → length_fits L ≡ true → length R ≡ users_of P * L
        → (i : ℕ) → i < users_of P → T (all_in_cap m (take L (drop (i * L) R))) → (out : List ℕ) → length out ≡ L
        → (accepted ≡ signed_upload_code P m L (take L (drop (i * L) R)) (take L (drop (i * L) (keys_of P K L N))) out)
        × (signed_upload_after P m L (take L (drop (i * L) R)) (take L (drop (i * L) (keys_of P K L N))) out ≡ tab L (upload (pool_of P K) L W N i))

    -- "Where demand 2 gives the total, the shown one equals the true sum of the readings.": over demand 2's own hypotheses (Demands, TotalIsSum), of a plan
    -- that 1 and 2 don't refuse. What the server gives out into any buffer of L symbols is shown into any buffer of L numbers, without a refusal, as the true
    -- sums. That `signed_upload` writes the blocks which the frames carry is SignedUploadsAre
    abbrev pub ShownIsTrue : Type 0
    ShownIsTrue =
        (round : ℕ) → accepted ≡ plan_code P → length R ≡ users_of P * L → T (all_in_cap m R)
        → ZeroSum (pool_of P K) → opens P K L W N round true
        → (first : ℕ → ℕ) (events : ℕ → List Event) (frames : List Frame) → AllHeard P K L W N round first events frames
        → (out : List ℕ) (shown : List ℤ) → length out ≡ L → length shown ≡ L
        → (accepted ≡ totals_code P m L (sums_after P.clusters true (run_of P.clusters true (opening P K L W N round) frames) out) shown)
        × (totals_after P m L (sums_after P.clusters true (run_of P.clusters true (opening P K L W N round) frames) out) shown
        ≡ tab L (λ p. true_sum (users_of P) (λ i. signed_reading L R i p)))

  -- "A total symbol t is shown as t when 2 × t is below q and as t − q otherwise.", and so is what is left of an upload without its key: any symbols, from
  -- wherever they come, and whatever comes out
  module _ (L : ℕ) (plan : accepted ≡ plan_code P) (fits : length_fits L ≡ true) (out : List ℤ) (room : length out ≡ L) where
    abbrev pub AnyTotalsShown : Type 0
    AnyTotalsShown =
        (totals : List ℕ) → Vector P.q L totals
        → (accepted ≡ totals_code P m L totals out) × (totals_after P m L totals out ≡ map (shown_of P.q) totals)

    abbrev pub AnyUnmasked : Type 0
    AnyUnmasked =
        (sent key : List ℕ) → Vector P.q L sent → Vector P.q L key
        → (accepted ≡ signed_unmask_code P m L sent key out) × (signed_unmask_after P m L sent key out ≡ map (shown_of P.q) (unmasked_of P.q L sent key))

  -- "Secrecy is claimed, and leaking is judged, over all symbols as before, and the same verdict is shown right over the readings inside each cap that 16
  -- doesn't refuse.": a pair leaks among the readings inside the cap exactly where it leaks, and so does a joint observer
  module _ (K : List ℕ) (others : accepted ≡ first_of (other_checks P K)) where
    abbrev pub LeaksAlike : Type 0
    LeaksAlike = (g w : ℕ) → PairLeak (pool_of P K) g w ↔ SignedPairLeak (pool_of P K) m g w

    abbrev pub JointLeaksAlike : Type 0
    JointLeaksAlike = (u w g : ℕ) → JointLeak (pool_of P K) u w g ↔ SignedJointLeak (pool_of P K) m u w g

    -- so 7 is given exactly where some pair leaks inside the cap, and names the first
    abbrev pub RefusedIffSignedLeaks : Type 0
    RefusedIffSignedLeaks = ◌≡◌ {A = ℕ} (vet_code P K).number 7 ↔ ((g : ℕ) × (w : ℕ) × InWalk P g w × SignedPairLeak (pool_of P K) m g w)

    abbrev pub NamesFirstSigned : Type 0
    NamesFirstSigned =
        (p : Pair)
        → (vet_code P K ≡ record { number = 7; first = p.coalition; second = p.observer })
        ↔ First (λ p. SignedPairLeak (pool_of P K) m p.coalition p.observer) (pairs P.clusters P.size P.limit) p

  -- inside the cap, sets of readings agree on a total modulo the prime exactly where they agree on the true sum
  abbrev pub SumsAlike : Type 0
  SumsAlike =
      (K : List ℕ) (L : ℕ) (R R' : List ℤ) → Capped (pool_of P K) m L R → Capped (pool_of P K) m L R' → (p : ℕ) → p < L
      → (total (pool_of P K) L (travelling P.q R) p ≡ total (pool_of P K) L (travelling P.q R') p)
      ↔ (true_sum (users_of P) (λ i. signed_reading L R i p) ≡ true_sum (users_of P) (λ i. signed_reading L R' i p))

  -- and an accepted plan has equal numbers for readings that agree as signed numbers and, for the server, on the total modulo the prime
  abbrev pub SignedEqualNumbers : Type 0
  SignedEqualNumbers =
      (K : List ℕ) → accepted ≡ vet_code P K
      → (g w : ℕ) → InWalk P g w
      → (L : ℕ) → 1 ≤ L → L ≤ longest
      → (R R' : List ℤ) → Capped (pool_of P K) m L R → Capped (pool_of P K) m L R' → SignedAgrees (pool_of P K) g w L R R'
      → (s : List ℕ)
      → signed_showing (pool_of P K) (view (pool_of P K) g w) L R s ≡ signed_showing (pool_of P K) (view (pool_of P K) g w) L R' s

  -- the same of relays a and b under one lock (JointRelays)
  module _ (K : List ℕ) (a b : ℕ) where
    abbrev pub SignedJointHides : Type 0
    SignedJointHides =
        accepted ≡ joint_code P K (relay_pair a b) → (g : ℕ) → Few P K g → (L : ℕ) → 1 ≤ L → L ≤ longest
        → (R R' : List ℤ) → Capped (pool_of P K) m L R → Capped (pool_of P K) m L R' → SignedAgree (pool_of P K) g L R R' → (s : List ℕ)
        → signed_showing (pool_of P K) (set_view (pool_of P K) (in_either (pool_of P K) (a - 1) (b - 1)) g) L R s
        ≡ signed_showing (pool_of P K) (set_view (pool_of P K) (in_either (pool_of P K) (a - 1) (b - 1)) g) L R' s

    abbrev pub RefusedIffSignedJointLeaks : Type 0
    RefusedIffSignedJointLeaks =
        accepted ≡ vet_code P K → relays_fit P a b ≡ true
        → ◌≡◌ {A = ℕ} (joint_code P K (relay_pair a b)).number 19 ↔ ((g : ℕ) × Few P K g × SignedJointLeak (pool_of P K) m (a - 1) (b - 1) g)

    abbrev pub NamesLeastSigned : Type 0
    NamesLeastSigned =
        ◌≡◌ {A = ℕ} (joint_code P K (relay_pair a b)).number 19
        → (g : ℕ)
        × (joint_code P K (relay_pair a b) ≡ record { number = 19; first = g; second = 0 })
        × Few P K g
        × SignedJointLeak (pool_of P K) m (a - 1) (b - 1) g
        × ((h : ℕ) → h < g → Few P K h → ¬ (SignedJointLeak (pool_of P K) m (a - 1) (b - 1) h))

-- "Taking a key off shows the reading likewise, and never gives 15.": where signed readings are uploaded, taking the key off what is sent is not refused, and
-- writes the readings; and whatever is handed over, the answer is not 15
abbrev pub SignedUnmasks : Type 0
SignedUnmasks =
    (P : Plan) (m n L : ℕ) (R : List ℤ) (key out : List ℕ) (back : List ℤ)
    → accepted ≡ signed_upload_code P m L R key out → cap_fits P n ≡ true → length back ≡ L
    → (accepted ≡ signed_unmask_code P n L (signed_upload_of P L R key) key back)
    × (signed_unmask_after P n L (signed_upload_of P L R key) key back ≡ R)

abbrev pub NeverOutside : Type 0
NeverOutside = (P : Plan) (m L : ℕ) (upload key : List ℕ) (out : List ℤ) → (signed_unmask_code P m L upload key out).number ≢ 15

-- The frames of a trial: each relay hears everyone of its cluster, and the server every relay.
use Rattle.std.specs.Prelude.{Result, Ok}
use Prim.Native.Nat.{ℕ, zero, suc, ◌+◌, ◌-◌, ◌*◌, ◌/◌, ◌%◌, ◌≤◌, ◌<◌}
use mathlib.Core.Path.{◌≡◌, refl, sym, ap, ap₂, ◌∙◌, subst}
use mathlib.Core.Bool.{Bool, true, false, cond, ◌&&◌}
use mathlib.Core.List.{List, [], ◌∷◌, map}
use mathlib.Core.Logic.{⊎_elim}
use native.Mathlib.Nat.{mod-lt, div-add-mod'}
use native.Mathlib.Omega.{arith}
use lib.Arith.{digits_lt, digits_div, digits_mod}
use lib.Dec.{T, eqb, eqb→eq}
use lib.ListN.{length, take, drop}
use borrow.Author.Tests.{eq-eqb, le-leb, eqb-true}
use Rattle.refusals.specs.declared.Code.{Code}
use Rattle.refusals.specs.declared.Refusal.{Refusal}
use Rattle.refusals.specs.Codes.{accepted, code_of, is_accepted, first_of}
use Rattle.refusals.proofs.CodeLaws.{refusal-refuses, accepted-takes}
use Rattle.lists.specs.Lists.{at, All, tab}
use Rattle.lists.specs.Sums.{sum_to}
use Rattle.lists.proofs.Fronts.{length_part, part_at}
use Rattle.lists.proofs.ListLaws.{at-tab, length-tab}
use Rattle.lists.proofs.Searches.{T→true, true→T, T-or, or_left, or_right}
use Rattle.lists.proofs.Sums.{sum-cong}
use Rattle.residues.specs.Primes.{is_prime, all_below}
use Rattle.residues.proofs.PrimeLaws.{below_at, at-below, prime-pos, true-prime}
use Rattle.plans.specs.declared.Plan.{Plan}
use Rattle.plans.specs.Plans.{in_bounds}
use Rattle.plans.proofs.PlanBounds.{Counts, Bounds, bounds-known}
use Rattle.rounds.specs.declared.RelayRound.{RelayRound}
use Rattle.rounds.specs.Ledger.{Frame, frame, named}
use Rattle.rounds.specs.declared.Round.{Round}
use Rattle.rounds.specs.declared.ServerRound.{ServerRound}
use Rattle.rounds.specs.Rounds.{one_of, open_checks, open_code, opened, open_round, no_round, stepped}
use Rattle.rounds.specs.Rounds.{run_of, sums_after, server_round, server_run, server_give_code, give_code, server_sums}
use Rattle.rounds.proofs.Runs.{step-clusters, server-run}
use Rattle.rounds.specs.Relays.{relay_round, nothing, relay_opened, relay_next, heard, relay_run, relay_give_code, relay_sums}
use Rattle.trials.specs.Drawing.{among, frame_of, run_from, relay_frames, Sent, Relayed}
use Rattle.trials.proofs.HeardLaws.{Fine, relay-gives, server-gives}

pub no_frames : (n : ℕ) (l : List Frame) → length l ≤ n → drop n l ≡ []
no_frames zero [] h = refl
no_frames zero (x ∷ l) h = absurd (omega arith)
no_frames (suc n) [] h = refl
no_frames (suc n) (x ∷ l) h = no_frames n l (omega arith)

-- a part of a list of symbols
pub part-below : (q n b : ℕ) (l : List ℕ) → 0 < q → b + n ≤ length l → all_below q l ≡ true → all_below q (take n (drop b l)) ≡ true
part-below q n b l pos h e =
    T→true (all_below q (take n (drop b l)))
    (at-below q (take n (drop b l))
    (λ i k.
    let j : i < n = omega (arith, length_part n b l h) in
    subst (λ (x : ℕ). x < q) (sym (part_at n b l i j)) (below_at q l pos (true→T (all_below q l) e) (b + i))))

-- nobody is refused where the checks accept
pub never-refused : (r : Refusal) (c : Code) → code_of r ≡ c → accepted ≡ c → ⊥
never-refused r c e f = subst (λ (b : Bool). T b) (ap is_accepted (f ∙ sym e) ∙ refusal-refuses r) tt

-- what a call without refusals hands over
pub handed-over : {A : Type 0} {x y : A} → ◌≡◌ {A = Result A Refusal} (Ok x) (Ok y) → x ≡ y
handed-over e = cc

-- a round of a good plan opens
opens : (P : Plan) (known : Bool) → in_bounds P ≡ true → is_prime P.q ≡ true → known ≡ true → accepted ≡ first_of (open_checks P.clusters P.size P.q 1 known)
opens P known b p k =
    let c : Counts P.clusters P.size P.limit = (bounds-known P b).counts in
    sym
    (rw (
      le-leb 1 P.clusters c.some-clusters,
      le-leb P.clusters 8 c.few-clusters,
      le-leb 1 P.size c.some_size,
      le-leb P.size 8 c.few-size,
      le-leb (P.clusters * P.size) 16 c.few-users,
      le-leb 0 (P.clusters * P.size) (omega arith),
      p,
      k,
    ))

-- ---- one relay: its cluster's number from 1

module _ (P : Plan) (cluster number : ℕ) (uploads : List ℕ) where
  abbrev own : ℕ → Frame
  own = frame_of P cluster number uploads

  -- the frames of those of the cluster, in their order
  unfoldable own_frames : List ℕ → List Frame
  own_frames [] = []
  own_frames (i ∷ l) = cond (eqb (i / P.size + 1) cluster) (own i ∷ own_frames l) (own_frames l)

  run-frames : (l : List ℕ) (R : RelayRound) → run_from P cluster number uploads R l ≡ relay_run R (map heard (own_frames l))
  unfolding run_from relay_run own_frames
  run-frames [] R = refl
  run-frames (i ∷ l) R = go (λ X. run-frames l X) (eqb (i / P.size + 1) cluster)
    where
      go : ((X : RelayRound) → run_from P cluster number uploads X l ≡ relay_run X (map heard (own_frames l))) → (b : Bool)
          → run_from P cluster number uploads (cond b (relay_next R (own i)) R) l ≡ relay_run R (map heard (cond b (own i ∷ own_frames l) (own_frames l)))
      go rest true = rest (relay_next R (own i))
      go rest false = rest R

  -- the block of user s of the cluster, from 1
  abbrev block_of : ℕ → List ℕ
  block_of s = take 1 (drop ((cluster - 1) * P.size + (s - 1)) uploads)

  module _ (some : 1 ≤ P.size) (pos : 0 < P.q) (below : all_below P.q uploads ≡ true) where
    own-fine : (i : ℕ) → i < length uploads → i / P.size + 1 ≡ cluster → Fine P.size P.q number block_of (own i)
    own-fine i h e =
        let low : i % P.size < P.size = mod-lt i (omega arith) in
        let up : i / P.size ≡ cluster - 1 = omega arith in
        let place : i ≡ (cluster - 1) * P.size + (i % P.size + 1 - 1) = omega (arith, div-add-mod' i P.size, ap (λ (z : ℕ). z * P.size) up) in
        record {
          some = omega arith;
          few = omega arith;
          same = refl;
          long = length_part 1 i uploads (omega arith);
          below = part-below P.q 1 i uploads pos (omega arith) below;
          carries = ap (λ (j : ℕ). take 1 (drop j uploads)) place;
        }

    own-all : (l : List ℕ) → All (λ i. i < length uploads) l → All (Fine P.size P.q number block_of) (own_frames l)
    unfolding own_frames
    own-all [] a = tt
    own-all (i ∷ l) a = go (own-all l a.1) (eqb (i / P.size + 1) cluster) refl
      where
        go : All (Fine P.size P.q number block_of) (own_frames l) → (b : Bool) → eqb (i / P.size + 1) cluster ≡ b → All (Fine P.size P.q number block_of) (cond b (own i ∷ own_frames l) (own_frames l))
        go rest true e = (own-fine i a.0 (eqb-true (i / P.size + 1) cluster e), rest)
        go rest false e = rest

  -- who is in the order is heard by its relay
  own-named : (v : ℕ) → v < P.size → 1 ≤ cluster → (l : List ℕ) → T (among ((cluster - 1) * P.size + v) l) → T (named (own_frames l) (suc v))
  unfolding among named own_frames
  own-named v h c [] t = absurd t
  own-named v h c (x ∷ l) t = ⊎_elim first (λ w. more (eqb (x / P.size + 1) cluster) (own-named v h c l w)) (T-or (eqb x ((cluster - 1) * P.size + v)) (among ((cluster - 1) * P.size + v) l) t)
    where
      more : (b : Bool) → T (named (own_frames l) (suc v)) → T (named (cond b (own x ∷ own_frames l) (own_frames l)) (suc v))
      more true w = or_right (eqb (x % P.size + 1) (suc v)) (named (own_frames l) (suc v)) w
      more false w = w

      first : T (eqb x ((cluster - 1) * P.size + v)) → T (named (cond (eqb (x / P.size + 1) cluster) (own x ∷ own_frames l) (own_frames l)) (suc v))
      first w =
          let e : x ≡ (cluster - 1) * P.size + v = eqb→eq x ((cluster - 1) * P.size + v) w in
          let row : x / P.size ≡ cluster - 1 = ap (λ (z : ℕ). z / P.size) e ∙ digits_div (cluster - 1) h in
          let place : x % P.size ≡ v = ap (λ (z : ℕ). z % P.size) e ∙ digits_mod (cluster - 1) h in
          subst (λ (b : Bool). T (named (cond b (own x ∷ own_frames l) (own_frames l)) (suc v)))
          (sym (eq-eqb (x / P.size + 1) cluster (omega arith)))
          (or_left (eqb (x % P.size + 1) (suc v)) (named (own_frames l) (suc v)) (true→T _ (eq-eqb (x % P.size + 1) (suc v) (omega arith))))

pub relay-opens : (P : Plan) (cluster : ℕ) (uploads order : List ℕ) → 1 ≤ cluster → cluster ≤ P.clusters → Sent P uploads order
    → accepted ≡ open_code P.clusters P.size P.q 1 (one_of P.clusters cluster)
relay-opens P cluster uploads order low high s =
    opens P (one_of P.clusters cluster) s.bounds s.prime (ap₂ ◌&&◌ (le-leb 1 cluster low) (le-leb cluster P.clusters high))

-- after all have sent, the relay gives out the sum of its cluster's uploads
pub relay-sum-is : (P : Plan) (cluster number : ℕ) (uploads order out : List ℕ) → 1 ≤ cluster → cluster ≤ P.clusters → Sent P uploads order → length out ≡ 1
    → (let R = run_from P cluster number uploads (relay_opened P.clusters P.size P.q 1 cluster number) order in
    (at (relay_sums R out) 0 ≡ sum_to P.size (λ v. at uploads ((cluster - 1) * P.size + v)) % P.q) × (accepted ≡ relay_give_code R out) × (length (relay_sums R out) ≡ 1))
relay-sum-is P cluster number uploads order out low high s room =
    let b : Bounds P = bounds-known P s.bounds in
    let pos : 0 < P.q = prime-pos (true-prime P.q s.prime) in
    let pass = relay-opens P cluster uploads order low high s in
    let R₀ : RelayRound = relay_round cluster (opened P.clusters P.size P.q 1 number) nothing in
    let B : ℕ → List ℕ = block_of P cluster number uploads in
    let f : ℕ → ℕ = λ p. sum_to P.size (λ v. at (B (suc v)) p) % P.q in
    let opened-as : relay_opened P.clusters P.size P.q 1 cluster number ≡ R₀ =
    accepted-takes (open_code P.clusters P.size P.q 1 (one_of P.clusters cluster)) R₀ (relay_round 0 no_round nothing) pass in
    let run : run_from P cluster number uploads (relay_opened P.clusters P.size P.q 1 cluster number) order ≡ relay_run R₀
    (map heard (own_frames P cluster number uploads order)) =
    ap (λ (X : RelayRound). run_from P cluster number uploads X order) opened-as ∙ run-frames P cluster number uploads order R₀ in
    let (told, given) = relay-gives P.clusters P.size P.q cluster number pass B (own_frames P cluster number uploads order)
    (own-all P cluster number uploads b.counts.some_size pos s.below order s.users)
    (λ v h. own-named P cluster number uploads v h low order (s.everyone ((cluster - 1) * P.size + v) (digits_lt (omega arith) h))) out room in
    let sums : relay_sums (run_from P cluster number uploads (relay_opened P.clusters P.size P.q 1 cluster number) order) out ≡ tab 1 f =
    ap (λ (X : RelayRound). relay_sums X out) run ∙ given in (
      ap (λ (l : List ℕ). at l 0) sums
          ∙ at-tab 1 f 0 (omega arith)
          ∙ ap (λ (z : ℕ). z % P.q)
          (sum-cong P.size (λ v. at (B (suc v)) 0) (λ v. at uploads ((cluster - 1) * P.size + v))
          (λ v h. part_at 1 ((cluster - 1) * P.size + (suc v - 1)) uploads 0 (omega arith) ∙ ap (at uploads) (omega arith))),
      sym (ap (λ (X : RelayRound). relay_give_code X out) run ∙ told),
      ap length sums ∙ length-tab 1 f,
    )

-- ---- the server

module _ (number q : ℕ) (sums : List ℕ) where
  abbrev sum_of_relay : ℕ → List ℕ
  sum_of_relay s = take 1 (drop (s - 1) sums)

  abbrev relay_frame : ℕ → Frame
  relay_frame u = frame (suc u) number (take 1 (drop u sums))

  relay-fine : 0 < q → all_below q sums ≡ true → (u : ℕ) → u < length sums → Fine (length sums) q number sum_of_relay (relay_frame u)
  relay-fine pos below u h =
      record {
        some = omega arith;
        few = omega arith;
        same = refl;
        long = length_part 1 u sums (omega arith);
        below = part-below q 1 u sums pos (omega arith) below;
        carries = let e : u ≡ suc u - 1 = omega arith in ap (λ (j : ℕ). take 1 (drop j sums)) e;
      }

pub all-tab : {A : Type 0} (Q : A → Type 0) (n : ℕ) (f : ℕ → A) → ((k : ℕ) → k < n → Q (f k)) → All Q (tab n f)
unfolding tab
all-tab Q zero f h = tt
all-tab Q (suc n) f h = (h 0 (omega arith), all-tab Q n (λ k. f (suc k)) (λ k l. h (suc k) (omega arith)))

named-tab : (n : ℕ) (f : ℕ → Frame) (s k : ℕ) → k < n → (f k).sender ≡ s → T (named (tab n f) s)
unfolding tab named
named-tab zero f s k h e = absurd (omega arith)
named-tab (suc n) f s zero h e = or_left (eqb (f 0).sender s) (named (tab n (λ k. f (suc k))) s) (true→T _ (eq-eqb (f 0).sender s e))
named-tab (suc n) f s (suc k) h e =
    or_right (eqb (f 0).sender s) (named (tab n (λ k. f (suc k))) s) (named-tab n (λ k. f (suc k)) s k (omega arith) e)

run-clusters : (senders : ℕ) (frames : List Frame) (R : Round) → (run_of senders true R frames).clusters ≡ R.clusters
unfolding run_of
run-clusters senders [] R = refl
run-clusters senders (f ∷ frames) R = run-clusters senders frames (stepped senders true R f) ∙ step-clusters senders true R f

pub server-opens : (P : Plan) (sums : List ℕ) → Relayed P sums → accepted ≡ open_code P.clusters P.size P.q 1 true
server-opens P sums s = opens P true s.bounds s.prime refl

-- after all relays have sent, the server gives out the sum of their sums
pub total-is : (P : Plan) (number : ℕ) (sums out : List ℕ) → Relayed P sums → length out ≡ 1
    → (let R = server_run (server_round (open_round P.clusters P.size P.q 1 true number)) (relay_frames number sums) in
    (at (server_sums R out) 0 ≡ sum_to P.clusters (at sums) % P.q) × (accepted ≡ server_give_code R out) × (length (server_sums R out) ≡ 1))
total-is P number sums out s room =
    let pos : 0 < P.q = prime-pos (true-prime P.q s.prime) in
    let pass = server-opens P sums s in
    let D : Round = opened P.clusters P.size P.q 1 number in
    let F : List Frame = relay_frames number sums in
    let B : ℕ → List ℕ = sum_of_relay number P.q sums in
    let f : ℕ → ℕ = λ p. sum_to P.clusters (λ v. at (B (suc v)) p) % P.q in
    let run : server_run (server_round (open_round P.clusters P.size P.q 1 true number)) F ≡ server_round (run_of P.clusters true D F) =
    ap (λ (X : Round). server_run (server_round X) F) (accepted-takes (open_code P.clusters P.size P.q 1 true) D no_round pass)
    ∙ server-run (server_round D) F in
    let fine : All (Fine P.clusters P.q number B) F =
    subst (λ (n : ℕ). All (Fine n P.q number B) F) s.size
    (all-tab (Fine (length sums) P.q number B) (length sums) (relay_frame number P.q sums) (relay-fine number P.q sums pos s.below)) in
    let (told, given) = server-gives P.clusters P.size P.q number pass B F fine
    (λ v h. named-tab (length sums) (relay_frame number P.q sums) (suc v) v (omega (arith, s.size)) refl) out room in
    let clusters-same : (run_of P.clusters true D F).clusters ≡ P.clusters = run-clusters P.clusters F D in
    let sums-are : server_sums (server_run (server_round (open_round P.clusters P.size P.q 1 true number)) F) out ≡ tab 1 f =
    ap (λ (X : ServerRound). server_sums X out) run ∙ ap (λ (n : ℕ). sums_after n true (run_of P.clusters true D F) out) clusters-same ∙ given in (
      ap (λ (l : List ℕ). at l 0) sums-are
          ∙ at-tab 1 f 0 (omega arith)
          ∙ ap (λ (z : ℕ). z % P.q)
          (sum-cong P.clusters (λ v. at (B (suc v)) 0) (at sums)
          (λ v h. part_at 1 (suc v - 1) sums 0 (omega arith) ∙ ap (at sums) (omega arith))),
      sym
          (ap (λ (X : ServerRound). server_give_code X out) run ∙ ap (λ (n : ℕ). give_code n true (run_of P.clusters true D F) out) clusters-same ∙ told),
      ap length sums-are ∙ length-tab 1 f,
    )

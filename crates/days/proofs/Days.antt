-- An accepted plan has equal numbers for whole days: of one observer, of readings as they are signed, and of two relays under one lock.
use Prim.Native.Nat.{ℕ, zero, suc, ◌+◌, ◌-◌, ◌*◌, ◌%◌, ◌^◌, ◌≤◌, ◌<◌}
use mathlib.Core.Path.{◌≡◌, refl, sym, ap, ◌∙◌, subst}
use mathlib.Core.Bool.{Bool, true, false, cond, ◌&&◌}
use mathlib.Core.List.{List, [], map}
use native.Mathlib.Omega.{arith}
use lib.Arith.{digits_lt}
use lib.Dec.{T, ltb, ltb→lt}
use lib.IntN.{ℤ}
use lib.ListN.{length, take, drop}
use Rattle.refusals.specs.Codes.{accepted}
use Rattle.lists.specs.Lists.{at, tab}
use Rattle.lists.specs.Sums.{sum_to, how_many}
use Rattle.lists.proofs.Searches.{T_and, true→T, or_left, or_right}
use Rattle.lists.proofs.ListLaws.{tab-cong}
use Rattle.lists.proofs.Sums.{sum-cong}
use Rattle.residues.proofs.PrimeLaws.{prime-pos}
use Rattle.secrecy.specs.Model.{Pool, in_coalition, in_cluster, in_either, upload, known, set_view, view}
use Rattle.secrecy.specs.Leaks.{keys_showing, places, Agree, Agrees}
use Rattle.secrecy.proofs.LeakTest.{set-places}
use Rattle.secrecy.proofs.ViewParts.{set-block}
use Rattle.plans.specs.declared.Plan.{Plan}
use Rattle.plans.specs.Plans.{users_of}
use Rattle.vetting.specs.Pools.{pool_of}
use Rattle.vetting.specs.Walk.{InWalk}
use Rattle.vetting.specs.Vet.{vet_code}
use Rattle.vetting.specs.Joint.{relay_pair, joint_code}
use Rattle.vetting.proofs.PlanLaws.{vetted}
use Rattle.vetting.proofs.ExactSecrecy.{accepted-equal-numbers}
use Rattle.vetting.proofs.JointLaws.{relays-known}
use Rattle.vetting.proofs.JointTheorems.{accepted-fits, accepted-vet, accepted-pair-equal}
use Rattle.rounds.specs.Rounds.{one_of}
use Rattle.signed.specs.Numbers.{symbol_of}
use Rattle.signed.specs.Caps.{cap_fits}
use Rattle.signed.specs.SignedLeaks.{SignedAgree, SignedAgrees, Capped}
use Rattle.signed.proofs.CapLaws.{cap-known}
use Rattle.signed.proofs.SignedLaws.{symbols-vector}
use Rattle.signed.proofs.Secrecy.{members_alike, agrees-alike}
use Rattle.signed.proofs.Uploads.{signed-uploads-are}
use Rattle.days.specs.Runs.{Run, Lengths, source_key, seen_of, uploads_of, senders, sent, sent_in, DaysAgree}
use Rattle.days.specs.Runs.{day_travelling, signed_uploads_of, SignedDaysAgree}
use Rattle.days.specs.Machines.{Entry, transcript}
use Rattle.days.specs.Observers.{RelayCall, relay_machine, machine_of}
use Rattle.days.specs.Days.{DayView, day_view, signed_day_view, JointDay, joint_day, signed_joint_day, runs_showing}
use Rattle.days.proofs.DayViews.{one-of, in-own, sent_from, sent_is, from-numbers, day-numbers, known-numbers}

module _ (P : Plan) (K : List ℕ) where
  abbrev pool : Pool
  pool = pool_of P K

  -- ---- one observer

  module _ (e : accepted ≡ vet_code P K) (g w : ℕ) (i : InWalk P g w) (run : Run) (lengths : Lengths run)
      (schedule : List (Entry (machine_of pool w).Call)) (test : DayView (machine_of pool w) → Bool) where
    pub equal-days : (W W' : ℕ → List ℕ) → DaysAgree pool run (Agrees pool g w) W W'
        → (runs_showing pool run (day_view pool run w schedule (known pool g) W) test
        ≡ runs_showing pool run (day_view pool run w schedule (known pool g) W') test)
        × (runs_showing pool run (day_view pool run w schedule (view pool g w) W) test
        ≡ runs_showing pool run (day_view pool run w schedule (view pool g w) W') test)
    equal-days W W' a =
        let pos : 0 < P.q = prime-pos (vetted P K e).prime in
        let each : (k : ℕ) → k < run.rounds → (s : List ℕ)
        → keys_showing P.q P.rate (view pool g w) (run.length k) (W k) s ≡ keys_showing P.q P.rate (view pool g w) (run.length k) (W' k) s
        = λ k l.
        accepted-equal-numbers P K e g w i (run.length k) (lengths.low k l) (lengths.high k l) (W k) (W' k) (a.symbols k l) (a.symbols' k l)
        (a.same k l) in (
          known-numbers pool run g w pos i.observer schedule (Agrees pool g w) W W' a each test,
          day-numbers pool run g w pos i.observer schedule (Agrees pool g w) W W' a each test,
        )

  -- ---- signed readings: what is sent is what is sent of them as they travel

  module _ (pos : 0 < P.q) (run : Run) (R : ℕ → List ℤ) (size : (k : ℕ) → k < run.rounds → length (R k) ≡ users_of P * run.length k) where
    abbrev W : ℕ → List ℕ
    W = day_travelling P.q R

    upload-travels : (N : List ℕ) (k : ℕ) → k < run.rounds → (i : ℕ) → i < users_of P → signed_uploads_of P K run R N k i ≡ uploads_of pool run W N k i
    upload-travels N k l = signed-uploads-are pool pos (run.length k) (R k) (source_key pool run N k) (size k l)

    sent-travels : (w : ℕ) → w ≤ P.clusters → (N : List ℕ) (k : ℕ) → k < run.rounds → (s : ℕ) → T (one_of (senders pool w) s)
        → sent pool (run.length k) (signed_uploads_of P K run R N k) w s ≡ sent pool (run.length k) (uploads_of pool run W N k) w s
    sent-travels zero h N k l s t =
        let u : ℕ = s - 1 in
        tab-cong (run.length k) (λ p. sum_to P.size (λ v. at (signed_uploads_of P K run R N k (u * P.size + v)) p) % P.q)
        (λ p. sum_to P.size (λ v. at (uploads_of pool run W N k (u * P.size + v)) p) % P.q)
        (λ p _.
        ap (λ (z : ℕ). z % P.q)
        (sum-cong P.size (λ v. at (signed_uploads_of P K run R N k (u * P.size + v)) p) (λ v. at (uploads_of pool run W N k (u * P.size + v)) p)
        (λ v c. ap (λ (b : List ℕ). at b p) (upload-travels N k l (u * P.size + v) (digits_lt (one-of P.clusters s t) c)))))
    sent-travels (suc u) h N k l s t = upload-travels N k l (u * P.size + (s - 1)) (digits_lt h (one-of P.size s t))

    sent-in-travels : (w : ℕ) → w ≤ P.clusters → (N : List ℕ) (k s : ℕ)
        → sent_in pool run (signed_uploads_of P K run R N) w k s ≡ sent_in pool run (uploads_of pool run W N) w k s
    unfolding sent_in
    sent-in-travels w h N k s = go (ltb k run.rounds && one_of (senders pool w) s) refl
      where
        go : (t : Bool) → (ltb k run.rounds && one_of (senders pool w) s) ≡ t
            → cond t (sent pool (run.length k) (signed_uploads_of P K run R N k) w s) []
            ≡ cond t (sent pool (run.length k) (uploads_of pool run W N k) w s) []
        go true e =
            let (l, o) = T_and (ltb k run.rounds) (one_of (senders pool w) s) (true→T (ltb k run.rounds && one_of (senders pool w) s) e) in
            sent-travels w h N k (ltb→lt k run.rounds l) s o
        go false e = refl

    pub day-travels : (w : ℕ) → w ≤ P.clusters → (schedule : List (Entry (machine_of pool w).Call)) (see : ℕ → List ℕ → List ℕ → List ℕ) (N : List ℕ)
        → signed_day_view P K run w schedule see R N ≡ day_view pool run w schedule see W N
    day-travels w h schedule see N =
        ap (λ (B : ℕ → ℕ → List ℕ). (seen_of pool run see W N, transcript (machine_of pool w) run.number B schedule))
        (λ i k s. sent-in-travels w h N k s i)

  -- signed readings that agree do so as they travel
  module _ (m : ℕ) (cap : cap_fits P m ≡ true) (e : accepted ≡ vet_code P K) (g : ℕ) (run : Run) (R R' : ℕ → List ℤ) where
    members-travel : (L : ℕ) (S S' : List ℤ) → Capped pool m L S → Capped pool m L S' → SignedAgree pool g L S S'
        → Agree pool g L (map (symbol_of P.q) S) (map (symbol_of P.q) S')
    members-travel L S S' c c' = (members_alike pool m (cap-known P m cap) L S S' c c' g).0

    totals-travel : (w L : ℕ) (S S' : List ℤ) → Capped pool m L S → Capped pool m L S' → SignedAgrees pool g w L S S'
        → Agrees pool g w L (map (symbol_of P.q) S) (map (symbol_of P.q) S')
    totals-travel w L S S' c c' = (agrees-alike pool m (cap-known P m cap) L S S' c c' g w).0

    days-travel : (signed : ℕ → List ℤ → List ℤ → Type 0) (agrees : ℕ → List ℕ → List ℕ → Type 0)
        → ((L : ℕ) (S S' : List ℤ) → Capped pool m L S → Capped pool m L S' → signed L S S'
        → agrees L (map (symbol_of P.q) S) (map (symbol_of P.q) S'))
        → SignedDaysAgree pool run m signed R R' → DaysAgree pool run agrees (day_travelling P.q R) (day_travelling P.q R')
    days-travel signed agrees travels a =
        let pos : 0 < P.q = prime-pos (vetted P K e).prime in
        record {
          symbols = λ k l. symbols-vector P.q (users_of P * run.length k) (R k) pos (a.capped k l).size;
          symbols' = λ k l. symbols-vector P.q (users_of P * run.length k) (R' k) pos (a.capped' k l).size;
          same = λ k l. travels (run.length k) (R k) (R' k) (a.capped k l) (a.capped' k l) (a.same k l);
        }

    -- and days that are equal as they travel are equal
    days-back : {A : Type 0} (signed : ℕ → List ℤ → List ℤ → Type 0) → SignedDaysAgree pool run m signed R R'
        → (day : (ℕ → List ℤ) → List ℕ → A) (travelled : (ℕ → List ℕ) → List ℕ → A) (test : A → Bool)
        → ((S : ℕ → List ℤ) → ((k : ℕ) → k < run.rounds → length (S k) ≡ users_of P * run.length k)
        → (N : List ℕ) → day S N ≡ travelled (day_travelling P.q S) N)
        → runs_showing pool run (travelled (day_travelling P.q R)) test ≡ runs_showing pool run (travelled (day_travelling P.q R')) test
        → runs_showing pool run (day R) test ≡ runs_showing pool run (day R') test
    days-back {A} signed a day travelled test is x =
        ap (λ (see : List ℕ → A). runs_showing pool run see test) (λ i N. is R (λ k l. (a.capped k l).size) N i)
        ∙ x
        ∙ sym (ap (λ (see : List ℕ → A). runs_showing pool run see test) (λ i N. is R' (λ k l. (a.capped' k l).size) N i))

  module _ (m : ℕ) (cap : cap_fits P m ≡ true) (e : accepted ≡ vet_code P K) (g w : ℕ) (i : InWalk P g w) (run : Run) (lengths : Lengths run)
      (schedule : List (Entry (machine_of pool w).Call)) (test : DayView (machine_of pool w) → Bool) (R R' : ℕ → List ℤ)
      (a : SignedDaysAgree pool run m (SignedAgrees pool g w) R R') where
    back : (see : ℕ → List ℕ → List ℕ → List ℕ)
        → runs_showing pool run (day_view pool run w schedule see (day_travelling P.q R)) test
        ≡ runs_showing pool run (day_view pool run w schedule see (day_travelling P.q R')) test
        → runs_showing pool run (signed_day_view P K run w schedule see R) test ≡ runs_showing pool run (signed_day_view P K run w schedule see R') test
    back see =
        days-back m cap e g run R R' (SignedAgrees pool g w) a (signed_day_view P K run w schedule see) (day_view pool run w schedule see) test
        (λ S size N. day-travels (prime-pos (vetted P K e).prime) run S size w i.observer schedule see N)

    pub signed-equal-days : (runs_showing pool run (signed_day_view P K run w schedule (known pool g) R) test
        ≡ runs_showing pool run (signed_day_view P K run w schedule (known pool g) R') test)
        × (runs_showing pool run (signed_day_view P K run w schedule (view pool g w) R) test
        ≡ runs_showing pool run (signed_day_view P K run w schedule (view pool g w) R') test)
    signed-equal-days =
        let (received, whole) = equal-days e g w i run lengths schedule test (day_travelling P.q R) (day_travelling P.q R')
        (days-travel m cap e g run R R' (SignedAgrees pool g w) (Agrees pool g w) (totals-travel m cap e g run R R' w) a) in
        (back (known pool g) received, back (view pool g w) whole)

  -- ---- two relays under one lock

  module _ (a b : ℕ) (e : accepted ≡ joint_code P K (relay_pair a b)) (g : ℕ) (in-plan : g < 2 ^ users_of P)
      (few : how_many (users_of P) (in_coalition g) ≤ P.limit) (run : Run) (lengths : Lengths run) (first second : List (Entry RelayCall)) where
    abbrev both : ℕ → Bool
    both = in_either pool (a - 1) (b - 1)

    abbrev joint : ℕ → List ℕ → List ℕ → List ℕ
    joint = set_view pool both g

    -- the block of sender s of cluster u
    abbrev cut : ℕ → ℕ → ℕ → List ℕ → List ℕ
    cut u L s v = take L (drop (how_many (u * P.size + (s - 1)) both * L) v)

    -- relay c is one of the two
    cuts : (c : ℕ) → 1 ≤ c → c ≤ P.clusters → ((i : ℕ) → T (in_cluster pool (c - 1) i) → T (both i))
        → (L : ℕ) (W N : List ℕ) (s : ℕ) → T (one_of (senders pool c) s)
        → cut (c - 1) L s (joint L W N) ≡ sent pool L (λ i. tab L (upload pool L W N i)) c s
    cuts zero low h seen L W N s t = absurd (omega arith)
    cuts (suc u) low h seen L W N s t =
        let l : s - 1 < P.size = one-of P.size s t in
        let i : ℕ = u * P.size + (s - 1) in
        let same : u ≡ suc u - 1 = omega arith in
        subst (λ (z : ℕ). cut z L s (joint L W N) ≡ tab L (upload pool L W N i)) same
        (set-block pool g L W N both i (digits_lt h l) (seen i (subst (λ (z : ℕ). T (in_cluster pool z i)) same (in-own pool u (s - 1) l))))

    in-first : (i : ℕ) → T (in_cluster pool (a - 1) i) → T (both i)
    unfolding in_either
    in-first i t = or_left (in_cluster pool (a - 1) i) (in_cluster pool (b - 1) i) t

    in-second : (i : ℕ) → T (in_cluster pool (b - 1) i) → T (both i)
    unfolding in_either
    in-second i t = or_right (in_cluster pool (a - 1) i) (in_cluster pool (b - 1) i) t

    abbrev fits : (1 ≤ a) × (a < b) × (b ≤ P.clusters)
    fits = relays-known P a b (accepted-fits P K a b e)

    cuts_first : (L : ℕ) (W N : List ℕ) (s : ℕ) → T (one_of (senders pool a) s)
        → cut (a - 1) L s (joint L W N) ≡ sent pool L (λ i. tab L (upload pool L W N i)) a s
    cuts_first = let (low, less, high) = fits in cuts a low (omega arith) in-first

    cuts-second : (L : ℕ) (W N : List ℕ) (s : ℕ) → T (one_of (senders pool b) s)
        → cut (b - 1) L s (joint L W N) ≡ sent pool L (λ i. tab L (upload pool L W N i)) b s
    cuts-second = let (low, less, high) = fits in cuts b (omega arith) high in-second

    abbrev day_from : List (List ℕ) → JointDay pool a b
    day_from vs = (
      vs,
      (
        transcript (relay_machine pool a) run.number (sent_from pool run joint a (cut (a - 1)) cuts_first vs) first,
        transcript (relay_machine pool b) run.number (sent_from pool run joint b (cut (b - 1)) cuts-second vs) second,
      ),
    )

    pub joint-equal-days : (W W' : ℕ → List ℕ) → DaysAgree pool run (Agree pool g) W W' → (test : JointDay pool a b → Bool)
        → runs_showing pool run (joint_day pool run a b first second g W) test ≡ runs_showing pool run (joint_day pool run a b first second g W') test
    joint-equal-days W W' d =
        let pos : 0 < P.q = prime-pos (vetted P K (accepted-vet P K a b e)).prime in
        from-numbers pool run joint (places pool (how_many (users_of P) both) g) (set-places pool pos both g) (Agree pool g) W W' d
        (λ k l.
        accepted-pair-equal P K a b e g in-plan few (run.length k) (lengths.low k l) (lengths.high k l) (W k) (W' k) (d.symbols k l) (d.symbols' k l)
        (d.same k l))
        (joint_day pool run a b first second g) day_from
        (λ W N i. (
          seen_of pool run joint W N,
          (
            transcript (relay_machine pool a) run.number (λ k s. sent_is pool run joint a (cut (a - 1)) cuts_first W N k s i) first,
            transcript (relay_machine pool b) run.number (λ k s. sent_is pool run joint b (cut (b - 1)) cuts-second W N k s i) second,
          ),
        ))

    -- and of readings as they are signed
    pub signed-joint-equal-days : (m : ℕ) → cap_fits P m ≡ true → (R R' : ℕ → List ℤ) → SignedDaysAgree pool run m (SignedAgree pool g) R R'
        → (test : JointDay pool a b → Bool)
        → runs_showing pool run (signed_joint_day P K run a b first second g R) test
        ≡ runs_showing pool run (signed_joint_day P K run a b first second g R') test
    signed-joint-equal-days m cap R R' d test =
        let v : accepted ≡ vet_code P K = accepted-vet P K a b e in
        let pos : 0 < P.q = prime-pos (vetted P K v).prime in
        let (low, less, high) = fits in
        days-back m cap v g run R R' (SignedAgree pool g) d (signed_joint_day P K run a b first second g) (joint_day pool run a b first second g) test
        (λ S size N i. (
          seen_of pool run joint (day_travelling P.q S) N,
          (
            transcript (relay_machine pool a) run.number (λ k s. sent-in-travels pos run S size a (omega arith) N k s i) first,
            transcript (relay_machine pool b) run.number (λ k s. sent-in-travels pos run S size b high N k s i) second,
          ),
        ))
        (joint-equal-days (day_travelling P.q R) (day_travelling P.q R')
        (days-travel m cap v g run R R' (SignedAgree pool g) (Agree pool g) (members-travel m cap v g run R R') d) test)

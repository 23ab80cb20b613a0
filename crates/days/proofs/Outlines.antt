-- A machine that answers without regard to the symbols of a block, but for their number and whether they are symbols: the outline of its transcript is the same
-- whatever is sent.
use Prim.Native.Nat.{ℕ, zero, suc, ◌+◌, ◌-◌, ◌*◌, ◌%◌, ◌<◌}
use mathlib.Core.Path.{◌≡◌, refl, sym, ap, ap₂, ◌∙◌}
use mathlib.Core.Bool.{Bool, true, false, cond, ◌&&◌}
use mathlib.Core.List.{List, [], ◌∷◌, map}
use native.Mathlib.Nat.{mod-lt}
use lib.ListN.{length, take, drop}
use lib.Dec.{ltb}
use lib.IntN.{ℤ}
use Rattle.refusals.specs.declared.Code.{Code}
use Rattle.lists.specs.Lists.{at, tab}
use Rattle.lists.specs.Sums.{sum_to}
use Rattle.residues.specs.Primes.{all_below}
use Rattle.matrices.specs.Linear.{Vector}
use Rattle.matrices.proofs.MadeVectors.{tab-vector}
use Rattle.secrecy.specs.Model.{Pool, reading, key, upload}
use Rattle.plans.specs.declared.Plan.{Plan}
use Rattle.vetting.specs.Pools.{pool_of}
use Rattle.masking.proofs.BlockLaws.{upload-vector}
use Rattle.rounds.specs.Ledger.{Frame, frame}
use Rattle.rounds.specs.Rounds.{one_of}
use Rattle.signed.specs.Numbers.{symbol_of}
use Rattle.signed.proofs.SignedLaws.{vector-below}
use Rattle.days.specs.Runs.{Run, source_key, uploads_of, senders, sent, sent_in, signed_uploads_of}
use Rattle.days.specs.Machines.{Machine, Entry, sends, calls, replies, outline_of, call_of, transcript}

-- two frames of one sender and round number, with equally many symbols, that are both symbols below q or both not
pub record Alike (q : ℕ) (f f' : Frame) : Type 0 where
  pub sender : f.sender ≡ f'.sender
  pub number : f.number ≡ f'.number
  pub long : length f.block ≡ length f'.block
  pub below : all_below q f.block ≡ all_below q f'.block

-- states that differ in nothing that an answer depends on: equal answers to each call and to frames that are alike, and such states again
pub record Blind (q : ℕ) (M : Machine) : Type 1 where
  pub Same : M.State → M.State → Type 0
  pub first : Same M.start M.start
  pub headed : (f f' : Frame) → Alike q f f' → M.header (M.hears f) ≡ M.header (M.hears f')
  pub called : (a b : M.State) → Same a b → (c : M.Call) → ((M.reply a c).0 ≡ (M.reply b c).0) × Same (M.next a c) (M.next b c)
  pub heard : (a b : M.State) → Same a b → (f f' : Frame) → Alike q f f'
      → ((M.reply a (M.hears f)).0 ≡ (M.reply b (M.hears f')).0) × Same (M.next a (M.hears f)) (M.next b (M.hears f'))

module _ (q : ℕ) (M : Machine) (blind : Blind q M) (number : ℕ → ℕ) (B B' : ℕ → ℕ → List ℕ)
    (alike : (k s : ℕ) → Alike q (frame s (number k) (B k s)) (frame s (number k) (B' k s))) where
  same-made : (schedule : List (Entry M.Call)) → map M.header (map (call_of M number B) schedule) ≡ map M.header (map (call_of M number B') schedule)
  same-made [] = refl
  same-made (sends k s ∷ schedule) = ap₂ ◌∷◌ (blind.headed _ _ (alike k s)) (same-made schedule)
  same-made (calls c ∷ schedule) = ap (◌∷◌ (M.header c)) (same-made schedule)

  abbrev codes : List (Code × List ℕ) → List Code
  codes = map (λ x. x.0)

  same-answers : (a b : M.State) → blind.Same a b → (schedule : List (Entry M.Call))
      → codes (replies M a (map (call_of M number B) schedule)) ≡ codes (replies M b (map (call_of M number B') schedule))
  unfolding replies
  same-answers a b r [] = refl
  same-answers a b r (sends k s ∷ schedule) =
      let (c, n) = blind.heard a b r _ _ (alike k s) in
      ap₂ ◌∷◌ c (same-answers (M.next a (M.hears (frame s (number k) (B k s)))) (M.next b (M.hears (frame s (number k) (B' k s)))) n schedule)
  same-answers a b r (calls x ∷ schedule) =
      let (c, n) = blind.called a b r x in
      ap₂ ◌∷◌ c (same-answers (M.next a x) (M.next b x) n schedule)

  pub same-outlines : (schedule : List (Entry M.Call)) → outline_of M (transcript M number B schedule) ≡ outline_of M (transcript M number B' schedule)
  same-outlines schedule i = record { made = same-made schedule i; answers = same-answers M.start M.start blind.first schedule i }

-- ---- what is sent is alike whatever the readings and the source keys are: always symbols, and as many

-- in each round each user uploads as many symbols as the round has positions
abbrev pub Blocks : Pool → Run → (ℕ → ℕ → List ℕ) → Type 0
Blocks P run U = (k i : ℕ) → Vector P.q (run.length k) (U k i)

module _ (P : Pool) (pos : 0 < P.q) (run : Run) where
  pub uploads-blocks : (W : ℕ → List ℕ) (N : List ℕ) → Blocks P run (uploads_of P run W N)
  unfolding upload
  uploads-blocks W N k i =
      let L : ℕ = run.length k in
      let S : List ℕ = source_key P run N k in
      tab-vector P.q L (upload P L (W k) S i) (λ p _. mod-lt (reading L (W k) i p + key P S i p) pos)

  sent-vector : (U : ℕ → ℕ → List ℕ) → Blocks P run U → (w k s : ℕ) → Vector P.q (run.length k) (sent P (run.length k) (U k) w s)
  sent-vector U v zero k s =
      tab-vector P.q (run.length k) (λ p. sum_to P.size (λ i. at (U k ((s - 1) * P.size + i)) p) % P.q)
      (λ p _. mod-lt (sum_to P.size (λ i. at (U k ((s - 1) * P.size + i)) p)) pos)
  sent-vector U v (suc u) k s = v k (u * P.size + (s - 1))

  pub sent-alike : (U U' : ℕ → ℕ → List ℕ) → Blocks P run U → Blocks P run U' → (w k s : ℕ)
      → Alike P.q (frame s (run.number k) (sent_in P run U w k s)) (frame s (run.number k) (sent_in P run U' w k s))
  unfolding sent_in
  sent-alike U U' v v' w k s = go (ltb k run.rounds && one_of (senders P w) s)
    where
      block : (ℕ → ℕ → List ℕ) → List ℕ
      block U = sent P (run.length k) (U k) w s

      go : (t : Bool) → Alike P.q (frame s (run.number k) (cond t (block U) [])) (frame s (run.number k) (cond t (block U') []))
      go true =
          let x : Vector P.q (run.length k) (block U) = sent-vector U v w k s in
          let y : Vector P.q (run.length k) (block U') = sent-vector U' v' w k s in
          record {
            sender = refl;
            number = refl;
            long = x.size ∙ sym y.size;
            below = vector-below P.q (run.length k) (block U) x ∙ sym (vector-below P.q (run.length k) (block U') y);
          }
      go false = record { sender = refl; number = refl; long = refl; below = refl }

-- so are signed uploads
pub signed-blocks : (P : Plan) (K : List ℕ) (run : Run) → 0 < P.q → (R : ℕ → List ℤ) (N : List ℕ)
    → Blocks (pool_of P K) run (signed_uploads_of P K run R N)
signed-blocks P K run pos R N k i =
    let L : ℕ = run.length k in
    upload-vector P.q L (map (symbol_of P.q) (take L (drop (i * L) (R k)))) (tab L (key (pool_of P K) (source_key (pool_of P K) run N k) i)) pos

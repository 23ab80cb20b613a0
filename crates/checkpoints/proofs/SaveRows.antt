-- A save as rows of numbers, written one after the other.
use Prim.Native.Nat.{ℕ, zero, suc, ◌+◌, ◌*◌, ◌^◌, ◌≤◌, ◌<◌}
use mathlib.Core.Path.{◌≡◌, sym, ap, ap₂, ◌∙◌}
use mathlib.Core.Bool.{true}
use mathlib.Core.List.{List, [], ◌∷◌, ◌++◌, append_assoc}
use native.Mathlib.Omega.{arith}
use lib.ListN.{length, take, drop, length-append, length-drop, take-append-drop}
use lib.Seq.{take_at, drop-append-add, length-take-le, drop-drop}
use Rattle.lists.specs.Lists.{at, All}
use Rattle.numerals.specs.Bytes.{bytes_of, bytes_of_all}
use Rattle.numerals.proofs.Bytes.{AreBytes, length-all, bytes-append, numbers-bytes}
use Rattle.rounds.specs.declared.RelayRound.{RelayRound}
use Rattle.rounds.specs.Rounds.{sums_fit}
use Rattle.residues.specs.Primes.{all_below}
use Rattle.residues.proofs.PrimeLaws.{prime-pos, true-prime, below_at}
use Rattle.lists.proofs.Searches.{true→T, T_and}
use Rattle.checkpoints.specs.Checkpoints.{save_size, save_of}
use Rattle.checkpoints.proofs.StateLaws.{Passed, counts, few-length, few-cluster}

-- ---- the rows

abbrev pub counts_of : RelayRound → List ℕ
counts_of R = R.round.clusters ∷ R.round.size ∷ R.cluster ∷ R.round.length ∷ []

abbrev pub words_of : RelayRound → List ℕ
words_of R = R.round.q ∷ R.round.number ∷ []

abbrev pub rolls_of : RelayRound → List ℕ
rolls_of R = R.round.reported ∷ R.ahead.reported ∷ []

abbrev pub sums_of : RelayRound → List ℕ
sums_of R = take R.round.length R.round.sums

abbrev pub held_sums_of : RelayRound → List ℕ
held_sums_of R = take R.round.length R.ahead.sums

abbrev pub trailer_of : RelayRound → List ℕ
trailer_of R = save_size R.round.length ∷ 0x524b ∷ []

abbrev pub head_of : RelayRound → List ℕ
head_of R = bytes_of_all 1 (counts_of R) ++ (bytes_of_all 4 (words_of R) ++ bytes_of_all 2 (rolls_of R))

abbrev pub tail_of : RelayRound → List ℕ
tail_of R = bytes_of_all 4 (sums_of R) ++ (bytes_of_all 4 (held_sums_of R) ++ bytes_of_all 2 (trailer_of R))

pub save-rows : (R : RelayRound) → save_of R ≡ head_of R ++ tail_of R
unfolding save_of bytes_of bytes_of_all
save-rows R =
    let s : List ℕ = bytes_of_all 4 (sums_of R) in
    let h : List ℕ = bytes_of_all 4 (held_sums_of R) in
    let d : List ℕ = bytes_of 2 (save_size R.round.length) in
    let m : List ℕ = 0x4b ∷ 0x52 ∷ [] in
    ap (λ (l : List ℕ). head_of R ++ l) (append_assoc (s ++ h) d m ∙ append_assoc s h (d ++ m))

pub regrouped : (x a b c d e f : List ℕ) → (((((x ++ a) ++ b) ++ c) ++ d) ++ e) ++ f ≡ x ++ ((a ++ (b ++ c)) ++ (d ++ (e ++ f)))
regrouped x a b c d e f = simp append_assoc

-- ---- rows written after one another into T₀, which has become T: all of `done` up to place p, and beyond it what stood there

pub record Wrote (T₀ done T : List ℕ) (p : ℕ) : Type 0 where
  pub size : length done ≡ p
  pub within : p ≤ length T₀
  pub same : T ≡ done ++ drop p T₀

pub wrote_none : (T : List ℕ) (p : ℕ) → p ≤ length T → Wrote T (take p T) T p
wrote_none T p h = record { size = length-take-le p T h; within = h; same = sym (take-append-drop p T) }

module _ (T₀ done T : List ℕ) (p : ℕ) (w : Wrote T₀ done T p) where
  pub wrote-length : length T ≡ length T₀
  wrote-length = ap length w.same ∙ length-append done (drop p T₀) ∙ omega (arith, length-drop p T₀, w.size, w.within)

  pub wrote-row : (T' : List ℕ) (n width : ℕ) (K : List ℕ) → n ≡ p + width * length K → n ≤ length T₀
      → T' ≡ take p T ++ bytes_of_all width K ++ drop (p + width * length K) T → Wrote T₀ (done ++ bytes_of_all width K) T' n
  wrote-row T' n width K e h t =
      let m : ℕ = width * length K in
      let front : take p T ≡ done = ap (take p) w.same ∙ take_at done (drop p T₀) p w.size in
      let place : p + m ≡ length done + m = omega (arith, w.size) in
      let past : drop (p + m) T ≡ drop n T₀ =
      ap₂ drop place w.same
      ∙ drop-append-add done (drop p T₀) m
      ∙ drop-drop m p T₀
      ∙ ap (λ (i : ℕ). drop i T₀) (sym e) in
      record {
        size = length-append done (bytes_of_all width K) ∙ omega (arith, length-all width K, w.size);
        within = h;
        same = t ∙ ap₂ (λ (a b : List ℕ). a ++ bytes_of_all width K ++ b) front past;
      }

-- the bytes of a save
pub length-save : (R : RelayRound) → length (sums_of R) ≡ R.round.length → length (held_sums_of R) ≡ R.round.length → length (save_of R)
    ≡ save_size R.round.length
length-save R first second =
    ap length (save-rows R)
    ∙ length-append (head_of R) (tail_of R)
    ∙ omega (
      arith,
      length-append (bytes_of_all 1 (counts_of R)) (bytes_of_all 4 (words_of R) ++ bytes_of_all 2 (rolls_of R)),
      length-append (bytes_of_all 4 (words_of R)) (bytes_of_all 2 (rolls_of R)),
      length-append (bytes_of_all 4 (sums_of R)) (bytes_of_all 4 (held_sums_of R) ++ bytes_of_all 2 (trailer_of R)),
      length-append (bytes_of_all 4 (held_sums_of R)) (bytes_of_all 2 (trailer_of R)),
      length-all 1 (counts_of R),
      length-all 4 (words_of R),
      length-all 2 (rolls_of R),
      length-all 4 (sums_of R),
      length-all 4 (held_sums_of R),
      length-all 2 (trailer_of R),
    )

-- each of a few numbers is below n, and what stands past them, 0, too
pub few-below : (n : ℕ) → 0 < n → (l : List ℕ) → All (λ x. x < n) l → (k : ℕ) → at l k < n
few-below n pos [] a k = pos
few-below n pos (x ∷ l) a zero = a.0
few-below n pos (x ∷ l) a (suc k) = few-below n pos l a.1 k

-- ---- each number of a state that passed its checks fits in its bytes

pub record Fitting (R : RelayRound) : Type 0 where
  pub in-counts : (k : ℕ) → at (counts_of R) k < 256 ^ 1
  pub in_words : (k : ℕ) → at (words_of R) k < 256 ^ 4
  pub in-rolls : (k : ℕ) → at (rolls_of R) k < 256 ^ 2
  pub in-sums : (k : ℕ) → at (sums_of R) k < 256 ^ 4
  pub in_held : (k : ℕ) → at (held_sums_of R) k < 256 ^ 4
  pub in-trailer : (k : ℕ) → at (trailer_of R) k < 256 ^ 2

module _ (R : RelayRound) (p : Passed R) (prime : R.round.q < 2 ^ 32) where
  below-prime : (sums : List ℕ) → sums_fit R.round.q R.round.length sums ≡ true → (k : ℕ) → at (take R.round.length sums) k < 256 ^ 4
  below-prime sums e k =
      let q : ℕ = R.round.q in
      let l : List ℕ = take R.round.length sums in
      let (low, _) = T_and (all_below q l) (all_below 1 (drop R.round.length sums)) (true→T _ e) in
      omega (arith, below_at q l (prime-pos (true-prime q p.prime)) low k)

  pub fitting : R.round.number < 2 ^ 32 → R.round.reported < 2 ^ 16 → R.ahead.reported < 2 ^ 16 → Fitting R
  fitting number first second =
      let n = counts R p in
      record {
        in-counts = few-below 256 (omega arith) (counts_of R)
            (omega (arith, n.few-clusters), (omega (arith, n.few-size), (omega (arith, n.few-clusters, few-cluster R p), (omega (arith, few-length R p), tt))));
        in_words = few-below (256 ^ 4) (omega arith) (words_of R) (omega arith, (omega arith, tt));
        in-rolls = few-below (256 ^ 2) (omega arith) (rolls_of R) (omega arith, (omega arith, tt));
        in-sums = below-prime R.round.sums p.first-sums;
        in_held = below-prime R.ahead.sums p.held-sums;
        in-trailer = few-below (256 ^ 2) (omega arith) (trailer_of R) (omega (arith, few-length R p), (omega arith, tt));
      }

-- so a save is made of bytes
pub save-bytes : (R : RelayRound) → Fitting R → AreBytes (save_of R)
save-bytes R f =
    let head : AreBytes (head_of R) =
    bytes-append (bytes_of_all 1 (counts_of R)) (bytes_of_all 4 (words_of R) ++ bytes_of_all 2 (rolls_of R)) (numbers-bytes 1 (counts_of R) f.in-counts)
    (bytes-append (bytes_of_all 4 (words_of R)) (bytes_of_all 2 (rolls_of R)) (numbers-bytes 4 (words_of R) f.in_words)
    (numbers-bytes 2 (rolls_of R) f.in-rolls)) in
    let tail : AreBytes (tail_of R) =
    bytes-append (bytes_of_all 4 (sums_of R)) (bytes_of_all 4 (held_sums_of R) ++ bytes_of_all 2 (trailer_of R)) (numbers-bytes 4 (sums_of R) f.in-sums)
    (bytes-append (bytes_of_all 4 (held_sums_of R)) (bytes_of_all 2 (trailer_of R)) (numbers-bytes 4 (held_sums_of R) f.in_held)
    (numbers-bytes 2 (trailer_of R) f.in-trailer)) in
    rw (save-rows R) (bytes-append (head_of R) (tail_of R) head tail)

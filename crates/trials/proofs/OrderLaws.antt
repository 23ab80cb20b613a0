-- The senders of a trial: everyone who is owing sends, and nobody else.
use Prim.Native.Nat.{ℕ, zero, suc, ◌-◌, ◌%◌, ◌<◌}
use mathlib.Core.Path.{◌≡◌, refl, ap, ◌∙◌}
use mathlib.Core.Bool.{◌||◌}
use mathlib.Core.List.{List, [], ◌∷◌}
use mathlib.Core.Logic.{⊎_elim}
use native.Mathlib.Nat.{mod-lt}
use native.Mathlib.Omega.{arith}
use lib.Dec.{T, eqb}
use lib.ListN.{length, take, drop, length-append, length-drop}
use lib.Seq.{length-take-le}
use borrow.Author.Tests.{eq-eqb}
use Rattle.lists.specs.Lists.{at, All, tab}
use Rattle.lists.proofs.Members.{all-at}
use Rattle.lists.proofs.Searches.{true→T, T-or, or_left, or_right}
use Rattle.trials.specs.Generator.{stepped, value_of}
use Rattle.trials.specs.Trials.{without}
use Rattle.trials.specs.Drawing.{senders_from, among}

-- ---- one entry left out

without-length : (k : ℕ) (l : List ℕ) → k < length l → length (without k l) ≡ length l - 1
without-length k l h =
    length-append (take k l) (drop (suc k) l) ∙ omega (arith, length-take-le k l (omega arith), length-drop (suc k) l)

without_all : (Q : ℕ → Type 0) (k : ℕ) (l : List ℕ) → All Q l → All Q (without k l)
without_all Q zero [] a = tt
without_all Q (suc k) [] a = tt
without_all Q zero (x ∷ l) a = a.1
without_all Q (suc k) (x ∷ l) a = (a.0, without_all Q k l a.1)

without-among : (i k : ℕ) (l : List ℕ) → T (among i l) → T (eqb (at l k) i || among i (without k l))
unfolding among
without-among i k [] t = absurd t
without-among i zero (x ∷ l) t = t
without-among i (suc k) (x ∷ l) t =
    ⊎_elim (λ w. or_right (eqb (at l k) i) (eqb x i || among i (without k l)) (or_left (eqb x i) (among i (without k l)) w))
    (λ w.
    ⊎_elim (λ v. or_left (eqb (at l k) i) (eqb x i || among i (without k l)) v)
    (λ v. or_right (eqb (at l k) i) (eqb x i || among i (without k l)) (or_right (eqb x i) (among i (without k l)) v))
    (T-or (eqb (at l k) i) (among i (without k l)) (without-among i k l w)))
    (T-or (eqb x i) (among i l) t)

-- ---- all who are owing

-- the one that is drawn is one of them
drawn-in : (s n : ℕ) (owing : List ℕ) → length owing ≡ suc n → value_of s % length owing < length owing
drawn-in s n owing e = mod-lt (value_of s) (omega arith)

pub senders-length : (n s : ℕ) (owing : List ℕ) → length (senders_from s n owing) ≡ n
unfolding senders_from
senders-length zero s owing = refl
senders-length (suc n) s owing = ap suc (senders-length n (stepped s) (without (value_of (stepped s) % length owing) owing))

pub senders-all : (Q : ℕ → Type 0) (n s : ℕ) (owing : List ℕ) → length owing ≡ n → All Q owing → All Q (senders_from s n owing)
unfolding senders_from
senders-all Q zero s owing e a = tt
senders-all Q (suc n) s owing e a =
    let k : ℕ = value_of (stepped s) % length owing in
    let h : k < length owing = drawn-in (stepped s) n owing e in
    (all-at Q owing a k h 0, senders-all Q n (stepped s) (without k owing) (without-length k owing h ∙ omega arith) (without_all Q k owing a))

pub senders-everyone : (i n s : ℕ) (owing : List ℕ) → length owing ≡ n → T (among i owing) → T (among i (senders_from s n owing))
unfolding senders_from among
senders-everyone i zero s [] e t = absurd t
senders-everyone i zero s (x ∷ owing) e t = absurd (omega arith)
senders-everyone i (suc n) s owing e t =
    let k : ℕ = value_of (stepped s) % length owing in
    let h : k < length owing = drawn-in (stepped s) n owing e in
    let rest : List ℕ = senders_from (stepped s) n (without k owing) in
    ⊎_elim (λ w. or_left (eqb (at owing k) i) (among i rest) w)
    (λ w.
    or_right (eqb (at owing k) i) (among i rest)
    (senders-everyone i n (stepped s) (without k owing) (without-length k owing h ∙ omega arith) w))
    (T-or (eqb (at owing k) i) (among i (without k owing)) (without-among i k owing t))

-- ---- the users in index order

pub among-tab : (n : ℕ) (f : ℕ → ℕ) (i k : ℕ) → k < n → f k ≡ i → T (among i (tab n f))
unfolding tab among
among-tab zero f i k h e = absurd (omega arith)
among-tab (suc n) f i zero h e = or_left (eqb (f 0) i) (among i (tab n (λ j. f (suc j)))) (true→T _ (eq-eqb (f 0) i e))
among-tab (suc n) f i (suc k) h e = or_right (eqb (f 0) i) (among i (tab n (λ j. f (suc j)))) (among-tab n (λ j. f (suc j)) i k (omega arith) e)

-- Sets that are kept as bits: a part has no more members, a set of few is part of one of any larger size, and its members below a number are a part of it.
use Prim.Native.Nat.{ℕ, zero, suc, ◌+◌, ◌-◌, ◌^◌, ◌≤◌, ◌<◌}
use mathlib.Core.Path.{◌≡◌, refl, sym, ap, ◌∙◌, subst}
use mathlib.Core.Bool.{Bool, true, false, cond, ◌&&◌}
use native.Mathlib.Nat.{lt_of_lt_of_le}
use native.Mathlib.Decide.{dec_lt}
use native.Mathlib.Omega.{arith}
use lib.Dec.{T, eqb, ltb, lt→ltb, ltb→lt}
use lib.Pow.{pow_mono}
use borrow.Author.Tests.{eq-eqb, ne_eqb, lt-ltb}
use Rattle.lists.specs.Bits.{has_bit}
use Rattle.lists.specs.Sums.{sum_to, how_many}
use Rattle.lists.proofs.Binomials.{many-cong}
use Rattle.lists.proofs.BitLaws.{mask_of, mask_below, mask-has}
use Rattle.lists.proofs.ListLaws.{many-all}
use Rattle.lists.proofs.Searches.{T_and, and_T}
use Rattle.lists.proofs.Sums.{sum-smaller}

-- a part has no more
pub many-part : (n : ℕ) (b c : ℕ → Bool) → ((i : ℕ) → i < n → T (b i) → T (c i)) → how_many n b ≤ how_many n c
unfolding how_many
many-part n b c h = sum-smaller n (λ i. cond (b i) 1 0) (λ i. cond (c i) 1 0) (λ i l. go (b i) (c i) (h i l))
  where
    go : (s t : Bool) → (T s → T t) → cond s 1 0 ≤ cond t 1 0
    go true true f = omega arith
    go true false f = absurd (f tt)
    go false true f = omega arith
    go false false f = omega arith

-- ---- a set of any larger size

record Larger (n t : ℕ) (b : ℕ → Bool) : Type 0 where
  pub set : ℕ → Bool
  pub many : how_many n set ≡ t
  pub part : (i : ℕ) → i < n → T (b i) → T (set i)

-- one number more, in the set or not
abbrev put : ℕ → Bool → (ℕ → Bool) → ℕ → Bool
put n t c i = cond (eqb i n) t (c i)

put-at : (n : ℕ) (t : Bool) (c : ℕ → Bool) → put n t c n ≡ t
put-at n t c = ap (λ (s : Bool). cond s t (c n)) (eq-eqb n n refl)

put-below : (n : ℕ) (t : Bool) (c : ℕ → Bool) (i : ℕ) → i < n → put n t c i ≡ c i
put-below n t c i l = ap (λ (s : Bool). cond s t (c i)) (ne_eqb i n (λ e. omega arith))

more : (n t : ℕ) (b : ℕ → Bool) (s : Bool) → (T (b n) → T s) → Larger n t b → Larger (suc n) (t + cond s 1 0) b
unfolding how_many sum_to
more n t b s f x =
    record {
      set = put n s x.set;
      many =
          ap (λ (z : ℕ). z + cond (put n s x.set n) 1 0) (many-cong n (put n s x.set) x.set (put-below n s x.set) ∙ x.many)
          ∙ ap (λ (r : Bool). t + cond r 1 0) (put-at n s x.set);
      part = λ i l h. go i l h (dec_lt i n);
    }
  where
    go : (i : ℕ) → i < suc n → T (b i) → Dec (i < n) → T (put n s x.set i)
    go i l h (yes c) = subst T (sym (put-below n s x.set i c)) (x.part i c h)
    go i l h (no c) =
        let e : i ≡ n = omega arith in
        subst (λ (k : ℕ). T (put n s x.set k)) (sym e) (subst T (sym (put-at n s x.set)) (f (subst (λ (k : ℕ). T (b k)) e h)))

-- between what it has and all of n
larger : (n t : ℕ) (b : ℕ → Bool) → how_many n b ≤ t → t ≤ n → Larger n t b
unfolding how_many sum_to
larger zero t b few most = record { set = b; many = omega arith; part = λ i l h. h }
larger (suc n) t b few most = go (b n) refl few (dec_lt n t) (larger n)
  where
    go : (s : Bool) → b n ≡ s → how_many n b + cond s 1 0 ≤ t → Dec (n < t)
        → ((t : ℕ) (b : ℕ → Bool) → how_many n b ≤ t → t ≤ n → Larger n t b) → Larger (suc n) t b
    go true e few' d ih =
        subst (λ (z : ℕ). Larger (suc n) z b) (omega arith) (more n (t - 1) b true (λ h. tt) (ih (t - 1) b (omega arith) (omega arith)))
    go false e few' (yes full) ih = record { set = λ i. true; many = many-all (suc n) ∙ omega arith; part = λ i l h. tt }
    go false e few' (no less) ih =
        subst (λ (z : ℕ). Larger (suc n) z b) (omega arith) (more n t b false (λ h. subst T e h) (ih t b (omega arith) (omega arith)))

-- ---- as numbers

-- the set with these members
module _ (n : ℕ) (b : ℕ → Bool) where
  mask-in : (i : ℕ) → i < n → T (b i) → T (has_bit (mask_of b n) i)
  mask-in i l t = subst T (sym (mask-has b n i)) (and_T (ltb i n) (b i) (lt→ltb i n l) t)

  in-mask : (i : ℕ) → T (has_bit (mask_of b n) i) → (i < n) × T (b i)
  in-mask i t = let (l, h) = T_and (ltb i n) (b i) (subst T (mask-has b n i) t) in (ltb→lt i n l, h)

  many-mask : how_many n (has_bit (mask_of b n)) ≡ how_many n b
  many-mask = many-cong n (has_bit (mask_of b n)) b (λ i l. mask-has b n i ∙ ap (λ (t : Bool). t && b i) (lt-ltb i n l))

-- a set of at most t of n is part of one of exactly t
pub record Filled (n t g : ℕ) : Type 0 where
  pub whole : ℕ
  pub below : whole < 2 ^ n
  pub many : how_many n (has_bit whole) ≡ t
  pub part : (i : ℕ) → i < n → T (has_bit g i) → T (has_bit whole i)

pub filled : (n t g : ℕ) → how_many n (has_bit g) ≤ t → t ≤ n → Filled n t g
filled n t g few most =
    let x : Larger n t (has_bit g) = larger n t (has_bit g) few most in
    record {
      whole = mask_of x.set n;
      below = mask_below x.set n;
      many = many-mask n x.set ∙ x.many;
      part = λ i l h. mask-in n x.set i l (x.part i l h);
    }

-- the members below i are a part, and i is none of them
module _ (g i : ℕ) where
  abbrev pub lower : ℕ
  lower = mask_of (has_bit g) i

  pub lower-below : (n : ℕ) → i ≤ n → lower < 2 ^ n
  lower-below n l = lt_of_lt_of_le (mask_below (has_bit g) i) (pow_mono l)

  pub lower-few : (n : ℕ) → how_many n (has_bit lower) ≤ how_many n (has_bit g)
  lower-few n = many-part n (has_bit lower) (has_bit g) (λ k l t. (in-mask i (has_bit g) k t).1)

  pub lower_in : (k : ℕ) → k < i → T (has_bit g k) → T (has_bit lower k)
  lower_in = mask-in i (has_bit g)

  pub lower-out : ¬ (T (has_bit lower i))
  lower-out t = let (l, h) = in-mask i (has_bit g) i t in omega arith

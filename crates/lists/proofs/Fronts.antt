-- A list that is made equal to another from the front; and parts of lists.
use Prim.Native.Nat.{ℕ, suc, ◌+◌, ◌*◌, ◌≤◌, ◌<◌}
use mathlib.Core.Path.{◌≡◌, refl, sym, ap, ap₂, ◌∙◌}
use mathlib.Core.List.{List, [], ◌∷◌, ◌++◌, append_assoc}
use native.Mathlib.Nat.{mul-le-mul}
use native.Mathlib.Numerals.{add-one}
use native.Mathlib.Omega.{arith}
use lib.ListN.{length, get_or, take, drop, set, length-append, length-drop, length-set}
use lib.Seq.{take-suc, take-suc-set, take_all, take_at, take-add, length-take-le, get_or-take, get_or-drop}
use borrow.Rule.Slice.PartMut.{same_len_mid}
use Rattle.lists.specs.Lists.{at}

-- ---- a part of a list, from b on, n numbers

-- row j of a table lies in it
pub row_fits : (rows cols j n : ℕ) → j < rows → n ≡ rows * cols → j * cols + cols ≤ n
row_fits rows cols j n h e = omega (arith, mul-le-mul {n₁ = suc j} {m₁ = cols} {n₂ = rows} {m₂ = cols} h (omega arith))

pub length_part : {A : Type 0} (n b : ℕ) (l : List A) → b + n ≤ length l → length (take n (drop b l)) ≡ n
length_part n b l h = length-take-le n (drop b l) (omega (arith, length-drop b l))

pub part_at : (n b : ℕ) (l : List ℕ) (k : ℕ) → k < n → at (take n (drop b l)) k ≡ at l (b + k)
part_at n b l k h = get_or-take n (drop b l) k 0 h ∙ get_or-drop b l k 0

-- ---- T, which was T₀, has the first k entries of W; all three are as long

pub record Front {A : Type 0} (T₀ W T : List A) (k : ℕ) : Type 0 where
  pub within : k ≤ length T
  pub whole : length T ≡ length T₀
  pub meant : length W ≡ length T₀
  pub same : take k T ≡ take k W

module _ {A : Type 0} where
  pub front-none : (T W : List A) (k : ℕ) → k ≡ 0 → length W ≡ length T → Front T W T k
  front-none T W k z e =
      record { within = omega arith; whole = refl; meant = e; same = ap (λ (n : ℕ). take n T) z ∙ ap (λ (n : ℕ). take n W) (sym z) }

  -- one entry more, whatever is taken for what stands past the end of W
  pub front-step : (T₀ W T : List A) (k : ℕ) (v d : A) → Front T₀ W T k → k < length T → v ≡ get_or W k d → Front T₀ W (set T k v) (k + 1)
  front-step T₀ W T k v d f h e =
      record {
        within = omega (arith, length-set T k v);
        whole = length-set T k v ∙ f.whole;
        meant = f.meant;
        same =
            rw (add-one k)
            (take-suc-set T k v h
            ∙ ap₂ (λ (x : List A) (y : A). x ++ (y ∷ [])) f.same e
            ∙ sym (take-suc W k d (omega (arith, f.whole, f.meant))));
      }

  pub front-whole : (T₀ W T : List A) (k : ℕ) → Front T₀ W T k → length T ≤ k → T ≡ W
  front-whole T₀ W T k f h = sym (take_all k T h) ∙ f.same ∙ take_all k W (omega (arith, f.whole, f.meant))

module _ (T₀ W T : List ℕ) where
  -- one number more
  pub front-next : (k v : ℕ) → Front T₀ W T k → k < length T → v ≡ at W k → Front T₀ W (set T k v) (k + 1)
  front-next k v = front-step T₀ W T k v 0

  -- one part more: the k numbers from b on were lent and came back as y
  pub front-part : (b k n : ℕ) (y : List ℕ) → n ≡ b + k → Front T₀ W T b → b + k ≤ length T → y ≡ take k (drop b W)
      → Front T₀ W (take b T ++ (y ++ drop k (drop b T))) n
  front-part b k n y en f h e =
      let size : length y ≡ k = ap length e ∙ length_part k b W (omega (arith, f.whole, f.meant)) in
      let long : length (take b T ++ (y ++ drop k (drop b T))) ≡ length T = same_len_mid b k T y (size ∙ sym (length_part k b T h)) in
      record {
        within = omega (arith, long);
        whole = long ∙ f.whole;
        meant = f.meant;
        same =
            ap (λ (m : ℕ). take m (take b T ++ (y ++ drop k (drop b T)))) en
            ∙ ap (take (b + k)) (sym (append_assoc (take b T) y (drop k (drop b T))))
            ∙ take_at (take b T ++ y) (drop k (drop b T)) (b + k) (length-append (take b T) y ∙ omega (arith, length-take-le b T f.within))
            ∙ ap₂ (λ (x z : List ℕ). x ++ z) f.same e
            ∙ sym (take-add b k W)
            ∙ ap (λ (m : ℕ). take m W) (sym en);
      }

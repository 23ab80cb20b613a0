-- Laws of lists made of their entries, and of lists that are picked.
use Prim.Native.Nat.{ℕ, zero, suc, ◌+◌, ◌≤◌, ◌<◌, suc-le-suc}
use mathlib.Core.Path.{◌≡◌, refl, sym, ap, ap₂, ◌∙◌, subst}
use mathlib.Core.Bool.{Bool, true, false, cond}
use mathlib.Core.Logic.{◌≢◌, ⊎_elim}
use mathlib.Core.List.{List, [], ◌∷◌, ◌++◌, map, map-append, head-eq_of_cons-eq, tail-eq_of_cons-eq}
use native.Mathlib.Nat.{zero-add, suc-add, mul-one, suc-ne-zero, suc_inj, not-suc-le-zero, le_of_suc-le-suc, lt-suc_self, zero-lt-suc, eq-or-lt_of_le}
use native.Mathlib.Decide.{ℕ_discrete}
use native.Mathlib.Omega.{arith}
use lib.ListN.{length, get_or, set, length-set, length-replicate}
use lib.Seq.{ext_get_or, get_or-set_same, get_or-set_other}
use lib.Dec.{T}
use Rattle.lists.specs.Lists.{at, All, tab, join_to, picked, zeros}
use Rattle.lists.proofs.Members.{all_append, all_left, all_right}
use Rattle.lists.proofs.Joins.{length-lists}
use Rattle.lists.specs.Sums.{sum_to, how_many}

-- ---- a list by its entries

-- an entry of a list made of its entries, whatever is taken for what stands past the end
pub get-tab : {A : Type 0} (n : ℕ) (f : ℕ → A) (d : A) (i : ℕ) → i < n → get_or (tab n f) i d ≡ f i
unfolding tab
get-tab zero f d i h = absurd (not-suc-le-zero h)
get-tab (suc n) f d zero h = refl
get-tab (suc n) f d (suc i) h = get-tab n (λ k. f (suc k)) d i (le_of_suc-le-suc h)

pub at-tab : (n : ℕ) (f : ℕ → ℕ) (i : ℕ) → i < n → at (tab n f) i ≡ f i
at-tab n f i h = get-tab n f 0 i h

-- its length
pub length-tab : {A : Type 0} (n : ℕ) (f : ℕ → A) → length (tab n f) ≡ n
unfolding tab
length-tab zero f = refl
length-tab (suc n) f = ap suc (length-tab n (λ k. f (suc k)))

-- equal entries make equal lists
pub tab-cong : {A : Type 0} (n : ℕ) (f g : ℕ → A) → ((k : ℕ) → k < n → f k ≡ g k) → tab n f ≡ tab n g
unfolding tab
tab-cong zero f g h = refl
tab-cong (suc n) f g h = ap₂ ◌∷◌ (h 0 (zero-lt-suc n)) (tab-cong n (λ k. f (suc k)) (λ k. g (suc k)) (λ k l. h (suc k) (suc-le-suc l)))

-- a list is made of its entries
pub tab-get : {A : Type 0} (n : ℕ) (f : ℕ → A) (l : List A) (d : A) → length l ≡ n → ((k : ℕ) → k < n → f k ≡ get_or l k d) → tab n f ≡ l
tab-get n f l d e h =
    ext_get_or d (tab n f) l (length-tab n f ∙ sym e)
    (λ i k. let b : i < n = subst (λ (z : ℕ). i < z) (length-tab n f) k in get-tab n f d i b ∙ h i b)

pub tab-at : (n : ℕ) (f : ℕ → ℕ) (l : List ℕ) → length l ≡ n → ((k : ℕ) → k < n → f k ≡ at l k) → tab n f ≡ l
tab-at n f l e h = tab-get n f l 0 e h

-- a store at p changes the entry at p alone
pub set-tab : (n : ℕ) (l : List ℕ) (g : ℕ → ℕ) (p x : ℕ) → length l ≡ n → p < n → x ≡ g p → ((k : ℕ) → k < n → k ≢ p → at l k ≡ g k) → set l p x ≡ tab n g
set-tab n l g p x len h e same = sym (tab-at n g (set l p x) (length-set l p x ∙ len) (λ k s. go k s (ℕ_discrete k p)))
  where
    go : (k : ℕ) → k < n → Dec (k ≡ p) → g k ≡ at (set l p x) k
    go k s (yes d) = sym (ap (at (set l p x)) d ∙ get_or-set_same l p x 0 (omega arith) ∙ e ∙ ap g (sym d))
    go k s (no d) = sym (get_or-set_other l p k x 0 d ∙ same k s d)

-- a function of each entry
pub map-tab : {A B : Type 0} (h : A → B) (n : ℕ) (f : ℕ → A) → map h (tab n f) ≡ tab n (λ k. h (f k))
unfolding tab
map-tab h zero f = refl
map-tab h (suc n) f = ap (λ (l : List _). h (f 0) ∷ l) (map-tab h n (λ k. f (suc k)))

pub map_get : {A B : Type 0} (h : A → B) (l : List A) (i : ℕ) (d : A) (e : B) → i < length l → get_or (map h l) i e ≡ h (get_or l i d)
map_get h [] i d e k = absurd (not-suc-le-zero k)
map_get h (x ∷ l) zero d e k = refl
map_get h (x ∷ l) (suc i) d e k = map_get h l i d e (le_of_suc-le-suc k)

-- the entries from m on
pub tab-append : {A : Type 0} (m n : ℕ) (f : ℕ → A) → tab (m + n) f ≡ tab m f ++ tab n (λ k. f (m + k))
unfolding tab
tab-append zero n f =
    ap (λ (k : ℕ). tab k f) (zero-add n) ∙ tab-cong n f (λ k. f (zero + k)) (λ k _. ap f (sym (zero-add k)))
tab-append (suc m) n f =
    ap (λ (k : ℕ). tab k f) (suc-add m n)
    ∙ ap (λ (l : List _). f 0 ∷ l) (tab-append m n (λ k. f (suc k)))
    ∙ ap (λ (l : List _). tab (suc m) f ++ l) (tab-cong n (λ k. f (suc (m + k))) (λ k. f (suc m + k)) (λ k _. ap f (sym (suc-add m k))))

-- what each entry has
pub all-tab : {A : Type 0} (P : A → Type 0) (n : ℕ) (f : ℕ → A) → ((k : ℕ) → k < n → P (f k)) → All P (tab n f)
unfolding tab
all-tab P zero f h = tt
all-tab P (suc n) f h = (h 0 (zero-lt-suc n), all-tab P n (λ k. f (suc k)) (λ k l. h (suc k) (suc-le-suc l)))

pub tab-all : {A : Type 0} (P : A → Type 0) (n : ℕ) (f : ℕ → A) → All P (tab n f) → (k : ℕ) → k < n → P (f k)
unfolding tab
tab-all P zero f h k l = absurd (not-suc-le-zero l)
tab-all P (suc n) f h zero l = h.0
tab-all P (suc n) f h (suc k) l = tab-all P n (λ k. f (suc k)) h.1 k (le_of_suc-le-suc l)

-- ---- zeros

-- an entry of zeros
pub el-zeros : (n i : ℕ) → at (zeros n) i ≡ 0
el-zeros zero i = refl
el-zeros (suc n) zero = refl
el-zeros (suc n) (suc i) = el-zeros n i

-- the length of zeros
pub length-zeros : (n : ℕ) → length (zeros n) ≡ n
length-zeros n = length-replicate n 0

-- ---- what is picked

module _ {A : Type 0} (Q : A → Type 0) where
  all-cond : (b : Bool) (x : A) → (T b → Q x) → All Q (cond b (x ∷ []) [])
  all-cond true x h = (h tt, tt)
  all-cond false x h = tt

  cond-all : (b : Bool) (x : A) → All Q (cond b (x ∷ []) []) → T b → Q x
  cond-all true x h t = h.0
  cond-all false x h t = absurd t

  -- each that is picked has the property
  pub all-picked : (n : ℕ) (b : ℕ → Bool) (f : ℕ → A) → ((i : ℕ) → i < n → T (b i) → Q (f i)) → All Q (picked n b (λ i. f i ∷ []))
  unfolding picked join_to
  all-picked zero b f h = tt
  all-picked (suc n) b f h =
      all_append Q (picked n b (λ i. f i ∷ [])) (cond (b n) (f n ∷ []) [])
      (all-picked n b f (λ i l. h i (omega arith))) (all-cond (b n) (f n) (h n (lt-suc_self n)))

  -- and where each member of the list has it, each that is picked has
  pub picked_all : (n : ℕ) (b : ℕ → Bool) (f : ℕ → A) → All Q (picked n b (λ i. f i ∷ [])) → (i : ℕ) → i < n → T (b i) → Q (f i)
  unfolding picked join_to
  picked_all zero b f h i l t = absurd (not-suc-le-zero l)
  picked_all (suc n) b f h i l t =
      let first : List A = picked n b (λ i. f i ∷ []) in
      let last : List A = cond (b n) (f n ∷ []) [] in
      ⊎_elim
      (λ e. subst (λ (j : ℕ). Q (f j)) (sym e) (cond-all (b n) (f n) (all_right Q first last h) (subst (λ (j : ℕ). T (b j)) e t)))
      (λ c. picked_all n b f (all_left Q first last h) i c t)
      (eq-or-lt_of_le (le_of_suc-le-suc l))

-- how many are picked
pub length-picked : {A : Type 0} (n : ℕ) (b : ℕ → Bool) (f : ℕ → A) → length (picked n b (λ i. f i ∷ [])) ≡ how_many n b
length-picked n b f = length-lists n 1 b (λ i. f i ∷ []) (λ i. refl) ∙ mul-one (how_many n b)

-- all of them
pub many-all : (n : ℕ) → how_many n (λ _. true) ≡ n
unfolding how_many sum_to
many-all zero = refl
many-all (suc n) = omega (arith, many-all n)

-- at most all of them
pub many-most : (b : ℕ → Bool) (n : ℕ) → how_many n b ≤ n
unfolding how_many sum_to
many-most b zero = omega arith
many-most b (suc n) = go (b n) (many-most b n)
  where
    go : (t : Bool) → how_many n b ≤ n → how_many n b + cond t 1 0 ≤ suc n
    go true h = omega arith
    go false h = omega arith

-- a function of each that is picked
pub map-picked : {A B : Type 0} (n : ℕ) (b : ℕ → Bool) (h : A → B) (f : ℕ → A) → map h (picked n b (λ i. f i ∷ [])) ≡ picked n b (λ i. h (f i) ∷ [])
unfolding picked join_to
map-picked zero b h f = refl
map-picked (suc n) b h f =
    map-append h (picked n b (λ i. f i ∷ [])) (cond (b n) (f n ∷ []) []) ∙ ap₂ ◌++◌ (map-picked n b h f) (one (b n))
  where
    one : (c : Bool) → map h (cond c (f n ∷ []) []) ≡ cond c (h (f n) ∷ []) []
    one true = refl
    one false = refl

append_inj : {A : Type 0} (a b c d : List A) → length a ≡ length c → a ++ b ≡ c ++ d → (a ≡ c) × (b ≡ d)
append_inj [] b [] d h e = (refl, e)
append_inj [] b (z ∷ c) d h e = absurd (suc-ne-zero (length c) (sym h))
append_inj (x ∷ a) b [] d h e = absurd (suc-ne-zero (length a) h)
append_inj (x ∷ a) b (z ∷ c) d h e =
    let (r, s) = append_inj a b c d (suc_inj h) (tail-eq_of_cons-eq e) in
    (ap₂ ◌∷◌ (head-eq_of_cons-eq e) r, s)

-- where the lists are equal, so are those that are picked
pub picked-inj : {A : Type 0} (n : ℕ) (b : ℕ → Bool) (f g : ℕ → A) → picked n b (λ i. f i ∷ []) ≡ picked n b (λ i. g i ∷ [])
    → (i : ℕ) → i < n → T (b i) → f i ≡ g i
unfolding picked join_to
picked-inj zero b f g e i l t = absurd (not-suc-le-zero l)
picked-inj (suc n) b f g e i l t =
    let (first, last) = append_inj (picked n b (λ i. f i ∷ [])) (cond (b n) (f n ∷ []) []) (picked n b (λ i. g i ∷ [])) (cond (b n) (g n ∷ []) [])
    (length-picked n b f ∙ sym (length-picked n b g)) e in
    ⊎_elim
    (λ c. subst (λ (j : ℕ). f j ≡ g j) (sym c) (one (b n) last (subst (λ (j : ℕ). T (b j)) c t)))
    (λ c. picked-inj n b f g first i c t)
    (eq-or-lt_of_le (le_of_suc-le-suc l))
  where
    one : (c : Bool) → cond c (f n ∷ []) [] ≡ cond c (g n ∷ []) [] → T c → f n ≡ g n
    one true h s = head-eq_of_cons-eq h
    one false h s = absurd s

-- equal members where they are picked
pub picked-cong : {A : Type 0} (n : ℕ) (b : ℕ → Bool) (f g : ℕ → A) → ((i : ℕ) → i < n → T (b i) → f i ≡ g i)
    → picked n b (λ i. f i ∷ []) ≡ picked n b (λ i. g i ∷ [])
unfolding picked join_to
picked-cong zero b f g h = refl
picked-cong (suc n) b f g h = ap₂ ◌++◌ (picked-cong n b f g (λ i l. h i (omega arith))) (one (b n) (h n (lt-suc_self n)))
  where
    one : (c : Bool) → (T c → f n ≡ g n) → cond c (f n ∷ []) [] ≡ cond c (g n ∷ []) []
    one true k = ap (λ x. x ∷ []) (k tt)
    one false k = refl

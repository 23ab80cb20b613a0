-- Views by forms, linear in the readings and the source symbols of a position. A position has m readings and n source symbols, numbers below q.
use Prim.Native.Nat.{ℕ, zero, suc, ◌+◌, ◌*◌, ◌%◌, ◌<◌, suc-le-suc}
use mathlib.Core.Path.{◌≡◌, refl, sym, ap, ap₂, ◌∙◌, subst, subst₂}
use mathlib.Core.Bool.{Bool, true, false, cond}
use mathlib.Core.List.{List, [], ◌∷◌, ◌++◌, append-nil, append_assoc}
use native.Mathlib.Nat.{mod-lt, lt-suc_self, zero-lt-suc}
use native.Mathlib.Omega.{arith}
use lib.ListN.{length}
use lib.Dec.{T}
use Rattle.lists.specs.Lists.{at, All, tab, join_to, picked}
use Rattle.matrices.specs.Linear.{Vector}
use Rattle.matrices.proofs.Notions.{dot_n, dot}
use Rattle.matrices.proofs.Vectors.{vector-nil}
use Rattle.secrecy.specs.Leaks.{Symbols}
use Rattle.lists.proofs.ListLaws.{tab-cong}
use Rattle.matrices.proofs.MadeVectors.{tab-vector, vector-append}

-- coefficients for the readings and for the source symbols of a position
pub record Form : Type 0 where
  pub on_readings : List ℕ
  pub on_source : List ℕ

-- the readings and the source symbols of position p
abbrev pub readings_at : (m L : ℕ) → List ℕ → ℕ → List ℕ
readings_at m L W p = tab m (λ i. at W (i * L + p))

abbrev pub source_at : (n : ℕ) → List ℕ → ℕ → List ℕ
source_at n N p = tab n (λ k. at N (p * n + k))

-- what a form shows in position p
unfoldable pub value : (q m n : ℕ) → Form → ℕ → List ℕ → List ℕ → ℕ → ℕ
value q m n f L W N p = (dot_n f.on_readings (readings_at m L W p) + dot_n f.on_source (source_at n N p)) % q

-- form by form, its L values
unfoldable pub view_of : (q m n : ℕ) → List Form → ℕ → List ℕ → List ℕ → List ℕ
view_of q m n [] L W N = []
view_of q m n (f ∷ F) L W N = tab L (value q m n f L W N) ++ view_of q m n F L W N

-- each row of E has equal products with the readings in each position
abbrev pub AgreeOn : (q m : ℕ) → List (List ℕ) → ℕ → List ℕ → List ℕ → Type 0
AgreeOn q m E L W W' = (p : ℕ) → p < L → All (λ e. dot q e (readings_at m L W p) ≡ dot q e (readings_at m L W' p)) E

-- no row of E sees the difference d
abbrev pub Unseen : ℕ → List (List ℕ) → List ℕ → Type 0
Unseen q E d = All (λ e. dot q e d ≡ 0) E

-- in the form f the source symbols t make up for d
abbrev pub MakesUp : ℕ → List ℕ → List ℕ → Form → Type 0
MakesUp q d t f = dot q f.on_readings d ≡ dot q f.on_source t

-- source symbols that make up for d in each form
pub record Mask (q n : ℕ) (F : List Form) (d : List ℕ) : Type 0 where
  pub t : List ℕ
  pub valid : Vector q n t
  pub makes-up : All (MakesUp q d t) F

-- each difference that E does not see is made up for
abbrev pub Hidden : (q m n : ℕ) → List (List ℕ) → List Form → Type 0
Hidden q m n E F = (d : List ℕ) → Vector q m d → Unseen q E d → Mask q n F d

-- among some readings, a view that is one by the forms F, and an agreement that is one on the rows E
pub record ByForms (q m n : ℕ) (among : ℕ → List ℕ → Type 0) (E : List (List ℕ)) (F : List Form) (agrees : ℕ → List ℕ → List ℕ → Type 0)
    (see : ℕ → List ℕ → List ℕ → List ℕ) : Type 0 where
  pub symbols : (L : ℕ) (W : List ℕ) → among L W → Symbols q m L W
  pub views : (L : ℕ) (W N : List ℕ) → among L W → see L W N ≡ view_of q m n F L W N
  pub rows : (L : ℕ) (W W' : List ℕ) → among L W → among L W' → agrees L W W' → AgreeOn q m E L W W'
  pub agreed : (L : ℕ) (W W' : List ℕ) → among L W → among L W' → AgreeOn q m E L W W' → agrees L W W'

-- ---- their laws

module _ (q m n L : ℕ) (W N : List ℕ) where
  -- as many symbols as there are forms and positions, below q
  view-vector : 0 < q → (F : List Form) → Vector q (length F * L) (view_of q m n F L W N)
  unfolding view_of value
  view-vector pos [] = subst (λ (k : ℕ). Vector q k []) (omega arith) (vector-nil q)
  view-vector pos (f ∷ F) =
      subst (λ (k : ℕ). Vector q k (tab L (value q m n f L W N) ++ view_of q m n F L W N)) (omega arith)
      (vector-append q L (length F * L) (tab L (value q m n f L W N)) (view_of q m n F L W N)
      (tab-vector q L (value q m n f L W N)
      (λ p l. mod-lt (dot_n f.on_readings (readings_at m L W p) + dot_n f.on_source (source_at n N p)) pos))
      (view-vector pos F))

  -- so has a view that is one by k forms
  pub see-vector : 0 < q → (k : ℕ) (among : ℕ → List ℕ → Type 0) (E : List (List ℕ)) (F : List Form) (agrees : ℕ → List ℕ → List ℕ → Type 0)
      (see : ℕ → List ℕ → List ℕ → List ℕ)
      → ByForms q m n among E F agrees see → length F ≡ k → among L W → Vector q (k * L) (see L W N)
  see-vector pos k among E F agrees see by e v = subst₂ (λ (k : ℕ) (s : List ℕ). Vector q (k * L) s) e (sym (by.views L W N v)) (view-vector pos F)

  -- forms after others show their values after those
  pub view-append : (F F' : List Form) → view_of q m n (F ++ F') L W N ≡ view_of q m n F L W N ++ view_of q m n F' L W N
  unfolding view_of
  view-append [] F' = refl
  view-append (f ∷ F) F' =
      ap (λ (l : List ℕ). tab L (value q m n f L W N) ++ l) (view-append F F')
      ∙ sym (append_assoc (tab L (value q m n f L W N)) (view_of q m n F L W N) (view_of q m n F' L W N))

  view-cond : (b : Bool) (f : Form) (g : ℕ → ℕ) → (T b → (p : ℕ) → p < L → value q m n f L W N p ≡ g p)
      → view_of q m n (cond b (f ∷ []) []) L W N ≡ cond b (tab L g) []
  unfolding view_of
  view-cond true f g h = append-nil (tab L (value q m n f L W N)) ∙ tab-cong L (value q m n f L W N) g (h tt)
  view-cond false f g h = refl

  -- the forms that b picks show, one after the other, their values
  pub view-picked : (k : ℕ) (b : ℕ → Bool) (F : ℕ → Form) (f : ℕ → ℕ → ℕ)
      → ((i : ℕ) → i < k → T (b i) → (p : ℕ) → p < L → value q m n (F i) L W N p ≡ f i p)
      → view_of q m n (picked k b (λ i. F i ∷ [])) L W N ≡ picked k b (λ i. tab L (f i))
  unfolding picked join_to view_of
  view-picked zero b F f h = refl
  view-picked (suc k) b F f h =
      view-append (picked k b (λ i. F i ∷ [])) (cond (b k) (F k ∷ []) [])
      ∙ ap₂ ◌++◌ (view-picked k b F f (λ i l. h i (omega arith))) (view-cond (b k) (F k) (f k) (h k (lt-suc_self k)))

-- what forms that are made one by one show in one position
pub view-tab : (q m n : ℕ) (W N : List ℕ) (k : ℕ) (F : ℕ → Form) (f : ℕ → ℕ) → ((i : ℕ) → i < k → value q m n (F i) 1 W N 0 ≡ f i)
    → view_of q m n (tab k F) 1 W N ≡ tab k f
unfolding tab view_of
view-tab q m n W N zero F f h = refl
view-tab q m n W N (suc k) F f h =
    ap₂ ◌∷◌ (h 0 (zero-lt-suc k)) (view-tab q m n W N k (λ i. F (suc i)) (λ i. f (suc i)) (λ i l. h (suc i) (suc-le-suc l)))

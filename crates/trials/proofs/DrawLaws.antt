-- The generator's states, one after the other, and what is drawn from them.
use Prim.Native.Nat.{ℕ, zero, suc, ◌+◌, ◌-◌, ◌%◌, ◌≤◌, ◌<◌}
use mathlib.Core.Path.{◌≡◌, refl, sym, ap, ap₂, ◌∙◌}
use mathlib.Core.List.{List, [], ◌∷◌, ◌++◌, append-nil}
use native.Mathlib.Omega.{arith}
use lib.ListN.{length, take, drop, set, length-drop}
use lib.Seq.{length-take-le, take_all}
use Rattle.lists.specs.Lists.{at}
use Rattle.plans.specs.declared.Plan.{Plan}
use Rattle.trials.specs.Generator.{stepped, value_of, stepped_by, value_at}
use Rattle.trials.specs.Trials.{without, senders_of}
use Rattle.trials.specs.Drawing.{senders_from}

-- ---- states

pub stepped-last : (n s : ℕ) → stepped_by (suc n) s ≡ stepped (stepped_by n s)
unfolding stepped_by
stepped-last zero s = refl
stepped-last (suc n) s = stepped-last n (stepped s)

pub stepped-add : (m n s : ℕ) → stepped_by m (stepped_by n s) ≡ stepped_by (n + m) s
unfolding stepped_by
stepped-add m zero s = let e : m ≡ 0 + m = omega arith in ap (λ (k : ℕ). stepped_by k s) e
stepped-add m (suc n) s =
    let e : suc (n + m) ≡ suc n + m = omega arith in
    stepped-add m n (stepped s) ∙ ap (λ (k : ℕ). stepped_by k s) e

-- the values from a later state on
pub value-later : (n s k : ℕ) → value_at (stepped_by n s) k ≡ value_at s (n + k)
value-later n s k =
    let e : n + suc k ≡ suc (n + k) = omega arith in
    ap value_of (stepped-add (suc k) n s ∙ ap (λ (j : ℕ). stepped_by j s) e)

-- ---- an entry brought to the front: T is M up to i, and L from there on

pub moved-next : (i : ℕ) (M L : List ℕ) → i < length M → i < length L → set (take i M ++ drop i L) i (at M i) ≡ take (suc i) M ++ drop (suc i) L
moved-next i [] L h l = absurd (omega arith)
moved-next i (m ∷ M) [] h l = absurd (omega arith)
moved-next zero (m ∷ M) (x ∷ L) h l = refl
moved-next (suc i) (m ∷ M) (x ∷ L) h l = ap (λ (t : List ℕ). m ∷ t) (moved-next i M L (omega arith) (omega arith))

pub moved_at : (i : ℕ) (M L : List ℕ) → i ≤ length M → i < length L → at (take i M ++ drop i L) i ≡ at L i
moved_at zero M L h l = refl
moved_at (suc i) [] L h l = absurd (omega arith)
moved_at (suc i) (m ∷ M) [] h l = absurd (omega arith)
moved_at (suc i) (m ∷ M) (x ∷ L) h l = moved_at i M L (omega arith) (omega arith)

-- ---- senders

module _ (P : Plan) (K : List ℕ) (m s : ℕ) where
  pub senders-from : (n k : ℕ) (owing : List ℕ) → senders_from (stepped_by k s) n owing ≡ senders_of P K m s n k owing
  unfolding senders_from senders_of
  senders-from zero k owing = refl
  senders-from (suc n) k owing =
      let v : ℕ = value_at s k % length owing in
      let e : stepped (stepped_by k s) ≡ stepped_by (suc k) s = sym (stepped-last k s) in
      ap (λ (t : ℕ). at owing (value_of t % length owing) ∷ senders_from t n (without (value_of t % length owing) owing)) e
      ∙ ap (λ (l : List ℕ). at owing v ∷ l) (senders-from n (suc k) (without v owing))

-- one sender more: those before it, and what is drawn of those behind it
front-one : (A : List ℕ) (x : ℕ) (D : List ℕ) (f : List ℕ → List ℕ)
    → take (suc (length A)) (A ++ (x ∷ D)) ++ f (drop (suc (length A)) (A ++ (x ∷ D))) ≡ A ++ (x ∷ f D)
front-one [] x D f = refl
front-one (a ∷ A) x D f = ap (λ (l : List ℕ). a ∷ l) (front-one A x D f)

pub none_left : (n : ℕ) (l : List ℕ) → length l ≤ n → drop n l ≡ []
none_left zero [] h = refl
none_left zero (x ∷ l) h = absurd (omega arith)
none_left (suc n) [] h = refl
none_left (suc n) (x ∷ l) h = none_left n l (omega arith)

-- T is the order before, j of which have sent; the w others were lent and came back as y, with the next sender brought forward
module _ (n j w s s' k : ℕ) (T y : List ℕ) (size : length T ≡ n) (h : j < n) (ew : w ≡ n - j) where
  abbrev lent : List ℕ
  lent = take w (drop j T)

  abbrev after : List ℕ
  after = take j T ++ (y ++ drop w (drop j T))

  rest-length : length (drop j T) ≡ w
  rest-length = length-drop j T ∙ ap (λ (z : ℕ). z - j) size ∙ sym ew

  lent_is : lent ≡ drop j T
  lent_is = take_all w (drop j T) (omega (arith, rest-length))

  after_is : after ≡ take j T ++ y
  after_is = ap (λ (l : List ℕ). take j T ++ (y ++ l)) (none_left w (drop j T) (omega (arith, rest-length))) ∙ ap (λ (l : List ℕ). take j T ++ l) (append-nil y)

  pub sender-more : s' ≡ stepped s → k ≡ value_of s' % w → y ≡ at lent k ∷ without k lent
      → take (suc j) after ++ senders_from s' (n - suc j) (drop (suc j) after) ≡ take j T ++ senders_from s (n - j) (drop j T)
  unfolding senders_from
  sender-more es ek ey =
      let D : List ℕ = drop j T in
      let A : List ℕ = take j T in
      let front : length A ≡ j = length-take-le j T (omega arith) in
      let more : n - j ≡ suc (n - suc j) = omega arith in
      let meant : after ≡ A ++ (at D k ∷ without k D) =
      after_is ∙ ap (λ (l : List ℕ). A ++ l) (ey ∙ ap (λ (l : List ℕ). at l k ∷ without k l) lent_is) in
      ap (λ (X : List ℕ). take (suc j) X ++ senders_from s' (n - suc j) (drop (suc j) X)) meant
      ∙ ap (λ (i : ℕ). take (suc i) (A ++ (at D k ∷ without k D)) ++ senders_from s' (n - suc j) (drop (suc i) (A ++ (at D k ∷ without k D)))) (sym front)
      ∙ front-one A (at D k) (without k D) (senders_from s' (n - suc j))
      ∙ ap₂ (λ (i t : ℕ). A ++ (at D i ∷ senders_from t (n - suc j) (without i D))) (ek ∙ ap₂ (λ (t d : ℕ). value_of t % d) es (sym rest-length)) es
      ∙ ap (λ (i : ℕ). A ++ senders_from s i D) (sym more)

-- nobody is owing any more
pub all-sent : (n j s : ℕ) (T : List ℕ) → j ≡ n → length T ≡ n → take j T ++ senders_from s (n - j) (drop j T) ≡ T
unfolding senders_from
all-sent n j s T e size =
    let none : n - j ≡ 0 = omega arith in
    ap₂ (λ (l : List ℕ) (k : ℕ). l ++ senders_from s k (drop j T)) (take_all j T (omega arith)) none ∙ append-nil T

-- The levels, 384 symbols apart in one list: what is before a level stays, a level is what was put there, and a copy from one to the next.
use mathlib.Core.Path.{◌≡◌, sym, ap, ap₂, ◌∙◌}
use mathlib.Core.List.{List, ◌++◌, append_assoc}
use Prim.Native.Nat.{ℕ, ◌+◌, ◌*◌, ◌≤◌, ◌<◌}
use native.Mathlib.Omega.{arith}
use lib.ListN.{length, take, drop, length-drop, take-append-drop}
use lib.Seq.{take_at, drop_at, drop-append-le, take-append-le, length-take-le, paste}
use Rattle.vetting.specs.Walking.{level_at, level_size}

pub level-front : (size d : ℕ) (A M : List ℕ) → d * level_size + size ≤ length A → level_at size (A ++ M) d ≡ level_at size A d
level-front size d A M h =
    ap (take size) (drop-append-le (d * level_size) A M (omega arith))
    ∙ take-append-le size (drop (d * level_size) A) M (omega (arith, length-drop (d * level_size) A))

module _ (size d k : ℕ) (L : List ℕ) (h : k * level_size ≤ length L) where
  len : length (take (k * level_size) L) ≡ k * level_size
  len = length-take-le (k * level_size) L h

  -- what is before level k stays
  pub level-below : (M : List ℕ) → d < k → size ≤ level_size → level_at size (take (k * level_size) L ++ M) d ≡ level_at size L d
  level-below M l s =
      let f : d * level_size + size ≤ length (take (k * level_size) L) = omega (arith, len) in
      level-front size d (take (k * level_size) L) M f
      ∙ sym (level-front size d (take (k * level_size) L) (drop (k * level_size) L) f)
      ∙ ap (λ (X : List ℕ). level_at size X d) (take-append-drop (k * level_size) L)

  -- level k is what was put there
  pub level-here : (new R : List ℕ) → length new ≡ size → level_at size (take (k * level_size) L ++ (new ++ R)) k ≡ new
  level-here new R e = ap (take size) (drop_at (take (k * level_size) L) (new ++ R) (k * level_size) len) ∙ take_at new R size e

-- ---- a copy inside the list, and then a change of it in place
module _ (a b n m : ℕ) (L : List ℕ) (em : m ≡ n) (ha : a + n ≤ length L) (hb : b + n ≤ length L) where
  P : List ℕ
  P = paste L b (drop a L) n

  t : length (take b L) ≡ b
  t = length-take-le b L (omega arith)

  c : length (take n (drop a L)) ≡ n
  c = length-take-le n (drop a L) (omega (arith, length-drop a L))

  assoc : P ≡ take b L ++ (take n (drop a L) ++ drop (b + n) L)
  unfolding P
  assoc = append_assoc (take b L) (take n (drop a L)) (drop (b + n) L)

  pub part-is : take m (drop b (paste L b (drop a L) n)) ≡ take n (drop a L)
  unfolding P
  part-is =
      ap₂ (λ (k : ℕ) (X : List ℕ). take k (drop b X)) em assoc
      ∙ ap (take n) (drop_at (take b L) (take n (drop a L) ++ drop (b + n) L) b t)
      ∙ take_at (take n (drop a L)) (drop (b + n) L) n c

  pub changed : (new : List ℕ) → take b (paste L b (drop a L) n) ++ (new ++ drop m (drop b (paste L b (drop a L) n))) ≡ take b L ++ (new ++ drop (b + n) L)
  unfolding P
  changed new =
      let f : take b P ≡ take b L = ap (take b) assoc ∙ take_at (take b L) (take n (drop a L) ++ drop (b + n) L) b t in
      let g : drop m (drop b P) ≡ drop (b + n) L =
      ap₂ (λ (k : ℕ) (X : List ℕ). drop k (drop b X)) em assoc
      ∙ ap (drop n) (drop_at (take b L) (take n (drop a L) ++ drop (b + n) L) b t)
      ∙ drop_at (take n (drop a L)) (drop (b + n) L) n c in
      ap₂ (λ (X Y : List ℕ). X ++ (new ++ Y)) f g

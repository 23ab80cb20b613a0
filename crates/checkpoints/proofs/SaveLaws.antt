-- There and back: the save of a round, wherever it stands, is read as that round; and a save that is read is the save of its round.
use Prim.Native.Nat.{ℕ, ◌+◌, ◌-◌, ◌*◌, ◌/◌, ◌%◌, ◌≤◌, ◌<◌}
use mathlib.Core.Path.{◌≡◌, refl, sym, ap, ap₂, ◌∙◌}
use mathlib.Core.List.{List, [], ◌∷◌, ◌++◌, append_assoc}
use native.Mathlib.Omega.{arith}
use lib.ListN.{length, take, drop, length-append}
use lib.Seq.{take_at, length-take-le}
use Rattle.lists.specs.Lists.{at, zeros}
use Rattle.plans.specs.Plans.{max_length}
use Rattle.numerals.specs.Bytes.{bytes_of, bytes_of_all, number_at, numbers_at}
use Rattle.numerals.proofs.Bytes.{AreBytes, length-all, length-numbers, numbers-at, numbers-of-bytes, bytes-of-numbers}
use Rattle.rounds.specs.declared.RelayRound.{RelayRound}
use Rattle.rounds.specs.Relays.{relay_round, held}
use Rattle.checkpoints.specs.Checkpoints.{save_size, save_of, distance_at, start_at, length_at, sums_at, round_at}
use Rattle.checkpoints.proofs.StateLaws.{Passed, few-length, sums-said}
use Rattle.checkpoints.proofs.Ways.{TrailerAt}
use Rattle.checkpoints.proofs.SaveRows.{counts_of, words_of, rolls_of, sums_of, held_sums_of, trailer_of, save-rows, length-save}

-- ---- a row of numbers where it stands

module _ (w : ℕ) (some : 0 < w) (pre K post B : List ℕ) (split : B ≡ pre ++ (bytes_of_all w K ++ post)) where
  row-numbers : numbers_at w (length K) B (length pre) ≡ K
  row-numbers = ap (λ (l : List ℕ). numbers_at w (length K) l (length pre)) split ∙ numbers-of-bytes w pre K post some

  row_number : (i k : ℕ) → k < length K → i ≡ length pre + w * k → number_at w B i ≡ at K k
  row_number i k h e = ap (number_at w B) e ∙ sym (numbers-at w (length K) B (length pre) k h) ∙ ap (λ (l : List ℕ). at l k) row-numbers

-- a number of one byte is that byte
one_byte : (B : List ℕ) (i : ℕ) → at B i ≡ number_at 1 B i
unfolding number_at
one_byte B i = omega arith

-- ---- writing, then reading

-- what bytes say that hold the save of a round which ends at place e
pub record SavedAt (B : List ℕ) (e : ℕ) (R : RelayRound) : Type 0 where
  pub trailer : TrailerAt B e
  pub size : distance_at B e ≡ save_size R.round.length
  pub round : round_at B e ≡ R

module _ (before : List ℕ) (R : RelayRound) (after : List ℕ)
    (first : length R.round.sums ≡ max_length) (second : length R.ahead.sums ≡ max_length) (p : Passed R) where
  abbrev L : ℕ
  L = R.round.length

  abbrev e : ℕ
  e = length before + save_size L

  abbrev B : List ℕ
  B = before ++ (save_of R ++ after)

  first-row : length (sums_of R) ≡ L
  first-row = length-take-le L R.round.sums (omega (arith, first, few-length R p))

  second-row : length (held_sums_of R) ≡ L
  second-row = length-take-le L R.ahead.sums (omega (arith, second, few-length R p))

  -- what stands before and after each row
  abbrev q6 : List ℕ
  q6 = bytes_of_all 2 (trailer_of R) ++ after

  abbrev q5 : List ℕ
  q5 = bytes_of_all 4 (held_sums_of R) ++ q6

  abbrev q4 : List ℕ
  q4 = bytes_of_all 4 (sums_of R) ++ q5

  abbrev q3 : List ℕ
  q3 = bytes_of_all 2 (rolls_of R) ++ q4

  abbrev q2 : List ℕ
  q2 = bytes_of_all 4 (words_of R) ++ q3

  abbrev p2 : List ℕ
  p2 = before ++ bytes_of_all 1 (counts_of R)

  abbrev p3 : List ℕ
  p3 = p2 ++ bytes_of_all 4 (words_of R)

  abbrev p4 : List ℕ
  p4 = p3 ++ bytes_of_all 2 (rolls_of R)

  abbrev p5 : List ℕ
  p5 = p4 ++ bytes_of_all 4 (sums_of R)

  abbrev p6 : List ℕ
  p6 = p5 ++ bytes_of_all 4 (held_sums_of R)

  e1 : B ≡ before ++ (bytes_of_all 1 (counts_of R) ++ q2)
  e1 = ap (λ (l : List ℕ). before ++ (l ++ after)) (save-rows R) ∙ ap (λ (l : List ℕ). before ++ l) (nested (bytes_of_all 1 (counts_of R)) (bytes_of_all 4 (words_of R))
      (bytes_of_all 2 (rolls_of R)) (bytes_of_all 4 (sums_of R)) (bytes_of_all 4 (held_sums_of R)) (bytes_of_all 2 (trailer_of R)))
    where
      nested : (a b c d x y : List ℕ) → ((a ++ (b ++ c)) ++ (d ++ (x ++ y))) ++ after ≡ a ++ (b ++ (c ++ (d ++ (x ++ (y ++ after)))))
      nested a b c d x y = simp append_assoc

  e2 : B ≡ p2 ++ q2
  e2 = e1 ∙ sym (append_assoc before (bytes_of_all 1 (counts_of R)) q2)

  e3 : B ≡ p3 ++ q3
  e3 = e2 ∙ sym (append_assoc p2 (bytes_of_all 4 (words_of R)) q3)

  e4 : B ≡ p4 ++ q4
  e4 = e3 ∙ sym (append_assoc p3 (bytes_of_all 2 (rolls_of R)) q4)

  e5 : B ≡ p5 ++ q5
  e5 = e4 ∙ sym (append_assoc p4 (bytes_of_all 4 (sums_of R)) q5)

  e6 : B ≡ p6 ++ q6
  e6 = e5 ∙ sym (append_assoc p5 (bytes_of_all 4 (held_sums_of R)) q6)

  n2 : length p2 ≡ length before + 4
  n2 = length-append before (bytes_of_all 1 (counts_of R)) ∙ omega (arith, length-all 1 (counts_of R))

  n3 : length p3 ≡ length before + 12
  n3 = length-append p2 (bytes_of_all 4 (words_of R)) ∙ omega (arith, n2, length-all 4 (words_of R))

  n4 : length p4 ≡ length before + 16
  n4 = length-append p3 (bytes_of_all 2 (rolls_of R)) ∙ omega (arith, n3, length-all 2 (rolls_of R))

  n5 : length p5 ≡ length before + 16 + 4 * L
  n5 = length-append p4 (bytes_of_all 4 (sums_of R)) ∙ omega (arith, n4, length-all 4 (sums_of R), first-row)

  n6 : length p6 ≡ length before + 16 + 8 * L
  n6 = length-append p5 (bytes_of_all 4 (held_sums_of R)) ∙ omega (arith, n5, length-all 4 (held_sums_of R), second-row)

  -- ---- the trailer

  far : distance_at B e ≡ save_size L
  far = row_number 2 (omega arith) p6 (trailer_of R) after B e6 (e - 4) 0 (omega arith) (omega (arith, n6))

  -- its last two bytes
  mark : (i k : ℕ) → k < 4 → i ≡ length p6 + k → at B i ≡ at (save_size L % 256 ∷ save_size L / 256 ∷ 0x4b ∷ 0x52 ∷ []) k
  unfolding bytes_of bytes_of_all
  mark i k h s = one_byte B i ∙ row_number 1 (omega arith) p6 (save_size L % 256 ∷ save_size L / 256 ∷ 0x4b ∷ 0x52 ∷ []) after B e6 i k h (omega arith)

  ended : TrailerAt B e
  ended =
      record {
        four = omega arith;
        first-mark = mark (e - 2) 2 (omega arith) (omega (arith, n6));
        last-mark = mark (e - 1) 3 (omega arith) (omega (arith, n6));
        least = omega (arith, far);
        inside = omega (arith, far);
      }

  -- ---- the numbers from the first byte on

  origin : start_at B e ≡ length before
  origin = omega (arith, far)

  count_at : (i k : ℕ) → k < 4 → i ≡ start_at B e + k → at B i ≡ at (counts_of R) k
  count_at i k h s = one_byte B i ∙ row_number 1 (omega arith) before (counts_of R) q2 B e1 i k h (omega (arith, origin))

  same_length : length_at B e ≡ L
  same_length = count_at (start_at B e + 3) 3 (omega arith) refl

  -- a row of sums
  same-sums : (pre post sums : List ℕ) (i : ℕ) → B ≡ pre ++ (bytes_of_all 4 (take L sums) ++ post) → length (take L sums) ≡ L → i ≡ length pre
      → take L sums ++ zeros (max_length - L) ≡ sums → sums_at B L i ≡ sums
  same-sums pre post sums i split long s said =
      ap₂ (λ (n j : ℕ). numbers_at 4 n B j ++ zeros (max_length - L)) (sym long) s
      ∙ ap (λ (l : List ℕ). l ++ zeros (max_length - L)) (row-numbers 4 (omega arith) pre (take L sums) post B split)
      ∙ said

  same-round : round_at B e ≡ R
  same-round = λ j. relay_round (count_at (start_at B e + 2) 2 (omega arith) refl j)
      record {
        clusters = count_at (start_at B e) 0 (omega arith) (omega arith) j;
        size = count_at (start_at B e + 1) 1 (omega arith) refl j;
        q = row_number 4 (omega arith) p2 (words_of R) q3 B e2 (start_at B e + 4) 0 (omega arith) (omega (arith, origin, n2)) j;
        length = same_length j;
        number = row_number 4 (omega arith) p2 (words_of R) q3 B e2 (start_at B e + 8) 1 (omega arith) (omega (arith, origin, n2)) j;
        reported = row_number 2 (omega arith) p3 (rolls_of R) q4 B e3 (start_at B e + 12) 0 (omega arith) (omega (arith, origin, n3)) j;
        sums = sums-here j;
      }
      (held (row_number 2 (omega arith) p3 (rolls_of R) q4 B e3 (start_at B e + 14) 1 (omega arith) (omega (arith, origin, n3)) j) (sums-ahead j))
    where
      sums-here : sums_at B (length_at B e) (start_at B e + 16) ≡ R.round.sums
      sums-here =
          ap (λ (n : ℕ). sums_at B n (start_at B e + 16)) same_length
          ∙ same-sums p4 q5 R.round.sums (start_at B e + 16) e4 first-row (omega (arith, origin, n4))
          (sums-said R.round.q L R.round.sums first p.first-sums)

      sums-ahead : sums_at B (length_at B e) (start_at B e + 16 + 4 * length_at B e) ≡ R.ahead.sums
      sums-ahead =
          ap (λ (n : ℕ). sums_at B n (start_at B e + 16 + 4 * n)) same_length
          ∙ same-sums p5 q6 R.ahead.sums (start_at B e + 16 + 4 * L) e5 second-row (omega (arith, origin, n5))
          (sums-said R.round.q L R.ahead.sums second p.held-sums)

  pub saved-at : SavedAt B e R
  saved-at = record { trailer = ended; size = far; round = same-round }

  pub save-length : length (save_of R) ≡ save_size L
  save-length = length-save R first-row second-row

-- ---- reading, then writing

module _ (B : List ℕ) (bytes : AreBytes B) where
  -- a row that was read, written again
  row_back : (w n i k : ℕ) (K : List ℕ) → K ≡ numbers_at w n B i → k ≡ i + w * n → k ≤ length B → bytes_of_all w K ++ drop k B ≡ drop i B
  row_back w n i k K same e h = ap (λ (l : List ℕ). bytes_of_all w l ++ drop k B) same ∙ bytes-of-numbers B bytes w n i k e h

  module _ (e : ℕ) (t : TrailerAt B e) (inside : e ≤ length B) (sized : distance_at B e ≡ save_size (length_at B e)) where
    abbrev R : RelayRound
    R = round_at B e

    abbrev s : ℕ
    s = start_at B e

    abbrev n : ℕ
    n = length_at B e

    whole : e ≡ s + save_size n
    whole = omega (arith, sized, t.inside)

    -- the first L of a row of sums are those that stand there
    row_of : (i : ℕ) → take n (sums_at B n i) ≡ numbers_at 4 n B i
    row_of i = take_at (numbers_at 4 n B i) (zeros (max_length - n)) n (length-numbers 4 n B i)

    counts-read : counts_of R ≡ numbers_at 1 4 B s
    unfolding numbers_at number_at
    counts-read = λ j. byte s s refl j ∷ byte (s + 1) (s + 1) refl j ∷ byte (s + 2) (s + 1 + 1) (omega arith) j ∷ byte (s + 3) (s + 1 + 1 + 1) (omega arith) j ∷ []
      where
        byte : (i k : ℕ) → i ≡ k → at B i ≡ number_at 1 B k
        byte i k e = ap (at B) e ∙ one_byte B k

    words-read : words_of R ≡ numbers_at 4 2 B (s + 4)
    unfolding numbers_at
    words-read = λ j. number_at 4 B (s + 4) ∷ ap (number_at 4 B) {x = s + 8} {y = s + 4 + 4} (omega arith) j ∷ []

    rolls-read : rolls_of R ≡ numbers_at 2 2 B (s + 12)
    unfolding numbers_at
    rolls-read = λ j. number_at 2 B (s + 12) ∷ ap (number_at 2 B) {x = s + 14} {y = s + 12 + 2} (omega arith) j ∷ []

    trailer-read : trailer_of R ≡ numbers_at 2 2 B (e - 4)
    unfolding numbers_at number_at
    trailer-read =
        let first : at B (e - 4 + 2) ≡ 0x4b = ap (at B) {x = e - 4 + 2} {y = e - 2} (omega (arith, t.four)) ∙ t.first-mark in
        let last : at B (e - 4 + 2 + 1) ≡ 0x52 = ap (at B) {x = e - 4 + 2 + 1} {y = e - 1} (omega (arith, t.four)) ∙ t.last-mark in
        let marks : 0x524b ≡ at B (e - 4 + 2) + 256 * (at B (e - 4 + 2 + 1) + 256 * 0) = omega arith in
        λ j. sym sized j ∷ marks j ∷ []

    all-bytes : save_of R ++ drop e B ≡ drop s B
    all-bytes =
        ap (λ (l : List ℕ). l ++ drop e B) (save-rows R)
        ∙ nested (bytes_of_all 1 (counts_of R)) (bytes_of_all 4 (words_of R)) (bytes_of_all 2 (rolls_of R)) (bytes_of_all 4 (sums_of R)) (bytes_of_all 4 (held_sums_of R))
        (bytes_of_all 2 (trailer_of R))
        ∙ ap (λ (l : List ℕ). c ++ (w ++ (r ++ (a ++ (h ++ l))))) (row_back 2 2 (e - 4) e (trailer_of R) trailer-read (omega (arith, t.four)) inside)
        ∙ ap (λ (l : List ℕ). c ++ (w ++ (r ++ (a ++ l)))) (row_back 4 n (s + 16 + 4 * n) (e - 4) (held_sums_of R) (row_of (s + 16 + 4 * n)) (omega (arith, whole)) (omega arith))
        ∙ ap (λ (l : List ℕ). c ++ (w ++ (r ++ l))) (row_back 4 n (s + 16) (s + 16 + 4 * n) (sums_of R) (row_of (s + 16)) refl (omega (arith, whole)))
        ∙ ap (λ (l : List ℕ). c ++ (w ++ l)) (row_back 2 2 (s + 12) (s + 16) (rolls_of R) rolls-read (omega arith) (omega (arith, whole)))
        ∙ ap (λ (l : List ℕ). c ++ l) (row_back 4 2 (s + 4) (s + 12) (words_of R) words-read (omega arith) (omega (arith, whole)))
        ∙ row_back 1 4 s (s + 4) (counts_of R) counts-read (omega arith) (omega (arith, whole))
      where
        c : List ℕ
        c = bytes_of_all 1 (counts_of R)

        w : List ℕ
        w = bytes_of_all 4 (words_of R)

        r : List ℕ
        r = bytes_of_all 2 (rolls_of R)

        a : List ℕ
        a = bytes_of_all 4 (sums_of R)

        h : List ℕ
        h = bytes_of_all 4 (held_sums_of R)

        nested : (u v x y z t : List ℕ) → ((u ++ (v ++ x)) ++ (y ++ (z ++ t))) ++ drop e B ≡ u ++ (v ++ (x ++ (y ++ (z ++ (t ++ drop e B)))))
        nested u v x y z t = simp append_assoc

    pub read-save : save_of R ≡ take (distance_at B e) (drop s B)
    read-save =
        let first : length (sums_of R) ≡ n = ap length (row_of (s + 16)) ∙ length-numbers 4 n B (s + 16) in
        let second : length (held_sums_of R) ≡ n = ap length (row_of (s + 16 + 4 * n)) ∙ length-numbers 4 n B (s + 16 + 4 * n) in
        sym (take_at (save_of R) (drop e B) (distance_at B e) (length-save R first second ∙ sym sized)) ∙ ap (take (distance_at B e)) all-bytes

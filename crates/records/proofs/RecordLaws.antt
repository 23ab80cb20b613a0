-- A plan and its key table have one record, and reading and writing undo each other.
use Prim.Native.Nat.{ℕ, ◌+◌, ◌-◌, ◌*◌, ◌^◌, ◌≤◌, ◌<◌}
use mathlib.Core.Path.{◌≡◌, refl, sym, ap, ap₂, ◌∙◌}
use mathlib.Core.Bool.{true, false, cond}
use mathlib.Core.List.{List, [], ◌∷◌, ◌++◌, append_assoc}
use native.Mathlib.Nat.{mul-le-mul}
use native.Mathlib.Omega.{arith}
use lib.Dec.{eqb}
use lib.ListN.{length, take, drop, length-append, drop_of_length-le}
use lib.Seq.{take_at, drop_at, drop-drop, get_or-append-add}
use borrow.Author.Tests.{eq-eqb}
use Rattle.refusals.specs.Codes.{accepted}
use Rattle.residues.specs.Primes.{is_prime, all_below}
use Rattle.lists.specs.Lists.{at}
use Rattle.plans.specs.declared.Plan.{Plan}
use Rattle.plans.specs.Plans.{users_of, in_bounds}
use Rattle.numerals.specs.Bytes.{bytes_of, bytes_of_all, number_at, numbers_at}
use Rattle.records.specs.Records.{width_of, mark_of, size_with, width_in, record_size, record_with, record_of, distance, start, bad_trailer, plan_read, table_read}
use Rattle.records.specs.Records.{read_code, write_code}
use Rattle.numerals.proofs.Bytes.{AreBytes, length-bytes, length-all, number-of-bytes, numbers-of-bytes, drop-two, bytes-of-number, bytes-of-numbers}
use Rattle.numerals.proofs.Bytes.{no_bytes, byte_more, bytes-append, number-bytes, numbers-bytes}
use Rattle.records.proofs.PlanSizes.{bounded}
use Rattle.records.proofs.Widths.{width_some, mark-byte, mark-tells}
use Rattle.records.proofs.Trailers.{Trailer, trailer-of, trailer-good}
use Rattle.records.proofs.RecordChecks.{readable, writable}

-- ---- the three parts of a record

abbrev pub counts_of : Plan → List ℕ
counts_of P = P.clusters ∷ P.size ∷ P.limit ∷ P.rate ∷ []

abbrev pub head_of : ℕ → Plan → List ℕ
head_of w P = counts_of P ++ bytes_of w P.q

abbrev marks_of : ℕ → List ℕ
marks_of w = 0x4b ∷ mark_of w ∷ []

abbrev pub trailer_of : ℕ → ℕ → List ℕ
trailer_of w size = bytes_of 2 size ++ marks_of w

module _ (w : ℕ) (P : Plan) where
  pub record-parts : (K : List ℕ) → record_with w P K ≡ head_of w P ++ bytes_of_all w K ++ trailer_of w (size_with w P)
  unfolding record_with
  record-parts K = append_assoc (head_of w P ++ bytes_of_all w K) (bytes_of 2 (size_with w P)) (marks_of w)

  pub record-pieces : (K : List ℕ) → record_with w P K ≡ head_of w P ++ (bytes_of_all w K ++ trailer_of w (size_with w P))
  record-pieces K = record-parts K ∙ append_assoc (head_of w P) (bytes_of_all w K) (trailer_of w (size_with w P))

  pub head-length : length (head_of w P) ≡ 4 + w
  head-length = omega (arith, length-bytes w P.q)

  pub length-record : (K : List ℕ) → length (record_with w P K) ≡ 8 + w + w * length K
  unfolding bytes_of
  length-record K =
      ap length (record-pieces K)
      ∙ omega (
        arith,
        head-length,
        length-all w K,
        length-append (head_of w P) (bytes_of_all w K ++ trailer_of w (size_with w P)),
        length-append (bytes_of_all w K) (trailer_of w (size_with w P)),
      )

  -- where each part stands
  pub head-part : (K : List ℕ) → take (4 + w) (record_with w P K) ≡ head_of w P
  head-part K = ap (take (4 + w)) (record-pieces K) ∙ take_at (head_of w P) (bytes_of_all w K ++ trailer_of w (size_with w P)) (4 + w) head-length

  after-head : (K : List ℕ) → drop (4 + w) (record_with w P K) ≡ bytes_of_all w K ++ trailer_of w (size_with w P)
  after-head K = ap (drop (4 + w)) (record-pieces K) ∙ drop_at (head_of w P) (bytes_of_all w K ++ trailer_of w (size_with w P)) (4 + w) head-length

  pub body-part : (K : List ℕ) → take (w * length K) (drop (4 + w) (record_with w P K)) ≡ bytes_of_all w K
  body-part K = ap (take (w * length K)) (after-head K) ∙ take_at (bytes_of_all w K) (trailer_of w (size_with w P)) (w * length K) (length-all w K)

  pub trailer-part : (K : List ℕ) → drop (4 + w + w * length K) (record_with w P K) ≡ trailer_of w (size_with w P)
  trailer-part K =
      sym (drop-drop (w * length K) (4 + w) (record_with w P K))
      ∙ ap (drop (w * length K)) (after-head K)
      ∙ drop_at (bytes_of_all w K) (trailer_of w (size_with w P)) (w * length K) (length-all w K)

  pub size-bound : w ≤ 4 → in_bounds P ≡ true → size_with w P < 256 ^ 2
  size-bound few e = omega (arith, mul-le-mul {n₁ = w} {m₁ = users_of P * P.rate} {n₂ = 4} {m₂ = 256} few (bounded P e).symbols)

  -- it is made of bytes, where q and the symbols fit in the width
  pub record-bytes : (K : List ℕ) → w ≤ 4 → in_bounds P ≡ true → P.q < 256 ^ w → ((i : ℕ) → at K i < 256 ^ w) → AreBytes (record_with w P K)
  unfolding record_with
  record-bytes K few e q k =
      let b = bounded P e in
      let marks : AreBytes (marks_of w) = byte_more 0x4b (mark_of w ∷ []) (omega arith) (byte_more (mark_of w) [] (mark-byte w) no_bytes) in
      let head : AreBytes (head_of w P) =
      byte_more P.clusters (P.size ∷ P.limit ∷ P.rate ∷ bytes_of w P.q) (omega (arith, b.clusters))
      (byte_more P.size (P.limit ∷ P.rate ∷ bytes_of w P.q) (omega (arith, b.size))
      (byte_more P.limit (P.rate ∷ bytes_of w P.q) (omega (arith, b.limit))
      (byte_more P.rate (bytes_of w P.q) (omega (arith, b.rate)) (number-bytes w P.q q)))) in
      bytes-append (head_of w P ++ bytes_of_all w K ++ bytes_of 2 (size_with w P)) (marks_of w)
      (bytes-append (head_of w P ++ bytes_of_all w K) (bytes_of 2 (size_with w P)) (bytes-append (head_of w P) (bytes_of_all w K) head (numbers-bytes w K k))
      (number-bytes 2 (size_with w P) (size-bound few e)))
      marks

-- ---- writing, then reading

-- what a buffer says that ends with the record of a plan and a table
pub record EndsWith (B : List ℕ) (P : Plan) (K : List ℕ) : Type 0 where
  pub trailer : bad_trailer B ≡ false
  pub width : width_in B ≡ width_of P.q
  pub size : distance B ≡ record_size P
  pub plan : plan_read B ≡ P
  pub table : table_read B ≡ K

module _ (before : List ℕ) (P : Plan) (K : List ℕ) (sized : length K ≡ users_of P * P.rate) where
  abbrev w : ℕ
  w = width_of P.q

  abbrev B : List ℕ
  B = before ++ record_of P K

  abbrev front : List ℕ
  front = before ++ (head_of w P ++ bytes_of_all w K)

  split : B ≡ front ++ trailer_of w (record_size P)
  split =
      ap (λ (l : List ℕ). before ++ l) (record-parts w P K)
      ∙ sym (append_assoc before (head_of w P ++ bytes_of_all w K) (trailer_of w (record_size P)))

  front_length : length front + 4 ≡ length before + record_size P
  front_length =
      let body : w * length K ≡ w * (users_of P * P.rate) = ap (λ (n : ℕ). w * n) sized in
      omega (
        arith,
        length-append before (head_of w P ++ bytes_of_all w K),
        length-append (head_of w P) (bytes_of_all w K),
        head-length w P,
        length-all w K,
      )

  whole_length : length B ≡ length front + 4
  unfolding bytes_of
  whole_length = ap length split ∙ length-append front (trailer_of w (record_size P))

  -- the numbers of the trailer, and those of the head
  end-at : (i j : ℕ) → i ≡ length front + j → at B i ≡ at (trailer_of w (record_size P)) j
  end-at i j e = ap₂ at split e ∙ get_or-append-add front (trailer_of w (record_size P)) j 0

  head_at : (i j : ℕ) → i ≡ length before + j → at B i ≡ at (record_of P K) j
  head_at i j e = ap (at B) e ∙ get_or-append-add before (record_of P K) j 0

  last : at B (length B - 1) ≡ mark_of w
  unfolding bytes_of
  last = end-at (length B - 1) 3 (omega (arith, whole_length))

  wide : width_in B ≡ w
  wide = ap (λ (n : ℕ). cond (eqb n 0x50) 2 4) last ∙ sym (mark-tells P.q)

  far : distance B ≡ record_size P
  far =
      let place : length B - 4 ≡ length front = omega (arith, whole_length) in
      ap₂ (number_at 2) split place
      ∙ number-of-bytes 2 front (record_size P) (marks_of w) (omega arith)

  origin : start B ≡ length before
  origin = omega (arith, far, whole_length, front_length)

  ended : Trailer B
  unfolding bytes_of
  ended =
      record {
        four = omega (arith, whole_length);
        first-mark = end-at (length B - 2) 2 (omega (arith, whole_length));
        last-mark = last ∙ ap mark_of (sym wide);
        least = omega (arith, far, wide);
        inside = omega (arith, far, whole_length, front_length);
      }

  -- what stands before q, before the symbols and after them
  abbrev rest : List ℕ
  rest = bytes_of_all w K ++ trailer_of w (record_size P)

  pieces : B ≡ before ++ (head_of w P ++ rest)
  pieces = ap (λ (l : List ℕ). before ++ l) (record-pieces w P K)

  same-prime : number_at (width_in B) B (start B + 4) ≡ P.q
  same-prime =
      let place : start B + 4 ≡ length (before ++ counts_of P) = omega (arith, origin, length-append before (counts_of P)) in
      ap₂ (λ (n i : ℕ). number_at n B i) wide place
      ∙ ap (λ (l : List ℕ). number_at w l (length (before ++ counts_of P))) (pieces ∙ sym (append_assoc before (counts_of P) (bytes_of w P.q ++ rest)))
      ∙ number-of-bytes w (before ++ counts_of P) P.q rest (width_some P.q)

  same-plan : plan_read B ≡ P
  unfolding record_with
  same-plan = λ i. record {
    clusters = head_at (start B) 0 (omega (arith, origin)) i;
    size = head_at (start B + 1) 1 (omega (arith, origin)) i;
    limit = head_at (start B + 2) 2 (omega (arith, origin)) i;
    rate = head_at (start B + 3) 3 (omega (arith, origin)) i;
    q = same-prime i;
  }

  same-table : table_read B ≡ K
  same-table =
      let count : users_of (plan_read B) * (plan_read B).rate ≡ length K = ap (λ (X : Plan). users_of X * X.rate) same-plan ∙ sym sized in
      let place : start B + 4 + w ≡ length (before ++ head_of w P) = omega (arith, origin, length-append before (head_of w P), head-length w P) in
      ap₂ (λ (v n : ℕ). numbers_at v n B (start B + 4 + v)) wide count
      ∙ ap₂ (numbers_at w (length K)) (pieces ∙ sym (append_assoc before (head_of w P) rest)) place
      ∙ numbers-of-bytes w (before ++ head_of w P) K (trailer_of w (record_size P)) (width_some P.q)

-- whatever stands before it, the record of a plan and its table is read as that plan and that table
pub write_read : (before : List ℕ) (P : Plan) (K : List ℕ) → length K ≡ users_of P * P.rate → EndsWith (before ++ record_of P K) P K
write_read before P K e =
    record {
      trailer = trailer-good (before ++ record_of P K) (ended before P K e);
      width = wide before P K e;
      size = far before P K e;
      plan = same-plan before P K e;
      table = same-table before P K e;
    }

-- the reader accepts whatever the writer wrote, whatever stands before it
pub written-accepted : (before : List ℕ) (P : Plan) (K out lent : List ℕ) → accepted ≡ write_code P K out → length lent ≡ 256 → accepted ≡ read_code
    (before ++ record_of P K) lent
written-accepted before P K out lent e l =
    let w = writable P K out e in
    let r = write_read before P K w.table in
    let kind = r.width ∙ ap (λ (X : Plan). width_of X.q) (sym r.plan) in
    simp (
      r.trailer,
      ap in_bounds r.plan ∙ w.bounds,
      eq-eqb _ _ (r.size ∙ ap₂ size_with (sym r.width) (sym r.plan)),
      eq-eqb _ _ l,
      ap (λ (X : Plan). is_prime X.q) r.plan ∙ w.prime,
      eq-eqb _ _ kind,
      ap₂ (λ (X : Plan) (l : List ℕ). all_below X.q l) r.plan r.table ∙ w.below,
    )

-- ---- reading, then writing

-- the head's bytes of a buffer
head_bytes : (B : List ℕ) → AreBytes B → (w s : ℕ) → s + 4 + w ≤ length B
    → at B s ∷ at B (s + 1) ∷ at B (s + 2) ∷ at B (s + 3) ∷ bytes_of w (number_at w B (s + 4)) ++ drop (s + 4 + w) B ≡ drop s B
head_bytes B b w s h =
    ap (λ (l : List ℕ). at B s ∷ at B (s + 1) ∷ at B (s + 2) ∷ at B (s + 3) ∷ l) (bytes-of-number B b w (s + 4) (s + 4 + w) refl h)
    ∙ ap (λ (l : List ℕ). at B s ∷ at B (s + 1) ∷ l) (sym (drop-two B (s + 2) (s + 3) (s + 4) (omega arith) (omega arith) (omega arith)))
    ∙ sym (drop-two B s (s + 1) (s + 2) refl refl (omega arith))

module _ (B out : List ℕ) (bytes : AreBytes B) (read : accepted ≡ read_code B out) where
  -- the width that the mark tells
  abbrev told : ℕ
  told = width_in B

  tail : trailer_of told (size_with told (plan_read B)) ≡ drop (length B - 4) B
  tail =
      let t = trailer-of B (readable B out read).trailer in
      let n : ℕ = length B in
      let last : drop (n - 2) B ≡ marks_of told =
      drop-two B (n - 2) (n - 1) n (omega (arith, t.four)) (omega (arith, t.four)) (omega arith)
      ∙ ap₂ (λ (x y : ℕ). x ∷ y ∷ drop n B) t.first-mark t.last-mark
      ∙ ap (λ (l : List ℕ). 0x4b ∷ mark_of told ∷ l) (drop_of_length-le B {i = n} (omega arith)) in
      ap₂ (λ (x : ℕ) (l : List ℕ). bytes_of 2 x ++ l) (sym (readable B out read).size) (sym last)
      ∙ bytes-of-number B bytes 2 (n - 4) (n - 2) (omega (arith, t.four)) (omega arith)

  all-bytes : record_with told (plan_read B) (table_read B) ≡ drop (start B) B
  all-bytes =
      let r = readable B out read in
      let t = trailer-of B r.trailer in
      let s : ℕ = start B in
      let P : Plan = plan_read B in
      let n : ℕ = length B in
      let m : n ≡ s + 8 + told + told * (users_of P * P.rate) = omega (arith, r.size, t.inside) in
      let body : bytes_of_all told (table_read B) ++ drop (n - 4) B ≡ drop (s + 4 + told) B =
      bytes-of-numbers B bytes told (users_of P * P.rate) (s + 4 + told) (n - 4) (omega arith) (omega arith) in
      record-pieces told P (table_read B)
      ∙ ap (λ (l : List ℕ). head_of told P ++ (bytes_of_all told (table_read B) ++ l)) tail
      ∙ ap (λ (l : List ℕ). head_of told P ++ l) body
      ∙ head_bytes B bytes told s (omega arith)

-- whatever is read, written again, is the last D bytes of the buffer
pub read-write : (B out : List ℕ) → AreBytes B → accepted ≡ read_code B out → record_of (plan_read B) (table_read B) ≡ drop (length B - distance B) B
read-write B out b r = ap (λ (n : ℕ). record_with n (plan_read B) (table_read B)) (sym (readable B out r).kind) ∙ all-bytes B out b r

-- a plan and a table are read from one record alone
pub one-record : (B C out : List ℕ) → AreBytes B → AreBytes C → accepted ≡ read_code B out → accepted ≡ read_code C out → plan_read B ≡ plan_read C → table_read B
    ≡ table_read C
    → drop (start B) B ≡ drop (start C) C
one-record B C out b c r s p k = sym (read-write B out b r) ∙ ap₂ record_of p k ∙ read-write C out c s

-- Individual keys: what each user's row makes, where each key stands in the derived list, and what the checks say.
use Rattle.std.proofs.Common.{◌≡◌, ℕ, ◌+◌, ◌*◌, ◌%◌, ◌<◌, ◌≤◌, true, ◌&&◌, eqb, List, length, take, drop, sym, refl, ap, ◌∙◌, ap₂, arith, eqb→eq}
use borrow.Author.Tests.{not-false}
use Rattle.refusals.specs.Codes.{accepted, first_of, if_accepted}
use Rattle.refusals.proofs.CodeLaws.{none-holds, accepted-takes}
use Rattle.residues.specs.Primes.{Prime, all_below}
use Rattle.residues.proofs.PrimeLaws.{prime-pos, below_at}
use Rattle.lists.proofs.Searches.{true→T, T_and}
use Rattle.lists.specs.Lists.{at, tab, join_to}
use Rattle.secrecy.specs.Model.{sum_so_far, key}
use Rattle.lists.proofs.Sums.{sum-cong}
use Rattle.lists.proofs.ListLaws.{at-tab, length-tab, tab-cong}
use Rattle.plans.specs.declared.Plan.{Plan}
use Rattle.plans.specs.Plans.{users_of, in_bounds, length_fits, table_checks}
use Rattle.plans.proofs.PlanBounds.{Bounds, bounds-known, length-known}
use Rattle.plans.proofs.TableLaws.{Passed, table-passed}
use Rattle.vetting.specs.Pools.{pool_of}
use Rattle.vetting.specs.Vet.{vet_checks}
use Rattle.keys.specs.Keys.{keys_of, block_checks, key_checks, unvetted_checks}
use Rattle.refusals.proofs.Orders.{rest-decides, first-accepts}
use Rattle.vetting.proofs.PlanLaws.{Vetted, vetted, vet-numbered}
use Rattle.lists.proofs.Fronts.{length_part, part_at}
use Rattle.lists.proofs.Joins.{length-join, join-part, join-cong}

-- ---- the derived list

-- the key of user i in position p, by a table K of rows of R symbols, where s p k is the source symbol of product k there
abbrev pub key_sum : (q R : ℕ) (K : List ℕ) (s : ℕ → ℕ → ℕ) → ℕ → ℕ → ℕ
key_sum q R K s i p = sum_so_far q (λ k. at K (i * R + k)) (s p) R

-- the keys of n users
abbrev pub key_rows : (q n R L : ℕ) (K : List ℕ) (s : ℕ → ℕ → ℕ) → List ℕ
key_rows q n R L K s = join_to n (λ i. tab L (key_sum q R K s i))

-- the symbols of a source key N, and of one that is turned for L positions
abbrev pub symbols_of : ℕ → List ℕ → ℕ → ℕ → ℕ
symbols_of R N p k = at N (p * R + k)

abbrev pub turned_symbols : ℕ → List ℕ → ℕ → ℕ → ℕ
turned_symbols L turned p k = at turned (k * L + p)

pub keys-are : (P : Plan) (K : List ℕ) (L : ℕ) (N : List ℕ) → key_rows P.q (users_of P) P.rate L K (symbols_of P.rate N) ≡ keys_of P K L N
unfolding keys_of key
keys-are P K L N = refl

module _ (q n R L : ℕ) (K : List ℕ) (s : ℕ → ℕ → ℕ) where
  pub length-rows : length (key_rows q n R L K s) ≡ n * L
  length-rows = length-join L (λ i. tab L (key_sum q R K s i)) (λ i. length-tab L (key_sum q R K s i)) n

  -- the keys of user i
  pub keys-part : (i : ℕ) → i < n → take L (drop (i * L) (key_rows q n R L K s)) ≡ tab L (key_sum q R K s i)
  keys-part = join-part L (λ i. tab L (key_sum q R K s i)) (λ i. length-tab L (key_sum q R K s i)) n

  -- the same symbols make the same keys
  pub keys-alike : (t : ℕ → ℕ → ℕ) → ((p k : ℕ) → p < L → k < R → s p k ≡ t p k) → key_rows q n R L K s ≡ key_rows q n R L K t
  keys-alike t e =
      join-cong n _ _
      (λ i.
      tab-cong L _ _
      (λ p h. ap (λ (x : ℕ). x % q) (sum-cong R _ _ (λ k l. ap (λ (x : ℕ). at K (i * R + k) * x) (e p k h l)))))

pub length-keys : (q n R L : ℕ) (K N : List ℕ) → length (key_rows q n R L K (symbols_of R N)) ≡ n * L
length-keys q n R L K N = length-rows q n R L K (symbols_of R N)

-- what user i's row alone makes of a turned source key, w symbols of K, is the part of the keys that is lent for it, v symbols of T
pub keys-of-row : (q n R L : ℕ) (K turned T : List ℕ) (i w v : ℕ) → w ≡ R → v ≡ L → i < n → i * R + R ≤ length K → i * L + L ≤ length T
    → (let row : List ℕ = take w (drop (i * R) K) in
    let m : ℕ = length (take v (drop (i * L) T)) in
    tab m (λ p. sum_so_far q (at row) (λ k. at turned (k * m + p)) (length row))
    ≡ take v (drop (i * L) (key_rows q n R L K (turned_symbols L turned))))
keys-of-row q n R L K turned T i w v ew ev h k l =
    let row : List ℕ = take w (drop (i * R) K) in
    let size : length row ≡ R = length_part w (i * R) K (omega arith) ∙ ew in
    let lent : length (take v (drop (i * L) T)) ≡ L = length_part v (i * L) T (omega arith) ∙ ev in
    ap₂ (λ (m r : ℕ). tab m (λ p. sum_so_far q (at row) (λ k. at turned (k * m + p)) r)) lent size
    ∙ tab-cong L _ (key_sum q R K (turned_symbols L turned) i)
    (λ p _.
    ap (λ (t : ℕ). t % q)
    (sum-cong R _ (λ k. at K (i * R + k) * at turned (k * L + p))
    (λ k within. ap (λ (x : ℕ). x * at turned (k * L + p)) (part_at w (i * R) K k (omega arith)))))
    ∙ sym (keys-part q n R L K (turned_symbols L turned) i h)
    ∙ ap (λ (m : ℕ). take m (drop (i * L) (key_rows q n R L K (turned_symbols L turned)))) (sym ev)

-- where a source key's symbols stand once it is turned
pub turned-at : (R L : ℕ) (N : List ℕ) (p k : ℕ) → p < L → k < R
    → turned_symbols L (join_to R (λ j. tab L (λ i. symbols_of R N i j))) p k ≡ symbols_of R N p k
turned-at R L N p k h l =
    let columns : ℕ → List ℕ = λ j. tab L (λ i. symbols_of R N i j) in
    sym (part_at L (k * L) (join_to R columns) p h)
    ∙ ap (λ (x : List ℕ). at x p) (join-part L columns (λ j. length-tab L (λ i. symbols_of R N i j)) R k l)
    ∙ at-tab L (λ i. symbols_of R N i k) p h

-- the key of user i in position p stands at index i L + p
pub keys-at : (P : Plan) (K : List ℕ) (L : ℕ) (N : List ℕ) (i p : ℕ) → i < users_of P → p < L → at (keys_of P K L N) (i * L + p) ≡ key (pool_of P K) N i p
unfolding keys_of key
keys-at P K L N i p h l =
    sym (part_at L (i * L) (keys_of P K L N) p l)
    ∙ ap (λ (x : List ℕ). at x p) (keys-part P.q (users_of P) P.rate L K (symbols_of P.rate N) i h)
    ∙ at-tab L (key_sum P.q P.rate K (symbols_of P.rate N) i) p l

-- ---- the checks

-- a plan that the vet accepts is within its bounds
pub vet-bounds : (P : Plan) (K : List ℕ) → accepted ≡ first_of (vet_checks P K) → in_bounds P ≡ true
vet-bounds P K e = not-false (in_bounds P) (none-holds (vet_checks P K) (vet-numbered P K) e).0

-- and its table has symbols alone
vet-below : (P : Plan) (K : List ℕ) → accepted ≡ first_of (vet_checks P K) → all_below P.q K ≡ true
vet-below P K e = not-false (all_below P.q K) (none-holds (vet_checks P K) (vet-numbered P K) e).1.1.1.0

module _ (P : Plan) (K : List ℕ) (L : ℕ) (N out : List ℕ) where
  -- those of the blocks decide where the vet accepts
  pub blocks-decide : accepted ≡ first_of (vet_checks P K) → first_of (block_checks P L N out) ≡ first_of (key_checks P K L N out)
  blocks-decide = rest-decides (vet_checks P K) (block_checks P L N out) (vet-numbered P K)

  -- what holds where all accept, those of the plan and those of the blocks
  pub record Derivable : Type 0 where
    pub prime : Prime P.q
    pub few-users : users_of P ≤ 16
    pub size : length K ≡ users_of P * P.rate
    pub source : length N ≡ L * P.rate
    pub room : length out ≡ users_of P * L
    pub few-symbols : P.rate ≤ 16
    pub short : L ≤ 64
    pub table_below : (x : ℕ) → at K x < P.q
    pub source-below : (x : ℕ) → at N x < P.q

  writable : Bounds P → length K ≡ users_of P * P.rate → Prime P.q → all_below P.q K ≡ true → accepted ≡ first_of (block_checks P L N out) → Derivable
  writable b size prime below e =
      let w = none-holds (block_checks P L N out) tt e in
      let (source, room) = T_and (eqb (length N) (L * P.rate)) (eqb (length out) (users_of P * L))
      (true→T (eqb (length N) (L * P.rate) && eqb (length out) (users_of P * L))
      (not-false (eqb (length N) (L * P.rate) && eqb (length out) (users_of P * L)) w.1.0)) in
      record {
        prime = prime;
        few-users = b.counts.few-users;
        size = size;
        source = eqb→eq (length N) (L * P.rate) source;
        room = eqb→eq (length out) (users_of P * L) room;
        few-symbols = b.few-symbols;
        short = (length-known L (not-false (length_fits L) w.0)).1;
        table_below = below_at P.q K (prime-pos prime) (true→T (all_below P.q K) below);
        source-below = below_at P.q N (prime-pos prime) (true→T (all_below P.q N) (not-false (all_below P.q N) w.1.1.0));
      }

  pub derivable : accepted ≡ first_of (key_checks P K L N out) → Derivable
  derivable e =
      let told : accepted ≡ first_of (vet_checks P K) = first-accepts (vet_checks P K) (block_checks P L N out) (vet-numbered P K) e in
      let v : Vetted P K = vetted P K told in
      writable v.bounds v.size v.prime (vet-below P K told) (e ∙ sym (blocks-decide told))

  pub unvetted-derivable : accepted ≡ first_of (unvetted_checks P K L N out) → Derivable
  unvetted-derivable e =
      let p : Passed P K = table-passed P K (block_checks P L N out) tt e in
      let told : accepted ≡ first_of (table_checks P K) = first-accepts (table_checks P K) (block_checks P L N out) tt e in
      writable (bounds-known P p.bounds) p.size p.prime p.below (e ∙ sym (rest-decides (table_checks P K) (block_checks P L N out) tt told))

  -- after an acceptance the key of user i in position p stands at index i L + p of what the call leaves
  pub derived-key : accepted ≡ first_of (key_checks P K L N out) → (i p : ℕ) → i < users_of P → p < L
      → at (if_accepted (first_of (key_checks P K L N out)) (keys_of P K L N) out) (i * L + p) ≡ key (pool_of P K) N i p
  derived-key e i p h l =
      ap (λ (x : List ℕ). at x (i * L + p)) (accepted-takes (first_of (key_checks P K L N out)) (keys_of P K L N) out e)
      ∙ keys-at P K L N i p h l

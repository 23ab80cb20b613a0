-- When an observer of the cyclic network leaks: the search and the record agree, and nothing leaks just where the ranks add up. Of a relay, the rank of its
-- uploads' rows is that of their source parts; of the server, the rank of the total rows and all relay rows together is n more than that of the source
-- parts of the relay rows.
use Prim.Native.Nat.{ℕ, zero, suc, ◌+◌, ◌*◌, ◌/◌, ◌%◌, ◌≤◌, ◌<◌}
use mathlib.Core.Path.{◌≡◌, refl, sym, ap, ap₂, ◌∙◌, subst}
use mathlib.Core.Bool.{Bool, true, false, cond}
use mathlib.Core.Logic.{◌≢◌, ◌↔◌}
use mathlib.Core.List.{List, [], ◌++◌}
use native.Mathlib.Nat.{mod-lt, mod-eq_of_lt, zero-add, mul-le-mul}
use native.Mathlib.Omega.{arith}
use lib.ListN.{length}
use lib.Dec.{T, eqb, eqb→eq, eqb_refl, ltb}
use lib.Arith.{digits_lt}
use borrow.Author.Tests.{lt-ltb, le-ltb}
use Rattle.residues.specs.Primes.{Prime}
use Rattle.residues.proofs.PrimeLaws.{prime-pos}
use Rattle.lists.proofs.Searches.{all-at, all_made}
use Rattle.lists.specs.Lists.{at, All, zeros, tab}
use Rattle.matrices.specs.Linear.{Vector}
use Rattle.matrices.specs.Rank.{rank_of, rank_over}
use Rattle.matrices.proofs.Notions.{dot, Solution}
use Rattle.matrices.proofs.Vectors.{vector-zeros}
use Rattle.matrices.proofs.RankLaws.{full-rank-iff}
use Rattle.matrices.proofs.Solvability.{solvable-iff}
use Rattle.secrecy.specs.Leaks.{Positions, Symbols, keys_showing}
use Rattle.lists.specs.Sums.{sum_to}
use Rattle.lists.proofs.ListLaws.{at-tab, tab-at, length-tab, map-tab, all-tab}
use Rattle.matrices.proofs.MadeVectors.{tab-vector, entry-below, vector-append}
use Rattle.secrecy.proofs.Forms.{readings_at}
use Rattle.secrecy.proofs.FormRank.{form_rows, source_rows, padded, FormOf}
use Rattle.secrecy.proofs.FormLeaks.{forms-rank}
use Rattle.secrecy.proofs.LeakTest.{found-at-iff}
use Rattle.secrecy.proofs.PairLeaks.{quiet-equal}
use Rattle.cyclic.specs.Network.{Network, symbols, heard, linked, link_of, weight, upload, relay_sum, reading, total, relay_view, server_view, view}
use Rattle.cyclic.specs.NetworkLeaks.{SameTotals, Agrees, ObserverLeak, agree, places, leaks}
use Rattle.cyclic.specs.Decoding.{columns, on_reading, on_source, relay_row, total_row}
use Rattle.lists.proofs.Sums.{sum-only}
use Rattle.cyclic.proofs.NetworkForms.{link_form, sum_form, total_on, relay_forms, server_forms, total_rows, dot-total, relay-forms, server-forms}

-- what the checks before 7 have seen to
pub record Sound (C : Network) : Type 0 where
  pub prime : Prime C.q
  pub some : 0 < C.size
  pub few : C.links ≤ C.size
  pub table : Vector C.q (C.size * C.rate) C.table
  pub weights : Vector C.q (C.size * C.links * (C.parts + 1)) C.weights

module _ (C : Network) where
  -- the rows of uploads, and their source parts
  abbrev pub upload_row : ℕ → ℕ → List ℕ
  upload_row k l = (link_form C k l).on_readings ++ (link_form C k l).on_source

  abbrev pub upload_source : ℕ → ℕ → List ℕ
  upload_source k l = (link_form C k l).on_source

  -- the source part of a relay's row
  abbrev pub relay_source : ℕ → List ℕ
  relay_source j = tab C.rate (on_source C j)

  -- ---- the search

  agree-iff : (w : ℕ) (W W' : List ℕ) → T (agree C w W W') ↔ Agrees C w W W'
  agree-iff zero W W' = (
    (λ t. record { totals = λ s b. eqb→eq (total C W s) (total C W' s) (all-at C.parts (λ s. eqb (total C W s) (total C W' s)) t s b) }),
    (λ a. all_made C.parts (λ s. eqb (total C W s) (total C W' s))
        (λ s b. subst (λ (z : ℕ). T (eqb (total C W s) z)) (a.totals s b) (eqb_refl (total C W s)))),
  )
  agree-iff (suc j) W W' = ((λ t. tt), (λ a. tt))

  view_places : 0 < C.q → (w : ℕ) (W N : List ℕ) → Symbols C.q (symbols C) 1 W → Vector C.q (places C w) (view C w W N)
  unfolding server_view relay_view relay_sum upload
  view_places pos zero W N v =
      tab-vector C.q C.size (relay_sum C W N) (λ j l. mod-lt (sum_to C.links (λ l. upload C W N (heard C j l) l)) pos)
  view_places pos (suc j) W N v =
      tab-vector C.q C.links (λ l. upload C W N (heard C j l) l) (λ l b. mod-lt _ pos)

  -- the search finds a leak just where there is one
  pub leaks-iff : 0 < C.q → (w : ℕ) → T (leaks C w) ↔ ObserverLeak C w
  unfolding leaks
  leaks-iff pos w =
      found-at-iff C.q (symbols C) C.rate (λ _. agree C w) (λ _. Agrees C w) (λ _. agree-iff w) (λ _. places C w) (λ _. view C w) 1 (omega arith)
      (omega arith)
      (view_places pos w)

module _ (C : Network) (ok : Sound C) where
  pos : 0 < C.q
  pos = prime-pos ok.prime

  -- ---- rows of numbers below q

  weight-below : (k l s : ℕ) → weight C k l s < C.q
  unfolding weight
  weight-below k l s =
      entry-below C.q (C.size * C.links * (C.parts + 1)) C.weights pos ok.weights ((k * C.links + l) * (C.parts + 1) + s)

  cond_below : (b : Bool) (a : ℕ) → a < C.q → cond b a 0 < C.q
  cond_below true a h = h
  cond_below false a h = pos

  one_below : (b : Bool) → cond b 1 0 < C.q
  one_below b = cond_below b 1 (omega (arith, ok.prime.two))

  pub link-form : (k l : ℕ) → FormOf C.q (symbols C) C.rate (link_form C k l)
  link-form k l =
      record {
        readings =
            tab-vector C.q (symbols C) (λ c. cond (eqb (c / C.parts) k) (weight C k l (c % C.parts)) 0)
            (λ c b. cond_below (eqb (c / C.parts) k) (weight C k l (c % C.parts)) (weight-below k l (c % C.parts)));
        source =
            tab-vector C.q C.rate (λ r. weight C k l C.parts * at C.table (k * C.rate + r) % C.q)
            (λ r b. mod-lt (weight C k l C.parts * at C.table (k * C.rate + r)) pos);
      }

  pub sum-form : (j : ℕ) → FormOf C.q (symbols C) C.rate (sum_form C j)
  unfolding on_reading on_source
  sum-form j =
      record {
        readings =
            tab-vector C.q (symbols C) (λ c. on_reading C j (c / C.parts) (c % C.parts))
            (λ c b. cond_below (linked C (c / C.parts) j) (weight C (c / C.parts) (link_of C (c / C.parts) j) (c % C.parts))
            (weight-below (c / C.parts) (link_of C (c / C.parts) j) (c % C.parts)));
        source = tab-vector C.q C.rate (on_source C j) (λ r b. mod-lt _ pos);
      }

  pub total-vector : (s : ℕ) → Vector C.q (symbols C) (total_on C s)
  total-vector s = tab-vector C.q (symbols C) (λ c. cond (eqb (c % C.parts) s) 1 0) (λ c b. one_below (eqb (c % C.parts) s))

  pub relay-row-vector : (j : ℕ) → Vector C.q (columns C) (relay_row C j)
  unfolding relay_row
  relay-row-vector j =
      vector-append C.q (symbols C) C.rate (sum_form C j).on_readings (sum_form C j).on_source (sum-form j).readings (sum-form j).source

  pub total-row-vector : (s : ℕ) → Vector C.q (columns C) (total_row C s)
  unfolding total_row
  total-row-vector s =
      vector-append C.q (symbols C) C.rate (total_on C s) (zeros C.rate) (total-vector s) (vector-zeros C.q C.rate pos)

  total-vectors : All (Vector C.q (symbols C)) (total_rows C)
  total-vectors = all-tab (Vector C.q (symbols C)) C.parts (total_on C) (λ s b. total-vector s)

  -- ---- the total rows are independent: readings of the first user alone give any totals

  first : List ℕ → List ℕ
  first d = tab (symbols C) (λ c. cond (ltb c C.parts) (at d c) 0)

  first-reading : (d : List ℕ) (k s : ℕ) → k < C.size → s < C.parts
      → reading C (first d) k s ≡ cond (ltb (k * C.parts + s) C.parts) (at d (k * C.parts + s)) 0
  unfolding reading first
  first-reading d k s h b = at-tab (symbols C) (λ c. cond (ltb c C.parts) (at d c) 0) (k * C.parts + s) (digits_lt h b)

  other-reading : (d : List ℕ) (k s : ℕ) → k < C.size → s < C.parts → k ≢ 0 → reading C (first d) k s ≡ 0
  other-reading d k s h b ne =
      let m : 1 * C.parts ≤ k * C.parts = mul-le-mul {n₁ = 1} {m₁ = C.parts} {n₂ = k} {m₂ = C.parts} (omega arith) (omega arith) in
      first-reading d k s h b ∙ ap (λ (x : Bool). cond x (at d (k * C.parts + s)) 0) (le-ltb (k * C.parts + s) C.parts (omega arith))

  first-total : (d : List ℕ) (s : ℕ) → s < C.parts → at d s < C.q → total C (first d) s ≡ at d s
  unfolding total
  first-total d s b small =
      ap (λ (z : ℕ). z % C.q)
      (sum-only C.size (λ k. reading C (first d) k s) 0 ok.some (λ k h ne. other-reading d k s h b ne)
      ∙ first-reading d 0 s ok.some b
      ∙ (let e : 0 * C.parts + s ≡ s = omega arith in
      ap (λ (z : ℕ). cond (ltb z C.parts) (at d z) 0) e ∙ ap (λ (x : Bool). cond x (at d s) 0) (lt-ltb s C.parts b)))
      ∙ mod-eq_of_lt small

  whole : (W : List ℕ) → length W ≡ symbols C → readings_at (symbols C) 1 W 0 ≡ W
  whole W e = tab-at (symbols C) (λ i. at W (i * 1 + 0)) W e (λ k l. let z : k * 1 + 0 ≡ k = omega arith in ap (at W) z)

  solved : (d : List ℕ) → Vector C.q (length (total_rows C)) d → Solution C.q (symbols C) [] (total_rows C) d
  unfolding first
  solved d v =
      let len : length d ≡ C.parts = v.size ∙ length-tab C.parts (total_on C) in
      let small : (i : ℕ) → at d i < C.q = entry-below C.q (length (total_rows C)) d pos v in
      let N : List ℕ = first d in
      let valid : Vector C.q (symbols C) N
      = tab-vector C.q (symbols C) (λ c. cond (ltb c C.parts) (at d c) 0) (λ c b. cond_below (ltb c C.parts) (at d c) (small c)) in
      record {
        N = N;
        valid = valid;
        none = tt;
        hits =
            map-tab (λ c. dot C.q c N) C.parts (total_on C)
            ∙ tab-at C.parts (λ s. dot C.q (total_on C s) N) d len
            (λ s b.
            ap (λ (y : List ℕ). dot C.q (total_on C s) y) (sym (whole N valid.size))
            ∙ dot-total C N [] s b ∙ first-total d s b (small s));
      }

  pub totals-rank : rank_of C.q (symbols C) (total_rows C) ≡ C.parts
  totals-rank =
      (full-rank-iff C.q (symbols C) pos [] (total_rows C) tt total-vectors).1
      ((solvable-iff C.q ok.prime (symbols C) [] (total_rows C) tt total-vectors).0 solved)
      ∙ length-tab C.parts (total_on C)

  -- ---- the criterion

  -- every difference is a reading of the one position
  one-position : (d : List ℕ) → Vector C.q (symbols C) d → Positions C.q (symbols C) 1 1 d
  one-position d v = record { many-are = refl; symbols = subst (λ (k : ℕ). Vector C.q k d) (omega arith) v }

  pub relay-rank : (j : ℕ) → (¬ (ObserverLeak C (suc j)))
      ↔ (rank_of C.q (columns C) (tab C.links (λ l. upload_row C (heard C j l) l))
      ≡ rank_of C.q C.rate (tab C.links (λ l. upload_source C (heard C j l) l)))
  unfolding rank_over
  relay-rank j =
      let r = forms-rank C.q (symbols C) C.rate (Positions C.q (symbols C) 1) [] (relay_forms C j) (λ _ W W'. Unit {0}) (λ _. relay_view C j)
      (relay-forms C j ok.some) one-position ok.prime tt
      (all-tab (FormOf C.q (symbols C) C.rate) C.links (λ l. link_form C (heard C j l) l) (λ l b. link-form (heard C j l) l)) in
      let a : form_rows (relay_forms C j) ≡ tab C.links (λ l. upload_row C (heard C j l) l)
      = map-tab (λ f. f.on_readings ++ f.on_source) C.links (λ l. link_form C (heard C j l) l) in
      let b : source_rows (relay_forms C j) ≡ tab C.links (λ l. upload_source C (heard C j l) l)
      = map-tab (λ f. f.on_source) C.links (λ l. link_form C (heard C j l) l) in
      let x : rank_of C.q (columns C) (form_rows (relay_forms C j)) ≡ rank_of C.q (columns C) (tab C.links (λ l. upload_row C (heard C j l) l))
      = ap (rank_of C.q (columns C)) a in
      let y : rank_of C.q C.rate (source_rows (relay_forms C j)) ≡ rank_of C.q C.rate (tab C.links (λ l. upload_source C (heard C j l) l))
      = ap (rank_of C.q C.rate) b in (
        (λ quiet. sym x ∙ r.0 quiet ∙ zero-add (rank_of C.q C.rate (source_rows (relay_forms C j))) ∙ y),
        (λ e. r.1 (x ∙ e ∙ sym y ∙ sym (zero-add (rank_of C.q C.rate (source_rows (relay_forms C j)))))),
      )

  pub server-rank : (¬ (ObserverLeak C 0))
      ↔ (rank_of C.q (columns C) (tab C.parts (total_row C) ++ tab C.size (relay_row C))
      ≡ C.parts + rank_of C.q C.rate (tab C.size (relay_source C)))
  unfolding relay_row total_row
  server-rank =
      let r = forms-rank C.q (symbols C) C.rate (Positions C.q (symbols C) 1) (total_rows C) (server_forms C) (λ _. SameTotals C) (λ _. server_view C)
      (server-forms C ok.few) one-position ok.prime total-vectors
      (all-tab (FormOf C.q (symbols C) C.rate) C.size (sum_form C) (λ j b. sum-form j)) in
      let x : rank_of C.q (columns C) (padded C.rate (total_rows C) ++ form_rows (server_forms C))
      ≡ rank_of C.q (columns C) (tab C.parts (total_row C) ++ tab C.size (relay_row C))
      = ap₂ (λ (A B : List (List ℕ)). rank_of C.q (columns C) (A ++ B)) (map-tab (λ e. e ++ zeros C.rate) C.parts (total_on C))
      (map-tab (λ f. f.on_readings ++ f.on_source) C.size (sum_form C)) in
      let y : rank_of C.q (symbols C) (total_rows C) + rank_of C.q C.rate (source_rows (server_forms C))
      ≡ C.parts + rank_of C.q C.rate (tab C.size (relay_source C))
      = ap₂ ◌+◌ totals-rank (ap (rank_of C.q C.rate) (map-tab (λ f. f.on_source) C.size (sum_form C))) in (
        (λ quiet. sym x ∙ r.0 quiet ∙ y),
        (λ e. r.1 (x ∙ e ∙ sym y)),
      )

-- ---- what it means

-- an observer that does not leak has equal numbers, for all readings that agree and every view
pub equal-numbers : (C : Network) (w : ℕ) → ¬ (ObserverLeak C w)
    → (W W' : List ℕ) → Vector C.q (symbols C) W → Vector C.q (symbols C) W' → Agrees C w W W'
    → (s : List ℕ) → keys_showing C.q C.rate (λ _. view C w) 1 W s ≡ keys_showing C.q C.rate (λ _. view C w) 1 W' s
equal-numbers C w quiet W W' v v' =
    quiet-equal C.q C.rate (Positions C.q (symbols C) 1) (λ _. Agrees C w) (λ _. view C w) quiet 1 (omega arith) (omega arith) W W'
    (one W v) (one W' v')
  where
    one : (W : List ℕ) → Vector C.q (symbols C) W → Positions C.q (symbols C) 1 1 W
    one W v = record { many-are = refl; symbols = subst (λ (k : ℕ). Vector C.q k W) (omega arith) v }

-- What the server decodes is true: whatever the readings and the source key, the totals given are those of the readings. The coefficients are the only
-- ones; leaving out relays that depend on lower ones changes nothing; and where a total is not given, no one could give it, since two worlds show the same
-- sums with different totals.
use Prim.Native.Nat.{ℕ, zero, suc, ◌+◌, ◌*◌, ◌%◌, ◌≤◌, ◌<◌}
use mathlib.Core.Path.{◌≡◌, refl, sym, ap, ap₂, ◌∙◌, subst}
use mathlib.Core.Bool.{Bool, not}
use mathlib.Core.Logic.{◌↔◌, ⊎_elim}
use mathlib.Core.List.{List, [], ◌∷◌, ◌++◌, map}
use native.Mathlib.Nat.{zero-mod, add-zero, zero-add, suc-add}
use native.Mathlib.Omega.{arith}
use lib.ListN.{length, take, drop, length-drop, take-append-drop}
use lib.Seq.{length-take-le, get_or-drop}
use lib.Dec.{T, T_not}
use Rattle.lists.specs.Bits.{has_bit}
use Rattle.residues.proofs.PrimeLaws.{prime-pos}
use Rattle.lists.proofs.Searches.{T_and, and_T, true→T, not-T→false, all-at, all_made, not-all}
use Rattle.lists.specs.Lists.{at, All, zeros, picked}
use Rattle.matrices.specs.Linear.{Vector, add, comb_n, comb}
use Rattle.matrices.specs.Rank.{same_list, in_span}
use Rattle.matrices.proofs.Notions.{dot_n, dot, InSpan, Separated, Independent, Solution}
use Rattle.matrices.proofs.Vectors.{dot-append, dot-zeros, dot-zeroed, el-reduce}
use Rattle.lists.proofs.ListLaws.{length-zeros, length-tab, tab-at, map-picked, all-picked, picked_all, picked-inj, picked-cong, length-picked}
use Rattle.matrices.proofs.Spans.{any-list-found, any-list-at, in-span-iff, span-members, same→eq, eq→same}
use Rattle.matrices.proofs.Duality.{duality, span-trans}
use Rattle.matrices.proofs.Solvability.{solvable-iff}
use Rattle.matrices.proofs.MadeVectors.{vector-picked}
use Rattle.secrecy.proofs.Forms.{readings_at, source_at, value}
use Rattle.secrecy.proofs.FormRank.{vector-take}
use Rattle.cyclic.specs.Network.{Network, symbols, relay_sum, total}
use Rattle.cyclic.specs.Decoding.{chosen_list, columns, relay_row, total_row, kept, kept_rows, decodable, coefficients, decoded}
use Rattle.matrices.proofs.KeptRows.{before-vectors, keeps-vectors, kept-span, kept-independent, combined, combination-unique}
use Rattle.cyclic.proofs.Choices.{chosen-list-found}
use Rattle.cyclic.proofs.NetworkForms.{sum_form, total_on, sum-value, dot-total}
use Rattle.cyclic.proofs.NetworkVerdicts.{Sound, relay-row-vector, total-row-vector}

module _ (C : Network) where
  -- readings and source symbols, one after the other
  abbrev pub world : List ℕ → List ℕ → List ℕ
  world W N = readings_at (symbols C) 1 W 0 ++ source_at C.rate N 0

  -- a relay's row shows its sum
  pub row_shows : C.links ≤ C.size → (W N : List ℕ) (j : ℕ) → j < C.size → dot C.q (relay_row C j) (world W N) ≡ relay_sum C W N j
  unfolding relay_row value
  row_shows few W N j h =
      ap (λ (z : ℕ). z % C.q)
      (dot-append (sum_form C j).on_readings (sum_form C j).on_source (readings_at (symbols C) 1 W 0) (source_at C.rate N 0)
      (length-tab (symbols C) _ ∙ sym (length-tab (symbols C) _)))
      ∙ sum-value C W N j h few

  -- and a total's row the total
  pub total-shows : (W N : List ℕ) (s : ℕ) → s < C.parts → dot C.q (total_row C s) (world W N) ≡ total C W s
  unfolding total_row
  total-shows W N s b =
      ap (λ (z : ℕ). z % C.q)
      (dot-append (total_on C s) (zeros C.rate) (readings_at (symbols C) 1 W 0) (source_at C.rate N 0)
      (length-tab (symbols C) _ ∙ sym (length-tab (symbols C) _))
      ∙ ap (λ (z : ℕ). dot_n (total_on C s) (readings_at (symbols C) 1 W 0) + z) (dot-zeros C.rate (source_at C.rate N 0))
      ∙ add-zero (dot_n (total_on C s) (readings_at (symbols C) 1 W 0)))
      ∙ dot-total C W N s b

  -- ---- the combination of the sums, as a product

  abbrev pub kept_sums : ℕ → List ℕ → List ℕ
  kept_sums reported Y = picked C.size (kept C reported) (λ j. at Y j ∷ [])

  comb-ones : (cs ys : List ℕ) → at (comb_n 1 cs (map (λ y. y ∷ []) ys)) 0 ≡ dot_n cs ys
  comb-ones [] ys = refl
  comb-ones (c ∷ cs) [] = refl
  comb-ones (c ∷ cs) (y ∷ ys) = go (comb_n 1 cs (map (λ y. y ∷ []) ys)) (comb-ones cs ys)
    where
      go : (l : List ℕ) → at l 0 ≡ dot_n cs ys → at (add (c * y ∷ []) l) 0 ≡ c * y + dot_n cs ys
      go [] e = omega arith
      go (a ∷ l) e = omega arith

  pub decoded-is : (reported : ℕ) (Y : List ℕ) (s : ℕ) → decoded C reported Y s ≡ dot C.q (coefficients C reported s) (kept_sums reported Y)
  unfolding decoded
  decoded-is reported Y s =
      el-reduce C.q (comb_n 1 (coefficients C reported s) (picked C.size (kept C reported) (λ j. (at Y j ∷ []) ∷ []))) 0
      ∙ ap (λ (z : ℕ). z % C.q)
      (ap (λ (S : List (List ℕ)). at (comb_n 1 (coefficients C reported s) S) 0) (sym (map-picked C.size (kept C reported) (λ y. y ∷ []) (λ j. at Y j)))
      ∙ comb-ones (coefficients C reported s) (kept_sums reported Y))

  -- sums of relays that have not arrived change nothing
  pub decoded-same : (reported : ℕ) (Y Y' : List ℕ) → ((j : ℕ) → j < C.size → T (has_bit reported j) → at Y j ≡ at Y' j)
      → (s : ℕ) → decoded C reported Y s ≡ decoded C reported Y' s
  unfolding decoded kept
  decoded-same reported Y Y' h s =
      ap (λ (S : List (List ℕ)). at (comb C.q 1 (coefficients C reported s) S) 0)
      (picked-cong C.size (kept C reported) (λ j. at Y j ∷ []) (λ j. at Y' j ∷ [])
      (λ j l k. ap (λ (y : ℕ). y ∷ [])
      (h j l (T_and (has_bit reported j) _ k).0)))

  -- a combination of the kept rows is what the search finds
  pub combination-found : (reported s : ℕ) → T (in_span C.q (columns C) (kept_rows C reported) (total_row C s))
      → (cs : List ℕ) × Vector C.q (length (kept_rows C reported)) cs × (comb C.q (columns C) cs (kept_rows C reported) ≡ total_row C s)
  unfolding in_span
  combination-found reported s t =
      let (cs, v, u) = any-list-found C.q (length (kept_rows C reported))
      (λ cs. same_list (comb C.q (columns C) cs (kept_rows C reported)) (total_row C s)) t in
      (cs, v, same→eq (comb C.q (columns C) cs (kept_rows C reported)) (total_row C s) u)

  pub combination-in : (reported s : ℕ) (cs : List ℕ) → Vector C.q (length (kept_rows C reported)) cs
      → comb C.q (columns C) cs (kept_rows C reported) ≡ total_row C s → T (in_span C.q (columns C) (kept_rows C reported) (total_row C s))
  unfolding in_span
  combination-in reported s cs v e =
      any-list-at C.q (length (kept_rows C reported)) (λ cs. same_list (comb C.q (columns C) cs (kept_rows C reported)) (total_row C s)) cs v
      (eq→same (comb C.q (columns C) cs (kept_rows C reported)) (total_row C s) e)

module _ (C : Network) (ok : Sound C) (reported : ℕ) where
  pos : 0 < C.q
  pos = prime-pos ok.prime

  -- ---- what is kept

  -- the rows of all arrived relays
  abbrev pub arrived_rows : List (List ℕ)
  arrived_rows = picked C.size (has_bit reported) (λ j. relay_row C j ∷ [])

  -- and of those lower than relay j
  abbrev pub lower_rows : ℕ → List (List ℕ)
  lower_rows j = picked j (has_bit reported) (λ i. relay_row C i ∷ [])

  -- a relay is kept just where it has arrived and its row is no combination of those
  pub kept-iff : (j : ℕ) → (T (has_bit reported j) × (¬ (InSpan C.q (columns C) (lower_rows j) (relay_row C j)))) ↔ T (kept C reported j)
  unfolding kept
  kept-iff j =
      let span = in-span-iff C.q (columns C) pos (lower_rows j) (relay_row C j)
      (before-vectors C.q ok.prime (columns C) (has_bit reported) (relay_row C) (relay-row-vector C ok) j) in
      let test : Bool = in_span C.q (columns C) (lower_rows j) (relay_row C j) in (
        (λ x. and_T (has_bit reported j) (not test) x.0 (true→T (not test) (ap not (not-T→false test (λ t. x.1 (span.0 t)))))),
        (λ t. let (a, b) = T_and (has_bit reported j) (not test) t in (a, λ w. T_not test b (span.1 w))),
      )

  pub kept-arrived : (j : ℕ) → T (kept C reported j) → T (has_bit reported j)
  kept-arrived j t = ((kept-iff j).1 t).0

  pub kept-vectors : All (Vector C.q (columns C)) (kept_rows C reported)
  unfolding kept_rows kept
  kept-vectors = keeps-vectors C.q ok.prime (columns C) (has_bit reported) (relay_row C) (relay-row-vector C ok) C.size

  -- leaving out changes nothing: a row is a combination of the kept rows just where it is one of the arrived rows
  pub leaving-out : (r : List ℕ) → InSpan C.q (columns C) (kept_rows C reported) r ↔ InSpan C.q (columns C) arrived_rows r
  unfolding kept_rows kept
  leaving-out = kept-span C.q ok.prime (columns C) (has_bit reported) (relay_row C) (relay-row-vector C ok) C.size

  -- no kept row is in the span of those before it
  pub rows-independent : Independent C.q (columns C) [] (kept_rows C reported)
  unfolding kept_rows kept
  rows-independent = kept-independent C.q ok.prime (columns C) (has_bit reported) (relay_row C) (relay-row-vector C ok) C.size

  -- ---- the coefficients

  -- of each total symbol that is decodable
  pub coefficients-make : T (decodable C reported) → (s : ℕ) → s < C.parts
      → Vector C.q (length (kept_rows C reported)) (coefficients C reported s) ×
      (comb C.q (columns C) (coefficients C reported s) (kept_rows C reported) ≡ total_row C s)
  unfolding decodable coefficients in_span
  coefficients-make t s b =
      let test : List ℕ → Bool = λ cs. same_list (comb C.q (columns C) cs (kept_rows C reported)) (total_row C s) in
      let r : Vector C.q (length (kept_rows C reported)) (chosen_list C.q (length (kept_rows C reported)) test) × T
      (test (chosen_list C.q (length (kept_rows C reported)) test))
      = chosen-list-found C.q (length (kept_rows C reported)) test
      (all-at C.parts (λ s. in_span C.q (columns C) (kept_rows C reported) (total_row C s)) t s b) in
      (r.0, same→eq (comb C.q (columns C) (chosen_list C.q (length (kept_rows C reported)) test) (kept_rows C reported)) (total_row C s) r.1)

  -- a combination of independent rows is the only one
  pub combination-only : (s : ℕ) (cs ds : List ℕ) → Vector C.q (length (kept_rows C reported)) cs → Vector C.q (length (kept_rows C reported)) ds
      → comb C.q (columns C) cs (kept_rows C reported) ≡ total_row C s → comb C.q (columns C) ds (kept_rows C reported) ≡ total_row C s → cs ≡ ds
  combination-only s = combination-unique C.q ok.prime (columns C) (kept_rows C reported) kept-vectors rows-independent (total_row C s)

  -- there are no others
  pub coefficients-only : T (decodable C reported) → (s : ℕ) → s < C.parts → (cs : List ℕ) → Vector C.q (length (kept_rows C reported)) cs
      → comb C.q (columns C) cs (kept_rows C reported) ≡ total_row C s → cs ≡ coefficients C reported s
  coefficients-only t s b cs v e =
      let r = coefficients-make t s b in
      combination-only s cs (coefficients C reported s) v r.0 e r.1

  -- ---- what is decoded

  -- by any M that has with each kept row its sum: the product with the total's row
  pub decoded-by : T (decodable C reported) → (Y M : List ℕ) → ((j : ℕ) → j < C.size → T (kept C reported j) → dot C.q (relay_row C j) M ≡ at Y j)
      → (s : ℕ) → s < C.parts → decoded C reported Y s ≡ dot C.q (total_row C s) M
  unfolding kept_rows
  decoded-by t Y M h s b =
      decoded-is C reported Y s
      ∙ ap (dot C.q (coefficients C reported s))
      (picked-cong C.size (kept C reported) (λ j. at Y j) (λ j. dot C.q (relay_row C j) M) (λ j l k. sym (h j l k))
      ∙ sym (map-picked C.size (kept C reported) (λ r. dot C.q r M) (relay_row C)))
      ∙ combined C.q (columns C) (kept_rows C reported) (total_row C s) (coefficients C reported s) M (coefficients-make t s b).1

  -- the totals given are those of the readings, whatever the source key and whatever stands in the places of relays that have not arrived
  pub decoded-true : T (decodable C reported) → (W N Y : List ℕ) → ((j : ℕ) → j < C.size → T (has_bit reported j) → at Y j ≡ relay_sum C W N j)
      → (s : ℕ) → s < C.parts → decoded C reported Y s ≡ total C W s
  decoded-true t W N Y h s b =
      decoded-by t Y (world C W N) (λ j l k. row_shows C ok.few W N j l ∙ sym (h j l (kept-arrived j k))) s b
      ∙ total-shows C W N s b

  -- and for any sums at all there is such an M
  pub sums-solved : (Y : List ℕ) → ((j : ℕ) → j < C.size → T (kept C reported j) → at Y j < C.q)
      → (M : List ℕ) × Vector C.q (columns C) M × ((j : ℕ) → j < C.size → T (kept C reported j) → dot C.q (relay_row C j) M ≡ at Y j)
  unfolding kept_rows
  sums-solved Y small =
      let v : Vector C.q (length (kept_rows C reported)) (kept_sums C reported Y)
      = subst (λ (k : ℕ). Vector C.q k (kept_sums C reported Y)) (sym (length-picked C.size (kept C reported) (relay_row C)))
      (vector-picked C.q C.size (kept C reported) (λ j. at Y j) small) in
      let s : Solution C.q (columns C) [] (kept_rows C reported) (kept_sums C reported Y)
      = (solvable-iff C.q ok.prime (columns C) [] (kept_rows C reported) tt kept-vectors).1 rows-independent (kept_sums C reported Y) v in (
        s.N,
        s.valid,
        picked-inj C.size (kept C reported) (λ j. dot C.q (relay_row C j) s.N) (λ j. at Y j)
            (sym (map-picked C.size (kept C reported) (λ r. dot C.q r s.N) (relay_row C)) ∙ s.hits),
      )

  -- ---- 23 is never given where something could be

  -- two sets of readings and source keys that show the same sums at all arrived relays and differ in total symbol s
  pub record Twins (s : ℕ) : Type 0 where
    pub W : List ℕ
    pub N : List ℕ
    pub W-in : Vector C.q (symbols C) W
    pub N-in : Vector C.q C.rate N
    pub same : (j : ℕ) → j < C.size → T (has_bit reported j) → relay_sum C W N j ≡ relay_sum C (zeros (symbols C)) (zeros C.rate) j
    pub other : total C W s ≡ 1
    pub none : total C (zeros (symbols C)) s ≡ 0

  whole-world : (M : List ℕ) → Vector C.q (columns C) M → world C (take (symbols C) M) (drop (symbols C) M) ≡ M
  whole-world M v =
      ap₂ ◌++◌
      (tab-at (symbols C) (λ i. at (take (symbols C) M) (i * 1 + 0)) (take (symbols C) M) (length-take-le (symbols C) M (omega (arith, v.size)))
      (λ k l. let e : k * 1 + 0 ≡ k = omega arith in ap (at (take (symbols C) M)) e))
      (tab-at C.rate (λ k. at (drop (symbols C) M) (0 * C.rate + k)) (drop (symbols C) M) (length-drop (symbols C) M ∙ omega (arith, v.size))
      (λ k l. let e : 0 * C.rate + k ≡ k = omega arith in ap (at (drop (symbols C) M)) e))
      ∙ take-append-drop (symbols C) M

  no_world : world C (zeros (symbols C)) (zeros C.rate) ≡ zeros (symbols C) ++ zeros C.rate
  no_world =
      ap₂ ◌++◌
      (tab-at (symbols C) (λ i. at (zeros (symbols C)) (i * 1 + 0)) (zeros (symbols C)) (length-zeros (symbols C))
      (λ k l. let e : k * 1 + 0 ≡ k = omega arith in ap (at (zeros (symbols C))) e))
      (tab-at C.rate (λ k. at (zeros C.rate) (0 * C.rate + k)) (zeros C.rate) (length-zeros C.rate)
      (λ k l. let e : 0 * C.rate + k ≡ k = omega arith in ap (at (zeros C.rate)) e))

  dot-none : (r : List ℕ) → dot C.q r (world C (zeros (symbols C)) (zeros C.rate)) ≡ 0
  dot-none r =
      ap (dot C.q r) (no_world ∙ zeros-append (symbols C) C.rate) ∙ ap (λ (z : ℕ). z % C.q) (dot-zeroed r (symbols C + C.rate)) ∙ zero-mod
      C.q
    where
      zeros-append : (a b : ℕ) → zeros a ++ zeros b ≡ zeros (a + b)
      zeros-append a b = go a
        where
          go : (a : ℕ) → zeros a ++ zeros b ≡ zeros (a + b)
          go zero = ap zeros (sym (zero-add b))
          go (suc a) = ap (λ (l : List ℕ). 0 ∷ l) (go a) ∙ ap zeros (sym (suc-add a b))

  vector-drop : (M : List ℕ) → Vector C.q (columns C) M → Vector C.q C.rate (drop (symbols C) M)
  vector-drop M v =
      record {
        size = length-drop (symbols C) M ∙ omega (arith, v.size);
        small = λ i l. subst (λ (z : ℕ). z < C.q) (sym (get_or-drop (symbols C) M i 0)) (v.small (symbols C + i) (omega arith));
      }

  twins-of : (s : ℕ) → s < C.parts → Separated C.q (columns C) arrived_rows (total_row C s) → Twins s
  twins-of s b m =
      let W : List ℕ = take (symbols C) m.M in
      let N : List ℕ = drop (symbols C) m.M in
      let all : world C W N ≡ m.M = whole-world m.M m.valid in
      record {
        W = W;
        N = N;
        W-in = vector-take C.q (symbols C) C.rate m.M m.valid;
        N-in = vector-drop m.M m.valid;
        same = λ j l t.
            sym (row_shows C ok.few W N j l)
            ∙ ap (dot C.q (relay_row C j)) all
            ∙ picked_all (λ r. dot C.q r m.M ≡ 0) C.size (has_bit reported) (relay_row C) m.orthogonal j l t
            ∙ sym (dot-none (relay_row C j))
            ∙ row_shows C ok.few (zeros (symbols C)) (zeros C.rate) j l;
        other = sym (total-shows C W N s b) ∙ ap (dot C.q (total_row C s)) all ∙ m.one;
        none = sym (total-shows C (zeros (symbols C)) (zeros C.rate) s b) ∙ dot-none (total_row C s);
      }

  -- where some total symbol is no combination of the kept rows, there are such twins
  pub undecodable-twins : ¬ (T (decodable C reported)) → (s : ℕ) × (s < C.parts) × Twins s
  unfolding decodable
  undecodable-twins f =
      let (s, b, out) = not-all C.parts (λ s. in_span C.q (columns C) (kept_rows C reported) (total_row C s)) f in (
        s,
        b,
        twins-of s b
            (⊎_elim (λ w. absurd (out ((in-span-iff C.q (columns C) pos (kept_rows C reported) (total_row C s) kept-vectors).1
            ((leaving-out (total_row C s)).1 w)))) (λ m. m)
            (duality C.q ok.prime (columns C) arrived_rows (total_row C s)
            (before-vectors C.q ok.prime (columns C) (has_bit reported) (relay_row C) (relay-row-vector C ok) C.size) (total-row-vector C ok s))),
      )

-- ---- more relays

-- where more relays have arrived, whatever was decodable still is
pub more-arrived : (C : Network) → Sound C → (r r' : ℕ) → ((j : ℕ) → j < C.size → T (has_bit r j) → T (has_bit r' j)) → T (decodable C r) → T (decodable C r')
unfolding decodable
more-arrived C ok r r' more t =
    all_made C.parts (λ s. in_span C.q (columns C) (kept_rows C r') (total_row C s))
    (λ s b.
    let before : InSpan C.q (columns C) (arrived_rows C ok r) (total_row C s)
    = (leaving-out C ok r (total_row C s)).0
    ((in-span-iff C.q (columns C) positive (kept_rows C r) (total_row C s) (kept-vectors C ok r)).0
    (all-at C.parts (λ s. in_span C.q (columns C) (kept_rows C r) (total_row C s)) t s b)) in
    (in-span-iff C.q (columns C) positive (kept_rows C r') (total_row C s) (kept-vectors C ok r')).1
    ((leaving-out C ok r' (total_row C s)).1
    (span-trans C.q ok.prime (columns C) (arrived_rows C ok r) (arrived_rows C ok r') (total_row C s) there
    (all-picked (InSpan C.q (columns C) (arrived_rows C ok r')) C.size (has_bit r) (relay_row C)
    (λ j l h. picked_all (InSpan C.q (columns C) (arrived_rows C ok r')) C.size (has_bit r') (relay_row C)
    (span-members C.q (columns C) positive (arrived_rows C ok r') there) j l (more j l h))) before)))
  where
    positive : 0 < C.q
    positive = prime-pos ok.prime

    there : All (Vector C.q (columns C)) (arrived_rows C ok r')
    there = before-vectors C.q ok.prime (columns C) (has_bit r') (relay_row C) (relay-row-vector C ok) C.size

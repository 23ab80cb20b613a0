-- Each user on several relays: the statements of specs/CyclicNetwork.
use Prim.Native.Nat.{ℕ, zero, suc, ◌-◌, ◌<◌}
use mathlib.Core.Path.{◌≡◌, refl, sym, ap, ◌∙◌}
use mathlib.Core.Logic.{◌↔◌}
use mathlib.Core.List.{List, [], ◌∷◌}
use native.Mathlib.Omega.{arith}
use lib.Dec.{T}
use lib.ListN.{length}
use Rattle.refusals.specs.declared.Code.{Code}
use Rattle.refusals.specs.Codes.{accepted, first_of}
use Rattle.refusals.proofs.CodeLaws.{accepted-takes}
use Rattle.lists.specs.Bits.{has_bit}
use Rattle.lists.specs.Lists.{at, zeros, tab, picked}
use Rattle.lists.proofs.Searches.{all-at, all_made, not-all, T-decide}
use Rattle.lists.proofs.ListLaws.{at-tab, length-tab}
use Rattle.residues.proofs.PrimeLaws.{prime-pos}
use Rattle.matrices.specs.Linear.{Vector, comb}
use Rattle.matrices.specs.Rank.{in_span}
use Rattle.matrices.proofs.Spans.{in-span-iff}
use Rattle.matrices.proofs.Vectors.{vector-zeros}
use Rattle.cyclic.specs.Network.{link_of, Network, symbols, relay_of, relay_sum, total}
use Rattle.cyclic.specs.Decoding.{columns, total_row, kept, kept_rows, decodable, decoded}
use Rattle.cyclic.proofs.NetworkForms.{linked-iff, links-meet, first-link, next-link}
use Rattle.cyclic.proofs.NetworkVerdicts.{Sound, equal-numbers}
use Rattle.cyclic.proofs.DecodingLaws.{combination-found, combination-in, combination-only, coefficients-only, kept-iff, kept-vectors, leaving-out}
use Rattle.cyclic.proofs.DecodingLaws.{decoded-true, undecodable-twins, more-arrived}
use Rattle.networks.specs.declared.Ring.{Ring}
use Rattle.networks.specs.Rings.{network_of, arrival_checks, decode_checks, decoded_after}
use Rattle.networks.proofs.RingLaws.{sound}
use Rattle.networks.proofs.CheckLaws.{ready-known, arrivals-known}
use Rattle.networks.proofs.VetLaws.{vet-numbers, no_six, accepted-passes, accepted-quiet, refused-iff, named-first, first-named}
use Rattle.networks.proofs.RoundTrip.{upload-taken, upload-meant, sum-taken, sum-meant, checks-same, after_same, accepted-decodable}
use Rattle.networks.proofs.RoundTrip.{decodable-accepted, undecodable-refused, refused-undecodable, totals-written, arrivals-taken}
use Rattle.demands.specs.CyclicNetwork.{relay_before, LinksGoRound, LinkedIff, LinksMeet, InOrder, NoSix, WrongPattern, NetworkHides, RefusedIffLeaks}
use Rattle.demands.specs.CyclicNetwork.{NamesFirstObserver, UploadsAre, SumsAre, Combination, LooksOnlyAtArrived, GivesTotals, WritesTotals}
use Rattle.demands.specs.CyclicNetwork.{WritesCombination, OneCombination, LeavesOutDependent, LeavingOut, RefusedIffNone, Undecided}
use Rattle.demands.specs.CyclicNetwork.{NobodyCould, MoreArrive}

module _ (C : Network) where
  pub links-go-round : LinksGoRound C
  links-go-round k h = (first-link C k h, λ l b. go l b (relay_of C k l) refl)
    where
      go : (l : ℕ) → suc l < C.size → (r : ℕ) → relay_of C k l ≡ r → relay_of C k (suc l) ≡ relay_before C.size (relay_of C k l)
      go l b zero e = (next-link C k l h b).0 e ∙ sym (ap (relay_before C.size) e)
      go l b (suc j) e = (next-link C k l h b).1 j e ∙ sym (ap (relay_before C.size) e)

  pub linked-where : LinkedIff C
  linked-where = linked-iff C

  pub links-are-met : LinksMeet C
  links-are-met = links-meet C

module _ (R : Ring) (K A : List ℕ) where
  pub in_order : InOrder R K A
  in_order = (refl, vet-numbers R K A, (λ k g w x. refl), (λ U. refl), (λ reported Y out. refl))

  pub never-six : NoSix R K A
  never-six = no_six R K A

  pub wrong-pattern : WrongPattern R K A
  wrong-pattern e f = (rw (e, f), (λ k g w x. rw (e, f)), (λ U. rw (e, f)), (λ reported Y out. rw (e, f)))

  pub network-hides : NetworkHides R K A
  network-hides e w l = equal-numbers (network_of R K A) w (accepted-quiet R K A (accepted-passes R K A e) e w l)

  pub refused-iff-leaks : RefusedIffLeaks R K A
  refused-iff-leaks = refused-iff R K A

  pub names-first-observer : NamesFirstObserver R K A
  names-first-observer passed w = (
    (λ e. let x = named-first R K A passed w e in record { observer = x.0; leak = x.1; before = x.2 }),
    (λ f. first-named R K A passed w f.observer f.leak f.before),
  )

module _ (R : Ring) (K A W N : List ℕ) where
  pub uploads-are : UploadsAre R K A W N
  unfolding link_of
  uploads-are passed v k g kl kh gl gh link = (upload-taken R K A passed W N v k g kl kh gl gh link, upload-meant R K A passed W N (k - 1) _)

  pub sums-are : SumsAre R K A W N
  sums-are passed j = (sum-taken R K A passed W N j, sum-meant R K A passed W N j)

module _ (R : Ring) (K A : List ℕ) (reported : ℕ) where
  -- a combination is what the test searches for
  in-span : (s : ℕ) → T (in_span R.q (columns (network_of R K A)) (kept_rows (network_of R K A) reported) (total_row (network_of R K A) s))
      ↔ Combination (network_of R K A) reported s
  in-span s = (
    (λ t. let x = combination-found (network_of R K A) reported s t in record { with = x.0; valid = x.1; makes = x.2 }),
    (λ c. combination-in (network_of R K A) reported s c.with c.valid c.makes),
  )

  all_there : ((s : ℕ) → s < R.parts → Combination (network_of R K A) reported s) → T (decodable (network_of R K A) reported)
  unfolding decodable
  all_there c =
      all_made R.parts (λ s. in_span R.q (columns (network_of R K A)) (kept_rows (network_of R K A) reported) (total_row (network_of R K A) s))
      (λ s b. (in-span s).1 (c s b))

  pub looks-only-at-arrived : LooksOnlyAtArrived R K A reported
  looks-only-at-arrived Y Y' out e h = (checks-same R K A reported Y Y' out e h, after_same R K A reported Y Y' out e h)

  pub writes-totals : WritesTotals R K A reported
  writes-totals W N Y out e a = totals-written R K A reported Y out e W N a.sums

  pub gives-totals : GivesTotals R K A reported
  gives-totals passed few c W N Y out a room =
      let e = decodable-accepted R K A reported Y out (arrivals-taken R K A reported passed few W N Y out a.many room a.sums) (all_there c) in
      (e, writes-totals W N Y out e a)

  pub writes-combination : WritesCombination R K A reported
  unfolding decoded
  writes-combination Y out e c =
      let C : Network = network_of R K A in
      let t = all_there c in
      let a = decodable-accepted R K A reported Y out e t in
      let w : decoded_after R K A reported Y out ≡ tab R.parts (decoded C reported Y)
      = accepted-takes (first_of (decode_checks R K A reported Y out)) (tab R.parts (decoded C reported Y)) out a in (
        a,
        ap length w ∙ length-tab R.parts (decoded C reported Y),
        λ s b.
            ap (λ (l : List ℕ). at l s) w
            ∙ at-tab R.parts (decoded C reported Y) s b
            ∙ ap (λ (cs : List ℕ). at (comb R.q 1 cs (picked R.size (kept C reported) (λ j. (at Y j ∷ []) ∷ []))) 0)
            (sym (coefficients-only C (sound R K A (arrivals-known R K A reported Y out e).ready) reported t s b (c s b).with (c s b).valid
            (c s b).makes)),
      )

  pub one-combination : OneCombination R K A reported
  one-combination passed s c d =
      combination-only (network_of R K A) (sound R K A (ready-known R K A passed)) reported s c.with d.with c.valid d.valid c.makes d.makes

  pub leaves-out-dependent : LeavesOutDependent R K A reported
  leaves-out-dependent passed j b =
      let iff = kept-iff (network_of R K A) (sound R K A (ready-known R K A passed)) reported j in (
        (λ t. let (there, none) = iff.1 t in (there, λ x. none (record { coefficients = x.0; one_each = x.1; makes = x.2 }))),
        (λ x. iff.0 (x.0, λ w. x.1 (w.coefficients, w.one_each, w.makes))),
      )

  pub leaving-out-loses-nothing : LeavingOut R K A reported
  leaving-out-loses-nothing passed s b =
      let ok = sound R K A (ready-known R K A passed) in
      let span = in-span-iff R.q (columns (network_of R K A)) (prime-pos ok.prime) (kept_rows (network_of R K A) reported) (total_row (network_of R K A) s)
      (kept-vectors (network_of R K A) ok reported) in
      let out = leaving-out (network_of R K A) ok reported (total_row (network_of R K A) s) in (
        (λ c. let w = out.0 (span.0 ((in-span s).1 c)) in (w.coefficients, w.one_each, w.makes)),
        (λ x. (in-span s).0 (span.1 (out.1 (record { coefficients = x.0; one_each = x.1; makes = x.2 })))),
      )

  pub refused-iff-none : RefusedIffNone R K A reported
  unfolding decodable
  refused-iff-none Y out e = (
    (λ n. go n (T-decide (decodable (network_of R K A) reported))),
    (λ x. ap (λ (c : Code). c.number)
        (undecodable-refused R K A reported Y out e
        (λ t. x.2 ((in-span x.0).0
        (all-at R.parts (λ s. in_span R.q (columns (network_of R K A)) (kept_rows (network_of R K A) reported) (total_row (network_of R K A) s)) t x.0
        x.1))))),
  )
    where
      go : ◌≡◌ {A = ℕ} (first_of (decode_checks R K A reported Y out)).number 23 → Dec (T (decodable (network_of R K A) reported))
          → (s : ℕ) × (s < R.parts) × (¬ (Combination (network_of R K A) reported s))
      go n (yes t) = absurd (omega (arith, n, ap (λ (c : Code). c.number) (decodable-accepted R K A reported Y out e t)))
      go n (no f) =
          let (s, b, none) = not-all R.parts (λ s. in_span R.q (columns (network_of R K A)) (kept_rows (network_of R K A) reported)
          (total_row (network_of R K A) s)) f in
          (s, b, λ c. none ((in-span s).1 c))

  pub nobody-could : NobodyCould R K A reported
  nobody-could Y out = (
    (λ n. let (e, f) = refused-undecodable R K A reported Y out n in (e, twins (known e) f)),
    (λ x. ap (λ (c : Code). c.number) (undecodable-refused R K A reported Y out x.0 (never (known x.0) x.1))),
  )
    where
      C : Network
      C = network_of R K A

      known : accepted ≡ first_of (arrival_checks R K A reported Y out) → Sound C
      known e = sound R K A (arrivals-known R K A reported Y out e).ready

      twins : Sound C → ¬ (T (decodable C reported)) → Undecided C reported
      twins ok f =
          let (s, b, t) = undecodable-twins C ok reported f in
          let none : (m : ℕ) → Vector R.q m (zeros m) = λ m. vector-zeros R.q m (prime-pos ok.prime) in
          record {
            W = t.W;
            N = t.N;
            W' = zeros (symbols C);
            N' = zeros R.rate;
            readings = (t.W-in, none (symbols C));
            sources = (t.N-in, none R.rate);
            same = t.same;
            s = s;
            one = b;
            other = λ z. omega (arith, t.other, t.none, z);
          }

      never : Sound C → Undecided C reported → ¬ (T (decodable C reported))
      never ok u t =
          let sums : List ℕ = tab R.size (relay_sum C u.W u.N) in
          let gives : (W N : List ℕ) → ((j : ℕ) → j < R.size → T (has_bit reported j) → at sums j ≡ relay_sum C W N j)
          → decoded C reported sums u.s ≡ total C W u.s
          = λ W N h. decoded-true C ok reported t W N sums h u.s u.one in
          u.other
          (sym (gives u.W u.N (λ j l h. at-tab R.size (relay_sum C u.W u.N) j l))
          ∙ gives u.W' u.N' (λ j l h. at-tab R.size (relay_sum C u.W u.N) j l ∙ u.same j l h))

  pub more-arrive : MoreArrive R K A reported
  more-arrive more h Y Y' out e e' =
      decodable-accepted R K A more Y' out e'
      (more-arrived (network_of R K A) (sound R K A (arrivals-known R K A more Y' out e').ready) reported more h (accepted-decodable R K A reported Y out e))

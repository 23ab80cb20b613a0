-- The test that searches for a leak and the record of one agree.
use Prim.Native.Nat.{ℕ, zero, suc, ◌+◌, ◌-◌, ◌*◌, ◌≤◌, ◌<◌}
use mathlib.Core.Path.{◌≡◌, refl, sym, ap, ◌∙◌, subst}
use mathlib.Core.Bool.{Bool, true, false, not, ◌&&◌, ◌||◌}
use mathlib.Core.Logic.{◌≢◌, ◌↔◌}
use mathlib.Core.List.{List, ◌∷◌}
use native.Mathlib.Decide.{ℕ_discrete}
use native.Mathlib.Omega.{arith}
use lib.Dec.{T, T_not, not_T, eqb, eqb→eq, eqb_refl}
use Rattle.lists.specs.Search.{all_to}
use Rattle.lists.proofs.Searches.{T_and, and_T, any_found, any_at, all-at, all_made}
use Rattle.matrices.specs.Linear.{Vector}
use Rattle.matrices.specs.Rank.{any_list, same_list}
use Rattle.matrices.proofs.Spans.{any-list-found, any-list-at, same→eq}
use Rattle.lists.specs.Sums.{how_many}
use Rattle.secrecy.specs.Model.{Pool, users, in_coalition, in_cluster, reading, total, set_view, server_view}
use Rattle.secrecy.specs.Leaks.{keys_showing, members_agree, totals_agree, agree, places, found_at, found, set_leaks, leaks, longest}
use Rattle.secrecy.specs.Leaks.{Symbols, Positions, Agree, ServerAgree, Leak, PairLeak}
use Rattle.lists.proofs.ListLaws.{many-all}
use Rattle.secrecy.proofs.CountLaws.{count-found}
use Rattle.secrecy.proofs.Forms.{see-vector}
use Rattle.secrecy.proofs.PoolForms.{seen_forms, up_form, sum_form, length_seen, units, ones, set-forms, server-forms}

-- ---- tests

eqb-iff : (m n : ℕ) → T (eqb m n) ↔ (m ≡ n)
eqb-iff m n = (eqb→eq m n, λ e. subst (λ (k : ℕ). T (eqb m k)) e (eqb_refl m))

-- an implication
implies-iff : (a b : Bool) → T (not a || b) ↔ (T a → T b)
implies-iff true b = ((λ t s. t), λ f. f tt)
implies-iff false b = ((λ t s. absurd s), λ f. tt)

module _ (P : Pool) where
  -- ---- the agreements

  module _ (g L : ℕ) (W W' : List ℕ) where
    members-iff : T (members_agree P g L W W') ↔ ((i p : ℕ) → i < users P → T (in_coalition g i) → p < L → reading L W i p ≡ reading L W' i p)
    unfolding members_agree
    members-iff = (
      (λ t i p h c l.
          (eqb-iff (reading L W i p) (reading L W' i p)).0
          (all-at L (same i) ((implies-iff (in_coalition g i) (all_to L (same i))).0 (all-at (users P) test t i h) c) p l)),
      (λ f. all_made (users P) test
          (λ i h. (implies-iff (in_coalition g i) (all_to L (same i))).1
          (λ c. all_made L (same i) (λ p l. (eqb-iff (reading L W i p) (reading L W' i p)).1 (f i p h c l))))),
    )
      where
        same : ℕ → ℕ → Bool
        same i p = eqb (reading L W i p) (reading L W' i p)

        test : ℕ → Bool
        test i = not (in_coalition g i) || all_to L (same i)

    totals-iff : T (totals_agree P L W W') ↔ ((p : ℕ) → p < L → total P L W p ≡ total P L W' p)
    unfolding totals_agree
    totals-iff = (
      (λ t p l. (eqb-iff (total P L W p) (total P L W' p)).0 (all-at L (λ p. eqb (total P L W p) (total P L W' p)) t p l)),
      (λ f. all_made L (λ p. eqb (total P L W p) (total P L W' p)) (λ p l. (eqb-iff (total P L W p) (total P L W' p)).1 (f p l))),
    )

  -- on the coalition's members
  agree-iff : (g L : ℕ) (W W' : List ℕ) → T (members_agree P g L W W') ↔ Agree P g L W W'
  agree-iff g L W W' = ((λ t. record { members = (members-iff g L W W').0 t }), λ a. (members-iff g L W W').1 a.members)

  -- and on the totals
  server-agree-iff : (g L : ℕ) (W W' : List ℕ) → T (agree P g zero L W W') ↔ ServerAgree P g L W W'
  server-agree-iff g L W W' = (
    (λ t.
        let (a, b) = T_and (members_agree P g L W W') (totals_agree P L W W') t in
        record { coalition = (agree-iff g L W W').0 a; totals = (totals-iff g L W W').0 b }),
    (λ a. and_T (members_agree P g L W W') (totals_agree P L W W') ((agree-iff g L W W').1 a.coalition) ((totals-iff g L W W').1 a.totals)),
  )

-- ---- the search, for any agreement and any view of a known size

module _ (q m n : ℕ) (agrees : ℕ → List ℕ → List ℕ → Bool) (Agr : ℕ → List ℕ → List ℕ → Type 0)
    (agr-iff : (L : ℕ) (W W' : List ℕ) → T (agrees L W W') ↔ Agr L W W') (size : ℕ → ℕ) (see : ℕ → List ℕ → List ℕ → List ℕ) where
  -- how many source keys show s
  abbrev shows : (L : ℕ) (W s : List ℕ) → ℕ
  shows L W s = keys_showing q n see L W s

  -- a leak is one among more readings
  more-readings : (R R' : ℕ → List ℕ → Type 0) (k : Leak q n R Agr see) → ((W : List ℕ) → R k.L W → R' k.L W) → Leak q n R' Agr see
  more-readings R R' k f =
      record {
        L = k.L;
        low = k.low;
        high = k.high;
        W = k.W;
        W' = k.W';
        W-in = f k.W k.W-in;
        W'-in = f k.W' k.W'-in;
        same = k.same;
        s = k.s;
        unequal = k.unequal;
      }

  unequal_at : (L : ℕ) (W W' s : List ℕ) → Bool
  unequal_at L W W' s = not (eqb (shows L W s) (shows L W' s))

  pair_at : (L : ℕ) (W W' : List ℕ) → Bool
  unfolding unequal_at
  pair_at L W W' = agrees L W W' && any_list q (size L) (unequal_at L W W')

  -- ---- in so many positions

  module _ (L : ℕ) (low : 1 ≤ L) (high : L ≤ longest) (sized : (W N : List ℕ) → Symbols q m L W → Vector q (size L) (see L W N)) where
    -- what some source key shows has that size
    shown-size : (W s : List ℕ) → Symbols q m L W → shows L W s ≢ 0 → Vector q (size L) s
    unfolding keys_showing
    shown-size W s v h =
        let (N, _, t) = count-found q (L * n) (λ N. same_list (see L W N) s) h in
        subst (Vector q (size L)) (same→eq (see L W N) s t) (sized W N v)

    -- so has what leaks: where two numbers are unequal, one is not 0
    unequal-size : (W W' s : List ℕ) → Symbols q m L W → Symbols q m L W' → shows L W s ≢ shows L W' s → Vector q (size L) s
    unequal-size W W' s v v' ne = go (ℕ_discrete (shows L W s) 0)
      where
        go : Dec (shows L W s ≡ 0) → Vector q (size L) s
        go (no h) = shown-size W s v h
        go (yes e) = shown-size W' s v' (λ f. ne (e ∙ sym f))

    leak-found : T (found_at q m n agrees size see L) → Leak q n (Positions q m L) Agr see
    unfolding found_at pair_at unequal_at
    leak-found t =
        let (W, v, t₂) = any-list-found q (m * L) (λ W. any_list q (m * L) (pair_at L W)) t in
        let (W', v', t₃) = any-list-found q (m * L) (pair_at L W) t₂ in
        let (a, t₄) = T_and (agrees L W W') (any_list q (size L) (unequal_at L W W')) t₃ in
        let (s, _, u) = any-list-found q (size L) (unequal_at L W W') t₄ in
        record {
          L = L;
          low = low;
          high = high;
          W = W;
          W' = W';
          W-in = record { many-are = refl; symbols = v };
          W'-in = record { many-are = refl; symbols = v' };
          same = (agr-iff L W W').0 a;
          s = s;
          unequal = λ e. T_not (eqb (shows L W s) (shows L W' s)) u ((eqb-iff (shows L W s) (shows L W' s)).1 e);
        }

    leak-at : (W W' s : List ℕ) → Symbols q m L W → Symbols q m L W' → Agr L W W' → shows L W s ≢ shows L W' s → T (found_at q m n agrees size see L)
    unfolding found_at pair_at unequal_at
    leak-at W W' s v v' a ne =
        any-list-at q (m * L) (λ W. any_list q (m * L) (pair_at L W)) W v
        (any-list-at q (m * L) (pair_at L W) W' v'
        (and_T (agrees L W W') (any_list q (size L) (unequal_at L W W')) ((agr-iff L W W').1 a)
        (any-list-at q (size L) (unequal_at L W W') s (unequal-size W W' s v v' ne)
        (not_T (eqb (shows L W s) (shows L W' s)) (λ t. ne (eqb→eq (shows L W s) (shows L W' s) t))))))

    leak-made : Leak q n (Positions q m L) Agr see → T (found_at q m n agrees size see L)
    leak-made k =
        let e : k.L ≡ L = k.W-in.many-are in
        leak-at k.W k.W' k.s (subst (λ (z : ℕ). Symbols q m z k.W) e k.W-in.symbols)
        (subst (λ (z : ℕ). Symbols q m z k.W') e k.W'-in.symbols) (subst (λ (z : ℕ). Agr z k.W k.W') e k.same)
        (subst (λ (z : ℕ). shows z k.W k.s ≢ shows z k.W' k.s) e k.unequal)

    -- it finds a leak just where there is one
    pub found-at-iff : T (found_at q m n agrees size see L) ↔ Leak q n (Positions q m L) Agr see
    found-at-iff = (leak-found, leak-made)

  -- ---- for some L

  module _ (sized : (L : ℕ) (W N : List ℕ) → Symbols q m L W → Vector q (size L) (see L W N)) where
    found-iff : T (found q m n agrees size see) ↔ Leak q n (Symbols q m) Agr see
    unfolding found
    found-iff = (
      (λ t.
          let (l, b, u) = any_found longest (λ l. found_at q m n agrees size see (suc l)) t in
          more-readings (Positions q m (suc l)) (Symbols q m) ((found-at-iff (suc l) (omega arith) b (sized (suc l))).0 u) (λ W v. v.symbols)),
      (λ k.
          let low : 1 ≤ k.L = k.low in
          let high : k.L ≤ longest = k.high in
          any_at longest (λ l. found_at q m n agrees size see (suc l)) (k.L - 1) (omega arith)
          (subst (λ (z : ℕ). T (found_at q m n agrees size see z)) {x = k.L} {y = suc (k.L - 1)} (omega arith)
          ((found-at-iff k.L low high (sized k.L)).1
          (more-readings (Symbols q m) (Positions q m k.L) k (λ W v. record { many-are = refl; symbols = v }))))),
    )

-- ---- the observers

module _ (P : Pool) (pos : 0 < P.q) where
  -- a view has its places
  pub set-places : (b : ℕ → Bool) (g L : ℕ) (W N : List ℕ) → Symbols P.q (users P) L W
      → Vector P.q (places P (how_many (users P) b) g L) (set_view P b g L W N)
  set-places b g L W N =
      see-vector P.q (users P) P.rate L W N pos (how_many (users P) b + (how_many (users P) (in_coalition g) + how_many (users P) (in_coalition g)))
      (Symbols P.q (users P)) (units P g) (seen_forms P g (users P) b (up_form P)) (Agree P g) (set_view P b g) (set-forms P b g)
      (length_seen P g (users P) b (up_form P))

  pub server-places : (g L : ℕ) (W N : List ℕ) → Symbols P.q (users P) L W → Vector P.q (places P P.clusters g L) (server_view P g L W N)
  server-places g L W N =
      see-vector P.q (users P) P.rate L W N pos (P.clusters + (how_many (users P) (in_coalition g) + how_many (users P) (in_coalition g)))
      (Symbols P.q (users P)) (ones P ∷ units P g) (seen_forms P g P.clusters (λ _. true) (sum_form P)) (ServerAgree P g) (server_view P g)
      (server-forms P g)
      (length_seen P g P.clusters (λ _. true) (sum_form P)
      ∙ ap (λ (z : ℕ). z + (how_many (users P) (in_coalition g) + how_many (users P) (in_coalition g))) (many-all P.clusters))

  -- of the uploads of the users that b picks
  pub set-search-iff : (b : ℕ → Bool) (g : ℕ) → T (set_leaks P b g) ↔ Leak P.q P.rate (Symbols P.q (users P)) (Agree P g) (set_view P b g)
  set-search-iff b g =
      found-iff P.q (users P) P.rate (members_agree P g) (Agree P g) (agree-iff P g) (places P (how_many (users P) b) g) (set_view P b g) (set-places b g)

  -- a relay or the server
  pub search-iff : (g w : ℕ) → T (leaks P g w) ↔ PairLeak P g w
  search-iff g zero =
      found-iff P.q (users P) P.rate (agree P g zero) (ServerAgree P g) (server-agree-iff P g) (places P P.clusters g) (server_view P g)
      (server-places g)
  search-iff g (suc u) = set-search-iff (in_cluster P u) g

-- The rank criterion: a view by forms hides each difference that E does not see just where the rank of the rows (e | 0) of E and (a | c) of the forms
-- is that of E and that of the source parts together.
use Prim.Native.Nat.{ℕ, ◌+◌, ◌-◌, ◌%◌, ◌≤◌, ◌<◌}
use mathlib.Core.Path.{◌≡◌, refl, sym, ap, ap₂, ◌∙◌, subst}
use mathlib.Core.Bool.{Bool, true, false, cond}
use mathlib.Core.Logic.{⊎_elim, ◌↔◌}
use mathlib.Core.List.{List, [], ◌∷◌, ◌++◌, map, map-append, append-nil, append_assoc}
use native.Mathlib.Nat.{zero-mod, zero-add}
use native.Mathlib.Omega.{arith}
use lib.ListN.{length, take, drop, length-replicate, take-append-drop}
use lib.Seq.{length-take-le, get_or-take}
use lib.Dec.{T}
use Rattle.residues.specs.Primes.{Prime}
use Rattle.lists.specs.Lists.{All, zeros}
use Rattle.lists.proofs.Searches.{T-decide}
use Rattle.lists.proofs.Members.{all_append, all_left, all_right, all_map}
use Rattle.residues.proofs.Congruence.{Cong, to-mod, of_eq, of-mod, c-refl, c_sym, c-trans, c-add, cong-zero, cong-one, zero-not-one, minus_number, same_number}
use Rattle.matrices.specs.Linear.{Vector, add, scale, reduce}
use Rattle.matrices.specs.Rank.{in_span, rank_over, rank_of}
use Rattle.matrices.proofs.Notions.{dot_n, dot, InSpan, Separated}
use Rattle.matrices.proofs.Vectors.{dot-comm, dot-zeros, dot-zeroed, dot-add, dot-scaled, dot-reduced, dot-append, vector-reduce, vector-zeros}
use Rattle.matrices.proofs.MadeVectors.{vector-append}
use Rattle.matrices.proofs.Spans.{in-span-iff, span-dot}
use Rattle.matrices.proofs.Duality.{duality}
use Rattle.matrices.proofs.RankLaws.{rank-append, cond-le}
use Rattle.matrices.proofs.Solvability.{Extended, extend}
use Rattle.secrecy.proofs.Forms.{Form, Unseen, Mask, Hidden}

-- ---- the matrix of forms

-- the rows (a | c) of forms, their source parts, and the rows (e | 0)
abbrev pub form_rows : List Form → List (List ℕ)
form_rows = map (λ f. f.on_readings ++ f.on_source)

abbrev pub source_rows : List Form → List (List ℕ)
source_rows = map (λ f. f.on_source)

abbrev pub padded : ℕ → List (List ℕ) → List (List ℕ)
padded n = map (λ e. e ++ zeros n)

-- a form of m and n numbers below q
pub record FormOf (q m n : ℕ) (f : Form) : Type 0 where
  pub readings : Vector q m f.on_readings
  pub source : Vector q n f.on_source

pub vector-take : (q m n : ℕ) (M : List ℕ) → Vector q (m + n) M → Vector q m (take m M)
vector-take q m n M v =
    record {
      size = length-take-le m M (omega (arith, v.size));
      small = λ i l. subst (λ (z : ℕ). z < q) (sym (get_or-take m M i 0 l)) (v.small i (omega arith));
    }

-- ---- rows side by side

-- with a vector cut in two
dot-cut : (m n : ℕ) (a c M : List ℕ) → length a ≡ m → length M ≡ m + n → dot_n (a ++ c) M ≡ dot_n a (take m M) + dot_n c (drop m M)
dot-cut m n a c M e f =
    ap (dot_n (a ++ c)) (sym (take-append-drop m M))
    ∙ dot-append a c (take m M) (drop m M) (e ∙ sym (length-take-le m M (omega arith)))

cond-eq : (s k : Bool) → (T s → T k) → (T k → T s) → ◌≡◌ {A = ℕ} (cond s 0 1) (cond k 0 1)
cond-eq true true h f = refl
cond-eq true false h f = absurd (h tt)
cond-eq false true h f = absurd (f tt)
cond-eq false false h f = refl

cond_back : (s k : Bool) → cond k 0 1 ≤ cond s 0 1 → T s → T k
cond_back true true h t = tt
cond_back true false h t = absurd (omega arith)
cond_back false k h t = absurd t

module _ (q : ℕ) (p : Prime q) (m n : ℕ) where
  pos : 0 < q
  pos = omega (arith, p.two)

  -- ---- vectors

  padded-vectors : (E : List (List ℕ)) → All (Vector q m) E → All (Vector q (m + n)) (padded n E)
  padded-vectors [] h = tt
  padded-vectors (e ∷ E) h = (vector-append q m n e (zeros n) h.0 (vector-zeros q n pos), padded-vectors E h.1)

  form-vectors : (F : List Form) → All (FormOf q m n) F → All (Vector q (m + n)) (form_rows F)
  form-vectors [] h = tt
  form-vectors (f ∷ F) h = (vector-append q m n f.on_readings f.on_source h.0.readings h.0.source, form-vectors F h.1)

  source-vectors : (F : List Form) → All (FormOf q m n) F → All (Vector q n) (source_rows F)
  source-vectors [] h = tt
  source-vectors (f ∷ F) h = (h.0.source, source-vectors F h.1)

  -- ---- products of stacked rows

  -- with (x | y), where E does not see x
  padded-none : (x y : List ℕ) → length x ≡ m → (E : List (List ℕ)) → All (Vector q m) E → Unseen q E x → All (λ r. Cong q (dot_n r (x ++ y)) 0) (padded n E)
  padded-none x y ex [] h un = tt
  padded-none x y ex (e ∷ E) h un = (
    c-trans (of_eq (dot-append e (zeros n) x y (h.0.size ∙ sym ex) ∙ ap (λ (z : ℕ). dot_n e x + z) (dot-zeros n y)))
        (c-trans (of_eq (omega arith)) (cong-zero q (dot_n e x) un.0)),
    padded-none x y ex E h.1 un.1,
  )

  forms-none : (x y : List ℕ) → length x ≡ m → (F : List Form) → All (FormOf q m n) F
      → All (λ f. Cong q (dot_n f.on_readings x + dot_n f.on_source y) 0) F → All (λ r. Cong q (dot_n r (x ++ y)) 0) (form_rows F)
  forms-none x y ex [] h k = tt
  forms-none x y ex (f ∷ F) h k = (
    c-trans (of_eq (dot-append f.on_readings f.on_source x y (h.0.readings.size ∙ sym ex))) k.0,
    forms-none x y ex F h.1 k.1,
  )

  -- with M, cut in two
  module _ (M : List ℕ) (size : length M ≡ m + n) where
    none-padded : (E : List (List ℕ)) → All (Vector q m) E → All (λ r. dot q r M ≡ 0) (padded n E) → Unseen q E (take m M)
    none-padded [] h k = tt
    none-padded (e ∷ E) h k = (
      ap (λ (z : ℕ). z % q) (sym (dot-cut m n e (zeros n) M h.0.size size ∙ ap (λ (z : ℕ). dot_n e (take m M) + z) (dot-zeros n (drop m M)) ∙ omega arith))
          ∙ k.0,
      none-padded E h.1 k.1,
    )

    none-forms : (F : List Form) → All (FormOf q m n) F → All (λ r. dot q r M ≡ 0) (form_rows F)
        → All (λ f. Cong q (dot_n f.on_readings (take m M) + dot_n f.on_source (drop m M)) 0) F
    none-forms [] h k = tt
    none-forms (f ∷ F) h k = (
      c-trans (of_eq (sym (dot-cut m n f.on_readings f.on_source M h.0.readings.size size)))
          (cong-zero q (dot_n (f.on_readings ++ f.on_source) M) k.0),
      none-forms F h.1 k.1,
    )

  zeros-unseen : (E : List (List ℕ)) → Unseen q E (zeros m)
  zeros-unseen [] = tt
  zeros-unseen (e ∷ E) = (ap (λ (z : ℕ). z % q) (dot-zeroed e m) ∙ zero-mod q, zeros-unseen E)

  source-none : (y : List ℕ) (F : List Form) → All (λ r. dot q r y ≡ 0) (source_rows F)
      → All (λ f. Cong q (dot_n f.on_readings (zeros m) + dot_n f.on_source y) 0) F
  source-none y [] h = tt
  source-none y (f ∷ F) h = (
    c-trans (of_eq (ap (λ (z : ℕ). z + dot_n f.on_source y) (dot-zeroed f.on_readings m) ∙ zero-add (dot_n f.on_source y)))
        (cong-zero q (dot_n f.on_source y) h.0),
    source-none y F h.1,
  )

  -- ---- the rank of (e | 0) is that of e

  pad-in : (A : List (List ℕ)) (e : List ℕ) → All (Vector q m) A → Vector q m e → InSpan q m A e → InSpan q (m + n) (padded n A) (e ++ zeros n)
  pad-in A e h_a he w =
      ⊎_elim (λ x. x) (λ s. absurd (apart s))
      (duality q p (m + n) (padded n A) (e ++ zeros n) (padded-vectors A h_a)
      (vector-append q m n e (zeros n) he (vector-zeros q n pos)))
    where
      apart : Separated q (m + n) (padded n A) (e ++ zeros n) → ⊥
      apart s =
          let M : List ℕ = s.M in
          zero-not-one q p.two
          (c-trans
          (c_sym (span-dot q m A e (take m M) w
          (all_map (λ r. dot q r (take m M) ≡ 0) (λ r. Cong q (dot_n r (take m M)) 0) (λ r. cong-zero q (dot_n r (take m M))) A
          (none-padded M s.valid.size A h_a s.orthogonal))))
          (c-trans
          (of_eq (sym (dot-cut m n e (zeros n) M he.size s.valid.size ∙ ap (λ (z : ℕ). dot_n e (take m M) + z) (dot-zeros n (drop m M)) ∙ omega arith)))
          (cong-one q p.two (dot_n (e ++ zeros n) M) s.one)))

  pad-out : (A : List (List ℕ)) (e : List ℕ) → All (Vector q m) A → Vector q m e → InSpan q (m + n) (padded n A) (e ++ zeros n) → InSpan q m A e
  pad-out A e h_a he w =
      ⊎_elim (λ x. x) (λ s. absurd (apart s)) (duality q p m A e h_a he)
    where
      apart : Separated q m A e → ⊥
      apart s =
          zero-not-one q p.two
          (c-trans
          (c_sym (span-dot q (m + n) (padded n A) (e ++ zeros n) (s.M ++ zeros n) w
          (padded-none s.M (zeros n) s.valid.size A h_a s.orthogonal)))
          (c-trans
          (of_eq (dot-append e (zeros n) s.M (zeros n) (he.size ∙ sym s.valid.size) ∙ ap (λ (z : ℕ). dot_n e s.M + z) (dot-zeros n (zeros n))
          ∙ omega arith))
          (cong-one q p.two (dot_n e s.M) s.one)))

  padded-rank : (A C : List (List ℕ)) → All (Vector q m) A → All (Vector q m) C → rank_over q (m + n) (padded n A) (padded n C) ≡ rank_over q m A C
  unfolding rank_over
  padded-rank A [] h_a h_c = refl
  padded-rank A (e ∷ C) h_a h_c =
      ap₂ ◌+◌
      (cond-eq (in_span q (m + n) (padded n A) (e ++ zeros n)) (in_span q m A e)
      (λ t. (in-span-iff q m pos A e h_a).1 (pad-out A e h_a h_c.0 ((in-span-iff q (m + n) pos (padded n A) (e ++ zeros n) (padded-vectors A h_a)).0 t)))
      (λ t. (in-span-iff q (m + n) pos (padded n A) (e ++ zeros n) (padded-vectors A h_a)).1 (pad-in A e h_a h_c.0 ((in-span-iff q m pos A e h_a).0 t))))
      (ap (λ (S : List (List ℕ)). rank_over q (m + n) S (padded n C)) (sym (map-append (λ e. e ++ zeros n) A (e ∷ [])))
      ∙ padded-rank (A ++ (e ∷ [])) C (all_append (Vector q m) A (e ∷ []) h_a (h_c.0, tt)) h_c.1)

  -- ---- form by form: one whose source part depends on those before depends on them and E as a whole

  module _ (E : List (List ℕ)) (h_e : All (Vector q m) E) where
    stack : List Form → List (List ℕ)
    stack B = padded n E ++ form_rows B

    stack-vectors : (B : List Form) → All (FormOf q m n) B → All (Vector q (m + n)) (stack B)
    unfolding stack
    stack-vectors B h = all_append (Vector q (m + n)) (padded n E) (form_rows B) (padded-vectors E h_e) (form-vectors B h)

    abbrev Covered : List Form → List Form → Type 0
    Covered B [] = Unit {0}
    Covered B (f ∷ F) =
        (InSpan q n (source_rows B) f.on_source → InSpan q (m + n) (stack B) (f.on_readings ++ f.on_source)) × Covered (B ++ (f ∷ [])) F

    -- what makes up for d in the forms B
    abbrev MadeUp : List ℕ → List ℕ → Form → Type 0
    MadeUp d t f = Cong q (dot_n f.on_readings d) (dot_n f.on_source t)

    -- a + (q - 1) b = 0 where a = b, and back
    to_none : (d t : List ℕ) (B : List Form) → All (MadeUp d t) B
        → All (λ f. Cong q (dot_n f.on_readings d + dot_n f.on_source (scale (q - 1) t)) 0) B
    to_none d t [] h = tt
    to_none d t (f ∷ B) h = (
      c-trans (of_eq (ap (λ (z : ℕ). dot_n f.on_readings d + z) (dot-scaled (q - 1) f.on_source t)))
          (minus_number q (q - 1) (dot_n f.on_readings d) (dot_n f.on_source t) (omega arith) h.0),
      to_none d t B h.1,
    )

    -- a form that depends is made up for by itself
    depends : (d t : List ℕ) (B : List Form) (f : Form) → length d ≡ m → All (FormOf q m n) B → FormOf q m n f → Unseen q E d → All (MadeUp d t) B
        → InSpan q (m + n) (stack B) (f.on_readings ++ f.on_source) → MadeUp d t f
    unfolding stack
    depends d t B f ed h_b hf un made w =
        same_number q (q - 1) (dot_n f.on_readings d) (dot_n f.on_source t) (omega (arith, p.two))
        (c-trans
        (of_eq (sym (dot-append f.on_readings f.on_source d (scale (q - 1) t) (hf.readings.size ∙ sym ed)
        ∙ ap (λ (z : ℕ). dot_n f.on_readings d + z) (dot-scaled (q - 1) f.on_source t))))
        (span-dot q (m + n) (stack B) (f.on_readings ++ f.on_source) (d ++ scale (q - 1) t) w
        (all_append (λ r. Cong q (dot_n r (d ++ scale (q - 1) t)) 0) (padded n E) (form_rows B)
        (padded-none d (scale (q - 1) t) ed E h_e un)
        (forms-none d (scale (q - 1) t) ed B h_b (to_none d t B made)))))

    -- other symbols that have the same products with the source parts
    keep-made : (d t t' : List ℕ) (B : List Form) → All (MadeUp d t) B → All (λ s. Cong q (dot_n s t') (dot_n s t)) (source_rows B) → All (MadeUp d t') B
    keep-made d t t' [] h k = tt
    keep-made d t t' (f ∷ B) h k = (c-trans h.0 (c_sym k.0), keep-made d t t' B h.1 k.1)

    cover : (d : List ℕ) → length d ≡ m → Unseen q E d → (B F : List Form) → All (FormOf q m n) B → All (FormOf q m n) F → Covered B F
        → (t : List ℕ) → length t ≡ n → All (MadeUp d t) B → (t' : List ℕ) × (length t' ≡ n) × All (MadeUp d t') (B ++ F)
    cover d ed un B [] h_b h_f c t et made = (t, et, subst (All (MadeUp d t)) (sym (append-nil B)) made)
    cover d ed un B (f ∷ F) h_b h_f c t et made =
        go (T-decide (in_span q n (source_rows B) f.on_source)) (cover d ed un (B ++ (f ∷ [])) F h_bf h_f.1 c.1)
      where
        h_bf : All (FormOf q m n) (B ++ (f ∷ []))
        h_bf = all_append (FormOf q m n) B (f ∷ []) h_b (h_f.0, tt)

        Goal : Type 0
        Goal = (t' : List ℕ) × (length t' ≡ n) × All (MadeUp d t') (B ++ (f ∷ F))

        regroup : (t' : List ℕ) × (length t' ≡ n) × All (MadeUp d t') ((B ++ (f ∷ [])) ++ F) → Goal
        regroup x = (x.0, x.1, subst (All (MadeUp d x.0)) (append_assoc B (f ∷ []) F) x.2)

        go : Dec (T (in_span q n (source_rows B) f.on_source))
            → ((t : List ℕ) → length t ≡ n → All (MadeUp d t) (B ++ (f ∷ [])) → (t' : List ℕ) × (length t' ≡ n) × All (MadeUp d t') ((B ++ (f ∷ [])) ++ F))
            → Goal
        go (yes s) ih =
            regroup (ih t et (all_append (MadeUp d t) B (f ∷ []) made
            (depends d t B f ed h_b h_f.0 un made (c.0 ((in-span-iff q n pos (source_rows B) f.on_source (source-vectors B h_b)).0 s)), tt)))
        go (no s) ih =
            let x : Extended q n (source_rows B) f.on_source t (dot_n f.on_readings d)
            = extend q p n (source_rows B) f.on_source (source-vectors B h_b) h_f.0.source
            (λ w. s ((in-span-iff q n pos (source_rows B) f.on_source (source-vectors B h_b)).1 w)) t et (dot_n f.on_readings d) in
            regroup (ih x.N x.size (all_append (MadeUp d x.N) B (f ∷ []) (keep-made d t x.N B made x.keeps) (c_sym x.hits, tt)))

    covered-hides : (F : List Form) → All (FormOf q m n) F → Covered [] F → Hidden q m n E F
    covered-hides F h_f c d v un =
        let (t, et, k) = cover d v.size un [] F tt h_f c (zeros n) (length-replicate n 0) tt in
        record {
          t = reduce q t;
          valid = vector-reduce q n t pos et;
          makes-up =
              all_map (MadeUp d t) (λ f. dot q f.on_readings d ≡ dot q f.on_source (reduce q t))
              (λ f e. to-mod (c-trans e (c_sym (dot-reduced q f.on_source t)))) F k;
        }

    -- ---- and back

    -- t makes up for d, and (d | y) has 0: so t + y has 0 with the source parts
    joined-none : (d t y : List ℕ) (B : List Form) → All (λ f. dot q f.on_readings d ≡ dot q f.on_source t) B
        → All (λ f. Cong q (dot_n f.on_readings d + dot_n f.on_source y) 0) B → All (λ s. Cong q (dot_n s (add t y)) 0) (source_rows B)
    joined-none d t y [] h k = tt
    joined-none d t y (f ∷ B) h k = (
      c-trans (of_eq (dot-comm f.on_source (add t y) ∙ dot-add t y f.on_source ∙ ap₂ ◌+◌ (dot-comm t f.on_source) (dot-comm y f.on_source)))
          (c-trans (c-add (c_sym (of-mod q (dot_n f.on_readings d) (dot_n f.on_source t) h.0)) (c-refl {a = dot_n f.on_source y})) k.0),
      joined-none d t y B h.1 k.1,
    )

    hides-step : (B : List Form) (f : Form) (F : List Form) → All (FormOf q m n) B → FormOf q m n f → Hidden q m n E (B ++ (f ∷ F))
        → InSpan q n (source_rows B) f.on_source → InSpan q (m + n) (stack B) (f.on_readings ++ f.on_source)
    unfolding stack
    hides-step B f F h_b hf hid w =
        ⊎_elim (λ x. x) (λ s. absurd (apart s))
        (duality q p (m + n) (stack B) (f.on_readings ++ f.on_source) (stack-vectors B h_b)
        (vector-append q m n f.on_readings f.on_source hf.readings hf.source))
      where
        apart : Separated q (m + n) (stack B) (f.on_readings ++ f.on_source) → ⊥
        apart s =
            let M : List ℕ = s.M in
            let d : List ℕ = take m M in
            let y : List ℕ = drop m M in
            let c : List ℕ = f.on_source in
            let rows : All (λ r. dot q r M ≡ 0) (padded n E ++ form_rows B) = s.orthogonal in
            let k : Mask q n (B ++ (f ∷ F)) d
            = hid d (vector-take q m n M s.valid)
            (none-padded M s.valid.size E h_e (all_left (λ r. dot q r M ≡ 0) (padded n E) (form_rows B) rows)) in
            let made : All (λ f. dot q f.on_readings d ≡ dot q f.on_source k.t) (f ∷ F)
            = all_right (λ f. dot q f.on_readings d ≡ dot q f.on_source k.t) B (f ∷ F) k.makes-up in
            let before : All (λ s. Cong q (dot_n s (add k.t y)) 0) (source_rows B)
            = joined-none d k.t y B (all_left (λ f. dot q f.on_readings d ≡ dot q f.on_source k.t) B (f ∷ F) k.makes-up)
            (none-forms M s.valid.size B h_b (all_right (λ r. dot q r M ≡ 0) (padded n E) (form_rows B) rows)) in
            zero-not-one q p.two
            (c-trans (c_sym (span-dot q n (source_rows B) c (add k.t y) w before))
            (c-trans (of_eq (dot-comm c (add k.t y) ∙ dot-add k.t y c ∙ ap₂ ◌+◌ (dot-comm k.t c) (dot-comm y c)))
            (c-trans (c-add (c_sym (of-mod q (dot_n f.on_readings d) (dot_n c k.t) made.0)) (c-refl {a = dot_n c y}))
            (c-trans (of_eq (sym (dot-cut m n f.on_readings c M hf.readings.size s.valid.size)))
            (cong-one q p.two (dot_n (f.on_readings ++ c) M) s.one)))))

    hides-covered : (B F : List Form) → All (FormOf q m n) B → All (FormOf q m n) F → Hidden q m n E (B ++ F) → Covered B F
    hides-covered B [] h_b h_f hid = tt
    hides-covered B (f ∷ F) h_b h_f hid = (
      hides-step B f F h_b h_f.0 hid,
      hides-covered (B ++ (f ∷ [])) F (all_append (FormOf q m n) B (f ∷ []) h_b (h_f.0, tt)) h_f.1
          (subst (Hidden q m n E) (sym (append_assoc B (f ∷ []) F)) hid),
    )

    -- ---- counted

    -- a form that depends as a whole depends in its source part
    source-depends : (B : List Form) (f : Form) → All (FormOf q m n) B → FormOf q m n f
        → InSpan q (m + n) (stack B) (f.on_readings ++ f.on_source) → InSpan q n (source_rows B) f.on_source
    unfolding stack
    source-depends B f h_b hf w =
        ⊎_elim (λ x. x) (λ s. absurd (apart s))
        (duality q p n (source_rows B) f.on_source (source-vectors B h_b) hf.source)
      where
        apart : Separated q n (source_rows B) f.on_source → ⊥
        apart s =
            let M : List ℕ = zeros m ++ s.M in
            zero-not-one q p.two
            (c-trans
            (c_sym (span-dot q (m + n) (stack B) (f.on_readings ++ f.on_source) M w
            (all_append (λ r. Cong q (dot_n r M) 0) (padded n E) (form_rows B)
            (padded-none (zeros m) s.M (length-replicate m 0) E h_e (zeros-unseen E))
            (forms-none (zeros m) s.M (length-replicate m 0) B h_b (source-none s.M B s.orthogonal)))))
            (c-trans
            (of_eq (dot-append f.on_readings f.on_source (zeros m) s.M (hf.readings.size ∙ sym (length-replicate m 0))
            ∙ ap (λ (z : ℕ). z + dot_n f.on_source s.M) (dot-zeroed f.on_readings m) ∙ zero-add (dot_n f.on_source s.M)))
            (cong-one q p.two (dot_n f.on_source s.M) s.one)))

    -- one form more
    source-snoc : (B : List Form) (f : Form) → source_rows (B ++ (f ∷ [])) ≡ source_rows B ++ (f.on_source ∷ [])
    source-snoc B f = map-append (λ f. f.on_source) B (f ∷ [])

    stack_snoc : (B : List Form) (f : Form) → stack (B ++ (f ∷ [])) ≡ stack B ++ ((f.on_readings ++ f.on_source) ∷ [])
    unfolding stack
    stack_snoc B f =
        ap (λ (S : List (List ℕ)). padded n E ++ S) (map-append (λ f. f.on_readings ++ f.on_source) B (f ∷ []))
        ∙ sym (append_assoc (padded n E) (form_rows B) ((f.on_readings ++ f.on_source) ∷ []))

    record Counted (B F : List Form) : Type 0 where
      le : rank_over q n (source_rows B) (source_rows F) ≤ rank_over q (m + n) (stack B) (form_rows F)
      covers : rank_over q (m + n) (stack B) (form_rows F) ≡ rank_over q n (source_rows B) (source_rows F) → Covered B F
      equal : Covered B F → rank_over q (m + n) (stack B) (form_rows F) ≡ rank_over q n (source_rows B) (source_rows F)

    counted_step : (B : List Form) (f : Form) (F : List Form) → All (FormOf q m n) B → FormOf q m n f → Counted (B ++ (f ∷ [])) F → Counted B (f ∷ F)
    unfolding rank_over
    counted_step B f F h_b hf ih =
        let c : List ℕ = f.on_source in
        let r : List ℕ = f.on_readings ++ f.on_source in
        let s : Bool = in_span q n (source_rows B) c in
        let k : Bool = in_span q (m + n) (stack B) r in
        let x : rank_over q n (source_rows (B ++ (f ∷ []))) (source_rows F) ≡ rank_over q n (source_rows B ++ (c ∷ [])) (source_rows F)
        = ap (λ (S : List (List ℕ)). rank_over q n S (source_rows F)) (source-snoc B f) in
        let y : rank_over q (m + n) (stack (B ++ (f ∷ []))) (form_rows F) ≡ rank_over q (m + n) (stack B ++ (r ∷ [])) (form_rows F)
        = ap (λ (S : List (List ℕ)). rank_over q (m + n) S (form_rows F)) (stack_snoc B f) in
        let on-source : T s ↔ InSpan q n (source_rows B) c = in-span-iff q n pos (source_rows B) c (source-vectors B h_b) in
        let on_stack : T k ↔ InSpan q (m + n) (stack B) r = in-span-iff q (m + n) pos (stack B) r (stack-vectors B h_b) in
        let down : T k → T s = λ t. on-source.1 (source-depends B f h_b hf (on_stack.0 t)) in
        let one : cond s 0 1 ≤ cond k 0 1 = cond-le s k down in
        let rest : rank_over q n (source_rows (B ++ (f ∷ []))) (source_rows F) ≤ rank_over q (m + n) (stack (B ++ (f ∷ []))) (form_rows F) = ih.le in
        record {
          le = omega arith;
          covers = λ e. (
            (λ w. on_stack.0 (cond_back s k (omega arith) (on-source.1 w))),
            ih.covers (omega arith),
          );
          equal = λ w.
              let a : ◌≡◌ {A = ℕ} (cond s 0 1) (cond k 0 1) = cond-eq s k (λ t. on_stack.1 (w.0 (on-source.0 t))) down in
              let b : rank_over q (m + n) (stack (B ++ (f ∷ []))) (form_rows F) ≡ rank_over q n (source_rows (B ++ (f ∷ []))) (source_rows F) = ih.equal w.1 in
              omega arith;
        }

    counted : (B F : List Form) → All (FormOf q m n) B → All (FormOf q m n) F → Counted B F
    unfolding rank_over
    counted B [] h_b h_f = record { le = omega arith; covers = λ e. tt; equal = λ w. refl }
    counted B (f ∷ F) h_b h_f =
        counted_step B f F h_b h_f.0 (counted (B ++ (f ∷ [])) F (all_append (FormOf q m n) B (f ∷ []) h_b (h_f.0, tt)) h_f.1)

    pub hidden-iff-rank : (F : List Form) → All (FormOf q m n) F
        → Hidden q m n E F ↔ (rank_of q (m + n) (padded n E ++ form_rows F) ≡ rank_of q m E + rank_of q n (source_rows F))
    unfolding stack
    hidden-iff-rank F h_f =
        let all : rank_of q (m + n) (padded n E ++ form_rows F) ≡ rank_of q (m + n) (padded n E) + rank_over q (m + n) (padded n E) (form_rows F)
        = rank-append q (m + n) [] (padded n E) (form_rows F) in
        let edge : rank_of q (m + n) (padded n E) ≡ rank_of q m E = padded-rank [] E tt h_e in
        let start : rank_over q (m + n) (padded n E ++ []) (form_rows F) ≡ rank_over q (m + n) (padded n E) (form_rows F)
        = ap (λ (S : List (List ℕ)). rank_over q (m + n) S (form_rows F)) (append-nil (padded n E)) in
        let c : Counted [] F = counted [] F tt h_f in (
          (λ hid.
              let e : rank_over q (m + n) (padded n E ++ []) (form_rows F) ≡ rank_of q n (source_rows F) = c.equal (hides-covered [] F tt h_f hid) in
              omega arith),
          (λ e. covered-hides F h_f (c.covers (omega arith))),
        )

-- What the observers of a pool see is a view by forms, and their agreement is one on rows of readings.
use Prim.Native.Nat.{ℕ, ◌+◌, ◌*◌, ◌%◌, ◌<◌}
use mathlib.Core.Path.{◌≡◌, sym, ap, ap₂, ◌∙◌}
use mathlib.Core.Bool.{Bool, true}
use mathlib.Core.List.{List, [], ◌∷◌, ◌++◌}
use native.Mathlib.Nat.{mod-eq_of_lt, add-zero, add-mod-mod}
use native.Mathlib.Omega.{arith}
use lib.ListN.{length, length-append}
use lib.Dec.{T}
use lib.Arith.{digits_lt}
use Rattle.residues.proofs.Congruence.{to-mod, of_eq, of-rem, c_sym, c-trans, c-add}
use Rattle.lists.specs.Lists.{at, zeros, tab, picked}
use Rattle.matrices.proofs.Notions.{dot_n, dot}
use Rattle.matrices.proofs.Vectors.{dot-zeros, dot-reduce}
use Rattle.lists.specs.Sums.{how_many}
use Rattle.secrecy.specs.Model.{Pool, users, in_coalition, reading, key, upload, relay_sum, total, blocks, known, set_view, server_view}
use Rattle.secrecy.specs.Leaks.{Symbols, Agree, ServerAgree}
use Rattle.lists.proofs.Sums.{sum-cong, sum-add}
use Rattle.residues.proofs.CongruentSums.{sum-c}
use Rattle.lists.proofs.ListLaws.{at-tab, all-picked, picked_all, length-picked}
use Rattle.matrices.proofs.MadeVectors.{dot-tab}
use Rattle.secrecy.proofs.Units.{unit, add_to, dot-unit, dot-add_to}
use Rattle.secrecy.proofs.Forms.{Form, readings_at, source_at, value, view_of, AgreeOn, ByForms, view-append, view-picked}
use Rattle.secrecy.proofs.RankCondition.{row, summed_row}

module _ (P : Pool) where
  -- ---- the forms

  -- an upload, a reading, a key, and the sum of a cluster's uploads
  abbrev pub up_form : ℕ → Form
  up_form i = record { on_readings = unit (users P) i; on_source = row P i }

  abbrev pub read_form : ℕ → Form
  read_form i = record { on_readings = unit (users P) i; on_source = zeros P.rate }

  abbrev pub key_form : ℕ → Form
  key_form i = record { on_readings = zeros (users P); on_source = row P i }

  abbrev pub sum_form : ℕ → Form
  sum_form u =
      record { on_readings = add_to (users P) P.size (λ v. unit (users P) (u * P.size + v)); on_source = summed_row P u }

  -- what the coalition knows: its readings and its keys
  abbrev pub read_forms : ℕ → List Form
  read_forms g = picked (users P) (in_coalition g) (λ i. read_form i ∷ [])

  abbrev pub key_forms : ℕ → List Form
  key_forms g = picked (users P) (in_coalition g) (λ i. key_form i ∷ [])

  abbrev pub known_forms : ℕ → List Form
  known_forms g = read_forms g ++ key_forms g

  -- the forms F i for those i below k that b picks, with what the coalition knows
  abbrev pub seen_forms : ℕ → ℕ → (ℕ → Bool) → (ℕ → Form) → List Form
  seen_forms g k b F = picked k b (λ i. F i ∷ []) ++ known_forms g

  -- how many they are
  pub length_seen : (g k : ℕ) (b : ℕ → Bool) (F : ℕ → Form)
      → length (seen_forms g k b F) ≡ how_many k b + (how_many (users P) (in_coalition g) + how_many (users P) (in_coalition g))
  length_seen g k b F =
      length-append (picked k b (λ i. F i ∷ [])) (known_forms g)
      ∙ ap₂ ◌+◌ (length-picked k b F)
      (length-append (read_forms g) (key_forms g)
      ∙ ap₂ ◌+◌ (length-picked (users P) (in_coalition g) read_form) (length-picked (users P) (in_coalition g) key_form))

  -- ---- the rows that readings agree on: the coalition's units, and for the server the total

  abbrev pub units : ℕ → List (List ℕ)
  units g = picked (users P) (in_coalition g) (λ i. unit (users P) i ∷ [])

  abbrev pub ones : List ℕ
  ones = add_to (users P) (users P) (unit (users P))

  -- ---- what the forms show

  dot-reading : (L : ℕ) (W : List ℕ) (i p : ℕ) → i < users P → dot_n (unit (users P) i) (readings_at (users P) L W p) ≡ reading L W i p
  unfolding reading
  dot-reading L W i p h =
      dot-unit (users P) i (readings_at (users P) L W p) h ∙ at-tab (users P) (λ i. at W (i * L + p)) i h

  reading-below : (L : ℕ) (W : List ℕ) → Symbols P.q (users P) L W → (i p : ℕ) → i < users P → p < L → reading L W i p < P.q
  unfolding reading
  reading-below L W v i p h l = v.small (i * L + p) (digits_lt h l)

  pub dot-key : (N : List ℕ) (i p : ℕ) → dot P.q (row P i) (source_at P.rate N p) ≡ key P N i p
  unfolding key
  dot-key N i p =
      ap (λ (z : ℕ). z % P.q) (dot-tab P.rate (λ k. at P.table (i * P.rate + k)) (λ k. at N (p * P.rate + k)))

  module _ (L : ℕ) (W N : List ℕ) where
    upload-is : (i p : ℕ) → (reading L W i p + dot_n (row P i) (source_at P.rate N p)) % P.q ≡ upload P L W N i p
    unfolding upload
    upload-is i p =
        sym (add-mod-mod (reading L W i p) (dot_n (row P i) (source_at P.rate N p)) P.q)
        ∙ ap (λ (z : ℕ). (reading L W i p + z) % P.q) (dot-key N i p)

    up-value : (i : ℕ) → i < users P → (p : ℕ) → value P.q (users P) P.rate (up_form i) L W N p ≡ upload P L W N i p
    unfolding value
    up-value i h p =
        ap (λ (z : ℕ). (z + dot_n (row P i) (source_at P.rate N p)) % P.q) (dot-reading L W i p h) ∙ upload-is i p

    read-value : (i : ℕ) → i < users P → (p : ℕ) → reading L W i p < P.q → value P.q (users P) P.rate (read_form i) L W N p ≡ reading L W i p
    unfolding value
    read-value i h p b =
        ap (λ (z : ℕ). z % P.q)
        (ap₂ ◌+◌ (dot-reading L W i p h) (dot-zeros P.rate (source_at P.rate N p)) ∙ add-zero (reading L W i p))
        ∙ mod-eq_of_lt b

    key-value : (i p : ℕ) → value P.q (users P) P.rate (key_form i) L W N p ≡ key P N i p
    unfolding value
    key-value i p =
        ap (λ (z : ℕ). z % P.q) (omega (arith, dot-zeros (users P) (readings_at (users P) L W p)))
        ∙ dot-key N i p

    sum-value : (u : ℕ) → u < P.clusters → (p : ℕ) → value P.q (users P) P.rate (sum_form u) L W N p ≡ relay_sum P L W N u p
    unfolding value relay_sum
    sum-value u h p =
        let i : ℕ → ℕ = λ v. u * P.size + v in
        let x : List ℕ = source_at P.rate N p in
        let w : List ℕ = readings_at (users P) L W p in
        to-mod
        (c-trans
        (c-add
        (of_eq (dot-add_to (users P) P.size (λ v. unit (users P) (i v)) w
        ∙ sum-cong P.size (λ v. dot_n (unit (users P) (i v)) w) (λ v. reading L W (i v) p) (λ v l. dot-reading L W (i v) p (digits_lt h l))))
        (c-trans (dot-reduce P.q (add_to P.rate P.size (λ v. row P (i v))) x) (of_eq (dot-add_to P.rate P.size (λ v. row P (i v)) x))))
        (c-trans
        (of_eq (sym (sum-add P.size (λ v. reading L W (i v) p) (λ v. dot_n (row P (i v)) x))))
        (sum-c P.size (λ v. reading L W (i v) p + dot_n (row P (i v)) x) (λ v. upload P L W N (i v) p)
        (λ v l. c-trans (c_sym (of-rem P.q (reading L W (i v) p + dot_n (row P (i v)) x))) (of_eq (upload-is (i v) p))))))

    -- ---- the views

    known-view : (g : ℕ) → Symbols P.q (users P) L W → view_of P.q (users P) P.rate (known_forms g) L W N ≡ known P g L W N
    unfolding known blocks
    known-view g v =
        view-append P.q (users P) P.rate L W N (read_forms g) (key_forms g)
        ∙ ap₂ ◌++◌
        (view-picked P.q (users P) P.rate L W N (users P) (in_coalition g) read_form (reading L W)
        (λ i h t p l. read-value i h p (reading-below L W v i p h l)))
        (view-picked P.q (users P) P.rate L W N (users P) (in_coalition g) key_form (key P N) (λ i h t p l. key-value i p))

    -- the forms that b picks show f
    seen-view : (g k : ℕ) (b : ℕ → Bool) (F : ℕ → Form) (f : ℕ → ℕ → ℕ) → Symbols P.q (users P) L W
        → ((i : ℕ) → i < k → (p : ℕ) → value P.q (users P) P.rate (F i) L W N p ≡ f i p)
        → view_of P.q (users P) P.rate (seen_forms g k b F) L W N ≡ picked k b (λ i. tab L (f i)) ++ known P g L W N
    seen-view g k b F f v h =
        view-append P.q (users P) P.rate L W N (picked k b (λ i. F i ∷ [])) (known_forms g)
        ∙ ap₂ ◌++◌ (view-picked P.q (users P) P.rate L W N k b F f (λ i l t p c. h i l p)) (known-view g v)

  -- ---- the agreements

  module _ (g L : ℕ) (W W' : List ℕ) where
    members-rows : ((i p : ℕ) → i < users P → T (in_coalition g i) → p < L → reading L W i p ≡ reading L W' i p) → AgreeOn P.q (users P) (units g) L W W'
    members-rows h p l =
        all-picked (λ e. dot P.q e (readings_at (users P) L W p) ≡ dot P.q e (readings_at (users P) L W' p)) (users P) (in_coalition g) (unit (users P))
        (λ i b t. ap (λ (z : ℕ). z % P.q) (dot-reading L W i p b ∙ h i p b t l ∙ sym (dot-reading L W' i p b)))

    rows-members : Symbols P.q (users P) L W → Symbols P.q (users P) L W' → AgreeOn P.q (users P) (units g) L W W'
        → (i p : ℕ) → i < users P → T (in_coalition g i) → p < L → reading L W i p ≡ reading L W' i p
    rows-members v v' a i p b t l =
        sym (mod-eq_of_lt (reading-below L W v i p b l))
        ∙ ap (λ (z : ℕ). z % P.q) (sym (dot-reading L W i p b))
        ∙ picked_all (λ e. dot P.q e (readings_at (users P) L W p) ≡ dot P.q e (readings_at (users P) L W' p)) (users P) (in_coalition g) (unit (users P))
        (a p l) i b t
        ∙ ap (λ (z : ℕ). z % P.q) (dot-reading L W' i p b)
        ∙ mod-eq_of_lt (reading-below L W' v' i p b l)

  dot-total : (L : ℕ) (W : List ℕ) (p : ℕ) → dot P.q ones (readings_at (users P) L W p) ≡ total P L W p
  unfolding total
  dot-total L W p =
      ap (λ (z : ℕ). z % P.q)
      (dot-add_to (users P) (users P) (unit (users P)) (readings_at (users P) L W p)
      ∙ sum-cong (users P) (λ i. dot_n (unit (users P) i) (readings_at (users P) L W p)) (λ i. reading L W i p) (λ i b. dot-reading L W i p b))

  -- ---- the observers

  -- of the uploads of the users that b picks
  pub set-forms : (b : ℕ → Bool) (g : ℕ)
      → ByForms P.q (users P) P.rate (Symbols P.q (users P)) (units g) (seen_forms g (users P) b up_form) (Agree P g) (set_view P b g)
  unfolding set_view blocks
  set-forms b g =
      record {
        symbols = λ L W v. v;
        views = λ L W N v. sym (seen-view L W N g (users P) b up_form (upload P L W N) v (up-value L W N));
        rows = λ L W W' v v' a. members-rows g L W W' a.members;
        agreed = λ L W W' v v' a. record { members = rows-members g L W W' v v' a };
      }

  -- the server
  pub server-forms : (g : ℕ)
      → ByForms P.q (users P) P.rate (Symbols P.q (users P)) (ones ∷ units g) (seen_forms g P.clusters (λ _. true) sum_form) (ServerAgree P g)
      (server_view P g)
  unfolding server_view picked
  server-forms g =
      record {
        symbols = λ L W v. v;
        views = λ L W N v. sym (seen-view L W N g P.clusters (λ _. true) sum_form (relay_sum P L W N) v (sum-value L W N));
        rows = λ L W W' v v' a p l. (dot-total L W p ∙ a.totals p l ∙ sym (dot-total L W' p), members-rows g L W W' a.coalition.members p l);
        agreed = λ L W W' v v' a.
            record {
              coalition = record { members = rows-members g L W W' v v' (λ p l. (a p l).1) };
              totals = λ p l. sym (dot-total L W p) ∙ (a p l).0 ∙ dot-total L W' p;
            };
      }

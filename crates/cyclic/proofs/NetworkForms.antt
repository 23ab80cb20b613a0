-- What the observers of the cyclic network see is a view by forms, and the server's agreement is one on the total rows.
use Prim.Native.Nat.{ℕ, suc, ◌+◌, ◌-◌, ◌*◌, ◌/◌, ◌%◌, ◌≤◌, ◌<◌}
use mathlib.Core.Path.{◌≡◌, refl, sym, ap, ap₂, ◌∙◌, subst}
use mathlib.Core.Bool.{Bool, true, false, cond}
use mathlib.Core.Logic.{◌↔◌}
use mathlib.Core.List.{List, []}
use native.Mathlib.Nat.{mod-lt, mod-eq_of_lt, add_comm, zero-mul}
use native.Mathlib.Omega.{arith}
use lib.Dec.{T, eqb, ltb, ltb→lt, lt→ltb}
use lib.Arith.{digits_div, digits_mod}
use borrow.Author.Tests.{eq-eqb, ne_eqb, lt-ltb, le-ltb}
use Rattle.residues.proofs.Congruence.{Cong, to-mod, of_eq, of-rem, c-refl, c_sym, c-trans, c-add, c-mul-left, c-mul-right}
use Rattle.lists.specs.Lists.{at, All, tab}
use Rattle.matrices.proofs.Notions.{dot_n, dot}
use Rattle.lists.specs.Sums.{sum_to}
use Rattle.lists.proofs.Sums.{sum-cong, sum-zero, sum-add, sum-shift, sum-grid, sum-only, sum_first, sum-mul, sum-swap}
use Rattle.residues.proofs.CongruentSums.{sum-c}
use Rattle.matrices.proofs.MadeVectors.{dot-tab}
use Rattle.secrecy.specs.Leaks.{Positions}
use Rattle.secrecy.proofs.Forms.{Form, readings_at, source_at, value, view_of, AgreeOn, ByForms, view-tab}
use Rattle.cyclic.specs.Network.{Network, symbols, relay_of, heard, link_of, linked, weight, reading, key, upload, relay_sum, total, relay_view, server_view}
use Rattle.cyclic.specs.NetworkLeaks.{SameTotals}
use Rattle.cyclic.specs.Decoding.{on_reading, on_source}
use Rattle.lists.proofs.ListLaws.{all-tab, tab-all}

-- the product of a row that is given by user and symbol
dot-grid : (m n : ℕ) (f : ℕ → ℕ → ℕ) (g : ℕ → ℕ)
    → dot_n (tab (m * n) (λ c. f (c / n) (c % n))) (tab (m * n) g) ≡ sum_to m (λ k. sum_to n (λ s. f k s * g (k * n + s)))
dot-grid m n f g =
    dot-tab (m * n) (λ c. f (c / n) (c % n)) g
    ∙ sum-grid m n (λ c. f (c / n) (c % n) * g c)
    ∙ sum-cong m (λ k. sum_to n (λ s. f ((k * n + s) / n) ((k * n + s) % n) * g (k * n + s))) (λ k. sum_to n (λ s. f k s * g (k * n + s)))
    (λ k l. sum-cong n (λ s. f ((k * n + s) / n) ((k * n + s) % n) * g (k * n + s)) (λ s. f k s * g (k * n + s))
    (λ s b. ap₂ (λ (x y : ℕ). f x y * g (k * n + s)) (digits_div k b) (digits_mod k b)))

module _ (C : Network) where
  -- ---- links: a user's link to a relay is the relay's link to the user

  -- around the circle and back
  around : (j l : ℕ) → j ≤ C.size → l < C.size → ((j + l) % C.size + (C.size - j)) % C.size ≡ l
  around j l h b =
      to-mod
      (c-trans (c-add (of-rem C.size (j + l)) (c-refl {a = C.size - j}))
      (record { up = 0; dn = 1; eq = omega arith }))
      ∙ mod-eq_of_lt b

  back : (k l : ℕ) → k < C.size → l ≤ C.size → ((k + (C.size - l)) % C.size + l) % C.size ≡ k
  back k l h b =
      to-mod
      (c-trans (c-add (of-rem C.size (k + (C.size - l))) (c-refl {a = l}))
      (record { up = 0; dn = 1; eq = omega arith }))
      ∙ mod-eq_of_lt h

  pub link-heard : (j l : ℕ) → j < C.size → l < C.size → link_of C (heard C j l) j ≡ l
  unfolding link_of heard
  link-heard j l h b = around j l (omega arith) b

  pub heard-link : (k j : ℕ) → k < C.size → j < C.size → heard C j (link_of C k j) ≡ k
  unfolding link_of heard
  heard-link k j h b = ap (λ (z : ℕ). z % C.size) (add_comm j ((k + (C.size - j)) % C.size)) ∙ back k j h (omega arith)

  pub heard-relay : (k l : ℕ) → k < C.size → l < C.size → heard C (relay_of C k l) l ≡ k
  unfolding relay_of heard
  heard-relay k l h b = back k l h (omega arith)

  -- the relay of the link that leads to relay j is j, and the link that leads to the relay of link l is l
  turned : (k j : ℕ) → k < C.size → j < C.size → (k + (C.size - (k + (C.size - j)) % C.size)) % C.size ≡ j
  turned k j h b =
      let l : ℕ = (k + (C.size - j)) % C.size in
      let few : l < C.size = mod-lt (k + (C.size - j)) (omega arith) in
      to-mod
      (c-trans (c-add (of_eq (sym (back k j h (omega arith)))) (c-refl {a = C.size - l}))
      (c-trans (c-add (of-rem C.size (l + j)) (c-refl {a = C.size - l}))
      (record { up = 0; dn = 1; eq = omega arith })))
      ∙ mod-eq_of_lt b

  pub linked-iff : C.links ≤ C.size → (k j : ℕ) → k < C.size → j < C.size → T (linked C k j) ↔ ((l : ℕ) × (l < C.links) × (relay_of C k l ≡ j))
  unfolding linked link_of relay_of
  linked-iff few k j h b = (
    (λ t. (link_of C k j, ltb→lt (link_of C k j) C.links t, turned k j h b)),
    (λ x.
        let c : x.0 < C.size = omega (arith, x.1) in
        lt→ltb (link_of C k j) C.links
        (subst (λ (z : ℕ). z < C.links)
        (sym (ap (λ (z : ℕ). (k + (C.size - z)) % C.size) (sym x.2) ∙ turned k x.0 h c)) x.1)),
  )

  -- link l of user k leads to relay j just where it is the link that leads there, and just where k is the user that relay j hears on it
  pub links-meet : (k j l : ℕ) → k < C.size → j < C.size → l < C.size
      → ((relay_of C k l ≡ j) ↔ (link_of C k j ≡ l)) × ((relay_of C k l ≡ j) ↔ (heard C j l ≡ k))
  unfolding relay_of link_of
  links-meet k j l h b c =
      let leads : link_of C k j ≡ l → relay_of C k l ≡ j = λ e. ap (relay_of C k) (sym e) ∙ turned k j h b in (
        ((λ e. ap (link_of C k) (sym e) ∙ turned k l h c), leads),
        ((λ e. ap (λ (z : ℕ). heard C z l) (sym e) ∙ heard-relay k l h c), (λ e. leads (ap (λ (z : ℕ). link_of C z j) (sym e) ∙ link-heard j l b c))),
      )

  -- the first link leads to the user's own relay, each other to the relay before that of the link before it
  pub first-link : (k : ℕ) → k < C.size → relay_of C k 0 ≡ k
  unfolding relay_of
  first-link k h = to-mod (record { up = 0; dn = 1; eq = omega arith }) ∙ mod-eq_of_lt h

  pub next-link : (k l : ℕ) → k < C.size → suc l < C.size
      → ((relay_of C k l ≡ 0) → relay_of C k (suc l) ≡ C.size - 1) × ((j : ℕ) → relay_of C k l ≡ suc j → relay_of C k (suc l) ≡ j)
  unfolding relay_of
  next-link k l h b =
      let r : ℕ = (k + (C.size - l)) % C.size in
      let c : Cong C.size r (k + (C.size - l)) = of-rem C.size (k + (C.size - l)) in (
        (λ z.
            let d : Cong C.size (k + (C.size - suc l)) (C.size - 1)
            = record { up = c.dn + 1; dn = c.up; eq = omega (arith, c.eq) } in
            to-mod d ∙ mod-eq_of_lt (omega arith)),
        (λ j z.
            let d : Cong C.size (k + (C.size - suc l)) j = record { up = c.dn; dn = c.up; eq = omega (arith, c.eq) } in
            let few : r < C.size = mod-lt (k + (C.size - l)) (omega arith) in
            to-mod d ∙ mod-eq_of_lt (omega arith)),
      )

  pub heard-user : (j l : ℕ) → 0 < C.size → heard C j l < C.size
  unfolding heard
  heard-user j l h = mod-lt (j + l) h

  -- ---- the forms

  -- an upload, and the sum of a relay's uploads
  abbrev pub link_form : ℕ → ℕ → Form
  link_form k l =
      record {
        on_readings = tab (symbols C) (λ c. cond (eqb (c / C.parts) k) (weight C k l (c % C.parts)) 0);
        on_source = tab C.rate (λ r. weight C k l C.parts * at C.table (k * C.rate + r) % C.q);
      }

  abbrev pub sum_form : ℕ → Form
  sum_form j =
      record {
        on_readings = tab (symbols C) (λ c. on_reading C j (c / C.parts) (c % C.parts));
        on_source = tab C.rate (on_source C j);
      }

  -- a total symbol
  abbrev pub total_on : ℕ → List ℕ
  total_on s = tab (symbols C) (λ c. cond (eqb (c % C.parts) s) 1 0)

  abbrev pub relay_forms : ℕ → List Form
  relay_forms j = tab C.links (λ l. link_form (heard C j l) l)

  abbrev pub server_forms : List Form
  server_forms = tab C.size sum_form

  abbrev pub total_rows : List (List ℕ)
  total_rows = tab C.parts total_on

  -- ---- what they show

  module _ (W N : List ℕ) where
    w : List ℕ
    w = readings_at (symbols C) 1 W 0

    x : List ℕ
    x = source_at C.rate N 0

    -- a row that is given by user and symbol
    dot-readings : (f : ℕ → ℕ → ℕ) → dot_n (tab (symbols C) (λ c. f (c / C.parts) (c % C.parts))) w
        ≡ sum_to C.size (λ k. sum_to C.parts (λ s. f k s * reading C W k s))
    unfolding reading w
    dot-readings f =
        dot-grid C.size C.parts f (λ i. at W (i * 1 + 0))
        ∙ sum-cong C.size (λ k. sum_to C.parts (λ s. f k s * at W ((k * C.parts + s) * 1 + 0)))
        (λ k. sum_to C.parts (λ s. f k s * at W (k * C.parts + s)))
        (λ k l. sum-cong C.parts (λ s. f k s * at W ((k * C.parts + s) * 1 + 0)) (λ s. f k s * at W (k * C.parts + s))
        (λ s b. let e : (k * C.parts + s) * 1 + 0 ≡ k * C.parts + s = omega arith in ap (λ (z : ℕ). f k s * at W z) e))

    -- the key, of which a user's row is the form
    key_sum : ℕ → ℕ
    key_sum k = sum_to C.rate (λ r. at C.table (k * C.rate + r) * at N r)

    key-cong : (k : ℕ) → Cong C.q (key_sum k) (key C N k)
    unfolding key key_sum
    key-cong k = c_sym (of-rem C.q (key_sum k))

    dot-source : (f : ℕ → ℕ) → dot_n (tab C.rate f) x ≡ sum_to C.rate (λ r. f r * at N r)
    unfolding x
    dot-source f =
        dot-tab C.rate f (λ k. at N (0 * C.rate + k))
        ∙ sum-cong C.rate (λ r. f r * at N (0 * C.rate + r)) (λ r. f r * at N r)
        (λ r l. let e : 0 * C.rate + r ≡ r = omega arith in ap (λ (z : ℕ). f r * at N z) e)

    -- the reading part of an upload
    read_sum : ℕ → ℕ → ℕ
    read_sum k l = sum_to C.parts (λ s. weight C k l s * reading C W k s)

    link-readings : (k l : ℕ) → k < C.size → dot_n (link_form k l).on_readings w ≡ read_sum k l
    unfolding read_sum
    link-readings k l h =
        dot-readings (λ i s. cond (eqb i k) (weight C k l s) 0)
        ∙ sum-only C.size (λ i. sum_to C.parts (λ s. cond (eqb i k) (weight C k l s) 0 * reading C W i s)) k h
        (λ i b ne. sum-zero C.parts (λ s. cond (eqb i k) (weight C k l s) 0 * reading C W i s)
        (λ s c. ap (λ (b : Bool). cond b (weight C k l s) 0 * reading C W i s) (ne_eqb i k ne) ∙ zero-mul (reading C W i s)))
        ∙ sum-cong C.parts (λ s. cond (eqb k k) (weight C k l s) 0 * reading C W k s) (λ s. weight C k l s * reading C W k s)
        (λ s c. ap (λ (b : Bool). cond b (weight C k l s) 0 * reading C W k s) (eq-eqb k k refl))

    -- a coefficient times a key
    times-key : (c k : ℕ) → Cong C.q (sum_to C.rate (λ r. c * at C.table (k * C.rate + r) * at N r)) (c * key C N k)
    unfolding key_sum
    times-key c k =
        c-trans
        (of_eq
        (sum-cong C.rate (λ r. c * at C.table (k * C.rate + r) * at N r) (λ r. c * (at C.table (k * C.rate + r) * at N r)) (λ r l. omega arith)
        ∙ sum-mul C.rate c (λ r. at C.table (k * C.rate + r) * at N r)))
        (c-mul-left c (key-cong k))

    link-source : (k l : ℕ) → Cong C.q (dot_n (link_form k l).on_source x) (weight C k l C.parts * key C N k)
    link-source k l =
        let c : ℕ = weight C k l C.parts in
        let t : ℕ → ℕ = λ r. at C.table (k * C.rate + r) in
        c-trans (of_eq (dot-source (λ r. c * t r % C.q)))
        (c-trans
        (sum-c C.rate (λ r. c * t r % C.q * at N r) (λ r. c * t r * at N r) (λ r b. c-mul-right (at N r) (of-rem C.q (c * t r))))
        (times-key c k))

    pub link-value : (k l : ℕ) → k < C.size → value C.q (symbols C) C.rate (link_form k l) 1 W N 0 ≡ upload C W N k l
    unfolding value upload w x read_sum
    link-value k l h =
        to-mod (c-add (of_eq (link-readings k l h)) (link-source k l))

    -- the reading part of a relay's sum: around the circle from the relay
    part : ℕ → ℕ → ℕ
    part j k = sum_to C.parts (λ s. on_reading C j k s * reading C W k s)

    linked-part : (j l : ℕ) → j < C.size → l < C.size → (b : Bool) → ltb l C.links ≡ b
        → part j (heard C j l) ≡ cond b (read_sum (heard C j l) l) 0
    unfolding part on_reading linked read_sum
    linked-part j l h c true e =
        sum-cong C.parts
        (λ s. cond (ltb (link_of C (heard C j l) j) C.links) (weight C (heard C j l) (link_of C (heard C j l) j) s) 0 * reading C W (heard C j l) s)
        (λ s. weight C (heard C j l) l s * reading C W (heard C j l) s)
        (λ s i. rw (link-heard j l h c, e))
    linked-part j l h c false e =
        sum-zero C.parts
        (λ s. cond (ltb (link_of C (heard C j l) j) C.links) (weight C (heard C j l) (link_of C (heard C j l) j) s) 0 * reading C W (heard C j l) s)
        (λ s i. rw (link-heard j l h c, e) (zero-mul (reading C W (heard C j l) s)))

    sum-readings : (j : ℕ) → j < C.size → C.links ≤ C.size → dot_n (sum_form j).on_readings w ≡ sum_to C.links (λ l. read_sum (heard C j l) l)
    unfolding part heard
    sum-readings j h few =
        dot-readings (on_reading C j)
        ∙ sym (sum-shift C.size j (part j) h)
        ∙ sum-cong C.size (λ l. part j ((l + j) % C.size)) (λ l. part j (heard C j l))
        (λ l b. ap (λ (z : ℕ). part j (z % C.size)) (add_comm l j))
        ∙ sum_first C.size C.links (λ l. part j (heard C j l)) few
        (λ l a b. linked-part j l h b false (le-ltb l C.links a))
        ∙ sum-cong C.links (λ l. part j (heard C j l)) (λ l. read_sum (heard C j l) l)
        (λ l b. linked-part j l h (omega arith) true (lt-ltb l C.links b))

    sum-source : (j : ℕ) → Cong C.q (dot_n (sum_form j).on_source x)
        (sum_to C.links (λ l. weight C (heard C j l) l C.parts * key C N (heard C j l)))
    unfolding on_source
    sum-source j =
        let c : ℕ → ℕ = λ l. weight C (heard C j l) l C.parts in
        let t : ℕ → ℕ → ℕ = λ l r. at C.table (heard C j l * C.rate + r) in
        c-trans (of_eq (dot-source (on_source C j)))
        (c-trans
        (sum-c C.rate (λ r. on_source C j r * at N r) (λ r. sum_to C.links (λ l. c l * t l r * at N r))
        (λ r b.
        c-trans (c-mul-right (at N r) (of-rem C.q (sum_to C.links (λ l. c l * t l r))))
        (of_eq
        (let e : sum_to C.links (λ l. c l * t l r) * at N r ≡ at N r * sum_to C.links (λ l. c l * t l r) = omega arith in
        e
        ∙ sym (sum-mul C.links (at N r) (λ l. c l * t l r))
        ∙ sum-cong C.links (λ l. at N r * (c l * t l r)) (λ l. c l * t l r * at N r) (λ l i. omega arith)))))
        (c-trans (of_eq (sum-swap C.rate C.links (λ r l. c l * t l r * at N r)))
        (sum-c C.links (λ l. sum_to C.rate (λ r. c l * t l r * at N r)) (λ l. c l * key C N (heard C j l)) (λ l b. times-key (c l) (heard C j l)))))

    sum-cong-value : (j : ℕ) → j < C.size → C.links ≤ C.size
        → Cong C.q (dot_n (sum_form j).on_readings w + dot_n (sum_form j).on_source x) (relay_sum C W N j)
    unfolding relay_sum upload read_sum
    sum-cong-value j h few =
        let f : ℕ → ℕ = λ l. sum_to C.parts (λ s. weight C (heard C j l) l s * reading C W (heard C j l) s) in
        let g : ℕ → ℕ = λ l. weight C (heard C j l) l C.parts * key C N (heard C j l) in
        let u : ℕ → ℕ = λ l. upload C W N (heard C j l) l in
        c-trans (c-add (of_eq (sum-readings j h few)) (sum-source j))
        (c-trans (of_eq (sym (sum-add C.links f g)))
        (c-trans (sum-c C.links (λ l. f l + g l) u (λ l b. c_sym (of-rem C.q (f l + g l))))
        (c_sym (of-rem C.q (sum_to C.links u)))))

    pub sum-value : (j : ℕ) → j < C.size → C.links ≤ C.size → value C.q (symbols C) C.rate (sum_form j) 1 W N 0 ≡ relay_sum C W N j
    unfolding value relay_sum w x
    sum-value j h few =
        to-mod (sum-cong-value j h few) ∙ to-mod (of-rem C.q (sum_to C.links (λ l. upload C W N (heard C j l) l)))

    -- a total symbol
    pub dot-total : (s : ℕ) → s < C.parts → dot C.q (total_on s) (readings_at (symbols C) 1 W 0) ≡ total C W s
    unfolding total w
    dot-total s h =
        ap (λ (z : ℕ). z % C.q)
        (dot-readings (λ k i. cond (eqb i s) 1 0)
        ∙ sum-cong C.size (λ k. sum_to C.parts (λ i. cond (eqb i s) 1 0 * reading C W k i)) (λ k. reading C W k s)
        (λ k l.
        sum-only C.parts (λ i. cond (eqb i s) 1 0 * reading C W k i) s h
        (λ i b ne. ap (λ (b : Bool). cond b 1 0 * reading C W k i) (ne_eqb i s ne) ∙ zero-mul (reading C W k i))
        ∙ ap (λ (b : Bool). cond b 1 0 * reading C W k s) (eq-eqb s s refl)
        ∙ omega arith))

  -- ---- the observers

  abbrev One : ℕ → List ℕ → Type 0
  One = Positions C.q (symbols C) 1

  pub relay-forms : (j : ℕ) → 0 < C.size → ByForms C.q (symbols C) C.rate One [] (relay_forms j) (λ _ W W'. Unit {0}) (λ _. relay_view C j)
  unfolding relay_view
  relay-forms j pos =
      record {
        symbols = λ L W v. v.symbols;
        views = λ L W N v.
            subst (λ (z : ℕ). relay_view C j W N ≡ view_of C.q (symbols C) C.rate (relay_forms j) z W N) (sym v.many-are)
            (sym (view-tab C.q (symbols C) C.rate W N C.links (λ l. link_form (heard C j l) l) (λ l. upload C W N (heard C j l) l)
            (λ l b. link-value W N (heard C j l) l (heard-user j l pos))));
        rows = λ L W W' v v' a p l. tt;
        agreed = λ L W W' v v' a. tt;
      }

  -- equal products with the total rows in the one position
  SameProducts : List ℕ → List ℕ → ℕ → List ℕ → Type 0
  SameProducts W W' p e = dot C.q e (readings_at (symbols C) 1 W p) ≡ dot C.q e (readings_at (symbols C) 1 W' p)

  totals-agree : (W W' : List ℕ) → SameTotals C W W' → AgreeOn C.q (symbols C) total_rows 1 W W'
  unfolding SameProducts
  totals-agree W W' a p l =
      let z : p ≡ 0 = omega arith in
      subst (λ (p : ℕ). All (SameProducts W W' p) total_rows) (sym z)
      (all-tab (SameProducts W W' 0) C.parts total_on (λ s b. dot-total W [] s b ∙ a.totals s b ∙ sym (dot-total W' [] s b)))

  agree-totals : (W W' : List ℕ) → AgreeOn C.q (symbols C) total_rows 1 W W' → SameTotals C W W'
  unfolding SameProducts
  agree-totals W W' a =
      record {
        totals = λ s b.
            sym (dot-total W [] s b) ∙ tab-all (SameProducts W W' 0) C.parts total_on (a 0 (omega arith)) s b ∙ dot-total W' [] s b;
      }

  pub server-forms : C.links ≤ C.size → ByForms C.q (symbols C) C.rate One total_rows server_forms (λ _. SameTotals C) (λ _. server_view C)
  unfolding server_view
  server-forms few =
      record {
        symbols = λ L W v. v.symbols;
        views = λ L W N v.
            subst (λ (z : ℕ). server_view C W N ≡ view_of C.q (symbols C) C.rate server_forms z W N) (sym v.many-are)
            (sym (view-tab C.q (symbols C) C.rate W N C.size sum_form (relay_sum C W N) (λ j b. sum-value W N j b few)));
        rows = λ L W W' v v' a.
            subst (λ (z : ℕ). AgreeOn C.q (symbols C) total_rows z W W') (sym v.many-are) (totals-agree W W' a);
        agreed = λ L W W' v v' a.
            agree-totals W W' (subst (λ (z : ℕ). AgreeOn C.q (symbols C) total_rows z W W') v.many-are a);
      }

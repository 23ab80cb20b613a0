-- The numbers of the rows, case by case; and a grid of them as the list of its rows.
use Prim.Native.Nat.{ℕ, zero, suc, ◌+◌, ◌-◌, ◌*◌, ◌/◌, ◌%◌, ◌≤◌, ◌<◌}
use mathlib.Core.Path.{◌≡◌, refl, ap}
use mathlib.Core.Bool.{Bool, cond}
use native.Mathlib.Omega.{arith}
use lib.Dec.{eqb}
use borrow.Author.Tests.{lt-ltb, le-ltb, eq-eqb, ne_eqb}
use Rattle.lists.specs.Lists.{at}
use Rattle.cyclic.specs.Network.{Network, symbols, heard, link_of, linked, weight}
use Rattle.cyclic.specs.Decoding.{on_reading, on_source}
use Rattle.networks.specs.Grids.{upload_entry, relay_entry, total_entry, entry_of}

module _ (C : Network) where
  pub upload-in : (k l c : ℕ) → c < symbols C → c / C.parts ≡ k → weight C k l (c % C.parts) ≡ upload_entry C k l c
  unfolding upload_entry
  upload-in k l c h e = rw (lt-ltb c (symbols C) h, eq-eqb (c / C.parts) k e)

  pub upload-other : (k l c : ℕ) → c < symbols C → (c / C.parts ≡ k → ⊥) → 0 ≡ upload_entry C k l c
  unfolding upload_entry
  upload-other k l c h e = rw (lt-ltb c (symbols C) h, ne_eqb (c / C.parts) k e)

  pub upload-out : (k l c : ℕ) → symbols C ≤ c → weight C k l C.parts * at C.table (k * C.rate + (c - symbols C)) % C.q ≡ upload_entry C k l c
  unfolding upload_entry
  upload-out k l c h = rw (le-ltb c (symbols C) h)

  pub relay-in : (j c : ℕ) → c < symbols C → on_reading C j (c / C.parts) (c % C.parts) ≡ relay_entry C j c
  unfolding relay_entry
  relay-in j c h = rw (lt-ltb c (symbols C) h)

  pub relay-out : (j c : ℕ) → symbols C ≤ c → on_source C j (c - symbols C) ≡ relay_entry C j c
  unfolding relay_entry
  relay-out j c h = rw (le-ltb c (symbols C) h)

  pub total-in : (s c : ℕ) (b : Bool) → c < symbols C → eqb (c % C.parts) s ≡ b → cond b 1 0 ≡ total_entry C s c
  unfolding total_entry
  total-in s c b h e = rw (lt-ltb c (symbols C) h, e)

  pub total-out : (s c : ℕ) → symbols C ≤ c → 0 ≡ total_entry C s c
  unfolding total_entry
  total-out s c h = rw (le-ltb c (symbols C) h)

  -- a relay's coefficient
  pub reading-linked : (j k s : ℕ) → link_of C k j < C.links → weight C k (link_of C k j) s ≡ on_reading C j k s
  unfolding on_reading linked
  reading-linked j k s h = rw (lt-ltb (link_of C k j) C.links h)

  pub reading-unlinked : (j k s : ℕ) → C.links ≤ link_of C k j → 0 ≡ on_reading C j k s
  unfolding on_reading linked
  reading-unlinked j k s h = rw (le-ltb (link_of C k j) C.links h)

  -- row by row
  pub entry-total : (w i c : ℕ) → w ≡ 0 → i < C.parts → total_entry C i c ≡ entry_of C w i c
  entry-total zero i c e h = rw (lt-ltb i C.parts h)
  entry-total (suc w) i c e h = absurd (omega arith)

  pub entry-relay : (w i c : ℕ) → w ≡ 0 → C.parts ≤ i → relay_entry C (i - C.parts) c ≡ entry_of C w i c
  entry-relay zero i c e h = rw (le-ltb i C.parts h)
  entry-relay (suc w) i c e h = absurd (omega arith)

  pub entry-upload : (w i c : ℕ) → (w ≡ 0 → ⊥) → upload_entry C (heard C (w - 1) i) i c ≡ entry_of C w i c
  entry-upload zero i c e = absurd (e refl)
  entry-upload (suc w) i c e = let z : suc w - 1 ≡ w = omega arith in ap (λ (j : ℕ). upload_entry C (heard C j i) i c) z

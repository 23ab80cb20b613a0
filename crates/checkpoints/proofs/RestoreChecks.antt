-- Which save is found, and what decides once it is.
use Prim.Native.Nat.{ℕ, ◌+◌, ◌≤◌}
use mathlib.Core.Path.{◌≡◌, refl, sym, ap, ◌∙◌, subst}
use mathlib.Core.Bool.{Bool, true, false, cond, not}
use mathlib.Core.List.{List, [], ◌∷◌, ◌++◌}
use native.Mathlib.Omega.{arith}
use lib.Dec.{eqb}
use lib.ListN.{length}
use borrow.Author.Tests.{not-false, eqb-true, eq-eqb}
use Rattle.refusals.specs.declared.Code.{Code}
use Rattle.refusals.specs.declared.Refusal.{Refusal}
use Rattle.refusals.specs.Codes.{code, accepted, code_of, first_of}
use Rattle.refusals.proofs.CodeLaws.{none-holds}
use Rattle.refusals.proofs.Orders.{first-refuses, rest-decides}
use Rattle.residues.specs.Primes.{is_prime}
use Rattle.lists.specs.Lists.{at}
use Rattle.plans.specs.Plans.{counts_fit, length_fits}
use Rattle.rounds.specs.declared.RelayRound.{RelayRound}
use Rattle.rounds.specs.Relays.{relay_known, relay_contents, relay_checks}
use Rattle.checkpoints.specs.Checkpoints.{save_size, distance_at, end_back, bad_way, start_at, length_at, round_at, last_byte, round_read, restore_checks, restore_code}
use Rattle.checkpoints.proofs.Ways.{TrailerAt, way-good}

-- the place that the search gives, where it gives one
pub record Found (B : List ℕ) (steps r : ℕ) : Type 0 where
  pub way : bad_way B steps (length B) ≡ false
  pub place : r ≡ last_byte B steps
  pub trailer : TrailerAt B r
  pub within : r ≤ length B

pub found : (B : List ℕ) (steps r : ℕ) → bad_way B steps (length B) ≡ false → r ≡ last_byte B steps → Found B steps r
found B steps r w e =
    let (t, h) = way-good B steps (length B) w in
    record { way = w; place = e; trailer = subst (TrailerAt B) (sym e) t; within = omega arith }

-- r is 0 where the way to the save is bad, else the place where it ends
module _ (B : List ℕ) (steps r : ℕ) (e : r ≡ cond (bad_way B steps (length B)) 0 (end_back B steps (length B))) where
  pub place_found : (r ≡ 0 → ⊥) → Found B steps r
  place_found n = go (bad_way B steps (length B)) refl
    where
      go : (t : Bool) → bad_way B steps (length B) ≡ t → Found B steps r
      go true w = absurd (n (e ∙ ap (λ (u : Bool). cond u 0 (end_back B steps (length B))) w))
      go false w = found B steps r w (e ∙ ap (λ (u : Bool). cond u 0 (end_back B steps (length B))) w)

  pub place-lost : r ≡ 0 → bad_way B steps (length B) ≡ true
  place-lost z = go (bad_way B steps (length B)) refl
    where
      go : (t : Bool) → bad_way B steps (length B) ≡ t → bad_way B steps (length B) ≡ true
      go true w = w
      go false w =
          let f = found B steps r w (e ∙ ap (λ (u : Bool). cond u 0 (end_back B steps (length B))) w) in
          absurd (omega (arith, f.trailer.four))

-- past 5, 1, 9 and 4 the state's own checks decide, whatever their order has before
module _ (B : List ℕ) (steps : ℕ) where
  abbrev pub read : RelayRound
  read = round_read B steps

  pub state-decides : bad_way B steps (length B) ≡ false → counts_fit read.round.clusters read.round.size 0 ≡ true → length_fits read.round.length ≡ true
      → distance_at B (last_byte B steps) ≡ save_size read.round.length → first_of (relay_checks read) ≡ restore_code B steps
  state-decides w f l d = rw (w, f, l, eq-eqb (distance_at B (last_byte B steps)) (save_size read.round.length) d)

  -- the counts of the save that ends at e, and its length, which must be that of its distance
  abbrev pub size_checks : ℕ → List (Bool × Code)
  size_checks e =
      (not (counts_fit (at B (start_at B e)) (at B (start_at B e + 1)) 0), code 1)
      ∷ (not (length_fits (length_at B e)), code 9)
      ∷ (not (eqb (distance_at B e) (save_size (length_at B e))), code 4)
      ∷ []

  abbrev pub way_checks : List (Bool × Code)
  way_checks = (bad_way B steps (length B), code 5) ∷ []

  -- what is refused once the search has found place e
  module _ (found : accepted ≡ first_of way_checks) (e : ℕ) (is : e ≡ last_byte B steps) where
    pub size-refuses : (r : Refusal) → code_of r ≡ first_of (size_checks e) → code_of r ≡ restore_code B steps
    size-refuses r c =
        let rest : List (Bool × Code) = (not (is_prime read.round.q), code 2) ∷ (not (relay_known read), code 8) ∷ relay_contents read in
        let here : code_of r ≡ first_of (size_checks (last_byte B steps)) = c ∙ ap (λ (p : ℕ). first_of (size_checks p)) is in
        first-refuses (size_checks (last_byte B steps)) rest r here
        ∙ rest-decides way_checks (size_checks (last_byte B steps) ++ rest) tt found

    pub state-refuses : accepted ≡ first_of (size_checks e) → (R : RelayRound) → R ≡ round_at B e → (r : Refusal) → code_of r ≡ first_of (relay_checks R)
        → code_of r ≡ restore_code B steps
    state-refuses sized R same r c =
        let p : ℕ = last_byte B steps in
        let h = none-holds (size_checks p) tt (sized ∙ ap (λ (p : ℕ). first_of (size_checks p)) is) in
        let f = not-false (counts_fit read.round.clusters read.round.size 0) h.0 in
        let l = not-false (length_fits read.round.length) h.1.0 in
        let d = eqb-true (distance_at B p) (save_size read.round.length) (not-false (eqb (distance_at B p) (save_size read.round.length)) h.1.1.0) in
        c ∙ ap (λ (S : RelayRound). first_of (relay_checks S)) (same ∙ ap (round_at B) is) ∙ state-decides (none-holds way_checks tt found).0 f l d

  -- what is known of a save that is restored
  pub record Readable : Type 0 where
    pub way : bad_way B steps (length B) ≡ false
    pub fit : counts_fit read.round.clusters read.round.size 0 ≡ true
    pub long : length_fits read.round.length ≡ true
    pub size : distance_at B (last_byte B steps) ≡ save_size read.round.length
    pub state : accepted ≡ first_of (relay_checks read)

  pub readable : accepted ≡ restore_code B steps → Readable
  readable e =
      let w = none-holds (restore_checks B steps) tt e in
      let f = not-false (counts_fit read.round.clusters read.round.size 0) w.1.0 in
      let l = not-false (length_fits read.round.length) w.1.1.0 in
      let same : Bool = eqb (distance_at B (last_byte B steps)) (save_size read.round.length) in
      let d = eqb-true (distance_at B (last_byte B steps)) (save_size read.round.length) (not-false same w.1.1.1.0) in
      record { way = w.0; fit = f; long = l; size = d; state = e ∙ sym (state-decides w.0 f l d) }

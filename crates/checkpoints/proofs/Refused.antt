-- When a save is refused with 5, and when with 4.
use Prim.Native.Nat.{ℕ, zero, suc, ◌-◌, ◌≤◌, ◌<◌}
use mathlib.Core.Path.{◌≡◌, refl, ap}
use mathlib.Core.Logic.{◌≢◌, ◌⊎◌, inl, inr}
use mathlib.Core.Bool.{Bool, true, false, cond, not, ◌&&◌, ◌||◌}
use mathlib.Core.List.{List, [], ◌∷◌}
use native.Mathlib.Omega.{arith}
use lib.Dec.{T, ltb, eqb}
use lib.ListN.{length}
use borrow.Author.Tests.{lt-ltb, ne_eqb}
use Rattle.lists.specs.Lists.{at}
use Rattle.lists.proofs.Searches.{T→true, true→T, T-or, or_left, or_right}
use Rattle.refusals.specs.declared.Code.{Code}
use Rattle.refusals.specs.Codes.{code, first_of}
use Rattle.refusals.proofs.Orders.{lacks, never-given}
use Rattle.plans.specs.Plans.{counts_fit, length_fits}
use Rattle.checkpoints.specs.Checkpoints.{save_size, distance_at, bad_trailer_at, end_back, bad_way, last_byte, round_read, restore_checks, restore_code}

-- ---- which trailers are bad

module _ (B : List ℕ) (e : ℕ) where
  pub no_room : e < 4 → bad_trailer_at B e ≡ true
  no_room h = rw (lt-ltb e 4 h)

  -- one of the tests holds, whatever the others say
  abbrev room : Bool
  room = ltb e 4

  abbrev marks : Bool
  marks = not (eqb (at B (e - 2)) 0x4b && eqb (at B (e - 1)) 0x52)

  abbrev near : Bool
  near = ltb (distance_at B e) 20

  abbrev beyond : Bool
  beyond = ltb e (distance_at B e)

  by-marks : marks ≡ true → bad_trailer_at B e ≡ true
  by-marks h = T→true _ (or_left (room || marks || near) beyond (or_left (room || marks) near (or_right room marks (true→T marks h))))

  pub first-wrong : at B (e - 2) ≢ 0x4b → bad_trailer_at B e ≡ true
  first-wrong n = by-marks (ap (λ (t : Bool). not (t && eqb (at B (e - 1)) 0x52)) (ne_eqb (at B (e - 2)) 0x4b n))

  pub last-wrong : at B (e - 1) ≢ 0x52 → bad_trailer_at B e ≡ true
  last-wrong n = by-marks (both (eqb (at B (e - 2)) 0x4b) (ne_eqb (at B (e - 1)) 0x52 n))
    where
      both : (a : Bool) → eqb (at B (e - 1)) 0x52 ≡ false → not (a && eqb (at B (e - 1)) 0x52) ≡ true
      both true h = ap not h
      both false h = refl

  pub too-near : distance_at B e < 20 → bad_trailer_at B e ≡ true
  too-near h = T→true _ (or_left (room || marks || near) beyond (or_right (room || marks) near (true→T near (lt-ltb (distance_at B e) 20 h))))

  pub too_far : e < distance_at B e → bad_trailer_at B e ≡ true
  too_far h = T→true _ (or_right (room || marks || near) beyond (true→T beyond (lt-ltb e (distance_at B e) h)))

-- ---- 5: at any save on the way

pub bad-somewhere : (B : List ℕ) (steps n e : ℕ) → n ≤ steps → bad_trailer_at B (end_back B n e) ≡ true → bad_way B steps e ≡ true
unfolding bad_way end_back
bad-somewhere B zero zero e h t = t
bad-somewhere B zero (suc n) e h t = absurd (omega arith)
bad-somewhere B (suc steps) zero e h t = ap (λ (u : Bool). u || bad_way B steps (e - distance_at B e)) t
bad-somewhere B (suc steps) (suc n) e h t =
    let rest = bad-somewhere B steps n (e - distance_at B e) (omega arith) t in
    T→true _ (or_right (bad_trailer_at B e) (bad_way B steps (e - distance_at B e)) (true→T _ rest))

pub somewhere-bad : (B : List ℕ) (steps e : ℕ) → bad_way B steps e ≡ true → (n : ℕ) × (n ≤ steps) × (bad_trailer_at B (end_back B n e) ≡ true)
unfolding bad_way end_back
somewhere-bad B zero e t = (0, omega arith, t)
somewhere-bad B (suc steps) e t =
    go (T-or (bad_trailer_at B e) (bad_way B steps (e - distance_at B e)) (true→T _ t)) (somewhere-bad B steps (e - distance_at B e))
  where
    go : T (bad_trailer_at B e) ⊎ T (bad_way B steps (e - distance_at B e))
        → (bad_way B steps (e - distance_at B e) ≡ true → (n : ℕ) × (n ≤ steps) × (bad_trailer_at B (end_back B n (e - distance_at B e)) ≡ true))
        → (n : ℕ) × (n ≤ suc steps) × (bad_trailer_at B (end_back B n e) ≡ true)
    go (inl h) later = (0, omega arith, T→true _ h)
    go (inr h) later = let (n, few, bad) = later (T→true _ h) in (suc n, omega arith, bad)

-- the checks after the first, none of which has the number 5
abbrev others : List (Bool × Code) → List (Bool × Code)
others [] = []
others (check ∷ checks) = checks

first-five : (t : Bool) (rest : List (Bool × Code)) → T (lacks 5 rest) → cond t (code 5) (first_of rest) ≡ code 5 → t ≡ true
first-five true rest n e = refl
first-five false rest n e = absurd (never-given 5 rest n (ap (λ (c : Code). c.number) e))

module _ (B : List ℕ) (steps : ℕ) where
  pub way-five : bad_way B steps (length B) ≡ true → restore_code B steps ≡ code 5
  way-five w = rw w

  -- and for nothing else
  pub five-way : restore_code B steps ≡ code 5 → bad_way B steps (length B) ≡ true
  five-way e = first-five (bad_way B steps (length B)) (others (restore_checks B steps)) tt e

  -- ---- 4: the distance is not that of the save's L

  pub other-distance : bad_way B steps (length B) ≡ false → counts_fit (round_read B steps).round.clusters (round_read B steps).round.size 0 ≡ true
      → length_fits (round_read B steps).round.length ≡ true → distance_at B (last_byte B steps) ≢ save_size (round_read B steps).round.length
      → restore_code B steps ≡ code 4
  other-distance w f l n = rw (w, f, l, ne_eqb (distance_at B (last_byte B steps)) (save_size (round_read B steps).round.length) n)

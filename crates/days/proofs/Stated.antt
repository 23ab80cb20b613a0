-- For each view there is a test that passes it and no other: what is seen is lists of numbers, or is told from other things by such a list.
use Prim.Native.Nat.{ℕ, zero, suc}
use mathlib.Core.Path.{◌≡◌, refl, sym, ap, ap₂, ◌∙◌, subst}
use mathlib.Core.Bool.{Bool, true, false, ◌&&◌}
use mathlib.Core.List.{List, [], ◌∷◌}
use lib.Dec.{T}
use lib.ListN.{drop}
use Rattle.refusals.specs.declared.Code.{Code}
use Rattle.lists.specs.Lists.{at}
use Rattle.lists.proofs.Searches.{T_and, and_T}
use Rattle.matrices.specs.Rank.{same_list}
use Rattle.matrices.proofs.Spans.{same→eq, eq→same}
use Rattle.secrecy.specs.Model.{Pool}
use Rattle.rounds.specs.Ledger.{frame}
use Rattle.rounds.specs.Relays.{heard, moves, asks}
use Rattle.days.specs.Machines.{Machine, Transcript}
use Rattle.days.specs.Observers.{RelayCall, opens, event, ServerCall, begins, counts, gives, relay_machine, machine_of}
use Rattle.days.specs.Days.{DayView, JointDay, TestFor}

abbrev pub Tested : Type 0 → Type 0
Tested A = (s : A) → (test : A → Bool) × TestFor s test

numbers : Tested (List ℕ)
numbers s = ((λ v. same_list v s), λ v. (same→eq v s, eq→same v s))

-- what has a sign of its own
by_sign : {A B : Type 0} (write : A → B) (read : B → A) → ((a : A) → read (write a) ≡ a) → Tested B → Tested A
by_sign {A} {B} write read back tested s =
    let t = tested (write s) in
    ((λ v. t.0 (write v)), λ v. ((λ x. sym (back v) ∙ ap read ((t.1 (write v)).0 x) ∙ back s), λ e. (t.1 (write v)).1 (ap write e)))

pairs : {A B : Type 0} → Tested A → Tested B → Tested (A × B)
pairs {A} {B} first second s =
    let x = first s.0 in
    let y = second s.1 in (
      (λ v. x.0 v.0 && y.0 v.1),
      λ v. (
        (λ t.
            let (l, r) = T_and (x.0 v.0) (y.0 v.1) t in
            ap₂ (λ (a : A) (b : B). (a, b)) ((x.1 v.0).0 l) ((y.1 v.1).0 r)),
        (λ e.
            and_T (x.0 v.0) (y.0 v.1) ((x.1 v.0).1 (ap (λ (p : A × B). p.0) e)) ((y.1 v.1).1 (ap (λ (p : A × B). p.1) e))),
      ),
    )

module _ {A : Type 0} (each : Tested A) where
  same_as : List A → List A → Bool
  same_as [] [] = true
  same_as [] (y ∷ v) = false
  same_as (x ∷ s) [] = false
  same_as (x ∷ s) (y ∷ v) = (each x).0 y && same_as s v

  same-found : (s v : List A) → T (same_as s v) → v ≡ s
  unfolding same_as
  same-found [] [] t = refl
  same-found [] (y ∷ v) t = absurd t
  same-found (x ∷ s) [] t = absurd t
  same-found (x ∷ s) (y ∷ v) t =
      let (here, rest) = T_and ((each x).0 y) (same_as s v) t in
      ap₂ ◌∷◌ (((each x).1 y).0 here) (same-found s v rest)

  same-itself : (s : List A) → T (same_as s s)
  unfolding same_as
  same-itself [] = tt
  same-itself (x ∷ s) = and_T ((each x).0 x) (same_as s s) (((each x).1 x).1 refl) (same-itself s)

  lists : Tested (List A)
  lists s = (same_as s, λ v. (same-found s v, λ e. subst (λ (z : List A). T (same_as s z)) (sym e) (same-itself s)))

-- ---- codes and calls

codes : Tested Code
codes =
    by_sign (λ c. c.number ∷ c.first ∷ c.second ∷ []) (λ l. record { number = at l 0; first = at l 1; second = at l 2 }) (λ c. refl) numbers

relay-calls : Tested RelayCall
relay-calls = by_sign write (λ l. read (at l 0) (drop 1 l)) back numbers
  where
    write : RelayCall → List ℕ
    write (opens number L) = 0 ∷ number ∷ L ∷ []
    write (event (heard f)) = 1 ∷ f.sender ∷ f.number ∷ f.block
    write (event moves) = 2 ∷ []
    write (event (asks out)) = 3 ∷ out

    read : ℕ → List ℕ → RelayCall
    read zero l = opens (at l 0) (at l 1)
    read (suc zero) l = event (heard (frame (at l 0) (at l 1) (drop 2 l)))
    read (suc (suc zero)) l = event moves
    read (suc (suc (suc n))) l = event (asks l)

    back : (c : RelayCall) → read (at (write c) 0) (drop 1 (write c)) ≡ c
    back (opens number L) = refl
    back (event (heard f)) = refl
    back (event moves) = refl
    back (event (asks out)) = refl

server-calls : Tested ServerCall
server-calls = by_sign write (λ l. read (at l 0) (drop 1 l)) back numbers
  where
    write : ServerCall → List ℕ
    write (begins number L) = 0 ∷ number ∷ L ∷ []
    write (counts f) = 1 ∷ f.sender ∷ f.number ∷ f.block
    write (gives out) = 2 ∷ out

    read : ℕ → List ℕ → ServerCall
    read zero l = begins (at l 0) (at l 1)
    read (suc zero) l = counts (frame (at l 0) (at l 1) (drop 2 l))
    read (suc (suc n)) l = gives l

    back : (c : ServerCall) → read (at (write c) 0) (drop 1 (write c)) ≡ c
    back (begins number L) = refl
    back (counts f) = refl
    back (gives out) = refl

-- ---- views

transcripts : (M : Machine) → Tested M.Call → Tested (Transcript M)
transcripts M each =
    by_sign (λ t. (t.made, t.told)) (λ p. record { made = p.0; told = p.1 }) (λ t. refl) (pairs (lists each) (lists (pairs codes numbers)))

pub day-tested : (P : Pool) (w : ℕ) → Tested (DayView (machine_of P w))
day-tested P zero = pairs (lists numbers) (transcripts (machine_of P zero) server-calls)
day-tested P (suc u) = pairs (lists numbers) (transcripts (machine_of P (suc u)) relay-calls)

pub joint-tested : (P : Pool) (a b : ℕ) → Tested (JointDay P a b)
joint-tested P a b = pairs (lists numbers) (pairs (transcripts (relay_machine P a) relay-calls) (transcripts (relay_machine P b) relay-calls))

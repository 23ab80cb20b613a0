-- The test of every odd number from 1,627 below 65,536, in parts: antt frees what it kept of a computation only at the end of a declaration.
use mathlib.Core.Path.{◌≡◌, subst}
use Prim.Native.Nat.{ℕ, ◌+◌, ◌-◌, ◌*◌, ◌/◌, ◌%◌, ◌≤◌, ◌<◌}
use native.Mathlib.Decide.{dec_lt}
use native.Mathlib.Omega.{arith}
use lib.Dec.{T}
use Rattle.lists.specs.Search.{all_to}
use Rattle.lists.proofs.Searches.{all-at}
use Rattle.pseudoprimes.proofs.Tables.{any_in, low_primes, high_primes, listed_tree}
use Rattle.pseudoprimes.proofs.TableLaws.{has}
use Rattle.pseudoprimes.proofs.Orders.{firm_test}
use Rattle.pseudoprimes.proofs.Scan.{scan_one, scan_prime, shrink, square, run_all, run, step_of, excused}

-- do the n odd numbers from b on pass?
abbrev Scan : ℕ → ℕ → Type 0
Scan n b = T (all_to n (λ j. scan_one (b + j * 2)))

part1 : Scan 88 1627
unfolding all_to scan_one scan_prime shrink square run_all run step_of excused has any_in firm_test listed_tree low_primes high_primes
part1 = tt

part2 : Scan 144 1803
unfolding all_to scan_one scan_prime shrink square run_all run step_of excused has any_in firm_test listed_tree low_primes high_primes
part2 = tt

part3 : Scan 321 2091
unfolding all_to scan_one scan_prime shrink square run_all run step_of excused has any_in firm_test listed_tree low_primes high_primes
part3 = tt

part4 : Scan 634 2733
unfolding all_to scan_one scan_prime shrink square run_all run step_of excused has any_in firm_test listed_tree low_primes high_primes
part4 = tt

part5 : Scan 1500 4001
unfolding all_to scan_one scan_prime shrink square run_all run step_of excused has any_in firm_test listed_tree low_primes high_primes
part5 = tt

part6 : Scan 2500 7001
unfolding all_to scan_one scan_prime shrink square run_all run step_of excused has any_in firm_test listed_tree low_primes high_primes
part6 = tt

part7 : Scan 3500 12001
unfolding all_to scan_one scan_prime shrink square run_all run step_of excused has any_in firm_test listed_tree low_primes high_primes
part7 = tt

part8 : Scan 4000 19001
unfolding all_to scan_one scan_prime shrink square run_all run step_of excused has any_in firm_test listed_tree low_primes high_primes
part8 = tt

part9 : Scan 4000 27001
unfolding all_to scan_one scan_prime shrink square run_all run step_of excused has any_in firm_test listed_tree low_primes high_primes
part9 = tt

part10 : Scan 4000 35001
unfolding all_to scan_one scan_prime shrink square run_all run step_of excused has any_in firm_test listed_tree low_primes high_primes
part10 = tt

part11 : Scan 4000 43001
unfolding all_to scan_one scan_prime shrink square run_all run step_of excused has any_in firm_test listed_tree low_primes high_primes
part11 = tt

part12 : Scan 4000 51001
unfolding all_to scan_one scan_prime shrink square run_all run step_of excused has any_in firm_test listed_tree low_primes high_primes
part12 = tt

part13 : Scan 3268 59001
unfolding all_to scan_one scan_prime shrink square run_all run step_of excused has any_in firm_test listed_tree low_primes high_primes
part13 = tt

-- p stands among them, or past them
scanned-or : (p b n : ℕ) → Scan n b → b % 2 ≡ 1 → p % 2 ≡ 1 → b ≤ p → (b + n * 2 ≤ p → T (scan_one p)) → T (scan_one p)
scanned-or p b n t ob op h past = go (dec_lt p (b + n * 2))
  where
    go : Dec (p < b + n * 2) → T (scan_one p)
    go (no k) = past (omega arith)
    go (yes l) =
        let e : b + (p - b) / 2 * 2 ≡ p = omega arith in
        subst (λ (w : ℕ). T (scan_one w)) e (all-at n (λ j. scan_one (b + j * 2)) t ((p - b) / 2) (omega arith))

pub all-scanned : (p : ℕ) → 1627 ≤ p → p < 65536 → p % 2 ≡ 1 → T (scan_one p)
all-scanned p h l odd =
    scanned-or p 1627 88 part1 (omega arith) odd h
    (λ h.
    scanned-or p 1803 144 part2 (omega arith) odd h
    (λ h.
    scanned-or p 2091 321 part3 (omega arith) odd h
    (λ h.
    scanned-or p 2733 634 part4 (omega arith) odd h
    (λ h.
    scanned-or p 4001 1500 part5 (omega arith) odd h
    (λ h.
    scanned-or p 7001 2500 part6 (omega arith) odd h
    (λ h.
    scanned-or p 12001 3500 part7 (omega arith) odd h
    (λ h.
    scanned-or p 19001 4000 part8 (omega arith) odd h
    (λ h.
    scanned-or p 27001 4000 part9 (omega arith) odd h
    (λ h.
    scanned-or p 35001 4000 part10 (omega arith) odd h
    (λ h.
    scanned-or p 43001 4000 part11 (omega arith) odd h
    (λ h.
    scanned-or p 51001 4000 part12 (omega arith) odd h
    (λ h.
    scanned-or p 59001 3268 part13 (omega arith) odd h
    (λ h.
    absurd (omega arith))))))))))))))

-- The promise of the function `is_prime` is `Primes.is_prime`, of residues. Trying is no part of it: what a private function computes.
pub mod Trying

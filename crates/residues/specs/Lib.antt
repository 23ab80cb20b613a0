-- Numbers modulo q. Field has the operations, for every q and all numbers; Primes what a prime and a symbol is.
pub mod Field
pub mod Primes

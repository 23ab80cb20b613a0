-- Tables has the list, Complete what holds of it.
pub mod Tables
pub mod TableLaws
pub mod Divisors
pub mod Trial
pub mod Fermat
pub mod Orders
pub mod Scan
pub mod Computed
pub mod Complete

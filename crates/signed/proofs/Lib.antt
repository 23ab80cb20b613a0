pub mod NumberLaws
pub mod CapLaws
pub mod CheckLaws
pub mod Totals
pub mod Uploads
pub mod SignedLaws
pub mod Secrecy

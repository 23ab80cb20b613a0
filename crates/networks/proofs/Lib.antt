mod Fronts
pub mod RingLaws
mod GridLaws
mod GridRows
pub mod LeakLaws
pub mod CheckLaws
pub mod DecodeLaws
mod ValueLaws
pub mod RoundTrip
pub mod VetLaws

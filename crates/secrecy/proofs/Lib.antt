pub mod Units
pub mod CountLaws
pub mod Forms
pub mod Hiding
pub mod Readings
pub mod RankCondition
pub mod PoolForms
pub mod Observers
pub mod Relays
pub mod Server
pub mod PairLeaks
mod Independence
mod Products
mod Fills
pub mod Largest
mod Coalitions
pub mod Clusters
pub mod LeakTest
mod OverAll
pub mod Pieces
pub mod RunCounts
pub mod ViewParts
pub mod FormRank
pub mod FormLeaks

mod MemberLaws
mod MaskLaws
mod LevelLaws
mod GatherLaws
mod WalkLaws
mod BaseLaws
pub mod VetLaws
pub mod PairLists
mod PickedLaws
mod ReducedTables
mod WatchLaws
mod BaseRows
mod Deciding
pub mod ExactSecrecy
pub mod Looking
pub mod JointLaws
pub mod JointTheorems
pub mod PlanLaws
pub mod ByLargest
mod GrowLaws
mod GrowingSets
mod ByGrowing

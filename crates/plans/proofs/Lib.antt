pub mod PlanBounds
pub mod TableLaws

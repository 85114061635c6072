pub mod DrawSteps
pub mod OrderDraws
pub mod PointDraws

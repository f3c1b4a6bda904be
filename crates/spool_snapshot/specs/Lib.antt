pub mod Jobs
pub mod Shows

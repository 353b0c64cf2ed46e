pub mod Given
pub mod Judge

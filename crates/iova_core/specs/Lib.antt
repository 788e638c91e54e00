pub use Rattle.iova_model.specs.State
pub mod Domain
pub mod Reclaim
pub mod Tied
pub mod Walk

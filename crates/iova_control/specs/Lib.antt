pub mod Infos
pub mod Metrics
pub mod Reports
pub mod Rows
pub mod Texts

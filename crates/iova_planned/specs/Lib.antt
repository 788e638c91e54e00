pub mod PlannedDomains

pub use Rattle.tc_record.specs.path_laws
pub use Rattle.least_runs.specs.run_follows
pub mod Ends
pub mod Normal
pub mod Within

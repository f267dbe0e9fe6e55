pub use Rattle.writer.specs.Wrote
pub mod Gathered

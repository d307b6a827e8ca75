pub use Rattle.memory_models.specs as memory_models
pub use Rattle.schedule_replay.specs as schedule_replay
pub use Rattle.store_buffers.specs as store_buffers
pub mod Causes
pub mod Lines
pub mod Meanings
pub mod Answers

pub mod KeptAll
pub mod ReadAll
pub mod AllRuns
pub mod PieceByPiece
pub mod Statuses

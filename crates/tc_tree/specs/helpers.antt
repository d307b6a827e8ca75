-- Helpers, in no public contract: parts of trees, and how the checker sees boxed trees.
pub mod Size
pub mod Falls
pub mod CodedExpression
pub mod Parts

pub mod TaggedCells

pub mod Parts
pub mod TwoLine
pub mod VectorLine
pub mod ValueLine
pub mod ColumnLine

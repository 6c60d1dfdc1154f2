pub mod Change
pub mod Make
pub mod Parts
pub mod Plain
pub mod PlainTables
pub mod Table

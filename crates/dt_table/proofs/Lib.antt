pub mod AllParts
pub mod Changing
pub mod Counting
pub mod Applying
mod Examples
pub mod InPlace
pub mod Keeping
pub mod Moving
pub mod Names
pub mod OnePart
pub mod Plain
pub mod PlainKeys
pub mod PlainTables
pub mod Putting
pub mod Reordering
pub mod Tables
pub mod Truth
